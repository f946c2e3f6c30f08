-- What a completion leaves and names: counts of messages and of losses.
use Rattle.node_moves.proofs.Basics.{◌≡◌, ℕ, zero, suc, Bool, true, false, not, ◌&&◌, ◌+◌, ◌-◌, ◌≤◌, List, [], ◌∷◌, length, drop, take, count_by, min, refl, ap, sym, subst, ◌∙◌, arith, if◌then◌else◌}
use Rattle.node_moves.proofs.Machine.{one_if, user}
use Rattle.node_moves.proofs.Definitions.{Message, is_management, Parts, Queue}
use Rattle.node_moves.proofs.Grown.{Grown, IsUnraised, same-grown, both-grown, more-grown, raised-not}
use Rattle.node_moves.proofs.Reading.{says_of, says-managing}
use Rattle.node_moves.proofs.Shown.{users_that, any_message, most}
use Rattle.changeover.specs.Changeover.{users_of, managements_of}
use Rattle.exchange_rules.specs.State.{Found, once_more, broken_if}
use Rattle.exchange_rules.specs.ChangingOver.{lose_each, lose, judged, concluded}
use Rattle.network_moves.proofs.Counts.{count-cons}
use Rattle.network_moves.specs.Failing.{sent_unconfirmed}
use Rattle.signalling_types.specs.declared.cause.Cause.TheVariants.{LostUnconfirmed}

-- ---- users and management

either-way : (b : Bool) (test : Message → Bool) (m : Message) (us ms : List Message) → count_by test (if not b then m ∷ us else us) + count_by test (if b then m ∷ ms else ms) ≡ one_if (test m) + (count_by test us + count_by test ms)
either-way true test m us ms = omega (arith, count-cons test m ms)
either-way false test m us ms = omega (arith, count-cons test m us)

pub count-split : (test : Message → Bool) (ms : List Message) → count_by test (users_of ms) + count_by test (managements_of ms) ≡ count_by test ms
count-split test [] = refl
count-split test (m ∷ ms) = omega (arith, either-way (is_management m) test m (users_of ms) (managements_of ms), count-cons test m ms, count-split test ms)

-- of messages that are no users none is counted as one
managing-none : (m : Message) → is_management m ≡ true → one_if (user says_of any_message m) ≡ 0
managing-none m e = ap (λ (b : Bool). one_if (b && true)) (says-managing m e)

at-most : (b : Bool) → one_if b ≤ 1
at-most true = omega arith
at-most false = omega arith

longer-by : (b : Bool) (m : Message) (us : List Message) → is_management m ≡ b → one_if (user says_of any_message m) + length us ≤ length (if not b then m ∷ us else us)
longer-by true m us e = omega (arith, managing-none m e)
longer-by false m us e = omega (arith, at-most (user says_of any_message m))

pub users-within : (ms : List Message) → users_that any_message ms ≤ length (users_of ms)
users-within [] = omega arith
users-within (m ∷ ms) = omega (arith, count-cons (user says_of any_message) m ms, longer-by (is_management m) m (users_of ms) refl, users-within ms)

-- of every kind, those that are users are among them
managing-nothing : (test : Message → Bool) (m : Message) → is_management m ≡ true → one_if (user says_of test m) ≡ 0
managing-nothing test m e = ap (λ (b : Bool). one_if (b && test m)) (says-managing m e)

among-by : (test : Message → Bool) (b : Bool) (m : Message) (us : List Message) → is_management m ≡ b → one_if (user says_of test m) + users_that test us ≤ users_that test (if not b then m ∷ us else us)
among-by test true m us e = omega (arith, managing-nothing test m e)
among-by test false m us e = omega (arith, count-cons (user says_of test) m us)

pub users-among : (test : Message → Bool) (ms : List Message) → users_that test ms ≤ users_that test (users_of ms)
users-among test [] = omega arith
users-among test (m ∷ ms) = omega (arith, count-cons (user says_of test) m ms, among-by test (is_management m) m (users_of ms) refl, users-among test ms)

-- ---- what was sent and not confirmed

take-nothing : (n : ℕ) → take {A = Message} n [] ≡ []
take-nothing zero = refl
take-nothing (suc n) = refl

drop-nothing : (n : ℕ) → drop {A = Message} n [] ≡ []
drop-nothing zero = refl
drop-nothing (suc n) = refl

drop-take : (n k : ℕ) (ms : List Message) → drop n (take (n + k) ms) ≡ take k (drop n ms)
drop-take zero k ms = (let none : 0 + k ≡ k = omega arith in ap (λ (i : ℕ). take i ms) none)
drop-take (suc n) k [] = ap (drop (suc n)) (take-nothing (suc n + k)) ∙ sym (take-nothing k)
drop-take (suc n) k (m ∷ ms) = (let more : suc n + k ≡ suc (n + k) = omega arith in ap (λ (i : ℕ). drop (suc n) (take i (m ∷ ms))) more ∙ drop-take n k ms)

pub doubtful : (q : Queue) → q.confirmed ≤ q.sent → sent_unconfirmed q ≡ take (q.sent - q.confirmed) (drop q.confirmed q.all)
doubtful q l =
    let sum : q.sent ≡ q.confirmed + (q.sent - q.confirmed) = omega (arith, l) in
    ap (λ (n : ℕ). drop q.confirmed (take n q.all)) sum ∙ drop-take q.confirmed (q.sent - q.confirmed) q.all

-- ---- what is noted of losses

-- links, changeovers and routes stay
pub record Leaves (p q : Parts) : Type 0 where
  pub links : q.links ≡ p.links
  pub changeovers : q.changeovers ≡ p.changeovers
  pub routes : q.routes ≡ p.routes

-- and so does what was counted as broken
pub record Loses (p q : Parts) : Type 0 where
  pub links : q.links ≡ p.links
  pub changeovers : q.changeovers ≡ p.changeovers
  pub routes : q.routes ≡ p.routes
  pub broken : q.times_broken ≡ p.times_broken

pub each-loses : (ms : List Message) (p : Parts) → Loses p (lose_each ms p)
each-loses [] p = record { links = refl; changeovers = refl; routes = refl; broken = refl }
each-loses (m ∷ ms) p =
    let rest : Loses (lose LostUnconfirmed m p) (lose_each ms (lose LostUnconfirmed m p)) = each-loses ms (lose LostUnconfirmed m p) in
    record { links = rest.links; changeovers = rest.changeovers; routes = rest.routes; broken = rest.broken }

-- as many losses are counted as messages are named, up to the most that is counted
pub counts-each : (ms : List Message) (p : Parts) (x : ℕ) → min x most ≤ p.messages_lost → min (length ms + x) most ≤ (lose_each ms p).messages_lost
counts-each [] p x h = (let none : length {A = Message} [] + x ≡ x = omega arith in subst (λ (k : ℕ). min k most ≤ p.messages_lost) (sym none) h)
counts-each (m ∷ ms) p x h =
    let next : min (1 + x) most ≤ (lose LostUnconfirmed m p).messages_lost = omega (arith, h) in
    let rest : min (length ms + (1 + x)) most ≤ (lose_each ms (lose LostUnconfirmed m p)).messages_lost = counts-each ms (lose LostUnconfirmed m p) (1 + x) next in
    subst (λ (k : ℕ). min k most ≤ (lose_each ms (lose LostUnconfirmed m p)).messages_lost) (let same : length ms + (1 + x) ≡ length (m ∷ ms) + x = omega arith in same) rest

judged-by : (b : Bool) (p q : Parts) → Loses p q → Loses p (judged b q)
judged-by true p q e = e
judged-by false p q e = record { links = e.links; changeovers = e.changeovers; routes = e.routes; broken = e.broken }

judged-lost : (b : Bool) (p : Parts) → (judged b p).messages_lost ≡ p.messages_lost
judged-lost true p = refl
judged-lost false p = refl

-- what a completion leaves of the parts of a node
pub concluded-leaves : (link : ℕ) (found : Found) (p : Parts) → Leaves p (concluded link found p)
concluded-leaves link found p =
    let l : Loses p (judged found.is_reasonable (lose_each found.lost p)) = judged-by found.is_reasonable p (lose_each found.lost p) (each-loses found.lost p) in
    record { links = l.links; changeovers = l.changeovers; routes = l.routes }

pub concluded-lost : (link : ℕ) (found : Found) (p : Parts) → (concluded link found p).messages_lost ≡ (lose_each found.lost p).messages_lost
concluded-lost link found p = judged-lost found.is_reasonable (lose_each found.lost p)

-- a completion takes no break back
pub grown-if : (b : Bool) (p : Parts) → Grown p.times_broken (broken_if b p).times_broken
grown-if b p = by b p.times_broken
  where
    by : (b : Bool) (t : ℕ) → Grown t (if b then once_more t else t)
    by true t = more-grown t
    by false t = same-grown refl

-- one whose number is wrong is counted
pub concluded-wrong : (link : ℕ) (found : Found) (p : Parts) → found.is_wrong ≡ true → IsUnraised p.times_broken (concluded link found p).times_broken → ⊥
concluded-wrong link found p wrong h =
    let same : (judged found.is_reasonable (lose_each found.lost p)).times_broken ≡ p.times_broken = (judged-by found.is_reasonable p (lose_each found.lost p) (each-loses found.lost p)).broken in
    let is : (concluded link found p).times_broken ≡ once_more p.times_broken =
    ap (λ (b : Bool). if b then once_more (judged found.is_reasonable (lose_each found.lost p)).times_broken else (judged found.is_reasonable (lose_each found.lost p)).times_broken) wrong ∙ ap once_more same in
    raised-not p.times_broken (subst (IsUnraised p.times_broken) is h)

pub concluded-grown : (link : ℕ) (found : Found) (p : Parts) → Grown p.times_broken (concluded link found p).times_broken
concluded-grown link found p =
    both-grown (same-grown (judged-by found.is_reasonable p (lose_each found.lost p) (each-loses found.lost p)).broken) (grown-if found.is_wrong (judged found.is_reasonable (lose_each found.lost p)))
