-- What single messages say: orders and answers that are true, and what else a message is not.
use Rattle.pair_moves.proofs.Basics.{◌≡◌, ◌≢◌, ◌⊎◌, inl, inr, ℕ, Bool, true, false, not, ◌+◌, ◌≤◌, ◌||◌, ◌&&◌, List, [], ◌∷◌, count_by, nat_eq, refl, ap, sym, ◌∙◌, arith, eq-eqb, ne_eqb, nat_tests}
use Rattle.pair_moves.proofs.Definitions.{Message, Saying, UserMessage, Order, Answer, Declaration, Confirmation, Other, is_order, is_answer, is_untrue, is_user_message, Pair, turned, under_way, one_if, saying, user}
use Rattle.pair_moves.proofs.Counts.{count-one, count-first}
use Rattle.pair_moves.proofs.Lines.{false_is_true, true_is_false}

-- ---- what one message says

pub only-user : (s : Saying) → is_user_message s ≡ true → s ≡ UserMessage
only-user UserMessage e = refl
only-user (Order link number) e = false_is_true e
only-user (Answer link number) e = false_is_true e
only-user (Declaration code) e = false_is_true e
only-user (Confirmation code) e = false_is_true e
only-user Other e = false_is_true e

pub said : (read : Message → Saying) (m : Message) (s : Saying) → read m ≡ s → (test : Saying → Bool) →
    count_by (saying read test) (m ∷ []) ≡ one_if (test s)
said read m s e test = count-one (saying read test) m ∙ ap (λ (x : Saying). one_if (test x)) e

no-user : (b t : Bool) → b ≡ false → one_if (b && t) ≡ 0
no-user true t e = true_is_false e
no-user false t e = refl

pub said-no_user : (read : Message → Saying) (m : Message) (s : Saying) → read m ≡ s → is_user_message s ≡ false → (test : Message → Bool) →
    count_by (user read test) (m ∷ []) ≡ 0
said-no_user read m s e other test =
    count-one (user read test) m ∙ no-user (is_user_message (read m)) (test m) (ap is_user_message e ∙ other)

pub same-link : (link : ℕ) → nat_eq link link ≡ true
same-link link = eq-eqb link link refl

pub other-link : (link k : ℕ) → k ≢ link → nat_eq link k ≡ false
other-link link k d = ne_eqb link k (λ e. d (sym e))

-- ---- orders and answers that are untrue

untrue-parts : (same up right : Bool) → same ≡ true → (same && (up || not right)) ≡ false → (up ≡ false) × (right ≡ true)
untrue-parts true true right s e = true_is_false e
untrue-parts true false true s e = (refl, refl)
untrue-parts true false false s e = true_is_false e
untrue-parts false up right s e = false_is_true s

is-number : (n last : ℕ) → nat_eq n last ≡ true → n ≡ last
is-number n last e = grind (arith, nat_tests)

-- an order or an answer that isn't untrue: the link is down at its sender, and the number is right
pub true-order : (link : ℕ) (up : Bool) (last number : ℕ) → is_untrue link up last (Order link number) ≡ false → (up ≡ false) × (number ≡ last)
true-order link up last number e =
    let t : (up ≡ false) × (nat_eq number last ≡ true) = untrue-parts (nat_eq link link) up (nat_eq number last) (same-link link) e in
    (t.0, is-number number last t.1)

-- what is told rightly isn't untrue
told-rightly : (same right up : Bool) → up ≡ false → right ≡ true → one_if (same && (up || not right)) ≡ 0
told-rightly true true true u r = true_is_false u
told-rightly true true false u r = refl
told-rightly true false up u r = false_is_true r
told-rightly false right up u r = refl

pub told-order : (k link : ℕ) (up : Bool) (last : ℕ) → up ≡ false → one_if (is_untrue k up last (Order link last)) ≡ 0
told-order k link up last u = told-rightly (nat_eq link k) (nat_eq last last) up u (same-link last)

told-elsewhere : (same : Bool) (b : Bool) → same ≡ false → one_if (same && b) ≡ 0
told-elsewhere true b e = true_is_false e
told-elsewhere false b e = refl

pub told-order_elsewhere : (k link : ℕ) (up : Bool) (last number : ℕ) → k ≢ link → one_if (is_untrue k up last (Order link number)) ≡ 0
told-order_elsewhere k link up last number d = told-elsewhere (nat_eq link k) (up || not (nat_eq number last)) (other-link link k d)

pub true-answer : (link : ℕ) (up : Bool) (last number : ℕ) → is_untrue link up last (Answer link number) ≡ false → (up ≡ false) × (number ≡ last)
true-answer link up last number e = true-order link up last number e

pub told-answer : (k link : ℕ) (up : Bool) (last : ℕ) → up ≡ false → one_if (is_untrue k up last (Answer link last)) ≡ 0
told-answer k link up last u = told-order k link up last u

pub told-answer_elsewhere : (k link : ℕ) (up : Bool) (last number : ℕ) → k ≢ link → one_if (is_untrue k up last (Answer link number)) ≡ 0
told-answer_elsewhere k link up last number d = told-order_elsewhere k link up last number d

pub small : (b : Bool) → one_if b ≤ 1
small true = omega arith
small false = omega arith

no-more : (same up up' right right' : Bool) → (up' ≡ true → up ≡ true) → (up ≡ true) ⊎ (right' ≡ right) →
    one_if (same && (up' || not right')) ≤ one_if (same && (up || not right)) + one_if (same && (up || not right))
no-more true true up' right right' u e = omega (arith, small (up' || not right'))
no-more true false true right right' u e = false_is_true (u refl)
no-more true false false right right' u (inl e) = false_is_true e
no-more true false false right right' u (inr e) = rw e (omega arith)
no-more false up up' right right' u e = omega arith

right-alike : (number last last' : ℕ) (up : Bool) → (up ≡ true) ⊎ (last' ≡ last) → (up ≡ true) ⊎ (nat_eq number last' ≡ nat_eq number last)
right-alike number last last' up (inl e) = inl e
right-alike number last last' up (inr e) = inr (ap (nat_eq number) e)

-- an end that didn't come up, and where nothing was accepted while it was down, makes nothing
-- untrue
pub untrue-more : (k : ℕ) (up up' : Bool) (last last' : ℕ) → (up' ≡ true → up ≡ true) → (up ≡ true) ⊎ (last' ≡ last) → (s : Saying) →
    one_if (is_untrue k up' last' s) ≤ one_if (is_untrue k up last s) + one_if (is_untrue k up last s)
untrue-more k up up' last last' u e UserMessage = omega arith
untrue-more k up up' last last' u e (Order link number) =
    no-more (nat_eq link k) up up' (nat_eq number last) (nat_eq number last') u (right-alike number last last' up e)
untrue-more k up up' last last' u e (Answer link number) =
    no-more (nat_eq link k) up up' (nat_eq number last) (nat_eq number last') u (right-alike number last last' up e)
untrue-more k up up' last last' u e (Declaration code) = omega arith
untrue-more k up up' last last' u e (Confirmation code) = omega arith
untrue-more k up up' last last' u e Other = omega arith

one-of : (same b : Bool) → one_if (same && b) ≤ one_if same
one-of true b = small b
one-of false b = omega arith

-- what is untrue is an order or an answer
pub untrue-any : (k : ℕ) (up : Bool) (last : ℕ) (s : Saying) → one_if (is_untrue k up last s) ≤ one_if (is_order k s) + one_if (is_answer k s)
untrue-any k up last UserMessage = omega arith
untrue-any k up last (Order link number) = omega (arith, one-of (nat_eq link k) (up || not (nat_eq number last)))
untrue-any k up last (Answer link number) = omega (arith, one-of (nat_eq link k) (up || not (nat_eq number last)))
untrue-any k up last (Declaration code) = omega arith
untrue-any k up last (Confirmation code) = omega arith
untrue-any k up last Other = omega arith

-- nothing of a kind is under way, so what just arrived isn't of that kind
none-there : (b : Bool) (n : ℕ) → n + one_if b ≡ 0 → b ≡ false
none-there true n e = absurd (omega (arith, e))
none-there false n e = refl

pub arrived-not : (test : Message → Bool) (p : Pair) (m : Message) (rest : List Message) → p.near.arrived ≡ m ∷ rest →
    under_way test (turned p) ≡ 0 → test m ≡ false
arrived-not test p m rest e none =
    none-there (test m) (count_by test rest) (omega (arith, count-first test p.near.arrived m rest e, none))
