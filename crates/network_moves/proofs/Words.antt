-- What single messages say: orders and answers that are true, whose they are, and what else a message is not.
use Rattle.network_moves.proofs.Basics.{◌≡◌, ◌≢◌, ◌⊎◌, inl, inr, ℕ, Bool, true, false, not, ◌+◌, ◌≤◌, ◌<◌, ◌||◌, ◌&&◌, List, nat_eq, refl, ap, sym, ◌∙◌, arith, eq-eqb, ne_eqb, nat_tests}
use Rattle.network_moves.proofs.Definitions.{Message, last_accepted, Side, Near, Far, opposite, same_side, Saying, UserMessage, Order, Answer, Other, is_user_message, is_end, is_awaited_by, is_untrue, saying, user, LinkEnd, Network, Shape, one_if, IsTakenFrom, under_way}
use Rattle.network_moves.proofs.Counts.{way-holds}
use Rattle.network_moves.proofs.Lines.{false_is_true, true_is_false}

-- ---- what one message says

pub only-user : (s : Saying) → is_user_message s ≡ true → s ≡ UserMessage
only-user UserMessage e = refl
only-user (Order link maker number) e = false_is_true e
only-user (Answer link maker number) e = false_is_true e
only-user Other e = false_is_true e

pub one-said : (read : Message → Saying) (m : Message) (s : Saying) → read m ≡ s → (test : Saying → Bool) →
    one_if (saying read test m) ≡ one_if (test s)
one-said read m s e test = ap (λ (x : Saying). one_if (test x)) e

no-user : (b t : Bool) → b ≡ false → one_if (b && t) ≡ 0
no-user true t e = true_is_false e
no-user false t e = refl

pub one-no_user : (read : Message → Saying) (m : Message) → is_user_message (read m) ≡ false → (test : Message → Bool) → one_if (user read test m) ≡ 0
one-no_user read m other test = no-user (is_user_message (read m)) (test m) other

pub one-management : (read : Message → Saying) (m : Message) (s : Saying) → read m ≡ s → is_user_message s ≡ false → (test : Message → Bool) →
    one_if (user read test m) ≡ 0
one-management read m s e other test = one-no_user read m (ap is_user_message e ∙ other) test

pub one-flag : (b c : Bool) → b ≡ c → one_if b ≡ one_if c
one-flag b c e = ap one_if e

-- ---- whose they are

same-number : (n : ℕ) → nat_eq n n ≡ true
same-number n = eq-eqb n n refl

and-true : (a b : Bool) → a ≡ true → b ≡ true → (a && b) ≡ true
and-true true b e f = f
and-true false b e f = e

first-false : (a b : Bool) → a ≡ false → (a && b) ≡ false
first-false true b e = true_is_false e
first-false false b e = refl

second-false : (a b : Bool) → b ≡ false → (a && b) ≡ false
second-false true b e = e
second-false false b e = refl

same-itself : (side : Side) → same_side side side ≡ true
same-itself Near = refl
same-itself Far = refl

same-opposite : (side : Side) → same_side side (opposite side) ≡ false
same-opposite Near = refl
same-opposite Far = refl

pub opposite-twice : (side : Side) → opposite (opposite side) ≡ side
opposite-twice Near = refl
opposite-twice Far = refl

both-opposite : (a b : Side) → same_side (opposite a) (opposite b) ≡ same_side a b
both-opposite Near Near = refl
both-opposite Near Far = refl
both-opposite Far Near = refl
both-opposite Far Far = refl

pub end-itself : (link : ℕ) (side : Side) → is_end link side link side ≡ true
end-itself link side = and-true (nat_eq link link) (same_side side side) (same-number link) (same-itself side)

pub end-opposite : (link : ℕ) (side : Side) → is_end link (opposite side) link side ≡ false
end-opposite link side = second-false (nat_eq link link) (same_side side (opposite side)) (same-opposite side)

pub end-elsewhere : (link other : ℕ) (side s : Side) → other ≢ link → is_end other s link side ≡ false
end-elsewhere link other side s d = first-false (nat_eq link other) (same_side side s) (ne_eqb link other (λ e. d (sym e)))

-- ---- untrue words

-- what one end says of a link is untrue if it is so of this end
abbrev pub untrue_of : (Message → Saying) → ℕ → Side → LinkEnd → Message → Bool
untrue_of read link side x = saying read (is_untrue link side x.up (last_accepted x.queue))

told-rightly : (same right up : Bool) → up ≡ false → right ≡ true → one_if (same && (up || not right)) ≡ 0
told-rightly true true true u r = true_is_false u
told-rightly true true false u r = refl
told-rightly true false up u r = false_is_true r
told-rightly false right up u r = refl

pub told : (l link : ℕ) (s side : Side) (up : Bool) (last : ℕ) → up ≡ false → one_if (is_untrue l s up last (Order link side last)) ≡ 0
told l link s side up last u = told-rightly (is_end l s link side) (nat_eq last last) up u (same-number last)

told-not : (same b : Bool) → same ≡ false → one_if (same && b) ≡ 0
told-not true b e = true_is_false e
told-not false b e = refl

-- nor is a word of another end
pub told-elsewhere : (l link : ℕ) (s side : Side) (up : Bool) (last number : ℕ) → is_end l s link side ≡ false → one_if (is_untrue l s up last (Order link side number)) ≡ 0
told-elsewhere l link s side up last number e = told-not (is_end l s link side) (up || not (nat_eq number last)) e

untrue-parts : (same up right : Bool) → same ≡ true → (same && (up || not right)) ≡ false → (up ≡ false) × (right ≡ true)
untrue-parts true true right s e = true_is_false e
untrue-parts true false true s e = (refl, refl)
untrue-parts true false false s e = true_is_false e
untrue-parts false up right s e = false_is_true s

is-number : (n last : ℕ) → nat_eq n last ≡ true → n ≡ last
is-number n last e = grind (arith, nat_tests)

-- a word that isn't untrue: the link is down at its sender, and the number is right
pub true-word : (link : ℕ) (side : Side) (up : Bool) (last number : ℕ) → is_untrue link side up last (Order link side number) ≡ false → (up ≡ false) × (number ≡ last)
true-word link side up last number e =
    let t : (up ≡ false) × (nat_eq number last ≡ true) = untrue-parts (is_end link side link side) up (nat_eq number last) (end-itself link side) e in
    (t.0, is-number number last t.1)

pub small : (b : Bool) → one_if b ≤ 1
small true = omega arith
small false = omega arith

no-more : (same up up' right right' : Bool) → (up' ≡ true → up ≡ true) → (up ≡ true) ⊎ (right' ≡ right) →
    one_if (same && (up' || not right')) ≤ one_if (same && (up || not right)) + one_if (same && (up || not right))
no-more true true up' right right' u e = omega (arith, small (up' || not right'))
no-more true false true right right' u e = false_is_true (u refl)
no-more true false false right right' u (inl e) = false_is_true e
no-more true false false right right' u (inr e) = rw e (omega arith)
no-more false up up' right right' u e = omega arith

right-alike : (number last last' : ℕ) (up : Bool) → (up ≡ true) ⊎ (last' ≡ last) → (up ≡ true) ⊎ (nat_eq number last' ≡ nat_eq number last)
right-alike number last last' up (inl e) = inl e
right-alike number last last' up (inr e) = inr (ap (nat_eq number) e)

-- an end that didn't come up, and where nothing was accepted while it was down, makes nothing untrue
pub untrue-more : (l : ℕ) (s : Side) (up up' : Bool) (last last' : ℕ) → (up' ≡ true → up ≡ true) → (up ≡ true) ⊎ (last' ≡ last) → (x : Saying) →
    one_if (is_untrue l s up' last' x) ≤ one_if (is_untrue l s up last x) + one_if (is_untrue l s up last x)
untrue-more l s up up' last last' u e UserMessage = omega arith
untrue-more l s up up' last last' u e (Order link maker number) =
    no-more (is_end l s link maker) up up' (nat_eq number last) (nat_eq number last') u (right-alike number last last' up e)
untrue-more l s up up' last last' u e (Answer link maker number) =
    no-more (is_end l s link maker) up up' (nat_eq number last) (nat_eq number last') u (right-alike number last last' up e)
untrue-more l s up up' last last' u e Other = omega arith

one-of : (same b : Bool) → one_if (same && b) ≤ one_if same
one-of true b = small b
one-of false b = omega arith

-- what is untrue is a word that one of the two ends awaits
pub untrue-any : (l : ℕ) (s : Side) (up : Bool) (last : ℕ) (x : Saying) →
    one_if (is_untrue l s up last x) ≤ one_if (is_awaited_by l s x) + one_if (is_awaited_by l (opposite s) x)
untrue-any l s up last UserMessage = omega arith
untrue-any l s up last (Order link maker number) = omega (arith, one-of (is_end l s link maker) (up || not (nat_eq number last)))
untrue-any l s up last (Answer link maker number) =
    let same : one_if (is_end l (opposite s) link (opposite maker)) ≡ one_if (is_end l s link maker) = ap (λ (b : Bool). one_if (nat_eq link l && b)) (both-opposite maker s) in
    omega (arith, same, one-of (is_end l s link maker) (up || not (nat_eq number last)))
untrue-any l s up last Other = omega arith

-- ---- what is taken out of a bag

none-there : (b : Bool) → one_if b ≤ 0 → b ≡ false
none-there true n = absurd (omega (arith, n))
none-there false n = refl

-- nothing of a kind is under way, so what is taken isn't of that kind
pub taken-not : (shape : Shape) (test : Message → Bool) (p : Network) (point : ℕ) (m : Message) (rest : List Message) → point < shape.nodes →
    IsTakenFrom (p.node point).bag m rest → under_way shape test p ≡ 0 → test m ≡ false
taken-not shape test p point m rest inside taken none =
    none-there (test m) (omega (arith, taken.counted test, way-holds shape test p point inside, none))
