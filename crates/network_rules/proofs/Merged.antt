-- Lists that are made up of two, each in its order.
use Rattle.exchange_rules.proofs.Basics.{◌≡◌, ℕ, ◌+◌, Bool, true, false, not, List, [], ◌∷◌, ◌++◌, filter, refl, ap, arith, if◌then◌else◌, count_by}
use Rattle.exchange_rules.proofs.Definitions.{Message}
use Rattle.pair_moves.specs.Laws.{one_if}
use Rattle.pair_moves.proofs.Counts.{count-cons}
use Rattle.network_rules.specs.Paths.{AreMerged, from_one, from_other, none}

pub merged-one : (ms : List Message) → AreMerged ms [] ms
merged-one [] = none
merged-one (m ∷ ms) = from_one m ms [] ms (merged-one ms)

pub merged-other : (ms : List Message) → AreMerged [] ms ms
merged-other [] = none
merged-other (m ∷ ms) = from_other m [] ms ms (merged-other ms)

pub merged-append : (a b c d e f : List Message) → AreMerged a b c → AreMerged d e f → AreMerged (a ++ d) (b ++ e) (c ++ f)
merged-append _ _ _ d e f none h = h
merged-append _ _ _ d e f (from_one m one other both rest) h = from_one m (one ++ d) (other ++ e) (both ++ f) (merged-append one other both d e f rest h)
merged-append _ _ _ d e f (from_other m one other both rest) h = from_other m (one ++ d) (other ++ e) (both ++ f) (merged-append one other both d e f rest h)

pub merged-filter : (test : Message → Bool) (a b c : List Message) → AreMerged a b c → AreMerged (filter test a) (filter test b) (filter test c)
merged-filter test _ _ _ none = none
merged-filter test _ _ _ (from_one m one other both rest) = by (test m) (merged-filter test one other both rest)
  where
    by : (t : Bool) → AreMerged (filter test one) (filter test other) (filter test both)
        → AreMerged (if t then m ∷ filter test one else filter test one) (filter test other) (if t then m ∷ filter test both else filter test both)
    by true h = from_one m (filter test one) (filter test other) (filter test both) h
    by false h = h
merged-filter test _ _ _ (from_other m one other both rest) = by (test m) (merged-filter test one other both rest)
  where
    by : (t : Bool) → AreMerged (filter test one) (filter test other) (filter test both)
        → AreMerged (filter test one) (if t then m ∷ filter test other else filter test other) (if t then m ∷ filter test both else filter test both)
    by true h = from_other m (filter test one) (filter test other) (filter test both) h
    by false h = h

-- those that pass a test, and the others
pub merged-split : (test : Message → Bool) (ms : List Message) → AreMerged (filter test ms) (filter (λ m. not (test m)) ms) ms
merged-split test [] = none
merged-split test (m ∷ ms) = by (test m) (merged-split test ms)
  where
    by : (t : Bool) → AreMerged (filter test ms) (filter (λ k. not (test k)) ms) ms
        → AreMerged (if t then m ∷ filter test ms else filter test ms) (if not t then m ∷ filter (λ k. not (test k)) ms else filter (λ k. not (test k)) ms) (m ∷ ms)
    by true h = from_one m (filter test ms) (filter (λ k. not (test k)) ms) ms h
    by false h = from_other m (filter test ms) (filter (λ k. not (test k)) ms) ms h

pub merged-alone : (a b c : List Message) → AreMerged a b c → b ≡ [] → a ≡ c
merged-alone _ _ _ none e = refl
merged-alone _ _ _ (from_one m one other both rest) e = ap (λ (ms : List Message). m ∷ ms) (merged-alone one other both rest e)
merged-alone _ _ _ (from_other m one other both rest) e = absurd cc

pub merged-count : (test : Message → Bool) (a b c : List Message) → AreMerged a b c → count_by test c ≡ count_by test a + count_by test b
merged-count test _ _ _ none = refl
merged-count test _ _ _ (from_one m one other both rest) =
    here (one_if (test m)) _ _ _ _ _ (count-cons test m both) (count-cons test m one) (merged-count test one other both rest)
  where
    here : (i c a b c' a' : ℕ) → c' ≡ i + c → a' ≡ i + a → c ≡ a + b → c' ≡ a' + b
    here i c a b c' a' e f g = omega (arith, e, f, g)
merged-count test _ _ _ (from_other m one other both rest) =
    there (one_if (test m)) _ _ _ _ _ (count-cons test m both) (count-cons test m other) (merged-count test one other both rest)
  where
    there : (i c a b c' b' : ℕ) → c' ≡ i + c → b' ≡ i + b → c ≡ a + b → c' ≡ a + b'
    there i c a b c' b' e f g = omega (arith, e, f, g)

-- one of the two may be made up of two itself: then what is left is made up of what is left of each
pub record AreLeft (one less more both : List Message) : Type 0 where
  pub left : List Message
  pub order : AreMerged one left both
  pub parts : AreMerged less more left

pub merged-through : (a more both one less : List Message) → AreMerged a more both → AreMerged one less a → AreLeft one less more both
merged-through _ _ _ one less none none = record { left = []; order = none; parts = none }
merged-through _ _ _ one less (from_other m a more both rest) h =
    let its : AreLeft one less more both = merged-through a more both one less rest h in
    record { left = m ∷ its.left; order = from_other m one its.left both its.order; parts = from_other m less more its.left its.parts }
merged-through _ _ _ _ _ (from_one m a more both rest) (from_one m2 one less a2 h) =
    let its : AreLeft one less more both = merged-through a more both one less rest h in
    record { left = its.left; order = from_one m one its.left both its.order; parts = its.parts }
merged-through _ _ _ one _ (from_one m a more both rest) (from_other m2 one2 less a2 h) =
    let its : AreLeft one less more both = merged-through a more both one less rest h in
    record { left = m ∷ its.left; order = from_other m one its.left both its.order; parts = from_one m less more its.left its.parts }
