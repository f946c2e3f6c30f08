-- An event that counts no loss loses nothing, and no changeover ends in it without a reasonable number. What was
-- counted isn't taken back.
use Rattle.exchange_rules.proofs.Basics.{◌≡◌, ◌<◌, ◌≤◌, ◌+◌, ◌-◌, ◌^◌, ℕ, zero, suc, List, [], ◌∷◌, ◌++◌, length, map, refl, sym, subst, ◌∙◌, arith}
use Rattle.exchange_rules.proofs.Definitions.{counted, losses_of, Notice, Message, whole, Abstract, Happening, handle_event, gone_by, gone_by_release}
use Rattle.exchange_rules.specs.LawsOfLosses.{Reasons, losses, reasons_of}
use Rattle.exchange_rules.specs.State.{Asking, AsksWants, Happens, Takes, once_more}
use Rattle.exchange_rules.specs.Exchange.{after, taken}
use Rattle.exchange_rules.specs.Lasting.{after_each}
use Rattle.exchange_rules.proofs.NamedAll.{events-account, takes-flag}

-- ---- counts

once-grows : (k times : ℕ) → k ≤ 2 ^ 64 - 1 → k ≤ times → k ≤ once_more times
once-grows k times few below = omega (arith, few, below)

once-exceeds : (times : ℕ) → times < 2 ^ 64 - 1 → times + 1 ≤ once_more times
once-exceeds times few = omega (arith, few)

counted-grows : (more k times : ℕ) → k ≤ 2 ^ 64 - 1 → k ≤ times → k ≤ counted more times
counted-grows zero k times few below = below
counted-grows (suc more) k times few below = counted-grows more k (once_more times) few (once-grows k times few below)

counted-none : (more times : ℕ) → times < 2 ^ 64 - 1 → counted more times ≡ times → more ≡ 0
counted-none zero times few same = refl
counted-none (suc more) times few same =
    absurd (no-more times (counted more (once_more times)) (counted-grows more (times + 1) (once_more times) (omega (arith, few)) (once-exceeds times few)) same)
  where
    no-more : (n k : ℕ) → n + 1 ≤ k → k ≡ n → ⊥
    no-more n k e f = omega (arith, e, f)

event-counts : (what : Happening) (a : Abstract) (k : ℕ) → k ≤ 2 ^ 64 - 1 → k ≤ a.node.parts.times_lost → k ≤ (after whole what a).node.parts.times_lost
event-counts what a k few below =
    subst (λ (n : ℕ). k ≤ n) (sym (events-account what a).times_lost)
    (counted-grows (losses (reasons_of what a)) k a.node.parts.times_lost few below)

pub asked-counts : (asked : List Asking) (a : Abstract) (k : ℕ) → k ≤ 2 ^ 64 - 1 → k ≤ a.node.parts.times_lost → k ≤ (after_each asked a).node.parts.times_lost
asked-counts [] a k few below = below
asked-counts (Happens what ∷ asked) a k few below = asked-counts asked (after whole what a) k few (event-counts what a k few below)
asked-counts (Takes link ∷ asked) a k few below = asked-counts asked (taken whole a link) k few (subst (λ (n : ℕ). k ≤ n) (sym (takes-flag a link).0) below)
asked-counts (AsksWants link ∷ asked) a k few below = asked-counts asked a k few below

-- ---- an event

pub record LosesNone (what : Happening) (a : Abstract) : Type 0 where
  pub by_rule : (gone_by what a).lost ≡ []
  pub by_release : (gone_by_release a.settings (handle_event whole a.settings what a.node).left).lost ≡ []
  pub sure : (gone_by what a).doubts ≡ 0

first-none : (k l : ℕ) → k + l ≡ 0 → k ≡ 0
first-none k l e = omega (arith, e)

-- nothing is lost for any of the reasons
lost-none : (lost unsent expired doubts : ℕ) → lost + unsent + expired + doubts ≡ 0 → lost ≡ 0
lost-none lost unsent expired doubts e = omega (arith, e)

doubts-none : (lost unsent expired doubts : ℕ) → lost + unsent + expired + doubts ≡ 0 → doubts ≡ 0
doubts-none lost unsent expired doubts e = omega (arith, e)

no-length : (ns : List Notice) → length ns ≡ 0 → ns ≡ []
no-length [] e = refl
no-length (n ∷ ns) e = absurd cc

first-empty : (f g : Message → Notice) (ms ks : List Message) → map f ms ++ map g ks ≡ [] → ms ≡ []
first-empty f g [] ks e = refl
first-empty f g (m ∷ ms) ks e = absurd cc

later-empty : (f g : Message → Notice) (ms ks : List Message) → map f ms ++ map g ks ≡ [] → ks ≡ []
later-empty f g [] [] e = refl
later-empty f g [] (k ∷ ks) e = absurd cc
later-empty f g (m ∷ ms) ks e = absurd cc

pub loses-none : (what : Happening) (a : Abstract) → a.node.parts.times_lost < 2 ^ 64 - 1 → (after whole what a).node.parts.times_lost ≡ a.node.parts.times_lost → LosesNone what a
loses-none what a few same =
    let r : Reasons = reasons_of what a in
    let none : losses r ≡ 0 = counted-none (losses r) a.node.parts.times_lost few (sym (events-account what a).times_lost ∙ same) in
    let unnamed : losses_of what a ≡ [] = no-length r.lost (lost-none (length r.lost) (length r.unsent) (length r.expired) r.doubts none) in
    record {
      by_rule = first-empty _ _ (gone_by what a).lost _ unnamed;
      by_release = later-empty _ _ (gone_by what a).lost _ unnamed;
      sure = first-none (gone_by what a).doubts _ (doubts-none (length r.lost) (length r.unsent) (length r.expired) r.doubts none);
    }
