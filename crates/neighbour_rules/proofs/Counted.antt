-- How often a node has counted, beyond a base, that a message may be lost or out of order. The base is what the two
-- nodes had counted when the promise between them began.
use Rattle.pair_rules.proofs.Basics.{◌≡◌, ◌<◌, ◌≤◌, ◌-◌, ◌^◌, ℕ, zero, suc, Bool, true, false, nat_lt, refl, ap, sym, subst, ◌∙◌, arith, nat_tests}
use Rattle.pair_rules.proofs.Definitions.{Parts}
use Rattle.exchange_rules.specs.State.{is_raised, once_more}

-- what a node counts
pub record Counts : Type 0 where
  pub lost : ℕ
  pub late : ℕ

abbrev pub counts_of : Parts → Counts
counts_of p = record { lost = p.times_lost; late = p.times_late }

-- one loss more, or one lateness
abbrev pub with_loss : Counts → Counts
with_loss n = record n { lost = once_more n.lost }

abbrev pub with_lateness : Counts → Counts
with_lateness n = record n { late = once_more n.late }

-- of both nodes
pub record Base : Type 0 where
  pub near : Counts
  pub far : Counts
  -- the codes of the set between the two that awaited their answers then, and do so for good
  pub near_given_up : ℕ → Bool
  pub far_given_up : ℕ → Bool
  -- the points for which the user messages are that go from the near node to the far one, and that come back
  pub there : ℕ
  pub back : ℕ

-- as the far node sees it
abbrev pub turned_base : Base → Base
turned_base b = record { near = b.far; far = b.near; near_given_up = b.far_given_up; far_given_up = b.near_given_up; there = b.back; back = b.there }

abbrev pub no_counts : Counts
no_counts = record { lost = 0; late = 0 }

abbrev pub no_base : (there back : ℕ) → Base
no_base there back = record {
  near = no_counts;
  far = no_counts;
  near_given_up = λ code. false;
  far_given_up = λ code. false;
  there = there;
  back = back;
}

-- ---- what goes beyond a base

-- neither count is the most that it can be: so one more is beyond it
pub record CanGrow (b : Counts) : Type 0 where
  pub lost : b.lost < 2 ^ 64 - 1
  pub late : b.late < 2 ^ 64 - 1

-- no less than this was counted
pub record IsBase (b n : Counts) : Type 0 where
  pub lost : b.lost ≤ n.lost
  pub late : b.late ≤ n.late

pub base-same : (b : Counts) → IsBase b b
base-same b = record { lost = omega arith; late = omega arith }

pub none-grow : CanGrow no_counts
none-grow = record { lost = omega arith; late = omega arith }

exceeds : (base times : ℕ) → base < 2 ^ 64 - 1 → base ≤ times → nat_lt base (once_more times) ≡ true
exceeds base times few below = grind (arith, nat_tests, few, below)

still-below : (base times : ℕ) → base < 2 ^ 64 - 1 → base ≤ times → base ≤ once_more times
still-below base times few below = omega (arith, few, below)

pub base-alike : (b n m : Counts) → m.lost ≡ n.lost → m.late ≡ n.late → IsBase b n → IsBase b m
base-alike b n m e f h = record { lost = subst (λ (k : ℕ). b.lost ≤ k) (sym e) h.lost; late = subst (λ (k : ℕ). b.late ≤ k) (sym f) h.late }

pub base-lost : (b n : Counts) → CanGrow b → IsBase b n → IsBase b (with_loss n)
base-lost b n grows h = record { lost = still-below b.lost n.lost grows.lost h.lost; late = h.late }

pub base-late : (b n : Counts) → CanGrow b → IsBase b n → IsBase b (with_lateness n)
base-late b n grows h = record { lost = h.lost; late = still-below b.late n.late grows.late h.late }

pub beyond-lost : (b n m : Counts) → CanGrow b → m ≡ with_loss n → IsBase b n → nat_lt b.lost m.lost ≡ true
beyond-lost b n m grows e h = ap (λ (x : Counts). nat_lt b.lost x.lost) e ∙ exceeds b.lost n.lost grows.lost h.lost

pub beyond-late : (b n : Counts) → CanGrow b → IsBase b n → nat_lt b.late (with_lateness n).late ≡ true
beyond-late b n grows h = exceeds b.late n.late grows.late h.late

-- ---- where nothing had been counted

pub beyond-none : (times : ℕ) → nat_lt 0 times ≡ is_raised times
beyond-none zero = refl
beyond-none (suc times) = grind (arith, nat_tests)
