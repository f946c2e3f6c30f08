-- Counts that grow, up to the most that is counted; and one that hasn't grown though it could.
use Rattle.node_moves.proofs.Basics.{◌≡◌, ℕ, ◌≤◌, ◌<◌, ◌-◌, ◌^◌, min, arith}
use Rattle.exchange_rules.specs.State.{once_more}

-- the most that a node counts
abbrev most : ℕ
most = 2 ^ 64 - 1

pub record Grown (before after : ℕ) : Type 0 where
  pub capped : min before most ≤ min after most

pub same-grown : {n m : ℕ} → m ≡ n → Grown n m
same-grown {n} {m} e = record { capped = omega (arith, e) }

pub both-grown : {a b d : ℕ} → Grown a b → Grown b d → Grown a d
both-grown {a} {b} {d} e f = record { capped = omega (arith, e.capped, f.capped) }

pub more-grown : (n : ℕ) → Grown n (once_more n)
more-grown n = record { capped = omega arith }

-- it is no more than before, where it could be
pub record IsUnraised (before after : ℕ) : Type 0 where
  pub same : after ≤ before
  pub low : before < most

pub never-raised : {n : ℕ} → n ≡ 0 → IsUnraised 0 n
never-raised {n} e = record { same = omega (arith, e); low = omega arith }

-- nor was it in between
pub unraised-first : {a b d : ℕ} → Grown a b → Grown b d → IsUnraised a d → IsUnraised a b
unraised-first {a} {b} {d} e f h = record { same = omega (arith, e.capped, f.capped, h.same, h.low); low = h.low }

pub unraised-then : {a b d : ℕ} → Grown a b → Grown b d → IsUnraised a d → IsUnraised b d
unraised-then {a} {b} {d} e f h = record { same = omega (arith, e.capped, f.capped, h.same, h.low); low = omega (arith, e.capped, f.capped, h.same, h.low) }

pub raised-not : (n : ℕ) → IsUnraised n (once_more n) → ⊥
raised-not n h = absurd (omega (arith, h.same, h.low))
