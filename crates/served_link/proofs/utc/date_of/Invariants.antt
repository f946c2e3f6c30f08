-- What is left leads from here to the date that all days lead to.
use Rattle.std.proofs.Common.{◌≡◌, ◌≤◌, ℕ, ◌-◌}
use Rattle.served_link.specs.Utc.{date_after, date_of}
use Rattle.served_link.proofs.utc.date_of.Given as goal

pub record Walk (days year left : ℕ) : Type 0 where
  pub some_left : left ≤ days
  pub same : date_after (9999 - year) year left ≡ date_of days

abbrev pub invariant-loop-year : goal.invariant-loop-year
invariant-loop-year l = Walk l.days l.year l.left
