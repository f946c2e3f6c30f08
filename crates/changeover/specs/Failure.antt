-- TCOC, changeover control (Q.704 §5.2, §5.3): a link fails in service, and its changeover begins.
use Rattle.std.specs.Prelude.{ℕ, Bool, if◌then◌else◌}
use Rattle.link.specs.Queue.{Queue, last_accepted}
use Rattle.link.specs.Counts.{Counts, kept_last_accepted}
use Rattle.changeover.specs.declared.beginning.Beginning.{Beginning}
use Rattle.changeover.specs.declared.beginning.Beginning.TheVariants.{Orders, Waits}

-- if an order goes to the adjacent point, it has the number of the last message that was accepted, T2 runs, and the
-- answer is awaited; otherwise T1 runs
abbrev pub begins_with : (ordered : Bool) → (number : ℕ) → Beginning
begins_with ordered number = if ordered then Orders number else Waits

abbrev pub beginning : (ordered : Bool) → Queue → Beginning
beginning ordered q = begins_with ordered (last_accepted q)

-- the same by what is kept of the queue
abbrev pub kept_beginning : (ordered : Bool) → Counts → Beginning
kept_beginning ordered k = begins_with ordered (kept_last_accepted k)
