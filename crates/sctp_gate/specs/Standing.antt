-- Where a link stands with its association, by what its endpoint told.
use Rattle.std.specs.Prelude.{ℕ, true, false, ◌+◌, ◌-◌, ◌*◌, ◌^◌, List, [], ◌∷◌, min}
use Rattle.sctp_rules.specs.State.{Told, Up, Heard, Down, Failed}
use Rattle.sctp_gate.specs.declared.standing.Standing.{Standing}
use Rattle.sctp_gate.specs.declared.standing.TheConstants.{FIRST_WAIT, LONGEST_WAIT}

-- none is up or wanted, and a try may begin at once
abbrev pub first_standing : Standing
first_standing = record { is_up = false; is_seeking = false; due = 0; wait = FIRST_WAIT }

-- one is wanted
abbrev pub seeking : Standing → Standing
seeking p = record p { is_seeking = true }

-- none is any more
abbrev pub idle : Standing → Standing
idle p = record p { is_up = false; is_seeking = false }

-- by what is told. After a try that failed there is a wait, and the next one is twice as long; once an association was
-- up the waits start over
abbrev pub stands_by : (now : ℕ) → Told → Standing → Standing
stands_by now Up p = record p { is_up = true; is_seeking = false; wait = FIRST_WAIT }
stands_by now (Heard message) p = p
stands_by now (Down why) p = idle p
stands_by now (Failed why) p = record {
  is_up = false;
  is_seeking = false;
  due = min (2 ^ 64 - 1) (now + p.wait);
  wait = min LONGEST_WAIT (2 * p.wait);
}

abbrev pub stands_after : (now : ℕ) → List Told → Standing → Standing
stands_after now [] p = p
stands_after now (told ∷ more) p = stands_after now more (stands_by now told p)
