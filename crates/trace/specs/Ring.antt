-- A ring of files: octets go into one file until it has no room for the next, and only the newest files are kept.
use Rattle.std.specs.Prelude.{ℕ, ◌+◌, ◌-◌, Bool, nat_le, nat_lt, min, max, if◌then◌else◌, Option, Some, None}
use Rattle.trace.specs.declared.ring.TheConstants.{LAST_NUMBER}
use Rattle.trace.specs.declared.ring.Placing.{Placing}
use Rattle.trace.specs.declared.ring.Placing.TheVariants.{Here, Next, Nowhere}

-- how many octets a file has at most, how many files there are at most, the number of the newest file, which is 0 if
-- there is none, and for how many octets it has room
pub record Ring : Type 0 where
  pub size : ℕ
  pub files : ℕ
  pub number : ℕ
  pub room : ℕ

abbrev pub empty_ring : (size files : ℕ) → Ring
empty_ring size files = record { size = size; files = files; number = 0; room = 0 }

-- the ring once a file of this number was found, from an earlier run
abbrev pub found_in : (number : ℕ) → Ring → Ring
found_in number ring = record ring { number = max ring.number (min number LAST_NUMBER) }

-- the file that is removed when this one begins: the one that was begun as many files before it as there may be
abbrev pub removed_by : (files number : ℕ) → Option ℕ
removed_by files number = if nat_lt files number then Some (number - files) else None

-- whether a file is removed before the next one begins
abbrev pub is_due : Ring → (number : ℕ) → Bool
is_due ring number = nat_le (number + ring.files) (ring.number + 1)

-- where this many octets go
abbrev pub placing_of : (octets : ℕ) → Ring → Placing
placing_of octets ring =
    if nat_le octets ring.room then Here
    else if nat_le LAST_NUMBER ring.number then Nowhere
    else Next (ring.number + 1) (removed_by ring.files (ring.number + 1))

-- the ring with them. A new file begins with `front` octets before them
abbrev pub ring_after : (octets front : ℕ) → Ring → Ring
ring_after octets front ring =
    if nat_le octets ring.room then record ring { room = ring.room - octets }
    else if nat_le LAST_NUMBER ring.number then ring
    else record ring { number = ring.number + 1; room = ring.size - (front + octets) }
