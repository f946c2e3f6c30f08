-- The former link of a flow that changes its link.
use Rattle.std.specs.Prelude.{ℕ, ◌&&◌, not, nat_eq, Option, Some, None, if◌then◌else◌}

-- the link that a flow comes from: it goes by one link now, and went by another before
abbrev pub former_link : (to : ℕ) → (before after : Option ℕ) → Option ℕ
former_link to (Some from) (Some now) = if nat_eq now to && not (nat_eq from to) then Some from else None
former_link to (Some from) None = None
former_link to None after = None
