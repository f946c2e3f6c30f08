-- What a server says as it stops.
use Rattle.std.specs.Prelude.{ℕ, ◌==◌, ◌++◌, List, codes, decimal, if◌then◌else◌, Option, None, Some}

-- the line of how many user messages a node keeps, if it keeps some
abbrev pub kept_line : ℕ → Option (List ℕ)
kept_line count = if count == 0 then None else Some (codes "kept " ++ decimal count)
