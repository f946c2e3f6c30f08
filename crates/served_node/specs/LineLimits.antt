-- How many lines of each kind a log has of a second.
use Rattle.std.specs.Prelude.{ℕ, ◌+◌, Bool, List, nat_lt, replicate, slice_index, slice_set}
use Rattle.served_node.specs.declared.line_limits.TheConstants.{KINDS, LINES_A_SECOND}

-- none yet, of no kind
abbrev pub no_lines : List ℕ
no_lines = replicate KINDS 0

-- whether one more may be of this kind
abbrev pub may_tell : (kind : ℕ) → List ℕ → Bool
may_tell kind lines = nat_lt (slice_index lines kind) LINES_A_SECOND

-- one more is
abbrev pub told : (kind : ℕ) → List ℕ → List ℕ
told kind lines = slice_set lines kind (slice_index lines kind + 1)
