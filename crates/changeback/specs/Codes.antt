-- TCBC, changeback control (Q.704 §6.3, §15.5): the changeback codes of the adjacent points.
use Rattle.std.specs.Prelude.{◌≡◌, ◌≢◌, ℕ, Bool, true, false, not, List, [], Option, Some}
use Rattle.std.specs.Prelude.{position, replicate, slice_index_or, slice_set}
use Rattle.signalling_types.specs.declared.limits.TheConstants.Limits.{CHANGEBACK_CODES}

-- for each code of each set, whether its acknowledgement is awaited
abbrev pub Codes : Type 0
Codes = List (List Bool)

-- at first none is, of any set
abbrev pub no_codes : (sets : ℕ) → Codes
no_codes sets = replicate sets (replicate CHANGEBACK_CODES false)

-- the codes of one set; a set that isn't there has none
abbrev pub codes_of : Codes → (set : ℕ) → List Bool
codes_of t set = slice_index_or t set []

-- the least code of a set that is free
abbrev pub free_code : Codes → (set : ℕ) → Option ℕ
free_code t set = position not (codes_of t set)

-- whether the acknowledgement of a code is awaited
abbrev pub is_outstanding : Codes → (set code : ℕ) → Bool
is_outstanding t set code = slice_index_or (codes_of t set) code false

-- one code awaits its acknowledgement from now on, or not; one that isn't there is ignored
abbrev pub with_code : Codes → (set code : ℕ) → Bool → Codes
with_code t set code outstanding = slice_set t set (slice_set (codes_of t set) code outstanding)

-- a code whose acknowledgement is awaited is never used
abbrev pub awaited_codes_are_not_free : Type 0
awaited_codes_are_not_free =
    (t : Codes) (set code : ℕ) → is_outstanding t set code ≡ true → free_code t set ≢ Some code
