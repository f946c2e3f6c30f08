-- What settings as they were written mean, and which is their first fault.
use Rattle.std.specs.Prelude.{codes, ℕ, Bool, true, false, not, ◌&&◌, ◌||◌, nat_le, nat_lt, nat_eq, ℤ, pos, negsuc}
use Rattle.std.specs.Prelude.{List, [], ◌∷◌, ◌++◌, Option, Some, None, is_some, length, map}
use Rattle.std.specs.List.{list_any, list_all}
use Rattle.std.specs.Str.{bytes_eq}
use Rattle.settings.specs.declared.fault.DraftFault.{DraftFault}
use Rattle.settings.specs.declared.fault.DraftFault.TheVariants.{At}
use Rattle.settings.specs.declared.fault.FaultKind.{FaultKind}
use Rattle.settings.specs.declared.fault.FaultKind.TheVariants.{Range, Duplicate, TooMany}
use Rattle.settings.specs.declared.key.Key.{Key}
use Rattle.settings.specs.Names.{is_name}
use Rattle.signalling_types.specs.declared.limits.TheConstants.Limits.{TITLE_DIGITS}

-- the first fault of several, in their order
abbrev pub first_of : List (Option DraftFault) → Option DraftFault
first_of [] = None
first_of (None ∷ rest) = first_of rest
first_of (Some fault ∷ rest) = Some fault

-- all faults of several checks, in their order
abbrev pub all_of : List (Option DraftFault) → List DraftFault
all_of [] = []
all_of (None ∷ rest) = all_of rest
all_of (Some fault ∷ rest) = fault ∷ all_of rest

-- a check that is made only where another one found nothing, since what it finds may follow from that one's fault
abbrev pub behind : Option DraftFault → Option DraftFault → Option DraftFault
behind None check = check
behind (Some fault) check = None

-- the same of several checks
abbrev pub all_behind : Option DraftFault → List (Option DraftFault) → List (Option DraftFault)
all_behind None checks = checks
all_behind (Some fault) checks = []

-- the fault of this kind at this key, unless all is well there
abbrev pub fault_unless : Bool → FaultKind → Key → Option DraftFault
fault_unless true kind key = None
fault_unless false kind key = Some (At kind key)

-- whether a number that was written is one from low to high
abbrev pub is_within : ℕ → ℕ → ℤ → Bool
is_within low high (pos n) = nat_le low n && nat_le n high
is_within low high (negsuc n) = false

-- the number that was written, if it is not below 0
abbrev pub natural : ℤ → ℕ
natural (pos n) = n
natural (negsuc n) = 0

-- the fault of a number that must be one from low to high
abbrev pub range_fault : ℕ → ℕ → Key → ℤ → Option DraftFault
range_fault low high key n = fault_unless (is_within low high n) Range key

-- the same of a number that may be left out
abbrev pub optional_fault : ℕ → ℕ → Key → Option ℤ → Option DraftFault
optional_fault low high key None = None
optional_fault low high key (Some n) = range_fault low high key n

-- whether some element occurs twice
abbrev pub has_repeat : {A : Type 0} → (A → A → Bool) → List A → Bool
has_repeat eq [] = false
has_repeat eq (x ∷ xs) = list_any (λ y. eq y x) xs || has_repeat eq xs

-- the fault of a point that must differ from the node's own
abbrev pub far_point_fault : ℕ → Key → ℤ → Option DraftFault
far_point_fault own key n = fault_unless (is_within 0 16383 n && not (nat_eq (natural n) own)) Range key

-- the first fault of a list's entries, each looked at after those before it
abbrev pub entries_fault : {A : Type 0} → (List A → A → Option DraftFault) → List A → List A → Option DraftFault
entries_fault fault earlier [] = None
entries_fault fault earlier (x ∷ rest) = first_of (fault earlier x ∷ entries_fault fault (earlier ++ x ∷ []) rest ∷ [])

-- the checks of a list's entries, each looked at after those before it
abbrev pub entries_checks : {A : Type 0} → (List A → A → List (Option DraftFault)) → List A → List A → List (Option DraftFault)
entries_checks checks earlier [] = []
entries_checks checks earlier (x ∷ rest) = checks earlier x ++ entries_checks checks (earlier ++ x ∷ []) rest

-- the first fault of a list of distinct numbers from low to high
unfoldable pub numbers_fault : ℕ → ℕ → Key → List ℤ → Option DraftFault
numbers_fault low high key ns = first_of (
    fault_unless (list_all (is_within low high) ns) Range key
    ∷ fault_unless (not (has_repeat nat_eq (map natural ns))) Duplicate key
    ∷ [])

-- the first fault of an array by its length: at most this many entries, and at least one
abbrev pub count_fault : ℕ → Key → ℕ → Option DraftFault
count_fault limit key n = first_of (
    fault_unless (nat_le n limit) TooMany key
    ∷ fault_unless (nat_lt 0 n) Range key
    ∷ [])

-- the fault of a name: well formed, and no other before it is the same
abbrev pub name_fault : Key → List ℕ → Bool → Option DraftFault
name_fault key name is_repeat = first_of (
    fault_unless (is_name name) Range key
    ∷ fault_unless (not is_repeat) Duplicate key
    ∷ [])

-- a digit of an address: 0 to 9, a to f
abbrev pub is_digit : ℕ → Bool
is_digit octet = (nat_le 48 octet && nat_le octet 57) || (nat_le 97 octet && nat_le octet 102)

-- the fault of the digits of a translation row: 1 to 32 of them
abbrev pub digits_fault : Key → List ℕ → Option DraftFault
digits_fault key text = first_of (
    fault_unless (nat_lt 0 (length text) && nat_le (length text) TITLE_DIGITS) Range key
    ∷ fault_unless (list_all is_digit text) Range key
    ∷ [])

-- the fault of the digits that a translation row puts on in front of a title: 0 to 32 of them
abbrev pub added_fault : Key → List ℕ → Option DraftFault
added_fault key text = first_of (
    fault_unless (nat_le (length text) TITLE_DIGITS) Range key
    ∷ fault_unless (list_all is_digit text) Range key
    ∷ [])

-- a route is by title or by subsystem number
abbrev pub route_fault : Key → List ℕ → Option DraftFault
route_fault key text = fault_unless (bytes_eq text (codes "title") || bytes_eq text (codes "ssn")) Range key

-- a subsystem number is an octet other than 0, and may be left out of a route by title alone
abbrev pub ssn_fault : Bool → Key → Option ℤ → Option DraftFault
ssn_fault by_title key ssn = first_of (
    optional_fault 1 255 key ssn
    ∷ fault_unless (by_title || is_some ssn) Range key
    ∷ [])
