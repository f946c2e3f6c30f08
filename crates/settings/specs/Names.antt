-- Names of links and link sets.
use Rattle.std.specs.Prelude.{ℕ, Bool, ◌&&◌, ◌||◌, nat_le, nat_lt, nat_eq, List, length}
use Rattle.std.specs.List.{list_all}
use Rattle.signalling_types.specs.declared.limits.TheConstants.Limits.{NAME_OCTETS}

-- a small letter, a capital, a digit, a dash, a low line or a dot
abbrev pub is_name_octet : ℕ → Bool
is_name_octet octet =
    (nat_le 97 octet && nat_le octet 122) || (nat_le 65 octet && nat_le octet 90)
    || (nat_le 48 octet && nat_le octet 57) || nat_eq octet 45 || nat_eq octet 95 || nat_eq octet 46

-- a name of a link or a link set: 1 to 32 of a to z, A to Z, 0 to 9, the dash, the low line and the dot
abbrev pub is_name : List ℕ → Bool
is_name text = nat_lt 0 (length text) && nat_le (length text) NAME_OCTETS && list_all is_name_octet text
