-- The versions of the format of settings files.
use Rattle.std.specs.Prelude.{ℤ, pos, Bool, ◌||◌}
use Rattle.std.specs.Ordering.{int_eq}

abbrev pub FIRST_VERSION : ℤ
FIRST_VERSION = pos 1

abbrev pub SECOND_VERSION : ℤ
SECOND_VERSION = pos 2

abbrev pub THIRD_VERSION : ℤ
THIRD_VERSION = pos 3

abbrev pub LAST_VERSION : ℤ
LAST_VERSION = pos 4

abbrev pub is_known_version : ℤ → Bool
is_known_version version =
    int_eq version FIRST_VERSION || int_eq version SECOND_VERSION || int_eq version THIRD_VERSION
    || int_eq version LAST_VERSION

-- whether the destinations of a file of this version may be joined
abbrev pub has_joined : ℤ → Bool
has_joined version =
    int_eq version SECOND_VERSION || int_eq version THIRD_VERSION || int_eq version LAST_VERSION

-- whether a file of this version may ask for extended unitdata, tests of subsystems, and to tell of user parts that
-- aren't here; may give links shares of the pool, rows a backup, and change titles; and may have timers of tests and of
-- emergency proving
abbrev pub has_extensions : ℤ → Bool
has_extensions version = int_eq version THIRD_VERSION || int_eq version LAST_VERSION

-- whether a file of this version may ask that an order to change over goes out by any route, and that a peer keeps its
-- UDP port; may have durations and longer names of sets and links, and leave out timers, which then run as usual; and
-- has longer timeouts of SCTP, unless it says them
abbrev pub has_additions : ℤ → Bool
has_additions version = int_eq version LAST_VERSION
