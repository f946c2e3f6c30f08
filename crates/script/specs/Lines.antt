-- The lines of a script, and octets as a script writes them.
use Rattle.std.specs.Prelude.{ℕ, ◌%◌, ◌*◌, ◌&&◌, Bool, nat_eq, nat_le, List, [], length}
use Rattle.std.specs.List.{list_all}
use Rattle.std.specs.Result.{result_unwrap_or}
use Rattle.hex.specs.Hex.{decode_of, is_hex_digit}
use Rattle.console.specs.Words.{parted}
use Rattle.signalling_types.specs.declared.limits.TheConstants.Limits.{FRAME_OCTETS}

-- the lines of a text: its parts between line feeds (10), so no line feed ends the last
abbrev pub lines : List ℕ → List (List ℕ)
lines text = parted 10 text

-- the text of one to 4,096 octets: two hexadecimal digits for each, in either case
abbrev pub is_octets : List ℕ → Bool
is_octets text =
    nat_eq (length text % 2) 0 && nat_le 2 (length text) && nat_le (length text) (2 * FRAME_OCTETS)
    && list_all is_hex_digit text

-- the octets of such a text
abbrev pub octets_of : List ℕ → List ℕ
octets_of text = result_unwrap_or (decode_of text) []
