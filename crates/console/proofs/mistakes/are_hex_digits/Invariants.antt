use Rattle.std.proofs.Common.{◌≡◌, drop}
use Rattle.std.specs.List.{list_all}
use Rattle.std.specs.Char.{is_ascii_hexdigit}
use Rattle.console.proofs.mistakes.are_hex_digits.Given as goal

abbrev pub invariant-loop-octet : goal.invariant-loop-octet
invariant-loop-octet l = list_all is_ascii_hexdigit (drop l.octet-index l.text) ≡ list_all is_ascii_hexdigit l.text
