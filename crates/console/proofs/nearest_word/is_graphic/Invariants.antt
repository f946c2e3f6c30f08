use Rattle.std.proofs.Common.{◌≡◌, drop}
use Rattle.std.specs.List.{list_all}
use Rattle.std.specs.Char.{is_ascii_graphic}
use Rattle.console.proofs.nearest_word.is_graphic.Given as goal

abbrev pub invariant-loop-octet : goal.invariant-loop-octet
invariant-loop-octet l = list_all is_ascii_graphic (drop l.octet-index l.word) ≡ list_all is_ascii_graphic l.word
