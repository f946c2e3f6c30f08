-- The digits so far were read; whether all are digits depends on the remaining ones.
use Rattle.std.proofs.Common.{◌≡◌, ◌<◌, ◌^◌, All, map, take, drop}
use Rattle.std.specs.List.{list_all}
use Rattle.settings.specs.Checks.{is_digit}
use Rattle.settings.specs.Meaning.{digit_of}
use Rattle.console.proofs.title_words.digit_values.Given as goal

abbrev pub invariant-loop-octet : goal.invariant-loop-octet
invariant-loop-octet l = record {
  digits : l.digits.items ≡ map digit_of (take l.octet-index l.text);
  range : All (λ digit. digit < 2 ^ 4) l.digits.items;
  good : list_all is_digit (drop l.octet-index l.text) ≡ list_all is_digit l.text;
}
