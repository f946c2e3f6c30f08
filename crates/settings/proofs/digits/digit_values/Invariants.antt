use Rattle.settings.proofs.Basics.{◌≡◌, ◌<◌, ◌^◌, All, map, take, drop, list_all, is_digit, digit_of}
use Rattle.settings.proofs.digits.digit_values.Given as goal

abbrev pub invariant-loop-octet : goal.invariant-loop-octet
invariant-loop-octet l = record {
  digits : l.digits.items ≡ map digit_of (take l.octet-index l.text);
  range : All (λ digit. digit < 2 ^ 4) l.digits.items;
  good : list_all is_digit (drop l.octet-index l.text) ≡ list_all is_digit l.text;
}
