use Rattle.settings.proofs.Basics.{◌≡◌, take, string_bytes}
use Rattle.settings.proofs.titles.title_key.Given as goal

abbrev pub invariant-loop-octet : goal.invariant-loop-octet
invariant-loop-octet l = l.digits.items ≡ take l.octet-index (string_bytes l.title.digits)
