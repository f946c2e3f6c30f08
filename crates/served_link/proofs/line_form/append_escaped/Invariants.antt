-- The octets so far.
use Rattle.std.proofs.Common.{◌≡◌, ◌++◌, take}
use Rattle.std.specs.List.{flat_map}
use Rattle.served_link.specs.LineForms.{cut, escaped_octet}
use Rattle.served_link.proofs.line_form.append_escaped.Given as goal

abbrev pub invariant-loop-octet : goal.invariant-loop-octet
invariant-loop-octet l = l.line.items ≡ cut (l.fn.line.items ++ flat_map escaped_octet (take l.octet-index l.text))
