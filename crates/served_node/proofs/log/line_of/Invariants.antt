-- The octets so far.
use Rattle.std.proofs.Common.{◌≡◌, map, take}
use Rattle.served_node.specs.Logging.{shown_octet}
use Rattle.served_node.proofs.log.line_of.Given as goal

abbrev pub invariant-loop-octet : goal.invariant-loop-octet
invariant-loop-octet l = l.line.items ≡ map shown_octet (take l.octet-index l.text)
