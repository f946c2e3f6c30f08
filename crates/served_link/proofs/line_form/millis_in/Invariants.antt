-- Whoever reads on from here has read all from the start.
use Rattle.std.proofs.Common.{◌≡◌, drop}
use Rattle.served_link.specs.LineForms.{millis_in, read_on}
use Rattle.served_link.proofs.line_form.millis_in.Given as goal

abbrev pub invariant-loop-octet : goal.invariant-loop-octet
invariant-loop-octet l = read_on l.millis (drop l.octet-index l.seconds) ≡ millis_in l.seconds
