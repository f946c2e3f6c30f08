use Rattle.script.proofs.Basics.{arith}
use Rattle.script.proofs.Octets.{octets_tested}
use Rattle.script.proofs.hex_octets.is_octets.Goals as goal

pub returns : goal.returns
returns c = octets_tested c.args.text.now _ (omega arith) (omega arith) (omega arith) c.are_hex_digits.ensures
