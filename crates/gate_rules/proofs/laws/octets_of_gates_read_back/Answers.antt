use Rattle.gate_rules.proofs.Reading.{all-read}
use Rattle.gate_rules.proofs.laws.octets_of_gates_read_back.Goals as goal

pub returns : goal.returns
returns c = all-read
