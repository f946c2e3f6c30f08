use Rattle.network_gates.proofs.Reading.{all-read}
use Rattle.network_gates.proofs.laws.octets_of_gates_read_back.Goals as goal

pub returns : goal.returns
returns c = all-read
