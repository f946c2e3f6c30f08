use Rattle.timers.proofs.Keys.{one_name}
use Rattle.timers.proofs.laws.keys_tell_names_apart.Goals as goal

pub returns : goal.returns
returns c = one_name
