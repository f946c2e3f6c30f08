use Rattle.changeover.proofs.Keeping.{alike}
use Rattle.changeover.proofs.laws.kept_queue_completes_alike.Goals as goal

pub returns : goal.returns
returns c = alike
