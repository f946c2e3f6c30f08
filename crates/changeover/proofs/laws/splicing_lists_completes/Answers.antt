use Rattle.changeover.proofs.Splicing.{splices}
use Rattle.changeover.proofs.laws.splicing_lists_completes.Goals as goal

pub returns : goal.returns
returns c = splices
