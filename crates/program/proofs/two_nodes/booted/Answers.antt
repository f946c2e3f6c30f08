use Rattle.std.proofs.Common.{ap}
use Rattle.std.proofs.lemmas.Result.{IfOk-weaker}
use Rattle.exchange.specs.Calls.{Kept}
use Rattle.program.proofs.two_nodes.booted.Goals as goal

pub returns : goal.returns
returns c = IfOk-weaker c.boot.result _ _ (λ node e. ap (λ (k : Kept). k.settings) e) c.boot.ensures.exact
