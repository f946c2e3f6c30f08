use Rattle.settings_file.proofs.Basics.{endpoints_at}
use Rattle.settings_file.proofs.serve.endpoints.endpoints.Goals as goal

pub returns-clause-value : goal.returns-clause-value
unfolding endpoints_at
returns-clause-value c = λ s. rw c.in_ok-values.ensures (c.each_endpoint.ensures.value s)
