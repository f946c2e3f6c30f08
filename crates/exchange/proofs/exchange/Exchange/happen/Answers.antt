-- The flows that changed their set are counted in the state that the event leaves.
use Rattle.exchange.proofs.Basics.{ap, ◌∙◌, State, KeptQueues}
use Rattle.exchange_rules.specs.Exchange.{leaving}
use Rattle.exchange.proofs.exchange.Exchange.happen.Goals as goal

pub returns-clause-outcome : goal.returns-clause-outcome
returns-clause-outcome c = c.apply-outcome.ensures.0

pub returns-clause-state : goal.returns-clause-state
returns-clause-state c = c.count_flows.ensures ∙ ap (λ (s : State KeptQueues). leaving s s.node) c.apply-outcome.ensures.1
