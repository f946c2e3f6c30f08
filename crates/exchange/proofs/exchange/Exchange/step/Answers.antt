-- What a handler leaves is what the rule leaves of what is kept, and so stands for what it leaves of the abstract
-- exchange.
use Rattle.exchange.proofs.Basics.{◌∙◌, happened}
use Rattle.exchange.proofs.Standing.{stands-outcome, stands-after}
use Rattle.exchange.proofs.exchange.Exchange.step.Goals as goal

pub returns-clause-outcome : goal.returns-clause-outcome
returns-clause-outcome c = λ a s. c.happen.ensures.outcome ∙ stands-outcome (happened c.args.event.now c.happen.result) _ a s

pub returns-clause-state : goal.returns-clause-state
returns-clause-state c = λ a s. rw c.happen.ensures.state (stands-after (happened c.args.event.now c.happen.result) _ a s)
