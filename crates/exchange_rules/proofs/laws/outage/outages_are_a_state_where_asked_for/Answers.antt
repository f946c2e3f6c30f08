use Rattle.exchange_rules.proofs.OutageLaws.{outages-begin, outages-end, told-once, others-know, watched}
use Rattle.exchange_rules.proofs.ReadyLast.{ready-last}
use Rattle.exchange_rules.proofs.UnaskedOutages.{unasked}
use Rattle.exchange_rules.proofs.laws.outage.outages_are_a_state_where_asked_for.Goals as goal

pub returns-clause-begins : goal.returns-clause-begins
returns-clause-begins c = outages-begin

pub returns-clause-ends : goal.returns-clause-ends
returns-clause-ends c = outages-end

pub returns-clause-through : goal.returns-clause-through
returns-clause-through c = told-once

pub returns-clause-elsewhere : goal.returns-clause-elsewhere
returns-clause-elsewhere c = others-know

pub returns-clause-watched : goal.returns-clause-watched
returns-clause-watched c = watched

pub returns-clause-unasked : goal.returns-clause-unasked
returns-clause-unasked c = unasked

pub returns-clause-ready : goal.returns-clause-ready
returns-clause-ready c = ready-last
