use Rattle.exchange_rules.proofs.Attracted.{entered_flows_held, passed_flows_held}
use Rattle.exchange_rules.proofs.TakenBack.{taken_flows_held, taken_holds_stay}
use Rattle.exchange_rules.proofs.laws.flows_that_change_their_link_are_held.Goals as goal

pub returns-clause-entered : goal.returns-clause-entered
returns-clause-entered c = entered_flows_held

pub returns-clause-tested : goal.returns-clause-tested
returns-clause-tested c = passed_flows_held

pub returns-clause-changed : goal.returns-clause-changed
returns-clause-changed c = taken_flows_held

pub returns-clause-others : goal.returns-clause-others
returns-clause-others c = taken_holds_stay
