use Rattle.exchange_rules.proofs.Returned.{returned_so, entered_so, untested_so, passed_so}
use Rattle.exchange_rules.proofs.laws.flows_return_by_the_procedures_of_their_links.Goals as goal

pub returns-clause-returned : goal.returns-clause-returned
returns-clause-returned c = returned_so

pub returns-clause-entered : goal.returns-clause-entered
returns-clause-entered c = entered_so

pub returns-clause-untested : goal.returns-clause-untested
returns-clause-untested c = untested_so

pub returns-clause-tested : goal.returns-clause-tested
returns-clause-tested c = passed_so
