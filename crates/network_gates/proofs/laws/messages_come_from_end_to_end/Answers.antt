use Rattle.network_gates.proofs.Promised.{accounts, ends-meet}
use Rattle.network_gates.proofs.laws.messages_come_from_end_to_end.Goals as goal

pub returns-clause-all : goal.returns-clause-all
returns-clause-all c = accounts

pub returns-clause-one : goal.returns-clause-one
returns-clause-one c = ends-meet
