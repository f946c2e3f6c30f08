use Rattle.network_gates.proofs.Promised.{books, flows, held}
use Rattle.network_gates.proofs.laws.neighbours_keep_to_themselves.Goals as goal

pub returns-clause-books : goal.returns-clause-books
returns-clause-books c = books

pub returns-clause-flows : goal.returns-clause-flows
returns-clause-flows c = flows

pub returns-clause-held : goal.returns-clause-held
returns-clause-held c = held
