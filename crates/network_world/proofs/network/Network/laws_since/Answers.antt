-- What holds of the abstract network since its books began anew.
use Rattle.network_rules.proofs.Accounted.{quiet-first}
use Rattle.network_world.proofs.LawsSince.{hold-accounted, hold-reached, kept-between, quiet-pairs, shared-after, shared-since}
use Rattle.network_world.proofs.network.Network.laws_since.Goals as goal

pub returns-clause-accounted : goal.returns-clause-accounted
returns-clause-accounted c = hold-accounted c.args.self.now

pub returns-clause-to_each : goal.returns-clause-to_each
returns-clause-to_each c = hold-reached c.args.self.now

pub returns-clause-between : goal.returns-clause-between
returns-clause-between c = kept-between c.args.self.now

pub returns-clause-quiet : goal.returns-clause-quiet
returns-clause-quiet c = quiet-pairs c.args.self.now

pub returns-clause-first : goal.returns-clause-first
returns-clause-first c = quiet-first

pub returns-clause-shared : goal.returns-clause-shared
returns-clause-shared c = shared-since

pub returns-clause-shared_after : goal.returns-clause-shared_after
returns-clause-shared_after c = shared-after
