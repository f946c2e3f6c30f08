-- What holds from end to end of the abstract network, and what holds of each two of its nodes that a link joins.
use Rattle.neighbour_rules.specs.Awaiting.{AwaitsNothingInVain}
use Rattle.neighbour_rules.specs.Laws.{AreFinal, MovesLacked, NoneIsLeft}
use Rattle.network_rules.specs.Links.{IsCarriedBetween}
use Rattle.network_rules.proofs.Links.{carry, final, lacked, none-stays}
use Rattle.neighbour_rules.specs.Promises.{AreBooked}
use Rattle.pair_rules.specs.Promises.{BothWays}
use Rattle.network_rules.proofs.Promised.{awaited, books}
use Rattle.network_world.proofs.EndToEnd.{come-to-each, each-accounted, shared-on}
use Rattle.network_world.proofs.NetworkLaws.{between, law, never-held-in-vain}
use Rattle.network_world.proofs.network.Network.laws.Goals as goal

pub returns-clause-accounted : goal.returns-clause-accounted
returns-clause-accounted c = λ w s all. each-accounted c.args.self.now w s all

pub returns-clause-to_each : goal.returns-clause-to_each
returns-clause-to_each c = λ w s all. come-to-each c.args.self.now w s all

pub returns-clause-shared : goal.returns-clause-shared
returns-clause-shared c = shared-on

pub returns-clause-carried : goal.returns-clause-carried
returns-clause-carried c = λ w s near far a. between c.args.self.now w s near far a IsCarriedBetween carry

pub returns-clause-none_left : goal.returns-clause-none_left
returns-clause-none_left c = λ w s near far a. between c.args.self.now w s near far a NoneIsLeft none-stays

pub returns-clause-final_number : goal.returns-clause-final_number
returns-clause-final_number c = λ w s near far a. between c.args.self.now w s near far a AreFinal final

pub returns-clause-moved : goal.returns-clause-moved
returns-clause-moved c = λ w s near far a. between c.args.self.now w s near far a MovesLacked lacked

pub returns-clause-awaited : goal.returns-clause-awaited
returns-clause-awaited c = λ w s near far a. between c.args.self.now w s near far a AwaitsNothingInVain awaited

pub returns-clause-held : goal.returns-clause-held
returns-clause-held c = λ w s near far a. never-held-in-vain c.args.self.now w s near far a

pub returns-clause-booked : goal.returns-clause-booked
returns-clause-booked c = λ w s near far a. law c.args.self.now w s near far a (BothWays AreBooked) books
