use Rattle.timers.proofs.NamesOf.{names-all}
use Rattle.timers.proofs.NamesRise.{names-rise}
use Rattle.timers.proofs.laws.names_stand_in_order.Goals as goal

pub returns : goal.returns
returns c = record { rise = names-rise; all = names-all }
