use Rattle.exchange_rules.proofs.FarPoints.{from-afar, is-heard}
use Rattle.exchange_rules.proofs.laws.peers.only_adjacent_points_manage.Goals as goal

pub returns-clause-afar : goal.returns-clause-afar
returns-clause-afar c = from-afar

pub returns-clause-upu : goal.returns-clause-upu
returns-clause-upu c = is-heard
