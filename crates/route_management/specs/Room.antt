-- How what was told is kept.
use Rattle.route_management.specs.Told.{ToldTable}
use Rattle.route_management.specs.declared.told.Told.TheInside.{Inside}

abbrev pub told_in : Inside → ToldTable
told_in s = record { adjacents = s.adjacents.items; rows = s.rows.items }
