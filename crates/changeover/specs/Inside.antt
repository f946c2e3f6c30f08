-- How the state of a changeover (`Standing`) is kept.
use Rattle.changeover.specs.Changeover.{Standing}
use Rattle.changeover.specs.declared.standing.Progress.TheInside.{Inside}

abbrev pub standing_in : Inside → Standing
standing_in s = record { incomplete = s.incomplete; awaited = s.awaited }

abbrev pub fields_of : Standing → Inside
fields_of s = record { incomplete = s.incomplete; awaited = s.awaited }
