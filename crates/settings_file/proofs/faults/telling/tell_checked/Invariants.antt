use Rattle.settings_file.proofs.Basics.{◌≡◌, drop, map}
use Rattle.std.specs.Prelude.{filter}
use Rattle.settings_file.specs.AllFaults.{checked_fault}
use Rattle.settings_file.specs.Following.{stands}
use Rattle.settings_file.specs.ToldFaults.{all_told}
use Rattle.settings_file.proofs.faults.telling.tell_checked.Given as goal

abbrev pub invariant-loop-i : goal.invariant-loop-i
invariant-loop-i l =
    all_told l.told.items (map checked_fault (filter (stands l.hidden.names l.hidden.routes) (drop l.i l.found)))
    ≡ all_told l.fn.told.items (map checked_fault (filter (stands l.hidden.names l.hidden.routes) l.found))
