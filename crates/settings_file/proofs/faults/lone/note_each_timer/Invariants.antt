use Rattle.settings_file.proofs.Basics.{◌≡◌, drop}
use Rattle.std.specs.Option.{option_map}
use Rattle.toml.specs.View.{table_view}
use Rattle.settings_file.specs.AllFaults.{each_timer}
use Rattle.settings_file.specs.Noted.{all_noted}
use Rattle.settings_file.proofs.faults.lone.note_each_timer.Given as goal

abbrev pub invariant-loop-i : goal.invariant-loop-i
invariant-loop-i l = all_noted l.faults.items (each_timer l.clock (option_map (λ table. table_view table.now) l.table) (drop l.i l.timers)) ≡ all_noted l.fn.faults.items (each_timer l.clock (option_map (λ table. table_view table.now) l.table) l.timers)
