use Rattle.toml.specs.View.{table_view}
use Rattle.settings_file.proofs.Basics.{[]}
use Rattle.settings_file.proofs.Noting.{four_noted}
use Rattle.settings_file.specs.AllFaults.{leading_checks, service_checks}
unfoldable use Rattle.settings_file.specs.AllFaults.{reading_checks, reading_faults, timers_checks, arrays_checks}
use Rattle.settings_file.proofs.faults.faults_of_reading.Goals as goal

pub returns : goal.returns
unfolding reading_checks reading_faults
returns c =
    let t = table_view c.args.document.now in
    rw (c.in_ok-note_arrays.ensures, c.in_ok-note_timers.ensures, c.in_ok-note_services.ensures, c.in_ok-note_leading.ensures, c.new-faults.ensures.items)
    (four_noted [] (leading_checks t) (service_checks t) (timers_checks t) (arrays_checks t))
