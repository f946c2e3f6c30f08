use Rattle.toml.specs.View.{table_view}
use Rattle.settings.specs.declared.key.Key.TheVariants as key
use Rattle.settings_file.proofs.Noting.{four_noted}
use Rattle.settings_file.specs.AllFaults.{array_checks, entry_checks_of, array_key, titles_checks_in}
unfoldable use Rattle.settings_file.specs.AllFaults.{arrays_checks}
use Rattle.settings_file.specs.NodeKeys.{entries_at, found_at}
use Rattle.settings_file.specs.declared.faults.arrays.Array.TheVariants.{Sets, Links, Destinations}
use Rattle.settings_file.proofs.faults.arrays.note_arrays.Goals as goal

pub returns : goal.returns
unfolding arrays_checks
returns c =
    let t = table_view c.args.table.now in
    rw (c.in_ok-note_titles.ensures, c.in_ok-note_array-3.ensures, c.in_ok-note_array-2.ensures, c.in_ok-note_array.ensures) (
    four_noted c.args.faults.now.items
    (array_checks (entry_checks_of Sets) (entries_at (array_key Sets) t))
    (array_checks (entry_checks_of Links) (entries_at (array_key Links) t))
    (array_checks (entry_checks_of Destinations) (entries_at (array_key Destinations) t))
    (titles_checks_in (found_at key.Title t))
    )
