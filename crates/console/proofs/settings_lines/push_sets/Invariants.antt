-- The names so far, and those that are left, are the names of all.
use Rattle.std.proofs.Common.{◌≡◌, ◌≤◌, ◌+◌, ◌*◌, ◌++◌, drop, length}
use Rattle.console.specs.SettingsTexts.{set_elements}
use Rattle.console.proofs.settings_lines.push_sets.Given as goal

abbrev pub invariant-loop-set : goal.invariant-loop-set
invariant-loop-set l = record {
  text : l.rows.bytes ++ set_elements l.settings (drop l.set-index l.sets) ≡ l.fn.rows.bytes ++ set_elements l.settings l.sets;
  short : length l.rows.bytes ≤ length l.fn.rows.bytes + 64 * l.set-index;
}
