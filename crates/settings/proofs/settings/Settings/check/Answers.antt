use Rattle.settings.proofs.Well.{well_of}
use Rattle.settings.proofs.settings.Settings.check.Goals as goal

pub invariant_of-result : goal.invariant_of-result
invariant_of-result c = record {
  well = rw c.in_ok-checked.ensures.settings (well_of c.args.draft c.in_ok-checked.ensures.well);
  indexed = c.in_ok-checked.ensures.points;
}
