use Rattle.sccp_relay.proofs.Basics.{refl, rules, set, All-set, StandsAt, IsRow, row_place}
use Rattle.sccp_relay.proofs.TableRows.{fine-replaced}
use Rattle.sccp_relay.proofs.RowWays.{led-anew}
use Rattle.sccp_relay.proofs.translations.Translations.set.Goals as goal

pub invariant_of-self : goal.invariant_of-self
invariant_of-self c =
    let rows = c.self.inside.rows.items in
    let row = c.args.row in
    let at : StandsAt rows (row_place row) c.in-Ok.place = search rules in
    let fine = fine-replaced rows rows (set rows c.in-Ok.place row) (row_place row) c.in-Ok.place row c.self.invariant.ordered c.self.invariant.fits refl at refl refl in
    record {
      ordered = fine.ordered;
      fits = fine.fits;
      rows = All-set IsRow rows c.in-Ok.place row c.replace.ensures.row c.self.invariant.rows;
      leads = led-anew rows c.in-Ok.place row _ _ c.self.invariant.ordered at c.self.invariant.leads c.replace.ensures.replaced;
    }
