use Rattle.sccp_relay.proofs.Basics.{◌≡◌, List, ℕ, length, sym, ap, ◌∙◌, arith, DigitMap, without, way_of, leads_of}
use Rattle.sccp_relay.proofs.TableRows.{fine-removed}
use Rattle.sccp_relay.proofs.RowWays.{all-removed, leads-removed}
use Rattle.sccp_relay.proofs.translations.Translations.remove.Goals as goal

pub invariant_of-self : goal.invariant_of-self
invariant_of-self c =
    let rows = c.self.inside.rows.items in
    let row = c.remove-row.result in
    let way : c.as_slice.result.now ≡ way_of row = c.as_slice.ensures.value ∙ c.way_of.ensures.way in
    let fine = fine-removed rows c.deref.result.now c.remove-row.new.self.items _ c.in-Ok.place c.self.invariant.ordered c.self.invariant.fits c.deref.ensures.value c.in-Ok.ensures.found c.remove-row.ensures.items in
    record {
      ordered = fine.ordered;
      fits = fine.fits;
      rows = rw c.remove-row.ensures.items (all-removed rows c.in-Ok.place c.self.invariant.rows);
      leads = c.remove.ensures.removed ∙ ap (λ (map : DigitMap). without map c.as_slice.result.now) c.self.invariant.leads
          ∙ ap (λ (ds : List ℕ). without (leads_of rows) ds) way
          ∙ sym (leads-removed rows c.in-Ok.place row c.self.invariant.ordered (omega (arith, c.in-Ok.ensures.found.within, ap length c.deref.ensures.value)) (sym c.remove-row.ensures.value))
          ∙ ap leads_of (sym c.remove-row.ensures.items);
    }
