use Rattle.std.proofs.Common.{arith, rules}
use Rattle.sccp_relay.proofs.TableRows.{fine-added}
use Rattle.sccp_relay.proofs.RowWays.{leads-put, all-put, when_ok}
use Rattle.sccp_relay.proofs.translations.Translations.add.Goals as goal

pub invariant_of-self : goal.invariant_of-self
invariant_of-self c =
    let row = c.args.row in
    let fine = fine-added c.self.inside.rows.items c.deref.result.now c.put.new.rows.items _ c.in-Err.place row _ c.self.invariant.ordered (omega arith) c.deref.ensures.value c.in-Err.ensures.free (search rules) c.put.ensures.rows in
    record {
      ordered = fine.ordered;
      fits = fine.fits;
      rows = all-put c.self.inside.rows.items c.put.new.rows.items c.in-Err.place row _ c.put.ensures.rows c.self.invariant.rows (λ ok. when_ok c.put.result ok c.put.ensures.row);
      leads = leads-put c.self.inside.rows.items c.put.new.rows.items c.in-Err.place row _ _ _ c.put.ensures.rows c.self.invariant.leads c.put.ensures.trie (λ ok. when_ok c.put.result ok c.put.ensures.free);
    }
