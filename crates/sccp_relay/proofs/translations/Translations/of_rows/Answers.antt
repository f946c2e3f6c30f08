use Rattle.sccp_relay.proofs.Basics.{◌∙◌, arith, length, ap, leads_of}
use Rattle.sccp_relay.proofs.SortedRows.{ordered-table}
use Rattle.sccp_relay.proofs.translations.Translations.of_rows.Goals as goal

pub invariant_of-result : goal.invariant_of-result
invariant_of-result c = record {
  ordered = rw c.sort.ensures.table (ordered-table c.in_ok-rows.rows.items);
  fits = omega (arith, c.sort.ensures.count, ap length c.in_ok-rows.ensures.items);
  rows = rw (← c.deref.ensures.value) c.in_ok-trie.ensures.rows;
  leads = c.in_ok-trie.ensures.leads ∙ ap leads_of c.deref.ensures.value;
}
