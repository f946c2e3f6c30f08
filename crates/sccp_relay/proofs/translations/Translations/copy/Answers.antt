use Rattle.sccp_relay.proofs.Basics.{◌∙◌, ap, leads_of}
use Rattle.sccp_relay.proofs.translations.Translations.copy.Goals as goal

pub invariant_of-result : goal.invariant_of-result
invariant_of-result c = record {
  ordered = rw (c.in_ok-rows.ensures.items, c.deref.ensures.value) c.self.invariant.ordered;
  fits = rw (c.in_ok-rows.ensures.items, c.deref.ensures.value) c.self.invariant.fits;
  rows = rw (← c.deref-2.ensures.value) c.in_ok-trie.ensures.rows;
  leads = c.in_ok-trie.ensures.leads ∙ ap leads_of c.deref-2.ensures.value;
}
