-- The link carries traffic as before.
use Rattle.node_links.proofs.Basics.{◌∙◌, sym, ap, carries_traffic}
use Rattle.node_links.proofs.Serving.{serving_alike}
use Rattle.node_links.proofs.node_links.NodeLinks.set_peer_busy.Goals as goal

pub invariant_of-self : goal.invariant_of-self
invariant_of-self c = record {
  serving = c.self.invariant.serving ∙ sym (serving_alike c.self.inside.states.items c.index.result c.index_mut.result.now c.set_peer_busy.new.self
      (ap carries_traffic c.set_peer_busy.ensures ∙ ap carries_traffic c.index_mut.ensures.value));
}
