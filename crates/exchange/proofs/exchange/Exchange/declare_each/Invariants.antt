-- As many links are looked at as the loop has visited.
use Rattle.exchange.proofs.Basics.{◌≡◌, false, slice_index_or, with_node, kept, declare_each, holders}
use Rattle.exchange.proofs.exchange.Exchange.declare_each.Given as goal

abbrev pub invariant-loop-other : goal.invariant-loop-other
invariant-loop-other l = record {
  holders : l.holders ≡ holders kept l.fn.self.settings l.link (λ o. slice_index_or l.loses o false) l.other l.fn.self.node;
  state : l.self ≡ with_node l.fn.self (declare_each kept l.fn.self.settings l.link (λ o. slice_index_or l.loses o false) l.other l.fn.self.node);
}
