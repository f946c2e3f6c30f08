use Rattle.sccp_relay.proofs.Trees.{empty-tree}
use Rattle.sccp_relay.proofs.trie.Trie.new.Goals as goal

pub invariant_of-result : goal.invariant_of-result
invariant_of-result c = record { tree = rw c.new.ensures.items empty-tree }
