use Rattle.sccp_relay.proofs.Basics.{◌≡◌, ◌<◌, length, take, Some, child, reached, root}
use Rattle.sccp_relay.proofs.trie.node_of.Given as goal

abbrev pub invariant-loop-digit : goal.invariant-loop-digit
invariant-loop-digit l = (reached (child l.nodes) root (take l.digit-index l.digits) ≡ Some l.at) × (l.at < length l.nodes)
