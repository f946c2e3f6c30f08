use Rattle.sccp_relay.proofs.Basics.{◌≡◌, ◌<◌, ◌≤◌, ◌+◌, ◌-◌, ◌^◌, length, take, Some, vec_len, vec_capacity, IsTree, child, reached, root, stored}
use Rattle.sccp_relay.proofs.trie.way_to.Given as goal

abbrev pub invariant-loop-digit : goal.invariant-loop-digit
invariant-loop-digit l = IsTree l.nodes.items × (l.at < length l.nodes.items)
    × (reached (child l.nodes.items) root (take l.digit-index l.digits) ≡ Some l.at)
    × (stored l.nodes.items ≡ stored l.fn.nodes.items)
    × (vec_len l.nodes + (length l.digits - l.digit-index) ≤ 2 ^ 32)
    × (vec_len l.nodes + (length l.digits - l.digit-index) ≤ vec_capacity l.nodes)
