use Rattle.sccp_relay.proofs.Basics.{◌≡◌, ◌<◌, length, take, Some, longest_within, child, reached, stored_from}
use Rattle.sccp_relay.proofs.trie.longest_from.Given as goal

abbrev pub invariant-loop-count : goal.invariant-loop-count
invariant-loop-count l = (reached (child l.nodes) l.start (take l.count l.digits) ≡ Some l.at) × (l.at < length l.nodes)
    × (l.best ≡ longest_within (stored_from l.nodes l.start) l.digits l.count)
