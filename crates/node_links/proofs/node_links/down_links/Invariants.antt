use Rattle.node_links.proofs.Basics.{◌≡◌, replicate, down_link}
use Rattle.node_links.proofs.node_links.down_links.Given as goal

-- as many as the loop has visited
abbrev pub invariant-loop-index : goal.invariant-loop-index
invariant-loop-index l = l.links.items ≡ replicate l.index down_link
