use Rattle.routes.proofs.Basics.{◌≡◌, ◌≤◌, array_vec_len, links_below}
use Rattle.routes.proofs.link_set.LinkSet.of.Given as goal

abbrev pub invariant-loop-slc : goal.invariant-loop-slc
invariant-loop-slc l = record {
  links : l.members.items ≡ links_below l.slc l.fn.links l.fn.set;
  count : array_vec_len l.members ≤ l.slc;
}
