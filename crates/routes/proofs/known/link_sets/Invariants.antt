use Rattle.routes.proofs.Basics.{◌≡◌, ◌≤◌, vec_len, vec_capacity, first_sets}
use Rattle.routes.proofs.known.link_sets.Given as goal

abbrev pub invariant-loop-set : goal.invariant-loop-set
invariant-loop-set l = record {
  sets : l.made.items ≡ first_sets l.set l.fn.links;
  count : vec_len l.made ≡ l.set;
  room : l.fn.sets ≤ vec_capacity l.made;
}
