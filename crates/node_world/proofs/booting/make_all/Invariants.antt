-- The nodes made of those so far.
use Rattle.std.proofs.Common.{◌≡◌, ◌++◌, length}
use Rattle.std.specs.Vec.Iter.{into_iter_items, into_iter_len}
use Rattle.node_world.specs.Making.{HavePortsAll, SuitsAll, first_nodes}
use Rattle.node_world.proofs.booting.make_all.Given as goal

abbrev pub invariant-loop-making : goal.invariant-loop-making
invariant-loop-making l = record {
  all : l.yielded ++ into_iter_items l.making-iterator ≡ into_iter_items l.initial.making-iterator;
  first : l.made.items ≡ first_nodes l.yielded;
  ports : HavePortsAll l.yielded;
  suit : SuitsAll l.yielded;
  many : into_iter_len l.making-iterator ≡ length (into_iter_items l.making-iterator);
}
