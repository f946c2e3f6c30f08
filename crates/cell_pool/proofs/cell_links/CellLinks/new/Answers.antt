-- At first no list has a cell, and none was used.
use Rattle.cell_pool.proofs.Basics.{ℕ, [], length, arith, ap, refl}
use Rattle.cell_pool.proofs.Taking.{rings-none, shared-none, marked-none}
use Rattle.cell_pool.proofs.cell_links.CellLinks.new.Goals as goal

pub invariant_of-result : goal.invariant_of-result
invariant_of-result c = record {
  shared = rw (c.in_ok-with_capacity.ensures.items, c.in_ok-empty_chains.ensures, rings-none [] c.args.rings) (shared-none c.args.rings);
  marked = rw c.in_ok-empty_chains.ensures (marked-none _ c.args.rings);
  few = omega (arith, ap (length {A = ℕ}) c.in_ok-with_capacity.ensures.items);
  room = c.in_ok-with_capacity.ensures.capacity;
  small = c.requires;
}

pub returns : goal.returns
returns c = rw (c.in_ok-with_capacity.ensures.items, c.in_ok-empty_chains.ensures, rings-none [] c.args.rings) refl
