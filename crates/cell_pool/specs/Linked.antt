-- How linked cells are kept: what each cell names, the lists, and the cells that are free again.
use Rattle.std.specs.Prelude.{◌<◌, ◌≤◌, ◌^◌, length, vec_capacity}
use Rattle.cell_pool.specs.Numbering.{SharesOut}
use Rattle.cell_pool.specs.Chains.{walk, rings_of, AreMarked}
use Rattle.cell_pool.specs.Links.{Linked}
use Rattle.cell_pool.specs.declared.cell_links.CellLinks.TheInside.{Inside}

abbrev pub linked_in : Inside → Linked
linked_in s = record {
  free = walk s.next.items s.spare s.free;
  rings = rings_of s.next.items s.chains.items;
  used = length s.next.items;
  total = s.total;
}

-- no cell is lost or in two lists, each list knows its last cell, and there is room for every cell
pub record IsLinked (s : Inside) : Type 0 where
  pub shared : SharesOut (walk s.next.items s.spare s.free) (rings_of s.next.items s.chains.items) (length s.next.items)
  pub marked : AreMarked (rings_of s.next.items s.chains.items) s.chains.items
  pub few : length s.next.items ≤ s.total
  pub room : s.total ≤ vec_capacity s.next
  pub small : s.total < 2 ^ 32
