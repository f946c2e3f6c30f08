-- The rings are empty, whatever the cells have.
use Rattle.cell_pool.proofs.Reading.{lists_at-empty}
use Rattle.cell_pool.proofs.linked_lists.LinkedLists.new.Goals as goal

pub returns : goal.returns
returns c = rw (c.in_ok-new.ensures, lists_at-empty c.in_ok-with_capacity.field-0.items c.args.lists)
