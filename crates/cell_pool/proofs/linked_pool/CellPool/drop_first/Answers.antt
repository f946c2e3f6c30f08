-- The first message of the list is among those that are counted.
use Rattle.cell_pool.proofs.Basics.{◌<◌, length, arith, ap, sym, ◌∙◌, Stored}
use Rattle.cell_pool.proofs.Counting.{first_management, first_user}
use Rattle.cell_pool.proofs.linked_pool.CellPool.drop_first.Goals as goal

pub overflow_sub-self : goal.overflow_sub-self
overflow_sub-self c =
    let inside : c.args.lane < length c.self.inside.lists.lists = omega (arith, c.requires, ap (λ (s : Stored). length s.lists) c.self.view_is) in
    omega (arith, c.self.invariant.managements, first_management c.self.inside.lists.lists c.args.lane c.in-Some.message.now inside c.in-Some.ensures (sym c.is_management.ensures ∙ c.if-is_management.true))

pub overflow_sub-self-else-is_management : goal.overflow_sub-self-else-is_management
overflow_sub-self-else-is_management c =
    let inside : c.args.lane < length c.self.inside.lists.lists = omega (arith, c.requires, ap (λ (s : Stored). length s.lists) c.self.view_is) in
    omega (arith, c.self.invariant.users, first_user c.self.inside.lists.lists c.args.lane c.in-Some.message.now inside c.in-Some.ensures (sym c.is_management.ensures ∙ c.if-is_management.false))
