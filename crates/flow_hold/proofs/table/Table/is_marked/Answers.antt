-- A flow is held if its count is above 0.
use Rattle.flow_hold.proofs.Basics.{ap, sym, ◌∙◌, nat_lt, any_has}
use Rattle.flow_hold.proofs.Counting.{any-counted}
use Rattle.flow_hold.proofs.table.Table.is_marked.Goals as goal

pub returns-in-Some : goal.returns-in-Some
returns-in-Some c =
    ap (nat_lt 0) c.holders.ensures
    ∙ any-counted c.args.self.now.rows c.in-Some.flow
    ∙ ap (any_has c.args.self.now) (sym c.in-Some.is ∙ c.flow.ensures)
