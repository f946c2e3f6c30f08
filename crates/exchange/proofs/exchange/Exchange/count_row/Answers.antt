-- The flows to the destination are counted, and others as they were.
use Rattle.exchange.proofs.Rooms.{viewed_row_room}
use Rattle.exchange.proofs.exchange.Exchange.count_row.Goals as goal

pub invariant_of-self : goal.invariant_of-self
invariant_of-self c =
    viewed_row_room c.self.inside c.args.self.now c.write.new.self c.recount-recount.result.sets c.saturating_add-self-inside.result c.recount-recount.result.changes c.args.destination
    c.self.invariant c.self.view_is c.requires c.recount-recount.ensures.sets c.recount-recount.ensures.changes c.write.ensures c.saturating_add-self-inside.ensures
