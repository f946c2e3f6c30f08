-- The flows that the link takes over are those that it took over before.
use Rattle.std.proofs.Common.{slice_index_or, false}
use Rattle.exchange.proofs.Returning.{taken_back}
use Rattle.exchange.proofs.exchange.Exchange.change_back.Goals as goal

pub returns : goal.returns
returns c =
    taken_back c.args.self.now c.declare_each-holders.new.self c.hold_changes.new.self c.args.link
    (λ o. slice_index_or c.losing-loses.result o false) c.declare_each-holders.result
    c.losing-loses.ensures.places c.losing-loses.ensures.losing c.declare_each-holders.ensures.holders c.declare_each-holders.ensures.state c.hold_changes.ensures
