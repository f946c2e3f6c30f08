use Rattle.std.proofs.Common.{false, [], refl, sym, ap}
use Rattle.std.specs.Prelude.{is_some}
use Rattle.sctp_receiving.specs.Pieces.{Piece}
use Rattle.sctp_receiving.specs.Reading.{told_by}
use Rattle.sctp_receiving.specs.Receiver.{Receiver, next_held, take_next}
use Rattle.sctp_endpoint.specs.Inside.{endpoint_in}
use Rattle.sctp_endpoint.proofs.Draining.{none-held, nothing-next, stops-there, is-held, step-does, next-does}
use Rattle.sctp_endpoint.proofs.endpoint.Endpoint.take_next.Goals as goal

pub returns-in-None-clause-does : goal.returns-in-None-clause-does
returns-in-None-clause-does g c =
    let r = c.self.inside.receiver in
    let none = none-held (is_some (next_held r)) (take_next r).told (c.in-None.ensures.told (record { stream = 0; sequence = 0; protocol = 0; begins = false; ends = false; unordered = false; octets = [] })) in
    rw (← c.self.view_is)
    (nothing-next g.W.Watch.has c.args.watch.now (endpoint_in c.self.inside) (endpoint_in (record c.self.inside { receiver = c.take_next.new.self })) none
    (ap (λ (x : Receiver). endpoint_in (record c.self.inside { receiver = x })) c.take_next.ensures.left))

pub returns-in-None-clause-goes_on : goal.returns-in-None-clause-goes_on
returns-in-None-clause-goes_on g c =
    let r = c.self.inside.receiver in
    let none = none-held (is_some (next_held r)) (take_next r).told (c.in-None.ensures.told (record { stream = 0; sequence = 0; protocol = 0; begins = false; ends = false; unordered = false; octets = [] })) in
    rw (← c.self.view_is) (sym (stops-there (endpoint_in c.self.inside).settings (endpoint_in c.self.inside).state none))

pub returns-in-Some-clause-does : goal.returns-in-Some-clause-does
returns-in-Some-clause-does g c =
    let r = c.self.inside.receiver in
    let e = endpoint_in c.self.inside in
    let p : Piece = record { stream = 0; sequence = 0; protocol = 0; begins = false; ends = false; unordered = false; octets = [] } in
    let told = told_by p c.take_next.new.buffer c.in-Some.told in
    let held = is-held (is_some (next_held r)) told (take_next r).told (c.in-Some.ensures.told p) in
    rw (← c.self.view_is) (next-does g.W.Watch.has c.args.watch.now c.answer.new.watch e c.answer.new.self held.0
    (step-does g.W.Watch.has c.args.watch.now c.tell_user.new.watch c.answer.new.watch e (endpoint_in (record c.self.inside { receiver = c.take_next.new.self })) c.answer.new.self
    (take_next r) told c.take_next.new.self refl c.take_next.ensures.left held.1 c.tell_user.ensures (c.answer.ensures p c.take_next.new.buffer)))
