use Rattle.std.proofs.Common.{◌≡◌, ◌∙◌, true, false, Some, None, sym, refl, subst, take, arith}
use Rattle.sctp_rules.specs.Waiting.{has_room_behind}
use Rattle.exchange_rules.specs.Exchange.{taken}
use Rattle.exchange.specs.KeptQueues.{kept}
use Rattle.sctp_gate.specs.Gates.{Gate, text_to_take, taken_all}
use Rattle.sctp_gate.proofs.Filling.{text-some, text-none, leads-full, leads-none, leads-home, fills-on, taken-fits}
use Rattle.sctp_gate.proofs.gate.Gate.take_all.Goals as goal

pub each_frame-init : goal.each_frame-init
each_frame-init g c = record { leads = λ w h t m. m; most = omega arith }

pub returns-then-not-has_room_behind : goal.returns-then-not-has_room_behind
returns-then-not-has_room_behind g c =
    leads-full g.W.Watch.has c.args.watch.now c.each_frame.watch (taken_all kept 256 0 c.args.self.now c.args.exchange.now) c.each_frame.counter c.each_frame.octets c.each_frame.self c.each_frame.exchange
    c.each_frame.invariant.leads c.each_frame-test.true
    (subst (λ (h : Gate). has_room_behind h.endpoint.state c.each_frame.octets ≡ false) c.self.view_is (sym c.has_room_behind.ensures ∙ c.if-not-has_room_behind.true))

pub returns-in-None : goal.returns-in-None
returns-in-None g c =
    leads-none g.W.Watch.has c.args.watch.now c.each_frame.watch (taken_all kept 256 0 c.args.self.now c.args.exchange.now) c.each_frame.counter c.each_frame.octets c.each_frame.self c.each_frame.exchange
    c.take.new.self c.each_frame.invariant.leads c.each_frame-test.true
    (subst (λ (h : Gate). has_room_behind h.endpoint.state c.each_frame.octets ≡ true) c.self.view_is (sym c.has_room_behind.ensures ∙ c.if-not-has_room_behind.false))
    (subst (λ (h : Gate). text_to_take kept c.each_frame.exchange h.link ≡ None) c.self.view_is (text-none _ _ _ c.in-None.ensures.kept_frame))
    (subst (λ (h : Gate). c.take.new.self ≡ taken kept c.each_frame.exchange h.link) c.self.view_is c.in-None.ensures.kept_state)

pub each_frame-preserved : goal.each_frame-preserved
each_frame-preserved g c =
    fills-on g.W.Watch.has c.args.watch.now c.each_frame.watch (taken_all kept 256 0 c.args.self.now c.args.exchange.now) c.each_frame.counter c.each_frame.octets c.each_frame.self c.each_frame.exchange
    (take c.in-Some.count c.take.new.buffer) c.give-octets.result c.take.new.self c.take.new.self c.give-octets.new.self c.give-octets.new.watch c.each_frame.invariant c.each_frame-test.true
    (subst (λ (h : Gate). has_room_behind h.endpoint.state c.each_frame.octets ≡ true) c.self.view_is (sym c.has_room_behind.ensures ∙ c.if-not-has_room_behind.false))
    (subst (λ (h : Gate). text_to_take kept c.each_frame.exchange h.link ≡ Some (take c.in-Some.count c.take.new.buffer)) c.self.view_is (text-some _ c.in-Some.count _ c.take.new.buffer c.in-Some.ensures.kept_frame))
    (subst (λ (h : Gate). c.take.new.self ≡ taken kept c.each_frame.exchange h.link) c.self.view_is c.in-Some.ensures.kept_state)
    c.give-octets.ensures.octets (taken-fits c.in-Some.count c.take.new.buffer c.in-Some.ensures.fits)
    (record { gate_is = c.give-octets.ensures.gate; exchange_is = refl; gives = c.give-octets.ensures.seen })

pub returns : goal.returns
returns g c =
    leads-home g.W.Watch.has c.args.watch.now c.each_frame.watch (taken_all kept 256 0 c.args.self.now c.args.exchange.now) c.each_frame.counter c.each_frame.octets c.each_frame.self c.each_frame.exchange
    c.each_frame.invariant.leads c.each_frame-test.false
