use Rattle.std.proofs.Common.{refl, subst}
use Rattle.exchange.specs.KeptQueues.{kept}
use Rattle.sctp_gate.specs.Doing.{done_by}
use Rattle.sctp_gate.specs.Gates.{Gate, handed}
use Rattle.sctp_gate.specs.Making.{Makes}
use Rattle.sctp_gate.proofs.gate.Gate.act_through.Goals as goal

pub returns : goal.returns
returns g c =
    let left : Gate = record {
      link = c.self.inside.link;
      tries = c.self.inside.tries;
      standing = c.do_and_hand_in.new.standing;
      endpoint = c.do_and_hand_in.new.endpoint;
    } in
    subst
    (λ (h : Gate). Makes g.W.Watch.has c.args.watch.now c.do_and_hand_in.new.watch left c.do_and_hand_in.new.exchange (handed kept c.args.now (done_by c.args.what c.args.now h.endpoint) h c.args.exchange.now))
    c.self.view_is
    (record { gate_is = rw (c.do_and_hand_in.ensures.endpoint, c.do_and_hand_in.ensures.standing) refl; exchange_is = c.do_and_hand_in.ensures.exchange; gives = c.do_and_hand_in.ensures.seen })
