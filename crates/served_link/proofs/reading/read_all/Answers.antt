-- Octets were fed and handed in after those before.
use Rattle.std.proofs.lemmas.Result.{err_from_is_err_and}
use Rattle.served_link.proofs.Basics.{kept}
use Rattle.served_link.proofs.Handing.{read-nothing, read-more, read-broken}
use Rattle.served_link.proofs.reading.read_all.Goals as goal

pub returns-in_err-hand_in_held : goal.returns-in_err-hand_in_held
returns-in_err-hand_in_held g c =
    let sees = g.W.Watch.sees in
    let octets = c.args.octets.now in
    let err = err_from_is_err_and c.from_residual.result c.from_residual.ensures.1 in
    rw err.1 (read-broken sees kept c.args.link err.0 octets octets c.args.framer.now c.hand_in_held.new.framer _ _ _ _
    (read-nothing sees kept c.args.link octets c.args.framer.now c.hand_in_held.new.framer _ _ _ _ c.in_err-hand_in_held.ensures.handed_in) c.in_err-hand_in_held.ensures.answer)

pub loop-rest-init : goal.loop-rest-init
loop-rest-init g c = record {
  read = read-nothing g.W.Watch.sees kept c.args.link c.args.octets.now c.args.framer.now c.hand_in_held.new.framer _ _ _ _ c.in_ok-hand_in_held.ensures.handed_in;
  waits = c.in_ok-hand_in_held.ensures.answer.0;
  room = c.in_ok-hand_in_held.ensures.answer.1;
}

pub loop-rest-preserved : goal.loop-rest-preserved
loop-rest-preserved g c = record {
  read =
      read-more g.W.Watch.sees kept c.args.link c.args.octets.now c.loop-rest.rest.now c.feed-rest.result.now c.args.framer.now c.loop-rest.framer c.feed-rest.new.framer c.hand_in_held-in-loop-rest.new.framer
      _ _ _ _ _ _ c.feed-rest.ensures c.loop-rest.invariant.read c.in_ok-hand_in_held-2.ensures.handed_in;
  waits = c.in_ok-hand_in_held-2.ensures.answer.0;
  room = c.in_ok-hand_in_held-2.ensures.answer.1;
}

pub returns-in_err-hand_in_held-2 : goal.returns-in_err-hand_in_held-2
returns-in_err-hand_in_held-2 g c =
    let sees = g.W.Watch.sees in
    let err = err_from_is_err_and c.from_residual-in_err-hand_in_held-2.result c.from_residual-in_err-hand_in_held-2.ensures.1 in
    rw err.1 (read-broken sees kept c.args.link err.0 c.args.octets.now c.feed-rest.result.now c.args.framer.now c.hand_in_held-in-loop-rest.new.framer _ _ _ _
    (read-more sees kept c.args.link c.args.octets.now c.loop-rest.rest.now c.feed-rest.result.now c.args.framer.now c.loop-rest.framer c.feed-rest.new.framer c.hand_in_held-in-loop-rest.new.framer
    _ _ _ _ _ _ c.feed-rest.ensures c.loop-rest.invariant.read c.in_err-hand_in_held-2.ensures.handed_in)
    c.in_err-hand_in_held-2.ensures.answer)
