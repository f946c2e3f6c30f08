-- A frame was taken after those before; no further one was.
use Rattle.served_link.proofs.Basics.{◌∙◌, sym, take, kept, has_room, pending_in, both_ways}
use Rattle.served_link.proofs.TakenFrames.{text-some, text-none, takes-more, last-asked, last-full}
use Rattle.served_link.proofs.filling.fill_all.Goals as goal

pub loop-link-preserved : goal.loop-link-preserved
loop-link-preserved g c =
    takes-more g.W.Watch.sees kept c.args.link (take c.in-Some.count c.take.new.buffer) (pending_in c.args.outgoing.now) (pending_in c.loop-link.outgoing) (pending_in c.put.new.outgoing)
    c.args.exchange.now c.loop-link.exchange c.take.new.self c.args.watch.now c.loop-link.watch c.put.new.watch c.loop-link.invariant (sym c.has_room.ensures ∙ c.loop-link-test.true)
    (text-some _ c.in-Some.count _ c.take.new.buffer c.in-Some.ensures.kept_frame) c.put.ensures.behind c.in-Some.ensures.kept_state c.put.ensures.seen

pub returns-in-None : goal.returns-in-None
returns-in-None g c = record {
  last = c.loop-link.exchange;
  takes = c.loop-link.invariant;
  all = λ room. text-none _ _ _ c.in-None.ensures.kept_frame;
  state = c.in-None.ensures.kept_state ∙ last-asked kept c.args.link (pending_in c.loop-link.outgoing) c.loop-link.exchange (sym c.has_room.ensures ∙ c.loop-link-test.true);
}

pub returns : goal.returns
returns g c =
    let full = sym c.has_room.ensures ∙ c.loop-link-test.false in
    record {
      last = c.loop-link.exchange;
      takes = c.loop-link.invariant;
      all = λ room. absurd (both_ways (has_room (pending_in c.loop-link.outgoing)) full room);
      state = last-full kept c.args.link (pending_in c.loop-link.outgoing) c.loop-link.exchange full;
    }
