use Rattle.link.proofs.Basics.{◌≡◌, ◌∙◌, ap, sym, refl, drop, lane_at, count_confirmed, kept_accept_answer}
use Rattle.link.proofs.Keeping.{answers-accept, keeps-accepted}
use Rattle.link.proofs.Lanes.{lane_at-dropped}
use Rattle.link.proofs.sequence.Sequence.accept.Goals as goal

pub returns-in-Ok-clause-queue_answer : goal.returns-in-Ok-clause-queue_answer
returns-in-Ok-clause-queue_answer g c = λ w q h.
    sym c.in-Ok.is ∙ c.accept_numbers.ensures.answer
    ∙ answers-accept c.args.self.now (lane_at (g.L.Lanes.lists c.args.lanes.now) c.args.lane) q c.args.fsn c.args.bsn c.args.carries h

pub returns-in-Ok-clause-queue : goal.returns-in-Ok-clause-queue
returns-in-Ok-clause-queue g c = λ w q h.
    let count : c.in-Ok.confirmed ≡ count_confirmed (kept_accept_answer c.args.self.now c.args.fsn c.args.bsn c.args.carries) =
    ap count_confirmed (sym c.in-Ok.is ∙ c.accept_numbers.ensures.answer) in
    let there = lane_at-dropped (g.L.Lanes.lists c.args.lanes.now) c.args.lane c.in-Ok.confirmed c.requires in
    rw (c.accept_numbers.ensures.counts, c.drop_front.ensures.lists, there, count)
    (keeps-accepted c.args.self.now (lane_at (g.L.Lanes.lists c.args.lanes.now) c.args.lane) q c.args.fsn c.args.bsn c.args.carries h)

pub returns-in-Err-clause-queue_answer : goal.returns-in-Err-clause-queue_answer
returns-in-Err-clause-queue_answer g c = λ w q h.
    sym c.in-Err.is ∙ c.accept_numbers.ensures.answer
    ∙ answers-accept c.args.self.now (lane_at (g.L.Lanes.lists c.args.lanes.now) c.args.lane) q c.args.fsn c.args.bsn c.args.carries h

pub returns-in-Err-clause-queue : goal.returns-in-Err-clause-queue
returns-in-Err-clause-queue g c = λ w q h.
    let fault : kept_accept_answer c.args.self.now c.args.fsn c.args.bsn c.args.carries ≡ _ =
    sym c.accept_numbers.ensures.answer ∙ c.in-Err.is in
    let whole : lane_at (g.L.Lanes.lists c.args.lanes.now) c.args.lane
    ≡ drop (count_confirmed (kept_accept_answer c.args.self.now c.args.fsn c.args.bsn c.args.carries))
    (lane_at (g.L.Lanes.lists c.args.lanes.now) c.args.lane) = rw fault refl in
    rw (c.accept_numbers.ensures.counts, whole)
    (keeps-accepted c.args.self.now (lane_at (g.L.Lanes.lists c.args.lanes.now) c.args.lane) q c.args.fsn c.args.bsn c.args.carries h)
