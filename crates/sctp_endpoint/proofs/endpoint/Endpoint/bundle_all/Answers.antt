use Rattle.std.proofs.Common.{◌∙◌, arith}
use Rattle.sctp_sending.specs.Sending.{gone_next, next_place}
use Rattle.sctp_rules.specs.Confirming.{all_gone}
use Rattle.sctp_endpoint.proofs.Going.{turn-kept, turn-left, turn-added, stop-added, stop-left, over-added, over-left}
use Rattle.sctp_endpoint.proofs.endpoint.Endpoint.bundle_all.Goals as goal

pub loop-preserved : goal.loop-preserved
loop-preserved g c =
    let s = c.loop.self.state.association.sender in
    record {
      kept = turn-kept c.args.self.now c.loop.self c.bundle_next.new.self (gone_next s c.args.now (next_place s)) c.loop.invariant.kept c.bundle_next.ensures.left;
      left = turn-left c.loop.self c.bundle_next.new.self c.loop.counter c.args.now c.bundle_next.result c.loop-test.true c.if-not-bundle_next.false c.bundle_next.ensures.goes_on c.bundle_next.ensures.left ∙ c.loop.invariant.left;
      bundled = λ last d more.
          c.loop.invariant.bundled last d
          (turn-added g.W.Watch.has c.loop.self c.bundle_next.new.self c.loop.counter c.args.now c.bundle_next.result c.loop.watch c.bundle_next.new.watch last c.loop.draft c.bundle_next.new.draft d
          c.loop-test.true c.if-not-bundle_next.false c.bundle_next.ensures.goes_on c.bundle_next.ensures.left c.bundle_next.ensures.bundled more);
    }

pub returns-then-not-bundle_next-clause-bundled : goal.returns-then-not-bundle_next-clause-bundled
returns-then-not-bundle_next-clause-bundled g c =
    c.loop.invariant.bundled c.bundle_next.new.watch c.bundle_next.new.draft
    (stop-added g.W.Watch.has c.loop.self c.loop.counter c.args.now c.bundle_next.result c.loop.watch c.bundle_next.new.watch c.loop.draft c.bundle_next.new.draft
    c.loop-test.true c.if-not-bundle_next.true c.bundle_next.ensures.goes_on c.bundle_next.ensures.bundled)

pub returns-then-not-bundle_next-clause-left : goal.returns-then-not-bundle_next-clause-left
returns-then-not-bundle_next-clause-left g c =
    stop-left c.args.self.now c.loop.self c.bundle_next.new.self c.loop.counter c.args.now c.bundle_next.result (all_gone c.args.now c.args.self.now.state.association.sender).left
    c.loop-test.true c.if-not-bundle_next.true c.bundle_next.ensures.goes_on c.loop.invariant.kept c.bundle_next.ensures.left c.loop.invariant.left

pub returns-clause-bundled : goal.returns-clause-bundled
returns-clause-bundled g c =
    c.loop.invariant.bundled c.loop.watch c.loop.draft
    (over-added g.W.Watch.has c.loop.watch c.loop.draft c.loop.counter c.args.now c.loop.self.state.association.sender (omega (arith, c.loop-test.false)))

pub returns-clause-left : goal.returns-clause-left
returns-clause-left g c =
    over-left c.args.self.now c.loop.self c.loop.counter c.args.now (all_gone c.args.now c.args.self.now.state.association.sender).left (omega (arith, c.loop-test.false)) c.loop.invariant.kept c.loop.invariant.left
