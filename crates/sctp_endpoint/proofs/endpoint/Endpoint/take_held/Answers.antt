use Rattle.std.proofs.Common.{◌-◌, ◌+◌, sym, subst, ◌∙◌}
use Rattle.sctp_rules.specs.State.{State, Done}
use Rattle.sctp_endpoint.specs.Draining.{told_next, told_held}
use Rattle.sctp_endpoint.specs.Endpoints.{Endpoint}
use Rattle.sctp_endpoint.proofs.Draining.{held-more, held-done}
use Rattle.sctp_endpoint.proofs.Growing.{next-stays}
use Rattle.sctp_endpoint.proofs.Chained.{LeadsTo, leads-on, leads-out, leads-home}
use Rattle.sctp_endpoint.proofs.endpoint.Endpoint.take_held.Goals as goal

pub returns-then-not-take_next : goal.returns-then-not-take_next
returns-then-not-take_next g c =
    let e = c.each_chunk.self in
    let all = told_held c.args.self.now.settings 256 c.args.self.now.state in
    let leads = subst (λ (d : Done). LeadsTo g.W.Watch.has c.args.watch.now c.each_chunk.watch c.args.self.now e all d) (held-more e.settings c.each_chunk.counter e.state c.each_chunk-test.true) c.each_chunk.invariant.rest in
    leads-out g.W.Watch.has c.args.watch.now c.each_chunk.watch c.take_next.new.watch c.args.self.now e c.take_next.new.self all (told_next e.settings e.state) (λ (left : State). told_held e.settings (256 - (c.each_chunk.counter + 1)) left) leads (sym c.take_next.ensures.goes_on ∙ c.if-not-take_next.true) c.take_next.ensures.does

pub each_chunk-preserved : goal.each_chunk-preserved
each_chunk-preserved g c =
    let e = c.each_chunk.self in
    let all = told_held c.args.self.now.settings 256 c.args.self.now.state in
    let leads = subst (λ (d : Done). LeadsTo g.W.Watch.has c.args.watch.now c.each_chunk.watch c.args.self.now e all d) (held-more e.settings c.each_chunk.counter e.state c.each_chunk-test.true) c.each_chunk.invariant.rest in
    let goes = sym c.take_next.ensures.goes_on ∙ c.if-not-take_next.false in
    record {
      rest = leads-on g.W.Watch.has c.args.watch.now c.each_chunk.watch c.take_next.new.watch c.args.self.now e c.take_next.new.self all (told_next e.settings e.state) (λ (x : Endpoint). told_held x.settings (256 - (c.each_chunk.counter + 1)) x.state) leads goes c.take_next.ensures.does;
      generation = rw (c.take_next.ensures.does.left_is, next-stays e.settings e.state goes) c.each_chunk.invariant.generation;
    }

pub returns : goal.returns
returns g c =
    let e = c.each_chunk.self in
    let all = told_held c.args.self.now.settings 256 c.args.self.now.state in
    let leads = subst (λ (d : Done). LeadsTo g.W.Watch.has c.args.watch.now c.each_chunk.watch c.args.self.now e all d) (held-done e.settings c.each_chunk.counter e.state c.each_chunk-test.false) c.each_chunk.invariant.rest in
    leads-home g.W.Watch.has c.args.watch.now c.each_chunk.watch c.args.self.now e all leads
