use Rattle.std.proofs.Common.{◌≡◌, ℕ, List, Option, sym, subst, arith}
use Rattle.lab.specs.Hearing.{Came}
use Rattle.lab.proofs.HeardAll.{SoFar, heard-more, heard-whole}
use Rattle.lab.proofs.datagrams.hearing.hear_all.Goals as goal

pub returns-in_default-clause-whole : goal.returns-in_default-clause-whole
returns-in_default-clause-whole g c = λ a s.
    heard-whole g.W.Watch.has c.args.now c.loop-heard.heard (g.I.Incoming.coming c.args.incoming.now) (g.I.Incoming.coming c.receive.new.self) c.args.watch.now
    c.loop-heard.watch c.args.gate.now c.loop-heard.gate c.args.exchange.now c.loop-heard.exchange a s
    (subst (λ (left : Option (List Came)). SoFar g.W.Watch.has c.args.now c.loop-heard.heard (g.I.Incoming.coming c.args.incoming.now) left c.args.watch.now c.loop-heard.watch
    c.args.gate.now c.loop-heard.gate c.args.exchange.now c.loop-heard.exchange) (sym c.in_default.ensures.received) c.loop-heard.invariant)

pub loop-heard-preserved : goal.loop-heard-preserved
loop-heard-preserved g c =
    heard-more g.W.Watch.has c.args.now c.loop-heard.heard (g.I.Incoming.coming c.args.incoming.now) (g.I.Incoming.coming c.loop-heard.incoming)
    (g.I.Incoming.coming c.receive.new.self) _ c.args.watch.now c.loop-heard.watch c.hear.new.watch c.args.gate.now c.loop-heard.gate c.hear.new.self
    c.args.exchange.now c.loop-heard.exchange c.hear.new.exchange c.loop-heard.invariant c.in-Some.ensures.received.1 c.hear.ensures.kept

pub returns-clause-whole : goal.returns-clause-whole
returns-clause-whole g c = λ a s.
    let all : c.loop-heard.heard ≡ c.args.most = omega (arith, c.loop-heard-test.false, c.loop-heard.auto.heard-end) in
    heard-whole g.W.Watch.has c.args.now c.args.most (g.I.Incoming.coming c.args.incoming.now) (g.I.Incoming.coming c.loop-heard.incoming) c.args.watch.now c.loop-heard.watch
    c.args.gate.now c.loop-heard.gate c.args.exchange.now c.loop-heard.exchange a s
    (subst (λ (n : ℕ). SoFar g.W.Watch.has c.args.now n (g.I.Incoming.coming c.args.incoming.now) (g.I.Incoming.coming c.loop-heard.incoming) c.args.watch.now c.loop-heard.watch
    c.args.gate.now c.loop-heard.gate c.args.exchange.now c.loop-heard.exchange) all c.loop-heard.invariant)
