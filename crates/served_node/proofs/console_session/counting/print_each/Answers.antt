-- One more line.
use Rattle.std.proofs.Common.{List, ℕ, length, slice_get, subst, ◌∙◌}
use Rattle.std.specs.Io.KnownBytes.{Appends}
use Rattle.served_node.specs.Counters.{counter_at}
use Rattle.script.specs.Streams.{AppendsFirst}
use Rattle.served_node.proofs.Counted.{texts-next, texts-broken, counter-shown}
use Rattle.script.proofs.Shown.{on-error}
use Rattle.served_node.proofs.console_session.counting.print_each.Goals as goal

pub loop-k-preserved : goal.loop-k-preserved
loop-k-preserved g c =
    let text = λ (k : ℕ). counter_at c.args.name.now c.args.row.now (slice_get c.args.counters.now k) in
    let w0 = (g.W.Sink.output c.args.writer.now).written in
    let w1 = (g.W.Sink.output c.loop-k.writer).written in
    let w2 = (g.W.Sink.output c.print_counter.new.writer).written in
    let shown = counter-shown c.args.name.now c.args.row.now c.args.counters.now c.loop-k.k c.get.result c.loop-k-test.true c.get.ensures in
    record {
      written = texts-next text c.loop-k.k w0 w1 w2 c.loop-k.invariant.written (subst (λ (xs : List ℕ). Appends w1 w2 xs) shown c.in_ok-print_counter.ensures.all);
      failures = c.in_ok-print_counter.ensures.counted ∙ c.loop-k.invariant.failures;
    }

pub returns-in_err-print_counter-clause-first : goal.returns-in_err-print_counter-clause-first
returns-in_err-print_counter-clause-first g c =
    let text = λ (k : ℕ). counter_at c.args.name.now c.args.row.now (slice_get c.args.counters.now k) in
    let w0 = (g.W.Sink.output c.args.writer.now).written in
    let w1 = (g.W.Sink.output c.loop-k.writer).written in
    let w2 = (g.W.Sink.output c.print_counter.new.writer).written in
    let shown = counter-shown c.args.name.now c.args.row.now c.args.counters.now c.loop-k.k c.get.result c.loop-k-test.true c.get.ensures in
    on-error _ c.from_residual.result
    (texts-broken text c.loop-k.k (length c.args.counters.now) w0 w1 w2 c.loop-k-test.true c.loop-k.invariant.written
    (subst (λ (xs : List ℕ). AppendsFirst w1 w2 xs) shown c.in_err-print_counter.ensures.first))
