-- The row of one more place.
use Rattle.std.proofs.Common.{◌≡◌, ◌<◌, List, ℕ, length, ◌∙◌, ap, subst, arith}
use Rattle.std.specs.Io.KnownBytes.{Appends}
use Rattle.served_node.specs.Alarmed.{row_at}
use Rattle.script.specs.Streams.{AppendsFirst}
use Rattle.served_node.proofs.Counted.{texts-next, texts-broken}
use Rattle.script.proofs.Shown.{on-error}
use Rattle.served_node.proofs.console_session.alarming.print_raised.Goals as goal

pub loop-place-preserved : goal.loop-place-preserved
loop-place-preserved g c =
    let text = row_at c.args.points c.args.exchange.now.settings c.args.alarms.now in
    let w0 = (g.W.Sink.output c.args.writer.now).written in
    let w1 = (g.W.Sink.output c.loop-place.writer).written in
    let w2 = (g.W.Sink.output c.print_alarm.new.writer).written in
    let shown = ap (λ settings. row_at c.args.points settings c.args.alarms.now c.loop-place.place) c.settings-settings.ensures.kept_settings in
    record {
      written = texts-next text c.loop-place.place w0 w1 w2 c.loop-place.invariant.written (subst (λ (xs : List ℕ). Appends w1 w2 xs) shown c.in_ok-print_alarm.ensures.all);
      failures = c.in_ok-print_alarm.ensures.counted ∙ c.loop-place.invariant.failures;
    }

pub returns-in_err-print_alarm-clause-first : goal.returns-in_err-print_alarm-clause-first
returns-in_err-print_alarm-clause-first g c =
    let text = row_at c.args.points c.args.exchange.now.settings c.args.alarms.now in
    let w0 = (g.W.Sink.output c.args.writer.now).written in
    let w1 = (g.W.Sink.output c.loop-place.writer).written in
    let w2 = (g.W.Sink.output c.print_alarm.new.writer).written in
    let shown = ap (λ settings. row_at c.args.points settings c.args.alarms.now c.loop-place.place) c.settings-settings.ensures.kept_settings in
    let within : c.loop-place.place < length c.args.alarms.now = omega (arith, c.loop-place-test.true, c.places-place-end.ensures) in
    on-error _ c.from_residual.result
    (texts-broken text c.loop-place.place (length c.args.alarms.now) w0 w1 w2 within c.loop-place.invariant.written
    (subst (λ (xs : List ℕ). AppendsFirst w1 w2 xs) shown c.in_err-print_alarm.ensures.first))
