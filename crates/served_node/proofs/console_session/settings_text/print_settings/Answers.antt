-- One part more.
use Rattle.std.proofs.Common.{◌≡◌, ◌<◌, List, ℕ, length, ◌∙◌, arith}
use Rattle.std.specs.Prelude.{slice_get}
use Rattle.console.specs.declared.settings_part.TheConstants.{SETTINGS_PARTS}
use Rattle.served_node.specs.Listings.{part_text}
use Rattle.script.proofs.Shown.{on-error}
use Rattle.served_node.proofs.Counted.{texts-next, texts-broken}
use Rattle.served_node.proofs.console_session.settings_text.print_settings.Goals as goal

pub loop-k-preserved : goal.loop-k-preserved
loop-k-preserved g c =
    let text = (λ (k : ℕ). part_text c.args.points c.args.exchange.now (slice_get SETTINGS_PARTS.now k)) in
    let w0 = (g.W.Sink.output c.args.writer.now).written in
    let w1 = (g.W.Sink.output c.loop-k.writer).written in
    let w2 = (g.W.Sink.output c.print_part.new.writer).written in
    record {
      written = texts-next text c.loop-k.k w0 w1 w2 c.loop-k.invariant.written c.in_ok-print_part.ensures.all;
      failures = c.in_ok-print_part.ensures.counted ∙ c.loop-k.invariant.failures;
    }

pub returns-in_err-print_part-clause-first : goal.returns-in_err-print_part-clause-first
returns-in_err-print_part-clause-first g c =
    let text = (λ (k : ℕ). part_text c.args.points c.args.exchange.now (slice_get SETTINGS_PARTS.now k)) in
    let w0 = (g.W.Sink.output c.args.writer.now).written in
    let w1 = (g.W.Sink.output c.loop-k.writer).written in
    let w2 = (g.W.Sink.output c.print_part.new.writer).written in
    let within : c.loop-k.k < length SETTINGS_PARTS.now = c.loop-k-test.true in
    on-error _ c.from_residual.result
    (texts-broken text c.loop-k.k (length SETTINGS_PARTS.now) w0 w1 w2 within c.loop-k.invariant.written c.in_err-print_part.ensures.first)
