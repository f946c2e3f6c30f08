-- The line of one more link.
use Rattle.std.proofs.Common.{◌≡◌, ◌<◌, List, ℕ, length, ◌∙◌, ap, subst, arith}
use Rattle.std.specs.Prelude.{Bool}
use Rattle.std.specs.Io.KnownBytes.{Appends}
use Rattle.console.specs.Names.{name_in}
use Rattle.served_node.specs.Captured.{captured_line, is_captured}
use Rattle.script.specs.Streams.{AppendsFirst}
use Rattle.served_node.proofs.Counted.{texts-next, texts-broken}
use Rattle.script.proofs.Shown.{on-error}
use Rattle.served_node.proofs.console_session.capturing.print_links.Goals as goal

-- the name of the link, and whether it is captured
line-shown : (name named : List ℕ) (is_on there : Bool) → name ≡ named → is_on ≡ there →
    captured_line name is_on ≡ captured_line named there
line-shown name named is_on there n r = ap (λ (xs : List ℕ). captured_line xs is_on) n ∙ ap (captured_line named) r

pub loop-k-preserved : goal.loop-k-preserved
loop-k-preserved g c =
    let text = λ (k : ℕ). captured_line (name_in c.args.exchange.now.settings k) (is_captured k c.args.captured.now) in
    let w0 = (g.W.Sink.output c.args.writer.now).written in
    let w1 = (g.W.Sink.output c.loop-k.writer).written in
    let w2 = (g.W.Sink.output c.print_link.new.writer).written in
    let named = c.link_name.ensures.name ∙ ap (λ settings. name_in settings c.new-link.result) c.settings-settings.ensures.kept_settings in
    let shown = line-shown _ _ _ _ named c.has.ensures ∙ ap text c.new-link.ensures in
    record {
      written = texts-next text c.loop-k.k w0 w1 w2 c.loop-k.invariant.written (subst (λ (xs : List ℕ). Appends w1 w2 xs) shown c.in_ok-print_link.ensures.all);
      failures = c.in_ok-print_link.ensures.counted ∙ c.loop-k.invariant.failures;
    }

pub returns-in_err-print_link-clause-first : goal.returns-in_err-print_link-clause-first
returns-in_err-print_link-clause-first g c =
    let text = λ (k : ℕ). captured_line (name_in c.args.exchange.now.settings k) (is_captured k c.args.captured.now) in
    let w0 = (g.W.Sink.output c.args.writer.now).written in
    let w1 = (g.W.Sink.output c.loop-k.writer).written in
    let w2 = (g.W.Sink.output c.print_link.new.writer).written in
    let named = c.link_name.ensures.name ∙ ap (λ settings. name_in settings c.new-link.result) c.settings-settings.ensures.kept_settings in
    let shown = line-shown _ _ _ _ named c.has.ensures ∙ ap text c.new-link.ensures in
    let count = ap (λ settings. length settings.links) c.settings-settings.ensures.kept_settings in
    let within : c.loop-k.k < length c.args.exchange.now.settings.links = omega (arith, c.loop-k-test.true, c.link_count-k-end.ensures.value, count) in
    on-error _ c.from_residual.result
    (texts-broken text c.loop-k.k (length c.args.exchange.now.settings.links) w0 w1 w2 within c.loop-k.invariant.written
    (subst (λ (xs : List ℕ). AppendsFirst w1 w2 xs) shown c.in_err-print_link.ensures.first))
