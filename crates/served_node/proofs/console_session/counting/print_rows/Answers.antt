-- The counters of one more link.
use Rattle.std.proofs.Common.{◌≡◌, ◌<◌, List, ℕ, length, ◌∙◌, Option, ap, slice_get, subst, arith}
use Rattle.std.specs.Io.KnownBytes.{Appends}
use Rattle.served_link.specs.declared.row.LinkCounters.{LinkCounters}
use Rattle.console.specs.Names.{name_in}
use Rattle.served_node.specs.Counters.{row_text}
use Rattle.script.specs.Streams.{AppendsFirst}
use Rattle.served_node.proofs.Counted.{texts-next, texts-broken}
use Rattle.script.proofs.Shown.{on-error}
use Rattle.served_node.proofs.console_session.counting.print_rows.Goals as goal

-- the name of the link, and its counters
row-shown : (name named : List ℕ) (row there : Option LinkCounters) → name ≡ named → row ≡ there → row_text name row ≡ row_text named there
row-shown name named row there n r = ap (λ (xs : List ℕ). row_text xs row) n ∙ ap (row_text named) r

pub loop-k-preserved : goal.loop-k-preserved
loop-k-preserved g c =
    let text = λ (k : ℕ). row_text (name_in c.args.exchange.now.settings k) (slice_get c.args.counters.now.links k) in
    let w0 = (g.W.Sink.output c.args.writer.now).written in
    let w1 = (g.W.Sink.output c.loop-k.writer).written in
    let w2 = (g.W.Sink.output c.print_row.new.writer).written in
    let named = c.link_name.ensures.name ∙ ap (λ settings. name_in settings c.new-link.result) c.settings-settings.ensures.kept_settings in
    let shown = row-shown _ _ _ _ named c.row.ensures ∙ ap text c.new-link.ensures in
    record {
      written = texts-next text c.loop-k.k w0 w1 w2 c.loop-k.invariant.written (subst (λ (xs : List ℕ). Appends w1 w2 xs) shown c.in_ok-print_row.ensures.all);
      failures = c.in_ok-print_row.ensures.counted ∙ c.loop-k.invariant.failures;
    }

pub returns-in_err-print_row-clause-first : goal.returns-in_err-print_row-clause-first
returns-in_err-print_row-clause-first g c =
    let text = λ (k : ℕ). row_text (name_in c.args.exchange.now.settings k) (slice_get c.args.counters.now.links k) in
    let w0 = (g.W.Sink.output c.args.writer.now).written in
    let w1 = (g.W.Sink.output c.loop-k.writer).written in
    let w2 = (g.W.Sink.output c.print_row.new.writer).written in
    let named = c.link_name.ensures.name ∙ ap (λ settings. name_in settings c.new-link.result) c.settings-settings.ensures.kept_settings in
    let shown = row-shown _ _ _ _ named c.row.ensures ∙ ap text c.new-link.ensures in
    let count = ap (λ settings. length settings.links) c.settings-settings.ensures.kept_settings in
    let within : c.loop-k.k < length c.args.exchange.now.settings.links = omega (arith, c.loop-k-test.true, c.link_count-k-end.ensures.value, count) in
    on-error _ c.from_residual.result
    (texts-broken text c.loop-k.k (length c.args.exchange.now.settings.links) w0 w1 w2 within c.loop-k.invariant.written
    (subst (λ (xs : List ℕ). AppendsFirst w1 w2 xs) shown c.in_err-print_row.ensures.first))
