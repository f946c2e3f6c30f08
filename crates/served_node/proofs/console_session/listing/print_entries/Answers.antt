-- One entry more.
use Rattle.std.proofs.Common.{◌≡◌, ◌<◌, List, ℕ, length, ◌∙◌, arith}
use Rattle.served_node.specs.Listings.{entry_of, length_of}
use Rattle.script.proofs.Shown.{on-error}
use Rattle.served_node.proofs.Counted.{texts-next, texts-broken}
use Rattle.served_node.proofs.console_session.listing.print_entries.Goals as goal

pub loop-k-preserved : goal.loop-k-preserved
loop-k-preserved g c =
    let text = entry_of c.args.points c.args.tick_ms c.args.links.now c.args.counters.now.links c.args.exchange.now c.args.listing.now in
    let w0 = (g.W.Sink.output c.args.writer.now).written in
    let w1 = (g.W.Sink.output c.loop-k.writer).written in
    let w2 = (g.W.Sink.output c.print_entry.new.writer).written in
    record {
      written = texts-next text c.loop-k.k w0 w1 w2 c.loop-k.invariant.written c.in_ok-print_entry.ensures.all;
      failures = c.in_ok-print_entry.ensures.counted ∙ c.loop-k.invariant.failures;
    }

pub returns-in_err-print_entry-clause-first : goal.returns-in_err-print_entry-clause-first
returns-in_err-print_entry-clause-first g c =
    let text = entry_of c.args.points c.args.tick_ms c.args.links.now c.args.counters.now.links c.args.exchange.now c.args.listing.now in
    let w0 = (g.W.Sink.output c.args.writer.now).written in
    let w1 = (g.W.Sink.output c.loop-k.writer).written in
    let w2 = (g.W.Sink.output c.print_entry.new.writer).written in
    let within : c.loop-k.k < length_of c.args.exchange.now c.args.listing.now = omega (arith, c.loop-k-test.true, c.length_of-k-end.ensures) in
    on-error _ c.from_residual.result
    (texts-broken text c.loop-k.k (length_of c.args.exchange.now c.args.listing.now) w0 w1 w2 within c.loop-k.invariant.written c.in_err-print_entry.ensures.first)
