-- The head line, and then the entries.
use Rattle.std.proofs.Common.{List, ℕ, ◌++◌, ◌∙◌, subst}
use Rattle.std.specs.Prelude.{OnOk, OnErr}
use Rattle.std.specs.Io.KnownBytes.{Appends}
use Rattle.script.specs.Streams.{AppendsFirst}
use Rattle.script.proofs.Shown.{on-error}
use Rattle.served_node.specs.Listings.{entries_text, head_of}
use Rattle.served_node.proofs.Counted.{first-of-more, line-cut, line-ended}
use Rattle.served_node.proofs.console_session.listing.print_listing.Goals as goal

pub returns-in_err-write-clause-first : goal.returns-in_err-write-clause-first
returns-in_err-write-clause-first g c =
    let head = head_of c.args.listing.now in
    let entries = entries_text c.args.points c.args.tick_ms c.args.links.now c.args.counters.now.links c.args.exchange.now c.args.listing.now in
    let w0 = (g.W.Sink.output c.args.writer.now).written in
    let w1 = (g.W.Sink.output c.write.new.self).written in
    on-error _ c.from_residual.result
    (first-of-more w0 w1 head entries (subst (λ (xs : List ℕ). AppendsFirst w0 w1 xs) (c.as_bytes.ensures.value ∙ c.head_of.ensures) c.in_err-write.ensures.first))

pub returns-clause-all : goal.returns-clause-all
returns-clause-all g c =
    let head = head_of c.args.listing.now in
    let entries = entries_text c.args.points c.args.tick_ms c.args.links.now c.args.counters.now.links c.args.exchange.now c.args.listing.now in
    let w0 = (g.W.Sink.output c.args.writer.now).written in
    let w1 = (g.W.Sink.output c.write.new.self).written in
    let w2 = (g.W.Sink.output c.print_entries.new.writer).written in
    line-ended head entries w0 w1 w2 c.print_entries.result
    (subst (λ (xs : List ℕ). Appends w0 w1 xs) (c.as_bytes.ensures.value ∙ c.head_of.ensures) c.in_ok-write.ensures.all) c.print_entries.ensures.all

pub returns-clause-first : goal.returns-clause-first
returns-clause-first g c =
    let head = head_of c.args.listing.now in
    let entries = entries_text c.args.points c.args.tick_ms c.args.links.now c.args.counters.now.links c.args.exchange.now c.args.listing.now in
    let w0 = (g.W.Sink.output c.args.writer.now).written in
    let w1 = (g.W.Sink.output c.write.new.self).written in
    let w2 = (g.W.Sink.output c.print_entries.new.writer).written in
    line-cut head entries w0 w1 w2 c.print_entries.result
    (subst (λ (xs : List ℕ). Appends w0 w1 xs) (c.as_bytes.ensures.value ∙ c.head_of.ensures) c.in_ok-write.ensures.all) c.print_entries.ensures.first
