-- The counters of the links, and then those of datagrams.
use Rattle.std.proofs.Common.{◌++◌, subst}
use Rattle.std.specs.Prelude.{OnOk, OnErr}
use Rattle.std.specs.Io.KnownBytes.{Appends}
use Rattle.script.specs.Streams.{AppendsFirst}
use Rattle.script.proofs.Shown.{on-error}
use Rattle.served_link.specs.declared.datagrams.DatagramCounters.{DatagramCounters}
use Rattle.served_link.specs.Lines.{datagrams_text}
use Rattle.served_node.specs.Counters.{rows_text}
use Rattle.served_node.proofs.Counted.{first-of-more, line-cut, line-ended}
use Rattle.served_node.proofs.console_session.counting.print_counters.Goals as goal

pub returns-in_err-print_rows-clause-first : goal.returns-in_err-print_rows-clause-first
returns-in_err-print_rows-clause-first g c =
    let rows = rows_text c.args.exchange.now c.args.counters.now.links in
    let w0 = (g.W.Sink.output c.args.writer.now).written in
    let w1 = (g.W.Sink.output c.print_rows.new.writer).written in
    on-error _ c.from_residual.result
    (first-of-more w0 w1 rows (datagrams_text c.args.counters.now.datagrams) c.in_err-print_rows.ensures.first)

pub returns-clause-all : goal.returns-clause-all
returns-clause-all g c =
    let rows = rows_text c.args.exchange.now c.args.counters.now.links in
    let w0 = (g.W.Sink.output c.args.writer.now).written in
    let w1 = (g.W.Sink.output c.print_rows.new.writer).written in
    let w2 = (g.W.Sink.output c.print_datagrams.new.writer).written in
    subst (λ (d : DatagramCounters). OnOk c.print_datagrams.result (Appends w0 w2 (rows ++ datagrams_text d)))
    c.datagrams.ensures
    (line-ended rows (datagrams_text c.datagrams.result.now) w0 w1 w2 c.print_datagrams.result
    c.in_ok-print_rows.ensures.all c.print_datagrams.ensures.all)

pub returns-clause-first : goal.returns-clause-first
returns-clause-first g c =
    let rows = rows_text c.args.exchange.now c.args.counters.now.links in
    let w0 = (g.W.Sink.output c.args.writer.now).written in
    let w1 = (g.W.Sink.output c.print_rows.new.writer).written in
    let w2 = (g.W.Sink.output c.print_datagrams.new.writer).written in
    subst (λ (d : DatagramCounters). OnErr c.print_datagrams.result (AppendsFirst w0 w2 (rows ++ datagrams_text d)))
    c.datagrams.ensures
    (line-cut rows (datagrams_text c.datagrams.result.now) w0 w1 w2 c.print_datagrams.result
    c.in_ok-print_rows.ensures.all c.print_datagrams.ensures.first)
