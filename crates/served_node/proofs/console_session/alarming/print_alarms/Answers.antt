-- The head line, and then the rows.
use Rattle.std.proofs.Common.{◌++◌}
use Rattle.std.specs.Prelude.{OnOk, OnErr}
use Rattle.std.specs.Io.KnownBytes.{Appends}
use Rattle.script.specs.Streams.{AppendsFirst}
use Rattle.script.proofs.Shown.{on-error}
use Rattle.served_node.specs.Alarmed.{alarms_head, raised_text}
use Rattle.served_node.proofs.Counted.{first-of-more, line-cut, line-ended}
use Rattle.served_node.proofs.console_session.alarming.print_alarms.Goals as goal

pub returns-in_err-write-clause-first : goal.returns-in_err-write-clause-first
returns-in_err-write-clause-first g c =
    let rows = raised_text c.args.points c.args.exchange.now.settings c.args.alarms.now in
    let w0 = (g.W.Sink.output c.args.writer.now).written in
    let w1 = (g.W.Sink.output c.write.new.self).written in
    on-error _ c.from_residual.result (first-of-more w0 w1 alarms_head rows c.in_err-write.ensures.first)

pub returns-clause-all : goal.returns-clause-all
returns-clause-all g c =
    let rows = raised_text c.args.points c.args.exchange.now.settings c.args.alarms.now in
    let w0 = (g.W.Sink.output c.args.writer.now).written in
    let w1 = (g.W.Sink.output c.write.new.self).written in
    let w2 = (g.W.Sink.output c.print_raised.new.writer).written in
    line-ended alarms_head rows w0 w1 w2 c.print_raised.result c.in_ok-write.ensures.all c.print_raised.ensures.all

pub returns-clause-first : goal.returns-clause-first
returns-clause-first g c =
    let rows = raised_text c.args.points c.args.exchange.now.settings c.args.alarms.now in
    let w0 = (g.W.Sink.output c.args.writer.now).written in
    let w1 = (g.W.Sink.output c.write.new.self).written in
    let w2 = (g.W.Sink.output c.print_raised.new.writer).written in
    line-cut alarms_head rows w0 w1 w2 c.print_raised.result c.in_ok-write.ensures.all c.print_raised.ensures.first
