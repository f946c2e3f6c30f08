-- A line, and then its line feed.
use Rattle.std.proofs.Common.{List, ℕ, codes, subst, ◌∙◌}
use Rattle.std.specs.Io.KnownBytes.{Appends}
use Rattle.served_link.specs.Lines.{counter_line}
use Rattle.script.specs.Streams.{AppendsFirst}
use Rattle.served_node.proofs.Counted.{line-ended, line-cut, first-of-more}
use Rattle.script.proofs.Shown.{on-error}
use Rattle.served_node.proofs.console_session.counting.print_counter.Goals as goal

pub returns-in_err-write-clause-first : goal.returns-in_err-write-clause-first
returns-in_err-write-clause-first g c =
    let line = counter_line c.args.counter c.args.name.now c.args.value in
    let w0 = (g.W.Sink.output c.args.writer.now).written in
    let w1 = (g.W.Sink.output c.write.new.self).written in
    on-error _ c.from_residual.result (first-of-more w0 w1 line (codes "\n") (subst (λ (xs : List ℕ). AppendsFirst w0 w1 xs) (c.as_bytes.ensures.value ∙ c.deref.ensures.0 ∙ c.write_counter.ensures) c.in_err-write.ensures.first))

pub returns-clause-all : goal.returns-clause-all
returns-clause-all g c =
    let line = counter_line c.args.counter c.args.name.now c.args.value in
    let w0 = (g.W.Sink.output c.args.writer.now).written in
    let w1 = (g.W.Sink.output c.write.new.self).written in
    let w2 = (g.W.Sink.output c.write-2.new.self).written in
    line-ended line (codes "\n") w0 w1 w2 c.write-2.result (subst (λ (xs : List ℕ). Appends w0 w1 xs) (c.as_bytes.ensures.value ∙ c.deref.ensures.0 ∙ c.write_counter.ensures) c.in_ok-write.ensures.all) c.write-2.ensures.all

pub returns-clause-first : goal.returns-clause-first
returns-clause-first g c =
    let line = counter_line c.args.counter c.args.name.now c.args.value in
    let w0 = (g.W.Sink.output c.args.writer.now).written in
    let w1 = (g.W.Sink.output c.write.new.self).written in
    let w2 = (g.W.Sink.output c.write-2.new.self).written in
    line-cut line (codes "\n") w0 w1 w2 c.write-2.result (subst (λ (xs : List ℕ). Appends w0 w1 xs) (c.as_bytes.ensures.value ∙ c.deref.ensures.0 ∙ c.write_counter.ensures) c.in_ok-write.ensures.all) c.write-2.ensures.first
