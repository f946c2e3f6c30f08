-- Whether memory was refused for the line shows in what was printed.
use Rattle.script.proofs.Basics.{◌≡◌, ◌∙◌, ap, Err, err_from_is_err_and, kept, Plain, asked_line, parsed_line, ScriptFault, Write, ℕ, Bool, List, Option, Ok, sym, subst, refl, Appends, Kept, Asked, Reading, Asks, printed, done, AppendsFirst, DoesLine}
use Rattle.script.specs.Replies.{reply_text, lacks_memory}
use Rattle.script.proofs.run.do_line.Goals as goal

asked-done : (number : ℕ) (lacking : Bool) (asked : Asked) (reading : Reading) (s after : Kept) (text : List ℕ) (w0 w1 : Option (List ℕ))
    → Asks asked ≡ reading → text ≡ printed kept lacking asked s → after ≡ done kept lacking asked s → Appends w0 w1 text
    → DoesLine number reading s (Ok tt) after w0 w1
asked-done number lacking asked reading s after text w0 w1 e p d w =
    subst (λ (r : Reading). DoesLine number r s (Ok tt) after w0 w1) e
    (lacking, (refl, sym d, subst (λ (t : List ℕ). Appends w0 w1 t) p w))

asked-broken : (number : ℕ) (lacking : Bool) (asked : Asked) (reading : Reading) (s after : Kept) (text : List ℕ) (w0 w1 : Option (List ℕ))
    → Asks asked ≡ reading → text ≡ printed kept lacking asked s → after ≡ done kept lacking asked s → AppendsFirst w0 w1 text
    → DoesLine number reading s (Err Write) after w0 w1
asked-broken number lacking asked reading s after text w0 w1 e p d w =
    subst (λ (r : Reading). DoesLine number r s (Err Write) after w0 w1) e
    (lacking, (sym d, subst (λ (t : List ℕ). AppendsFirst w0 w1 t) p w))

pub returns-in_err-print-in-Ok-Some-clause-run : goal.returns-in_err-print-in-Ok-Some-clause-run
returns-in_err-print-in-Ok-Some-clause-run g c =
    let q = err_from_is_err_and c.from_residual.result c.from_residual.ensures.1 in
    let e : c.from_residual.result ≡ Err Write = q.1 ∙ ap (λ (f : ScriptFault). Err f) q.2 in
    rw e (asked-broken c.args.number (lacks_memory c.perform-reply.result) (asked_line c.in-Ok-Some.line) (parsed_line Plain c.args.line.now)
    c.args.exchange.now c.perform-reply.new.exchange (reply_text kept c.perform-reply.result c.perform-reply.new.exchange)
    (g.W.Sink.output c.args.writer.now).written (g.W.Sink.output c.print.new.writer).written
    (rw c.in-Ok-Some.field-0-is at c.in-Ok-Some.ensures) c.perform-reply.ensures.text c.perform-reply.ensures.state c.in_err-print-in-Ok-Some.ensures.first)

pub returns-in_ok-print-in-Ok-Some-clause-run : goal.returns-in_ok-print-in-Ok-Some-clause-run
returns-in_ok-print-in-Ok-Some-clause-run g c =
    asked-done c.args.number (lacks_memory c.perform-reply.result) (asked_line c.in-Ok-Some.line) (parsed_line Plain c.args.line.now)
    c.args.exchange.now c.perform-reply.new.exchange (reply_text kept c.perform-reply.result c.perform-reply.new.exchange)
    (g.W.Sink.output c.args.writer.now).written (g.W.Sink.output c.print.new.writer).written
    (rw c.in-Ok-Some.field-0-is at c.in-Ok-Some.ensures) c.perform-reply.ensures.text c.perform-reply.ensures.state c.in_ok-print-in-Ok-Some.ensures.all
