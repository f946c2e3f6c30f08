-- What came so far was read and printed, and as many answers are due in the end as at the start.
use Rattle.std.proofs.Common.{ℕ, List, false}
use Rattle.program.specs.ConsoleCalls.{Comes}
use Rattle.program.specs.ConsoleLines.{IsOwed}
use Rattle.program.proofs.console_client.conversation.Conversation.run.Given as goal

abbrev pub invariant-loop : goal.invariant-loop
invariant-loop g l =
    ((came : List ℕ) × Comes false came l.fn.self.answers l.self.answers (g.W.Sink.output l.fn.writer) (g.W.Sink.output l.writer))
    × IsOwed (g.R.Source.input l.fn.reader).remaining (g.R.Source.input l.reader).remaining l.fn.self.outgoing l.self.outgoing
