-- What is printed for a line that was done.
use Rattle.std.specs.Prelude.{ℕ, Bool, false, List}
use Rattle.exchange.specs.Calls.{is_memory_refused}
use Rattle.exchange_rules.specs.State.{QueueKind, State}
use Rattle.script.specs.Doing.{report}
use Rattle.script.specs.Showing.{shown_text}
use Rattle.script.specs.declared.performing.Reply.{Reply}
use Rattle.script.specs.declared.performing.Reply.TheVariants.{Became, Line, Lines}

-- the line of an outcome, another line, or what is shown of a state
abbrev pub reply_text : {Q : Type 0} → QueueKind Q → Reply → State Q → List ℕ
reply_text q (Became outcome) s = report s.settings outcome
reply_text q (Line text) s = text
reply_text q (Lines what) s = shown_text q what s

-- whether memory was refused
abbrev pub lacks_memory : Reply → Bool
lacks_memory (Became outcome) = is_memory_refused outcome
lacks_memory (Line text) = false
lacks_memory (Lines what) = false
