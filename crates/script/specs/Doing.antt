-- What a line of a script prints, and the state after it, by the calls of an exchange.
use Rattle.std.specs.Prelude.{ℕ, Bool, zero, suc, List, [], drop, length, nat_lt, if◌then◌else◌, Option, Some, None, slice_index}
use Rattle.signalling_types.specs.Message.{Message}
use Rattle.settings.specs.Configuration.{Configuration}
use Rattle.settings.specs.Readings.{link_place}
use Rattle.signalling_types.specs.declared.limits.TheConstants.Limits.{SIF_OCTETS}
use Rattle.signalling_types.specs.declared.cause.Cause.{Cause}
use Rattle.signalling_types.specs.declared.cause.Cause.TheVariants.{NoSuchName, TooLong}
use Rattle.signalling_types.specs.declared.outcome.Outcome.{Outcome}
use Rattle.signalling_types.specs.declared.outcome.Outcome.TheVariants.{Queued, Handled, Refused}
use Rattle.exchange.specs.Calls.{ordered}
use Rattle.exchange.specs.declared.event.Answer.{Answer}
use Rattle.exchange.specs.declared.event.Answer.TheVariants.{Stepped, Taken, Wanted}
use Rattle.exchange.specs.declared.event.Order.{Order}
use Rattle.exchange_rules.specs.State.{State, QueueKind, CameUp, WentDown, FrameCame, Ticked, Submitted, Asking, Happens, Takes, AsksWants}
use Rattle.exchange_rules.specs.Exchange.{after, after_tests}
use Rattle.exchange.specs.Runs.{answer_to_call, after_call}
use Rattle.console.specs.Names.{name_in}
use Rattle.console.specs.Orders.{order_named}
use Rattle.script.specs.Asking.{Asked, AskUp, AskDown, AskFrame, AskTick, AskTake, AskWants, AskSubmit, AskOrder, AskShow}
use Rattle.script.specs.Showing.{shown_text}
use Rattle.script.specs.declared.line.Show.{Show}
use Rattle.script.specs.Texts.{outcome_line, frame_line, none_line, wants_line}

-- what a line means to a node: a call of its exchange, ticks that pass, a text that is shown, or a refusal before any
-- call
pub data Meaning : Type 0 where
  Calls : Asking → Meaning
  Passes : (ticks : ℕ) → Meaning
  Shows : Show → Meaning
  Refuses : Cause → Meaning

-- a call for the link of a name, if there is one
abbrev pub at_link : Option ℕ → (ℕ → Asking) → Meaning
at_link None asking = Refuses NoSuchName
at_link (Some link) asking = Calls (asking link)

-- a message as a script writes it: its service information octet, and its field
abbrev pub message_written : List ℕ → Message
message_written octets = record { sio = slice_index octets 0; sif = drop 1 octets }

-- no message has a longer field than 272 octets
abbrev pub submission : Message → Meaning
submission m = (if nat_lt SIF_OCTETS (length m.sif) then Refuses TooLong else Calls (Happens (Submitted m)))

-- an order to the node, if the link that it is about is there
abbrev pub given : (lacks_memory : Bool) → Option Order → Meaning
given lacks_memory None = Refuses NoSuchName
given lacks_memory (Some order) = Calls (Happens (ordered order lacks_memory))

-- what a line means with these settings and, if memory is refused for a translation row that it adds, with that
abbrev pub meaning : Configuration → (lacks_memory : Bool) → Asked → Meaning
meaning c lacks_memory (AskUp name) = at_link (link_place c name) (λ link. Happens (CameUp link))
meaning c lacks_memory (AskFrame name octets) = at_link (link_place c name) (λ link. Happens (FrameCame link octets))
meaning c lacks_memory (AskDown name) = at_link (link_place c name) (λ link. Happens (WentDown link))
meaning c lacks_memory (AskTick ticks) = Passes ticks
meaning c lacks_memory (AskWants name) = at_link (link_place c name) (λ link. AsksWants link)
meaning c lacks_memory (AskTake name) = at_link (link_place c name) (λ link. Takes link)
meaning c lacks_memory (AskSubmit octets) = submission (message_written octets)
meaning c lacks_memory (AskOrder order) = given lacks_memory (order_named c order)
meaning c lacks_memory (AskShow what) = Shows what

-- the name of the link that an outcome names, if any
abbrev pub named_link : Configuration → Outcome → List ℕ
named_link c (Queued link) = name_in c link
named_link c outcome = []

-- the line of an outcome
abbrev pub report : Configuration → Outcome → List ℕ
report c outcome = outcome_line (named_link c outcome) outcome

-- the line of a frame that was asked for, if there is one
abbrev pub taken_text : List ℕ → Option (List ℕ) → List ℕ
taken_text name None = none_line
taken_text name (Some octets) = frame_line name octets

-- the name of the link whose frame is asked for
abbrev pub name_asked : Configuration → Asking → List ℕ
name_asked c (Happens what) = []
name_asked c (Takes link) = name_in c link
name_asked c (AsksWants link) = []

-- the line of an answer
abbrev pub answer_text : Configuration → Asking → Answer → List ℕ
answer_text c asking (Stepped outcome) = report c outcome
answer_text c asking (Taken frame) = taken_text (name_asked c asking) frame
answer_text c asking (Wanted wants) = wants_line wants

-- the state after a tick, and after the tests of subsystems that are due by it
abbrev pub after_tick : {Q : Type 0} → QueueKind Q → State Q → State Q
after_tick q s = after_tests q (after q Ticked s)

-- the state after this many ticks
abbrev pub after_ticks : {Q : Type 0} → QueueKind Q → ℕ → State Q → State Q
after_ticks q zero s = s
after_ticks q (suc more) s = after_ticks q more (after_tick q s)

-- what is printed for a meaning, and the state after it
abbrev pub meaning_printed : {Q : Type 0} → QueueKind Q → Meaning → State Q → List ℕ
meaning_printed q (Calls asking) s = answer_text s.settings asking (answer_to_call q asking s)
meaning_printed q (Passes ticks) s = report s.settings Handled
meaning_printed q (Shows what) s = shown_text q what s
meaning_printed q (Refuses cause) s = report s.settings (Refused cause)

abbrev pub meaning_done : {Q : Type 0} → QueueKind Q → Meaning → State Q → State Q
meaning_done q (Calls asking) s = after_call q asking s
meaning_done q (Passes ticks) s = after_ticks q ticks s
meaning_done q (Shows what) s = s
meaning_done q (Refuses cause) s = s

-- what is printed for a line, and the state after it
abbrev pub printed : {Q : Type 0} → QueueKind Q → (lacks_memory : Bool) → Asked → State Q → List ℕ
printed q lacks_memory asked s = meaning_printed q (meaning s.settings lacks_memory asked) s

abbrev pub done : {Q : Type 0} → QueueKind Q → (lacks_memory : Bool) → Asked → State Q → State Q
done q lacks_memory asked s = meaning_done q (meaning s.settings lacks_memory asked) s
