-- What an exchange keeps of an abstract state, and when it stands for one.
use Rattle.std.specs.Prelude.{◌≡◌, ◌∷◌, map, Bool, true, false, List, []}
use Rattle.link.specs.Queue.{unconfirmed}
use Rattle.link.specs.Counts.{counts_of}
use Rattle.exchange_rules.specs.State.{State, keep, Happening, CameUp, WentDown, FrameCame, Ticked, Submitted, Activated, Deactivated, Released, TitleAdded, TitleSet, TitleRemoved, Asking, Happens, Takes, AsksWants}
use Rattle.exchange_rules.specs.Queues.{WholeQueues}
use Rattle.exchange.specs.KeptQueues.{KeptQueues}
use Rattle.exchange_rules.specs.First.{Abstract, IsSound}
use Rattle.signalling_types.specs.declared.cause.Cause.TheVariants.{NoMemory}
use Rattle.signalling_types.specs.declared.outcome.Outcome.{Outcome}
use Rattle.signalling_types.specs.declared.outcome.Outcome.TheVariants.{Refused, Handled}
use Rattle.signalling_types.specs.Message.{lent}
use Rattle.exchange.specs.declared.event.Answer.{Answer}
use Rattle.exchange.specs.declared.event.Answer.TheVariants as answer
use Rattle.exchange.specs.declared.event.Event.{Event}
use Rattle.exchange.specs.declared.event.Event.TheVariants as event
use Rattle.exchange.specs.declared.event.Order.{Order}
use Rattle.exchange.specs.declared.event.Order.TheVariants.{Activate, Deactivate, Release, AddTitle, SetTitle, RemoveTitle}
use Rattle.exchange.specs.declared.event.Call.{Call}
use Rattle.exchange.specs.declared.event.Call.TheVariants as call

-- what the code keeps
abbrev pub Kept : Type 0
Kept = State KeptQueues

abbrev pub kept_queues_of : WholeQueues → KeptQueues
kept_queues_of qs = record { lanes = qs.held ∷ map unconfirmed qs.links; counts = map counts_of qs.links }

abbrev pub kept_of : Abstract → Kept
kept_of a = record {
  settings = a.settings;
  node = keep kept_queues_of a.node;
  reroutings = a.reroutings;
}

pub record StandsFor (k : Kept) (a : Abstract) : Type 0 where
  pub sound : IsSound a
  pub kept : k ≡ kept_of a

-- ---- What the events and calls of the code say, with what was answered: that tells whether memory was refused.

-- whether memory was refused
abbrev pub is_memory_refused : Outcome → Bool
is_memory_refused (Refused NoMemory) = true
is_memory_refused outcome = false

-- what an order tells of
abbrev pub ordered : Order → (lacks_memory : Bool) → Happening
ordered (Activate link emergency) lacks_memory = Activated link emergency
ordered (Deactivate link) lacks_memory = Deactivated link
ordered (Release link) lacks_memory = Released link
ordered (AddTitle row) lacks_memory = TitleAdded row lacks_memory
ordered (SetTitle row) lacks_memory = TitleSet row lacks_memory
ordered (RemoveTitle key digits) lacks_memory = TitleRemoved key digits.items

-- what an event says that was answered so
abbrev pub happened : Event → Outcome → Happening
happened (event.AssociationUp link) outcome = CameUp link
happened (event.AssociationDown link) outcome = WentDown link
happened (event.Frame link octets) outcome = FrameCame link octets.now
happened event.Tick outcome = Ticked
happened (event.Submit message) outcome = Submitted (lent message)
happened (event.Order order) outcome = ordered order (is_memory_refused outcome)

-- what became of an event, by the answer to the call
abbrev pub outcome_in : Answer → Outcome
outcome_in (answer.Stepped outcome) = outcome
outcome_in (answer.Taken text) = Handled
outcome_in (answer.Wanted wants) = Handled

-- what a call that was answered so asks
abbrev pub asked : Call → Answer → Asking
asked (call.Step event) answer = Happens (happened event (outcome_in answer))
asked (call.Take link) answer = Takes link
asked (call.Wants link) answer = AsksWants link

-- what calls in a row ask, each with its answer
abbrev pub asked_each : List Call → List Answer → List Asking
asked_each (call ∷ calls) (answer ∷ answers) = asked call answer ∷ asked_each calls answers
asked_each calls answers = []
