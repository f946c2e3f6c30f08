-- A message that comes to a node of a network for another point.
use Rattle.std.specs.Prelude.{◌≡◌, ℕ, List, [], ◌∷◌, ◌++◌, Some, slice_get, if◌then◌else◌}
use Rattle.changeover.specs.Changeover.{users_of}
use Rattle.signalling_types.specs.Message.{Message}
use Rattle.signalling_types.specs.declared.outcome.Outcome.{Outcome}
use Rattle.signalling_types.specs.declared.outcome.Outcome.TheVariants.{Handled, Held, Ignored, Local, Queued, Refused}
use Rattle.mtp3_codec.specs.declared.discrimination.Discrimination.TheVariants.{Transfer}
use Rattle.mtp3_codec.specs.declared.label.Label.{Label}
use Rattle.exchange_rules.specs.Exchange.{outcome_of}
use Rattle.exchange_rules.specs.Messages.{whither_goes}
use Rattle.exchange_rules.specs.Queues.{whole}
use Rattle.exchange_rules.specs.Receiving.{new_message}
use Rattle.exchange_rules.specs.State.{FrameCame}
use Rattle.pair_rules.specs.Pairs.{Delivers, in_flight}
use Rattle.network_rules.specs.Networks.{NetworkNode, NetworkState, did, is_refused}

-- what a node accepted more: the message itself, once, where it was queued or held, and nothing where it was refused
abbrev pub IsTakenOn : Outcome → Message → (before after : List Message) → Type 0
IsTakenOn (Queued link) m before after = after ≡ before ++ m ∷ []
IsTakenOn Held m before after = after ≡ before ++ m ∷ []
IsTakenOn (Refused cause) m before after = after ≡ before
IsTakenOn Local m before after = ⊥
IsTakenOn Handled m before after = ⊥
IsTakenOn Ignored m before after = ⊥

-- of one node before and after it
pub record PassesThrough (outcome : Outcome) (link : ℕ) (m : Message) (before after : NetworkNode) : Type 0 where
  pub arrived : after.arrived ≡ before.arrived ++ record { link = link; message = m } ∷ []
  pub accepted : IsTakenOn outcome m before.accepted after.accepted
  -- it entered the network elsewhere; and it is booked as refused exactly if it is a user message, and is refused
  pub entered : after.entered ≡ before.entered
  pub refused : after.refused ≡ before.refused ++ (if is_refused outcome then users_of (m ∷ []) else [])

-- whatever happened before: the next User Data of a link that comes to a node, and newly carries a message for another
-- point
abbrev pub messages_pass_through : Type 0
messages_pass_through =
    (w : NetworkState) (point link : ℕ) (text : List ℕ) (m : Message) (label : Label) →
    slice_get (in_flight (w.node point).incoming.user_data link) 0 ≡ Some text →
    new_message link text (w.node point).exchange ≡ Some m →
    whither_goes (w.node point).exchange.settings m ≡ Transfer label →
    PassesThrough
    (outcome_of whole (FrameCame link text) (w.node point).exchange)
    link
    m
    (w.node point)
    ((did (Delivers link) point w).node point)
