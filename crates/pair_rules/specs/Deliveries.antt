-- The outcome of a delivery says what it brought, and what the end accepted of that.
use Rattle.std.specs.Prelude.{◌≡◌, ◌≢◌, ◌⊎◌, ℕ, Bool, true, false, List, [], ◌∷◌, drop, length, if◌then◌else◌, nat_eq, Option, Some, None}
use Rattle.signalling_types.specs.Message.{Message, service_indicator}
use Rattle.signalling_types.specs.declared.cause.Cause.{Cause}
use Rattle.signalling_types.specs.declared.cause.Cause.TheVariants.{NoUserPart}
use Rattle.signalling_types.specs.declared.outcome.Outcome.{Outcome}
use Rattle.signalling_types.specs.declared.outcome.Outcome.TheVariants.{Queued, Held, Local, Handled, Ignored, Refused}
use Rattle.settings.specs.Configuration.{Configuration}
use Rattle.sccp_relay.specs.Points.{OwnValue}
use Rattle.sccp_relay.specs.Relay.{RelayedValue, relay}
use Rattle.sccp_relay.specs.Returning.{returned}
use Rattle.sccp_relay.specs.Relay as relays
use Rattle.sccp_relay.specs.Statuses.{TitlesValue}
use Rattle.exchange_rules.specs.Messages.{is_user, sccp, in_place_of, own_of}
use Rattle.pair_rules.specs.Pairs.{PairState, Doing, Delivers, DeliversStatus, did}
use Rattle.pair_rules.specs.Promises.{Always, BothWays}

-- ---- what came of a message of SCCP

-- the end accepts at most the UDTS or XUDTS that returns one that is refused
abbrev pub IsReturnedAtMost : Option (List ℕ) → Message → (accepted : List Message) → Type 0
IsReturnedAtMost None m accepted = accepted ≡ []
IsReturnedAtMost (Some udts) m accepted = (accepted ≡ []) ⊎ (accepted ≡ in_place_of m udts ∷ [])

-- for a cause that isn't one of user parts
pub record IsRefused (own : OwnValue) (titles : TitlesValue) (cause : Cause) (m : Message)
    (accepted : List Message) : Type 0 where
  pub other : cause ≢ NoUserPart
  pub returned : IsReturnedAtMost (returned own titles m.sif cause) m accepted

-- one that goes on, rewritten, is queued or held, and nothing else is accepted; or it is refused
abbrev pub GoesOn : (sif : List ℕ) → OwnValue → TitlesValue → Message → Outcome → (accepted : List Message)
    → Type 0
GoesOn sif own titles m (Queued link) accepted = accepted ≡ in_place_of m sif ∷ []
GoesOn sif own titles m Held accepted = accepted ≡ in_place_of m sif ∷ []
GoesOn sif own titles m (Refused cause) accepted = IsRefused own titles cause m accepted
GoesOn sif own titles m Local accepted = ⊥
GoesOn sif own titles m Handled accepted = ⊥
GoesOn sif own titles m Ignored accepted = ⊥

-- by what becomes of it at this point; one for a subsystem here is delivered, and one that says something of a
-- subsystem at another point is handled
abbrev pub IsRelayed : RelayedValue → OwnValue → TitlesValue → Message → Outcome → (accepted : List Message)
    → Type 0
IsRelayed relays.Delivered own titles m outcome accepted = (outcome ≡ Local) × (accepted ≡ [])
IsRelayed (relays.Heard news) own titles m outcome accepted = (outcome ≡ Handled) × (accepted ≡ [])
IsRelayed (relays.Onward sif) own titles m outcome accepted = GoesOn sif own titles m outcome accepted
IsRelayed (relays.Refused cause) own titles m outcome accepted =
    (outcome ≡ Refused cause) × IsRefused own titles cause m accepted

-- ---- what came of a message

abbrev pub ComesOf : (is_sccp : Bool) → OwnValue → Configuration → TitlesValue → Message → Outcome → (accepted : List Message)
    → Type 0
ComesOf true own c titles m outcome accepted = IsRelayed (relay own titles m.sif) own titles m outcome accepted
ComesOf false own c titles m outcome accepted =
    (outcome ≡ (if is_user c (service_indicator m) then Local else Refused NoUserPart)) × (accepted ≡ [])

-- nothing was delivered, taken on or accepted
pub record IsQuiet (outcome : Outcome) (accepted : List Message) : Type 0 where
  pub local : outcome ≢ Local
  pub no_user_part : outcome ≢ Refused NoUserPart
  pub queued : (link : ℕ) → outcome ≢ Queued link
  pub held : outcome ≢ Held
  pub nothing : accepted ≡ []

-- what an end with these settings and translation rows answers, by what was received: Local if a message came for a
-- user part that the settings list, NoUserPart if one came for another, and what SCCP makes of it if one came for SCCP
abbrev pub ComesTo : OwnValue → Configuration → TitlesValue → (received accepted : List Message) → Outcome → Type 0
ComesTo own c titles [] accepted outcome = IsQuiet outcome accepted
ComesTo own c titles (m ∷ ms) accepted outcome =
    ComesOf (nat_eq (service_indicator m) sccp) own c titles m outcome accepted

-- what the near end received and accepted by something done there
abbrev pub received_by : Doing → PairState → List Message
received_by what p = drop (length p.near.received) (did what p).left.near.received

abbrev pub accepted_by : Doing → PairState → List Message
accepted_by what p = drop (length p.near.accepted) (did what p).left.near.accepted

-- what the near end relays by: its settings, and where its links lead once that is done
abbrev pub own_by : Doing → PairState → OwnValue
own_by what p = own_of p.near.exchange.settings (did what p).left.near.exchange.node.parts

-- the outcome of something done at an end says both
abbrev pub TellsOf : Doing → PairState → Outcome → Type 0
TellsOf what p outcome =
    ComesTo (own_by what p) p.near.exchange.settings p.near.exchange.node.parts.titles (received_by what p)
    (accepted_by what p) outcome

abbrev pub Tells : Doing → PairState → Type 0
Tells what p = TellsOf what p (did what p).outcome

-- so does that of a delivery at the near end, of User Data or of a link status
pub record TellsWhatCame (p : PairState) : Type 0 where
  pub user_data : (link : ℕ) → Tells (Delivers link) p
  pub status : (link : ℕ) → Tells (DeliversStatus link) p

abbrev pub deliveries_tell : Type 0
deliveries_tell = Always (λ p. BothWays TellsWhatCame p)
