-- What an event brings into a queue or Held, as the code tells it: by what became of it, by the translation rows, and
-- where that doesn't say it, by how many user messages stand before and after.
use Rattle.std.specs.Prelude.{ℕ, ◌+◌, Bool, true, not, nat_eq, count_by, length, List, [], ◌∷◌, Option, Some, None, Result, Ok, Err, if◌then◌else◌}
use Rattle.signalling_types.specs.Message.{Message, service_indicator}
use Rattle.signalling_types.specs.declared.cause.Cause.{Cause}
use Rattle.signalling_types.specs.declared.notice.FrameFault.{FrameFault}
use Rattle.signalling_types.specs.declared.outcome.Outcome.{Outcome}
use Rattle.signalling_types.specs.declared.outcome.Outcome.TheVariants.{Queued, Held, Local, Handled, Ignored, Refused}
use Rattle.settings.specs.Configuration.{Configuration}
use Rattle.m2pa_codec.specs.Frames.{FrameValue, EmptyFrame, MessageFrame, StatusFrame}
use Rattle.mtp3_codec.specs.declared.discrimination.Discrimination.{Discrimination}
use Rattle.mtp3_codec.specs.declared.discrimination.Discrimination.TheVariants as whither
use Rattle.sccp_relay.specs.Points.{OwnValue}
use Rattle.sccp_relay.specs.Relay.{RelayedValue, relay}
use Rattle.sccp_relay.specs.Returning.{returned}
use Rattle.sccp_relay.specs.Relay as relays
use Rattle.sccp_relay.specs.Statuses.{TitlesValue}
use Rattle.exchange_rules.specs.Messages.{sccp, whither_goes, in_place_of, own_of}
use Rattle.cell_pool.specs.Lanes.{is_user_picked}
use Rattle.exchange.specs.Counting.{kept_behind_number}
use Rattle.exchange.specs.KeptQueues.{kept, counts_at, link_lane}
use Rattle.exchange.specs.Calls.{Kept}
use Rattle.pair_moves.specs.Laws.{sum_to}

abbrev pub is_sccp : Message → Bool
is_sccp m = nat_eq (service_indicator m) sccp

-- ---- how many user messages stand

-- on a link, behind the count that a number names; where it names none, all that aren't confirmed
abbrev pub kept_behind : (number : ℕ) → Kept → (link : ℕ) → ℕ
kept_behind number k link =
    count_by (is_user_picked (λ m. true))
    (kept_behind_number (counts_at k.node.queues.counts link) (link_lane k.node.queues link) number)

-- on all links, and in Held
abbrev pub kept_standing : (number : ℕ) → Kept → ℕ
kept_standing number k =
    sum_to (kept_behind number k) (length k.settings.links)
    + count_by (is_user_picked (λ m. true)) (kept.held k.node.queues)

-- it is counted for a message of SCCP alone
abbrev pub kept_standing_if : Bool → (number : ℕ) → Kept → ℕ
kept_standing_if counts number k = if counts then kept_standing number k else 0

-- the number with which a frame confirms; 0 where it can't be read
abbrev pub number_in : Result FrameValue FrameFault → ℕ
number_in (Ok (EmptyFrame bsn fsn)) = bsn
number_in (Ok (MessageFrame bsn fsn sio sif)) = bsn
number_in (Ok (StatusFrame bsn fsn status)) = bsn
number_in (Err fault) = 0

-- ---- what a message brings in

-- an SCCP message for this point goes on as its relay writes it
abbrev pub written_as : RelayedValue → Message → List Message
written_as relays.Delivered m = []
written_as (relays.Heard news) m = []
written_as (relays.Onward sif) m = in_place_of m sif ∷ []
written_as (relays.Refused cause) m = []

-- one that is queued or held
abbrev pub goes_on : Discrimination → OwnValue → TitlesValue → Message → List Message
goes_on (whither.Refused fault) own rows m = []
goes_on (whither.Here label) own rows m = if is_sccp m then written_as (relay own rows m.sif) m else []
goes_on (whither.Transfer label) own rows m = m ∷ []

abbrev pub udts_as : Option (List ℕ) → Message → List Message
udts_as (Some sif) m = in_place_of m sif ∷ []
udts_as None m = []

-- the UDTS that returns one that is refused, if one does
abbrev pub comes_back : Discrimination → Cause → OwnValue → TitlesValue → Message → List Message
comes_back (whither.Refused fault) cause own rows m = []
comes_back (whither.Here label) cause own rows m =
    if is_sccp m then udts_as (returned own rows m.sif cause) m else []
comes_back (whither.Transfer label) cause own rows m = []

-- by what became of it, whether more user messages stand, and where the links lead
abbrev pub told_in : Outcome → (is_more : Bool) → OwnValue → Configuration → TitlesValue → Message → List Message
told_in (Queued link) is_more own c rows m = goes_on (whither_goes c m) own rows m
told_in Held is_more own c rows m = goes_on (whither_goes c m) own rows m
told_in (Refused cause) is_more own c rows m =
    if is_more then comes_back (whither_goes c m) cause own rows m else []
told_in Local is_more own c rows m = []
told_in Handled is_more own c rows m = []
told_in Ignored is_more own c rows m = []

-- the same, of an exchange before and after; its links lead where they do after
abbrev pub kept_in : (number : ℕ) → (before after : Kept) → Outcome → Message → List Message
kept_in number before after outcome m =
    told_in outcome
    (not (nat_eq (kept_standing_if (is_sccp m) number before) (kept_standing_if (is_sccp m) number after)))
    (own_of before.settings after.node.parts) before.settings before.node.parts.titles m

-- of the message that came, if one did
abbrev pub kept_in_all : (number : ℕ) → (before after : Kept) → Outcome → List Message → List Message
kept_in_all number before after outcome [] = []
kept_in_all number before after outcome (m ∷ ms) = kept_in number before after outcome m
