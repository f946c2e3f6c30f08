-- A site as the code keeps it, and what becomes of it: an exchange with what is in flight to it, and of each link
-- whether it may follow the other end. And what comes there, and what goes out.
use Rattle.std.specs.Prelude.{ℕ, Bool, true, false, ◌&&◌, nat_eq, nat_lt, List, [], ◌∷◌, ◌++◌, slice_get, slice_set, drop, take, length, replicate, Option, Some, None, option_to_list, slice_index_or, if◌then◌else◌}
use Rattle.std.specs.Option.{option_map}
use Rattle.signalling_types.specs.Message.{Message}
use Rattle.signalling_types.specs.declared.outcome.Outcome.{Outcome}
use Rattle.signalling_types.specs.declared.outcome.Outcome.TheVariants.{Handled, Ignored}
use Rattle.settings.specs.Configuration.{Configuration}
use Rattle.m2pa_codec.specs.Frames.{link_status, spelled, read_frame}
use Rattle.exchange_rules.specs.State.{Happening, CameUp, FrameCame, Submitted}
use Rattle.exchange_rules.specs.declared.wants.Wants.{Wants}
use Rattle.exchange_rules.specs.declared.wants.Wants.TheVariants.{Open}
use Rattle.exchange_rules.specs.Exchange.{outcome_of, after, frame_to_take, wants_of}
use Rattle.exchange_rules.specs.First.{first_state}
use Rattle.exchange_rules.specs.Laws.{carried_message}
use Rattle.exchange.specs.declared.view.LinkView.{LinkView}
use Rattle.exchange.specs.KeptQueues.{kept}
use Rattle.exchange.specs.Calls.{Kept, kept_of}
use Rattle.exchange.specs.Views.{link_view}
use Rattle.pair_rules.specs.Pairs.{Streams, emptied, in_flight, nothing_in_flight, with_status_twice, without_status}
use Rattle.network_world.specs.Bringing.{kept_in, kept_in_all, number_in}

pub record KeptSite : Type 0 where
  pub exchange : Kept
  pub incoming : Streams
  pub following : List Bool

-- as it is booted, with nothing in flight to it
abbrev pub first_site : Configuration → KeptSite
first_site c = record {
  exchange = kept_of (first_state c);
  incoming = nothing_in_flight (length c.links);
  following = replicate (length c.links) false;
}

-- what became of something there, and what it left
pub record SiteTurn : Type 0 where
  pub outcome : Outcome
  pub left : KeptSite

-- ---- something happens

abbrev pub site_happens : Happening → KeptSite → SiteTurn
site_happens what s = record {
  outcome = outcome_of kept what s.exchange;
  left = record s { exchange = after kept what s.exchange };
}

-- ---- a message is handed over

-- what that brings in
abbrev pub handed_in : Message → Kept → List Message
handed_in m k = kept_in 0 k (after kept (Submitted m) k) (outcome_of kept (Submitted m) k) m

-- ---- a frame comes

-- the number of the last message that was accepted on a link, as the link is shown
abbrev pub number_shown : Option LinkView → ℕ
number_shown (Some view) = view.last_accepted
number_shown None = 0

abbrev pub accepted_number : Kept → (link : ℕ) → ℕ
accepted_number k link = number_shown (link_view kept k link)

-- the message in a frame
abbrev pub message_in : List ℕ → List Message
message_in text = option_to_list (carried_message (read_frame text))

-- the message that a frame newly carries: that in the frame, where the number of the last message that was accepted on
-- its link isn't what it was before
abbrev pub new_if_other : (number_before number_after : ℕ) → (text : List ℕ) → List Message
new_if_other number_before number_after text =
    if nat_eq number_before number_after then [] else message_in text

abbrev pub newly_carried : (link : ℕ) → (text : List ℕ) → Kept → List Message
newly_carried link text k =
    new_if_other (accepted_number k link) (accepted_number (after kept (FrameCame link text) k) link) text

-- what that brings in, in its turn
abbrev pub newly_brought : (link : ℕ) → (text : List ℕ) → Kept → List Message
newly_brought link text k =
    kept_in_all (number_in (read_frame text)) k (after kept (FrameCame link text) k)
    (outcome_of kept (FrameCame link text) k) (newly_carried link text k)

-- ---- what is in flight

-- the frames of one stream without the first of a link
abbrev pub without_first : Option (List ℕ) → (link : ℕ) → List (List (List ℕ)) → List (List (List ℕ))
without_first (Some text) link frames = slice_set frames link (drop 1 (in_flight frames link))
without_first None link frames = frames

-- the frames of one stream with the first of a link twice
abbrev pub with_first_twice : Option (List ℕ) → (link : ℕ) → List (List (List ℕ)) → List (List (List ℕ))
with_first_twice (Some text) link frames =
    slice_set frames link (take 1 (in_flight frames link) ++ in_flight frames link)
with_first_twice None link frames = frames

-- what is in flight changes, where a link status is
abbrev pub site_changes : Option (List ℕ) → (left : Streams) → KeptSite → SiteTurn
site_changes (Some text) left s = record { outcome = Handled; left = record s { incoming = left } }
site_changes None left s = record { outcome = Ignored; left = s }

-- the next link status on a link is lost, or comes twice
abbrev pub site_loses_status : (link : ℕ) → KeptSite → SiteTurn
site_loses_status link s =
    site_changes (slice_get (in_flight s.incoming.statuses link) 0) (without_status link s.incoming) s

abbrev pub site_doubles_status : (link : ℕ) → KeptSite → SiteTurn
site_doubles_status link s =
    site_changes (slice_get (in_flight s.incoming.statuses link) 0) (with_status_twice link s.incoming) s

-- ---- a link opens

-- here first, and at the other end, which may follow
abbrev pub site_opens_first : (link : ℕ) → KeptSite → KeptSite
site_opens_first link s = record {
  exchange = after kept (CameUp link) s.exchange;
  incoming = emptied link s.incoming;
  following = slice_set s.following link false;
}

abbrev pub site_may_follow : (link : ℕ) → KeptSite → KeptSite
site_may_follow link s = record s {
  incoming = emptied link s.incoming;
  following = slice_set s.following link true;
}

-- this end follows the other
abbrev pub site_follows : Wants → (follows : Bool) → (link : ℕ) → KeptSite → SiteTurn
site_follows Open true link s = record {
  outcome = Handled;
  left = record s {
    exchange = after kept (CameUp link) s.exchange;
    following = slice_set s.following link false;
  };
}
site_follows wants follows link s = record { outcome = Ignored; left = s }

abbrev pub site_opens_second : (link : ℕ) → KeptSite → SiteTurn
site_opens_second link s = site_follows (wants_of s.exchange link) (slice_index_or s.following link false) link s

-- ---- a frame is fetched

-- the octets of the next frame of a link
abbrev pub text_to_take : Kept → (link : ℕ) → Option (List ℕ)
text_to_take k link = option_map spelled (frame_to_take kept k link)

-- they are in flight behind others
abbrev pub behind : List (List ℕ) → Option (List ℕ) → List (List ℕ)
behind frames (Some text) = frames ++ text ∷ []
behind frames None = frames

-- whether a link is one of those that something can be in flight on
abbrev pub has_link : (link : ℕ) → Streams → Bool
has_link link s = nat_lt link (length s.statuses) && nat_lt link (length s.user_data)

-- the message type of a frame says which stream it goes out on (RFC 4165 §4.1.2)
abbrev pub is_of_type : (kind : ℕ) → Option ℕ → Bool
is_of_type kind (Some octet) = nat_eq octet kind
is_of_type kind None = false

abbrev pub is_link_status : List ℕ → Bool
is_link_status text = is_of_type link_status (slice_get text 3)

abbrev pub status_in : Option (List ℕ) → Option (List ℕ)
status_in (Some text) = if is_link_status text then Some text else None
status_in None = None

abbrev pub data_in : Option (List ℕ) → Option (List ℕ)
data_in (Some text) = if is_link_status text then None else Some text
data_in None = None

-- it is in flight behind the others of its stream
abbrev pub behind_its : Option (List ℕ) → (link : ℕ) → Streams → Streams
behind_its text link s = record {
  statuses = slice_set s.statuses link (behind (in_flight s.statuses link) (status_in text));
  user_data = slice_set s.user_data link (behind (in_flight s.user_data link) (data_in text));
}

abbrev pub take_outcome : Option (List ℕ) → Outcome
take_outcome (Some text) = Handled
take_outcome None = Ignored
