-- The abstract gate: an endpoint next to an exchange. Each call is a list of the endpoint's rules, whose events are
-- handed in to the exchange as they are told.
use Rattle.std.specs.Prelude.{ℕ, zero, suc, ◌+◌, length, Bool, ◌^◌, ◌&&◌, List, [], ◌∷◌, ◌++◌}
use Rattle.std.specs.Prelude.{Option, Some, None, slice_index, nat_eq, nat_lt, nat_le, if◌then◌else◌}
use Rattle.std.specs.Option.{option_map}
use Rattle.m2pa_codec.specs.Frames.{spelled, link_status}
use Rattle.sctp_codec.specs.Packets.{PacketValue}
use Rattle.sctp_sending.specs.Outgoing.{Message}
use Rattle.sctp_rules.specs.Settings.{Settings, Address}
use Rattle.sctp_rules.specs.State as rules
use Rattle.sctp_rules.specs.State.{Datagram, Done, first_state}
use Rattle.sctp_rules.specs.Ending.{abort}
use Rattle.sctp_rules.specs.Opening.{opening}
use Rattle.sctp_rules.specs.Sending.{has_room, send, flush}
use Rattle.sctp_rules.specs.Waiting.{has_room_behind}
use Rattle.sctp_rules.specs.Timers.{ticked, deadline}
use Rattle.sctp_endpoint.specs.Dispatching.{heard_datagram}
use Rattle.sctp_endpoint.specs.Endpoints.{Endpoint, secrets_of}
use Rattle.exchange_rules.specs.State.{QueueKind, State}
use Rattle.exchange_rules.specs.Exchange.{frame_to_take, taken, wants_of}
use Rattle.exchange_rules.specs.declared.wants.Wants.{Wants}
use Rattle.exchange_rules.specs.declared.wants.Wants.TheVariants.{Nothing, Open, Close}
use Rattle.sctp_gate.specs.declared.standing.Standing.{Standing}
use Rattle.sctp_gate.specs.declared.gate.filling.TheConstants.{MOST_FRAMES}
use Rattle.sctp_gate.specs.declared.handing.TheConstants.{PROTOCOL}
use Rattle.sctp_gate.specs.Standing.{first_standing, idle, seeking, stands_after}
use Rattle.sctp_gate.specs.Watching.{Sight, WentOut}
use Rattle.sctp_gate.specs.Handing.{after_told, sights_of}

pub record Gate : Type 0 where
  pub link : ℕ
  -- whether this end tries to open the association, or waits for its peer to do so
  pub tries : Bool
  -- by what the endpoint told
  pub standing : Standing
  pub endpoint : Endpoint

-- what a call does: what goes out, what is seen, and the gate and the exchange afterwards
pub record Did (Q : Type 0) : Type 0 where
  pub sent : List Datagram
  pub seen : List Sight
  pub gate : Gate
  pub exchange : State Q

abbrev pub nothing : {Q : Type 0} → Gate → State Q → Did Q
nothing g s = record { sent = []; seen = []; gate = g; exchange = s }

-- one thing, and then another
abbrev pub behind : {Q : Type 0} → Did Q → Did Q → Did Q
behind first second = record second { sent = first.sent ++ second.sent; seen = first.seen ++ second.seen }

abbrev pub followed_by : {Q : Type 0} → Did Q → (Gate → State Q → Did Q) → Did Q
followed_by d call = behind d (call d.gate d.exchange)

abbrev pub with_state : Endpoint → rules.State → Endpoint
with_state e left = record e { state = left }

-- an endpoint counts what it began, its heartbeats, and milliseconds, up to 2^63; after that it does nothing
abbrev pub is_lasting : (now : ℕ) → Endpoint → Bool
is_lasting now e = nat_le now (2 ^ 63) && (nat_lt e.state.generation (2 ^ 63) && nat_lt e.state.nonces (2 ^ 63))

-- a new gate: there is no association
abbrev pub new_gate : (link : ℕ) → (tries : Bool) → Settings → (tag_key cookie_key : List ℕ) → Gate
new_gate link tries settings tag_key cookie_key = record {
  link = link;
  tries = tries;
  standing = first_standing;
  endpoint = record {
    settings = settings;
    tag_key = tag_key;
    cookie_key = cookie_key;
    state = first_state settings;
  };
}

-- ---- whether the association is the link's

-- a try may begin
abbrev pub may_try : (now : ℕ) → Gate → Bool
may_try now g = g.tries && nat_le g.standing.due now

module _ {Q : Type 0} (q : QueueKind Q) (now : ℕ) where
  -- what a rule of the endpoint does, with its events handed in
  abbrev pub handed : Done → Gate → State Q → Did Q
  handed d g s = record {
    sent = d.sent;
    seen = sights_of q g.link d.told s;
    gate = record g { standing = stands_after now d.told g.standing; endpoint = with_state g.endpoint d.left };
    exchange = after_told q g.link d.told s;
  }

  abbrev pub does : (Endpoint → Done) → Gate → State Q → Did Q
  does rule g s = if is_lasting now g.endpoint then handed (rule g.endpoint) g s else nothing g s

  -- the same, and the link stands like this from then on
  abbrev pub does_as : Standing → (Endpoint → Done) → Gate → State Q → Did Q
  does_as standing rule g s =
      if is_lasting now g.endpoint
      then handed (rule g.endpoint) (record g { standing = standing }) s
      else nothing g s

  -- the user ends the association, or the wish for one; or wants one
  abbrev pub aborted : Gate → State Q → Did Q
  aborted g s = does_as (idle g.standing) (λ e. abort e.settings e.state) g s

  abbrev pub opened : Gate → State Q → Did Q
  opened g s =
      does_as (seeking g.standing) (λ e. opening e.settings (secrets_of e) now (may_try now g) e.state) g s

  -- a link that wants one has none, so one that is up isn't the link's
  abbrev pub wanted : Gate → State Q → Did Q
  wanted g s = if g.standing.is_up then aborted g s else opened g s

  -- as the link wants it. Close ends the association. Open wants one: the endpoint waits for its peer, and tries once a
  -- try may begin. Nothing ends the wish for one, and the try
  abbrev pub settled_by : Wants → Gate → State Q → Did Q
  settled_by Close g s = aborted g s
  settled_by Open g s = wanted g s
  settled_by Nothing g s = if g.standing.is_seeking then aborted g s else nothing g s

  abbrev pub settled : Gate → State Q → Did Q
  settled g s = settled_by (wants_of s g.link) g s

  -- a rule of the endpoint, between two looks at what the link wants, so no association comes up that the link doesn't
  -- want
  abbrev pub between : (Endpoint → Done) → Gate → State Q → Did Q
  between rule g s =
      followed_by (followed_by (settled g s) (λ h t. does rule h t)) (λ h t. settled h t)

  -- a datagram comes; one that isn't a packet is as if the network had lost it
  abbrev pub heard : Option PacketValue → (source : Address) → Gate → State Q → Did Q
  heard packet source g s =
      between (λ e. heard_datagram packet e.settings (secrets_of e) now source e.state) g s

  -- time goes by
  abbrev pub timed : Gate → State Q → Did Q
  timed g s = between (λ e. ticked e.settings (secrets_of e) now e.state) g s

  -- ---- what goes out

  -- packets are asked for
  abbrev pub flushed : Gate → State Q → Did Q
  flushed g s = does (λ e. flush e.settings now e.state) g s

-- Link Status goes on stream 0, and User Data on stream 1 (RFC 4165 §4.1.2); the fourth octet of a frame is its type
abbrev pub stream_of : List ℕ → ℕ
stream_of frame = if nat_eq (slice_index frame 3) link_status then 0 else 1

abbrev pub message_of : List ℕ → Message
message_of frame = record { stream = stream_of frame; protocol = PROTOCOL; octets = frame }

-- the octets of the next frame of a link
abbrev pub text_to_take : {Q : Type 0} → QueueKind Q → State Q → (link : ℕ) → Option (List ℕ)
text_to_take q s link = option_map spelled (frame_to_take q s link)

-- a frame is given to the endpoint
abbrev pub with_given : List ℕ → Gate → Gate
with_given frame g = record g {
  endpoint = with_state g.endpoint (send (message_of frame) g.endpoint.state);
}

abbrev pub given : {Q : Type 0} → List ℕ → Gate → State Q → Did Q
given frame g s = record { sent = []; seen = WentOut frame ∷ []; gate = with_given frame g; exchange = s }

module _ {Q : Type 0} (q : QueueKind Q) where
  -- the next frame of the link is taken and given; a take that gives none ends it
  abbrev pub taken_by : (List ℕ → Gate → State Q → Did Q) → Option (List ℕ) → Gate → State Q → Did Q
  taken_by rest None g s = nothing g (taken q s g.link)
  taken_by rest (Some frame) g s = followed_by (given frame g (taken q s g.link)) (rest frame)

  -- frames are taken one after another, at most n, while each can go out with those before it, of this many octets
  unfoldable pub taken_all : (most octets : ℕ) → Gate → State Q → Did Q
  taken_all zero octets g s = nothing g s
  taken_all (suc most) octets g s =
      if has_room_behind g.endpoint.state octets
      then taken_by (λ frame h t. taken_all most (octets + length frame) h t) (text_to_take q s g.link) g s
      else nothing g s

module _ {Q : Type 0} (q : QueueKind Q) (now : ℕ) where
  -- none is taken if something else still waits to go out
  abbrev pub taken_if : Gate → State Q → Did Q
  taken_if g s =
      if is_lasting now g.endpoint && has_room g.endpoint.state then taken_all q MOST_FRAMES 0 g s else nothing g s

  -- then all that is due goes out
  abbrev pub filled : Gate → State Q → Did Q
  filled g s = followed_by (taken_if g s) (λ h t. flushed q now h t)

-- ---- when to call again

-- when the endpoint's next timer runs out; or, while it waits for its peer, when a try may begin
abbrev pub due_of : Option ℕ → Gate → Option ℕ
due_of None g = if g.tries && g.standing.is_seeking then Some g.standing.due else None
due_of (Some moment) g = Some moment

abbrev pub due : Gate → Option ℕ
due g = due_of (deadline g.endpoint.state) g
