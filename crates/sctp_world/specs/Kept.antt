-- What is kept of two endpoints.
use Rattle.std.specs.Prelude.{◌≡◌, ℕ, Bool, true, false, ◌&&◌, List, [], ◌++◌, map, Option, Some, None, slice_get}
use Rattle.sctp_rules.specs.Settings.{Settings}
use Rattle.sctp_moves.specs.Ends.{Message}
use Rattle.sctp_receiving.specs.Pieces as pieces
use Rattle.sctp_rules.specs.State.{Told, Up, Heard, Down, Failed, Done, first_state}
use Rattle.sctp_rules.specs.Endpoint.{Happening, after}
use Rattle.sctp_ends.specs.Told.{opened_by, given_by}
use Rattle.sctp_bundling.specs.Watching.{Sent, sent_as}
use Rattle.sctp_endpoint.specs.Endpoints.{Endpoint, secrets_of}
use Rattle.sctp_world.specs.declared.step.End.{End}
use Rattle.sctp_world.specs.declared.step.End.TheVariants.{Near, Far}
use Rattle.sctp_world.specs.declared.log.Entry.{Entry}
use Rattle.sctp_world.specs.declared.log.Entry.TheVariants as entries

abbrev pub message_of : Message → pieces.Message
message_of m = record { stream = m.stream; protocol = m.protocol; octets = m.octets }

abbrev pub told_by_entry : Entry → Told
told_by_entry entries.Up = Up
told_by_entry (entries.Heard text) = Heard (message_of text)
told_by_entry (entries.Down why) = Down why
told_by_entry (entries.Failed why) = Failed why

-- whether what was told at an index is Up
abbrev pub is_up : Option Told → Bool
is_up None = false
is_up (Some Up) = true
is_up (Some (Heard message)) = false
is_up (Some (Down why)) = false
is_up (Some (Failed why)) = false

abbrev pub is_up_at : List Told → (place : ℕ) → Bool
is_up_at told place = is_up (slice_get told place)

-- all datagrams that were put out, and all that the user was told, unless memory ran out for one of them
pub record KeptLog : Type 0 where
  pub sent : List Sent
  pub told : List Told
  pub is_whole : Bool

-- these were put out, and this was told
pub record HasAll (log : KeptLog) (sent : List Sent) (told : List Told) : Type 0 where
  pub sent_is : log.is_whole ≡ true → log.sent ≡ sent
  pub told_is : log.is_whole ≡ true → log.told ≡ told

-- an endpoint, and what the user gave in each association, the latest first
pub record KeptSite : Type 0 where
  pub endpoint : Endpoint
  pub log : KeptLog
  pub given : List (List Message)

-- the octets at an index of all that an endpoint put out
abbrev pub octets_of : Option Sent → List ℕ
octets_of None = []
octets_of (Some sent) = sent.octets

abbrev pub octets_at : KeptSite → (place : ℕ) → List ℕ
octets_at k place = octets_of (slice_get k.log.sent place)

abbrev pub first_kept : Settings → (tag_key cookie_key : List ℕ) → KeptSite
first_kept c tag_key cookie_key = record {
  endpoint = record { settings = c; tag_key = tag_key; cookie_key = cookie_key; state = first_state c };
  log = record { sent = []; told = []; is_whole = true };
  given = [];
}

-- what a rule does at an endpoint, if the user gave these
abbrev pub with_done : Done → List (List Message) → KeptSite → KeptSite
with_done d given s = record {
  endpoint = record s.endpoint { state = d.left };
  log = record s.log { sent = s.log.sent ++ map sent_as d.sent; told = s.log.told ++ d.told };
  given = opened_by given d.told;
}

abbrev pub kept_happened : Happening → KeptSite → KeptSite
kept_happened what s =
    with_done (after s.endpoint.settings (secrets_of s.endpoint) what s.endpoint.state)
    (given_by what s.endpoint.state s.given) s

-- the endpoint is as it should be, and so is all that is kept of it, unless memory ran out for that, now or before
pub record Keeps (was should is : KeptSite) : Type 0 where
  pub endpoint_is : is.endpoint ≡ should.endpoint
  pub was_whole : is.log.is_whole ≡ true → was.log.is_whole ≡ true
  pub all_is : is.log.is_whole ≡ true → is ≡ should

pub record KeptWorld : Type 0 where
  pub near : KeptSite
  pub far : KeptSite

abbrev pub kept_at : End → KeptWorld → KeptSite
kept_at Near k = k.near
kept_at Far k = k.far

abbrev pub other_kept : End → KeptWorld → KeptSite
other_kept Near k = k.far
other_kept Far k = k.near

-- all of both is kept
abbrev pub is_whole : KeptWorld → Bool
is_whole k = k.near.log.is_whole && k.far.log.is_whole
