-- A frame that is fetched, or none.
use Rattle.std.proofs.Common.{◌≡◌, ◌<◌, ℕ, Bool, true, List, [], ◌∷◌, ◌++◌, Some, None, nat_lt, refl, ap, ◌∙◌, arith}
use Rattle.std.specs.Prelude.{◌&&◌, slice_set}
use Rattle.std.proofs.lemmas.Bool.Decides.{nat_tests}
use Rattle.std.proofs.lemmas.List.{set-get_or}
use Rattle.settings.specs.Configuration.{Configuration}
use Rattle.m2pa_codec.specs.Frames.{FrameValue, EmptyFrame, MessageFrame, StatusFrame, spelled}
use Rattle.exchange_rules.specs.State.{Node}
use Rattle.exchange_rules.specs.Queues.{WholeQueues, whole}
use Rattle.exchange_rules.specs.Sending.{Outgoing, SendsStatus, SendsMessage, Acknowledges, SendsNothing, frame_from, after_sending, goes_out}
use Rattle.exchange_rules.specs.Exchange.{frame_to_take, taken}
use Rattle.exchange_rules.specs.First.{Abstract}
use Rattle.pair_rules.specs.Pairs.{Streams, in_flight, launched}
use Rattle.network_world.specs.KeptSites.{behind_its}

-- ---- a take that gives nothing changes nothing

nothing-sent : (c : Configuration) (link last_accepted last_sent : ℕ) (n : Node WholeQueues) (out : Outgoing) → frame_from last_accepted last_sent out ≡ None → after_sending whole c link n out ≡ n
nothing-sent c link last_accepted last_sent n (SendsStatus status) e = absurd cc
nothing-sent c link last_accepted last_sent n (SendsMessage next) e = absurd cc
nothing-sent c link last_accepted last_sent n Acknowledges e = absurd cc
nothing-sent c link last_accepted last_sent n SendsNothing e = refl

pub nothing-taken : (a : Abstract) (link : ℕ) → frame_to_take whole a link ≡ None → taken whole a link ≡ a
nothing-taken a link e =
    ap (λ (n : Node WholeQueues). record { settings = a.settings; node = n; reroutings = a.reroutings })
    (nothing-sent a.settings link (whole.last_accepted a.node.queues link) (whole.last_sent a.node.queues link) a.node (goes_out whole a.settings link a.node) e)

pub is-there : (link count : ℕ) → link < count → nat_lt link count ≡ true
is-there link count l = grind (arith, nat_tests, l)

pub both-there : {b c : Bool} → b ≡ true → c ≡ true → (b && c) ≡ true
both-there {b} {c} e f = ap (λ (x : Bool). x && c) e ∙ f

-- ---- what is in flight is the same, where no frame goes out, or none on a stream

module _ (s : Streams) (link : ℕ) where
  pub statuses-same : slice_set s.statuses link (in_flight s.statuses link) ≡ s.statuses
  statuses-same = set-get_or s.statuses link []

  pub data-same : slice_set s.user_data link (in_flight s.user_data link) ≡ s.user_data
  data-same = set-get_or s.user_data link []

  -- a frame goes out on its stream
  pub behind-same : (frame : FrameValue) → behind_its (Some (spelled frame)) link s ≡ launched frame link s
  behind-same (EmptyFrame bsn fsn) =
      ap (λ (xs : List (List (List ℕ))). record { statuses = xs; user_data = slice_set s.user_data link (in_flight s.user_data link ++ spelled (EmptyFrame bsn fsn) ∷ []) }) statuses-same
  behind-same (MessageFrame bsn fsn sio sif) =
      ap (λ (xs : List (List (List ℕ))). record { statuses = xs; user_data = slice_set s.user_data link (in_flight s.user_data link ++ spelled (MessageFrame bsn fsn sio sif) ∷ []) }) statuses-same
  behind-same (StatusFrame bsn fsn status) =
      ap (λ (xs : List (List (List ℕ))). record { statuses = slice_set s.statuses link (in_flight s.statuses link ++ spelled (StatusFrame bsn fsn status) ∷ []); user_data = xs }) data-same
