-- Two nodes that have only each other, as two that may have further neighbours: the promises speak of all that they
-- accepted and received.
use Rattle.std.specs.Prelude.{◌≡◌, ◌<◌, ℕ, false, List, [], Some, length, slice_get}
use Rattle.settings.specs.Configuration.{Configuration}
use Rattle.sctp_ends.specs.Shown.{AreGood}
use Rattle.pair_rules.specs.Pairs.{End, PairState, Step, first_pair, after_steps, nothing_in_flight}
use Rattle.pair_rules.specs.Promises.{AreJoined, LostNothing, EachOnce, InOrder, IsPunctual, BothWays}
use Rattle.neighbour_rules.specs.Neighbours.{end_there, leads_elsewhere_by}
use Rattle.node_rules.specs.Worlds.{Books, Make, World, new_world, Steps, last_world}
use Rattle.node_rules.specs.Promises.{AreNeighbours, ends_of}

-- two nodes whose settings face each other; no endpoint draws a tag twice, and cookies open as what was signed
pub record AreFacing (near far : Make) : Type 0 where
  pub joined : AreJoined near.configuration far.configuration
  pub near_good : (link : ℕ) → AreGood (near.endpoints link).secrets
  pub far_good : (link : ℕ) → AreGood (far.endpoints link).secrets

-- after every list of steps
abbrev pub AlwaysAlone : ((near far : Make) → World → Type 0) → Type 0
AlwaysAlone Statement =
    (near far : Make) → AreFacing near far → (list : List World) → Steps near far (new_world near far) list →
    Statement near far (last_world (new_world near far) list)

-- each link is between the two, with one number at both, and none leads elsewhere
pub record AreBetween (own other : Configuration) : Type 0 where
  pub each : (link : ℕ) → link < length own.links → end_there own other (slice_get own.links link) ≡ Some link
  pub none_elsewhere : (link : ℕ) → leads_elsewhere_by own other (slice_get own.links link) ≡ false

-- the ends of a pair that have all that nodes accepted and received
abbrev pub whole_end : Books → End
whole_end b = record {
  exchange = b.exchange;
  incoming = nothing_in_flight 0;
  following = [];
  accepted = b.accepted;
  received = b.received;
}

abbrev pub whole_ends : World → PairState
whole_ends w = record { near = whole_end w.near.books; far = whole_end w.far.books }

pub record HasBooks (b : Books) (e : End) : Type 0 where
  pub exchange : b.exchange ≡ e.exchange
  pub accepted : b.accepted ≡ e.accepted
  pub received : b.received ≡ e.received

pub record IsSpecial (near far : Make) (w : World) : Type 0 where
  pub neighbours : AreNeighbours near far
  pub near_links : AreBetween near.configuration far.configuration
  pub far_links : AreBetween far.configuration near.configuration
  -- all that either accepted is for the other, and all that it received for itself
  pub all_booked : ends_of near far w ≡ whole_ends w
  -- there are steps of two exchanges that have only each other (`pair_rules`) that lead to the same exchanges, with the
  -- same accepted and received
  pub steps : List Step
  pub near_is : HasBooks w.near.books (after_steps steps (first_pair near.configuration far.configuration)).near
  pub far_is : HasBooks w.far.books (after_steps steps (first_pair near.configuration far.configuration)).far
  -- "Exactly once" and "Order" of all user messages
  pub once : LostNothing (whole_ends w) → BothWays EachOnce (whole_ends w)
  pub in_order : LostNothing (whole_ends w) → BothWays (λ p. IsPunctual p → InOrder p) (whole_ends w)

abbrev pub alone_is_special : Type 0
alone_is_special = AlwaysAlone IsSpecial
