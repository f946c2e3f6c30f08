-- What two nodes that share a link set promise anew: from each state on in which nothing is left between them, whatever
-- was lost before, and however often either of them has started again.
use Rattle.std.specs.Prelude.{◌≡◌, ◌<◌, ◌-◌, ◌^◌, ◌||◌, ℕ, Bool, true, false, List, [], ◌∷◌, slice_set}
use Rattle.std.specs.List.{list_any}
use Rattle.signalling_types.specs.Message.{Message}
use Rattle.settings.specs.Configuration.{Configuration}
use Rattle.exchange_rules.specs.LoneRoutes.{is_user_to}
use Rattle.pair_rules.specs.Pairs.{PairState, turned, may_follow, may_open_at, first_end, first_pair}
use Rattle.pair_rules.specs.Promises.{BothWays}
use Rattle.pair_rules.specs.Sharing.{AreSharing}
use Rattle.neighbour_rules.specs.Neighbours.{Step, after_steps, is_management_between, turn}
use Rattle.neighbour_rules.specs.Promises.{EachOnce, InOrder}
use Rattle.neighbour_rules.specs.Laws.{AreFinal, IsCarried, MovesLacked, NoneIsLeft, OfEachLink}

-- ---- nodes that start again

-- what is done to a pair: a step; an end starts again; or an end that may follow the other on a link gives that up
pub data Change : Type 0 where
  Steps : (step : Step) → Change
  NearRestarts : Change
  FarRestarts : Change
  NearGivesUp : (link : ℕ) → Change
  FarGivesUp : (link : ℕ) → Change

-- the near end starts again: its exchange is as it was booted, with the same settings. Nothing is in flight to it, and
-- it may follow the far end on no link. What is in flight to the far end stays: that end sees its associations lost
-- later, each by a step. Where it may follow, it still may, since what tells it that a link opened can be under way yet
abbrev pub restarted : PairState → PairState
restarted p =
    record p {
      near = record (first_end p.near.exchange.settings) { accepted = p.near.accepted; received = p.near.received };
    }

-- the near end may not follow the far one on a link any more, as when its transport has seen that nobody answers
abbrev pub given_up : (link : ℕ) → PairState → PairState
given_up link p = record p { near = record p.near { following = slice_set p.near.following link false } }

abbrev pub after_change : Change → PairState → PairState
after_change (Steps step) p = (turn step p).left
after_change NearRestarts p = restarted p
after_change FarRestarts p = turned (restarted (turned p))
after_change (NearGivesUp link) p = given_up link p
after_change (FarGivesUp link) p = turned (given_up link (turned p))

abbrev pub after_all : List Change → PairState → PairState
after_all [] p = p
after_all (change ∷ changes) p = after_all changes (after_change change p)

-- ---- nothing is left between them

-- whether a message is between two points: a user message for either, or management in the name of one for the other
abbrev pub is_between : (one two : ℕ) → Message → Bool
is_between one two m =
    is_user_to one m || is_user_to two m || is_management_between one two m || is_management_between two one m

-- each link between the two may open at the near end, which may not follow the far one there; and no message between
-- them is in its Held
pub record IsQuietEnd (p : PairState) : Type 0 where
  pub links : OfEachLink p (λ link other. (may_open_at p.near link ≡ true) × (may_follow p.near link ≡ false))
  pub held :
      list_any
      (is_between p.near.exchange.settings.own p.far.exchange.settings.own)
      p.near.exchange.node.queues.held
      ≡ false

abbrev pub IsQuietPair : PairState → Type 0
IsQuietPair p = BothWays IsQuietEnd p

-- ---- the promises, from then on

-- what was accepted and received before counts no more
abbrev pub begun_anew : PairState → PairState
begun_anew p = record {
  near = record p.near { accepted = []; received = [] };
  far = record p.far { accepted = []; received = [] };
}

-- the most that a node counts
abbrev pub most : ℕ
most = 2 ^ 64 - 1

-- how often the near end may have lost a message, and how often messages of a flow may have gone out of order there
abbrev pub times_lost : PairState → ℕ
times_lost p = p.near.exchange.node.parts.times_lost

abbrev pub times_late : PairState → ℕ
times_late p = p.near.exchange.node.parts.times_late

-- a count can still rise, and hasn't
pub record Stays (before after : ℕ) : Type 0 where
  pub countable : before < most
  pub same : after ≡ before

-- neither end may have lost a message since the pair was p
pub record LostNothingSince (p q : PairState) : Type 0 where
  pub near : Stays (times_lost p) (times_lost q)
  pub far : Stays (times_lost (turned p)) (times_lost (turned q))

-- what the near end accepted since then, the far end received once, or it waits; and each flow in order, if furthermore
-- no timer of the near end ended a hold since. Laws (i) to (iv) hold, too
pub record KeepsPromises (p q : PairState) : Type 0 where
  pub once : EachOnce q
  pub order : Stays (times_late p) (times_late q) → InOrder q
  pub carried : IsCarried q
  pub left : NoneIsLeft q
  pub final : AreFinal q
  pub moved : MovesLacked q

pub record BothKeep (p q : PairState) : Type 0 where
  pub there : KeepsPromises p q
  pub back : KeepsPromises (turned p) (turned q)

-- after every list of steps from a quiet pair on, while nothing may have been lost since
abbrev pub HoldAnew : PairState → Type 0
HoldAnew p =
    (steps : List Step) → LostNothingSince p (after_steps steps (begun_anew p)) →
    BothKeep p (after_steps steps (begun_anew p))

-- from every quiet pair that comes of two newly booted exchanges whose settings share a set
abbrev pub promises_begin_anew : Type 0
promises_begin_anew =
    (near far : Configuration) (changes : List Change) → AreSharing near far →
    IsQuietPair (after_all changes (first_pair near far)) → HoldAnew (after_all changes (first_pair near far))

-- at first the pair is quiet
abbrev pub pairs_begin_quietly : Type 0
pairs_begin_quietly = (near far : Configuration) → IsQuietPair (first_pair near far)
