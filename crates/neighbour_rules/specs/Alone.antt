-- A pair of nodes that have only each other, as a pair that may have further neighbours.
use Rattle.std.specs.Prelude.{◌≡◌, List, map}
use Rattle.settings.specs.Configuration.{Configuration}
use Rattle.pair_rules.specs.Pairs as pairs
use Rattle.pair_rules.specs.Pairs.{PairState, first_pair}
use Rattle.pair_rules.specs.Accepting.{AreForFarPoint}
use Rattle.pair_rules.specs.Promises.{AreJoined, BothWays, EachOnce, InOrder, IsPunctual, LostNothing}
use Rattle.pair_rules.specs.Sharing.{AreSharing}
use Rattle.neighbour_rules.specs.Neighbours.{Does, Step, AtNear, AtFar, after_steps, turn}

-- the same step
abbrev pub lifted : pairs.Step → Step
lifted (pairs.AtNear what) = AtNear (Does what)
lifted (pairs.AtFar what) = AtFar (Does what)

-- the same becomes of it
abbrev pub GoesAsAlone : PairState → Type 0
GoesAsAlone p = (step : pairs.Step) → turn (lifted step) p ≡ pairs.turn step p

-- the pair that these steps of `pair_rules` lead to
abbrev pub alone_after : (near far : Configuration) → List pairs.Step → PairState
alone_after near far steps = pairs.after_steps steps (first_pair near far)

pub record IsSpecial (near far : Configuration) (steps : List pairs.Step) : Type 0 where
  -- settings that face each other share a set
  pub sharing : AreSharing near far
  pub steps_alike : after_steps (map lifted steps) (first_pair near far) ≡ alone_after near far steps
  pub turns_alike : GoesAsAlone (alone_after near far steps)
  -- all that an end accepted is for the far point
  pub accepted : BothWays AreForFarPoint (alone_after near far steps)
  -- "Exactly once" and "Order" of all user messages
  pub once : LostNothing (alone_after near far steps) → BothWays EachOnce (alone_after near far steps)
  pub in_order :
      LostNothing (alone_after near far steps) →
      BothWays (λ q. IsPunctual q → InOrder q) (alone_after near far steps)

abbrev pub alone_is_special : Type 0
alone_is_special =
    (near far : Configuration) (steps : List pairs.Step) → AreJoined near far → IsSpecial near far steps
