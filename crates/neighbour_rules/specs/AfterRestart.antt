-- A run of two nodes with two links between them, of which one is used. The far node starts again while that is in
-- service, and T1 of the near one runs out, which counts as a loss; then nothing is left between the two. The link
-- returns, and a message comes by it, once.
use Rattle.std.specs.Prelude.{◌≡◌, true, map, replicate, List, [], ◌∷◌, ◌++◌}
use Rattle.exchange_rules.specs.State.{lost_any}
use Rattle.pair_rules.specs.Pairs.{PairState, Submits, Takes, Delivers, DeliversStatus, Loses, Ticks, OpensFirst, OpensSecond, first_pair}
use Rattle.pair_rules.specs.OneEndFirst.{near_settings, far_settings, the_message}
use Rattle.pair_rules.specs.Sharing.{AreSharing}
use Rattle.neighbour_rules.specs.Neighbours.{Does, Step, AtNear, AtFar, after_steps}
use Rattle.neighbour_rules.specs.Promises.{waiting}
use Rattle.neighbour_rules.specs.Anew.{Change, FarRestarts, IsQuietPair, LostNothingSince, Stays, Steps, after_all, begun_anew, times_late}

-- a link status goes from one end of link 0 to the other
abbrev pub tells_far : List Step
tells_far = AtNear (Does (Takes 0)) ∷ AtFar (Does (DeliversStatus 0)) ∷ []

abbrev pub tells_near : List Step
tells_near = AtFar (Does (Takes 0)) ∷ AtNear (Does (DeliversStatus 0)) ∷ []

-- it opens, both ends prove it, and it enters service
abbrev pub opening : List Step
opening =
    AtNear (Does (OpensFirst 0)) ∷ AtFar (Does (OpensSecond 0))
    ∷ tells_far ++ tells_near ++ tells_near ++ tells_far ++ AtNear (Does Ticks) ∷ AtFar (Does Ticks)
    ∷ tells_far ++ tells_near

-- the far node starts again. The near one sees its association lost, and its T1 runs out, after nine ticks
abbrev pub breaking : List Change
breaking = FarRestarts ∷ Steps (AtNear (Does (Loses 0))) ∷ replicate 9 (Steps (AtNear (Does Ticks)))

-- ---- states, each reached from the one before

abbrev pub broken : PairState
broken = after_all (map Steps opening ++ breaking) (first_pair near_settings far_settings)

-- the link returns
abbrev pub returned : PairState
returned = after_steps opening (begun_anew broken)

-- a message is submitted
abbrev pub submitted : PairState
submitted = after_steps (AtNear (Does (Submits the_message)) ∷ []) returned

-- it is sent
abbrev pub come : PairState
come = after_steps (AtNear (Does (Takes 0)) ∷ AtFar (Does (Delivers 0)) ∷ []) submitted

-- and what they show
pub record ComesAfterRestart : Type 0 where
  pub sharing : AreSharing near_settings far_settings
  -- the near node may have lost a message, and nothing is left between the two
  pub lost : lost_any broken.near.exchange.node.parts ≡ true
  pub quiet : IsQuietPair broken
  -- a message is accepted, waits, and comes
  pub accepted : submitted.near.accepted ≡ the_message ∷ []
  pub waits : waiting submitted ≡ the_message ∷ []
  pub received : come.far.received ≡ the_message ∷ []
  pub none_waits : waiting come ≡ []
  -- neither node counted anything since
  pub since : LostNothingSince broken come
  pub punctual : Stays (times_late broken) (times_late come)
