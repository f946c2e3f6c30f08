-- A run of the three nodes in a row of `TwoFailures`. The middle node starts again while a link from there to either
-- end is in service, and T1 of both ends runs out, which counts as losses; then the network is quiet. The links return,
-- and a message comes from end to end, once.
use Rattle.std.specs.Prelude.{◌≡◌, true, map, replicate, List, [], ◌∷◌, ◌++◌}
use Rattle.exchange_rules.specs.Conserving.{standing}
use Rattle.exchange_rules.specs.State.{lost_any}
use Rattle.pair_rules.specs.Pairs.{Submits, Takes, Delivers, Loses, Ticks}
use Rattle.neighbour_rules.specs.ThirdNode.{the_message}
use Rattle.network_rules.specs.Networks.{NetworkNode, NetworkState, Place, Step, after_steps, first_network}
use Rattle.network_rules.specs.Totals.{IsJoined}
use Rattle.network_rules.specs.Anew.{Change, HaveLostNothingSince, IsQuietNetwork, Restarts, Steps, after_all}
use Rattle.network_rules.specs.Anew.{begun_anew}
use Rattle.network_rules.specs.TwoFailures.{aligns, done_at, row, second_line, sends, serves, third_line, turned}
use Rattle.network_rules.specs.TwoFailures.{users_come}

-- ---- steps

-- a link between points 3 and 1 and one between points 1 and 2 enter service
abbrev pub opening : List Step
opening =
    aligns second_line ++ aligns third_line
    ++ record { point = 1; what = Ticks } ∷ record { point = 2; what = Ticks } ∷ record { point = 3; what = Ticks }
    ∷ serves third_line ++ serves second_line

-- a node sees its association lost, and its T1 runs out, after nine ticks
abbrev pub loses : Place → List Step
loses end = done_at end Loses ∷ replicate 9 (record { point = end.point; what = Ticks })

-- point 1 starts again
abbrev pub breaking : List Change
breaking = Restarts 1 ∷ map Steps (loses second_line.here ++ loses third_line.there)

-- the links return, and all that the nodes tell each other of routes comes
abbrev pub returning : List Step
returning =
    opening
    ++ sends third_line ++ sends third_line ++ sends third_line ++ sends (turned third_line)
    ++ sends (turned third_line) ++ sends second_line ++ sends second_line ++ sends (turned second_line)

-- ---- states, each reached from the one before

abbrev pub broken : NetworkState
broken = after_all (map Steps opening ++ breaking) (first_network row)

abbrev pub returned : NetworkState
returned = after_steps returning (begun_anew broken)

-- a message is submitted, and sent
abbrev pub submitted : NetworkState
submitted = after_steps (record { point = 3; what = Submits the_message } ∷ []) returned

abbrev pub sent : NetworkState
sent = after_steps (done_at second_line.here Takes ∷ []) submitted

-- it comes to point 1, and on to point 2
abbrev pub passed : NetworkState
passed = after_steps (done_at second_line.there Delivers ∷ []) sent

abbrev pub come : NetworkState
come = after_steps (sends third_line ++ sends (turned third_line) ++ sends (turned second_line)) passed

-- and what they show

-- no user message waits at a node, in Held or on a link, and it refused none that came for another point
pub record IsDone (x : NetworkNode) : Type 0 where
  pub none_waits : standing (λ m. true) x.exchange.node.queues ≡ 0
  pub refused : x.refused ≡ []

pub record ComesAfterRestart : Type 0 where
  pub joined : IsJoined row (1 ∷ 2 ∷ 3 ∷ [])
  -- either end may have lost a message, and the network is quiet
  pub third_lost : lost_any (broken.node 3).exchange.node.parts ≡ true
  pub far_lost : lost_any (broken.node 2).exchange.node.parts ≡ true
  pub quiet : IsQuietNetwork (1 ∷ 2 ∷ 3 ∷ []) broken
  -- a message enters at point 3, and comes to each node on its way, once
  pub entered : (come.node 3).entered ≡ the_message ∷ []
  pub comes_through : users_come (come.node 1) ≡ record { link = 1; message = the_message } ∷ []
  pub comes : users_come (come.node 2) ≡ record { link = 0; message = the_message } ∷ []
  -- nothing waits any more, nothing was refused, and no node counted a loss since
  pub third_done : IsDone (come.node 3)
  pub near_done : IsDone (come.node 1)
  pub far_done : IsDone (come.node 2)
  pub since : HaveLostNothingSince (1 ∷ 2 ∷ 3 ∷ []) broken come
