-- Order over a hop, and so over a path, of a flow that goes on beyond the next node: while no route status about its
-- destination has come, and neither of the two lost a message or was late. All that is asked shows in settings, books
-- and flags.
use Rattle.std.specs.Prelude.{◌≡◌, ℕ, ⊤, false, List, [], ◌∷◌, Some}
use Rattle.std.specs.List.{list_any}
use Rattle.signalling_types.specs.declared.point.Flow.{Flow}
use Rattle.settings.specs.Configuration.{Configuration}
use Rattle.settings.specs.Readings.{destination_place, set_place}
use Rattle.settings.specs.Sharing.{sets_to}
use Rattle.pair_rules.specs.Promises.{IsPunctual, LostNothing}
use Rattle.pair_rules.specs.Sharing.{AreSharing}
use Rattle.neighbour_rules.specs.Beyond.{tells_of}
use Rattle.network_rules.specs.Networks.{NetworkNode, NetworkState, first_network}
use Rattle.network_rules.specs.Outside.{Move, after_moves}
use Rattle.network_rules.specs.Pairs.{AreTheirPoints, AreWellOrAlone, came_from, pair_of}
use Rattle.network_rules.specs.Paths.{ComesInOrder, EachOnlyPasses, KeepsInOrder}

-- ---- the premises of a hop

-- the set that leads to the far node leads to a point, and no other does
pub record LeadsOnward (near far : Configuration) (point : ℕ) : Type 0 where
  pub set : ℕ
  pub adjacent : set_place near far.own ≡ Some set
  pub destination : ℕ
  pub place : destination_place near point ≡ Some destination
  pub only : sets_to near (Some destination) ≡ set ∷ []

-- of all that came to the near node by links to the far one, nothing tells of the route to a point: no TFP, TFR or TFA
-- about it did
abbrev pub HearsOfNoRoute : (point : ℕ) → (near far : NetworkNode) → Type 0
HearsOfNoRoute point near far =
    list_any (tells_of point) (came_from near.exchange.settings far.exchange.settings near.arrived) ≡ false

-- a flow leads over a hop: it is for the next node, or goes on beyond it by the set between the two alone, and no
-- status about its route came
pub data LeadsOver (settings : ℕ → Configuration) (w : NetworkState) (flow : Flow) (near far : ℕ) : Type 0 where
  to_it : flow.point ≡ far → LeadsOver settings w flow near far
  beyond : LeadsOnward (settings near) (settings far) flow.point →
      HearsOfNoRoute flow.point (w.node near) (w.node far) → LeadsOver settings w flow near far

-- and neither of its nodes may have lost a message, nor did a T3 or T4 of the former end a hold
pub record IsOpenHop (settings : ℕ → Configuration) (w : NetworkState) (flow : Flow) (near far : ℕ) : Type 0 where
  pub sharing : AreSharing (settings near) (settings far)
  pub leads : LeadsOver settings w flow near far
  pub lossless : LostNothing (pair_of w near far)
  pub punctual : IsPunctual (pair_of w near far)

-- ---- over a hop

-- after every list of moves, those of what comes from outside among them, such a hop keeps the flow in order
abbrev pub hops_keep_flows_in_order : Type 0
hops_keep_flows_in_order =
    (settings : (point : ℕ) → Configuration) (moves : List Move) (flow : Flow) (near far : ℕ) →
    AreTheirPoints settings → AreWellOrAlone settings →
    IsOpenHop settings (after_moves moves (first_network settings)) flow near far →
    KeepsInOrder flow (after_moves moves (first_network settings)) near far

-- ---- over a path

-- each hop of it is such a one
abbrev pub AreOpenHops :
    (settings : (point : ℕ) → Configuration) → NetworkState → Flow → (first : ℕ) → (rest : List ℕ) → Type 0
AreOpenHops settings w flow first [] = ⊤
AreOpenHops settings w flow first (next ∷ rest) =
    IsOpenHop settings w flow first next × AreOpenHops settings w flow next rest

-- so a flow comes from end to end in order
abbrev pub paths_keep_flows_in_order : Type 0
paths_keep_flows_in_order =
    (settings : (point : ℕ) → Configuration) (moves : List Move) (flow : Flow) (first : ℕ) (rest : List ℕ) →
    AreTheirPoints settings → AreWellOrAlone settings →
    AreOpenHops settings (after_moves moves (first_network settings)) flow first rest →
    EachOnlyPasses flow (after_moves moves (first_network settings)) first rest →
    ComesInOrder flow (after_moves moves (first_network settings)) first rest
