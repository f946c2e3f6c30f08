-- What a world in code promises: what each world of gates promises for which it stands.
use Rattle.std.specs.Prelude.{ℕ, List}
use Rattle.settings.specs.Configuration.{Configuration}
use Rattle.pair_rules.specs.Promises.{AreJoined, BothWays, EachOnce, InOrder, IsPunctual, LostNothing}
use Rattle.network_rules.specs.Networks.{NetworkState}
use Rattle.gate_rules.specs.Promises.{whole_ends}
use Rattle.network_gates.specs.GateWorlds.{GateWorld, shown}
use Rattle.network_gates.specs.GatesAlone.{two_of}
use Rattle.node_world.specs.Kept.{KeptNode, points_of}
use Rattle.node_world.specs.Stands.{StandsFor}

-- the settings of its nodes
abbrev pub settings_in : GateWorld → (point : ℕ) → Configuration
settings_in w point = (w.node point).books.exchange.settings

-- this holds of its nodes and of what they have booked
abbrev pub Promises : ((settings : (point : ℕ) → Configuration) → (points : List ℕ) → NetworkState → Type 0)
    → List KeptNode → Type 0
Promises Statement k = (w : GateWorld) → StandsFor k w → Statement (settings_in w) (points_of k) (shown w)

-- of two that have only each other: of all user messages that either accepted, in both directions
pub record ComeBetween (near far : ℕ) (w : GateWorld) : Type 0 where
  -- as many of every kind were accepted at one node as the other received and as wait between them
  pub once : BothWays EachOnce (whole_ends (two_of w near far))
  -- and while no T3 or T4 of the accepting node ended a hold, those of each flow came in order
  pub order : BothWays (λ p. IsPunctual p → InOrder p) (whole_ends (two_of w near far))

-- while neither may have lost a message
abbrev pub AloneComeBetween : List KeptNode → Type 0
AloneComeBetween k =
    (w : GateWorld) → StandsFor k w → (near far : ℕ) → AreJoined (settings_in w near) (settings_in w far) →
    LostNothing (whole_ends (two_of w near far)) → ComeBetween near far w
