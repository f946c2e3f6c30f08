-- What the nodes of a network promise whose links have gates: what those of `network_datagrams` promise.
use Rattle.std.specs.Prelude.{◌≡◌, ℕ, List}
use Rattle.settings.specs.Configuration.{Configuration}
use Rattle.network_rules.specs.Networks.{NetworkState}
use Rattle.network_rules.specs.Totals.{IsJoined}
use Rattle.node_rules.specs.Worlds as nodes
use Rattle.network_datagrams.specs.NetworkWorlds as datagrams
use Rattle.gate_rules.specs.Worlds.{Make}
use Rattle.gate_rules.specs.Promises.{node_make}
use Rattle.network_gates.specs.GateWorlds.{GateWorld, Steps, last_world, new_world, shown}

abbrev pub settings_of : (make : (point : ℕ) → Make) → (point : ℕ) → Configuration
settings_of make point = (make point).configuration

-- the nodes of `network_datagrams` that are made so
abbrev pub nodes_of : (make : (point : ℕ) → Make) → (point : ℕ) → nodes.Make
nodes_of make point = node_make (make point)

-- after every list of steps of nodes whose links join them, whatever their keys
abbrev pub Always : ((make : (point : ℕ) → Make) → (points : List ℕ) → GateWorld → Type 0) → Type 0
Always Statement =
    (make : (point : ℕ) → Make) (points : List ℕ) → IsJoined (settings_of make) points → (list : List GateWorld) →
    Steps (new_world make) list → Statement make points (last_world (new_world make) list)

-- there are steps of nodes over datagrams, which may do each of them, that lead to the same exchanges with the same
-- books
pub record IsRunOverDatagrams (make : (point : ℕ) → Make) (points : List ℕ) (w : GateWorld) : Type 0 where
  pub list : List datagrams.NetworkWorld
  pub steps : datagrams.Steps (nodes_of make) (datagrams.new_world (nodes_of make)) list
  pub is : (point : ℕ) →
      ((datagrams.last_world (datagrams.new_world (nodes_of make)) list).node point).books ≡ (w.node point).books

abbrev pub runs_are_runs_over_datagrams : Type 0
runs_are_runs_over_datagrams = Always IsRunOverDatagrams

-- the promises of `network_datagrams`, by what the nodes have booked
abbrev pub AlwaysShown : ((settings : (point : ℕ) → Configuration) → (points : List ℕ) → NetworkState → Type 0) → Type 0
AlwaysShown Statement = Always (λ make points w. Statement (settings_of make) points (shown w))
