-- What a gate does, as steps of its node in a network over datagrams.
use Rattle.std.specs.Prelude.{◌≡◌, ℕ, List, [], ◌∷◌, map}
use Rattle.std.specs.List.{Contains}
use Rattle.sctp_rules.specs.State.{Datagram}
use Rattle.exchange_rules.specs.Queues.{WholeQueues, whole}
use Rattle.sctp_gate.specs.Gates.{Gate, Did}
use Rattle.sctp_gate.specs.Calling.{Call, called}
use Rattle.node_rules.specs.Worlds.{Make}
use Rattle.gate_rules.specs.Calls.{MayCall, Shows, seen_all}
use Rattle.network_datagrams.specs.NetworkWorlds.{Doing, HasEnd, MayDo, NetworkWorld, Steps, after, last_world, new_world, shown}
use Rattle.network_datagrams.specs.NetworkPromises.{AreJoined}
use Rattle.network_gates.specs.GateWorlds.{node_kept}

module _ (make : (point : ℕ) → Make) (point : ℕ) where
  -- steps of one node, one after another
  abbrev pub after_all : List Doing → NetworkWorld → NetworkWorld
  after_all [] w = w
  after_all (what ∷ more) w = after_all more (after make point what w)

  abbrev pub MayAll : List Doing → NetworkWorld → Type 0
  MayAll [] w = Unit {0}
  MayAll (what ∷ more) w = MayDo w point what × MayAll more (after make point what w)

-- what a call does is what steps do. The gate and the exchange afterwards are those of the node, which booked what is
-- seen of the call, and the endpoint put out what the call puts out
pub record AreSteps (make : (point : ℕ) → Make) (w : NetworkWorld) (point link : ℕ) (d : Did WholeQueues) : Type 0 where
  pub steps : List Doing
  pub may : MayAll make point steps w
  pub shows : Shows (make point) link (((after_all make point steps w).node point).ports link) d.gate
  pub exchange : ((after_all make point steps w).node point).books.exchange ≡ d.exchange
  pub books : ((after_all make point steps w).node point).books ≡ seen_all node_kept link d.seen (w.node point).books
  pub sent : (x : Datagram) → Contains d.sent x →
      Contains (map (λ e. e.packet) (((after_all make point steps w).node point).ports link).site.packets) x.packet

-- for the gate of each link of each node
abbrev pub CallsAreSteps : (make : (point : ℕ) → Make) → NetworkWorld → Type 0
CallsAreSteps make w =
    (point link : ℕ) (g : Gate) (call : Call) (e : HasEnd (shown w) point link) →
    Shows (make point) link ((w.node point).ports link) g →
    MayCall ((w.node e.there.point).ports e.there.link).site call →
    AreSteps make w point link (called whole call g (w.node point).books.exchange)

-- whatever was done before
abbrev pub calls_are_steps : Type 0
calls_are_steps =
    (make : (point : ℕ) → Make) (points : List ℕ) → AreJoined make points → (list : List NetworkWorld) →
    Steps make (new_world make) list → CallsAreSteps make (last_world (new_world make) list)
