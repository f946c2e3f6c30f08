-- What an abstract network promises the network promises that stands for it.
use Rattle.std.proofs.Common.{◌≡◌, ◌+◌, ℕ, Bool, List, ap, sym, subst, ◌∙◌}
use Rattle.std.specs.Prelude.{count_by, true}
use Rattle.signalling_types.specs.Message.{Message}
use Rattle.pair_rules.specs.Awaiting.{HoldInNoVain}
use Rattle.pair_rules.specs.Pairs.{PairState}
use Rattle.pair_rules.specs.Promises.{BothWays, IsPunctual, LostNothing, user}
use Rattle.pair_rules.specs.Sharing.{AreSharing}
use Rattle.neighbour_rules.specs.Neighbours.{users_to}
use Rattle.neighbour_rules.specs.Promises.{EachOnce, InOrder}
use Rattle.network_rules.specs.Networks.{NetworkState}
use Rattle.network_rules.specs.Pairs as networks
use Rattle.network_rules.specs.Pairs.{came_from, pair_of}
use Rattle.network_rules.proofs.Joined.{placed-well}
use Rattle.network_rules.proofs.Promised.{held, once, order}
use Rattle.network_world.specs.Promised.{ComeInOrder, ComeOnce}
use Rattle.network_world.specs.KeptNodes.{KeptNode}
use Rattle.network_world.specs.KeptNetworks.{node_at, points_of}
use Rattle.network_world.specs.NetworkPromised.{AcceptedInOrder, AcceptedOnce, AcceptedOrWait, ArrivedInOrder, ArrivedOnce, ShareSet, waiting_between}
use Rattle.network_world.specs.NetworkStands.{IsNetworkReached, NetworkStandsFor, has_node}
use Rattle.network_world.proofs.AsKept.{IsKept, as-kept, own-point}
use Rattle.network_world.proofs.Shown as shown
use Rattle.network_world.proofs.Shown.{counted}

module _ (k : List KeptNode) (w : NetworkState) (s : NetworkStandsFor k w) where
  abbrev pub r : IsNetworkReached (points_of k) w
  r = s.reached

  abbrev k-is : IsKept k w
  k-is = as-kept k w s

  -- ---- two that share a set

  module _ (near far : ℕ) (a : ShareSet w near far) where
    pub near-same : (w.node near).exchange.settings ≡ r.settings near
    near-same = shown.near-same k w k-is near far a

    pub far-same : (w.node far).exchange.settings ≡ r.settings far
    far-same = shown.far-same k w k-is near far a

    pub sharing : AreSharing (r.settings near) (r.settings far)
    sharing = shown.sharing k w k-is near far a

    pub has-near : has_node near k ≡ true
    has-near = shown.has-near k w k-is near far a

    pub law : (Statement : PairState → Type 0) → networks.Always Statement → Statement (pair_of w near far)
    law Statement always =
        subst (λ (v : NetworkState). Statement (pair_of v near far)) (sym r.by)
        (always r.settings r.moves near far r.placed.own (placed-well r.settings (points_of k) r.placed) sharing)

    pub between : (Statement : PairState → Type 0) → networks.Always (λ p. LostNothing p → BothWays Statement p) → LostNothing (pair_of w near far)
        → BothWays Statement (pair_of w near far)
    between Statement always = law (λ p. LostNothing p → BothWays Statement p) always

    pub never-held-in-vain : HoldInNoVain (pair_of w near far)
    never-held-in-vain = law HoldInNoVain held

    its-once : LostNothing (pair_of w near far) → BothWays EachOnce (pair_of w near far)
    its-once = between EachOnce once

    its-order : LostNothing (pair_of w near far) → BothWays (λ q. IsPunctual q → InOrder q) (pair_of w near far)
    its-order = between (λ q. IsPunctual q → InOrder q) order

  -- ---- what is promised

  module _ (near far : ℕ) where
    abbrev p : PairState
    p = pair_of w near far

    -- each is told its point
    theirs : users_to (w.node far).exchange.settings.own (w.node near).accepted ≡ users_to far (w.node near).accepted
    theirs = ap (λ (point : ℕ). users_to point (w.node near).accepted) (own-point k w k-is far)

    pub accepted-once : AcceptedOnce w near far (w.node near).accepted
    accepted-once = λ a.
        subst (λ (ms : List Message). ComeOnce p ms p.far.received) theirs (λ lost. (its-once near far a lost).there)

    pub accepted-order : AcceptedInOrder w near far (w.node near).accepted
    accepted-order = λ a.
        subst (λ (ms : List Message). ComeInOrder p ms p.far.received) theirs (λ lost punctual. (its-order near far a lost).there punctual)

    abbrev came : List Message
    came = came_from (w.node far).exchange.settings (w.node near).exchange.settings (w.node far).arrived

    ours : users_to (w.node far).exchange.settings.own came ≡ users_to far came
    ours = ap (λ (point : ℕ). users_to point came) (own-point k w k-is far)

    pub arrived-once : ArrivedOnce w far near (w.node far).arrived
    arrived-once = λ a.
        subst (λ (ms : List Message). ComeOnce p p.near.accepted ms) ours (λ lost. (its-once near far a lost).there)

    pub arrived-order : ArrivedInOrder w far near (w.node far).arrived
    arrived-order = λ a.
        subst (λ (ms : List Message). ComeInOrder p p.near.accepted ms) ours (λ lost punctual. (its-order near far a lost).there punctual)

    pub wait-or-come : (picks : Message → Bool) → AcceptedOrWait w near far picks (waiting_between picks (node_at near k) (node_at far k))
    wait-or-come picks = λ a lost.
        (its-once near far a lost).there picks
        ∙ ap (λ (n : ℕ). count_by (user picks) p.far.received + n) (sym (counted k w k-is near far a picks))
