-- The laws of networks hold over datagrams: none of them speaks of what is in flight.
use Rattle.std.proofs.Common.{◌≡◌, ℕ, true, List, ap, sym, subst}
use Rattle.settings.specs.Configuration.{Configuration}
use Rattle.pair_rules.specs.Awaiting.{HoldInNoVain}
use Rattle.pair_rules.specs.Pairs.{PairState}
use Rattle.pair_rules.specs.Promises.{BothWays, IsPunctual, LostNothing}
use Rattle.pair_rules.specs.Sharing.{AreSharing}
use Rattle.neighbour_rules.specs.Awaiting.{AwaitsNothingInVain}
use Rattle.neighbour_rules.specs.Promises.{AreBooked, EachOnce, InOrder, StaysBetween}
use Rattle.network_rules.specs.Networks.{NetworkNode, NetworkState, after_steps, first_network}
use Rattle.network_rules.specs.Pairs.{pair_of}
use Rattle.network_rules.specs.Totals.{ComeToPoint, HaveLostNothing, IsAccounted, is_listed}
use Rattle.network_rules.proofs.Accounted as network
use Rattle.network_rules.proofs.Joined.{well-or-alone}
use Rattle.network_rules.proofs.Outside.{at-steps}
use Rattle.network_rules.proofs.Promised as neighbours
use Rattle.network_rules.proofs.ToPoint as destinations
use Rattle.node_rules.specs.Worlds.{Make}
use Rattle.network_datagrams.specs.NetworkWorlds.{NetworkWorld, Steps, last_world, new_world, shown}
use Rattle.network_datagrams.specs.NetworkPromises.{Always, AreJoined, BooksAreOfTheTwo, EachFlowInOrder, EachMessageAccounted, EachMessageOnce, FlowsStayBetween, MessagesComeToEnd, NothingAwaitedInVain, NothingHeldInVain, settings_of}
use Rattle.network_datagrams.proofs.Showing.{plain}
use Rattle.network_datagrams.proofs.Running.{IsRun, all-run}

-- ---- what is in flight, left out

-- a network with what is in flight in another one
abbrev carrying : (s t : NetworkState) → NetworkState
carrying s t = record { node = λ o. record (s.node o) { incoming = (t.node o).incoming; following = (t.node o).following } }

same-network : (s t : NetworkState) → ((o : ℕ) → plain (t.node o) ≡ plain (s.node o)) → carrying s t ≡ t
same-network s t h = λ i. record { node = λ o. at o i } where
  at : (o : ℕ) → record (s.node o) { incoming = (t.node o).incoming; following = (t.node o).following } ≡ t.node o
  at o = ap (λ (x : NetworkNode). record x { incoming = (t.node o).incoming; following = (t.node o).following }) (sym (h o))

module _ (s t : NetworkState) (near far : ℕ) where
  abbrev one : PairState
  one = pair_of s near far

  abbrev other : PairState
  other = pair_of (carrying s t) near far

  lost-moved : LostNothing other → LostNothing one
  lost-moved h = record { near = h.near; far = h.far }

  once-moved : BothWays EachOnce one → BothWays EachOnce other
  once-moved h = record { there = h.there; back = h.back }

  order-moved : BothWays (λ p. IsPunctual p → InOrder p) one → BothWays (λ p. IsPunctual p → InOrder p) other
  order-moved h = record { there = h.there; back = h.back }

  books-moved : BothWays AreBooked one → BothWays AreBooked other
  books-moved h = record {
    there = record { accepted = h.there.accepted; received = h.there.received };
    back = record { accepted = h.back.accepted; received = h.back.received };
  }

  awaited-moved : BothWays AwaitsNothingInVain one → BothWays AwaitsNothingInVain other
  awaited-moved h = record {
    there = record { answers = h.there.answers; codes = h.there.codes };
    back = record { answers = h.back.answers; codes = h.back.codes };
  }

  flows-moved : BothWays StaysBetween one → BothWays StaysBetween other
  flows-moved h = record {
    there = record {
      destination = h.there.destination;
      known = h.there.known;
      set = h.there.set;
      leads = h.there.leads;
      route = h.there.route;
      flows = h.there.flows;
      elsewhere = h.there.elsewhere;
    };
    back = record {
      destination = h.back.destination;
      known = h.back.known;
      set = h.back.set;
      leads = h.back.leads;
      route = h.back.route;
      flows = h.back.flows;
      elsewhere = h.back.elsewhere;
    };
  }

  held-moved : HoldInNoVain one → HoldInNoVain other
  held-moved h = record { near = h.near; far = h.far }

-- ---- a run, and what it shows

module _ (make : (point : ℕ) → Make) (points : List ℕ) (joined : AreJoined make points) (list : List NetworkWorld) (m : Steps make (new_world make) list) where
  abbrev settings : (point : ℕ) → Configuration
  settings = settings_of make

  abbrev w : NetworkWorld
  w = last_world (new_world make) list

  run : IsRun make w
  run = all-run make points joined list m

  abbrev s : NetworkState
  s = after_steps run.steps (first_network settings)

  is : carrying s (shown w) ≡ shown w
  is = same-network s (shown w) (λ o. (run.meets.all.each o).same)

  -- what is said of the network is said of the world
  so : (P : NetworkState → Type 0) → P (carrying s (shown w)) → P (shown w)
  so P h = subst P is h

  back : (P : NetworkState → Type 0) → P (shown w) → P (carrying s (shown w))
  back P h = subst P (sym is) h

  none-lost : (near far : ℕ) → LostNothing (pair_of (shown w) near far) → LostNothing (pair_of s near far)
  none-lost near far lost = lost-moved s (shown w) near far (back (λ t. LostNothing (pair_of t near far)) lost)

  run-once : (near far : ℕ) → AreSharing (settings near) (settings far) → LostNothing (pair_of (shown w) near far) → BothWays EachOnce (pair_of (shown w) near far)
  run-once near far sharing lost =
      so (λ t. BothWays EachOnce (pair_of t near far))
      (once-moved s (shown w) near far
      (at-steps (λ p. LostNothing p → BothWays EachOnce p) neighbours.once settings run.steps near far joined.joined.placed.own (well-or-alone settings points joined.joined) sharing (none-lost near far lost)))

  run-order : (near far : ℕ) → AreSharing (settings near) (settings far) → LostNothing (pair_of (shown w) near far)
      → BothWays (λ p. IsPunctual p → InOrder p) (pair_of (shown w) near far)
  run-order near far sharing lost =
      so (λ t. BothWays (λ p. IsPunctual p → InOrder p) (pair_of t near far))
      (order-moved s (shown w) near far
      (at-steps (λ p. LostNothing p → BothWays (λ q. IsPunctual q → InOrder q) p) neighbours.order settings run.steps near far joined.joined.placed.own (well-or-alone settings points joined.joined) sharing (none-lost near far lost)))

  run-awaited : (near far : ℕ) → AreSharing (settings near) (settings far) → LostNothing (pair_of (shown w) near far)
      → BothWays AwaitsNothingInVain (pair_of (shown w) near far)
  run-awaited near far sharing lost =
      so (λ t. BothWays AwaitsNothingInVain (pair_of t near far))
      (awaited-moved s (shown w) near far
      (at-steps (λ p. LostNothing p → BothWays AwaitsNothingInVain p) neighbours.awaited settings run.steps near far joined.joined.placed.own (well-or-alone settings points joined.joined) sharing (none-lost near far lost)))

  run-books : (near far : ℕ) → AreSharing (settings near) (settings far) → BothWays AreBooked (pair_of (shown w) near far)
  run-books near far sharing =
      so (λ t. BothWays AreBooked (pair_of t near far))
      (books-moved s (shown w) near far
      (at-steps (λ p. BothWays AreBooked p) neighbours.books settings run.steps near far joined.joined.placed.own (well-or-alone settings points joined.joined) sharing))

  run-flows : (near far : ℕ) → AreSharing (settings near) (settings far) → BothWays StaysBetween (pair_of (shown w) near far)
  run-flows near far sharing =
      so (λ t. BothWays StaysBetween (pair_of t near far))
      (flows-moved s (shown w) near far
      (at-steps (λ p. BothWays StaysBetween p) neighbours.flows settings run.steps near far joined.joined.placed.own (well-or-alone settings points joined.joined) sharing))

  run-held : (near far : ℕ) → AreSharing (settings near) (settings far) → HoldInNoVain (pair_of (shown w) near far)
  run-held near far sharing =
      so (λ t. HoldInNoVain (pair_of t near far))
      (held-moved s (shown w) near far
      (at-steps HoldInNoVain neighbours.held settings run.steps near far joined.joined.placed.own (well-or-alone settings points joined.joined) sharing))

  all-kept : HaveLostNothing points (shown w) → HaveLostNothing points s
  all-kept lost = back (λ t. HaveLostNothing points t) lost

  run-accounts : HaveLostNothing points (shown w) → IsAccounted points (shown w)
  run-accounts lost = so (λ t. IsAccounted points t) (network.accounts settings points run.steps joined.joined (all-kept lost))

  run-ends-meet : (point : ℕ) → is_listed points point ≡ true
      → ((other : ℕ) → is_listed points other ≡ true → (settings other).network ≡ (settings point).network) → HaveLostNothing points (shown w)
      → ComeToPoint points (shown w) (settings point)
  run-ends-meet point listed network lost =
      so (λ t. ComeToPoint points t (settings point))
      (destinations.ends-meet settings points run.steps point joined.joined listed network (all-kept lost))

-- ---- the laws

pub once : Always EachMessageOnce
once make points joined list m near far sharing = run-once make points joined list m near far sharing

pub order : Always EachFlowInOrder
order make points joined list m near far sharing = run-order make points joined list m near far sharing

pub awaited : Always NothingAwaitedInVain
awaited make points joined list m near far sharing = run-awaited make points joined list m near far sharing

pub books : Always BooksAreOfTheTwo
books make points joined list m near far sharing = run-books make points joined list m near far sharing

pub flows : Always FlowsStayBetween
flows make points joined list m near far sharing = run-flows make points joined list m near far sharing

pub held : Always NothingHeldInVain
held make points joined list m near far sharing = run-held make points joined list m near far sharing

pub accounts : Always EachMessageAccounted
accounts make points joined list m = run-accounts make points joined list m

pub ends-meet : Always MessagesComeToEnd
ends-meet make points joined list m = run-ends-meet make points joined list m
