-- What a delivery at a node of a network comes to tells what it brought, where the node and another have only each
-- other.
use Rattle.std.proofs.Common.{◌≡◌, ℕ, Bool, false, List, length, Option, Some, None, drop, refl, ap, sym, subst}
use Rattle.std.specs.Prelude.{slice_get}
use Rattle.settings.specs.Configuration.{Configuration}
use Rattle.settings.specs.Facing.{IsFacing}
use Rattle.exchange_rules.specs.First.{Abstract}
use Rattle.exchange_rules.specs.Messages.{own_of}
use Rattle.pair_rules.specs.Pairs as pairs
use Rattle.pair_rules.specs.Pairs.{PairState, Streams, Turn, deliver_frame, first_pair, in_flight, without_data, without_status}
use Rattle.pair_rules.specs.Deliveries.{ComesTo, Tells, TellsOf, TellsWhatCame}
use Rattle.pair_rules.specs.Sharing.{AreSharing}
use Rattle.neighbour_rules.specs.Neighbours as neighbours
use Rattle.neighbour_rules.specs.Neighbours.{leads_elsewhere}
use Rattle.neighbour_rules.proofs.Outcomes as rules
use Rattle.network_rules.specs.Networks.{NetworkNode, NetworkState}
use Rattle.network_rules.specs.Pairs.{IsRunOfNeighbours, pair_of}
use Rattle.network_rules.proofs.Always.{runs}
use Rattle.network_rules.proofs.Promised.{is-written, written}
use Rattle.network_world.specs.KeptNodes.{KeptNode}
use Rattle.network_world.specs.NetworkPromised.{ShareSet, TellsBetween}
use Rattle.network_world.specs.NetworkStands.{NetworkStandsFor, did_outcome, has_node, hear_outcome, step_outcome}
use Rattle.network_world.specs.Tells.{AreAlone, TellsHere}
use Rattle.network_world.proofs.Alone.{IsReached, alone-always, none-elsewhere, reached-alone}
use Rattle.network_world.proofs.NetworkLaws.{far-same, has-near, law, near-same, r, sharing}

-- ---- of two that are alike, a frame that comes tells the same

abbrev TellsBy : PairState → Turn → Type 0
TellsBy p t =
    ComesTo (own_of p.near.exchange.settings t.left.near.exchange.node.parts) p.near.exchange.settings p.near.exchange.node.parts.titles
    (drop (length p.near.received) t.left.near.received) (drop (length p.near.accepted) t.left.near.accepted) t.outcome

tells-alike : (p q : PairState) (text : Option (List ℕ)) (link : ℕ) (one other : Streams)
    → TellsBy (written p q) (deliver_frame text link one (written p q)) → TellsBy p (deliver_frame text link other p)
tells-alike p q None link one other h = h
tells-alike p q (Some text) link one other h = h

-- it comes to what the node of the network comes to
hears : (text : Option (List ℕ)) (link : ℕ) (left : Streams) (p : PairState) (x : NetworkNode) → p.near.exchange ≡ x.exchange
    → (deliver_frame text link left p).outcome ≡ hear_outcome text link x
hears None link left p x e = refl
hears (Some text) link left p x e = ap (λ (a : Abstract). hear_outcome (Some text) link (record x { exchange = a })) e

module _ (k : List KeptNode) (w : NetworkState) (s : NetworkStandsFor k w) (near far : ℕ) (a : ShareSet w near far) (alone : AreAlone (pair_of w near far)) where
  abbrev p : PairState
  p = pair_of w near far

  abbrev c : Configuration
  c = p.near.exchange.settings

  abbrev z : Configuration
  z = p.far.exchange.settings

  run : IsRunOfNeighbours p
  run = law k w s near far a IsRunOfNeighbours runs

  abbrev q : PairState
  q = neighbours.after_steps run.steps (first_pair c z)

  still-sharing : AreSharing c z
  still-sharing =
      subst (λ (d : Configuration). AreSharing d z) (sym (near-same k w s near far a))
      (subst (AreSharing ((r k w s).settings near)) (sym (far-same k w s near far a)) (sharing k w s near far a))

  facing : IsFacing q.near.exchange.settings q.far.exchange.settings
  facing =
      subst (λ (e : Abstract). IsFacing e.settings q.far.exchange.settings) (sym run.is_alike.near_alike.exchange)
      (subst (λ (e : Abstract). IsFacing c e.settings) (sym run.is_alike.far_alike.exchange) alone)

  reached : IsReached q
  reached = record { near = c; far = z; sharing = still-sharing; steps = run.steps; by = refl }

  told : TellsWhatCame (written p q)
  told =
      subst TellsWhatCame (is-written p q run.is_alike) (alone-always TellsWhatCame rules.tells q (reached-alone q reached facing)).there

  between : (link : ℕ) → leads_elsewhere p link ≡ false
  between link = none-elsewhere c z (record { near_well = still-sharing.near_well; far_well = still-sharing.far_well; facing = alone }) link

  user-data : (link : ℕ) → Tells (pairs.Delivers link) p
  user-data link =
      subst (λ (texts : List (List ℕ)). TellsBy p (deliver_frame (slice_get texts 0) link (without_data link p.near.incoming) p))
      (run.is_alike.near_alike.incoming.user_data link (between link))
      (tells-alike p q (slice_get (in_flight q.near.incoming.user_data link) 0) link (without_data link q.near.incoming) (without_data link p.near.incoming) (told.user_data link))

  statuses : (link : ℕ) → Tells (pairs.DeliversStatus link) p
  statuses link =
      subst (λ (texts : List (List ℕ)). TellsBy p (deliver_frame (slice_get texts 0) link (without_status link p.near.incoming) p))
      (run.is_alike.near_alike.incoming.statuses link (between link))
      (tells-alike p q (slice_get (in_flight q.near.incoming.statuses link) 0) link (without_status link q.near.incoming) (without_status link p.near.incoming) (told.status link))

  abbrev x : NetworkNode
  x = w.node near

  here : (what : pairs.Doing) → TellsHere what p (did_outcome what near w)
  here (pairs.Delivers link) =
      subst (TellsOf (pairs.Delivers link) p) (hears (slice_get (in_flight x.incoming.user_data link) 0) link (without_data link x.incoming) p x refl) (user-data link)
  here (pairs.DeliversStatus link) =
      subst (TellsOf (pairs.DeliversStatus link) p) (hears (slice_get (in_flight x.incoming.statuses link) 0) link (without_status link x.incoming) p x refl) (statuses link)
  here (pairs.Submits message) = tt
  here (pairs.Takes link) = tt
  here (pairs.LosesStatus link) = tt
  here (pairs.DoublesStatus link) = tt
  here (pairs.Loses link) = tt
  here pairs.Ticks = tt
  here (pairs.Activates link emergency) = tt
  here (pairs.Deactivates link) = tt
  here (pairs.Releases link) = tt
  here (pairs.AddsTitle row is_memory_refused) = tt
  here (pairs.SetsTitle row is_memory_refused) = tt
  here (pairs.RemovesTitle key digits) = tt
  here (pairs.OpensFirst link) = tt
  here (pairs.OpensSecond link) = tt

  tells-there : (what : pairs.Doing) → TellsHere what p (step_outcome (has_node near k) (record { point = near; what = what }) w)
  tells-there what =
      subst (λ (there : Bool). TellsHere what p (step_outcome there (record { point = near; what = what }) w)) (sym (has-near k w s near far a)) (here what)

pub tells : (k : List KeptNode) (w : NetworkState) → NetworkStandsFor k w → (what : pairs.Doing) (near far : ℕ)
    → TellsBetween what w near far (step_outcome (has_node near k) (record { point = near; what = what }) w)
tells k w s what near far = λ a alone. tells-there k w s near far a alone what
