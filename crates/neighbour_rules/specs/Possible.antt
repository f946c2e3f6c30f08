-- What is promised of two nodes is promised against this: what the network between them and third nodes may do.
use Rattle.std.specs.Prelude.{◌≡◌, ◌≢◌, ◌⊎◌, ℕ, List, ◌∷◌, Some, slice_get}
use Rattle.signalling_types.specs.Message.{Message, dpc_of, opc_of, service_indicator}
use Rattle.settings.specs.Configuration.{LinkEntry}
use Rattle.m2pa_codec.specs.Frames.{read_frame}
use Rattle.exchange_rules.specs.State.{CameUp, FrameCame, Ticked, WentDown}
use Rattle.exchange_rules.specs.Exchange.{after}
use Rattle.exchange_rules.specs.Laws.{carried_message}
use Rattle.exchange_rules.specs.Queues.{whole}
use Rattle.exchange_rules.specs.Routing.{adjacent_of}
use Rattle.pair_rules.specs.Pairs.{PairState, DoublesStatus, Loses, LosesStatus, Ticks, in_flight}
use Rattle.neighbour_rules.specs.Neighbours.{Does, OpensElsewhere, HearsElsewhere, AtNear, turn}

-- the first of the link statuses that are in flight to an end on a link may be lost, or come twice
pub record MayBeHarmed (p : PairState) (link : ℕ) (first : List ℕ) (others : List (List ℕ)) : Type 0 where
  pub lost : in_flight (turn (AtNear (Does (LosesStatus link))) p).left.near.incoming.statuses link ≡ others
  pub doubled :
      in_flight (turn (AtNear (Does (DoublesStatus link))) p).left.near.incoming.statuses link
      ≡ first ∷ first ∷ others

abbrev pub statuses_may_be_harmed : Type 0
statuses_may_be_harmed =
    (p : PairState) (link : ℕ) (first : List ℕ) (others : List (List ℕ)) →
    in_flight p.near.incoming.statuses link ≡ first ∷ others → MayBeHarmed p link first others

-- an association may be lost at any moment, as one end sees it, and a tick may pass at one alone
pub record MayHappen (p : PairState) (link : ℕ) : Type 0 where
  pub lost :
      (turn (AtNear (Does (Loses link))) p).left.near.exchange ≡ after whole (WentDown link) p.near.exchange
  pub ticks : (turn (AtNear (Does Ticks)) p).left.near.exchange ≡ after whole Ticked p.near.exchange

abbrev pub links_may_fail : Type 0
links_may_fail = (p : PairState) (link : ℕ) → MayHappen p link

-- a link of the near end leads to a third node
pub record LeadsToThird (p : PairState) (link : ℕ) : Type 0 where
  pub entry : LinkEntry
  pub its : slice_get p.near.exchange.settings.links link ≡ Some entry
  pub third : adjacent_of p.near.exchange.settings entry.set ≢ p.far.exchange.settings.own

-- a message is management (SI 0) from one point to another
pub record Manages (from to : ℕ) (m : Message) : Type 0 where
  pub indicator : service_indicator m ≡ 0
  pub origin : opc_of m ≡ from
  pub destination : dpc_of m ≡ to

-- There it may open at any moment, and any frame may come that carries no management in the name of one of the two for
-- the other: whatever else it says, and whomever it is for.
pub record MayComeFromThird (p : PairState) (link : ℕ) : Type 0 where
  pub opens :
      (turn (AtNear (OpensElsewhere link)) p).left.near.exchange ≡ after whole (CameUp link) p.near.exchange
  pub hears : (text : List ℕ) →
      ((m : Message) → carried_message (read_frame text) ≡ Some m →
      Manages p.near.exchange.settings.own p.far.exchange.settings.own m
      ⊎ Manages p.far.exchange.settings.own p.near.exchange.settings.own m → ⊥) →
      (turn (AtNear (HearsElsewhere link text)) p).left.near.exchange
      ≡ after whole (FrameCame link text) p.near.exchange

abbrev pub third_nodes_may_say_anything_else : Type 0
third_nodes_may_say_anything_else = (p : PairState) (link : ℕ) → LeadsToThird p link → MayComeFromThird p link
