-- What is promised of a network is promised against this: what the links between its nodes, and points outside, may do.
use Rattle.std.specs.Prelude.{◌≡◌, ◌≤◌, ℕ, List, [], ◌∷◌, length, slice_get, Some}
use Rattle.signalling_types.specs.Message.{Message, dpc_of, opc_of, service_indicator}
use Rattle.settings.specs.Configuration.{LinkEntry}
use Rattle.m2pa_codec.specs.Frames.{read_frame}
use Rattle.exchange_rules.specs.State.{CameUp, FrameCame, Ticked, WentDown}
use Rattle.exchange_rules.specs.Exchange.{after}
use Rattle.exchange_rules.specs.Laws.{carried_message}
use Rattle.exchange_rules.specs.Queues.{whole}
use Rattle.exchange_rules.specs.Routing.{adjacent_of}
use Rattle.pair_rules.specs.Pairs.{DoublesStatus, Loses, LosesStatus, Ticks, in_flight}
use Rattle.network_rules.specs.Networks.{NetworkState, after_step}
use Rattle.network_rules.specs.Outside.{OpensOutside, HearsOutside, after_move}

-- the first of the link statuses that are in flight to a node on a link may be lost, or come twice
pub record MayBeHarmed (w : NetworkState) (point link : ℕ) (first : List ℕ) (others : List (List ℕ)) : Type 0 where
  pub lost :
      in_flight ((after_step (record { point = point; what = LosesStatus link }) w).node point).incoming.statuses link
      ≡ others
  pub doubled :
      in_flight
      ((after_step (record { point = point; what = DoublesStatus link }) w).node point).incoming.statuses
      link
      ≡ first ∷ first ∷ others

abbrev pub statuses_may_be_harmed : Type 0
statuses_may_be_harmed =
    (w : NetworkState) (point link : ℕ) (first : List ℕ) (others : List (List ℕ)) →
    in_flight (w.node point).incoming.statuses link ≡ first ∷ others → MayBeHarmed w point link first others

-- an association may be lost at any moment, as one node sees it, and a tick may pass at one alone
pub record MayHappen (w : NetworkState) (point link : ℕ) : Type 0 where
  pub lost :
      ((after_step (record { point = point; what = Loses link }) w).node point).exchange
      ≡ after whole (WentDown link) (w.node point).exchange
  pub ticks :
      ((after_step (record { point = point; what = Ticks }) w).node point).exchange
      ≡ after whole Ticked (w.node point).exchange

abbrev pub links_may_fail : Type 0
links_may_fail = (w : NetworkState) (point link : ℕ) → MayHappen w point link

-- a link of a node leads to a point at which no node of the network is
pub record LeadsOut (w : NetworkState) (point link : ℕ) : Type 0 where
  pub entry : LinkEntry
  pub its : slice_get (w.node point).exchange.settings.links link ≡ Some entry
  pub out : (w.node (adjacent_of (w.node point).exchange.settings entry.set)).exchange.settings.sets ≡ []

-- a message is management (SI 0) from a node of the network to another
pub record ManagesWithin (w : NetworkState) (m : Message) : Type 0 where
  pub indicator : service_indicator m ≡ 0
  pub origin : 1 ≤ length (w.node (opc_of m)).exchange.settings.sets
  pub destination : 1 ≤ length (w.node (dpc_of m)).exchange.settings.sets

-- There it may open at any moment, and any frame may come that carries no management in the name of a node of the
-- network for a node of it: whatever else it says, and whomever it is for.
pub record MayComeFromOutside (w : NetworkState) (point link : ℕ) : Type 0 where
  pub opens :
      ((after_move (OpensOutside point link) w).node point).exchange
      ≡ after whole (CameUp link) (w.node point).exchange
  pub hears : (text : List ℕ) →
      ((m : Message) → carried_message (read_frame text) ≡ Some m → ManagesWithin w m → ⊥) →
      ((after_move (HearsOutside point link text) w).node point).exchange
      ≡ after whole (FrameCame link text) (w.node point).exchange

abbrev pub outside_may_say_anything_else : Type 0
outside_may_say_anything_else =
    (w : NetworkState) (point link : ℕ) → LeadsOut w point link → MayComeFromOutside w point link
