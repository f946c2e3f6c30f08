-- What holds of a node at work that shares a set with another, whatever other neighbours it has, and of what is in
-- flight to it; and that a rule goes by moves and keeps this.
use Rattle.pair_rules.proofs.Basics.{◌≡◌, ◌≢◌, ℕ, true, false, List, [], ◌∷◌, Some, Ok, slice_index_or}
use Rattle.pair_rules.proofs.Definitions.{Message, Route, SIF_OCTETS, is_management, service_indicator, dpc_of, opc_of, Configuration, destination_place, Label, FrameValue, EmptyFrame, MessageFrame, IsSayable, read_management, Management, ExtendedChangeoverOrder, ExtendedChangeoverAcknowledgement, ChangebackDeclaration, ChangebackAcknowledgement, Node, Fits, WholeQueues, queue_at, changeover_of, no_changeover, down, link_at, set_of, whither_goes, first_route, IsWell}
use Rattle.std.proofs.Common.{◌<◌, ◌≤◌, length}
use Rattle.mtp3_codec.specs.declared.discrimination.Discrimination.TheVariants as whither
use Rattle.settings.specs.Sharing.{SharesSet, sets_to}
use Rattle.pair_moves.specs.Sayings.{Other}
use Rattle.pair_rules.proofs.World.{Flying, World}
use Rattle.pair_rules.proofs.Good.{Each, IsSilent, IsTelling}
use Rattle.pair_rules.proofs.Going.{Goes, goes-none, goes-both}
use Rattle.neighbour_rules.proofs.Bound.{IsBound}
use Rattle.neighbour_rules.proofs.Counted.{Base, CanGrow, IsBase, counts_of}
use Rattle.neighbour_rules.proofs.World.{code_of, reading, says_of, shown}

-- ---- messages from one node to the other, and past it

-- a word about changeovers and changebacks of the links of a set
pub data IsWord (c : Configuration) (set : ℕ) : Management → Type 0 where
  orders : (link number : ℕ) → link < length c.links → set_of c link ≡ set → IsWord c set (ExtendedChangeoverOrder (code_of c link) number)
  answers : (link number : ℕ) → link < length c.links → set_of c link ≡ set → IsWord c set (ExtendedChangeoverAcknowledgement (code_of c link) number)
  declares : (slc code : ℕ) → slc < 16 → code < 256 → IsWord c set (ChangebackDeclaration slc code)
  confirms : (slc code : ℕ) → IsWord c set (ChangebackAcknowledgement slc code)

-- a word that one makes for the other, which reads it as it was written
pub record IsMade (c z : Configuration) (set : ℕ) (m : Message) : Type 0 where
  pub management : is_management m ≡ true
  pub indicator : service_indicator m ≡ 0
  pub from : opc_of m ≡ c.own
  pub to : dpc_of m ≡ z.own
  pub word : Management
  pub reads : read_management m.sif ≡ Ok word
  pub is : IsWord c set word
  pub label : Label
  pub here : whither_goes z m ≡ whither.Here label

-- a message that comes to a node is for that
pub record ComesHere (z : Configuration) (m : Message) : Type 0 where
  pub label : Label
  pub here : whither_goes z m ≡ whither.Here label

-- a user message that one accepted for a point to which it leads by the other
pub record IsAccepted (z : Configuration) (there : ℕ) (m : Message) : Type 0 where
  pub user : is_management m ≡ false
  pub to : dpc_of m ≡ there
  pub short : length m.sif ≤ SIF_OCTETS
  -- the other takes it as its own, where it is for the other
  pub here : there ≡ z.own → ComesHere z m

-- whatever is on a link between the two, or in Held, or goes from one to the other; what passes by is short, so that a
-- frame that carries it reads back
pub data IsSent (c z : Configuration) (there set : ℕ) (m : Message) : Type 0 where
  made : IsMade c z set m → IsSent c z there set m
  accepted : IsAccepted z there m → IsSent c z there set m
  passes_by : says_of c.own z.own there m ≡ Other → length m.sif ≤ SIF_OCTETS → IsSent c z there set m

-- User Data in flight from the node with settings c
pub data IsFlying (c z : Configuration) (there set : ℕ) : FrameValue → Type 0 where
  empty : (bsn fsn : ℕ) → IsSayable (EmptyFrame bsn fsn) → IsFlying c z there set (EmptyFrame bsn fsn)
  carrying : (bsn fsn sio : ℕ) (sif : List ℕ) → IsSayable (MessageFrame bsn fsn sio sif) → IsSent c z there set (record { sio = sio; sif = sif }) → IsBound c (record { sio = sio; sif = sif })
      → IsFlying c z there set (MessageFrame bsn fsn sio sif)

-- all that is in flight to a node from the one with settings c
pub record AreFlying (c z : Configuration) (there set : ℕ) (f : Flying) : Type 0 where
  pub user_data : (link : ℕ) → Each (IsFlying c z there set) (f.user_data link)
  pub statuses : (link : ℕ) → Each IsTelling (f.statuses link)

-- ---- a node at work

-- the settings of the two, what they had counted when the promise began, and what the pass needs of both
pub record Joint (c z : Configuration) : Type 0 where
  pub near_well : IsWell c
  pub far_well : IsWell z
  pub apart : c.own ≢ z.own
  pub shares : SharesSet c z
  pub base : Base
  -- the point for which the messages are, and the other itself, among the destinations
  pub destination : ℕ
  pub place : destination_place c base.there ≡ Some destination
  pub there : destination < length c.destinations
  pub only : sets_to c (destination_place c base.there) ≡ shares.near_set ∷ []
  pub adjacent : ℕ
  pub adjacent_place : destination_place c z.own ≡ Some adjacent
  pub grows : CanGrow base.near

module _ (c z : Configuration) (j : Joint c z) where
  abbrev pub set : ℕ
  set = j.shares.near_set

  -- the only route to the point, and to the other, is allowed
  pub record AreOpen (routes : List (List Route)) : Type 0 where
    pub beyond : slice_index_or routes j.destination [] ≡ first_route set ∷ []
    pub between : slice_index_or routes j.adjacent [] ≡ first_route set ∷ []

  abbrev pub IsOpen : Node WholeQueues → Type 0
  IsOpen n = AreOpen n.parts.routes

  pub record Good (w : World) : Type 0 where
    pub fits : Fits c w.near.node
    pub route : IsOpen w.near.node
    -- no changeover goes on about a link that isn't down, and where a link is down nothing waits to go out
    pub settled : (link : ℕ) → down w.near.node.parts link ≡ false → changeover_of w.near.node.parts link ≡ no_changeover
    pub silent : (link : ℕ) → IsSilent (link_at w.near.node.parts link)
    -- what is on the links of the set, on others, in Held, and nowhere yet
    pub queued : (link : ℕ) → Each (IsSent c z j.base.there set) (queue_at w.near.node.queues link).all
    pub elsewhere : (link : ℕ) → set_of c link ≢ set → Each (λ m. says_of c.own z.own j.base.there m ≡ Other) (queue_at w.near.node.queues link).all
    pub held : Each (IsSent c z j.base.there set) w.near.node.queues.held
    pub loose : Each (IsSent c z j.base.there set) w.near.loose
    -- what comes from the other
    pub arrived : Each (IsSent z c j.base.back j.shares.far_set) w.near.arrived
    pub coming : AreFlying z c j.base.back j.shares.far_set w.to_near
    -- counts don't fall
    pub counted : IsBase j.base.near (counts_of w.near.node.parts)

  -- one goes by moves to another, and stays good
  pub record Passes (v w : World) : Type 0 where
    pub goes : Good v → Goes (reading c.own z.own j.base) (shown c z set j.shares.far_set j.base v) (shown c z set j.shares.far_set j.base w)
    pub good : Good v → Good w

  pub passes-none : (w : World) → Passes w w
  passes-none w = record { goes = λ g. goes-none (reading c.own z.own j.base) (shown c z set j.shares.far_set j.base w); good = λ g. g }

  pub passes-both : (u v w : World) → Passes u v → Passes v w → Passes u w
  passes-both u v w p q = record {
    goes = λ g.
        goes-both (reading c.own z.own j.base) (shown c z set j.shares.far_set j.base u) (shown c z set j.shares.far_set j.base v) (shown c z set j.shares.far_set j.base w)
        (p.goes g) (q.goes (p.good g));
    good = λ g. q.good (p.good g);
  }

  -- what is good says how
  pub passes-good : (v w : World) → (Good v → Passes v w) → Passes v w
  passes-good v w p = record { goes = λ g. (p g).goes g; good = λ g. (p g).good g }

  -- the near node at work
  abbrev pub at : World → Node WholeQueues → (arrived loose : List Message) → World
  at w n arrived loose = record w { near = record w.near { node = n; arrived = arrived; loose = loose } }
