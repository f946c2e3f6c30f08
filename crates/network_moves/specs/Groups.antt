-- Of a group of nodes that keeps to itself: what became of the messages for it is told by the books of its own nodes,
-- whatever else the others do.
use Rattle.std.specs.Prelude.{◌≡◌, ◌+◌, ◌≤◌, ◌&&◌, ℕ, Bool, true, false, List, [], count_by, nat_eq, if◌then◌else◌}
use Rattle.signalling_types.specs.Message.{Message}
use Rattle.network_moves.specs.Sayings.{Near, Far, Saying, UserMessage, Order, Answer, Other, user}
use Rattle.network_moves.specs.Networks.{Line, Node, Network, Shape, Place, point_at}
use Rattle.network_moves.specs.Networks.{frames_by, sum_of_ends, waiting, given_up}
use Rattle.network_moves.specs.Moves.{Moves, last_of}
use Rattle.network_moves.specs.Quiet.{IsAtRest, first_network}

module _ (shape : Shape) (read : Message → Saying) (group : ℕ → Bool) (for_group : Message → Bool) where
  -- a link within the group: both its ends are at nodes of the group
  abbrev pub is_within : (link : ℕ) → Bool
  is_within link = group (shape.point link Near) && group (shape.point link Far)

  -- what concerns the group: user messages for it, and orders and answers about links within
  abbrev pub says_of_group : (for_it : Bool) → Saying → Bool
  says_of_group for_it UserMessage = for_it
  says_of_group for_it (Order link maker number) = is_within link
  says_of_group for_it (Answer link maker number) = is_within link
  says_of_group for_it Other = false

  abbrev pub concerns : Message → Bool
  concerns m = says_of_group (for_group m) (read m)

  -- the group keeps to itself: its nodes put what concerns it on no link but those within, and none of them is outside
  pub record KeepsToItself : Type 0 where
    pub inside : (point : ℕ) → group point ≡ true → shape.outside point ≡ false
    pub stays : (place : Place) (m : Message) → group (point_at shape place) ≡ true →
        shape.leads place.link place.side m ≡ true → concerns m ≡ true → is_within place.link ≡ true

  -- ---- what became of the messages for the group, at one of its nodes

  -- the sum over the ends at a node of the links within
  abbrev pub sum_within : (Line → ℕ) → Network → (point : ℕ) → ℕ
  sum_within f p point =
      sum_of_ends shape (λ link side z. if is_within link && nat_eq (shape.point link side) point then f z else 0) p

  module _ (test : Message → Bool) (p : Network) (point : ℕ) where
    -- those that came to a node of the group by a link; those that wait; and those that were given up, and didn't
    -- come
    abbrev pub came_within : ℕ
    came_within = sum_within (λ z. count_by test z.near.came) p point

    abbrev pub waits_within : ℕ
    waits_within = count_by test (p.node point).bag + sum_within (λ z. count_by test (waiting z)) p point

    abbrev pub gone_within : ℕ
    gone_within =
        count_by test (p.node point).gone
        + sum_within (λ z. count_by test z.near.gone + count_by test (given_up z)) p point

  -- user messages for the group that pass a test
  abbrev pub users_for : (Message → Bool) → Message → Bool
  users_for test = user read (λ m. for_group m && test m)

  -- of every kind of user message for the group that came in at a node, each ended there, came to a node of the group
  -- once, waits, or is gone; and no more are gone than notices name
  pub record EndsOnceWithin (p : Network) (point : ℕ) : Type 0 where
    pub each : (test : Message → Bool) →
        count_by (users_for test) (p.node point).accepted
        ≡ count_by (users_for test) (p.node point).ended + came_within (users_for test) p point
        + waits_within (users_for test) p point
        + gone_within (users_for test) p point
    pub named : (test : Message → Bool) →
        gone_within (users_for test) p point ≤ count_by (users_for test) (p.node point).named

-- so it is after every list of moves from the first network on, while no node of the group is broken
abbrev pub groups_decide_alone : Type 0
groups_decide_alone =
    (shape : Shape) (read : Message → Saying) (group : ℕ → Bool) (for_group : Message → Bool) (networks : List Network)
    (point : ℕ) → KeepsToItself shape read group for_group → Moves shape read first_network networks →
    ((other : ℕ) → group other ≡ true → (last_of first_network networks).broken other ≡ false) →
    group point ≡ true → EndsOnceWithin shape read group for_group (last_of first_network networks) point

-- ---- where nothing of the group is left

-- the books of a node begin
pub record Begins (n : Node) : Type 0 where
  pub submitted : n.submitted ≡ []
  pub accepted : n.accepted ≡ []
  pub ended : n.ended ≡ []
  pub gone : n.gone ≡ []
  pub named : n.named ≡ []

module _ (shape : Shape) (read : Message → Saying) (group : ℕ → Bool) (for_group : Message → Bool) where
  -- what concerns the group, at a node of it; at another node, words about links within
  abbrev pub is_left : (of_group : Bool) → Message → Bool
  is_left of_group m = says_of_group shape read group for_group (of_group && for_group m) (read m)

  -- none is on a link, nor in flight there
  pub record IsClear (link : ℕ) (z : Line) : Type 0 where
    pub near : count_by (is_left (group (shape.point link Near))) z.near.queue.all ≡ 0
    pub far : count_by (is_left (group (shape.point link Far))) z.far.queue.all ≡ 0
    pub to_far : frames_by (is_left false) z.to_far ≡ 0
    pub to_near : frames_by (is_left false) z.to_near ≡ 0

  -- nothing is left: the links within are at rest, nothing that concerns the group is at its nodes or on other links
  -- from there, and no word about a link within is anywhere else. And the books of its nodes begin
  pub record NothingIsLeft (p : Network) : Type 0 where
    pub lines : (link : ℕ) → is_within shape read group for_group link ≡ true → IsAtRest (p.line link)
    pub bags : (point : ℕ) → count_by (is_left (group point)) (p.node point).bag ≡ 0
    pub others : (link : ℕ) → is_within shape read group for_group link ≡ false → IsClear link (p.line link)
    pub books : (point : ℕ) → group point ≡ true → Begins (p.node point)

  -- what concerns the group stays in it: no word about a link within is at another node; on other links nothing that
  -- concerns the group is from a node of it, and no such word is on any of them, or in flight there
  pub record StaysWithin (p : Network) : Type 0 where
    pub bags : (point : ℕ) → group point ≡ false → count_by (is_left false) (p.node point).bag ≡ 0
    pub others : (link : ℕ) → is_within shape read group for_group link ≡ false → IsClear link (p.line link)

-- so it is after every list of moves from the first network on, whichever nodes are broken
abbrev pub nothing_leaves_the_group : Type 0
nothing_leaves_the_group =
    (shape : Shape) (read : Message → Saying) (group : ℕ → Bool) (for_group : Message → Bool)
    (networks : List Network) → KeepsToItself shape read group for_group → Moves shape read first_network networks →
    StaysWithin shape read group for_group (last_of first_network networks)

-- the law of groups begins anew from each network on in which nothing is left, whatever was lost before
abbrev pub groups_begin_anew : Type 0
groups_begin_anew =
    (shape : Shape) (read : Message → Saying) (group : ℕ → Bool) (for_group : Message → Bool) (start : Network)
    (networks : List Network) (point : ℕ) → KeepsToItself shape read group for_group →
    NothingIsLeft shape read group for_group start → Moves shape read start networks →
    ((other : ℕ) → group other ≡ true → (last_of start networks).broken other ≡ false) →
    group point ≡ true → EndsOnceWithin shape read group for_group (last_of start networks) point
