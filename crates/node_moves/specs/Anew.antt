-- A hop anew: what becomes of the messages that the near node of a hop accepts for the far one from each state on in
-- which nothing is left between the two, whatever was lost or broken before, and however often nodes have started
-- again.
use Rattle.std.specs.Prelude.{◌≡◌, ◌≢◌, ◌≤◌, ◌<◌, ◌+◌, ◌&&◌, ◌||◌, ℕ, Bool, true, false, not, min, nat_eq, List, []}
use Rattle.std.specs.Prelude.{◌∷◌, length, count_by, if◌then◌else◌}
use Rattle.signalling_types.specs.Message.{Message, dpc_of, is_management}
use Rattle.settings.specs.Configuration.{Configuration}
use Rattle.exchange_rules.specs.ChangingOver.{changeover_of}
use Rattle.exchange_rules.specs.Routing.{peer_of}
use Rattle.exchange_rules.specs.State.{down}
use Rattle.m2pa_codec.specs.Frames.{read_frame}
use Rattle.node_moves.specs.EndToEnd.{to_point}
use Rattle.node_moves.specs.Hops.{IsHop, accepted_for, came_over, gone_for, waits_for}
use Rattle.node_moves.specs.Laws.{most, users_that}
use Rattle.node_moves.specs.Networks.{NetworkNode, NetworkState, IsNode, Step, after_step, changed, first_network}
use Rattle.node_moves.specs.Networks.{be_led, first_node, updated}
use Rattle.node_moves.specs.Outside.{ArePlaced, leads_out, put_in}

-- ---- nodes that start again

-- what is done to a network: a step; a node starts again; a node that may follow the other end of a link gives that up;
-- or, on a link of a node that leads out, the other end opens, and the node may follow, or something comes to the node
pub data Change : Type 0 where
  Does : (step : Step) → Change
  Restarts : (point : ℕ) → Change
  GivesUp : (point link : ℕ) → Change
  OpensOutside : (point link : ℕ) → Change
  ComesOutside : (point link : ℕ) (text : List ℕ) → Change

-- a node starts again: its exchange is as it was booted, with the same settings. Nothing is in flight to it, and it may
-- follow on no link. What it sent is in flight yet: the other end of each link sees its association lost later, by a
-- step, and may still follow. Its books stay
abbrev pub restarted : Configuration → NetworkNode → NetworkNode
restarted c x = record (first_node c) {
  submitted = x.submitted;
  came = x.came;
  accepted = x.accepted;
  made = x.made;
  named = x.named;
}

-- a node may not follow the other end of a link any more, as when its transport has seen that nobody answers
abbrev pub given_up : (link : ℕ) → NetworkNode → NetworkNode
given_up link x = record x { follows = updated x.follows link false }

module _ (settings : (point : ℕ) → Configuration) where
  abbrev pub after_change : Change → NetworkState → NetworkState
  after_change (Does step) w = after_step settings step w
  after_change (Restarts point) w = changed point (restarted (settings point)) w
  after_change (GivesUp point link) w = changed point (given_up link) w
  after_change (OpensOutside point link) w =
      if leads_out settings point link then changed point (be_led link) w else w
  after_change (ComesOutside point link text) w =
      if leads_out settings point link
      then changed point (put_in settings point link text (read_frame text)) w
      else w

  abbrev pub after_changes : List Change → NetworkState → NetworkState
  after_changes [] w = w
  after_changes (change ∷ changes) w = after_changes changes (after_change change w)

-- ---- where nothing is left between two nodes

module _ (near far : ℕ) where
  abbrev pub is_either : (point : ℕ) → Bool
  is_either point = nat_eq point near || nat_eq point far

  -- whether a message is a user message for one of the two. (Management is never in Held)
  abbrev pub is_for_either : Message → Bool
  is_for_either m = not (is_management m) && is_either (dpc_of m)

-- at one end of a link: it is down, its changeover is complete, no answer is awaited, and it may not follow the other
-- end
pub record IsQuietEnd (x : NetworkNode) (link : ℕ) : Type 0 where
  pub down : down x.node.parts link ≡ true
  pub complete : (changeover_of x.node.parts link).incomplete ≡ false
  pub unawaited : (changeover_of x.node.parts link).awaited ≡ false
  pub alone : x.follows link ≡ false

module _ (settings : (point : ℕ) → Configuration) (near far : ℕ) (w : NetworkState) where
  -- so it is at one of the two nodes, on each link to the other; and no user message for either is in its Held
  pub record IsQuietNode (here there : ℕ) : Type 0 where
    pub links : (link : ℕ) → link < length (settings here).links → peer_of (settings here) link ≡ there →
        IsQuietEnd (w.node here) link
    pub held : count_by (is_for_either near far) (w.node here).node.queues.held ≡ 0

  -- and at both. (What is in third nodes doesn't matter, nor what is on links that lead there)
  pub record NothingIsLeft : Type 0 where
    pub near_quiet : IsQuietNode near far
    pub far_quiet : IsQuietNode far near

-- what the nodes booked before counts no more
abbrev pub begun_anew : NetworkState → NetworkState
begun_anew w =
    record {
      node = λ point.
          record (w.node point) { submitted = []; came = λ link. []; accepted = []; made = []; named = [] };
    }

-- ---- from then on

-- a count can still rise, and hasn't
pub record Stays (before after : ℕ) : Type 0 where
  pub countable : before < most
  pub same : after ≡ before

module _ (near far : ℕ) where
  -- neither of the two starts again, or gives up following the other end of a link
  abbrev pub IsOfOthers : Change → Type 0
  IsOfOthers (Does step) = Unit {0}
  IsOfOthers (Restarts point) = (point ≢ near) × (point ≢ far)
  IsOfOthers (GivesUp point link) = (point ≢ near) × (point ≢ far)
  IsOfOthers (OpensOutside point link) = Unit {0}
  IsOfOthers (ComesOutside point link text) = Unit {0}

  abbrev pub AreOfOthers : List Change → Type 0
  AreOfOthers [] = Unit {0}
  AreOfOthers (change ∷ changes) = IsOfOthers change × AreOfOthers changes

  module _ (before w : NetworkState) where
    -- neither of the two was broken since
    pub record AreUnbrokenSince : Type 0 where
      pub near_whole : Stays (before.node near).node.parts.times_broken (w.node near).node.parts.times_broken
      pub far_whole : Stays (before.node far).node.parts.times_broken (w.node far).node.parts.times_broken

    -- neither may have lost a message since
    pub record HaveLostNothingSince : Type 0 where
      pub near_none : Stays (before.node near).node.parts.times_lost (w.node near).node.parts.times_lost
      pub far_none : Stays (before.node far).node.parts.times_lost (w.node far).node.parts.times_lost

-- of the messages for the far node that the near one accepted since then, by any test, those that came to it from there
-- and those that wait are together no more than were accepted. And no more are gone than the near node named as lost
-- since then; nor than it counted since, up to the most that it counts
module _ (settings : (point : ℕ) → Configuration) (near far : ℕ) where
  pub record ComesOverSince (before w : NetworkState) : Type 0 where
    pub once : (test : Message → Bool) →
        accepted_for settings near far w test
        ≡ came_over settings near far w test + waits_for settings near far w test + gone_for settings near far w test
    pub named : (test : Message → Bool) →
        gone_for settings near far w test ≤ users_that (to_point far test) (w.node near).named
    pub counted : (test : Message → Bool) →
        min ((before.node near).node.parts.messages_lost + gone_for settings near far w test) most
        ≤ (w.node near).node.parts.messages_lost

-- after every list of changes from a network on in which nothing is left between the two, while neither starts again,
-- gives up following or is broken, whatever the others do
abbrev pub hops_begin_anew : Type 0
hops_begin_anew =
    (settings : (point : ℕ) → Configuration) (before changes : List Change) (near far : ℕ) → ArePlaced settings →
    IsNode settings near → IsNode settings far → IsHop settings near far →
    NothingIsLeft settings near far (after_changes settings before (first_network settings)) →
    AreOfOthers near far changes →
    AreUnbrokenSince near far
    (after_changes settings before (first_network settings))
    (after_changes settings changes (begun_anew (after_changes settings before (first_network settings)))) →
    ComesOverSince settings near far
    (after_changes settings before (first_network settings))
    (after_changes settings changes (begun_anew (after_changes settings before (first_network settings))))

-- and while neither counts a loss, each came or waits
abbrev pub nothing_is_lost_anew : Type 0
nothing_is_lost_anew =
    (settings : (point : ℕ) → Configuration) (before changes : List Change) (near far : ℕ) (test : Message → Bool) →
    ArePlaced settings → IsNode settings near → IsNode settings far → IsHop settings near far →
    NothingIsLeft settings near far (after_changes settings before (first_network settings)) →
    AreOfOthers near far changes →
    HaveLostNothingSince near far
    (after_changes settings before (first_network settings))
    (after_changes settings changes (begun_anew (after_changes settings before (first_network settings)))) →
    accepted_for settings near far
    (after_changes settings changes (begun_anew (after_changes settings before (first_network settings))))
    test
    ≡ came_over settings near far
    (after_changes settings changes (begun_anew (after_changes settings before (first_network settings))))
    test
    + waits_for settings near far
    (after_changes settings changes (begun_anew (after_changes settings before (first_network settings))))
    test

-- at first nothing is left between any two
abbrev pub networks_begin_quietly : Type 0
networks_begin_quietly =
    (settings : (point : ℕ) → Configuration) (near far : ℕ) → NothingIsLeft settings near far (first_network settings)
