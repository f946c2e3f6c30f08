-- A hop anew: from each network on in which nothing is left between its two nodes.
use Rattle.std.proofs.Common.{◌≡◌, ◌<◌, ◌+◌, ◌≤◌, ◌&&◌, ℕ, Bool, true, false, not, List, length, count_by, refl, ap, sym, subst, ◌∙◌, arith}
use Rattle.std.specs.Prelude.{min}
use Rattle.signalling_types.specs.Message.{is_management}
use Rattle.settings.specs.Configuration.{Configuration}
use Rattle.changeover.specs.Changeover.{may_restart}
use Rattle.exchange_rules.specs.ChangingOver.{changeover_of}
use Rattle.exchange_rules.specs.Queues.{WholeQueues}
use Rattle.exchange_rules.specs.Routing.{peer_of}
use Rattle.exchange_rules.specs.State.{Node, Parts, down}
use Rattle.node_moves.specs.Anew as anew
use Rattle.node_moves.specs.Anew.{after_changes, is_for_either}
use Rattle.node_moves.specs.Hops as hop
use Rattle.node_moves.specs.Hops.{IsHop}
use Rattle.node_moves.specs.Laws.{most}
use Rattle.node_moves.specs.Outside.{ArePlaced}
use Rattle.node_moves.specs.Networks as nodes
use Rattle.node_moves.specs.Networks.{IsNode}
use Rattle.node_moves.proofs.Anew.{holds-users, hops-anew, none-gone, whole-so}
use Rattle.node_moves.proofs.Ending.{placed}
use Rattle.pair_rules.specs.Pairs.{may_follow, may_open_at}
use Rattle.neighbour_rules.specs.Anew.{Stays}
use Rattle.network_rules.specs.Anew.{Change, after_all, begun_anew}
use Rattle.network_rules.specs.Networks.{NetworkNode, NetworkState, end_of, first_network}
use Rattle.network_rules.specs.Totals.{IsPlaced}
use Rattle.network_rules.proofs.Reached.{changes-keep}
use Rattle.node_law.specs.Alike.{AreLinked}
use Rattle.node_law.specs.Anew.{AreLosslessSince, AreUnbrokenSince, ComesOverSince, IsHopSince, IsQuietThere, hops_begin_anew, nothing_is_lost_anew, quiet_networks_have_nothing_left}
use Rattle.node_law.specs.Hops.{ComesOverWhole, accepted_for, came_over, gone_for, waits_for}
use Rattle.node_law.proofs.Changes.{FollowsAll, all-begun, all-follow}
use Rattle.node_law.proofs.Counting.{lost-same, node-same-at}
use Rattle.node_law.proofs.Hops.{hop-gone, hop-kept, hop-once}
use Rattle.node_law.proofs.Places.{are-theirs, listed-node}
use Rattle.node_law.proofs.Runs.{first-all}
use Rattle.node_law.proofs.Same.{IsSame}
use Rattle.node_law.proofs.Steps.{AreKept}

-- ---- a quiet end

both-true : (a b : Bool) → (a && b) ≡ true → (a ≡ true) × (b ≡ true)
both-true true b e = (refl, e)
both-true false b e = absurd cc

neither : (a b : Bool) → (not a && not b) ≡ true → (a ≡ false) × (b ≡ false)
neither false false e = (refl, refl)
neither true b e = absurd cc
neither false true e = absurd cc

module _ (c : Configuration) (x : NetworkNode) (y : nodes.NetworkNode) (s : IsSame c x y) (link : ℕ) where
  pub quiet-same : may_open_at (end_of x) link ≡ true → may_follow (end_of x) link ≡ false → anew.IsQuietEnd y link
  quiet-same opens alone =
      let p : Parts = x.exchange.node.parts in
      let two : (down p link ≡ true) × (may_restart (changeover_of p link) ≡ true) = both-true (down p link) (may_restart (changeover_of p link)) opens in
      let over : ((changeover_of p link).incomplete ≡ false) × ((changeover_of p link).awaited ≡ false) = neither (changeover_of p link).incomplete (changeover_of p link).awaited two.1 in
      let same : p ≡ y.node.parts = ap (λ (n : Node WholeQueues). n.parts) s.exchange.node in
      record {
        down = ap (λ (q : Parts). down q link) (sym same) ∙ two.0;
        complete = ap (λ (q : Parts). (changeover_of q link).incomplete) (sym same) ∙ over.0;
        unawaited = ap (λ (q : Parts). (changeover_of q link).awaited) (sym same) ∙ over.1;
        alone = sym (s.flight.follows link) ∙ alone;
      }

pub stays : (a b k l : ℕ) → a ≡ k → b ≡ l → Stays a b → anew.Stays k l
stays a b k l e f h = record { countable = omega (arith, e, h.countable); same = omega (arith, e, f, h.same) }

-- ---- since then

module _ (settings : (point : ℕ) → Configuration) (numbers : List ℕ) (before : List Change) (its : IsPlaced settings numbers) (linked : AreLinked (first_network settings)) where
  abbrev pub start : NetworkState
  start = after_all before (first_network settings)

  abbrev pub until : FollowsAll settings numbers its before start (nodes.first_network settings)
  until = all-follow settings numbers its before (first_network settings) (nodes.first_network settings) (λ point. refl) (first-all settings numbers its)

  abbrev pub begun : nodes.NetworkState
  begun = after_changes settings until.changes (nodes.first_network settings)

  pub start-kept : AreKept settings start
  start-kept point = changes-keep before (first_network settings) point

  -- in Held there is no management
  pub users-alone : (x : ℕ) → IsNode settings x → count_by is_management (start.node x).exchange.node.queues.held ≡ 0
  users-alone x fx =
      ap (λ (n : Node WholeQueues). count_by is_management n.queues.held) (node-same-at settings numbers its start begun start-kept until.same x fx) ∙ holds-users settings 0 0 x until.changes

  module _ (changes : List Change) where
    abbrev now : NetworkState
    now = after_all changes (begun_anew start)

    abbrev since : FollowsAll settings numbers its changes now (anew.begun_anew begun)
    since = all-follow settings numbers its changes (begun_anew start) (anew.begun_anew begun) start-kept (all-begun settings numbers its start begun until.same)

    abbrev left : nodes.NetworkState
    left = after_changes settings since.changes (anew.begun_anew begun)

    now-kept : AreKept settings now
    now-kept point = changes-keep changes (begun_anew start) point ∙ start-kept point

    -- what a node counts is the same
    module _ (f : Parts → ℕ) (x : ℕ) (fx : IsNode settings x) where
      then-same : f (start.node x).exchange.node.parts ≡ f (begun.node x).node.parts
      then-same = ap (λ (n : Node WholeQueues). f n.parts) (node-same-at settings numbers its start begun start-kept until.same x fx)

      now-same : f (now.node x).exchange.node.parts ≡ f (left.node x).node.parts
      now-same = ap (λ (n : Node WholeQueues). f n.parts) (node-same-at settings numbers its now left now-kept since.same x fx)

      pub stays-there : Stays (f (start.node x).exchange.node.parts) (f (now.node x).exchange.node.parts) → anew.Stays (f (begun.node x).node.parts) (f (left.node x).node.parts)
      stays-there = stays (f (start.node x).exchange.node.parts) (f (now.node x).exchange.node.parts) (f (begun.node x).node.parts) (f (left.node x).node.parts) then-same now-same

    -- ---- a hop

    module _ (near far : ℕ) (h : IsHopSince numbers start changes near far) where
      abbrev fn : IsNode settings near
      fn = listed-node settings numbers its near h.hop.near_there

      abbrev ff : IsNode settings far
      ff = listed-node settings numbers its far h.hop.far_there

      quiet-there : (here there : ℕ) → IsNode settings here → IsQuietThere near far start here there → anew.IsQuietNode settings near far begun here there
      quiet-there here there fh q = record {
        links = λ link inside to.
            let c : Configuration = (start.node here).exchange.settings in
            let two : (may_open_at (end_of (start.node here)) link ≡ true) × (may_follow (end_of (start.node here)) link ≡ false) =
            q.links link (subst (λ (d : Configuration). link < length d.links) (sym (start-kept here)) inside) (ap (λ (d : Configuration). peer_of d link) (start-kept here) ∙ to) in
            quiet-same (settings here) (start.node here) (begun.node here) (until.same.each here fh) link two.0 two.1;
        held = ap (λ (n : Node WholeQueues). count_by (is_for_either near far) n.queues.held) (sym (node-same-at settings numbers its start begun start-kept until.same here fh)) ∙ q.held;
      }

      quiet-then : anew.NothingIsLeft settings near far begun
      quiet-then = record { near_quiet = quiet-there near far fn h.quiet.near_quiet; far_quiet = quiet-there far near ff h.quiet.far_quiet }

      leads : IsHop settings near far
      leads = hop-kept settings numbers start start-kept near far h.hop

      abbrev t : ArePlaced settings
      t = placed settings (are-theirs settings numbers its linked)

      others : anew.AreOfOthers near far since.changes
      others = since.others near far h.others

      by-moves : anew.AreUnbrokenSince near far begun left → anew.ComesOverSince settings near far begun left
      by-moves b = hops-anew settings until.changes since.changes near far t fn ff leads quiet-then others b

      counted_so : (a b g k l m : ℕ) → a ≡ b → g ≡ k → l ≡ m → min (b + k) most ≤ l → min (a + g) most ≤ m
      counted_so a b g k l m e f i j = subst (λ (n : ℕ). min n most ≤ m) (both e f) (subst (λ (n : ℕ). min (b + k) most ≤ n) i j)
        where
          both : a ≡ b → g ≡ k → b + k ≡ a + g
          both e f = omega (arith, e, f)

      pub comes : AreUnbrokenSince start now near far → ComesOverSince start now near far
      comes b =
          let e : anew.ComesOverSince settings near far begun left =
          by-moves (record { near_whole = stays-there (λ q. q.times_broken) near fn b.near_whole; far_whole = stays-there (λ q. q.times_broken) far ff b.far_whole }) in
          record {
            once = λ test. hop-once settings numbers its now left now-kept since.same near far fn test (e.once test);
            counted = λ test.
                counted_so (start.node near).exchange.node.parts.messages_lost (begun.node near).node.parts.messages_lost (gone_for now near far test) (hop.gone_for settings near far left test)
                (left.node near).node.parts.messages_lost (now.node near).exchange.node.parts.messages_lost
                (then-same (λ q. q.messages_lost) near fn) (hop-gone settings numbers its now left now-kept since.same near far fn test) (lost-same settings numbers its now left now-kept since.same near fn) (e.counted test);
          }

      none-then : AreLosslessSince start now near far → anew.HaveLostNothingSince near far begun left
      none-then none = record { near_none = stays-there (λ q. q.times_lost) near fn none.near; far_none = stays-there (λ q. q.times_lost) far ff none.far }

      whole : (a c k g : ℕ) → a ≡ c + k + g → g ≡ 0 → a ≡ c + k
      whole a c k g e f = omega (arith, e, f)

      pub comes-whole : AreLosslessSince start now near far → ComesOverWhole now near far
      comes-whole none = record {
        once = λ test.
            whole (accepted_for now near far test) (came_over now near far test) (waits_for now near far test) (gone_for now near far test)
            (hop-once settings numbers its now left now-kept since.same near far fn test ((by-moves (whole-so settings t near far fn ff leads until.changes since.changes quiet-then others (none-then none))).once test))
            (hop-gone settings numbers its now left now-kept since.same near far fn test
            ∙ none-gone settings t near far fn ff leads until.changes since.changes quiet-then others (none-then none) test);
      }

pub all-come : hops_begin_anew
all-come settings numbers before changes its linked near far h b = comes settings numbers before its linked changes near far h b

pub all-whole : nothing_is_lost_anew
all-whole settings numbers before changes its linked near far h none = comes-whole settings numbers before its linked changes near far h none

-- ---- quiet networks

pub nothing-left : quiet_networks_have_nothing_left
nothing-left numbers w near far quiet h = record {
  near_quiet = record {
    links = λ link inside to. (quiet near h.near_there).links link inside;
    held = ap (count_by (is_for_either near far)) (quiet near h.near_there).held;
  };
  far_quiet = record {
    links = λ link inside to. (quiet far h.far_there).links link inside;
    held = ap (count_by (is_for_either near far)) (quiet far h.far_there).held;
  };
}
