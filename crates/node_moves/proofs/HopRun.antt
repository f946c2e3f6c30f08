-- The run in which a third point breaks, computed as `MatedRun` computes its own.
use Rattle.node_moves.proofs.Basics.{◌≡◌, ℕ, Bool, false, List, [], ◌∷◌, ◌++◌, refl, ap, ◌∙◌}
use Rattle.node_moves.proofs.Definitions.{Message}
use Rattle.node_moves.proofs.LaidOut.{Four, network_of, run}
use Rattle.node_moves.proofs.Mated.{mated-theirs}
use Rattle.node_moves.proofs.MatedRun.{first_four, served-is, served_from}
use Rattle.node_moves.proofs.Offering.{GoesOut, submits-on, submitting}
use Rattle.node_moves.proofs.Unheld.{Free, free-none, none-held}
use Rattle.node_moves.specs.Hops.{IsHop}
use Rattle.node_moves.specs.HopRun.{MatesAreAHop, breaking, come_over, message_three}
use Rattle.node_moves.specs.MatedPair.{mated}
use Rattle.node_moves.specs.MatedRun.{cross, delivered, sends, served, users, users_in}
use Rattle.node_moves.specs.Networks.{Fate, NetworkState}
use Rattle.exchange_rules.specs.State.{late_any, lost_any}
unfoldable use Rattle.exchange_rules.specs.Exchange.{apply}
unfoldable use Rattle.exchange_rules.specs.Telling.{tell_owed}
unfoldable use Rattle.exchange_rules.specs.ChangingBack.{take_back_each}
unfoldable use Rattle.exchange_rules.specs.ChangingOver.{order_each}
unfoldable use Rattle.flow_hold.specs.Holds.{any_flow, flows}
unfoldable use Rattle.routes.specs.Routes.{choice_among, link_by, first_sets, links_below}
unfoldable use Rattle.timers.specs.Timers.{clear_timer, set_timer, start_unless_running, clear_set, due_name, after_due, due_count, names_of}
unfoldable use Rattle.route_management.specs.Told.{owes_nothing}
unfoldable use Rattle.m2pa_codec.specs.Frames.{status_of}
unfoldable use Rattle.changeback.specs.Rerouting.{rerouted}
unfoldable use Rattle.changeback.specs.Return.{changes_of, changes}

pub three-out : GoesOut message_three
unfolding apply
three-out = record { handles = λ n. refl; submits = λ n. refl; enters = λ o n. refl }

pub three-free : Free 2 0 (served_from first_four).one.node.parts.holds
unfolding apply tell_owed first_sets links_below status_of set_timer clear_timer start_unless_running clear_set due_name after_due due_count names_of choice_among link_by changes_of changes take_back_each owes_nothing any_flow flows rerouted order_each
three-free = free-none 2 0 3 3 3

abbrev come_from : Four → Four
come_from t = run (breaking ++ sends cross) (submitting message_three (served_from t))

come-is : come_over ≡ network_of (come_from first_four)
come-is = submits-on served (served_from first_four) served-is message_three three-out (none-held 2 0 (served_from first_four).one.node.parts.holds three-free) (breaking ++ sends cross)

-- ---- what it shows

record Shown : Type 0 where
  near : ℕ
  mate : ℕ
  third : ℕ
  near_lost : Bool
  mate_lost : Bool
  near_late : Bool
  accepted : List Message
  came : List Fate

abbrev shown : NetworkState → Shown
shown w = record {
  near = (w.node 1).node.parts.times_broken;
  mate = (w.node 2).node.parts.times_broken;
  third = (w.node 3).node.parts.times_broken;
  near_lost = lost_any (w.node 1).node.parts;
  mate_lost = lost_any (w.node 2).node.parts;
  near_late = late_any (w.node 1).node.parts;
  accepted = users (w.node 1).accepted;
  came = users_in ((w.node 2).came 2);
}

abbrev seen_so : Shown
seen_so = record { near = 0; mate = 0; third = 1; near_lost = false; mate_lost = false; near_late = false; accepted = message_three ∷ []; came = delivered message_three ∷ [] }

its-shown : shown (network_of (come_from first_four)) ≡ seen_so
unfolding apply tell_owed first_sets links_below status_of set_timer clear_timer start_unless_running clear_set due_name after_due due_count names_of choice_among link_by changes_of changes take_back_each owes_nothing any_flow flows rerouted order_each
its-shown = refl

is-shown : shown come_over ≡ seen_so
is-shown = ap shown come-is ∙ its-shown

pub pair-hop : IsHop mated 1 2
pair-hop = record {
  near_set = 2;
  far_set = 2;
  near_leads = record { adjacent = refl; only = refl };
  far_leads = record { adjacent = refl; only = refl };
}

pub mates-hop : MatesAreAHop
mates-hop = record {
  theirs = mated-theirs;
  hop = pair-hop;
  whole = record { near_whole = ap (λ (s : Shown). s.near) is-shown; far_whole = ap (λ (s : Shown). s.mate) is-shown };
  lossless = record { near_none = ap (λ (s : Shown). s.near_lost) is-shown; far_none = ap (λ (s : Shown). s.mate_lost) is-shown };
  punctual = ap (λ (s : Shown). s.near_late) is-shown;
  broken = ap (λ (s : Shown). s.third) is-shown;
  accepted = ap (λ (s : Shown). s.accepted) is-shown;
  comes = ap (λ (s : Shown). s.came) is-shown;
}
