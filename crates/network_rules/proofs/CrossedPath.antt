-- The path of the messages of the run has what the law of paths asks, and the run is one of its moves.
use Rattle.pair_rules.proofs.Basics.{◌≡◌, false, List, [], ◌∷◌, ◌++◌, refl, ap, subst, ◌∙◌, map}
use Rattle.std.specs.List.{list_any}
use Rattle.pair_rules.proofs.Definitions.{set_timer, start_unless_running, clear_timer, clear_set, due_name, after_due, due_count, first_sets, choice_among, link_by, any_flow, flows, lost_any, late_any, flow_of, apply, take_back_each}
use Rattle.timers.specs.Timers.{names_of}
use Rattle.routes.specs.Routes.{links_below}
use Rattle.route_management.specs.Told.{owes_nothing}
use Rattle.m2pa_codec.specs.Frames.{status_of}
use Rattle.changeback.specs.Rerouting.{rerouted}
use Rattle.changeback.specs.Return.{changes_of, changes}
use Rattle.signalling_types.specs.declared.point.Flow.{Flow}
use Rattle.exchange_rules.specs.Telling.{tell_owed}
use Rattle.pair_rules.specs.Pairs.{Submits, Takes, Delivers}
use Rattle.neighbour_rules.specs.Beyond.{tells_of}
use Rattle.neighbour_rules.specs.ThirdNode.{the_message}
use Rattle.network_rules.specs.Networks.{NetworkNode, NetworkState, Step, after_steps, first_network}
use Rattle.network_rules.specs.Outside.{Move, Within, after_move, after_moves}
use Rattle.network_rules.specs.Pairs.{came_from}
use Rattle.network_rules.specs.Paths.{ComesInOrder, EachOnlyPasses}
use Rattle.network_rules.specs.Hops.{AreOpenHops, HearsOfNoRoute, IsOpenHop, beyond, to_it}
use Rattle.network_rules.specs.TwoFailures.{answering, come, done_at, end_settings, failed, failed_on, fails, first_line, fourth_line, middle_settings, moved, moved_on, opening, ordering, passed, row, second_line, sends, sent, sent_on, served, settling, submitted, third_line, turned}
use Rattle.network_rules.proofs.Hops.{paths-open}
use Rattle.network_rules.proofs.Outside.{steps-moves}
use Rattle.network_rules.proofs.RowSettings.{back, first-sharing, points, second-sharing, well}
use Rattle.network_rules.proofs.TwoFailures.{come-is, come_from, first_three}

abbrev flow : Flow
flow = flow_of the_message

-- ---- its hops

none-told : list_any (tells_of 2) (came_from (come_from first_three).third.exchange.settings (come_from first_three).first.exchange.settings (come_from first_three).third.arrived) ≡ false
unfolding apply tell_owed first_sets links_below status_of set_timer clear_timer start_unless_running clear_set due_name after_due due_count names_of choice_among link_by changes_of changes take_back_each owes_nothing any_flow flows rerouted
none-told = refl

pub hears-none : HearsOfNoRoute 2 (come.node 3) (come.node 1)
hears-none = ap (λ (w : NetworkState). list_any (tells_of 2) (came_from (w.node 3).exchange.settings (w.node 1).exchange.settings (w.node 3).arrived)) come-is ∙ none-told

-- no flag of its nodes was raised
pub record AreUnflagged (first middle last : NetworkNode) : Type 0 where
  pub first_lossless : lost_any first.exchange.node.parts ≡ false
  pub middle_lossless : lost_any middle.exchange.node.parts ≡ false
  pub last_lossless : lost_any last.exchange.node.parts ≡ false
  pub first_punctual : late_any first.exchange.node.parts ≡ false
  pub middle_punctual : late_any middle.exchange.node.parts ≡ false

module _ (w : NetworkState) (told : HearsOfNoRoute 2 (w.node 3) (w.node 1)) (flags : AreUnflagged (w.node 3) (w.node 1) (w.node 2)) where
  first-hop : IsOpenHop row w flow 3 1
  first-hop = record {
    sharing = back middle_settings (end_settings 3 2) first-sharing;
    leads = beyond (record { set = 0; adjacent = refl; destination = 1; place = refl; only = refl }) told;
    lossless = record { near = flags.first_lossless; far = flags.middle_lossless };
    punctual = flags.first_punctual;
  }

  last-hop : IsOpenHop row w flow 1 2
  last-hop = record {
    sharing = second-sharing;
    leads = to_it refl;
    lossless = record { near = flags.middle_lossless; far = flags.last_lossless };
    punctual = flags.middle_punctual;
  }

  pub hops-open : AreOpenHops row w flow 3 (1 ∷ 2 ∷ [])
  hops-open = (first-hop, (last-hop, tt))

-- ---- the network comes there by moves

pub record IsReached (w : NetworkState) : Type 0 where
  pub moves : List Move
  pub is : after_moves moves (first_network row) ≡ w

joined : (one other : List Move) (w : NetworkState) → after_moves (one ++ other) w ≡ after_moves other (after_moves one w)
joined [] other w = refl
joined (move ∷ one) other w = joined one other (after_move move w)

pub on-by : (steps : List Step) (w : NetworkState) → IsReached w → IsReached (after_steps steps w)
on-by steps w r = record {
  moves = r.moves ++ map Within steps;
  is = joined r.moves (map Within steps) (first_network row) ∙ ap (after_moves (map Within steps)) r.is ∙ steps-moves steps w;
}

failed-reached : IsReached failed
failed-reached =
    on-by (fails first_line ++ ordering second_line) sent
    (on-by (done_at first_line.here Takes ∷ []) submitted
    (on-by (record { point = 3; what = Submits the_message } ∷ []) served (on-by (opening ++ settling) (first_network row) (record { moves = []; is = refl }))))

failed_on-reached : IsReached failed_on
failed_on-reached =
    on-by (fails third_line ++ ordering fourth_line) sent_on
    (on-by (done_at third_line.here Takes ∷ []) passed
    (on-by (done_at second_line.there Delivers ∷ []) moved (on-by (done_at second_line.here Delivers ∷ answering second_line) failed failed-reached)))

pub come-reached : IsReached come
come-reached =
    on-by (done_at fourth_line.there Delivers ∷ sends (turned fourth_line) ++ sends (turned second_line)) moved_on
    (on-by (done_at fourth_line.here Delivers ∷ answering fourth_line) failed_on failed_on-reached)

-- so the law of paths holds of it
pub by-law : (w : NetworkState) → IsReached w → AreOpenHops row w flow 3 (1 ∷ 2 ∷ []) → EachOnlyPasses flow w 3 (1 ∷ 2 ∷ []) → ComesInOrder flow w 3 (1 ∷ 2 ∷ [])
by-law w r =
    subst (λ (v : NetworkState). AreOpenHops row v flow 3 (1 ∷ 2 ∷ []) → EachOnlyPasses flow v 3 (1 ∷ 2 ∷ []) → ComesInOrder flow v 3 (1 ∷ 2 ∷ [])) r.is
    (paths-open row r.moves flow 3 (1 ∷ 2 ∷ []) points well)
