-- The run in which a message comes from a third node, by computation, except whether it waits, which is looked at once.
use Rattle.exchange_rules.specs.Exchange as rules
use Rattle.pair_rules.proofs.Basics.{◌≡◌, ◌≤◌, ◌<◌, ℕ, zero, suc, Bool, true, false, List, [], ◌∷◌, ◌++◌, Some, refl, ap, sym, subst, ◌∙◌, arith, nat_eq, IsTrue, slice_get, IsDistinct, list_any, true≢false, All-from_recursion}
use Rattle.pair_rules.proofs.Definitions.{Message, flow_of, Configuration, SetEntry, LinkEntry, LINKS, SETS, DESTINATIONS, POOL, WINDOW, TICKS, IsLink, IsSet, IsDestination, IsTitle, IsWell, IsWithin, all_ticks, is_led_first, set_timer, start_unless_running, clear_timer, clear_set, due_name, after_due, due_count, first_sets, choice_among, link_by, Procedure, any_flow, flows, HoldSet, holds, is_held, held_by, none_at_first, Done, Node, lost_any, late_any, WholeQueues, whole, no_room_for, waits, link_of, Outcome, FrameCame, accept_text, read_frame, receive, deliver, outcome_of, new_message, brought_by, brought_in, apply, settled, take_back_each, PairState, taken_in}
use Rattle.timers.specs.Timers.{names_of}
use Rattle.routes.specs.Routes.{links_below}
use Rattle.route_management.specs.Told.{owes_nothing}
use Rattle.m2pa_codec.specs.Frames.{status_of}
use Rattle.changeback.specs.Return.{changes_of, changes}
use Rattle.std.specs.Prelude.{Option}
use Rattle.std.proofs.lemmas.List.Sums.{count_by-le-length}
use Rattle.exchange_rules.specs.First.{Abstract}
use Rattle.exchange_rules.specs.State.{note_refusal}
use Rattle.exchange_rules.specs.Exchange.{ordered_late}
use Rattle.pair_rules.proofs.Steps.{outcome-same}
use Rattle.exchange_rules.specs.Messages.{offer}
use Rattle.exchange_rules.specs.Telling.{tell_owed}
use Rattle.pair_rules.specs.OneEndFirst.{far_settings, ticks}
use Rattle.pair_rules.specs.Sharing.{AreSharing}
use Rattle.pair_rules.proofs.RunSettings.{joined}
use Rattle.neighbour_rules.specs.Neighbours.{after_steps, leads_elsewhere, speaks_for_either, takes_elsewhere, users_to}
use Rattle.pair_rules.specs.Promises.{queue_of}
use Rattle.neighbour_rules.specs.Promises.{waiting}
use Rattle.neighbour_rules.proofs.Delivered as delivering
use Rattle.neighbour_rules.proofs.LateOrders.{none-late}
use Rattle.neighbour_rules.specs.ThirdNode.{GoesOn, heard, sends_far, its_text, near_settings, served, the_message}

-- ---- the settings keep every limit, and share a set

within : (low high n : ℕ) → low ≤ n → n ≤ high → IsWithin low high n
within low high n a b = record { above = a; below = b }

led : (set : ℕ) (s : SetEntry) → slice_get near_settings.sets set ≡ Some s → IsTrue (list_any (is_led_first s.adjacent set) near_settings.destinations)
led zero s e =
    subst (λ (x : SetEntry). IsTrue (list_any (is_led_first x.adjacent 0) near_settings.destinations)) (let same : record { name = 97 ∷ []; adjacent = 3 } ≡ s = cc in same) refl
led (suc zero) s e =
    subst (λ (x : SetEntry). IsTrue (list_any (is_led_first x.adjacent 1) near_settings.destinations)) (let same : record { name = 98 ∷ []; adjacent = 2 } ≡ s = cc in same) refl
led (suc (suc set)) s e = absurd cc

near-well : IsWell near_settings
unfolding IsDistinct
near-well =
    let nine : IsWithin 1 TICKS 9 = within 1 TICKS 9 (omega arith) (omega arith) in
    let one : IsWithin 1 TICKS 1 = within 1 TICKS 1 (omega arith) (omega arith) in
    record {
      own = omega arith;
      network = omega arith;
      window = within 1 WINDOW 8 (omega arith) (omega arith);
      pool = within 1 POOL 10 (omega arith) (omega arith);
      users = All-from_recursion (IsWithin 4 15) (5 ∷ []) (within 4 15 5 (omega arith) (omega arith), tt);
      users_differ = (tt, tt);
      subsystems = All-from_recursion (IsWithin 1 255) [] tt;
      subsystems_differ = tt;
      timers = All-from_recursion (IsWithin 1 TICKS) (all_ticks ticks) (nine, (nine, (nine, (one, (nine, (nine, (nine, (nine, (nine, (nine, (nine, (nine, (nine, tt)))))))))))));
      bar = tt;
      set_count = within 1 SETS 2 (omega arith) (omega arith);
      sets = All-from_recursion (IsSet 1) near_settings.sets (
        record { name = refl; adjacent = record { fits = omega arith; far = λ e. absurd (omega (arith, e)) } },
        (record { name = refl; adjacent = record { fits = omega arith; far = λ e. absurd (omega (arith, e)) } }, tt),
      );
      set_names_differ = ((refl, tt), (tt, tt));
      adjacent_points_differ = ((refl, tt), (tt, tt));
      link_count = within 1 LINKS 3 (omega arith) (omega arith);
      links = All-from_recursion (IsLink 2) near_settings.links (
        record { name = refl; set = omega arith; slc = omega arith; share = tt },
        (record { name = refl; set = omega arith; slc = omega arith; share = tt }, (record { name = refl; set = omega arith; slc = omega arith; share = tt }, tt)),
      );
      link_names_differ = ((refl, (refl, tt)), ((refl, tt), (tt, tt)));
      link_codes_differ = ((refl, (refl, tt)), ((refl, tt), (tt, tt)));
      links_of_a_set = λ set. let few = count_by-le-length (λ (l : LinkEntry). nat_eq l.set set) near_settings.links in omega (arith, few);
      destination_count = within 1 DESTINATIONS 2 (omega arith) (omega arith);
      destinations = All-from_recursion (IsDestination 1 2) near_settings.destinations (
        record {
          point = record { fits = omega arith; far = λ e. absurd (omega (arith, e)) };
          some = omega arith;
          fits = omega arith;
          within = All-from_recursion (λ (set : ℕ). set < 2) (0 ∷ []) (omega arith, tt);
          differ = (tt, tt);
          joined = λ e. absurd cc;
        },
        (
          record {
            point = record { fits = omega arith; far = λ e. absurd (omega (arith, e)) };
            some = omega arith;
            fits = omega arith;
            within = All-from_recursion (λ (set : ℕ). set < 2) (1 ∷ []) (omega arith, tt);
            differ = (tt, tt);
            joined = λ e. absurd cc;
          },
          tt,
        ),
      );
      points_differ = ((refl, tt), (tt, tt));
      adjacent_points_led = led;
      title_count = omega arith;
      titles = All-from_recursion IsTitle [] tt;
      titles_differ = tt;
    }

sharing : AreSharing near_settings far_settings
sharing = record {
  near_well = near-well;
  far_well = joined.far_well;
  shares = record {
    near_set = 1;
    far_set = 0;
    near_leads = record { adjacent = refl; only = refl };
    far_leads = record { adjacent = refl; only = refl };
    network = refl;
    codes = λ slc. refl;
  };
}

-- ---- whether the message waits

none-held : (h : HoldSet) → ((procedure : Procedure) → holds h procedure 1 0 ≡ false) → is_held h 1 0 ≡ false
none-held h none = by (is_held h 1 0) refl
  where
    by : (b : Bool) → is_held h 1 0 ≡ b → b ≡ false
    by false e = refl
    by true e = absurd (true≢false (sym ((held_by h 1 0).0 e).1 ∙ none ((held_by h 1 0).0 e).0))

-- ---- the message goes on

abbrev first : Node WholeQueues
first = served.near.exchange.node

abbrev exchange : Abstract
exchange = record { settings = near_settings; node = first; reroutings = served.near.exchange.reroutings }

-- once its frame is accepted
abbrev node : Node WholeQueues
node = accept_text 0 (read_frame its_text) exchange

-- it is offered at a node, where it waits or not
abbrev offered : Node WholeQueues → Bool → Done WholeQueues
offered n waiting = note_refusal 0 (offer whole near_settings (no_room_for whole near_settings the_message n) waiting (link_of near_settings n.parts (flow_of the_message)) (Some 0) the_message n)

-- and this is left, and brought in
abbrev leaving : Node WholeQueues → List Message → PairState
leaving n ms = record served {
  near = record served.near {
    exchange = rules.leaving served.near.exchange n;
    accepted = served.near.accepted ++ users_to served.far.exchange.settings.own ms;
  };
}

abbrev heard_by : Bool → PairState
heard_by waiting = leaving (settled whole near_settings (offered node waiting)).left (taken_in (offered node waiting).outcome the_message)

goes-elsewhere : leads_elsewhere served 0 ≡ true
unfolding apply tell_owed first_sets links_below status_of set_timer clear_timer start_unless_running clear_set due_name after_due due_count names_of choice_among link_by changes_of changes take_back_each owes_nothing any_flow flows
goes-elsewhere = refl

speaks-honestly : speaks_for_either served its_text ≡ false
unfolding apply tell_owed first_sets links_below status_of set_timer clear_timer start_unless_running clear_set due_name after_due due_count names_of choice_among link_by changes_of changes take_back_each owes_nothing any_flow flows
speaks-honestly = refl

settings-stay : served.near.exchange.settings ≡ near_settings
unfolding apply tell_owed first_sets links_below status_of set_timer clear_timer start_unless_running clear_set due_name after_due due_count names_of choice_among link_by changes_of changes take_back_each owes_nothing any_flow flows
settings-stay = refl

its-new : new_message 0 its_text exchange ≡ Some the_message
unfolding apply tell_owed first_sets links_below status_of set_timer clear_timer start_unless_running clear_set due_name after_due due_count names_of choice_among link_by changes_of changes take_back_each owes_nothing any_flow flows
its-new = refl

delivers : receive whole near_settings 0 its_text first ≡ deliver whole near_settings 0 the_message node
delivers = delivering.delivers near_settings 0 the_message its_text first its-new

offers : (n : Node WholeQueues) → deliver whole near_settings 0 the_message n ≡ offered n (waits near_settings n.parts.holds the_message)
offers n = refl

as-applied : (c : Configuration) (text : List ℕ) (n : Node WholeQueues) → (apply whole c (FrameCame 0 text) n).left ≡ (settled whole c (ordered_late whole c (receive whole c 0 text n))).left
unfolding apply
as-applied c text n = refl

-- no order goes out late
in-time : (d : Done WholeQueues) → ordered_late whole near_settings d ≡ d
in-time d = ap (λ (n : Node WholeQueues). record d { left = n }) (none-late near_settings refl d.outcome d.left)

brings : (o : Outcome) (n : Node WholeQueues) → brought_by (Some the_message) o near_settings n ≡ taken_in o the_message
brings o n = refl

-- what comes of its frame
comes-to : (c : Configuration) → served.near.exchange.settings ≡ c → heard
    ≡ leaving (apply whole c (FrameCame 0 its_text) first).left (brought_in (FrameCame 0 its_text) (record { settings = c; node = first; reroutings = served.near.exchange.reroutings }))
comes-to c e =
    ap (λ (b : Bool). (takes_elsewhere b (speaks_for_either served its_text) (FrameCame 0 its_text) served).left) goes-elsewhere
    ∙ ap (λ (b : Bool). (takes_elsewhere true b (FrameCame 0 its_text) served).left) speaks-honestly
    ∙ ap (λ (x : Configuration). leaving (apply whole x (FrameCame 0 its_text) first).left (brought_in (FrameCame 0 its_text) (record { settings = x; node = first; reroutings = served.near.exchange.reroutings }))) e

its-outcome : outcome_of whole (FrameCame 0 its_text) exchange ≡ (offered node (waits near_settings node.parts.holds the_message)).outcome
its-outcome = outcome-same near_settings (FrameCame 0 its_text) first ∙ ap (λ (d : Done WholeQueues). d.outcome) (delivers ∙ offers node)

is-brought : brought_in (FrameCame 0 its_text) exchange ≡ taken_in (offered node (waits near_settings node.parts.holds the_message)).outcome the_message
is-brought =
    ap (λ (o : Option Message). brought_by o (outcome_of whole (FrameCame 0 its_text) exchange) near_settings node) its-new
    ∙ brings (outcome_of whole (FrameCame 0 its_text) exchange) node
    ∙ ap (λ (o : Outcome). taken_in o the_message) its-outcome

goes-first : heard ≡ heard_by (waits near_settings node.parts.holds the_message)
goes-first =
    comes-to near_settings settings-stay
    ∙ ap (λ (n : Node WholeQueues). leaving n (brought_in (FrameCame 0 its_text) exchange))
    (as-applied near_settings its_text first ∙ ap (λ (d : Done WholeQueues). (settled whole near_settings d).left) (in-time (receive whole near_settings 0 its_text first) ∙ delivers ∙ offers node))
    ∙ ap (λ (ms : List Message). leaving (settled whole near_settings (offered node (waits near_settings node.parts.holds the_message))).left ms) is-brought

free-first : waits near_settings node.parts.holds the_message ≡ false
unfolding apply tell_owed first_sets links_below status_of set_timer clear_timer start_unless_running clear_set due_name after_due due_count names_of choice_among link_by changes_of changes take_back_each owes_nothing any_flow flows
free-first = none-held node.parts.holds (λ procedure. none_at_first 3 2 2 procedure 1 0)

heard-is : heard ≡ heard_by false
heard-is = goes-first ∙ ap heard_by free-first

-- ---- what the states show

heard-so : {A : Type 0} (f : PairState → A) (a : A) → f (heard_by false) ≡ a → f heard ≡ a
heard-so f a e = ap f heard-is ∙ e

abbrev come_from : PairState → PairState
come_from p = after_steps (sends_far ++ sends_far ++ sends_far) p

pub goes-on : GoesOn
unfolding apply tell_owed first_sets links_below status_of set_timer clear_timer start_unless_running clear_set due_name after_due due_count names_of choice_among link_by changes_of changes take_back_each owes_nothing any_flow flows
goes-on = record {
  sharing = sharing;
  elsewhere = refl;
  between = refl;
  accepted = heard-so (λ p. p.near.accepted) (the_message ∷ []) refl;
  waits = heard-so (λ p. waiting p) (the_message ∷ []) refl;
  behind = heard-so (λ p. (queue_of p.near 1).all) _ refl;
  missing = heard-so (λ p. p.far.received) [] refl;
  received = heard-so (λ p. (come_from p).far.received) (the_message ∷ []) refl;
  none_waits = heard-so (λ p. waiting (come_from p)) [] refl;
  lost_nothing = record {
    near = heard-so (λ p. lost_any (come_from p).near.exchange.node.parts) false refl;
    far = heard-so (λ p. lost_any (come_from p).far.exchange.node.parts) false refl;
  };
  punctual = heard-so (λ p. late_any (come_from p).near.exchange.node.parts) false refl;
}
