-- The run in which a user message crosses, by computation, except whether it waits as it is submitted, which is looked
-- at first.
use Rattle.std.proofs.Common.{◌≡◌, arith, Bool, true, false, List, [], ◌∷◌, ◌++◌, Some, None, refl, ap, sym, ◌∙◌, subst, true≢false}
use Rattle.timers.specs.Timers.{set_timer, start_unless_running, clear_timer, clear_set, due_name, after_due, due_count, names_of}
use Rattle.routes.specs.Routes.{first_sets, links_below, choice_among, link_by}
use Rattle.route_management.specs.Told.{owes_nothing}
use Rattle.m2pa_codec.specs.Frames.{FrameValue, spelled, status_of}
use Rattle.changeback.specs.Return.{changes_of, changes}
use Rattle.flow_hold.specs.Holds.{any_flow, flows}
use Rattle.exchange_rules.specs.Exchange.{apply, frame_to_take}
use Rattle.exchange_rules.specs.Queues.{whole}
use Rattle.exchange_rules.specs.Telling.{tell_owed}
use Rattle.exchange_rules.specs.ChangingBack.{take_back_each}
use Rattle.sctp_receiving.specs.Receiver.{drained}
use Rattle.sctp_receiving.specs.Sack.{run_from, blocks_from}
use Rattle.sctp_sending.specs.Outgoing.{lost_from}
use Rattle.sctp_sending.specs.Sending.{named_below, passed_below, given, next_place, gone_again, gone_first, confirmation}
use Rattle.sctp_sending.specs.Sending.{confirmed, settled, acknowledged, after_t3}
use Rattle.sctp_rules.specs.Confirming.{going}
use Rattle.sctp_rules.specs.Endpoint as endpoint
use Rattle.sctp_rules.specs.Endpoint.{after}
use Rattle.sctp_rules.specs.Rows.{address}
use Rattle.sctp_rules.specs.Sending.{may_send}
use Rattle.sctp_ends.specs.Example.{packet_at}
use Rattle.sctp_ends.proofs.Happening.{good, arrives}
use Rattle.pair_rules.proofs.RunSettings.{joined}
use Rattle.neighbour_rules.proofs.Special.{sharing}
use Rattle.flow_hold.specs.Holds.{HoldSet, holds, is_held, no_holds}
use Rattle.flow_hold.specs.declared.procedure.Procedure.{Procedure}
use Rattle.exchange_rules.specs.Routing.{waits, link_of}
use Rattle.exchange_rules.specs.State as exchange
use Rattle.exchange_rules.specs.State.{Done, lost_any, late_any}
use Rattle.exchange_rules.specs.Exchange as rules
use Rattle.exchange_rules.specs.First.{Abstract}
use Rattle.exchange_rules.specs.Messages.{no_room_for, offer}
use Rattle.exchange_rules.specs.Conserving.{taken_in}
use Rattle.exchange_rules.specs.Queues.{WholeQueues}
use Rattle.signalling_types.specs.Message.{Message, flow_of}
use Rattle.pair_rules.proofs.Definitions.{held_by, none_at_first}
use Rattle.pair_rules.specs.OneEndFirst.{near_settings, far_settings, the_message}
use Rattle.neighbour_rules.specs.Promises as promises
use Rattle.node_rules.specs.Promises.{ends_of}
use Rattle.node_rules.proofs.Happening.{near-between, far-between}
use Rattle.node_rules.specs.Worlds.{Books, happened, Doing, Happens, Associates, Sends, at_near, at_far, message_of, World, Step, Steps, Node, CanGo, IsLooked, MayDo, new_world}
use Rattle.sctp_ends.specs.Worlds.{Arrives}
use Rattle.node_rules.specs.Example.{near_make, far_make, near_does, far_does, near_hears, far_hears}
use Rattle.node_rules.specs.Crossing.{opened, aligned, served, submitted, opening, aligning, serving, crossing, through, after_all, near_sends, far_sends, near_flushes, far_flushes}
use Rattle.node_rules.specs.Crossing as run

some-is : (a b : FrameValue) → Some a ≡ Some b → a ≡ b
some-is a b e = cc

-- ---- the message doesn't wait as it is submitted: nothing holds its flow

abbrev Free : HoldSet → Type 0
Free h = (procedure : Procedure) → holds h procedure 0 0 ≡ false

none-held : (h : HoldSet) → Free h → is_held h 0 0 ≡ false
none-held h none = by (is_held h 0 0) refl
  where
    by : (b : Bool) → is_held h 0 0 ≡ b → b ≡ false
    by false e = refl
    by true e = absurd (true≢false (sym ((held_by h 0 0).0 e).1 ∙ none ((held_by h 0 0).0 e).0))

free-none : Free (no_holds 2 1 1)
free-none procedure = none_at_first 2 1 1 procedure 0 0

-- a node's books after the message was submitted there, if it waits or doesn't
abbrev submitting : Bool → exchange.Node WholeQueues → Books → Books
submitting waiting n b =
    let d : Done WholeQueues = rules.settled whole near_settings (offer whole near_settings (no_room_for whole near_settings the_message n) waiting (link_of near_settings n.parts (flow_of the_message)) None the_message n) in
    record {
      exchange = rules.leaving b.exchange d.left;
      accepted = b.accepted ++ taken_in d.outcome the_message;
      received = b.received ++ [];
    }

-- an exchange with the near node's settings, at any node and with any reroutings
abbrev exchange_at : exchange.Node WholeQueues → exchange.Reroutings → Abstract
exchange_at n r = record { settings = near_settings; node = n; reroutings = r }

-- of any node, so that nothing is computed of it
submits-any : (n : exchange.Node WholeQueues) (r : exchange.Reroutings) (accepted received : List Message)
    → happened (exchange.Submitted the_message) (record { exchange = exchange_at n r; accepted = accepted; received = received })
    ≡ submitting (waits near_settings n.parts.holds the_message) n (record { exchange = exchange_at n r; accepted = accepted; received = received })
unfolding apply tell_owed
submits-any n r accepted received = refl

-- the settings are still the near node's
abbrev with_settings : Books → Books
with_settings b = record b { exchange = exchange_at b.exchange.node b.exchange.reroutings }

abbrev submitted_by : Bool → World
submitted_by waiting =
    record served { near = record served.near { books = submitting waiting served.near.books.exchange.node (with_settings served.near.books) } }

settings-stay : served.near.books ≡ with_settings served.near.books
unfolding after going drained run_from blocks_from lost_from named_below passed_below given next_place gone_again gone_first confirmation confirmed settled acknowledged after_t3 apply tell_owed first_sets links_below status_of set_timer clear_timer start_unless_running clear_set due_name after_due due_count names_of choice_among link_by changes_of changes take_back_each owes_nothing any_flow flows
settings-stay = refl

goes-in : submitted ≡ submitted_by (waits near_settings served.near.books.exchange.node.parts.holds the_message)
goes-in =
    ap (λ b. record served { near = record served.near { books = happened (exchange.Submitted the_message) b } }) settings-stay
    ∙ ap (λ b. record served { near = record served.near { books = b } }) (submits-any served.near.books.exchange.node served.near.books.exchange.reroutings served.near.books.accepted served.near.books.received)

free : waits near_settings served.near.books.exchange.node.parts.holds the_message ≡ false
unfolding after going drained run_from blocks_from lost_from named_below passed_below given next_place gone_again gone_first confirmation confirmed settled acknowledged after_t3 apply tell_owed first_sets links_below status_of set_timer clear_timer start_unless_running clear_set due_name after_due due_count names_of choice_among link_by changes_of changes take_back_each owes_nothing any_flow flows
free = none-held served.near.books.exchange.node.parts.holds free-none

submitted-is : submitted ≡ submitted_by false
submitted-is = goes-in ∙ ap submitted_by free

submitted-so : (P : World → Type 0) → P (submitted_by false) → P submitted
submitted-so P h = subst P (sym submitted-is) h

-- ---- the worlds in between

abbrev o1 : World
o1 = far_does (Associates 0 (endpoint.Opens 10 false)) (new_world near_make far_make)

abbrev o2 : World
o2 = near_does (Associates 0 (endpoint.Opens 10 true)) o1

abbrev o3 : World
o3 = far_hears o2

abbrev o4 : World
o4 = near_hears o3

abbrev o5 : World
o5 = far_hears o4

abbrev o6 : World
o6 = far_flushes o5

abbrev a1 : World
a1 = near_sends opened

abbrev a2 : World
a2 = near_flushes a1

abbrev a3 : World
a3 = far_hears a2

abbrev a4 : World
a4 = far_sends a3

abbrev a5 : World
a5 = far_sends a4

abbrev a6 : World
a6 = far_flushes a5

abbrev a7 : World
a7 = near_hears a6

abbrev a8 : World
a8 = near_sends a7

abbrev a9 : World
a9 = near_flushes a8

abbrev s1 : World
s1 = near_does (Happens exchange.Ticked) aligned

abbrev s2 : World
s2 = far_does (Happens exchange.Ticked) s1

abbrev s3 : World
s3 = near_sends s2

abbrev s4 : World
s4 = near_flushes s3

abbrev s5 : World
s5 = far_hears s4

abbrev s6 : World
s6 = far_sends s5

abbrev s7 : World
s7 = far_flushes s6

abbrev c0 : World
c0 = submitted_by false

abbrev c1 : World
c1 = near_sends c0

abbrev c2 : World
c2 = near_flushes c1

abbrev c3 : World
c3 = far_hears c2

-- ---- steps

near-step : (what : Doing) (w : World) → MayDo near_settings far_settings w.far what w.near → Step near_make far_make w (near_does what w)
near-step what w may = at_near what may refl

far-step : (what : Doing) (w : World) → MayDo far_settings near_settings w.near what w.far → Step near_make far_make w (far_does what w)
far-step what w may = at_far what may refl

near-sends : (w : World) → CanGo 0 w.near → Step near_make far_make w (near_sends w)
near-sends w can = near-step (Sends 0) w (near-between, can)

far-sends : (w : World) → CanGo 0 w.far → Step near_make far_make w (far_sends w)
far-sends w can = far-step (Sends 0) w (far-between, can)

near-flushes : (w : World) → Step near_make far_make w (near_flushes w)
near-flushes w = near-step (Associates 0 (endpoint.Flushes 10)) w (near-between, tt)

far-flushes : (w : World) → Step near_make far_make w (far_flushes w)
far-flushes w = far-step (Associates 0 (endpoint.Flushes 10)) w (far-between, tt)

-- what comes to an end
abbrev latest_to : Node → endpoint.Happening
latest_to other = endpoint.Came 10 address (packet_at (other.ports 0).site 0)

near-hears : (w : World) → Arrives (w.far.ports 0).site (packet_at (w.far.ports 0).site 0) → IsLooked 0 (latest_to w.far) w.near → Step near_make far_make w (near_hears w)
near-hears w comes looked = near-step (Associates 0 (latest_to w.far)) w (near-between, (comes, looked))

far-hears : (w : World) → Arrives (w.near.ports 0).site (packet_at (w.near.ports 0).site 0) → IsLooked 0 (latest_to w.near) w.far → Step near_make far_make w (far_hears w)
far-hears w comes looked = far-step (Associates 0 (latest_to w.near)) w (far-between, (comes, looked))

-- one list of steps, and then another
all-steps : (xs : List (World → World)) (w : World) → Steps near_make far_make w (through xs w) → (zs : List World) → Steps near_make far_make (after_all xs w) zs
    → Steps near_make far_make w (through xs w ++ zs)
all-steps [] w h zs g = g
all-steps (x ∷ xs) w h zs g = (h.0, all-steps xs (x w) h.1 zs g)

-- ---- the run

opens : Steps near_make far_make (new_world near_make far_make) (through opening (new_world near_make far_make))
unfolding after going drained run_from blocks_from lost_from named_below passed_below given next_place gone_again gone_first confirmation confirmed settled acknowledged after_t3 apply tell_owed first_sets links_below status_of set_timer clear_timer start_unless_running clear_set due_name after_due due_count names_of choice_among link_by changes_of changes take_back_each owes_nothing any_flow flows
opens = (
  far-step (Associates 0 (endpoint.Opens 10 false)) (new_world near_make far_make) (far-between, record { wants = refl; down = λ e. absurd cc }),
  (
    near-step (Associates 0 (endpoint.Opens 10 true)) o1 (near-between, record { wants = refl; down = λ e. absurd cc }),
    (
      far-hears o2 (arrives (o2.near.ports 0).site 0 1 0 refl (omega arith) refl (omega arith)) (λ e. refl),
      (
        near-hears o3 (arrives (o3.far.ports 0).site 0 1 0 refl (omega arith) refl (omega arith)) (λ e. refl),
        (
          far-hears o4 (arrives (o4.near.ports 0).site 0 2 0 refl (omega arith) refl (omega arith)) (λ e. refl),
          (
            far-flushes o5,
            (
              near-hears o6 (arrives (o6.far.ports 0).site 0 2 0 refl (omega arith) refl (omega arith)) (λ e. refl),
              tt,
            ),
          ),
        ),
      ),
    ),
  ),
)

aligns : Steps near_make far_make opened (through aligning opened)
unfolding after going drained run_from blocks_from lost_from named_below passed_below given next_place gone_again gone_first confirmation confirmed settled acknowledged after_t3 apply tell_owed first_sets links_below status_of set_timer clear_timer start_unless_running clear_set due_name after_due due_count names_of choice_among link_by changes_of changes take_back_each owes_nothing any_flow flows
aligns = (
  near-sends opened (λ frame e. subst (λ (f : FrameValue). may_send (message_of (spelled f)) (opened.near.ports 0).site.state ≡ true) (some-is _ frame e) refl),
  (
    near-flushes a1,
    (
      far-hears a2 (arrives (a2.near.ports 0).site 0 3 1 refl (omega arith) refl (omega arith)) (λ e. absurd cc),
      (
        far-sends a3 (λ frame e. subst (λ (f : FrameValue). may_send (message_of (spelled f)) (a3.far.ports 0).site.state ≡ true) (some-is _ frame e) refl),
        (
          far-sends a4 (λ frame e. subst (λ (f : FrameValue). may_send (message_of (spelled f)) (a4.far.ports 0).site.state ≡ true) (some-is _ frame e) refl),
          (
            far-flushes a5,
            (
              near-hears a6 (arrives (a6.far.ports 0).site 0 3 3 refl (omega arith) refl (omega arith)) (λ e. absurd cc),
              (
                near-sends a7 (λ frame e. subst (λ (f : FrameValue). may_send (message_of (spelled f)) (a7.near.ports 0).site.state ≡ true) (some-is _ frame e) refl),
                (
                  near-flushes a8,
                  (
                    far-hears a9 (arrives (a9.near.ports 0).site 0 4 4 refl (omega arith) refl (omega arith)) (λ e. absurd cc),
                    tt,
                  ),
                ),
              ),
            ),
          ),
        ),
      ),
    ),
  ),
)

serves : Steps near_make far_make aligned (through serving aligned)
unfolding after going drained run_from blocks_from lost_from named_below passed_below given next_place gone_again gone_first confirmation confirmed settled acknowledged after_t3 apply tell_owed first_sets links_below status_of set_timer clear_timer start_unless_running clear_set due_name after_due due_count names_of choice_among link_by changes_of changes take_back_each owes_nothing any_flow flows
serves = (
  near-step (Happens exchange.Ticked) aligned tt,
  (
    far-step (Happens exchange.Ticked) s1 tt,
    (
      near-sends s2 (λ frame e. subst (λ (f : FrameValue). may_send (message_of (spelled f)) (s2.near.ports 0).site.state ≡ true) (some-is _ frame e) refl),
      (
        near-flushes s3,
        (
          far-hears s4 (arrives (s4.near.ports 0).site 0 5 5 refl (omega arith) refl (omega arith)) (λ e. absurd cc),
          (
            far-sends s5 (λ frame e. subst (λ (f : FrameValue). may_send (message_of (spelled f)) (s5.far.ports 0).site.state ≡ true) (some-is _ frame e) refl),
            (
              far-flushes s6,
              (
                near-hears s7 (arrives (s7.far.ports 0).site 0 4 6 refl (omega arith) refl (omega arith)) (λ e. absurd cc),
                tt,
              ),
            ),
          ),
        ),
      ),
    ),
  ),
)

crosses-by : Steps near_make far_make c0 (through crossing c0)
unfolding after going drained run_from blocks_from lost_from named_below passed_below given next_place gone_again gone_first confirmation confirmed settled acknowledged after_t3 apply tell_owed first_sets links_below status_of set_timer clear_timer start_unless_running clear_set due_name after_due due_count names_of choice_among link_by changes_of changes take_back_each owes_nothing any_flow flows
crosses-by = (
  near-sends c0 (λ frame e. subst (λ (f : FrameValue). may_send (message_of (spelled f)) (c0.near.ports 0).site.state ≡ true) (some-is _ frame e) refl),
  (
    near-flushes c1,
    (
      far-hears c2 (arrives (c2.near.ports 0).site 0 6 7 refl (omega arith) refl (omega arith)) (λ e. absurd cc),
      (
        far-hears c3 (arrives (c3.near.ports 0).site 0 6 7 refl (omega arith) refl (omega arith)) (λ e. absurd cc),
        tt,
      ),
    ),
  ),
)

the-run : Steps near_make far_make (new_world near_make far_make) run.run
the-run =
    let last : Steps near_make far_make served (submitted ∷ through crossing submitted) = (
      near-step (Happens (exchange.Submitted the_message)) served tt,
      submitted-so (λ w. Steps near_make far_make w (through crossing w)) crosses-by,
    ) in
    all-steps opening (new_world near_make far_make) opens (through aligning opened ++ through serving aligned ++ submitted ∷ through crossing submitted)
    (all-steps aligning opened aligns (through serving aligned ++ submitted ∷ through crossing submitted)
    (all-steps serving aligned serves (submitted ∷ through crossing submitted) last))

-- ---- what it shows

pub crosses : run.Crosses
unfolding after going drained run_from blocks_from lost_from named_below passed_below given next_place gone_again gone_first confirmation confirmed settled acknowledged after_t3 apply tell_owed first_sets links_below status_of set_timer clear_timer start_unless_running clear_set due_name after_due due_count names_of choice_among link_by changes_of changes take_back_each owes_nothing any_flow flows
crosses = record {
  neighbours = record { sharing = sharing near_settings far_settings joined; near_good = λ link. good 1000; far_good = λ link. good 2000 };
  steps = the-run;
  near_serves = refl;
  far_serves = refl;
  accepted = submitted-so (λ w. w.near.books.accepted ≡ the_message ∷ []) refl;
  missing = submitted-so (λ w. w.far.books.received ≡ []) refl;
  waits = submitted-so (λ w. promises.waiting (ends_of near_make far_make w) ≡ the_message ∷ []) refl;
  received = submitted-so (λ w. (after_all crossing w).far.books.received ≡ the_message ∷ []) refl;
  nothing_waits = submitted-so (λ w. promises.waiting (ends_of near_make far_make (after_all crossing w)) ≡ []) refl;
  lost_nothing = record {
    near = submitted-so (λ w. lost_any (after_all crossing w).near.books.exchange.node.parts ≡ false) refl;
    far = submitted-so (λ w. lost_any (after_all crossing w).far.books.exchange.node.parts ≡ false) refl;
  };
  punctual = submitted-so (λ w. late_any (after_all crossing w).near.books.exchange.node.parts ≡ false) refl;
}
