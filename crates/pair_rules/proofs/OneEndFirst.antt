-- The run of two exchanges, by computation, except whether its message waits, which is looked at twice.
use Rattle.exchange_rules.specs.Exchange.{leaving}
use Rattle.pair_rules.proofs.Basics.{◌≡◌, ◌≢◌, ℕ, Bool, true, false, not, ◌&&◌, ◌||◌, List, [], ◌∷◌, ◌++◌, refl, sym, ap, ◌∙◌, subst, None, Some, slice_get, slice_index_or, option_to_list, true≢false, and_left as and-first}
use Rattle.pair_rules.proofs.Definitions.{Message, flow_of, Configuration, set_timer, start_unless_running, clear_timer, clear_set, due_name, after_due, due_count, first_sets, choice_among, link_by, Procedure, any_flow, flows, with_flows, HoldSet, holds, is_held, is_same, lifted, may_hold, no_holds, flows_add, flows_leave, contains-lifted, held_by, none_at_first, Done, Node, lost_any, late_any, WholeQueues, whole, no_room_for, waits, link_of, go_by, go_each, FrameCame, new_message, apply, handle_event, settled, take_back_each, PairState, AtNear, Delivers, Loses, OpensFirst, taken_in, after_steps, deliver_frame, users_of, in_flight, may_follow, without_data, is_down_at, waiting_on, brought_in}
use Rattle.std.specs.Prelude.{Option}
use Rattle.timers.specs.Timers.{names_of}
use Rattle.routes.specs.Routes.{links_below}
use Rattle.route_management.specs.Told.{owes_nothing}
use Rattle.m2pa_codec.specs.Frames.{status_of}
use Rattle.changeback.specs.Return.{changes_of, changes}
use Rattle.flow_hold.specs.declared.procedure.Procedure.TheVariants.{Changeover, Code}
use Rattle.flow_hold.proofs.Numbers.{same, same-itself}
use Rattle.exchange_rules.specs.Messages.{offer}
use Rattle.exchange_rules.specs.Telling.{tell_owed}
use Rattle.pair_rules.proofs.RunSettings.{joined}
use Rattle.pair_rules.specs.Promises.{of_flow}
use Rattle.pair_rules.specs.OneEndFirst.{answering, completed, near_settings, ordering, served, submitted, the_message}
use Rattle.pair_rules.specs.OneEndFirst as run

-- ---- whether the message waits

abbrev pub Free : HoldSet → Type 0
Free h = (procedure : Procedure) → holds h procedure 0 0 ≡ false

pub none-held : (h : HoldSet) → Free h → is_held h 0 0 ≡ false
none-held h none = by (is_held h 0 0) refl
  where
    by : (b : Bool) → is_held h 0 0 ≡ b → b ≡ false
    by false e = refl
    by true e = absurd (true≢false (sym ((held_by h 0 0).0 e).1 ∙ none ((held_by h 0 0).0 e).0))

abbrev first_holds : HoldSet
first_holds = no_holds 2 1 1

free-none : Free first_holds
free-none procedure = none_at_first 2 1 1 procedure 0 0

either : {A : Type 0} (one other : Procedure) → (one ≡ other → A) → (one ≢ other → A) → A
either {A} one other alike unlike = by (is_same one other) refl
  where
    by : (b : Bool) → is_same one other ≡ b → A
    by true e = alike (same one other e)
    by false e = unlike (λ f. true≢false (sym (ap (λ (p : Procedure). is_same p other) f ∙ same-itself other) ∙ e))

and-false : (b : Bool) → (b && false) ≡ false
and-false true = refl
and-false false = refl

or-second : (a c : Bool) → ((a && false) || c) ≡ c
or-second true c = refl
or-second false c = refl

-- flows of another selection are held
free-flows : (h : HoldSet) (procedure : Procedure) (test : (destination sls : ℕ) → Bool) → Free h → test 0 0 ≡ false → Free (with_flows h procedure test)
free-flows h procedure test f t = λ one.
    either one procedure
    (λ e.
    subst (λ (p : Procedure). holds (with_flows h procedure test) p 0 0 ≡ false) (sym e)
    (flows_add h procedure test 0 0
    ∙ ap (λ (b : Bool). (may_hold h procedure 0 0 && b) || holds h procedure 0 0) t
    ∙ or-second (may_hold h procedure 0 0) (holds h procedure 0 0)
    ∙ f procedure))
    (λ d. flows_leave h procedure one test 0 0 d ∙ f one)

-- what a procedure held is lifted
pub free-lifted : (h : HoldSet) (procedure : Procedure) (test : (destination sls : ℕ) → Bool) → Free h → Free (lifted (with_flows h procedure test) procedure)
free-lifted h procedure test f = λ one.
    contains-lifted (with_flows h procedure test) procedure (record { procedure = one; destination = 0; sls = 0 })
    ∙ either one procedure
    (λ e.
    ap (λ (p : Procedure). holds (with_flows h procedure test) one 0 0 && not (is_same p procedure)) e
    ∙ ap (λ (b : Bool). holds (with_flows h procedure test) one 0 0 && not b) (same-itself procedure)
    ∙ and-false (holds (with_flows h procedure test) one 0 0))
    (λ d. and-first (holds (with_flows h procedure test) one 0 0) (not (is_same one procedure)) (flows_leave h procedure one test 0 0 d ∙ f one))

-- ---- the message is queued

abbrev queued_by : Bool → PairState
queued_by waiting =
    let n : Node WholeQueues = served.near.exchange.node in
    let d : Done WholeQueues = settled whole near_settings (offer whole near_settings (no_room_for whole near_settings the_message n) waiting (link_of near_settings n.parts (flow_of the_message)) None the_message n) in
    record served { near = record served.near { exchange = leaving served.near.exchange d.left; accepted = served.near.accepted ++ taken_in d.outcome the_message } }

goes-first : submitted ≡ queued_by (waits near_settings served.near.exchange.node.parts.holds the_message)
unfolding apply tell_owed first_sets links_below status_of set_timer clear_timer start_unless_running clear_set due_name after_due due_count names_of choice_among link_by changes_of changes take_back_each owes_nothing any_flow flows
goes-first = refl

free-first : waits near_settings served.near.exchange.node.parts.holds the_message ≡ false
unfolding apply tell_owed first_sets links_below status_of set_timer clear_timer start_unless_running clear_set due_name after_due due_count names_of choice_among link_by changes_of changes take_back_each owes_nothing any_flow flows
free-first = none-held served.near.exchange.node.parts.holds (free-flows first_holds (Code 0 0) _ free-none refl)

submitted-is : submitted ≡ queued_by false
submitted-is = goes-first ∙ ap queued_by free-first

-- ---- the changeover is complete: the message goes on

abbrev awaiting : PairState
awaiting = after_steps ordering (queued_by false)

abbrev its_text : List ℕ
its_text = slice_index_or (in_flight awaiting.near.incoming.user_data 1) 0 []

abbrev its_end : Done WholeQueues
its_end = handle_event whole near_settings (FrameCame 1 its_text) awaiting.near.exchange.node

abbrev completed_left : Bool → Node WholeQueues
completed_left waiting = tell_owed whole near_settings (go_by whole near_settings waiting the_message (record its_end.left { queues = whole.without_held its_end.left.queues }))

abbrev completed_in : Configuration → Bool → PairState
completed_in c waiting = record awaiting {
  near = record awaiting.near {
    exchange = record (leaving awaiting.near.exchange (completed_left waiting)) { settings = c };
    incoming = without_data 1 awaiting.near.incoming;
    accepted = awaiting.near.accepted ++ brought_in (FrameCame 1 its_text) awaiting.near.exchange;
    received = awaiting.near.received ++ users_of (option_to_list (new_message 1 its_text awaiting.near.exchange));
  };
}

abbrev completed_by : Bool → PairState
completed_by waiting = completed_in near_settings waiting

-- an event that leaves one message in Held
one-held : (c : Configuration) (d : Done WholeQueues) (m : Message) → d.left.queues.held ≡ m ∷ []
    → (settled whole c d).left ≡ tell_owed whole c (go_by whole c (waits c d.left.parts.holds m) m (record d.left { queues = whole.without_held d.left.queues }))
one-held c d m e = ap (λ (ms : List Message). tell_owed whole c (go_each whole c ms (record d.left { queues = whole.without_held d.left.queues }))) e

-- a frame comes to the near end, and what its event leaves
delivered-as : (p : PairState) (link : ℕ) (text : List ℕ) (left : Node WholeQueues) → slice_get (in_flight p.near.incoming.user_data link) 0 ≡ Some text
    → (apply whole p.near.exchange.settings (FrameCame link text) p.near.exchange.node).left ≡ left
    → after_steps (AtNear (Delivers link) ∷ []) p
    ≡ record p {
      near = record p.near {
        exchange = leaving p.near.exchange left;
        incoming = without_data link p.near.incoming;
        accepted = p.near.accepted ++ brought_in (FrameCame link text) p.near.exchange;
        received = p.near.received ++ users_of (option_to_list (new_message link text p.near.exchange));
      };
    }
delivered-as p link text left e f =
    ap (λ (o : Option (List ℕ)). (deliver_frame o link (without_data link p.near.incoming) p).left) e
    ∙ ap (λ (n : Node WholeQueues). record p {
      near = record p.near {
        exchange = leaving p.near.exchange n;
        incoming = without_data link p.near.incoming;
        accepted = p.near.accepted ++ brought_in (FrameCame link text) p.near.exchange;
        received = p.near.received ++ users_of (option_to_list (new_message link text p.near.exchange));
      };
    }) f

text-there : slice_get (in_flight awaiting.near.incoming.user_data 1) 0 ≡ Some its_text
unfolding apply tell_owed first_sets links_below status_of set_timer clear_timer start_unless_running clear_set due_name after_due due_count names_of choice_among link_by changes_of changes take_back_each owes_nothing any_flow flows
text-there = refl

settings-stay : awaiting.near.exchange.settings ≡ near_settings
unfolding apply tell_owed first_sets links_below status_of set_timer clear_timer start_unless_running clear_set due_name after_due due_count names_of choice_among link_by changes_of changes take_back_each owes_nothing any_flow flows
settings-stay = refl

held-there : its_end.left.queues.held ≡ the_message ∷ []
unfolding apply tell_owed first_sets links_below status_of set_timer clear_timer start_unless_running clear_set due_name after_due due_count names_of choice_among link_by changes_of changes take_back_each owes_nothing any_flow flows
held-there = refl

as-applied : (c : Configuration) (text : List ℕ) (n : Node WholeQueues) → (apply whole c (FrameCame 1 text) n).left ≡ (settled whole c (handle_event whole c (FrameCame 1 text) n)).left
unfolding apply
as-applied c text n = refl

goes-second : after_steps (AtNear (Delivers 1) ∷ []) awaiting ≡ completed_by (waits near_settings its_end.left.parts.holds the_message)
goes-second =
    delivered-as awaiting 1 its_text _ text-there
    (ap (λ (c : Configuration). (apply whole c (FrameCame 1 its_text) awaiting.near.exchange.node).left) settings-stay
    ∙ as-applied near_settings its_text awaiting.near.exchange.node
    ∙ one-held near_settings its_end the_message held-there)
    ∙ ap (λ (c : Configuration). completed_in c (waits near_settings its_end.left.parts.holds the_message)) settings-stay

free-second : waits near_settings its_end.left.parts.holds the_message ≡ false
unfolding apply tell_owed first_sets links_below status_of set_timer clear_timer start_unless_running clear_set due_name after_due due_count names_of choice_among link_by changes_of changes take_back_each owes_nothing any_flow flows
free-second = none-held its_end.left.parts.holds (free-lifted (with_flows first_holds (Code 0 0) _) (Changeover 0) _ (free-flows first_holds (Code 0 0) _ free-none refl))

completed-is : completed ≡ completed_by false
completed-is = ap (λ (p : PairState). after_steps (AtNear (Delivers 1) ∷ []) (after_steps ordering p)) submitted-is ∙ goes-second ∙ ap completed_by free-second

-- ---- what they show

queued-so : {A : Type 0} (f : PairState → A) (a : A) → f (queued_by false) ≡ a → f submitted ≡ a
queued-so f a e = ap f submitted-is ∙ e

completed-so : {A : Type 0} (f : PairState → A) (a : A) → f (completed_by false) ≡ a → f completed ≡ a
completed-so f a e = ap f completed-is ∙ e

abbrev opened_from : PairState → PairState
opened_from p = after_steps (AtNear (OpensFirst 0) ∷ []) (after_steps answering p)

abbrev fallen_from : PairState → PairState
fallen_from p = after_steps (AtNear (Loses 0) ∷ []) (opened_from p)

abbrev come_from : PairState → PairState
come_from p = after_steps (run.sends_far 1) (fallen_from p)

come-received : run.come.far.received ≡ the_message ∷ []
unfolding apply tell_owed first_sets links_below status_of set_timer clear_timer start_unless_running clear_set due_name after_due due_count names_of choice_among link_by changes_of changes take_back_each owes_nothing any_flow flows
come-received = completed-so (λ p. (come_from p).far.received) (the_message ∷ []) refl

pub comes-once : run.ComesOnce
unfolding apply tell_owed first_sets links_below status_of set_timer clear_timer start_unless_running clear_set due_name after_due due_count names_of choice_among link_by changes_of changes take_back_each owes_nothing any_flow flows
comes-once = record {
  joined = joined;
  accepted = queued-so (λ p. p.near.accepted) (the_message ∷ []) refl;
  waits = queued-so (λ p. waiting_on p 0) (the_message ∷ []) refl;
  near_down = queued-so (λ p. is_down_at (after_steps ordering p).near 0) true refl;
  far_down = queued-so (λ p. is_down_at (after_steps ordering p).far 0) true refl;
  up = completed-so (λ p. is_down_at (opened_from p).near 0) false refl;
  follows = completed-so (λ p. may_follow (opened_from p).far 0) true refl;
  fell = completed-so (λ p. is_down_at (fallen_from p).near 0) true refl;
  unfollowed = completed-so (λ p. may_follow (fallen_from p).far 0) true refl;
  missing = completed-so (λ p. (fallen_from p).far.received) [] refl;
  received = come-received;
  of_its_flow = ap (of_flow (flow_of the_message)) come-received;
  lost_nothing = record {
    near = completed-so (λ p. lost_any (come_from p).near.exchange.node.parts) false refl;
    far = completed-so (λ p. lost_any (come_from p).far.exchange.node.parts) false refl;
  };
  punctual = completed-so (λ p. late_any (come_from p).near.exchange.node.parts) false refl;
}
