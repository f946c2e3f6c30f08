-- Laws of the exchange at nodes of one link, by computation.
use Rattle.exchange_rules.proofs.Basics.{◌≡◌, Bool, true, false, refl, ap, sym, ◌∙◌, [], ◌∷◌, true≢false}
use Rattle.exchange_rules.proofs.Definitions.{set_timer, clear_timer, Time, is_taken_back, choice_among, link_by, first_sets, Procedure, Changeover, with_flows, holds, is_held, flows_add, holds_its_flow, held_by, none_at_first, Node, WholeQueues, queue_at, whole, apply, tell_owed, go_by, facts, is_failed}
use Rattle.routes.specs.Routes.{links_below}
use Rattle.exchange_rules.specs.RuleExamples as examples
use Rattle.exchange_rules.specs.RuleExamples.{settings, message, nothing_held, flow_held, node_with, the_routes}

-- ---- flags

pub no_number_is_reasonable : examples.no_number_is_reasonable
no_number_is_reasonable = refl

pub completion_raises_the_flag : examples.completion_raises_the_flag
completion_raises_the_flag = refl

pub opening_leaves_the_flag : examples.opening_leaves_the_flag
unfolding apply tell_owed first_sets links_below
opening_leaves_the_flag = refl

pub forced_rerouting_leaves_the_flag : examples.forced_rerouting_leaves_the_flag
forced_rerouting_leaves_the_flag = refl

-- ---- notices

pub first_notice_is_counted : examples.first_notice_is_counted
first_notice_is_counted = refl

-- ---- a release

pub message_waits : examples.message_waits
message_waits = holds_its_flow nothing_held (Changeover 0) 0 0 refl

pub message_stays : examples.message_stays
message_stays = ap (λ (b : Bool). (go_by whole settings b message (node_with flow_held the_routes [] [])).queues.held) message_waits

not-held : (b : Bool) → (b ≡ true → (procedure : Procedure) × (holds nothing_held procedure 0 0 ≡ true)) → b ≡ false
not-held false held = refl
not-held true held = absurd (true≢false (sym (held refl).1 ∙ none_at_first 1 1 1 (held refl).0 0 0))

goes-on : is_held nothing_held 0 0 ≡ false
goes-on = not-held (is_held nothing_held 0 0) (held_by nothing_held 0 0).0

pub message_goes_on : examples.message_goes_on
unfolding choice_among link_by first_sets links_below
message_goes_on =
    ap (λ (b : Bool). (queue_at (go_by whole settings b message (node_with nothing_held the_routes [] [])).queues 0).all) goes-on

-- ---- a message for another point

pub queued_message_is_on_its_link : examples.queued_message_is_on_its_link
queued_message_is_on_its_link = (refl, refl)

pub refused_message_is_on_none : examples.refused_message_is_on_none
refused_message_is_on_none = (refl, refl)

pub nothing_is_told_without_a_link : examples.nothing_is_told_without_a_link
unfolding choice_among link_by first_sets links_below
nothing_is_told_without_a_link = refl

-- ---- a failure

pub failure_holds_the_flow : examples.failure_holds_the_flow
unfolding choice_among link_by first_sets links_below with_flows
failure_holds_the_flow =
    let node : Node WholeQueues = node_with nothing_held [] [] (message ∷ []) in
    flows_add nothing_held (Changeover 0) (is_failed settings (facts settings node.parts) 0 (message ∷ [])) 0 0

-- ---- a return

pub return_holds_the_flow : examples.return_holds_the_flow
unfolding choice_among link_by
return_holds_the_flow = flows_add nothing_held (Time 0) (is_taken_back (examples.two_sets false) (examples.two_sets true) 1 0) 0 0

pub return_has_its_timer : examples.return_has_its_timer
unfolding set_timer
return_has_its_timer = refl

-- ---- timers

pub l6_ends_with_it : examples.l6_ends_with_it
unfolding set_timer clear_timer
l6_ends_with_it = refl

pub t4_runs_by_its_setting : examples.t4_runs_by_its_setting
unfolding set_timer
t4_runs_by_its_setting = refl
