-- The states of the run of the mated pair, computed: but for whether a message waits, which is looked at four times.
-- Each is a function of the first nodes: as a constant it would cost the kernel far more.
use Rattle.node_moves.proofs.Basics.{◌≡◌, true, [], ◌∷◌, ◌++◌, Some, is_some, slice_get, refl, sym}
use Rattle.node_moves.proofs.Definitions.{whole}
use Rattle.node_moves.proofs.LaidOut.{Four, network-seen, network_of, run, seen}
use Rattle.node_moves.proofs.Offering.{GoesOn, ComesOn, Completes, completing, completes-on, ends, is-next, mate, near, new_of, next_accepted, next_text, passes-on, passing, runs-on, submits-on, submitting}
use Rattle.node_moves.proofs.Delivered.{delivers}
use Rattle.node_moves.proofs.Unheld.{Free, none-held, free-none, free-ended}
use Rattle.node_moves.specs.MatedPair.{mated}
use Rattle.node_moves.specs.MatedRun.{answering, come, direct, done_at, failed, fails, message_one, message_two, moved, onward, opening, ordering, sends, sent, served, settling}
use Rattle.node_moves.specs.Networks.{Takes, first_network}
unfoldable use Rattle.exchange_rules.specs.Exchange.{apply}
unfoldable use Rattle.exchange_rules.specs.Telling.{tell_owed}
unfoldable use Rattle.exchange_rules.specs.ChangingBack.{take_back_each}
unfoldable use Rattle.exchange_rules.specs.ChangingOver.{order_each}
unfoldable use Rattle.flow_hold.specs.Holds.{any_flow, flows}
unfoldable use Rattle.routes.specs.Routes.{choice_among, link_by, first_sets, links_below}
unfoldable use Rattle.timers.specs.Timers.{clear_timer, set_timer, start_unless_running, clear_set, due_name, after_due, due_count, names_of}
unfoldable use Rattle.route_management.specs.Told.{owes_nothing}
unfoldable use Rattle.m2pa_codec.specs.Frames.{status_of}
unfoldable use Rattle.changeback.specs.Rerouting.{rerouted}
unfoldable use Rattle.changeback.specs.Return.{changes_of, changes}
use Rattle.exchange_rules.specs.Messages.{deliver}
use Rattle.exchange_rules.specs.Frames.{receive}
use Rattle.flow_hold.specs.declared.procedure.Procedure.TheVariants.{Changeover}

-- ---- the states, each computed from the one before

abbrev pub first_four : Four
first_four = seen (first_network mated)

abbrev pub served_from : Four → Four
served_from t = run (opening ++ settling) t

abbrev pub sent_from : Four → Four
sent_from t = run (sends direct) (submitting message_one (served_from t))

abbrev pub failed_from : Four → Four
failed_from t = run (done_at direct.here Takes ∷ fails direct ++ ordering) (submitting message_two (sent_from t))

abbrev pub moved_from : Four → Four
moved_from t = run answering (completing message_two (failed_from t))

abbrev pub come_from : Four → Four
come_from t = run (sends onward) (passing message_two (moved_from t))

-- ---- both messages are submitted

pub one-on : GoesOn message_one
unfolding apply
one-on = record { goes_out = record { handles = λ n. refl; submits = λ n. refl; enters = λ o n. refl }; comes = λ o n. refl; offers = λ n. refl }

pub two-on : GoesOn message_two
unfolding apply
two-on = record { goes_out = record { handles = λ n. refl; submits = λ n. refl; enters = λ o n. refl }; comes = λ o n. refl; offers = λ n. refl }

pub served-free : Free 0 0 (served_from first_four).one.node.parts.holds
unfolding apply tell_owed first_sets links_below status_of set_timer clear_timer start_unless_running clear_set due_name after_due due_count names_of choice_among link_by changes_of changes take_back_each owes_nothing any_flow flows rerouted order_each
served-free = free-none 0 0 3 3 3

pub served-is : served ≡ network_of (served_from first_four)
served-is = runs-on (first_network mated) first_four (sym (network-seen (first_network mated))) (opening ++ settling)

pub sent-is : sent ≡ network_of (sent_from first_four)
sent-is = submits-on served (served_from first_four) served-is message_one one-on.goes_out (none-held 0 0 (served_from first_four).one.node.parts.holds served-free) (sends direct)

sent-free : Free 0 0 (sent_from first_four).one.node.parts.holds
unfolding apply tell_owed first_sets links_below status_of set_timer clear_timer start_unless_running clear_set due_name after_due due_count names_of choice_among link_by changes_of changes take_back_each owes_nothing any_flow flows rerouted order_each
sent-free = free-none 0 0 3 3 3

pub failed-is : failed ≡ network_of (failed_from first_four)
failed-is =
    submits-on sent (sent_from first_four) sent-is message_two two-on.goes_out (none-held 0 0 (sent_from first_four).one.node.parts.holds sent-free) (done_at direct.here Takes ∷ fails direct ++ ordering)

-- ---- the changeover completes at point 1

near-there : is_some (slice_get ((failed_from first_four).one.user_data 2) 0) ≡ true
unfolding apply tell_owed first_sets links_below status_of set_timer clear_timer start_unless_running clear_set due_name after_due due_count names_of choice_among link_by changes_of changes take_back_each owes_nothing any_flow flows rerouted order_each
near-there = refl

near-held : (ends 2 (next_text 2 (failed_from first_four).one) near (failed_from first_four).one).left.queues.held ≡ message_two ∷ []
unfolding apply tell_owed first_sets links_below status_of set_timer clear_timer start_unless_running clear_set due_name after_due due_count names_of choice_among link_by changes_of changes take_back_each owes_nothing any_flow flows rerouted order_each
near-held = refl

near-ended : Free 0 0 (ends 2 (next_text 2 (failed_from first_four).one) near (failed_from first_four).one).left.parts.holds
unfolding apply tell_owed first_sets links_below status_of set_timer clear_timer start_unless_running clear_set due_name after_due due_count names_of choice_among link_by changes_of changes take_back_each owes_nothing any_flow flows rerouted order_each
near-ended = free-ended 0 0 _ (Changeover 0) _ _ (free-none 0 0 3 3 3) refl

near-completes : Completes message_two 2 (next_text 2 (failed_from first_four).one) near (failed_from first_four).one
near-completes = record {
  there = is-next 2 (failed_from first_four).one near-there;
  held = near-held;
  unheld = none-held 0 0 (ends 2 (next_text 2 (failed_from first_four).one) near (failed_from first_four).one).left.parts.holds near-ended;
}

pub moved-is : moved ≡ network_of (moved_from first_four)
moved-is = completes-on failed (failed_from first_four) failed-is message_two near-completes answering

-- ---- the second message comes to the mate

mate-there : is_some (slice_get ((moved_from first_four).two.user_data 2) 0) ≡ true
unfolding apply tell_owed first_sets links_below status_of set_timer clear_timer start_unless_running clear_set due_name after_due due_count names_of choice_among link_by changes_of changes take_back_each owes_nothing any_flow flows rerouted order_each
mate-there = refl

mate-new : new_of 2 (next_text 2 (moved_from first_four).two) mate (moved_from first_four).two.node ≡ Some message_two
unfolding apply tell_owed first_sets links_below status_of set_timer clear_timer start_unless_running clear_set due_name after_due due_count names_of choice_among link_by changes_of changes take_back_each owes_nothing any_flow flows rerouted order_each
mate-new = refl

mate-goes : receive whole mate 2 (next_text 2 (moved_from first_four).two) (moved_from first_four).two.node ≡ deliver whole mate 2 message_two (next_accepted (moved_from first_four).two)
mate-goes = delivers mate 2 message_two (next_text 2 (moved_from first_four).two) (moved_from first_four).two.node mate-new

mate-free : Free 0 0 (next_accepted (moved_from first_four).two).parts.holds
unfolding apply tell_owed first_sets links_below status_of set_timer clear_timer start_unless_running clear_set due_name after_due due_count names_of choice_among link_by changes_of changes take_back_each owes_nothing any_flow flows rerouted order_each
mate-free = free-none 0 0 3 3 3

mate-comes : ComesOn message_two (next_text 2 (moved_from first_four).two) (next_accepted (moved_from first_four).two) (moved_from first_four).two
mate-comes = record {
  there = is-next 2 (moved_from first_four).two mate-there;
  is_new = mate-new;
  goes = mate-goes;
  unheld = none-held 0 0 (next_accepted (moved_from first_four).two).parts.holds mate-free;
}

pub come-is : come ≡ network_of (come_from first_four)
come-is = passes-on moved (moved_from first_four) moved-is message_two two-on mate-comes (sends onward)
