-- What the run shows, by computation.
use Rattle.std.proofs.Common.{◌≡◌, ℕ, Bool, true, false, List, [], ◌∷◌, ◌++◌, ◌≤◌, nat_le, refl, ap, subst, sym, ◌∙◌, arith}
use Rattle.std.proofs.lemmas.Bool.Decides.{nat_tests}
use Rattle.sha2.specs.Sha256.{sha256, digest_bytes, hash_after, compress, rounds, schedule, first_words}
use Rattle.sctp_cookie.specs.Tags.{half_given, permutation}
use Rattle.sctp_cookie.specs.Permutation.{round}
use Rattle.sctp_cookie.specs.Hmac.{hmac}
use Rattle.sctp_cookie.specs.Cookies.{body_of, cookie_in}
use Rattle.sctp_ends.specs.Keyed.{drawing_after}
use Rattle.timers.specs.Timers.{set_timer, start_unless_running, clear_timer, clear_set, due_name, after_due, due_count, names_of}
use Rattle.routes.specs.Routes.{first_sets, links_below, choice_among, link_by}
use Rattle.route_management.specs.Told.{owes_nothing}
use Rattle.m2pa_codec.specs.Frames.{status_of}
use Rattle.changeback.specs.Return.{changes_of, changes}
use Rattle.changeback.specs.Rerouting.{rerouted}
use Rattle.flow_hold.specs.Holds.{any_flow, flows, no_holds}
use Rattle.flow_hold.specs.declared.procedure.Procedure.TheVariants.{Changeover, Code}
use Rattle.signalling_types.specs.Message.{Message}
use Rattle.exchange_rules.specs.Exchange.{apply}
use Rattle.exchange_rules.specs.State.{late_any, lost_any}
use Rattle.exchange_rules.specs.Telling.{tell_owed}
use Rattle.exchange_rules.specs.ChangingBack.{take_back_each}
use Rattle.sctp_receiving.specs.Receiver.{drained}
use Rattle.sctp_receiving.specs.Sack.{run_from, blocks_from}
use Rattle.sctp_sending.specs.Outgoing.{lost_from}
use Rattle.sctp_sending.specs.Waiting.{has_room_behind, after_going}
use Rattle.sctp_sending.specs.Sending.{named_below, passed_below, given, has_room, next_place, gone_again, gone_first, confirmation, confirmed, settled, acknowledged, after_t3, stopped}
use Rattle.sctp_rules.specs.Confirming.{going}
use Rattle.sctp_rules.specs.Rows.{settings}
use Rattle.sctp_rules.specs.WrittenPackets.{HasPorts}
use Rattle.sctp_gate.specs.Gates.{taken_all}
use Rattle.link.specs.declared.alignment.Alignment.{Alignment}
use Rattle.link.specs.declared.alignment.Alignment.TheVariants.{Down, InService}
use Rattle.pair_rules.proofs.Definitions.{none_at_first}
use Rattle.pair_rules.proofs.OneEndFirst.{Free, free-lifted, none-held}
use Rattle.pair_rules.proofs.RunSettings.{joined}
use Rattle.pair_rules.specs.OneEndFirst.{far_settings, near_settings, the_message}
use Rattle.neighbour_rules.proofs.Special.{sharing}
use Rattle.neighbour_rules.specs.Promises.{waiting}
use Rattle.gate_rules.specs.FallAndReturn.{AtFar, FallsAndReturns, Fills, First, Second, after_all, after_one, alignment_of, answering, begun, changed_over, changing, come, coming, fallen, falling, far_make, last_message, near_make, next_message, opening, resumed, resuming, returned, returning, run, served, tells_far, unanswered}
use Rattle.gate_rules.specs.Promises.{ends_of}
use Rattle.gate_rules.specs.Worlds.{World}
use Rattle.gate_rules.proofs.RunEvents.{GoesIn, its_end, submitting}
use Rattle.gate_rules.proofs.RunStates.{changed_from, come-settings, come_from, completing, fallen-settings, fallen_from, its_text, looked, ordered_from, orders-on, resumed_from, returned-settings, returned_from, seen, served-settings, served_from, submits-on}
use Rattle.gate_rules.proofs.RunSteps.{AreFew, after-more, all-steps, last-after, most}

-- ---- each message goes in

the_message-in : GoesIn the_message
unfolding apply
the_message-in = record { submits = λ n. refl; enters = λ o n. refl }

next_message-in : GoesIn next_message
unfolding apply
next_message-in = record { submits = λ n. refl; enters = λ o n. refl }

last_message-in : GoesIn last_message
unfolding apply
last_message-in = record { submits = λ n. refl; enters = λ o n. refl }

-- ---- nothing holds their flow

free-none : Free (no_holds 2 1 1)
free-none procedure = none_at_first 2 1 1 procedure 0 0

served-free : Free (served_from begun).near.books.exchange.node.parts.holds
unfolding drawing_after half_given permutation round hmac body_of cookie_in sha256 digest_bytes hash_after compress rounds schedule first_words taken_all has_room_behind after_going has_room going drained run_from blocks_from lost_from named_below passed_below given next_place gone_again gone_first confirmation confirmed settled acknowledged after_t3 stopped apply tell_owed first_sets links_below status_of set_timer clear_timer start_unless_running clear_set due_name after_due due_count names_of choice_among link_by changes_of changes take_back_each owes_nothing any_flow flows rerouted
served-free = free-lifted (no_holds 2 1 1) (Code 0 0) _ free-none

come-free : Free (come_from begun).near.books.exchange.node.parts.holds
unfolding drawing_after half_given permutation round hmac body_of cookie_in sha256 digest_bytes hash_after compress rounds schedule first_words taken_all has_room_behind after_going has_room going drained run_from blocks_from lost_from named_below passed_below given next_place gone_again gone_first confirmation confirmed settled acknowledged after_t3 stopped apply tell_owed first_sets links_below status_of set_timer clear_timer start_unless_running clear_set due_name after_due due_count names_of choice_among link_by changes_of changes take_back_each owes_nothing any_flow flows rerouted
come-free = free-lifted (no_holds 2 1 1) (Code 0 0) _ free-none

ordered-free : Free (its_end 1 (its_text (ordered_from begun)) (ordered_from begun).near.books.exchange.node).left.parts.holds
unfolding drawing_after half_given permutation round hmac body_of cookie_in sha256 digest_bytes hash_after compress rounds schedule first_words taken_all has_room_behind after_going has_room going drained run_from blocks_from lost_from named_below passed_below given next_place gone_again gone_first confirmation confirmed settled acknowledged after_t3 stopped apply tell_owed first_sets links_below status_of set_timer clear_timer start_unless_running clear_set due_name after_due due_count names_of choice_among link_by changes_of changes take_back_each owes_nothing any_flow flows rerouted
ordered-free = free-lifted _ (Changeover 0) _ (free-lifted (no_holds 2 1 1) (Code 0 0) _ free-none)

returned-free : Free (returned_from begun).near.books.exchange.node.parts.holds
unfolding drawing_after half_given permutation round hmac body_of cookie_in sha256 digest_bytes hash_after compress rounds schedule first_words taken_all has_room_behind after_going has_room going drained run_from blocks_from lost_from named_below passed_below given next_place gone_again gone_first confirmation confirmed settled acknowledged after_t3 stopped apply tell_owed first_sets links_below status_of set_timer clear_timer start_unless_running clear_set due_name after_due due_count names_of choice_among link_by changes_of changes take_back_each owes_nothing any_flow flows rerouted
returned-free = free-lifted _ (Code 0 0) _ (free-lifted _ (Changeover 0) _ (free-lifted (no_holds 2 1 1) (Code 0 0) _ free-none))

ordered-seen : seen (ordered_from begun) ≡ looked
unfolding drawing_after half_given permutation round hmac body_of cookie_in sha256 digest_bytes hash_after compress rounds schedule first_words taken_all has_room_behind after_going has_room going drained run_from blocks_from lost_from named_below passed_below given next_place gone_again gone_first confirmation confirmed settled acknowledged after_t3 stopped apply tell_owed first_sets links_below status_of set_timer clear_timer start_unless_running clear_set due_name after_due due_count names_of choice_among link_by changes_of changes take_back_each owes_nothing any_flow flows rerouted
ordered-seen = refl

-- ---- so the worlds are as they are computed

come-is : come ≡ come_from begun
come-is =
    submits-on the_message the_message-in served (served_from begun) refl served-settings (none-held (served_from begun).near.books.exchange.node.parts.holds served-free)
    (tells_far First 10)

fallen-is : fallen ≡ fallen_from begun
fallen-is =
    submits-on next_message next_message-in come (come_from begun) come-is come-settings (none-held (come_from begun).near.books.exchange.node.parts.holds come-free) unanswered

changed-is : changed_over ≡ changed_from begun
changed-is =
    orders-on fallen (fallen_from begun) fallen-is ordered-seen fallen-settings
    (none-held (its_end 1 (its_text (ordered_from begun)) (ordered_from begun).near.books.exchange.node).left.parts.holds ordered-free) answering

returned-is : returned ≡ returned_from begun
returned-is = ap (after_all returning) changed-is

resumed-is : resumed ≡ resumed_from begun
resumed-is =
    submits-on last_message last_message-in returned (returned_from begun) returned-is returned-settings
    (none-held (returned_from begun).near.books.exchange.node.parts.holds returned-free) (tells_far First 4000)

-- ---- what they show

record Stage : Type 0 where
  near_first : Alignment
  near_second : Alignment
  far_first : Alignment
  far_second : Alignment
  received : List Message

abbrev stage : World → Stage
stage w = record {
  near_first = alignment_of w.near First;
  near_second = alignment_of w.near Second;
  far_first = alignment_of w.far First;
  far_second = alignment_of w.far Second;
  received = w.far.books.received;
}

abbrev shows : (first second : Alignment) → List Message → Stage
shows first second received =
    record { near_first = first; near_second = second; far_first = first; far_second = second; received = received }

record Ending : Type 0 where
  accepted : List Message
  waits : List Message
  near_lost : Bool
  far_lost : Bool
  near_late : Bool
  far_late : Bool
  near_first : Bool
  near_second : Bool
  far_first : Bool
  far_second : Bool

abbrev ending : World → Ending
ending w = record {
  accepted = w.near.books.accepted;
  waits = waiting (ends_of near_make far_make w);
  near_lost = lost_any w.near.books.exchange.node.parts;
  far_lost = lost_any w.far.books.exchange.node.parts;
  near_late = late_any w.near.books.exchange.node.parts;
  far_late = late_any w.far.books.exchange.node.parts;
  near_first = nat_le (w.near.ports 0).messages most;
  near_second = nat_le (w.near.ports 1).messages most;
  far_first = nat_le (w.far.ports 0).messages most;
  far_second = nat_le (w.far.ports 1).messages most;
}

record Story : Type 0 where
  served : Stage
  come : Stage
  fallen : Stage
  changed : Stage
  returned : Stage
  resumed : Stage
  ending : Ending

-- each world is computed from the one before, once
told_by_resumed : (served come fallen changed returned resumed : World) → Story
told_by_resumed a b c d e f =
    record { served = stage a; come = stage b; fallen = stage c; changed = stage d; returned = stage e; resumed = stage f; ending = ending f }

told_by_returned : (served come fallen changed returned : World) → Story
told_by_returned a b c d e = told_by_resumed a b c d e (after_all (tells_far First 4000) (submitting last_message e))

told_by_changed : (served come fallen changed : World) → Story
told_by_changed a b c d = told_by_returned a b c d (after_all returning d)

told_by_fallen : (served come fallen : World) → Story
told_by_fallen a b c = told_by_changed a b c (after_all answering (completing (after_one (AtFar (Fills Second 3000)) c)))

told_by_come : (served come : World) → Story
told_by_come a b = told_by_fallen a b (after_all unanswered (submitting next_message b))

told_by_served : (served : World) → Story
told_by_served a = told_by_come a (after_all (tells_far First 10) (submitting the_message a))

abbrev both : List Message
both = the_message ∷ next_message ∷ []

abbrev all : List Message
all = the_message ∷ next_message ∷ last_message ∷ []

abbrev told : Story
told = record {
  served = shows InService InService [];
  come = shows InService InService (the_message ∷ []);
  fallen = shows Down InService (the_message ∷ []);
  changed = shows Down InService both;
  returned = shows InService InService both;
  resumed = shows InService InService all;
  ending = record {
    accepted = all;
    waits = [];
    near_lost = false;
    far_lost = false;
    near_late = false;
    far_late = false;
    near_first = true;
    near_second = true;
    far_first = true;
    far_second = true;
  };
}

story-is : told_by_served (served_from begun) ≡ told
unfolding told_by_served told_by_come told_by_fallen told_by_changed told_by_returned told_by_resumed drawing_after half_given permutation round hmac body_of cookie_in sha256 digest_bytes hash_after compress rounds schedule first_words taken_all has_room_behind after_going has_room going drained run_from blocks_from lost_from named_below passed_below given next_place gone_again gone_first confirmation confirmed settled acknowledged after_t3 stopped apply tell_owed first_sets links_below status_of set_timer clear_timer start_unless_running clear_set due_name after_due due_count names_of choice_among link_by changes_of changes take_back_each owes_nothing any_flow flows rerouted
story-is = refl

-- ---- so it is of the run

chain : (a b c d e f : World) → b ≡ after_all (tells_far First 10) (submitting the_message a) → c ≡ after_all unanswered (submitting next_message b)
    → d ≡ after_all answering (completing (after_one (AtFar (Fills Second 3000)) c)) → e ≡ after_all returning d → f ≡ after_all (tells_far First 4000) (submitting last_message e)
    → told_by_resumed a b c d e f ≡ told_by_served a
unfolding told_by_served told_by_come told_by_fallen told_by_changed told_by_returned
chain a b c d e f one two three four five =
    ap (told_by_resumed a b c d e) five ∙ ap (told_by_returned a b c d) four ∙ ap (told_by_changed a b c) three ∙ ap (told_by_fallen a b) two ∙ ap (told_by_come a) one

fallen-next : fallen ≡ after_all unanswered (submitting next_message come)
fallen-next = fallen-is ∙ ap (λ (w : World). after_all unanswered (submitting next_message w)) (sym come-is)

changed-next : changed_over ≡ after_all answering (completing (after_one (AtFar (Fills Second 3000)) fallen))
changed-next = changed-is ∙ ap (λ (w : World). after_all answering (completing (after_one (AtFar (Fills Second 3000)) w))) (sym fallen-is)

resumed-next : resumed ≡ after_all (tells_far First 4000) (submitting last_message returned)
resumed-next = resumed-is ∙ ap (λ (w : World). after_all (tells_far First 4000) (submitting last_message w)) (sym returned-is)

is-told : told_by_resumed served come fallen changed_over returned resumed ≡ told
is-told = chain served come fallen changed_over returned resumed come-is fallen-next changed-next refl resumed-next ∙ story-is

-- ---- the whole run

run-is : after_all run begun ≡ resumed
run-is =
    after-more (opening ++ coming ++ falling ++ changing ++ returning) resuming begun
    ∙ ap (after_all resuming)
    (after-more (opening ++ coming ++ falling ++ changing) returning begun
    ∙ ap (after_all returning)
    (after-more (opening ++ coming ++ falling) changing begun
    ∙ ap (after_all changing) (after-more (opening ++ coming) falling begun ∙ ap (after_all falling) (after-more opening coming begun))))

is-most : (n : ℕ) → nat_le n most ≡ true → n ≤ most
is-most n e = grind (arith, nat_tests, e)

few : AreFew resumed
unfolding told_by_resumed
few = record {
  near_first = is-most (resumed.near.ports 0).messages (ap (λ (t : Story). t.ending.near_first) is-told);
  near_second = is-most (resumed.near.ports 1).messages (ap (λ (t : Story). t.ending.near_second) is-told);
  far_first = is-most (resumed.far.ports 0).messages (ap (λ (t : Story). t.ending.far_first) is-told);
  far_second = is-most (resumed.far.ports 1).messages (ap (λ (t : Story). t.ending.far_second) is-told);
}

has-ports : HasPorts settings
has-ports = record { own = omega arith; far = omega arith }

pub falls-and-returns : FallsAndReturns
unfolding told_by_resumed
falls-and-returns = record {
  sharing = sharing near_settings far_settings joined;
  near_ports = λ link. has-ports;
  far_ports = λ link. has-ports;
  steps = all-steps run begun (subst AreFew (sym run-is) few);
  left = last-after run begun ∙ run-is;
  serves = record { near = ap (λ (t : Story). t.served.near_first) is-told; far = ap (λ (t : Story). t.served.far_first) is-told };
  serves_too = record { near = ap (λ (t : Story). t.served.near_second) is-told; far = ap (λ (t : Story). t.served.far_second) is-told };
  comes = ap (λ (t : Story). t.come.received) is-told;
  falls = record { near = ap (λ (t : Story). t.fallen.near_first) is-told; far = ap (λ (t : Story). t.fallen.far_first) is-told };
  stands = record { near = ap (λ (t : Story). t.fallen.near_second) is-told; far = ap (λ (t : Story). t.fallen.far_second) is-told };
  missing = ap (λ (t : Story). t.fallen.received) is-told;
  down = record { near = ap (λ (t : Story). t.changed.near_first) is-told; far = ap (λ (t : Story). t.changed.far_first) is-told };
  changes_over = ap (λ (t : Story). t.changed.received) is-told;
  returns = record { near = ap (λ (t : Story). t.returned.near_first) is-told; far = ap (λ (t : Story). t.returned.far_first) is-told };
  accepted = ap (λ (t : Story). t.ending.accepted) is-told;
  received = ap (λ (t : Story). t.resumed.received) is-told;
  nothing_waits = ap (λ (t : Story). t.ending.waits) is-told;
  lost_nothing = record { near = ap (λ (t : Story). t.ending.near_lost) is-told; far = ap (λ (t : Story). t.ending.far_lost) is-told };
  near_punctual = ap (λ (t : Story). t.ending.near_late) is-told;
  far_punctual = ap (λ (t : Story). t.ending.far_late) is-told;
}
