-- The run in which a message is lost, computed: as `MatedRun` and `ByTheMate` compute theirs.
use Rattle.node_moves.proofs.Basics.{◌≡◌, ℕ, Bool, false, true, List, [], ◌∷◌, ◌++◌, replicate, refl, ap, ◌∙◌}
use Rattle.node_moves.proofs.Definitions.{Message, changeover_of}
use Rattle.node_moves.proofs.LaidOut.{Four, network_of, run}
use Rattle.node_moves.proofs.Mated.{mated-theirs, of-four}
use Rattle.node_moves.proofs.MatedRun.{first_four, one-on, served-free, served-is, served_from, two-on}
use Rattle.node_moves.proofs.Offering.{runs-on, submits-on, submitting}
use Rattle.node_moves.proofs.Unheld.{Free, free-none, none-held}
use Rattle.node_moves.specs.EndToEnd.{to_user_parts}
use Rattle.node_moves.specs.Fates.{is_delivered, met_at}
use Rattle.node_moves.specs.Laws.{came_from, gone_at, waits_at}
use Rattle.node_moves.specs.LossRun.{NamesWhatIsLost, answered, around, confirmed, expired}
use Rattle.node_moves.specs.MatedPair.{mated}
use Rattle.node_moves.specs.MatedRun.{AnAnswer, AnOrder, Word, delivered, direct, done_at, fails, message_one, message_two, sends, turned, users, users_in, words}
use Rattle.node_moves.specs.Networks.{Fate, NetworkNode, NetworkState, Takes, Ticks, messages_of}
use Rattle.changeover.specs.Changeover.{may_restart}
use Rattle.exchange_rules.specs.State.{lost_any}
unfoldable use Rattle.exchange_rules.specs.Exchange.{apply}
unfoldable use Rattle.exchange_rules.specs.Telling.{tell_owed}
unfoldable use Rattle.exchange_rules.specs.ChangingBack.{take_back_each}
unfoldable use Rattle.exchange_rules.specs.ChangingOver.{order_each}
unfoldable use Rattle.flow_hold.specs.Holds.{any_flow, flows}
unfoldable use Rattle.routes.specs.Routes.{choice_among, link_by, first_sets, links_below}
unfoldable use Rattle.timers.specs.Timers.{clear_timer, set_timer, start_unless_running, clear_set, due_name, after_due, due_count, names_of}
unfoldable use Rattle.route_management.specs.Told.{owes_nothing}
unfoldable use Rattle.m2pa_codec.specs.Frames.{status_of}
unfoldable use Rattle.changeback.specs.Rerouting.{rerouted}
unfoldable use Rattle.changeback.specs.Return.{changes_of, changes}

-- ---- the states, each computed from the one before

abbrev confirmed_from : Four → Four
confirmed_from t = run (sends direct ++ sends (turned direct)) (submitting message_one (served_from t))

abbrev expired_from : Four → Four
expired_from t = run (done_at direct.here Takes ∷ fails direct ++ replicate 9 (record { point = 1; what = Ticks })) (submitting message_two (confirmed_from t))

abbrev answered_from : Four → Four
answered_from t = run (around ++ around ++ around ++ around ++ around ++ around) (expired_from t)

confirmed-is : confirmed ≡ network_of (confirmed_from first_four)
confirmed-is = submits-on _ (served_from first_four) served-is message_one one-on.goes_out (none-held 0 0 (served_from first_four).one.node.parts.holds served-free) (sends direct ++ sends (turned direct))

confirmed-free : Free 0 0 (confirmed_from first_four).one.node.parts.holds
unfolding apply tell_owed first_sets links_below status_of set_timer clear_timer start_unless_running clear_set due_name after_due due_count names_of choice_among link_by changes_of changes take_back_each owes_nothing any_flow flows rerouted order_each
confirmed-free = free-none 0 0 3 3 3

expired-is : expired ≡ network_of (expired_from first_four)
expired-is =
    submits-on confirmed (confirmed_from first_four) confirmed-is message_two two-on.goes_out (none-held 0 0 (confirmed_from first_four).one.node.parts.holds confirmed-free)
    (done_at direct.here Takes ∷ fails direct ++ replicate 9 (record { point = 1; what = Ticks }))

answered-is : answered ≡ network_of (answered_from first_four)
answered-is = runs-on expired (expired_from first_four) expired-is (around ++ around ++ around ++ around ++ around ++ around)

-- ---- what they show

record Shown : Type 0 where
  broken : ℕ
  lost : Bool
  counted : ℕ
  named : List Message
  restarts : Bool
  accepted : List Message
  first_users : List Fate
  second_users : List Fate
  third_users : List Fate
  third_words : List Word

abbrev shown : NetworkNode → Shown
shown x = record {
  broken = x.node.parts.times_broken;
  lost = lost_any x.node.parts;
  counted = x.node.parts.messages_lost;
  named = x.named;
  restarts = may_restart (changeover_of x.node.parts 0);
  accepted = users x.accepted;
  first_users = users_in (x.came 0);
  second_users = users_in (x.came 1);
  third_users = users_in (x.came 2);
  third_words = words (messages_of (x.came 2));
}

-- point 1: whether its link may open again or not, and which words came by the mate
abbrev near_shows : (restarts : Bool) → (third_words : List Word) → Shown
near_shows restarts third_words = record {
  broken = 0;
  lost = true;
  counted = 1;
  named = message_two ∷ [];
  restarts = restarts;
  accepted = message_one ∷ message_two ∷ [];
  first_users = [];
  second_users = [];
  third_users = [];
  third_words = third_words;
}

-- another point, to which these messages came by its first link, and these words by its third
abbrev far_shows : List Fate → (third_words : List Word) → Shown
far_shows first_users third_words = record {
  broken = 0;
  lost = false;
  counted = 0;
  named = [];
  restarts = true;
  accepted = [];
  first_users = first_users;
  second_users = [];
  third_users = [];
  third_words = third_words;
}

expired-shows : shown (expired_from first_four).one ≡ near_shows false []
unfolding apply tell_owed first_sets links_below status_of set_timer clear_timer start_unless_running clear_set due_name after_due due_count names_of choice_among link_by changes_of changes take_back_each owes_nothing any_flow flows rerouted order_each
expired-shows = refl

near-shows : shown (answered_from first_four).one ≡ near_shows true (AnOrder ∷ AnAnswer ∷ [])
unfolding apply tell_owed first_sets links_below status_of set_timer clear_timer start_unless_running clear_set due_name after_due due_count names_of choice_among link_by changes_of changes take_back_each owes_nothing any_flow flows rerouted order_each
near-shows = refl

mate-shows : shown (answered_from first_four).two ≡ far_shows [] (AnOrder ∷ AnAnswer ∷ [])
unfolding apply tell_owed first_sets links_below status_of set_timer clear_timer start_unless_running clear_set due_name after_due due_count names_of choice_among link_by changes_of changes take_back_each owes_nothing any_flow flows rerouted order_each
mate-shows = refl

third-shows : shown (answered_from first_four).three ≡ far_shows (delivered message_one ∷ []) []
unfolding apply tell_owed first_sets links_below status_of set_timer clear_timer start_unless_running clear_set due_name after_due due_count names_of choice_among link_by changes_of changes take_back_each owes_nothing any_flow flows rerouted order_each
third-shows = refl

last-shows : (answered_from first_four).four.node.parts.times_broken ≡ 0
unfolding apply tell_owed first_sets links_below status_of set_timer clear_timer start_unless_running clear_set due_name after_due due_count names_of choice_among link_by changes_of changes take_back_each owes_nothing any_flow flows rerouted order_each
last-shows = refl

record Counts : Type 0 where
  came : ℕ
  delivered : ℕ
  waits : ℕ
  gone : ℕ

abbrev counts : NetworkState → Counts
counts w = record {
  came = came_from mated w (λ m. true) 1;
  delivered = met_at mated w (is_delivered (mated 3)) (to_user_parts 3 (λ m. true)) 3;
  waits = waits_at mated w (λ m. true) 1;
  gone = gone_at mated w (λ m. true) 1;
}

its-counts : counts (network_of (answered_from first_four)) ≡ record { came = 1; delivered = 1; waits = 0; gone = 1 }
unfolding apply tell_owed first_sets links_below status_of set_timer clear_timer start_unless_running clear_set due_name after_due due_count names_of choice_among link_by changes_of changes take_back_each owes_nothing any_flow flows rerouted order_each
its-counts = refl

before-is : shown (expired.node 1) ≡ near_shows false []
before-is = ap (λ (w : NetworkState). shown (w.node 1)) expired-is ∙ expired-shows

near-is : shown (answered.node 1) ≡ near_shows true (AnOrder ∷ AnAnswer ∷ [])
near-is = ap (λ (w : NetworkState). shown (w.node 1)) answered-is ∙ near-shows

mate-is : shown (answered.node 2) ≡ far_shows [] (AnOrder ∷ AnAnswer ∷ [])
mate-is = ap (λ (w : NetworkState). shown (w.node 2)) answered-is ∙ mate-shows

third-is : shown (answered.node 3) ≡ far_shows (delivered message_one ∷ []) []
third-is = ap (λ (w : NetworkState). shown (w.node 3)) answered-is ∙ third-shows

counts-are : counts answered ≡ record { came = 1; delivered = 1; waits = 0; gone = 1 }
counts-are = ap counts answered-is ∙ its-counts

pub names-lost : NamesWhatIsLost
names-lost = record {
  theirs = mated-theirs;
  unbroken =
      of-four (λ point. (answered.node point).node.parts.times_broken ≡ 0) (ap (λ (s : Shown). s.broken) near-is) (ap (λ (s : Shown). s.broken) mate-is) (ap (λ (s : Shown). s.broken) third-is)
      (ap (λ (w : NetworkState). (w.node 4).node.parts.times_broken) answered-is ∙ last-shows);
  accepted = ap (λ (s : Shown). s.accepted) near-is;
  comes = ap (λ (s : Shown). s.first_users) third-is;
  none_beside = ap (λ (s : Shown). s.second_users) third-is;
  none_passes = ap (λ (s : Shown). s.third_users) mate-is;
  one_came = ap (λ (k : Counts). k.came) counts-are;
  one_delivered = ap (λ (k : Counts). k.delivered) counts-are;
  none_waits = ap (λ (k : Counts). k.waits) counts-are;
  one_gone = ap (λ (k : Counts). k.gone) counts-are;
  named = ap (λ (s : Shown). s.named) near-is;
  counted = ap (λ (s : Shown). s.counted) near-is;
  flagged = ap (λ (s : Shown). s.lost) near-is;
  named_before = ap (λ (s : Shown). s.named) before-is;
  barred = ap (λ (s : Shown). s.restarts) before-is;
  opens = ap (λ (s : Shown). s.restarts) near-is;
  words_before = ap (λ (s : Shown). s.third_words) before-is;
  words_here = ap (λ (s : Shown). s.third_words) near-is;
}
