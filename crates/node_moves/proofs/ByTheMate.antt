-- What the run of the mated pair shows, by computation.
use Rattle.node_moves.proofs.Basics.{◌≡◌, ℕ, Bool, false, true, List, [], ◌∷◌, length, refl, ap, ◌∙◌}
use Rattle.node_moves.proofs.Definitions.{Message, down, changeover_of}
use Rattle.node_moves.proofs.LaidOut.{network_of}
use Rattle.node_moves.proofs.Mated.{mated-theirs, of-four}
use Rattle.node_moves.proofs.MatedRun.{come-is, come_from, failed-is, failed_from, first_four, sent-is, sent_from}
use Rattle.node_moves.specs.EndToEnd.{to_user_parts}
use Rattle.node_moves.specs.Fates.{is_delivered, met_at}
use Rattle.node_moves.specs.Laws.{waits_at}
use Rattle.node_moves.specs.MatedPair.{mated}
use Rattle.node_moves.specs.MatedRun.{AnAnswer, AnOrder, ComesByTheMate, Word, come, delivered, message_one, message_two, queued, users, users_in, words}
use Rattle.node_moves.specs.Networks.{Fate, NetworkNode, NetworkState, messages_of}
use Rattle.changeover.specs.Changeover.{may_restart}
use Rattle.exchange_rules.specs.State.{lost_any}
unfoldable use Rattle.exchange_rules.specs.Exchange.{apply}
unfoldable use Rattle.exchange_rules.specs.Telling.{tell_owed}
unfoldable use Rattle.exchange_rules.specs.ChangingBack.{take_back_each}
unfoldable use Rattle.exchange_rules.specs.ChangingOver.{order_each}
unfoldable use Rattle.flow_hold.specs.Holds.{any_flow, flows}
unfoldable use Rattle.routes.specs.Routes.{choice_among, link_by, first_sets, links_below}
unfoldable use Rattle.timers.specs.Timers.{clear_timer, set_timer, start_unless_running, clear_set, due_name, after_due, due_count, names_of}
unfoldable use Rattle.route_management.specs.Told.{owes_nothing}
unfoldable use Rattle.m2pa_codec.specs.Frames.{status_of}
unfoldable use Rattle.changeback.specs.Rerouting.{rerouted}
unfoldable use Rattle.changeback.specs.Return.{changes_of, changes}

-- ---- on the way

its-coming : users_in ((sent_from first_four).three.came 0) ≡ delivered message_one ∷ []
unfolding apply tell_owed first_sets links_below status_of set_timer clear_timer start_unless_running clear_set due_name after_due due_count names_of choice_among link_by changes_of changes take_back_each owes_nothing any_flow flows rerouted order_each
its-coming = refl

its-flying : length ((failed_from first_four).three.user_data 0) ≡ 1
unfolding apply tell_owed first_sets links_below status_of set_timer clear_timer start_unless_running clear_set due_name after_due due_count names_of choice_among link_by changes_of changes take_back_each owes_nothing any_flow flows rerouted order_each
its-flying = refl

is-down_here : down (failed_from first_four).one.node.parts 0 ≡ true
unfolding apply tell_owed first_sets links_below status_of set_timer clear_timer start_unless_running clear_set due_name after_due due_count names_of choice_among link_by changes_of changes take_back_each owes_nothing any_flow flows rerouted order_each
is-down_here = refl

is-down_there : down (failed_from first_four).three.node.parts 0 ≡ true
unfolding apply tell_owed first_sets links_below status_of set_timer clear_timer start_unless_running clear_set due_name after_due due_count names_of choice_among link_by changes_of changes take_back_each owes_nothing any_flow flows rerouted order_each
is-down_there = refl

-- ---- in the end

record Shown : Type 0 where
  broken : ℕ
  lost : Bool
  named : ℕ
  restarts : Bool
  accepted : List Message
  first_users : List Fate
  second_users : List Fate
  third_users : List Fate
  second_words : List Word
  third_words : List Word

abbrev shown : NetworkNode → Shown
shown x = record {
  broken = x.node.parts.times_broken;
  lost = lost_any x.node.parts;
  named = x.node.parts.messages_lost;
  restarts = may_restart (changeover_of x.node.parts 0);
  accepted = users x.accepted;
  first_users = users_in (x.came 0);
  second_users = users_in (x.came 1);
  third_users = users_in (x.came 2);
  second_words = words (messages_of (x.came 1));
  third_words = words (messages_of (x.came 2));
}

-- a node at which nothing was broken or lost
abbrev shows : (accepted : List Message) → (first_users second_users third_users : List Fate) → (second_words third_words : List Word) → Shown
shows accepted first_users second_users third_users second_words third_words = record {
  broken = 0;
  lost = false;
  named = 0;
  restarts = true;
  accepted = accepted;
  first_users = first_users;
  second_users = second_users;
  third_users = third_users;
  second_words = second_words;
  third_words = third_words;
}

near-shows : shown (come_from first_four).one ≡ shows (message_one ∷ message_two ∷ []) [] [] [] [] (AnOrder ∷ AnAnswer ∷ [])
unfolding apply tell_owed first_sets links_below status_of set_timer clear_timer start_unless_running clear_set due_name after_due due_count names_of choice_among link_by changes_of changes take_back_each owes_nothing any_flow flows rerouted order_each
near-shows = refl

mate-shows : shown (come_from first_four).two ≡ shows (message_two ∷ []) [] [] (queued 0 message_two ∷ []) [] (AnOrder ∷ AnAnswer ∷ [])
unfolding apply tell_owed first_sets links_below status_of set_timer clear_timer start_unless_running clear_set due_name after_due due_count names_of choice_among link_by changes_of changes take_back_each owes_nothing any_flow flows rerouted order_each
mate-shows = refl

far-shows : shown (come_from first_four).three ≡ shows [] (delivered message_one ∷ []) (delivered message_two ∷ []) [] (AnOrder ∷ AnAnswer ∷ []) []
unfolding apply tell_owed first_sets links_below status_of set_timer clear_timer start_unless_running clear_set due_name after_due due_count names_of choice_among link_by changes_of changes take_back_each owes_nothing any_flow flows rerouted order_each
far-shows = refl

record Last : Type 0 where
  broken : ℕ
  lost : Bool
  named : ℕ

abbrev last_shown : NetworkNode → Last
last_shown x = record { broken = x.node.parts.times_broken; lost = lost_any x.node.parts; named = x.node.parts.messages_lost }

last-shows : last_shown (come_from first_four).four ≡ record { broken = 0; lost = false; named = 0 }
unfolding apply tell_owed first_sets links_below status_of set_timer clear_timer start_unless_running clear_set due_name after_due due_count names_of choice_among link_by changes_of changes take_back_each owes_nothing any_flow flows rerouted order_each
last-shows = refl

both-delivered : met_at mated (network_of (come_from first_four)) (is_delivered (mated 3)) (to_user_parts 3 (λ m. true)) 3 ≡ 2
unfolding apply tell_owed first_sets links_below status_of set_timer clear_timer start_unless_running clear_set due_name after_due due_count names_of choice_among link_by changes_of changes take_back_each owes_nothing any_flow flows rerouted order_each
both-delivered = refl

none-waits : waits_at mated (network_of (come_from first_four)) (λ m. true) 1 ≡ 0
unfolding apply tell_owed first_sets links_below status_of set_timer clear_timer start_unless_running clear_set due_name after_due due_count names_of choice_among link_by changes_of changes take_back_each owes_nothing any_flow flows rerouted order_each
none-waits = refl

near-is : shown (come.node 1) ≡ shows (message_one ∷ message_two ∷ []) [] [] [] [] (AnOrder ∷ AnAnswer ∷ [])
near-is = ap (λ (w : NetworkState). shown (w.node 1)) come-is ∙ near-shows

mate-is : shown (come.node 2) ≡ shows (message_two ∷ []) [] [] (queued 0 message_two ∷ []) [] (AnOrder ∷ AnAnswer ∷ [])
mate-is = ap (λ (w : NetworkState). shown (w.node 2)) come-is ∙ mate-shows

far-is : shown (come.node 3) ≡ shows [] (delivered message_one ∷ []) (delivered message_two ∷ []) [] (AnOrder ∷ AnAnswer ∷ []) []
far-is = ap (λ (w : NetworkState). shown (w.node 3)) come-is ∙ far-shows

last-is : last_shown (come.node 4) ≡ record { broken = 0; lost = false; named = 0 }
last-is = ap (λ (w : NetworkState). last_shown (w.node 4)) come-is ∙ last-shows

pub comes-by : ComesByTheMate
comes-by = record {
  theirs = mated-theirs;
  unbroken =
      of-four (λ point. (come.node point).node.parts.times_broken ≡ 0) (ap (λ (s : Shown). s.broken) near-is) (ap (λ (s : Shown). s.broken) mate-is) (ap (λ (s : Shown). s.broken) far-is)
      (ap (λ (l : Last). l.broken) last-is);
  comes = ap (λ (w : NetworkState). users_in ((w.node 3).came 0)) sent-is ∙ its-coming;
  flies = ap (λ (w : NetworkState). length ((w.node 3).user_data 0)) failed-is ∙ its-flying;
  down_here = ap (λ (w : NetworkState). down (w.node 1).node.parts 0) failed-is ∙ is-down_here;
  down_there = ap (λ (w : NetworkState). down (w.node 3).node.parts 0) failed-is ∙ is-down_there;
  words_here = ap (λ (s : Shown). s.third_words) near-is;
  words_there = ap (λ (s : Shown). s.second_words) far-is;
  passes = ap (λ (s : Shown). s.third_users) mate-is;
  comes_on = ap (λ (s : Shown). s.second_users) far-is;
  comes_once = ap (λ (s : Shown). s.first_users) far-is;
  accepted = ap (λ (s : Shown). s.accepted) near-is;
  both_delivered = ap (λ (w : NetworkState). met_at mated w (is_delivered (mated 3)) (to_user_parts 3 (λ m. true)) 3) come-is ∙ both-delivered;
  none_waits = ap (λ (w : NetworkState). waits_at mated w (λ m. true) 1) come-is ∙ none-waits;
  near_lossless = record { lossless = ap (λ (s : Shown). s.lost) near-is; none_named = ap (λ (s : Shown). s.named) near-is };
  mate_lossless = record { lossless = ap (λ (s : Shown). s.lost) mate-is; none_named = ap (λ (s : Shown). s.named) mate-is };
  far_lossless = record { lossless = ap (λ (s : Shown). s.lost) far-is; none_named = ap (λ (s : Shown). s.named) far-is };
  last_lossless = record { lossless = ap (λ (l : Last). l.lost) last-is; none_named = ap (λ (l : Last). l.named) last-is };
  opens_here = ap (λ (s : Shown). s.restarts) near-is;
  opens_there = ap (λ (s : Shown). s.restarts) far-is;
}
