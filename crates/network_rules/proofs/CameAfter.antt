-- What the run shows in which a message comes after a restart, by computation.
use Rattle.pair_rules.proofs.Basics.{◌≡◌, ◌<◌, ℕ, zero, suc, false, true, List, [], ◌∷◌, ap, refl, sym, subst, ◌∙◌, arith, length}
use Rattle.pair_rules.proofs.Definitions.{Message, set_timer, start_unless_running, clear_timer, clear_set, due_name, after_due, due_count, first_sets, choice_among, link_by, any_flow, flows, lost_any, apply, take_back_each}
use Rattle.timers.specs.Timers.{names_of}
use Rattle.routes.specs.Routes.{links_below}
use Rattle.route_management.specs.Told.{owes_nothing}
use Rattle.m2pa_codec.specs.Frames.{status_of}
use Rattle.changeback.specs.Rerouting.{rerouted}
use Rattle.changeback.specs.Return.{changes_of, changes}
use Rattle.exchange_rules.specs.Conserving.{standing}
use Rattle.exchange_rules.specs.Telling.{tell_owed}
use Rattle.pair_rules.specs.Pairs.{may_follow, may_open_at}
use Rattle.neighbour_rules.specs.ThirdNode.{the_message}
use Rattle.neighbour_rules.specs.Anew.{Stays, most}
use Rattle.network_rules.specs.Networks.{Arrival, NetworkNode, NetworkState, end_of}
use Rattle.network_rules.specs.Anew.{IsQuietNode}
use Rattle.network_rules.specs.TwoFailures.{row, users_come}
use Rattle.network_rules.specs.AfterRestart.{ComesAfterRestart, IsDone, broken, come}
use Rattle.network_rules.proofs.LaidOut.{node_at}
use Rattle.network_rules.proofs.RowSettings.{joined, of-three}
use Rattle.network_rules.proofs.AfterRestart.{broken-is, broken-keeps, broken_from, come-is, come_from, first_three}

-- ---- the network is quiet

-- as many links as this may open, and the node may follow on none
abbrev May : NetworkNode → (link : ℕ) → Type 0
May x link = (may_open_at (end_of x) link ≡ true) × (may_follow (end_of x) link ≡ false)

third-may : (link : ℕ) → link < 2 → May (broken_from first_three).third link
unfolding apply tell_owed first_sets links_below status_of set_timer clear_timer start_unless_running clear_set due_name after_due due_count names_of choice_among link_by changes_of changes take_back_each owes_nothing any_flow flows rerouted
third-may zero less = (refl, refl)
third-may (suc zero) less = (refl, refl)
third-may (suc (suc link)) less = absurd (omega (arith, less))

far-may : (link : ℕ) → link < 2 → May (broken_from first_three).second link
unfolding apply tell_owed first_sets links_below status_of set_timer clear_timer start_unless_running clear_set due_name after_due due_count names_of choice_among link_by changes_of changes take_back_each owes_nothing any_flow flows rerouted
far-may zero less = (refl, refl)
far-may (suc zero) less = (refl, refl)
far-may (suc (suc link)) less = absurd (omega (arith, less))

near-may : (link : ℕ) → link < 4 → May (broken_from first_three).first link
unfolding apply tell_owed first_sets links_below status_of set_timer clear_timer start_unless_running clear_set due_name after_due due_count names_of choice_among link_by changes_of changes take_back_each owes_nothing any_flow flows rerouted
near-may zero less = (refl, refl)
near-may (suc zero) less = (refl, refl)
near-may (suc (suc zero)) less = (refl, refl)
near-may (suc (suc (suc zero))) less = (refl, refl)
near-may (suc (suc (suc (suc link)))) less = absurd (omega (arith, less))

third-held : (broken_from first_three).third.exchange.node.queues.held ≡ []
unfolding apply tell_owed first_sets links_below status_of set_timer clear_timer start_unless_running clear_set due_name after_due due_count names_of choice_among link_by changes_of changes take_back_each owes_nothing any_flow flows rerouted
third-held = refl

far-held : (broken_from first_three).second.exchange.node.queues.held ≡ []
unfolding apply tell_owed first_sets links_below status_of set_timer clear_timer start_unless_running clear_set due_name after_due due_count names_of choice_among link_by changes_of changes take_back_each owes_nothing any_flow flows rerouted
far-held = refl

near-held : (broken_from first_three).first.exchange.node.queues.held ≡ []
unfolding apply tell_owed first_sets links_below status_of set_timer clear_timer start_unless_running clear_set due_name after_due due_count names_of choice_among link_by changes_of changes take_back_each owes_nothing any_flow flows rerouted
near-held = refl

third-lost : lost_any (broken_from first_three).third.exchange.node.parts ≡ true
unfolding apply tell_owed first_sets links_below status_of set_timer clear_timer start_unless_running clear_set due_name after_due due_count names_of choice_among link_by changes_of changes take_back_each owes_nothing any_flow flows rerouted
third-lost = refl

far-lost : lost_any (broken_from first_three).second.exchange.node.parts ≡ true
unfolding apply tell_owed first_sets links_below status_of set_timer clear_timer start_unless_running clear_set due_name after_due due_count names_of choice_among link_by changes_of changes take_back_each owes_nothing any_flow flows rerouted
far-lost = refl

is-quiet : (point many : ℕ) (x : NetworkNode) → broken.node point ≡ x → length (row point).links ≡ many → ((link : ℕ) → link < many → May x link) → x.exchange.node.queues.held ≡ []
    → IsQuietNode (broken.node point)
is-quiet point many x same size may held = record {
  links = λ link less.
      subst (λ (y : NetworkNode). May y link) (sym same)
      (may link (subst (λ (n : ℕ). link < n) (ap (λ c. length c.links) (broken-keeps point) ∙ size) less));
  held = ap (λ (y : NetworkNode). y.exchange.node.queues.held) same ∙ held;
}

-- ---- in the end

record Shown : Type 0 where
  come : List Arrival
  entered : List Message
  refused : List Message
  lost : ℕ
  waiting : ℕ

abbrev shown : NetworkNode → Shown
shown x = record {
  come = users_come x;
  entered = x.entered;
  refused = x.refused;
  lost = x.exchange.node.parts.times_lost;
  waiting = standing (λ m. true) x.exchange.node.queues;
}

-- a node at which all is done, after this many losses
abbrev shows : List Arrival → (entered : List Message) → (lost : ℕ) → Shown
shows arrivals entered lost = record { come = arrivals; entered = entered; refused = []; lost = lost; waiting = 0 }

third-shows : shown (come_from first_three).third ≡ shows [] (the_message ∷ []) 2
unfolding apply tell_owed first_sets links_below status_of set_timer clear_timer start_unless_running clear_set due_name after_due due_count names_of choice_among link_by changes_of changes take_back_each owes_nothing any_flow flows rerouted
third-shows = refl

near-shows : shown (come_from first_three).first ≡ shows (record { link = 1; message = the_message } ∷ []) [] 0
unfolding apply tell_owed first_sets links_below status_of set_timer clear_timer start_unless_running clear_set due_name after_due due_count names_of choice_among link_by changes_of changes take_back_each owes_nothing any_flow flows rerouted
near-shows = refl

far-shows : shown (come_from first_three).second ≡ shows (record { link = 0; message = the_message } ∷ []) [] 2
unfolding apply tell_owed first_sets links_below status_of set_timer clear_timer start_unless_running clear_set due_name after_due due_count names_of choice_among link_by changes_of changes take_back_each owes_nothing any_flow flows rerouted
far-shows = refl

third-is : shown (come.node 3) ≡ shows [] (the_message ∷ []) 2
third-is = ap (λ (w : NetworkState). shown (w.node 3)) come-is ∙ third-shows

near-is : shown (come.node 1) ≡ shows (record { link = 1; message = the_message } ∷ []) [] 0
near-is = ap (λ (w : NetworkState). shown (w.node 1)) come-is ∙ near-shows

far-is : shown (come.node 2) ≡ shows (record { link = 0; message = the_message } ∷ []) [] 2
far-is = ap (λ (w : NetworkState). shown (w.node 2)) come-is ∙ far-shows

done : (x : NetworkNode) (arrivals : List Arrival) (entered : List Message) (lost : ℕ) → shown x ≡ shows arrivals entered lost → IsDone x
done x arrivals entered lost e = record { none_waits = ap (λ (s : Shown). s.waiting) e; refused = ap (λ (s : Shown). s.refused) e }

-- ---- what was lost before, and since

third-before : (broken_from first_three).third.exchange.node.parts.times_lost ≡ 2
unfolding apply tell_owed first_sets links_below status_of set_timer clear_timer start_unless_running clear_set due_name after_due due_count names_of choice_among link_by changes_of changes take_back_each owes_nothing any_flow flows rerouted
third-before = refl

far-before : (broken_from first_three).second.exchange.node.parts.times_lost ≡ 2
unfolding apply tell_owed first_sets links_below status_of set_timer clear_timer start_unless_running clear_set due_name after_due due_count names_of choice_among link_by changes_of changes take_back_each owes_nothing any_flow flows rerouted
far-before = refl

near-before : (broken_from first_three).first.exchange.node.parts.times_lost ≡ 0
unfolding apply tell_owed first_sets links_below status_of set_timer clear_timer start_unless_running clear_set due_name after_due due_count names_of choice_among link_by changes_of changes take_back_each owes_nothing any_flow flows rerouted
near-before = refl

stays : (n : ℕ) (x y z : NetworkNode) (arrivals : List Arrival) (entered : List Message) → n < most → y ≡ x → x.exchange.node.parts.times_lost ≡ n → shown z ≡ shows arrivals entered n
    → Stays y.exchange.node.parts.times_lost z.exchange.node.parts.times_lost
stays n x y z arrivals entered few same before after =
    let was : y.exchange.node.parts.times_lost ≡ n = ap (λ (k : NetworkNode). k.exchange.node.parts.times_lost) same ∙ before in
    record { countable = subst (λ (k : ℕ). k < most) (sym was) few; same = ap (λ (s : Shown). s.lost) after ∙ sym was }

node-is : (point : ℕ) → broken.node point ≡ (node_at (broken_from first_three) point)
node-is point = ap (λ (w : NetworkState). w.node point) broken-is

pub comes-after : ComesAfterRestart
comes-after = record {
  joined = joined;
  third_lost = ap (λ (x : NetworkNode). lost_any x.exchange.node.parts) (node-is 3) ∙ third-lost;
  far_lost = ap (λ (x : NetworkNode). lost_any x.exchange.node.parts) (node-is 2) ∙ far-lost;
  quiet =
      of-three (λ point. IsQuietNode (broken.node point))
      (is-quiet 1 4 (broken_from first_three).first (node-is 1) refl near-may near-held)
      (is-quiet 2 2 (broken_from first_three).second (node-is 2) refl far-may far-held)
      (is-quiet 3 2 (broken_from first_three).third (node-is 3) refl third-may third-held);
  entered = ap (λ (s : Shown). s.entered) third-is;
  comes_through = ap (λ (s : Shown). s.come) near-is;
  comes = ap (λ (s : Shown). s.come) far-is;
  third_done = done (come.node 3) [] (the_message ∷ []) 2 third-is;
  near_done = done (come.node 1) (record { link = 1; message = the_message } ∷ []) [] 0 near-is;
  far_done = done (come.node 2) (record { link = 0; message = the_message } ∷ []) [] 2 far-is;
  since =
      of-three (λ point. Stays (broken.node point).exchange.node.parts.times_lost (come.node point).exchange.node.parts.times_lost)
      (stays 0 (broken_from first_three).first (broken.node 1) (come.node 1) _ _ (omega arith) (node-is 1) near-before near-is)
      (stays 2 (broken_from first_three).second (broken.node 2) (come.node 2) _ _ (omega arith) (node-is 2) far-before far-is)
      (stays 2 (broken_from first_three).third (broken.node 3) (come.node 3) _ _ (omega arith) (node-is 3) third-before third-is);
}
