-- The run in which all nodes of the mated pair start again, computed as `MatedRun` computes its own.
use Rattle.node_moves.proofs.Basics.{◌≡◌, ◌<◌, ℕ, true, List, [], ◌∷◌, ◌++◌, length, refl, ap, sym, subst, ◌∙◌, arith}
use Rattle.node_moves.proofs.Definitions.{Message, Configuration}
use Rattle.node_moves.proofs.Anew.{first-quiet}
use Rattle.node_moves.proofs.AnewRun.{begun_four, begun-is, steps-both, steps-then}
use Rattle.node_moves.proofs.LaidOut.{Four, changes-in-is, changes_in, network-seen, network_of}
use Rattle.node_moves.proofs.Mated.{mated-theirs, of-four}
use Rattle.node_moves.proofs.MatedRun.{first_four, sent-is, sent_from, served-free, served-is, served_from, two-on}
use Rattle.node_moves.proofs.Offering.{submits-on, submitting}
use Rattle.node_moves.proofs.Unheld.{none-held}
use Rattle.node_moves.specs.Anew.{Does, IsQuietEnd, Stays, after_changes, begun_anew, restarted}
use Rattle.node_moves.specs.Laws.{gone_at}
use Rattle.node_moves.specs.MatedPair.{mated}
use Rattle.node_moves.specs.MatedRun.{delivered, direct, message_one, message_two, opening, sends, served, settling, submits, users, users_in}
use Rattle.node_moves.specs.Networks.{Fate, NetworkNode, NetworkState, after_steps, first_network}
use Rattle.node_moves.specs.NetworkAnew.{IsQuietAlone, IsQuietNetwork}
use Rattle.node_moves.specs.NetworkAnewRun.{NetworkBeginsAnew, all_anew, all_over, all_restart, all_return}
unfoldable use Rattle.exchange_rules.specs.Exchange.{apply}
unfoldable use Rattle.exchange_rules.specs.Telling.{tell_owed}
unfoldable use Rattle.exchange_rules.specs.ChangingBack.{take_back_each}
unfoldable use Rattle.exchange_rules.specs.ChangingOver.{order_each}
unfoldable use Rattle.flow_hold.specs.Holds.{any_flow, flows}
unfoldable use Rattle.routes.specs.Routes.{choice_among, link_by, first_sets, links_below}
unfoldable use Rattle.timers.specs.Timers.{clear_timer, set_timer, start_unless_running, clear_set, due_name, after_due, due_count, names_of}
unfoldable use Rattle.route_management.specs.Told.{owes_nothing}
unfoldable use Rattle.m2pa_codec.specs.Frames.{status_of}
unfoldable use Rattle.changeback.specs.Rerouting.{rerouted}
unfoldable use Rattle.changeback.specs.Return.{changes_of, changes}

-- ---- the states

abbrev waiting_from : Four → Four
waiting_from t = submitting message_two (served_from t)

abbrev over_from : Four → Four
over_from t = changes_in mated all_restart (waiting_from t)

waiting-is : after_steps mated (submits message_two ∷ []) served ≡ network_of (waiting_from first_four)
waiting-is = submits-on served (served_from first_four) served-is message_two two-on.goes_out (none-held 0 0 (served_from first_four).one.node.parts.holds served-free) []

over-is : all_over ≡ network_of (over_from first_four)
over-is =
    steps-then mated (opening ++ settling) (Does (submits message_two) ∷ all_restart) (first_network mated)
    ∙ ap (after_changes mated all_restart) waiting-is
    ∙ changes-in-is mated all_restart (waiting_from first_four)

-- as they begin anew, all are as at first
first-again : network_of (begun_four (over_from first_four)) ≡ network_of first_four
unfolding apply tell_owed first_sets links_below status_of set_timer clear_timer start_unless_running clear_set due_name after_due due_count names_of choice_among link_by changes_of changes take_back_each owes_nothing any_flow flows rerouted order_each
first-again = refl

begun-first : begun_anew all_over ≡ first_network mated
begun-first = ap begun_anew over-is ∙ begun-is (over_from first_four) ∙ first-again ∙ network-seen (first_network mated)

anew-is : all_anew ≡ network_of (sent_from first_four)
anew-is = ap (after_steps mated all_return) begun-first ∙ steps-both mated (opening ++ settling) (submits message_one ∷ sends direct) (first_network mated) ∙ sent-is

-- ---- what they show

-- a node that starts again is quiet
quiet-restarted : (c : Configuration) (x : NetworkNode) (link : ℕ) → link < length c.links → IsQuietEnd (restarted c x) link
quiet-restarted c x link l =
    let q = first-quiet c link l in
    record { down = q.down; complete = q.complete; unawaited = q.unawaited; alone = q.alone }

over-quiet : IsQuietNetwork mated (network_of (over_from first_four))
over-quiet = of-four (IsQuietAlone mated (network_of (over_from first_four)))
    (record { links = quiet-restarted (mated 1) (waiting_from first_four).one; held = refl })
    (record { links = quiet-restarted (mated 2) (waiting_from first_four).two; held = refl })
    (record { links = quiet-restarted (mated 3) (waiting_from first_four).three; held = refl })
    (record { links = quiet-restarted (mated 4) (waiting_from first_four).four; held = refl })

record Before : Type 0 where
  accepted : List Message
  gone : ℕ
  named : List Message

abbrev before : NetworkState → Before
before w = record { accepted = users (w.node 1).accepted; gone = gone_at mated w (λ m. true) 1; named = (w.node 1).named }

abbrev so_before : Before
so_before = record { accepted = message_two ∷ []; gone = 1; named = [] }

before-shown : before (network_of (over_from first_four)) ≡ so_before
unfolding apply tell_owed first_sets links_below status_of set_timer clear_timer start_unless_running clear_set due_name after_due due_count names_of choice_among link_by changes_of changes take_back_each owes_nothing any_flow flows rerouted order_each
before-shown = refl

before-is : before all_over ≡ so_before
before-is = ap before over-is ∙ before-shown

record Counts : Type 0 where
  broken : ℕ
  lost : ℕ

abbrev counts : NetworkState → (point : ℕ) → Counts
counts w point = record { broken = (w.node point).node.parts.times_broken; lost = (w.node point).node.parts.times_lost }

abbrev none : Counts
none = record { broken = 0; lost = 0 }

record After : Type 0 where
  one : Counts
  two : Counts
  three : Counts
  four : Counts
  accepted : List Message
  came : List Fate

abbrev after : NetworkState → After
after w = record {
  one = counts w 1;
  two = counts w 2;
  three = counts w 3;
  four = counts w 4;
  accepted = users (w.node 1).accepted;
  came = users_in ((w.node 3).came 0);
}

abbrev so_after : After
so_after = record { one = none; two = none; three = none; four = none; accepted = message_one ∷ []; came = delivered message_one ∷ [] }

after-shown : after (network_of (sent_from first_four)) ≡ so_after
unfolding apply tell_owed first_sets links_below status_of set_timer clear_timer start_unless_running clear_set due_name after_due due_count names_of choice_among link_by changes_of changes take_back_each owes_nothing any_flow flows rerouted order_each
after-shown = refl

after-is : after all_anew ≡ so_after
after-is = ap after anew-is ∙ after-shown

-- at each node nothing is counted
stays : {one other : ℕ} → one ≡ 0 → other ≡ 0 → Stays one other
stays e f = record { countable = omega (arith, e); same = f ∙ sym e }

count-before : (point : ℕ) → counts (network_of (over_from first_four)) point ≡ none → counts all_over point ≡ none
count-before point e = ap (λ (w : NetworkState). counts w point) over-is ∙ e

none-broken : (point : ℕ) → counts all_over point ≡ none → counts all_anew point ≡ none → Stays (all_over.node point).node.parts.times_broken (all_anew.node point).node.parts.times_broken
none-broken point e f = stays (ap (λ (s : Counts). s.broken) e) (ap (λ (s : Counts). s.broken) f)

none-lost : (point : ℕ) → counts all_over point ≡ none → counts all_anew point ≡ none → Stays (all_over.node point).node.parts.times_lost (all_anew.node point).node.parts.times_lost
none-lost point e f = stays (ap (λ (s : Counts). s.lost) e) (ap (λ (s : Counts). s.lost) f)

pub network-begins : NetworkBeginsAnew
network-begins = record {
  theirs = mated-theirs;
  quiet = subst (IsQuietNetwork mated) (sym over-is) over-quiet;
  unbroken = of-four (λ point. Stays (all_over.node point).node.parts.times_broken (all_anew.node point).node.parts.times_broken)
      (none-broken 1 (count-before 1 refl) (ap (λ (s : After). s.one) after-is))
      (none-broken 2 (count-before 2 refl) (ap (λ (s : After). s.two) after-is))
      (none-broken 3 (count-before 3 refl) (ap (λ (s : After). s.three) after-is))
      (none-broken 4 (count-before 4 refl) (ap (λ (s : After). s.four) after-is));
  none_lost = of-four (λ point. Stays (all_over.node point).node.parts.times_lost (all_anew.node point).node.parts.times_lost)
      (none-lost 1 (count-before 1 refl) (ap (λ (s : After). s.one) after-is))
      (none-lost 2 (count-before 2 refl) (ap (λ (s : After). s.two) after-is))
      (none-lost 3 (count-before 3 refl) (ap (λ (s : After). s.three) after-is))
      (none-lost 4 (count-before 4 refl) (ap (λ (s : After). s.four) after-is));
  accepted_before = ap (λ (s : Before). s.accepted) before-is;
  gone_before = ap (λ (s : Before). s.gone) before-is;
  unnamed = ap (λ (s : Before). s.named) before-is;
  accepted = ap (λ (s : After). s.accepted) after-is;
  comes = ap (λ (s : After). s.came) after-is;
}
