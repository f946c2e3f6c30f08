-- The run in which a mate starts again, computed as `MatedRun` computes its own.
use Rattle.node_moves.proofs.Basics.{◌≡◌, ℕ, zero, suc, Bool, true, false, List, [], ◌∷◌, ◌++◌, ◌<◌, map, count_by, nat_eq, refl, ap, sym, subst, ◌∙◌, arith}
use Rattle.node_moves.proofs.Definitions.{Message, Configuration, down, changeover_of, peer_of}
use Rattle.node_moves.proofs.Anew.{whole-so}
use Rattle.node_moves.proofs.HopRun.{pair-hop, three-out, three-free}
use Rattle.node_moves.proofs.Ending.{placed}
use Rattle.node_moves.proofs.LaidOut.{Four, at_point, changed-is, changed_at, network_of, run, run-is}
use Rattle.node_moves.proofs.Mated.{mated-theirs}
use Rattle.node_moves.proofs.MatedRun.{first_four, served-is, served_from}
use Rattle.node_moves.proofs.Offering.{GoesOut, submits-on, submitting}
use Rattle.node_moves.proofs.Unheld.{Free, free-none, none-held}
use Rattle.node_moves.specs.Anew.{Change, Does, Restarts, IsQuietEnd, after_changes, begun_anew, is_for_either, restarted, AreOfOthers, HaveLostNothingSince, NothingIsLeft, Stays}
use Rattle.node_moves.specs.AnewRun.{BeginsAnew, come_anew, message_four, next, outage, over, restarting, return}
use Rattle.node_moves.specs.HopRun.{message_three}
use Rattle.node_moves.specs.Laws.{most}
use Rattle.node_moves.specs.MatedPair.{mated}
use Rattle.node_moves.specs.MatedRun.{cross, delivered, opening, sends, served, settling, submits, users, users_in}
use Rattle.node_moves.specs.Networks.{Fate, NetworkNode, NetworkState, Step, after_steps, changed, first_network}
unfoldable use Rattle.exchange_rules.specs.Exchange.{apply}
unfoldable use Rattle.exchange_rules.specs.Telling.{tell_owed}
unfoldable use Rattle.exchange_rules.specs.ChangingBack.{take_back_each}
unfoldable use Rattle.exchange_rules.specs.ChangingOver.{order_each}
unfoldable use Rattle.flow_hold.specs.Holds.{any_flow, flows}
unfoldable use Rattle.routes.specs.Routes.{choice_among, link_by, first_sets, links_below}
unfoldable use Rattle.timers.specs.Timers.{clear_timer, set_timer, start_unless_running, clear_set, due_name, after_due, due_count, names_of}
unfoldable use Rattle.route_management.specs.Told.{owes_nothing}
unfoldable use Rattle.m2pa_codec.specs.Frames.{status_of}
unfoldable use Rattle.changeback.specs.Rerouting.{rerouted}
unfoldable use Rattle.changeback.specs.Return.{changes_of, changes}

-- ---- lists of changes

pub steps-then : (settings : (point : ℕ) → Configuration) (steps : List Step) (rest : List Change) (w : NetworkState) → after_changes settings (map Does steps ++ rest) w ≡ after_changes settings rest (after_steps settings steps w)
steps-then settings [] rest w = refl
steps-then settings (step ∷ steps) rest w = steps-then settings steps rest _

steps-alone : (settings : (point : ℕ) → Configuration) (steps : List Step) (w : NetworkState) → after_changes settings (map Does steps) w ≡ after_steps settings steps w
steps-alone settings [] w = refl
steps-alone settings (step ∷ steps) w = steps-alone settings steps _

pub steps-both : (settings : (point : ℕ) → Configuration) (steps more : List Step) (w : NetworkState) → after_steps settings (steps ++ more) w ≡ after_steps settings more (after_steps settings steps w)
steps-both settings [] more w = refl
steps-both settings (step ∷ steps) more w = steps-both settings steps more _

-- ---- books begin

abbrev begun_node : NetworkNode → NetworkNode
begun_node x = record x { submitted = []; came = λ link. []; accepted = []; made = []; named = [] }

abbrev pub begun_four : Four → Four
begun_four t = record { one = begun_node t.one; two = begun_node t.two; three = begun_node t.three; four = begun_node t.four; others = λ point. begun_node (t.others point) }

begun-at : (a b c d : Bool) (t : Four) (point : ℕ) → begun_node (at_point a b c d t point) ≡ at_point a b c d (begun_four t) point
begun-at true b c d t point = refl
begun-at false true c d t point = refl
begun-at false false true d t point = refl
begun-at false false false true t point = refl
begun-at false false false false t point = refl

pub begun-is : (t : Four) → begun_anew (network_of t) ≡ network_of (begun_four t)
begun-is t = λ i. record { node = λ point. begun-at (nat_eq point 1) (nat_eq point 2) (nat_eq point 3) (nat_eq point 4) t point i }

-- ---- the states, each computed from the one before

abbrev submitted_from : Four → Four
submitted_from t = submitting message_three (served_from t)

abbrev booted_from : Four → Four
booted_from t = changed_at 1 (restarted (mated 1)) (submitted_from t)

abbrev over_from : Four → Four
over_from t = run outage (booted_from t)

abbrev back_from : Four → Four
back_from t = run return (begun_four (over_from t))

abbrev come_from : Four → Four
come_from t = run (sends cross ++ sends cross) (submitting message_four (back_from t))

submitted-is : after_steps mated (submits message_three ∷ []) served ≡ network_of (submitted_from first_four)
submitted-is = submits-on served (served_from first_four) served-is message_three three-out (none-held 2 0 (served_from first_four).one.node.parts.holds three-free) []

over-is : over ≡ network_of (over_from first_four)
over-is =
    steps-then mated (opening ++ settling) (map Does (submits message_three ∷ []) ++ Restarts 1 ∷ map Does outage) (first_network mated)
    ∙ steps-then mated (submits message_three ∷ []) (Restarts 1 ∷ map Does outage) served
    ∙ ap (λ (w : NetworkState). after_changes mated (Restarts 1 ∷ map Does outage) w) submitted-is
    ∙ steps-alone mated outage (changed 1 (restarted (mated 1)) (network_of (submitted_from first_four)))
    ∙ ap (after_steps mated outage) (changed-is (restarted (mated 1)) (submitted_from first_four) 1)
    ∙ run-is outage (booted_from first_four)

back-is : after_steps mated return (begun_anew over) ≡ network_of (back_from first_four)
back-is = ap (λ (w : NetworkState). after_steps mated return (begun_anew w)) over-is ∙ ap (after_steps mated return) (begun-is (over_from first_four)) ∙ run-is return (begun_four (over_from first_four))

four-out : GoesOut message_four
unfolding apply
four-out = record { handles = λ n. refl; submits = λ n. refl; enters = λ o n. refl }

back-free : Free 2 0 (back_from first_four).one.node.parts.holds
unfolding apply tell_owed first_sets links_below status_of set_timer clear_timer start_unless_running clear_set due_name after_due due_count names_of choice_among link_by changes_of changes take_back_each owes_nothing any_flow flows rerouted order_each
back-free = free-none 2 0 3 3 3

come-is : come_anew ≡ network_of (come_from first_four)
come-is =
    steps-alone mated (return ++ next) (begun_anew over) ∙ steps-both mated return next (begun_anew over)
    ∙ submits-on (after_steps mated return (begun_anew over)) (back_from first_four) back-is message_four four-out (none-held 2 0 (back_from first_four).one.node.parts.holds back-free) (sends cross ++ sends cross)

-- ---- what they show

record AtEnd : Type 0 where
  gone : Bool
  incomplete : Bool
  awaited : Bool
  follows : Bool
  between : ℕ
  broken : ℕ
  lost : ℕ
  late : ℕ

abbrev at_end : NetworkNode → AtEnd
at_end x = record {
  gone = down x.node.parts 2;
  incomplete = (changeover_of x.node.parts 2).incomplete;
  awaited = (changeover_of x.node.parts 2).awaited;
  follows = x.follows 2;
  between = count_by (is_for_either 1 2) x.node.queues.held;
  broken = x.node.parts.times_broken;
  lost = x.node.parts.times_lost;
  late = x.node.parts.times_late;
}

record Before : Type 0 where
  near : AtEnd
  far : AtEnd
  accepted : List Message
  came : List Fate
  named : List Message

abbrev before : NetworkState → Before
before w = record {
  near = at_end (w.node 1);
  far = at_end (w.node 2);
  accepted = users (w.node 1).accepted;
  came = users_in ((w.node 2).came 2);
  named = (w.node 1).named;
}

abbrev quiet_with : (lost : ℕ) → AtEnd
quiet_with lost = record { gone = true; incomplete = false; awaited = false; follows = false; between = 0; broken = 0; lost = lost; late = 0 }

abbrev so_before : Before
so_before = record { near = quiet_with 0; far = quiet_with 1; accepted = message_three ∷ []; came = []; named = [] }

before-shown : before (network_of (over_from first_four)) ≡ so_before
unfolding apply tell_owed first_sets links_below status_of set_timer clear_timer start_unless_running clear_set due_name after_due due_count names_of choice_among link_by changes_of changes take_back_each owes_nothing any_flow flows rerouted order_each
before-shown = refl

before-is : before over ≡ so_before
before-is = ap before over-is ∙ before-shown

record After : Type 0 where
  near_lost : ℕ
  far_lost : ℕ
  near_late : ℕ
  accepted : List Message
  came : List Fate

abbrev after : NetworkState → After
after w = record {
  near_lost = (w.node 1).node.parts.times_lost;
  far_lost = (w.node 2).node.parts.times_lost;
  near_late = (w.node 1).node.parts.times_late;
  accepted = users (w.node 1).accepted;
  came = users_in ((w.node 2).came 2);
}

abbrev so_after : After
so_after = record { near_lost = 0; far_lost = 1; near_late = 0; accepted = message_four ∷ []; came = delivered message_four ∷ [] }

after-shown : after (network_of (come_from first_four)) ≡ so_after
unfolding apply tell_owed first_sets links_below status_of set_timer clear_timer start_unless_running clear_set due_name after_due due_count names_of choice_among link_by changes_of changes take_back_each owes_nothing any_flow flows rerouted order_each
after-shown = refl

after-is : after come_anew ≡ so_after
after-is = ap after come-is ∙ after-shown

-- ---- so nothing is left between the two

quiet-so : (x : NetworkNode) (lost : ℕ) → at_end x ≡ quiet_with lost → IsQuietEnd x 2
quiet-so x lost e = record {
  down = ap (λ (s : AtEnd). s.gone) e;
  complete = ap (λ (s : AtEnd). s.incomplete) e;
  unawaited = ap (λ (s : AtEnd). s.awaited) e;
  alone = ap (λ (s : AtEnd). s.follows) e;
}

-- the third link of each is the one to the other
third-link : (P : ℕ → Type 0) (link : ℕ) → link < 3 → (link ≡ 0 → ⊥) → (link ≡ 1 → ⊥) → P 2 → P link
third-link P zero l a b h = absurd (a refl)
third-link P (suc zero) l a b h = absurd (b refl)
third-link P (suc (suc zero)) l a b h = h
third-link P (suc (suc (suc link))) l a b h = absurd (omega (arith, l))

near-links : (link : ℕ) → link < 3 → peer_of (mated 1) link ≡ 2 → IsQuietEnd (over.node 1) link
near-links link l e =
    third-link (IsQuietEnd (over.node 1)) link l (λ is. (let no : 3 ≡ 2 = sym (ap (peer_of (mated 1)) is) ∙ e in absurd cc)) (λ is. (let no : 4 ≡ 2 = sym (ap (peer_of (mated 1)) is) ∙ e in absurd cc))
    (quiet-so (over.node 1) 0 (ap (λ (s : Before). s.near) before-is))

far-links : (link : ℕ) → link < 3 → peer_of (mated 2) link ≡ 1 → IsQuietEnd (over.node 2) link
far-links link l e =
    third-link (IsQuietEnd (over.node 2)) link l (λ is. (let no : 3 ≡ 1 = sym (ap (peer_of (mated 2)) is) ∙ e in absurd cc)) (λ is. (let no : 4 ≡ 1 = sym (ap (peer_of (mated 2)) is) ∙ e in absurd cc))
    (quiet-so (over.node 2) 1 (ap (λ (s : Before). s.far) before-is))

left_over : NothingIsLeft mated 1 2 over
left_over = record {
  near_quiet = record { links = near-links; held = ap (λ (s : Before). s.near.between) before-is };
  far_quiet = record { links = far-links; held = ap (λ (s : Before). s.far.between) before-is };
}

stays : (n : ℕ) {one other : ℕ} → n < most → one ≡ n → other ≡ n → Stays one other
stays n l e f = record { countable = subst (λ (k : ℕ). k < most) (sym e) l; same = f ∙ sym e }

none_since : HaveLostNothingSince 1 2 over come_anew
none_since = record {
  near_none = stays 0 (omega arith) (ap (λ (s : Before). s.near.lost) before-is) (ap (λ (s : After). s.near_lost) after-is);
  far_none = stays 1 (omega arith) (ap (λ (s : Before). s.far.lost) before-is) (ap (λ (s : After). s.far_lost) after-is);
}

-- steps are nobody's restart
steps-of-others : (steps : List Step) → AreOfOthers 1 2 (map Does steps)
steps-of-others [] = tt
steps-of-others (step ∷ steps) = (tt, steps-of-others steps)

pub begins-anew : BeginsAnew
begins-anew = record {
  theirs = placed mated mated-theirs;
  hop = pair-hop;
  left = left_over;
  unbroken = whole-so mated (placed mated mated-theirs) 1 2 refl refl pair-hop restarting (map Does (return ++ next)) left_over (steps-of-others (return ++ next)) none_since;
  none_lost = none_since;
  punctual = stays 0 (omega arith) (ap (λ (s : Before). s.near.late) before-is) (ap (λ (s : After). s.near_late) after-is);
  accepted_before = ap (λ (s : Before). s.accepted) before-is;
  none_came = ap (λ (s : Before). s.came) before-is;
  unnamed = ap (λ (s : Before). s.named) before-is;
  whole = record { near_whole = ap (λ (s : Before). s.near.broken) before-is; far_whole = ap (λ (s : Before). s.far.broken) before-is };
  accepted = ap (λ (s : After). s.accepted) after-is;
  comes = ap (λ (s : After). s.came) after-is;
}
