-- Through all rules T10 runs for each route over a set in service that isn't allowed.
use Rattle.exchange_rules.proofs.Basics.{◌≡◌, ◌≢◌, ◌<◌, ℕ, Bool, true, false, ◌&&◌, not, nat_lt, length, List, [], ◌∷◌, Option, Some, None, refl, ap, sym, ◌∙◌, arith, ⊎_elim, if◌then◌else◌, is_some, nat_tests, and_from}
use Rattle.exchange_rules.proofs.Definitions.{period_of, Configuration, Message, FailureReason, ChangeoverTimer, Facts, opening, carries, completed, opened_by, is_in_service, Alignment, TimerName, NodeCounts, Running, is_running, set_timer, clear_timer, left-set, counts-set, counts-clear, Route, Parts, Node, with_parts, link_at, in_service, down, is_link, set_of, is_ordered, make_unavailable, changing, begin, change_over, begin_by_peer, fail_by_peer, fail_by_order, complete_by_order, complete_if, concluded, lose_each, judged, changeover_of, with_changeover, changeover_order, changeover_acknowledgement, on_changeover_order, with_changeover_acknowledged, with_expiry, hold_flows, held_by_rerouting, answer, Handled, Ignored, Found, WholeQueues, whole, bar, barred, timed_bar, awaits_incomplete, asking}
use Rattle.timers.specs.declared.name.TimerName.TheVariants as name
use Rattle.signalling_types.specs.declared.notice.FailureReason.TheVariants as reasons
use Rattle.signalling_types.specs.declared.notice.ChangeoverTimer.TheVariants as which
use Rattle.exchange_rules.specs.Testing.{is_unsure}
use Rattle.exchange_rules.proofs.Eased.{losses-timers, judged-timers}
use Rattle.exchange_rules.proofs.LinkTimers.{same-for, timed-for, timed_sending-for, timed_confirming-for, timed_busy-for, timed_busy_ended-for}
use Rattle.exchange_rules.proofs.Steps.{IsOfRules, status_over, KeepsTests, IsJustSet, AreTestedAs, outed, recovering}
use Rattle.exchange_rules.proofs.SteppingMessages.{send_routed-steps, send_each-steps}
use Rattle.exchange_rules.proofs.Tested.{Tests, both, same, quiet, set-test, clear-still, sends, link-runs, on-link, stepped-test, passed-test, gone-test, timers-test, serving-set, unsure-there}
use Rattle.exchange_rules.proofs.Asked.{any}

pub no-way : {A : Type 0} (b : Bool) → b ≡ true → b ≡ false → A
no-way b e f = (let no : true ≡ false = sym e ∙ f in absurd cc)

pub below : (a b : ℕ) → a < b → nat_lt a b ≡ true
below a b l = grind (arith, nat_tests, l)

module _ (c : Configuration) where
  -- ---- a timer of another kind is set or stopped

  pub cleared : (its : TimerName) (n : Node WholeQueues) → ((set destination : ℕ) → its ≢ name.T10 set destination) → Tests c n (with_parts n (record n.parts { timers = clear_timer its n.parts.timers }))
  cleared its n apart = timers-test c n (clear_timer its n.parts.timers) (counts-clear its n.parts.timers) (clear-still c its n.parts.timers apart)

  -- ---- a link fails

  begun-tests : (ordered : Bool) (link : ℕ) (n : Node WholeQueues) → Tests c n (begin whole c ordered link n)
  begun-tests true link n =
      let times : Node WholeQueues = with_parts n (record n.parts { timers = set_timer (name.T2 link) c.timers.t2 n.parts.timers }) in
      let next : Node WholeQueues = with_parts n (changing c true link n.parts) in
      both c n times _ (set-test c (name.T2 link) c.timers.t2 n)
      (both c times next _ (same c times next refl refl refl) (send_routed-steps (sends c) (changeover_order c link (whole.last_accepted n.queues link)) next))
  begun-tests false link n =
      let times : Node WholeQueues = with_parts n (record n.parts { timers = set_timer (name.T1 link) c.timers.t1 n.parts.timers }) in
      both c n times _ (set-test c (name.T1 link) c.timers.t1 n) (same c times _ refl refl refl)

  changed-tests : (served : Bool) (link : ℕ) (n : Node WholeQueues) → Tests c n (change_over whole c served link n)
  changed-tests true link n = begun-tests (is_ordered c link n.parts) link n
  changed-tests false link n = same c n n refl refl refl

  fails-tests : (served : Bool) (link : ℕ) (why : FailureReason) (n : Node WholeQueues) → Tests c n (change_over whole c served link (make_unavailable whole c served link why n))
  fails-tests served link why n = both c n (make_unavailable whole c served link why n) _ (gone-test c served link why n) (changed-tests served link (make_unavailable whole c served link why n))

  by_peer-tests : (served : Bool) (link : ℕ) (n : Node WholeQueues) → Tests c n (begin_by_peer whole c served link (make_unavailable whole c served link reasons.Changeover n))
  by_peer-tests false link n = gone-test c false link reasons.Changeover n
  by_peer-tests true link n =
      let gone : Node WholeQueues = make_unavailable whole c true link reasons.Changeover n in
      both c n gone _ (gone-test c true link reasons.Changeover n) (same c gone _ refl refl refl)

  ordered-tests : (is_down : Bool) (link : ℕ) (n : Node WholeQueues) → Tests c n (if is_down then n else fail_by_peer whole c link n)
  ordered-tests true link n = same c n n refl refl refl
  ordered-tests false link n = by_peer-tests (in_service n.parts link) link n

  -- ---- a changeover ends

  losses-links : (ms : List Message) (p : Parts) → (lose_each ms p).links ≡ p.links
  losses-links [] p = refl
  losses-links (m ∷ ms) p = losses-links ms _

  losses-routes : (ms : List Message) (p : Parts) → (lose_each ms p).routes ≡ p.routes
  losses-routes [] p = refl
  losses-routes (m ∷ ms) p = losses-routes ms _

  judged-links : (reasonable : Bool) (p : Parts) → (judged reasonable p).links ≡ p.links
  judged-links true p = refl
  judged-links false p = refl

  judged-routes : (reasonable : Bool) (p : Parts) → (judged reasonable p).routes ≡ p.routes
  judged-routes true p = refl
  judged-routes false p = refl

  complete-tests : (incomplete : Bool) (link : ℕ) (number : Option ℕ) (n : Node WholeQueues) → Tests c n (complete_if whole c incomplete link number n)
  complete-tests false link number n = same c n n refl refl refl
  complete-tests true link number n =
      let found : Found = whole.found n.queues link number in
      let lost : Node WholeQueues = with_parts n (judged found.is_reasonable (lose_each found.lost n.parts)) in
      let stops : Node WholeQueues = with_parts lost (record lost.parts { timers = clear_timer (name.T1 link) lost.parts.timers }) in
      let done : Node WholeQueues = record { queues = whole.completed n.queues link number; parts = concluded link found n.parts } in
      both c n lost _
      (same c n lost (judged-links found.is_reasonable (lose_each found.lost n.parts) ∙ losses-links found.lost n.parts)
      (judged-routes found.is_reasonable (lose_each found.lost n.parts) ∙ losses-routes found.lost n.parts)
      (judged-timers found.is_reasonable (lose_each found.lost n.parts) ∙ losses-timers found.lost n.parts))
      (both c lost stops _ (cleared (name.T1 link) lost (λ set destination e. cc))
      (both c stops done _ (same c stops done refl refl refl) (send_each-steps (sends c) found.queued_anew done)))

  bar-tests : (link : ℕ) (n : Node WholeQueues) → Tests c n (bar whole c link n)
  bar-tests link n = by c.timers.t2_bar (awaits_incomplete (changeover_of n.parts link))
    where
      by : (ticks : Option ℕ) (is_barred : Bool) → Tests c n (with_parts n (record n.parts { timers = timed_bar ticks is_barred link n.parts.timers }))
      by (Some ticks) true = set-test c (name.T2 link) ticks n
      by (Some ticks) false = same c n n refl refl refl
      by None is_barred = same c n n refl refl refl

  orders-tests : (link : ℕ) (number : Option ℕ) (n : Node WholeQueues) → Tests c n (on_changeover_order whole c link number n).left
  orders-tests link number n =
      let fallen : Node WholeQueues = fail_by_order whole c link n in
      let one : Node WholeQueues = bar whole c link fallen in
      let standing : Node WholeQueues = with_parts one (with_changeover link (completed (changeover_of one.parts link)) one.parts) in
      let two : Node WholeQueues = complete_by_order whole c link number one in
      both c n one _ (both c n fallen one (ordered-tests (down n.parts link) link n) (bar-tests link fallen))
      (both c one two _ (both c one standing two (same c one standing refl refl refl) (complete-tests (changeover_of one.parts link).incomplete link number standing))
      (send_routed-steps (sends c) (changeover_acknowledgement c link (whole.last_accepted two.queues link)) two))

  acknowledges-tests : (awaited : Bool) (link : ℕ) (number : Option ℕ) (n : Node WholeQueues)
      → Tests c n (if awaited then answer Handled (complete_if whole c (changeover_of n.parts link).incomplete link number (with_parts n (with_changeover_acknowledged link n.parts)))
      else answer Ignored n).left
  acknowledges-tests false link number n = same c n n refl refl refl
  acknowledges-tests true link number n =
      let stops : Node WholeQueues = with_parts n (record n.parts { timers = clear_timer (name.T2 link) n.parts.timers }) in
      let next : Node WholeQueues = with_parts n (with_changeover_acknowledged link n.parts) in
      both c n stops _ (cleared (name.T2 link) n (λ set destination e. cc))
      (both c stops next _ (same c stops next refl refl refl) (complete-tests (changeover_of n.parts link).incomplete link number next))

  expiry-tests : (its : ChangeoverTimer) (link : ℕ) (n : Node WholeQueues) → Tests c n (with_parts n (with_expiry c its link (barred c link n.parts)))
  expiry-tests which.T1 link n = both c n (bar whole c link n) _ (bar-tests link n) (same c (bar whole c link n) _ refl refl refl)
  expiry-tests which.T2 link n = both c n (bar whole c link n) _ (bar-tests link n) (same c (bar whole c link n) _ refl refl refl)

  expires-tests : (is_there : Bool) (its : ChangeoverTimer) (link : ℕ) (n : Node WholeQueues)
      → Tests c n (if is_there then complete_if whole c (changeover_of n.parts link).incomplete link None (with_parts n (with_expiry c its link (barred c link n.parts))) else n)
  expires-tests false its link n = same c n n refl refl refl
  expires-tests true its link n =
      let ran : Node WholeQueues = with_parts n (with_expiry c its link (barred c link n.parts)) in
      both c n ran _ (expiry-tests its link n) (complete-tests (changeover_of n.parts link).incomplete link None ran)

  -- ---- flows are held

  returns-tests : (before after : Facts) (code : Option ℕ) (link other : ℕ) (n : Node WholeQueues) → Tests c n (hold_flows whole c before after code link other n)
  returns-tests before after (Some code) link other n =
      let times : Node WholeQueues = with_parts n (record n.parts { timers = set_timer (name.T4 (set_of c link) code) c.timers.t4 n.parts.timers }) in
      both c n times _ (set-test c (name.T4 (set_of c link) code) c.timers.t4 n) (same c times _ refl refl refl)
  returns-tests before after None link other n =
      let times : Node WholeQueues = with_parts n (record n.parts { timers = set_timer (name.T3 link) c.timers.t3 n.parts.timers }) in
      both c n times _ (set-test c (name.T3 link) c.timers.t3 n) (same c times _ refl refl refl)

  reroutes-tests : (destination : ℕ) (selections : List ℕ) (n : Node WholeQueues) → Tests c n (with_parts n (held_by_rerouting c destination selections n.parts))
  reroutes-tests destination [] n = same c n n refl refl refl
  reroutes-tests destination (sls ∷ others) n =
      let times : Node WholeQueues = with_parts n (record n.parts { timers = set_timer (name.T6 destination) c.timers.t6 n.parts.timers }) in
      both c n times _ (set-test c (name.T6 destination) c.timers.t6 n) (same c times _ refl refl refl)

  -- ---- statuses, and their timers

  -- T10 of a set and a destination that are there runs once it is set
  pub set-runs : (set destination ticks : ℕ) (r : Running) → set < r.counts.sets → destination < r.counts.destinations
      → is_running (name.T10 set destination) (set_timer (name.T10 set destination) ticks r) ≡ true
  set-runs set destination ticks r e f =
      ap is_some (left-set (name.T10 set destination) ticks r (and_from (nat_lt set r.counts.sets) (nat_lt destination r.counts.destinations) (below _ _ e) (below _ _ f)))

  just-runs : (set destination : ℕ) (r : Running) → IsJustSet set destination r → set < r.counts.sets → destination < r.counts.destinations → is_running (name.T10 set destination) r ≡ true
  just-runs set destination r j e f =
      let same_counts : r.counts ≡ j.before.counts = ap (λ (x : Running). x.counts) j.is ∙ counts-set (name.T10 set destination) j.ticks j.before in
      ap (λ (x : Running). is_running (name.T10 set destination) x) j.is
      ∙ set-runs set destination j.ticks j.before (omega (arith, e, ap (λ (x : NodeCounts). x.sets) same_counts)) (omega (arith, f, ap (λ (x : NodeCounts). x.destinations) same_counts))

  rerouted-tests : (routes : List (List Route)) (n : Node WholeQueues) → length routes ≡ length n.parts.routes → AreTestedAs n.parts routes → Tests c n (with_parts n (record n.parts { routes = routes }))
  rerouted-tests routes n size found = record {
    fits = λ k. record { sets = k.sets; destinations = k.destinations; routes = size ∙ k.routes };
    tested = λ k t. record {
      each = λ set destination serves unsure. ⊎_elim
          (λ (was : is_unsure (status_over set destination n.parts.routes) ≡ true). t.each set destination serves was)
          (λ (j : IsJustSet set destination n.parts.timers).
          just-runs set destination n.parts.timers j (omega (arith, k.sets, serving-set c n.parts set serves)) (omega (arith, k.destinations, k.routes, size, unsure-there routes set destination unsure)))
          (found.each set destination unsure);
    };
  }

  timed-tests : (r : Running) (n : Node WholeQueues) → r.counts ≡ n.parts.timers.counts → KeepsTests n.parts r → Tests c n (with_parts n (record n.parts { timers = r }))
  timed-tests r n e k = record {
    fits = λ h. record { sets = ap (λ (x : NodeCounts). x.sets) e ∙ h.sets; destinations = ap (λ (x : NodeCounts). x.destinations) e ∙ h.destinations; routes = h.routes };
    tested = λ h t. record {
      each = λ set destination serves unsure. by set destination unsure (t.each set destination serves unsure) (is_running (name.T10 set destination) r) refl;
    };
  }
    where
      by : (set destination : ℕ) → is_unsure (status_over set destination n.parts.routes) ≡ true → is_running (name.T10 set destination) n.parts.timers ≡ true
          → (b : Bool) → is_running (name.T10 set destination) r ≡ b → b ≡ true
      by set destination unsure runs true f = refl
      by set destination unsure runs false f = no-way (is_unsure (status_over set destination n.parts.routes)) unsure (k.each set destination runs f)

  -- ---- all rules

  pub tests-rules : IsOfRules c any any (Tests c)
  tests-rules = record {
    sends = sends c;
    tested = λ link point test n e f. same c n _ refl refl refl;
    probed = λ link n e. same c n _ refl refl refl;
    held = λ m n e. same c n _ refl refl refl;
    taken_out = λ n. same c n _ refl refl refl;
    late = λ notice n e. same c n _ refl refl refl;
    timed = λ r n e k. timed-tests r n e.timed.counts k;
    rerouted = λ routes n e k. rerouted-tests routes n e.size k;
    told = λ t n e. same c n _ refl refl refl;
    titled = λ rows n may. same c n _ refl refl refl;
    unequipped = λ counts n e may. same c n _ refl refl refl;
    linked = λ link x n e o. on-link c link x n.parts.timers n (same-for link n.parts.timers) (λ h. ap (λ (b : Bool). in_service n.parts link && not b) (sym e.untested) ∙ ap (λ (a : Alignment). is_in_service a && not x.untested) (sym e.alignment) ∙ h);
    parted = λ link n e. on-link c link _ n.parts.timers n (same-for link n.parts.timers) (λ h. h);
    opened = λ link n own there e f may.
        both c n (with_parts n (record n.parts { links = _; timers = _ })) _ (on-link c link (opened_by c (period_of c link n.parts) (link_at n.parts link)) _ n (timed-for link c (opening (period_of c link n.parts)) n.parts.timers) (λ h. absurd cc)) (same c _ _ refl refl refl);
    stepped = λ link input step n own e k. stepped-test c link step n k;
    passed = λ link n e k. passed-test c link n k;
    busied = λ link n own e f. on-link c link _ _ n (timed_busy-for link c n.parts.timers) (λ h. h);
    resumed = λ link n own e f o. on-link c link _ _ n (timed_busy_ended-for link c (whole.outstanding n.queues link) n.parts.timers) (λ h. h);
    accepted = λ link d confirmed n own e f.
        let t = timed_confirming-for link c (link_at n.parts link).peer_busy confirmed (whole.outstanding (whole.accepted n.queues link d.fsn d.bsn (carries d)) link) n.parts.timers in
        quiet c n _ refl t.counts (λ set h. h) (λ set destination serves runs. ap is_some (t.rest (name.T10 set destination) (λ u. link-runs c link u set destination) (λ u. cc) (λ u. cc)) ∙ runs);
    sent = λ link next n own e.
        both c n (with_parts n (record n.parts { links = _; timers = _ })) _
        (on-link c link (record (link_at n.parts link) { acknowledgement_owed = false }) _ n (timed_sending-for link c n.parts.timers) (λ h. h)) (same c _ _ refl refl refl);
    put = λ link n set e b. both c n (with_parts n (outed link n.parts)) _ (on-link c link _ n.parts.timers n (same-for link n.parts.timers) (λ h. h)) (same c _ _ refl refl refl);
    back = λ link n e may. both c n (with_parts n (recovering link n.parts)) _ (on-link c link _ n.parts.timers n (same-for link n.parts.timers) (λ h. h)) (same c _ _ refl refl refl);
    fails = λ link why n may up. fails-tests (in_service n.parts link) link why n;
    orders = λ link number n falls ends. orders-tests link number n;
    acknowledges = λ link number n may wait. acknowledges-tests (changeover_of n.parts link).awaited link number n;
    expires = λ its link n may wait. expires-tests (is_link n.parts link) its link n;
    releases = λ link n e wait.
        let stops : Node WholeQueues = with_parts n (record n.parts { timers = clear_timer (name.T2 link) n.parts.timers }) in
        both c n stops _ (cleared (name.T2 link) n (λ set destination f. cc)) (same c stops _ refl refl refl);
    asks = λ link n e.
        let stops : Node WholeQueues = with_parts n (record n.parts { timers = clear_timer (name.T1 link) n.parts.timers }) in
        let times : Node WholeQueues = with_parts stops (record stops.parts { timers = set_timer (name.T2 link) c.timers.t2 stops.parts.timers }) in
        let asks : Node WholeQueues = with_parts n (asking c link n.parts) in
        both c n asks _
        (both c n stops asks (cleared (name.T1 link) n (λ set destination f. cc)) (both c stops times asks (set-test c (name.T2 link) c.timers.t2 stops) (same c times asks refl refl refl)))
        (send_routed-steps (sends c) (changeover_order c link (whole.last_accepted n.queues link)) asks);
    returns = λ before after code link other n e f. returns-tests before after code link other n;
    frees = λ set code n may.
        let stops : Node WholeQueues = with_parts n (record n.parts { timers = clear_timer (name.T4 set code) n.parts.timers }) in
        both c n stops _ (cleared (name.T4 set code) n (λ s d e. cc)) (same c stops _ refl refl refl);
    reroutes = reroutes-tests;
    lifts = λ procedure n may. same c n _ refl refl refl;
  }
