-- Whatever an exchange is asked, every hold has its timer or its word.
use Rattle.exchange_rules.proofs.Basics.{◌≡◌, ◌≢◌, inl, inr, ◌<◌, ◌≤◌, ℕ, Bool, true, false, List, [], ◌∷◌, length, Option, Some, None, refl, ap, sym, ◌∙◌, subst, arith, ⊎_elim, cases_lt, get_or-replicate, get_or_past, length-replicate, replicate, slice_index_or, is_some, nat_lt, if◌then◌else◌, and_from, get_or-set_same, get_or-set_other}
use Rattle.exchange_rules.proofs.Definitions.{recovered, period_of, Configuration, Facts, ChangeoverTimer, Procedure, Code, Time, Reroute, HoldSet, holds, lifted, flows_leave, none_at_first, Standing, no_changeover, TimerName, Running, NodeCounts, is_running, has_name, set_timer, clear_timer, ticked, due_name, after_due, one_less, left-set_other, left-clear_other, left-ticked, counts-set, link_at, after-clear, after-none, due-left, Parts, Node, with_parts, in_service, is_link, changeover_of, set_of, complete_if, on_changeover_timer, with_expiry, is_taken_back, hold_flows, held_by_rerouting, opening, carries, with_timers, run_due, run_timer, counts-after, first_state, WholeQueues, whole, HasAllPlaces, Link, down_link, stepped, opened_by, is_in_service, without_owed, Changeover, is_failed, facts, in_outage, put_out, let_back, barred}
use Rattle.std.proofs.lemmas.Bool.{lt-ltb, ltb-true}
use Rattle.flow_hold.proofs.Pairing.{ends_its_own}
use Rattle.timers.proofs.Maps.{exists}
use Rattle.timers.specs.declared.name.TimerName.TheVariants as name
use Rattle.signalling_types.specs.declared.notice.ChangeoverTimer.TheVariants as which
use Rattle.exchange_rules.specs.LastingHolds.{WillPass, AllWillEnd, holds_stay_timed, every_hold_has_its_timer_or_its_word}
use Rattle.exchange_rules.proofs.LinkTimers.{timed-for, timed_busy-for, timed_busy_ended-for, timed_confirming-for, timed_sending-for}
use Rattle.exchange_rules.proofs.LastingPlaces.{places-first, timers-keep}
use Rattle.exchange_rules.proofs.LastingPlaces as kept
use Rattle.exchange_rules.proofs.Steps.{IsOfRules, ends_holds, outed}
use Rattle.exchange_rules.proofs.Outages.{service-there, out-serves}
use Rattle.exchange_rules.proofs.Asked.{any, IsOfAll, asked-all}
use Rattle.exchange_rules.proofs.SteppingEvents.{run_timer-steps}
use Rattle.exchange_rules.proofs.WillEnding.{no-way, LinkAs, link-same, link-set, none-passes, closed, Its, runs-as, set-runs, but-of, but-moved, will-stay, alike-stay, lifted-fewer}
use Rattle.exchange_rules.proofs.SteppingTimers.{apart-from}
use Rattle.exchange_rules.proofs.SteppingEvents.{run_next-steps}
use Rattle.exchange_rules.proofs.EndingProcedures.{timer_of, has-timer, held-else, held_for-leaves}
use Rattle.exchange_rules.proofs.EndingChangeovers.{Stays, places, same-parts, same-ends, sends-stay, fails-by, unheld-by, orders-stay, acknowledges-by, expires-at, expires-by, releases-stay, asks-stay}
use Rattle.exchange_rules.proofs.LinksAlike.{busied-as, linked-as, opened-as, parted-as, passed-as, resumed-as, stepped-as}

module _ (c : Configuration) where
  -- ---- an outage begins and ends

  put-ends : (link : ℕ) (n : Node WholeQueues) → in_service n.parts link ≡ true → (link_at n.parts link).peer_busy ≡ true → AllWillEnd n.parts
      → AllWillEnd (put_out c link (whole.unconfirmed n.queues link) n.parts)
  put-ends link n e b a =
      closed link q
      (but-moved link n.parts q
      (λ procedure destination sls apart held.
      sym (flows_leave n.parts.holds (Changeover link) procedure (is_failed c (facts c (outed link n.parts)) link (whole.unconfirmed n.queues link)) destination sls apart) ∙ held)
      (λ other apart. refl) (λ timer ends out. refl)
      (λ other apart. subst (LinkAs (link_at n.parts other)) (sym (get_or-set_other n.parts.links link other x down_link apart)) (link-same (link_at n.parts other))) (but-of link n.parts a))
      (λ destination sls held. inr (and_from (in_service q link) (link_at q link).peer_outage (ap (λ (l : Link). is_in_service l.alignment) is ∙ e) (ap (λ (l : Link). l.peer_outage) is)))
      (a.changeovers link)
      (subst WillPass (sym is)
      (record { watched = λ o. and_from (is_in_service (link_at n.parts link).alignment) (link_at n.parts link).peer_busy e b; alone = (a.outages link).alone }))
    where
      x : Link
      x = record (link_at n.parts link) { peer_outage = true }

      q : Parts
      q = put_out c link (whole.unconfirmed n.queues link) n.parts

      is : link_at q link ≡ x
      is = get_or-set_same n.parts.links link x down_link (service-there n.parts link e)

  let-ends : (link : ℕ) (n : Node WholeQueues) → in_outage n.parts link ≡ true → AllWillEnd n.parts → AllWillEnd (let_back link n.parts)
  let-ends link n e a =
      closed link q
      (but-moved link n.parts q
      (λ procedure destination sls apart held. lifted-fewer n.parts.holds (Changeover link) procedure destination sls held)
      (λ other apart. refl) (λ timer ends out. refl)
      (λ other apart. subst (LinkAs (link_at n.parts other)) (sym (get_or-set_other n.parts.links link other x down_link apart)) (link-same (link_at n.parts other))) (but-of link n.parts a))
      (λ destination sls held. no-way (holds q.holds (Changeover link) destination sls) (ends_its_own n.parts.holds (Changeover link) destination sls) held)
      (a.changeovers link)
      (subst WillPass (sym is) (record { watched = λ o. absurd cc; alone = (a.outages link).alone }))
    where
      x : Link
      x = recovered (link_at n.parts link)

      q : Parts
      q = let_back link n.parts

      is : link_at q link ≡ x
      is = get_or-set_same n.parts.links link x down_link (service-there n.parts link (out-serves n.parts link e))

  -- ---- flows that return are held, and others no more

  -- the timer of each procedure that holds a flow runs, where that was set last
  set-runs_for : (own : Procedure) (ticks : ℕ) (r : Running) (m : Node WholeQueues) → HasAllPlaces c m → m.parts.timers ≡ set_timer (timer_of own) ticks r
      → (destination sls : ℕ) → holds m.parts.holds own destination sls ≡ true → is_running (timer_of own) m.parts.timers ≡ true
  set-runs_for own ticks r m h e destination sls held =
      ap (is_running (timer_of own)) e
      ∙ set-runs (timer_of own) ticks r
      (sym (ap (λ (x : NodeCounts). has_name x (timer_of own)) (ap (λ (x : Running). x.counts) e ∙ counts-set (timer_of own) ticks r)) ∙ has-timer c m h own destination sls held)

  returns-by : (before after : Facts) (code : Option ℕ) (link other : ℕ) (n : Node WholeQueues) → HasAllPlaces c (hold_flows whole c before after code link other n) → AllWillEnd n.parts
      → AllWillEnd (hold_flows whole c before after code link other n).parts
  returns-by before after (Some code) link other n h a =
      held-else (Code (set_of c link) code) n.parts _ refl (λ timer d. left-set_other (name.T4 (set_of c link) code) timer c.timers.t4 n.parts.timers d) (λ l e. cc) (λ l e. cc)
      (λ procedure destination sls d e. sym (flows_leave n.parts.holds (Code (set_of c link) code) procedure (is_taken_back before after other link) destination sls d) ∙ e)
      (set-runs_for (Code (set_of c link) code) c.timers.t4 n.parts.timers _ h refl) refl a
  returns-by before after None link other n h a =
      held-else (Time link) n.parts _ refl (λ timer d. left-set_other (name.T3 link) timer c.timers.t3 n.parts.timers d) (λ l e. cc) (λ l e. cc)
      (λ procedure destination sls d e. sym (flows_leave n.parts.holds (Time link) procedure (is_taken_back before after other link) destination sls d) ∙ e)
      (set-runs_for (Time link) c.timers.t3 n.parts.timers _ h refl) refl a

  reroutes-by : (destination : ℕ) (selections : List ℕ) (n : Node WholeQueues) → HasAllPlaces c (with_parts n (held_by_rerouting c destination selections n.parts)) → AllWillEnd n.parts
      → AllWillEnd (held_by_rerouting c destination selections n.parts)
  reroutes-by destination [] n h a = a
  reroutes-by destination (sls ∷ others) n h a =
      held-else (Reroute destination) n.parts _ refl (λ timer d. left-set_other (name.T6 destination) timer c.timers.t6 n.parts.timers d) (λ l e. cc) (λ l e. cc)
      (λ procedure its selection d e. sym (held_for-leaves destination (sls ∷ others) n.parts.holds procedure its selection d) ∙ e)
      (set-runs_for (Reroute destination) c.timers.t6 n.parts.timers _ h refl) refl a

  -- a procedure ends all its holds, and its timer doesn't run any more
  ends-all : (own : Procedure) (p q : Parts) → q.changeovers ≡ p.changeovers → q.holds ≡ lifted p.holds own → q.timers ≡ clear_timer (timer_of own) p.timers
      → ((link : ℕ) → timer_of own ≢ name.T1 link) → ((link : ℕ) → timer_of own ≢ name.T2 link) → q.links ≡ p.links → AllWillEnd p → AllWillEnd q
  ends-all own p q standings lifts clears first second links a =
      held-else own p q standings (λ timer d. ap (λ (r : Running). r.left timer) clears ∙ left-clear_other (timer_of own) timer p.timers d) first second
      (λ procedure destination sls d e. lifted-fewer p.holds own procedure destination sls (sym (ap (λ (x : HoldSet). holds x procedure destination sls) lifts) ∙ e))
      (λ destination sls e. no-way (holds q.holds own destination sls) (ap (λ (x : HoldSet). holds x own destination sls) lifts ∙ ends_its_own p.holds own destination sls) e) links a

  -- ---- all rules

  pub ends-rules : IsOfRules c any any (Stays c)
  ends-rules = record {
    sends = sends-stay c;
    tested = λ link point test n e f. same-parts c n _ ((places c).tested link point test n e f) refl refl refl refl;
    probed = λ link n e. same-parts c n _ ((places c).probed link n e) refl refl refl refl;
    held = λ m n e. same-parts c n _ ((places c).held m n e) refl refl refl refl;
    taken_out = λ n. same-parts c n _ ((places c).taken_out n) refl refl refl refl;
    late = λ notice n e. same-parts c n _ ((places c).late notice n e) refl refl refl refl;
    timed = λ r n e k. same-ends c n _ ((places c).timed r n e k) refl refl e.endings (λ link. link-same (link_at n.parts link));
    rerouted = λ routes n e k. same-parts c n _ ((places c).rerouted routes n e k) refl refl refl refl;
    told = λ t n e. same-parts c n _ ((places c).told t n e) refl refl refl refl;
    titled = λ rows n may. same-parts c n _ ((places c).titled rows n may) refl refl refl refl;
    unequipped = λ counts n e may. same-parts c n _ ((places c).unequipped counts n e tt) refl refl refl refl;
    linked = λ link x n e o. same-ends c n _ ((places c).linked link x n e o) refl refl (λ timer ends. refl) (link-set n.parts link x (linked-as (link_at n.parts link) x e o));
    parted = λ link n e. same-ends c n _ ((places c).parted link n e) refl refl (λ timer ends. refl) (link-set n.parts link _ (parted-as (link_at n.parts link) e));
    opened = λ link n own there e f may. same-ends c n _ ((places c).opened link n own there e f tt) refl refl (timed-for link c (opening (period_of c link n.parts)) n.parts.timers).endings
        (link-set n.parts link (opened_by c (period_of c link n.parts) (link_at n.parts link)) (opened-as c (period_of c link n.parts) (link_at n.parts link) e));
    stepped = λ link input step n own e k. same-ends c n _ ((places c).stepped link input step n own e k) refl refl (timed-for link c step n.parts.timers).endings
        (link-set n.parts link (stepped step (link_at n.parts link)) (stepped-as (link_at n.parts link) input step e));
    passed = λ link n e k. same-ends c n _ ((places c).passed link n e k) refl refl (λ timer ends. refl) (link-set n.parts link _ (passed-as (link_at n.parts link)));
    busied = λ link n own e f. same-ends c n _ ((places c).busied link n own e f) refl refl (timed_busy-for link c n.parts.timers).endings
        (link-set n.parts link (record (link_at n.parts link) { peer_busy = true }) (busied-as (link_at n.parts link)));
    resumed = λ link n own e f o. same-ends c n _ ((places c).resumed link n own e f o) refl refl (timed_busy_ended-for link c (whole.outstanding n.queues link) n.parts.timers).endings
        (link-set n.parts link (record (link_at n.parts link) { peer_busy = false }) (resumed-as (link_at n.parts link) o));
    accepted = λ link d confirmed n own e f.
        same-ends c n _ ((places c).accepted link d confirmed n own e f) refl refl
        (timed_confirming-for link c (link_at n.parts link).peer_busy confirmed (whole.outstanding (whole.accepted n.queues link d.fsn d.bsn (carries d)) link) n.parts.timers).endings (λ its. link-same (link_at n.parts its));
    sent = λ link next n own e. same-ends c n _ ((places c).sent link next n own e) refl refl (timed_sending-for link c n.parts.timers).endings
        (link-set n.parts link (without_owed (link_at n.parts link)) (record { passes = λ h. record { watched = h.watched; alone = h.alone }; out = λ h o. o }));
    put = λ link n set e b. record { places = (places c).put link n set e b; ends = λ h. put-ends link n e b };
    back = λ link n e may. record { places = (places c).back link n e tt; ends = λ h. let-ends link n e };
    fails = λ link why n may up. record { places = (places c).fails link why n tt up; ends = fails-by c (in_service n.parts link) link why n refl };
    orders = λ link number n falls ends. record { places = (places c).orders link number n tt tt; ends = orders-stay c link number n };
    acknowledges = λ link number n may wait. record { places = (places c).acknowledges link number n tt tt; ends = acknowledges-by c (changeover_of n.parts link).awaited link number n };
    expires = λ timer link n may wait. record { places = (places c).expires timer link n tt (λ t2. tt); ends = expires-by c timer link n };
    releases = λ link n e wait. record { places = (places c).releases link n e tt; ends = λ h. releases-stay c link n e };
    asks = λ link n e. record { places = (places c).asks link n e; ends = asks-stay c link n e };
    returns = λ before after code link other n e f.
        let k : kept.Keeps c n (hold_flows whole c before after code link other n) = (places c).returns before after code link other n e f in
        record { places = k; ends = λ h. returns-by before after code link other n (k.stay h) };
    frees = λ set code n may. record { places = (places c).frees set code n tt; ends = λ h. ends-all (Code set code) n.parts _ refl refl refl (λ l e. cc) (λ l e. cc) refl };
    reroutes = λ destination selections n. record {
      places = (places c).reroutes destination selections n;
      ends = λ h. reroutes-by destination selections n (((places c).reroutes destination selections n).stay h);
    };
    lifts = λ procedure n may. record {
      places = (places c).lifts procedure n tt;
      ends = λ h. will-stay n.parts _ (lifted-fewer n.parts.holds procedure) refl (λ timer ends e. e) (λ link. link-same (link_at n.parts link));
    };
  }

  -- ---- a timer that is due is handed out, and runs

  -- it doesn't run any more; the others run as they did
  module _ (timer : TimerName) (n : Node WholeQueues) (due : due_name n.parts.timers ≡ Some timer) where
    abbrev next : Node WholeQueues
    next = with_timers n (after_due n.parts.timers)

    still : (other : TimerName) → timer ≢ other → next.parts.timers.left other ≡ n.parts.timers.left other
    still other d = ap (λ (r : Running). r.left other) (after-clear timer n.parts.timers due) ∙ left-clear_other timer other n.parts.timers d

    next-places : HasAllPlaces c n → HasAllPlaces c next
    next-places h = (timers-keep c (after_due n.parts.timers) n (counts-after n.parts.timers)).stay h

    -- it ends no hold
    quiet : ends_holds timer ≡ false → HasAllPlaces c n → AllWillEnd n.parts → AllWillEnd (run_timer whole c timer next).parts
    quiet none h a =
        (run_timer-steps ends-rules timer next (λ link its e. tt)).ends (next-places h)
        (alike-stay n.parts next.parts (record { links = λ link. link-same (link_at n.parts link); holds = refl; changeovers = refl; timers = λ other ends. still other (apart-from timer other none ends) }) a)

  changeover-ran : (expiry : ChangeoverTimer) (timer : TimerName) (link : ℕ) (n : Node WholeQueues) (due : due_name n.parts.timers ≡ Some timer) → Its link timer
      → (expiry ≡ which.T1 → timer ≢ name.T2 link) → (has_name n.parts.timers.counts timer ≡ true → nat_lt link n.parts.timers.counts.links ≡ true)
      → HasAllPlaces c n → AllWillEnd n.parts → AllWillEnd (on_changeover_timer whole c expiry link (next timer n due)).parts
  changeover-ran expiry timer link n due its first named h a = by (is_link n.parts link) refl
    where
      its-own : nat_lt link n.parts.timers.counts.links ≡ true
      its-own = named (exists n.parts.timers timer 0 (due-left timer n.parts.timers due))

      here : link < length n.parts.links
      here = omega (arith, ltb-true link n.parts.timers.counts.links its-own, h.parts.links, h.timers.links)

      by : (there : Bool) → is_link n.parts link ≡ there
          → AllWillEnd (if there then complete_if whole c (changeover_of n.parts link).incomplete link None (with_parts (next timer n due) (with_expiry c expiry link (barred c link (next timer n due).parts))) else next timer n due).parts
      by true e =
          expires-at c expiry link (next timer n due) (next-places timer n due h)
          (but-moved link n.parts (next timer n due).parts (λ procedure destination sls apart held. held) (λ other apart. refl)
          (λ other ends out. still timer n due other (λ same. out (subst (Its link) same its))) (λ other apart. link-same (link_at n.parts other)) (but-of link n.parts a))
          (ap (λ (counts : NodeCounts). nat_lt link counts.links) (counts-after n.parts.timers) ∙ its-own)
          (λ waits t1. runs-as (name.T2 link) n.parts.timers (next timer n due).parts.timers (still timer n due (name.T2 link) (first t1)) ((a.changeovers link).awaited waits)) (unheld-by c link n.parts a) (a.outages link)
      by false e = absurd (no-way (is_link n.parts link) e (lt-ltb link (length n.parts.links) here))

  ran : (timer : TimerName) (n : Node WholeQueues) (due : due_name n.parts.timers ≡ Some timer) → HasAllPlaces c n → AllWillEnd n.parts → AllWillEnd (run_timer whole c timer (next timer n due)).parts
  ran (name.T1 link) n due h a = changeover-ran which.T1 (name.T1 link) link n due (inl refl) (λ e x. cc) (λ e. e) h a
  ran (name.T2 link) n due h a = changeover-ran which.T2 (name.T2 link) link n due (inr refl) (λ e. absurd cc) (λ e. e) h a
  ran (name.T3 link) n due h a = ends-all (Time link) n.parts _ refl refl (after-clear (name.T3 link) n.parts.timers due) (λ l e. cc) (λ l e. cc) refl a
  ran (name.T4 set code) n due h a = ends-all (Code set code) n.parts _ refl refl (after-clear (name.T4 set code) n.parts.timers due) (λ l e. cc) (λ l e. cc) refl a
  ran (name.T6 destination) n due h a = ends-all (Reroute destination) n.parts _ refl refl (after-clear (name.T6 destination) n.parts.timers due) (λ l e. cc) (λ l e. cc) refl a
  ran (name.L1 link) n due h a = quiet (name.L1 link) n due refl h a
  ran (name.L2 link) n due h a = quiet (name.L2 link) n due refl h a
  ran (name.L3 link) n due h a = quiet (name.L3 link) n due refl h a
  ran (name.L4 link) n due h a = quiet (name.L4 link) n due refl h a
  ran (name.L6 link) n due h a = quiet (name.L6 link) n due refl h a
  ran (name.L7 link) n due h a = quiet (name.L7 link) n due refl h a
  ran (name.T8 set destination) n due h a = quiet (name.T8 set destination) n due refl h a
  ran (name.T10 set destination) n due h a = quiet (name.T10 set destination) n due refl h a
  ran (name.Slt1 link) n due h a = quiet (name.Slt1 link) n due refl h a
  ran (name.Slt2 link) n due h a = quiet (name.Slt2 link) n due refl h a

  next-by : (due : Option TimerName) (n : Node WholeQueues) → due_name n.parts.timers ≡ due → HasAllPlaces c n → AllWillEnd n.parts
      → AllWillEnd (run_due whole c due (with_timers n (after_due n.parts.timers))).parts
  next-by None n due h a =
      alike-stay n.parts _ (record { links = λ link. link-same (link_at n.parts link); holds = refl; changeovers = refl; timers = λ timer ends. ap (λ (r : Running). r.left timer) (after-none n.parts.timers due) }) a
  next-by (Some timer) n due h a = ran timer n due h a

  still-running : (o : Option ℕ) → is_some o ≡ true → is_some (one_less o) ≡ true
  still-running None e = e
  still-running (Some left) e = refl

  ends-all_asked : IsOfAll c (Stays c)
  ends-all_asked = record {
    rules = ends-rules;
    ticks = λ n. record {
      places = timers-keep c (ticked n.parts.timers) n refl;
      ends = λ h. will-stay n.parts _ (λ procedure destination sls e. e) refl (λ timer ends e. ap is_some (left-ticked timer n.parts.timers) ∙ still-running (n.parts.timers.left timer) e) (λ link. link-same (link_at n.parts link));
    };
    next = λ n. record {
      places = run_next-steps (places c) n (timers-keep c (after_due n.parts.timers) n (counts-after n.parts.timers)) (λ link. tt);
      ends = next-by (due_name n.parts.timers) n refl;
    };
  }

pub holds-stay : holds_stay_timed
holds-stay asked a h ends = (asked-all (ends-all_asked a.settings) asked a refl).ends h ends

-- at first nothing is held, and each changeover is complete
no-standing : (many link : ℕ) → slice_index_or (replicate many no_changeover) link no_changeover ≡ no_changeover
no-standing many link =
    ⊎_elim (λ (l : link < many). get_or-replicate many link no_changeover no_changeover l)
    (λ (l : many ≤ link). get_or_past (replicate many no_changeover) link no_changeover (omega (arith, l, length-replicate many no_changeover))) (cases_lt link many)

no-link : (many link : ℕ) → slice_index_or (replicate many down_link) link down_link ≡ down_link
no-link many link =
    ⊎_elim (λ (l : link < many). get_or-replicate many link down_link down_link l)
    (λ (l : many ≤ link). get_or_past (replicate many down_link) link down_link (omega (arith, l, length-replicate many down_link))) (cases_lt link many)

first-ends : (c : Configuration) → AllWillEnd (first_state c).node.parts
first-ends c = record {
  holds = λ procedure destination sls e.
      absurd (no-way (holds (first_state c).node.parts.holds procedure destination sls) (none_at_first (length c.links) (length c.sets) (length c.destinations) procedure destination sls) e);
  changeovers = λ link. record {
    incomplete = λ e. (let no : false ≡ true = sym (ap (λ (s : Standing). s.incomplete) (no-standing (length c.links) link)) ∙ e in absurd cc);
    awaited = λ e. (let no : false ≡ true = sym (ap (λ (s : Standing). s.awaited) (no-standing (length c.links) link)) ∙ e in absurd cc);
  };
  outages = λ link. subst WillPass (sym (no-link (length c.links) link)) none-passes;
}

pub every-hold : every_hold_has_its_timer_or_its_word
every-hold c asked few = holds-stay asked (first_state c) (places-first c few) (first-ends c)
