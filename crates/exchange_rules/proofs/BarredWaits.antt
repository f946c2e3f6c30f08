-- At a tick: where links are barred, T2 that runs out leaves the answer about a changeover that isn't complete awaited.
use Rattle.exchange_rules.proofs.Basics.{◌≡◌, ◌≢◌, inl, inr, ℕ, zero, suc, Bool, true, false, ◌&&◌, List, Option, Some, None, refl, ap, sym, subst, ◌∙◌, ⊎_elim, cases_eq, and_parts, if◌then◌else◌}
use Rattle.exchange_rules.proofs.Definitions.{Configuration, Standing, acknowledged, completed, stays_awaited, is_barred, bars, TimerName, is_due, no_tick_left, ticked, after_due, due_name, due_count, due-left, Node, with_timers, answer, in_service, is_link, changeover_of, order_all, on_changeover_timer, subsystems_ticked, run_all, run_due, run_next, run_times, tick, apply, release_bar, counts-after, Happening, Released, Ticked, WholeQueues, whole}
use Rattle.signalling_types.specs.declared.notice.ChangeoverTimer.TheVariants as which
use Rattle.timers.specs.declared.name.TimerName.TheVariants as name
use Rattle.exchange_rules.specs.Aligning.{RunsOut}
use Rattle.exchange_rules.specs.Exchange.{after}
use Rattle.exchange_rules.specs.LawsOfWaits.{EndsWait, IsReleased, LastT2RunsOut, waits_end_so}
use Rattle.exchange_rules.proofs.Asked.{any}
use Rattle.exchange_rules.proofs.Causes.{MayEndWait}
use Rattle.exchange_rules.proofs.DueTimers.{was-due}
use Rattle.exchange_rules.proofs.EndedWaits.{may-end, rested, reroutes-changeovers, returns-changeovers}
use Rattle.exchange_rules.proofs.EndingWaits.{releases-leave}
use Rattle.exchange_rules.proofs.LateEvents.{settled-changeovers}
use Rattle.exchange_rules.proofs.RestingLinks.{Rested, Rests, timers-rest}
use Rattle.exchange_rules.proofs.Steps.{IsOfSends, IsOfDeeds}
use Rattle.exchange_rules.proofs.SteppingEvents.{AllowsTimer, run_due-deeds, run_due-steps, settled-steps}
use Rattle.exchange_rules.proofs.SteppingLate.{order_all-steps}
use Rattle.exchange_rules.proofs.WillEnding.{no-way}
use Rattle.exchange_rules.proofs.LastingWaits.{May, Lasts, Lasting, rests, dues, same-lasts, kept-lasts, other-lasts, both-last, fails-last, acknowledged-last, expires-last, asks-last, done, barred-later, completed-awaits}

module _ (c : Configuration) (link : ℕ) (asks : bars c ≡ true) where
  -- ---- all deeds of a tick

  sends : IsOfSends c (Lasting link)
  sends = record {
    none = λ n. same-lasts c link n n ((rests c link).sends.none n) ((dues c link).sends.none n) refl;
    both = both-last c link;
    routed = λ way m n e. same-lasts c link n _ ((rests c link).sends.routed way m n e) ((dues c link).sends.routed way m n e) refl;
    noted = λ notice n e. same-lasts c link n _ ((rests c link).sends.noted notice n e) ((dues c link).sends.noted notice n e) refl;
    lost = λ notice n e. same-lasts c link n _ ((rests c link).sends.lost notice n e) ((dues c link).sends.lost notice n e) refl;
    counted = λ messages broken n. same-lasts c link n _ ((rests c link).sends.counted messages broken n) ((dues c link).sends.counted messages broken n) refl;
  }

  lasting-deeds : IsOfDeeds c any any (May link) (Lasting link)
  lasting-deeds = record {
    sends = sends;
    tested = λ other point test n e f. same-lasts c link n _ ((rests c link).tested other point test n e f) ((dues c link).tested other point test n e f) refl;
    probed = λ other n e. same-lasts c link n _ ((rests c link).probed other n e) ((dues c link).probed other n e) refl;
    held = λ m n e. same-lasts c link n _ ((rests c link).held m n e) ((dues c link).held m n e) refl;
    taken_out = λ n. same-lasts c link n _ ((rests c link).taken_out n) ((dues c link).taken_out n) refl;
    late = λ notice n e. same-lasts c link n _ ((rests c link).late notice n e) ((dues c link).late notice n e) refl;
    timed = λ r n e k. same-lasts c link n _ (timers-rest n _ refl refl) (record { counts = e.timed.counts; due = e.timed.due }) refl;
    rerouted = λ routes n e k. same-lasts c link n _ ((rests c link).rerouted routes n e k) ((dues c link).rerouted routes n e k) refl;
    told = λ t n e. same-lasts c link n _ ((rests c link).told t n e) ((dues c link).told t n e) refl;
    titled = λ titles n may. same-lasts c link n _ ((rests c link).titled titles n tt) ((dues c link).titled titles n tt) refl;
    unequipped = λ counts n e may. same-lasts c link n _ ((rests c link).unequipped counts n e tt) ((dues c link).unequipped counts n e tt) refl;
    linked = λ other x n e o. same-lasts c link n _ ((rests c link).linked other x n e o) ((dues c link).linked other x n e o) refl;
    parted = λ other n e. same-lasts c link n _ ((rests c link).parted other n e) ((dues c link).parted other n e) refl;
    opened = λ other n own there e f may. same-lasts c link n _ ((rests c link).opened other n own there e f tt) ((dues c link).opened other n own there e f tt) refl;
    stepped = λ other input step n own e k. same-lasts c link n _ ((rests c link).stepped other input step n own e k) ((dues c link).stepped other input step n own e k) refl;
    passed = λ other n e k. same-lasts c link n _ ((rests c link).passed other n e k) ((dues c link).passed other n e k) refl;
    busied = λ other n own e f. same-lasts c link n _ ((rests c link).busied other n own e f) ((dues c link).busied other n own e f) refl;
    resumed = λ other n own e f o. same-lasts c link n _ ((rests c link).resumed other n own e f o) ((dues c link).resumed other n own e f o) refl;
    accepted = λ other d confirmed n own e f. same-lasts c link n _ ((rests c link).accepted other d confirmed n own e f) ((dues c link).accepted other d confirmed n own e f) refl;
    sent = λ other next n own e. same-lasts c link n _ ((rests c link).sent other next n own e) ((dues c link).sent other next n own e) refl;
    put = λ other n set e b. same-lasts c link n _ ((rests c link).put other n set e b) ((dues c link).put other n set e b) refl;
    back = λ other n e may. same-lasts c link n _ ((rests c link).back other n e tt) ((dues c link).back other n e tt) refl;
    fails = λ other why n may up. kept-lasts c link n _ ((rests c link).fails other why n tt up) ((dues c link).fails other why n tt up) (fails-last c link (in_service n.parts other) other why n refl up);
    orders = λ other number n falls ends. absurd falls;
    acknowledges = λ other number n may wait. acknowledged-last c link other number n wait ((rests c link).acknowledges other number n tt tt) ((dues c link).acknowledges other number n tt tt);
    expires = λ timer other n may wait. expires-last c link timer other n asks wait ((rests c link).expires timer other n tt (λ t2. tt)) ((dues c link).expires timer other n tt (λ t2. tt));
    asks = λ other n e. kept-lasts c link n _ ((rests c link).asks other n e) ((dues c link).asks other n e) (λ h a. asks-last c link other n e a);
    releases = λ other n e wait. other-lasts c link other (acknowledged (changeover_of n.parts other)) n _ ((rests c link).releases other n e tt) ((dues c link).releases other n e tt) wait refl;
    returns = λ before after code way other n e f. same-lasts c link n _ ((rests c link).returns before after code way other n e f) ((dues c link).returns before after code way other n e f) (returns-changeovers (May link) c before after code way other n);
    frees = λ set code n may. same-lasts c link n _ ((rests c link).frees set code n tt) ((dues c link).frees set code n tt) refl;
    reroutes = λ destination selections n. same-lasts c link n _ ((rests c link).reroutes destination selections n) ((dues c link).reroutes destination selections n) (reroutes-changeovers (May link) c destination selections n);
    lifts = λ procedure n may. same-lasts c link n _ ((rests c link).lifts procedure n tt) ((dues c link).lifts procedure n tt) refl;
  }

  -- ---- a tick

  allows-other : (timer : TimerName) → timer ≢ name.T2 link → AllowsTimer (May link) timer
  allows-other timer apart = record {
    ends = λ procedure e. tt;
    fails = λ other its e f. tt;
    tests = λ other e. tt;
    waits = λ other e is. apart (e ∙ ap (λ (l : ℕ). name.T2 l) is);
  }

  -- a timer that is due is handed out, and stops
  handed : (n : Node WholeQueues) → Lasting link n (with_timers n (after_due n.parts.timers))
  handed n = same-lasts c link n _ (timers-rest n _ refl refl) (record { counts = counts-after n.parts.timers; due = was-due n.parts.timers }) refl

  own-last : (n : Node WholeQueues) → due_name n.parts.timers ≡ Some (name.T2 link) → Rested n → Lasts link n → Lasts link (on_changeover_timer whole c which.T2 link (with_timers n (after_due n.parts.timers)))
  own-last n due h l =
      ⊎_elim (λ (i : (changeover_of n.parts link).incomplete ≡ true). by (is_link n.parts link) i)
      (λ (f : is_due n.parts.timers (name.T2 link) ≡ false). no-way (is_due n.parts.timers (name.T2 link)) f (ap no_tick_left (due-left (name.T2 link) n.parts.timers due))) l.later
    where
      next : Node WholeQueues
      next = with_timers n (after_due n.parts.timers)

      by : (there : Bool) → (changeover_of n.parts link).incomplete ≡ true → Lasts link (if there then done c link which.T2 link next else next)
      by true i = record {
        awaited = completed-awaits c link which.T2 next (ap (λ (b : Bool). if b && (changeover_of n.parts link).incomplete then completed (changeover_of n.parts link) else acknowledged (changeover_of n.parts link)) asks
            ∙ ap (λ (b : Bool). if b then completed (changeover_of n.parts link) else acknowledged (changeover_of n.parts link)) i) ∙ l.awaited;
        later = inr (barred-later c link which.T2 next asks l.awaited i);
      }
      by false i = record { awaited = l.awaited; later = inl i }

  next-lasts : (n : Node WholeQueues) → Rested n → Lasts link n → Lasts link (run_next whole c n)
  next-lasts n h l = by (due_name n.parts.timers) refl
    where
      next : Node WholeQueues
      next = with_timers n (after_due n.parts.timers)

      others : (due : Option TimerName) → due ≢ Some (name.T2 link) → Lasts link (run_due whole c due next)
      others due apart =
          let ran : Lasting link next (run_due whole c due next) =
          run_due-deeds lasting-deeds due next (λ other its e. tt) (λ its e. allows-other its (λ is. apart (e ∙ ap (λ (x : TimerName). Some x) is))) in
          ran.lasts ((handed n).rests.stay h) ((handed n).lasts h l)

      by : (due : Option TimerName) → due_name n.parts.timers ≡ due → Lasts link (run_due whole c due next)
      by (Some (name.T2 other)) e =
          ⊎_elim
          (λ (is : other ≡ link). subst (λ (k : ℕ). Lasts link (run_due whole c (Some (name.T2 k)) next)) (sym is) (own-last n (e ∙ ap (λ (k : ℕ). Some (name.T2 k)) is) h l))
          (λ (apart : other ≢ link). others (Some (name.T2 other)) (λ same. apart (link-of other same))) (cases_eq other link)
        where
          link-of : (k : ℕ) → Some (name.T2 k) ≡ Some (name.T2 link) → k ≡ link
          link-of k same = cc
      by None e = others None (λ same. cc)
      by (Some (name.L1 other)) e = others (Some (name.L1 other)) (λ same. cc)
      by (Some (name.L2 other)) e = others (Some (name.L2 other)) (λ same. cc)
      by (Some (name.L3 other)) e = others (Some (name.L3 other)) (λ same. cc)
      by (Some (name.L4 other)) e = others (Some (name.L4 other)) (λ same. cc)
      by (Some (name.L6 other)) e = others (Some (name.L6 other)) (λ same. cc)
      by (Some (name.L7 other)) e = others (Some (name.L7 other)) (λ same. cc)
      by (Some (name.T1 other)) e = others (Some (name.T1 other)) (λ same. cc)
      by (Some (name.T3 other)) e = others (Some (name.T3 other)) (λ same. cc)
      by (Some (name.T4 set code)) e = others (Some (name.T4 set code)) (λ same. cc)
      by (Some (name.T6 destination)) e = others (Some (name.T6 destination)) (λ same. cc)
      by (Some (name.T8 set destination)) e = others (Some (name.T8 set destination)) (λ same. cc)
      by (Some (name.T10 set destination)) e = others (Some (name.T10 set destination)) (λ same. cc)
      by (Some (name.Slt1 other)) e = others (Some (name.Slt1 other)) (λ same. cc)
      by (Some (name.Slt2 other)) e = others (Some (name.Slt2 other)) (λ same. cc)

  next-rests : (n : Node WholeQueues) → Rests n (run_next whole c n)
  next-rests n = (rests c link).sends.both _ _ _ (timers-rest n _ refl refl) (run_due-steps (rests c link) (due_name n.parts.timers) (with_timers n (after_due n.parts.timers)) (λ other its e. tt))

  times-last : (many : ℕ) (n : Node WholeQueues) → Rested n → Lasts link n → Rested (run_times whole c many n) × Lasts link (run_times whole c many n)
  times-last zero n h l = (h, l)
  times-last (suc more) n h l = times-last more (run_next whole c n) ((next-rests n).stay h) (next-lasts n h l)

  -- awaited before a tick, and not complete: awaited after it
  pub tick-awaits : (n : Node WholeQueues) → Rested n → (changeover_of n.parts link).awaited ≡ true → (changeover_of n.parts link).incomplete ≡ true
      → (changeover_of (apply whole c Ticked n).left.parts link).awaited ≡ true
  unfolding apply
  tick-awaits n h a i =
      let begun : Node WholeQueues = with_timers n (ticked n.parts.timers) in
      let ran : Node WholeQueues = run_all whole c begun in
      let many : Rested ran × Lasts link ran = times-last (due_count (ticked n.parts.timers)) begun ((timers-rest n begun refl refl).stay h) (record { awaited = a; later = inl i }) in
      let ends : Lasting link ran (apply whole c Ticked n).left =
      both-last c link _ _ _ (lasting-deeds.titled (subsystems_ticked c ran.parts).titles ran tt)
      (both-last c link _ _ _ (order_all-steps lasting-deeds (tick whole c n).left) (settled-steps lasting-deeds (order_all whole c (tick whole c n).left))) in
      (ends.lasts many.0 many.1).awaited

left-waits : (c : Configuration) (link : ℕ) (n : Node WholeQueues) → is_barred (changeover_of n.parts link) ≡ false
    → (changeover_of (apply whole c (Released link) n).left.parts link).awaited ≡ (changeover_of n.parts link).awaited
unfolding apply
left-waits c link n e =
    ap (λ (all : List Standing). (changeover_of (record n.parts { changeovers = all }) link).awaited) (settled-changeovers c (release_bar whole c link n).left)
    ∙ ap (λ (m : Node WholeQueues). (changeover_of m.parts link).awaited) (releases-leave c link n e)

-- ---- the law

pub waits-end : waits_end_so
waits-end what a link steady awaited ended = by (may-end what a link steady awaited ended)
  where
    c : Configuration
    c = a.settings

    its : Standing
    its = changeover_of a.node.parts link

    -- T2 runs out
    last : RunsOut (name.T2 link) what a.node.parts.timers → (b : Bool) → stays_awaited (bars c) its ≡ b → LastT2RunsOut link what a
    last out false e = record { runs_out = out; last = e }
    last out true e =
        let both = and_parts (bars c) its.incomplete e in
        no-way (changeover_of (after whole what a).node.parts link).awaited ended
        (ap (λ (w : Happening). (changeover_of (after whole w a).node.parts link).awaited) out.0
        ∙ tick-awaits c link both.0 a.node (rested c.window a.node steady) awaited both.1)

    -- an order of the operator about a link that isn't barred changes nothing
    released : what ≡ Released link → (b : Bool) → is_barred its ≡ b → IsReleased link what a
    released is true e = record { ordered = is; barred = e }
    released is false e =
        no-way (changeover_of (after whole what a).node.parts link).awaited ended
        (ap (λ (w : Happening). (changeover_of (after whole w a).node.parts link).awaited) is
        ∙ left-waits c link a.node e ∙ awaited)

    by : MayEndWait link what a → EndsWait link what a
    by (inl answer) = inl answer
    by (inr (inl out)) = inr (inl (last out (stays_awaited (bars c) its) refl))
    by (inr (inr is)) = inr (inr (released is (is_barred its) refl))
