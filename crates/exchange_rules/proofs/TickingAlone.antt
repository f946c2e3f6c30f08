-- If nothing but ticks happens, and no timer runs that may take a link into service or out of it, all holds end.
use Rattle.exchange_rules.proofs.Basics.{◌≡◌, ◌≢◌, inl, inr, ◌≤◌, ◌+◌, ◌-◌, length, if◌then◌else◌, ℕ, zero, suc, Bool, true, false, not, List, [], ◌∷◌, ◌++◌, Option, Some, None, refl, ap, sym, ◌∙◌, subst, arith, ⊎_elim, is_some, and_from, and_parts, false_from_ne_true as not-so}
use Rattle.exchange_rules.proofs.Definitions.{Message, flow_of, is_management, destination_place, Configuration, Procedure, Changeover, Code, Time, Reroute, holds, held_by, TimerName, Running, is_running, ticked, due_name, after_due, due-left, left-ticked, one_less, Node, with_timers, run_due, run_next, run_times, tell_owed, release, waits, is_held_at, is_flow_held, all_wait, Asking, Happens, Ticked, Abstract, apply, after_each, changeover_of, first_state, WholeQueues, whole, link_at, in_service, count_subsystems, awaits_incomplete, order_all, after_asking}
use Rattle.timers.specs.Timers.{due_count}
use Rattle.timers.specs.declared.name.TimerName.TheVariants as name
use Rattle.exchange_rules.specs.LastingHolds.{AllWillEnd, WillEnd}
use Rattle.exchange_rules.specs.TickingAlone.{ticks_alone, IsQuiet, longest_wait, HoldsNothing, ticks_end_holds_where_it_is_quiet}
use Rattle.exchange_rules.proofs.Steps.{takes_links, moves_links}
use Rattle.exchange_rules.proofs.Rules.{rules-of}
use Rattle.signalling_types.specs.declared.limits.TheConstants.Limits.{LINKS}
use Rattle.exchange_rules.proofs.Asked.{asked-all, settings-stay}
use Rattle.exchange_rules.proofs.SteppingLate.{order_all-steps}
use Rattle.exchange_rules.proofs.NoneLate.{Punctual, all-same, none-late, punctual-eased}
use Rattle.exchange_rules.proofs.Sound.{done-waits}
use Rattle.exchange_rules.proofs.SteppingEvents.{settled-steps}
use Rattle.exchange_rules.proofs.WillEnding.{no-way}
use Rattle.exchange_rules.proofs.LastingHolds.{every-hold}
use Rattle.exchange_rules.specs.Aligning.{HasItsTimer}
use Rattle.exchange_rules.proofs.AligningAll.{links-have}
use Rattle.exchange_rules.proofs.DueTimers.{Dues, dues-steps, all-handed_out, no-more-due, none-due}
use Rattle.exchange_rules.proofs.Eased.{Eased, eased-same, eased-both, ran-eased, settled-eased, moved-waited}
use Rattle.exchange_rules.proofs.LinkTimes.{Kept, kept-both, kept-eased, kept-same, late_all-kept, Turned, turned-of, turned-both}
use Rattle.exchange_rules.proofs.LinkTurns.{times-kept}
use Rattle.exchange_rules.proofs.WithinTimes.{Ends, ends_alone, Within, bounds-eased, bounds-all, first-within, handed_out-eased}

-- no timer of a link runs that may take it into service or out of it
pub record Quiet (r : Running) : Type 0 where
  pub none : (timer : TimerName) → moves_links timer ≡ true → (x : ℕ) → r.left timer ≡ Some x → ⊥

quiet-eased : (n m : Node WholeQueues) → Eased n m → Quiet n.parts.timers → Quiet m.parts.timers
quiet-eased n m e q = record { none = λ timer takes x h. q.none timer takes x (e.timers timer (moved-waited timer takes) x h) }

pub runs-not : (o : Option ℕ) (x : ℕ) → is_some o ≡ false → o ≡ Some x → ⊥
runs-not o x idle e = no-way (is_some o) idle (ap is_some e)

quiet-kept : (n m : Node WholeQueues) → Kept n m → Quiet n.parts.timers → Quiet m.parts.timers
quiet-kept n m e q = record { none = λ timer takes x h. q.none timer takes x (e.timers timer takes x h) }

pub quiet-of : (r : Running) → IsQuiet r → Quiet r
quiet-of r q = record { none = by }
  where
    by : (timer : TimerName) → moves_links timer ≡ true → (x : ℕ) → r.left timer ≡ Some x → ⊥
    by (name.L4 link) e x h = runs-not (r.left (name.L4 link)) x (q.l4 link) h
    by (name.L6 link) e x h = runs-not (r.left (name.L6 link)) x (q.l6 link) h
    by (name.L7 link) e x h = runs-not (r.left (name.L7 link)) x (q.l7 link) h
    by (name.L1 link) e x h = absurd cc
    by (name.L2 link) e x h = absurd cc
    by (name.L3 link) e x h = absurd cc
    by (name.T1 link) e x h = absurd cc
    by (name.T2 link) e x h = absurd cc
    by (name.T3 link) e x h = absurd cc
    by (name.T4 set code) e x h = absurd cc
    by (name.T6 destination) e x h = absurd cc
    by (name.T8 set destination) e x h = absurd cc
    by (name.T10 set destination) e x h = absurd cc
    by (name.Slt1 link) e x h = runs-not (r.left (name.Slt1 link)) x (q.slt1 link) h
    by (name.Slt2 link) e x h = runs-not (r.left (name.Slt2 link)) x (q.slt2 link) h

-- ---- a tick

module _ (c : Configuration) where
  next-eased : (due : Option TimerName) (n : Node WholeQueues) → due_name n.parts.timers ≡ due → Quiet n.parts.timers → Eased n (run_due whole c due (with_timers n (after_due n.parts.timers)))
  next-eased None n e q = handed_out-eased c None n e
  next-eased (Some timer) n e q =
      eased-both n (with_timers n (after_due n.parts.timers)) _ (handed_out-eased c (Some timer) n e)
      (ran-eased c timer (with_timers n (after_due n.parts.timers)) (not-so (moves_links timer) (λ takes. q.none timer takes 0 (due-left timer n.parts.timers e))))

  times-eased : (k : ℕ) (n : Node WholeQueues) → Quiet n.parts.timers → Eased n (run_times whole c k n)
  times-eased zero n q = eased-same n n refl refl (λ c. refl)
  times-eased (suc k) n q =
      let one : Eased n (run_next whole c n) = next-eased (due_name n.parts.timers) n refl q in
      eased-both n (run_next whole c n) _ one (times-eased k (run_next whole c n) (quiet-eased n (run_next whole c n) one q))

  was-some : (o : Option ℕ) (x : ℕ) → one_less o ≡ Some x → ((y : ℕ) → o ≡ Some y → ⊥) → ⊥
  was-some None x e none = absurd cc
  was-some (Some y) x e none = none y refl

  lowered : (most x : ℕ) (o : Option ℕ) → ((y : ℕ) → o ≡ Some y → y ≤ most) → one_less o ≡ Some x → x ≤ most - 1
  lowered most x None all e = absurd cc
  lowered most x (Some y) all e = (let less : y - 1 ≡ x = cc in omega (arith, all y refl, less))

  -- what an event leaves that is a tick
  module _ (n : Node WholeQueues) where
    abbrev begun : Node WholeQueues
    begun = with_timers n (ticked n.parts.timers)

    abbrev timed : Node WholeQueues
    timed = run_times whole c (due_count begun.parts.timers) begun

    abbrev ran : Node WholeQueues
    ran = count_subsystems c timed

    abbrev ordered : Node WholeQueues
    ordered = order_all whole c ran

    abbrev ended : Node WholeQueues
    ended = tell_owed whole c (release whole c ordered)

    ended-dues : Dues ran ended
    ended-dues = (dues-steps c).both ran ordered ended (order_all-steps (rules-of (dues-steps c)) ran) (settled-steps (rules-of (dues-steps c)) ordered)

    ended-rested : (timer : TimerName) → ended.parts.timers.left timer ≢ Some 0
    ended-rested =
        none-due ended.parts.timers
        (omega (arith, no-more-due ran.parts.timers ended.parts.timers ended-dues.counts ended-dues.due, all-handed_out c (due_count begun.parts.timers) begun (omega arith)))

    begun-within : (kind : TimerName → Bool) (most : ℕ) → Within kind most n.parts.timers → Within kind (most - 1) begun.parts.timers
    begun-within kind most w = record { each = λ timer of x h. lowered most x (n.parts.timers.left timer) (λ y e. w.each timer of y e) (sym (left-ticked timer n.parts.timers) ∙ h) }

    -- after its timers ran
    ended-kept : Kept timed ended
    ended-kept =
        kept-both timed ran ended (kept-same timed ran refl)
        (kept-both ran ordered ended (late_all-kept c ran) (kept-eased ordered ended (settled-eased c ordered)))

    pub ended-links : (most : ℕ) → Within takes_links most n.parts.timers → Within takes_links (most - 1) ended.parts.timers
    ended-links most w =
        (let kept : Turned begun ended = turned-both begun timed ended (times-kept c (due_count begun.parts.timers) begun) (turned-of timed ended ended-kept) in
        record { each = λ timer t x h. (begun-within takes_links most w).each timer t x (kept.timers timer t x h) })

    -- no order is late any more
    ended-punctual : Punctual c ended
    ended-punctual = punctual-eased c ordered ended (settled-eased c ordered) (none-late c ran)

    module _ (q : Quiet n.parts.timers) where
      begun-quiet : Quiet begun.parts.timers
      begun-quiet = record { none = λ timer takes x h. was-some (n.parts.timers.left timer) x (sym (left-ticked timer n.parts.timers) ∙ h) (q.none timer takes) }

      timed-eased : Eased begun timed
      timed-eased = times-eased (due_count begun.parts.timers) begun begun-quiet

      ended-quiet : Quiet ended.parts.timers
      ended-quiet = quiet-kept timed ended ended-kept (quiet-eased begun timed timed-eased begun-quiet)

      module _ (p : Punctual c n) where
        ran-eased' : Eased begun ran
        ran-eased' = eased-both begun timed ran timed-eased (eased-same timed ran refl refl (λ d. refl))

        same-ordered : ordered ≡ ran
        same-ordered = all-same c ran (punctual-eased c begun ran ran-eased' (record { each = p.each }))

        all-eased : Eased begun ended
        all-eased =
            eased-both begun ordered ended (subst (λ (m : Node WholeQueues). Eased begun m) (sym same-ordered) ran-eased') (settled-eased c ordered)

        ended-within : (most : ℕ) → Ends most n.parts → Ends (most - 1) ended.parts
        ended-within most w = (bounds-eased (most - 1) begun ended all-eased).stay (record {
          timers = begun-within ends_alone most w.timers;
          waits = λ link i x h. lowered most x (n.parts.timers.left (name.T2 link)) (λ y e. w.waits link i y e) (sym (left-ticked (name.T2 link) n.parts.timers) ∙ h);
        })

-- ---- ticks

record Calm (most : ℕ) (a : Abstract) : Type 0 where
  pub within : Ends most a.node.parts
  pub quiet : Quiet a.node.parts.timers
  pub punctual : Punctual a.settings a.node

pub record Rested (a : Abstract) : Type 0 where
  pub due : (timer : TimerName) → a.node.parts.timers.left timer ≢ Some 0
  pub waits : all_wait a.settings a.node.parts.holds a.node.queues.held ≡ true

abbrev pub tick_of : Abstract → Abstract
tick_of a = after_each (Happens Ticked ∷ []) a

tick-calm : (most : ℕ) (a : Abstract) → Calm most a → Calm (most - 1) (tick_of a)
unfolding apply
tick-calm most a h = record {
  within = ended-within a.settings a.node h.quiet h.punctual most h.within;
  quiet = ended-quiet a.settings a.node h.quiet;
  punctual = ended-punctual a.settings a.node;
}

-- whatever was late before
tick-quiet : (a : Abstract) → Quiet a.node.parts.timers → Quiet (tick_of a).node.parts.timers
unfolding apply
tick-quiet a q = ended-quiet a.settings a.node q

pub tick-punctual : (a : Abstract) → Punctual a.settings (tick_of a).node
unfolding apply
tick-punctual a = ended-punctual a.settings a.node

tick-due : (a : Abstract) (timer : TimerName) → (tick_of a).node.parts.timers.left timer ≢ Some 0
unfolding apply
tick-due a = ended-rested a.settings a.node

pub tick-rested : (a : Abstract) → Rested (tick_of a)
tick-rested a = record { due = tick-due a; waits = done-waits Ticked a }

ticks-calm : (many most : ℕ) (a : Abstract) → Calm most a → Calm (most - many) (after_each (ticks_alone many) a)
ticks-calm zero most a h = subst (λ (k : ℕ). Calm k a) (omega arith) h
ticks-calm (suc many) most a h =
    subst (λ (k : ℕ). Calm k (after_each (ticks_alone many) (tick_of a))) (omega arith) (ticks-calm many (most - 1) (tick_of a) (tick-calm most a h))

pub ticks-rested : (many : ℕ) (a : Abstract) → Rested a → Rested (after_each (ticks_alone many) a)
ticks-rested zero a r = r
ticks-rested (suc many) a r = ticks-rested many (tick_of a) (tick-rested a)

pub ticks-punctual : (many : ℕ) (a : Abstract) → Punctual a.settings a.node → Punctual (after_each (ticks_alone many) a).settings (after_each (ticks_alone many) a).node
ticks-punctual zero a p = p
ticks-punctual (suc many) a p = ticks-punctual many (tick_of a) (tick-punctual a)

-- ---- where none of these timers runs, nothing is held

-- none of a kind runs that has no tick left and isn't due
pub idle : (kind : TimerName → Bool) (r : Running) (timer : TimerName) → Within kind 0 r → kind timer ≡ true → r.left timer ≢ Some 0 → is_running timer r ≡ false
idle kind r timer w of due = by (r.left timer) refl
  where
    by : (o : Option ℕ) → r.left timer ≡ o → is_some o ≡ false
    by None e = refl
    by (Some x) e =
        (let none : x ≡ 0 = omega (arith, w.each timer of x e) in
        absurd (due (e ∙ ap (λ (k : ℕ). Some k) none)))

module _ (a : Abstract) (h : AllWillEnd a.node.parts) (its : (link : ℕ) → HasItsTimer link (link_at a.node.parts link) a.node.parts.timers) (quiet : Quiet a.node.parts.timers) (w : Ends 0 a.node.parts) (r : Rested a) where
  stopped : (timer : TimerName) → ends_alone timer ≡ true → is_running timer a.node.parts.timers ≡ true → ⊥
  stopped timer ends runs = no-way (is_running timer a.node.parts.timers) (idle ends_alone a.node.parts.timers timer w.timers ends (r.due timer)) runs

  -- nor is an answer awaited before the changeover is complete
  unawaited : (link : ℕ) → awaits_incomplete (changeover_of a.node.parts link) ≡ true → is_running (name.T2 link) a.node.parts.timers ≡ true → ⊥
  unawaited link i runs = by (a.node.parts.timers.left (name.T2 link)) refl runs
    where
      by : (o : Option ℕ) → a.node.parts.timers.left (name.T2 link) ≡ o → is_some o ≡ true → ⊥
      by None e some = absurd cc
      by (Some x) e some = (let none : x ≡ 0 = omega (arith, w.waits link i x e) in r.due (name.T2 link) (e ∙ ap (λ (k : ℕ). Some k) none))

  ended-all : (procedure : Procedure) → WillEnd procedure a.node.parts → ⊥
  ended-all (Changeover link) (inl e) =
      ⊎_elim (λ (t1 : is_running (name.T1 link) a.node.parts.timers ≡ true). stopped (name.T1 link) refl t1)
      (λ (waits : (changeover_of a.node.parts link).awaited ≡ true). unawaited link (and_from (changeover_of a.node.parts link).incomplete (changeover_of a.node.parts link).awaited e waits) ((h.changeovers link).awaited waits))
      ((h.changeovers link).incomplete e)
  ended-all (Changeover link) (inr e) =
      let out : (link_at a.node.parts link).peer_outage ≡ true = (and_parts (in_service a.node.parts link) (link_at a.node.parts link).peer_outage e).1 in
      runs-some quiet (a.node.parts.timers.left (name.L6 link)) refl ((its link).busy ∙ (h.outages link).watched out)
    where
      runs-some : Quiet a.node.parts.timers → (o : Option ℕ) → a.node.parts.timers.left (name.L6 link) ≡ o → is_some (a.node.parts.timers.left (name.L6 link)) ≡ true → ⊥
      runs-some q None f runs = (let no : false ≡ true = sym (ap is_some f) ∙ runs in absurd cc)
      runs-some q (Some x) f runs = q.none (name.L6 link) refl x f
  ended-all (Code set code) e = stopped (name.T4 set code) refl e
  ended-all (Time link) e = stopped (name.T3 link) refl e
  ended-all (Reroute destination) e = stopped (name.T6 destination) refl e

  unheld : (procedure : Procedure) (destination sls : ℕ) → holds a.node.parts.holds procedure destination sls ≡ false
  unheld procedure destination sls =
      not-so (holds a.node.parts.holds procedure destination sls) (λ held. ended-all procedure (h.holds procedure destination sls held))

  no-flow : (place : Option ℕ) (sls : ℕ) → is_held_at a.node.parts.holds place sls ≡ true → ⊥
  no-flow None sls e = absurd cc
  no-flow (Some place) sls e =
      (let by : (procedure : Procedure) × (holds a.node.parts.holds procedure place sls ≡ true) = (held_by a.node.parts.holds place sls).0 e in
      no-way (holds a.node.parts.holds by.0 place sls) (unheld by.0 place sls) by.1)

  none-waits : (ms : List Message) → all_wait a.settings a.node.parts.holds ms ≡ true → ms ≡ []
  none-waits [] e = refl
  none-waits (m ∷ ms) e =
      (let one : waits a.settings a.node.parts.holds m ≡ true = (and_parts (waits a.settings a.node.parts.holds m) (all_wait a.settings a.node.parts.holds ms) e).0 in
      absurd (no-flow (destination_place a.settings (flow_of m).point) (flow_of m).sls (and_parts (not (is_management m)) (is_flow_held a.settings a.node.parts.holds m) one).1))

  holds-nothing : HoldsNothing a
  holds-nothing = record { flows = unheld; messages = none-waits a.node.queues.held r.waits }

-- ---- always

pub asked-behind : (asked others : List Asking) (a : Abstract) → after_each (asked ++ others) a ≡ after_each others (after_each asked a)
asked-behind [] others a = refl
asked-behind (asking ∷ asked) others a = asked-behind asked others _

pub after-settings : (asked : List Asking) (a : Abstract) → (after_each asked a).settings ≡ a.settings
after-settings [] a = refl
after-settings (asking ∷ others) a = after-settings others (after_asking asking a) ∙ settings-stay asking a

-- from each quiet state reached from the first where no order is late
module _ (c : Configuration) (asked : List Asking) (few : length c.links ≤ LINKS) where
  abbrev reached : Abstract
  reached = after_each asked (first_state c)

  pub calm-end : (many : ℕ) → Quiet reached.node.parts.timers → Punctual c reached.node → longest_wait c.timers ≤ many → HoldsNothing (after_each (ticks_alone many) reached)
  calm-end zero quiet punctual long = absurd (omega (arith, long))
  calm-end (suc many) quiet punctual long =
      let later : Abstract = after_each (ticks_alone (suc many)) reached in
      let calm : Calm (longest_wait c.timers) reached = record {
        within = (asked-all (bounds-all c) asked (first_state c) refl).stay (first-within c);
        quiet = quiet;
        punctual = subst (λ (d : Configuration). Punctual d reached.node) (sym (after-settings asked (first_state c))) punctual;
      } in
      let least : longest_wait c.timers - suc many ≡ 0 = omega (arith, long) in
      holds-nothing later
      (subst (λ (b : Abstract). AllWillEnd b.node.parts) (asked-behind asked (ticks_alone (suc many)) (first_state c)) (every-hold c (asked ++ ticks_alone (suc many)) few))
      (λ link. subst (λ (b : Abstract). HasItsTimer link (link_at b.node.parts link) b.node.parts.timers) (asked-behind asked (ticks_alone (suc many)) (first_state c))
      (links-have c (asked ++ ticks_alone (suc many)) link few))
      (ticks-calm (suc many) (longest_wait c.timers) reached calm).quiet
      (subst (λ (k : ℕ). Ends k later.node.parts) least (ticks-calm (suc many) (longest_wait c.timers) reached calm).within)
      (ticks-rested many (tick_of reached) (tick-rested reached))

-- a tick leaves none late
ticked-end : (c : Configuration) (asked : List Asking) (many : ℕ) → length c.links ≤ LINKS → Quiet (after_each asked (first_state c)).node.parts.timers → longest_wait c.timers ≤ many
    → HoldsNothing (after_each (ticks_alone (suc many)) (after_each asked (first_state c)))
ticked-end c asked many few quiet long =
    let a : Abstract = after_each asked (first_state c) in
    let once : after_each (asked ++ ticks_alone 1) (first_state c) ≡ tick_of a = asked-behind asked (ticks_alone 1) (first_state c) in
    subst (λ (b : Abstract). HoldsNothing (after_each (ticks_alone many) b)) once
    (calm-end c (asked ++ ticks_alone 1) few many
    (subst (λ (b : Abstract). Quiet b.node.parts.timers) (sym once) (tick-quiet a quiet))
    (subst (λ (b : Abstract). Punctual c b.node) (sym once) (subst (λ (d : Configuration). Punctual d (tick_of a).node) (after-settings asked (first_state c)) (tick-punctual a)))
    long)

pub quiet-end : ticks_end_holds_where_it_is_quiet
quiet-end c asked many few quiet long = by c.changeover_by_any_route refl many long
  where
    its : Quiet (after_each asked (first_state c)).node.parts.timers
    its = quiet-of (after_each asked (first_state c)).node.parts.timers quiet

    by : (any : Bool) → c.changeover_by_any_route ≡ any → (k : ℕ) → longest_wait c.timers + (if any then 1 else 0) ≤ k → HoldsNothing (after_each (ticks_alone k) (after_each asked (first_state c)))
    by false e k enough = calm-end c asked few k its (record { each = λ any link there. (let no : false ≡ true = sym e ∙ any in cc) }) (omega (arith, enough))
    by true e zero enough = absurd (omega (arith, enough))
    by true e (suc k) enough = ticked-end c asked k few its (omega (arith, enough))
