-- Whatever happens, timers are set to the values in the settings.
use Rattle.exchange_rules.proofs.Basics.{◌≡◌, ◌≤◌, inl, inr, ℕ, zero, suc, ◌-◌, Bool, true, false, List, [], ◌∷◌, Option, Some, None, refl, sym, subst, ◌∙◌, arith, max, if◌then◌else◌}
use Rattle.exchange_rules.proofs.Definitions.{Period, paced, period_of, apply, Configuration, FailureReason, ChangeoverTimer, Facts, opening, carries, completed, TimerName, one_less, ticked, due_name, after_due, after-clear, after-none, left-ticked, left-none, Found, Parts, Node, with_parts, link_at, in_service, down, is_link, set_of, has_other, is_ordered, suspended, fail_link, without_tests, make_unavailable, changing, begin, change_over, begin_by_peer, fail_by_peer, fail_by_order, complete_by_order, complete_if, concluded, lose_each, judged, changeover_of, with_changeover, changeover_order, changeover_acknowledgement, on_changeover_order, with_changeover_acknowledged, with_expiry, hold_flows, held_by_rerouting, answer, Handled, Ignored, with_timers, run_next, run_times, due_count, tick, Asking, Happens, Takes, AsksWants, Happening, CameUp, WentDown, FrameCame, Ticked, Submitted, Activated, Deactivated, TitleAdded, TitleSet, TitleRemoved, first_state, after_asking, after_each, Abstract, WholeQueues, whole, run_all, Released, bar, barred, timed_bar, awaits_incomplete, asking, clear_timer, Running, order_all}
use Rattle.timers.specs.declared.name.TimerName.TheVariants as name
use Rattle.timers.specs.declared.name.RouteTimer.TheVariants as of_set
use Rattle.signalling_types.specs.declared.notice.FailureReason.TheVariants as reasons
use Rattle.signalling_types.specs.declared.notice.ChangeoverTimer.TheVariants as which
use Rattle.exchange_rules.specs.TimerSettings.{setting_of, RunsBy, left_by, events_set_timers_to_their_settings, takes_set_timers_to_their_settings, timers_keep_their_settings, only_l4_is_paced, barring, only_t2_is_barred}
use Rattle.exchange_rules.proofs.TimerSettings.{AreSet, wider-set, same-set, both-set, set-set, clear-set, clear_set-set, without_timers-set, timed-set, timed_sending-set, timed_confirming-set, timed_busy-set, timed_busy_ended-set, bar-set}
use Rattle.exchange_rules.proofs.Eased.{losses-timers, judged-timers}
use Rattle.exchange_rules.proofs.Steps.{IsOfSends, Deed, IsOfDeeds, anything, IsOfRules, MayReturn}
use Rattle.exchange_rules.proofs.Asked.{any, settings-stay}
use Rattle.exchange_rules.proofs.SteppingMessages.{send_routed-steps, send_each-steps}
use Rattle.exchange_rules.proofs.SteppingEvents.{run_next-steps, settled-steps, apply-steps, take-steps}
use Rattle.exchange_rules.proofs.SteppingLate.{order_all-steps}

-- from one node to another timers are set to their settings, and T8 stops only of the sets of E
pub record Sets (c : Configuration) (E : ℕ → Type 0) (n m : Node WholeQueues) : Type 0 where
  pub timers : AreSet c E n.parts.timers m.parts.timers

module _ (c : Configuration) (E : ℕ → Type 0) where
  same : (n m : Node WholeQueues) → m.parts.timers ≡ n.parts.timers → Sets c E n m
  same n m e = record { timers = same-set c E n.parts.timers m.parts.timers e }

  both : (n m o : Node WholeQueues) → Sets c E n m → Sets c E m o → Sets c E n o
  both n m o e f = record { timers = both-set c E n.parts.timers m.parts.timers o.parts.timers e.timers f.timers }

  sets-sends : IsOfSends c (Sets c E)
  sets-sends = record {
    none = λ n. same n n refl;
    both = both;
    routed = λ link m n e. same n _ refl;
    noted = λ notice n e. same n _ refl;
    lost = λ notice n e. same n _ refl;
    counted = λ messages broken n. same n _ refl;
  }

  -- ---- a link fails

  gone-sets : (served : Bool) (link : ℕ) (why : FailureReason) (n : Node WholeQueues) → Sets c E n (make_unavailable whole c served link why n)
  gone-sets false link why n = record { timers = without_timers-set c E link n.parts.timers }
  gone-sets true link why n = by (has_other c link failed)
    where
      failed : Parts
      failed = fail_link link why (suspended c link (whole.unconfirmed n.queues link) n.parts)

      by : (others : Bool) → Sets c E n (with_parts n (if others then failed else without_tests (set_of c link) failed))
      by true = record { timers = without_timers-set c E link n.parts.timers }
      by false = record { timers = both-set c E n.parts.timers failed.timers _ (without_timers-set c E link n.parts.timers) (clear_set-set c E of_set.T10 (set_of c link) failed.timers (λ e. absurd cc)) }

  begun-sets : (ordered : Bool) (link : ℕ) (n : Node WholeQueues) → Sets c E n (begin whole c ordered link n)
  begun-sets true link n =
      let next : Node WholeQueues = with_parts n (changing c true link n.parts) in
      both n next _ (record { timers = set-set c E (name.T2 link) c.timers.t2 n.parts.timers refl }) (send_routed-steps sets-sends (changeover_order c link (whole.last_accepted n.queues link)) next)
  begun-sets false link n = record { timers = set-set c E (name.T1 link) c.timers.t1 n.parts.timers refl }

  fails-sets : (served : Bool) (link : ℕ) (why : FailureReason) (n : Node WholeQueues) → Sets c E n (change_over whole c served link (make_unavailable whole c served link why n))
  fails-sets false link why n = gone-sets false link why n
  fails-sets true link why n =
      let gone : Node WholeQueues = make_unavailable whole c true link why n in
      both n gone _ (gone-sets true link why n) (begun-sets (is_ordered c link gone.parts) link gone)

  by_peer-sets : (served : Bool) (link : ℕ) (n : Node WholeQueues) → Sets c E n (begin_by_peer whole c served link (make_unavailable whole c served link reasons.Changeover n))
  by_peer-sets false link n = gone-sets false link reasons.Changeover n
  by_peer-sets true link n =
      let gone : Node WholeQueues = make_unavailable whole c true link reasons.Changeover n in
      both n gone _ (gone-sets true link reasons.Changeover n) (same gone _ refl)

  ordered-sets : (is_down : Bool) (link : ℕ) (n : Node WholeQueues) → Sets c E n (if is_down then n else fail_by_peer whole c link n)
  ordered-sets true link n = same n n refl
  ordered-sets false link n = by_peer-sets (in_service n.parts link) link n

  -- ---- a changeover ends

  complete-sets : (incomplete : Bool) (link : ℕ) (number : Option ℕ) (n : Node WholeQueues) → Sets c E n (complete_if whole c incomplete link number n)
  complete-sets false link number n = same n n refl
  complete-sets true link number n =
      let found : Found = whole.found n.queues link number in
      let lost : Node WholeQueues = with_parts n (judged found.is_reasonable (lose_each found.lost n.parts)) in
      let done : Node WholeQueues = record { queues = whole.completed n.queues link number; parts = concluded link found n.parts } in
      both n lost _ (same n lost (judged-timers found.is_reasonable (lose_each found.lost n.parts) ∙ losses-timers found.lost n.parts))
      (both lost done _ (record { timers = clear-set c E (name.T1 link) lost.parts.timers (λ s d e. absurd cc) }) (send_each-steps sets-sends found.queued_anew done))

  bar-sets : (link : ℕ) (n : Node WholeQueues) → Sets c E n (bar whole c link n)
  bar-sets link n = record { timers = by c.timers.t2_bar (awaits_incomplete (changeover_of n.parts link)) refl }
    where
      by : (ticks : Option ℕ) (is_barred : Bool) → c.timers.t2_bar ≡ ticks → AreSet c E n.parts.timers (timed_bar ticks is_barred link n.parts.timers)
      by (Some ticks) true e = bar-set c E link ticks n.parts.timers e
      by (Some ticks) false e = same-set c E n.parts.timers n.parts.timers refl
      by None is_barred e = same-set c E n.parts.timers n.parts.timers refl

  orders-sets : (link : ℕ) (number : Option ℕ) (n : Node WholeQueues) → Sets c E n (on_changeover_order whole c link number n).left
  orders-sets link number n =
      let fallen : Node WholeQueues = fail_by_order whole c link n in
      let one : Node WholeQueues = bar whole c link fallen in
      let standing : Node WholeQueues = with_parts one (with_changeover link (completed (changeover_of one.parts link)) one.parts) in
      let two : Node WholeQueues = complete_by_order whole c link number one in
      both n one _ (both n fallen one (ordered-sets (down n.parts link) link n) (bar-sets link fallen))
      (both one two _ (both one standing two (same one standing refl) (complete-sets (changeover_of one.parts link).incomplete link number standing))
      (send_routed-steps sets-sends (changeover_acknowledgement c link (whole.last_accepted two.queues link)) two))

  acknowledges-sets : (awaited : Bool) (link : ℕ) (number : Option ℕ) (n : Node WholeQueues)
      → Sets c E n (if awaited then answer Handled (complete_if whole c (changeover_of n.parts link).incomplete link number (with_parts n (with_changeover_acknowledged link n.parts)))
      else answer Ignored n).left
  acknowledges-sets false link number n = same n n refl
  acknowledges-sets true link number n =
      let next : Node WholeQueues = with_parts n (with_changeover_acknowledged link n.parts) in
      both n next _ (record { timers = clear-set c E (name.T2 link) n.parts.timers (λ s d e. absurd cc) }) (complete-sets (changeover_of n.parts link).incomplete link number next)

  expiry-sets : (timer : ChangeoverTimer) (link : ℕ) (n : Node WholeQueues) → Sets c E n (with_parts n (with_expiry c timer link (barred c link n.parts)))
  expiry-sets which.T1 link n = both n (bar whole c link n) _ (bar-sets link n) (same (bar whole c link n) _ refl)
  expiry-sets which.T2 link n = both n (bar whole c link n) _ (bar-sets link n) (same (bar whole c link n) _ refl)

  expires-sets : (is_there : Bool) (timer : ChangeoverTimer) (link : ℕ) (n : Node WholeQueues)
      → Sets c E n (if is_there then complete_if whole c (changeover_of n.parts link).incomplete link None (with_parts n (with_expiry c timer link (barred c link n.parts))) else n)
  expires-sets false timer link n = same n n refl
  expires-sets true timer link n =
      let ran : Node WholeQueues = with_parts n (with_expiry c timer link (barred c link n.parts)) in
      both n ran _ (expiry-sets timer link n) (complete-sets (changeover_of n.parts link).incomplete link None ran)

  -- ---- flows are held

  returns-sets : (before after : Facts) (code : Option ℕ) (link other : ℕ) (n : Node WholeQueues) → Sets c E n (hold_flows whole c before after code link other n)
  returns-sets before after (Some code) link other n = record { timers = set-set c E (name.T4 (set_of c link) code) c.timers.t4 n.parts.timers refl }
  returns-sets before after None link other n = record { timers = set-set c E (name.T3 link) c.timers.t3 n.parts.timers refl }

  reroutes-sets : (destination : ℕ) (selections : List ℕ) (n : Node WholeQueues) → Sets c E n (with_parts n (held_by_rerouting c destination selections n.parts))
  reroutes-sets destination [] n = same n n refl
  reroutes-sets destination (sls ∷ others) n = record { timers = set-set c E (name.T6 destination) c.timers.t6 n.parts.timers refl }

  -- ---- all rules

  module _ (Own : ℕ → Type 0) (May : Deed → Type 0) (may : (set : ℕ) → MayReturn c Own May set → E set) where
    pub sets-rules : IsOfDeeds c Own any May (Sets c E)
    sets-rules = record {
      sends = sets-sends;
      tested = λ link point test n e f. same n _ refl;
      probed = λ link n e. same n _ refl;
      held = λ m n e. same n _ refl;
      taken_out = λ n. same n _ refl;
      late = λ notice n e. same n _ refl;
      timed = λ r n e k. record { timers = wider-set may e.set };
      rerouted = λ routes n e k. same n _ refl;
      told = λ t n e. same n _ refl;
      titled = λ rows n may. same n _ refl;
      unequipped = λ counts n e may. same n _ refl;
      linked = λ link x n e o. same n _ refl;
      parted = λ link n e. same n _ refl;
      opened = λ link n own there e f may. record { timers = timed-set c E link (opening (period_of c link n.parts)) n.parts.timers };
      stepped = λ link input step n own e k. record { timers = timed-set c E link step n.parts.timers };
      passed = λ link n e k. same n _ refl;
      busied = λ link n own e f. record { timers = timed_busy-set c E link n.parts.timers };
      resumed = λ link n own e f o. record { timers = timed_busy_ended-set c E link (whole.outstanding n.queues link) n.parts.timers };
      accepted = λ link d confirmed n own e f. record {
        timers = timed_confirming-set c E link (link_at n.parts link).peer_busy confirmed (whole.outstanding (whole.accepted n.queues link d.fsn d.bsn (carries d)) link) n.parts.timers;
      };
      sent = λ link next n own e. record { timers = timed_sending-set c E link n.parts.timers };
      put = λ link n set e b. same n _ refl;
      back = λ link n e may. same n _ refl;
      fails = λ link why n may up. fails-sets (in_service n.parts link) link why n;
      orders = λ link number n falls ends. orders-sets link number n;
      acknowledges = λ link number n may wait. acknowledges-sets (changeover_of n.parts link).awaited link number n;
      expires = λ timer link n may wait. expires-sets (is_link n.parts link) timer link n;
      releases = λ link n e wait. record { timers = clear-set c E (name.T2 link) n.parts.timers (λ s d e. absurd cc) };
      asks = λ link n e.
          let stopped : Running = clear_timer (name.T1 link) n.parts.timers in
          let asks : Node WholeQueues = with_parts n (asking c link n.parts) in
          both n asks _
          (record { timers = both-set c E n.parts.timers stopped asks.parts.timers (clear-set c E (name.T1 link) n.parts.timers (λ s d f. absurd cc)) (set-set c E (name.T2 link) c.timers.t2 stopped refl) })
          (send_routed-steps sets-sends (changeover_order c link (whole.last_accepted n.queues link)) asks);
      returns = λ before after code link other n e f. returns-sets before after code link other n;
      frees = λ set code n may. record { timers = clear-set c E (name.T4 set code) n.parts.timers (λ s d e. absurd cc) };
      reroutes = reroutes-sets;
      lifts = λ procedure n may. same n _ refl;
    }

module _ (c : Configuration) where
  -- wherever T8 may stop
  free-rules : IsOfRules c any any (Sets c any)
  free-rules = sets-rules c any any anything (λ set m. tt)

  -- ---- a tick: of what it lowered, each is handed out that is due

  handed_out-sets : (due : Option TimerName) (n : Node WholeQueues) → due_name n.parts.timers ≡ due → Sets c any n (with_timers n (after_due n.parts.timers))
  handed_out-sets None n e = same c any n _ (after-none n.parts.timers e)
  handed_out-sets (Some its) n e = record {
    timers = subst (AreSet c any n.parts.timers) (sym (after-clear its n.parts.timers e)) (clear-set c any its n.parts.timers (λ s d f. tt));
  }

  next-sets : (n : Node WholeQueues) → Sets c any n (run_next whole c n)
  next-sets n = run_next-steps free-rules n (handed_out-sets (due_name n.parts.timers) n refl) (λ link. tt)

  abbrev begun : Node WholeQueues → Node WholeQueues
  begun n = with_timers n (ticked n.parts.timers)

  times-sets : (many : ℕ) (n : Node WholeQueues) → Sets c any n (run_times whole c many n)
  times-sets zero n = same c any n n refl
  times-sets (suc many) n = both c any n (run_next whole c n) _ (next-sets n) (times-sets many (run_next whole c n))

  -- any other event
  quiet-sets : (what : Happening) (n : Node WholeQueues) → (what ≡ Ticked → ⊥) → Sets c any n (apply whole c what n).left
  quiet-sets what n other = apply-steps free-rules what n (λ link own. tt) (λ link own. tt) (λ e. absurd (other e))

  ticked-sets : (n : Node WholeQueues) → Sets c any (begun n) (apply whole c Ticked n).left
  unfolding apply
  ticked-sets n =
      let ran : Node WholeQueues = run_all whole c (begun n) in
      let counted : Node WholeQueues = (tick whole c n).left in
      let ordered : Node WholeQueues = order_all whole c counted in
      both c any (begun n) ordered _
      (both c any (begun n) counted ordered
      (both c any (begun n) ran counted (times-sets (due_count (ticked n.parts.timers)) (begun n)) (same c any ran counted refl))
      (order_all-steps free-rules counted))
      (settled-steps free-rules ordered)

pub events-set : events_set_timers_to_their_settings
events-set Ticked a timer =
    subst (λ (left : Option ℕ). RunsBy a.settings.timers timer left ((apply whole a.settings Ticked a.node).left.parts.timers.left timer)) (left-ticked timer a.node.parts.timers)
    ((ticked-sets a.settings a.node).timers.each timer)
events-set (CameUp link) a timer = (quiet-sets a.settings (CameUp link) a.node (λ e. cc)).timers.each timer
events-set (WentDown link) a timer = (quiet-sets a.settings (WentDown link) a.node (λ e. cc)).timers.each timer
events-set (FrameCame link text) a timer = (quiet-sets a.settings (FrameCame link text) a.node (λ e. cc)).timers.each timer
events-set (Submitted message) a timer = (quiet-sets a.settings (Submitted message) a.node (λ e. cc)).timers.each timer
events-set (Activated link emergency) a timer = (quiet-sets a.settings (Activated link emergency) a.node (λ e. cc)).timers.each timer
events-set (Deactivated link) a timer = (quiet-sets a.settings (Deactivated link) a.node (λ e. cc)).timers.each timer
events-set (Released link) a timer = (quiet-sets a.settings (Released link) a.node (λ e. cc)).timers.each timer
events-set (TitleAdded row refused) a timer = (quiet-sets a.settings (TitleAdded row refused) a.node (λ e. cc)).timers.each timer
events-set (TitleSet row refused) a timer = (quiet-sets a.settings (TitleSet row refused) a.node (λ e. cc)).timers.each timer
events-set (TitleRemoved key digits) a timer = (quiet-sets a.settings (TitleRemoved key digits) a.node (λ e. cc)).timers.each timer

pub takes-set : takes_set_timers_to_their_settings
takes-set a link timer = (take-steps (free-rules a.settings) link a.node tt).timers.each timer

-- ---- so none has more ticks left

abbrev IsAtMost : (c : Configuration) → TimerName → ℕ → Type 0
IsAtMost c timer left = (period : Period) × (is_bar : Bool) × (left ≤ max 1 (setting_of (paced period (barring is_bar c.timers)) timer))

abbrev IsWithin : (c : Configuration) → TimerName → Option ℕ → Type 0
IsWithin c timer o = (left : ℕ) → o ≡ Some left → IsAtMost c timer left

same-left : (k l : ℕ) → Some k ≡ Some l → k ≡ l
same-left k l e = cc

runs-within : (c : Configuration) (timer : TimerName) (x y : Option ℕ) → RunsBy c.timers timer x y → IsWithin c timer x → IsWithin c timer y
runs-within c timer x y (inl e) h left f = h left (sym e ∙ f)
runs-within c timer x y (inr (inl e)) h left f =
    let same : max 1 (setting_of (paced e.0 (barring e.1 c.timers)) timer) ≡ left = same-left _ _ (sym e.2 ∙ f) in
    (e.0, e.1, omega (arith, same))
runs-within c timer x y (inr (inr e)) h left f = (let no : None ≡ Some left = sym e ∙ f in absurd cc)

lowered-within : (c : Configuration) (timer : TimerName) (x : Option ℕ) → IsWithin c timer x → IsWithin c timer (one_less x)
lowered-within c timer None h left e = absurd cc
lowered-within c timer (Some k) h left e =
    let most : IsAtMost c timer k = h k refl in
    (most.0, most.1, omega (arith, most.2, same-left (k - 1) left e))

begun-within : (c : Configuration) (timer : TimerName) (what : Happening) (x : Option ℕ) → IsWithin c timer x → IsWithin c timer (left_by what x)
begun-within c timer Ticked x h = lowered-within c timer x h
begun-within c timer (CameUp link) x h = h
begun-within c timer (WentDown link) x h = h
begun-within c timer (FrameCame link text) x h = h
begun-within c timer (Submitted message) x h = h
begun-within c timer (Activated link emergency) x h = h
begun-within c timer (Deactivated link) x h = h
begun-within c timer (Released link) x h = h
begun-within c timer (TitleAdded row refused) x h = h
begun-within c timer (TitleSet row refused) x h = h
begun-within c timer (TitleRemoved key digits) x h = h

asked-within : (timer : TimerName) (asking : Asking) (a : Abstract) → IsWithin a.settings timer (a.node.parts.timers.left timer)
    → IsWithin a.settings timer ((after_asking asking a).node.parts.timers.left timer)
asked-within timer (Happens what) a h =
    runs-within a.settings timer (left_by what (a.node.parts.timers.left timer)) _ (events-set what a timer) (begun-within a.settings timer what (a.node.parts.timers.left timer) h)
asked-within timer (Takes link) a h = runs-within a.settings timer (a.node.parts.timers.left timer) _ (takes-set a link timer) h
asked-within timer (AsksWants link) a h = h

all-within : (timer : TimerName) (asked : List Asking) (a : Abstract) → IsWithin a.settings timer (a.node.parts.timers.left timer)
    → IsWithin a.settings timer ((after_each asked a).node.parts.timers.left timer)
all-within timer [] a h = h
all-within timer (asking ∷ others) a h =
    let next : Abstract = after_asking asking a in
    subst (λ (c : Configuration). IsWithin c timer ((after_each others next).node.parts.timers.left timer)) (settings-stay asking a)
    (all-within timer others next (subst (λ (c : Configuration). IsWithin c timer (next.node.parts.timers.left timer)) (sym (settings-stay asking a)) (asked-within timer asking a h)))

pub timers-keep : timers_keep_their_settings
timers-keep c asked timer =
    all-within timer asked (first_state c)
    (λ left e. (let no : None ≡ Some left = sym (left-none timer (first_state c).node.parts.timers.counts) ∙ e in absurd cc))

pub paced-is : only_l4_is_paced
paced-is ticks = record { fixed = refl; normal = refl; hurried = refl; emergency = λ link. refl; rest = refl }

pub barred-is : only_t2_is_barred
barred-is ticks = record { without = refl; bar = λ link. refl; rest = refl }
