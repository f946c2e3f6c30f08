-- Whatever happens, each link has the timer of its state.
use Rattle.exchange_rules.proofs.Basics.{◌≡◌, ◌≢◌, ◌<◌, ℕ, Bool, true, false, ◌&&◌, not, nat_lt, length, List, [], ◌∷◌, Option, Some, None, refl, ap, sym, subst, ◌∙◌, arith, ⊎_elim, cases_eq, if◌then◌else◌, is_some, get_or-set_same, length-set}
use Rattle.exchange_rules.proofs.Definitions.{period_of, Configuration, Message, FailureReason, ChangeoverTimer, Facts, opening, carries, completed, LinkTimer, TimerName, NodeCounts, Running, counts-set, counts-clear, counts-clear_set, left-set_other, left-clear_other, set_timer, clear_timer, timer_name, has_other, is_ordered, Found, Link, down_link, after_failure, Parts, Node, with_parts, link_at, in_service, down, is_link, set_of, suspended, fail_link, without_tests, make_unavailable, changing, begin, change_over, begin_by_peer, fail_by_peer, fail_by_order, complete_by_order, complete_if, concluded, lose_each, judged, changeover_of, with_changeover, changeover_order, changeover_acknowledgement, on_changeover_order, with_changeover_acknowledged, with_expiry, hold_flows, held_by_rerouting, answer, Handled, Ignored, WholeQueues, whole, bar, barred, timed_bar, awaits_incomplete, asking}
use Rattle.timers.specs.declared.name.TimerName.TheVariants as name
use Rattle.timers.specs.declared.name.RouteTimer.TheVariants as of_set
use Rattle.link.specs.declared.action.LinkTimer.TheVariants as timer
use Rattle.signalling_types.specs.declared.notice.FailureReason.TheVariants as reasons
use Rattle.signalling_types.specs.declared.notice.ChangeoverTimer.TheVariants as which
use Rattle.exchange_rules.proofs.Eased.{losses-timers, judged-timers}
use Rattle.exchange_rules.proofs.LinkTimers.{AreTimedFor, same-for, without_timers-for, timed-for, timed_sending-for, timed_confirming-for, timed_busy-for, timed_busy_ended-for}
use Rattle.exchange_rules.proofs.LinkWaits.{no-first, no-second, other-link}
use Rattle.exchange_rules.proofs.OnLink.{IsSet, is-set, is-same}
use Rattle.exchange_rules.proofs.Waiting.{Waits, waits-as, waits-linked, waits-parted, waits-failed, waits-stepped, waits-opened, waits-busied, waits-resumed, waits-but_seven, sending-others, confirming-others}
use Rattle.exchange_rules.proofs.Steps.{IsOfSends, IsOfRules, is_of_link}
use Rattle.exchange_rules.proofs.SteppingTimers.{clear_set-quiet}
use Rattle.exchange_rules.proofs.SteppingMessages.{send_routed-steps, send_each-steps}
use Rattle.exchange_rules.proofs.Asked.{any}

-- a link that is there has the timer of its state
pub record At (l : ℕ) (n : Node WholeQueues) : Type 0 where
  pub there : l < length n.parts.links
  pub named : nat_lt l n.parts.timers.counts.links ≡ true
  pub waits : Waits l (link_at n.parts l) n.parts.timers

pub record Keeps (l : ℕ) (n m : Node WholeQueues) : Type 0 where
  pub stay : At l n → At l m

pub of-link : (l : ℕ) (t : LinkTimer) → is_of_link (timer_name l t) ≡ true
of-link l timer.L1 = refl
of-link l timer.L2 = refl
of-link l timer.L3 = refl
of-link l timer.L4 = refl
of-link l timer.L6 = refl
of-link l timer.L7 = refl

-- a timer that is no link's is set or stopped
set-others : (its : TimerName) (ticks : ℕ) (r : Running) → is_of_link its ≡ false → (other : TimerName) → is_of_link other ≡ true → (set_timer its ticks r).left other ≡ r.left other
set-others its ticks r none other e =
    left-set_other its other ticks r (λ same. (let no : true ≡ false = sym e ∙ sym (ap is_of_link same) ∙ none in cc))

pub clear-others : (its : TimerName) (r : Running) → is_of_link its ≡ false → (other : TimerName) → is_of_link other ≡ true → (clear_timer its r).left other ≡ r.left other
clear-others its r none other e = left-clear_other its other r (λ same. (let no : true ≡ false = sym e ∙ sym (ap is_of_link same) ∙ none in cc))

-- links are what they were, and so are their timers
pub record Alike (n m : Node WholeQueues) : Type 0 where
  pub links : m.parts.links ≡ n.parts.links
  pub counts : m.parts.timers.counts ≡ n.parts.timers.counts
  pub timers : (its : TimerName) → is_of_link its ≡ true → m.parts.timers.left its ≡ n.parts.timers.left its

pub same-alike : (n m : Node WholeQueues) → m.parts.links ≡ n.parts.links → m.parts.timers ≡ n.parts.timers → Alike n m
same-alike n m e f = record { links = e; counts = ap (λ (r : Running). r.counts) f; timers = λ its h. ap (λ (r : Running). r.left its) f }

both-alike : (n m o : Node WholeQueues) → Alike n m → Alike m o → Alike n o
both-alike n m o e f = record { links = f.links ∙ e.links; counts = f.counts ∙ e.counts; timers = λ its h. f.timers its h ∙ e.timers its h }

module _ (l : ℕ) where
  pub alike : (n m : Node WholeQueues) → Alike n m → Keeps l n m
  alike n m e = record {
    stay = λ h. record {
      there = subst (λ (xs : List Link). l < length xs) (sym e.links) h.there;
      named = ap (λ (k : NodeCounts). nat_lt l k.links) e.counts ∙ h.named;
      waits = waits-as l _ _ _ _ (ap (λ (xs : List Link). link_at (record n.parts { links = xs }) l) e.links)
          (λ t. ap is_some (e.timers (timer_name l t) (of-link l t))) h.waits;
    };
  }

  same : (n m : Node WholeQueues) → m.parts.links ≡ n.parts.links → m.parts.timers ≡ n.parts.timers → Keeps l n m
  same n m e f = alike n m (same-alike n m e f)

  pub both : (n m o : Node WholeQueues) → Keeps l n m → Keeps l m o → Keeps l n o
  both n m o e f = record { stay = λ h. f.stay (e.stay h) }

  -- one link changes, and timers of it
  on-link : (k : ℕ) (x : Link) (n m : Node WholeQueues) → IsSet k x down_link n.parts.links m.parts.links → AreTimedFor k n.parts.timers m.parts.timers
      → (At k n → Waits k x m.parts.timers) → Keeps l n m
  on-link k x n m s t f = record {
    stay = λ h. ⊎_elim
        (λ (e : l ≡ k). subst (λ (i : ℕ). At i m) (sym e) (here (subst (λ (i : ℕ). At i n) e h)))
        (λ (apart : l ≢ k). record {
          there = omega (arith, h.there, s.size);
          named = ap (λ (c : NodeCounts). nat_lt l c.links) t.counts ∙ h.named;
          waits = waits-as l _ _ _ _ (s.others l apart) (λ its. ap is_some (t.rest (timer_name l its) (λ u. other-link k l u its apart) (no-first l k its) (no-second l k its))) h.waits;
        })
        (cases_eq l k);
  }
    where
      here : At k n → At k m
      here h = record {
        there = omega (arith, h.there, s.size);
        named = ap (λ (c : NodeCounts). nat_lt k c.links) t.counts ∙ h.named;
        waits = waits-as k x _ _ _ (s.here h.there) (λ its. refl) (f h);
      }

  -- ---- a link fails, whatever timer it had
  module _ (c : Configuration) where
    sends : IsOfSends c (Keeps l)
    sends = record {
      none = λ n. same n n refl refl;
      both = both;
      routed = λ link m n e. same n _ refl refl;
      noted = λ notice n e. same n _ refl refl;
      lost = λ notice n e. same n _ refl refl;
      counted = λ messages broken n. same n _ refl refl;
    }

    abbrev failed : (served : Bool) (link : ℕ) (why : FailureReason) (n : Node WholeQueues) → Parts
    failed served link why n = fail_link link why (if served then suspended c link (whole.unconfirmed n.queues link) n.parts else n.parts)

    failed-keeps : (served : Bool) (link : ℕ) (why : FailureReason) (n : Node WholeQueues) → Keeps l n (with_parts n (failed served link why n))
    failed-keeps true link why n =
        on-link link (after_failure (link_at n.parts link)) n _ (is-set n.parts.links link _ down_link) (without_timers-for link n.parts.timers) (λ h. waits-failed link (link_at n.parts link) n.parts.timers)
    failed-keeps false link why n =
        on-link link (after_failure (link_at n.parts link)) n _ (is-set n.parts.links link _ down_link) (without_timers-for link n.parts.timers) (λ h. waits-failed link (link_at n.parts link) n.parts.timers)

    untested-alike : (others : Bool) (link : ℕ) (n : Node WholeQueues) → Alike n (with_parts n (if others then n.parts else without_tests (set_of c link) n.parts))
    untested-alike true link n = same-alike n n refl refl
    untested-alike false link n = record {
      links = refl;
      counts = counts-clear_set of_set.T10 (set_of c link) n.parts.timers;
      timers = (clear_set-quiet {E = any} c of_set.T10 (set_of c link) n.parts.timers (λ e. tt)).links;
    }

    gone-alike : (served : Bool) (link : ℕ) (why : FailureReason) (n : Node WholeQueues)
        → Alike (with_parts n (failed served link why n)) (make_unavailable whole c served link why n)
    gone-alike true link why n = untested-alike (has_other c link (failed true link why n)) link (with_parts n (failed true link why n))
    gone-alike false link why n = same-alike _ _ refl refl

    gone-keeps : (served : Bool) (link : ℕ) (why : FailureReason) (n : Node WholeQueues) → Keeps l n (make_unavailable whole c served link why n)
    gone-keeps served link why n =
        both n (with_parts n (failed served link why n)) _ (failed-keeps served link why n) (alike _ _ (gone-alike served link why n))

    begun-keeps : (ordered : Bool) (link : ℕ) (n : Node WholeQueues) → Keeps l n (begin whole c ordered link n)
    begun-keeps true link n =
        let next : Node WholeQueues = with_parts n (changing c true link n.parts) in
        both n next _
        (alike n next (record { links = refl; counts = counts-set (name.T2 link) c.timers.t2 n.parts.timers; timers = set-others (name.T2 link) c.timers.t2 n.parts.timers refl }))
        (send_routed-steps sends (changeover_order c link (whole.last_accepted n.queues link)) next)
    begun-keeps false link n =
        alike n _ (record { links = refl; counts = counts-set (name.T1 link) c.timers.t1 n.parts.timers; timers = set-others (name.T1 link) c.timers.t1 n.parts.timers refl })

    changed-keeps : (served : Bool) (link : ℕ) (n : Node WholeQueues) → Keeps l n (change_over whole c served link n)
    changed-keeps true link n = begun-keeps (is_ordered c link n.parts) link n
    changed-keeps false link n = same n n refl refl

    fails-keeps : (served : Bool) (link : ℕ) (why : FailureReason) (n : Node WholeQueues) → Keeps l n (change_over whole c served link (make_unavailable whole c served link why n))
    fails-keeps served link why n =
        let gone : Node WholeQueues = make_unavailable whole c served link why n in
        both n gone _ (gone-keeps served link why n) (changed-keeps served link gone)

    -- the link itself has none after that, whatever timers ran before
    failed-at : (why : FailureReason) (n : Node WholeQueues) (p : Parts) → l < length p.links → nat_lt l p.timers.counts.links ≡ true → At l (with_parts n (fail_link l why p))
    failed-at why n p there named = record {
      there = omega (arith, there, length-set p.links l (after_failure (link_at p l)));
      named = ap (λ (k : NodeCounts). nat_lt l k.links) (without_timers-for l p.timers).counts ∙ named;
      waits = waits-as l _ _ _ _ (get_or-set_same p.links l (after_failure (link_at p l)) down_link there) (λ t. refl) (waits-failed l (link_at p l) p.timers);
    }

    pub fails-at : (served : Bool) (why : FailureReason) (n : Node WholeQueues) → l < length n.parts.links → nat_lt l n.parts.timers.counts.links ≡ true
        → At l (change_over whole c served l (make_unavailable whole c served l why n))
    fails-at served why n there named =
        (changed-keeps served l (make_unavailable whole c served l why n)).stay ((alike _ _ (gone-alike served l why n)).stay (by served))
      where
        by : (served : Bool) → At l (with_parts n (failed served l why n))
        by true = failed-at why n (suspended c l (whole.unconfirmed n.queues l) n.parts) there named
        by false = failed-at why n n.parts there named

    by_peer-keeps : (served : Bool) (link : ℕ) (n : Node WholeQueues) → Keeps l n (begin_by_peer whole c served link (make_unavailable whole c served link reasons.Changeover n))
    by_peer-keeps false link n = gone-keeps false link reasons.Changeover n
    by_peer-keeps true link n =
        let gone : Node WholeQueues = make_unavailable whole c true link reasons.Changeover n in
        both n gone _ (gone-keeps true link reasons.Changeover n) (same gone _ refl refl)

    ordered-keeps : (is_down : Bool) (link : ℕ) (n : Node WholeQueues) → Keeps l n (if is_down then n else fail_by_peer whole c link n)
    ordered-keeps true link n = same n n refl refl
    ordered-keeps false link n = by_peer-keeps (in_service n.parts link) link n

    -- ---- a changeover ends

    losses-links : (ms : List Message) (p : Parts) → (lose_each ms p).links ≡ p.links
    losses-links [] p = refl
    losses-links (m ∷ ms) p = losses-links ms _

    judged-links : (reasonable : Bool) (p : Parts) → (judged reasonable p).links ≡ p.links
    judged-links true p = refl
    judged-links false p = refl

    complete-keeps : (incomplete : Bool) (link : ℕ) (number : Option ℕ) (n : Node WholeQueues) → Keeps l n (complete_if whole c incomplete link number n)
    complete-keeps false link number n = same n n refl refl
    complete-keeps true link number n =
        let found : Found = whole.found n.queues link number in
        let lost : Node WholeQueues = with_parts n (judged found.is_reasonable (lose_each found.lost n.parts)) in
        let done : Node WholeQueues = record { queues = whole.completed n.queues link number; parts = concluded link found n.parts } in
        both n lost _
        (same n lost (judged-links found.is_reasonable (lose_each found.lost n.parts) ∙ losses-links found.lost n.parts)
        (judged-timers found.is_reasonable (lose_each found.lost n.parts) ∙ losses-timers found.lost n.parts))
        (both lost done _
        (alike lost done (record { links = refl; counts = counts-clear (name.T1 link) lost.parts.timers; timers = clear-others (name.T1 link) lost.parts.timers refl }))
        (send_each-steps sends found.queued_anew done))

    bar-keeps : (link : ℕ) (n : Node WholeQueues) → Keeps l n (bar whole c link n)
    bar-keeps link n = by c.timers.t2_bar (awaits_incomplete (changeover_of n.parts link))
      where
        by : (ticks : Option ℕ) (is_barred : Bool) → Keeps l n (with_parts n (record n.parts { timers = timed_bar ticks is_barred link n.parts.timers }))
        by (Some ticks) true = alike n _ (record { links = refl; counts = counts-set (name.T2 link) ticks n.parts.timers; timers = set-others (name.T2 link) ticks n.parts.timers refl })
        by (Some ticks) false = same n n refl refl
        by None is_barred = same n n refl refl

    orders-keeps : (link : ℕ) (number : Option ℕ) (n : Node WholeQueues) → Keeps l n (on_changeover_order whole c link number n).left
    orders-keeps link number n =
        let fallen : Node WholeQueues = fail_by_order whole c link n in
        let one : Node WholeQueues = bar whole c link fallen in
        let standing : Node WholeQueues = with_parts one (with_changeover link (completed (changeover_of one.parts link)) one.parts) in
        let two : Node WholeQueues = complete_by_order whole c link number one in
        both n one _ (both n fallen one (ordered-keeps (down n.parts link) link n) (bar-keeps link fallen))
        (both one two _ (both one standing two (same one standing refl refl) (complete-keeps (changeover_of one.parts link).incomplete link number standing))
        (send_routed-steps sends (changeover_acknowledgement c link (whole.last_accepted two.queues link)) two))

    acknowledges-keeps : (awaited : Bool) (link : ℕ) (number : Option ℕ) (n : Node WholeQueues)
        → Keeps l n (if awaited then answer Handled (complete_if whole c (changeover_of n.parts link).incomplete link number (with_parts n (with_changeover_acknowledged link n.parts)))
        else answer Ignored n).left
    acknowledges-keeps false link number n = same n n refl refl
    acknowledges-keeps true link number n =
        let next : Node WholeQueues = with_parts n (with_changeover_acknowledged link n.parts) in
        both n next _
        (alike n next (record { links = refl; counts = counts-clear (name.T2 link) n.parts.timers; timers = clear-others (name.T2 link) n.parts.timers refl }))
        (complete-keeps (changeover_of n.parts link).incomplete link number next)

    expiry-keeps : (its : ChangeoverTimer) (link : ℕ) (n : Node WholeQueues) → Keeps l n (with_parts n (with_expiry c its link (barred c link n.parts)))
    expiry-keeps which.T1 link n = both n (bar whole c link n) _ (bar-keeps link n) (same (bar whole c link n) _ refl refl)
    expiry-keeps which.T2 link n = both n (bar whole c link n) _ (bar-keeps link n) (same (bar whole c link n) _ refl refl)

    expires-keeps : (is_there : Bool) (its : ChangeoverTimer) (link : ℕ) (n : Node WholeQueues)
        → Keeps l n (if is_there then complete_if whole c (changeover_of n.parts link).incomplete link None (with_parts n (with_expiry c its link (barred c link n.parts))) else n)
    expires-keeps false its link n = same n n refl refl
    expires-keeps true its link n =
        let ran : Node WholeQueues = with_parts n (with_expiry c its link (barred c link n.parts)) in
        both n ran _ (expiry-keeps its link n) (complete-keeps (changeover_of n.parts link).incomplete link None ran)

    -- ---- flows are held

    returns-keeps : (before after : Facts) (code : Option ℕ) (link other : ℕ) (n : Node WholeQueues) → Keeps l n (hold_flows whole c before after code link other n)
    returns-keeps before after (Some code) link other n =
        alike n _ (record {
          links = refl;
          counts = counts-set (name.T4 (set_of c link) code) c.timers.t4 n.parts.timers;
          timers = set-others (name.T4 (set_of c link) code) c.timers.t4 n.parts.timers refl;
        })
    returns-keeps before after None link other n =
        alike n _ (record { links = refl; counts = counts-set (name.T3 link) c.timers.t3 n.parts.timers; timers = set-others (name.T3 link) c.timers.t3 n.parts.timers refl })

    reroutes-keeps : (destination : ℕ) (selections : List ℕ) (n : Node WholeQueues) → Keeps l n (with_parts n (held_by_rerouting c destination selections n.parts))
    reroutes-keeps destination [] n = same n n refl refl
    reroutes-keeps destination (sls ∷ others) n =
        alike n _ (record { links = refl; counts = counts-set (name.T6 destination) c.timers.t6 n.parts.timers; timers = set-others (name.T6 destination) c.timers.t6 n.parts.timers refl })

    -- ---- all rules

    not-associated : (association active : Bool) → (not association && active) ≡ true → association ≡ false
    not-associated true active e = absurd cc
    not-associated false active e = refl

    pub keeps-rules : IsOfRules c any any (Keeps l)
    keeps-rules = record {
      sends = sends;
      tested = λ link point test n e f. same n _ refl refl;
      probed = λ link n e. same n _ refl refl;
      held = λ m n e. same n _ refl refl;
      taken_out = λ n. same n _ refl refl;
      late = λ notice n e. same n _ refl refl;
      timed = λ r n e k. alike n _ (record { links = refl; counts = e.timed.counts; timers = e.links });
      rerouted = λ routes n e k. same n _ refl refl;
      told = λ t n e. same n _ refl refl;
      titled = λ rows n may. same n _ refl refl;
      unequipped = λ counts n e may. same n _ refl refl;
      linked = λ link x n e o.
          on-link link x n _ (is-set n.parts.links link x down_link) (same-for link n.parts.timers) (λ h. waits-linked link (link_at n.parts link) x n.parts.timers e.alignment e.association e.busy h.waits);
      parted = λ link n e.
          on-link link _ n _ (is-set n.parts.links link _ down_link) (same-for link n.parts.timers) (λ h. waits-parted link (link_at n.parts link) n.parts.timers e h.waits);
      opened = λ link n own there e f may.
          on-link link _ n _ (is-set n.parts.links link _ down_link) (timed-for link c (opening (period_of c link n.parts)) n.parts.timers)
          (λ h. waits-opened link c (period_of c link n.parts) (link_at n.parts link) n.parts.timers h.named (not-associated (link_at n.parts link).association (link_at n.parts link).active e) h.waits);
      stepped = λ link input step n own e k.
          on-link link _ n _ (is-set n.parts.links link _ down_link) (timed-for link c step n.parts.timers)
          (λ h. waits-stepped link c (link_at n.parts link) n.parts.timers input step h.named e h.waits);
      passed = λ link n e k. on-link link _ n _ (is-set n.parts.links link _ down_link) (same-for link n.parts.timers) (λ h. waits-linked link (link_at n.parts link) _ n.parts.timers refl refl refl h.waits);
      busied = λ link n own e f.
          on-link link _ n _ (is-set n.parts.links link _ down_link) (timed_busy-for link c n.parts.timers) (λ h. waits-busied link c (link_at n.parts link) n.parts.timers h.named e h.waits);
      resumed = λ link n own e f o.
          on-link link _ n _ (is-set n.parts.links link _ down_link) (timed_busy_ended-for link c (whole.outstanding n.queues link) n.parts.timers)
          (λ h. waits-resumed link c (link_at n.parts link) (whole.outstanding n.queues link) n.parts.timers h.named e h.waits);
      accepted = λ link d confirmed n own e f.
          let left : ℕ = whole.outstanding (whole.accepted n.queues link d.fsn d.bsn (carries d)) link in
          let busy : Bool = (link_at n.parts link).peer_busy in
          on-link link (link_at n.parts link) n _ (is-same n.parts.links link down_link) (timed_confirming-for link c busy confirmed left n.parts.timers)
          (λ h. waits-but_seven link c (link_at n.parts link) n.parts.timers _ (λ t g. confirming-others link c busy confirmed left t n.parts.timers h.named g) h.waits);
      sent = λ link next n own e.
          on-link link _ n _ (is-set n.parts.links link _ down_link) (timed_sending-for link c n.parts.timers)
          (λ h. waits-but_seven link c _ n.parts.timers _ (λ t g. sending-others link c t n.parts.timers h.named g)
          (waits-linked link (link_at n.parts link) _ n.parts.timers refl refl refl h.waits));
      put = λ link n set e b. on-link link _ n _ (is-set n.parts.links link _ down_link) (same-for link n.parts.timers) (λ h. waits-linked link (link_at n.parts link) _ n.parts.timers refl refl refl h.waits);
      back = λ link n e may. on-link link _ n _ (is-set n.parts.links link _ down_link) (same-for link n.parts.timers) (λ h. waits-linked link (link_at n.parts link) _ n.parts.timers refl refl refl h.waits);
      fails = λ link why n may up. fails-keeps (in_service n.parts link) link why n;
      orders = λ link number n falls ends. orders-keeps link number n;
      acknowledges = λ link number n may wait. acknowledges-keeps (changeover_of n.parts link).awaited link number n;
      expires = λ its link n may wait. expires-keeps (is_link n.parts link) its link n;
      asks = λ link n e.
          let stopped : Running = clear_timer (name.T1 link) n.parts.timers in
          let stops : Node WholeQueues = with_parts n (record n.parts { timers = stopped }) in
          let asks : Node WholeQueues = with_parts n (asking c link n.parts) in
          both n asks _
          (both n stops asks
          (alike n stops (record { links = refl; counts = counts-clear (name.T1 link) n.parts.timers; timers = clear-others (name.T1 link) n.parts.timers refl }))
          (alike stops asks (record { links = refl; counts = counts-set (name.T2 link) c.timers.t2 stopped; timers = set-others (name.T2 link) c.timers.t2 stopped refl })))
          (send_routed-steps sends (changeover_order c link (whole.last_accepted n.queues link)) asks);
      releases = λ link n e wait.
          alike n _ (record { links = refl; counts = counts-clear (name.T2 link) n.parts.timers; timers = clear-others (name.T2 link) n.parts.timers refl });
      returns = λ before after code link other n e f. returns-keeps before after code link other n;
      frees = λ set code n may.
          alike n _ (record { links = refl; counts = counts-clear (name.T4 set code) n.parts.timers; timers = clear-others (name.T4 set code) n.parts.timers refl });
      reroutes = reroutes-keeps;
      lifts = λ procedure n may. same n _ refl refl;
    }
