-- A link fails, and its changeover goes on and ends: every hold has its timer or its word all the while.
use Rattle.exchange_rules.proofs.Basics.{and_parts, not, ◌≡◌, inr, ◌&&◌, Some, is_some, ◌<◌, ℕ, Bool, true, false, List, length, Option, None, refl, ap, sym, ◌∙◌, subst, arith, ⊎_elim, get_or-set_other, get_or-set_same, nat_lt, if◌then◌else◌}
use Rattle.exchange_rules.proofs.Definitions.{Configuration, FailureReason, ChangeoverTimer, Changeover, HoldSet, holds, flows_leave, Standing, no_changeover, completed, acknowledged, failed, begun_by_peer, TimerName, Running, NodeCounts, is_running, clear_timer, left-clear_other, counts-clear, counts-clear_set, without_tests, answer, Handled, Ignored, Parts, Node, Found, with_parts, in_service, down, is_link, changeover_of, with_changeover, fail_link, has_other, is_ordered, set_of, suspended, is_failed, make_unavailable, changing, begin, change_over, fail_by_peer, begin_by_peer, facts, changeover_order, concluded, complete_if, fail_by_order, complete_by_order, changeover_acknowledgement, on_changeover_order, on_changeover_timer, with_expiry, with_changeover_acknowledged, down_link, link_at, after_failure, in_outage, WholeQueues, whole, HasAllPlaces, bar, barred, timed_bar, bars, expiry_notice, ends_wait, unbarred, broken_if, note, flagged, is_barred, awaits_incomplete, expired, has_name, left-set_other, is_late, order_late, asking, with_order, is_unasked, has_way, counts-set}
use Rattle.std.proofs.lemmas.Bool.{lt-ltb, ltb-true}
use Rattle.timers.specs.declared.name.TimerName.TheVariants as name
use Rattle.timers.specs.declared.name.RouteTimer.TheVariants as of_set
use Rattle.signalling_types.specs.declared.notice.FailureReason.TheVariants as reasons
use Rattle.signalling_types.specs.declared.notice.ChangeoverTimer.TheVariants as which
use Rattle.signalling_types.specs.declared.notice.Notice.TheVariants as notices
use Rattle.signalling_types.specs.declared.notice.Unbarring.TheVariants as unbarring
use Rattle.exchange_rules.specs.LastingHolds.{WillPass, AllWillEnd}
use Rattle.exchange_rules.proofs.LinkTimers.{without_timers-for}
use Rattle.exchange_rules.proofs.LastingPlaces.{places-steps, places-first, timers-keep}
use Rattle.exchange_rules.proofs.LastingPlaces as kept
use Rattle.exchange_rules.proofs.Moves.{serving-there}
use Rattle.exchange_rules.proofs.Steps.{IsOfSends, IsOfRules, ends_holds}
use Rattle.exchange_rules.proofs.Rules.{rules-of}
use Rattle.exchange_rules.proofs.Asked.{any}
use Rattle.exchange_rules.proofs.SteppingMessages.{send_routed-steps, send_each-steps}
use Rattle.exchange_rules.proofs.SteppingFailures.{complete_by_order-steps, concluded-steps, fail_by_order-steps, failing_by_peer-steps, fell-steps, timed_changeover-timed, bar-steps, expired-complete, barred-complete}
use Rattle.exchange_rules.proofs.WillEnding.{no-way, runs-as, LinkAs, link-same, link-both, links-same, link-set, idle-set, failed-passes, fails-passes, Alike, untested-alike, But, but-of, but-moved, alike-stay, other-standing, completes, is-complete, begins, asks-late, SameBut, Its, set-runs}
use Rattle.exchange_rules.proofs.TimerSettings.{set-still}

-- ---- from one node to another

pub record Stays (c : Configuration) (n m : Node WholeQueues) : Type 0 where
  pub places : kept.Keeps c n m
  pub ends : HasAllPlaces c n → AllWillEnd n.parts → AllWillEnd m.parts

module _ (c : Configuration) where
  pub places : IsOfRules c any any (kept.Keeps c)
  places = rules-of (places-steps c)

  pub alike : (n m : Node WholeQueues) → kept.Keeps c n m → Alike n.parts m.parts → Stays c n m
  alike n m k e = record { places = k; ends = λ h a. alike-stay n.parts m.parts e a }

  pub same-ends : (n m : Node WholeQueues) → kept.Keeps c n m → m.parts.holds ≡ n.parts.holds → m.parts.changeovers ≡ n.parts.changeovers
      → ((timer : TimerName) → ends_holds timer ≡ true → m.parts.timers.left timer ≡ n.parts.timers.left timer)
      → ((link : ℕ) → LinkAs (link_at n.parts link) (link_at m.parts link)) → Stays c n m
  same-ends n m k e f g h = alike n m k (record { links = h; holds = e; changeovers = f; timers = g })

  pub same-parts : (n m : Node WholeQueues) → kept.Keeps c n m → m.parts.holds ≡ n.parts.holds → m.parts.changeovers ≡ n.parts.changeovers → m.parts.timers ≡ n.parts.timers → m.parts.links ≡ n.parts.links → Stays c n m
  same-parts n m k e f g h = same-ends n m k e f (λ timer ends. ap (λ (r : Running). r.left timer) g) (links-same n.parts m.parts h)

  pub both-stay : (n m o : Node WholeQueues) → Stays c n m → Stays c m o → Stays c n o
  both-stay n m o e f = record { places = record { stay = λ h. f.places.stay (e.places.stay h) }; ends = λ h a. f.ends (e.places.stay h) (e.ends h a) }

  pub sends-stay : IsOfSends c (Stays c)
  sends-stay = record {
    none = λ n. same-parts n n (places.sends.none n) refl refl refl refl;
    both = both-stay;
    routed = λ link m n e. same-parts n _ (places.sends.routed link m n e) refl refl refl refl;
    noted = λ notice n e. same-parts n _ (places.sends.noted notice n e) refl refl refl refl;
    lost = λ notice n e. same-parts n _ (places.sends.lost notice n e) refl refl refl refl;
    counted = λ messages broken n. same-parts n _ (places.sends.counted messages broken n) refl refl refl refl;
  }

  -- ---- a link fails

  pub has-own : (n : Node WholeQueues) (link : ℕ) → HasAllPlaces c n → in_service n.parts link ≡ true → nat_lt link n.parts.timers.counts.links ≡ true
  has-own n link h e = lt-ltb link n.parts.timers.counts.links (omega (arith, serving-there n.parts link e, h.parts.links, h.timers.links))

  pub standing-there : (n : Node WholeQueues) (link : ℕ) → HasAllPlaces c n → in_service n.parts link ≡ true → link < length n.parts.changeovers
  standing-there n link h e = omega (arith, serving-there n.parts link e, h.parts.links, h.parts.changeovers)

  -- in service: its flows are held, and the link goes down
  module _ (link : ℕ) (why : FailureReason) (n : Node WholeQueues) where
    abbrev gone : Node WholeQueues
    gone = make_unavailable whole c true link why n

    abbrev held : Parts
    held = suspended c link (whole.unconfirmed n.queues link) n.parts

    pub gone-alike : Alike (fail_link link why held) gone.parts
    gone-alike = untested-alike (has_other c link (fail_link link why held)) (set_of c link) (fail_link link why held)

    pub gone-counts : gone.parts.timers.counts ≡ n.parts.timers.counts
    gone-counts = by (has_other c link (fail_link link why held))
      where
        by : (others : Bool) → (if others then fail_link link why held else without_tests (set_of c link) (fail_link link why held)).timers.counts ≡ n.parts.timers.counts
        by true = (without_timers-for link n.parts.timers).counts
        by false = counts-clear_set of_set.T10 (set_of c link) (fail_link link why held).timers ∙ (without_timers-for link n.parts.timers).counts

    gone-but : AllWillEnd n.parts → But link gone.parts
    gone-but a =
        but-moved link n.parts gone.parts
        (λ procedure destination sls apart e.
        sym (flows_leave n.parts.holds (Changeover link) procedure (is_failed c (facts c n.parts) link (whole.unconfirmed n.queues link)) destination sls apart)
        ∙ sym (ap (λ (x : HoldSet). holds x procedure destination sls) gone-alike.holds) ∙ e)
        (λ other apart. ap (λ (all : List Standing). changeover_of (record n.parts { changeovers = all }) other) gone-alike.changeovers)
        (λ timer ends out. gone-alike.timers timer ends ∙ (without_timers-for link n.parts.timers).endings timer ends)
        (λ other apart. link-both (link_at n.parts other) (link_at (fail_link link why held) other) (link_at gone.parts other)
        (subst (LinkAs (link_at n.parts other)) (sym (get_or-set_other n.parts.links link other (after_failure (link_at n.parts link)) down_link apart)) (link-same (link_at n.parts other)))
        (gone-alike.links other)) (but-of link n.parts a)

    gone-passes : AllWillEnd n.parts → WillPass (link_at gone.parts link)
    gone-passes a = (gone-alike.links link).passes (fails-passes n.parts link)

  begun : (ordered : Bool) (link : ℕ) (why : FailureReason) (n : Node WholeQueues) → HasAllPlaces c n → in_service n.parts link ≡ true → AllWillEnd n.parts
      → AllWillEnd (changing c ordered link (gone link why n).parts)
  begun ordered link why n h e a =
      let named : nat_lt link (gone link why n).parts.timers.counts.links ≡ true = ap (λ (x : NodeCounts). nat_lt link x.links) (gone-counts link why n) ∙ has-own n link h e in
      begins c ordered link n.parts (gone link why n).parts (gone-but link why n a) named named
      (subst (λ (all : List Standing). link < length all) (sym (gone-alike link why n).changeovers) (standing-there n link h e)) (gone-passes link why n a)

  dropped-alike : (link : ℕ) (why : FailureReason) (n : Node WholeQueues) → in_service n.parts link ≡ false → Alike n.parts (fail_link link why n.parts)
  dropped-alike link why n e = record {
    links = link-set n.parts link (after_failure (link_at n.parts link)) (idle-set (link_at n.parts link) (after_failure (link_at n.parts link)) e (failed-passes (link_at n.parts link)));
    holds = refl;
    changeovers = refl;
    timers = (without_timers-for link n.parts.timers).endings;
  }

  pub fails-by : (served : Bool) (link : ℕ) (why : FailureReason) (n : Node WholeQueues) → in_service n.parts link ≡ served → HasAllPlaces c n → AllWillEnd n.parts
      → AllWillEnd (change_over whole c served link (make_unavailable whole c served link why n)).parts
  fails-by false link why n e h a = alike-stay n.parts _ (dropped-alike link why n e) a
  fails-by true link why n e h a = by (is_ordered c link (gone link why n).parts)
    where
      by : (ordered : Bool) → AllWillEnd (begin whole c ordered link (gone link why n)).parts
      by true =
          let left : Node WholeQueues = gone link why n in
          let next : Node WholeQueues = with_parts left (changing c true link left.parts) in
          let k : kept.Keeps c n next =
          (places-steps c).both _ _ _ (fell-steps (places-steps c) link why (failed true (changeover_of left.parts link)) n e refl)
          ((places-steps c).timed _ _ (timed_changeover-timed c true link left.parts.timers)) in
          (send_routed-steps sends-stay (changeover_order c link (whole.last_accepted left.queues link)) next).ends (k.stay h) (begun true link why n h e a)
      by false = begun false link why n h e a

  -- ---- a changeover goes on and ends

  -- it is completed where it wasn't complete
  ended : (incomplete : Bool) (link : ℕ) (number : Option ℕ) (s : Standing) (n : Node WholeQueues) → (changeover_of n.parts link).incomplete ≡ incomplete
      → HasAllPlaces c n → But link n.parts → s.incomplete ≡ false → (s.awaited ≡ true → is_running (name.T2 link) n.parts.timers ≡ true)
      → (incomplete ≡ false → (destination sls : ℕ) → holds n.parts.holds (Changeover link) destination sls ≡ true → in_outage n.parts link ≡ true)
      → WillPass (link_at n.parts link)
      → AllWillEnd (complete_if whole c incomplete link number (with_parts n (with_changeover link s n.parts))).parts
  ended true link number s n e h b i waits unheld passes =
      let found : Found = whole.found n.queues link number in
      let done : Node WholeQueues = record { queues = whole.completed n.queues link number; parts = with_changeover link s n.parts } in
      let next : Node WholeQueues = with_parts done (concluded link found done.parts) in
      let k : kept.Keeps c n next =
      (places-steps c).both _ _ _ ((places-steps c).completed link number s n e i) (concluded-steps (places-steps c) link found done) in
      (send_each-steps sends-stay found.queued_anew next).ends (k.stay h) (completes link found s n.parts b i waits passes)
  ended false link number s n e h b i waits unheld passes = is-complete link s n.parts b i waits (unheld refl) passes

  -- a changeover that is complete holds nothing, but in an outage
  pub unheld-by : (link : ℕ) (p : Parts) → AllWillEnd p → (changeover_of p link).incomplete ≡ false → (destination sls : ℕ) → holds p.holds (Changeover link) destination sls ≡ true
      → in_outage p link ≡ true
  unheld-by link p a e destination sls held =
      ⊎_elim (λ (i : (changeover_of p link).incomplete ≡ true). no-way (changeover_of p link).incomplete e i) (λ (o : in_outage p link ≡ true). o) (a.holds (Changeover link) destination sls held)

  -- T2 of a link that is barred from now on is set anew
  bar-places : (link : ℕ) (n : Node WholeQueues) → HasAllPlaces c n → HasAllPlaces c (bar whole c link n)
  bar-places link n h = (bar-steps (places-steps c) link n).stay h

  bar-others : (ticks : Option ℕ) (is_barred : Bool) (link : ℕ) (r : Running) → SameBut (Its link) r (timed_bar ticks is_barred link r)
  bar-others (Some ticks) true link r timer ends out = left-set_other (name.T2 link) timer ticks r (λ e. out (inr (sym e)))
  bar-others (Some ticks) false link r timer ends out = refl
  bar-others None is_barred link r timer ends out = refl

  bar-but : (link : ℕ) (n : Node WholeQueues) → But link n.parts → But link (bar whole c link n).parts
  bar-but link n b =
      but-moved link n.parts (bar whole c link n).parts (λ procedure destination sls apart e. e) (λ other apart. refl)
      (bar-others c.timers.t2_bar (awaits_incomplete (changeover_of n.parts link)) link n.parts.timers) (λ other apart. link-same (link_at n.parts other)) b

  bar-still : (ticks : Option ℕ) (is_barred : Bool) (link : ℕ) (r : Running) (timer : TimerName) → is_running timer r ≡ true → is_running timer (timed_bar ticks is_barred link r) ≡ true
  bar-still (Some ticks) true link r timer e = set-still (name.T2 link) ticks r timer e
  bar-still (Some ticks) false link r timer e = e
  bar-still None is_barred link r timer e = e

  -- as long as the answer stays awaited T2 runs
  bar-runs : (link : ℕ) (st : Standing) (r : Running) → has_name r.counts (name.T2 link) ≡ true → (expired (bars c) which.T2 st).awaited ≡ true
      → is_running (name.T2 link) (timed_bar c.timers.t2_bar (awaits_incomplete st) link r) ≡ true
  bar-runs link st r has e = by c.timers.t2_bar st.incomplete st.awaited e
    where
      by : (ticks : Option ℕ) (incomplete awaited : Bool) → (expired (is_some ticks) which.T2 (record { incomplete = incomplete; awaited = awaited })).awaited ≡ true
          → is_running (name.T2 link) (timed_bar ticks (incomplete && awaited) link r) ≡ true
      by (Some ticks) true true f = set-runs (name.T2 link) ticks r has
      by (Some ticks) true false f = absurd cc
      by (Some ticks) false awaited f = absurd cc
      by None incomplete awaited f = absurd cc

  by_order : (link : ℕ) (number : Option ℕ) (n : Node WholeQueues) → HasAllPlaces c n → But link n.parts
      → ((changeover_of n.parts link).awaited ≡ true → is_running (name.T2 link) n.parts.timers ≡ true)
      → ((changeover_of n.parts link).incomplete ≡ false → (destination sls : ℕ) → holds n.parts.holds (Changeover link) destination sls ≡ true → in_outage n.parts link ≡ true)
      → WillPass (link_at n.parts link) → AllWillEnd (complete_by_order whole c link number (bar whole c link n)).parts
  by_order link number n h b waits unheld passes =
      ended (changeover_of n.parts link).incomplete link number (completed (changeover_of n.parts link)) (bar whole c link n) refl (bar-places link n h) (bar-but link n b) refl
      (λ e. bar-still c.timers.t2_bar (awaits_incomplete (changeover_of n.parts link)) link n.parts.timers (name.T2 link) (waits e)) unheld passes

  by_order-after : (link : ℕ) (number : Option ℕ) (n : Node WholeQueues) → HasAllPlaces c n → AllWillEnd n.parts → AllWillEnd (complete_by_order whole c link number (bar whole c link n)).parts
  by_order-after link number n h a = by_order link number n h (but-of link n.parts a) (a.changeovers link).awaited (unheld-by link n.parts a) (a.outages link)

  -- the order fails the link first, unless it is down
  fallen-by : (served : Bool) (link : ℕ) (number : Option ℕ) (n : Node WholeQueues) → in_service n.parts link ≡ served → HasAllPlaces c n → AllWillEnd n.parts
      → HasAllPlaces c (begin_by_peer whole c served link (make_unavailable whole c served link reasons.Changeover n))
      → AllWillEnd (complete_by_order whole c link number (bar whole c link (begin_by_peer whole c served link (make_unavailable whole c served link reasons.Changeover n)))).parts
  fallen-by false link number n e h a k =
      by_order-after link number _ k (alike-stay n.parts _ (dropped-alike link reasons.Changeover n e) a)
  fallen-by true link number n e h a k =
      by_order link number next k
      (but-moved link left.parts next.parts (λ procedure destination sls apart held. held) (λ other apart. other-standing left.parts.changeovers link other peers left.parts apart) (λ timer ends out. refl)
      (λ other apart. link-same (link_at left.parts other)) (gone-but link reasons.Changeover n a))
      (λ waits. runs-as (name.T2 link) n.parts.timers next.parts.timers
      ((gone-alike link reasons.Changeover n).timers (name.T2 link) refl ∙ (without_timers-for link n.parts.timers).endings (name.T2 link) refl)
      ((a.changeovers link).awaited (sym (ap (λ (all : List Standing). (changeover_of (record n.parts { changeovers = all }) link).awaited) (gone-alike link reasons.Changeover n).changeovers)
      ∙ sym (ap (λ (s : Standing). s.awaited) is) ∙ waits)))
      (λ complete destination sls held. no-way (changeover_of next.parts link).incomplete complete (ap (λ (s : Standing). s.incomplete) is)) (gone-passes link reasons.Changeover n a)
    where
      left : Node WholeQueues
      left = gone link reasons.Changeover n

      peers : Standing
      peers = begun_by_peer (changeover_of left.parts link)

      next : Node WholeQueues
      next = with_parts left (with_changeover link peers left.parts)

      is : changeover_of next.parts link ≡ peers
      is =
          get_or-set_same left.parts.changeovers link peers no_changeover
          (subst (λ (all : List Standing). link < length all) (sym (gone-alike link reasons.Changeover n).changeovers) (standing-there n link h e))

  orders-by : (is_down : Bool) (link : ℕ) (number : Option ℕ) (n : Node WholeQueues) → HasAllPlaces c n → AllWillEnd n.parts
      → AllWillEnd (complete_by_order whole c link number (bar whole c link (if is_down then n else fail_by_peer whole c link n))).parts
  orders-by true link number n h a = by_order-after link number n h a
  orders-by false link number n h a =
      fallen-by (in_service n.parts link) link number n refl h a ((failing_by_peer-steps (places-steps c) (in_service n.parts link) link n refl).stay h)

  pub orders-stay : (link : ℕ) (number : Option ℕ) (n : Node WholeQueues) → HasAllPlaces c n → AllWillEnd n.parts → AllWillEnd (on_changeover_order whole c link number n).left.parts
  orders-stay link number n h a =
      let fallen : Node WholeQueues = fail_by_order whole c link n in
      let one : Node WholeQueues = bar whole c link fallen in
      let two : Node WholeQueues = complete_by_order whole c link number one in
      let k : kept.Keeps c n two =
      (places-steps c).both _ _ _ (fail_by_order-steps (places-steps c) link n)
      ((places-steps c).both _ _ _ (bar-steps (places-steps c) link fallen) (complete_by_order-steps (places-steps c) link number one)) in
      (send_routed-steps sends-stay (changeover_acknowledgement c link (whole.last_accepted two.queues link)) two).ends (k.stay h) (orders-by (down n.parts link) link number n h a)

  -- T2 stops
  abbrev unwaited : (link : ℕ) (n : Node WholeQueues) → Node WholeQueues
  unwaited link n = with_parts n (record n.parts { timers = clear_timer (name.T2 link) n.parts.timers })

  pub acknowledges-by : (awaited : Bool) (link : ℕ) (number : Option ℕ) (n : Node WholeQueues) → HasAllPlaces c n → AllWillEnd n.parts
      → AllWillEnd (if awaited then answer Handled (complete_if whole c (changeover_of n.parts link).incomplete link number (with_parts n (with_changeover_acknowledged link n.parts)))
      else answer Ignored n).left.parts
  acknowledges-by false link number n h a = a
  acknowledges-by true link number n h a =
      ended (changeover_of n.parts link).incomplete link number (acknowledged (changeover_of n.parts link)) (unwaited link n) refl
      ((timers-keep c (clear_timer (name.T2 link) n.parts.timers) n (counts-clear (name.T2 link) n.parts.timers)).stay h)
      (but-moved link n.parts (unwaited link n).parts (λ procedure destination sls apart e. e) (λ other apart. refl)
      (λ timer ends out. left-clear_other (name.T2 link) timer n.parts.timers (λ e. out (inr (sym e)))) (λ other apart. link-same (link_at n.parts other)) (but-of link n.parts a))
      refl (λ e. absurd cc) (unheld-by link n.parts a) (a.outages link)

  -- a timer of it ran out, and doesn't run any more
  pub expires-at : (timer : ChangeoverTimer) (link : ℕ) (n : Node WholeQueues) → HasAllPlaces c n → But link n.parts → has_name n.parts.timers.counts (name.T2 link) ≡ true
      → ((changeover_of n.parts link).awaited ≡ true → (timer ≡ which.T1) → is_running (name.T2 link) n.parts.timers ≡ true)
      → ((changeover_of n.parts link).incomplete ≡ false → (destination sls : ℕ) → holds n.parts.holds (Changeover link) destination sls ≡ true → in_outage n.parts link ≡ true)
      → WillPass (link_at n.parts link)
      → AllWillEnd (complete_if whole c (changeover_of n.parts link).incomplete link None (with_parts n (with_expiry c timer link (barred c link n.parts)))).parts
  expires-at which.T1 link n h b has waits unheld passes =
      let first : Node WholeQueues = bar whole c link n in
      let noted : Node WholeQueues = with_parts first (note (notices.Expired which.T1 link) first.parts) in
      ended (changeover_of n.parts link).incomplete link None (completed (changeover_of n.parts link)) noted refl
      ((kept.notices-keep c noted.parts.notices n.parts.times_lost n.parts.times_late first).stay (bar-places link n h))
      (but-moved link first.parts noted.parts (λ procedure destination sls apart e. e) (λ other apart. refl) (λ timer ends out. refl) (λ other apart. link-same (link_at n.parts other)) (bar-but link n b)) refl
      (λ e. bar-still c.timers.t2_bar (awaits_incomplete (changeover_of n.parts link)) link n.parts.timers (name.T2 link) (waits e refl)) unheld passes
  expires-at which.T2 link n h b has waits unheld passes =
      let st : Standing = changeover_of n.parts link in
      let first : Node WholeQueues = bar whole c link n in
      let noted : Node WholeQueues = with_parts first (note (expiry_notice c which.T2 st link) (flagged first.parts)) in
      let breaks : Node WholeQueues = with_parts noted (broken_if (ends_wait c which.T2 st) noted.parts) in
      ended st.incomplete link None (expired (bars c) which.T2 st) breaks refl
      ((kept.counts-keep c n.parts.messages_lost breaks.parts.times_broken noted).stay
      ((kept.notices-keep c noted.parts.notices noted.parts.times_lost n.parts.times_late first).stay (bar-places link n h)))
      (but-moved link first.parts breaks.parts (λ procedure destination sls apart e. e) (λ other apart. refl) (λ timer ends out. refl) (λ other apart. link-same (link_at n.parts other)) (bar-but link n b))
      (expired-complete (bars c) st) (bar-runs link st n.parts.timers has) unheld passes

  pub expires-by : (timer : ChangeoverTimer) (link : ℕ) (n : Node WholeQueues) → HasAllPlaces c n → AllWillEnd n.parts → AllWillEnd (on_changeover_timer whole c timer link n).parts
  expires-by timer link n h a = by (is_link n.parts link) refl
    where
      has : is_link n.parts link ≡ true → nat_lt link n.parts.timers.counts.links ≡ true
      has there = lt-ltb link n.parts.timers.counts.links (omega (arith, ltb-true link (length n.parts.links) there, h.parts.links, h.timers.links))

      by : (there : Bool) → is_link n.parts link ≡ there
          → AllWillEnd (if there then complete_if whole c (changeover_of n.parts link).incomplete link None (with_parts n (with_expiry c timer link (barred c link n.parts))) else n).parts
      by true e = expires-at timer link n h (but-of link n.parts a) (has e) (λ e t1. (a.changeovers link).awaited e) (unheld-by link n.parts a) (a.outages link)
      by false e = a

  -- an order goes out late

  pub asks-stay : (link : ℕ) (n : Node WholeQueues) → is_late c link n.parts ≡ true → HasAllPlaces c n → AllWillEnd n.parts → AllWillEnd (order_late whole c link n).parts
  asks-stay link n late h a =
      let stands : Node WholeQueues = with_parts n (with_changeover link (with_order (changeover_of n.parts link)) n.parts) in
      let asks : Node WholeQueues = with_parts n (asking c link n.parts) in
      let unasked : is_unasked (changeover_of n.parts link) ≡ true = (and_parts (is_unasked (changeover_of n.parts link)) (has_way c link n.parts) late).0 in
      let k : kept.Keeps c n asks =
      (places-steps c).both _ _ _ ((places-steps c).asked link n unasked)
      (timers-keep c asks.parts.timers stands (counts-set (name.T2 link) c.timers.t2 (clear_timer (name.T1 link) n.parts.timers) ∙ counts-clear (name.T1 link) n.parts.timers)) in
      (send_routed-steps sends-stay (changeover_order c link (whole.last_accepted n.queues link)) asks).ends (k.stay h)
      (asks-late c link n.parts (but-of link n.parts a)
      (λ there. ap (λ (x : NodeCounts). nat_lt link x.links) (counts-clear (name.T1 link) n.parts.timers)
      ∙ lt-ltb link n.parts.timers.counts.links (omega (arith, there, h.parts.changeovers, h.timers.links)))
      (and_parts (changeover_of n.parts link).incomplete (not (changeover_of n.parts link).awaited) unasked).0 (a.outages link))

  -- the operator lets a link open

  pub releases-stay : (link : ℕ) (n : Node WholeQueues) → is_barred (changeover_of n.parts link) ≡ true → AllWillEnd n.parts → AllWillEnd (unbarred link n.parts)
  releases-stay link n e a =
      let stopped : Parts = (broken_if true (flagged (note (notices.Unbarred unbarring.Operator link) (unwaited link n).parts))) in
      is-complete link (acknowledged (changeover_of n.parts link)) stopped
      (but-moved link n.parts stopped (λ procedure destination sls apart held. held) (λ other apart. refl)
      (λ timer ends out. left-clear_other (name.T2 link) timer n.parts.timers (λ same. out (inr (sym same)))) (λ other apart. link-same (link_at n.parts other)) (but-of link n.parts a))
      refl (λ waits. absurd cc) (unheld-by link n.parts a (barred-complete (changeover_of n.parts link) e)) (a.outages link)
