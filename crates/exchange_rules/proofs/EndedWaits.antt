-- The answer to an order isn't awaited any more only as it comes, as T2 runs out, or by the operator.
use Rattle.exchange_rules.proofs.Basics.{and_parts, not, ◌≡◌, ◌≢◌, ◌⊎◌, inl, inr, ℕ, Bool, true, false, List, [], ◌∷◌, Option, Some, None, refl, ap, sym, subst, ◌∙◌, ⊎_elim, cases_eq, if◌then◌else◌}
use Rattle.exchange_rules.proofs.Definitions.{Configuration, FailureReason, ChangeoverTimer, Facts, Message, flow_of, no_room, link_of, Standing, no_changeover, acknowledged, completed, expired, failed, bars, barred, Node, with_parts, answer, Handled, Ignored, in_service, is_link, down, link_at, is_ordered, make_unavailable, changing, begin, change_over, changeover_order, changeover_of, asking, is_late, is_unasked, has_way, order_late, with_order, with_changeover, with_changeover_acknowledged, complete_if, with_expiry, on_changeover_timer, on_changeover_acknowledgement, hold_flows, held_by_rerouting, Outgoing, SendsStatus, SendsMessage, Acknowledges, SendsNothing, after_sending, goes_out, Happening, Abstract, WholeQueues, whole}
use Rattle.signalling_types.specs.declared.notice.ChangeoverTimer.TheVariants as which
use Rattle.exchange_rules.specs.Exchange.{after}
use Rattle.exchange_rules.specs.LastingLinks.{AreLinksSteady}
use Rattle.exchange_rules.specs.LawsOfWaits.{takes_leave_waits}
use Rattle.exchange_rules.proofs.AnsweredOrders.{complete_if-changeovers, order-awaits}
use Rattle.exchange_rules.proofs.Asked.{any}
use Rattle.exchange_rules.proofs.Causes.{Cause, MayEndWait, event-deeds}
use Rattle.exchange_rules.proofs.EndingChangeovers.{gone-alike}
use Rattle.exchange_rules.proofs.Lists.{alike-at}
use Rattle.exchange_rules.proofs.OrdersByAnyRoute.{send-changeovers}
use Rattle.exchange_rules.proofs.RestingLinks.{Rested, Rests, rests-rules, timers-rest}
use Rattle.exchange_rules.proofs.Serving.{serves-up}
use Rattle.exchange_rules.proofs.Steps.{Deed, WaitEnds, IsOfSends, IsOfDeeds, IsOfRules}
use Rattle.exchange_rules.proofs.WillEnding.{no-way, other-standing}

-- an answer that was awaited and isn't now: that is allowed
pub record Waits (May : Deed → Type 0) (n m : Node WholeQueues) : Type 0 where
  pub rests : Rests n m
  pub ends : Rested n → (link : ℕ) → (changeover_of n.parts link).awaited ≡ true → (changeover_of m.parts link).awaited ≡ false → May (WaitEnds link)

module _ (May : Deed → Type 0) where
  -- all stay awaited
  kept-waits : (n m : Node WholeQueues) → Rests n m → (Rested n → (link : ℕ) → (changeover_of n.parts link).awaited ≡ true → (changeover_of m.parts link).awaited ≡ true) → Waits May n m
  kept-waits n m k e = record { rests = k; ends = λ h link a f. no-way (changeover_of m.parts link).awaited f (e h link a) }

  same-waits : (n m : Node WholeQueues) → Rests n m → m.parts.changeovers ≡ n.parts.changeovers → Waits May n m
  same-waits n m k same =
      kept-waits n m k (λ h link a. ap (λ (all : List Standing). (changeover_of (record n.parts { changeovers = all }) link).awaited) same ∙ a)

  -- but for that of one link
  set-waits : (link : ℕ) (s : Standing) (n m : Node WholeQueues) → Rests n m → m.parts.changeovers ≡ (with_changeover link s n.parts).changeovers → May (WaitEnds link) → Waits May n m
  set-waits link s n m k same may = record { rests = k; ends = λ h other a f. by other a f (cases_eq other link) }
    where
      by : (other : ℕ) → (changeover_of n.parts other).awaited ≡ true → (changeover_of m.parts other).awaited ≡ false → (other ≡ link) ⊎ (other ≢ link) → May (WaitEnds other)
      by other a f (inl is) = subst (λ (k : ℕ). May (WaitEnds k)) (sym is) may
      by other a f (inr apart) =
          no-way (changeover_of m.parts other).awaited f
          (ap (λ (all : List Standing). (changeover_of (record n.parts { changeovers = all }) other).awaited) same
          ∙ ap (λ (x : Standing). x.awaited) (other-standing n.parts.changeovers link other s n.parts apart) ∙ a)

  both-wait : (n m o : Node WholeQueues) → Waits May n m → Waits May m o → Waits May n o
  both-wait n m o e f = record {
    rests = record { stay = λ h. f.rests.stay (e.rests.stay h) };
    ends = λ h link a g. by h link a g (changeover_of m.parts link).awaited refl;
  }
    where
      by : Rested n → (link : ℕ) → (changeover_of n.parts link).awaited ≡ true → (changeover_of o.parts link).awaited ≡ false → (b : Bool) → (changeover_of m.parts link).awaited ≡ b → May (WaitEnds link)
      by h link a g true is = f.ends (e.rests.stay h) link is g
      by h link a g false is = e.ends h link a is

  module _ (c : Configuration) where
    -- ---- a link fails

    pub begin-changeovers : (ordered : Bool) (link : ℕ) (n : Node WholeQueues) → (begin whole c ordered link n).parts.changeovers ≡ (with_changeover link (failed ordered (changeover_of n.parts link)) n.parts).changeovers
    begin-changeovers true link n =
        let m : Message = changeover_order c link (whole.last_accepted n.queues link) in
        let next : Node WholeQueues = with_parts n (changing c true link n.parts) in
        send-changeovers c (no_room whole c m next.queues) (link_of c next.parts (flow_of m)) m next
    begin-changeovers false link n = refl

    -- in service, no answer about it was awaited
    fails-keep : (served : Bool) (link : ℕ) (why : FailureReason) (n : Node WholeQueues) → in_service n.parts link ≡ served → Rested n → (other : ℕ) → (changeover_of n.parts other).awaited ≡ true
        → (changeover_of (change_over whole c served link (make_unavailable whole c served link why n)).parts other).awaited ≡ true
    fails-keep false link why n e h other a = a
    fails-keep true link why n e h other a = by (cases_eq other link)
      where
        gone : Node WholeQueues
        gone = make_unavailable whole c true link why n

        begins : Node WholeQueues
        begins = begin whole c (is_ordered c link gone.parts) link gone

        by : (other ≡ link) ⊎ (other ≢ link) → (changeover_of begins.parts other).awaited ≡ true
        by (inl is) =
            no-way (down n.parts link) (serves-up (link_at n.parts link).alignment e)
            (subst (λ (k : ℕ). down n.parts k ≡ true) is (h.each other (inr a)))
        by (inr apart) =
            ap (λ (all : List Standing). (changeover_of (record n.parts { changeovers = all }) other).awaited) (begin-changeovers (is_ordered c link gone.parts) link gone)
            ∙ ap (λ (x : Standing). x.awaited) (other-standing gone.parts.changeovers link other (failed (is_ordered c link gone.parts) (changeover_of gone.parts link)) gone.parts apart)
            ∙ ap (λ (all : List Standing). (changeover_of (record n.parts { changeovers = all }) other).awaited) (gone-alike c link why n).changeovers
            ∙ a

    -- ---- an answer, and a timer

    acknowledged-waits : (link : ℕ) (number : Option ℕ) (n : Node WholeQueues) → Rests n (on_changeover_acknowledgement whole c link number n).left → May (WaitEnds link)
        → Waits May n (on_changeover_acknowledgement whole c link number n).left
    acknowledged-waits link number n k may = by (changeover_of n.parts link).awaited k
      where
        next : Node WholeQueues
        next = with_parts n (with_changeover_acknowledged link n.parts)

        done : Node WholeQueues
        done = complete_if whole c (changeover_of n.parts link).incomplete link number next

        by : (b : Bool) → Rests n (if b then answer Handled done else answer Ignored n).left → Waits May n (if b then answer Handled done else answer Ignored n).left
        by true r = set-waits link (acknowledged (changeover_of n.parts link)) n done r (complete_if-changeovers c (changeover_of n.parts link).incomplete link number next) may
        by false r = same-waits n n r refl

    expired-waits : (timer : ChangeoverTimer) (link : ℕ) (n : Node WholeQueues) → Rests n (on_changeover_timer whole c timer link n) → (timer ≡ which.T2 → May (WaitEnds link))
        → Waits May n (on_changeover_timer whole c timer link n)
    expired-waits timer link n k may = by (is_link n.parts link) k
      where
        next : Node WholeQueues
        next = with_parts n (with_expiry c timer link (barred c link n.parts))

        done : Node WholeQueues
        done = complete_if whole c (changeover_of n.parts link).incomplete link None next

        its : (t : ChangeoverTimer) → t ≡ timer → Rests n done → Waits May n done
        its which.T1 is r =
            kept-waits n done r
            (λ h other a. ap (λ (all : List Standing). (changeover_of (record n.parts { changeovers = all }) other).awaited) (complete_if-changeovers c (changeover_of n.parts link).incomplete link None next
            ∙ subst (λ (t : ChangeoverTimer). (with_expiry c t link (barred c link n.parts)).changeovers ≡ (with_changeover link (completed (changeover_of n.parts link)) n.parts).changeovers) is refl)
            ∙ alike-at (λ (x : Standing). x.awaited) n.parts.changeovers link other (completed (changeover_of n.parts link)) no_changeover refl ∙ a)
        its which.T2 is r =
            set-waits link (expired (bars c) which.T2 (changeover_of n.parts link)) n done r
            (complete_if-changeovers c (changeover_of n.parts link).incomplete link None next
            ∙ subst (λ (t : ChangeoverTimer). (with_expiry c t link (barred c link n.parts)).changeovers ≡ (with_changeover link (expired (bars c) which.T2 (changeover_of n.parts link)) n.parts).changeovers) is refl)
            (may (sym is))

        by : (there : Bool) → Rests n (if there then done else n) → Waits May n (if there then done else n)
        by true r = its timer refl r
        by false r = same-waits n n r refl

    -- ---- an order goes out late: no answer about its link was awaited

    asks-keep : (link : ℕ) (n : Node WholeQueues) → is_late c link n.parts ≡ true → (other : ℕ) → (changeover_of n.parts other).awaited ≡ true
        → (changeover_of (order_late whole c link n).parts other).awaited ≡ true
    asks-keep link n late other a = by (cases_eq other link)
      where
        m : Message
        m = changeover_order c link (whole.last_accepted n.queues link)

        asks : Node WholeQueues
        asks = with_parts n (asking c link n.parts)

        unasked : is_unasked (changeover_of n.parts link) ≡ true
        unasked = (and_parts (is_unasked (changeover_of n.parts link)) (has_way c link n.parts) late).0

        both-ways : (b : Bool) → not b ≡ true → b ≡ true → ⊥
        both-ways true e f = cc
        both-ways false e f = cc

        by : (other ≡ link) ⊎ (other ≢ link) → (changeover_of (order_late whole c link n).parts other).awaited ≡ true
        by (inl is) =
            absurd (both-ways (changeover_of n.parts link).awaited (and_parts (changeover_of n.parts link).incomplete (not (changeover_of n.parts link).awaited) unasked).1
            (subst (λ (k : ℕ). (changeover_of n.parts k).awaited ≡ true) is a))
        by (inr apart) =
            ap (λ (all : List Standing). (changeover_of (record n.parts { changeovers = all }) other).awaited)
            (send-changeovers c (no_room whole c m asks.queues) (link_of c asks.parts (flow_of m)) m asks)
            ∙ ap (λ (x : Standing). x.awaited) (other-standing n.parts.changeovers link other (with_order (changeover_of n.parts link)) n.parts apart) ∙ a

    -- ---- flows are held

    pub returns-changeovers : (before after : Facts) (code : Option ℕ) (link other : ℕ) (n : Node WholeQueues) → (hold_flows whole c before after code link other n).parts.changeovers ≡ n.parts.changeovers
    returns-changeovers before after (Some code) link other n = refl
    returns-changeovers before after None link other n = refl

    pub reroutes-changeovers : (destination : ℕ) (selections : List ℕ) (n : Node WholeQueues) → (held_by_rerouting c destination selections n.parts).changeovers ≡ n.parts.changeovers
    reroutes-changeovers destination [] n = refl
    reroutes-changeovers destination (sls ∷ others) n = refl

    abbrev rests : IsOfRules c any any Rests
    rests = rests-rules c

    sends : IsOfSends c (Waits May)
    sends = record {
      none = λ n. same-waits n n (rests.sends.none n) refl;
      both = both-wait;
      routed = λ link m n e. same-waits n _ (rests.sends.routed link m n e) refl;
      noted = λ notice n e. same-waits n _ (rests.sends.noted notice n e) refl;
      lost = λ notice n e. same-waits n _ (rests.sends.lost notice n e) refl;
      counted = λ messages broken n. same-waits n _ (rests.sends.counted messages broken n) refl;
    }

    waits-deeds : IsOfDeeds c any any May (Waits May)
    waits-deeds = record {
      sends = sends;
      tested = λ link point test n e f. same-waits n _ (rests.tested link point test n e f) refl;
      probed = λ link n e. same-waits n _ (rests.probed link n e) refl;
      held = λ m n e. same-waits n _ (rests.held m n e) refl;
      taken_out = λ n. same-waits n _ (rests.taken_out n) refl;
      late = λ notice n e. same-waits n _ (rests.late notice n e) refl;
      timed = λ r n e k. same-waits n _ (timers-rest n _ refl refl) refl;
      rerouted = λ routes n e k. same-waits n _ (rests.rerouted routes n e k) refl;
      told = λ t n e. same-waits n _ (rests.told t n e) refl;
      titled = λ titles n may. same-waits n _ (rests.titled titles n tt) refl;
      unequipped = λ counts n e may. same-waits n _ (rests.unequipped counts n e tt) refl;
      linked = λ link x n e o. same-waits n _ (rests.linked link x n e o) refl;
      parted = λ link n e. same-waits n _ (rests.parted link n e) refl;
      opened = λ link n own there e f may. same-waits n _ (rests.opened link n own there e f tt) refl;
      stepped = λ link input step n own e k. same-waits n _ (rests.stepped link input step n own e k) refl;
      passed = λ link n e k. same-waits n _ (rests.passed link n e k) refl;
      busied = λ link n own e f. same-waits n _ (rests.busied link n own e f) refl;
      resumed = λ link n own e f o. same-waits n _ (rests.resumed link n own e f o) refl;
      accepted = λ link d confirmed n own e f. same-waits n _ (rests.accepted link d confirmed n own e f) refl;
      sent = λ link next n own e. same-waits n _ (rests.sent link next n own e) refl;
      put = λ link n set e b. same-waits n _ (rests.put link n set e b) refl;
      back = λ link n e may. same-waits n _ (rests.back link n e tt) refl;
      fails = λ link why n may up. kept-waits n _ (rests.fails link why n tt up) (fails-keep (in_service n.parts link) link why n refl);
      orders = λ link number n falls ends. kept-waits n _ (rests.orders link number n tt tt) (λ h other a. (order-awaits c link number n).same other ∙ a);
      acknowledges = λ link number n may wait. acknowledged-waits link number n (rests.acknowledges link number n tt tt) wait;
      expires = λ timer link n may wait. expired-waits timer link n (rests.expires timer link n tt (λ t2. tt)) wait;
      asks = λ link n e. kept-waits n _ (rests.asks link n e) (λ h other a. asks-keep link n e other a);
      releases = λ link n e wait. set-waits link (acknowledged (changeover_of n.parts link)) n _ (rests.releases link n e tt) refl wait;
      returns = λ before after code link other n e f. same-waits n _ (rests.returns before after code link other n e f) (returns-changeovers before after code link other n);
      frees = λ set code n may. same-waits n _ (rests.frees set code n tt) refl;
      reroutes = λ destination selections n. same-waits n _ (rests.reroutes destination selections n) (reroutes-changeovers destination selections n);
      lifts = λ procedure n may. same-waits n _ (rests.lifts procedure n tt) refl;
    }

-- each link that is steady rests
pub rested : (window : ℕ) (n : Node WholeQueues) → AreLinksSteady window n → Rested n
rested window n h = record {
  each = λ link p. ⊎_elim
      (λ (e : (changeover_of n.parts link).incomplete ≡ true). (h.each link).changing e) (λ (e : (changeover_of n.parts link).awaited ≡ true). (h.each link).awaiting e) p;
}

pub may-end : (what : Happening) (a : Abstract) (link : ℕ) → AreLinksSteady a.settings.window a.node → (changeover_of a.node.parts link).awaited ≡ true
    → (changeover_of (after whole what a).node.parts link).awaited ≡ false → MayEndWait link what a
may-end what a link steady awaited ended =
    (event-deeds what a (Waits (Cause what a)) (waits-deeds (Cause what a) a.settings) (λ r m. same-waits (Cause what a) m _ (timers-rest m _ refl refl) refl)).ends
    (rested a.settings.window a.node steady) link awaited ended

pub take-leaves : takes_leave_waits
take-leaves a link = by (goes_out whole a.settings link a.node)
  where
    by : (out : Outgoing) → (after_sending whole a.settings link a.node out).parts.changeovers ≡ a.node.parts.changeovers
    by (SendsStatus status) = refl
    by (SendsMessage next) = refl
    by Acknowledges = refl
    by SendsNothing = refl
