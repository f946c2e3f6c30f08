-- A hold ends only as its word comes or its timer runs out.
use Rattle.exchange_rules.proofs.Basics.{◌≡◌, ◌≢◌, ◌⊎◌, inl, inr, ℕ, Bool, true, false, ◌||◌, ◌&&◌, List, [], ◌∷◌, Option, Some, None, refl, ap, sym, ◌∙◌, subst, if◌then◌else◌}
use Rattle.exchange_rules.proofs.Definitions.{Configuration, FailureReason, ChangeoverTimer, Procedure, Changeover, Code, Reroute, HoldSet, holds, lifted, with_hold, with_flows, may_hold, flows_leave, flows_add, Facts, completed, Parts, Node, with_parts, in_service, is_link, down, has_other, is_ordered, set_of, is_failed, is_taken_back, suspended, facts, Found, fail_link, make_unavailable, change_over, begin, changing, changeover_order, begin_by_peer, fail, fail_by_peer, fail_by_order, complete_if, concluded, complete_by_order, on_changeover_order, on_changeover_acknowledgement, on_changeover_timer, changeover_acknowledgement, changeover_of, with_changeover, with_changeover_acknowledged, with_expiry, without_tests, answer, Handled, Ignored, hold_flows, procedure_by, held_by_rerouting, WholeQueues, whole, Outgoing, SendsMessage, SendsNothing, SendsStatus, Acknowledges, after_sending, goes_out, bar, barred, asking}
use Rattle.signalling_types.specs.declared.notice.FailureReason.TheVariants as reasons
use Rattle.signalling_types.specs.declared.notice.ChangeoverTimer.TheVariants as which
use Rattle.changeback.specs.Rerouting.{held_for}
use Rattle.flow_hold.proofs.Pairing.{leaves_others}
use Rattle.flow_hold.proofs.Holding.{keeps_pairs}
use Rattle.exchange_rules.specs.LawsOfCauses.{holds_end_so, takes_leave_holds}
use Rattle.exchange_rules.proofs.Asked.{any}
use Rattle.exchange_rules.proofs.Steps.{Deed, HoldsEnd, IsOfSends, IsOfDeeds, outed, either-steps, either_done-steps}
use Rattle.exchange_rules.proofs.SteppingMessages.{send_routed-steps, send_each-steps}
use Rattle.exchange_rules.proofs.WillEnding.{no-way, losses-alike, judged-alike}
use Rattle.exchange_rules.proofs.EndingProcedures.{cases-procedure}
use Rattle.exchange_rules.proofs.Causes.{Cause, event-deeds}

-- what a procedure held and doesn't hold now, it may end
pub record Ends (May : Deed → Type 0) (n m : Node WholeQueues) : Type 0 where
  pub ends : (procedure : Procedure) (destination sls : ℕ) → holds n.parts.holds procedure destination sls ≡ true → holds m.parts.holds procedure destination sls ≡ false
      → May (HoldsEnd procedure)

-- flows that are added leave all that was held
kept-flows : (h : HoldSet) (procedure : Procedure) (test : ℕ → ℕ → Bool) (other : Procedure) (destination sls : ℕ) → holds h other destination sls ≡ true
    → holds (with_flows h procedure test) other destination sls ≡ true
kept-flows h procedure test other destination sls e = by (cases-procedure other procedure)
  where
    or-true : (b : Bool) → (b || true) ≡ true
    or-true true = refl
    or-true false = refl

    by : (other ≡ procedure) ⊎ (other ≢ procedure) → holds (with_flows h procedure test) other destination sls ≡ true
    by (inl same) =
        subst (λ (x : Procedure). holds (with_flows h procedure test) x destination sls ≡ true) (sym same)
        (flows_add h procedure test destination sls
        ∙ ap (λ (b : Bool). (may_hold h procedure destination sls && test destination sls) || b) (subst (λ (x : Procedure). holds h x destination sls ≡ true) same e)
        ∙ or-true (may_hold h procedure destination sls && test destination sls))
    by (inr apart) = flows_leave h procedure other test destination sls apart ∙ e

kept-for : (destination : ℕ) (selections : List ℕ) (h : HoldSet) (other : Procedure) (its sls : ℕ) → holds h other its sls ≡ true → holds (held_for destination selections h) other its sls ≡ true
kept-for destination [] h other its sls e = e
kept-for destination (one ∷ others) h other its sls e =
    kept-for destination others (with_hold h (Reroute destination) destination one) other its sls (keeps_pairs h (Reroute destination) other destination one its sls e)

module _ (May : Deed → Type 0) where
  grown : (n m : Node WholeQueues) → ((procedure : Procedure) (destination sls : ℕ) → holds n.parts.holds procedure destination sls ≡ true → holds m.parts.holds procedure destination sls ≡ true)
      → Ends May n m
  grown n m keeps = record { ends = λ procedure destination sls e f. no-way (holds m.parts.holds procedure destination sls) f (keeps procedure destination sls e) }

  same : (n m : Node WholeQueues) → m.parts.holds ≡ n.parts.holds → Ends May n m
  same n m e = grown n m (λ procedure destination sls f. ap (λ (h : HoldSet). holds h procedure destination sls) e ∙ f)

  both-end : (n m o : Node WholeQueues) → Ends May n m → Ends May m o → Ends May n o
  both-end n m o e f = record { ends = λ procedure destination sls g h. by procedure destination sls g h (holds m.parts.holds procedure destination sls) refl }
    where
      by : (procedure : Procedure) (destination sls : ℕ) → holds n.parts.holds procedure destination sls ≡ true → holds o.parts.holds procedure destination sls ≡ false
          → (b : Bool) → holds m.parts.holds procedure destination sls ≡ b → May (HoldsEnd procedure)
      by procedure destination sls g h true is = f.ends procedure destination sls is h
      by procedure destination sls g h false is = e.ends procedure destination sls g is

  -- what a procedure holds ends, if it may
  lifts : (procedure : Procedure) (n m : Node WholeQueues) → m.parts.holds ≡ lifted n.parts.holds procedure → May (HoldsEnd procedure) → Ends May n m
  lifts procedure n m e may = record { ends = λ other destination sls g h. by other destination sls g h (cases-procedure procedure other) }
    where
      by : (other : Procedure) (destination sls : ℕ) → holds n.parts.holds other destination sls ≡ true → holds m.parts.holds other destination sls ≡ false
          → (procedure ≡ other) ⊎ (procedure ≢ other) → May (HoldsEnd other)
      by other destination sls g h (inl is) = subst (λ (x : Procedure). May (HoldsEnd x)) is may
      by other destination sls g h (inr apart) =
          no-way (holds m.parts.holds other destination sls) h
          (ap (λ (x : HoldSet). holds x other destination sls) e ∙ leaves_others n.parts.holds procedure other destination sls apart ∙ g)

  module _ (c : Configuration) where
    sends : IsOfSends c (Ends May)
    sends = record {
      none = λ n. same n n refl;
      both = both-end;
      routed = λ link m n e. same n _ refl;
      noted = λ notice n e. same n _ refl;
      lost = λ notice n e. same n _ refl;
      counted = λ messages broken n. same n _ refl;
    }

    -- ---- a link fails

    gone : (served : Bool) (link : ℕ) (why : FailureReason) (n : Node WholeQueues) → Ends May n (make_unavailable whole c served link why n)
    gone false link why n = same n _ refl
    gone true link why n = by (has_other c link failed)
      where
        held : Parts
        held = suspended c link (whole.unconfirmed n.queues link) n.parts

        failed : Parts
        failed = fail_link link why held

        keeps : (procedure : Procedure) (destination sls : ℕ) → holds n.parts.holds procedure destination sls ≡ true → holds held.holds procedure destination sls ≡ true
        keeps = kept-flows n.parts.holds (Changeover link) (is_failed c (facts c n.parts) link (whole.unconfirmed n.queues link))

        by : (others : Bool) → Ends May n (with_parts n (if others then failed else without_tests (set_of c link) failed))
        by true = grown n _ keeps
        by false = grown n _ keeps

    begun : (ordered : Bool) (link : ℕ) (n : Node WholeQueues) → Ends May n (begin whole c ordered link n)
    begun true link n =
        let next : Node WholeQueues = with_parts n (changing c true link n.parts) in
        both-end n next _ (same n next refl) (send_routed-steps sends (changeover_order c link (whole.last_accepted n.queues link)) next)
    begun false link n = same n _ refl

    changed : (served : Bool) (link : ℕ) (n : Node WholeQueues) → Ends May n (change_over whole c served link n)
    changed true link n = begun (is_ordered c link n.parts) link n
    changed false link n = same n n refl

    fails : (link : ℕ) (why : FailureReason) (n : Node WholeQueues) → Ends May n (fail whole c link why n)
    fails link why n =
        let serves : Bool = in_service n.parts link in
        both-end n (make_unavailable whole c serves link why n) _ (gone serves link why n) (changed serves link (make_unavailable whole c serves link why n))

    begun_by_peer : (served : Bool) (link : ℕ) (n : Node WholeQueues) → Ends May n (begin_by_peer whole c served link n)
    begun_by_peer true link n = same n _ refl
    begun_by_peer false link n = same n n refl

    fails_by_order : (link : ℕ) (n : Node WholeQueues) → Ends May n (fail_by_order whole c link n)
    fails_by_order link n =
        let serves : Bool = in_service n.parts link in
        let left : Node WholeQueues = make_unavailable whole c serves link reasons.Changeover n in
        either-steps sends (down n.parts link) n n (fail_by_peer whole c link n) (same n n refl)
        (both-end n left _ (gone serves link reasons.Changeover n) (begun_by_peer serves link left))

    -- ---- a changeover is completed

    completes : (incomplete : Bool) (link : ℕ) (number : Option ℕ) (n : Node WholeQueues) → May (HoldsEnd (Changeover link)) → Ends May n (complete_if whole c incomplete link number n)
    completes true link number n may =
        let found : Found = whole.found n.queues link number in
        let done : Node WholeQueues = record { queues = whole.completed n.queues link number; parts = concluded link found n.parts } in
        both-end n done _
        (lifts (Changeover link) n done
        (ap (λ (h : HoldSet). lifted h (Changeover link)) ((judged-alike found.is_reasonable _).holds ∙ (losses-alike found.lost n.parts).holds)) may)
        (send_each-steps sends found.queued_anew done)
    completes false link number n may = same n n refl

    orders : (link : ℕ) (number : Option ℕ) (n : Node WholeQueues) → May (HoldsEnd (Changeover link)) → Ends May n (on_changeover_order whole c link number n).left
    orders link number n may =
        let fallen : Node WholeQueues = fail_by_order whole c link n in
        let one : Node WholeQueues = bar whole c link fallen in
        let marked : Node WholeQueues = with_parts one (with_changeover link (completed (changeover_of one.parts link)) one.parts) in
        let two : Node WholeQueues = complete_by_order whole c link number one in
        both-end n one _ (both-end n fallen one (fails_by_order link n) (same fallen one refl))
        (both-end one two _ (both-end one marked two (same one marked refl) (completes (changeover_of one.parts link).incomplete link number marked may))
        (send_routed-steps sends (changeover_acknowledgement c link (whole.last_accepted two.queues link)) two))

    acknowledges : (link : ℕ) (number : Option ℕ) (n : Node WholeQueues) → May (HoldsEnd (Changeover link)) → Ends May n (on_changeover_acknowledgement whole c link number n).left
    acknowledges link number n may =
        let marked : Node WholeQueues = with_parts n (with_changeover_acknowledged link n.parts) in
        let done : Node WholeQueues = complete_if whole c (changeover_of n.parts link).incomplete link number marked in
        either_done-steps sends (changeover_of n.parts link).awaited n (answer Handled done) (answer Ignored n)
        (both-end n marked done (same n marked refl) (completes (changeover_of n.parts link).incomplete link number marked may)) (same n n refl)

    expires : (timer : ChangeoverTimer) (link : ℕ) (n : Node WholeQueues) → May (HoldsEnd (Changeover link)) → Ends May n (on_changeover_timer whole c timer link n)
    expires timer link n may =
        let marked : Node WholeQueues = with_parts n (with_expiry c timer link (barred c link n.parts)) in
        let done : Node WholeQueues = complete_if whole c (changeover_of n.parts link).incomplete link None marked in
        either-steps sends (is_link n.parts link) n done n
        (both-end n marked done (same n marked (expired timer)) (completes (changeover_of n.parts link).incomplete link None marked may)) (same n n refl)
      where
        expired : (its : ChangeoverTimer) → (with_expiry c its link (barred c link n.parts)).holds ≡ n.parts.holds
        expired which.T1 = refl
        expired which.T2 = refl

    -- ---- flows are held

    returns : (before after : Facts) (code : Option ℕ) (link other : ℕ) (n : Node WholeQueues) → Ends May n (hold_flows whole c before after code link other n)
    returns before after (Some code) link other n = grown n _ (kept-flows n.parts.holds (procedure_by c link (Some code)) (is_taken_back before after other link))
    returns before after None link other n = grown n _ (kept-flows n.parts.holds (procedure_by c link None) (is_taken_back before after other link))

    reroutes : (destination : ℕ) (selections : List ℕ) (n : Node WholeQueues) → Ends May n (with_parts n (held_by_rerouting c destination selections n.parts))
    reroutes destination [] n = same n _ refl
    reroutes destination (sls ∷ others) n = grown n _ (kept-for destination (sls ∷ others) n.parts.holds)

    pub ends-deeds : IsOfDeeds c any any May (Ends May)
    ends-deeds = record {
      sends = sends;
      tested = λ link point test n e f. same n _ refl;
      probed = λ link n e. same n _ refl;
      held = λ m n e. same n _ refl;
      taken_out = λ n. same n _ refl;
      late = λ notice n e. same n _ refl;
      timed = λ r n e k. same n _ refl;
      rerouted = λ routes n e k. same n _ refl;
      told = λ t n e. same n _ refl;
      titled = λ rows n may. same n _ refl;
      unequipped = λ counts n e may. same n _ refl;
      linked = λ link x n e o. same n _ refl;
      parted = λ link n e. same n _ refl;
      opened = λ link n own there e f may. same n _ refl;
      stepped = λ link input step n own e k. same n _ refl;
      passed = λ link n e k. same n _ refl;
      busied = λ link n own e f. same n _ refl;
      resumed = λ link n own e f o. same n _ refl;
      accepted = λ link d confirmed n own e f. same n _ refl;
      sent = λ link next n own e. same n _ refl;
      put = λ link n set e b. grown n _ (kept-flows n.parts.holds (Changeover link) (is_failed c (facts c (outed link n.parts)) link (whole.unconfirmed n.queues link)));
      back = λ link n e may. lifts (Changeover link) n _ refl may;
      fails = λ link why n may up. fails link why n;
      orders = λ link number n falls may. orders link number n may;
      acknowledges = λ link number n may wait. acknowledges link number n may;
      expires = λ timer link n may wait. expires timer link n may;
      releases = λ link n e wait. same n _ refl;
      asks = λ link n e.
          let asks : Node WholeQueues = with_parts n (asking c link n.parts) in
          both-end n asks _ (same n asks refl) (send_routed-steps sends (changeover_order c link (whole.last_accepted n.queues link)) asks);
      returns = λ before after code link other n e f. returns before after code link other n;
      frees = λ set code n may. lifts (Code set code) n _ refl may;
      reroutes = reroutes;
      lifts = λ procedure n may. lifts procedure n _ refl may;
    }

pub holds-end : holds_end_so
holds-end what a = (event-deeds what a (Ends (Cause what a)) (ends-deeds (Cause what a) a.settings) (λ r m. same (Cause what a) m _ refl)).ends

pub takes-leave : takes_leave_holds
takes-leave a link = by (goes_out whole a.settings link a.node)
  where
    by : (out : Outgoing) → (after_sending whole a.settings link a.node out).parts.holds ≡ a.node.parts.holds
    by (SendsStatus status) = refl
    by (SendsMessage next) = refl
    by Acknowledges = refl
    by SendsNothing = refl
