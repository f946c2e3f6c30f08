-- Each link that goes down is named as failed, and none is named without a cause.
use Rattle.exchange_rules.proofs.Basics.{◌≡◌, ◌≢◌, ◌&&◌, not, ◌<◌, ◌≤◌, ◌⊎◌, inl, inr, ℕ, Bool, true, false, List, [], ◌∷◌, Option, Some, None, refl, ap, sym, ◌∙◌, subst, arith, ⊎_elim, cases_eq, cases_lt, if◌then◌else◌, count_by}
use Rattle.exchange_rules.proofs.Definitions.{period_of, Configuration, Message, flow_of, LostUnconfirmed, note, FailureReason, ChangeoverTimer, Link, is_down, stepped, opened_by, after_failure, Facts, completed, Parts, Node, with_parts, link_at, links_with, in_service, is_link, down, has_other, is_ordered, set_of, suspended, Found, fail_link, make_unavailable, change_over, begin, changing, changeover_order, begin_by_peer, fail, fail_by_peer, fail_by_order, complete_if, concluded, lose, lose_each, judged, complete_by_order, on_changeover_order, on_changeover_acknowledgement, on_changeover_timer, changeover_acknowledgement, changeover_of, with_changeover, with_changeover_acknowledged, with_expiry, without_tests, answer, Handled, Ignored, hold_flows, held_by_rerouting, WholeQueues, whole, apply, Happening, CameUp, FrameCame, Ticked, Abstract, bar, barred, bars, expiry_notice, asking}
use Rattle.std.specs.Prelude.{Contains}
use Rattle.std.proofs.lemmas.List.Elements.{Contains-push}
use Rattle.signalling_types.specs.declared.notice.Notice.TheVariants as notices
use Rattle.signalling_types.specs.declared.notice.Unbarring.TheVariants as unbarring
use Rattle.signalling_types.specs.declared.notice.FailureReason.TheVariants as reasons
use Rattle.signalling_types.specs.declared.notice.ChangeoverTimer.TheVariants as which
use Rattle.exchange_rules.specs.LawsOfCauses.{links_fail_so, MayFail}
use Rattle.exchange_rules.proofs.NamedOnce.{named-in, at-most-one}
use Rattle.exchange_rules.specs.LawsOfCauses.{says_failed}
use Rattle.exchange_rules.proofs.Asked.{any}
use Rattle.exchange_rules.proofs.Serving.{goes-up}
use Rattle.exchange_rules.proofs.Steps.{Deed, LinkFails, IsOfSends, IsOfDeeds, loss-other, lateness-other, either-steps, either_done-steps, is_failure}
use Rattle.exchange_rules.proofs.SteppingMessages.{send_routed-steps, send_each-steps}
use Rattle.exchange_rules.proofs.WillEnding.{no-way}
use Rattle.exchange_rules.proofs.Causes.{Cause, event-deeds}
use Rattle.exchange_rules.proofs.NamingFailures.{Names, alike, both-name, deed_of, gone-down, link_of_notice, one, only, opening, others, same, stepped-up}

module _ (May : Deed → Type 0) where
  -- a link fails
  failing : (link : ℕ) (why : FailureReason) (x : Link) (n m : Node WholeQueues) → m.parts.notices ≡ (note (notices.Failed link why) n.parts).notices
      → m.parts.links ≡ links_with n.parts link x → is_down x.alignment ≡ true → May (LinkFails link why) → down n.parts link ≡ false → Names May n m
  failing link why x n m e f is may was = record {
    made = notices.Failed link why ∷ [];
    noted = e;
    causes = λ l w h. subst May (ap deed_of (only (notices.Failed link why) (notices.Failed l w) h)) may;
    ups = λ l w h. inl (subst (λ (k : ℕ). down n.parts k ≡ false) (failed-of l w h) was);
    downs = λ l w h. inl (subst (λ (k : ℕ). down m.parts k ≡ true) (failed-of l w h) (gone-down link x n m f is));
    opens = λ l before now.
        ⊎_elim (λ (same : l ≡ link). no-way (down n.parts link) was (subst (λ (k : ℕ). down n.parts k ≡ true) same before))
        (λ (apart : l ≢ link). no-way (down m.parts l) now (others link x n m f l apart ∙ before)) (cases_eq l link);
    named = λ l up gone. by l up gone (cases_eq l link);
    once = λ l. inl (at-most-one (says_failed l) (notices.Failed link why));
  }
    where
      failed-of : (l : ℕ) (w : FailureReason) → Contains (notices.Failed link why ∷ []) (notices.Failed l w) → link ≡ l
      failed-of l w h = ap link_of_notice (only (notices.Failed link why) (notices.Failed l w) h)

      by : (l : ℕ) → down n.parts l ≡ false → down m.parts l ≡ true → (l ≡ link) ⊎ (l ≢ link)
          → (w : FailureReason) × Contains (notices.Failed link why ∷ []) (notices.Failed l w)
      by l up gone (inl is) =
          subst (λ (k : ℕ). (w : FailureReason) × Contains (notices.Failed link why ∷ []) (notices.Failed k w)) (sym is) (why, Contains-push [] (notices.Failed link why))
      by l up gone (inr apart) = no-way (down n.parts l) up (sym (others link x n m f l apart) ∙ gone)

  module _ (c : Configuration) where
    sends : IsOfSends c (Names May)
    sends = record {
      none = λ n. same May n n refl refl;
      both = both-name May;
      routed = λ link m n e. same May n _ refl refl;
      noted = λ notice n e. one May notice n _ refl refl e.other;
      lost = λ notice n e. one May notice n _ refl refl (loss-other notice e);
      counted = λ messages broken n. same May n _ refl refl;
    }

    gone : (served : Bool) (link : ℕ) (why : FailureReason) (n : Node WholeQueues) → May (LinkFails link why) → down n.parts link ≡ false → Names May n (make_unavailable whole c served link why n)
    gone false link why n may up = failing link why (after_failure (link_at n.parts link)) n _ refl refl refl may up
    gone true link why n may up = by (has_other c link failed)
      where
        failed : Parts
        failed = fail_link link why (suspended c link (whole.unconfirmed n.queues link) n.parts)

        by : (others : Bool) → Names May n (with_parts n (if others then failed else without_tests (set_of c link) failed))
        by true = failing link why (after_failure (link_at n.parts link)) n _ refl refl refl may up
        by false = failing link why (after_failure (link_at n.parts link)) n _ refl refl refl may up

    begun : (ordered : Bool) (link : ℕ) (n : Node WholeQueues) → Names May n (begin whole c ordered link n)
    begun true link n =
        let next : Node WholeQueues = with_parts n (changing c true link n.parts) in
        both-name May n next _ (same May n next refl refl) (send_routed-steps sends (changeover_order c link (whole.last_accepted n.queues link)) next)
    begun false link n = same May n _ refl refl

    changed : (served : Bool) (link : ℕ) (n : Node WholeQueues) → Names May n (change_over whole c served link n)
    changed true link n = begun (is_ordered c link n.parts) link n
    changed false link n = same May n n refl refl

    fails : (link : ℕ) (why : FailureReason) (n : Node WholeQueues) → May (LinkFails link why) → down n.parts link ≡ false → Names May n (fail whole c link why n)
    fails link why n may up =
        let serves : Bool = in_service n.parts link in
        both-name May n (make_unavailable whole c serves link why n) _ (gone serves link why n may up) (changed serves link (make_unavailable whole c serves link why n))

    begun_by_peer : (served : Bool) (link : ℕ) (n : Node WholeQueues) → Names May n (begin_by_peer whole c served link n)
    begun_by_peer true link n = same May n _ refl refl
    begun_by_peer false link n = same May n n refl refl

    fails_by_order : (link : ℕ) (n : Node WholeQueues) → May (LinkFails link reasons.Changeover) → Names May n (fail_by_order whole c link n)
    fails_by_order link n may = by (down n.parts link) refl
      where
        serves : Bool
        serves = in_service n.parts link

        left : Node WholeQueues
        left = make_unavailable whole c serves link reasons.Changeover n

        by : (is : Bool) → down n.parts link ≡ is → Names May n (if is then n else fail_by_peer whole c link n)
        by true e = same May n n refl refl
        by false e = both-name May n left _ (gone serves link reasons.Changeover n may e) (begun_by_peer serves link left)

    -- ---- a changeover is completed

    loses : (ms : List Message) (n : Node WholeQueues) → Names May n (with_parts n (lose_each ms n.parts))
    loses [] n = same May n n refl refl
    loses (m ∷ ms) n =
        let next : Node WholeQueues = with_parts n (lose LostUnconfirmed m n.parts) in
        both-name May n next _ (one May (notices.Lost LostUnconfirmed (flow_of m).point (flow_of m).sls) n next refl refl refl) (loses ms next)

    judges : (reasonable : Bool) (n : Node WholeQueues) → Names May n (with_parts n (judged reasonable n.parts))
    judges true n = same May n n refl refl
    judges false n = same May n _ refl refl

    concludes : (link : ℕ) (found : Found) (n : Node WholeQueues) → Names May n (with_parts n (concluded link found n.parts))
    concludes link found n =
        let lost : Node WholeQueues = with_parts n (lose_each found.lost n.parts) in
        let judges-it : Node WholeQueues = with_parts lost (judged found.is_reasonable lost.parts) in
        both-name May n lost _ (loses found.lost n) (both-name May lost judges-it _ (judges found.is_reasonable lost) (same May judges-it _ refl refl))

    completes : (incomplete : Bool) (link : ℕ) (number : Option ℕ) (n : Node WholeQueues) → Names May n (complete_if whole c incomplete link number n)
    completes true link number n =
        let found : Found = whole.found n.queues link number in
        let emptied : Node WholeQueues = record n { queues = whole.completed n.queues link number } in
        let done : Node WholeQueues = with_parts emptied (concluded link found n.parts) in
        both-name May n emptied _ (same May n emptied refl refl) (both-name May emptied done _ (concludes link found emptied) (send_each-steps sends found.queued_anew done))
    completes false link number n = same May n n refl refl

    orders : (link : ℕ) (number : Option ℕ) (n : Node WholeQueues) → May (LinkFails link reasons.Changeover) → Names May n (on_changeover_order whole c link number n).left
    orders link number n may =
        let fallen : Node WholeQueues = fail_by_order whole c link n in
        let left : Node WholeQueues = bar whole c link fallen in
        let marked : Node WholeQueues = with_parts left (with_changeover link (completed (changeover_of left.parts link)) left.parts) in
        let done : Node WholeQueues = complete_by_order whole c link number left in
        both-name May n left _ (both-name May n fallen left (fails_by_order link n may) (same May fallen left refl refl))
        (both-name May left done _ (both-name May left marked done (same May left marked refl refl) (completes (changeover_of left.parts link).incomplete link number marked))
        (send_routed-steps sends (changeover_acknowledgement c link (whole.last_accepted done.queues link)) done))

    acknowledges : (link : ℕ) (number : Option ℕ) (n : Node WholeQueues) → Names May n (on_changeover_acknowledgement whole c link number n).left
    acknowledges link number n =
        let marked : Node WholeQueues = with_parts n (with_changeover_acknowledged link n.parts) in
        let done : Node WholeQueues = complete_if whole c (changeover_of n.parts link).incomplete link number marked in
        either_done-steps sends (changeover_of n.parts link).awaited n (answer Handled done) (answer Ignored n)
        (both-name May n marked done (same May n marked refl refl) (completes (changeover_of n.parts link).incomplete link number marked)) (same May n n refl refl)

    expired : (timer : ChangeoverTimer) (link : ℕ) (n : Node WholeQueues) → Names May n (with_parts n (with_expiry c timer link (barred c link n.parts)))
    expired which.T1 link n = one May (notices.Expired which.T1 link) n _ refl refl refl
    expired which.T2 link n = one May (expiry_notice c which.T2 (changeover_of n.parts link) link) n _ refl refl (by (bars c && not (changeover_of n.parts link).incomplete))
      where
        by : (b : Bool) → is_failure (if b then notices.Unbarred unbarring.T2 link else notices.Expired which.T2 link) ≡ false
        by true = refl
        by false = refl

    expires : (timer : ChangeoverTimer) (link : ℕ) (n : Node WholeQueues) → Names May n (on_changeover_timer whole c timer link n)
    expires timer link n =
        let marked : Node WholeQueues = with_parts n (with_expiry c timer link (barred c link n.parts)) in
        let done : Node WholeQueues = complete_if whole c (changeover_of n.parts link).incomplete link None marked in
        either-steps sends (is_link n.parts link) n done n
        (both-name May n marked done (expired timer link n) (completes (changeover_of n.parts link).incomplete link None marked)) (same May n n refl refl)

    returns : (before after : Facts) (code : Option ℕ) (link other : ℕ) (n : Node WholeQueues) → Names May n (hold_flows whole c before after code link other n)
    returns before after (Some code) link other n = same May n _ refl refl
    returns before after None link other n = same May n _ refl refl

    reroutes : (destination : ℕ) (selections : List ℕ) (n : Node WholeQueues) → Names May n (with_parts n (held_by_rerouting c destination selections n.parts))
    reroutes destination [] n = same May n _ refl refl
    reroutes destination (sls ∷ others) n = same May n _ refl refl

    names-deeds : IsOfDeeds c any any May (Names May)
    names-deeds = record {
      sends = sends;
      tested = λ link point test n e f. same May n _ refl refl;
      probed = λ link n e. same May n _ refl refl;
      held = λ m n e. same May n _ refl refl;
      taken_out = λ n. same May n _ refl refl;
      late = λ notice n e. one May notice n _ refl refl (lateness-other notice e);
      timed = λ r n e k. same May n _ refl refl;
      rerouted = λ routes n e k. same May n _ refl refl;
      told = λ t n e. same May n _ refl refl;
      titled = λ rows n may. same May n _ refl refl;
      unequipped = λ counts n e may. same May n _ refl refl;
      linked = λ link x n e o. alike May link x n _ refl refl (ap is_down e.alignment);
      parted = λ link n e. alike May link _ n _ refl refl refl;
      opened = λ link n own there e f may. opening May link (opened_by c (period_of c link n.parts) (link_at n.parts link)) n _ refl refl refl may;
      stepped = λ link input step n own e k. alike May link (stepped step (link_at n.parts link)) n _ refl refl (stepped-up (link_at n.parts link).period (link_at n.parts link).alignment input step e ∙ sym (goes-up (link_at n.parts link).period (link_at n.parts link).alignment input step e));
      passed = λ link n e k. alike May link _ n _ refl refl refl;
      busied = λ link n own e f. alike May link _ n _ refl refl refl;
      resumed = λ link n own e f o. alike May link _ n _ refl refl refl;
      accepted = λ link d confirmed n own e f. same May n _ refl refl;
      sent = λ link next n own e. alike May link _ n _ refl refl refl;
      put = λ link n set e b. alike May link _ n _ refl refl refl;
      back = λ link n e may. alike May link _ n _ refl refl refl;
      fails = fails;
      orders = λ link number n may ends. orders link number n may;
      acknowledges = λ link number n may wait. acknowledges link number n;
      expires = λ timer link n may wait. expires timer link n;
      releases = λ link n e wait. one May (notices.Unbarred unbarring.Operator link) n _ refl refl refl;
      asks = λ link n e.
          let asks : Node WholeQueues = with_parts n (asking c link n.parts) in
          both-name May n asks _ (same May n asks refl refl) (send_routed-steps sends (changeover_order c link (whole.last_accepted n.queues link)) asks);
      returns = λ before after code link other n e f. returns before after code link other n;
      frees = λ set code n may. same May n _ refl refl;
      reroutes = reroutes;
      lifts = λ procedure n may. same May n _ refl refl;
    }

-- no link fails as an association comes up
no-failure : (what : Happening) (a : Abstract) (its link : ℕ) (why : FailureReason) → what ≡ CameUp its → MayFail why link what a → ⊥
no-failure what a its link why is h = by why (subst (λ (w : Happening). MayFail why link w a) is h)
  where
    by : (w : FailureReason) → MayFail w link (CameUp its) a → ⊥
    by reasons.Association e = cc
    by reasons.Timer e = (let no : CameUp its ≡ Ticked = e.2.0 in cc)
    by reasons.Sequence e = (let no : CameUp its ≡ FrameCame link e.0 = e.1 in cc)
    by reasons.Status e = (let no : CameUp its ≡ FrameCame link e.1.text = e.1.came in cc)
    by reasons.Length e = (let no : CameUp its ≡ FrameCame link e.0 = e.1 in cc)
    by reasons.Changeover e = (let no : None ≡ Some e.0 = e.1 in cc)
    by reasons.Operator e = cc
    by reasons.Test e = (let no : CameUp its ≡ Ticked = e.0 in cc)

pub links-fail : links_fail_so
links-fail what a =
    let n : Names (Cause what a) a.node (apply whole a.settings what a.node).left =
    event-deeds what a (Names (Cause what a)) (names-deeds (Cause what a) a.settings) (λ r m. same (Cause what a) m _ refl refl) in
    record {
      made = n.made;
      noted = n.noted;
      causes = n.causes;
      goes = λ link why h. (
        ⊎_elim (λ (up : down a.node.parts link ≡ false). up) (λ (is : what ≡ CameUp link). absurd (no-failure what a link link why is (n.causes link why h))) (n.ups link why h),
        ⊎_elim (λ (gone : down (apply whole a.settings what a.node).left.parts link ≡ true). gone) (λ (is : what ≡ CameUp link). absurd (no-failure what a link link why is (n.causes link why h)))
            (n.downs link why h),
      );
      named = n.named;
      once = λ link. ⊎_elim (λ (few : count_by (says_failed link) n.made ≤ 1). few) (λ (is : what ≡ CameUp link).
          ⊎_elim (λ (some : 0 < count_by (says_failed link) n.made).
          (let named : (why : FailureReason) × Contains n.made (notices.Failed link why) = named-in link n.made some in absurd (no-failure what a link link named.0 is (n.causes link named.0 named.1))))
          (λ (none : count_by (says_failed link) n.made ≤ 0). omega (arith, none)) (cases_lt 0 (count_by (says_failed link) n.made))) (n.once link);
    }
