-- Only a message for a user part that isn't here is counted.
use Rattle.exchange_rules.proofs.Basics.{◌≡◌, ℕ, Bool, true, false, List, [], ◌∷◌, Option, Some, None, refl, ◌∙◌, if◌then◌else◌}
use Rattle.exchange_rules.proofs.Definitions.{Configuration, Message, FailureReason, ChangeoverTimer, LostUnconfirmed, Facts, completed, Parts, Node, with_parts, in_service, is_link, down, has_other, is_ordered, set_of, suspended, Found, fail_link, make_unavailable, change_over, begin, changing, changeover_order, begin_by_peer, fail, fail_by_peer, fail_by_order, complete_if, concluded, lose, lose_each, judged, complete_by_order, on_changeover_order, on_changeover_acknowledgement, on_changeover_timer, changeover_acknowledgement, changeover_of, with_changeover, with_changeover_acknowledged, with_expiry, without_tests, answer, Handled, Ignored, hold_flows, held_by_rerouting, WholeQueues, whole, bar, barred, asking}
use Rattle.signalling_types.specs.declared.notice.FailureReason.TheVariants as reasons
use Rattle.signalling_types.specs.declared.notice.ChangeoverTimer.TheVariants as which
use Rattle.exchange_rules.specs.LawsOfUserParts.{brings_lacking, nothing_else_is_counted}
use Rattle.exchange_rules.proofs.Asked.{any}
use Rattle.exchange_rules.proofs.Steps.{Deed, Lacking, IsOfSends, IsOfDeeds, either-steps, either_done-steps}
use Rattle.exchange_rules.proofs.SteppingMessages.{send_routed-steps, send_each-steps}
use Rattle.exchange_rules.proofs.WillEnding.{no-way}
use Rattle.exchange_rules.proofs.Causes.{Cause, event-deeds}

-- the counts stay
abbrev Stays : (n m : Node WholeQueues) → Type 0
Stays n m = m.parts.unequipped ≡ n.parts.unequipped

losses-stay : (ms : List Message) (p : Parts) → (lose_each ms p).unequipped ≡ p.unequipped
losses-stay [] p = refl
losses-stay (m ∷ ms) p = losses-stay ms (lose LostUnconfirmed m p)

judged-stay : (is_reasonable : Bool) (p : Parts) → (judged is_reasonable p).unequipped ≡ p.unequipped
judged-stay true p = refl
judged-stay false p = refl

module _ (c : Configuration) where
  sends : IsOfSends c Stays
  sends = record {
    none = λ n. refl;
    both = λ n m o e f. f ∙ e;
    routed = λ link m n e. refl;
    noted = λ notice n e. refl;
    lost = λ notice n e. refl;
    counted = λ messages broken n. refl;
  }

  -- ---- a link fails

  gone : (served : Bool) (link : ℕ) (why : FailureReason) (n : Node WholeQueues) → Stays n (make_unavailable whole c served link why n)
  gone false link why n = refl
  gone true link why n = by (has_other c link failed)
    where
      failed : Parts
      failed = fail_link link why (suspended c link (whole.unconfirmed n.queues link) n.parts)

      by : (others : Bool) → Stays n (with_parts n (if others then failed else without_tests (set_of c link) failed))
      by true = refl
      by false = refl

  begun : (ordered : Bool) (link : ℕ) (n : Node WholeQueues) → Stays n (begin whole c ordered link n)
  begun true link n =
      send_routed-steps sends (changeover_order c link (whole.last_accepted n.queues link)) (with_parts n (changing c true link n.parts))
  begun false link n = refl

  changed : (served : Bool) (link : ℕ) (n : Node WholeQueues) → Stays n (change_over whole c served link n)
  changed true link n = begun (is_ordered c link n.parts) link n
  changed false link n = refl

  fails : (link : ℕ) (why : FailureReason) (n : Node WholeQueues) → Stays n (fail whole c link why n)
  fails link why n =
      let serves : Bool = in_service n.parts link in
      changed serves link (make_unavailable whole c serves link why n) ∙ gone serves link why n

  begun_by_peer : (served : Bool) (link : ℕ) (n : Node WholeQueues) → Stays n (begin_by_peer whole c served link n)
  begun_by_peer true link n = refl
  begun_by_peer false link n = refl

  fails_by_order : (link : ℕ) (n : Node WholeQueues) → Stays n (fail_by_order whole c link n)
  fails_by_order link n =
      let serves : Bool = in_service n.parts link in
      let left : Node WholeQueues = make_unavailable whole c serves link reasons.Changeover n in
      either-steps sends (down n.parts link) n n (fail_by_peer whole c link n) refl
      (begun_by_peer serves link left ∙ gone serves link reasons.Changeover n)

  -- ---- a changeover goes on and ends

  completes : (incomplete : Bool) (link : ℕ) (number : Option ℕ) (n : Node WholeQueues) → Stays n (complete_if whole c incomplete link number n)
  completes true link number n =
      let found : Found = whole.found n.queues link number in
      let done : Node WholeQueues = record { queues = whole.completed n.queues link number; parts = concluded link found n.parts } in
      send_each-steps sends found.queued_anew done
      ∙ (judged-stay found.is_reasonable (lose_each found.lost n.parts) ∙ losses-stay found.lost n.parts)
  completes false link number n = refl

  orders : (link : ℕ) (number : Option ℕ) (n : Node WholeQueues) → Stays n (on_changeover_order whole c link number n).left
  orders link number n =
      let one : Node WholeQueues = bar whole c link (fail_by_order whole c link n) in
      let marked : Node WholeQueues = with_parts one (with_changeover link (completed (changeover_of one.parts link)) one.parts) in
      let two : Node WholeQueues = complete_by_order whole c link number one in
      send_routed-steps sends (changeover_acknowledgement c link (whole.last_accepted two.queues link)) two
      ∙ (completes (changeover_of one.parts link).incomplete link number marked ∙ fails_by_order link n)

  acknowledges : (link : ℕ) (number : Option ℕ) (n : Node WholeQueues) → Stays n (on_changeover_acknowledgement whole c link number n).left
  acknowledges link number n =
      let marked : Node WholeQueues = with_parts n (with_changeover_acknowledged link n.parts) in
      let done : Node WholeQueues = complete_if whole c (changeover_of n.parts link).incomplete link number marked in
      either_done-steps sends (changeover_of n.parts link).awaited n (answer Handled done) (answer Ignored n)
      (completes (changeover_of n.parts link).incomplete link number marked) refl

  expires : (timer : ChangeoverTimer) (link : ℕ) (n : Node WholeQueues) → Stays n (on_changeover_timer whole c timer link n)
  expires timer link n =
      let marked : Node WholeQueues = with_parts n (with_expiry c timer link (barred c link n.parts)) in
      let done : Node WholeQueues = complete_if whole c (changeover_of n.parts link).incomplete link None marked in
      either-steps sends (is_link n.parts link) n done n
      (completes (changeover_of n.parts link).incomplete link None marked ∙ expired timer) refl
    where
      expired : (its : ChangeoverTimer) → (with_expiry c its link (barred c link n.parts)).unequipped ≡ n.parts.unequipped
      expired which.T1 = refl
      expired which.T2 = refl

  -- ---- flows are held

  returns : (before after : Facts) (code : Option ℕ) (link other : ℕ) (n : Node WholeQueues) → Stays n (hold_flows whole c before after code link other n)
  returns before after (Some code) link other n = refl
  returns before after None link other n = refl

  reroutes : (destination : ℕ) (selections : List ℕ) (n : Node WholeQueues) → Stays n (with_parts n (held_by_rerouting c destination selections n.parts))
  reroutes destination [] n = refl
  reroutes destination (sls ∷ others) n = refl

  deeds-stay : (May : Deed → Type 0) → (May Lacking → ⊥) → IsOfDeeds c any any May Stays
  deeds-stay May never = record {
    sends = sends;
    tested = λ link point test n e f. refl;
    probed = λ link n e. refl;
    held = λ m n e. refl;
    taken_out = λ n. refl;
    late = λ notice n e. refl;
    timed = λ r n e k. refl;
    rerouted = λ routes n e k. refl;
    told = λ t n e. refl;
    titled = λ rows n may. refl;
    unequipped = λ counts n e may. absurd (never may);
    linked = λ link x n e o. refl;
    parted = λ link n e. refl;
    opened = λ link n own there e f may. refl;
    stepped = λ link input step n own e k. refl;
    passed = λ link n e k. refl;
    busied = λ link n own e f. refl;
    resumed = λ link n own e f o. refl;
    accepted = λ link d confirmed n own e f. refl;
    sent = λ link next n own e. refl;
    put = λ link n set e b. refl;
    back = λ link n e may. refl;
    fails = λ link why n may up. fails link why n;
    orders = λ link number n falls may. orders link number n;
    acknowledges = λ link number n may wait. acknowledges link number n;
    expires = λ timer link n may wait. expires timer link n;
    releases = λ link n e wait. refl;
    asks = λ link n e. send_routed-steps sends (changeover_order c link (whole.last_accepted n.queues link)) (with_parts n (asking c link n.parts));
    returns = λ before after code link other n e f. returns before after code link other n;
    frees = λ set code n may. refl;
    reroutes = reroutes;
    lifts = λ procedure n may. refl;
  }

pub uncounted : nothing_else_is_counted
uncounted what a e =
    event-deeds what a Stays
    (deeds-stay a.settings (Cause what a) (λ lacking. no-way (brings_lacking what a) e lacking)) (λ r m. refl)
