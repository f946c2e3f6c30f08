-- What an outage does to a node: each law, rule by rule.
use Rattle.exchange_rules.proofs.Basics.{◌≡◌, ◌&&◌, ℕ, Bool, true, false, not, inl, inr, Option, None, refl, ap, sym, ◌∙◌, subst, if◌then◌else◌, and_parts, append-nil, set-get_or}
use Rattle.exchange_rules.proofs.Definitions.{Configuration, Alignment, LinkStatus, Action, Status, Expiry, Transition, action_at, acts_on, Period, Link, down_link, is_in_service, stepped, Parts, Node, Done, with_parts, answer, Handled, link_at, links_with, in_service, fail, advance, act_by_status, on_link_status, act_by_timer, in_outage, tells_outage, tells_recovery, become_busy, end_busy, hear_outage, end_outage, begin_outage, WholeQueues, whole, after_each, first_state}
use Rattle.link.specs.declared.action.Action.TheVariants as act
use Rattle.link.specs.declared.action.LinkTimer.TheVariants as timer
use Rattle.link.specs.declared.period.Period.TheVariants as periods
use Rattle.link.specs.declared.alignment.Alignment.TheVariants.{Down, NotAligned, Aligned, Proving, AlignedReady, InService}
use Rattle.m2pa_codec.specs.declared.status.LinkStatus.TheVariants as says
use Rattle.signalling_types.specs.declared.notice.FailureReason.TheVariants as reasons
use Rattle.exchange_rules.specs.LawsOfOutage.{IsAboutToServe, BeginsOutage, EndsOutage, IsThrough, IsElsewhere, outages_begin, outages_end, outages_are_told_once, others_know_no_outage, outages_are_watched}
use Rattle.exchange_rules.proofs.Inhibited.{serving-is}
use Rattle.exchange_rules.proofs.Steps.{with_busy}
use Rattle.exchange_rules.proofs.LastingHolds.{every-hold}
use Rattle.exchange_rules.proofs.AligningAll.{links-have}
use Rattle.exchange_rules.proofs.OutageChanges.{begins, begun, begun-is, ended-is, ended-parts, ends}

-- ---- what a status does

and-false : (b : Bool) → (b && false) ≡ false
and-false true = refl
and-false false = refl

module _ (c : Configuration) (link : ℕ) (n : Node WholeQueues) where
  abbrev shape : LinkStatus → (out back : Bool) → Action → Done WholeQueues
  shape status out back a =
      if out then answer Handled (hear_outage whole c link n)
      else if back then answer Handled (end_outage whole c link n)
      else act_by_status whole c a link status n

  -- a status, by what it tells and what the link's alignment does about it
  told : (status : LinkStatus) (out back : Bool) (a : Action) → tells_outage c link status n.parts ≡ out → tells_recovery link status n.parts ≡ back
      → acts_on (link_at n.parts link) (Status status) ≡ a → on_link_status whole c link status n ≡ shape status out back a
  told status out back a e f g =
      ap (λ (b : Bool). shape status b (tells_recovery link status n.parts) (acts_on (link_at n.parts link) (Status status))) e
      ∙ ap (λ (b : Bool). shape status out b (acts_on (link_at n.parts link) (Status status))) f
      ∙ ap (shape status out back) g

  abbrev staying_in_service : Period → Transition
  staying_in_service period =
      record { state = InService; period = period; stop = None; anew = false; send = None; start = None; serve = true }

  abbrev its_period : Period
  its_period = (link_at n.parts link).period

  recovered-ignored : (period : Period) (a : Alignment) → action_at period a (Status says.ProcessorRecovered) ≡ act.Ignored
  recovered-ignored periods.Fixed Down = refl
  recovered-ignored periods.Fixed NotAligned = refl
  recovered-ignored periods.Fixed Aligned = refl
  recovered-ignored periods.Fixed (Proving true) = refl
  recovered-ignored periods.Fixed (Proving false) = refl
  recovered-ignored periods.Fixed AlignedReady = refl
  recovered-ignored periods.Fixed InService = refl
  recovered-ignored periods.Normal Down = refl
  recovered-ignored periods.Normal NotAligned = refl
  recovered-ignored periods.Normal Aligned = refl
  recovered-ignored periods.Normal (Proving true) = refl
  recovered-ignored periods.Normal (Proving false) = refl
  recovered-ignored periods.Normal AlignedReady = refl
  recovered-ignored periods.Normal InService = refl
  recovered-ignored periods.Hurried Down = refl
  recovered-ignored periods.Emergency Down = refl
  recovered-ignored periods.Hurried NotAligned = refl
  recovered-ignored periods.Emergency NotAligned = refl
  recovered-ignored periods.Hurried Aligned = refl
  recovered-ignored periods.Emergency Aligned = refl
  recovered-ignored periods.Hurried (Proving true) = refl
  recovered-ignored periods.Emergency (Proving true) = refl
  recovered-ignored periods.Hurried (Proving false) = refl
  recovered-ignored periods.Emergency (Proving false) = refl
  recovered-ignored periods.Hurried AlignedReady = refl
  recovered-ignored periods.Emergency AlignedReady = refl
  recovered-ignored periods.Hurried InService = refl
  recovered-ignored periods.Emergency InService = refl

  outage-fails : (period : Period) → action_at period InService (Status says.ProcessorOutage) ≡ act.Fail
  outage-fails periods.Fixed = refl
  outage-fails periods.Normal = refl
  outage-fails periods.Hurried = refl
  outage-fails periods.Emergency = refl

  busy-stays : (period : Period) → action_at period InService (Status says.Busy) ≡ act.Go (staying_in_service period)
  busy-stays periods.Fixed = refl
  busy-stays periods.Normal = refl
  busy-stays periods.Hurried = refl
  busy-stays periods.Emergency = refl

  busy_ended-stays : (period : Period) → action_at period InService (Status says.BusyEnded) ≡ act.Go (staying_in_service period)
  busy_ended-stays periods.Fixed = refl
  busy_ended-stays periods.Normal = refl
  busy_ended-stays periods.Hurried = refl
  busy_ended-stays periods.Emergency = refl

  l6-fails : (period : Period) → action_at period InService (Expiry timer.L6) ≡ act.Fail
  l6-fails periods.Fixed = refl
  l6-fails periods.Normal = refl
  l6-fails periods.Hurried = refl
  l6-fails periods.Emergency = refl

  proving-fails : (period : Period) (ready : Bool) → action_at period (Proving ready) (Status says.ProcessorOutage) ≡ act.Fail
  proving-fails periods.Fixed true = refl
  proving-fails periods.Fixed false = refl
  proving-fails periods.Normal true = refl
  proving-fails periods.Normal false = refl
  proving-fails periods.Hurried true = refl
  proving-fails periods.Emergency true = refl
  proving-fails periods.Hurried false = refl
  proving-fails periods.Emergency false = refl

  ready-fails : (period : Period) → action_at period AlignedReady (Status says.ProcessorOutage) ≡ act.Fail
  ready-fails periods.Fixed = refl
  ready-fails periods.Normal = refl
  ready-fails periods.Hurried = refl
  ready-fails periods.Emergency = refl

  falls-so : (a : Alignment) → (link_at n.parts link).alignment ≡ a → is_in_service a ≡ false → action_at its_period a (Status says.ProcessorOutage) ≡ act.Fail
      → on_link_status whole c link says.ProcessorOutage n ≡ answer Handled (fail whole c link reasons.Status n)
  falls-so a e out acts =
      told says.ProcessorOutage false false act.Fail (ap (λ (b : Bool). c.processor_outage && b) (ap is_in_service e ∙ out) ∙ and-false c.processor_outage) refl
      (ap (λ (b : Alignment). action_at its_period b (Status says.ProcessorOutage)) e ∙ acts)

  falls : (a : Alignment) → IsAboutToServe a → (link_at n.parts link).alignment ≡ a
      → on_link_status whole c link says.ProcessorOutage n ≡ answer Handled (fail whole c link reasons.Status n)
  falls a (inl ready) e = falls-so AlignedReady (e ∙ ready) refl (ready-fails its_period)
  falls a (inr proved) e = falls-so (Proving proved.0) (e ∙ proved.1) refl (proving-fails its_period proved.0)

  serving-state : in_service n.parts link ≡ true → (link_at n.parts link).alignment ≡ InService
  serving-state e = serving-is (link_at n.parts link).alignment e

  pub elsewhere : IsElsewhere c link n
  elsewhere = record {
    recovered = λ e. told says.ProcessorRecovered false false act.Ignored (and-false c.processor_outage) e (recovered-ignored its_period (link_at n.parts link).alignment);
    failed = λ unasked e.
        told says.ProcessorOutage false false act.Fail (ap (λ (b : Bool). b && in_service n.parts link) unasked) refl
        (ap (λ (a : Alignment). action_at its_period a (Status says.ProcessorOutage)) (serving-state e) ∙ outage-fails its_period);
    aligning = λ about. falls (link_at n.parts link).alignment about refl;
  }

  -- ---- a link in service stays as it is

  same_link : (l : Link) → l.alignment ≡ InService → stepped (staying_in_service l.period) l ≡ l
  same_link l e = rw (append-nil l.waiting, ← e) refl

  same_links : (p : Parts) → (link_at p link).alignment ≡ InService → links_with p link (stepped (staying_in_service (link_at p link).period) (link_at p link)) ≡ p.links
  same_links p e = rw (same_link (link_at p link) e) (set-get_or p.links link down_link)

  same_node : (link_at n.parts link).alignment ≡ InService → advance whole c link (staying_in_service its_period) n ≡ n
  same_node e = rw e (ap (λ links. record n { parts = record n.parts { links = links } }) (same_links n.parts e))

  module _ (out : in_outage n.parts link ≡ true) (is_busy : (link_at n.parts link).peer_busy ≡ true) where
    its : (in_service n.parts link ≡ true) × ((link_at n.parts link).peer_outage ≡ true)
    its = and_parts (in_service n.parts link) (link_at n.parts link).peer_outage out

    both-true : (a b : Bool) → a ≡ true → b ≡ true → (a && b) ≡ true
    both-true true true e f = refl
    both-true true false e f = f
    both-true false b e f = absurd cc

    pub through : IsThrough c link n
    through = record {
      again = λ asked.
          told says.ProcessorOutage true false act.Fail (both-true c.processor_outage (in_service n.parts link) asked its.0) refl
          (ap (λ (a : Alignment). action_at its_period a (Status says.ProcessorOutage)) (serving-state its.0) ∙ outage-fails its_period)
          ∙ ap (λ (b : Bool). answer Handled (if b then n else begin_outage whole c link n)) its.1;
      busy =
          told says.Busy false false (act.Go (staying_in_service its_period)) (and-false c.processor_outage) refl
          (ap (λ (a : Alignment). action_at its_period a (Status says.Busy)) (serving-state its.0) ∙ busy-stays its_period)
          ∙ ap (λ (m : Node WholeQueues). answer Handled (with_parts m (become_busy c link m.parts))) (same_node (serving-state its.0))
          ∙ ap (λ (b : Bool). answer Handled (with_parts n (if b then n.parts else with_busy c link n.parts))) is_busy;
      busy_ended =
          told says.BusyEnded false false (act.Go (staying_in_service its_period)) (and-false c.processor_outage) refl
          (ap (λ (a : Alignment). action_at its_period a (Status says.BusyEnded)) (serving-state its.0) ∙ busy_ended-stays its_period)
          ∙ ap (λ (m : Node WholeQueues).
          answer Handled (with_parts m (if (link_at m.parts link).peer_outage then m.parts else end_busy c link (whole.outstanding m.queues link) m.parts))) (same_node (serving-state its.0))
          ∙ ap (λ (b : Bool). answer Handled (with_parts n (if b then n.parts else end_busy c link (whole.outstanding n.queues link) n.parts))) its.1;
      l6 =
          ap (λ (a : Alignment). act_by_timer whole c (action_at its_period a (Expiry timer.L6)) link n) (serving-state its.0)
          ∙ ap (λ (a : Action). act_by_timer whole c a link n) (l6-fails its_period);
    }

-- ---- the laws

pub outages-begin : outages_begin
outages-begin c link n places asked serves none =
    let e : on_link_status whole c link says.ProcessorOutage n ≡ answer Handled (with_parts n (begun c link n places serves)) =
    told c link n says.ProcessorOutage true false (acts_on (link_at n.parts link) (Status says.ProcessorOutage))
    (ap (λ (b : Bool). b && in_service n.parts link) asked ∙ serves) refl refl
    ∙ ap (λ (b : Bool). answer Handled (if b then n else begin_outage whole c link n)) none
    ∙ ap (λ (m : Node WholeQueues). answer Handled m) (begun-is c link n places serves) in
    (ap (λ (d : Done WholeQueues). d.outcome) e, subst (λ (d : Done WholeQueues). BeginsOutage c link n d.left) (sym e) (begins c link n places serves))

pub outages-end : outages_end
outages-end c link n places out busy =
    let its = and_parts (in_service n.parts link) (link_at n.parts link).peer_outage out in
    let e : on_link_status whole c link says.ProcessorRecovered n ≡ answer Handled (with_parts n (ended-parts c link n places its.0 its.1 busy)) =
    told c link n says.ProcessorRecovered false true (acts_on (link_at n.parts link) (Status says.ProcessorRecovered)) (and-false c.processor_outage) out refl
    ∙ ap (λ (m : Node WholeQueues). answer Handled m) (ended-is c link n places its.0 its.1 busy) in
    (ap (λ (d : Done WholeQueues). d.outcome) e, subst (λ (d : Done WholeQueues). EndsOutage c link n d.left) (sym e) (ends c link n places its.0 its.1 busy))

pub told-once : outages_are_told_once
told-once c link n out busy = through c link n out busy

pub others-know : others_know_no_outage
others-know c link n = elsewhere c link n

pub watched : outages_are_watched
watched c asked link few out =
    let n : Node WholeQueues = (after_each asked (first_state c)).node in
    let w = ((every-hold c asked few).outages link).watched out in
    let its = and_parts (in_service n.parts link) (link_at n.parts link).peer_busy w in
    record {
      serves = its.0;
      busy = its.1;
      l6 = (links-have c asked link few).busy ∙ w;
      silent = ap (λ (b : Bool). if in_service n.parts link && not b then whole.to_send n.queues link c.window else None) its.1 ∙ none-goes (whole.to_send n.queues link c.window) (in_service n.parts link);
    }
  where
    none-goes : {A : Type 0} (x : Option A) (b : Bool) → (if b && false then x else None) ≡ None
    none-goes x true = refl
    none-goes x false = refl
