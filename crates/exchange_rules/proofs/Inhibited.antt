-- T8 of a set and a destination runs until it runs out, or its set comes back.
use Rattle.exchange_rules.proofs.Basics.{◌≡◌, ◌≢◌, ◌⊎◌, inl, inr, ℕ, List, Bool, true, false, ◌&&◌, not, Result, Ok, Err, refl, ap, sym, subst, ◌∙◌, ⊎_elim, cases_eq, and_parts, if◌then◌else◌}
use Rattle.exchange_rules.proofs.Definitions.{enters_traffic, in_traffic, carries_traffic, is_first_test, Link, handle_by, Period, Configuration, Action, Alignment, Input, Expiry, Status, UserData, Transition, action_at, acts_on, LinkStatus, LinkTimer, Running, FrameFault, FrameValue, EmptyFrame, MessageFrame, StatusFrame, read_frame, FrameCame, is_in_service, Parts, Node, with_parts, answer, refuse, Ignored, link_at, in_service, set_of, has_other, step_on, begun_anew_if, moved_on, enters, advance, timed_busy, timed_busy_ended, is_running, Carrying, empty_data, message_data, numbers, act_by_data, act_by_status, serve_status, read, WholeQueues, whole, down, tells_outage, tells_recovery, begin_outage, hear_outage, end_outage, Handled, become_busy, end_busy, let_back, take_step}
use Rattle.signalling_types.specs.declared.cause.Cause.TheVariants as causes
use Rattle.signalling_types.specs.declared.notice.FailureReason.TheVariants as reasons
use Rattle.m2pa_codec.specs.declared.status.LinkStatus.TheVariants as says
use Rattle.link.specs.declared.action.Action.TheVariants as act
use Rattle.link.specs.declared.action.LinkTimer.TheVariants as timer
use Rattle.link.specs.declared.alignment.Alignment.TheVariants.{Down, NotAligned, Aligned, Proving, AlignedReady, InService}
use Rattle.node_links.specs.NodeLinks.{link_in}
use Rattle.timers.specs.declared.name.TimerName.TheVariants.{T8}
use Rattle.exchange_rules.specs.Aligning.{Carries, Says, state_of}
use Rattle.exchange_rules.proofs.Asked.{any}
use Rattle.exchange_rules.proofs.ProvedFirst.{aligned-from, each-leads, frame-hears, kind_of, no-data, no-timer, timer-climbs}
use Rattle.exchange_rules.proofs.ProvedEvents.{says-of}
use Rattle.m2pa_codec.specs.Frames.{status_number}
use Rattle.exchange_rules.proofs.Serving.{data-serves, fails-up, each-step}
use Rattle.exchange_rules.proofs.SettingTimers.{Sets, sets-rules}
use Rattle.exchange_rules.proofs.SteppingEvents.{handle_by-deeds, leave_aside-deeds}
use Rattle.exchange_rules.proofs.SteppingLinks.{tested_if-steps, advance-serves, advance-steps, advance-links, moved-at, stepped-at, stepped-other, entered-steps, stepping-there}
use Rattle.exchange_rules.proofs.Steps.{Deed, LinkOpens, SetReturns, LinkFails, HoldsEnd, Lacking, TitlesChange, IsOfSet, IsOfDeeds, brings_back, with_busy, without_busy, WaitEnds}
use Rattle.exchange_rules.proofs.Tested.{serves-before}
use Rattle.exchange_rules.proofs.TimerSettings.{AreSet, timed-set, timed_busy-set, timed_busy_ended-set}

pub no-way : {A : Type 0} (b : Bool) → b ≡ true → b ≡ false → A
no-way b e f = (let no : true ≡ false = sym e ∙ f in absurd cc)

-- ---- what leads into service

pub serving-is : (x : Alignment) → is_in_service x ≡ true → x ≡ InService
serving-is InService e = refl
serving-is Down e = absurd cc
serving-is NotAligned e = absurd cc
serving-is Aligned e = absurd cc
serving-is (Proving ready) e = absurd cc
serving-is AlignedReady e = absurd cc

enters-serving : (a b : Bool) → (a && not b) ≡ true → (a ≡ true) × (b ≡ false)
enters-serving true false e = (refl, refl)
enters-serving true true e = absurd cc
enters-serving false b e = absurd cc

first-enters : (a b : Bool) → (a && not b) ≡ true → a ≡ true
first-enters true b e = refl
first-enters false b e = absurd cc

-- of a state that isn't in service: a frame leads there from AlignedReady, L4 from Proving
by-frame : (period : Period) (x : Alignment) (input : Input) (step : Transition) → (kind_of input ≡ 10 → ⊥) → action_at period x input ≡ act.Go step → (is_in_service step.state && not (is_in_service x)) ≡ true
    → ((kind_of input ≡ 4) ⊎ (kind_of input ≡ 0)) × (x ≡ AlignedReady)
by-frame period x input step frame e f =
    let parts = enters-serving (is_in_service step.state) (is_in_service x) f in
    ⊎_elim (λ (k : x ≡ InService). no-way (is_in_service x) (ap is_in_service k) parts.1) (λ (k : ((kind_of input ≡ 4) ⊎ (kind_of input ≡ 0)) × (x ≡ AlignedReady)). k)
    ((frame-hears (kind_of input) period x step.state frame (each-leads period x input step e) (aligned-from period x input step e)).serves (serving-is step.state parts.0))

pub by-timer : (period : Period) (x : Alignment) (its : LinkTimer) (step : Transition) → action_at period x (Expiry its) ≡ act.Go step → (is_in_service step.state && not (is_in_service x)) ≡ true
    → (its ≡ timer.L4) × (x ≡ Proving true)
by-timer period x its step e f =
    let parts = enters-serving (is_in_service step.state) (is_in_service x) f in
    ⊎_elim (λ (k : x ≡ InService). no-way (is_in_service x) (ap is_in_service k) parts.1) (λ (k : (its ≡ timer.L4) × (x ≡ Proving true)). k)
    ((timer-climbs (its ≡ timer.L4) its x step.state (λ g. g) (each-leads period x (Expiry its) step e)).serves (serving-is step.state parts.0))

module _ (c : Configuration) (s d : ℕ) where
  abbrev pub Runs : Node WholeQueues → Type 0
  Runs n = is_running (T8 s d) n.parts.timers ≡ true

  -- ---- where no link of the set takes a step

  abbrev pub Other : ℕ → Type 0
  Other link = set_of c link ≢ s

  abbrev pub Apart : ℕ → Type 0
  Apart set = set ≢ s

  -- nor does a test bring it back
  abbrev pub Kept : Deed → Type 0
  Kept (SetReturns set) = Apart set
  Kept (LinkOpens link) = Unit {0}
  Kept (LinkFails link why) = Unit {0}
  Kept (HoldsEnd procedure) = Unit {0}
  Kept (WaitEnds link) = Unit {0}
  Kept Lacking = Unit {0}
  Kept TitlesChange = Unit {0}

  pub rules : IsOfDeeds c Other any Kept (Sets c Apart)
  rules = sets-rules c Apart Other Kept (λ set m. ⊎_elim (λ (m : IsOfSet c Other set) same. m.own (m.is ∙ same)) (λ (apart : Apart set). apart) m)

  timers-run : (r t : Running) → AreSet c Apart r t → is_running (T8 s d) r ≡ true → is_running (T8 s d) t ≡ true
  timers-run r t k e = ⊎_elim (λ (h : is_running (T8 s d) t ≡ true). h) (λ (no : s ≢ s). absurd (no refl)) (k.inhibits s d e)

  pub runs-on : (n m : Node WholeQueues) → Sets c Apart n m → Runs n → Runs m
  runs-on n m k e = timers-run n.parts.timers m.parts.timers k.timers e

  either-runs : (b : Bool) (p q : Parts) → is_running (T8 s d) p.timers ≡ true → is_running (T8 s d) q.timers ≡ true → is_running (T8 s d) (if b then p else q).timers ≡ true
  either-runs true p q e f = e
  either-runs false p q e f = f

  -- ---- a link takes a step

  -- it is the first of the set to carry traffic
  pub record Enters (link : ℕ) (step : Transition) (n : Node WholeQueues) : Type 0 where
    pub of_set : set_of c link ≡ s
    pub enters : (is_in_service step.state && not (in_service n.parts link)) ≡ true
    pub first : has_other c link n.parts ≡ false

  moved-runs : (first : Bool) (link : ℕ) (step : Transition) (n : Node WholeQueues) → (enters_traffic link step n.parts && not (has_other c link n.parts)) ≡ first → first ≡ false → Runs n
      → Runs (with_parts n (moved_on c link step n.parts))
  moved-runs first link step n e f r =
      subst (λ (b : Bool). is_running (T8 s d) (begun_anew_if b c link (step_on c link step n.parts)).timers ≡ true) (sym (e ∙ f))
      (runs-on n (with_parts n (step_on c link step n.parts)) (record { timers = timed-set c Apart link step n.parts.timers }) r)

  pub advance-runs : (link : ℕ) (input : Input) (step : Transition) (n : Node WholeQueues) → acts_on (link_at n.parts link) input ≡ act.Go step → Runs n
      → Runs (advance whole c link step n) ⊎ Enters link step n
  advance-runs link input step n e r = by (cases_eq (set_of c link) s) (enters_traffic link step n.parts && not (has_other c link n.parts)) refl
    where
      moved : Node WholeQueues
      moved = with_parts n (moved_on c link step n.parts)

      by : (set_of c link ≡ s) ⊎ (set_of c link ≢ s) → (first : Bool) → (enters_traffic link step n.parts && not (has_other c link n.parts)) ≡ first
          → Runs (advance whole c link step n) ⊎ Enters link step n
      by (inr apart) first f = inl (runs-on n (advance whole c link step n) (advance-steps rules link input step n apart e) r)
      by (inl same) false f =
          inl (runs-on (take_step whole c link step n) (advance whole c link step n) (tested_if-steps rules link step n)
          (runs-on moved (take_step whole c link step n) (entered-steps rules link step n (stepping-there n.parts link input step e))
          (moved-runs false link step n f refl r)))
      by (inl same) true f = inr (record {
        of_set = same;
        enters = (enters-serving (enters link step n.parts) (link_at n.parts link).untested (enters-serving (enters_traffic link step n.parts) (has_other c link n.parts) f).0).0;
        first = (enters-serving (enters_traffic link step n.parts) (has_other c link n.parts) f).1;
      })

  -- ---- a frame

  module _ (l : ℕ) (text : List ℕ) where
    abbrev Said : Type 0
    Said = Says l says.Ready (FrameCame l text) ⊎ Carries l (FrameCame l text)

    -- the set comes back by a frame of the link, by which it enters service or passes its first test
    pub record Returns (n : Node WholeQueues) : Type 0 where
      pub of_set : set_of c l ≡ s
      pub said : (Said × (state_of n.parts l ≡ AlignedReady)) ⊎ (Carries l (FrameCame l text) × ((link_at n.parts l).untested ≡ true))
      pub first : has_other c l n.parts ≡ false

    returns : (input : Input) (step : Transition) (n : Node WholeQueues) → (kind_of input ≡ 10 → ⊥) → acts_on (link_at n.parts l) input ≡ act.Go step
        → ((kind_of input ≡ 4) ⊎ (kind_of input ≡ 0) → Said) → Enters l step n → Returns n
    returns input step n frame e said h =
        let from = by-frame (link_at n.parts l).period (state_of n.parts l) input step frame e h.enters in
        record { of_set = h.of_set; said = inl (said from.0, from.1); first = h.first }

    begun-runs : (n : Node WholeQueues) → Runs n → Runs (with_parts n (become_busy c l n.parts))
    begun-runs n r =
        either-runs (link_at n.parts l).peer_busy n.parts (with_busy c l n.parts) r (timers-run n.parts.timers (timed_busy c l n.parts.timers) (timed_busy-set c Apart l n.parts.timers) r)

    ended-runs : (n : Node WholeQueues) → Runs n → Runs (with_parts n (end_busy c l (whole.outstanding n.queues l) n.parts))
    ended-runs n r =
        let left : ℕ = whole.outstanding n.queues l in
        either-runs (link_at n.parts l).peer_busy (without_busy c l left n.parts) n.parts
        (timers-run n.parts.timers (timed_busy_ended c l left n.parts.timers) (timed_busy_ended-set c Apart l left n.parts.timers) r) r

    serve-runs : (status : LinkStatus) (n : Node WholeQueues) → Runs n → Runs (serve_status whole c l status n)
    serve-runs says.Busy n r = begun-runs n r
    serve-runs says.BusyEnded n r = either-runs (link_at n.parts l).peer_outage n.parts (end_busy c l (whole.outstanding n.queues l) n.parts) r (ended-runs n r)
    serve-runs says.Alignment n r = r
    serve-runs says.ProvingNormal n r = r
    serve-runs says.ProvingEmergency n r = r
    serve-runs says.Ready n r = r
    serve-runs says.ProcessorOutage n r = r
    serve-runs says.ProcessorRecovered n r = r
    serve-runs says.OutOfService n r = r

    served-runs : (serve : Bool) (status : LinkStatus) (n : Node WholeQueues) → Runs n → Runs (if serve then serve_status whole c l status n else n)
    served-runs true status n r = serve-runs status n r
    served-runs false status n r = r

    status-runs : (a : Action) (bsn fsn : ℕ) (status : LinkStatus) (n : Node WholeQueues) → read_frame text ≡ Ok (StatusFrame bsn fsn status)
        → acts_on (link_at n.parts l) (Status status) ≡ a → Runs n → Runs (act_by_status whole c a l status n).left ⊎ Returns n
    status-runs act.Ignored bsn fsn status n is e r = inl r
    status-runs act.Fail bsn fsn status n is e r = inl (runs-on n _ (rules.fails l reasons.Status n tt (fails-up (link_at n.parts l).period (link_at n.parts l).alignment (Status status) e)) r)
    status-runs (act.Go step) bsn fsn status n is e r =
        ⊎_elim (λ (h : Runs (advance whole c l step n)). inl (served-runs step.serve status (advance whole c l step n) h))
        (λ (h : Enters l step n).
        inr (returns (Status status) step n (no-timer status) e
        (λ k. inl (⊎_elim (λ (f : status_number status ≡ 4). says-of l text bsn fsn status says.Ready is f) (λ (f : status_number status ≡ 0). absurd (no-data status f)) k)) h))
        (advance-runs l (Status status) step n e r)

    begin_outage-runs : (n : Node WholeQueues) → Runs n → Runs (begin_outage whole c l n)
    begin_outage-runs n r =
        let one : Node WholeQueues = with_parts n (end_busy c l (whole.outstanding n.queues l) n.parts) in
        begun-runs one (ended-runs n r)

    hear_outage-runs : (out : Bool) (n : Node WholeQueues) → Runs n → Runs (if out then n else begin_outage whole c l n)
    hear_outage-runs true n r = r
    hear_outage-runs false n r = begin_outage-runs n r

    told-runs : (out back : Bool) (bsn fsn : ℕ) (status : LinkStatus) (n : Node WholeQueues) → read_frame text ≡ Ok (StatusFrame bsn fsn status) → Runs n
        → Runs (if out then answer Handled (hear_outage whole c l n) else if back then answer Handled (end_outage whole c l n)
        else act_by_status whole c (acts_on (link_at n.parts l) (Status status)) l status n).left ⊎ Returns n
    told-runs true back bsn fsn status n is r = inl (hear_outage-runs (link_at n.parts l).peer_outage n r)
    told-runs false true bsn fsn status n is r = inl (ended-runs (with_parts n (let_back l n.parts)) r)
    told-runs false false bsn fsn status n is r = status-runs (acts_on (link_at n.parts l) (Status status)) bsn fsn status n is refl r

    -- a link that takes a step carries traffic as before, if it did
    advance-carries : (input : Input) (step : Transition) (n : Node WholeQueues) → acts_on (link_at n.parts l) input ≡ act.Go step → (other : ℕ) → in_traffic n.parts other ≡ true
        → in_traffic (advance whole c l step n).parts other ≡ true
    advance-carries input step n e other carried =
        ap (λ (links : List Link). carries_traffic (link_in links other)) (advance-links c l step n)
        ∙ ap carries_traffic (moved-at c l other step n.parts)
        ∙ ⊎_elim
        (λ (same : other ≡ l).
        subst (λ (k : ℕ). in_traffic (step_on c l step n.parts) k ≡ true) (sym same)
        (ap carries_traffic (stepped-at c l step n.parts (stepping-there n.parts l input step e))
        ∙ stays (in_service n.parts l) (is_in_service step.state) (link_at n.parts l).untested (each-step (link_at n.parts l).period (link_at n.parts l).alignment input step e).stays
        (subst (λ (k : ℕ). in_traffic n.parts k ≡ true) same carried)))
        (λ (apart : other ≢ l). ap carries_traffic (stepped-other c l other step n.parts apart) ∙ carried)
        (cases_eq other l)
      where
        stays : (before after untested : Bool) → (before ≡ true → after ≡ true) → (before && not untested) ≡ true → (after && not untested) ≡ true
        stays true after false h k = ap (λ (b : Bool). b && true) (h refl)
        stays true after true h k = absurd cc
        stays false after untested h k = absurd cc

    -- and has a test to pass as before
    advance-untested : (input : Input) (step : Transition) (n : Node WholeQueues) → acts_on (link_at n.parts l) input ≡ act.Go step
        → (link_at (advance whole c l step n).parts l).untested ≡ (link_at n.parts l).untested
    advance-untested input step n e =
        ap (λ (links : List Link). (link_in links l).untested) (advance-links c l step n)
        ∙ ap (λ (k : Link). k.untested) (moved-at c l l step n.parts ∙ stepped-at c l step n.parts (stepping-there n.parts l input step e))

    handled-runs : (step : Transition) (x : Carrying) (n : Node WholeQueues) → Carries l (FrameCame l text) → acts_on (link_at n.parts l) UserData ≡ act.Go step
        → (set_of c l ≡ s) ⊎ (set_of c l ≢ s) → (first : Bool) → brings_back c l (advance whole c l step n).parts ≡ first → Runs (advance whole c l step n)
        → Runs (handle_by whole c (numbers whole c l x (advance whole c l step n)) l x (advance whole c l step n)).left ⊎ Returns n
    handled-runs step x n is e cases first f h = by cases first f
      where
        next : Node WholeQueues
        next = advance whole c l step n

        serves : in_service next.parts l ≡ true
        serves = advance-serves c l UserData step n e ∙ data-serves (link_at n.parts l).period (link_at n.parts l).alignment step e

        on : (brings_back c l next.parts ≡ true → Apart (set_of c l)) → Runs (handle_by whole c (numbers whole c l x next) l x next).left
        on back =
            runs-on next _ (handle_by-deeds rules (numbers whole c l x next) l x next back tt serves refl (λ g. tt)
            (record { words = λ word g. record { ends = λ procedure k. tt; fails = λ link k. tt; answers = λ link k. tt }; lacking = λ g. tt; hears = λ g. tt })) h

        by : (set_of c l ≡ s) ⊎ (set_of c l ≢ s) → (first : Bool) → brings_back c l next.parts ≡ first → Runs (handle_by whole c (numbers whole c l x next) l x next).left ⊎ Returns n
        by (inr apart) first f = inl (on (λ g. apart))
        by (inl same) false f = inl (on (λ g. no-way (brings_back c l next.parts) g f))
        by (inl same) true f =
            let one = and_parts (is_first_test l next.parts) (not (has_other c l next.parts)) f in
            inr (record {
              of_set = same;
              said = inr (is, sym (advance-untested UserData step n e) ∙ (and_parts (in_service next.parts l) (link_at next.parts l).untested one.0).1);
              first = none-before (has_other c l n.parts) refl (is-not (has_other c l next.parts) one.1);
            })
          where
            is-not : (b : Bool) → not b ≡ true → b ≡ false
            is-not false k = refl
            is-not true k = absurd cc

            none-before : (b : Bool) → has_other c l n.parts ≡ b → has_other c l next.parts ≡ false → has_other c l n.parts ≡ false
            none-before false k none = k
            none-before true k none = no-way (has_other c l next.parts) (serves-before c next.parts n.parts (set_of c l) (λ other carried. advance-carries UserData step n e other carried) k) none

    data-runs : (a : Action) (x : Carrying) (n : Node WholeQueues) → Carries l (FrameCame l text) → acts_on (link_at n.parts l) UserData ≡ a → Runs n
        → Runs (act_by_data whole c a l x n).left ⊎ Returns n
    data-runs act.Ignored x n is e r = inl r
    data-runs act.Fail x n is e r = inl (runs-on n _ (rules.fails l reasons.Sequence n tt (fails-up (link_at n.parts l).period (link_at n.parts l).alignment UserData e)) r)
    data-runs (act.Go step) x n is e r =
        let next : Node WholeQueues = advance whole c l step n in
        ⊎_elim
        (λ (h : Runs next).
        handled-runs step x n is e (cases_eq (set_of c l) s) (brings_back c l next.parts) refl h)
        (λ (h : Enters l step n). inr (returns UserData step n (λ no. cc) e (λ k. inr is) h))
        (advance-runs l UserData step n e r)

    read-runs : (x : Result FrameValue FrameFault) (n : Node WholeQueues) → read_frame text ≡ x → down n.parts l ≡ false → Runs n → Runs (read whole c l x n).left ⊎ Returns n
    read-runs (Ok (EmptyFrame bsn fsn)) n e up r =
        data-runs (acts_on (link_at n.parts l) UserData) (empty_data bsn fsn) n (record { text = text; frame = EmptyFrame bsn fsn; came = refl; reads = e; carries = refl }) refl r
    read-runs (Ok (MessageFrame bsn fsn sio sif)) n e up r =
        data-runs (acts_on (link_at n.parts l) UserData) (message_data bsn fsn sio sif) n
        (record { text = text; frame = MessageFrame bsn fsn sio sif; came = refl; reads = e; carries = refl }) refl r
    read-runs (Ok (StatusFrame bsn fsn status)) n e up r = told-runs (tells_outage c l status n.parts) (tells_recovery l status n.parts) bsn fsn status n e r
    read-runs (Err fault) n e up r = inl (runs-on n _ (leave_aside-deeds rules l fault n up (λ k. tt)) r)

    pub receive-runs : (is_there is_down : Bool) (x : Result FrameValue FrameFault) (n : Node WholeQueues) → read_frame text ≡ x → down n.parts l ≡ is_down → Runs n
        → Runs (if is_there then (if is_down then answer Ignored n else read whole c l x n) else refuse causes.NoSuchName n).left ⊎ Returns n
    receive-runs false is_down x n e f r = inl r
    receive-runs true true x n e f r = inl r
    receive-runs true false x n e f r = read-runs x n e f r
