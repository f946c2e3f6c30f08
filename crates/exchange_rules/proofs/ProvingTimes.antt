-- How long L4 runs as proving begins.
use Rattle.exchange_rules.proofs.Basics.{◌≡◌, ◌≢◌, ◌⊎◌, ◌≤◌, ◌<◌, ◌&&◌, ℕ, Bool, true, false, length, Option, Some, None, max, refl, ap, sym, ◌∙◌, arith, ⊎_elim, inl, inr, cases_lt, get_or_past, if◌then◌else◌}
use Rattle.exchange_rules.proofs.Definitions.{Configuration, Alignment, LinkStatus, LinkTimer, Action, Status, action_at, acts_on, Period, Link, down_link, is_down, Node, Done, answer, Handled, link_at, on_link_status, act_by_status, hear_outage, end_outage, tells_outage, tells_recovery, without_timer_if, timer_name, ticks_of, paced, WholeQueues, whole, HasAllPlaces, has_name, Running, counts-clear, left-set}
use Rattle.link.specs.Table.{entering, period_after, proving_status, timer_of}
use Rattle.link.specs.declared.action.Action.TheVariants as act
use Rattle.link.specs.declared.action.LinkTimer.TheVariants as timer
use Rattle.link.specs.declared.alignment.Alignment.TheVariants.{NotAligned, Aligned, Proving}
use Rattle.link.specs.declared.period.Period.TheVariants.{Fixed, Normal, Hurried, Emergency}
use Rattle.m2pa_codec.specs.declared.status.LinkStatus.TheVariants.{ProvingNormal, ProvingEmergency}
use Rattle.std.proofs.lemmas.Bool.{lt-ltb}
use Rattle.timers.specs.declared.name.TimerName.TheVariants.{L4}
use Rattle.exchange_rules.specs.LawsOfProving.{AwaitsProving, left_to_prove, IsProvedAsAsked, links_are_proved_as_either_end_asks}

and-false : (b : Bool) → (b && false) ≡ false
and-false true = refl
and-false false = refl

stopped-counts : (link : ℕ) (stop : Option LinkTimer) (r : Running) → (without_timer_if link stop r).counts ≡ r.counts
stopped-counts link None r = refl
stopped-counts link (Some its) r = counts-clear (timer_name link its) r

module _ (c : Configuration) (link : ℕ) (n : Node WholeQueues) (places : HasAllPlaces c n) where
  abbrev its : Link
  its = link_at n.parts link

  abbrev shape : LinkStatus → (out back : Bool) → Action → Done WholeQueues
  shape status out back a =
      if out then answer Handled (hear_outage whole c link n)
      else if back then answer Handled (end_outage whole c link n)
      else act_by_status whole c a link status n

  -- a status that tells of no outage goes by the table
  by-table : (status : LinkStatus) (a : Action) → tells_outage c link status n.parts ≡ false → tells_recovery link status n.parts ≡ false → acts_on its (Status status) ≡ a
      → on_link_status whole c link status n ≡ act_by_status whole c a link status n
  by-table status a e f g =
      ap (λ (b : Bool). shape status b (tells_recovery link status n.parts) (acts_on its (Status status))) e
      ∙ ap (λ (b : Bool). shape status false b (acts_on its (Status status))) f
      ∙ ap (shape status false false) g

  -- a link that isn't down is there, and so is its L4
  there : is_down its.alignment ≡ false → link < length n.parts.links
  there up =
      ⊎_elim (λ (l : link < length n.parts.links). l)
      (λ (l : length n.parts.links ≤ link).
      let down : is_down its.alignment ≡ true = ap (λ (x : Link). is_down x.alignment) (get_or_past n.parts.links link down_link l) in
      let no : true ≡ false = sym down ∙ up in
      absurd cc)
      (cases_lt link (length n.parts.links))

  named : is_down its.alignment ≡ false → has_name n.parts.timers.counts (L4 link) ≡ true
  named up = lt-ltb link n.parts.timers.counts.links (omega (arith, there up, places.parts.links, places.timers.links))

  -- a step that begins proving sets L4 by the period that it leads to
  begins : (status : LinkStatus) (before : Alignment) (ready : Bool) (period : Period) (sent : Option LinkStatus) → tells_outage c link status n.parts ≡ false
      → tells_recovery link status n.parts ≡ false → is_down its.alignment ≡ false → acts_on its (Status status) ≡ act.Go (entering before (Proving ready) period sent (Some timer.L4))
      → left_to_prove c link status n ≡ Some (max 1 (ticks_of (paced period c.timers) timer.L4))
  begins status before ready period sent out back up acts =
      ap (λ (d : Done WholeQueues). d.left.parts.timers.left (L4 link)) (by-table status (act.Go (entering before (Proving ready) period sent (Some timer.L4))) out back acts)
      ∙ left-set (L4 link) (ticks_of (paced period c.timers) timer.L4) (without_timer_if link (timer_of before) n.parts.timers)
      (ap (λ k. has_name k (L4 link)) (stopped-counts link (timer_of before) n.parts.timers) ∙ named up)

  abbrev acts-on : LinkStatus → Period → Alignment → Action
  acts-on status period state = action_at period state (Status status)

  acts-at : (status : LinkStatus) (period : Period) (state : Alignment) → its.period ≡ period → its.alignment ≡ state → acts_on its (Status status) ≡ acts-on status period state
  acts-at status period state e f = ap (λ (p : Period). acts-on status p its.alignment) e ∙ ap (acts-on status period) f

  up-at : (state : Alignment) → its.alignment ≡ state → is_down state ≡ false → is_down its.alignment ≡ false
  up-at state e up = ap is_down e ∙ up

  -- how long L4 runs for a period
  abbrev runs-for : Period → Option ℕ
  runs-for period = Some (max 1 (ticks_of (paced period c.timers) timer.L4))

  -- proving begins, for the period after what the peer asks for
  awaited : (status : LinkStatus) → tells_outage c link status n.parts ≡ false → tells_recovery link status n.parts ≡ false
      → ((period : Period) → acts-on status period NotAligned ≡ act.Go (entering NotAligned (Proving false) (period_after period (Status status)) (Some (proving_status period)) (Some timer.L4)))
      → ((period : Period) → acts-on status period Aligned ≡ act.Go (entering Aligned (Proving false) (period_after period (Status status)) None (Some timer.L4)))
      → AwaitsProving its → left_to_prove c link status n ≡ runs-for (period_after its.period (Status status))
  awaited status out back first second (inl state) =
      begins status NotAligned false (period_after its.period (Status status)) (Some (proving_status its.period)) out back (up-at NotAligned state refl)
      (ap (acts-on status its.period) state ∙ first its.period)
  awaited status out back first second (inr state) =
      begins status Aligned false (period_after its.period (Status status)) None out back (up-at Aligned state refl) (ap (acts-on status its.period) state ∙ second its.period)

  after-normal : AwaitsProving its → left_to_prove c link ProvingNormal n ≡ runs-for (period_after its.period (Status ProvingNormal))
  after-normal awaits = awaited ProvingNormal (and-false c.processor_outage) refl (λ period. refl) (λ period. refl) awaits

  after-emergency : AwaitsProving its → left_to_prove c link ProvingEmergency n ≡ runs-for (period_after its.period (Status ProvingEmergency))
  after-emergency awaits = awaited ProvingEmergency (and-false c.processor_outage) refl (λ period. refl) (λ period. refl) awaits

  normal-by : (period : Period) → its.period ≡ period → AwaitsProving its → left_to_prove c link ProvingNormal n ≡ runs-for (period_after period (Status ProvingNormal))
  normal-by period e awaits = after-normal awaits ∙ ap (λ (p : Period). runs-for (period_after p (Status ProvingNormal))) e

  pub proved-as-asked : IsProvedAsAsked c link its n
  proved-as-asked = record {
    by_peer = λ chosen awaits. after-emergency awaits ∙ asked-for its.period chosen;
    by_this_end = λ e awaits. normal-by Emergency e awaits;
    by_neither = λ either awaits. by-neither either awaits;
    fixed = λ e awaits. after-emergency awaits ∙ ap (λ (p : Period). runs-for (period_after p (Status ProvingEmergency))) e;
    hurried = λ e proved. hurries proved.0 e proved.1;
    runs_on = λ other proved. goes-on other proved.0 proved.1;
  }
    where
      asked-for : (period : Period) → period ≢ Fixed → runs-for (period_after period (Status ProvingEmergency)) ≡ runs-for Emergency
      asked-for Fixed chosen = absurd (chosen refl)
      asked-for Normal chosen = refl
      asked-for Hurried chosen = refl
      asked-for Emergency chosen = refl

      by-neither : (its.period ≡ Normal) ⊎ (its.period ≡ Fixed) → AwaitsProving its → left_to_prove c link ProvingNormal n ≡ Some (max 1 c.timers.l4)
      by-neither (inl e) awaits = normal-by Normal e awaits
      by-neither (inr e) awaits = normal-by Fixed e awaits

      hurried-acts : (ready : Bool) → acts-on ProvingEmergency Normal (Proving ready)
          ≡ act.Go (entering (Proving ready) (Proving ready) (period_after Normal (Status ProvingEmergency)) None (Some timer.L4))
      hurried-acts true = refl
      hurried-acts false = refl

      hurries : (ready : Bool) → its.period ≡ Normal → its.alignment ≡ Proving ready → left_to_prove c link ProvingEmergency n ≡ runs-for Emergency
      hurries ready e state =
          begins ProvingEmergency (Proving ready) ready (period_after Normal (Status ProvingEmergency)) None (and-false c.processor_outage) refl (up-at (Proving ready) state refl)
          (acts-at ProvingEmergency Normal (Proving ready) e state ∙ hurried-acts ready)

      passes : (period : Period) → period ≢ Normal → (ready : Bool) → acts-on ProvingEmergency period (Proving ready) ≡ act.Ignored
      passes Fixed other true = refl
      passes Fixed other false = refl
      passes Normal other ready = absurd (other refl)
      passes Hurried other true = refl
      passes Hurried other false = refl
      passes Emergency other true = refl
      passes Emergency other false = refl

      goes-on : its.period ≢ Normal → (ready : Bool) → its.alignment ≡ Proving ready → left_to_prove c link ProvingEmergency n ≡ n.parts.timers.left (L4 link)
      goes-on other ready state =
          ap (λ (d : Done WholeQueues). d.left.parts.timers.left (L4 link))
          (by-table ProvingEmergency act.Ignored (and-false c.processor_outage) refl (ap (acts-on ProvingEmergency its.period) state ∙ passes its.period other ready))

pub as-asked : links_are_proved_as_either_end_asks
as-asked c link node places = proved-as-asked c link node places
