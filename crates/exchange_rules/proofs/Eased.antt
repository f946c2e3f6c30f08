-- What a tick does if no link enters service or leaves it: timers run down and stop, and none is set but L1, L2, L3,
-- T8, T10, and those of tests. Links lead where they did, and no changeover begins.
use Rattle.exchange_rules.proofs.Basics.{◌≡◌, ◌≢◌, ◌⊎◌, inl, inr, ℕ, Bool, true, false, ◌&&◌, not, List, [], ◌∷◌, length, nat_lt, Option, Some, None, refl, ap, sym, ◌∙◌, ⊎_elim, subst, if◌then◌else◌, and_parts}
use Rattle.exchange_rules.proofs.Definitions.{is_led, send_if, Period, Message, flow_of, Configuration, Cause, FailureReason, ChangeoverTimer, Alignment, Action, Expiry, LinkTimer, action_at, TimerName, Running, L6, L7, set_timer, clear_timer, left-set_other, left-clear, left-clear_other, without_timers, RouteStatus, status_of, Owed, owed, Parts, Node, Found, with_parts, is_link, link_at, in_service, facts, link_of, no_room, fail, fail_link, change_over, make_unavailable, send, send_anew, send_each, lose_each, judged, concluded, complete_if, changeover_of, with_expiry, told_parts, route_message, timed_telling, may_tell, tell, tell_if, tell_each, tell_owed, ask, ask_by, prohibited_test, restricted_test, with_next_test, go_on, go_by, go, go_each, release, waits, run_timer, WholeQueues, whole, Allowed, Restricted, Prohibited, is_in_service, barred, timed_bar, bars, awaits_incomplete, is_unasked, expired, completed, Standing, no_changeover, with_changeover, after_failure}
use Rattle.exchange_rules.specs.ChangingOver.{with_losses}
use Rattle.exchange_rules.specs.Frames.{act_by_timer}
use Rattle.timers.specs.declared.name.TimerName.TheVariants as name
use Rattle.signalling_types.specs.declared.notice.ChangeoverTimer.TheVariants as which
use Rattle.signalling_types.specs.declared.notice.FailureReason.TheVariants as reasons
use Rattle.link.specs.declared.action.Action.TheVariants as act
use Rattle.link.specs.declared.action.LinkTimer.TheVariants as timer
use Rattle.link.specs.declared.alignment.Alignment.TheVariants.{Down, NotAligned, Aligned, Proving, AlignedReady, InService}
use Rattle.node_links.proofs.Serving.{facts_alike}
use Rattle.exchange_rules.specs.Routing.{network_of}
use Rattle.exchange_rules.proofs.Steps.{takes_links, moves_links}
use Rattle.exchange_rules.proofs.WillEnding.{no-way, its-standing, other-standing, its-wait}
use Rattle.exchange_rules.proofs.TimerSettings.{cases-name}
use Rattle.exchange_rules.proofs.SteppingFailures.{expired-complete}

-- the timers that may take a link into service or out of it, and those that complete changeovers and end holds, but T2
abbrev pub is_waited_for : TimerName → Bool
is_waited_for (name.L1 link) = false
is_waited_for (name.L2 link) = false
is_waited_for (name.L3 link) = false
is_waited_for (name.T2 link) = false
is_waited_for (name.T8 set destination) = false
is_waited_for (name.T10 set destination) = false
is_waited_for _ = true

pub link-waited : (timer : TimerName) → takes_links timer ≡ true → is_waited_for timer ≡ true
link-waited (name.L4 link) e = refl
link-waited (name.L6 link) e = refl
link-waited (name.L7 link) e = refl
link-waited (name.L1 link) e = absurd cc
link-waited (name.L2 link) e = absurd cc
link-waited (name.L3 link) e = absurd cc
link-waited (name.T1 link) e = refl
link-waited (name.T2 link) e = absurd cc
link-waited (name.T3 link) e = refl
link-waited (name.T4 set code) e = refl
link-waited (name.T6 destination) e = refl
link-waited (name.T8 set destination) e = absurd cc
link-waited (name.T10 set destination) e = absurd cc
link-waited (name.Slt1 link) e = absurd cc
link-waited (name.Slt2 link) e = absurd cc

pub moved-waited : (timer : TimerName) → moves_links timer ≡ true → is_waited_for timer ≡ true
moved-waited (name.L4 link) e = refl
moved-waited (name.L6 link) e = refl
moved-waited (name.L7 link) e = refl
moved-waited (name.L1 link) e = absurd cc
moved-waited (name.L2 link) e = absurd cc
moved-waited (name.L3 link) e = absurd cc
moved-waited (name.T1 link) e = refl
moved-waited (name.T2 link) e = absurd cc
moved-waited (name.T3 link) e = refl
moved-waited (name.T4 set code) e = refl
moved-waited (name.T6 destination) e = refl
moved-waited (name.T8 set destination) e = absurd cc
moved-waited (name.T10 set destination) e = absurd cc
moved-waited (name.Slt1 link) e = refl
moved-waited (name.Slt2 link) e = refl

-- none of these is set
abbrev pub Less : (r s : Running) → Type 0
Less r s = (timer : TimerName) → is_waited_for timer ≡ true → (x : ℕ) → s.left timer ≡ Some x → r.left timer ≡ Some x

-- nor is T2 of a link whose changeover isn't complete while its answer is awaited, nor is such a wait begun
abbrev pub Waits : (n m : Node WholeQueues) → Type 0
Waits n m =
    (link : ℕ) → awaits_incomplete (changeover_of m.parts link) ≡ true
    → (awaits_incomplete (changeover_of n.parts link) ≡ true) × ((x : ℕ) → m.parts.timers.left (name.T2 link) ≡ Some x → n.parts.timers.left (name.T2 link) ≡ Some x)

-- nor does a changeover begin without an order
abbrev pub Unasked : (n m : Node WholeQueues) → Type 0
Unasked n m = (link : ℕ) → is_unasked (changeover_of m.parts link) ≡ true → is_unasked (changeover_of n.parts link) ≡ true

pub record Eased (n m : Node WholeQueues) : Type 0 where
  pub timers : Less n.parts.timers m.parts.timers
  pub waits : Waits n m
  pub unasked : Unasked n m
  pub ways : (c : Configuration) → facts c m.parts ≡ facts c n.parts

pub eased-both : (n m o : Node WholeQueues) → Eased n m → Eased m o → Eased n o
eased-both n m o e f = record {
  timers = λ timer w x h. e.timers timer w x (f.timers timer w x h);
  waits = λ link i. (let later = f.waits link i in let earlier = e.waits link later.0 in (earlier.0, λ x h. earlier.1 x (later.1 x h)));
  unasked = λ link i. e.unasked link (f.unasked link i);
  ways = λ c. f.ways c ∙ e.ways c;
}

-- the same changeovers, and no T2 is set
pub eased-by : (n m : Node WholeQueues) → Less n.parts.timers m.parts.timers
    → ((link x : ℕ) → m.parts.timers.left (name.T2 link) ≡ Some x → n.parts.timers.left (name.T2 link) ≡ Some x) → m.parts.changeovers ≡ n.parts.changeovers
    → ((c : Configuration) → facts c m.parts ≡ facts c n.parts) → Eased n m
eased-by n m less t2 same ways = record {
  timers = less;
  waits = λ link i. (sym (ap (λ (all : List Standing). awaits_incomplete (changeover_of (record n.parts { changeovers = all }) link)) same) ∙ i, t2 link);
  unasked = λ link i. sym (ap (λ (all : List Standing). is_unasked (changeover_of (record n.parts { changeovers = all }) link)) same) ∙ i;
  ways = ways;
}

pub eased-same : (n m : Node WholeQueues) → m.parts.timers ≡ n.parts.timers → m.parts.changeovers ≡ n.parts.changeovers
    → ((c : Configuration) → facts c m.parts ≡ facts c n.parts) → Eased n m
eased-same n m e same ways =
    eased-by n m (λ timer w x h. sym (ap (λ (r : Running). r.left timer) e) ∙ h) (λ link x h. sym (ap (λ (r : Running). r.left (name.T2 link)) e) ∙ h) same ways

pub eased-none : (n : Node WholeQueues) → Eased n n
eased-none n = eased-same n n refl refl (λ c. refl)

-- the changeover of a link is complete now, and no other T2 is set
closed-done : (link : ℕ) (s : Standing) (p : Parts) → s.incomplete ≡ false → (changeover_of (with_changeover link s p) link).incomplete ≡ true → ⊥
closed-done link s p done incomplete =
    ⊎_elim
    (λ (its : changeover_of (with_changeover link s p) link ≡ s). no-way s.incomplete done (sym (ap (λ (x : Standing). x.incomplete) its) ∙ incomplete))
    (λ (none : changeover_of (with_changeover link s p) link ≡ no_changeover). (let no : false ≡ true = sym (ap (λ (x : Standing). x.incomplete) none) ∙ incomplete in cc))
    (its-standing link s p)

pub closed-apart : (link : ℕ) (s : Standing) (p : Parts) → s.incomplete ≡ false → awaits_incomplete (changeover_of (with_changeover link s p) link) ≡ true → ⊥
closed-apart link s p done i =
    closed-done link s p done (and_parts (changeover_of (with_changeover link s p) link).incomplete (changeover_of (with_changeover link s p) link).awaited i).0

closed-unasked : (link : ℕ) (s : Standing) (n m : Node WholeQueues) → s.incomplete ≡ false → m.parts.changeovers ≡ (with_changeover link s n.parts).changeovers → Unasked n m
closed-unasked link s n m done same other i =
    (let now : is_unasked (changeover_of (with_changeover link s n.parts) other) ≡ true =
    sym (ap (λ (all : List Standing). is_unasked (changeover_of (record n.parts { changeovers = all }) other)) same) ∙ i in
    let apart : other ≢ link = λ is. closed-done link s n.parts done
    (and_parts (changeover_of (with_changeover link s n.parts) link).incomplete (not (changeover_of (with_changeover link s n.parts) link).awaited)
    (subst (λ (k : ℕ). is_unasked (changeover_of (with_changeover link s n.parts) k) ≡ true) is now)).0 in
    sym (ap is_unasked (other-standing n.parts.changeovers link other s n.parts apart)) ∙ now)

pub closed-waits : (link : ℕ) (s : Standing) (n m : Node WholeQueues) → s.incomplete ≡ false → m.parts.changeovers ≡ (with_changeover link s n.parts).changeovers
    → ((other x : ℕ) → other ≢ link → m.parts.timers.left (name.T2 other) ≡ Some x → n.parts.timers.left (name.T2 other) ≡ Some x) → Waits n m
closed-waits link s n m done same t2 other i =
    (let now : awaits_incomplete (changeover_of (with_changeover link s n.parts) other) ≡ true =
    sym (ap (λ (all : List Standing). awaits_incomplete (changeover_of (record n.parts { changeovers = all }) other)) same) ∙ i in
    let apart : other ≢ link = λ is. closed-apart link s n.parts done (subst (λ (k : ℕ). awaits_incomplete (changeover_of (with_changeover link s n.parts) k) ≡ true) is now) in
    (sym (ap awaits_incomplete (other-standing n.parts.changeovers link other s n.parts apart)) ∙ now, λ x. t2 other x apart))

-- ---- timers

pub cleared-left : (its : TimerName) (r : Running) (timer : TimerName) (x : ℕ) → (clear_timer its r).left timer ≡ Some x → r.left timer ≡ Some x
cleared-left its r timer x h =
    ⊎_elim
    (λ (same : its ≡ timer). (let no : None ≡ Some x = sym (left-clear its r) ∙ ap (λ (y : TimerName). (clear_timer its r).left y) same ∙ h in absurd cc))
    (λ (d : its ≢ timer). sym (left-clear_other its timer r d) ∙ h) (cases-name its timer)

pub less-clear : (its : TimerName) (r : Running) → Less r (clear_timer its r)
less-clear its r timer w x h = cleared-left its r timer x h

-- one that nothing waits for is set
less-set : (its : TimerName) (ticks : ℕ) (r : Running) → is_waited_for its ≡ false → Less r (set_timer its ticks r)
less-set its ticks r none timer w x h =
    sym (left-set_other its timer ticks r (λ same. no-way (is_waited_for its) none (ap is_waited_for same ∙ w))) ∙ h

without-left : (link : ℕ) (r : Running) (timer : TimerName) (x : ℕ) → (without_timers link r).left timer ≡ Some x → r.left timer ≡ Some x
without-left link r timer x h =
    let one : Running = clear_timer (name.L1 link) r in
    let two : Running = clear_timer (name.L2 link) one in
    let three : Running = clear_timer (name.L3 link) two in
    let four : Running = clear_timer (name.L4 link) three in
    let six : Running = clear_timer (name.L6 link) four in
    let seven : Running = clear_timer (name.L7 link) six in
    let tests : Running = clear_timer (name.Slt1 link) seven in
    cleared-left (name.L1 link) r timer x
    (cleared-left (name.L2 link) one timer x
    (cleared-left (name.L3 link) two timer x
    (cleared-left (name.L4 link) three timer x (cleared-left (name.L6 link) four timer x
    (cleared-left (name.L7 link) six timer x (cleared-left (name.Slt1 link) seven timer x (cleared-left (name.Slt2 link) tests timer x h)))))))

pub less-without : (link : ℕ) (r : Running) → Less r (without_timers link r)
less-without link r timer w x h = without-left link r timer x h

losses-changeovers : (ms : List Message) (p : Parts) → (lose_each ms p).changeovers ≡ p.changeovers
losses-changeovers [] p = refl
losses-changeovers (m ∷ ms) p = losses-changeovers ms _

judged-changeovers : (reasonable : Bool) (p : Parts) → (judged reasonable p).changeovers ≡ p.changeovers
judged-changeovers true p = refl
judged-changeovers false p = refl

losses-facts : (c : Configuration) (ms : List Message) (p : Parts) → facts c (lose_each ms p) ≡ facts c p
losses-facts c [] p = refl
losses-facts c (m ∷ ms) p = losses-facts c ms _

judged-facts : (c : Configuration) (reasonable : Bool) (p : Parts) → facts c (judged reasonable p) ≡ facts c p
judged-facts c true p = refl
judged-facts c false p = refl

pub losses-timers : (ms : List Message) (p : Parts) → (lose_each ms p).timers ≡ p.timers
losses-timers [] p = refl
losses-timers (m ∷ ms) p = losses-timers ms _

pub judged-timers : (reasonable : Bool) (p : Parts) → (judged reasonable p).timers ≡ p.timers
judged-timers true p = refl
judged-timers false p = refl

-- ---- by the table of the alignment: where L1, L2 or L3 runs out nothing happens, or a link fails that isn't in
-- service

abbrev pub IsIdle : Period → Alignment → LinkTimer → Type 0
IsIdle period a its = (action_at period a (Expiry its) ≡ act.Ignored) ⊎ ((action_at period a (Expiry its) ≡ act.Fail) × (is_in_service a ≡ false))

pub idle-l1 : (period : Period) (a : Alignment) → IsIdle period a timer.L1
idle-l1 period Down = inl refl
idle-l1 period NotAligned = inl refl
idle-l1 period Aligned = inl refl
idle-l1 period (Proving true) = inl refl
idle-l1 period (Proving false) = inl refl
idle-l1 period AlignedReady = inr (refl, refl)
idle-l1 period InService = inl refl

pub idle-l2 : (period : Period) (a : Alignment) → IsIdle period a timer.L2
idle-l2 period Down = inl refl
idle-l2 period NotAligned = inr (refl, refl)
idle-l2 period Aligned = inl refl
idle-l2 period (Proving true) = inl refl
idle-l2 period (Proving false) = inl refl
idle-l2 period AlignedReady = inl refl
idle-l2 period InService = inl refl

pub idle-l3 : (period : Period) (a : Alignment) → IsIdle period a timer.L3
idle-l3 period Down = inl refl
idle-l3 period NotAligned = inl refl
idle-l3 period Aligned = inr (refl, refl)
idle-l3 period (Proving true) = inl refl
idle-l3 period (Proving false) = inl refl
idle-l3 period AlignedReady = inl refl
idle-l3 period InService = inl refl

module _ (c : Configuration) where
  -- ---- messages

  pub send-eased : (room : Option Cause) (link : Option ℕ) (m : Message) (n : Node WholeQueues) → Eased n (send whole c room link m n)
  send-eased (Some cause) link m n = eased-same n _ refl refl (λ d. refl)
  send-eased None None m n = eased-same n _ refl refl (λ d. refl)
  send-eased None (Some link) m n = eased-same n _ refl refl (λ d. refl)

  send_each-eased : (ms : List Message) (n : Node WholeQueues) → Eased n (send_each whole c ms n)
  send_each-eased [] n = eased-none n
  send_each-eased (m ∷ ms) n = eased-both n (send_anew whole c m n) _ (send-eased None (link_of c n.parts (flow_of m)) m n) (send_each-eased ms (send_anew whole c m n))

  go_by-eased : (waiting : Bool) (link : Option ℕ) (m : Message) (n : Node WholeQueues) → Eased n (if waiting then go_by whole c true m n else go_on whole c link m n)
  go_by-eased true link m n = eased-same n _ refl refl (λ d. refl)
  go_by-eased false (Some link) m n = eased-same n _ refl refl (λ d. refl)
  go_by-eased false None m n = eased-same n _ refl refl (λ d. refl)

  go-eased : (waiting : Bool) (m : Message) (n : Node WholeQueues) → Eased n (go_by whole c waiting m n)
  go-eased true m n = go_by-eased true None m n
  go-eased false m n = go_by-eased false (link_of c n.parts (flow_of m)) m n

  go_each-eased : (ms : List Message) (n : Node WholeQueues) → Eased n (go_each whole c ms n)
  go_each-eased [] n = eased-none n
  go_each-eased (m ∷ ms) n = eased-both n (go whole c m n) _ (go-eased (waits c n.parts.holds m) m n) (go_each-eased ms (go whole c m n))

  timed_telling-eased : (set destination : ℕ) (status : RouteStatus) (r : Running) → Less r (timed_telling c set destination status r)
  timed_telling-eased set destination Prohibited r = less-set (name.T8 set destination) c.timers.t8 r refl
  timed_telling-eased set destination Restricted r = λ timer w x h. h
  timed_telling-eased set destination Allowed r = λ timer w x h. h

  told-t2 : (set destination : ℕ) (status : RouteStatus) (r : Running) (link x : ℕ) → (timed_telling c set destination status r).left (name.T2 link) ≡ Some x → r.left (name.T2 link) ≡ Some x
  told-t2 set destination Prohibited r link x h = sym (left-set_other (name.T8 set destination) (name.T2 link) c.timers.t8 r (λ e. cc)) ∙ h
  told-t2 set destination Restricted r link x h = h
  told-t2 set destination Allowed r link x h = h

  tell-eased : (few : Bool) (o : Owed) (n : Node WholeQueues) → Eased n (if few then tell whole c o n else n)
  tell-eased true o n =
      let told : Node WholeQueues = with_parts n (told_parts c o n.parts) in
      let m : Message = route_message c o.set o.destination o.status in
      eased-both n told _ (eased-by n told (timed_telling-eased o.set o.destination o.status n.parts.timers) (λ link x h. told-t2 o.set o.destination o.status n.parts.timers link x h) refl (λ d. refl)) (send-eased (no_room whole c m told.queues) (link_of c told.parts (flow_of m)) m told)
  tell-eased false o n = eased-none n

  tell_each-eased : (os : List Owed) (n : Node WholeQueues) → Eased n (tell_each whole c os n)
  tell_each-eased [] n = eased-none n
  tell_each-eased (o ∷ os) n = eased-both n (tell_if whole c o n) _ (tell-eased (may_tell whole c n) o n) (tell_each-eased os (tell_if whole c o n))

  -- the end of an event
  pub settled-eased : (n : Node WholeQueues) → Eased n (tell_owed whole c (release whole c n))
  unfolding tell_owed
  settled-eased n =
      let out : Node WholeQueues = record n { queues = whole.without_held n.queues } in
      let rest : Node WholeQueues = release whole c n in
      eased-both n rest _ (eased-both n out rest (eased-same n out refl refl (λ d. refl)) (go_each-eased n.queues.held out)) (tell_each-eased (owed (facts c rest.parts) rest.parts.told) rest)

  led-eased : (may : Bool) (m : Message) (n : Node WholeQueues) → Eased n (send_if whole c may m n)
  led-eased true m n = send-eased (no_room whole c m n.queues) (link_of c n.parts (flow_of m)) m n
  led-eased false m n = eased-none n

  asked-eased : (m : Message) (set destination : ℕ) (n : Node WholeQueues) → Eased n (ask whole c m set destination n)
  asked-eased m set destination n =
      let next : Node WholeQueues = with_parts n (with_next_test whole c set destination n.parts) in
      eased-both n next _ (eased-by n next (less-set (name.T10 set destination) c.timers.t10 n.parts.timers refl) (λ link x h. sym (left-set_other (name.T10 set destination) (name.T2 link) c.timers.t10 n.parts.timers (λ e. cc)) ∙ h) refl (λ d. refl)) (led-eased (is_led c m n.parts) m next)

  ask-eased : (status : Option RouteStatus) (set destination : ℕ) (n : Node WholeQueues) → Eased n (ask_by whole c status set destination n)
  ask-eased (Some Prohibited) set destination n = asked-eased (prohibited_test whole c set destination) set destination n
  ask-eased (Some Restricted) set destination n = asked-eased (restricted_test whole c set destination) set destination n
  ask-eased (Some Allowed) set destination n = eased-none n
  ask-eased None set destination n = eased-none n

  asks-eased : (there : Bool) (set destination : ℕ) (n : Node WholeQueues) → Eased n (if there then ask_by whole c (status_of (facts c n.parts) destination set) set destination n else n)
  asks-eased true set destination n = ask-eased (status_of (facts c n.parts) destination set) set destination n
  asks-eased false set destination n = eased-none n

  -- ---- a changeover whose timer ran out

  pub completed-eased : (incomplete : Bool) (link : ℕ) (number : Option ℕ) (n : Node WholeQueues) → Eased n (complete_if whole c incomplete link number n)
  completed-eased false link number n = eased-none n
  completed-eased true link number n =
      let found : Found = whole.found n.queues link number in
      let done : Node WholeQueues = record { queues = whole.completed n.queues link number; parts = concluded link found n.parts } in
      let same : (with_losses found n.parts).timers ≡ n.parts.timers = judged-timers found.is_reasonable (lose_each found.lost n.parts) ∙ losses-timers found.lost n.parts in
      let left : (timer : TimerName) (x : ℕ) → done.parts.timers.left timer ≡ Some x → n.parts.timers.left timer ≡ Some x =
      λ timer x h. sym (ap (λ (r : Running). r.left timer) same) ∙ cleared-left (name.T1 link) (with_losses found n.parts).timers timer x h in
      eased-both n done _
      (eased-by n done (λ timer w x h. left timer x h) (λ other x h. left (name.T2 other) x h)
      (judged-changeovers found.is_reasonable (lose_each found.lost n.parts) ∙ losses-changeovers found.lost n.parts)
      (λ d. judged-facts d found.is_reasonable (lose_each found.lost n.parts) ∙ losses-facts d found.lost n.parts))
      (send_each-eased found.queued_anew done)

  bar-less : (ticks : Option ℕ) (is_barred : Bool) (link : ℕ) (r : Running) → Less r (timed_bar ticks is_barred link r)
  bar-less (Some ticks) true link r = less-set (name.T2 link) ticks r refl
  bar-less (Some ticks) false link r = λ timer w x h. h
  bar-less None is_barred link r = λ timer w x h. h

  bar-t2 : (ticks : Option ℕ) (is_barred : Bool) (link other : ℕ) (r : Running) (x : ℕ) → other ≢ link → (timed_bar ticks is_barred link r).left (name.T2 other) ≡ Some x
      → r.left (name.T2 other) ≡ Some x
  bar-t2 (Some ticks) true link other r x apart h = sym (left-set_other (name.T2 link) (name.T2 other) ticks r (λ e. its-wait link other apart (inr (sym e)))) ∙ h
  bar-t2 (Some ticks) false link other r x apart h = h
  bar-t2 None is_barred link other r x apart h = h

  pub expired-eased : (there : Bool) (expiry : ChangeoverTimer) (link : ℕ) (n : Node WholeQueues)
      → Eased n (if there then complete_if whole c (changeover_of n.parts link).incomplete link None (with_parts n (with_expiry c expiry link (barred c link n.parts))) else n)
  expired-eased false expiry link n = eased-none n
  expired-eased true expiry link n =
      eased-both n (next expiry) _ (by expiry) (completed-eased (changeover_of n.parts link).incomplete link None (next expiry))
    where
      st : Standing
      st = changeover_of n.parts link

      next : ChangeoverTimer → Node WholeQueues
      next its = with_parts n (with_expiry c its link (barred c link n.parts))

      less : Less n.parts.timers (barred c link n.parts).timers
      less = bar-less c.timers.t2_bar (awaits_incomplete st) link n.parts.timers

      others : (other x : ℕ) → other ≢ link → (barred c link n.parts).timers.left (name.T2 other) ≡ Some x → n.parts.timers.left (name.T2 other) ≡ Some x
      others other x apart h = bar-t2 c.timers.t2_bar (awaits_incomplete st) link other n.parts.timers x apart h

      by : (its : ChangeoverTimer) → Eased n (next its)
      by which.T1 = record {
        timers = less;
        waits = closed-waits link (completed st) n (next which.T1) refl refl others;
        unasked = closed-unasked link (completed st) n (next which.T1) refl refl;
        ways = λ d. refl;
      }
      by which.T2 = record {
        timers = less;
        waits = closed-waits link (expired (bars c) which.T2 st) n (next which.T2) (expired-complete (bars c) st) refl others;
        unasked = closed-unasked link (expired (bars c) which.T2 st) n (next which.T2) (expired-complete (bars c) st) refl;
        ways = λ d. refl;
      }

  -- ---- L1, L2 or L3 of a link ran out: it isn't in service

  fell-eased : (served : Bool) (link : ℕ) (why : FailureReason) (n : Node WholeQueues) → in_service n.parts link ≡ served → served ≡ false → Eased n (fail whole c link why n)
  fell-eased true link why n e f = absurd cc
  fell-eased false link why n e f =
      (let is : fail whole c link why n ≡ with_parts n (fail_link link why n.parts) = ap (λ (b : Bool). change_over whole c b link (make_unavailable whole c b link why n)) e in
      eased-same-as is (eased-by n _ (less-without link n.parts.timers) (λ other x h. without-left link n.parts.timers (name.T2 other) x h) refl
      (λ d. facts_alike (network_of d n.parts) link (after_failure (link_at n.parts link)) (sym (ap (λ (b : Bool). b && not (link_at n.parts link).untested) e)))))
    where
      eased-same-as : {m o : Node WholeQueues} → m ≡ o → Eased n o → Eased n m
      eased-same-as is h = subst (λ (x : Node WholeQueues). Eased n x) (sym is) h

  acts-eased : (a : Action) (link : ℕ) (n : Node WholeQueues) → (a ≡ act.Ignored) ⊎ ((a ≡ act.Fail) × (in_service n.parts link ≡ false)) → Eased n (act_by_timer whole c a link n)
  acts-eased a link n how =
      ⊎_elim (λ (e : a ≡ act.Ignored). subst (λ (x : Action). Eased n (act_by_timer whole c x link n)) (sym e) (eased-none n))
      (λ (e : (a ≡ act.Fail) × (in_service n.parts link ≡ false)).
      subst (λ (x : Action). Eased n (act_by_timer whole c x link n)) (sym e.0) (fell-eased (in_service n.parts link) link reasons.Timer n refl e.1)) how

  -- ---- a timer that runs out

  pub ran-eased : (its : TimerName) (n : Node WholeQueues) → moves_links its ≡ false → Eased n (run_timer whole c its n)
  ran-eased (name.L1 link) n e = acts-eased _ link n (idle-l1 (link_at n.parts link).period (link_at n.parts link).alignment)
  ran-eased (name.L2 link) n e = acts-eased _ link n (idle-l2 (link_at n.parts link).period (link_at n.parts link).alignment)
  ran-eased (name.L3 link) n e = acts-eased _ link n (idle-l3 (link_at n.parts link).period (link_at n.parts link).alignment)
  ran-eased (name.L4 link) n e = absurd cc
  ran-eased (name.L6 link) n e = absurd cc
  ran-eased (name.L7 link) n e = absurd cc
  ran-eased (name.T1 link) n e = expired-eased (is_link n.parts link) which.T1 link n
  ran-eased (name.T2 link) n e = expired-eased (is_link n.parts link) which.T2 link n
  ran-eased (name.T3 link) n e = eased-same n _ refl refl (λ d. refl)
  ran-eased (name.T4 set code) n e = eased-same n _ refl refl (λ d. refl)
  ran-eased (name.T6 destination) n e = eased-same n _ refl refl (λ d. refl)
  ran-eased (name.T8 set destination) n e = eased-none n
  ran-eased (name.T10 set destination) n e = asks-eased (nat_lt set (length c.sets) && nat_lt destination (length c.destinations)) set destination n
  ran-eased (name.Slt1 link) n e = absurd cc
  ran-eased (name.Slt2 link) n e = absurd cc
