-- The steps that rules are made of: each change of a node that a rule makes, with what holds when it makes it. A
-- relation between two nodes that holds of each step, and of one after another, holds of every rule, every event and
-- every take (`Stepping..`, `Rules`).
use Rattle.exchange_rules.proofs.Basics.{◌≡◌, ◌⊎◌, ◌&&◌, not, ℕ, Bool, true, false, refl, List, [], length, Option, Some, find, if◌then◌else◌, slice_index_or, option_map}
use Rattle.exchange_rules.proofs.Definitions.{set_timer, has_other, set_of, Message, flow_of, Notice, FailureReason, Configuration, Input, Go, Transition, acts_on, Sending, LinkTestValue, TimerName, L7, Running, is_running, is_due, Route, RouteStatus, Allowed, leads_by, ToldTable, is_own_point, shape_of, Link, Standing, may_restart, with_code, HoldSet, Parts, Node, Done, with_parts, lost_any, late_any, is_link, link_at, links_with, with_link, down, in_service, recovered, with_ready, LinkStatus, note, flagged, flagged_late, link_of, queue_on, waits, hold, is_adjacent, test_answer, changeover_of, with_changeover, fail_link, declaration, with_titles, step_on, timed_busy, timed_busy_ended, may_open, without_association, open_link, Carrying, carries, numbers, timed_parts, SendsMessage, next_message, after_sending, WholeQueues, whole, HasHoldsFor, tells_of_loss, tells_of_lateness, ChangeoverTimer, Facts, Procedure, Changeover, Code, lifted, fail, on_changeover_order, on_changeover_acknowledgement, on_changeover_timer, is_barred, unbarred, hold_flows, freed, held_by_rerouting, TitlesValue, in_outage, put_out, let_back, tests_links, link_test, enters_traffic, is_first_test, with_test_passed, is_unasked, with_order, is_late, order_late}
use Rattle.std.specs.Prelude.{drop, map, Ok}
use Rattle.timers.specs.declared.name.TimerName.TheVariants as name
use Rattle.exchange_rules.proofs.TimerSettings.{AreSet}
use Rattle.exchange_rules.specs.Testing.{is_unsure}
use Rattle.signalling_types.specs.declared.notice.Notice.TheVariants as notices
use Rattle.signalling_types.specs.declared.notice.FailureReason.TheVariants as reasons
use Rattle.signalling_types.specs.declared.notice.ChangeoverTimer.TheVariants as which

-- timers change, but none that watches a link: the same names exist, each L7 runs that ran, and no timer becomes due
pub record AreTimed (r s : Running) : Type 0 where
  pub counts : s.counts ≡ r.counts
  pub watching : (link : ℕ) → is_running (L7 link) s ≡ is_running (L7 link) r
  pub due : (name : TimerName) → is_due s name ≡ true → is_due r name ≡ true

-- other flows are held, by procedures that are there
pub record AreHeld (c : Configuration) (h g : HoldSet) : Type 0 where
  pub fits : HasHoldsFor c h → HasHoldsFor c g

-- whether a notice names a link as failed
abbrev pub is_failure : Notice → Bool
is_failure (notices.Failed link why) = true
is_failure (notices.Lost cause point sls) = false
is_failure (notices.Unsent cause point) = false
is_failure (notices.Expired timer link) = false
is_failure (notices.Unbarred by link) = false
is_failure (notices.Refused cause link) = false
is_failure (notices.Frame fault link) = false
is_failure (notices.Late timer number) = false

-- a notice says of losses and of lateness what the flags say, and names no link as failed
pub record IsTold (notice : Notice) (p : Parts) : Type 0 where
  pub other : is_failure notice ≡ false
  pub lost : tells_of_loss notice ≡ true → lost_any p ≡ true
  pub late : tells_of_lateness notice ≡ true → late_any p ≡ true

-- the status of the route to a destination over a set, if there is one
abbrev pub status_over : (set destination : ℕ) → List (List Route) → Option RouteStatus
status_over set destination routes = option_map (λ route. route.status) (find (leads_by set) (slice_index_or routes destination []))

-- the route to each adjacent point over its own set is allowed
pub record AreOwnAllowed (t : ToldTable) (routes : List (List Route)) : Type 0 where
  pub each : (set destination : ℕ) (status : RouteStatus) → is_own_point t set destination ≡ true → status_over set destination routes ≡ Some status → status ≡ Allowed

-- routes without their statuses: of each destination the sets that lead there, and whether they are joined
abbrev pub any_status : Route → Route
any_status route = record route { status = Allowed }

abbrev pub ways_of : List (List Route) → List (List Route)
ways_of routes = map (map any_status) routes

-- routes get other statuses, and those stay allowed
pub record AreRerouted (t : ToldTable) (old new : List (List Route)) : Type 0 where
  pub size : length new ≡ length old
  pub ways : ways_of new ≡ ways_of old
  pub own : AreOwnAllowed t old → AreOwnAllowed t new

-- the same points were told of as many destinations
pub record AreToldMore (old new : ToldTable) : Type 0 where
  pub shape : shape_of new ≡ shape_of old
  pub adjacents : new.adjacents ≡ old.adjacents

-- the statuses that wait stay, one of them goes out, or Ready answers a recovery
abbrev pub WaitsAs : (before after : List LinkStatus) → Type 0
WaitsAs before after = (after ≡ before) ⊎ ((after ≡ drop 1 before) ⊎ (after ≡ with_ready before))

-- a link has its association, and carries messages and traffic as before
pub record IsSameLink (l x : Link) : Type 0 where
  pub alignment : x.alignment ≡ l.alignment
  pub period : x.period ≡ l.period
  pub association : x.association ≡ l.association
  pub busy : x.peer_busy ≡ l.peer_busy
  pub waits : WaitsAs l.waiting x.waiting
  pub untested : x.untested ≡ l.untested

-- an outage of its peer's processor begins only where the settings ask for it
abbrev pub MayBeOut : Configuration → (l x : Link) → Type 0
MayBeOut c l x = x.peer_outage ≡ true → (l.peer_outage ≡ true) ⊎ (c.processor_outage ≡ true)

-- its peer becomes busy, and isn't busy any more
abbrev pub with_busy : Configuration → ℕ → Parts → Parts
with_busy c link p = record p {
  links = links_with p link (record (link_at p link) { peer_busy = true });
  timers = timed_busy c link p.timers;
}

abbrev pub without_busy : Configuration → ℕ → ℕ → Parts → Parts
without_busy c link outstanding p = record p {
  links = links_with p link (record (link_at p link) { peer_busy = false });
  timers = timed_busy_ended c link outstanding p.timers;
}

-- User Data is accepted, before its message is looked at
abbrev pub confirming : Configuration → ℕ → Carrying → ℕ → Node WholeQueues → Node WholeQueues
confirming c link d confirmed n = record {
  queues = whole.accepted n.queues link d.fsn d.bsn (carries d);
  parts = timed_parts c link confirmed (whole.outstanding (whole.accepted n.queues link d.fsn d.bsn (carries d)) link) n.parts;
}

-- its processor is out, and recovers, before its flows are held and let go
abbrev pub outed : ℕ → Parts → Parts
outed link p = with_link p link (record (link_at p link) { peer_outage = true })

abbrev pub recovering : ℕ → Parts → Parts
recovering link p = with_link p link (recovered (link_at p link))

-- R holds of each step. Own are the links that may enter service by it, and send; Counts are those whose counts may be
-- reset, or rise as User Data is accepted
pub record IsOfSteps (c : Configuration) (Own Counts : ℕ → Type 0) (R : Node WholeQueues → Node WholeQueues → Type 0) : Type 0 where
  pub none : (n : Node WholeQueues) → R n n
  pub both : (n m o : Node WholeQueues) → R n m → R m o → R n o
  -- ---- messages: one goes to the end of the queue of its flow's link; a declaration, the answer to a test, and the
  -- test of a link to that of a link in service
  pub routed : (link : ℕ) (m : Message) (n : Node WholeQueues) → link_of c n.parts (flow_of m) ≡ Some link → R n (queue_on whole c link m n)
  pub declared : (link other code : ℕ) (n : Node WholeQueues) → in_service n.parts link ≡ true → in_service n.parts other ≡ true
      → R n (queue_on whole c other (declaration c link code) n)
  pub tested : (link point : ℕ) (test : LinkTestValue) (n : Node WholeQueues) → in_service n.parts link ≡ true → is_adjacent c point ≡ true
      → R n (queue_on whole c link (test_answer c point test) n)
  pub probed : (link : ℕ) (n : Node WholeQueues) → in_service n.parts link ≡ true → R n (queue_on whole c link (link_test c link) n)
  -- one waits; all that wait are taken out, to go on
  pub held : (m : Message) (n : Node WholeQueues) → waits c n.parts.holds m ≡ true → R n (hold whole m n)
  pub taken_out : (n : Node WholeQueues) → R n (record n { queues = whole.without_held n.queues })
  -- ---- parts that concern no link
  pub noted : (notice : Notice) (n : Node WholeQueues) → IsTold notice n.parts → R n (with_parts n (note notice n.parts))
  pub lost : (n : Node WholeQueues) → R n (with_parts n (flagged n.parts))
  pub counted : (messages broken : ℕ) (n : Node WholeQueues) → R n (with_parts n (record n.parts { messages_lost = messages; times_broken = broken }))
  pub late : (n : Node WholeQueues) → R n (with_parts n (flagged_late n.parts))
  pub timed : (r : Running) (n : Node WholeQueues) → AreTimed n.parts.timers r → R n (with_parts n (record n.parts { timers = r }))
  pub holding : (h : HoldSet) (n : Node WholeQueues) → AreHeld c n.parts.holds h → R n (with_parts n (record n.parts { holds = h }))
  pub coded : (set code : ℕ) (awaited : Bool) (n : Node WholeQueues) → R n (with_parts n (record n.parts { codes = with_code n.parts.codes set code awaited }))
  pub rerouted : (routes : List (List Route)) (n : Node WholeQueues) → AreRerouted n.parts.told n.parts.routes routes → R n (with_parts n (record n.parts { routes = routes }))
  pub told : (t : ToldTable) (n : Node WholeQueues) → AreToldMore n.parts.told t → R n (with_parts n (record n.parts { told = t }))
  pub titled : (titles : TitlesValue) (n : Node WholeQueues) → R n (with_parts n (with_titles titles n.parts))
  pub unequipped : (counts : List ℕ) (n : Node WholeQueues) → length counts ≡ length n.parts.unequipped → R n (with_parts n (record n.parts { unequipped = counts }))
  -- ---- a link fails: in service, so that its changeover isn't complete, or on its way there
  pub failed : (link : ℕ) (why : FailureReason) (s : Standing) (n : Node WholeQueues) → in_service n.parts link ≡ true → s.incomplete ≡ true
      → R n (with_parts n (with_changeover link s (fail_link link why n.parts)))
  pub dropped : (link : ℕ) (why : FailureReason) (n : Node WholeQueues) → in_service n.parts link ≡ false → R n (with_parts n (fail_link link why n.parts))
  -- a changeover that isn't complete is completed; the answer to another's order is awaited no more
  pub completed : (link : ℕ) (number : Option ℕ) (s : Standing) (n : Node WholeQueues) → (changeover_of n.parts link).incomplete ≡ true → s.incomplete ≡ false
      → R n (record { queues = whole.completed n.queues link number; parts = with_changeover link s n.parts })
  pub answered : (link : ℕ) (s : Standing) (n : Node WholeQueues) → (changeover_of n.parts link).incomplete ≡ false → s.incomplete ≡ false
      → (s.awaited ≡ true → (changeover_of n.parts link).awaited ≡ true) → R n (with_parts n (with_changeover link s n.parts))
  -- an order about it goes out late, that didn't before
  pub asked : (link : ℕ) (n : Node WholeQueues) → is_unasked (changeover_of n.parts link) ≡ true
      → R n (with_parts n (with_changeover link (with_order (changeover_of n.parts link)) n.parts))
  -- ---- a link loses its association, opens, takes a step of its alignment, hears that its peer is busy and that it
  -- isn't, accepts User Data, and sends
  pub linked : (link : ℕ) (x : Link) (n : Node WholeQueues) → IsSameLink (link_at n.parts link) x → MayBeOut c (link_at n.parts link) x
      → R n (with_parts n (with_link n.parts link x))
  pub parted : (link : ℕ) (n : Node WholeQueues) → down n.parts link ≡ true → R n (with_parts n (without_association link n.parts))
  pub opened : (link : ℕ) (n : Node WholeQueues) → Counts link → is_link n.parts link ≡ true → may_open (link_at n.parts link) ≡ true
      → may_restart (changeover_of n.parts link) ≡ true → R n (open_link whole c link n)
  pub stepped : (link : ℕ) (input : Input) (step : Transition) (n : Node WholeQueues) → Own link → acts_on (link_at n.parts link) input ≡ Go step
      → R n (with_parts n (step_on c link step n.parts))
  -- a link passes a test
  pub passed : (link : ℕ) (n : Node WholeQueues) → in_service n.parts link ≡ true → R n (with_parts n (with_test_passed link n.parts))
  pub busied : (link : ℕ) (n : Node WholeQueues) → Own link → in_service n.parts link ≡ true → (link_at n.parts link).peer_busy ≡ false
      → R n (with_parts n (with_busy c link n.parts))
  pub resumed : (link : ℕ) (n : Node WholeQueues) → Own link → in_service n.parts link ≡ true → (link_at n.parts link).peer_busy ≡ true
      → R n (with_parts n (without_busy c link (whole.outstanding n.queues link) n.parts))
  pub accepted : (link : ℕ) (d : Carrying) (confirmed : ℕ) (n : Node WholeQueues) → Counts link → in_service n.parts link ≡ true → numbers whole c link d n ≡ Ok confirmed
      → R n (confirming c link d confirmed n)
  pub sent : (link : ℕ) (next : Sending) (n : Node WholeQueues) → Own link → next_message whole c link n ≡ Some next
      → R n (after_sending whole c link n (SendsMessage next))

-- ---- rules as a whole, where they change holds, or changeovers, or the timers that end holds

-- T1 and T2 end changeovers, T3, T4 and T6 holds
abbrev pub ends_holds : TimerName → Bool
ends_holds (name.T1 link) = true
ends_holds (name.T2 link) = true
ends_holds (name.T3 link) = true
ends_holds (name.T4 set code) = true
ends_holds (name.T6 destination) = true
ends_holds _ = false

-- L4, L6 and L7 may take a link into service, or out of it
abbrev pub takes_links : TimerName → Bool
takes_links (name.L4 link) = true
takes_links (name.L6 link) = true
takes_links (name.L7 link) = true
takes_links _ = false

-- and so may those of its tests
abbrev pub moves_links : TimerName → Bool
moves_links (name.Slt1 link) = true
moves_links (name.Slt2 link) = true
moves_links other = takes_links other

-- the timers of tests
abbrev pub is_of_test : TimerName → Bool
is_of_test (name.Slt1 link) = true
is_of_test (name.Slt2 link) = true
is_of_test _ = false

-- the timers of links
abbrev pub is_of_link : TimerName → Bool
is_of_link (name.L1 link) = true
is_of_link (name.L2 link) = true
is_of_link (name.L3 link) = true
is_of_link (name.L4 link) = true
is_of_link (name.L6 link) = true
is_of_link (name.L7 link) = true
is_of_link _ = false

-- timers change, but none of a link and none that ends holds, and each that is set is set to its setting; T8 stops only
-- of the sets of E, and none of a test starts where the node doesn't test its links
pub record AreQuiet (c : Configuration) (E : ℕ → Type 0) (r s : Running) : Type 0 where
  pub timed : AreTimed r s
  pub endings : (name : TimerName) → ends_holds name ≡ true → s.left name ≡ r.left name
  pub links : (name : TimerName) → is_of_link name ≡ true → s.left name ≡ r.left name
  pub set : AreSet c E r s
  pub tests : tests_links c ≡ false → (name : TimerName) → is_of_test name ≡ true → is_running name s ≡ true → is_running name r ≡ true

-- no notice tells of both
pub not-both : (notice : Notice) → tells_of_loss notice ≡ true → tells_of_lateness notice ≡ true → ⊥
not-both (notices.Lost cause point sls) e f = absurd cc
not-both (notices.Unsent cause point) e f = absurd cc
not-both (notices.Expired timer link) e f = absurd cc
not-both (notices.Unbarred by link) e f = absurd cc
not-both (notices.Refused cause link) e f = absurd cc
not-both (notices.Frame fault link) e f = absurd cc
not-both (notices.Failed link why) e f = absurd cc
not-both (notices.Late timer number) e f = absurd cc

pub loss-other : (notice : Notice) → tells_of_loss notice ≡ true → is_failure notice ≡ false
loss-other (notices.Failed link why) e = absurd cc
loss-other (notices.Lost cause point sls) e = refl
loss-other (notices.Unsent cause point) e = refl
loss-other (notices.Expired timer link) e = refl
loss-other (notices.Unbarred by link) e = refl
loss-other (notices.Refused cause link) e = refl
loss-other (notices.Frame fault link) e = refl
loss-other (notices.Late timer number) e = refl

pub lateness-other : (notice : Notice) → tells_of_lateness notice ≡ true → is_failure notice ≡ false
lateness-other (notices.Late timer number) e = refl
lateness-other (notices.Lost cause point sls) e = absurd cc
lateness-other (notices.Unsent cause point) e = absurd cc
lateness-other (notices.Expired timer link) e = absurd cc
lateness-other (notices.Unbarred by link) e = absurd cc
lateness-other (notices.Refused cause link) e = absurd cc
lateness-other (notices.Frame fault link) e = absurd cc
lateness-other (notices.Failed link why) e = absurd cc

-- R holds of the steps of which it is made that a message goes out or is dropped: what may be lost is noted and counted
-- at once
pub record IsOfSends (c : Configuration) (R : Node WholeQueues → Node WholeQueues → Type 0) : Type 0 where
  pub none : (n : Node WholeQueues) → R n n
  pub both : (n m o : Node WholeQueues) → R n m → R m o → R n o
  pub routed : (link : ℕ) (m : Message) (n : Node WholeQueues) → link_of c n.parts (flow_of m) ≡ Some link → R n (queue_on whole c link m n)
  pub noted : (notice : Notice) (n : Node WholeQueues) → IsTold notice n.parts → R n (with_parts n (note notice n.parts))
  pub lost : (notice : Notice) (n : Node WholeQueues) → tells_of_loss notice ≡ true → R n (with_parts n (flagged (note notice n.parts)))
  pub counted : (messages broken : ℕ) (n : Node WholeQueues) → R n (with_parts n (record n.parts { messages_lost = messages; times_broken = broken }))

abbrev pub sends-of : {c : Configuration} {Own Counts : ℕ → Type 0} {R : Node WholeQueues → Node WholeQueues → Type 0} → IsOfSteps c Own Counts R → IsOfSends c R
sends-of s = record {
  none = s.none;
  both = s.both;
  routed = s.routed;
  noted = s.noted;
  lost = λ notice n e. s.both _ _ _ (s.lost n) (s.noted notice _ (record { other = loss-other notice e; lost = λ f. refl; late = λ f. absurd (not-both notice e f) }));
  counted = s.counted;
}

-- what not every event may do: a link opens, or fails for a reason, a set comes back by a test, the holds of a
-- procedure end, the answer to an order isn't awaited any more, a message for a user part that isn't here is counted, and translation rows or prohibited subsystems
-- change
pub data Deed : Type 0 where
  LinkOpens : (link : ℕ) → Deed
  SetReturns : (set : ℕ) → Deed
  LinkFails : (link : ℕ) (why : FailureReason) → Deed
  HoldsEnd : (procedure : Procedure) → Deed
  WaitEnds : (link : ℕ) → Deed
  Lacking : Deed
  TitlesChange : Deed

-- what is known over a set may be reset: one of its links may enter service, or it may come back by a test
pub record IsOfSet (c : Configuration) (Own : ℕ → Type 0) (set : ℕ) : Type 0 where
  pub link : ℕ
  pub own : Own link
  pub is : set_of c link ≡ set

abbrev pub MayReturn : (c : Configuration) (Own : ℕ → Type 0) (May : Deed → Type 0) → ℕ → Type 0
MayReturn c Own May set = IsOfSet c Own set ⊎ May (SetReturns set)

-- T10 stops only of a route that is allowed, or isn't there
pub record KeepsTests (p : Parts) (r : Running) : Type 0 where
  pub each : (set destination : ℕ) → is_running (name.T10 set destination) p.timers ≡ true → is_running (name.T10 set destination) r ≡ false
      → is_unsure (status_over set destination p.routes) ≡ false

-- T10 was set last
pub record IsJustSet (set destination : ℕ) (r : Running) : Type 0 where
  pub before : Running
  pub ticks : ℕ
  pub is : r ≡ set_timer (name.T10 set destination) ticks before

-- a route that isn't allowed now wasn't so before, either, or is tested from now on
pub record AreTestedAs (p : Parts) (routes : List (List Route)) : Type 0 where
  pub each : (set destination : ℕ) → is_unsure (status_over set destination routes) ≡ true
      → (is_unsure (status_over set destination p.routes) ≡ true) ⊎ IsJustSet set destination p.timers

-- a link passes its first test, and is the first of its set to carry traffic
abbrev pub brings_back : Configuration → (link : ℕ) → Parts → Bool
brings_back c link p = is_first_test link p && not (has_other c link p)

-- where a link begins to carry traffic, and is the first of its set, all routes over that are allowed
pub record BeginsClean (c : Configuration) (begins : Bool) (link : ℕ) (p : Parts) : Type 0 where
  pub clean : (begins && not (has_other c link p)) ≡ true → (destination : ℕ) → is_unsure (status_over (set_of c link) destination p.routes) ≡ false

-- R holds of each step that changes none of these, and of each rule that does, given what may be done. So a law may see
-- a hold and its timer as one, which the steps show one after the other
pub record IsOfDeeds (c : Configuration) (Own Counts : ℕ → Type 0) (May : Deed → Type 0) (R : Node WholeQueues → Node WholeQueues → Type 0) : Type 0 where
  pub sends : IsOfSends c R
  pub tested : (link point : ℕ) (test : LinkTestValue) (n : Node WholeQueues) → in_service n.parts link ≡ true → is_adjacent c point ≡ true
      → R n (queue_on whole c link (test_answer c point test) n)
  pub probed : (link : ℕ) (n : Node WholeQueues) → in_service n.parts link ≡ true → R n (queue_on whole c link (link_test c link) n)
  pub held : (m : Message) (n : Node WholeQueues) → waits c n.parts.holds m ≡ true → R n (hold whole m n)
  pub taken_out : (n : Node WholeQueues) → R n (record n { queues = whole.without_held n.queues })
  pub late : (notice : Notice) (n : Node WholeQueues) → tells_of_lateness notice ≡ true → R n (with_parts n (flagged_late (note notice n.parts)))
  pub timed : (r : Running) (n : Node WholeQueues) → AreQuiet c (MayReturn c Own May) n.parts.timers r → KeepsTests n.parts r → R n (with_parts n (record n.parts { timers = r }))
  pub rerouted : (routes : List (List Route)) (n : Node WholeQueues) → AreRerouted n.parts.told n.parts.routes routes → AreTestedAs n.parts routes → R n (with_parts n (record n.parts { routes = routes }))
  pub told : (t : ToldTable) (n : Node WholeQueues) → AreToldMore n.parts.told t → R n (with_parts n (record n.parts { told = t }))
  pub titled : (titles : TitlesValue) (n : Node WholeQueues) → May TitlesChange → R n (with_parts n (with_titles titles n.parts))
  pub unequipped : (counts : List ℕ) (n : Node WholeQueues) → length counts ≡ length n.parts.unequipped → May Lacking → R n (with_parts n (record n.parts { unequipped = counts }))
  pub linked : (link : ℕ) (x : Link) (n : Node WholeQueues) → IsSameLink (link_at n.parts link) x → x.peer_outage ≡ (link_at n.parts link).peer_outage
      → R n (with_parts n (with_link n.parts link x))
  pub parted : (link : ℕ) (n : Node WholeQueues) → down n.parts link ≡ true → R n (with_parts n (without_association link n.parts))
  pub opened : (link : ℕ) (n : Node WholeQueues) → Counts link → is_link n.parts link ≡ true → may_open (link_at n.parts link) ≡ true
      → may_restart (changeover_of n.parts link) ≡ true → May (LinkOpens link) → R n (open_link whole c link n)
  pub stepped : (link : ℕ) (input : Input) (step : Transition) (n : Node WholeQueues) → Own link → acts_on (link_at n.parts link) input ≡ Go step
      → BeginsClean c (enters_traffic link step n.parts) link n.parts → R n (with_parts n (step_on c link step n.parts))
  pub passed : (link : ℕ) (n : Node WholeQueues) → in_service n.parts link ≡ true
      → BeginsClean c (is_first_test link n.parts) link n.parts → R n (with_parts n (with_test_passed link n.parts))
  pub busied : (link : ℕ) (n : Node WholeQueues) → Own link → in_service n.parts link ≡ true → (link_at n.parts link).peer_busy ≡ false
      → R n (with_parts n (with_busy c link n.parts))
  pub resumed : (link : ℕ) (n : Node WholeQueues) → Own link → in_service n.parts link ≡ true → (link_at n.parts link).peer_busy ≡ true
      → (link_at n.parts link).peer_outage ≡ false → R n (with_parts n (without_busy c link (whole.outstanding n.queues link) n.parts))
  pub accepted : (link : ℕ) (d : Carrying) (confirmed : ℕ) (n : Node WholeQueues) → Counts link → in_service n.parts link ≡ true → numbers whole c link d n ≡ Ok confirmed
      → R n (confirming c link d confirmed n)
  pub sent : (link : ℕ) (next : Sending) (n : Node WholeQueues) → Own link → next_message whole c link n ≡ Some next
      → R n (after_sending whole c link n (SendsMessage next))
  -- ---- the processor of a link's peer is out, and its flows are held; it is back, and they aren't any more
  pub put : (link : ℕ) (n : Node WholeQueues) → c.processor_outage ≡ true → in_service n.parts link ≡ true → (link_at n.parts link).peer_busy ≡ true
      → R n (with_parts n (put_out c link (whole.unconfirmed n.queues link) n.parts))
  pub back : (link : ℕ) (n : Node WholeQueues) → in_outage n.parts link ≡ true → May (HoldsEnd (Changeover link)) → R n (with_parts n (let_back link n.parts))
  -- ---- a link fails, and its changeover goes on and ends
  pub fails : (link : ℕ) (why : FailureReason) (n : Node WholeQueues) → May (LinkFails link why) → down n.parts link ≡ false → R n (fail whole c link why n)
  pub orders : (link : ℕ) (number : Option ℕ) (n : Node WholeQueues) → May (LinkFails link reasons.Changeover) → May (HoldsEnd (Changeover link)) → R n (on_changeover_order whole c link number n).left
  pub acknowledges : (link : ℕ) (number : Option ℕ) (n : Node WholeQueues) → May (HoldsEnd (Changeover link)) → May (WaitEnds link) → R n (on_changeover_acknowledgement whole c link number n).left
  pub expires : (timer : ChangeoverTimer) (link : ℕ) (n : Node WholeQueues) → May (HoldsEnd (Changeover link)) → (timer ≡ which.T2 → May (WaitEnds link)) → R n (on_changeover_timer whole c timer link n)
  pub releases : (link : ℕ) (n : Node WholeQueues) → is_barred (changeover_of n.parts link) ≡ true → May (WaitEnds link) → R n (with_parts n (unbarred link n.parts))
  pub asks : (link : ℕ) (n : Node WholeQueues) → is_late c link n.parts ≡ true → R n (order_late whole c link n)
  -- ---- flows that return are held, a code is free again, flows are rerouted, and a procedure ends all its holds
  pub returns : (before after : Facts) (code : Option ℕ) (link other : ℕ) (n : Node WholeQueues) → in_service n.parts link ≡ true → in_service n.parts other ≡ true
      → R n (hold_flows whole c before after code link other n)
  pub frees : (set code : ℕ) (n : Node WholeQueues) → May (HoldsEnd (Code set code)) → R n (with_parts n (freed set code n.parts))
  pub reroutes : (destination : ℕ) (selections : List ℕ) (n : Node WholeQueues) → R n (with_parts n (held_by_rerouting c destination selections n.parts))
  pub lifts : (procedure : Procedure) (n : Node WholeQueues) → May (HoldsEnd procedure) → R n (with_parts n (record n.parts { holds = lifted n.parts.holds procedure }))

-- anything may be done. Where R holds of each step, it holds of each rule (`rules-of`)
abbrev pub anything : Deed → Type 0
anything deed = Unit {0}

abbrev pub IsOfRules : (c : Configuration) (Own Counts : ℕ → Type 0) (R : Node WholeQueues → Node WholeQueues → Type 0) → Type 0
IsOfRules c Own Counts R = IsOfDeeds c Own Counts anything R

module _ {c : Configuration} {R : Node WholeQueues → Node WholeQueues → Type 0} (s : IsOfSends c R) where
  -- a test decides
  pub either-steps : (b : Bool) (n m o : Node WholeQueues) → R n m → R n o → R n (if b then m else o)
  either-steps true n m o e f = e
  either-steps false n m o e f = f

  pub either_done-steps : (b : Bool) (n : Node WholeQueues) (d e : Done WholeQueues) → R n d.left → R n e.left → R n (if b then d else e).left
  either_done-steps true n d e f g = f
  either_done-steps false n d e f g = g
