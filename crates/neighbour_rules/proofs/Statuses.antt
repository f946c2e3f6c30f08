-- Link statuses that come, timers that run out, and what the operator and the association do to a link: by moves.
use Rattle.pair_rules.proofs.Basics.{◌≤◌, inl, inr, ◌≡◌, ◌≢◌, ◌&&◌, ℕ, Bool, true, false, List, [], length, zero, suc, Option, Some, None, refl, ◌∙◌, nat_lt, if◌then◌else◌}
use Rattle.pair_rules.proofs.Definitions.{SIF_OCTETS, Message, is_management, set_of, FailureReason, Handled, Ignored, Cause, add_title, set_title, add_title_unless, remove_title, title_refusal, title_set_refusal, with_titles, Configuration, TitleEntry, FrameValue, StatusFrame, LinkStatus, Action, Status, Expiry, acts_on, RouteStatus, ticked, due_name, after_due, due_count, Node, Done, answer, refuse, with_parts, down, is_link, link_at, WholeQueues, whole, fail, activate, association_down, deactivate, end_association, fail_if_up, set_active, ask_by, facts, act_by_status, act_by_timer, advance, on_link_status, run_out, serve_status, in_service, serves-in, advance-serves, failed_if_up-down, set_active-steps, StaysFit, fit-steps, handed-fit, ticked-fit}
use Rattle.sccp_relay.specs.Statuses.{TitlesValue}
use Rattle.exchange_rules.proofs.Rules.{rules-of}
use Rattle.signalling_types.specs.declared.notice.FailureReason.TheVariants as reasons
use Rattle.signalling_types.specs.declared.notice.ChangeoverTimer.TheVariants as timer
use Rattle.signalling_types.specs.declared.cause.Cause.TheVariants.{NoSuchName}
use Rattle.sccp_codec.specs.declared.title.TitleKey.{TitleKey}
use Rattle.sccp_relay.specs.Rows.{place_of, has_row, with_row, without_row}
use Rattle.m2pa_codec.specs.declared.status.LinkStatus.TheVariants as says
use Rattle.link.specs.declared.action.Action.TheVariants as act
use Rattle.link.specs.declared.action.LinkTimer.{LinkTimer}
use Rattle.link.specs.declared.action.Transition.{Transition}
use Rattle.link.specs.declared.action.LinkTimer.TheVariants as its
use Rattle.routes.specs.declared.route.RouteStatus.TheVariants.{Allowed, Prohibited, Restricted}
use Rattle.routes.specs.Routes.{status_of}
use Rattle.timers.specs.declared.name.TimerName.{TimerName}
use Rattle.timers.specs.declared.name.TimerName.TheVariants as name
use Rattle.exchange_rules.specs.Exchange.{run_due, run_next, run_timer, run_times, tick, with_timers}
use Rattle.exchange_rules.specs.Messages.{subsystems_ticked}
use Rattle.exchange_rules.specs.Frames.{end_busy, end_outage, hear_outage, tells_outage, tells_recovery}
use Rattle.exchange_rules.proofs.Outages.{outage-serves, outage-set, recovery-out}
use Rattle.neighbour_rules.proofs.Outages.{begins-passes, begun-busy, ended-busy, ends-passes}
use Rattle.mtp3_codec.specs.declared.management.Management.TheVariants.{RouteSetTestProhibited, RouteSetTestRestricted}
use Rattle.pair_moves.specs.Sayings.{Other}
use Rattle.exchange_rules.specs.Rerouting.{ask, prohibited_test, restricted_test, with_next_test}
use Rattle.exchange_rules.specs.Routing.{adjacent_of, point_of}
use Rattle.exchange_rules.proofs.MadeManagement.{made-management}
use Rattle.exchange_rules.proofs.SteppingTimers.{set-timed}
use Rattle.pair_rules.proofs.Deliveries.{fails-up}
use Rattle.pair_rules.proofs.World.{World}
use Rattle.neighbour_rules.proofs.World.{says_of}
use Rattle.neighbour_rules.proofs.Good.{Joint, Passes, at, passes-both, passes-none, set}
use Rattle.neighbour_rules.proofs.Made.{made-brief, adjacent-fits, plain-other, point-fits}
use Rattle.exchange_rules.specs.Telling.{is_led, send_if}
use Rattle.neighbour_rules.proofs.Messages.{making, send_routed-passes}
use Rattle.neighbour_rules.proofs.Relinked.{relinked-passes, timed-passes, titled-passes}
use Rattle.neighbour_rules.proofs.Testing.{begin_test-passes, test_unanswered-passes}
use Rattle.neighbour_rules.proofs.Failures.{fail-passes}
use Rattle.neighbour_rules.proofs.Frames.{Retells, bringing, none-brought, retold, status-taken}
use Rattle.neighbour_rules.proofs.Expiries.{changeover_timer-passes}
use Rattle.neighbour_rules.proofs.Entries.{IsComing, expiry-heard}
use Rattle.neighbour_rules.proofs.Returns.{advance-elsewhere, advance-passes}
use Rattle.neighbour_rules.proofs.Lates.{late_time-passes, late_code-passes, rerouting_ended-passes}

module _ (c z : Configuration) (j : Joint c z) where
  either_done-passes : (b : Bool) (w : World) (n : Node WholeQueues) (d e : Done WholeQueues) → Passes c z j (at c z j w n [] []) (at c z j w d.left [] [])
      → Passes c z j (at c z j w n [] []) (at c z j w e.left [] []) → Passes c z j (at c z j w n [] []) (at c z j w (if b then d else e).left [] [])
  either_done-passes true w n d e f g = f
  either_done-passes false w n d e f g = g

  -- ---- a status of a peer in service

  serving-passes : (w : World) (n : Node WholeQueues) (link : ℕ) (status : LinkStatus) → in_service n.parts link ≡ true
      → Passes c z j (at c z j w n [] []) (at c z j w (serve_status whole c link status n) [] [])
  serving-passes w n link says.Busy e = begun-busy c z j (link_at n.parts link).peer_busy w n link e refl
  serving-passes w n link says.BusyEnded e = by (link_at n.parts link).peer_outage
    where
      by : (out : Bool) → Passes c z j (at c z j w n [] []) (at c z j w (with_parts n (if out then n.parts else end_busy c link (whole.outstanding n.queues link) n.parts)) [] [])
      by true = passes-none c z j (at c z j w n [] [])
      by false = ended-busy c z j (link_at n.parts link).peer_busy w n link e refl
  serving-passes w n link says.Alignment e = passes-none c z j (at c z j w n [] [])
  serving-passes w n link says.ProvingNormal e = passes-none c z j (at c z j w n [] [])
  serving-passes w n link says.ProvingEmergency e = passes-none c z j (at c z j w n [] [])
  serving-passes w n link says.Ready e = passes-none c z j (at c z j w n [] [])
  serving-passes w n link says.ProcessorOutage e = passes-none c z j (at c z j w n [] [])
  serving-passes w n link says.ProcessorRecovered e = passes-none c z j (at c z j w n [] [])
  serving-passes w n link says.OutOfService e = passes-none c z j (at c z j w n [] [])

  serving-acted : (b : Bool) (w : World) (n : Node WholeQueues) (link : ℕ) (status : LinkStatus) → (b ≡ true → in_service n.parts link ≡ true)
      → Passes c z j (at c z j w n [] []) (at c z j w (if b then serve_status whole c link status n else n) [] [])
  serving-acted true w n link status e = serving-passes w n link status (e refl)
  serving-acted false w n link status e = passes-none c z j (at c z j w n [] [])

  module _ (w : World) (n : Node WholeQueues) (link : ℕ) (status : LinkStatus) where
    abbrev acted_by : Action → Node WholeQueues
    acted_by a = (act_by_status whole c a link status n).left

    -- a link goes on by a step
    stepped-on : (step : Transition) → acts_on (link_at n.parts link) (Status status) ≡ act.Go step
        → Passes c z j (at c z j w n [] []) (at c z j w (advance whole c link step n) [] []) → Passes c z j (at c z j w n [] []) (at c z j w (acted_by (act.Go step)) [] [])
    stepped-on step e p =
        passes-both c z j _ _ _ p
        (serving-acted step.serve w (advance whole c link step n) link status
        (λ h. advance-serves c link (Status status) step n e ∙ serves-in (link_at n.parts link).period (link_at n.parts link).alignment (Status status) step e h))

    status-acted : (a : Action) → acts_on (link_at n.parts link) (Status status) ≡ a → IsComing w link → Passes c z j (at c z j w n [] []) (at c z j w (acted_by a) [] [])
    status-acted act.Ignored e coming = passes-none c z j (at c z j w n [] [])
    status-acted act.Fail e coming = fail-passes c z j w n [] link reasons.Status (fails-up (link_at n.parts link).period (link_at n.parts link).alignment (Status status) e)
    status-acted (act.Go step) e coming = stepped-on step e (advance-passes c z j w n [] link (Status status) step e (inr coming))

    acted-elsewhere : (a : Action) → acts_on (link_at n.parts link) (Status status) ≡ a → set_of c link ≢ set c z j → Passes c z j (at c z j w n [] []) (at c z j w (acted_by a) [] [])
    acted-elsewhere act.Ignored e d = passes-none c z j (at c z j w n [] [])
    acted-elsewhere act.Fail e d = fail-passes c z j w n [] link reasons.Status (fails-up (link_at n.parts link).period (link_at n.parts link).alignment (Status status) e)
    acted-elsewhere (act.Go step) e d = stepped-on step e (advance-elsewhere c z j w n [] link (Status status) step e d)

    -- that the peer's processor is out, or back
    told : (out back : Bool) → tells_outage c link status n.parts ≡ out → tells_recovery link status n.parts ≡ back
        → Passes c z j (at c z j w n [] []) (at c z j w (acted_by (acts_on (link_at n.parts link) (Status status))) [] [])
        → Passes c z j (at c z j w n [] [])
        (at c z j w (if out then answer Handled (hear_outage whole c link n) else if back then answer Handled (end_outage whole c link n)
        else act_by_status whole c (acts_on (link_at n.parts link) (Status status)) link status n).left [] [])
    told true back e f act = begins-passes c z j (outage-set c link status n.parts e) (link_at n.parts link).peer_outage w n link
        (outage-serves c link status n.parts e)
    told false true e f act = ends-passes c z j w n link (recovery-out link status n.parts f)
    told false false e f act = act

    -- one that comes by a link between the two
    pub status-told : IsComing w link → Passes c z j (at c z j w n [] []) (at c z j w (on_link_status whole c link status n).left [] [])
    status-told coming =
        told (tells_outage c link status n.parts) (tells_recovery link status n.parts) refl refl (status-acted (acts_on (link_at n.parts link) (Status status)) refl coming)

    -- one that comes by a link that leads elsewhere
    pub status-elsewhere : set_of c link ≢ set c z j → Passes c z j (at c z j w n [] []) (at c z j w (on_link_status whole c link status n).left [] [])
    status-elsewhere d =
        told (tells_outage c link status n.parts) (tells_recovery link status n.parts) refl refl (acted-elsewhere (acts_on (link_at n.parts link) (Status status)) refl d)

  -- ---- timers of a link

  timer-acted : (a : Action) (w : World) (n : Node WholeQueues) (link : ℕ) (t : LinkTimer) → acts_on (link_at n.parts link) (Expiry t) ≡ a
      → Passes c z j (at c z j w n [] []) (at c z j w (act_by_timer whole c a link n) [] [])
  timer-acted act.Ignored w n link t e = passes-none c z j (at c z j w n [] [])
  timer-acted act.Fail w n link t e = fail-passes c z j w n [] link reasons.Timer (fails-up (link_at n.parts link).period (link_at n.parts link).alignment (Expiry t) e)
  timer-acted (act.Go step) w n link t e = advance-passes c z j w n [] link (Expiry t) step e (inl (expiry-heard (link_at n.parts link).period (link_at n.parts link).alignment t step e))

  pub run_out-passes : (w : World) (n : Node WholeQueues) (link : ℕ) (t : LinkTimer) → Passes c z j (at c z j w n [] []) (at c z j w (run_out whole c link t n) [] [])
  run_out-passes w n link t = timer-acted (acts_on (link_at n.parts link) (Expiry t)) w n link t refl

  -- ---- the status of a frame in flight

  pub status-passes : (w : World) (n : Node WholeQueues) (link bsn fsn : ℕ) (status : LinkStatus) (rest : List FrameValue) (f : ℕ → List FrameValue)
      → Retells c z j w link (StatusFrame bsn fsn status) rest rest f
      → Passes c z j (at c z j w n [] []) (at c z j (bringing c z j (retold c z j w f) [] []) (on_link_status whole c link status n).left [] [])
  status-passes w n link bsn fsn status rest f r =
      let acted : Node WholeQueues = (on_link_status whole c link status n).left in
      none-brought c z j (at c z j w n [] []) (retold c z j w f) acted [] []
      (passes-both c z j _ _ _ (status-told w n link status (record { frame = StatusFrame bsn fsn status; rest = rest; first = r.first }))
      (status-taken c z j w link (StatusFrame bsn fsn status) rest f r acted))

  -- ---- a route set test of our own is due

  -- it tells nothing between the two
  asking : (w : World) (n : Node WholeQueues) (m : Message) (its_set destination : ℕ) → is_management m ≡ true → says_of c.own z.own j.base.there m ≡ Other → length m.sif ≤ SIF_OCTETS
      → Passes c z j (at c z j w n [] []) (at c z j w (ask whole c m its_set destination n) [] [])
  asking w n m its_set destination managed says short =
      passes-both c z j _ _ _
      (timed-passes c z j w n [] [] (with_next_test whole c its_set destination n.parts).timers ((fit-steps c).timed _ n (set-timed (name.T10 its_set destination) c.timers.t10 n.parts.timers (λ l e. cc))))
      (sent (is_led c m n.parts))
    where
      next : Node WholeQueues
      next = with_parts n (with_next_test whole c its_set destination n.parts)

      sent : (b : Bool) → Passes c z j (at c z j w next [] []) (at c z j w (send_if whole c b m next) [] [])
      sent true = passes-both c z j _ _ _ (making c z j w next [] m [] says short) (send_routed-passes c z j w next [] m [] managed)
      sent false = passes-none c z j (at c z j w next [] [])

  asked-by : (o : Option RouteStatus) (w : World) (n : Node WholeQueues) (its_set destination : ℕ) → Passes c z j (at c z j w n [] []) (at c z j w (ask_by whole c o its_set destination n) [] [])
  asked-by (Some Prohibited) w n its_set destination =
      asking w n (prohibited_test whole c its_set destination) its_set destination (made-management c j.near_well (adjacent_of c its_set) (RouteSetTestProhibited (point_of c destination)))
      (plain-other c z j (adjacent_of c its_set) (RouteSetTestProhibited (point_of c destination)) (adjacent-fits c j.near_well its_set) (point-fits c j.near_well destination) refl)
      (made-brief c z j (adjacent_of c its_set) (RouteSetTestProhibited (point_of c destination)))
  asked-by (Some Restricted) w n its_set destination =
      asking w n (restricted_test whole c its_set destination) its_set destination (made-management c j.near_well (adjacent_of c its_set) (RouteSetTestRestricted (point_of c destination)))
      (plain-other c z j (adjacent_of c its_set) (RouteSetTestRestricted (point_of c destination)) (adjacent-fits c j.near_well its_set) (point-fits c j.near_well destination) refl)
      (made-brief c z j (adjacent_of c its_set) (RouteSetTestRestricted (point_of c destination)))
  asked-by (Some Allowed) w n its_set destination = passes-none c z j (at c z j w n [] [])
  asked-by None w n its_set destination = passes-none c z j (at c z j w n [] [])

  asked-passes : (b : Bool) (w : World) (n : Node WholeQueues) (its_set destination : ℕ)
      → Passes c z j (at c z j w n [] []) (at c z j w (if b then ask_by whole c (status_of (facts c n.parts) destination its_set) its_set destination n else n) [] [])
  asked-passes true w n its_set destination = asked-by (status_of (facts c n.parts) destination its_set) w n its_set destination
  asked-passes false w n its_set destination = passes-none c z j (at c z j w n [] [])

  -- ---- a tick

  run_timer-passes : (t : TimerName) (w : World) (n : Node WholeQueues) → Passes c z j (at c z j w n [] []) (at c z j w (run_timer whole c t n) [] [])
  run_timer-passes (name.L1 link) w n = run_out-passes w n link its.L1
  run_timer-passes (name.L2 link) w n = run_out-passes w n link its.L2
  run_timer-passes (name.L3 link) w n = run_out-passes w n link its.L3
  run_timer-passes (name.L4 link) w n = run_out-passes w n link its.L4
  run_timer-passes (name.L6 link) w n = run_out-passes w n link its.L6
  run_timer-passes (name.L7 link) w n = run_out-passes w n link its.L7
  run_timer-passes (name.T1 link) w n = changeover_timer-passes c z j timer.T1 w n link
  run_timer-passes (name.T2 link) w n = changeover_timer-passes c z j timer.T2 w n link
  run_timer-passes (name.T3 link) w n = late_time-passes c z j w n [] [] link
  run_timer-passes (name.T4 its_set code) w n = late_code-passes c z j w n [] [] its_set code
  run_timer-passes (name.T6 destination) w n = rerouting_ended-passes c z j w n [] [] destination
  run_timer-passes (name.T8 its_set destination) w n = passes-none c z j (at c z j w n [] [])
  run_timer-passes (name.T10 its_set destination) w n = asked-passes (nat_lt its_set (length c.sets) && nat_lt destination (length c.destinations)) w n its_set destination
  run_timer-passes (name.Slt1 link) w n = test_unanswered-passes c z j w [] link n
  run_timer-passes (name.Slt2 link) w n = begin_test-passes c z j w [] link n

  run_due-passes : (o : Option TimerName) (w : World) (n : Node WholeQueues) → Passes c z j (at c z j w n [] []) (at c z j w (run_due whole c o n) [] [])
  run_due-passes None w n = passes-none c z j (at c z j w n [] [])
  run_due-passes (Some t) w n = run_timer-passes t w n

  run_next-passes : (w : World) (n : Node WholeQueues) → Passes c z j (at c z j w n [] []) (at c z j w (run_next whole c n) [] [])
  run_next-passes w n =
      passes-both c z j _ _ _ (timed-passes c z j w n [] [] (after_due n.parts.timers) (handed-fit c n))
      (run_due-passes (due_name n.parts.timers) w (with_timers n (after_due n.parts.timers)))

  run_times-passes : (many : ℕ) (w : World) (n : Node WholeQueues) → Passes c z j (at c z j w n [] []) (at c z j w (run_times whole c many n) [] [])
  run_times-passes zero w n = passes-none c z j (at c z j w n [] [])
  run_times-passes (suc many) w n = passes-both c z j _ _ _ (run_next-passes w n) (run_times-passes many w (run_next whole c n))

  pub tick-passes : (w : World) (n : Node WholeQueues) → Passes c z j (at c z j w n [] []) (at c z j w (tick whole c n).left [] [])
  tick-passes w n =
      let begun : Node WholeQueues = with_timers n (ticked n.parts.timers) in
      let ran : Node WholeQueues = run_times whole c (due_count begun.parts.timers) begun in
      passes-both c z j _ _ _
      (passes-both c z j _ _ _ (timed-passes c z j w n [] [] (ticked n.parts.timers) (ticked-fit c n)) (run_times-passes (due_count begun.parts.timers) w begun))
      (titled-passes c z j w ran (subsystems_ticked c ran.parts).titles)

  -- ---- an association goes down, and the operator's word

  fail_if_up-passes : (w : World) (n : Node WholeQueues) (link : ℕ) (why : FailureReason) → Passes c z j (at c z j w n [] []) (at c z j w (fail_if_up whole c link why n) [] [])
  fail_if_up-passes w n link why = by (down n.parts link) refl
    where
      by : (b : Bool) → down n.parts link ≡ b → Passes c z j (at c z j w n [] []) (at c z j w (if b then n else fail whole c link why n) [] [])
      by true e = passes-none c z j (at c z j w n [] [])
      by false e = fail-passes c z j w n [] link why e

  set_active-passes : (active emergency : Bool) (w : World) (n : Node WholeQueues) (link : ℕ)
      → Passes c z j (at c z j w n [] []) (at c z j w (set_active whole c active emergency link n) [] [])
  set_active-passes active emergency w n link =
      relinked-passes c z j w n [] [] link (record (link_at n.parts link) { active = active; emergency = emergency }) n.parts.timers refl refl (λ h. h)
      (set_active-steps (rules-of (fit-steps c)) active emergency link n)

  end_association-passes : (w : World) (n : Node WholeQueues) (link : ℕ) → StaysFit c n (end_association whole c link n) → Passes c z j (at c z j w n [] []) (at c z j w (end_association whole c link n) [] [])
  end_association-passes w n link stay = relinked-passes c z j w n [] [] link (record (link_at n.parts link) { association = false }) n.parts.timers refl refl (λ h. h) stay

  pub association_down-passes : (w : World) (n : Node WholeQueues) (link : ℕ) → Passes c z j (at c z j w n [] []) (at c z j w (association_down whole c link n).left [] [])
  association_down-passes w n link =
      let gone : Node WholeQueues = fail_if_up whole c link reasons.Association n in
      let ended : Done WholeQueues = answer Handled (end_association whole c link gone) in
      either_done-passes (is_link n.parts link) w n (if (link_at n.parts link).association then ended else answer Ignored n) (refuse NoSuchName n)
      (either_done-passes (link_at n.parts link).association w n ended (answer Ignored n)
      (passes-both c z j _ _ _ (fail_if_up-passes w n link reasons.Association)
      (end_association-passes w gone link ((fit-steps c).parted link gone (failed_if_up-down c (down n.parts link) link reasons.Association n refl))))
      (passes-none c z j (at c z j w n [] [])))
      (passes-none c z j (at c z j w n [] []))

  -- ---- translation rows

  add_by-passes : (refusal : Option Cause) (row : TitleEntry) (w : World) (n : Node WholeQueues) → Passes c z j (at c z j w n [] []) (at c z j w (add_title_unless refusal row n).left [] [])
  add_by-passes (Some cause) row w n = passes-none c z j (at c z j w n [] [])
  add_by-passes None row w n = titled-passes c z j w n (record n.parts.titles { rows = with_row row n.parts.titles.rows })

  pub add_title-passes : (row : TitleEntry) (is_memory_refused : Bool) (w : World) (n : Node WholeQueues) → Passes c z j (at c z j w n [] []) (at c z j w (add_title row is_memory_refused n).left [] [])
  add_title-passes row is_memory_refused w n = add_by-passes (title_refusal n.parts.titles.rows row is_memory_refused) row w n

  pub set_title-passes : (row : TitleEntry) (is_memory_refused : Bool) (w : World) (n : Node WholeQueues) → Passes c z j (at c z j w n [] []) (at c z j w (set_title row is_memory_refused n).left [] [])
  set_title-passes row is_memory_refused w n = add_by-passes (title_set_refusal n.parts.titles.rows row is_memory_refused) row w n

  pub remove_title-passes : (key : TitleKey) (digits : List ℕ) (w : World) (n : Node WholeQueues) → Passes c z j (at c z j w n [] []) (at c z j w (remove_title key digits n).left [] [])
  remove_title-passes key digits w n =
      let left : TitlesValue = record n.parts.titles { rows = without_row (place_of key digits) n.parts.titles.rows } in
      either_done-passes (has_row n.parts.titles.rows (place_of key digits)) w n (answer Handled (with_parts n (with_titles left n.parts))) (refuse NoSuchName n)
      (titled-passes c z j w n left) (passes-none c z j (at c z j w n [] []))

  -- ---- the operator's word

  pub activate-passes : (emergency : Bool) (w : World) (n : Node WholeQueues) (link : ℕ) → Passes c z j (at c z j w n [] []) (at c z j w (activate whole c emergency link n).left [] [])
  activate-passes emergency w n link =
      either_done-passes (is_link n.parts link) w n (answer Handled (set_active whole c true emergency link n)) (refuse NoSuchName n) (set_active-passes true emergency w n link) (passes-none c z j (at c z j w n [] []))

  pub deactivate-passes : (w : World) (n : Node WholeQueues) (link : ℕ) → Passes c z j (at c z j w n [] []) (at c z j w (deactivate whole c link n).left [] [])
  deactivate-passes w n link =
      let gone : Node WholeQueues = fail_if_up whole c link reasons.Operator n in
      either_done-passes (is_link n.parts link) w n (answer Handled (set_active whole c false false link gone)) (refuse NoSuchName n)
      (passes-both c z j _ _ _ (fail_if_up-passes w n link reasons.Operator) (set_active-passes false false w gone link)) (passes-none c z j (at c z j w n [] []))
