-- Messages that are made here or go to other points, and what adjacent points are told and say: each rule is made of
-- steps.
use Rattle.exchange_rules.proofs.Basics.{◌≡◌, ◌⊎◌, inl, inr, sym, subst, ◌∙◌, ℕ, Bool, true, false, List, [], ◌∷◌, Option, Some, None, Result, Ok, Err, refl, if◌then◌else◌, length-set}
use Rattle.exchange_rules.proofs.Definitions.{is_led, send_if, with_status_heard, Message, dpc_of, flow_of, Configuration, Cause, Outcome, Handled, Ignored, destination_place, Running, RouteStatus, Allowed, Restricted, Prohibited, status_of, told_shape, Heard, RouteTest, Owed, owed, Parts, Node, with_parts, answer, refuse, waits, facts, link_of, set_of, no_room, no_room_for, is_destination, offer, transfer, timed_telling, route_message, told_parts, answered_parts, inhibited, is_inhibited, may_tell, tell, tell_if, tell_each, tell_owed, prohibit, answer_no_route, answer_no_user_part, is_unequipped_told, tell_unavailable, unavailable, unequipped_counted, send_route_status, on_route_test, timed_status, forced, with_next_test, prohibited_test, restricted_test, apply_route_status, on_route_status, ask, ask_by, ask_again, send, send_routed, send_anew, send_each, WholeQueues, whole}
use Rattle.std.specs.Prelude.{nat_lt, length, ◌&&◌, is_some, not}
use Rattle.signalling_types.specs.declared.notice.Notice.TheVariants as notices
use Rattle.signalling_types.specs.declared.cause.Cause.TheVariants as causes
use Rattle.timers.specs.declared.name.TimerName.TheVariants as name
use Rattle.changeback.specs.Rerouting.{rerouted}
use Rattle.route_management.specs.Told as told
use Rattle.route_management.specs.declared.heard.Heard.TheVariants as hears
use Rattle.exchange_rules.specs.Testing.{is_unsure}
use Rattle.exchange_rules.proofs.Steps.{status_over, AreQuiet, KeepsTests, IsJustSet, AreTestedAs, IsOfSends, either-steps, either_done-steps, Deed, Lacking, IsOfDeeds}
use Rattle.exchange_rules.proofs.OwnRoutes.{rerouted-one, one-unsure, allowed-sure}
use Rattle.exchange_rules.proofs.KeepingTests.{set-tests, telling-tests, clear-tests}
use Rattle.exchange_rules.proofs.SteppingTimers.{same-quiet, set-quiet, clear-quiet}

-- ---- timers

timed_telling-quiet : {E : ℕ → Type 0} (c : Configuration) (set destination : ℕ) (status : RouteStatus) (r : Running) → AreQuiet c E r (timed_telling c set destination status r)
timed_telling-quiet c set destination Prohibited r = set-quiet c (name.T8 set destination) c.timers.t8 r (λ link e. cc) refl refl refl (λ off. refl)
timed_telling-quiet c set destination Restricted r = same-quiet c r
timed_telling-quiet c set destination Allowed r = same-quiet c r

timed_status-quiet : {E : ℕ → Type 0} (c : Configuration) (set destination : ℕ) (status : RouteStatus) (r : Running) → AreQuiet c E r (timed_status c set destination status r)
timed_status-quiet c set destination Prohibited r = set-quiet c (name.T10 set destination) c.timers.t10 r (λ link e. cc) refl refl refl (λ off. refl)
timed_status-quiet c set destination Restricted r = set-quiet c (name.T10 set destination) c.timers.t10 r (λ link e. cc) refl refl refl (λ off. refl)
timed_status-quiet c set destination Allowed r = clear-quiet c (name.T10 set destination) r (λ link e. cc) refl refl (λ s d e. cc)

-- of a point itself nothing is heard that changes anything
heard-away : (is_own : Bool) (x : Heard) → (if is_own then hears.Ignored else x) ≡ hears.Changed → is_own ≡ false
heard-away true x e = absurd cc
heard-away false x e = refl

module _ {c : Configuration} {R : Node WholeQueues → Node WholeQueues → Type 0} (s : IsOfSends c R) where
  -- ---- management made here

  -- a message that is dropped
  unsent-steps : (cause : Cause) (m : Message) (n : Node WholeQueues) → R n (send whole c (Some cause) None m n)
  unsent-steps cause m n = s.lost (notices.Unsent cause (dpc_of m)) n refl

  pub by_link-steps : (room : Option Cause) (link : Option ℕ) (m : Message) (n : Node WholeQueues) → link_of c n.parts (flow_of m) ≡ link → R n (send whole c room link m n)
  by_link-steps (Some cause) link m n e = unsent-steps cause m n
  by_link-steps None None m n e = unsent-steps causes.NoRoute m n
  by_link-steps None (Some link) m n e = s.routed link m n e

  pub send_routed-steps : (m : Message) (n : Node WholeQueues) → R n (send_routed whole c m n)
  send_routed-steps m n = by_link-steps (no_room whole c m n.queues) (link_of c n.parts (flow_of m)) m n refl

  pub send_if-steps : (may : Bool) (m : Message) (n : Node WholeQueues) → R n (send_if whole c may m n)
  send_if-steps may m n = either-steps s may n (send_routed whole c m n) n (send_routed-steps m n) (s.none n)

  pub send_each-steps : (ms : List Message) (n : Node WholeQueues) → R n (send_each whole c ms n)
  send_each-steps [] n = s.none n
  send_each-steps (m ∷ ms) n = s.both _ _ _ (by_link-steps None (link_of c n.parts (flow_of m)) m n refl) (send_each-steps ms (send_anew whole c m n))

module _ {c : Configuration} {Own Counts : ℕ → Type 0} {May : Deed → Type 0} {R : Node WholeQueues → Node WholeQueues → Type 0} (s : IsOfDeeds c Own Counts May R) where
  -- ---- what adjacent points are told

  pub told_parts-steps : (o : Owed) (n : Node WholeQueues) → R n (with_parts n (told_parts c o n.parts))
  told_parts-steps o n =
      s.sends.both _ _ _ (s.told (told.with_told o.set o.destination o.status n.parts.told) n (record { shape = told_shape n.parts.told o.set o.destination o.status; adjacents = refl }))
      (s.timed _ _ (timed_telling-quiet c o.set o.destination o.status n.parts.timers) (telling-tests _ c o.set o.destination o.status))

  tell-steps : (o : Owed) (n : Node WholeQueues) → R n (tell whole c o n)
  tell-steps o n =
      s.sends.both _ _ _ (told_parts-steps o n) (send_routed-steps s.sends (route_message c o.set o.destination o.status) (with_parts n (told_parts c o n.parts)))

  tell_each-steps : (os : List Owed) (n : Node WholeQueues) → R n (tell_each whole c os n)
  tell_each-steps [] n = s.sends.none n
  tell_each-steps (o ∷ os) n =
      s.sends.both _ _ _ (either-steps s.sends (may_tell whole c n) n (tell whole c o n) n (tell-steps o n) (s.sends.none n)) (tell_each-steps os (tell_if whole c o n))

  pub tell_owed-steps : (n : Node WholeQueues) → R n (tell_owed whole c n)
  unfolding tell_owed
  tell_owed-steps n = tell_each-steps (owed (facts c n.parts) n.parts.told) n

  pub inhibited-steps : (set destination : ℕ) (n : Node WholeQueues) → R n (with_parts n (inhibited c set destination n.parts))
  inhibited-steps set destination n = s.timed _ n (set-quiet c (name.T8 set destination) c.timers.t8 n.parts.timers (λ link e. cc) refl refl refl (λ off. refl)) (set-tests n.parts (name.T8 set destination) c.timers.t8)

  prohibit-steps : (set destination : ℕ) (n : Node WholeQueues) → R n (prohibit whole c set destination n)
  prohibit-steps set destination n =
      s.sends.both _ _ _ (inhibited-steps set destination n) (send_routed-steps s.sends (route_message c set destination Prohibited) (with_parts n (inhibited c set destination n.parts)))

  pub answer_no_route-steps : (link destination : Option ℕ) (n : Node WholeQueues) → R n (answer_no_route whole c link destination n)
  answer_no_route-steps (Some link) (Some destination) n =
      let set : ℕ = set_of c link in
      either-steps s.sends (may_tell whole c n && not (is_inhibited set destination n.parts) && is_led c (route_message c set destination Prohibited) n.parts) n (prohibit whole c set destination n) n (prohibit-steps set destination n) (s.sends.none n)
  answer_no_route-steps (Some link) None n = s.sends.none n
  answer_no_route-steps None destination n = s.sends.none n

  tell_unavailable-steps : (origin : ℕ) (m : Message) (n : Node WholeQueues) → May Lacking → R n (tell_unavailable whole c origin m n)
  tell_unavailable-steps origin m n may =
      let next : Node WholeQueues = with_parts n (unequipped_counted origin n.parts) in
      s.sends.both n next _ (s.unequipped _ n (length-set n.parts.unequipped origin _) may)
      (either-steps s.sends (is_unequipped_told whole c origin m n) next (send_routed whole c (unavailable c m) next) next (send_routed-steps s.sends (unavailable c m) next) (s.sends.none next))

  pub answer_no_user_part-steps : (link origin : Option ℕ) (m : Message) (n : Node WholeQueues) → (is_some link ≡ true → May Lacking) → R n (answer_no_user_part whole c link origin m n)
  answer_no_user_part-steps (Some link) (Some origin) m n may =
      either-steps s.sends c.user_part_unavailable n (tell_unavailable whole c origin m n) n (tell_unavailable-steps origin m n (may refl)) (s.sends.none n)
  answer_no_user_part-steps (Some link) None m n may = s.sends.none n
  answer_no_user_part-steps None origin m n may = s.sends.none n

  -- ---- tests

  send_route_status-steps : (status : Option RouteStatus) (set destination : ℕ) (n : Node WholeQueues) → R n (send_route_status whole c status set destination n)
  send_route_status-steps (Some status) set destination n =
      let m : Message = route_message c set destination status in
      let next : Node WholeQueues = with_parts n (answered_parts set destination status n.parts) in
      either-steps s.sends (is_led c m n.parts) n (send_routed whole c m next) n
      (s.sends.both _ _ _ (s.told (told.with_told set destination status n.parts.told) n (record { shape = told_shape n.parts.told set destination status; adjacents = refl }))
      (send_routed-steps s.sends m next)) (s.sends.none n)
  send_route_status-steps None set destination n = s.sends.none n

  pub on_route_test-steps : (test : RouteTest) (route : Result (ℕ × ℕ) Outcome) (n : Node WholeQueues) → R n (on_route_test whole c test route n).left
  on_route_test-steps test (Ok (set, destination)) n =
      let status : Option RouteStatus = told.answer_to_test (facts c n.parts) n.parts.told set destination test in
      either_done-steps s.sends (told.is_own_point n.parts.told set destination) n (answer Ignored n) (answer Handled (send_route_status whole c status set destination n))
      (s.sends.none n) (send_route_status-steps status set destination n)
  on_route_test-steps test (Err outcome) n = s.sends.none n

  -- ---- what they say

  -- what is heard isn't about the point that says it
  forced-steps : (set destination : ℕ) (status : RouteStatus) (n : Node WholeQueues) → told.is_own_point n.parts.told set destination ≡ false
      → AreTestedAs n.parts (forced c set destination status n.parts).routes → R n (with_parts n (forced c set destination status n.parts))
  forced-steps set destination status n away tests = s.rerouted _ n (rerouted-one n.parts.told n.parts.routes set destination status away) tests

  -- T10 starts first where the route isn't allowed any more
  tested-as : (set destination : ℕ) (status : RouteStatus) (p : Parts) → IsJustSet set destination p.timers → AreTestedAs p (forced c set destination status p).routes
  tested-as set destination status p just = record { each = λ other place e. by other place (one-unsure p.routes set destination status other place e) }
    where
      by : (other place : ℕ) → (is_unsure (status_over other place p.routes) ≡ true) ⊎ ((other ≡ set) × (place ≡ destination))
          → (is_unsure (status_over other place p.routes) ≡ true) ⊎ IsJustSet other place p.timers
      by other place (inl e) = inl e
      by other place (inr (e, f)) =
          inr (subst (λ (k : ℕ). IsJustSet k place p.timers) (sym e) (subst (λ (k : ℕ). IsJustSet set k p.timers) (sym f) just))

  -- a route that is allowed isn't tested, and T10 stops then
  allowed-as : (set destination : ℕ) (p : Parts) → AreTestedAs p (forced c set destination Allowed p).routes
  allowed-as set destination p = record { each = λ other place e. by other place e (one-unsure p.routes set destination Allowed other place e) }
    where
      by : (other place : ℕ) → is_unsure (status_over other place (forced c set destination Allowed p).routes) ≡ true
          → (is_unsure (status_over other place p.routes) ≡ true) ⊎ ((other ≡ set) × (place ≡ destination))
          → (is_unsure (status_over other place p.routes) ≡ true) ⊎ IsJustSet other place p.timers
      by other place e (inl f) = inl f
      by other place e (inr (f, g)) =
          let sure : is_unsure (status_over other place (forced c set destination Allowed p).routes) ≡ false =
          subst (λ (k : ℕ). is_unsure (status_over k place (forced c set destination Allowed p).routes) ≡ false) (sym f)
          (subst (λ (k : ℕ). is_unsure (status_over set k (forced c set destination Allowed p).routes) ≡ false) (sym g) (allowed-sure p.routes set destination)) in
          let no : true ≡ false = sym e ∙ sure in
          absurd cc

  timed_status-steps : (set destination : ℕ) (status : RouteStatus) (n : Node WholeQueues) → KeepsTests n.parts (timed_status c set destination status n.parts.timers)
      → R n (with_parts n (record n.parts { timers = timed_status c set destination status n.parts.timers }))
  timed_status-steps set destination status n tests = s.timed _ n (timed_status-quiet c set destination status n.parts.timers) tests

  prohibited-steps : (set destination : ℕ) (n : Node WholeQueues) → told.is_own_point n.parts.told set destination ≡ false
      → R n (with_parts n (with_status_heard c set destination Prohibited n.parts))
  prohibited-steps set destination n away =
      let timing : Node WholeQueues = with_parts n (record n.parts { timers = timed_status c set destination Prohibited n.parts.timers }) in
      s.sends.both _ _ _ (timed_status-steps set destination Prohibited n (set-tests n.parts (name.T10 set destination) c.timers.t10))
      (forced-steps set destination Prohibited timing away
      (tested-as set destination Prohibited timing.parts (record { before = n.parts.timers; ticks = c.timers.t10; is = refl })))

  restricted-steps : (set destination : ℕ) (n : Node WholeQueues) → told.is_own_point n.parts.told set destination ≡ false
      → R n (with_parts n (with_status_heard c set destination Restricted n.parts))
  restricted-steps set destination n away =
      let timing : Node WholeQueues = with_parts n (record n.parts { timers = timed_status c set destination Restricted n.parts.timers }) in
      let next : Parts = forced c set destination Restricted timing.parts in
      s.sends.both _ _ _ (timed_status-steps set destination Restricted n (set-tests n.parts (name.T10 set destination) c.timers.t10))
      (s.sends.both _ _ _
      (forced-steps set destination Restricted timing away
      (tested-as set destination Restricted timing.parts (record { before = n.parts.timers; ticks = c.timers.t10; is = refl })))
      (s.reroutes destination (rerouted (facts c timing.parts) (facts c next) destination) (with_parts timing next)))

  allowed-steps : (set destination : ℕ) (n : Node WholeQueues) → told.is_own_point n.parts.told set destination ≡ false
      → R n (with_parts n (with_status_heard c set destination Allowed n.parts))
  allowed-steps set destination n away =
      let next : Node WholeQueues = with_parts n (forced c set destination Allowed n.parts) in
      let timing : Node WholeQueues = with_parts next (record next.parts { timers = timed_status c set destination Allowed n.parts.timers }) in
      s.sends.both _ _ _ (forced-steps set destination Allowed n away (allowed-as set destination n.parts))
      (s.sends.both _ _ _
      (timed_status-steps set destination Allowed next (clear-tests next.parts set destination (allowed-sure n.parts.routes set destination)))
      (s.reroutes destination (rerouted (facts c n.parts) (facts c next.parts) destination) timing))

  apply_route_status-steps : (x : Heard) (set destination : ℕ) (status : RouteStatus) (n : Node WholeQueues)
      → (x ≡ hears.Changed → told.is_own_point n.parts.told set destination ≡ false) → R n (apply_route_status whole c x set destination status n).left
  apply_route_status-steps hears.Ignored set destination status n away = s.sends.none n
  apply_route_status-steps hears.Unchanged set destination status n away = s.sends.none n
  apply_route_status-steps hears.Changed set destination Prohibited n away = prohibited-steps set destination n (away refl)
  apply_route_status-steps hears.Changed set destination Restricted n away = restricted-steps set destination n (away refl)
  apply_route_status-steps hears.Changed set destination Allowed n away = allowed-steps set destination n (away refl)

  pub on_route_status-steps : (status : RouteStatus) (route : Result (ℕ × ℕ) Outcome) (n : Node WholeQueues) → R n (on_route_status whole c status route n).left
  on_route_status-steps status (Ok (set, destination)) n =
      apply_route_status-steps (told.heard (facts c n.parts) n.parts.told set destination status) set destination status n
      (heard-away (told.is_own_point n.parts.told set destination) (told.heard_of (status_of (facts c n.parts) destination set) status))
  on_route_status-steps status (Err outcome) n = s.sends.none n

  -- ---- tests of our own

  ask-steps : (m : Message) (set destination : ℕ) (n : Node WholeQueues) → R n (ask whole c m set destination n)
  ask-steps m set destination n =
      s.sends.both _ _ _ (s.timed _ n (set-quiet c (name.T10 set destination) c.timers.t10 n.parts.timers (λ link e. cc) refl refl refl (λ off. refl)) (set-tests n.parts (name.T10 set destination) c.timers.t10))
      (send_if-steps s.sends (is_led c m n.parts) m (with_parts n (with_next_test whole c set destination n.parts)))

  ask_by-steps : (status : Option RouteStatus) (set destination : ℕ) (n : Node WholeQueues) → R n (ask_by whole c status set destination n)
  ask_by-steps (Some Prohibited) set destination n = ask-steps (prohibited_test whole c set destination) set destination n
  ask_by-steps (Some Restricted) set destination n = ask-steps (restricted_test whole c set destination) set destination n
  ask_by-steps (Some Allowed) set destination n = s.sends.none n
  ask_by-steps None set destination n = s.sends.none n

  pub ask_again-steps : (set destination : ℕ) (n : Node WholeQueues) → R n (ask_again whole c set destination n)
  ask_again-steps set destination n =
      let status : Option RouteStatus = status_of (facts c n.parts) destination set in
      either-steps s.sends (nat_lt set (length c.sets) && nat_lt destination (length c.destinations)) n (ask_by whole c status set destination n) n
      (ask_by-steps status set destination n) (s.sends.none n)

  -- ---- messages for other points

  offer-steps : (room : Option Cause) (waiting : Bool) (link from : Option ℕ) (m : Message) (n : Node WholeQueues) → waits c n.parts.holds m ≡ waiting
      → link_of c n.parts (flow_of m) ≡ link → R n (offer whole c room waiting link from m n).left
  offer-steps (Some cause) waiting link from m n e f = s.sends.none n
  offer-steps None true link from m n e f = s.held m n e
  offer-steps None false None from m n e f = answer_no_route-steps from (destination_place c (dpc_of m)) n
  offer-steps None false (Some link) from m n e f = s.sends.routed link m n f

  pub transfer-steps : (from : Option ℕ) (m : Message) (n : Node WholeQueues) → R n (transfer whole c from m n).left
  transfer-steps from m n =
      let waiting : Bool = waits c n.parts.holds m in
      let link : Option ℕ = link_of c n.parts (flow_of m) in
      either_done-steps s.sends (is_destination c (dpc_of m)) n (offer whole c (no_room_for whole c m n) waiting link from m n) (refuse causes.UnknownDestination n)
      (offer-steps (no_room_for whole c m n) waiting link from m n refl refl) (s.sends.none n)
