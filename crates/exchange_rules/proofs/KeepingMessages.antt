-- Messages that are made here or go to other points, and what adjacent points are told and say: what is kept of the
-- node that a rule leaves is what the rule leaves of what was kept, and it stays sound. Over any two kinds of queues P
-- and Q of which h keeps one as the other.
use Rattle.exchange_rules.proofs.Basics.{◌≡◌, ℕ, Bool, true, false, List, [], ◌∷◌, Option, Some, None, Result, Ok, Err, is_some, refl, ap, ◌∙◌}
use Rattle.exchange_rules.proofs.Definitions.{is_led, ask, Message, dpc_of, flow_of, Configuration, Cause, Outcome, Handled, Ignored, destination_place, RouteStatus, Allowed, Restricted, Prohibited, status_of, Heard, RouteTest, Owed, owed, Node, QueueKind, keep, with_parts, answer, refuse, waits, facts, link_of, set_of, no_room, no_room_on, no_room_for, is_destination, offer, transfer, told_below, route_message, told_parts, answered_parts, inhibited, is_inhibited, may_tell, tell_if, tell_each, tell_owed, prohibit, prohibit_if, answer_no_route, answer_no_user_part, is_unequipped_told, tell_unavailable, unavailable, unequipped_counted, unequipped_from, send_route_status, answer_route_test, on_route_test, with_status_heard, with_next_test, prohibited_test, restricted_test, apply_route_status, on_route_status, ask_by, ask_again, send, send_on, send_routed, send_anew, send_each}
use Rattle.std.specs.Prelude.{nat_eq, nat_lt, length, ◌&&◌, not}
use Rattle.std.specs.Option.{option_or}
use Rattle.signalling_types.specs.declared.cause.Cause.TheVariants as causes
use Rattle.route_management.specs.declared.heard.Heard.TheVariants as hears
use Rattle.route_management.specs.Told as told
use Rattle.exchange_rules.specs.Telling as telling
use Rattle.exchange_rules.proofs.Combining.{IsKeeping, KeepsNode, Keeps, changed, answered, parted, either, either_node, alike_node, behind_node}

module _ {P Q : Type 0} (p : QueueKind P) (q : QueueKind Q) (h : P → Q) (IsFit : P → Type 0) (c : Configuration) (k : IsKeeping p q h IsFit c.window) where
  -- ---- messages

  pub no_room-kept : (m : Message) (x : P) → no_room q c m (h x) ≡ no_room p c m x
  no_room-kept m x = rw (k.users x, k.managements x)

  -- ---- management made here

  send-kept : (room : Option Cause) (link : Option ℕ) (m : Message) (n : Node P) → IsFit n.queues → KeepsNode h IsFit (send q c room link m (keep h n)) (send p c room link m n)
  send-kept (Some cause) link m n f = record { same = refl; fit = f }
  send-kept None None m n f = record { same = refl; fit = f }
  send-kept None (Some l) m n f = changed _ _ n.parts (k.appended n.queues l m f)

  send_by-kept : (link : Option ℕ) (m : Message) (n : Node P) → IsFit n.queues
      → KeepsNode h IsFit (send q c (no_room q c m (h n.queues)) link m (keep h n)) (send p c (no_room p c m n.queues) link m n)
  send_by-kept link m n f =
      let s : KeepsNode h IsFit (send q c (no_room p c m n.queues) link m (keep h n)) (send p c (no_room p c m n.queues) link m n) = send-kept (no_room p c m n.queues) link m n f in
      record { same = ap (λ (r : Option Cause). send q c r link m (keep h n)) (no_room-kept m n.queues) ∙ s.same; fit = s.fit }

  pub send_on-kept : (l : ℕ) (m : Message) (n : Node P) → IsFit n.queues → KeepsNode h IsFit (send_on q c l m (keep h n)) (send_on p c l m n)
  send_on-kept l m n f = send_by-kept (Some l) m n f

  pub send_routed-kept : (m : Message) (n : Node P) → IsFit n.queues → KeepsNode h IsFit (send_routed q c m (keep h n)) (send_routed p c m n)
  send_routed-kept m n f = send_by-kept (link_of c n.parts (flow_of m)) m n f

  pub send_each-kept : (ms : List Message) (n : Node P) → IsFit n.queues → KeepsNode h IsFit (send_each q c ms (keep h n)) (send_each p c ms n)
  send_each-kept [] n f = record { same = refl; fit = f }
  send_each-kept (m ∷ ms) n f =
      let e : KeepsNode h IsFit (send_anew q c m (keep h n)) (send_anew p c m n) = send-kept None (link_of c n.parts (flow_of m)) m n f in
      behind_node (λ (z : Node Q). send_each q c ms z) (send_each p c ms (send_anew p c m n)) _ (send_anew p c m n) e.same
      (send_each-kept ms (send_anew p c m n) e.fit)

  -- ---- what adjacent points are told

  may_tell-kept : (n : Node P) → may_tell q c (keep h n) ≡ may_tell p c n
  may_tell-kept n = ap (λ (many : ℕ). nat_lt many told_below) (k.managements n.queues)

  tell-kept : (o : Owed) (n : Node P) → IsFit n.queues → KeepsNode h IsFit (telling.tell q c o (keep h n)) (telling.tell p c o n)
  tell-kept o n f = send_routed-kept (route_message c o.set o.destination o.status) (with_parts n (told_parts c o n.parts)) f

  tell_if-kept : (o : Owed) (n : Node P) → IsFit n.queues → KeepsNode h IsFit (tell_if q c o (keep h n)) (tell_if p c o n)
  tell_if-kept o n f =
      alike_node (may_tell q c (keep h n)) (may_tell p c n) _ _ (telling.tell p c o n) n (may_tell-kept n) (tell-kept o n f) (record { same = refl; fit = f })

  tell_each-kept : (os : List Owed) (n : Node P) → IsFit n.queues → KeepsNode h IsFit (tell_each q c os (keep h n)) (tell_each p c os n)
  tell_each-kept [] n f = record { same = refl; fit = f }
  tell_each-kept (o ∷ os) n f =
      let e : KeepsNode h IsFit (tell_if q c o (keep h n)) (tell_if p c o n) = tell_if-kept o n f in
      behind_node (λ (z : Node Q). tell_each q c os z) (tell_each p c os (tell_if p c o n)) _ (tell_if p c o n) e.same (tell_each-kept os (tell_if p c o n) e.fit)

  pub tell_owed-kept : (n : Node P) → IsFit n.queues → KeepsNode h IsFit (tell_owed q c (keep h n)) (tell_owed p c n)
  unfolding tell_owed
  tell_owed-kept n f = tell_each-kept (owed (facts c n.parts) n.parts.told) n f

  prohibit_if-kept : (s d : ℕ) (n : Node P) → IsFit n.queues → KeepsNode h IsFit (prohibit_if q c s d (keep h n)) (prohibit_if p c s d n)
  prohibit_if-kept s d n f =
      let led : Bool = is_led c (route_message c s d Prohibited) n.parts in
      alike_node (may_tell q c (keep h n) && not (is_inhibited s d n.parts) && led) (may_tell p c n && not (is_inhibited s d n.parts) && led) _ _ (prohibit p c s d n) n
      (ap (λ (b : Bool). b && not (is_inhibited s d n.parts) && led) (may_tell-kept n))
      (send_routed-kept (route_message c s d Prohibited) (with_parts n (inhibited c s d n.parts)) f) (record { same = refl; fit = f })

  answer_no_route-kept : (link place : Option ℕ) (n : Node P) → IsFit n.queues → KeepsNode h IsFit (answer_no_route q c link place (keep h n)) (answer_no_route p c link place n)
  answer_no_route-kept (Some l) (Some d) n f = prohibit_if-kept (set_of c l) d n f
  answer_no_route-kept (Some l) None n f = record { same = refl; fit = f }
  answer_no_route-kept None place n f = record { same = refl; fit = f }

  tell_unavailable-kept : (o : ℕ) (m : Message) (n : Node P) → IsFit n.queues → KeepsNode h IsFit (tell_unavailable q c o m (keep h n)) (tell_unavailable p c o m n)
  tell_unavailable-kept o m n f =
      let next : Node P = with_parts n (unequipped_counted o n.parts) in
      alike_node (is_unequipped_told q c o m (keep h n)) (is_unequipped_told p c o m n) _ _ (send_routed p c (unavailable c m) next) next
      (ap (λ (b : Bool). b && nat_eq (unequipped_from o n.parts) 0 && is_some (link_of c n.parts (flow_of (unavailable c m)))) (may_tell-kept n))
      (send_routed-kept (unavailable c m) next f) (record { same = refl; fit = f })

  pub answer_no_user_part-kept : (link origin : Option ℕ) (m : Message) (n : Node P) → IsFit n.queues
      → KeepsNode h IsFit (answer_no_user_part q c link origin m (keep h n)) (answer_no_user_part p c link origin m n)
  answer_no_user_part-kept (Some l) (Some o) m n f =
      either_node c.user_part_unavailable _ _ (tell_unavailable p c o m n) n (tell_unavailable-kept o m n f) (record { same = refl; fit = f })
  answer_no_user_part-kept (Some l) None m n f = record { same = refl; fit = f }
  answer_no_user_part-kept None origin m n f = record { same = refl; fit = f }

  send_route_status-kept : (status : Option RouteStatus) (s d : ℕ) (n : Node P) → IsFit n.queues → KeepsNode h IsFit (send_route_status q c status s d (keep h n)) (send_route_status p c status s d n)
  send_route_status-kept (Some status) s d n f =
      let m : Message = route_message c s d status in
      let next : Node P = with_parts n (answered_parts s d status n.parts) in
      either_node (is_led c m n.parts) _ _ (send_routed p c m next) n (send_routed-kept m next f) (record { same = refl; fit = f })
  send_route_status-kept None s d n f = record { same = refl; fit = f }

  answer_route_test-kept : (test : RouteTest) (s d : ℕ) (n : Node P) → IsFit n.queues → Keeps h IsFit (answer_route_test q c test s d (keep h n)) (answer_route_test p c test s d n)
  answer_route_test-kept test s d n f =
      let status : Option RouteStatus = told.answer_to_test (facts c n.parts) n.parts.told s d test in
      either (told.is_own_point n.parts.told s d) _ _ (answer Ignored n) (answer Handled (send_route_status p c status s d n))
      (parted _ n.parts n.queues f) (answered _ _ _ (send_route_status-kept status s d n f))

  pub on_route_test-kept : (test : RouteTest) (route : Result (ℕ × ℕ) Outcome) (n : Node P) → IsFit n.queues → Keeps h IsFit (on_route_test q c test route (keep h n)) (on_route_test p c test route n)
  on_route_test-kept test (Ok (s, d)) n f = answer_route_test-kept test s d n f
  on_route_test-kept test (Err outcome) n f = parted _ n.parts n.queues f

  -- ---- what they say

  apply_route_status-kept : (x : Heard) (s d : ℕ) (status : RouteStatus) (n : Node P) → IsFit n.queues → Keeps h IsFit (apply_route_status q c x s d status (keep h n)) (apply_route_status p c x s d status n)
  apply_route_status-kept hears.Ignored s d status n f = parted _ n.parts n.queues f
  apply_route_status-kept hears.Unchanged s d status n f = parted _ n.parts n.queues f
  apply_route_status-kept hears.Changed s d status n f = parted _ (with_status_heard c s d status n.parts) n.queues f

  pub on_route_status-kept : (status : RouteStatus) (route : Result (ℕ × ℕ) Outcome) (n : Node P) → IsFit n.queues
      → Keeps h IsFit (on_route_status q c status route (keep h n)) (on_route_status p c status route n)
  on_route_status-kept status (Ok (s, d)) n f = apply_route_status-kept (told.heard (facts c n.parts) n.parts.told s d status) s d status n f
  on_route_status-kept status (Err outcome) n f = parted _ n.parts n.queues f

  ask-kept : (m : Message) (s d : ℕ) (n : Node P) → IsFit n.queues → KeepsNode h IsFit (ask q c m s d (keep h n)) (ask p c m s d n)
  ask-kept m s d n f =
      let next : Node P = with_parts n (with_next_test p c s d n.parts) in
      either_node (is_led c m n.parts) _ _ (send_routed p c m next) next (send_routed-kept m next f) (record { same = refl; fit = f })

  ask_by-kept : (status : Option RouteStatus) (s d : ℕ) (n : Node P) → IsFit n.queues → KeepsNode h IsFit (ask_by q c status s d (keep h n)) (ask_by p c status s d n)
  ask_by-kept (Some Prohibited) s d n f = ask-kept (prohibited_test p c s d) s d n f
  ask_by-kept (Some Restricted) s d n f = ask-kept (restricted_test p c s d) s d n f
  ask_by-kept (Some Allowed) s d n f = record { same = refl; fit = f }
  ask_by-kept None s d n f = record { same = refl; fit = f }

  pub ask_again-kept : (s d : ℕ) (n : Node P) → IsFit n.queues → KeepsNode h IsFit (ask_again q c s d (keep h n)) (ask_again p c s d n)
  ask_again-kept s d n f =
      let status : Option RouteStatus = status_of (facts c n.parts) d s in
      either_node (nat_lt s (length c.sets) && nat_lt d (length c.destinations)) _ _ (ask_by p c status s d n) n (ask_by-kept status s d n f) (record { same = refl; fit = f })

  -- ---- messages for other points

  offer-kept : (room : Option Cause) (waiting : Bool) (link from : Option ℕ) (m : Message) (n : Node P) → IsFit n.queues
      → Keeps h IsFit (offer q c room waiting link from m (keep h n)) (offer p c room waiting link from m n)
  offer-kept (Some cause) waiting link from m n f = parted _ n.parts n.queues f
  offer-kept None true link from m n f = answered _ _ _ (changed _ _ n.parts (k.holding n.queues m f))
  offer-kept None false None from m n f = answered _ _ _ (answer_no_route-kept from (destination_place c (dpc_of m)) n f)
  offer-kept None false (Some link) from m n f = answered _ _ _ (changed _ _ n.parts (k.appended n.queues link m f))

  -- the room that one needs is found by the same tests
  no_room_for-kept : (m : Message) (n : Node P) → no_room_for q c m (keep h n) ≡ no_room_for p c m n
  no_room_for-kept m n = rw (k.users n.queues, k.managements n.queues) (ap (option_or (no_room p c m n.queues)) (on (link_of c n.parts (flow_of m))))
    where
      on : (link : Option ℕ) → no_room_on q c link (waits c n.parts.holds m) m (h n.queues) ≡ no_room_on p c link (waits c n.parts.holds m) m n.queues
      on None = refl
      on (Some l) = rw (k.unconfirmed n.queues l)

  pub transfer-kept : (from : Option ℕ) (m : Message) (n : Node P) → IsFit n.queues → Keeps h IsFit (transfer q c from m (keep h n)) (transfer p c from m n)
  transfer-kept from m n f =
      let held : Bool = waits c n.parts.holds m in
      let link : Option ℕ = link_of c n.parts (flow_of m) in
      let e : offer q c (no_room_for q c m (keep h n)) held link from m (keep h n) ≡ offer q c (no_room_for p c m n) held link from m (keep h n) =
      ap (λ (r : Option Cause). offer q c r held link from m (keep h n)) (no_room_for-kept m n) in
      let o : Keeps h IsFit (offer q c (no_room_for p c m n) held link from m (keep h n)) (offer p c (no_room_for p c m n) held link from m n) =
      offer-kept (no_room_for p c m n) held link from m n f in
      either (is_destination c (dpc_of m)) _ _ (offer p c (no_room_for p c m n) held link from m n) (refuse causes.UnknownDestination n)
      (record { same = e ∙ o.same; fit = o.fit }) (parted _ n.parts n.queues f)
