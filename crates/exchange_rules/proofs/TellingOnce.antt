-- Within T8 a point is told at most once that messages find no route; and it is told nothing without a link.
use Rattle.exchange_rules.proofs.Basics.{◌≡◌, ◌<◌, inl, inr, ℕ, Bool, true, false, ◌&&◌, ◌||◌, not, nat_lt, length, Option, Some, None, is_some, refl, ap, sym, subst, ◌∙◌, arith, max, if◌then◌else◌, nat_tests, and_from}
use Rattle.exchange_rules.proofs.Definitions.{RouteStatus, answer, Handled, Ignored, facts, send_routed, send_route_status, answered_parts, Configuration, Message, dpc_of, flow_of, Cause, Refused, NoRoute, destination_place, Running, is_running, left-set, Prohibited, Node, with_parts, refuse, set_of, link_of, no_room, no_room_for, waits, is_destination, offer, may_tell, inhibited, is_led, prohibit, answer_no_route, send, route_message, HasAllPlaces, WholeQueues, whole}
use Rattle.signalling_types.specs.declared.cause.Cause.TheVariants as causes
use Rattle.timers.specs.declared.name.TimerName.TheVariants.{T8}
use Rattle.route_management.specs.Told.{answer_to_test, is_own_point}
use Rattle.exchange_rules.specs.LawsOfAnswers.{IsToldOnce, one_answer_within_t8, route_tests_need_a_link}

module _ (c : Configuration) (set destination : ℕ) where
  untold : (n : Node WholeQueues) → IsToldOnce c set destination n n
  untold n = record { inhibited = λ e. refl; stranded = λ e. refl; told = inl refl }

  below : (a b : ℕ) → a < b → nat_lt a b ≡ true
  below a b l = grind (arith, nat_tests, l)

  -- what goes out stops no timer
  sent-timers : (room : Option Cause) (link : Option ℕ) (m : Message) (n : Node WholeQueues) → (send whole c room link m n).parts.timers ≡ n.parts.timers
  sent-timers (Some cause) link m n = refl
  sent-timers None None m n = refl
  sent-timers None (Some link) m n = refl

  prohibited-left : (n : Node WholeQueues) → HasAllPlaces c n → set < length c.sets → destination < length c.destinations
      → (prohibit whole c set destination n).parts.timers.left (T8 set destination) ≡ Some (max 1 c.timers.t8)
  prohibited-left n h e f =
      let next : Node WholeQueues = with_parts n (inhibited c set destination n.parts) in
      let m : Message = route_message c set destination Prohibited in
      ap (λ (r : Running). r.left (T8 set destination)) (sent-timers (no_room whole c m next.queues) (link_of c next.parts (flow_of m)) m next)
      ∙ left-set (T8 set destination) c.timers.t8 n.parts.timers
      (and_from (nat_lt set n.parts.timers.counts.sets) (nat_lt destination n.parts.timers.counts.destinations)
      (below _ _ (omega (arith, e, h.timers.sets))) (below _ _ (omega (arith, f, h.timers.destinations))))

  told-once : (n : Node WholeQueues) → HasAllPlaces c n → set < length c.sets → destination < length c.destinations
      → (may runs own led : Bool) → is_running (T8 set destination) n.parts.timers ≡ runs → is_led c (route_message c set destination Prohibited) n.parts ≡ led
      → IsToldOnce c set destination n (if may && not (runs || own) && led then prohibit whole c set destination n else n)
  told-once n h e f false runs own led r l = untold n
  told-once n h e f true true own led r l = untold n
  told-once n h e f true false true led r l = untold n
  told-once n h e f true false false false r l = untold n
  told-once n h e f true false false true r l = record {
    inhibited = λ runs. (let no : true ≡ false = sym runs ∙ r in absurd cc);
    stranded = λ none. (let no : true ≡ false = sym l ∙ ap (λ (o : Option ℕ). is_some o) none in absurd cc);
    told = inr (prohibited-left n h e f);
  }

pub told-once-within : one_answer_within_t8
told-once-within c link destination m n h e f place outcome = by (is_destination c (dpc_of m)) outcome
  where
    answers : (at : Option ℕ) → at ≡ Some destination → IsToldOnce c (set_of c link) destination n (answer_no_route whole c (Some link) at n)
    answers at is =
        subst (λ (o : Option ℕ). IsToldOnce c (set_of c link) destination n (answer_no_route whole c (Some link) o n)) (sym is)
        (told-once c (set_of c link) destination n h e f (may_tell whole c n) (is_running (T8 (set_of c link) destination) n.parts.timers) (is_own_point n.parts.told (set_of c link) destination)
        (is_led c (route_message c (set_of c link) destination Prohibited) n.parts) refl refl)

    offered : (room : Option Cause) (is_waiting : Bool) (its : Option ℕ) → (offer whole c room is_waiting its (Some link) m n).outcome ≡ Refused NoRoute
        → IsToldOnce c (set_of c link) destination n (offer whole c room is_waiting its (Some link) m n).left
    offered (Some cause) is_waiting its g = untold c (set_of c link) destination n
    offered None true its g = absurd cc
    offered None false None g = answers (destination_place c (dpc_of m)) place
    offered None false (Some its) g = absurd cc

    by : (known : Bool)
        → (if known then offer whole c (no_room_for whole c m n) (waits c n.parts.holds m) (link_of c n.parts (flow_of m)) (Some link) m n else refuse causes.UnknownDestination n).outcome
        ≡ Refused NoRoute
        → IsToldOnce c (set_of c link) destination n
        (if known then offer whole c (no_room_for whole c m n) (waits c n.parts.holds m) (link_of c n.parts (flow_of m)) (Some link) m n else refuse causes.UnknownDestination n).left
    by true g = offered (no_room_for whole c m n) (waits c n.parts.holds m) (link_of c n.parts (flow_of m)) g
    by false g = untold c (set_of c link) destination n

pub tests-need : route_tests_need_a_link
tests-need c asked set destination n none =
    by (is_own_point n.parts.told set destination) (answer_to_test (facts c n.parts) n.parts.told set destination asked)
  where
    unsaid : (o : Option RouteStatus) → send_route_status whole c o set destination n ≡ n
    unsaid None = refl
    unsaid (Some status) =
        ap (λ (link : Option ℕ). if is_some link then send_routed whole c (route_message c set destination status) (with_parts n (answered_parts set destination status n.parts)) else n)
        (none status)

    by : (own : Bool) (o : Option RouteStatus) → (if own then answer Ignored n else answer Handled (send_route_status whole c o set destination n)).left ≡ n
    by true o = refl
    by false o = unsaid o
