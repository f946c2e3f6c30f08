-- The orders that go out late about all links: each in its turn.
use Rattle.exchange_rules.proofs.Basics.{◌≡◌, ◌≢◌, ◌<◌, ◌≤◌, ◌⊎◌, inl, inr, ℕ, zero, suc, Bool, true, false, List, [], ◌∷◌, ◌++◌, length, Option, Some, None, refl, ap, sym, subst, ◌∙◌, arith, if◌then◌else◌, ⊎_elim, cases_eq, cases_lt, and_parts, not, get_or_past, get_or-set_same, get_or-set_other, length-set, append-nil, append_assoc}
use Rattle.exchange_rules.proofs.Definitions.{Configuration, IsWell, Message, flow_of, destination_place, Cause, Facts, chosen_link, Standing, is_unasked, with_order, changeover_order, Queue, first_queue, appended, Running, clear_timer, left-set_other, left-clear_other, Node, with_parts, link_of, no_room, send, is_late, asking, order_late, order_if_late, order_each, changeover_of, HasAllPlaces, WholeQueues, queue_at, whole}
use Rattle.std.specs.Option.{option_and_then}
use Rattle.signalling_types.specs.Numbers.{previous_number}
use Rattle.timers.specs.declared.name.TimerName.{TimerName}
use Rattle.timers.specs.declared.name.TimerName.TheVariants.{T1, T2}
use Rattle.exchange_rules.specs.LawsOfAnyRoute.{order_about}
use Rattle.exchange_rules.specs.LawsOfLateOrders.{at_turn, StandsBehind, GoesLate, GoesInTurn, all_late_orders_go, late_orders_need_their_key, orders_go_in_turn}
use Rattle.exchange_rules.proofs.LastingPlaces.{places-steps}
use Rattle.exchange_rules.proofs.LateOrders.{each-facts, late-go, standing-there}
use Rattle.exchange_rules.proofs.LeavingMessages.{chosen_serves}
use Rattle.exchange_rules.proofs.Moves.{serving-there}
use Rattle.exchange_rules.proofs.OrdersByAnyRoute.{send-changeovers, send-timers}
use Rattle.exchange_rules.proofs.Receiving.{same-steps}
use Rattle.exchange_rules.proofs.Rules.{rules-of}
use Rattle.exchange_rules.proofs.SteppingLate.{order_each-steps}
use Rattle.exchange_rules.proofs.WillEnding.{its-own, its-wait, other-standing}

-- ---- what stands on a link only grows

record Grew (before after : List Message) : Type 0 where
  more : List Message
  is : after ≡ before ++ more

none-more : (ms : List Message) → Grew ms ms
none-more ms = record { more = []; is = sym (append-nil ms) }

both-more : (xs ys zs : List Message) → Grew xs ys → Grew ys zs → Grew xs zs
both-more xs ys zs e f = record { more = e.more ++ f.more; is = f.is ∙ ap (λ (ms : List Message). ms ++ f.more) e.is ∙ append_assoc xs e.more f.more }

appended-grew : (qs : WholeQueues) (link way : ℕ) (m : Message) → Grew (queue_at qs way).all (queue_at (whole.appended qs link m) way).all
appended-grew qs link way m = by (cases_eq way link) (cases_lt link (length qs.links))
  where
    its : Queue
    its = appended (queue_at qs link) m

    same : queue_at (whole.appended qs link m) way ≡ queue_at qs way → Grew (queue_at qs way).all (queue_at (whole.appended qs link m) way).all
    same e = record { more = []; is = ap (λ (q : Queue). q.all) e ∙ sym (append-nil (queue_at qs way).all) }

    by : (way ≡ link) ⊎ (way ≢ link) → (link < length qs.links) ⊎ (length qs.links ≤ link) → Grew (queue_at qs way).all (queue_at (whole.appended qs link m) way).all
    by (inr apart) there = same (get_or-set_other qs.links link way its first_queue apart)
    by (inl is) (inl there) =
        subst (λ (k : ℕ). Grew (queue_at qs k).all (queue_at (whole.appended qs link m) k).all) (sym is)
        (record { more = m ∷ []; is = ap (λ (q : Queue). q.all) (get_or-set_same qs.links link its first_queue there) })
    by (inl is) (inr past) =
        same (get_or_past (whole.appended qs link m).links way first_queue (omega (arith, is, past, length-set qs.links link its))
        ∙ sym (get_or_past qs.links way first_queue (omega (arith, is, past))))

send-grew : (c : Configuration) (room : Option Cause) (link : Option ℕ) (way : ℕ) (m : Message) (n : Node WholeQueues) → Grew (queue_at n.queues way).all (queue_at (send whole c room link m n).queues way).all
send-grew c (Some cause) link way m n = none-more (queue_at n.queues way).all
send-grew c None None way m n = none-more (queue_at n.queues way).all
send-grew c None (Some link) way m n = appended-grew n.queues link way m

module _ (c : Configuration) where
  late-grew : (link way : ℕ) (n : Node WholeQueues) → Grew (queue_at n.queues way).all (queue_at (order_late whole c link n).queues way).all
  late-grew link way n =
      send-grew c (no_room whole c (order_about c link n) n.queues) (link_of c n.parts (flow_of (order_about c link n))) way (order_about c link n) (with_parts n (asking c link n.parts))

  if-grew : (link way : ℕ) (n : Node WholeQueues) → Grew (queue_at n.queues way).all (queue_at (order_if_late whole c link n).queues way).all
  if-grew link way n = by (is_late c link n.parts)
    where
      by : (late : Bool) → Grew (queue_at n.queues way).all (queue_at (if late then order_late whole c link n else n).queues way).all
      by true = late-grew link way n
      by false = none-more (queue_at n.queues way).all

  each-grew : (many way : ℕ) (n : Node WholeQueues) → Grew (queue_at n.queues way).all (queue_at (order_each whole c many n).queues way).all
  unfolding order_each
  each-grew zero way n = none-more (queue_at n.queues way).all
  each-grew (suc last) way n = both-more _ _ _ (each-grew last way n) (if-grew last way (order_each whole c last n))

  -- ---- an order leaves the changeovers of other links, and their timers

  module _ (link other : ℕ) (apart : other ≢ link) where
    late-other : (n : Node WholeQueues) → changeover_of (order_late whole c link n).parts other ≡ changeover_of n.parts other
    late-other n =
        ap (λ (all : List Standing). changeover_of (record n.parts { changeovers = all }) other)
        (send-changeovers c (no_room whole c (order_about c link n) n.queues) (link_of c n.parts (flow_of (order_about c link n))) (order_about c link n) (with_parts n (asking c link n.parts)))
        ∙ other-standing n.parts.changeovers link other (with_order (changeover_of n.parts link)) n.parts apart

    late-timer : (timer : TimerName) (n : Node WholeQueues) → timer ≢ T1 link → timer ≢ T2 link → (order_late whole c link n).parts.timers.left timer ≡ n.parts.timers.left timer
    late-timer timer n first second =
        ap (λ (r : Running). r.left timer)
        (send-timers c (no_room whole c (order_about c link n) n.queues) (link_of c n.parts (flow_of (order_about c link n))) (order_about c link n) (with_parts n (asking c link n.parts)))
        ∙ left-set_other (T2 link) timer c.timers.t2 (clear_timer (T1 link) n.parts.timers) (λ e. second (sym e))
        ∙ left-clear_other (T1 link) timer n.parts.timers (λ e. first (sym e))

    if-other : (n : Node WholeQueues) → changeover_of (order_if_late whole c link n).parts other ≡ changeover_of n.parts other
    if-other n = by (is_late c link n.parts)
      where
        by : (late : Bool) → changeover_of (if late then order_late whole c link n else n).parts other ≡ changeover_of n.parts other
        by true = late-other n
        by false = refl

    if-timer : (timer : TimerName) (n : Node WholeQueues) → timer ≢ T1 link → timer ≢ T2 link → (order_if_late whole c link n).parts.timers.left timer ≡ n.parts.timers.left timer
    if-timer timer n first second = by (is_late c link n.parts)
      where
        by : (late : Bool) → (if late then order_late whole c link n else n).parts.timers.left timer ≡ n.parts.timers.left timer
        by true = late-timer timer n first second
        by false = refl

  -- before its turn a link stays as it is
  each-before : (many link : ℕ) (n : Node WholeQueues) → many ≤ link → changeover_of (order_each whole c many n).parts link ≡ changeover_of n.parts link
  unfolding order_each
  each-before zero link n before = refl
  each-before (suc last) link n before =
      if-other last link (λ e. omega (arith, before, e)) (order_each whole c last n) ∙ each-before last link n (omega (arith, before))

  -- ---- its turn, and what comes after

  module _ (well : IsWell c) (link way : ℕ) (n : Node WholeQueues) (places : HasAllPlaces c n) (unasked : is_unasked (changeover_of n.parts link) ≡ true)
      (led : link_of c n.parts (flow_of (order_about c link n)) ≡ Some way) where
    abbrev turn : Node WholeQueues
    turn = at_turn c link n

    same-order : order_about c link turn ≡ order_about c link n
    same-order =
        ap (λ (received : ℕ). changeover_order c link (previous_number received)) (order_each-steps (rules-of (same-steps link c)) link n).same

    turn-led : link_of c turn.parts (flow_of (order_about c link turn)) ≡ Some way
    turn-led =
        ap (λ (m : Message). link_of c turn.parts (flow_of m)) same-order
        ∙ ap (λ (f : Facts). option_and_then (λ place. chosen_link f place (flow_of (order_about c link n)).sls) (destination_place c (flow_of (order_about c link n)).point)) (each-facts c link n)
        ∙ led

    its-turn : GoesLate c link way turn (order_if_late whole c link turn)
    its-turn =
        late-go c link way turn well ((order_each-steps (rules-of (places-steps c)) link n).stay places) (ap is_unasked (each-before link link n (omega arith)) ∙ unasked) turn-led

    turn-places : HasAllPlaces c turn
    turn-places = (order_each-steps (rules-of (places-steps c)) link n).stay places

    turn-grew : Grew (queue_at n.queues way).all (queue_at turn.queues way).all
    turn-grew = each-grew link way n

    way-there : way < length turn.queues.links
    way-there =
        omega (arith, serving-there turn.parts way (chosen_serves c turn.parts (flow_of (order_about c link turn)) way turn-led), turn-places.parts.links, turn-places.queues)

    now : GoesInTurn c link way n (order_if_late whole c link turn)
    now = record {
      awaits = its-turn.awaits;
      stopped = its-turn.stopped;
      sent = λ few. record {
        earlier = turn-grew.more;
        later = [];
        stands = ap (λ (qs : WholeQueues). (queue_at qs way).all) (its-turn.sent few)
            ∙ ap (λ (q : Queue). q.all) (get_or-set_same turn.queues.links way (appended (queue_at turn.queues way) (order_about c link turn)) first_queue way-there)
            ∙ ap (λ (m : Message). (queue_at turn.queues way).all ++ m ∷ []) same-order
            ∙ ap (λ (ms : List Message). ms ++ order_about c link n ∷ []) turn-grew.is;
      };
    }

    then-stands : (last : ℕ) (m : Node WholeQueues) → StandsBehind (order_about c link n) way n m → StandsBehind (order_about c link n) way n (order_if_late whole c last m)
    then-stands last m h =
        let more : Grew (queue_at m.queues way).all (queue_at (order_if_late whole c last m).queues way).all = if-grew last way m in
        record {
          earlier = h.earlier;
          later = h.later ++ more.more;
          stands = more.is ∙ ap (λ (ms : List Message). ms ++ more.more) h.stands
              ∙ append_assoc ((queue_at n.queues way).all ++ h.earlier) (order_about c link n ∷ h.later) more.more;
        }

    later : (last : ℕ) (m : Node WholeQueues) → link ≢ last → GoesInTurn c link way n m → GoesInTurn c link way n (order_if_late whole c last m)
    later last m apart h = record {
      awaits = record {
        incomplete = ap (λ (s : Standing). s.incomplete) (if-other last link apart m) ∙ h.awaits.incomplete;
        awaited = ap (λ (s : Standing). s.awaited) (if-other last link apart m) ∙ h.awaits.awaited;
        t2 = if-timer last link apart (T2 link) m (λ e. cc) (λ e. its-wait last link apart (inr e)) ∙ h.awaits.t2;
      };
      stopped = if-timer last link apart (T1 link) m (λ e. its-own last link apart (inl e)) (λ e. cc) ∙ h.stopped;
      sent = λ few. then-stands last m (h.sent few);
    }

    each-goes : (many : ℕ) → link < many → GoesInTurn c link way n (order_each whole c many n)
    unfolding order_each
    each-goes zero below = absurd (omega (arith, below))
    each-goes (suc last) below =
        ⊎_elim (λ (is : link ≡ last). subst (λ (k : ℕ). GoesInTurn c link way n (order_if_late whole c k (order_each whole c k n))) is now)
        (λ (apart : link ≢ last). later last (order_each whole c last n) apart (each-goes last (omega (arith, below, apart))))
        (cases_eq link last)

    there : link < length c.links
    there =
        omega (arith, standing-there n.parts link (and_parts (changeover_of n.parts link).incomplete (not (changeover_of n.parts link).awaited) unasked).0, places.parts.changeovers, places.parts.links)

-- ---- the laws

pub all-go : all_late_orders_go
all-go c link way n well places any unasked led =
    subst (λ (b : Bool). GoesInTurn c link way n (if b then order_each whole c (length c.links) n else n)) (sym any)
    (each-goes c well link way n places unasked led (length c.links) (there c well link way n places unasked led))

pub in-turn : orders_go_in_turn
unfolding order_each
in-turn c n = record {
  first = refl;
  next = λ link. refl;
  all = λ any. ap (λ (b : Bool). if b then order_each whole c (length c.links) n else n) any;
}

pub none-without-key : late_orders_need_their_key
none-without-key c n off = ap (λ (b : Bool). if b then order_each whole c (length c.links) n else n) off
