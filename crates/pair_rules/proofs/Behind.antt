-- User messages after a number: there are as many if a node makes only management.
use Rattle.pair_rules.proofs.Basics.{◌≡◌, ◌≤◌, ◌+◌, ◌&&◌, ℕ, zero, suc, Bool, true, false, not, List, [], ◌∷◌, ◌++◌, length, drop, Option, Some, None, refl, ap, ◌∙◌, arith, if◌then◌else◌, count_by}
use Rattle.pair_rules.proofs.Definitions.{in_service, Message, flow_of, is_management, Cause, Configuration, Queue, appended, first_queue, named_count, Facts, Node, with_parts, WholeQueues, whole, queue_at, queue_on, no_room, link_of, send, entry_of, peer_of, set_of, ChangebackDeclaration, advance, enters, enters_traffic, return_if, loses_flows, hold_flows, code_for, declaration, take_back_each, facts, after}
use Rattle.std.specs.Prelude.{unwrap_or}
use Rattle.link.specs.declared.action.Transition.{Transition}
use Rattle.exchange_rules.specs.ChangingBack.{code_in_use, declare_by}
use Rattle.exchange_rules.specs.Routing.{adjacent_of, point_of}
use Rattle.exchange_rules.specs.Frames.{moved_on, take_step, test_if}
use Rattle.exchange_rules.specs.LinkTests.{awaiting_test, link_test, queue_if, send_test, tests_links}
use Rattle.exchange_rules.specs.Telling.{may_tell, tell_each, tell_if, tell_owed, told_parts}
use Rattle.exchange_rules.specs.Telling as telling
use Rattle.exchange_rules.proofs.Lists.{alike-at}
use Rattle.exchange_rules.proofs.OwnManagement.{made-management, test-management}
use Rattle.route_management.specs.Told.{Owed, owed}
use Rattle.pair_moves.specs.Laws.{sum_to}
use Rattle.pair_moves.proofs.Counts.{count-append, sum-alike}
use Rattle.pair_rules.specs.Promises.{user}

-- ---- user messages after a number

-- how many of these are user messages
abbrev pub users : List Message → ℕ
users ms = count_by (user (λ m. true)) ms

-- the messages of a queue after the count that a number names; if it names none, all that aren't confirmed
abbrev pub behind_number : (number : ℕ) → Queue → List Message
behind_number number q = drop (unwrap_or (named_count q number) q.confirmed) q.all

abbrev pub behind_at : (number : ℕ) → WholeQueues → (link : ℕ) → ℕ
behind_at number qs link = users (behind_number number (queue_at qs link))

-- those of n links, and those of Held
abbrev pub standing_behind : (number links : ℕ) → WholeQueues → ℕ
standing_behind number links qs = sum_to (behind_at number qs) links + users qs.held

no-user : (m : Message) → is_management m ≡ true → users (m ∷ []) ≡ 0
no-user m e = ap (λ (b : Bool). count_by (λ (x : Message). b) (m ∷ [])) (ap (λ (b : Bool). not b && true) e)

no-more : (k : ℕ) (ms : List Message) (m : Message) → is_management m ≡ true → users (drop k (ms ++ m ∷ [])) ≡ users (drop k ms)
no-more zero ms m e = count-append (user (λ x. true)) ms (m ∷ []) ∙ (omega (arith, no-user m e))
no-more (suc zero) [] m e = refl
no-more (suc (suc k)) [] m e = refl
no-more (suc k) (first ∷ ms) m e = no-more k ms m e

pub one-more : (k : ℕ) (ms : List Message) (m : Message) → k ≤ length ms → users (drop k (ms ++ m ∷ [])) ≡ users (drop k ms) + users (m ∷ [])
one-more zero ms m l = count-append (user (λ x. true)) ms (m ∷ [])
one-more (suc k) [] m l = absurd (omega (arith, l))
one-more (suc k) (first ∷ ms) m l = one-more k ms m (omega (arith, l))

module _ (number : ℕ) (c : Configuration) where
  abbrev pub on : Queue → ℕ
  on q = users (behind_number number q)

  abbrev pub links : ℕ
  links = length c.links

  abbrev pub T : Node WholeQueues → ℕ
  T n = standing_behind number links n.queues

  -- ---- where management goes out, as many stand

  pub record Same (n o : Node WholeQueues) : Type 0 where
    pub held : o.queues.held ≡ n.queues.held
    pub each : (link : ℕ) → on (queue_at o.queues link) ≡ on (queue_at n.queues link)

  itself : (n : Node WholeQueues) → Same n n
  itself n = record { held = refl; each = λ link. refl }

  pub both : (n o p : Node WholeQueues) → Same n o → Same o p → Same n p
  both n o p e f = record { held = f.held ∙ e.held; each = λ link. f.each link ∙ e.each link }

  either : (b : Bool) (n o p : Node WholeQueues) → Same n o → Same n p → Same n (if b then o else p)
  either true n o p e f = e
  either false n o p e f = f

  pub as-many : (n o : Node WholeQueues) → Same n o → T o ≡ T n
  as-many n o e =
      ap (λ (k : ℕ). k + users o.queues.held) (sum-alike (behind_at number n.queues) (behind_at number o.queues) links (λ link l. e.each link))
      ∙ ap (λ (ms : List Message). sum_to (behind_at number n.queues) links + users ms) e.held

  queued-same : (link : ℕ) (m : Message) (n : Node WholeQueues) → is_management m ≡ true → Same n (queue_on whole c link m n)
  queued-same link m n e = record {
    held = refl;
    each = λ other.
        alike-at on n.queues.links link other (appended (queue_at n.queues link) m) first_queue
        (no-more (unwrap_or (named_count (queue_at n.queues link) number) (queue_at n.queues link).confirmed) (queue_at n.queues link).all m e);
  }

  send-same : (room : Option Cause) (link : Option ℕ) (m : Message) (n : Node WholeQueues) → is_management m ≡ true → Same n (send whole c room link m n)
  send-same (Some cause) link m n e = record { held = refl; each = λ other. refl }
  send-same None None m n e = record { held = refl; each = λ other. refl }
  send-same None (Some link) m n e = queued-same link m n e

  tell-same : (o : Owed) (n : Node WholeQueues) → Same n (telling.tell whole c o n)
  tell-same o n =
      let m : Message = telling.route_message c o.set o.destination o.status in
      let told : Node WholeQueues = with_parts n (told_parts c o n.parts) in
      both n told (telling.tell whole c o n) (record { held = refl; each = λ link. refl })
      (send-same (no_room whole c m n.queues) (link_of c told.parts (flow_of m)) m told
      (made-management c (adjacent_of c o.set) (telling.telling o.status (point_of c o.destination))))

  tell_each-same : (os : List Owed) (n : Node WholeQueues) → Same n (tell_each whole c os n)
  tell_each-same [] n = itself n
  tell_each-same (o ∷ os) n =
      both n (tell_if whole c o n) (tell_each whole c os (tell_if whole c o n))
      (either (may_tell whole c n) n (telling.tell whole c o n) n (tell-same o n) (itself n))
      (tell_each-same os (tell_if whole c o n))

  pub tell_owed-same : (n : Node WholeQueues) → Same n (tell_owed whole c n)
  unfolding tell_owed
  tell_owed-same n = tell_each-same (owed (facts c n.parts) n.parts.told) n

  module _ (link : ℕ) where
    declared-same : (code : Option ℕ) (other : ℕ) (n : Node WholeQueues) → Same n (declare_by whole c code link other n)
    declared-same (Some code) other n =
        let used : Node WholeQueues = with_parts n (code_in_use c (set_of c link) code n.parts) in
        both n used (declare_by whole c (Some code) link other n) (record { held = refl; each = λ l. refl })
        (queued-same other (declaration c link code) used (made-management c (peer_of c link) (ChangebackDeclaration (entry_of c link).slc code)))
    declared-same None other n = record { held = refl; each = λ l. refl }

    hold_flows-same : (before after : Facts) (code : Option ℕ) (other : ℕ) (n : Node WholeQueues) → Same n (hold_flows whole c before after code link other n)
    hold_flows-same before after code other n =
        both n (declare_by whole c code link other n) (hold_flows whole c before after code link other n) (declared-same code other n) (record { held = refl; each = λ l. refl })

    taken_back-same : (before after : Facts) (many : ℕ) (n : Node WholeQueues) → Same n (take_back_each whole c before after link many n)
    unfolding take_back_each
    taken_back-same before after zero n = itself n
    taken_back-same before after (suc other) n =
        let one : Node WholeQueues = take_back_each whole c before after link other n in
        both n one (take_back_each whole c before after link (suc other) n) (taken_back-same before after other n)
        (either (loses_flows c before after other link) one (hold_flows whole c before after (code_for whole c link other one) link other one) one
        (hold_flows-same before after (code_for whole c link other one) other one) (itself one))

    returned-same : (entered : Bool) (before : Facts) (n : Node WholeQueues) → Same n (return_if whole c entered link before n)
    returned-same true before n = taken_back-same before (facts c n.parts) (length c.links) n
    returned-same false before n = itself n

    queue_if-same : (room : Option Cause) (n : Node WholeQueues) → Same n (queue_if whole c room link (link_test c link) n)
    queue_if-same (Some cause) n = itself n
    queue_if-same None n = queued-same link (link_test c link) n (test-management c link)

    send_test-same : (n : Node WholeQueues) → Same n (send_test whole c link n)
    send_test-same n =
        let next : Node WholeQueues = with_parts n (awaiting_test c link n.parts) in
        both n next (send_test whole c link n) (record { held = refl; each = λ l. refl }) (queue_if-same (no_room whole c (link_test c link) n.queues) next)

    test_if-same : (entered : Bool) (n : Node WholeQueues) → Same n (test_if whole c entered link n)
    test_if-same true n = either (tests_links c && in_service n.parts link) n (send_test whole c link n) n (send_test-same n) (itself n)
    test_if-same false n = itself n

    pub advance-same : (step : Transition) (n : Node WholeQueues) → Same n (advance whole c link step n)
    advance-same step n =
        let took : Node WholeQueues = take_step whole c link step n in
        both n took (advance whole c link step n)
        (both n (with_parts n (moved_on c link step n.parts)) took (record { held = refl; each = λ l. refl })
        (returned-same (enters_traffic link step n.parts) (facts c n.parts) (with_parts n (moved_on c link step n.parts))))
        (test_if-same (enters link step n.parts) took)
