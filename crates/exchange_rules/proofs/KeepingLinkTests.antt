-- The tests of links, and links that take a step: what is kept of the node that a rule leaves is what the rule leaves
-- of what was kept, and it stays sound. Over any two kinds of queues P and Q of which h keeps one as the other.
use Rattle.exchange_rules.proofs.Basics.{ℕ, Bool, true, false, ◌&&◌, Option, Some, None, refl, ap, ◌∙◌}
use Rattle.exchange_rules.proofs.Definitions.{enters_traffic, is_first_test, pass_test, begun_anew, Message, Configuration, Cause, Handled, Ignored, Transition, LinkTestValue, Node, QueueKind, keep, with_parts, answer, link_at, in_service, facts, enters, moved_on, take_step, test_if, advance, no_room, link_test, tests_links, passes_test, awaiting_test, with_test_failed, test_passed, queue_if, send_test, begin_test, repeat_test, test_unanswered, on_test_answer}
use Rattle.exchange_rules.proofs.Combining.{IsKeeping, KeepsNode, Keeps, changed, answered, parted, either, either_node, behind_node}
use Rattle.exchange_rules.proofs.KeepingMessages.{no_room-kept}
use Rattle.exchange_rules.proofs.KeepingChangeover.{fail-kept, return_if-kept}

module _ {P Q : Type 0} (p : QueueKind P) (q : QueueKind Q) (h : P → Q) (IsFit : P → Type 0) (c : Configuration) (k : IsKeeping p q h IsFit c.window) where
  queue_if-kept : (room : Option Cause) (l : ℕ) (m : Message) (n : Node P) → IsFit n.queues → KeepsNode h IsFit (queue_if q c room l m (keep h n)) (queue_if p c room l m n)
  queue_if-kept (Some cause) l m n f = record { same = refl; fit = f }
  queue_if-kept None l m n f = changed _ _ n.parts (k.appended n.queues l m f)

  send_test-kept : (l : ℕ) (n : Node P) → IsFit n.queues → KeepsNode h IsFit (send_test q c l (keep h n)) (send_test p c l n)
  send_test-kept l n f =
      let next : Node P = with_parts n (awaiting_test c l n.parts) in
      let s : KeepsNode h IsFit (queue_if q c (no_room p c (link_test c l) n.queues) l (link_test c l) (keep h next)) (queue_if p c (no_room p c (link_test c l) n.queues) l (link_test c l) next) =
      queue_if-kept (no_room p c (link_test c l) n.queues) l (link_test c l) next f in
      record { same = ap (λ (r : Option Cause). queue_if q c r l (link_test c l) (keep h next)) (no_room-kept p q h IsFit c k (link_test c l) n.queues) ∙ s.same; fit = s.fit }

  pub begin_test-kept : (l : ℕ) (n : Node P) → IsFit n.queues → KeepsNode h IsFit (begin_test q c l (keep h n)) (begin_test p c l n)
  begin_test-kept l n f = either_node (tests_links c && in_service n.parts l) _ _ (send_test p c l n) n (send_test-kept l n f) (record { same = refl; fit = f })

  repeat_test-kept : (again : Bool) (l : ℕ) (n : Node P) → IsFit n.queues → KeepsNode h IsFit (repeat_test q c again l (keep h n)) (repeat_test p c again l n)
  repeat_test-kept true l n f = fail-kept p q h IsFit c k l _ n f
  repeat_test-kept false l n f = begin_test-kept l (with_parts n (with_test_failed true l n.parts)) f

  pub test_unanswered-kept : (l : ℕ) (n : Node P) → IsFit n.queues → KeepsNode h IsFit (test_unanswered q c l (keep h n)) (test_unanswered p c l n)
  test_unanswered-kept l n f =
      let again : Bool = (link_at n.parts l).test_failed in
      either_node (in_service n.parts l) _ _ (repeat_test p c again l n) n (repeat_test-kept again l n f) (record { same = refl; fit = f })

  pass_test-kept : (l : ℕ) (n : Node P) → IsFit n.queues → KeepsNode h IsFit (pass_test q c l (keep h n)) (pass_test p c l n)
  pass_test-kept l n f =
      return_if-kept p q h IsFit c k (is_first_test l n.parts) l (facts c n.parts) (with_parts n (begun_anew (is_first_test l n.parts) c l n.parts (test_passed c l n.parts))) f

  pub on_test_answer-kept : (l z : ℕ) (v : LinkTestValue) (n : Node P) → IsFit n.queues → Keeps h IsFit (on_test_answer q c l z v (keep h n)) (on_test_answer p c l z v n)
  on_test_answer-kept l z v n f =
      either (passes_test c l z v n.parts) _ _ (answer Handled (pass_test p c l n)) (answer Ignored n)
      (answered Handled _ (pass_test p c l n) (pass_test-kept l n f)) (parted _ n.parts n.queues f)

  -- ---- a link takes a step

  test_if-kept : (entered : Bool) (l : ℕ) (n : Node P) → IsFit n.queues → KeepsNode h IsFit (test_if q c entered l (keep h n)) (test_if p c entered l n)
  test_if-kept true l n f = begin_test-kept l n f
  test_if-kept false l n f = record { same = refl; fit = f }

  pub advance-kept : (l : ℕ) (step : Transition) (n : Node P) → IsFit n.queues → KeepsNode h IsFit (advance q c l step (keep h n)) (advance p c l step n)
  advance-kept l step n f =
      let one : Node P = take_step p c l step n in
      let e : KeepsNode h IsFit (take_step q c l step (keep h n)) one = return_if-kept p q h IsFit c k (enters_traffic l step n.parts) l (facts c n.parts) (with_parts n (moved_on c l step n.parts)) f in
      behind_node (λ (z : Node Q). test_if q c (enters l step n.parts) l z) (test_if p c (enters l step n.parts) l one) _ one e.same (test_if-kept (enters l step n.parts) l one e.fit)
