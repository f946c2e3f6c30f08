-- A link fails, a changeover goes on, a link returns: what is kept of the node that a rule leaves is what the rule
-- leaves of what was kept, and it stays sound. Over any two kinds of queues P and Q of which h keeps one as the other.
use Rattle.exchange_rules.proofs.Basics.{◌≡◌, ℕ, zero, suc, Bool, true, false, List, Option, Some, None, refl, ap, ◌∙◌, if◌then◌else◌}
use Rattle.exchange_rules.proofs.Definitions.{Message, Configuration, Cause, Handled, Ignored, FailureReason, ChangeoverTimer, completed, Facts, free_code, is_outstanding, Node, Found, QueueKind, keep, with_parts, answer, is_link, down, in_service, facts, set_of, send_routed, suspended, fail_link, without_tests_if_last, changeover_order, changeover_of, with_changeover, is_ordered, changing, make_unavailable, begin, change_over, fail, begin_by_peer, fail_by_peer, concluded, changeover_acknowledgement, with_expiry, with_changeover_acknowledged, send_each, conclude, complete_if, fail_by_order, complete_by_order, acknowledge_changeover, on_changeover_order, on_changeover_acknowledgement, on_changeover_timer, declaration, code_in_use, freed, if_room, procedure_by, loses_flows, with_flows_held, usable, code_for, declare_by, hold_flows, take_back, take_back_each, on_changeback_acknowledgement, return_if, bar, barred, asking, is_late, order_late, order_if_late, order_each, order_all, late_by}
use Rattle.std.specs.Prelude.{nat_eq, length}
use Rattle.signalling_types.specs.declared.notice.FailureReason.TheVariants as reasons
use Rattle.exchange_rules.proofs.Combining.{IsKeeping, KeepsNode, Keeps, changed, answered, parted, parts-kept, either, either_node, behind_node}
use Rattle.exchange_rules.proofs.KeepingMessages.{no_room-kept, send_routed-kept, send_each-kept}
use Rattle.signalling_types.specs.declared.outcome.Outcome.{Outcome}
use Rattle.signalling_types.specs.declared.outcome.Outcome.TheVariants as outcome

module _ {P Q : Type 0} (p : QueueKind P) (q : QueueKind Q) (h : P → Q) (IsFit : P → Type 0) (c : Configuration) (k : IsKeeping p q h IsFit c.window) where
  -- ---- a link fails

  -- a message about a link, with the number of the last one that was accepted there
  about-kept : (about : ℕ → Message) (l : ℕ) (n : Node P) → IsFit n.queues
      → KeepsNode h IsFit (send_routed q c (about (q.last_accepted (h n.queues) l)) (keep h n)) (send_routed p c (about (p.last_accepted n.queues l)) n)
  about-kept about l n f =
      let s : KeepsNode h IsFit (send_routed q c (about (p.last_accepted n.queues l)) (keep h n)) (send_routed p c (about (p.last_accepted n.queues l)) n) =
      send_routed-kept p q h IsFit c k (about (p.last_accepted n.queues l)) n f in
      record { same = ap (λ (a : ℕ). send_routed q c (about a) (keep h n)) (k.last_accepted n.queues l) ∙ s.same; fit = s.fit }

  make_unavailable-kept : (b : Bool) (l : ℕ) (why : FailureReason) (n : Node P) → IsFit n.queues → KeepsNode h IsFit (make_unavailable q c b l why (keep h n)) (make_unavailable p c b l why n)
  make_unavailable-kept true l why n f = record {
    same = ap (λ (ms : List Message). with_parts (keep h n) (without_tests_if_last c l (fail_link l why (suspended c l ms n.parts)))) (k.unconfirmed n.queues l);
    fit = f;
  }
  make_unavailable-kept false l why n f = record { same = refl; fit = f }

  begin-kept : (b : Bool) (l : ℕ) (n : Node P) → IsFit n.queues → KeepsNode h IsFit (begin q c b l (keep h n)) (begin p c b l n)
  begin-kept true l n f = about-kept (changeover_order c l) l (with_parts n (changing c true l n.parts)) f
  begin-kept false l n f = record { same = refl; fit = f }

  change_over-kept : (b : Bool) (l : ℕ) (n : Node P) → IsFit n.queues → KeepsNode h IsFit (change_over q c b l (keep h n)) (change_over p c b l n)
  change_over-kept true l n f = begin-kept (is_ordered c l n.parts) l n f
  change_over-kept false l n f = record { same = refl; fit = f }

  pub fail-kept : (l : ℕ) (why : FailureReason) (n : Node P) → IsFit n.queues → KeepsNode h IsFit (fail q c l why (keep h n)) (fail p c l why n)
  fail-kept l why n f =
      let b : Bool = in_service n.parts l in
      let e : KeepsNode h IsFit (make_unavailable q c b l why (keep h n)) (make_unavailable p c b l why n) = make_unavailable-kept b l why n f in
      behind_node (λ (z : Node Q). change_over q c b l z) (change_over p c b l (make_unavailable p c b l why n)) _ (make_unavailable p c b l why n) e.same
      (change_over-kept b l (make_unavailable p c b l why n) e.fit)

  begin_by_peer-kept : (b : Bool) (l : ℕ) (n : Node P) → IsFit n.queues → KeepsNode h IsFit (begin_by_peer q c b l (keep h n)) (begin_by_peer p c b l n)
  begin_by_peer-kept true l n f = record { same = refl; fit = f }
  begin_by_peer-kept false l n f = record { same = refl; fit = f }

  fail_by_peer-kept : (l : ℕ) (n : Node P) → IsFit n.queues → KeepsNode h IsFit (fail_by_peer q c l (keep h n)) (fail_by_peer p c l n)
  fail_by_peer-kept l n f =
      let b : Bool = in_service n.parts l in
      let e : KeepsNode h IsFit (make_unavailable q c b l reasons.Changeover (keep h n)) (make_unavailable p c b l reasons.Changeover n) = make_unavailable-kept b l reasons.Changeover n f in
      behind_node (λ (z : Node Q). begin_by_peer q c b l z) (begin_by_peer p c b l (make_unavailable p c b l reasons.Changeover n)) _ (make_unavailable p c b l reasons.Changeover n) e.same
      (begin_by_peer-kept b l (make_unavailable p c b l reasons.Changeover n) e.fit)

  -- ---- a changeover goes on

  concluding-kept : (found : Found) (l : ℕ) (number : Option ℕ) (n : Node P) → IsFit n.queues
      → KeepsNode h IsFit (conclude q c found l number (keep h n)) (conclude p c found l number n)
  concluding-kept found l number n f =
      let m : Node P = record { queues = p.completed n.queues l number; parts = concluded l found n.parts } in
      let e : KeepsNode h IsFit (record { queues = q.completed (h n.queues) l number; parts = concluded l found n.parts }) m =
      changed _ _ (concluded l found n.parts) (k.completed n.queues l number f) in
      behind_node (λ (z : Node Q). send_each q c found.queued_anew z) (send_each p c found.queued_anew m) _ m e.same (send_each-kept p q h IsFit c k found.queued_anew m e.fit)

  conclude-kept : (l : ℕ) (number : Option ℕ) (n : Node P) → IsFit n.queues
      → KeepsNode h IsFit (conclude q c (q.found (h n.queues) l number) l number (keep h n)) (conclude p c (p.found n.queues l number) l number n)
  conclude-kept l number n f =
      let s : KeepsNode h IsFit (conclude q c (p.found n.queues l number) l number (keep h n)) (conclude p c (p.found n.queues l number) l number n) =
      concluding-kept (p.found n.queues l number) l number n f in
      record { same = ap (λ (x : Found). conclude q c x l number (keep h n)) (k.found n.queues l number f) ∙ s.same; fit = s.fit }

  complete_if-kept : (b : Bool) (l : ℕ) (number : Option ℕ) (n : Node P) → IsFit n.queues → KeepsNode h IsFit (complete_if q c b l number (keep h n)) (complete_if p c b l number n)
  complete_if-kept true l number n f = conclude-kept l number n f
  complete_if-kept false l number n f = record { same = refl; fit = f }

  fail_by_order-kept : (l : ℕ) (n : Node P) → IsFit n.queues → KeepsNode h IsFit (fail_by_order q c l (keep h n)) (fail_by_order p c l n)
  fail_by_order-kept l n f = either_node (down n.parts l) _ _ n (fail_by_peer p c l n) (record { same = refl; fit = f }) (fail_by_peer-kept l n f)

  complete_by_order-kept : (l : ℕ) (number : Option ℕ) (n : Node P) → IsFit n.queues
      → KeepsNode h IsFit (complete_by_order q c l number (keep h n)) (complete_by_order p c l number n)
  complete_by_order-kept l number n f =
      complete_if-kept (changeover_of n.parts l).incomplete l number (with_parts n (with_changeover l (completed (changeover_of n.parts l)) n.parts)) f

  pub on_changeover_order-kept : (l : ℕ) (number : Option ℕ) (n : Node P) → IsFit n.queues → Keeps h IsFit (on_changeover_order q c l number (keep h n)) (on_changeover_order p c l number n)
  on_changeover_order-kept l number n f =
      let one : Node P = bar p c l (fail_by_order p c l n) in
      let two : Node P = complete_by_order p c l number one in
      let e : KeepsNode h IsFit (bar q c l (fail_by_order q c l (keep h n))) one = parts-kept (barred c l) _ _ (fail_by_order-kept l n f) in
      let g : KeepsNode h IsFit (complete_by_order q c l number (bar q c l (fail_by_order q c l (keep h n)))) two =
      behind_node (λ (z : Node Q). complete_by_order q c l number z) two _ one e.same (complete_by_order-kept l number one e.fit) in
      answered _ _ _ (behind_node (λ (z : Node Q). acknowledge_changeover q c l z) (acknowledge_changeover p c l two) _ two g.same (about-kept (changeover_acknowledgement c l) l two g.fit))

  pub on_changeover_acknowledgement-kept : (l : ℕ) (number : Option ℕ) (n : Node P) → IsFit n.queues → Keeps h IsFit (on_changeover_acknowledgement q c l number (keep h n)) (on_changeover_acknowledgement p c l number n)
  on_changeover_acknowledgement-kept l number n f =
      let one : Node P = complete_if p c (changeover_of n.parts l).incomplete l number (with_parts n (with_changeover_acknowledged l n.parts)) in
      either (changeover_of n.parts l).awaited _ _ (answer Handled one) (answer Ignored n)
      (answered _ _ _ (complete_if-kept (changeover_of n.parts l).incomplete l number (with_parts n (with_changeover_acknowledged l n.parts)) f)) (parted _ n.parts n.queues f)

  pub on_changeover_timer-kept : (t : ChangeoverTimer) (l : ℕ) (n : Node P) → IsFit n.queues → KeepsNode h IsFit (on_changeover_timer q c t l (keep h n)) (on_changeover_timer p c t l n)
  on_changeover_timer-kept t l n f =
      let ran : Node P = with_parts n (with_expiry c t l (barred c l n.parts)) in
      let one : Node P = complete_if p c (changeover_of n.parts l).incomplete l None ran in
      either_node (is_link n.parts l) _ _ one n
      (complete_if-kept (changeover_of n.parts l).incomplete l None ran f) (record { same = refl; fit = f })

  -- ---- orders go out late

  order_late-kept : (l : ℕ) (n : Node P) → IsFit n.queues → KeepsNode h IsFit (order_late q c l (keep h n)) (order_late p c l n)
  order_late-kept l n f = about-kept (changeover_order c l) l (with_parts n (asking c l n.parts)) f

  order_if_late-kept : (l : ℕ) (n : Node P) → IsFit n.queues → KeepsNode h IsFit (order_if_late q c l (keep h n)) (order_if_late p c l n)
  order_if_late-kept l n f = either_node (is_late c l n.parts) _ _ (order_late p c l n) n (order_late-kept l n f) (record { same = refl; fit = f })

  order_each-kept : (many : ℕ) (n : Node P) → IsFit n.queues → KeepsNode h IsFit (order_each q c many (keep h n)) (order_each p c many n)
  unfolding order_each
  order_each-kept zero n f = record { same = refl; fit = f }
  order_each-kept (suc l) n f =
      let one : Node P = order_each p c l n in
      let e : KeepsNode h IsFit (order_each q c l (keep h n)) one = order_each-kept l n f in
      behind_node (λ (z : Node Q). order_if_late q c l z) (order_if_late p c l one) _ one e.same (order_if_late-kept l one e.fit)

  order_all-kept : (n : Node P) → IsFit n.queues → KeepsNode h IsFit (order_all q c (keep h n)) (order_all p c n)
  order_all-kept n f =
      either_node c.changeover_by_any_route _ _ (order_each p c (length c.links) n) n (order_each-kept (length c.links) n f) (record { same = refl; fit = f })

  pub late_by-kept : (o : Outcome) (n : Node P) → IsFit n.queues → KeepsNode h IsFit (late_by q c o (keep h n)) (late_by p c o n)
  late_by-kept (outcome.Refused cause) n f = record { same = refl; fit = f }
  late_by-kept (outcome.Queued link) n f = order_all-kept n f
  late_by-kept outcome.Held n f = order_all-kept n f
  late_by-kept outcome.Local n f = order_all-kept n f
  late_by-kept outcome.Handled n f = order_all-kept n f
  late_by-kept outcome.Ignored n f = order_all-kept n f

  -- ---- a link returns

  usable-kept : (l : ℕ) (code : Option ℕ) (n : Node P) → usable q c l code (keep h n) ≡ usable p c l code n
  usable-kept l (Some code) n = ap (λ (r : Option Cause). if_room r code) (no_room-kept p q h IsFit c k (declaration c l code) n.queues)
  usable-kept l None n = refl

  code_for-kept : (l other : ℕ) (n : Node P) → code_for q c l other (keep h n) ≡ code_for p c l other n
  code_for-kept l other n =
      ap (λ (code : Option ℕ). if nat_eq (set_of c other) (set_of c l) then code else None) (usable-kept l (free_code n.parts.codes (set_of c l)) n)

  declare_by-kept : (code : Option ℕ) (l other : ℕ) (n : Node P) → IsFit n.queues → KeepsNode h IsFit (declare_by q c code l other (keep h n)) (declare_by p c code l other n)
  declare_by-kept (Some code) l other n f =
      changed _ _ (code_in_use c (set_of c l) code n.parts) (k.appended n.queues other (declaration c l code) f)
  declare_by-kept None l other n f = record { same = refl; fit = f }

  hold_flows-kept : (before after : Facts) (code : Option ℕ) (l other : ℕ) (n : Node P) → IsFit n.queues
      → KeepsNode h IsFit (hold_flows q c before after code l other (keep h n)) (hold_flows p c before after code l other n)
  hold_flows-kept before after code l other n f =
      parts-kept (with_flows_held before after other l (procedure_by c l code)) (declare_by q c code l other (keep h n)) (declare_by p c code l other n) (declare_by-kept code l other n f)

  take_back-kept : (before after : Facts) (l other : ℕ) (n : Node P) → IsFit n.queues → KeepsNode h IsFit (take_back q c before after l other (keep h n)) (take_back p c before after l other n)
  take_back-kept before after l other n f =
      let one : Node P = hold_flows p c before after (code_for p c l other n) l other n in
      let e : KeepsNode h IsFit (hold_flows q c before after (code_for p c l other n) l other (keep h n)) one = hold_flows-kept before after (code_for p c l other n) l other n f in
      either_node (loses_flows c before after other l) _ _ one n
      (record { same = ap (λ (code : Option ℕ). hold_flows q c before after code l other (keep h n)) (code_for-kept l other n) ∙ e.same; fit = e.fit })
      (record { same = refl; fit = f })

  take_back_each-kept : (before after : Facts) (l many : ℕ) (n : Node P) → IsFit n.queues
      → KeepsNode h IsFit (take_back_each q c before after l many (keep h n)) (take_back_each p c before after l many n)
  unfolding take_back_each
  take_back_each-kept before after l zero n f = record { same = refl; fit = f }
  take_back_each-kept before after l (suc other) n f =
      let one : Node P = take_back_each p c before after l other n in
      let e : KeepsNode h IsFit (take_back_each q c before after l other (keep h n)) one = take_back_each-kept before after l other n f in
      behind_node (λ (z : Node Q). take_back q c before after l other z) (take_back p c before after l other one) _ one e.same (take_back-kept before after l other one e.fit)

  pub return_if-kept : (b : Bool) (l : ℕ) (before : Facts) (n : Node P) → IsFit n.queues → KeepsNode h IsFit (return_if q c b l before (keep h n)) (return_if p c b l before n)
  return_if-kept true l before n f = take_back_each-kept before (facts c n.parts) l (length c.links) n f
  return_if-kept false l before n f = record { same = refl; fit = f }

  pub on_changeback_acknowledgement-kept : (set : Option ℕ) (code : ℕ) (n : Node P) → IsFit n.queues → Keeps h IsFit (on_changeback_acknowledgement q c set code (keep h n)) (on_changeback_acknowledgement p c set code n)
  on_changeback_acknowledgement-kept (Some set) code n f =
      either (is_outstanding n.parts.codes set code) _ _ (answer Handled (with_parts n (freed set code n.parts))) (answer Ignored n)
      (parted _ (freed set code n.parts) n.queues f) (parted _ n.parts n.queues f)
  on_changeback_acknowledgement-kept None code n f = parted _ n.parts n.queues f
