-- The rules of a changeover go by moves: an order that is heard, an answer, a timer, and orders that go out late.
use Rattle.node_moves.proofs.Basics.{◌≡◌, ℕ, Bool, true, false, not, ◌&&◌, ◌+◌, ◌≤◌, ◌<◌, List, [], ◌∷◌, ◌++◌, length, Option, Some, None, min, refl, ap, sym, subst, ◌∙◌, arith, if◌then◌else◌, get_or-set_same, get_or_past, length-set, slice_index_or, ⊎_elim, cases_lt, is_some}
use Rattle.std.proofs.lemmas.List.{set-set}
use Rattle.node_moves.proofs.Machine.{is_user_message, Shape}
use Rattle.node_moves.proofs.Definitions.{Message, flow_of, is_management, Configuration, IsWell, Node, WholeQueues, Parts, whole, with_parts, answer, queue_at, link_at, links_with, is_link, in_service, down, changeover_of, with_changeover, link_of, no_room, Queue, first_queue, appended, last_accepted, Standing, no_changeover, Link, down_link, is_down}
use Rattle.node_moves.proofs.Reading.{IsShape, says_of, says-managing, order_at, answer_at, across}
use Rattle.node_moves.proofs.Shown.{Books, no_books, naming, marks_of, most, place}
use Rattle.node_moves.proofs.Grown.{Grown, same-grown, both-grown, more-grown}
use Rattle.node_moves.proofs.Going.{Goes, goes-none, goes-both, arrives-here}
use Rattle.node_moves.proofs.Handling.{mid, drops}
use Rattle.node_moves.proofs.Own.{K, Names, named-besides, named-after, both, stays, alike, aside, sends-loose}
use Rattle.node_moves.proofs.Failures.{answer-says, number-fits, orders, order-says}
use Rattle.node_moves.proofs.Failing.{HasParts, gone-parts, by_order-goes, standing-but, standing-is}
use Rattle.node_moves.proofs.Losing.{Leaves, counts-each, concluded-leaves, concluded-lost, concluded-wrong, concluded-grown, grown-if}
use Rattle.node_moves.proofs.Completing.{HasEnded, raised, raised-shows, answer_of, begun-listed, breaks-by-order, breaks-by-answer, ends-bar, completes-by-order, completes-by-answer, completes-by-time, answers-order, ends-wait}
use Rattle.exchange_rules.proofs.Steps.{ways_of}
use Rattle.changeover.specs.Changeover.{is_barred, users_of, managements_of, behind, accepted_count, in_doubt, completed, acknowledged, expired, stays_awaited, with_standing, is_unasked, with_order}
use Rattle.exchange_rules.proofs.Lists.{alike-at}
use Rattle.exchange_rules.specs.ChangingOver.{send_each, conclude, concluded, complete_if, fail_by_order, fail_by_peer, begin_by_peer, make_unavailable, bar, barred, acknowledge_changeover, on_changeover_order, on_changeover_acknowledgement, with_changeover_acknowledged, on_changeover_timer, with_expiry, bars, changeover_acknowledgement, changeover_order, unbarred, is_late, has_way, asking, order_late, lose_each}
unfoldable use Rattle.exchange_rules.specs.ChangingOver.{order_each}
use Rattle.exchange_rules.specs.Conserving.{gone_by_completion, gone_by_expiry, nothing_gone}
use Rattle.exchange_rules.specs.State.{Found, once_more}
use Rattle.exchange_rules.specs.Telling.{send, send_anew}
use Rattle.node_links.specs.NodeLinks.{after_failure, link_in}
use Rattle.signalling_types.specs.declared.cause.Cause.{Cause}
use Rattle.signalling_types.specs.declared.notice.ChangeoverTimer.{ChangeoverTimer}
use Rattle.signalling_types.specs.declared.notice.ChangeoverTimer.TheVariants as which
use Rattle.signalling_types.specs.declared.notice.FailureReason.TheVariants as reasons
use Rattle.signalling_types.specs.declared.outcome.Outcome.TheVariants.{Handled, Ignored}

-- ---- lists of management

abbrev pub AreManaging : List Message → Type 0
AreManaging [] = Unit {0}
AreManaging (m ∷ ms) = (is_management m ≡ true) × AreManaging ms

managing-by : (b : Bool) (m : Message) (ms : List Message) → is_management m ≡ b → AreManaging ms → AreManaging (if b then m ∷ ms else ms)
managing-by true m ms e h = (e, h)
managing-by false m ms e h = h

pub are-managing : (ms : List Message) → AreManaging (managements_of ms)
are-managing [] = tt
are-managing (m ∷ ms) = managing-by (is_management m) m (managements_of ms) refl (are-managing ms)

-- ---- a link that fails is down

module _ (c : Configuration) (link : ℕ) (n : Node WholeQueues) where
  set-down : is_down (link_in (links_with n.parts link (after_failure (link_at n.parts link))) link).alignment ≡ true
  set-down =
      ⊎_elim
      (λ (there : link < length n.parts.links). ap (λ (x : Link). is_down x.alignment) (get_or-set_same n.parts.links link (after_failure (link_at n.parts link)) down_link there))
      (λ (past : length n.parts.links ≤ link).
      ap (λ (x : Link). is_down x.alignment)
      (get_or_past (links_with n.parts link (after_failure (link_at n.parts link))) link down_link (omega (arith, past, length-set n.parts.links link (after_failure (link_at n.parts link))))))
      (cases_lt link (length n.parts.links))

module _ (shape : Shape) (o : IsShape shape) (c : Configuration) (well : IsWell c) (link : ℕ) where
  by-peer : (served : Bool) (n : Node WholeQueues) → (begin_by_peer whole c served link (make_unavailable whole c served link reasons.Changeover n)).parts.links ≡ links_with n.parts link (after_failure (link_at n.parts link))
  by-peer true n = (gone-parts shape o c well link n reasons.Changeover).links
  by-peer false n = refl

  fallen-by : (b : Bool) (n : Node WholeQueues) → down n.parts link ≡ b → down (if b then n else fail_by_peer whole c link n).parts link ≡ true
  fallen-by true n e = e
  fallen-by false n e = ap (λ (xs : List Link). is_down (link_in xs link).alignment) (by-peer (in_service n.parts link) n) ∙ set-down c link n

  pub fallen : (n : Node WholeQueues) → down (fail_by_order whole c link n).parts link ≡ true
  fallen n = fallen-by (down n.parts link) n refl

  -- ---- what is loose goes out

  -- a link accepted as much before a message goes out as after
  sent-number : (room : Option Cause) (to : Option ℕ) (m : Message) (n : Node WholeQueues) → last_accepted (queue_at (send whole c room to m n).queues link) ≡ last_accepted (queue_at n.queues link)
  sent-number (Some cause) to m n = refl
  sent-number None None m n = refl
  sent-number None (Some other) m n = alike-at (λ (q : Queue). last_accepted q) n.queues.links other link (appended (queue_at n.queues other) m) first_queue refl

  each-number : (ms : List Message) (n : Node WholeQueues) → last_accepted (queue_at (send_each whole c ms n).queues link) ≡ last_accepted (queue_at n.queues link)
  each-number [] n = refl
  each-number (m ∷ ms) n = each-number ms (send_anew whole c m n) ∙ sent-number None (link_of c n.parts (flow_of m)) m n

  pub sends-each : (ms : List Message) (n : Node WholeQueues) (a l : List Message) (k : Books) → AreManaging ms → Goes shape c (mid n a (ms ++ l) k) (mid (send_each whole c ms n) a l k)
  sends-each [] n a l k e = goes-none shape c (mid n a l k)
  sends-each (m ∷ ms) n a l k e =
      goes-both shape c _ _ _ (sends-loose shape o c well None (link_of c n.parts (flow_of m)) m n a (ms ++ l) k refl (says-managing m e.0)) (sends-each ms (send_anew whole c m n) a l k e.1)

  -- the answer, with the number that the link had when it was made
  acknowledges : (n m : Node WholeQueues) (a l : List Message) (k : Books) → last_accepted (queue_at m.queues link) ≡ last_accepted (queue_at n.queues link)
      → Goes shape c (mid m a (answer_of shape o c well link n ∷ l) k) (mid (acknowledge_changeover whole c link m) a l k)
  acknowledges n m a l k same =
      subst (λ (number : ℕ). Goes shape c (mid m a (changeover_acknowledgement c link number ∷ l) k) (mid (acknowledge_changeover whole c link m) a l k)) same
      (sends-loose shape o c well (no_room whole c (answer_of shape o c well link m) m.queues) (link_of c m.parts (flow_of (answer_of shape o c well link m))) (answer_of shape o c well link m) m a l k refl
      (ap is_user_message (answer-says c well link (last_accepted (queue_at m.queues link)) (number-fits _))))

  -- ---- a completion by a word

  -- the parts of the node once its changeover counts as complete
  abbrev counted : Node WholeQueues → Standing → Node WholeQueues
  counted n s = with_parts n (with_changeover link s n.parts)

  abbrev done_by : Node WholeQueues → (number : Option ℕ) → Parts → Node WholeQueues
  done_by n number p = record { queues = whole.completed n.queues link number; parts = concluded link (whole.found n.queues link number) p }

  ended-by : (n : Node WholeQueues) (number : Option ℕ) (s : Standing) (p : Parts) → p.links ≡ n.parts.links → p.changeovers ≡ with_standing n.parts.changeovers link s → p.routes ≡ n.parts.routes → s.incomplete ≡ false
      → HasEnded n (done_by n number p) link number s
  ended-by n number s p links changeovers routes complete =
      let l : Leaves p (concluded link (whole.found n.queues link number) p) = concluded-leaves link (whole.found n.queues link number) p in
      record { queues = refl; links = l.links ∙ links; changeovers = l.changeovers ∙ changeovers; routes = l.routes ∙ routes; complete = complete }

  same-lost : (n : Node WholeQueues) (number count : ℕ) (p : Parts) → accepted_count (queue_at n.queues link) (Some number) ≡ Some count → p.messages_lost ≡ n.parts.messages_lost
      → (done_by n (Some number) p).parts.messages_lost ≡ n.parts.messages_lost
  same-lost n number count p found lost =
      concluded-lost link (whole.found n.queues link (Some number)) p
      ∙ ap (λ (x : Option ℕ). (lose_each (users_of (in_doubt (queue_at n.queues link) x)) p).messages_lost) found
      ∙ lost

  -- as many losses are counted at least
  more-lost : (n : Node WholeQueues) (number : Option ℕ) (p : Parts) → p.messages_lost ≡ n.parts.messages_lost → (x : ℕ) → min x most ≤ n.parts.messages_lost → min x most ≤ (done_by n number p).parts.messages_lost
  more-lost n number p same x h =
      let found : Found = whole.found n.queues link number in
      let all : min (length found.lost + x) most ≤ (lose_each found.lost p).messages_lost = counts-each found.lost p x (subst (λ (t : ℕ). min x most ≤ t) (sym same) h) in
      let is : (done_by n number p).parts.messages_lost ≡ (lose_each found.lost p).messages_lost = concluded-lost link found p in
      omega (arith, all, is)

  wrong-so : (n : Node WholeQueues) (number : ℕ) → accepted_count (queue_at n.queues link) (Some number) ≡ None → (whole.found n.queues link (Some number)).is_wrong ≡ true
  wrong-so n number found = ap (λ (x : Option ℕ). not (is_some x) && true) found

  completing-order : (n : Node WholeQueues) (number : ℕ) (word : Message) (a l : List Message) (k : Books) → says_of word ≡ order_at (across (place c link)) number → (changeover_of n.parts link).incomplete ≡ true
      → Goes shape c (mid n (word ∷ a) l k) (mid (conclude whole c (whole.found n.queues link (Some number)) link (Some number) (counted n (completed (changeover_of n.parts link)))) a (answer_of shape o c well link n ∷ l) k)
  completing-order n number word a l k says begun = by (accepted_count (queue_at n.queues link) (Some number)) refl
    where
      s : Standing
      s = completed (changeover_of n.parts link)

      p : Parts
      p = with_changeover link s n.parts

      done : Node WholeQueues
      done = done_by n (Some number) p

      after : Node WholeQueues
      after = conclude whole c (whole.found n.queues link (Some number)) link (Some number) (counted n s)

      rest : Goes shape c (mid done a (managements_of (behind (queue_at n.queues link) (accepted_count (queue_at n.queues link) (Some number))) ++ answer_of shape o c well link n ∷ l) k) (mid after a (answer_of shape o c well link n ∷ l) k)
      rest =
          sends-each (managements_of (behind (queue_at n.queues link) (accepted_count (queue_at n.queues link) (Some number)))) done a (answer_of shape o c well link n ∷ l) k
          (are-managing (behind (queue_at n.queues link) (accepted_count (queue_at n.queues link) (Some number))))

      grows : Grown n.parts.times_broken done.parts.times_broken
      grows = concluded-grown link (whole.found n.queues link (Some number)) p

      by : (x : Option ℕ) → accepted_count (queue_at n.queues link) (Some number) ≡ x → Goes shape c (mid n (word ∷ a) l k) (mid after a (answer_of shape o c well link n ∷ l) k)
      by (Some count) found =
          goes-both shape c _ _ _
          (completes-by-order shape o c well link n done number count s word (ended-by n (Some number) s p refl refl refl refl) found (same-lost n number count p found refl) grows begun a l k says refl)
          rest
      by None found =
          goes-both shape c _ _ _
          (breaks-by-order shape o c well link n done number s word (ended-by n (Some number) s p refl refl refl refl) found (more-lost n (Some number) p refl) grows
          (concluded-wrong link (whole.found n.queues link (Some number)) p (wrong-so n number found)) begun a l k says refl)
          rest

  -- a standing that is complete already
  complete-same : (s : Standing) → s.incomplete ≡ false → completed s ≡ s
  complete-same s e = ap (λ (b : Bool). record { incomplete = b; awaited = s.awaited }) (sym e)

  standing-alike : (n : Node WholeQueues) (s : Standing) → s ≡ changeover_of n.parts link → K shape o c well n (counted n s)
  standing-alike n s e = alike shape o c well n (counted n s) (record {
    held = refl;
    ends = λ other. record {
      queue = refl;
      alignment = refl;
      standing = alike-at (λ (t : Standing). t) n.parts.changeovers link other s no_changeover e;
    };
    sized = λ z. record { links = z.links; queues = z.queues; changeovers = length-set n.parts.changeovers link s ∙ z.changeovers; silent = z.silent; ways = z.ways };
    lost = refl;
    marks = refl;
  })

  -- ---- the other end orders a changeover

  ordered-by : (begun : Bool) (n : Node WholeQueues) (number : ℕ) (word : Message) (a l : List Message) (k : Books) → link < length c.links → says_of word ≡ order_at (across (place c link)) number → down n.parts link ≡ true
      → (changeover_of n.parts link).incomplete ≡ begun
      → Goes shape c (mid n (word ∷ a) l k)
      (mid (acknowledge_changeover whole c link (complete_if whole c begun link (Some number) (counted n (completed (changeover_of n.parts link))))) a l k)
  ordered-by true n number word a l k inside says gone e =
      let s : Standing = completed (changeover_of n.parts link) in
      let found : Found = whole.found n.queues link (Some number) in
      let after : Node WholeQueues = conclude whole c found link (Some number) (counted n s) in
      goes-both shape c _ _ _ (completing-order n number word a l k says e)
      (acknowledges n after a l k
      (each-number found.queued_anew (done_by n (Some number) (with_changeover link s n.parts))
      ∙ emptied-number n number))
    where
      emptied-number : (n : Node WholeQueues) (number : ℕ) → last_accepted (queue_at (whole.completed n.queues link (Some number)) link) ≡ last_accepted (queue_at n.queues link)
      emptied-number n number = alike-at (λ (q : Queue). last_accepted q) n.queues.links link link _ first_queue refl
  ordered-by false n number word a l k inside says gone e =
      let s : Standing = completed (changeover_of n.parts link) in
      goes-both shape c _ _ _ (answers-order shape o c well link n number word a l k inside says gone e)
      (goes-both shape c _ _ _ ((standing-alike n s (complete-same (changeover_of n.parts link) e)).each a (answer_of shape o c well link n ∷ l) k)
      (acknowledges n (counted n s) a l k refl))

  pub order-goes : (n : Node WholeQueues) (number : ℕ) (word : Message) (a l : List Message) (k : Books) → link < length c.links → says_of word ≡ order_at (across (place c link)) number
      → Goes shape c (mid n (word ∷ a) l k) (mid (on_changeover_order whole c link (Some number) n).left a l k)
  order-goes n number word a l k inside says =
      let fell : Node WholeQueues = fail_by_order whole c link n in
      let one : Node WholeQueues = bar whole c link fell in
      goes-both shape c _ _ _ ((by_order-goes shape o c well link n).each (word ∷ a) l k)
      (goes-both shape c _ _ _ ((aside shape o c well fell (barred c link fell.parts) refl refl refl refl).each (word ∷ a) l k)
      (ordered-by (changeover_of one.parts link).incomplete one number word a l k inside says (fallen n) refl))

  -- ---- the other end answers an order

  abbrev answered_parts : Node WholeQueues → Parts
  answered_parts n = with_changeover_acknowledged link n.parts

  completing-answer : (n : Node WholeQueues) (number : ℕ) (word : Message) (a l : List Message) (k : Books) → says_of word ≡ answer_at (across (place c link)) number → (changeover_of n.parts link).awaited ≡ true
      → (changeover_of n.parts link).incomplete ≡ true
      → Goes shape c (mid n (word ∷ a) l k) (mid (conclude whole c (whole.found n.queues link (Some number)) link (Some number) (with_parts n (answered_parts n))) a l k)
  completing-answer n number word a l k says awaited begun = by (accepted_count (queue_at n.queues link) (Some number)) refl
    where
      s : Standing
      s = acknowledged (changeover_of n.parts link)

      done : Node WholeQueues
      done = done_by n (Some number) (answered_parts n)

      after : Node WholeQueues
      after = conclude whole c (whole.found n.queues link (Some number)) link (Some number) (with_parts n (answered_parts n))

      rest : Goes shape c (mid done a (managements_of (behind (queue_at n.queues link) (accepted_count (queue_at n.queues link) (Some number))) ++ l) k) (mid after a l k)
      rest =
          sends-each (managements_of (behind (queue_at n.queues link) (accepted_count (queue_at n.queues link) (Some number)))) done a l k
          (are-managing (behind (queue_at n.queues link) (accepted_count (queue_at n.queues link) (Some number))))

      grows : Grown n.parts.times_broken done.parts.times_broken
      grows = concluded-grown link (whole.found n.queues link (Some number)) (answered_parts n)

      by : (x : Option ℕ) → accepted_count (queue_at n.queues link) (Some number) ≡ x → Goes shape c (mid n (word ∷ a) l k) (mid after a l k)
      by (Some count) found =
          goes-both shape c _ _ _
          (completes-by-answer shape o c well link n done number count s word (ended-by n (Some number) s (answered_parts n) refl refl refl refl) found
          (same-lost n number count (answered_parts n) found refl) grows begun a l k says awaited refl)
          rest
      by None found =
          goes-both shape c _ _ _
          (breaks-by-answer shape o c well link n done number s word (ended-by n (Some number) s (answered_parts n) refl refl refl refl) found (more-lost n (Some number) (answered_parts n) refl) grows
          (concluded-wrong link (whole.found n.queues link (Some number)) (answered_parts n) (wrong-so n number found)) begun a l k says awaited refl)
          rest

  awaited-by : (begun : Bool) (n : Node WholeQueues) (number : ℕ) (word : Message) (a l : List Message) (k : Books) → says_of word ≡ answer_at (across (place c link)) number → (changeover_of n.parts link).awaited ≡ true
      → (changeover_of n.parts link).incomplete ≡ begun → Goes shape c (mid n (word ∷ a) l k) (mid (complete_if whole c begun link (Some number) (with_parts n (answered_parts n))) a l k)
  awaited-by true n number word a l k says awaited e = completing-answer n number word a l k says awaited e
  awaited-by false n number word a l k says awaited e =
      ends-wait shape o c well link n (with_parts n (answered_parts n)) number (acknowledged (changeover_of n.parts link)) word a l k (record { queues = refl; links = refl; changeovers = refl; lost = refl; marks = refl })
      refl refl says awaited e

  heard-by : (awaited : Bool) (n : Node WholeQueues) (number : ℕ) (word : Message) (a l : List Message) (k : Books) → says_of word ≡ answer_at (across (place c link)) number → (changeover_of n.parts link).awaited ≡ awaited
      → Goes shape c (mid n (word ∷ a) l k)
      (mid (if awaited then answer Handled (complete_if whole c (changeover_of n.parts link).incomplete link (Some number) (with_parts n (answered_parts n))) else answer Ignored n).left a l k)
  heard-by true n number word a l k says e = awaited-by (changeover_of n.parts link).incomplete n number word a l k says e refl
  heard-by false n number word a l k says e = drops shape o c well n word a l k

  pub answer-goes : (n : Node WholeQueues) (number : ℕ) (word : Message) (a l : List Message) (k : Books) → says_of word ≡ answer_at (across (place c link)) number
      → Goes shape c (mid n (word ∷ a) l k) (mid (on_changeover_acknowledgement whole c link (Some number) n).left a l k)
  answer-goes n number word a l k says = heard-by (changeover_of n.parts link).awaited n number word a l k says refl

  -- ---- a timer of the changeover runs out

  -- without a number
  timed-out : (n : Node WholeQueues) (s : Standing) (p : Parts) → p.links ≡ n.parts.links → p.changeovers ≡ with_standing n.parts.changeovers link s → p.routes ≡ n.parts.routes → p.messages_lost ≡ n.parts.messages_lost
      → Grown n.parts.times_broken p.times_broken → (changeover_of n.parts link).incomplete ≡ true → s.incomplete ≡ false → s.awaited ≡ (changeover_of n.parts link).awaited
      → Names shape o c well n (conclude whole c (whole.found n.queues link None) link None (with_parts n p)) (whole.found n.queues link None).lost
  timed-out n s p links changeovers routes lost grows begun complete waits = record {
    each = λ a l k. goes-both shape c _ _ _
        (completes-by-time shape o c well link n done s a l k (ended-by n None s p links changeovers routes complete) begun waits counts before)
        (every a l (naming k found.lost));
  }
    where
      found : Found
      found = whole.found n.queues link None

      done : Node WholeQueues
      done = done_by n None p

      before : Grown n.parts.times_broken done.parts.times_broken
      before = both-grown grows (concluded-grown link found p)

      counts : (x : ℕ) → min x most ≤ n.parts.messages_lost → min (length (users_of (in_doubt (queue_at n.queues link) None)) + x) most ≤ done.parts.messages_lost
      counts x h = subst (λ (t : ℕ). min (length found.lost + x) most ≤ t) (sym (concluded-lost link found p)) (counts-each found.lost p x (subst (λ (t : ℕ). min x most ≤ t) (sym lost) h))

      every : (a l : List Message) (k : Books) → Goes shape c (mid done a (managements_of (behind (queue_at n.queues link) None) ++ l) k) (mid (conclude whole c found link None (with_parts n p)) a l k)
      every a l k = sends-each (managements_of (behind (queue_at n.queues link) None)) done a l k (are-managing (behind (queue_at n.queues link) None))

  -- with nothing to complete
  timed-aside : (n : Node WholeQueues) (s : Standing) (p : Parts) → p.links ≡ n.parts.links → p.changeovers ≡ with_standing n.parts.changeovers link s → p.messages_lost ≡ n.parts.messages_lost
      → marks_of p ≡ marks_of n.parts → s ≡ changeover_of n.parts link → K shape o c well n (with_parts n p)
  timed-aside n s p links changeovers lost marks same =
      both shape o c well n (counted n s) _ (standing-alike n s same) (aside shape o c well (counted n s) p links changeovers lost marks)

  abbrev expiring : ChangeoverTimer → Node WholeQueues → Parts
  expiring timer n = with_expiry c timer link (barred c link n.parts)

  first-by : (begun : Bool) (n : Node WholeQueues) → (changeover_of n.parts link).incomplete ≡ begun → Names shape o c well n (complete_if whole c begun link None (with_parts n (expiring which.T1 n))) (gone_by_completion begun link None n.queues).lost
  first-by true n e = timed-out n (completed (changeover_of n.parts link)) (expiring which.T1 n) refl refl refl refl (same-grown refl) e refl refl
  first-by false n e = named-besides shape o c well n _ [] (timed-aside n (completed (changeover_of n.parts link)) (expiring which.T1 n) refl refl refl refl (complete-same (changeover_of n.parts link) e))

  second-complete : (b : Bool) (s : Standing) → (if b then completed s else acknowledged s).incomplete ≡ false
  second-complete true s = refl
  second-complete false s = refl

  -- the node counts that it is broken
  raises : (n : Node WholeQueues) → K shape o c well n (raised n)
  raises n = record {
    each = λ a l k. record {
      grown = more-grown n.parts.times_broken;
      goes = λ p h s. arrives-here shape c p (mid (raised n) a l k) (raised-shows c p n a l k s);
    };
  }

  standing-same : (s t : Standing) → s.incomplete ≡ t.incomplete → s.awaited ≡ t.awaited → s ≡ t
  standing-same s t e f = ap (λ (b : Bool). record { incomplete = b; awaited = s.awaited }) e ∙ ap (λ (b : Bool). record { incomplete = t.incomplete; awaited = b }) f

  -- and awaits no answer any more
  abbrev freed_by : Node WholeQueues → Standing → Node WholeQueues
  freed_by n t = counted (raised n) t

  frees-by : (awaited : Bool) (n : Node WholeQueues) (t : Standing) → (changeover_of n.parts link).awaited ≡ awaited → t.incomplete ≡ (changeover_of n.parts link).incomplete → t.awaited ≡ false → K shape o c well n (freed_by n t)
  frees-by true n t e same ended =
      ends-bar shape o c well link n (freed_by n t) t (record { queues = refl; links = refl; changeovers = refl; lost = refl; marks = refl }) e same ended
  frees-by false n t e same ended =
      both shape o c well n (raised n) (freed_by n t) (raises n) (standing-alike (raised n) t (standing-same t (changeover_of n.parts link) same (ended ∙ sym e)))

  -- a standing that awaits nothing
  unawaited-at : (xs : List Standing) (t : Standing) → t.awaited ≡ false → (slice_index_or (with_standing xs link t) link no_changeover).awaited ≡ false
  unawaited-at xs t ended =
      ⊎_elim
      (λ (there : link < length xs). ap (λ (s : Standing). s.awaited) (get_or-set_same xs link t no_changeover there) ∙ ended)
      (λ (past : length xs ≤ link). ap (λ (s : Standing). s.awaited) (get_or_past (with_standing xs link t) link no_changeover (omega (arith, past, length-set xs link t))))
      (cases_lt link (length xs))

  -- T2 ends the wait, unless the settings bar the link
  abbrev expired_by : Bool → Standing → Standing
  expired_by stays s = if stays then completed s else acknowledged s

  second-by : (begun : Bool) (n : Node WholeQueues) → (changeover_of n.parts link).incomplete ≡ begun → Names shape o c well n (complete_if whole c begun link None (with_parts n (expiring which.T2 n))) (gone_by_completion begun link None n.queues).lost
  second-by true n e = by (stays_awaited (bars c) (changeover_of n.parts link)) refl
    where
      was : Standing
      was = changeover_of n.parts link

      p : Parts
      p = expiring which.T2 n

      s : Standing
      s = expired (bars c) which.T2 was

      complete : s.incomplete ≡ false
      complete = second-complete (stays_awaited (bars c) was) was

      by : (b : Bool) → stays_awaited (bars c) was ≡ b → Names shape o c well n (conclude whole c (whole.found n.queues link None) link None (with_parts n p)) (whole.found n.queues link None).lost
      by true f = timed-out n s p refl refl refl refl (grown-if (not (stays_awaited (bars c) was)) n.parts) e complete (ap (λ (b : Bool). (expired_by b was).awaited) f)
      by false f =
          let t : Standing = record { incomplete = was.incomplete; awaited = false } in
          let free : Node WholeQueues = freed_by n t in
          let ended : Grown free.parts.times_broken p.times_broken =
          same-grown (ap (λ (b : Bool). if not b then once_more n.parts.times_broken else n.parts.times_broken) f) in
          named-after shape o c well n free _ (whole.found n.queues link None).lost (frees-by was.awaited n t refl refl refl)
          (timed-out free s p refl (sym (set-set n.parts.changeovers link t s)) refl refl ended
          (alike-at (λ (u : Standing). u.incomplete) n.parts.changeovers link link t no_changeover refl ∙ e) complete
          (ap (λ (b : Bool). (expired_by b was).awaited) f ∙ sym (unawaited-at n.parts.changeovers t refl)))
  second-by false n e =
      let was : Standing = changeover_of n.parts link in
      let s : Standing = expired (bars c) which.T2 was in
      let f : stays_awaited (bars c) was ≡ false = ap (λ (b : Bool). bars c && b) e ∙ and-false (bars c) in
      let free : Node WholeQueues = freed_by n s in
      named-besides shape o c well n _ []
      (both shape o c well n free _
      (frees-by was.awaited n s refl (second-complete (stays_awaited (bars c) was) was ∙ sym e) (ap (λ (b : Bool). (expired_by b was).awaited) f))
      (aside shape o c well free (expiring which.T2 n) refl refl refl
      (ap (λ (b : Bool). record { broken = if not b then once_more n.parts.times_broken else n.parts.times_broken; ways = ways_of n.parts.routes }) f)))
    where
      and-false : (b : Bool) → (b && false) ≡ false
      and-false true = refl
      and-false false = refl

  expired-by : (timer : ChangeoverTimer) (n : Node WholeQueues) → Names shape o c well n (complete_if whole c (changeover_of n.parts link).incomplete link None (with_parts n (expiring timer n))) (gone_by_completion (changeover_of n.parts link).incomplete link None n.queues).lost
  expired-by which.T1 n = first-by (changeover_of n.parts link).incomplete n refl
  expired-by which.T2 n = second-by (changeover_of n.parts link).incomplete n refl

  pub expiry-goes : (timer : ChangeoverTimer) (n : Node WholeQueues) → Names shape o c well n (on_changeover_timer whole c timer link n) (gone_by_expiry link n).lost
  expiry-goes timer n = by (is_link n.parts link)
    where
      done : Node WholeQueues
      done = complete_if whole c (changeover_of n.parts link).incomplete link None (with_parts n (expiring timer n))

      by : (b : Bool) → Names shape o c well n (if b then done else n) (if b then gone_by_completion (changeover_of n.parts link).incomplete link None n.queues else nothing_gone).lost
      by true = expired-by timer n
      by false = named-besides shape o c well n n [] (stays shape o c well n)

  -- ---- the operator releases the bar: this breaks the node

  barred-so : (s : Standing) → is_barred s ≡ true → (s.incomplete ≡ false) × (s.awaited ≡ true)
  barred-so s e = by s.incomplete s.awaited e
    where
      by : (a b : Bool) → (not a && b) ≡ true → (a ≡ false) × (b ≡ true)
      by true b f = absurd cc
      by false true f = (refl, refl)
      by false false f = absurd cc

  pub unbarred-goes : (n : Node WholeQueues) → is_barred (changeover_of n.parts link) ≡ true → K shape o c well n (with_parts n (unbarred link n.parts))
  unbarred-goes n e =
      let is : ((changeover_of n.parts link).incomplete ≡ false) × ((changeover_of n.parts link).awaited ≡ true) = barred-so (changeover_of n.parts link) e in
      let free : Node WholeQueues = freed_by n (acknowledged (changeover_of n.parts link)) in
      both shape o c well n free _ (frees-by true n (acknowledged (changeover_of n.parts link)) is.1 (sym is.0) refl) (aside shape o c well free (unbarred link n.parts) refl refl refl refl)

  -- ---- an order goes out late

  unasked : (s : Standing) → is_unasked s ≡ true → (s.incomplete ≡ true) × (s.awaited ≡ false)
  unasked s e = by s.incomplete s.awaited e
    where
      by : (a b : Bool) → (a && not b) ≡ true → (a ≡ true) × (b ≡ false)
      by true false f = (refl, refl)
      by true true f = absurd cc
      by false b f = absurd cc

  first-of : (a b : Bool) → (a && b) ≡ true → a ≡ true
  first-of true b e = refl
  first-of false b e = absurd cc

  pub late-goes : (n : Node WholeQueues) → is_late c link n.parts ≡ true → K shape o c well n (order_late whole c link n)
  late-goes n late =
      let s : Standing = changeover_of n.parts link in
      let m : Node WholeQueues = with_parts n (asking c link n.parts) in
      let order : Message = changeover_order c link (last_accepted (queue_at n.queues link)) in
      let is : (s.incomplete ≡ true) × (s.awaited ≡ false) = unasked s (first-of (is_unasked s) (has_way c link n.parts) late) in
      let h : HasParts n m n.parts.links (with_standing n.parts.changeovers link (with_order s)) = record { queues = refl; links = refl; changeovers = refl; lost = refl; marks = refl } in
      record {
        each = λ a l k.
            goes-both shape c _ _ _
            (orders shape o c well n m link a l k (standing-but c n m link (with_order s) h) (λ z. begun-listed c n link z is.0) (λ z inside. record {
              queue = refl;
              alignment = refl;
              incomplete = is.0;
              unawaited = is.1;
              still = ap (λ (t : Standing). t.incomplete) (standing-is c n m link (with_order s) h z inside) ∙ is.0;
              awaited = ap (λ (t : Standing). t.awaited) (standing-is c n m link (with_order s) h z inside);
            }))
            (sends-loose shape o c well (no_room whole c order m.queues) (link_of c m.parts (flow_of order)) order m a l k refl
            (ap is_user_message (order-says c well link (last_accepted (queue_at n.queues link)) (number-fits _))));
      }

  -- ---- what was broken stays so

  complete-grown : (begun : Bool) (number : Option ℕ) (n : Node WholeQueues) → Grown n.parts.times_broken (complete_if whole c begun link number n).parts.times_broken
  complete-grown false number n = same-grown refl
  complete-grown true number n =
      let found : Found = whole.found n.queues link number in
      both-grown (concluded-grown link found n.parts)
      (sends-each found.queued_anew (done_by n number n.parts) [] [] no_books (are-managing (behind (queue_at n.queues link) (accepted_count (queue_at n.queues link) number)))).grown

  pub order-grown : (number : Option ℕ) (n : Node WholeQueues) → Grown n.parts.times_broken (on_changeover_order whole c link number n).left.parts.times_broken
  order-grown number n =
      let fell : Node WholeQueues = fail_by_order whole c link n in
      let one : Node WholeQueues = bar whole c link fell in
      let s : Standing = completed (changeover_of one.parts link) in
      let two : Node WholeQueues = complete_if whole c (changeover_of one.parts link).incomplete link number (counted one s) in
      both-grown ((by_order-goes shape o c well link n).each [] [] no_books).grown
      (both-grown (complete-grown (changeover_of one.parts link).incomplete number (counted one s)) (acknowledges two two [] [] no_books refl).grown)

  answer-by : (awaited : Bool) (number : Option ℕ) (n : Node WholeQueues)
      → Grown n.parts.times_broken (if awaited then answer Handled (complete_if whole c (changeover_of n.parts link).incomplete link number (with_parts n (answered_parts n))) else answer Ignored n).left.parts.times_broken
  answer-by true number n = complete-grown (changeover_of n.parts link).incomplete number (with_parts n (answered_parts n))
  answer-by false number n = same-grown refl

  pub answer-grown : (number : Option ℕ) (n : Node WholeQueues) → Grown n.parts.times_broken (on_changeover_acknowledgement whole c link number n).left.parts.times_broken
  answer-grown number n = answer-by (changeover_of n.parts link).awaited number n
