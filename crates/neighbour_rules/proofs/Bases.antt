-- Whatever an exchange is asked, the queue of each link is numbered from 0, and a link that is down with its changeover
-- complete has an empty one.
use Rattle.pair_rules.proofs.Basics.{◌≡◌, ℕ, Bool, true, false, List, [], length, Option, Some, None, Result, Ok, Err, refl, ap, sym, subst, ◌∙◌}
use Rattle.pair_rules.proofs.Definitions.{Configuration, IsWell, Queue, Sending, first_queue, appended, emptied, after_answer, accept_answer, to_send, SeqFault, Node, carries, WholeQueues, queue_at, with_queue, link_at, changeover_of, down, each-set, each-replicate, IsOfSteps}
use Rattle.link.specs.Queue.{accepted, after_sending, sent_one}
use Rattle.exchange_rules.specs.First.{Abstract, first_state}
use Rattle.exchange_rules.specs.LastingLinks.{AreLinksSteady}
use Rattle.exchange_rules.proofs.Asked.{any, all-of, asked-all, IsOfAll}
use Rattle.exchange_rules.proofs.LastingLinks.{links-first, links-stay}
use Rattle.exchange_rules.proofs.LastingPlaces.{places-first}
use Rattle.exchange_rules.proofs.SteadyLinks.{down-idle}
use Rattle.neighbour_rules.proofs.Asked.{IsAsked}

-- each queue is numbered from 0
pub record AreBased (qs : WholeQueues) : Type 0 where
  pub each : (link : ℕ) → (queue_at qs link).base ≡ 0

-- it stays so from one node to another
record StaysBased (n m : Node WholeQueues) : Type 0 where
  stay : AreBased n.queues → AreBased m.queues

-- where no queue changes
same-queues : (n m : Node WholeQueues) → m.queues.links ≡ n.queues.links → StaysBased n m
same-queues n m e = record {
  stay = λ h. record { each = λ link. ap (λ (xs : List Queue). (queue_at (record { held = []; links = xs }) link).base) e ∙ h.each link };
}

-- where one does
one-queue : (link : ℕ) (q : Queue) (n m : Node WholeQueues) → m.queues.links ≡ (with_queue n.queues link q).links → ((queue_at n.queues link).base ≡ 0 → q.base ≡ 0) → StaysBased n m
one-queue link q n m e f = record {
  stay = λ h. record {
    each = λ other.
        ap (λ (xs : List Queue). (queue_at (record { held = []; links = xs }) other).base) e
        ∙ each-set (λ (x : Queue). x.base ≡ 0) n.queues.links link other q first_queue h.each (f (h.each link));
  };
}

answered-base : (q : Queue) (carries : Bool) (answer : Result ℕ SeqFault) → (after_answer q carries answer).base ≡ q.base
answered-base q carries (Ok count) = refl
answered-base q carries (Err fault) = refl

sent-base : (q : Queue) (next : Option Sending) → (after_sending q next).base ≡ q.base
sent-base q (Some next) = refl
sent-base q None = refl

based-steps : (c : Configuration) → IsOfSteps c any any StaysBased
based-steps c = record {
  none = λ n. record { stay = λ h. h };
  both = λ n m o e f. record { stay = λ h. f.stay (e.stay h) };
  routed = λ link m n e. one-queue link (appended (queue_at n.queues link) m) n _ refl (λ b. b);
  declared = λ link other code n e f. one-queue other (appended (queue_at n.queues other) _) n _ refl (λ b. b);
  tested = λ link point test n e f. one-queue link (appended (queue_at n.queues link) _) n _ refl (λ b. b);
  probed = λ link n e. one-queue link (appended (queue_at n.queues link) _) n _ refl (λ b. b);
  held = λ m n e. same-queues n _ refl;
  taken_out = λ n. same-queues n _ refl;
  noted = λ notice n e. same-queues n _ refl;
  lost = λ n. same-queues n _ refl;
  counted = λ messages broken n. same-queues n _ refl;
  asked = λ link n e. same-queues n _ refl;
  late = λ n. same-queues n _ refl;
  timed = λ r n e. same-queues n _ refl;
  holding = λ h n e. same-queues n _ refl;
  coded = λ set code awaited n. same-queues n _ refl;
  rerouted = λ routes n e. same-queues n _ refl;
  told = λ t n e. same-queues n _ refl;
  titled = λ rows n. same-queues n _ refl;
  unequipped = λ counts n e. same-queues n _ refl;
  failed = λ link why st n e f. same-queues n _ refl;
  dropped = λ link why n e. same-queues n _ refl;
  completed = λ link number st n e f. one-queue link (emptied (queue_at n.queues link)) n _ refl (λ b. refl);
  answered = λ link st n e f w. same-queues n _ refl;
  linked = λ link x n e o. same-queues n _ refl;
  parted = λ link n e. same-queues n _ refl;
  opened = λ link n own e f g. one-queue link first_queue n _ refl (λ b. refl);
  stepped = λ link input step n own e. same-queues n _ refl;
  passed = λ link n e. same-queues n _ refl;
  busied = λ link n own e f. same-queues n _ refl;
  resumed = λ link n own e f. same-queues n _ refl;
  accepted = λ link d confirmed n own e f.
      one-queue link (accepted (queue_at n.queues link) d.fsn d.bsn (carries d)) n _ refl
      (λ b. answered-base (queue_at n.queues link) (carries d) (accept_answer (queue_at n.queues link) d.fsn d.bsn (carries d)) ∙ b);
  sent = λ link next n own e.
      one-queue link (sent_one (queue_at n.queues link) c.window) n _ refl
      (λ b. sent-base (queue_at n.queues link) (to_send (queue_at n.queues link) c.window) ∙ b);
}

based-all : (c : Configuration) → IsOfAll c StaysBased
based-all c = all-of (based-steps c) (λ n. same-queues n _ refl) (λ n. same-queues n _ refl)

-- ---- an exchange that was asked some things since it was booted

module _ (c : Configuration) (a : Abstract) (well : IsWell c) (i : IsAsked c a) where
  pub are-based : AreBased a.node.queues
  are-based =
      subst (λ (x : Abstract). AreBased x.node.queues) (sym i.is)
      ((asked-all (based-all c) i.asked (first_state c) refl).stay
      (record { each = λ link. each-replicate (λ (q : Queue). q.base ≡ 0) (length c.links) link first_queue refl }))

  steady : AreLinksSteady c.window a.node
  steady =
      subst (λ (x : Abstract). AreLinksSteady c.window x.node) (sym i.is)
      (links-stay i.asked (first_state c) (places-first c well.link_count.below) (links-first c well.window.below))

  -- a link that is down, of which nothing moves any more, has nothing in its queue
  pub none-queued : (link : ℕ) → down a.node.parts link ≡ true → (changeover_of a.node.parts link).incomplete ≡ false → (queue_at a.node.queues link).all ≡ []
  none-queued link e complete = (steady.each link).moved (down-idle (link_at a.node.parts link).alignment e) complete
