-- A node has its indices, and the counts of its queues are in order; each step keeps this.
use Rattle.exchange_rules.proofs.Basics.{List, refl, subst, sym, ℕ, ◌≡◌}
use Rattle.exchange_rules.proofs.Definitions.{sound-accepted, sound-appended, sound-emptied, sound-first, sound-sent_one, IsQueue, Queue, emptied, first_queue, Configuration, Message, counts-after, after_due, ticked, handle_event, carries, Happening, HasAllPlaces, WholeQueues, queue_at, whole, with_queue, AreQueues, Node, run_next, with_timers}
use Rattle.exchange_rules.proofs.Asked.{any}
use Rattle.exchange_rules.proofs.LastingPlaces.{places-steps, timers-keep}
use Rattle.exchange_rules.proofs.Lists.{each-set}
use Rattle.exchange_rules.proofs.SteppingEvents.{handle_event-steps, run_next-steps, tick-steps}
use Rattle.exchange_rules.proofs.Steps.{IsOfSteps}
use Rattle.exchange_rules.proofs.LastingPlaces as kept
use Rattle.exchange_rules.proofs.Rules.{rules-of}

-- what the counts need
pub record Fits (c : Configuration) (n : Node WholeQueues) : Type 0 where
  pub places : HasAllPlaces c n
  pub queues : AreQueues c.window n.queues

-- it stays from one node to another
pub record StaysFit (c : Configuration) (n m : Node WholeQueues) : Type 0 where
  pub stay : Fits c n → Fits c m

module _ (c : Configuration) where
  -- where queues stay
  as-queues : (n m : Node WholeQueues) → m.queues ≡ n.queues → AreQueues c.window n.queues → AreQueues c.window m.queues
  as-queues n m e h = subst (AreQueues c.window) (sym e) h

  -- where Held changes, or one queue
  with-held : (held : List Message) (qs : WholeQueues) → AreQueues c.window qs → AreQueues c.window (record qs { held = held })
  with-held held qs h = record { each = h.each }

  with-one : (link : ℕ) (q : Queue) (qs : WholeQueues) → (IsQueue c.window (queue_at qs link) → IsQueue c.window q) → AreQueues c.window qs → AreQueues c.window (with_queue qs link q)
  with-one link q qs f h = record { each = λ other. each-set (IsQueue c.window) qs.links link other q first_queue h.each (f (h.each link)) }

  parts-fit : (n m : Node WholeQueues) → kept.Keeps c n m → m.queues ≡ n.queues → StaysFit c n m
  parts-fit n m k e = record { stay = λ f. record { places = k.stay f.places; queues = as-queues n m e f.queues } }

  queues-fit : (n m : Node WholeQueues) → kept.Keeps c n m → (AreQueues c.window n.queues → AreQueues c.window m.queues) → StaysFit c n m
  queues-fit n m k e = record { stay = λ f. record { places = k.stay f.places; queues = e f.queues } }

pub fit-steps : (c : Configuration) → IsOfSteps c any any (StaysFit c)
fit-steps c =
    let s : IsOfSteps c any any (kept.Keeps c) = places-steps c in
    record {
      none = λ n. record { stay = λ f. f };
      both = λ n m o e f. record { stay = λ h. f.stay (e.stay h) };
      routed = λ link m n e. queues-fit c n _ (s.routed link m n e) (with-one c link _ n.queues (sound-appended (queue_at n.queues link) m));
      declared = λ link other code n e f. queues-fit c n _ (s.declared link other code n e f) (with-one c other _ n.queues (sound-appended (queue_at n.queues other) _));
      tested = λ link point test n e f. queues-fit c n _ (s.tested link point test n e f) (with-one c link _ n.queues (sound-appended (queue_at n.queues link) _));
      probed = λ link n e. queues-fit c n _ (s.probed link n e) (with-one c link _ n.queues (sound-appended (queue_at n.queues link) _));
      held = λ m n e. queues-fit c n _ (s.held m n e) (with-held c _ n.queues);
      taken_out = λ n. queues-fit c n _ (s.taken_out n) (with-held c _ n.queues);
      noted = λ notice n e. parts-fit c n _ (s.noted notice n e) refl;
      lost = λ n. parts-fit c n _ (s.lost n) refl;
      counted = λ messages broken n. parts-fit c n _ (s.counted messages broken n) refl;
      asked = λ link n e. parts-fit c n _ (s.asked link n e) refl;
      late = λ n. parts-fit c n _ (s.late n) refl;
      timed = λ r n e. parts-fit c n _ (s.timed r n e) refl;
      holding = λ h n e. parts-fit c n _ (s.holding h n e) refl;
      coded = λ set code awaited n. parts-fit c n _ (s.coded set code awaited n) refl;
      rerouted = λ routes n e. parts-fit c n _ (s.rerouted routes n e) refl;
      told = λ t n e. parts-fit c n _ (s.told t n e) refl;
      titled = λ rows n. parts-fit c n _ (s.titled rows n) refl;
      unequipped = λ counts n e. parts-fit c n _ (s.unequipped counts n e) refl;
      failed = λ link why st n e f. parts-fit c n _ (s.failed link why st n e f) refl;
      dropped = λ link why n e. parts-fit c n _ (s.dropped link why n e) refl;
      completed = λ link number st n e f.
          queues-fit c n _ (s.completed link number st n e f)
          (λ h. with-held c _ _ (with-one c link (emptied (queue_at n.queues link)) n.queues (λ q. sound-emptied c.window (queue_at n.queues link) q.limit) h));
      answered = λ link st n e f w. parts-fit c n _ (s.answered link st n e f w) refl;
      linked = λ link x n e o. parts-fit c n _ (s.linked link x n e o) refl;
      parted = λ link n e. parts-fit c n _ (s.parted link n e) refl;
      opened = λ link n own e f g. queues-fit c n _ (s.opened link n own e f g) (with-one c link first_queue n.queues (λ q. sound-first c.window q.limit));
      stepped = λ link input step n own e. parts-fit c n _ (s.stepped link input step n own e) refl;
      passed = λ link n e. parts-fit c n _ (s.passed link n e) refl;
      busied = λ link n own e f. parts-fit c n _ (s.busied link n own e f) refl;
      resumed = λ link n own e f. parts-fit c n _ (s.resumed link n own e f) refl;
      accepted = λ link d confirmed n own e f.
          queues-fit c n _ (s.accepted link d confirmed n own e f)
          (with-one c link _ n.queues (sound-accepted (queue_at n.queues link) d.fsn d.bsn (carries d)));
      sent = λ link next n own e.
          queues-fit c n _ (s.sent link next n own e)
          (with-one c link _ n.queues (sound-sent_one (queue_at n.queues link) c.window));
    }

-- through ticks, too
pub ticked-fit : (c : Configuration) (n : Node WholeQueues) → StaysFit c n (with_timers n (ticked n.parts.timers))
ticked-fit c n = parts-fit c n _ (timers-keep c (ticked n.parts.timers) n refl) refl

pub handed-fit : (c : Configuration) (n : Node WholeQueues) → StaysFit c n (with_timers n (after_due n.parts.timers))
handed-fit c n = parts-fit c n _ (timers-keep c (after_due n.parts.timers) n (counts-after n.parts.timers)) refl

pub next-fit : (c : Configuration) (n : Node WholeQueues) → StaysFit c n (run_next whole c n)
next-fit c n = run_next-steps (rules-of (fit-steps c)) n (handed-fit c n) (λ link. tt)

pub event-fit : (c : Configuration) (what : Happening) (n : Node WholeQueues) → StaysFit c n (handle_event whole c what n).left
event-fit c what n =
    handle_event-steps (rules-of (fit-steps c)) what n (λ link own. tt) (λ link own. tt)
    (λ e. tick-steps (rules-of (fit-steps c)) n (ticked-fit c n) (next-fit c))
