-- A link takes a step of its alignment, hears that its peer is busy and that it isn't, accepts User Data and sends: it
-- stays steady.
use Rattle.exchange_rules.proofs.Basics.{◌≡◌, ◌≤◌, ℕ, ◌-◌, ◌+◌, Bool, true, false, ◌&&◌, not, [], length, nat_lt, nat_eq, Option, Some, Result, Ok, refl, ap, sym, ◌∙◌, arith, if◌then◌else◌, nat_tests, false_from_ne_true as both-ways}
use Rattle.exchange_rules.proofs.Definitions.{Alignment, Input, Go, Transition, action_at, acts_on, Queue, IsQueue, Sending, accept_answer, accepted, after_answer, to_send, sent_one, SeqFault, sound-accepted, sound-sent_one, Link, is_down, is_in_service, stepped, Standing, may_send}
use Rattle.link.specs.declared.action.Action.TheVariants.{Ignored}
use Rattle.link.specs.Queue.{after_sending}
use Rattle.exchange_rules.proofs.Serving.{down-is, each-step}
use Rattle.exchange_rules.proofs.SteadyLinks.{Stands}

-- ---- tests

no-way : (b : Bool) → b ≡ false → b ≡ true → ⊥
no-way b e f = (let no : false ≡ true = sym e ∙ f in cc)

and-false : (b : Bool) → (b && false) ≡ false
and-false true = refl
and-false false = refl

-- nothing that was sent is left where nothing is there
nothing-left : (w : ℕ) (q : Queue) → IsQueue w q → q.all ≡ [] → nat_lt 0 (q.sent - q.confirmed) ≡ false
nothing-left w q h e =
    let none : length q.all ≡ 0 = ap length e in
    let few : q.sent - q.confirmed ≡ 0 = omega (arith, h.sent, none) in
    ap (nat_lt 0) few

some-left : (n : ℕ) → nat_eq n 0 ≡ false → nat_lt 0 n ≡ true
some-left n e = grind (arith, nat_tests, e)

none-left : (n : ℕ) → nat_eq n 0 ≡ true → nat_lt 0 n ≡ false
none-left n e = grind (arith, nat_tests, e)

-- a link in service sends unless its peer is busy
serving-test : (l : Link) (busy b : Bool) → is_in_service l.alignment ≡ true → (is_in_service l.alignment && not busy && b) ≡ (not busy && b)
serving-test l busy b e = ap (λ (serves : Bool). serves && not busy && b) e

-- ---- a step of the alignment

module _ (exact : Bool) (w : ℕ) (l : Link) (s : Standing) (q : Queue) (b : Bool) (h : Stands exact w l s q b) where
  module _ (input : Input) (step : Transition) (e : acts_on l input ≡ Go step) where
    stepping-up : is_down l.alignment ≡ true → ⊥
    stepping-up d =
        let gone : Ignored ≡ Go step = sym (ap (λ (a : Alignment). action_at l.period a input) (down-is l.alignment d)) ∙ e in
        cc

    stepping-complete : s.incomplete ≡ false
    stepping-complete = both-ways s.incomplete (λ i. stepping-up (h.changing i))

    stepping-idle : is_in_service step.state ≡ false → is_in_service l.alignment ≡ false
    stepping-idle f = both-ways (is_in_service l.alignment) (λ g. no-way (is_in_service step.state) f ((each-step l.period l.alignment input step e).stays g))

    stepped-watched : (serves : Bool) → is_in_service l.alignment ≡ serves → exact ≡ true
        → b ≡ (is_in_service step.state && not l.peer_busy && nat_lt 0 (q.sent - q.confirmed))
    stepped-watched true f x =
        h.watched x ∙ ap (λ (serves : Bool). serves && not l.peer_busy && nat_lt 0 (q.sent - q.confirmed)) (f ∙ sym ((each-step l.period l.alignment input step e).stays f))
    stepped-watched false f x =
        h.idle f ∙ sym (ap (λ (some : Bool). may_send (stepped step l) && some) (nothing-left w q h.queue (h.moved f stepping-complete)) ∙ and-false (may_send (stepped step l)))

    pub stands-stepped : Stands exact w (stepped step l) s q b
    stands-stepped = record {
      queue = h.queue;
      associated = λ f. absurd (stepping-up (h.associated f));
      changing = λ f. absurd (stepping-up (h.changing f));
      awaiting = λ f. absurd (stepping-up (h.awaiting f));
      moved = λ f g. h.moved (stepping-idle f) g;
      idle = λ f. h.idle (stepping-idle f);
      watched = stepped-watched (is_in_service l.alignment) refl;
    }

  -- ---- in service

  module _ (e : is_in_service l.alignment ≡ true) where
    -- a link in service that stays there, with another queue
    serving-stands : (busy : Bool) (owed : Bool) (p : Queue) (runs : Bool) → IsQueue w p
        → (exact ≡ true → runs ≡ (not busy && nat_lt 0 (p.sent - p.confirmed))) → Stands exact w (record l { peer_busy = busy; acknowledgement_owed = owed }) s p runs
    serving-stands busy owed p runs k f = record {
      queue = k;
      associated = h.associated;
      changing = h.changing;
      awaiting = h.awaiting;
      moved = λ g i. absurd (no-way (is_in_service l.alignment) g e);
      idle = λ g. absurd (no-way (is_in_service l.alignment) g e);
      watched = λ x. f x ∙ sym (serving-test l busy (nat_lt 0 (p.sent - p.confirmed)) e);
    }

    -- whether L7 runs, by what is left
    pub runs-now : exact ≡ true → b ≡ (not l.peer_busy && nat_lt 0 (q.sent - q.confirmed))
    runs-now x = h.watched x ∙ serving-test l l.peer_busy (nat_lt 0 (q.sent - q.confirmed)) e

    pub stands-busied : Stands exact w (record l { peer_busy = true }) s q false
    stands-busied = serving-stands true l.acknowledgement_owed q false h.queue (λ x. refl)

    -- the peer isn't busy any more: L7 starts where something is left
    resumed-runs : (none : Bool) → nat_eq (q.sent - q.confirmed) 0 ≡ none → l.peer_busy ≡ true → exact ≡ true
        → (if none then b else true) ≡ nat_lt 0 (q.sent - q.confirmed)
    resumed-runs true f busy x =
        runs-now x ∙ ap (λ (is : Bool). not is && nat_lt 0 (q.sent - q.confirmed)) busy ∙ sym (none-left (q.sent - q.confirmed) f)
    resumed-runs false f busy x = sym (some-left (q.sent - q.confirmed) f)

    pub stands-resumed : l.peer_busy ≡ true → Stands exact w (record l { peer_busy = false }) s q (if nat_eq (q.sent - q.confirmed) 0 then b else true)
    stands-resumed busy =
        serving-stands false l.acknowledgement_owed q (if nat_eq (q.sent - q.confirmed) 0 then b else true) h.queue
        (λ x. resumed-runs (nat_eq (q.sent - q.confirmed) 0) refl busy x)

    -- User Data confirms n: L7 stops if nothing is left, and otherwise restarts
    confirmed-runs : (none busy : Bool) (left : ℕ) → nat_eq left 0 ≡ none → b ≡ (not busy && nat_lt 0 (q.sent - q.confirmed))
        → (if none then false else if busy then b else true) ≡ (not busy && nat_lt 0 left)
    confirmed-runs true busy left f r = sym (ap (λ (some : Bool). not busy && some) (none-left left f) ∙ and-false (not busy))
    confirmed-runs false true left f r = r
    confirmed-runs false false left f r = sym (some-left left f)

    accepting-runs : (none : Bool) (count left : ℕ) → nat_eq count 0 ≡ none → left ≡ q.sent - (q.confirmed + count) → exact ≡ true
        → (if none then b else if nat_eq left 0 then false else if l.peer_busy then b else true) ≡ (not l.peer_busy && nat_lt 0 left)
    accepting-runs true count left f g x =
        let same : left ≡ q.sent - q.confirmed = (let zero : count ≡ 0 = grind (arith, nat_tests, f) in omega (arith, zero, g)) in
        runs-now x ∙ ap (λ (n : ℕ). not l.peer_busy && nat_lt 0 n) (sym same)
    accepting-runs false count left f g x = confirmed-runs (nat_eq left 0) l.peer_busy left refl (runs-now x)

    pub stands-accepted : (fsn bsn count left : ℕ) (carries : Bool) → accept_answer q fsn bsn carries ≡ Ok count
        → left ≡ (accepted q fsn bsn carries).sent - (accepted q fsn bsn carries).confirmed
        → Stands exact w l s (accepted q fsn bsn carries) (if nat_eq count 0 then b else if nat_eq left 0 then false else if l.peer_busy then b else true)
    stands-accepted fsn bsn count left carries f g =
        let runs : Bool = if nat_eq count 0 then b else if nat_eq left 0 then false else if l.peer_busy then b else true in
        let now : left ≡ q.sent - (q.confirmed + count) = g ∙ ap (λ (r : Result ℕ SeqFault). (after_answer q carries r).sent - (after_answer q carries r).confirmed) f in
        serving-stands l.peer_busy l.acknowledgement_owed (accepted q fsn bsn carries) runs (sound-accepted q fsn bsn carries h.queue)
        (λ x. accepting-runs (nat_eq count 0) count left refl now x ∙ ap (λ (n : ℕ). not l.peer_busy && nat_lt 0 n) g)

  -- a message goes out, and L7 runs
  not-busy : (serves busy : Bool) → (serves && not busy) ≡ true → busy ≡ false
  not-busy true true e = absurd cc
  not-busy true false e = refl
  not-busy false busy e = absurd cc

  does-serve : (serves busy : Bool) → (serves && not busy) ≡ true → serves ≡ true
  does-serve true busy e = refl
  does-serve false busy e = absurd cc

  pub stands-sent : (next : Sending) → may_send l ≡ true → to_send q w ≡ Some next → Stands exact w (record l { acknowledgement_owed = false }) s (sent_one q w) true
  stands-sent next e f =
      let busy : l.peer_busy ≡ false = not-busy (is_in_service l.alignment) l.peer_busy e in
      let one : (sent_one q w).sent - (sent_one q w).confirmed ≡ q.sent + 1 - q.confirmed =
      ap (λ (o : Option Sending). (after_sending q o).sent - (after_sending q o).confirmed) f in
      let some : nat_lt 0 (q.sent + 1 - q.confirmed) ≡ true =
      some-left (q.sent + 1 - q.confirmed) (let many : 1 ≤ q.sent + 1 - q.confirmed = omega (arith, h.queue.confirmed) in grind (arith, nat_tests, many)) in
      serving-stands (does-serve (is_in_service l.alignment) l.peer_busy e) l.peer_busy false (sent_one q w) true (sound-sent_one q w h.queue)
      (λ x. sym (ap (λ (is : Bool). not is && nat_lt 0 ((sent_one q w).sent - (sent_one q w).confirmed)) busy ∙ ap (nat_lt 0) one ∙ some))
