-- Each operation leaves a queue a queue.
use Rattle.link.proofs.Basics.{◌≡◌, ℕ, Bool, true, false, ◌-◌, ◌<◌, ◌≤◌, length, nat_lt, nat_le, slice_get, arith, refl, Option, Some, None, Result, Ok, Err, nat_eq, subst, if◌then◌else◌, common_steps, nat_tests, slice_get_within, Message, WINDOW, SeqFault, steps_between, next_number, Queue, IsQueue, confirmation, count_confirmed, forward_number, numbered, first_queue, expected, accept_answer, after_answer, accepted, after_sending, sent_one, appended, emptied}
use Rattle.std.proofs.lemmas.Bool.{ltb-true}
use Rattle.link.proofs.Kept.{kept-newly_confirmed}

pub sound-first : (w : ℕ) → w ≤ WINDOW → IsQueue w first_queue
sound-first w l = record { confirmed = omega arith; sent = omega arith; window = omega arith; limit = l }

pub sound-emptied : (w : ℕ) (q : Queue) → w ≤ WINDOW → IsQueue w (emptied q)
sound-emptied w q l = record { confirmed = omega arith; sent = omega arith; window = omega arith; limit = l }

pub sound-appended : {w : ℕ} (q : Queue) (m : Message) → IsQueue w q → IsQueue w (appended q m)
sound-appended q m h = record { confirmed = h.confirmed; sent = grind (arith, common_steps, h.sent); window = h.window; limit = h.limit }

-- ---- no more is confirmed than was sent and not confirmed

near-within : (d many : ℕ) (fits : Bool) → count_confirmed (if fits then confirmation (if nat_le d many then Some d else None) else Err SeqFault.BadFsn) ≤ many
near-within d many true = grind (arith, common_steps, nat_tests)
near-within d many false = omega arith

pub confirmed-within : {w : ℕ} (q : Queue) (fsn bsn : ℕ) (carries : Bool) → IsQueue w q →
    count_confirmed (accept_answer q fsn bsn carries) ≤ q.sent - q.confirmed
confirmed-within q fsn bsn carries h =
    let P : Option ℕ → Type 0 = λ o. count_confirmed (if nat_eq fsn (expected q carries) then confirmation o else Err SeqFault.BadFsn) ≤ q.sent - q.confirmed in
    subst P (kept-newly_confirmed q bsn h) (near-within (steps_between (forward_number q q.confirmed) (next_number bsn)) (q.sent - q.confirmed) (nat_eq fsn (expected q carries)))

sound-after_answer : {w : ℕ} (q : Queue) (carries : Bool) (r : Result ℕ SeqFault) → IsQueue w q → count_confirmed r ≤ q.sent - q.confirmed →
    IsQueue w (after_answer q carries r)
sound-after_answer q carries (Ok count) h e = record { confirmed = omega (arith, h.confirmed, e); sent = h.sent; window = omega (arith, h.window); limit = h.limit }
sound-after_answer q carries (Err fault) h e = h

pub sound-accepted : {w : ℕ} (q : Queue) (fsn bsn : ℕ) (carries : Bool) → IsQueue w q → IsQueue w (accepted q fsn bsn carries)
sound-accepted q fsn bsn carries h =
    sound-after_answer q carries (accept_answer q fsn bsn carries) h (confirmed-within q fsn bsn carries h)

-- ---- one more is sent within the window

sound-one : {w : ℕ} (q : Queue) (room : Bool) (number : ℕ) (o : Option Message) → IsQueue w q →
    (room ≡ true → q.sent - q.confirmed < w) → ((m : Message) → o ≡ Some m → q.sent < length q.all) →
    IsQueue w (after_sending q (if room then numbered number o else None))
sound-one {w} q true number (Some m) h within inside =
    let n : q.sent - q.confirmed < w = within refl in
    let l : q.sent < length q.all = inside m refl in
    record { confirmed = omega (arith, h.confirmed); sent = omega arith; window = omega (arith, n, h.confirmed); limit = h.limit }
sound-one q true number None h within inside = h
sound-one q false number o h within inside = h

pub sound-sent_one : (q : Queue) (window : ℕ) → IsQueue window q → IsQueue window (sent_one q window)
sound-sent_one q window h =
    sound-one q (nat_lt (q.sent - q.confirmed) window) (forward_number q q.sent) (slice_get q.all q.sent) h
    (ltb-true (q.sent - q.confirmed) window)
    (slice_get_within q.all q.sent)
