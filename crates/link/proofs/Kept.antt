-- Each operation on what is kept of a queue is what is kept of that operation on the queue.
use Rattle.link.proofs.Basics.{◌≡◌, ℕ, Bool, true, false, ◌+◌, ◌-◌, ◌%◌, ◌^◌, ◌≤◌, ◌++◌, [], ◌∷◌, drop, arith, refl, Option, Some, None, Result, Ok, Err, nat_eq, if◌then◌else◌, sym, ap, ◌∙◌, common_steps, drop-drop, drop-append-le, Message, previous_number, SeqFault, Queue, IsQueue, Sending, newly_confirmed, expected, accept_answer, count_confirmed, after_answer, accepted, to_send, after_sending, sent_one, appended, last_sent, last_accepted, confirmation, unconfirmed, counts_of, kept_newly_confirmed, kept_expected, kept_accept_answer, kept_after_answer, kept_accepted, kept_to_send, kept_after_sending, kept_sent_one, kept_last_sent, kept_last_accepted}
use Rattle.link.proofs.Named.{found_ahead, slice_get-drop}

-- ---- numbers

previous-mod : (n : ℕ) → previous_number (n % 2 ^ 24) ≡ previous_number n
previous-mod n = omega arith

sum-mod : (base confirmed sent : ℕ) → confirmed ≤ sent → ((base + confirmed) % 2 ^ 24 + (sent - confirmed)) % 2 ^ 24 ≡ (base + sent) % 2 ^ 24
sum-mod base confirmed sent h = omega arith

sum-back : (confirmed sent : ℕ) → confirmed ≤ sent → confirmed + (sent - confirmed) ≡ sent
sum-back confirmed sent h = omega arith

previous-sum : (base confirmed sent : ℕ) → confirmed ≤ sent → previous_number ((base + confirmed) % 2 ^ 24 + (sent - confirmed)) ≡ previous_number (base + sent)
previous-sum base confirmed sent h = omega arith

-- ---- what a frame confirms

pub kept-expected : (q : Queue) (carries : Bool) → kept_expected (counts_of q) carries ≡ expected q carries
kept-expected q true = refl
kept-expected q false = previous-mod q.received

pub kept-newly_confirmed : {w : ℕ} (q : Queue) (bsn : ℕ) → IsQueue w q → kept_newly_confirmed (counts_of q) bsn ≡ newly_confirmed q bsn
kept-newly_confirmed q bsn h = sym (found_ahead q.base q.confirmed (q.sent - q.confirmed) bsn (omega (arith, h.window, h.limit)))

pub kept-accept_answer : {w : ℕ} (q : Queue) (fsn bsn : ℕ) (carries : Bool) → IsQueue w q →
    kept_accept_answer (counts_of q) fsn bsn carries ≡ accept_answer q fsn bsn carries
kept-accept_answer q fsn bsn carries h =
    let e = kept-expected q carries in
    let n = kept-newly_confirmed q bsn h in
    ap (λ (x : ℕ). if nat_eq fsn x then confirmation (kept_newly_confirmed (counts_of q) bsn) else Err SeqFault.BadFsn) e
    ∙ ap (λ (x : Option ℕ). if nat_eq fsn (expected q carries) then confirmation x else Err SeqFault.BadFsn) n

counts-after_answer : (q : Queue) (carries : Bool) (r : Result ℕ SeqFault) →
    counts_of (after_answer q carries r) ≡ kept_after_answer (counts_of q) carries r
counts-after_answer q true (Ok count) = grind (arith, common_steps)
counts-after_answer q false (Ok count) = grind (arith, common_steps)
counts-after_answer q carries (Err fault) = refl

pub counts-accepted : {w : ℕ} (q : Queue) (fsn bsn : ℕ) (carries : Bool) → IsQueue w q →
    counts_of (accepted q fsn bsn carries) ≡ kept_accepted (counts_of q) fsn bsn carries
counts-accepted q fsn bsn carries h =
    counts-after_answer q carries (accept_answer q fsn bsn carries)
    ∙ ap (λ (r : Result ℕ SeqFault). kept_after_answer (counts_of q) carries r) (sym (kept-accept_answer q fsn bsn carries h))

unconfirmed-after_answer : (q : Queue) (carries : Bool) (r : Result ℕ SeqFault) →
    unconfirmed (after_answer q carries r) ≡ drop (count_confirmed r) (unconfirmed q)
unconfirmed-after_answer q carries (Ok count) = sym (drop-drop count q.confirmed q.all)
unconfirmed-after_answer q carries (Err fault) = grind (arith, common_steps)

pub unconfirmed-accepted : (q : Queue) (fsn bsn : ℕ) (carries : Bool) →
    unconfirmed (accepted q fsn bsn carries) ≡ drop (count_confirmed (accept_answer q fsn bsn carries)) (unconfirmed q)
unconfirmed-accepted q fsn bsn carries = unconfirmed-after_answer q carries (accept_answer q fsn bsn carries)

-- ---- what goes out

pub kept-to_send : {w : ℕ} (q : Queue) (window : ℕ) → IsQueue w q → kept_to_send (counts_of q) (unconfirmed q) window ≡ to_send q window
kept-to_send q window h =
    rw (sum-mod q.base q.confirmed q.sent h.confirmed, slice_get-drop q.all q.confirmed (q.sent - q.confirmed), sum-back q.confirmed q.sent h.confirmed)

counts-after_sending : {w : ℕ} (q : Queue) (s : Option Sending) → IsQueue w q → counts_of (after_sending q s) ≡ kept_after_sending (counts_of q) s
counts-after_sending q (Some sending) h = grind (arith, common_steps, h.confirmed)
counts-after_sending q None h = refl

pub counts-sent_one : {w : ℕ} (q : Queue) (window : ℕ) → IsQueue w q → counts_of (sent_one q window) ≡ kept_sent_one (counts_of q) (unconfirmed q) window
counts-sent_one q window h =
    counts-after_sending q (to_send q window) h ∙ ap (λ (s : Option Sending). kept_after_sending (counts_of q) s) (sym (kept-to_send q window h))

unconfirmed-after_sending : (q : Queue) (s : Option Sending) → unconfirmed (after_sending q s) ≡ unconfirmed q
unconfirmed-after_sending q (Some sending) = refl
unconfirmed-after_sending q None = refl

pub unconfirmed-sent_one : (q : Queue) (window : ℕ) → unconfirmed (sent_one q window) ≡ unconfirmed q
unconfirmed-sent_one q window = unconfirmed-after_sending q (to_send q window)

-- ---- what is queued, and what is left of a link that failed

pub unconfirmed-appended : {w : ℕ} (q : Queue) (m : Message) → IsQueue w q → unconfirmed (appended q m) ≡ unconfirmed q ++ m ∷ []
unconfirmed-appended q m h = drop-append-le q.confirmed q.all (m ∷ []) (omega (arith, h.confirmed, h.sent))

-- ---- the last numbers

pub kept-last_sent : {w : ℕ} (q : Queue) → IsQueue w q → kept_last_sent (counts_of q) ≡ last_sent q
kept-last_sent q h = previous-sum q.base q.confirmed q.sent h.confirmed

pub kept-last_accepted : (q : Queue) → kept_last_accepted (counts_of q) ≡ last_accepted q
kept-last_accepted q = previous-mod q.received
