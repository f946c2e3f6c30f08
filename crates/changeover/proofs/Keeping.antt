-- What is kept of a queue completes as the queue does.
use Rattle.changeover.proofs.Basics.{◌≡◌, ℕ, ◌+◌, ◌-◌, ◌≤◌, List, drop, refl, ap, ◌∙◌, arith, Option, Some, None, is_some, option_map, drop-drop, Message, Queue, IsQueue, unconfirmed, counts_of, kept-newly_confirmed, users_of, managements_of, accepted_count, behind, in_doubt, kept_accepted_count, kept_behind, kept_in_doubt, kept_completes_alike}
use Rattle.changeover.proofs.Completing.{named-from}

-- how many of the kept messages stand before a count
abbrev pub ahead : Queue → Option ℕ → Option ℕ
ahead q count = option_map (λ n. n - q.confirmed) count

pub counted : {w : ℕ} (q : Queue) (number : Option ℕ) → IsQueue w q → kept_accepted_count (counts_of q) number ≡ ahead q (accepted_count q number)
counted q (Some bsn) h = kept-newly_confirmed q bsn h
counted q None h = refl

some-ahead : (q : Queue) (count : Option ℕ) → is_some (ahead q count) ≡ is_some count
some-ahead q (Some n) = refl
some-ahead q None = refl

-- a number is reasonable for what is kept where it is for the queue
pub counted-some : {w : ℕ} (q : Queue) (number : Option ℕ) → IsQueue w q → is_some (kept_accepted_count (counts_of q) number) ≡ is_some (accepted_count q number)
counted-some q number h = ap is_some (counted q number h) ∙ some-ahead q (accepted_count q number)

dropped : (xs : List Message) (c n : ℕ) → c ≤ n → drop (n - c) (drop c xs) ≡ drop n xs
dropped xs c n h =
    let sum : c + (n - c) ≡ n = omega (arith, h) in
    drop-drop (n - c) c xs ∙ ap (λ (i : ℕ). drop i xs) sum

behind-count : {w : ℕ} (q : Queue) (count : Option ℕ) → IsQueue w q → ((n : ℕ) → count ≡ Some n → q.confirmed ≤ n) →
    kept_behind (counts_of q) (unconfirmed q) (ahead q count) ≡ behind q count
behind-count q (Some n) h from = dropped q.all q.confirmed n (from n refl)
behind-count q None h from = dropped q.all q.confirmed q.sent h.confirmed

doubt-count : (q : Queue) (count : Option ℕ) → kept_in_doubt (counts_of q) (unconfirmed q) (ahead q count) ≡ in_doubt q count
doubt-count q (Some n) = refl
doubt-count q None = refl

pub same-behind : {w : ℕ} (q : Queue) (number : Option ℕ) → IsQueue w q →
    kept_behind (counts_of q) (unconfirmed q) (kept_accepted_count (counts_of q) number) ≡ behind q (accepted_count q number)
same-behind q number h =
    ap (kept_behind (counts_of q) (unconfirmed q)) (counted q number h) ∙ behind-count q (accepted_count q number) h (λ n e. named-from q number n h e)

pub same-doubt : {w : ℕ} (q : Queue) (number : Option ℕ) → IsQueue w q →
    kept_in_doubt (counts_of q) (unconfirmed q) (kept_accepted_count (counts_of q) number) ≡ in_doubt q (accepted_count q number)
same-doubt q number h = ap (kept_in_doubt (counts_of q) (unconfirmed q)) (counted q number h) ∙ doubt-count q (accepted_count q number)

pub alike : kept_completes_alike
alike w k lane q number h =
    let behinds : kept_behind k lane (kept_accepted_count k number) ≡ behind q (accepted_count q number) = rw (h.counts, h.messages) (same-behind q number h.sound) in
    let doubts : kept_in_doubt k lane (kept_accepted_count k number) ≡ in_doubt q (accepted_count q number) = rw (h.counts, h.messages) (same-doubt q number h.sound) in
    (ap users_of behinds, ap managements_of behinds, ap users_of doubts)
