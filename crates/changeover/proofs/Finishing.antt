-- Dropping what the changeover is done with, and then splicing the rest, completes as the whole queue does.
use Rattle.changeover.proofs.Basics.{◌≡◌, ◌≢◌, ℕ, Bool, ◌<◌, List, ◌++◌, length, drop, refl, ap, ◌∙◌, Option, Some, None, Message, lane_at, Queue, Counts, counts_of, Keeps, answers-last_accepted, users_of, managements_of, accepted_count, doubted, held_after, queued_anew, begins_with, beginning, kept_beginning, kept_accepted_count, kept_behind, kept_done, kept_done_with, kept_doubted, spliced}
use Rattle.changeover.proofs.Keeping.{ahead, alike, counted}
use Rattle.changeover.proofs.Splicing.{splices}

pub behind-done : (k : Counts) (lane : List Message) (count : Option ℕ) → drop (kept_done k count) lane ≡ kept_behind k lane count
behind-done k lane (Some count) = refl
behind-done k lane None = refl

pub held-completed : (w : ℕ) (lists : List (List Message)) (lane held : ℕ) (k : Counts) (q : Queue) (number : Option ℕ) →
    lane < length lists → held < length lists → lane ≢ held → Keeps w k (lane_at lists lane) q →
    lane_at (spliced lists lane (kept_done_with k number) held) held ≡ held_after q number (lane_at lists held)
held-completed w lists lane held k q number inside target apart h =
    (splices lists lane (kept_done_with k number) held inside target apart).0
    ∙ ap (λ (ms : List Message). users_of ms ++ lane_at lists held) (behind-done k (lane_at lists lane) (kept_accepted_count k number))
    ∙ ap (λ (ms : List Message). ms ++ lane_at lists held) (alike w k (lane_at lists lane) q number h).0

pub anew-completed : (w : ℕ) (lists : List (List Message)) (lane held : ℕ) (k : Counts) (q : Queue) (number : Option ℕ) →
    lane < length lists → held < length lists → lane ≢ held → Keeps w k (lane_at lists lane) q →
    lane_at (spliced lists lane (kept_done_with k number) held) lane ≡ queued_anew q number
anew-completed w lists lane held k q number inside target apart h =
    (splices lists lane (kept_done_with k number) held inside target apart).1
    ∙ ap managements_of (behind-done k (lane_at lists lane) (kept_accepted_count k number))
    ∙ (alike w k (lane_at lists lane) q number h).1

doubted-ahead : (q : Queue) (count : Option ℕ) → kept_doubted (counts_of q) (ahead q count) ≡ doubted q count
doubted-ahead q (Some n) = refl
doubted-ahead q None = refl

pub doubted-alike : (w : ℕ) (k : Counts) (lane : List Message) (q : Queue) (number : Option ℕ) → Keeps w k lane q →
    kept_doubted k (kept_accepted_count k number) ≡ doubted q (accepted_count q number)
doubted-alike w k lane q number h =
    rw h.counts (ap (kept_doubted (counts_of q)) (counted q number h.sound) ∙ doubted-ahead q (accepted_count q number))

pub beginning-alike : (w : ℕ) (ordered : Bool) (k : Counts) (lane : List Message) (q : Queue) → Keeps w k lane q →
    kept_beginning ordered k ≡ beginning ordered q
beginning-alike w ordered k lane q h = ap (begins_with ordered) (answers-last_accepted k lane q h)
