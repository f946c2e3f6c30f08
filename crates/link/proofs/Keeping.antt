-- If counts and messages are what is kept of a queue, they still are after each operation.
use Rattle.link.proofs.Basics.{◌≡◌, ℕ, Bool, List, drop, sym, Message, Queue, newly_confirmed, accept_answer, count_confirmed, accepted, last_accepted, Counts, kept_newly_confirmed, kept_accept_answer, kept_accepted, kept_last_accepted, Keeps}
use Rattle.link.proofs.Kept.{kept-newly_confirmed, kept-accept_answer, counts-accepted, unconfirmed-accepted, kept-last_accepted}
use Rattle.link.proofs.Sound.{sound-accepted}

-- ---- answers

pub answers-newly_confirmed : {w : ℕ} (k : Counts) (lane : List Message) (q : Queue) (bsn : ℕ) → Keeps w k lane q →
    kept_newly_confirmed k bsn ≡ newly_confirmed q bsn
answers-newly_confirmed k lane q bsn h = rw h.counts (kept-newly_confirmed q bsn h.sound)

pub answers-accept : {w : ℕ} (k : Counts) (lane : List Message) (q : Queue) (fsn bsn : ℕ) (carries : Bool) → Keeps w k lane q →
    kept_accept_answer k fsn bsn carries ≡ accept_answer q fsn bsn carries
answers-accept k lane q fsn bsn carries h = rw h.counts (kept-accept_answer q fsn bsn carries h.sound)

pub answers-last_accepted : {w : ℕ} (k : Counts) (lane : List Message) (q : Queue) → Keeps w k lane q → kept_last_accepted k ≡ last_accepted q
answers-last_accepted k lane q h = rw h.counts (kept-last_accepted q)

-- ---- what is there afterwards

pub keeps-accepted : {w : ℕ} (k : Counts) (lane : List Message) (q : Queue) (fsn bsn : ℕ) (carries : Bool) → Keeps w k lane q →
    Keeps w (kept_accepted k fsn bsn carries) (drop (count_confirmed (kept_accept_answer k fsn bsn carries)) lane) (accepted q fsn bsn carries)
keeps-accepted k lane q fsn bsn carries h = record {
  sound = sound-accepted q fsn bsn carries h.sound;
  counts = rw h.counts (sym (counts-accepted q fsn bsn carries h.sound));
  messages = rw (answers-accept k lane q fsn bsn carries h, h.messages) (sym (unconfirmed-accepted q fsn bsn carries));
}
