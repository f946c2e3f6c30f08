-- What goes out on an association, whatever calls are made: the frames that were taken, in order.
use Rattle.std.specs.Prelude.{◌≡◌, ℕ, List, [], ◌∷◌, ◌++◌, take, drop}
use Rattle.std.specs.List.{concat}
use Rattle.exchange_rules.specs.State.{QueueKind, State}
use Rattle.served_link.specs.Watching.{Sight}
use Rattle.served_link.specs.Connections.{Takes}

-- the calls of an association, as frames go out
pub data Call : Type 0 where
  -- these frames are taken
  Fill : (frames : List (List ℕ)) → Call
  -- this many octets are written
  Write : (count : ℕ) → Call

-- what came of some calls: the frames that were taken, the octets that were written, and those that aren't yet
pub record Sent : Type 0 where
  pub taken : List (List ℕ)
  pub written : List ℕ
  pub pending : List ℕ

abbrev pub after_call : Call → Sent → Sent
after_call (Fill frames) s = record s { taken = s.taken ++ frames; pending = s.pending ++ concat frames }
after_call (Write count) s = record s { written = s.written ++ take count s.pending; pending = drop count s.pending }

abbrev pub after_calls : List Call → Sent → Sent
after_calls [] s = s
after_calls (call ∷ calls) s = after_calls calls (after_call call s)

abbrev pub nothing_sent : Sent
nothing_sent = record { taken = []; written = []; pending = [] }

-- what came of calls of a new association
abbrev pub sent_by : List Call → Sent
sent_by calls = after_calls calls nothing_sent

-- the octets that were written are those of the frames that were taken, one after another, up to those that are left
abbrev pub GoesOutInOrder : Sent → Type 0
GoesOutInOrder s = concat s.taken ≡ s.written ++ s.pending

-- what frames that are taken add to the octets that aren't written: theirs, in order
abbrev pub taken_frames_go_behind : {W Q : Type 0} → (W → Sight → W → Type 0) → QueueKind Q → Type 0
taken_frames_go_behind {W = W} {Q = Q} sees q = (link : ℕ) (pending pending_new : List ℕ) (s s_new : State Q)
    (w w_new : W) (takes : Takes sees q link pending pending_new s s_new w w_new)
    → pending_new ≡ pending ++ concat takes.frames
