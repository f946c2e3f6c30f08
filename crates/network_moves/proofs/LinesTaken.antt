-- A frame that comes to the near end keeps law (i).
use Rattle.network_moves.proofs.Basics.{◌≡◌, ℕ, Bool, true, false, ◌+◌, ◌≤◌, ◌<◌, List, ◌∷◌, slice_get, sym, subst, arith, Some, Ok}
use Rattle.network_moves.proofs.Definitions.{Message, WINDOW, Queue, IsQueue, first_queue, accept_answer, after_answer, sound-accepted, Frame, EmptyFrame, MessageFrame, LinkEnd, Line, turned, with_frames_left, with_accepted, Carry, Name, Flows, IsEnd, OpenedAlone}
use Rattle.network_moves.proofs.Frames.{carry-below, name-more, carry-rest, name-rest, count-confirmed}
use Rattle.network_moves.proofs.Lines.{IsLine, both, up-first, heard-joined, hearing-there, hearing-back}

pub line-left : (z : Line) (frame : Frame) (rest : List Frame) → z.to_near ≡ frame ∷ rest → z.near.up ≡ false → IsLine z → IsLine (with_frames_left z rest)
line-left z frame rest first down h = record {
  near = h.near;
  far = h.far;
  there = λ e. let f : Flows z = h.there e in
      record { confirmed = f.confirmed; received = f.received; carried = f.carried; named = λ u. both u down };
  back = λ e. let f : Flows (turned z) = h.back e in
      record { confirmed = f.confirmed; received = f.received; carried = λ u. both u down; named = f.named };
  first = λ n. heard-joined z h frame rest first n;
  second = λ n. let o : OpenedAlone (turned z) = h.second n in
      record {
        alone = o.alone;
        far_may = o.far_may;
        far_live = o.far_live;
        far_empty = o.far_empty;
        unserved = o.unserved;
        complete = o.complete;
        unawaited = o.unawaited;
        unheard = o.unheard;
        live = o.live;
        queue = o.queue;
        silent = o.silent;
        untold = o.untold;
        carried = carry-rest frame rest (subst (Carry first_queue 0) first o.carried);
        named = name-rest frame rest (subst (Name 0 0) first o.named);
      };
  moved = λ m. h.moved m;
  moved_back = λ m. h.moved_back m;
}

-- an end of which more has come
pub end-came : (x : LinkEnd) (came : List Message) → IsEnd x → IsEnd (record x { came = came })
end-came x came h = record {
  queue = h.queue;
  base = h.base;
  serving = h.serving;
  incomplete = h.incomplete;
  awaited = h.awaited;
  live_up = h.live_up;
  live_incomplete = h.live_incomplete;
  idle = h.idle;
}

pub queue-accepted : (q : Queue) (fsn bsn : ℕ) (carries : Bool) (count : ℕ) → accept_answer q fsn bsn carries ≡ Ok count → IsQueue WINDOW q →
    IsQueue WINDOW (after_answer q carries (Ok count))
queue-accepted q fsn bsn carries count e h = subst (λ r. IsQueue WINDOW (after_answer q carries r)) e (sound-accepted q fsn bsn carries h)

pub line-taken_empty : (z : Line) (fsn bsn : ℕ) (rest : List Frame) (count : ℕ) (came : List Message) → z.to_near ≡ EmptyFrame fsn bsn ∷ rest → z.near.up ≡ true →
    accept_answer z.near.queue fsn bsn false ≡ Ok count → IsLine z → IsLine (with_accepted z rest false count came)
line-taken_empty z fsn bsn rest count came first up e h =
    let f : Flows z = hearing-there z h (EmptyFrame fsn bsn) rest first up in
    let b : Flows (turned z) = hearing-back z h (EmptyFrame fsn bsn) rest first up in
    let n : Name z.near.queue.confirmed z.far.queue.received (EmptyFrame fsn bsn ∷ rest) = subst (Name z.near.queue.confirmed z.far.queue.received) first (f.named up) in
    let c : Carry z.far.queue z.near.queue.received (EmptyFrame fsn bsn ∷ rest) = subst (Carry z.far.queue z.near.queue.received) first (b.carried up) in
    let is : z.near.queue.confirmed + count ≡ n.0 = count-confirmed z.near.queue fsn n.0 false count h.near.queue h.near.base n.1 (omega (arith, n.2, f.received))
    (subst (λ number. accept_answer z.near.queue fsn number false ≡ Ok count) n.3 e) in
    record {
      near = record { queue = queue-accepted z.near.queue fsn bsn false count e h.near.queue; base = h.near.base; serving = h.near.serving; incomplete = h.near.incomplete; awaited = h.near.awaited; live_up = h.near.live_up; live_incomplete = h.near.live_incomplete; idle = h.near.idle };
      far = end-came z.far came h.far;
      there = λ t. record {
        confirmed = omega (arith, is, n.2);
        received = f.received;
        carried = f.carried;
        named = λ u. subst (λ from. Name from z.far.queue.received rest) (sym is) n.4;
      };
      back = λ t. record { confirmed = b.confirmed; received = b.received; carried = λ u. c.1; named = b.named };
      first = λ n'. heard-joined z h (EmptyFrame fsn bsn) rest first n';
      second = λ n'. up-first z h up n';
      moved = λ m'. h.moved m';
      moved_back = λ m'. h.moved_back m';
    }

pub line-taken_message : (z : Line) (fsn bsn : ℕ) (m : Message) (rest : List Frame) (count : ℕ) (came : List Message) → z.to_near ≡ MessageFrame fsn bsn m ∷ rest →
    z.near.up ≡ true → accept_answer z.near.queue fsn bsn true ≡ Ok count → IsLine z → IsLine (with_accepted z rest true count came)
line-taken_message z fsn bsn m rest count came first up e h =
    let f : Flows z = hearing-there z h (MessageFrame fsn bsn m) rest first up in
    let b : Flows (turned z) = hearing-back z h (MessageFrame fsn bsn m) rest first up in
    let n : Name z.near.queue.confirmed z.far.queue.received (MessageFrame fsn bsn m ∷ rest) = subst (Name z.near.queue.confirmed z.far.queue.received) first (f.named up) in
    let c : Carry z.far.queue z.near.queue.received (MessageFrame fsn bsn m ∷ rest) = subst (Carry z.far.queue z.near.queue.received) first (b.carried up) in
    let is : z.near.queue.confirmed + count ≡ n.0 = count-confirmed z.near.queue fsn n.0 true count h.near.queue h.near.base n.1 (omega (arith, n.2, f.received))
    (subst (λ number. accept_answer z.near.queue fsn number true ≡ Ok count) n.3 e) in
    record {
      near = record { queue = queue-accepted z.near.queue fsn bsn true count e h.near.queue; base = h.near.base; serving = h.near.serving; incomplete = h.near.incomplete; awaited = h.near.awaited; live_up = h.near.live_up; live_incomplete = h.near.live_incomplete; idle = h.near.idle };
      far = end-came z.far came h.far;
      there = λ t. record {
        confirmed = omega (arith, is, n.2);
        received = f.received;
        carried = f.carried;
        named = λ u. subst (λ from. Name from z.far.queue.received rest) (sym is) n.4;
      };
      back = λ t. record {
        confirmed = omega (arith, b.confirmed);
        received = carry-below z.far.queue (z.near.queue.received + 1) rest c.2;
        carried = λ u. c.2;
        named = λ u. name-more z.far.queue.confirmed z.near.queue.received z.to_far (b.named u);
      };
      first = λ n'. heard-joined z h (MessageFrame fsn bsn m) rest first n';
      second = λ n'. up-first z h up n';
      moved = λ m'. h.moved m';
      moved_back = λ m'. h.moved_back m';
    }

-- the message is the first that the near end lacked
pub taken_message-is : (z : Line) (fsn bsn : ℕ) (m : Message) (rest : List Frame) → z.to_near ≡ MessageFrame fsn bsn m ∷ rest →
    z.near.up ≡ true → IsLine z → slice_get z.far.queue.all z.near.queue.received ≡ Some m
taken_message-is z fsn bsn m rest first up h =
    let b : Flows (turned z) = hearing-back z h (MessageFrame fsn bsn m) rest first up in
    let c : Carry z.far.queue z.near.queue.received (MessageFrame fsn bsn m ∷ rest) = subst (Carry z.far.queue z.near.queue.received) first (b.carried up) in
    c.1

-- and the far end sent it
pub taken_message-sent : (z : Line) (fsn bsn : ℕ) (m : Message) (rest : List Frame) → z.to_near ≡ MessageFrame fsn bsn m ∷ rest →
    z.near.up ≡ true → IsLine z → z.near.queue.received < z.far.queue.sent
taken_message-sent z fsn bsn m rest first up h =
    let b : Flows (turned z) = hearing-back z h (MessageFrame fsn bsn m) rest first up in
    let c : Carry z.far.queue z.near.queue.received (MessageFrame fsn bsn m ∷ rest) = subst (Carry z.far.queue z.near.queue.received) first (b.carried up) in
    let l : z.near.queue.received + 1 ≤ z.far.queue.sent = carry-below z.far.queue (z.near.queue.received + 1) rest c.2 in
    omega (arith, l)
