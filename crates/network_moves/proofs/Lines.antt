-- A line whose ends and frames agree with law (i), and what the near end's messages and frames keep
-- of it.
use Rattle.network_moves.proofs.Basics.{◌≡◌, ℕ, suc, Bool, true, false, not, ◌+◌, ◌-◌, ◌≤◌, ◌<◌, ◌||◌, ◌&&◌, List, [], ◌∷◌, ◌++◌, length, slice_get, nat_lt, refl, sym, ◌∙◌, subst, arith, Option, Some, None, if◌then◌else◌, nat_tests}
use Rattle.network_moves.proofs.Definitions.{Message, WINDOW, Queue, IsQueue, Sending, first_queue, forward_number, numbered, to_send, after_sending, last_sent, last_accepted, sound-appended, Frame, EmptyFrame, MessageFrame, Line, turned, with_message, with_status, with_statuses_left, with_frame, with_sent, with_heard, Carry, Name, Flows, IsFlowing, OpenedAlone, OpensAlone, MovesAlone, IsEnd}
use Rattle.std.proofs.lemmas.Option.{slice_get_within}
use Rattle.network_moves.proofs.Frames.{carry-appended, carry-empty, carry-message, name-empty, name-message}

pub record IsLine (z : Line) : Type 0 where
  pub near : IsEnd z.near
  pub far : IsEnd z.far
  pub there : IsFlowing z
  pub back : IsFlowing (turned z)
  pub first : OpensAlone z
  pub second : OpensAlone (turned z)
  pub moved : MovesAlone z
  pub moved_back : MovesAlone (turned z)

pub line-turned : (z : Line) → IsLine z → IsLine (turned z)
line-turned z h = record { near = h.far; far = h.near; there = h.back; back = h.there; first = h.second; second = h.first; moved = h.moved_back; moved_back = h.moved }

-- ---- tests

pub false_is_true : {A : Type 0} → false ≡ true → A
false_is_true e = absurd cc

pub true_is_false : {A : Type 0} → true ≡ false → A
true_is_false e = absurd cc

pub both : {A : Type 0} {b : Bool} → b ≡ true → b ≡ false → A
both t f = true_is_false (sym t ∙ f)

pub or-first : (a b c : Bool) → a ≡ true → (a || b || c) ≡ true
or-first true b c e = refl
or-first false b c e = false_is_true e

pub or-second : (a b c : Bool) → b ≡ true → (a || b || c) ≡ true
or-second true b c e = refl
or-second false true c e = refl
or-second false false c e = false_is_true e

pub or-third : (a b c : Bool) → c ≡ true → (a || b || c) ≡ true
or-third true b c e = refl
or-third false true c e = refl
or-third false false c e = e

pub none-of : {A : Type 0} (a b c : Bool) → a ≡ false → b ≡ false → c ≡ false → (a || b || c) ≡ true → A
none-of true b c ea eb ec e = true_is_false ea
none-of false true c ea eb ec e = true_is_false eb
none-of false false c ea eb ec e = both e ec

pub none-first : (a b c : Bool) → (a || b || c) ≡ false → a ≡ false
none-first true b c e = e
none-first false b c e = refl

pub none-second : (a b c : Bool) → (a || b || c) ≡ false → b ≡ false
none-second true b c e = true_is_false e
none-second false true c e = e
none-second false false c e = refl

pub none-of_two : (a b : Bool) → a ≡ false → b ≡ false → (a || b) ≡ false
none-of_two true b e f = e
none-of_two false b e f = f

-- a flag that would make another true, or another false
pub not-without : (b : Bool) {up : Bool} → (b ≡ true → up ≡ true) → up ≡ false → b ≡ false
not-without true f down = both (f refl) down
not-without false f down = refl

pub not-beside : (b : Bool) {up : Bool} → (b ≡ true → up ≡ false) → up ≡ true → b ≡ false
not-beside true f up = both up (f refl)
not-beside false f up = refl

pub busy : {A : Type 0} (a b : Bool) → a ≡ true → (a || b) ≡ false → A
busy true b s e = true_is_false e
busy false b s e = false_is_true s

-- ---- which end may follow

-- where none may, and an end is in use
pub used-by : (near far used : Bool) → near ≡ false → far ≡ false → used ≡ true → (not (near || far) && used) ≡ true
used-by true far used n f u = true_is_false n
used-by false true used n f u = true_is_false f
used-by false false used n f u = u

pub none-may : (near far used : Bool) → (not (near || far) && used) ≡ true → (near ≡ false) × (far ≡ false)
none-may true far used e = false_is_true e
none-may false true used e = false_is_true e
none-may false false used e = (refl, refl)

pub unless-true : (b : Bool) → (b ≡ true → false ≡ true) → b ≡ false
unless-true true f = sym (f refl)
unless-true false f = refl

no-status : {A : Type 0} (told rest : ℕ) → told ≡ suc rest → told ≡ 0 → A
no-status told rest e f = (let no : suc rest ≡ 0 = sym e ∙ f in absurd (omega (arith, no)))

no-frame : {A : Type 0} (frames : List Frame) (frame : Frame) (rest : List Frame) → frames ≡ frame ∷ rest → frames ≡ [] → A
no-frame frames frame rest e f = (let no : frame ∷ rest ≡ [] = sym e ∙ f in absurd cc)

module _ {A : Type 0} (z : Line) (h : IsLine z) where
  -- an end that is up doesn't follow
  pub up-first : z.near.up ≡ true → z.near_may_follow ≡ true → A
  up-first up m = both up (h.second m).far_may.down

  -- one that serves didn't open alone, nor one whose changeover isn't complete
  pub serving-joined : z.near.serving ≡ true → z.far_may_follow ≡ true → A
  serving-joined serving m = both serving (h.first m).unserved

  pub incomplete-joined : z.near.incomplete ≡ true → z.far_may_follow ≡ true → A
  incomplete-joined incomplete m = both incomplete (h.first m).complete

  pub incomplete-first : z.near.incomplete ≡ true → z.near_may_follow ≡ true → A
  incomplete-first incomplete m = both incomplete (h.second m).far_may.complete

  -- nothing comes to an end that opened alone
  pub heard-joined : (frame : Frame) (rest : List Frame) → z.to_near ≡ frame ∷ rest → z.far_may_follow ≡ true → A
  heard-joined frame rest e m = no-frame z.to_near frame rest e (h.first m).silent

  pub told-joined : (rest : ℕ) → z.told_near ≡ suc rest → z.far_may_follow ≡ true → A
  told-joined rest e m = no-status z.told_near rest e (h.first m).untold

module _ (z : Line) (h : IsLine z) where
  pub serving-flows : z.near.serving ≡ true → Flows z
  serving-flows serving =
      let up : z.near.up ≡ true = h.near.serving serving in
      h.there (used-by z.near_may_follow z.far_may_follow (z.near.up || z.near.incomplete || z.far.up)
      (unless-true z.near_may_follow (up-first z h up)) (unless-true z.far_may_follow (serving-joined z h serving)) (or-first z.near.up z.near.incomplete z.far.up up))

  module _ (frame : Frame) (rest : List Frame) (first : z.to_near ≡ frame ∷ rest) (up : z.near.up ≡ true) where
    pub hearing-there : Flows z
    hearing-there =
        h.there (used-by z.near_may_follow z.far_may_follow (z.near.up || z.near.incomplete || z.far.up)
        (unless-true z.near_may_follow (up-first z h up)) (unless-true z.far_may_follow (heard-joined z h frame rest first)) (or-first z.near.up z.near.incomplete z.far.up up))

    pub hearing-back : Flows (turned z)
    hearing-back =
        h.back (used-by z.far_may_follow z.near_may_follow (z.far.up || z.far.incomplete || z.near.up)
        (unless-true z.far_may_follow (heard-joined z h frame rest first)) (unless-true z.near_may_follow (up-first z h up)) (or-third z.far.up z.far.incomplete z.near.up up))

-- ---- the near end gets a message, and sends

pub line-message : (z : Line) (m : Message) → z.near.serving ≡ true → IsLine z → IsLine (with_message z m)
line-message z m serving h = record {
  near = record { queue = sound-appended z.near.queue m h.near.queue; base = h.near.base; serving = h.near.serving; incomplete = h.near.incomplete; awaited = h.near.awaited; live_up = h.near.live_up; live_incomplete = h.near.live_incomplete; idle = λ l e. busy z.near.serving z.near.incomplete serving e };
  far = h.far;
  there = λ e. let f : Flows z = h.there e in
      record { confirmed = f.confirmed; received = f.received; carried = λ u. carry-appended z.near.queue m z.far.queue.received z.to_far (f.carried u); named = f.named };
  back = λ e. let f : Flows (turned z) = h.back e in
      record { confirmed = f.confirmed; received = f.received; carried = f.carried; named = f.named };
  first = λ n. serving-joined z h serving n;
  second = λ n. up-first z h (h.near.serving serving) n;
  moved = λ m. h.moved m;
  moved_back = λ m. h.moved_back m;
}

pub line-status : (z : Line) → z.near.up ≡ true → IsLine z → IsLine (with_status z)
line-status z up h = record {
  near = h.near;
  far = h.far;
  there = λ e. let f : Flows z = h.there e in
      record { confirmed = f.confirmed; received = f.received; carried = f.carried; named = f.named };
  back = λ e. let f : Flows (turned z) = h.back e in
      record { confirmed = f.confirmed; received = f.received; carried = f.carried; named = f.named };
  first = λ n. let o : OpenedAlone z = h.first n in
      record {
        alone = o.alone;
        far_may = o.far_may;
        far_live = o.far_live;
        far_empty = o.far_empty;
        unserved = o.unserved;
        complete = o.complete;
        unawaited = o.unawaited;
        unheard = o.unheard;
        live = o.live;
        queue = o.queue;
        silent = o.silent;
        untold = o.untold;
        carried = o.carried;
        named = o.named;
      };
  second = λ n. up-first z h up n;
  moved = λ m. h.moved m;
  moved_back = λ m. h.moved_back m;
}

-- of the statuses in flight to it, n are left
pub line-told : (z : Line) (rest count : ℕ) → z.told_near ≡ suc rest → IsLine z → IsLine (with_statuses_left z count)
line-told z rest count some h = record {
  near = h.near;
  far = h.far;
  there = λ e. let f : Flows z = h.there e in
      record { confirmed = f.confirmed; received = f.received; carried = f.carried; named = f.named };
  back = λ e. let f : Flows (turned z) = h.back e in
      record { confirmed = f.confirmed; received = f.received; carried = f.carried; named = f.named };
  first = λ n. told-joined z h rest some n;
  second = λ n. let o : OpenedAlone (turned z) = h.second n in
      record {
        alone = o.alone;
        far_may = o.far_may;
        far_live = o.far_live;
        far_empty = o.far_empty;
        unserved = o.unserved;
        complete = o.complete;
        unawaited = o.unawaited;
        unheard = o.unheard;
        live = o.live;
        queue = o.queue;
        silent = o.silent;
        untold = o.untold;
        carried = o.carried;
        named = o.named;
      };
  moved = λ m. h.moved m;
  moved_back = λ m. h.moved_back m;
}

pub line-empty : (z : Line) → z.near.up ≡ true → IsLine z → IsLine (with_frame z (EmptyFrame (last_sent z.near.queue) (last_accepted z.near.queue)))
line-empty z up h = record {
  near = h.near;
  far = h.far;
  there = λ e. let f : Flows z = h.there e in
      record { confirmed = f.confirmed; received = f.received; carried = λ u. carry-empty z.near.queue (last_accepted z.near.queue) z.far.queue.received z.to_far (f.carried u); named = f.named };
  back = λ e. let f : Flows (turned z) = h.back e in
      record {
        confirmed = f.confirmed;
        received = f.received;
        carried = f.carried;
        named = λ u. name-empty (last_sent z.near.queue) z.far.queue.confirmed z.near.queue.received z.to_far f.confirmed (f.named u);
      };
  first = λ n. let o : OpenedAlone z = h.first n in
      record {
        alone = o.alone;
        far_may = o.far_may;
        far_live = o.far_live;
        far_empty = o.far_empty;
        unserved = o.unserved;
        complete = o.complete;
        unawaited = o.unawaited;
        unheard = o.unheard;
        live = o.live;
        queue = o.queue;
        silent = o.silent;
        untold = o.untold;
        carried =
            subst (λ (q : Queue). Carry first_queue 0 (z.to_far ++ EmptyFrame (last_sent q) (last_accepted q) ∷ [])) (sym o.queue)
            (carry-empty first_queue (last_accepted first_queue) 0 z.to_far o.carried);
        named =
            subst (λ (q : Queue). Name 0 0 (z.to_far ++ EmptyFrame (last_sent q) (last_accepted q) ∷ [])) (sym o.queue)
            (name-empty (last_sent first_queue) 0 0 z.to_far (omega arith) o.named);
      };
  second = λ n. up-first z h up n;
  moved = λ m. h.moved m;
  moved_back = λ m. h.moved_back m;
}

-- it hears the far end
pub line-heard : (z : Line) (rest : ℕ) → z.told_near ≡ suc rest → z.near.up ≡ true → IsLine z → IsLine (with_heard z)
line-heard z rest some up h = record {
  near = record { queue = h.near.queue; base = h.near.base; serving = h.near.serving; incomplete = h.near.incomplete; awaited = h.near.awaited; live_up = h.near.live_up; live_incomplete = h.near.live_incomplete; idle = h.near.idle };
  far = h.far;
  there = λ e. let f : Flows z = h.there e in
      record { confirmed = f.confirmed; received = f.received; carried = f.carried; named = f.named };
  back = λ e. let f : Flows (turned z) = h.back e in
      record { confirmed = f.confirmed; received = f.received; carried = f.carried; named = f.named };
  first = λ n. told-joined z h rest some n;
  second = λ n. up-first z h up n;
  moved = λ m. h.moved m;
  moved_back = λ m. h.moved_back m;
}

-- what goes out is the first message that wasn't sent
pub record IsNext (q : Queue) (window : ℕ) (sending : Sending) : Type 0 where
  pub room : q.sent - q.confirmed < window
  pub number : forward_number q q.sent ≡ sending.number
  pub message : slice_get q.all q.sent ≡ Some sending.message

next-number : (number : ℕ) (o : Option Message) (s : Sending) → numbered number o ≡ Some s → number ≡ s.number
next-number number (Some m) s e = grind arith
next-number number None s e = grind arith

next-message : (number : ℕ) (o : Option Message) (s : Sending) → numbered number o ≡ Some s → o ≡ Some s.message
next-message number (Some m) s e = grind arith
next-message number None s e = grind arith

room-there : (room : Bool) (number : ℕ) (o : Option Message) (s : Sending) → (if room then numbered number o else None) ≡ Some s → room ≡ true
room-there true number o s e = refl
room-there false number o s e = grind arith

numbered-there : (room : Bool) (number : ℕ) (o : Option Message) (s : Sending) → (if room then numbered number o else None) ≡ Some s → numbered number o ≡ Some s
numbered-there true number o s e = e
numbered-there false number o s e = grind arith

below-window : (outstanding window : ℕ) → nat_lt outstanding window ≡ true → outstanding < window
below-window outstanding window e = grind (arith, nat_tests)

pub is-next : (q : Queue) (window : ℕ) (s : Sending) → to_send q window ≡ Some s → IsNext q window s
is-next q window s e =
    let n : numbered (forward_number q q.sent) (slice_get q.all q.sent) ≡ Some s =
    numbered-there (nat_lt (q.sent - q.confirmed) window) (forward_number q q.sent) (slice_get q.all q.sent) s e in
    record {
      room = below-window (q.sent - q.confirmed) window (room-there (nat_lt (q.sent - q.confirmed) window) (forward_number q q.sent) (slice_get q.all q.sent) s e);
      number = next-number (forward_number q q.sent) (slice_get q.all q.sent) s n;
      message = next-message (forward_number q q.sent) (slice_get q.all q.sent) s n;
    }

pub queue-sent : (q : Queue) (window : ℕ) (s : Sending) → window ≤ WINDOW → IsQueue WINDOW q → IsNext q window s → IsQueue WINDOW (after_sending q (Some s))
queue-sent q window s small h n =
    let l : q.sent < length q.all = slice_get_within q.all q.sent s.message n.message in
    record { confirmed = omega (arith, h.confirmed); sent = omega (arith, l); window = omega (arith, n.room, small, h.confirmed); limit = h.limit }

pub line-sent : (z : Line) (window : ℕ) (s : Sending) → window ≤ WINDOW → to_send z.near.queue window ≡ Some s → z.near.serving ≡ true →
    IsLine z → IsLine (with_sent z s)
line-sent z window s small e serving h =
    let n : IsNext z.near.queue window s = is-next z.near.queue window s e in
    record {
      near = record { queue = queue-sent z.near.queue window s small h.near.queue n; base = h.near.base; serving = h.near.serving; incomplete = h.near.incomplete; awaited = h.near.awaited; live_up = h.near.live_up; live_incomplete = h.near.live_incomplete; idle = h.near.idle };
      far = h.far;
      there = λ t. let f : Flows z = h.there t in
          record {
            confirmed = f.confirmed;
            received = omega (arith, f.received);
            named = f.named;
            carried = λ u.
                subst (λ number. Carry (record z.near.queue { sent = z.near.queue.sent + 1 }) z.far.queue.received
                (z.to_far ++ MessageFrame number (last_accepted z.near.queue) s.message ∷ []))
                n.number (carry-message z.near.queue s.message (last_accepted z.near.queue) z.far.queue.received z.to_far n.message (f.carried u));
          };
      back = λ t. let f : Flows (turned z) = h.back t in
          record {
            confirmed = f.confirmed;
            received = f.received;
            carried = f.carried;
            named = λ u. name-message s.number s.message z.far.queue.confirmed z.near.queue.received z.to_far f.confirmed (f.named u);
          };
      first = λ m. serving-joined z h serving m;
      second = λ m. up-first z h (h.near.serving serving) m;
      moved = λ m. h.moved m;
      moved_back = λ m. h.moved_back m;
    }
