-- Frames in flight: what they carry, and what they name.
use Rattle.network_moves.proofs.Basics.{◌≡◌, ℕ, zero, suc, Bool, true, false, ◌+◌, ◌-◌, ◌%◌, ◌^◌, ◌≤◌, List, [], ◌∷◌, ◌++◌, slice_get, nat_eq, refl, ap, sym, subst, arith, Option, Some, Ok, Err, if◌then◌else◌}
use Rattle.network_moves.proofs.Definitions.{Message, Queue, IsQueue, first_queue, forward_number, named_count, confirmation, expected, accept_answer, appended, last_sent, Frame, EmptyFrame, MessageFrame, Carry, Name}
use Rattle.std.proofs.lemmas.Grind.{common_steps}
use Rattle.std.specs.Option.{option_map}
use Rattle.signalling_types.specs.Numbers.{previous_number}
use Rattle.link.specs.declared.fault.SeqFault.{SeqFault}
use Rattle.link.proofs.Naming.{finds_named}

-- ---- what they carry

within : (ms : List Message) (n : ℕ) (m x : Message) → slice_get ms n ≡ Some x → slice_get (ms ++ m ∷ []) n ≡ Some x
within [] n m x e = grind (arith, common_steps)
within (y ∷ ms) zero m x e = e
within (y ∷ ms) (suc n) m x e = grind (arith, common_steps, within ms n m x)

pub carry-appended : (q : Queue) (m : Message) (from : ℕ) (frames : List Frame) → Carry q from frames → Carry (appended q m) from frames
carry-appended q m from [] h = h
carry-appended q m from (EmptyFrame fsn bsn ∷ frames) h = (h.0, carry-appended q m from frames h.1)
carry-appended q m from (MessageFrame fsn bsn x ∷ frames) h = (h.0, within q.all from m x h.1, carry-appended q m (from + 1) frames h.2)

pub carry-empty : (q : Queue) (number from : ℕ) (frames : List Frame) → Carry q from frames →
    Carry q from (frames ++ EmptyFrame (last_sent q) number ∷ [])
carry-empty q number from [] h = (ap (λ (n : ℕ). previous_number (q.base + n)) (sym h), h)
carry-empty q number from (EmptyFrame fsn bsn ∷ frames) h = (h.0, carry-empty q number from frames h.1)
carry-empty q number from (MessageFrame fsn bsn x ∷ frames) h = (h.0, h.1, carry-empty q number (from + 1) frames h.2)

pub carry-message : (q : Queue) (m : Message) (number from : ℕ) (frames : List Frame) → slice_get q.all q.sent ≡ Some m → Carry q from frames →
    Carry (record q { sent = q.sent + 1 }) from (frames ++ MessageFrame (forward_number q q.sent) number m ∷ [])
carry-message q m number from [] e h = (ap (forward_number q) (sym h), rw h e, ap (λ (n : ℕ). n + 1) h)
carry-message q m number from (EmptyFrame fsn bsn ∷ frames) e h = (h.0, carry-message q m number from frames e h.1)
carry-message q m number from (MessageFrame fsn bsn x ∷ frames) e h = (h.0, h.1, carry-message q m number (from + 1) frames e h.2)

-- ---- what they name

pub name-empty : (number from to : ℕ) (frames : List Frame) → from ≤ to → Name from to frames →
    Name from to (frames ++ EmptyFrame number (previous_number to) ∷ [])
name-empty number from to [] l h = (to, l, omega arith, refl, tt)
name-empty number from to (EmptyFrame fsn bsn ∷ frames) l h = (h.0, h.1, h.2, h.3, name-empty number h.0 to frames h.2 h.4)
name-empty number from to (MessageFrame fsn bsn x ∷ frames) l h = (h.0, h.1, h.2, h.3, name-empty number h.0 to frames h.2 h.4)

pub name-message : (number : ℕ) (m : Message) (from to : ℕ) (frames : List Frame) → from ≤ to → Name from to frames →
    Name from to (frames ++ MessageFrame number (previous_number to) m ∷ [])
name-message number m from to [] l h = (to, l, omega arith, refl, tt)
name-message number m from to (EmptyFrame fsn bsn ∷ frames) l h = (h.0, h.1, h.2, h.3, name-message number m h.0 to frames h.2 h.4)
name-message number m from to (MessageFrame fsn bsn x ∷ frames) l h = (h.0, h.1, h.2, h.3, name-message number m h.0 to frames h.2 h.4)

-- one message more was received
pub name-more : (from to : ℕ) (frames : List Frame) → Name from to frames → Name from (to + 1) frames
name-more from to [] h = h
name-more from to (EmptyFrame fsn bsn ∷ frames) h = (h.0, h.1, omega (arith, h.2), h.3, name-more h.0 to frames h.4)
name-more from to (MessageFrame fsn bsn x ∷ frames) h = (h.0, h.1, omega (arith, h.2), h.3, name-more h.0 to frames h.4)

-- ---- what is in flight from an end that opened first

-- the first frame comes, which carries no message
pub carry-rest : (frame : Frame) (frames : List Frame) → Carry first_queue 0 (frame ∷ frames) → Carry first_queue 0 frames
carry-rest (EmptyFrame fsn bsn) frames h = h.1
carry-rest (MessageFrame fsn bsn x) frames h = (let none : slice_get first_queue.all 0 ≡ Some x = h.1 in grind (arith, common_steps, none))

only-none : (n : ℕ) → n ≤ 0 → n ≡ 0
only-none n l = omega (arith, l)

pub name-rest : (frame : Frame) (frames : List Frame) → Name 0 0 (frame ∷ frames) → Name 0 0 frames
name-rest (EmptyFrame fsn bsn) frames h = subst (λ (n : ℕ). Name n 0 frames) (only-none h.0 h.2) h.4
name-rest (MessageFrame fsn bsn x) frames h = subst (λ (n : ℕ). Name n 0 frames) (only-none h.0 h.2) h.4

-- ---- the count that a number names

names-there : (n : ℕ) → (0 + n) % 2 ^ 24 ≡ (previous_number n + 1) % 2 ^ 24
names-there n = omega arith

pub named-there : {w : ℕ} (q : Queue) (n : ℕ) → IsQueue w q → q.base ≡ 0 → q.confirmed ≤ n → n ≤ q.sent → named_count q (previous_number n) ≡ Some n
named-there {w} q n h base above below =
    (finds_named w q (previous_number n) n h).1
    (record { from_confirmed = above; to_sent = below; number = rw base (names-there n) })

answered : (right : Bool) (n confirmed count : ℕ) → (if right then confirmation (option_map (λ x. x - confirmed) (Some n)) else Err SeqFault.BadFsn) ≡ Ok count → count ≡ n - confirmed
answered true n confirmed count e = grind arith
answered false n confirmed count e = grind arith

-- a frame whose backward number names a count confirms the messages up to it
pub count-confirmed : {w : ℕ} (q : Queue) (fsn n : ℕ) (carries : Bool) (count : ℕ) → IsQueue w q → q.base ≡ 0 → q.confirmed ≤ n → n ≤ q.sent →
    accept_answer q fsn (previous_number n) carries ≡ Ok count → q.confirmed + count ≡ n
count-confirmed q fsn n carries count h base above below e =
    let named : named_count q (previous_number n) ≡ Some n = named-there q n h base above below in
    let r : count ≡ n - q.confirmed = answered (nat_eq fsn (expected q carries)) n q.confirmed count
    (subst (λ (o : Option ℕ). (if nat_eq fsn (expected q carries) then confirmation (option_map (λ x. x - q.confirmed) o) else Err SeqFault.BadFsn) ≡ Ok count) named e) in
    omega (arith, r, above)

-- frames carry no more than was sent
pub carry-below : (q : Queue) (from : ℕ) (frames : List Frame) → Carry q from frames → from ≤ q.sent
carry-below q from [] h = omega (arith, h)
carry-below q from (EmptyFrame fsn bsn ∷ frames) h = carry-below q from frames h.1
carry-below q from (MessageFrame fsn bsn x ∷ frames) h = omega (arith, carry-below q (from + 1) frames h.2)
