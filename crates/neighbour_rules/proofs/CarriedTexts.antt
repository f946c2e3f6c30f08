-- The texts in flight carry what the far end hasn't received.
use Rattle.pair_rules.proofs.Basics.{◌≡◌, ◌≤◌, ◌-◌, ◌+◌, ℕ, zero, suc, Bool, true, false, List, [], ◌∷◌, map, Option, Some, Ok, refl, ap, sym, subst, ◌∙◌, arith, drop, take, slice_get, cons_option}
use Rattle.pair_rules.proofs.Definitions.{Message, Configuration, FrameValue, EmptyFrame, MessageFrame, StatusFrame, spelled, read_frame, Queue, messages_in}
use Rattle.exchange_rules.specs.Laws.{carried_message}
use Rattle.pair_moves.specs.Flowing.{Carry}
use Rattle.pair_moves.proofs.Frames.{carry-below}
use Rattle.pair_rules.proofs.World.{frame_of}
use Rattle.pair_rules.proofs.Good.{Each}
use Rattle.pair_rules.proofs.Flights.{IsFirst}
use Rattle.neighbour_rules.proofs.Good as good
use Rattle.neighbour_rules.proofs.Good.{IsFlying}
use Rattle.neighbour_rules.proofs.Steps.{flies-back}

-- ---- one more of a list

taken-next : {A : Type 0} (xs : List A) (from n : ℕ) (x : A) → slice_get xs from ≡ Some x → x ∷ take n (drop (suc from) xs) ≡ take (suc n) (drop from xs)
taken-next [] from n x e = absurd cc
taken-next {A} (y ∷ ys) zero n x e = (let same : y ≡ x = cc in ap (λ (v : A). v ∷ take n ys) (sym same))
taken-next (y ∷ ys) (suc from) n x e = taken-next ys from n x e

taken-one : (q : Queue) (from : ℕ) (m : Message) → slice_get q.all from ≡ Some m → from + 1 ≤ q.sent → m ∷ take (q.sent - (from + 1)) (drop (from + 1) q.all) ≡ take (q.sent - from) (drop from q.all)
taken-one q from m e l =
    let one : from + 1 ≡ suc from = omega arith in
    let many : suc (q.sent - (from + 1)) ≡ q.sent - from = omega (arith, l) in
    ap (λ (k : ℕ). m ∷ take (q.sent - (from + 1)) (drop k q.all)) one
    ∙ taken-next q.all from (q.sent - (from + 1)) m e
    ∙ ap (λ (n : ℕ). take n (drop from q.all)) many

-- ---- what texts carry

module _ (c z : Configuration) (there its : ℕ) where
  -- User Data isn't a link status
  abbrev is_data : FrameValue → Bool
  is_data (EmptyFrame bsn fsn) = true
  is_data (MessageFrame bsn fsn sio sif) = true
  is_data (StatusFrame bsn fsn status) = false

  flies-data : (frame : FrameValue) → IsFlying c z there its frame → is_data frame ≡ true
  flies-data _ (good.empty bsn fsn s) = refl
  flies-data _ (good.carrying bsn fsn sio sif s b bound) = refl

  text-carries : (frame : FrameValue) → IsFlying c z there its frame → carried_message (read_frame (spelled frame)) ≡ carried_message (Ok frame)
  text-carries frame f = ap carried_message (flies-back c z there its frame f)

  one-more : (frame : FrameValue) (frames : List FrameValue) → IsFlying c z there its frame → messages_in (map spelled (frame ∷ frames)) ≡ cons_option (carried_message (Ok frame)) (messages_in (map spelled frames))
  one-more frame frames f = ap (λ (o : Option Message). cons_option o (messages_in (map spelled frames))) (text-carries frame f)

  -- those of frames that carry a queue from one count on are its messages from there up to the last that was sent
  pub texts-carry : (q : Queue) (from : ℕ) (frames : List FrameValue) → Each (IsFlying c z there its) frames → Carry q from (map frame_of frames)
      → messages_in (map spelled frames) ≡ take (q.sent - from) (drop from q.all)
  texts-carry q from [] f h =
      let none : 0 ≡ q.sent - from = omega (arith, h) in
      ap (λ (n : ℕ). take n (drop from q.all)) none
  texts-carry q from (EmptyFrame bsn fsn ∷ frames) f h = one-more (EmptyFrame bsn fsn) frames f.0 ∙ texts-carry q from frames f.1 h.1
  texts-carry q from (StatusFrame bsn fsn status ∷ frames) f h = (let no : false ≡ true = flies-data (StatusFrame bsn fsn status) f.0 in absurd cc)
  texts-carry q from (MessageFrame bsn fsn sio sif ∷ frames) f h =
      let m : Message = record { sio = sio; sif = sif } in
      one-more (MessageFrame bsn fsn sio sif) frames f.0
      ∙ ap (λ (ms : List Message). m ∷ ms) (texts-carry q (from + 1) frames f.1 h.2)
      ∙ taken-one q from m h.1 (carry-below q (from + 1) (map frame_of frames) h.2)

  -- the message of the first frame is the first of these
  first-carried : (q : Queue) (from : ℕ) (frame : FrameValue) (rest : List FrameValue) (m : Message) → Carry q from (map frame_of (frame ∷ rest)) → carried_message (Ok frame) ≡ Some m
      → slice_get q.all from ≡ Some m
  first-carried q from (EmptyFrame bsn fsn) rest m h e = absurd cc
  first-carried q from (StatusFrame bsn fsn status) rest m h e = absurd cc
  first-carried q from (MessageFrame bsn fsn sio sif) rest m h e = h.1 ∙ e

  pub first-text : (q : Queue) (from : ℕ) (frames : List FrameValue) (texts : List (List ℕ)) (text : List ℕ) (m : Message) → IsFirst frames texts text → Each (IsFlying c z there its) frames
      → Carry q from (map frame_of frames) → carried_message (read_frame text) ≡ Some m → slice_get q.all from ≡ Some m
  first-text q from frames texts text m first f h e =
      let flies : IsFlying c z there its first.frame = (subst (Each (IsFlying c z there its)) first.first f).0 in
      first-carried q from first.frame first.rest m (subst (λ (fs : List FrameValue). Carry q from (map frame_of fs)) first.first h)
      (sym (text-carries first.frame flies) ∙ ap (λ (octets : List ℕ). carried_message (read_frame octets)) (sym first.spells) ∙ e)
