-- What goes out is the frames that were taken, in order.
use Rattle.served_link.proofs.Basics.{◌≡◌, ℕ, ◌∙◌, true, List, [], ◌∷◌, ◌++◌, take, drop, refl, sym, ap, arith, append_assoc, take-append-drop, concat-append, nat_tests, concat, FrameValue, EmptyFrame, MessageFrame, StatusFrame, spelled, is_pending}
use Rattle.served_link.specs.Sending.{Call, Fill, Write, Sent, after_call, after_calls, nothing_sent, sent_by, GoesOutInOrder}

pub pending-spelled : (frame : FrameValue) → is_pending (spelled frame) ≡ true
pending-spelled (EmptyFrame bsn fsn) = refl
pending-spelled (MessageFrame bsn fsn sio sif) = grind (arith, nat_tests)
pending-spelled (StatusFrame bsn fsn status) = grind (arith, nat_tests)

called : (call : Call) (s : Sent) → GoesOutInOrder s → GoesOutInOrder (after_call call s)
called (Fill frames) s h =
    concat-append s.taken frames ∙ ap (λ (xs : List ℕ). xs ++ concat frames) h ∙ append_assoc s.written s.pending (concat frames)
called (Write count) s h =
    h ∙ ap (λ (xs : List ℕ). s.written ++ xs) (sym (take-append-drop count s.pending)) ∙ sym (append_assoc s.written (take count s.pending) (drop count s.pending))

all_called : (calls : List Call) (s : Sent) → GoesOutInOrder s → GoesOutInOrder (after_calls calls s)
all_called [] s h = h
all_called (call ∷ calls) s h = all_called calls (after_call call s) (called call s h)

pub in_order : (calls : List Call) → GoesOutInOrder (sent_by calls)
in_order calls = all_called calls nothing_sent refl
