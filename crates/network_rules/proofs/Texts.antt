-- What a frame that was written reads as.
use Rattle.exchange_rules.proofs.Basics.{◌≡◌, ◌==◌, ℕ, Bool, true, false, List, Option, Some, None, Ok, refl, sym, subst, ◌∙◌, if◌then◌else◌, length}
use Rattle.exchange_rules.proofs.Definitions.{Message, FrameValue, EmptyFrame, MessageFrame, StatusFrame, read_frame, carried_message}
use Rattle.m2pa_codec.specs.Frames.{bsn_field, fault_of, fsn_field, spelled, unless}
use Rattle.signalling_types.specs.declared.notice.FrameFault.{FrameFault}

-- the message that a frame carries, if it carries one, is fine
pub record IsHarmless (fine : Message → Bool) (text : List ℕ) : Type 0 where
  pub carried : (m : Message) → carried_message (read_frame text) ≡ Some m → fine m ≡ true

pub same-some : {A : Type 0} (x y : A) → Some x ≡ Some y → x ≡ y
same-some x y e = cc

module _ (fine : Message → Bool) where
  nothing-by : (fault : Option FrameFault) (bsn fsn : ℕ) (m : Message) → carried_message (unless fault (EmptyFrame bsn fsn)) ≡ Some m → fine m ≡ true
  nothing-by None bsn fsn m e = absurd cc
  nothing-by (Some fault) bsn fsn m e = absurd cc

  status-by : (fault : Option FrameFault) (frame : FrameValue) (m : Message) → carried_message (Ok frame) ≡ None → carried_message (unless fault frame) ≡ Some m → fine m ≡ true
  status-by None frame m e g = absurd (let no : None ≡ Some m = sym e ∙ g in cc)
  status-by (Some fault) frame m e g = absurd cc

  message-by : (fault : Option FrameFault) (empty : Bool) (bsn fsn : ℕ) (x m : Message) → fine x ≡ true
      → carried_message (unless fault (if empty then EmptyFrame bsn fsn else MessageFrame bsn fsn x.sio x.sif)) ≡ Some m → fine m ≡ true
  message-by None true bsn fsn x m e g = absurd cc
  message-by None false bsn fsn x m e g = subst (λ (y : Message). fine y ≡ true) (same-some x m g) e
  message-by (Some fault) empty bsn fsn x m e g = absurd cc

  pub status-harmless : (frame : FrameValue) → carried_message (Ok frame) ≡ None → IsHarmless fine (spelled frame)
  status-harmless (EmptyFrame bsn fsn) e = record { carried = λ m g. status-by (fault_of (spelled (EmptyFrame bsn fsn))) (EmptyFrame (bsn_field (spelled (EmptyFrame bsn fsn))) (fsn_field (spelled (EmptyFrame bsn fsn)))) m refl g }
  status-harmless (MessageFrame bsn fsn sio sif) e = absurd cc
  status-harmless (StatusFrame bsn fsn status) e = record { carried = λ m g. status-by (fault_of (spelled (StatusFrame bsn fsn status))) _ m refl g }

  pub message-harmless : (bsn fsn sio : ℕ) (sif : List ℕ) → fine (record { sio = sio; sif = sif }) ≡ true → IsHarmless fine (spelled (MessageFrame bsn fsn sio sif))
  message-harmless bsn fsn sio sif e =
      let text : List ℕ = spelled (MessageFrame bsn fsn sio sif) in
      record { carried = λ m g. message-by (fault_of text) (length text == 16) (bsn_field text) (fsn_field text) (record { sio = sio; sif = sif }) m e g }
