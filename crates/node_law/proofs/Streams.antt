-- Link statuses in flight carry no message.
use Rattle.std.proofs.Common.{◌≡◌, ◌<◌, ◌^◌, ℕ, List, [], ◌∷◌, ◌++◌, Option, Some, Ok, Result, refl, ap, subst, ◌∙◌}
use Rattle.std.specs.Prelude.{drop, take, slice_get, if◌then◌else◌, Bool, true, false, None}
use Rattle.m2pa_codec.specs.Frames.{FrameValue, StatusFrame, read_frame, spelled}
use Rattle.m2pa_codec.specs.declared.status.LinkStatus.{LinkStatus}
use Rattle.m2pa_codec.proofs.FrameTexts.{read_frame-spelled}
use Rattle.signalling_types.specs.Message.{Message}
use Rattle.signalling_types.specs.declared.notice.FrameFault.{FrameFault}
use Rattle.exchange_rules.specs.Conserving.{brought_by, brought_in}
use Rattle.exchange_rules.specs.Exchange.{outcome_of}
use Rattle.exchange_rules.specs.First.{Abstract}
use Rattle.exchange_rules.specs.Laws.{accept_text}
use Rattle.exchange_rules.specs.Queues.{whole}
use Rattle.exchange_rules.specs.Receiving.{new_message, new_of}
use Rattle.exchange_rules.specs.State.{FrameCame, down, is_link}
use Rattle.std.proofs.Common.{arith, ◌&&◌, not}

-- a text that reads as a link status
pub record IsSilent (text : List ℕ) : Type 0 where
  pub bsn : ℕ
  pub fsn : ℕ
  pub status : LinkStatus
  pub reads : read_frame text ≡ Ok (StatusFrame bsn fsn status)

abbrev pub AreSilent : List (List ℕ) → Type 0
AreSilent [] = Unit {0}
AreSilent (text ∷ texts) = IsSilent text × AreSilent texts

pub silent-drop : (texts : List (List ℕ)) → AreSilent texts → AreSilent (drop 1 texts)
silent-drop [] h = tt
silent-drop (text ∷ texts) h = h.1

pub silent-twice : (texts : List (List ℕ)) → AreSilent texts → AreSilent (take 1 texts ++ texts)
silent-twice [] h = tt
silent-twice (text ∷ texts) h = (h.0, h)

pub silent-behind : (texts : List (List ℕ)) (text : List ℕ) → AreSilent texts → IsSilent text → AreSilent (texts ++ text ∷ [])
silent-behind [] text h s = (s, tt)
silent-behind (first ∷ texts) text h s = (h.0, silent-behind texts text h.1 s)

pub silent-first : (texts : List (List ℕ)) (text : List ℕ) → AreSilent texts → slice_get texts 0 ≡ Some text → IsSilent text
silent-first [] text h e = absurd cc
silent-first (first ∷ texts) text h e = (let same : first ≡ text = cc in subst IsSilent same h.0)

-- one that is written
pub silent-spelled : (bsn fsn : ℕ) (status : LinkStatus) → bsn < 2 ^ 24 → fsn < 2 ^ 24 → IsSilent (spelled (StatusFrame bsn fsn status))
silent-spelled bsn fsn status b f = record {
  bsn = bsn;
  fsn = fsn;
  status = status;
  reads = read_frame-spelled (StatusFrame bsn fsn status) (record { bsn_fits = b; fsn_fits = f; length_fits = omega arith });
}

-- it carries nothing new, and brings nothing in
abbrev none_new : Option Message
none_new = None

either-none : (b : Bool) → (if b then none_new else none_new) ≡ none_new
either-none true = refl
either-none false = refl

pub silent-new : (link : ℕ) (text : List ℕ) (a : Abstract) → IsSilent text → new_message link text a ≡ None
silent-new link text a s =
    ap (λ (r : Result FrameValue FrameFault). if is_link a.node.parts link && not (down a.node.parts link) then new_of r link a.settings a.node else None) s.reads
    ∙ either-none (is_link a.node.parts link && not (down a.node.parts link))

pub silent-brings : (link : ℕ) (text : List ℕ) (a : Abstract) → IsSilent text → brought_in (FrameCame link text) a ≡ []
silent-brings link text a s =
    ap (λ (o : Option Message). brought_by o (outcome_of whole (FrameCame link text) a) a.settings (accept_text link (read_frame text) a)) (silent-new link text a s)
