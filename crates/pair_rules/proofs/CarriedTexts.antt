-- The texts in flight carry what the far end hasn't received.
use Rattle.pair_rules.proofs.Basics.{◌≡◌, ◌&&◌, ℕ, Bool, true, false, not, List, [], ◌∷◌, map, Option, Some, None, Ok, length, refl, ap, sym, ◌∙◌, arith, slice_get, if◌then◌else◌, cons_option}
use Rattle.pair_rules.proofs.Definitions.{Message, FrameValue, spelled, read_frame, down, is_link, new_message, new_of, messages_in}
use Rattle.std.proofs.Common.{Contains}
use Rattle.exchange_rules.specs.Laws.{carried_message}
use Rattle.exchange_rules.specs.First.{Abstract}
use Rattle.pair_rules.proofs.World.{frame_of}
use Rattle.pair_rules.proofs.Good as good
use Rattle.pair_rules.proofs.Good.{Each, IsTelling}
use Rattle.pair_rules.proofs.Flights.{tells-back}

-- ---- a link status carries no message

pub tells-none : (frame : FrameValue) → IsTelling frame → carried_message (Ok frame) ≡ None
tells-none _ (good.telling bsn fsn status s) = refl

pub statuses-carry : (frames : List FrameValue) → Each IsTelling frames → messages_in (map spelled frames) ≡ []
statuses-carry [] e = refl
statuses-carry (frame ∷ frames) e =
    ap (λ (o : Option Message). cons_option o (messages_in (map spelled frames))) (ap carried_message (tells-back frame e.0) ∙ tells-none frame e.0)
    ∙ statuses-carry frames e.1

-- ---- a frame newly carries a message only where its link isn't down

and-second : (a b : Bool) → (a && b) ≡ true → b ≡ true
and-second true b e = e
and-second false b e = absurd cc

pub new-up : (link : ℕ) (text : List ℕ) (a : Abstract) (m : Message) → new_message link text a ≡ Some m → not (down a.node.parts link) ≡ true
new-up link text a m e =
    and-second (is_link a.node.parts link) (not (down a.node.parts link)) (by (is_link a.node.parts link && not (down a.node.parts link)) (new_of (read_frame text) link a.settings a.node) e)
  where
    by : (b : Bool) (o : Option Message) → (if b then o else None) ≡ Some m → b ≡ true
    by true o f = refl
    by false o f = absurd cc

-- ---- what is shown of an end, and of frames

pub up-false : (b : Bool) → not b ≡ false → b ≡ true
up-false true e = refl
up-false false e = absurd cc

-- an end may open, by what is shown of it
pub may-so : (gone incomplete awaited : Bool) → not gone ≡ false → incomplete ≡ false → awaited ≡ false → (gone && (not incomplete && not awaited)) ≡ true
may-so true false false d i a = refl
may-so true false true d i a = sym a
may-so true true awaited d i a = sym i
may-so false incomplete awaited d i a = sym d

pub none-shown : (fs : List FrameValue) → map frame_of fs ≡ [] → fs ≡ []
none-shown [] e = refl
none-shown (f ∷ fs) e = absurd cc

pub none-told : (fs : List FrameValue) → length fs ≡ 0 → fs ≡ []
none-told [] e = refl
none-told (f ∷ fs) e = absurd (omega (arith, e))

pub nothing-first : (texts : List (List ℕ)) (text : List ℕ) → slice_get texts 0 ≡ Some text → texts ≡ [] → false ≡ true
nothing-first [] text e none = absurd cc
nothing-first (t ∷ texts) text e none = absurd cc

pub no-message : (m : Message) → Contains (messages_in []) m → false ≡ true
no-message m h = absurd (omega (arith, h.1))
