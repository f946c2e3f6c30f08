-- What it is to carry a frame from one exchange to another, by a stream of octets.
use Rattle.std.specs.Prelude.{◌≡◌, ◌⊎◌, ◌≤◌, ℕ, Bool, true, false, List, [], ◌++◌, length, take, Option, Some, None}
use Rattle.std.specs.Option.{option_map}
use Rattle.std.specs.Io.KnownBytes.{Appends, Consumes, Keeps, IsAtEnd}
use Rattle.signalling_types.specs.declared.limits.TheConstants.Limits.{FRAME_OCTETS}
use Rattle.signalling_types.specs.declared.outcome.Outcome.{Outcome}
use Rattle.m2pa_codec.specs.Frames.{spelled}
use Rattle.m2pa_codec.specs.Streams.{IsText, next_in}
use Rattle.m2pa_codec.specs.declared.framer.Next.TheVariants.{Wait, Broken}
use Rattle.exchange_rules.specs.State.{QueueKind, State, WentDown, FrameCame}
use Rattle.exchange_rules.specs.Exchange.{outcome_of, after, frame_to_take, taken}
use Rattle.script.specs.Streams.{Input, Output, AppendsFirst, counted}
use Rattle.lab.specs.declared.carrying.Carried.{Carried}
use Rattle.lab.specs.declared.carrying.Carried.TheVariants.{Nothing, Got, Lost}

-- the octets of the frame that goes out next on a link
abbrev pub text_to_take : {Q : Type 0} → QueueKind Q → State Q → (link : ℕ) → Option (List ℕ)
text_to_take q s link = option_map spelled (frame_to_take q s link)

-- what carries a frame: where it is written, where it is read, and the octets that were read and not handed in
pub record Carriage : Type 0 where
  pub sink : Output
  pub source : Input
  pub held : List ℕ

abbrev pub carriage : Output → Input → List ℕ → Carriage
carriage sink source held = record { sink = sink; source = source; held = held }

-- The first text of the octets held and of those that were read is this, and the octets behind it stay held. No read
-- failed, and where octets were read, the last of them ends the text.
pub record GivesText (text : List ℕ) (source source_new : Input) (held held_new : List ℕ) : Type 0 where
  pub read : List ℕ
  pub consumed : Consumes source.remaining source_new.remaining read
  pub well : source_new.failures ≡ source.failures
  pub whole : IsText text
  pub cut : held ++ read ≡ text ++ held_new
  pub no_more : (read ≡ []) ⊎ (held_new ≡ [])

-- at least one read was made (a count of 64 bits stays at its greatest value), and one failed or found the end
abbrev pub EndsReading : (source source_new : Input) → Type 0
EndsReading source source_new =
    (counted source.reads ≤ source_new.reads)
    × ((source_new.failures ≡ counted source.failures) ⊎ IsAtEnd source_new.remaining)

-- No text comes: the octets that were read stand behind those held, and the stream is broken; or there is nothing to do
-- but wait for more, which no read gives. A read that fails takes no octet.
pub record GivesNone (source source_new : Input) (held held_new : List ℕ) : Type 0 where
  pub read : List ℕ
  pub consumed : Consumes source.remaining source_new.remaining read
  pub behind : held_new ≡ held ++ read
  pub why : (next_in held_new ≡ Broken) ⊎ ((next_in held_new ≡ Wait) × EndsReading source source_new)

-- the octets of the frame were written, all of them, and no write failed
pub record SendsAll (frame : List ℕ) (old new : Carriage) : Type 0 where
  pub all : Appends old.sink.written new.sink.written frame
  pub well : new.sink.failures ≡ old.sink.failures

-- a text that came was handed in
pub record HandsIn {Q : Type 0} (q : QueueKind Q) (to : ℕ) (got : Outcome) (far far_new : State Q) (old new : Carriage)
    : Type 0 where
  pub text : List ℕ
  pub came : GivesText text old.source new.source old.held new.held
  pub answer : got ≡ outcome_of q (FrameCame to text) far
  pub left : far_new ≡ after q (FrameCame to text) far

-- the write failed: the first octets of the frame were written, however many, and nothing was read
pub record FailsToWrite (frame : List ℕ) (old new : Carriage) : Type 0 where
  pub first : AppendsFirst old.sink.written new.sink.written frame
  pub failed : new.sink.failures ≡ counted old.sink.failures
  pub source : new.source ≡ old.source
  pub held : new.held ≡ old.held

-- the frame was written whole, and no text came
pub record GetsNone (frame : List ℕ) (old new : Carriage) : Type 0 where
  pub sent : SendsAll frame old new
  pub none : GivesNone old.source new.source old.held new.held

-- the streams don't carry the frame
abbrev pub Fails : (frame : List ℕ) → (old new : Carriage) → Type 0
Fails frame old new = FailsToWrite frame old new ⊎ GetsNone frame old new

-- What was done with the frame of the near exchange's link. Nothing, where there is none: no octet is written or read.
-- Got: it was written whole, and the text that came was handed in at the far exchange, which gave this outcome. Lost:
-- the write failed, or it was written whole and no text came, and both exchanges lost the association. No other event
-- and no other take reaches either.
abbrev pub Carries : {Q : Type 0} → QueueKind Q → (from to : ℕ) → Carried → (near near_new far far_new : State Q)
    → (old new : Carriage) → Type 0
Carries q from to Nothing near near_new far far_new old new =
    (text_to_take q near from ≡ None) × (near_new ≡ near) × (far_new ≡ far) × (new ≡ old)
Carries q from to (Got outcome) near near_new far far_new old new =
    (frame : List ℕ) × (text_to_take q near from ≡ Some frame) × (near_new ≡ taken q near from)
    × SendsAll frame old new × HandsIn q to outcome far far_new old new
Carries q from to Lost near near_new far far_new old new =
    (frame : List ℕ) × (text_to_take q near from ≡ Some frame)
    × (near_new ≡ after q (WentDown from) (taken q near from)) × (far_new ≡ after q (WentDown to) far)
    × Fails frame old new

-- ---- its parts

-- the frame was written whole and what came was handed in; or the streams failed, and nothing was
abbrev pub Brings : {Q : Type 0} → QueueKind Q → (to : ℕ) → Option Outcome → (frame : List ℕ) → (far far_new : State Q)
    → (old new : Carriage) → Type 0
Brings q to (Some outcome) frame far far_new old new =
    SendsAll frame old new × HandsIn q to outcome far far_new old new
Brings q to None frame far far_new old new =
    (far_new ≡ far) × Fails frame old new

-- a text of so many octets lies in front of the buffer
abbrev pub FindsText : Option ℕ → (out : List ℕ) → (source source_new : Input) → (held held_new : List ℕ) → Type 0
FindsText (Some count) out source source_new held held_new =
    (count ≤ FRAME_OCTETS) × GivesText (take count out) source source_new held held_new
FindsText None out source source_new held held_new = GivesNone source source_new held held_new

-- an octet was read and is held behind the others; or a read failed or found the end, and took none
abbrev pub Holds : Bool → (source source_new : Input) → (held held_new : List ℕ) → Type 0
Holds true source source_new held held_new =
    (read : List ℕ) × (length read ≡ 1) × Consumes source.remaining source_new.remaining read
    × (held_new ≡ held ++ read) × (source_new.failures ≡ source.failures)
Holds false source source_new held held_new =
    (held_new ≡ held) × Keeps source.remaining source_new.remaining
    × ((source_new.failures ≡ counted source.failures) ⊎ IsAtEnd source_new.remaining)
