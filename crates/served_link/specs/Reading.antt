-- What becomes of octets that come on an association.
use Rattle.std.specs.Prelude.{◌≡◌, ℕ, ◌<◌, List, [], ◌∷◌, ◌++◌, length, All, Result, Ok, Err}
use Rattle.std.specs.List.{concat}
use Rattle.signalling_types.specs.declared.limits.TheConstants.Limits.{FRAME_OCTETS}
use Rattle.m2pa_codec.specs.Streams.{IsStream, IsText, next_in}
use Rattle.m2pa_codec.specs.declared.framer.Next.TheVariants.{Wait, Broken as BreaksOff}
use Rattle.exchange_rules.specs.State.{QueueKind, State, FrameCame}
use Rattle.exchange_rules.specs.Exchange.{outcome_of, after}
use Rattle.served_link.specs.Watching.{Sight, CameIn, SeesEach}
use Rattle.served_link.specs.declared.association.Broken.{Broken}

-- the state after these texts were handed in on a link, one after another, each once
abbrev pub after_texts : {Q : Type 0} → QueueKind Q → (link : ℕ) → List (List ℕ) → State Q → State Q
after_texts q link [] s = s
after_texts q link (text ∷ texts) s = after_texts q link texts (after q (FrameCame link text) s)

-- what is seen of it: each text, with its outcome
abbrev pub sights_of : {Q : Type 0} → QueueKind Q → (link : ℕ) → List (List ℕ) → State Q → List Sight
sights_of q link [] s = []
sights_of q link (text ∷ texts) s =
    CameIn link text (outcome_of q (FrameCame link text) s) ∷ sights_of q link texts (after q (FrameCame link text) s)

-- What is held of a rest that begins with no whole text: all of it, if it is the beginning of a text. If it is broken,
-- the octets that show that are held, and those after them are dropped.
abbrev pub Leaves : {A : Type 0} → Result A Broken → (rest held : List ℕ) → Type 0
Leaves (Ok done) rest held = (next_in rest ≡ Wait) × (held ≡ rest)
Leaves (Err broken) rest held =
    (next_in rest ≡ BreaksOff) × (next_in held ≡ BreaksOff) × (dropped : List ℕ) × (rest ≡ held ++ dropped)

-- Octets that came were read. With those held before them they are these texts and a rest; the texts were handed in, in
-- order and each once; the watch saw them; and the rest is held.
pub record Reads {W Q A : Type 0} (sees : W → Sight → W → Type 0) (q : QueueKind Q) (link : ℕ) (octets : List ℕ)
    (answer : Result A Broken) (held held_new : List ℕ) (s s_new : State Q) (w w_new : W) : Type 0 where
  pub texts : List (List ℕ)
  pub rest : List ℕ
  pub cut : IsStream (held ++ octets) texts rest
  pub handed_in : s_new ≡ after_texts q link texts s
  pub seen : SeesEach sees (sights_of q link texts s) w w_new
  pub left : Leaves answer rest held_new

-- ---- its parts

-- the octets are texts, which were handed in, and others that are held
pub record HandsIn {W Q : Type 0} (sees : W → Sight → W → Type 0) (q : QueueKind Q) (link : ℕ) (octets held : List ℕ)
    (s s_new : State Q) (w w_new : W) : Type 0 where
  pub texts : List (List ℕ)
  pub parts : octets ≡ concat texts ++ held
  pub whole : All IsText texts
  pub handed_in : s_new ≡ after_texts q link texts s
  pub seen : SeesEach sees (sights_of q link texts s) w w_new

-- some octets from the front are held after the others, and the rest is left
pub record Feeds (octets left old new : List ℕ) : Type 0 where
  pub piece : List ℕ
  pub parts : octets ≡ piece ++ left
  pub some : 0 < length piece
  pub held : new ≡ old ++ piece

-- what is held begins with no whole text, and there is room for more if more is waited for
abbrev pub Stops : {A : Type 0} → Result A Broken → (held : List ℕ) → Type 0
Stops (Ok done) held = (next_in held ≡ Wait) × (length held < FRAME_OCTETS)
Stops (Err broken) held = next_in held ≡ BreaksOff
