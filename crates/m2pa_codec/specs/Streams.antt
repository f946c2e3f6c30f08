-- Streams of octets: the texts of frames one after another, cut by their own length fields (RFC 4165 §2.1.5).
use Rattle.std.specs.Prelude.{◌≡◌, ℕ, ◌-◌, ◌≤◌, Bool, ◌||◌, ◌&&◌, List, [], ◌∷◌, ◌++◌, length, take, drop, nat_lt, nat_le, if◌then◌else◌, ◌⊎◌, All}
use Rattle.std.specs.List.{concat}
use Rattle.signalling_types.specs.declared.limits.TheConstants.Limits.{FRAME_OCTETS}
use Rattle.m2pa_codec.specs.declared.framer.Next.{Next}
use Rattle.m2pa_codec.specs.declared.framer.Next.TheVariants.{Whole, Wait, Broken}
use Rattle.m2pa_codec.specs.Frames.{length_field}

-- a text of a stream: as long as its own length field says, at least a common header and no longer than a frame may be
pub record IsText (text : List ℕ) : Type 0 where
  pub header : 8 ≤ length text
  pub limit : length text ≤ FRAME_OCTETS
  pub announced : length_field text ≡ length text

-- a stream is broken if the length field in a frame's place says what no frame has
abbrev pub is_broken : List ℕ → Bool
is_broken octets =
    nat_le 8 (length octets) && (nat_lt (length_field octets) 8 || nat_lt FRAME_OCTETS (length_field octets))

-- what a stream begins with: it is broken, or a whole text, or there is nothing to do but wait for more
abbrev pub next_in : List ℕ → Next
next_in octets =
    if nat_lt (length octets) 8 then Wait
    else if is_broken octets then Broken
    else if nat_lt (length octets) (length_field octets) then Wait
    else Whole (length_field octets)

-- no whole text comes first
abbrev pub Stops : Next → Type 0
Stops (Whole count) = ⊥
Stops Wait = Unit {0}
Stops Broken = Unit {0}

-- the octets are these texts one after another, and a rest that begins with no whole text
pub record IsStream (octets : List ℕ) (texts : List (List ℕ)) (rest : List ℕ) : Type 0 where
  pub parts : octets ≡ concat texts ++ rest
  pub cut : All IsText texts
  pub end : Stops (next_in rest)

-- ---- what a framer does with the octets that it holds

-- how many more octets a framer takes: none once the stream is broken
abbrev pub room_for : List ℕ → ℕ
room_for held = if is_broken held then 0 else FRAME_OCTETS - length held

-- the octets of a piece that it takes
abbrev pub taken_of : List ℕ → List ℕ → List ℕ
taken_of held piece = take (room_for held) piece

-- the text that an answer gives
abbrev pub given_by : Next → List ℕ → List (List ℕ)
given_by (Whole count) held = take count held ∷ []
given_by Wait held = []
given_by Broken held = []

-- the octets that an answer leaves held
abbrev pub left_by : Next → List ℕ → List ℕ
left_by (Whole count) held = drop count held
left_by Wait held = held
left_by Broken held = held

-- an answer gives the first text: it lies at the front of the buffer, and the rest stays held
abbrev pub GivesFirst : Next → (old new out : List ℕ) → Type 0
GivesFirst (Whole count) old new out = IsText (take count out) × (old ≡ take count out ++ new)
GivesFirst Wait old new out = Unit {0}
GivesFirst Broken old new out = Unit {0}

-- the buffer changes by the text alone: what lies after it stays, and without a text the whole buffer
abbrev pub ChangesFront : Next → (before out : List ℕ) → Type 0
ChangesFront (Whole count) before out = drop count out ≡ drop count before
ChangesFront Wait before out = out ≡ before
ChangesFront Broken before out = out ≡ before

-- ---- many calls

-- what a framer is called for
pub data Call : Type 0 where
  -- a piece is fed
  Feed : (piece : List ℕ) → Call
  -- the next text is asked for
  Ask : Call

-- what came of some calls: the octets that were taken, the texts that were given, the octets that are held
pub record Passage : Type 0 where
  pub taken : List ℕ
  pub given : List (List ℕ)
  pub held : List ℕ

abbrev pub after_call : Call → Passage → Passage
after_call (Feed piece) p =
    let taken = taken_of p.held piece in
    record { taken = p.taken ++ taken; given = p.given; held = p.held ++ taken }
after_call Ask p =
    let next = next_in p.held in
    record { taken = p.taken; given = p.given ++ given_by next p.held; held = left_by next p.held }

abbrev pub after_calls : List Call → Passage → Passage
after_calls [] p = p
after_calls (call ∷ calls) p = after_calls calls (after_call call p)

-- what came of calls on a new framer
abbrev pub passed : List Call → Passage
passed calls = after_calls calls (record { taken = []; given = []; held = [] })

-- the octets went in, all of them or up to where the stream is broken, and the next text was asked for until there was
-- none
pub record GetsThrough (octets : List ℕ) (p : Passage) : Type 0 where
  pub left : List ℕ
  pub parts : octets ≡ p.taken ++ left
  pub all : (left ≡ []) ⊎ (next_in p.held ≡ Broken)
  pub asked : Stops (next_in p.held)

-- two ways of cutting the same octets come to the same: the same texts, and the same answer in the end
pub record ComesToTheSame (p q : Passage) : Type 0 where
  pub given : p.given ≡ q.given
  pub answer : next_in p.held ≡ next_in q.held
