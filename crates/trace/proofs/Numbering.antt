-- The numbers of packets, as frames pass.
use Rattle.std.proofs.Common.{◌≡◌, ◌≢◌, ℕ, ◌+◌, ◌%◌, ◌^◌, ◌<◌, ◌==◌, ◌&&◌, ◌⊎◌, ◌∙◌, Bool, true, false, inl, inr, List, [], ◌∷◌, ◌++◌, length, get_or, replicate, refl, sym, ap, arith}
use Rattle.std.proofs.Math.ListN.{set, length-set}
use Rattle.std.proofs.Math.Nat.{mod-add-mod}
use Rattle.std.proofs.Math.Bool.{and-true}
use Rattle.std.proofs.lemmas.List.{get_or-set_same, get_or-set_other, get_or-replicate}
use Rattle.std.proofs.lemmas.List.Sums.{sum_by_push}
use Rattle.std.proofs.lemmas.Bool.{and_right}
use Rattle.std.proofs.lemmas.Bool.Decides.{eqb_tells}
use Rattle.std.specs.declared.time.Duration.{Duration}
use Rattle.std.specs.Prelude.{cond, count_by, slice_index, slice_set}
use Rattle.trace.specs.declared.direction.Direction.{Direction}
use Rattle.trace.specs.declared.direction.Direction.TheVariants.{In, Out}
use Rattle.trace.specs.declared.packet_numbers.PacketNumbers.{PacketNumbers}
use Rattle.trace.specs.Captures.{Seen, Passed, FramePassed, PacketPassed, is_same, passed_on, next_number, number_at, IsBehind}

-- ---- before any frame

at-zero : (link : ℕ) (direction : Direction) → link < 256 →
    number_at link direction (record { incoming = replicate 256 0; outgoing = replicate 256 0 }) ≡ next_number link direction []
at-zero link In few = get_or-replicate 256 link 0 0 few
at-zero link Out few = get_or-replicate 256 link 0 0 few

pub behind_none : IsBehind (record { incoming = replicate 256 0; outgoing = replicate 256 0 }) []
behind_none = record { each = at-zero }

-- ---- one frame more

-- each link has a place in as many numbers as a changed list of them has
pub has_place : (numbers changed : List ℕ) (link place next : ℕ) → length changed ≡ 256 →
    changed ≡ set numbers place next → link < 256 → link < length numbers
has_place numbers changed link place next long e few =
    let same : length changed ≡ length numbers = ap length e ∙ length-set numbers place next in
    omega (arith, long, same, few)

-- the numbers of a direction after a packet of a link: its own is one more, the others stay
at-place : (numbers : List ℕ) (link other passed : ℕ) (b : Bool) →
    ((b ≡ true) × (link ≡ other)) ⊎ ((b ≡ false) × (link ≢ other)) → link < length numbers →
    slice_index numbers other ≡ passed % 2 ^ 32 →
    slice_index (slice_set numbers link ((slice_index numbers link + 1) % 2 ^ 32)) other ≡ (passed + cond b 1 0) % 2 ^ 32
at-place numbers link other passed b (inl h) few e =
    let next = (get_or numbers link 0 + 1) % 2 ^ 32 in
    let was : get_or numbers link 0 ≡ passed % 2 ^ 32 = ap (λ (k : ℕ). get_or numbers k 0) h.1 ∙ e in
    ap (λ (k : ℕ). get_or (set numbers link next) k 0) (sym h.1) ∙ get_or-set_same numbers link next 0 few
    ∙ ap (λ (n : ℕ). (n + 1) % 2 ^ 32) was ∙ mod-add-mod passed (2 ^ 32) 1
    ∙ ap (λ (t : Bool). (passed + cond t 1 0) % 2 ^ 32) (sym h.0)
at-place numbers link other passed b (inr h) few e =
    let next = (get_or numbers link 0 + 1) % 2 ^ 32 in
    let none : passed ≡ passed + 0 = omega arith in
    get_or-set_other numbers link other next 0 (λ same. h.1 (sym same)) ∙ e
    ∙ ap (λ (n : ℕ). n % 2 ^ 32) none ∙ ap (λ (t : Bool). (passed + cond t 1 0) % 2 ^ 32) (sym h.0)

-- a frame of the direction counts where it passed on the link
passed-there : (seen : Seen) (link other : ℕ) (direction : Direction) → is_same direction direction ≡ true →
    seen.link ≡ link → seen.direction ≡ direction → passed_on other direction (FramePassed seen) ≡ (link == other)
passed-there seen link other direction itself at way =
    ap (λ (l : ℕ). (l == other) && is_same seen.direction direction) at
    ∙ ap (λ (d : Direction). (link == other) && is_same d direction) way
    ∙ ap (λ (t : Bool). (link == other) && t) itself ∙ and-true (link == other)

-- one of the other direction doesn't
passed-elsewhere : (seen : Seen) (other : ℕ) (direction its : Direction) → is_same its direction ≡ false →
    seen.direction ≡ its → passed_on other direction (FramePassed seen) ≡ false
passed-elsewhere seen other direction its apart way =
    ap (λ (d : Direction). (seen.link == other) && is_same d direction) way
    ∙ ap (λ (t : Bool). (seen.link == other) && t) apart ∙ and_right (seen.link == other) false refl

-- the number after one more frame
numbered : (other : ℕ) (direction : Direction) (frames : List Passed) (seen : Passed) (b : Bool) →
    passed_on other direction seen ≡ b →
    next_number other direction (frames ++ seen ∷ [])
    ≡ (count_by (passed_on other direction) frames + cond b 1 0) % 2 ^ 32
numbered other direction frames seen b e =
    let counted = λ (s : Passed). cond (passed_on other direction s) 1 0 in
    ap (λ (n : ℕ). n % 2 ^ 32) (sum_by_push counted frames seen)
    ∙ ap (λ (t : Bool). (count_by (passed_on other direction) frames + cond t 1 0) % 2 ^ 32) e

same-number : (other : ℕ) (direction : Direction) (frames : List Passed) (seen : Passed) →
    passed_on other direction seen ≡ false →
    next_number other direction frames ≡ next_number other direction (frames ++ seen ∷ [])
same-number other direction frames seen e =
    let none : count_by (passed_on other direction) frames ≡ count_by (passed_on other direction) frames + 0 = omega arith in
    ap (λ (n : ℕ). n % 2 ^ 32) none ∙ sym (numbered other direction frames seen false e)

abbrev pub with_incoming : PacketNumbers → ℕ → PacketNumbers
with_incoming numbers link = record {
  incoming = slice_set numbers.incoming link ((slice_index numbers.incoming link + 1) % 2 ^ 32);
  outgoing = numbers.outgoing;
}

abbrev pub with_outgoing : PacketNumbers → ℕ → PacketNumbers
with_outgoing numbers link = record {
  incoming = numbers.incoming;
  outgoing = slice_set numbers.outgoing link ((slice_index numbers.outgoing link + 1) % 2 ^ 32);
}

pub behind_incoming : (numbers : PacketNumbers) (link : ℕ) (frames : List Passed) (seen : Seen) →
    link < length numbers.incoming → IsBehind numbers frames → seen.link ≡ link → seen.direction ≡ In →
    IsBehind (with_incoming numbers link) (frames ++ FramePassed seen ∷ [])
behind_incoming numbers link frames seen few h at way = record { each = each }
  where
    each : (other : ℕ) (direction : Direction) → other < 256 →
        number_at other direction (with_incoming numbers link) ≡ next_number other direction (frames ++ FramePassed seen ∷ [])
    each other In fits =
        at-place numbers.incoming link other (count_by (passed_on other In) frames) (link == other)
        (eqb_tells link other) few (h.each other In fits)
        ∙ sym (numbered other In frames (FramePassed seen) (link == other) (passed-there seen link other In refl at way))
    each other Out fits =
        h.each other Out fits ∙ same-number other Out frames (FramePassed seen) (passed-elsewhere seen other Out In refl way)

pub behind_outgoing : (numbers : PacketNumbers) (link : ℕ) (frames : List Passed) (seen : Seen) →
    link < length numbers.outgoing → IsBehind numbers frames → seen.link ≡ link → seen.direction ≡ Out →
    IsBehind (with_outgoing numbers link) (frames ++ FramePassed seen ∷ [])
behind_outgoing numbers link frames seen few h at way = record { each = each }
  where
    each : (other : ℕ) (direction : Direction) → other < 256 →
        number_at other direction (with_outgoing numbers link) ≡ next_number other direction (frames ++ FramePassed seen ∷ [])
    each other Out fits =
        at-place numbers.outgoing link other (count_by (passed_on other Out) frames) (link == other)
        (eqb_tells link other) few (h.each other Out fits)
        ∙ sym (numbered other Out frames (FramePassed seen) (link == other) (passed-there seen link other Out refl at way))
    each other In fits =
        h.each other In fits ∙ same-number other In frames (FramePassed seen) (passed-elsewhere seen other In Out refl way)

-- a packet that was on the wire takes no number
pub behind_packet : (numbers : PacketNumbers) (frames : List Passed) (time : Duration) (octets : List ℕ) →
    IsBehind numbers frames → IsBehind numbers (frames ++ PacketPassed time octets ∷ [])
behind_packet numbers frames time octets h = record {
  each = λ other direction fits.
      h.each other direction fits ∙ same-number other direction frames (PacketPassed time octets) refl;
}
