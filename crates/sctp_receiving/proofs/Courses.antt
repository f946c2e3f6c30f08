-- A receiver under any list of calls.
use Rattle.std.proofs.Common.{◌≡◌, ℕ, zero, suc, ◌+◌, ◌-◌, ◌%◌, ◌^◌, ◌<◌, ◌≤◌, Bool, true, false, List, [], ◌∷◌, ◌++◌}
use Rattle.std.proofs.Common.{Option, Some, None, length, refl, ap, sym, ◌∙◌, subst, arith, add-one, set, get_or}
use Rattle.std.proofs.Common.{replicate, inl, inr, ◌⊎◌, ◌≢◌, nat_eq, nat_le, nat_lt, length-append}
use Rattle.std.specs.Prelude.{◌&&◌, ◌||◌, is_some, if◌then◌else◌, All}
use Rattle.std.specs.List.{Contains}
use Rattle.std.proofs.lemmas.Bool.{cases_lt}
use Rattle.std.proofs.lemmas.Bool.Decides.{nat_tests}
use Rattle.std.proofs.lemmas.Grind.{get_or-set_at}
use Rattle.std.proofs.lemmas.List.{map-append, length-set, get_or-set_same, get_or-set_other, get_or-replicate}
use Rattle.std.proofs.lemmas.List.{length-replicate}
use Rattle.std.proofs.lemmas.List.Elements.{All-append, All-weaker, All-nil, Contains-append_left, Contains-append_right}
use Rattle.sctp_receiving.specs.Tsn.{next_tsn, previous_tsn, steps_between}
use Rattle.sctp_receiving.specs.Pieces.{Piece, Partial}
use Rattle.sctp_receiving.specs.Consuming.{Told, consume}
use Rattle.sctp_receiving.specs.Receiver.{Receiver, piece_at, ahead, is_held, standing}
use Rattle.sctp_receiving.specs.Receiver.{next_held, taken, fits}
use Rattle.sctp_receiving.specs.Courses.{Chunk, Call, Hears, TakesNext, Reports, IsCall, AreCalls, Course, first_course, consuming}
use Rattle.sctp_receiving.specs.Courses.{arrived, after_hearing, after_taking, after_call, after_calls, tsn_of}
use Rattle.sctp_receiving.specs.Courses.{told_of, partial_of, IsInOrder, consumed_in_order}
use Rattle.sctp_receiving.specs.declared.standing.Standing.{Standing}
use Rattle.sctp_receiving.specs.declared.standing.Standing.TheVariants.{Next, Early, Again, Beyond}

-- ---- numbers

on-wire : (cum d : ℕ) → ((cum + 1) % 2 ^ 32 + d) % 2 ^ 32 ≡ (cum + (d + 1)) % 2 ^ 32
on-wire cum d = omega arith

in-place : (cum d : ℕ) → ((cum + 1) % 2 ^ 32 + d) % 256 ≡ (cum + (d + 1)) % 256
in-place cum d = omega arith

same-place : (cum : ℕ) → ((cum + 1) % 2 ^ 32 + 256) % 256 ≡ (cum + 1) % 2 ^ 32 % 256
same-place cum = omega arith

-- within the window each place has one TSN
pub one-tsn : (cum d tsn : ℕ) → cum < 2 ^ 32 → tsn < 2 ^ 32 → 1 ≤ d → d ≤ 256 →
    1 ≤ steps_between cum tsn → steps_between cum tsn ≤ 256 → (cum + d) % 256 ≡ tsn % 256 → tsn ≡ (cum + d) % 2 ^ 32
one-tsn cum d tsn c t l h i j e = omega arith

pub next-named : (cum tsn : ℕ) → cum < 2 ^ 32 → tsn < 2 ^ 32 → steps_between cum tsn ≡ 1 → tsn ≡ (cum + 1) % 2 ^ 32
next-named cum tsn c t e = omega arith

counted-on : (first n : ℕ) → ((first + 2 ^ 32 - 1 + n) % 2 ^ 32 + 1) % 2 ^ 32 ≡ (first + 2 ^ 32 - 1 + (n + 1)) % 2 ^ 32
counted-on first n = omega arith

counted : (first n : ℕ) → ((first + 2 ^ 32 - 1 + n) % 2 ^ 32 + 1) % 2 ^ 32 ≡ (first + n) % 2 ^ 32
counted first n = omega arith

-- ---- where a chunk is

next-only : (a b e : Bool) → (if a then Again else (if b then Next else (if e then Early else Beyond))) ≡ Next →
    (a ≡ false) × (b ≡ true)
next-only true b e h = absurd (cc)
next-only false true e h = (refl, refl)
next-only false false true h = absurd (cc)
next-only false false false h = absurd (cc)

early-only : (a b e : Bool) → (if a then Again else (if b then Next else (if e then Early else Beyond))) ≡ Early →
    (a ≡ false) × (b ≡ false) × (e ≡ true)
early-only true b e h = absurd (cc)
early-only false true e h = absurd (cc)
early-only false false true h = (refl, refl, refl)
early-only false false false h = absurd (cc)

neither : (x y z : Bool) → (x || y || z) ≡ false → (x ≡ false) × (y ≡ false) × (z ≡ false)
neither true y z h = absurd (cc)
neither false true z h = absurd (cc)
neither false false true h = absurd (cc)
neither false false false h = (refl, refl, refl)

both : (x y : Bool) → (x && y) ≡ true → (x ≡ true) × (y ≡ true)
both true true h = (refl, refl)
both true false h = absurd (cc)
both false y h = absurd (cc)

and-no : (x y : Bool) → (x && y) ≡ false → x ≡ true → y ≡ false
and-no true y h e = h
and-no false y h e = absurd (cc)

nothing-there : {A : Type 0} (o : Option A) → is_some o ≡ false → o ≡ None
nothing-there None h = refl
nothing-there (Some x) h = absurd (cc)

pub record IsNext (r : Receiver) (tsn : ℕ) : Type 0 where
  pub ahead_is : ahead r tsn ≡ 1
  pub free : piece_at r tsn ≡ None

pub stands-next : (r : Receiver) (tsn : ℕ) (p : Piece) → standing r tsn p ≡ Next → IsNext r tsn
stands-next r tsn p h =
    let parts = next-only (nat_eq (ahead r tsn) 0 || nat_le (2 ^ 31) (ahead r tsn) || is_held r tsn) (nat_eq (ahead r tsn) 1) (nat_le (ahead r tsn) 256 && fits r p) h in
    let one : ahead r tsn ≡ 1 = grind (arith, nat_tests, parts.1) in
    let none = neither (nat_eq (ahead r tsn) 0) (nat_le (2 ^ 31) (ahead r tsn)) (is_held r tsn) parts.0 in
    let near : nat_le (ahead r tsn) 256 ≡ true = rw one refl in
    record { ahead_is = one; free = nothing-there (piece_at r tsn) (and-no (nat_le (ahead r tsn) 256) (is_some (piece_at r tsn)) none.2 near) }

pub record IsEarly (r : Receiver) (tsn : ℕ) : Type 0 where
  pub above : 1 ≤ ahead r tsn
  pub within : ahead r tsn ≤ 256
  pub free : piece_at r tsn ≡ None

pub stands-early : (r : Receiver) (tsn : ℕ) (p : Piece) → standing r tsn p ≡ Early → IsEarly r tsn
stands-early r tsn p h =
    let parts = early-only (nat_eq (ahead r tsn) 0 || nat_le (2 ^ 31) (ahead r tsn) || is_held r tsn) (nat_eq (ahead r tsn) 1) (nat_le (ahead r tsn) 256 && fits r p) h in
    let none = neither (nat_eq (ahead r tsn) 0) (nat_le (2 ^ 31) (ahead r tsn)) (is_held r tsn) parts.0 in
    let near = both (nat_le (ahead r tsn) 256) (fits r p) parts.2 in
    record {
      above = grind (arith, nat_tests, none.0);
      within = grind (arith, nat_tests, near.0);
      free = nothing-there (piece_at r tsn) (and-no (nat_le (ahead r tsn) 256) (is_some (piece_at r tsn)) none.2 near.0);
    }

-- ---- chunks that are put together

told-more : (streams : ℕ) (partial : Option Partial) (chunks : List Chunk) (chunk : Chunk) →
    told_of streams partial (chunks ++ chunk ∷ [])
    ≡ told_of streams partial chunks ++ (consume streams chunk.piece (partial_of streams partial chunks)).told ∷ []
told-more streams partial [] chunk = refl
told-more streams partial (x ∷ xs) chunk =
    ap (λ (more : List Told). (consume streams x.piece partial).told ∷ more) (told-more streams (consume streams x.piece partial).left xs chunk)

partial-more : (streams : ℕ) (partial : Option Partial) (chunks : List Chunk) (chunk : Chunk) →
    partial_of streams partial (chunks ++ chunk ∷ []) ≡ (consume streams chunk.piece (partial_of streams partial chunks)).left
partial-more streams partial [] chunk = refl
partial-more streams partial (x ∷ xs) chunk = partial-more streams (consume streams x.piece partial).left xs chunk

-- ---- lists

-- two places are the same, or they aren't
pub apart : (m n : ℕ) → (m ≡ n) ⊎ (m ≢ n)
apart m n = elim (cases_lt m n) [
  | inl below ↦ inr (λ e. omega (arith, below, e))
  | inr above ↦ elim (cases_lt n m) [ inl over ↦ inr (λ e. omega (arith, over, e)) | inr under ↦ inl (omega (arith, above, under)) ]
]

abbrev pub chunk_of : ℕ → Piece → Chunk
chunk_of tsn p = record { tsn = tsn; piece = p }

single : (x : Chunk) → Contains (x ∷ []) x
single x = (0, omega arith, refl)

only : (P : Chunk → Type 0) (x : Chunk) → P x → All P (x ∷ [])
only P x h zero d l = h
only P x h (suc k) d l = absurd (omega (arith, l))

pub last_of : (came : List Chunk) (x : Chunk) → Contains (came ++ x ∷ []) x
last_of came x = Contains-append_right came (x ∷ []) x (single x)

-- ---- what holds of every course

-- what is held came, and its place tells its TSN
pub record Holds (held : List (Option Piece)) (cum : ℕ) (came : List Chunk) : Type 0 where
  pub came_so : (d : ℕ) (p : Piece) → 1 ≤ d → d ≤ 256 → get_or held ((cum + d) % 256) None ≡ Some p →
      Contains came (record { tsn = (cum + d) % 2 ^ 32; piece = p })

pub record IsCourse (streams first : ℕ) (c : Course) : Type 0 where
  pub streams_so : c.receiver.streams ≡ streams
  pub cumulative_so : c.receiver.cumulative ≡ (first + 2 ^ 32 - 1 + length c.consumed) % 2 ^ 32
  pub places : length c.receiver.held ≡ 256
  pub order : IsInOrder streams first c
  pub partial_so : c.receiver.partial ≡ partial_of streams None c.consumed
  pub holds : Holds c.receiver.held c.receiver.cumulative c.came

-- the next chunk leaves, and each other one is one step nearer
nearer : (held : List (Option Piece)) (cum : ℕ) (came : List Chunk) → Holds held cum came →
    get_or held ((cum + 1) % 2 ^ 32 % 256) None ≡ None → Holds held ((cum + 1) % 2 ^ 32) came
nearer held cum came h free = record {
  came_so = λ d p l m e.
      elim (cases_lt d 256) [
        | inl below ↦
            let there : get_or held ((cum + (d + 1)) % 256) None ≡ Some p = ap (λ (i : ℕ). get_or held i None) (sym (in-place cum d)) ∙ e in
            let found : Contains came (record { tsn = (cum + (d + 1)) % 2 ^ 32; piece = p }) = h.came_so (d + 1) p (omega arith) (omega arith) there in
            subst (λ (tsn : ℕ). Contains came (record { tsn = tsn; piece = p })) (sym (on-wire cum d)) found
        | inr last ↦
            let d-is : d ≡ 256 = omega arith in
            let here : get_or held (((cum + 1) % 2 ^ 32 + 256) % 256) None ≡ Some p = subst (λ (n : ℕ). get_or held (((cum + 1) % 2 ^ 32 + n) % 256) None ≡ Some p) d-is e in
            let gone : None ≡ Some p = sym free ∙ ap (λ (i : ℕ). get_or held i None) (sym (same-place cum)) ∙ here in
            absurd (cc)
      ];
}

-- a chunk is consumed
consumed-so : (streams first : ℕ) (c : Course) (held : List (Option Piece)) (chunk : Chunk) → IsCourse streams first c →
    chunk.tsn ≡ next_tsn c.receiver.cumulative → Contains c.came chunk → length held ≡ 256 →
    Holds held (next_tsn c.receiver.cumulative) c.came →
    IsCourse streams first (consuming chunk (taken (record c.receiver { held = held }) chunk.piece) c)
consumed-so streams first c held chunk s named came places holds = record {
  streams_so = s.streams_so;
  cumulative_so = rw (s.cumulative_so, length-append c.consumed (chunk ∷ [])) (counted-on first (length c.consumed));
  places = places;
  order = record {
    numbered =
        let number : chunk.tsn ≡ (first + length c.consumed) % 2 ^ 32 = named ∙ ap next_tsn s.cumulative_so ∙ counted first (length c.consumed) in
        rw (map-append tsn_of c.consumed (chunk ∷ []), length-append c.consumed (chunk ∷ []), add-one, s.order.numbered, number) refl;
    came = All-append (λ (x : Chunk). Contains c.came x) c.consumed (chunk ∷ []) s.order.came (only (λ (x : Chunk). Contains c.came x) chunk came);
    told = rw (s.order.told, s.partial_so, s.streams_so, told-more streams None c.consumed chunk) refl;
  };
  partial_so = rw (s.partial_so, s.streams_so, partial-more streams None c.consumed chunk) refl;
  holds = holds;
}

-- where a chunk goes into a place, the others stay
kept : (held : List (Option Piece)) (cum tsn : ℕ) (p : Piece) (came : List Chunk) → length held ≡ 256 → cum < 2 ^ 32 →
    tsn < 2 ^ 32 → 1 ≤ steps_between cum tsn → steps_between cum tsn ≤ 256 → Holds held cum came →
    Holds (set held (tsn % 256) (Some p)) cum (came ++ chunk_of tsn p ∷ [])
kept held cum tsn p came long c t low high h = record {
  came_so = λ d q l m e.
      elim (apart ((cum + d) % 256) (tsn % 256)) [
        | inl same ↦
            let here : get_or (set held (tsn % 256) (Some p)) ((cum + d) % 256) None ≡ Some p =
            get_or-set_at held (tsn % 256) ((cum + d) % 256) (Some p) None same (omega (arith, long)) in
            let alike : Some p ≡ Some q = sym here ∙ e in
            let piece : p ≡ q = cc in
            let number : tsn ≡ (cum + d) % 2 ^ 32 = one-tsn cum d tsn c t l m low high same in
            let chunk : chunk_of tsn p ≡ chunk_of ((cum + d) % 2 ^ 32) q =
            ap (λ (n : ℕ). chunk_of n p) number ∙ ap (λ (x : Piece). chunk_of ((cum + d) % 2 ^ 32) x) piece in
            subst (λ (x : Chunk). Contains (came ++ chunk_of tsn p ∷ []) x) chunk (last_of came (chunk_of tsn p))
        | inr other ↦
            let there : get_or held ((cum + d) % 256) None ≡ Some q =
            sym (get_or-set_other held (tsn % 256) ((cum + d) % 256) (Some p) None other) ∙ e in
            Contains-append_left came (chunk_of tsn p ∷ []) (chunk_of ((cum + d) % 2 ^ 32) q) (h.came_so d q l m there)
      ];
}

-- where a place is cleared, the others stay
cleared : (held : List (Option Piece)) (cum place : ℕ) (came : List Chunk) → length held ≡ 256 → place < 256 →
    Holds held cum came → Holds (set held place None) cum came
cleared held cum place came long l h = record {
  came_so = λ d q low high e.
      elim (apart ((cum + d) % 256) place) [
        | inl same ↦
            let here : get_or (set held place None) ((cum + d) % 256) None ≡ None =
            get_or-set_at held place ((cum + d) % 256) None None same (omega (arith, long)) in
            let gone : None ≡ Some q = sym here ∙ e in
            absurd (cc)
        | inr other ↦
            h.came_so d q low high (sym (get_or-set_other held place ((cum + d) % 256) None None other) ∙ e)
      ];
}

-- more came
more-came : (held : List (Option Piece)) (cum : ℕ) (came : List Chunk) (x : Chunk) → Holds held cum came →
    Holds held cum (came ++ x ∷ [])
more-came held cum came x h = record {
  came_so = λ d p l m e. Contains-append_left came (x ∷ []) (chunk_of ((cum + d) % 2 ^ 32) p) (h.came_so d p l m e);
}

arrived-so : (streams first : ℕ) (c : Course) (chunk : Chunk) → IsCourse streams first c → IsCourse streams first (arrived chunk c)
arrived-so streams first c chunk s = record {
  streams_so = s.streams_so;
  cumulative_so = s.cumulative_so;
  places = s.places;
  order = record {
    numbered = s.order.numbered;
    came = All-weaker (λ (x : Chunk). Contains c.came x) (λ (x : Chunk). Contains (c.came ++ chunk ∷ []) x)
        (λ x here. Contains-append_left c.came (chunk ∷ []) x here) c.consumed s.order.came;
    told = s.order.told;
  };
  partial_so = s.partial_so;
  holds = more-came c.receiver.held c.receiver.cumulative c.came chunk s.holds;
}

pub cum-fits : (streams first : ℕ) (c : Course) → IsCourse streams first c → c.receiver.cumulative < 2 ^ 32
cum-fits streams first c s = omega (arith, s.cumulative_so)

-- a TSN that came again is noted: nothing else changes
noted-so : (b : Bool) (streams first : ℕ) (c : Course) (more : List ℕ) → IsCourse streams first c →
    IsCourse streams first (record c { receiver = if b then record c.receiver { duplicates = more } else c.receiver })
noted-so true streams first c more s = record {
  streams_so = s.streams_so;
  cumulative_so = s.cumulative_so;
  places = s.places;
  order = record { numbered = s.order.numbered; came = s.order.came; told = s.order.told };
  partial_so = s.partial_so;
  holds = s.holds;
}
noted-so false streams first c more s = s

-- a chunk comes
hears-so : (stands : Standing) (streams first : ℕ) (c : Course) (chunk : Chunk) → chunk.tsn < 2 ^ 32 →
    standing c.receiver chunk.tsn chunk.piece ≡ stands → IsCourse streams first c →
    IsCourse streams first (after_hearing stands chunk c)
hears-so Next streams first c chunk t e s =
    let next : IsNext c.receiver chunk.tsn = stands-next c.receiver chunk.tsn chunk.piece e in
    let named : chunk.tsn ≡ next_tsn c.receiver.cumulative = next-named c.receiver.cumulative chunk.tsn (cum-fits streams first c s) t next.ahead_is in
    let free : get_or c.receiver.held ((c.receiver.cumulative + 1) % 2 ^ 32 % 256) None ≡ None =
    ap (λ (tsn : ℕ). get_or c.receiver.held (tsn % 256) None) (sym named) ∙ next.free in
    let more : IsCourse streams first (arrived chunk c) = arrived-so streams first c chunk s in
    consumed-so streams first (arrived chunk c) c.receiver.held chunk more named (last_of c.came chunk) s.places
    (nearer c.receiver.held c.receiver.cumulative (c.came ++ chunk ∷ []) more.holds free)
hears-so Early streams first c chunk t e s =
    let early : IsEarly c.receiver chunk.tsn = stands-early c.receiver chunk.tsn chunk.piece e in
    let more : IsCourse streams first (arrived chunk c) = arrived-so streams first c chunk s in
    record {
      streams_so = s.streams_so;
      cumulative_so = s.cumulative_so;
      places = length-set c.receiver.held (chunk.tsn % 256) (Some chunk.piece) ∙ s.places;
      order = record { numbered = more.order.numbered; came = more.order.came; told = more.order.told };
      partial_so = s.partial_so;
      holds = kept c.receiver.held c.receiver.cumulative chunk.tsn chunk.piece c.came s.places (cum-fits streams first c s) t early.above early.within s.holds;
    }
hears-so Again streams first c chunk t e s =
    noted-so (nat_lt (length c.receiver.duplicates) 20) streams first (arrived chunk c) (c.receiver.duplicates ++ chunk.tsn ∷ [])
    (arrived-so streams first c chunk s)
hears-so Beyond streams first c chunk t e s = arrived-so streams first c chunk s

-- the next one is taken, where it is held
takes-so : (next : Option Piece) (streams first : ℕ) (c : Course) → next_held c.receiver ≡ next → IsCourse streams first c →
    IsCourse streams first (after_taking next c)
takes-so None streams first c e s = s
takes-so (Some p) streams first c e s =
    let cum : ℕ = c.receiver.cumulative in
    let place : (cum + 1) % 2 ^ 32 % 256 ≡ (cum + 1) % 256 = omega arith in
    let there : get_or c.receiver.held ((cum + 1) % 256) None ≡ Some p = ap (λ (i : ℕ). get_or c.receiver.held i None) (sym place) ∙ e in
    let came : Contains c.came (chunk_of ((cum + 1) % 2 ^ 32) p) = s.holds.came_so 1 p (omega arith) (omega arith) there in
    let left : List (Option Piece) = set c.receiver.held ((cum + 1) % 2 ^ 32 % 256) None in
    let free : get_or left ((cum + 1) % 2 ^ 32 % 256) None ≡ None =
    get_or-set_same c.receiver.held ((cum + 1) % 2 ^ 32 % 256) None None (omega (arith, s.places)) in
    consumed-so streams first c left (chunk_of ((cum + 1) % 2 ^ 32) p) s refl came
    (length-set c.receiver.held ((cum + 1) % 2 ^ 32 % 256) None ∙ s.places)
    (nearer left cum c.came (cleared c.receiver.held cum ((cum + 1) % 2 ^ 32 % 256) c.came s.places (omega arith) s.holds) free)

pub call-so : (call : Call) (streams first : ℕ) (c : Course) → IsCall call → IsCourse streams first c →
    IsCourse streams first (after_call call c)
call-so (Hears chunk) streams first c t s =
    hears-so (standing c.receiver chunk.tsn chunk.piece) streams first c chunk t refl s
call-so TakesNext streams first c t s = takes-so (next_held c.receiver) streams first c refl s
call-so Reports streams first c t s = noted-so true streams first c [] s

pub calls-so : (calls : List Call) (streams first : ℕ) (c : Course) → AreCalls calls → IsCourse streams first c →
    IsCourse streams first (after_calls calls c)
calls-so [] streams first c t s = s
calls-so (call ∷ calls) streams first c t s =
    calls-so calls streams first (after_call call c) t.1 (call-so call streams first c t.0 s)

pub first-so : (streams first : ℕ) → IsCourse streams first (first_course streams first)
first-so streams first = record {
  streams_so = refl;
  cumulative_so = omega arith;
  places = length-replicate {A = Option Piece} 256 None;
  order = record { numbered = refl; came = All-nil (λ (x : Chunk). Contains [] x); told = refl };
  partial_so = refl;
  holds = record {
    came_so = λ d p l m e.
        let none : get_or {A = Option Piece} (replicate 256 None) ((previous_tsn first + d) % 256) None ≡ None =
        get_or-replicate {A = Option Piece} 256 ((previous_tsn first + d) % 256) None None (omega arith) in
        let gone : None ≡ Some p = sym none ∙ e in
        absurd (cc);
  };
}

pub in-order : consumed_in_order
in-order streams first calls fits are =
    (calls-so calls streams first (first_course streams first) are (first-so streams first)).order
