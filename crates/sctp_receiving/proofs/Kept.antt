-- What is held stays so until it is consumed.
use Rattle.std.proofs.Common.{◌≡◌, ◌≢◌, ℕ, ◌+◌, ◌%◌, ◌^◌, ◌<◌, ◌≤◌, Bool, true, false, List, [], ◌∷◌, ◌++◌}
use Rattle.std.proofs.Common.{Option, Some, None, length, refl, ap, sym, ◌∙◌, subst, arith, set, get_or, inl, inr, nat_lt}
use Rattle.std.specs.Prelude.{if◌then◌else◌}
use Rattle.std.specs.List.{Contains}
use Rattle.std.proofs.lemmas.List.{get_or-set_other}
use Rattle.std.proofs.lemmas.List.Elements.{Contains-append_left}
use Rattle.sctp_receiving.specs.Tsn.{next_tsn, steps_between}
use Rattle.sctp_receiving.specs.Pieces.{Piece, Partial}
use Rattle.sctp_receiving.specs.Receiver.{Receiver, standing, next_held}
use Rattle.sctp_receiving.specs.Courses.{Chunk, Call, Hears, TakesNext, Reports, IsCall, AreCalls, Course, first_course, after_hearing}
use Rattle.sctp_receiving.specs.Courses.{after_taking, after_call, after_calls, IsHeld, IsKept, held, consumed}
use Rattle.sctp_receiving.specs.Courses.{nothing_held_is_dropped}
use Rattle.sctp_receiving.specs.declared.standing.Standing.{Standing}
use Rattle.sctp_receiving.specs.declared.standing.Standing.TheVariants.{Next, Early, Again, Beyond}
use Rattle.sctp_receiving.proofs.Courses.{IsCourse, cum-fits, calls-so, call-so, first-so, IsNext, IsEarly, stands-next}
use Rattle.sctp_receiving.proofs.Courses.{stands-early, next-named, one-tsn, apart, chunk_of, last_of}

one-nearer : (cum tsn : ℕ) → cum < 2 ^ 32 → tsn < 2 ^ 32 → 1 ≤ steps_between cum tsn → steps_between cum tsn ≤ 256 →
    tsn ≢ (cum + 1) % 2 ^ 32 → 1 ≤ steps_between ((cum + 1) % 2 ^ 32) tsn
one-nearer cum tsn c t l m n = omega (arith, n)

still-near : (cum tsn : ℕ) → cum < 2 ^ 32 → tsn < 2 ^ 32 → 1 ≤ steps_between cum tsn → steps_between cum tsn ≤ 256 →
    tsn ≢ (cum + 1) % 2 ^ 32 → steps_between ((cum + 1) % 2 ^ 32) tsn ≤ 256
still-near cum tsn c t l m n = omega (arith, n)

-- another chunk was consumed, and this one is in its place
moved : (r : Receiver) (places : List (Option Piece)) (partial : Option Partial) (chunk : Chunk) → r.cumulative < 2 ^ 32 →
    chunk.tsn < 2 ^ 32 → IsHeld r chunk → chunk.tsn ≢ (r.cumulative + 1) % 2 ^ 32 →
    get_or places (chunk.tsn % 256) None ≡ Some chunk.piece →
    IsHeld (record r { cumulative = next_tsn r.cumulative; held = places; partial = partial }) chunk
moved r places partial chunk c t h n there = record {
  above = one-nearer r.cumulative chunk.tsn c t h.above h.within n;
  within = still-near r.cumulative chunk.tsn c t h.above h.within n;
  there = there;
}

noted : (b : Bool) (r : Receiver) (more : List ℕ) (chunk : Chunk) → IsHeld r chunk →
    IsHeld (if b then record r { duplicates = more } else r) chunk
noted true r more chunk h = record { above = h.above; within = h.within; there = h.there }
noted false r more chunk h = h

kept-hearing : (stands : Standing) (streams first : ℕ) (c : Course) (x chunk : Chunk) → x.tsn < 2 ^ 32 → chunk.tsn < 2 ^ 32 →
    standing c.receiver x.tsn x.piece ≡ stands → IsCourse streams first c → IsHeld c.receiver chunk →
    IsKept (after_hearing stands x c) chunk
kept-hearing Next streams first c x chunk t u e s h =
    let next : IsNext c.receiver x.tsn = stands-next c.receiver x.tsn x.piece e in
    let fits : c.receiver.cumulative < 2 ^ 32 = cum-fits streams first c s in
    let named : x.tsn ≡ (c.receiver.cumulative + 1) % 2 ^ 32 = next-named c.receiver.cumulative x.tsn fits t next.ahead_is in
    let other : chunk.tsn ≢ (c.receiver.cumulative + 1) % 2 ^ 32 =
    λ same.
    let gone : None ≡ Some chunk.piece = sym next.free ∙ ap (λ (tsn : ℕ). get_or c.receiver.held (tsn % 256) None) (named ∙ sym same) ∙ h.there in
    absurd (cc) in
    held (moved c.receiver c.receiver.held _ chunk fits u h other h.there)
kept-hearing Early streams first c x chunk t u e s h =
    let early : IsEarly c.receiver x.tsn = stands-early c.receiver x.tsn x.piece e in
    elim (apart (chunk.tsn % 256) (x.tsn % 256)) [
      | inl same ↦
          let gone : None ≡ Some chunk.piece = sym early.free ∙ ap (λ (i : ℕ). get_or c.receiver.held i None) (sym same) ∙ h.there in
          absurd (cc)
      | inr other ↦
          held (record {
            above = h.above;
            within = h.within;
            there = get_or-set_other c.receiver.held (x.tsn % 256) (chunk.tsn % 256) (Some x.piece) None other ∙ h.there;
          })
    ]
kept-hearing Again streams first c x chunk t u e s h =
    held (noted (nat_lt (length c.receiver.duplicates) 20) c.receiver (c.receiver.duplicates ++ x.tsn ∷ []) chunk h)
kept-hearing Beyond streams first c x chunk t u e s h = held (record { above = h.above; within = h.within; there = h.there })

kept-taking : (next : Option Piece) (streams first : ℕ) (c : Course) (chunk : Chunk) → chunk.tsn < 2 ^ 32 →
    next_held c.receiver ≡ next → IsCourse streams first c → IsHeld c.receiver chunk → IsKept (after_taking next c) chunk
kept-taking None streams first c chunk u e s h = held h
kept-taking (Some p) streams first c chunk u e s h =
    let cum : ℕ = c.receiver.cumulative in
    let fits : cum < 2 ^ 32 = cum-fits streams first c s in
    let place : (cum + 1) % 2 ^ 32 % 256 ≡ (cum + 1) % 256 = omega arith in
    elim (apart (chunk.tsn % 256) ((cum + 1) % 2 ^ 32 % 256)) [
      | inl same ↦
          let number : chunk.tsn ≡ (cum + 1) % 2 ^ 32 =
          one-tsn cum 1 chunk.tsn fits u (omega arith) (omega arith) h.above h.within (sym place ∙ sym same) in
          let alike : Some p ≡ Some chunk.piece = sym e ∙ ap (λ (i : ℕ). get_or c.receiver.held i None) (sym same) ∙ h.there in
          let piece : p ≡ chunk.piece = cc in
          let one : chunk_of ((cum + 1) % 2 ^ 32) p ≡ chunk =
          ap (λ (n : ℕ). chunk_of n p) (sym number) ∙ ap (λ (q : Piece). chunk_of chunk.tsn q) piece in
          consumed (subst (λ (x : Chunk). Contains (c.consumed ++ chunk_of ((cum + 1) % 2 ^ 32) p ∷ []) x) one
          (last_of c.consumed (chunk_of ((cum + 1) % 2 ^ 32) p)))
      | inr other ↦
          let apart-from : chunk.tsn ≢ (cum + 1) % 2 ^ 32 = λ same. other (ap (λ (tsn : ℕ). tsn % 256) same) in
          held (moved c.receiver (set c.receiver.held ((cum + 1) % 2 ^ 32 % 256) None) _ chunk fits u h apart-from
          (get_or-set_other c.receiver.held ((cum + 1) % 2 ^ 32 % 256) (chunk.tsn % 256) None None other ∙ h.there))
    ]

-- what was consumed stays so
still-hearing : (stands : Standing) (c : Course) (x chunk : Chunk) → Contains c.consumed chunk →
    Contains (after_hearing stands x c).consumed chunk
still-hearing Next c x chunk h = Contains-append_left c.consumed (x ∷ []) chunk h
still-hearing Early c x chunk h = h
still-hearing Again c x chunk h = h
still-hearing Beyond c x chunk h = h

still-taking : (next : Option Piece) (c : Course) (chunk : Chunk) → Contains c.consumed chunk →
    Contains (after_taking next c).consumed chunk
still-taking None c chunk h = h
still-taking (Some p) c chunk h = Contains-append_left c.consumed (chunk_of (next_tsn c.receiver.cumulative) p ∷ []) chunk h

kept-call : (call : Call) (streams first : ℕ) (c : Course) (chunk : Chunk) → IsCall call → chunk.tsn < 2 ^ 32 →
    IsCourse streams first c → IsKept c chunk → IsKept (after_call call c) chunk
kept-call (Hears x) streams first c chunk t u s (held h) =
    kept-hearing (standing c.receiver x.tsn x.piece) streams first c x chunk t u refl s h
kept-call (Hears x) streams first c chunk t u s (consumed h) =
    consumed (still-hearing (standing c.receiver x.tsn x.piece) c x chunk h)
kept-call TakesNext streams first c chunk t u s (held h) = kept-taking (next_held c.receiver) streams first c chunk u refl s h
kept-call TakesNext streams first c chunk t u s (consumed h) = consumed (still-taking (next_held c.receiver) c chunk h)
kept-call Reports streams first c chunk t u s (held h) = held (noted true c.receiver [] chunk h)
kept-call Reports streams first c chunk t u s (consumed h) = consumed h

kept-calls : (calls : List Call) (streams first : ℕ) (c : Course) (chunk : Chunk) → AreCalls calls → chunk.tsn < 2 ^ 32 →
    IsCourse streams first c → IsKept c chunk → IsKept (after_calls calls c) chunk
kept-calls [] streams first c chunk t u s h = h
kept-calls (call ∷ calls) streams first c chunk t u s h =
    kept-calls calls streams first (after_call call c) chunk t.1 u (call-so call streams first c t.0 s)
    (kept-call call streams first c chunk t.0 u s h)

pub never-dropped : nothing_held_is_dropped
never-dropped streams first calls more chunk fits are too u h =
    kept-calls more streams first (after_calls calls (first_course streams first)) chunk too u
    (calls-so calls streams first (first_course streams first) are (first-so streams first)) h
