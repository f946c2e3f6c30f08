-- The octets of a capture, as frames pass and are written.
use Rattle.std.proofs.Common.{◌≡◌, ℕ, ◌+◌, ◌<◌, List, [], ◌∷◌, ◌++◌, ◌∙◌, Option, None, Some, length, take, refl, ap, sym, subst, append_assoc, arith}
use Rattle.std.specs.Prelude.{Bool, true, false}
use Rattle.std.specs.declared.time.Duration.{Duration}
use Rattle.std.specs.Duration.{as_nanos}
use Rattle.trace.specs.declared.direction.Direction.{Direction}
use Rattle.std.specs.Io.KnownBytes.{Appends, Keeps}
use Rattle.std.proofs.lemmas.List.{append-nil, length-append, take-append-le}
use Rattle.std.proofs.Math.Seq.{take-length, take-append-add}
use Rattle.trace.proofs.Written.{written_kept}
use Rattle.trace.specs.Packets.{file_header, packet_octets, record_header}
use Rattle.trace.specs.Captures.{Seen, Passed, FramePassed, PacketPassed, packet_behind, wire_packet, entry_behind, packets_behind, captured, since_1970, next_number, CaptureOf, IsBehind, Captures, AppendsPart}

-- ---- one frame more

packets-more : (started : Duration) (before frames : List Passed) (seen : Passed) →
    packets_behind started before (frames ++ seen ∷ [])
    ≡ packets_behind started before frames ++ entry_behind started (before ++ frames) seen
packets-more started before [] seen =
    append-nil (entry_behind started before seen)
    ∙ ap (λ (bs : List Passed). entry_behind started bs seen) (sym (append-nil before))
packets-more started before (frame ∷ frames) seen =
    ap (λ (xs : List ℕ). entry_behind started before frame ++ xs)
    (packets-more started (before ++ frame ∷ []) frames seen)
    ∙ ap (λ (bs : List Passed). entry_behind started before frame
    ++ (packets_behind started (before ++ frame ∷ []) frames ++ entry_behind started bs seen))
    (append_assoc before (frame ∷ []) frames)
    ∙ sym (append_assoc (entry_behind started before frame) (packets_behind started (before ++ frame ∷ []) frames)
    (entry_behind started (before ++ frame ∷ frames) seen))

pub captured_more : (started : Duration) (frames : List Passed) (seen : Passed) →
    captured started (frames ++ seen ∷ []) ≡ captured started frames ++ entry_behind started frames seen
captured_more started frames seen =
    ap (λ (xs : List ℕ). file_header ++ xs) (packets-more started [] frames seen)
    ∙ sym (append_assoc file_header (packets_behind started [] frames) (entry_behind started frames seen))

pub captured_none : (started : Duration) → captured started [] ≡ file_header
captured_none started = append-nil file_header

-- ---- what a writer has

-- what grew by some octets, and then by others, grew by both
pub grown_twice : (a b c : Option (List ℕ)) (xs ys : List ℕ) → Appends a b xs → Appends b c ys → Appends a c (xs ++ ys)
grown_twice None b c xs ys h k = tt
grown_twice (Some old) None c xs ys h k = absurd h
grown_twice (Some old) (Some mid) None xs ys h k = absurd k
grown_twice (Some old) (Some mid) (Some new) xs ys h k =
    k ∙ ap (λ (zs : List ℕ). zs ++ ys) h ∙ append_assoc old xs ys

unchanged_appends : (old new : Option (List ℕ)) → new ≡ old → Appends old new []
unchanged_appends old new e = subst (λ (w : Option (List ℕ)). Appends old w []) (sym e) (itself old)
  where
    itself : (w : Option (List ℕ)) → Appends w w []
    itself None = tt
    itself (Some xs) = sym (append-nil xs)

-- what grew by octets grew by as many of them as there are
pub written_whole : (old new : Option (List ℕ)) (xs : List ℕ) → Appends old new xs → Appends old new (take (length xs) xs)
written_whole old new xs h = subst (λ (ys : List ℕ). Appends old new ys) (sym (take-length xs)) h

-- ---- an output

-- one that didn't fail in the end hadn't failed before
pub not_before : {O : Type 0} (failed : O → Bool) (old new : O) → (failed old ≡ true → new ≡ old) →
    failed new ≡ false → failed old ≡ false
not_before {O = O} failed old new ended going = by_test (failed old) refl
  where
    by_test : (b : Bool) → failed old ≡ b → failed old ≡ false
    by_test false e = e
    by_test true e = ap failed (sym (ended e)) ∙ going

-- a write leaves the first of the octets, however it ends
pub front_written : {O : Type 0} (written : O → Option (List ℕ)) (failed : O → Bool) (old new : O) (xs : List ℕ) →
    (failed new ≡ false → Appends (written old) (written new) xs) →
    (failed old ≡ false → failed new ≡ true → AppendsPart (written old) (written new) xs) →
    (failed old ≡ true → new ≡ old) → (count : ℕ) × Appends (written old) (written new) (take count xs)
front_written {O = O} written failed old new xs all part ended = by_tests (failed old) (failed new) refl refl
  where
    by_tests : (b c : Bool) → failed old ≡ b → failed new ≡ c →
        (count : ℕ) × Appends (written old) (written new) (take count xs)
    by_tests b false e k = (length xs, written_whole (written old) (written new) xs (all k))
    by_tests false true e k = let some = part e k in (some.0, some.2)
    by_tests true true e k = (0, unchanged_appends (written old) (written new) (ap written (ended e)))

-- the same of other octets that are these, after a flush
pub front_kept : (old mid new : Option (List ℕ)) (xs ys : List ℕ) → xs ≡ ys →
    (count : ℕ) × Appends old mid (take count xs) → Keeps mid new → (count : ℕ) × Appends old new (take count ys)
front_kept old mid new xs ys e front keeps =
    let same = subst (λ (zs : List ℕ). (count : ℕ) × Appends old mid (take count zs)) e front in
    (same.0, written_kept old mid new (take same.0 ys) same.1 keeps)

-- the packet of a frame was written
pub packet_written : (old new : Option (List ℕ)) (started time sum : Duration) (link : ℕ) (direction : Direction)
    (number : ℕ) (frames : List Passed) (frame text : List ℕ) → as_nanos sum ≡ since_1970 started time →
    number ≡ next_number link direction frames →
    text ≡ packet_octets (as_nanos sum) link direction number frame → Appends old new text →
    Appends old new (packet_behind started frames (record { time = time; link = link; direction = direction; frame = frame }))
packet_written old new started time sum link direction number frames frame text at counted is h =
    subst (λ (xs : List ℕ). Appends old new xs)
    (is ∙ ap (λ (n : ℕ). packet_octets n link direction number frame) at
    ∙ ap (λ (n : ℕ). packet_octets (since_1970 started time) link direction n frame) counted) h

-- ---- a packet that was on the wire

-- the header and then the packet are both
pub wire_written : (a b c : Option (List ℕ)) (started time sum : Duration) (header octets : List ℕ) →
    as_nanos sum ≡ since_1970 started time → header ≡ record_header (as_nanos sum) (length octets) →
    Appends a b header → Appends b c octets → Appends a c (wire_packet started time octets)
wire_written a b c started time sum header octets at is first second =
    subst (λ (xs : List ℕ). Appends a c (xs ++ octets))
    (is ∙ ap (λ (n : ℕ). record_header n (length octets)) at) (grown_twice a b c header octets first second)

-- the first of a front are the first of all
pub part_of_front : (a b : Option (List ℕ)) (xs ys : List ℕ) → AppendsPart a b xs → AppendsPart a b (xs ++ ys)
part_of_front a b xs ys h = (
  h.0,
  omega (arith, length-append xs ys, h.1),
  subst (λ (zs : List ℕ). Appends a b zs) (sym (take-append-le h.0 xs ys (omega (arith, h.1)))) h.2,
)

-- a front and the first of the rest are the first of all
pub part_of_rest : (a b c : Option (List ℕ)) (xs ys : List ℕ) → Appends a b xs → AppendsPart b c ys →
    AppendsPart a c (xs ++ ys)
part_of_rest a b c xs ys h k = (
  length xs + k.0,
  omega (arith, length-append xs ys, k.1),
  subst (λ (zs : List ℕ). Appends a c zs) (sym (take-append-add xs ys k.0)) (grown_twice a b c xs (take k.0 ys) h k.2),
)

-- both writes of an output, of which one failed
pub wire_cut : {O : Type 0} (written : O → Option (List ℕ)) (failed : O → Bool) (old mid new : O)
    (started time sum : Duration) (header octets : List ℕ) →
    as_nanos sum ≡ since_1970 started time → header ≡ record_header (as_nanos sum) (length octets) →
    failed old ≡ false → failed new ≡ true →
    (failed mid ≡ false → Appends (written old) (written mid) header) →
    (failed old ≡ false → failed mid ≡ true → AppendsPart (written old) (written mid) header) →
    (failed mid ≡ false → failed new ≡ true → AppendsPart (written mid) (written new) octets) →
    (failed mid ≡ true → new ≡ mid) → AppendsPart (written old) (written new) (wire_packet started time octets)
wire_cut {O = O} written failed old mid new started time sum header octets at is going failing all part rest ended =
    subst (λ (xs : List ℕ). AppendsPart (written old) (written new) (xs ++ octets))
    (is ∙ ap (λ (n : ℕ). record_header n (length octets)) at) (by_test (failed mid) refl)
  where
    by_test : (b : Bool) → failed mid ≡ b → AppendsPart (written old) (written new) (header ++ octets)
    by_test false e =
        part_of_rest (written old) (written mid) (written new) header octets (all e) (rest e failing)
    by_test true e =
        part_of_front (written old) (written new) header octets
        (subst (λ (o : O). AppendsPart (written old) (written o) header) (sym (ended e)) (part going e))

-- ---- a capture

pub begun : {O : Type 0} (written : O → Option (List ℕ)) (before : Option (List ℕ)) (capture : CaptureOf O) →
    Appends before (written capture.output) file_header → IsBehind capture.numbers [] →
    Captures written before capture []
begun written before capture octets numbers = record {
  octets = rw (captured_none capture.started) octets;
  numbers = numbers;
}

pub gone_on : {O : Type 0} (written : O → Option (List ℕ)) (before : Option (List ℕ)) (old new : CaptureOf O)
    (frames : List Passed) (seen : Passed) → Captures written before old frames → new.started ≡ old.started →
    Appends (written old.output) (written new.output) (entry_behind old.started frames seen) →
    IsBehind new.numbers (frames ++ seen ∷ []) → Captures written before new (frames ++ seen ∷ [])
gone_on written before old new frames seen h started octets numbers = record {
  octets = rw (started, captured_more old.started frames seen)
      (grown_twice before (written old.output) (written new.output) (captured old.started frames)
      (entry_behind old.started frames seen) h.octets octets);
  numbers = numbers;
}
