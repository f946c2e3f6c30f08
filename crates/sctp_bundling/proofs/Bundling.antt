-- Chunks that are bundled into packets.
use Rattle.std.proofs.Common.{◌≡◌, ℕ, ◌+◌, ◌<◌, ◌≤◌, Bool, true, false, List, [], ◌∷◌, ◌++◌, length, map, refl, sym, ap, subst, ◌∙◌, length-append, arith}
use Rattle.std.specs.Prelude.{sum_by, if◌then◌else◌, replicate}
use Rattle.std.proofs.lemmas.Bool.{le-ltb, lt-ltb}
use Rattle.std.proofs.lemmas.List.{append_assoc, append-nil, map-append}
use Rattle.std.proofs.lemmas.List.Sums.{sum_by-cons, sum_by-append}
use Rattle.sctp_codec.specs.Items.{item_octets, padding_behind}
use Rattle.sctp_codec.specs.Packets.{ChunkValue}
use Rattle.sctp_codec.specs.Writing.{chunk_item, chunk_octets, value_octets, header_octets, headed}
use Rattle.sctp_rules.specs.Settings.{Address}
use Rattle.sctp_rules.specs.State.{Told, Datagram}
use Rattle.sctp_rules.specs.Sending.{closed, bundled}
use Rattle.sctp_bundling.specs.Replies.{size_of}
use Rattle.sctp_bundling.specs.ChunkRows.{row_of, packet_text}
use Rattle.sctp_bundling.specs.Watching.{Sent, Puts}
use Rattle.sctp_bundling.specs.Bundling.{Bundle, Draft, bundle, behind_packet, is_full_for, room_for, draft_of, IsBundled, HasMadeRoom, Adds}
use Rattle.sctp_bundling.specs.Ways.{Way, packet_by, packet_on}
use Rattle.sctp_bundling.proofs.Giving.{puts-then, puts-none}
use Rattle.sctp_bundling.proofs.Rows.{row-length, row-more, row-none, packet-text}

-- ---- sizes

pub draft-long : (w : Way) (chunks : List ChunkValue) → length (draft_of w chunks) ≡ 12 + sum_by size_of chunks
unfolding draft_of
draft-long w chunks =
    let whole = length-append (header_octets w.source w.destination w.tag 0) (row_of chunks) in
    omega (arith, whole, row-length chunks)

chunk-some : (chunk : ChunkValue) → 4 ≤ size_of chunk
chunk-some chunk =
    let whole = length-append (item_octets (chunk_item chunk)) (replicate (padding_behind (length (value_octets chunk))) 0) in
    omega (arith, whole)

draft-more : (w : Way) (chunks : List ChunkValue) (chunk : ChunkValue) → draft_of w (chunks ++ chunk ∷ []) ≡ draft_of w chunks ++ chunk_octets chunk
unfolding draft_of
draft-more w chunks chunk =
    let header = header_octets w.source w.destination w.tag 0 in
    ap (λ (t : List ℕ). header ++ t) (row-more chunks chunk) ∙ sym (append_assoc header (row_of chunks) (chunk_octets chunk))

pub draft-none : (w : Way) → header_octets w.source w.destination w.tag 0 ≡ draft_of w []
unfolding draft_of
draft-none w =
    let header = header_octets w.source w.destination w.tag 0 in
    sym (ap (λ (t : List ℕ). header ++ t) row-none ∙ append-nil header)

-- a packet that has begun
abbrev drafted : Way → List ℕ → ℕ → Draft
drafted w text end = record { way = w; text = text; end = end }

pub draft-is : (w : Way) (text chunks : List ℕ) (end : ℕ) → text ≡ chunks → end ≡ 12 → drafted w text end ≡ drafted w chunks 12
draft-is w text chunks end e f = ap (λ (t : List ℕ). drafted w t end) e ∙ ap (drafted w chunks) f

-- chunks after the header
pub draft-front : (w : Way) (chunks : List ChunkValue) (t u front : List ℕ) → t ≡ draft_of w [] → u ≡ t ++ front → front ≡ row_of chunks → u ≡ draft_of w chunks
unfolding draft_of
draft-front w chunks t u front e m f =
    let header = header_octets w.source w.destination w.tag 0 in
    m ∙ ap (λ (x : List ℕ). x ++ front) (e ∙ sym (draft-none w)) ∙ ap (λ (x : List ℕ). header ++ x) f

draft-finished : (w : Way) (waiting : List ChunkValue) (old new : List ℕ)
    → ((source destination tag : ℕ) (chunks : List ℕ) → old ≡ header_octets source destination tag 0 ++ chunks → new ≡ headed source destination tag chunks)
    → old ≡ draft_of w waiting → new ≡ packet_text (packet_by w waiting)
unfolding draft_of
draft-finished w waiting old new finish e =
    finish w.source w.destination w.tag (row_of waiting) e ∙ packet-text w.source w.destination w.tag waiting

-- the packet that is written goes out
pub draft-sent : {W : Type 0} (has : W → List Sent → List Told → Type 0) (w : Way) (before after : W) (waiting : List ChunkValue) (old new : List ℕ) (to : Address)
    → ((source destination tag : ℕ) (chunks : List ℕ) → old ≡ header_octets source destination tag 0 ++ chunks → new ≡ headed source destination tag chunks)
    → ((sent : List Sent) (told : List Told) → has before sent told → has after (sent ++ record { octets = new; to = to } ∷ []) told)
    → to ≡ w.to → old ≡ draft_of w waiting → Puts has before after (packet_on w waiting ∷ [])
draft-sent has w before after waiting old new to finish s here e = record {
  more = λ sent told is.
      subst (λ (a : Address). has after (sent ++ record { octets = packet_text (packet_by w waiting); to = a } ∷ []) told) here
      (subst (λ (t : List ℕ). has after (sent ++ record { octets = t; to = to } ∷ []) told) (draft-finished w waiting old new finish e) (s sent told is));
}

pub rest-some : {W : Type 0} (has : W → List Sent → List Told → Type 0) (w : Way) (before after : W) (waiting : List ChunkValue) (end : ℕ) (text : List ℕ) → length text ≡ end → 12 < end
    → text ≡ draft_of w waiting → Puts has before after (packet_on w waiting ∷ []) → Puts has before after (map (packet_on w) (closed waiting))
rest-some has w before after [] end text l some e s = absurd (omega (arith, l, some, ap length e, draft-long w []))
rest-some has w before after (chunk ∷ chunks) end text l some e s = s

pub rest-none : {W : Type 0} (has : W → List Sent → List Told → Type 0) (w : Way) (watch : W) (waiting : List ChunkValue) (end : ℕ) (text : List ℕ) → length text ≡ end → end ≤ 12
    → text ≡ draft_of w waiting → Puts has watch watch (map (packet_on w) (closed waiting))
rest-none has w watch [] end text l none e = puts-none has watch
rest-none has w watch (chunk ∷ chunks) end text l none e =
    absurd (omega (arith, l, none, ap length e, draft-long w (chunk ∷ chunks), sum_by-cons size_of chunk chunks, chunk-some chunk))

-- ---- room

pub room-left : (waiting : List ChunkValue) (end octets : ℕ) → end ≡ 12 + sum_by size_of waiting → end + octets ≤ 1200 → room_for waiting octets ≡ record { full = []; waiting = waiting }
room-left [] end octets e l = refl
room-left (chunk ∷ chunks) end octets e l = rw (le-ltb 1200 (12 + sum_by size_of (chunk ∷ chunks) + octets) (omega (arith, e, l))) refl

pub room-over : (waiting : List ChunkValue) (end octets : ℕ) → end ≡ 12 + sum_by size_of waiting → 1200 < end + octets → octets ≤ 1188 → room_for waiting octets ≡ record { full = waiting ∷ []; waiting = [] }
room-over [] end octets e l m = absurd (omega (arith, e, l, m))
room-over (chunk ∷ chunks) end octets e l m = rw (lt-ltb 1200 (12 + sum_by size_of (chunk ∷ chunks) + octets) (omega (arith, e, l))) refl

pub room-kept : {W : Type 0} (has : W → List Sent → List Told → Type 0) (w : Way) (watch : W) (text : List ℕ) (end octets : ℕ) → length text ≡ end → end + octets ≤ 1200
    → HasMadeRoom has w watch watch text text octets
room-kept has w watch text end octets l m = record {
  made = λ waiting e.
      subst (λ (b : Bundle). IsBundled has w watch watch text b) (sym (room-left waiting end octets (sym l ∙ ap length e ∙ draft-long w waiting) m))
      (record { text_is = e; full_out = puts-none has watch });
}

pub room-begun : {W : Type 0} (has : W → List Sent → List Told → Type 0) (w : Way) (before after : W) (text new : List ℕ) (end octets : ℕ) → length text ≡ end → 1200 < end + octets → octets ≤ 1188
    → ((waiting : List ChunkValue) → text ≡ draft_of w waiting → Puts has before after (packet_on w waiting ∷ [])) → new ≡ draft_of w []
    → HasMadeRoom has w before after text new octets
room-begun has w before after text new end octets l m few s n = record {
  made = λ waiting e.
      subst (λ (b : Bundle). IsBundled has w before after new b) (sym (room-over waiting end octets (sym l ∙ ap length e ∙ draft-long w waiting) m few))
      (record { text_is = n; full_out = s waiting e });
}

-- ---- one chunk

abbrev with_chunk : Bundle → ChunkValue → Bundle
with_chunk b chunk = record { full = b.full; waiting = b.waiting ++ chunk ∷ [] }

one-by : (b : Bool) (waiting : List ChunkValue) (chunk : ChunkValue) →
    (if b then behind_packet waiting (bundle (chunk ∷ []) []) else bundle (waiting ++ chunk ∷ []) [])
    ≡ with_chunk (if b then record { full = waiting ∷ []; waiting = [] } else record { full = []; waiting = waiting }) chunk
unfolding bundle
one-by true waiting chunk = refl
one-by false waiting chunk = refl

bundle-one : (waiting : List ChunkValue) (chunk : ChunkValue) → bundle waiting (chunk ∷ []) ≡ with_chunk (room_for waiting (size_of chunk)) chunk
unfolding bundle
bundle-one waiting chunk = one-by (is_full_for waiting chunk) waiting chunk

-- a chunk that is written after the room for it
pub chunk-added : {W : Type 0} (has : W → List Sent → List Told → Type 0) (before after : W) (was mid here is : Draft) (octets : ℕ) (chunk : ChunkValue)
    → here ≡ mid → mid.way ≡ was.way → is.way ≡ here.way → HasMadeRoom has was.way before after was.text mid.text octets → octets ≡ size_of chunk
    → is.text ≡ here.text ++ chunk_octets chunk → Adds has before after was is (chunk ∷ [])
chunk-added has before after was mid here is octets chunk opened way kept h same text = record {
  way_is = kept ∙ ap (λ (d : Draft). d.way) opened ∙ way;
  bundled = λ waiting e.
      let room = room_for waiting (size_of chunk) in
      let made : IsBundled has was.way before after mid.text room = subst (λ (n : ℕ). IsBundled has was.way before after mid.text (room_for waiting n)) same (h.made waiting e) in
      let whole : IsBundled has was.way before after is.text (with_chunk room chunk) = record {
        text_is = text ∙ ap (λ (d : Draft). d.text ++ chunk_octets chunk) opened ∙ ap (λ (t : List ℕ). t ++ chunk_octets chunk) made.text_is ∙ sym (draft-more was.way room.waiting chunk);
        full_out = made.full_out;
      } in
      subst (λ (b : Bundle). IsBundled has was.way before after is.text b) (sym (bundle-one waiting chunk)) whole;
}

-- ---- chunks after others

abbrev joined : Bundle → Bundle → Bundle
joined b c = record { full = b.full ++ c.full; waiting = c.waiting }

join-by : (b : Bool) (packet : List ChunkValue) (full left full_all left_all : Bundle) (ys : List ChunkValue)
    → full_all ≡ joined full (bundle full.waiting ys) → left_all ≡ joined left (bundle left.waiting ys)
    → (if b then behind_packet packet full_all else left_all)
    ≡ joined (if b then behind_packet packet full else left) (bundle (if b then behind_packet packet full else left).waiting ys)
join-by true packet full left full_all left_all ys p q = ap (behind_packet packet) p
join-by false packet full left full_all left_all ys p q = q

bundle-append : (waiting xs ys : List ChunkValue) → bundle waiting (xs ++ ys) ≡ joined (bundle waiting xs) (bundle (bundle waiting xs).waiting ys)
unfolding bundle
bundle-append waiting [] ys = refl
bundle-append waiting (x ∷ xs) ys =
    join-by (is_full_for waiting x) waiting (bundle (x ∷ []) xs) (bundle (waiting ++ x ∷ []) xs) (bundle (x ∷ []) (xs ++ ys)) (bundle (waiting ++ x ∷ []) (xs ++ ys)) ys
    (bundle-append (x ∷ []) xs ys) (bundle-append (waiting ++ x ∷ []) xs ys)

pub puts-more : {W : Type 0} (has : W → List Sent → List Told → Type 0) (w : Way) (before between after : W) (xs ys : List (List ChunkValue))
    → Puts has before between (map (packet_on w) xs) → Puts has between after (map (packet_on w) ys) → Puts has before after (map (packet_on w) (xs ++ ys))
puts-more has w before between after xs ys p q =
    subst (λ (ds : List Datagram). Puts has before after ds) (sym (map-append (packet_on w) xs ys)) (puts-then has before between after (map (packet_on w) xs) (map (packet_on w) ys) p q)

pub adds-then : {W : Type 0} (has : W → List Sent → List Told → Type 0) (before between after : W) (d e f : Draft) (xs ys : List ChunkValue)
    → Adds has before between d e xs → Adds has between after e f ys → Adds has before after d f (xs ++ ys)
adds-then has before between after d e f xs ys b c = record {
  way_is = c.way_is ∙ b.way_is;
  bundled = λ waiting is.
      let middle = bundle waiting xs in
      let first : IsBundled has d.way before between e.text middle = b.bundled waiting is in
      let last = bundle middle.waiting ys in
      let second : IsBundled has d.way between after f.text last =
      subst (λ (w : Way). IsBundled has w between after f.text last) b.way_is (c.bundled middle.waiting (first.text_is ∙ ap (λ (w : Way). draft_of w middle.waiting) (sym b.way_is))) in
      let whole : IsBundled has d.way before after f.text (joined middle last) = record {
        text_is = second.text_is;
        full_out = puts-more has d.way before between after middle.full last.full first.full_out second.full_out;
      } in
      subst (λ (p : Bundle). IsBundled has d.way before after f.text p) (sym (bundle-append waiting xs ys)) whole;
}

pub adds-none : {W : Type 0} (has : W → List Sent → List Told → Type 0) (before : W) (d : Draft) → Adds has before before d d []
unfolding bundle
adds-none has before d = record {
  way_is = refl;
  bundled = λ waiting e. record { text_is = e; full_out = puts-none has before };
}

-- ---- all chunks, by the rule

bundled-by : (b : Bool) (packet : List ChunkValue) (full left : Bundle) (xs ys : List (List ChunkValue)) → xs ≡ full.full ++ closed full.waiting → ys ≡ left.full ++ closed left.waiting
    → (if b then packet ∷ xs else ys) ≡ (if b then behind_packet packet full else left).full ++ closed (if b then behind_packet packet full else left).waiting
bundled-by true packet full left xs ys p q = ap (λ (t : List (List ChunkValue)). packet ∷ t) p
bundled-by false packet full left xs ys p q = q

pub bundled-is : (waiting chunks : List ChunkValue) (octets : ℕ) → octets ≡ 12 + sum_by size_of waiting → bundled waiting octets chunks ≡ (bundle waiting chunks).full ++ closed (bundle waiting chunks).waiting
unfolding bundle
bundled-is waiting [] octets e = refl
bundled-is waiting (chunk ∷ chunks) octets e =
    let first : 12 + size_of chunk ≡ 12 + sum_by size_of (chunk ∷ []) = omega (arith, sum_by-cons size_of chunk []) in
    let more : 12 + sum_by size_of waiting + size_of chunk ≡ 12 + sum_by size_of (waiting ++ chunk ∷ []) = omega (arith, sum_by-append size_of waiting (chunk ∷ []), sum_by-cons size_of chunk []) in
    rw e (bundled-by (is_full_for waiting chunk) waiting (bundle (chunk ∷ []) chunks) (bundle (waiting ++ chunk ∷ []) chunks)
    (bundled (chunk ∷ []) (12 + size_of chunk) chunks) (bundled (waiting ++ chunk ∷ []) (12 + sum_by size_of waiting + size_of chunk) chunks)
    (bundled-is (chunk ∷ []) chunks (12 + size_of chunk) first) (bundled-is (waiting ++ chunk ∷ []) chunks (12 + sum_by size_of waiting + size_of chunk) more))

fits-by : (waiting : List ChunkValue) (chunk : ChunkValue) → sum_by size_of waiting + size_of chunk ≤ 1188 → is_full_for waiting chunk ≡ false
fits-by [] chunk m = refl
fits-by (first ∷ waiting) chunk m = le-ltb 1200 (12 + sum_by size_of (first ∷ waiting) + size_of chunk) (omega (arith, m))

-- chunks that fit into one packet
pub bundle-front : (waiting xs ys : List ChunkValue) → sum_by size_of waiting + sum_by size_of xs ≤ 1188 → bundle waiting (xs ++ ys) ≡ bundle (waiting ++ xs) ys
unfolding bundle
bundle-front waiting [] ys m = ap (λ (t : List ChunkValue). bundle t ys) (sym (append-nil waiting))
bundle-front waiting (x ∷ xs) ys m =
    let both = sum_by-cons size_of x xs in
    let more = sum_by-append size_of waiting (x ∷ []) in
    let one = sum_by-cons size_of x [] in
    rw (fits-by waiting x (omega (arith, both, m)))
    (bundle-front (waiting ++ x ∷ []) xs ys (omega (arith, both, more, one, m)) ∙ ap (λ (t : List ChunkValue). bundle t ys) (append_assoc waiting (x ∷ []) xs))
