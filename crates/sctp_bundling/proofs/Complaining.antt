-- ERROR with the parameters that are to be reported.
use Rattle.std.proofs.Common.{◌≡◌, ℕ, ◌+◌, ◌<◌, ◌≤◌, List, [], ◌∷◌, ◌++◌, length, refl, ap, length-append, arith}
use Rattle.std.specs.Prelude.{replicate}
use Rattle.std.proofs.lemmas.List.Elements.{All-cons, All-nil}
use Rattle.std.proofs.lemmas.Bool.{le-leb}
use Rattle.sctp_codec.specs.Items.{ItemValue, IsItem, padding_behind, item_octets, padded_item, joined_items}
use Rattle.sctp_codec.specs.Packets.{ChunkValue, ErrorChunk, CookieEchoChunk}
use Rattle.sctp_codec.specs.Parameters.{unrecognized_parameters}
use Rattle.sctp_codec.specs.Writing.{IsChunk, chunk_item}
use Rattle.sctp_rules.specs.Opening.{echo_of, reports_of}
use Rattle.sctp_bundling.specs.Replies.{size_of, complaint_of}

abbrev complaint : List ItemValue → ChunkValue
complaint items = ErrorChunk (unrecognized_parameters items ∷ [])

-- an ERROR chunk has the octets of its cause, and the header of both
complaint-long : (items : List ItemValue) → 8 + length (joined_items items) ≤ size_of (complaint items)
complaint-long items =
    let value = joined_items items in
    let zeros = replicate (padding_behind (length (joined_items (unrecognized_parameters items ∷ [])))) 0 in
    let whole = length-append (item_octets (chunk_item (complaint items))) zeros in
    omega (arith, whole)

pub complaint-said : (items : List ItemValue) → size_of (complaint items) ≤ 520 → IsChunk (complaint items)
complaint-said items h =
    let long = complaint-long items in
    record {
      fields = All-cons IsItem (unrecognized_parameters items) [] (record { kind = omega arith; fits = omega (arith, long, h) }) (All-nil IsItem);
      fits = omega (arith, long, h);
    }

pub none-small : size_of (complaint []) ≡ 8
none-small = refl

pub some-complained : (items : List ItemValue) → 8 < size_of (complaint items) → complaint_of items ≡ complaint items ∷ []
some-complained [] h = absurd (omega (arith, h, none-small))
some-complained (item ∷ items) h = refl

pub none-complained : (items : List ItemValue) → size_of (complaint items) ≤ 8 → complaint_of items ≡ []
none-complained [] h = refl
none-complained (item ∷ []) h = absurd (omega (arith, h, complaint-long (item ∷ [])))
none-complained (item ∷ next ∷ items) h =
    let more = length-append (padded_item item) (joined_items (next ∷ items)) in
    absurd (omega (arith, h, more, complaint-long (item ∷ next ∷ items)))

reports-are : (items : List ItemValue) → complaint_of items ≡ reports_of items
reports-are [] = refl
reports-are (item ∷ items) = refl

pub echo-is : (cookie : List ℕ) (items : List ItemValue) → length cookie ≤ 660 →
    (CookieEchoChunk cookie ∷ []) ++ complaint_of items ≡ echo_of cookie items
echo-is cookie items short = rw (le-leb (length cookie) 660 short) (ap (λ (chunks : List ChunkValue). CookieEchoChunk cookie ∷ chunks) (reports-are items))

-- places and sizes, as numbers
pub fits-behind : (end count result size : ℕ) → end + 520 ≤ 1188 → count ≡ size → result ≡ 0 + size → result ≤ 0 + 520 → end + count ≤ 1188
fits-behind end count result size room same is most = omega (arith, room, same, is, most)

pub fits-packet : (end count result size : ℕ) → end + 520 ≤ 1188 → count ≡ size → result ≡ 0 + size → result ≤ 0 + 520 → end + count ≤ 1200
fits-packet end count result size room same is most = omega (arith, room, same, is, most)

pub at-most : (result size : ℕ) → result ≡ 0 + size → result ≤ 0 + 520 → size ≤ 520
at-most result size is most = omega (arith, is, most)

pub above : (result size : ℕ) → result ≡ 0 + size → 8 < result → 8 < size
above result size is big = omega (arith, is, big)
