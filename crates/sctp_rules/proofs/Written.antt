-- Chunks and packets that can be written.
use Rattle.std.proofs.Common.{◌≡◌, ◌≢◌, ℕ, zero, suc, ◌+◌, ◌-◌, ◌^◌, ◌<◌, ◌≤◌, arith, Bool, true, false, List, [], ◌∷◌, ◌++◌}
use Rattle.std.proofs.Common.{refl, ap, sym, subst, length, map, take, replicate, length-append, nat_le, nat_lt}
use Rattle.std.specs.Prelude.{All, ◌==◌, ◌&&◌, not, if◌then◌else◌}
use Rattle.std.proofs.lemmas.Bool.Decides.{nat_tests}
use Rattle.std.proofs.lemmas.List.{length-replicate, length-map}
use Rattle.std.proofs.lemmas.List.Elements.{All-nil, All-cons, All-head, All-tail, All-append, All-take, All-weaker}
use Rattle.sctp_codec.specs.Items.{ItemValue, IsItem, item_octets, padded_item, padded_items, padding_behind, joined_items}
use Rattle.sctp_codec.specs.Packets as packets
use Rattle.sctp_codec.specs.Packets.{ChunkValue, BlockValue}
use Rattle.sctp_codec.specs.Parameters.{CauseValue, cause_item, fitting, unrecognized_parameters, report_octets, reporting, reported_in}
use Rattle.sctp_codec.specs.Parameters.{InvalidParameter, UnresolvableAddress, answering, state_cookie, listing}
use Rattle.sctp_codec.proofs.AddressTexts.{joined-behind, listing-items, listing-size, listing-padded-size}
use Rattle.sctp_codec.specs.Reading.{type_of, has_type}
use Rattle.sctp_codec.specs.Writing.{IsChunk, IsPacket, IsBlock, chunk_item}
use Rattle.sctp_codec.proofs.ChunkTexts.{sack-length}
use Rattle.sctp_receiving.specs.Receiver.{Receiver}
use Rattle.sctp_receiving.specs.Receiver as receiving
use Rattle.sctp_receiving.specs.Sack.{run_from, block_from, blocks_from, blocks, is_held_ahead}
use Rattle.sctp_receiving.specs.declared.block.Block.{Block}
use Rattle.sctp_rules.specs.Settings.{Settings, Beginning}
use Rattle.sctp_rules.specs.State.{packet_to}
use Rattle.sctp_rules.specs.Ending as ending
use Rattle.sctp_rules.specs.Opening as opening
use Rattle.sctp_rules.specs.Data as data_rules
use Rattle.sctp_rules.specs.Sending as sending
use Rattle.sctp_rules.specs.WrittenPackets.{HasPorts, IsBeginning}

-- ---- a chunk that is next to others

pub record IsBundled (chunk : ChunkValue) : Type 0 where
  pub can : IsChunk chunk
  pub no_init : (type_of (chunk_item chunk) == 1) ≡ false
  pub no_init_ack : (type_of (chunk_item chunk) == 2) ≡ false

no-type : (kind : ℕ) (chunks : List ChunkValue) → All (λ chunk. (type_of (chunk_item chunk) == kind) ≡ false) chunks →
    has_type kind (map chunk_item chunks) ≡ false
no-type kind [] h = refl
no-type kind (chunk ∷ chunks) h =
    let P : ChunkValue → Type 0 = λ chunk. (type_of (chunk_item chunk) == kind) ≡ false in
    rw (All-head P chunk chunks h) (no-type kind chunks (All-tail P chunk chunks h))

pub packet-of : (c : Settings) (tag : ℕ) (chunks : List ChunkValue) → HasPorts c → tag < 2 ^ 32 → chunks ≢ [] → All IsBundled chunks →
    IsPacket (packet_to c tag chunks)
packet-of c tag chunks ports t some h =
    let one : has_type 1 (map chunk_item chunks) ≡ false =
    no-type 1 chunks (All-weaker IsBundled (λ chunk. (type_of (chunk_item chunk) == 1) ≡ false) (λ chunk b. b.no_init) chunks h) in
    let two : has_type 2 (map chunk_item chunks) ≡ false =
    no-type 2 chunks (All-weaker IsBundled (λ chunk. (type_of (chunk_item chunk) == 2) ≡ false) (λ chunk b. b.no_init_ack) chunks h) in
    record {
      source = ports.own;
      destination = ports.far;
      tag = t;
      chunks = All-weaker IsBundled IsChunk (λ chunk b. b.can) chunks h;
      some = some;
      bundled = rw (one, two) refl;
    }

pub only : (P : ChunkValue → Type 0) (chunk : ChunkValue) → P chunk → All P (chunk ∷ [])
only P chunk p = All-cons P chunk [] p (All-nil P)

pub packet-one : (c : Settings) (tag : ℕ) (chunk : ChunkValue) → HasPorts c → tag < 2 ^ 32 → IsBundled chunk →
    IsPacket (packet_to c tag (chunk ∷ []))
packet-one c tag chunk ports t b = packet-of c tag (chunk ∷ []) ports t (λ e. absurd (cc)) (only IsBundled chunk b)

-- ---- causes

pub abort-chunk : (cause : CauseValue) → length (cause_item cause).value < 2 ^ 15 → IsBundled (ending.abort_for cause)
abort-chunk cause h = record { can = record { fields = tt; fits = omega (arith, h) }; no_init = refl; no_init_ack = refl }

pub error-chunk : (item : ItemValue) → item.kind < 2 ^ 16 → length item.value < 2 ^ 15 → IsBundled (packets.ErrorChunk (item ∷ []))
error-chunk item k h = record {
  can = record { fields = All-cons IsItem item [] (record { kind = k; fits = omega (arith, h) }) (All-nil IsItem); fits = omega (arith, h) };
  no_init = refl;
  no_init_ack = refl;
}

no-address : (b : Bool) (name : List ℕ) → (b ≡ true → length name ≤ 255) →
    length (cause_item (if b then UnresolvableAddress name else InvalidParameter)).value < 2 ^ 15
no-address true name h = let l : length name ≤ 255 = h refl in omega (arith, l)
no-address false name h = omega arith

pub no-address-chunk : (name : List ℕ) → IsBundled (ending.abort_for (opening.no_address name))
no-address-chunk name =
    abort-chunk (opening.no_address name) (no-address (nat_le (length name) 255) name (λ e. grind (arith, nat_tests, e)))

-- ---- parameters that are reported

padded-more : (item : ItemValue) → length (item_octets item) ≤ length (padded_item item)
padded-more item =
    omega (arith, length-append (item_octets item) (replicate (padding_behind (length item.value)) 0))

joined-more : (item : ItemValue) (items : List ItemValue) →
    length (joined_items (item ∷ items)) ≤ length (padded_item item) + length (joined_items items)
joined-more item [] = omega (arith, padded-more item)
joined-more item (next ∷ items) = omega (arith, length-append (padded_item item) (joined_items (next ∷ items)))

fits-if : (b : Bool) (item : ItemValue) (rest : List ItemValue) (room : ℕ) → (b ≡ true → length (padded_item item) ≤ room) →
    length (joined_items rest) ≤ room - length (padded_item item) → length (joined_items (if b then item ∷ rest else [])) ≤ room
fits-if true item rest room h l = omega (arith, h refl, joined-more item rest, l)
fits-if false item rest room h l = omega arith

joined-fits : (items : List ItemValue) (room : ℕ) → length (joined_items (fitting room items)) ≤ room
joined-fits [] room = omega arith
joined-fits (item ∷ items) room =
    fits-if (nat_le (length (padded_item item)) room) item (fitting (room - length (padded_item item)) items) room
    (λ e. grind (arith, nat_tests, e)) (joined-fits items (room - length (padded_item item)))

pub report-chunk : (items : List ItemValue) →
    IsBundled (packets.ErrorChunk (unrecognized_parameters (fitting report_octets items) ∷ []))
report-chunk items =
    let l : length (joined_items (fitting report_octets items)) ≤ 512 = joined-fits items report_octets in
    error-chunk (unrecognized_parameters (fitting report_octets items)) (omega arith) (omega (arith, l))

items-if : (b : Bool) (item : ItemValue) (rest : List ItemValue) (room : ℕ) → room ≤ 2 ^ 15 → item.kind < 2 ^ 16 →
    (b ≡ true → length (padded_item item) ≤ room) → All IsItem rest → All IsItem (if b then item ∷ rest else [])
items-if true item rest room r k e h =
    All-cons IsItem item rest (record { kind = k; fits = omega (arith, r, e refl, padded-more item) }) h
items-if false item rest room r k e h = All-nil IsItem

items-fit : (items : List ItemValue) (room : ℕ) → room ≤ 2 ^ 15 → All (λ item. item.kind < 2 ^ 16) items → All IsItem (fitting room items)
items-fit [] room r h = All-nil IsItem
items-fit (item ∷ items) room r h =
    let P : ItemValue → Type 0 = λ item. item.kind < 2 ^ 16 in
    items-if (nat_le (length (padded_item item)) room) item (fitting (room - length (padded_item item)) items) room r
    (All-head P item items h) (λ e. grind (arith, nat_tests, e))
    (items-fit items (room - length (padded_item item)) (omega (arith, r)) (All-tail P item items h))

reporting-kinds : (items : List ItemValue) → All (λ item. item.kind < 2 ^ 16) (map reporting items)
reporting-kinds [] = All-nil (λ (item : ItemValue). item.kind < 2 ^ 16)
reporting-kinds (item ∷ items) =
    All-cons (λ (item : ItemValue). item.kind < 2 ^ 16) (reporting item) (map reporting items) (omega arith) (reporting-kinds items)

-- ---- INIT and INIT ACK

pub init-packet : (c : Settings) (b : Beginning) → HasPorts c → IsBeginning b →
    IsPacket (packet_to c 0 (packets.InitChunk (opening.init_of b (listing c.addresses)) ∷ []))
init-packet c b ports h =
    let many : length (joined_items (listing c.addresses)) ≤ 160 = listing-size c.addresses in
    record {
      source = ports.own;
      destination = ports.far;
      tag = omega arith;
      chunks = only IsChunk (packets.InitChunk (opening.init_of b (listing c.addresses))) (record {
        fields = record { tag = h.tag; window = omega arith; outgoing = omega arith; incoming = omega arith; first_tsn = h.first; parameters = listing-items c.addresses };
        fits = omega (arith, many);
      });
      some = λ e. absurd (cc);
      bundled = refl;
    }

pub answer-packet : (c : Settings) (tag : ℕ) (b : Beginning) (cookie : List ℕ) (parameters : List ItemValue) → HasPorts c → tag < 2 ^ 32 →
    IsBeginning b → length cookie ≤ 660 →
    IsPacket (packet_to c tag (packets.InitAckChunk (opening.init_of b (answering c.addresses cookie parameters)) ∷ []))
answer-packet c tag b cookie parameters ports t h l =
    let reports : List ItemValue = map reporting (reported_in parameters) in
    let first : ItemValue = record { kind = state_cookie; value = cookie } in
    let all : All IsItem (answering c.addresses cookie parameters) =
    All-append IsItem (listing c.addresses) (first ∷ fitting report_octets reports) (listing-items c.addresses)
    (All-cons IsItem first (fitting report_octets reports) (record { kind = omega arith; fits = omega (arith, l) })
    (items-fit reports report_octets (omega arith) (reporting-kinds (reported_in parameters)))) in
    let listed : length (padded_items (listing c.addresses)) ≤ 160 = listing-padded-size c.addresses in
    let behind = length-append (padded_items (listing c.addresses)) (joined_items (first ∷ fitting report_octets reports)) in
    let joined = ap length (joined-behind (listing c.addresses) first (fitting report_octets reports)) in
    let many : length (joined_items (fitting report_octets reports)) ≤ 512 = joined-fits reports report_octets in
    let more = joined-more first (fitting report_octets reports) in
    let pads = length-append (item_octets first) (replicate (padding_behind (length cookie)) 0) in
    let zeros = length-replicate {A = ℕ} (padding_behind (length cookie)) 0 in
    record {
      source = ports.own;
      destination = ports.far;
      tag = t;
      chunks = only IsChunk (packets.InitAckChunk (opening.init_of b (answering c.addresses cookie parameters))) (record {
        fields = record { tag = h.tag; window = omega arith; outgoing = omega arith; incoming = omega arith; first_tsn = h.first; parameters = all };
        fits = omega (arith, many, more, pads, zeros, l, listed, behind, joined);
      });
      some = λ e. absurd (cc);
      bundled = refl;
    }

-- ---- SACK

few-run-if : (b : Bool) (run many : ℕ) → run ≤ many → (if b then 1 + run else 0) ≤ suc many
few-run-if true run many l = omega (arith, l)
few-run-if false run many l = omega arith

few-run : (r : Receiver) (distance many : ℕ) → run_from r distance many ≤ many
unfolding run_from
few-run r distance zero = omega arith
few-run r distance (suc many) =
    few-run-if (is_held_ahead r distance) (run_from r (distance + 1) many) many (few-run r (distance + 1) many)

block-if : (b : Bool) (one : Block) (more : List Block) → (one.start < 2 ^ 16) × (one.end < 2 ^ 16) → All IsBlock (map data_rules.block_of more) →
    All IsBlock (map data_rules.block_of ((if b then one ∷ [] else []) ++ more))
block-if true one more f h =
    All-cons IsBlock (data_rules.block_of one) (map data_rules.block_of more) (record { start = f.0; end = f.1 }) h
block-if false one more f h = h

blocks-fit : (r : Receiver) (before : Bool) (distance many : ℕ) → distance + many ≤ 2 ^ 15 →
    All IsBlock (map data_rules.block_of (blocks_from r before distance many))
unfolding blocks_from
blocks-fit r before distance zero l = All-nil IsBlock
blocks-fit r before distance (suc many) l =
    block-if (is_held_ahead r distance && not before) (block_from r distance many) (blocks_from r (is_held_ahead r distance) (distance + 1) many)
    (omega (arith, l), omega (arith, l, few-run r (distance + 1) many))
    (blocks-fit r (is_held_ahead r distance) (distance + 1) many (omega (arith, l)))

take-map : (n : ℕ) (xs : List Block) → map data_rules.block_of (take n xs) ≡ take n (map data_rules.block_of xs)
take-map zero xs = refl
take-map (suc n) [] = refl
take-map (suc n) (x ∷ xs) = ap (λ (ys : List BlockValue). data_rules.block_of x ∷ ys) (take-map n xs)

few-taken : {A : Type 0} → (n : ℕ) (xs : List A) → length (take n xs) ≤ n
few-taken zero xs = omega arith
few-taken (suc n) [] = omega arith
few-taken (suc n) (x ∷ xs) = omega (arith, few-taken n xs)

pub sack-chunk : (r : Receiver) → r.cumulative < 2 ^ 32 → All (λ n. n < 2 ^ 32) r.duplicates → length r.duplicates ≤ 20 →
    IsBundled (data_rules.sack_of r)
sack-chunk r cumulative duplicates few =
    let all : List Block = blocks_from r false 2 255 in
    let fit : All IsBlock (map data_rules.block_of (take 100 all)) =
    subst (λ (bs : List BlockValue). All IsBlock bs) (sym (take-map 100 all))
    (All-take IsBlock 100 (map data_rules.block_of all) (blocks-fit r false 2 255 (omega arith))) in
    let sack : packets.SackValue = record {
      cumulative = r.cumulative;
      window = receiving.window r;
      blocks = map data_rules.block_of (blocks r);
      duplicates = r.duplicates;
    } in
    record {
      can = record {
        fields = record { cumulative = cumulative; window = omega arith; blocks = fit; duplicates = duplicates };
        fits = omega (arith, sack-length sack, few, few-taken 100 all, length-map (take 100 all) data_rules.block_of);
      };
      no_init = refl;
      no_init_ack = refl;
    }

-- ---- bundles

-- the chunks of a packet that goes out with others
pub record IsBundle (P : ChunkValue → Type 0) (chunks : List ChunkValue) : Type 0 where
  pub some : chunks ≢ []
  pub each : All P chunks

some-waiting : (waiting : List ChunkValue) → sending.is_some waiting ≡ true → waiting ≢ []
some-waiting [] e = absurd (cc)
some-waiting (chunk ∷ chunks) e = λ f. absurd (cc)

both-true : (x y : Bool) → (x && y) ≡ true → x ≡ true
both-true true y e = refl
both-true false y e = absurd (cc)

module _ (P : ChunkValue → Type 0) where
  bundles-if : (b : Bool) (waiting : List ChunkValue) (xs ys : List (List ChunkValue)) → (b ≡ true → waiting ≢ []) → All P waiting →
      All (IsBundle P) xs → All (IsBundle P) ys → All (IsBundle P) (if b then waiting ∷ xs else ys)
  bundles-if true waiting xs ys some w h i = All-cons (IsBundle P) waiting xs (record { some = some refl; each = w }) h
  bundles-if false waiting xs ys some w h i = i

  bundles : (waiting : List ChunkValue) (octets : ℕ) (chunks : List ChunkValue) → All P waiting → All P chunks →
      All (IsBundle P) (sending.bundled waiting octets chunks)
  bundles [] octets [] w h = All-nil (IsBundle P)
  bundles (chunk ∷ chunks) octets [] w h =
      All-cons (IsBundle P) (chunk ∷ chunks) [] (record { some = λ e. absurd (cc); each = w }) (All-nil (IsBundle P))
  bundles waiting octets (chunk ∷ chunks) w h =
      let fits : Bool = nat_lt 1200 (octets + ending.chunk_size chunk) in
      bundles-if (sending.is_some waiting && fits) waiting
      (sending.bundled (chunk ∷ []) (12 + ending.chunk_size chunk) chunks)
      (sending.bundled (waiting ++ chunk ∷ []) (octets + ending.chunk_size chunk) chunks)
      (λ e. some-waiting waiting (both-true (sending.is_some waiting) fits e)) w
      (bundles (chunk ∷ []) (12 + ending.chunk_size chunk) chunks (only P chunk (All-head P chunk chunks h)) (All-tail P chunk chunks h))
      (bundles (waiting ++ chunk ∷ []) (octets + ending.chunk_size chunk) chunks
      (All-append P waiting (chunk ∷ []) w (only P chunk (All-head P chunk chunks h))) (All-tail P chunk chunks h))

  pub packets-of : (chunks : List ChunkValue) → All P chunks → All (IsBundle P) (sending.packets_of chunks)
  packets-of chunks h = bundles [] 12 chunks (All-nil P) h
