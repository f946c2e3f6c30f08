-- Addresses that an end lists, as they are written and as they are found.
use Rattle.std.proofs.Common.{◌≡◌, ℕ, ◌+◌, ◌-◌, ◌*◌, ◌^◌, ◌<◌, ◌≤◌, Bool, true, false, List, [], ◌∷◌, ◌++◌, length, take, get_or, replicate, map, Some, refl, sym, ap, subst, ◌∙◌, arith}
use Rattle.std.proofs.lemmas.Bool.{le-leb}
use Rattle.std.proofs.lemmas.Bool.Decides.{nat_tests}
use Rattle.std.proofs.lemmas.List.{length-append, append_assoc, append-nil, take_more, take_all}
use Rattle.std.proofs.lemmas.List.Elements.{All-nil, All-cons, All-head, All-tail, All-append}
use Rattle.std.specs.Prelude.{if◌then◌else◌, nat_le, All}
use Rattle.std.specs.Net.Addr.{ipv4_octets, ipv6_octets}
use Rattle.std.specs.declared.net.ip_addr.IpAddr.{IpAddr}
use Rattle.std.specs.declared.net.ip_addr.IpAddr.TheVariants.{V4, V6}
use Rattle.sctp_codec.specs.Items.{ItemValue, IsItem, padding_behind, item_octets, padded_item, padded_items, joined_items}
use Rattle.sctp_codec.specs.Packets.{InitValue, InitChunk}
use Rattle.sctp_codec.specs.Writing.{init_front, init_octets, chunk_octets}
use Rattle.sctp_codec.specs.Parameters.{state_cookie, address_item, address_octets, fitting, listing, reporting, reported_in, report_octets, answering, cookie_in}
use Rattle.sctp_codec.specs.Addresses.{IsAddress, most_addresses, addresses_in}
use Rattle.sctp_codec.proofs.WrittenTexts.{padded-count}

-- ---- their sizes

padded-size : (a : IpAddr) → IsAddress a → length (padded_item (address_item a)) ≤ 20
padded-size (V4 x) h = let n = padded-count 0 5 (ipv4_octets x) in omega (arith, h, n)
padded-size (V6 x) h = let n = padded-count 0 6 (ipv6_octets x) in omega (arith, h, n)

no-padding : (a : IpAddr) → IsAddress a → padding_behind (length (address_item a).value) ≡ 0
no-padding (V4 x) h = omega (arith, h)
no-padding (V6 x) h = omega (arith, h)

all-fit : (addresses : List IpAddr) (room : ℕ) → All IsAddress addresses → 20 * length addresses ≤ room → fitting room (map address_item addresses) ≡ map address_item addresses
all-fit [] room h l = refl
all-fit (a ∷ addresses) room h l =
    let size = padded-size a (All-head IsAddress a addresses h) in
    let inside : nat_le (length (padded_item (address_item a))) room ≡ true = le-leb (length (padded_item (address_item a))) room (omega (arith, size, l)) in
    rw inside
    (ap (λ (items : List ItemValue). address_item a ∷ items)
    (all-fit addresses (room - length (padded_item (address_item a))) (All-tail IsAddress a addresses h) (omega (arith, size, l))))

pub all-listed : (addresses : List IpAddr) → All IsAddress addresses → length addresses ≤ most_addresses → listing addresses ≡ map address_item addresses
all-listed addresses h l = all-fit addresses address_octets h (omega (arith, l))

-- ---- how much is listed, whatever the addresses are

padded-more : (item : ItemValue) → length (item_octets item) ≤ length (padded_item item)
padded-more item =
    let sum = length-append (item_octets item) (replicate (padding_behind (length item.value)) 0) in
    omega (arith, sum)

padded-if : (test : Bool) (item : ItemValue) (more : List ItemValue) (room : ℕ) → (test ≡ true → length (padded_item item) ≤ room)
    → length (padded_items more) ≤ room - length (padded_item item) → length (padded_items (if test then item ∷ more else [])) ≤ room
padded-if true item more room h l =
    let sum = length-append (padded_item item) (padded_items more) in
    omega (arith, h refl, sum, l)
padded-if false item more room h l = omega arith

padded-fits : (items : List ItemValue) (room : ℕ) → length (padded_items (fitting room items)) ≤ room
padded-fits [] room = omega arith
padded-fits (item ∷ items) room =
    padded-if (nat_le (length (padded_item item)) room) item (fitting (room - length (padded_item item)) items) room (λ e. grind (arith, nat_tests, e)) (padded-fits items (room - length (padded_item item)))

joined-less : (items : List ItemValue) → length (joined_items items) ≤ length (padded_items items)
joined-less [] = omega arith
joined-less (item ∷ []) =
    let more = padded-more item in
    let sum = length-append {A = ℕ} (padded_item item) [] in
    omega (arith, more, sum)
joined-less (item ∷ next ∷ items) =
    let less = joined-less (next ∷ items) in
    let joined = length-append (padded_item item) (joined_items (next ∷ items)) in
    let padded = length-append (padded_item item) (padded_items (next ∷ items)) in
    omega (arith, less, joined, padded)

pub listing-padded-size : (addresses : List IpAddr) → length (padded_items (listing addresses)) ≤ 160
listing-padded-size addresses = padded-fits (map address_item addresses) address_octets

pub listing-size : (addresses : List IpAddr) → length (joined_items (listing addresses)) ≤ 160
listing-size addresses =
    let padded = listing-padded-size addresses in
    let less = joined-less (listing addresses) in
    omega (arith, padded, less)

address-kind : (a : IpAddr) → (address_item a).kind < 2 ^ 16
address-kind (V4 x) = omega arith
address-kind (V6 x) = omega arith

items-if : (test : Bool) (a : IpAddr) (more : List ItemValue) (room : ℕ) → room ≤ 160 → (test ≡ true → length (padded_item (address_item a)) ≤ room) → All IsItem more
    → All IsItem (if test then address_item a ∷ more else [])
items-if true a more room r fits h =
    let size = padded-more (address_item a) in
    let inside = fits refl in
    All-cons IsItem (address_item a) more (record { kind = address-kind a; fits = omega (arith, r, size, inside) }) h
items-if false a more room r fits h = All-nil IsItem

items-fit : (addresses : List IpAddr) (room : ℕ) → room ≤ 160 → All IsItem (fitting room (map address_item addresses))
items-fit [] room r = All-nil IsItem
items-fit (a ∷ addresses) room r =
    let left : ℕ = room - length (padded_item (address_item a)) in
    items-if (nat_le (length (padded_item (address_item a))) room) a (fitting left (map address_item addresses)) room r (λ e. grind (arith, nat_tests, e)) (items-fit addresses left (omega (arith, r)))

pub listing-items : (addresses : List IpAddr) → All IsItem (listing addresses)
listing-items addresses = items-fit addresses address_octets (omega arith)

-- an INIT that lists them
pub init-size : (i : InitValue) (addresses : List IpAddr) → i.parameters ≡ listing addresses → length (chunk_octets (InitChunk i)) ≤ 180
init-size i addresses e =
    let many : length (joined_items i.parameters) ≤ 160 = subst (λ (items : List ItemValue). length (joined_items items) ≤ 160) (sym e) (listing-size addresses) in
    let sum = length-append (init_front i) (joined_items i.parameters) in
    let count = padded-count 0 (1 * 2 ^ 8 + 0) (init_octets i) in
    omega (arith, many, sum, count)

-- ---- as they are written

joined-padded : (addresses : List IpAddr) → All IsAddress addresses → joined_items (map address_item addresses) ≡ padded_items (map address_item addresses)
joined-padded [] h = refl
joined-padded (a ∷ []) h =
    let text : List ℕ = item_octets (address_item a) in
    let none = no-padding a (All-head IsAddress a [] h) in
    sym (append-nil (padded_item (address_item a)) ∙ ap (λ (k : ℕ). text ++ replicate k 0) none ∙ append-nil text)
joined-padded (a ∷ b ∷ addresses) h =
    ap (λ (more : List ℕ). padded_item (address_item a) ++ more) (joined-padded (b ∷ addresses) (All-tail IsAddress a (b ∷ addresses) h))

-- they have no padding
pub listing-joined : (addresses : List IpAddr) → All IsAddress addresses → length addresses ≤ most_addresses → joined_items (listing addresses) ≡ padded_items (listing addresses)
listing-joined addresses h l =
    let all = all-listed addresses h l in
    ap joined_items all ∙ joined-padded addresses h ∙ sym (ap padded_items all)

pub joined-behind : (items : List ItemValue) (next : ItemValue) (more : List ItemValue) → padded_items items ++ joined_items (next ∷ more) ≡ joined_items (items ++ next ∷ more)
joined-behind [] next more = refl
joined-behind (item ∷ []) next more = ap (λ (text : List ℕ). text ++ joined_items (next ∷ more)) (append-nil (padded_item item))
joined-behind (item ∷ second ∷ items) next more =
    append_assoc (padded_item item) (padded_items (second ∷ items)) (joined_items (next ∷ more))
    ∙ ap (λ (text : List ℕ). padded_item item ++ text) (joined-behind (second ∷ items) next more)

-- the loop that writes them: those before the next one are whole
pub one-more : (addresses : List IpAddr) (i : ℕ) (a d : IpAddr) → i < length addresses → a ≡ get_or addresses i d → IsAddress a → All IsAddress (take i addresses) → All IsAddress (take (i + 1) addresses)
one-more addresses i a d inside read whole before =
    subst (All IsAddress) (sym (take_more addresses i d inside))
    (All-append IsAddress (take i addresses) (get_or addresses i d ∷ []) before
    (All-cons IsAddress (get_or addresses i d) [] (subst IsAddress read whole) (All-nil IsAddress)))

pub all-of-them : (addresses : List IpAddr) (i : ℕ) → length addresses ≤ i → All IsAddress (take i addresses) → All IsAddress addresses
all-of-them addresses i past h = subst (All IsAddress) (take_all i addresses past) h

-- ---- as they are found

found-if : (test : Bool) (a : IpAddr) (more rest : List ItemValue) → addresses_in rest ≡ [] → addresses_in (more ++ rest) ≡ more
    → addresses_in ((if test then address_item a ∷ more else []) ++ rest) ≡ (if test then address_item a ∷ more else [])
found-if true (V4 x) more rest none h = ap (λ (items : List ItemValue). address_item (V4 x) ∷ items) h
found-if true (V6 x) more rest none h = ap (λ (items : List ItemValue). address_item (V6 x) ∷ items) h
found-if false a more rest none h = none

found : (addresses : List IpAddr) (room : ℕ) (rest : List ItemValue) → addresses_in rest ≡ []
    → addresses_in (fitting room (map address_item addresses) ++ rest) ≡ fitting room (map address_item addresses)
found [] room rest none = none
found (a ∷ addresses) room rest none =
    let left : ℕ = room - length (padded_item (address_item a)) in
    found-if (nat_le (length (padded_item (address_item a))) room) a (fitting left (map address_item addresses)) rest none (found addresses left rest none)

none-if : (test : Bool) (item : ItemValue) (more : List ItemValue) → addresses_in more ≡ [] → addresses_in (if test then reporting item ∷ more else []) ≡ []
none-if true item more h = h
none-if false item more h = refl

none-reported : (items : List ItemValue) (room : ℕ) → addresses_in (fitting room (map reporting items)) ≡ []
none-reported [] room = refl
none-reported (item ∷ items) room =
    let left : ℕ = room - length (padded_item (reporting item)) in
    none-if (nat_le (length (padded_item (reporting item))) room) item (fitting left (map reporting items)) (none-reported items left)

pub in-init : (addresses : List IpAddr) → addresses_in (listing addresses) ≡ listing addresses
in-init addresses = ap addresses_in (sym (append-nil (listing addresses))) ∙ found addresses address_octets [] refl

pub in-init_ack : (addresses : List IpAddr) (cookie : List ℕ) (parameters : List ItemValue) → addresses_in (answering addresses cookie parameters) ≡ listing addresses
in-init_ack addresses cookie parameters =
    found addresses address_octets (record { kind = state_cookie; value = cookie } ∷ fitting report_octets (map reporting (reported_in parameters)))
    (none-reported (reported_in parameters) report_octets)

cookie-if : (test : Bool) (a : IpAddr) (more rest : List ItemValue) → cookie_in (more ++ rest) ≡ cookie_in rest
    → cookie_in ((if test then address_item a ∷ more else []) ++ rest) ≡ cookie_in rest
cookie-if true (V4 x) more rest h = h
cookie-if true (V6 x) more rest h = h
cookie-if false a more rest h = refl

cookie-behind : (addresses : List IpAddr) (room : ℕ) (rest : List ItemValue) → cookie_in (fitting room (map address_item addresses) ++ rest) ≡ cookie_in rest
cookie-behind [] room rest = refl
cookie-behind (a ∷ addresses) room rest =
    let left : ℕ = room - length (padded_item (address_item a)) in
    cookie-if (nat_le (length (padded_item (address_item a))) room) a (fitting left (map address_item addresses)) rest (cookie-behind addresses left rest)

pub cookie-found : (addresses : List IpAddr) (cookie : List ℕ) (parameters : List ItemValue) → cookie_in (answering addresses cookie parameters) ≡ Some cookie
cookie-found addresses cookie parameters =
    cookie-behind addresses address_octets (record { kind = state_cookie; value = cookie } ∷ fitting report_octets (map reporting (reported_in parameters)))
