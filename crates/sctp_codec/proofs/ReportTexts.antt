-- Reported parameters, one after another.
use Rattle.std.proofs.Common.{◌≡◌, ℕ, ◌+◌, ◌-◌, ◌<◌, ◌≤◌, Bool, true, false, List, [], ◌∷◌, ◌++◌, length, replicate, refl, sym, ap, ◌∙◌, arith}
use Rattle.std.proofs.lemmas.Bool.{le-leb, lt-leb}
use Rattle.std.proofs.lemmas.List.{append_assoc, append-nil, length-append, length-replicate}
use Rattle.std.specs.Prelude.{if◌then◌else◌}
use Rattle.sctp_codec.specs.Items.{ItemValue, padding_behind, item_octets, padded_item, joined_items}
use Rattle.sctp_codec.specs.Parameters.{is_last, is_reported, counting, reported_of, reported_in, fitting, following}

-- ---- those that are to be reported

by-last : (last : Bool) (item : ItemValue) (items : List ItemValue) → reported_of (if last then item ∷ [] else item ∷ counting items)
    ≡ (if is_reported item.kind then item ∷ reported_in (if last then [] else items) else reported_in (if last then [] else items))
by-last true item items = refl
by-last false item items = refl

pub reported_in-more : (item : ItemValue) (items : List ItemValue) → reported_in (item ∷ items)
    ≡ (if is_reported item.kind then item ∷ reported_in (if is_last item.kind then [] else items) else reported_in (if is_last item.kind then [] else items))
reported_in-more item items = by-last (is_last item.kind) item items

-- ---- those that there is room for

padded-length : (item : ItemValue) → length (padded_item item) ≡ length (item_octets item) + padding_behind (length (item_octets item))
padded-length item =
    let zeros = length-replicate {A = ℕ} (padding_behind (length item.value)) 0 in
    let sum = length-append (item_octets item) (replicate (padding_behind (length item.value)) 0) in
    let same : padding_behind (length (item_octets item)) ≡ padding_behind (length item.value) = omega arith in
    omega (arith, zeros, sum, same)

pub fits : (room : ℕ) (item : ItemValue) (items : List ItemValue) (octets : ℕ) → octets ≡ length (item_octets item) → octets + padding_behind octets ≤ room
    → fitting room (item ∷ items) ≡ item ∷ fitting (room - (octets + padding_behind octets)) items
fits room item items octets e inside =
    let len : length (padded_item item) ≡ octets + padding_behind octets = padded-length item ∙ ap (λ (n : ℕ). n + padding_behind n) (sym e) in
    rw (len, le-leb (octets + padding_behind octets) room inside) refl

pub fits_not : (room : ℕ) (item : ItemValue) (items : List ItemValue) (octets : ℕ) → octets ≡ length (item_octets item) → room < octets + padding_behind octets
    → fitting room (item ∷ items) ≡ []
fits_not room item items octets e outside =
    let len : length (padded_item item) ≡ octets + padding_behind octets = padded-length item ∙ ap (λ (n : ℕ). n + padding_behind n) (sym e) in
    rw (len, lt-leb (octets + padding_behind octets) room outside) refl

-- ---- their octets

pub joined-first : (item : ItemValue) (items : List ItemValue) → joined_items (item ∷ items) ≡ item_octets item ++ following (padding_behind (length item.value)) items
joined-first item [] = sym (append-nil (item_octets item))
joined-first item (next ∷ items) =
    let zeros = replicate (padding_behind (length item.value)) 0 in
    let rest = following (padding_behind (length next.value)) items in
    ap (λ (more : List ℕ). padded_item item ++ more) (joined-first next items)
    ∙ append_assoc (item_octets item) zeros (item_octets next ++ rest)
    ∙ ap (λ (more : List ℕ). item_octets item ++ more) (sym (append_assoc zeros (item_octets next) rest))

pub joined-following : (items : List ItemValue) → joined_items items ≡ following 0 items
joined-following [] = refl
joined-following (item ∷ items) = joined-first item items
