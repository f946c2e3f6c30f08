-- Items: a 16-bit number, a length of 16 bits, and a value after them. Chunks, parameters and error causes have this
-- form (RFC 9260 §3.2, §3.2.1).
use Rattle.std.specs.Prelude.{◌≡◌, ℕ, zero, suc, ◌+◌, ◌-◌, ◌%◌, ◌^◌, ◌<◌, ◌≤◌, ◌⊎◌, Bool, ◌&&◌}
use Rattle.std.specs.Prelude.{if◌then◌else◌, nat_le, List, []}
use Rattle.std.specs.Prelude.{◌∷◌, ◌++◌, length, drop, replicate, slice_index, slice_range, Option, Some, None}
use Rattle.std.specs.Int.{w16, w32, from_be_bytes, to_be_bytes}

-- the 16-bit number at an offset, and the 32-bit one, most significant octet first (RFC 9260 §3)
abbrev pub number16_at : List ℕ → ℕ → ℕ
number16_at octets at = from_be_bytes w16 (slice_index octets at ∷ slice_index octets (at + 1) ∷ [])

abbrev pub number32_at : List ℕ → ℕ → ℕ
number32_at octets at =
    from_be_bytes w32
    (slice_index octets at ∷ slice_index octets (at + 1) ∷ slice_index octets (at + 2)
    ∷ slice_index octets (at + 3) ∷ [])

-- an item: of a parameter and a cause its type; of a chunk its type and its flags, an octet each
pub record ItemValue : Type 0 where
  pub kind : ℕ
  pub value : List ℕ

-- ---- reading

-- how many octets of padding are after this many octets, to a multiple of four
abbrev pub padding_behind : ℕ → ℕ
padding_behind count = (4 - count % 4) % 4

-- the length that the octets say their first item has: that of its number, its length and its value
abbrev pub length_field : List ℕ → ℕ
length_field octets = number16_at octets 2

-- the octets begin with a whole item
abbrev pub begins_whole : List ℕ → Bool
begins_whole octets =
    nat_le 4 (length octets) && nat_le 4 (length_field octets) && nat_le (length_field octets) (length octets)

abbrev pub first_item : List ℕ → ItemValue
first_item octets = record { kind = number16_at octets 0; value = slice_range octets 4 (length_field octets) }

-- what is after the first item and its padding, which may be anything; after the last item it may be missing
abbrev pub behind_first : List ℕ → List ℕ
behind_first octets = drop (length_field octets + padding_behind (length_field octets)) octets

abbrev pub with_first : ItemValue → Option (List ItemValue) → Option (List ItemValue)
with_first item None = None
with_first item (Some items) = Some (item ∷ items)

-- the items that the octets are, this many at most; None if they aren't whole items to their end
unfoldable pub read_up_to : ℕ → List ℕ → Option (List ItemValue)
read_up_to zero [] = Some []
read_up_to zero (octet ∷ octets) = None
read_up_to (suc most) [] = Some []
read_up_to (suc most) (octet ∷ octets) =
    if begins_whole (octet ∷ octets)
    then with_first (first_item (octet ∷ octets)) (read_up_to most (behind_first (octet ∷ octets)))
    else None

-- the items that the octets are; None if they aren't whole items to their end
abbrev pub read_items : List ℕ → Option (List ItemValue)
read_items octets = read_up_to (length octets) octets

-- ---- writing

-- the item's octets, without padding
abbrev pub item_octets : ItemValue → List ℕ
item_octets item = to_be_bytes w16 item.kind ++ to_be_bytes w16 (4 + length item.value) ++ item.value

-- the item's octets, and zeros after them
abbrev pub padded_item : ItemValue → List ℕ
padded_item item = item_octets item ++ replicate (padding_behind (length item.value)) 0

abbrev pub padded_items : List ItemValue → List ℕ
padded_items [] = []
padded_items (item ∷ items) = padded_item item ++ padded_items items

-- items, each padded but the last: its padding isn't counted in the length of what they are the value of
-- (RFC 9260 §3.2)
abbrev pub joined_items : List ItemValue → List ℕ
joined_items [] = []
joined_items (item ∷ []) = item_octets item
joined_items (item ∷ next ∷ items) = padded_item item ++ joined_items (next ∷ items)

-- what an item can say
pub record IsItem (item : ItemValue) : Type 0 where
  pub kind : item.kind < 2 ^ 16
  pub fits : 4 + length item.value < 2 ^ 16

-- ---- the grammar

-- what is after an item of this many octets: its padding, or less of it at the end of all
pub record IsPadding (padding rest : List ℕ) (count : ℕ) : Type 0 where
  pub most : length padding ≤ padding_behind count
  pub all : (length padding ≡ padding_behind count) ⊎ (rest ≡ [])

-- the octets are this item, and then the rest
pub record BeginWith (octets : List ℕ) (item : ItemValue) (rest : List ℕ) : Type 0 where
  pub padding : List ℕ
  pub says : octets ≡ item_octets item ++ (padding ++ rest)
  pub item_fits : IsItem item
  pub padding_fits : IsPadding padding rest (length item.value)

-- the octets are these items, one after another
abbrev pub AreItems : List ℕ → List ItemValue → Type 0
AreItems octets [] = octets ≡ []
AreItems octets (item ∷ items) = (rest : List ℕ) × BeginWith octets item rest × AreItems rest items

-- each number of the list is that of an octet
abbrev pub AreOctets : List ℕ → Type 0
AreOctets octets = (i : ℕ) → slice_index octets i < 2 ^ 8
