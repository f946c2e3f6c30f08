-- Items and the octets that they are read from and written as.
use Rattle.std.proofs.Common.{◌≡◌, ◌≢◌, ℕ, zero, suc, ◌+◌, ◌-◌, ◌<◌, ◌≤◌, Bool, true, false, List, [], ◌∷◌, ◌++◌, length, take, drop, replicate, Option, Some, None, refl, sym, ap, ◌∙◌, arith}
use Rattle.std.proofs.lemmas.Bool.Decides.{nat_tests}
use Rattle.std.proofs.lemmas.List.{length-drop, length-append, length-replicate, append_assoc, append-nil, take_at, drop_at, drop-drop, drop_all}
use Rattle.std.proofs.lemmas.List.Elements.{All-head, All-tail}
use Rattle.std.proofs.lemmas.Nat.{from_be_bytes-to_be_bytes_2}
use Rattle.std.specs.Prelude.{if◌then◌else◌, All, IsSome, is_some, unwrap_or}
use Rattle.sctp_codec.specs.Items.{ItemValue, IsItem, padding_behind, length_field, begins_whole, first_item, behind_first, with_first, read_up_to, read_items, item_octets, padded_item, padded_items, joined_items}
use Rattle.sctp_codec.specs.Packets.{lone}
use Rattle.sctp_codec.specs.Values.{items_in}

-- ---- a step of reading

either : {A : Type 0} (test : Bool) (x y z : A) → (test ≡ true → x ≡ y) → (if test then x else z) ≡ (if test then y else z)
either true x y z same = same refl
either false x y z same = refl

-- what a whole item leaves is shorter by its header
behind-shorter : (octets : List ℕ) (most : ℕ) → begins_whole octets ≡ true → length octets ≤ suc most → length (behind_first octets) ≤ most
behind-shorter octets most whole fits =
    let long : 4 ≤ length_field octets = grind (arith, nat_tests, whole) in
    let less = length-drop (length_field octets + padding_behind (length_field octets)) octets in
    omega (arith, less, long, fits)

enough : (m n : ℕ) (octets : List ℕ) → length octets ≤ m → length octets ≤ n → read_up_to m octets ≡ read_up_to n octets
unfolding read_up_to
enough zero zero [] a b = refl
enough zero (suc n) [] a b = refl
enough (suc m) zero [] a b = refl
enough (suc m) (suc n) [] a b = refl
enough zero n (octet ∷ octets) a b = absurd (omega (arith, a))
enough (suc m) zero (octet ∷ octets) a b = absurd (omega (arith, b))
enough (suc m) (suc n) (octet ∷ octets) a b =
    let text = octet ∷ octets in
    either (begins_whole text) (with_first (first_item text) (read_up_to m (behind_first text))) (with_first (first_item text) (read_up_to n (behind_first text))) None
    (λ whole. ap (with_first (first_item text)) (enough m n (behind_first text) (behind-shorter text m whole a) (behind-shorter text n whole b)))

pub read_items-nil : read_items [] ≡ Some []
unfolding read_up_to
read_items-nil = refl

pub read_items-whole : (octets : List ℕ) → begins_whole octets ≡ true → read_items octets ≡ with_first (first_item octets) (read_items (behind_first octets))
unfolding read_up_to
read_items-whole [] whole = absurd (grind (arith, nat_tests, whole))
read_items-whole (octet ∷ octets) whole =
    let text = octet ∷ octets in
    let less = behind-shorter text (length octets) whole (omega arith) in
    rw whole (ap (with_first (first_item text)) (enough (length octets) (length (behind_first text)) (behind_first text) less (omega arith)))

pub read_items-broken : (octets : List ℕ) → octets ≢ [] → begins_whole octets ≡ false → read_items octets ≡ None
unfolding read_up_to
read_items-broken [] some broken = absurd (some refl)
read_items-broken (octet ∷ octets) some broken = rw broken refl

-- ---- what is left, as code goes on

-- octets that begin with no whole item are none, where they are whole items to their end
pub none_left : (octets : List ℕ) → IsSome (read_items octets) → begins_whole octets ≡ false → items_in octets ≡ []
none_left [] whole broken = rw read_items-nil refl
none_left (octet ∷ octets) whole broken =
    let none = read_items-broken (octet ∷ octets) (λ e. absurd cc) broken in
    let bad : false ≡ true = sym (ap is_some none) ∙ whole in
    absurd cc

-- the first item, and those after it
pub record Step (octets : List ℕ) : Type 0 where
  pub here : items_in octets ≡ first_item octets ∷ items_in (behind_first octets)
  pub rest : IsSome (read_items (behind_first octets))

step_of : (octets : List ℕ) (more : Option (List ItemValue)) → read_items (behind_first octets) ≡ more → read_items octets ≡ with_first (first_item octets) more → IsSome (read_items octets) → Step octets
step_of octets None behind e whole = let bad : false ≡ true = sym (ap is_some e) ∙ whole in absurd cc
step_of octets (Some items) behind e whole = record { here = rw (e, behind) refl; rest = rw behind refl }

pub one_more : (octets : List ℕ) → IsSome (read_items octets) → begins_whole octets ≡ true → Step octets
one_more octets whole begins = step_of octets (read_items (behind_first octets)) refl (read_items-whole octets begins) whole

-- whether there is an answer doesn't depend on the first item
still-some : (item : ItemValue) (more : Option (List ItemValue)) → is_some (with_first item more) ≡ is_some more
still-some item None = refl
still-some item (Some items) = refl

pub is_some-behind : (octets : List ℕ) → begins_whole octets ≡ true → is_some (read_items (behind_first octets)) ≡ is_some (read_items octets)
is_some-behind octets begins = sym (ap is_some (read_items-whole octets begins) ∙ still-some (first_item octets) (read_items (behind_first octets)))

pub is_some-broken : (octets : List ℕ) → 0 < length octets → begins_whole octets ≡ false → is_some (read_items octets) ≡ false
is_some-broken [] some broken = absurd (omega (arith, some))
is_some-broken (octet ∷ octets) some broken = ap is_some (read_items-broken (octet ∷ octets) (λ e. absurd cc) broken)

pub is_some-empty : (octets : List ℕ) → length octets ≡ 0 → is_some (read_items octets) ≡ true
is_some-empty [] empty = ap is_some read_items-nil
is_some-empty (octet ∷ octets) empty = absurd (omega (arith, empty))

nil_of : (octets : List ℕ) → length octets ≡ 0 → octets ≡ []
nil_of [] none = refl
nil_of (octet ∷ octets) none = absurd (omega (arith, none))

-- an item with nothing after it is the only one
pub read_items-one : (octets : List ℕ) → begins_whole octets ≡ true → length (behind_first octets) ≡ 0 → read_items octets ≡ Some (first_item octets ∷ [])
read_items-one octets whole none =
    read_items-whole octets whole ∙ ap (λ (rest : List ℕ). with_first (first_item octets) (read_items rest)) (nil_of (behind_first octets) none)
    ∙ ap (with_first (first_item octets)) read_items-nil

none_of : (o : Option (List ItemValue)) → is_some o ≡ false → o ≡ None
none_of None e = refl
none_of (Some items) e = absurd cc

pub none-read : (octets : List ℕ) → is_some (read_items octets) ≡ false → read_items octets ≡ None
none-read octets e = none_of (read_items octets) e

some_of : (o : Option (List ItemValue)) → is_some o ≡ true → (o ≡ Some (unwrap_or o [])) × IsSome o
some_of None e = absurd cc
some_of (Some items) e = (refl, refl)

pub some-read : (octets : List ℕ) → is_some (read_items octets) ≡ true → (read_items octets ≡ Some (items_in octets)) × IsSome (read_items octets)
some-read octets e = some_of (read_items octets) e

-- ---- what is written reads back

-- an item with something after it
pub record BeginsWith (text : List ℕ) (item : ItemValue) : Type 0 where
  pub announced : length_field text ≡ 4 + length item.value
  pub whole : begins_whole text ≡ true
  pub first : first_item text ≡ item

pub begins : (item : ItemValue) (rest : List ℕ) → IsItem item → BeginsWith (item_octets item ++ rest) item
begins item rest h =
    let n : ℕ = 4 + length item.value in
    let kind = from_be_bytes-to_be_bytes_2 item.kind h.kind in
    let announced = from_be_bytes-to_be_bytes_2 n h.fits in
    let total = length-append item.value rest in
    let value : take (length item.value) (item.value ++ rest) ≡ item.value = take_at item.value rest (length item.value) refl in
    let less : n - 4 ≡ length item.value = omega arith in
    record {
      announced = announced;
      whole = rw announced (grind (arith, nat_tests, total));
      first = rw (announced, less, value, kind) refl;
    }

pub behind : (item : ItemValue) (rest : List ℕ) → IsItem item → behind_first (item_octets item ++ rest) ≡ drop (padding_behind (length item.value)) rest
behind item rest h =
    let n : ℕ = length item.value in
    let announced = (begins item rest h).announced in
    let same : padding_behind (4 + n) ≡ padding_behind n = omega arith in
    let parts : 4 + n + padding_behind (4 + n) ≡ 4 + n + padding_behind n = omega (arith, same) in
    let text = item_octets item ++ rest in
    ap (λ (k : ℕ). drop (k + padding_behind k) text) announced ∙ ap (λ (k : ℕ). drop k text) parts
    ∙ sym (drop-drop (padding_behind n) (4 + n) text) ∙ ap (drop (padding_behind n)) (drop_at (item_octets item) rest (4 + n) (omega arith))

padded-behind : (item : ItemValue) (rest : List ℕ) → IsItem item → behind_first (padded_item item ++ rest) ≡ rest
padded-behind item rest h =
    let zeros = replicate (padding_behind (length item.value)) 0 in
    ap behind_first (append_assoc (item_octets item) zeros rest) ∙ behind item (zeros ++ rest) h
    ∙ drop_at zeros rest _ (length-replicate (padding_behind (length item.value)) 0)

pub read_items-padded : (item : ItemValue) (rest : List ℕ) → IsItem item → read_items (padded_item item ++ rest) ≡ with_first item (read_items rest)
read_items-padded item rest h =
    let zeros = replicate (padding_behind (length item.value)) 0 in
    let b = begins item (zeros ++ rest) h in
    let joined = append_assoc (item_octets item) zeros rest in
    ap read_items joined ∙ read_items-whole (item_octets item ++ (zeros ++ rest)) b.whole
    ∙ ap (λ (i : ItemValue). with_first i (read_items (behind_first (item_octets item ++ (zeros ++ rest))))) b.first
    ∙ ap (λ (r : List ℕ). with_first item (read_items (behind_first r))) (sym joined)
    ∙ ap (λ (r : List ℕ). with_first item (read_items r)) (padded-behind item rest h)

-- the last one may have no padding
pub read_items-last : (item : ItemValue) → IsItem item → read_items (item_octets item) ≡ Some (item ∷ [])
read_items-last item h =
    let none = append-nil (item_octets item) in
    let b = begins item [] h in
    ap read_items (sym none) ∙ read_items-whole (item_octets item ++ []) b.whole
    ∙ ap (λ (i : ItemValue). with_first i (read_items (behind_first (item_octets item ++ [])))) b.first
    ∙ ap (λ (r : List ℕ). with_first item (read_items r)) (behind item [] h ∙ drop_all (padding_behind (length item.value)) [] (omega arith))
    ∙ ap (with_first item) read_items-nil

pub read_items-padded_items : (items : List ItemValue) → All IsItem items → read_items (padded_items items) ≡ Some items
read_items-padded_items [] h = read_items-nil
read_items-padded_items (item ∷ items) h =
    read_items-padded item (padded_items items) (All-head IsItem item items h)
    ∙ ap (with_first item) (read_items-padded_items items (All-tail IsItem item items h))

pub read_items-joined_items : (items : List ItemValue) → All IsItem items → read_items (joined_items items) ≡ Some items
read_items-joined_items [] h = read_items-nil
read_items-joined_items (item ∷ []) h = read_items-last item (All-head IsItem item [] h)
read_items-joined_items (item ∷ next ∷ items) h =
    read_items-padded item (joined_items (next ∷ items)) (All-head IsItem item (next ∷ items) h)
    ∙ ap (with_first item) (read_items-joined_items (next ∷ items) (All-tail IsItem item (next ∷ items) h))

-- ---- the item that items are by themselves

pub none_alone : (octets : List ℕ) → IsSome (read_items octets) → begins_whole octets ≡ false → lone (items_in octets) ≡ None
none_alone octets whole broken = ap lone (none_left octets whole broken)

pub one_alone : (octets : List ℕ) → begins_whole octets ≡ true → length (behind_first octets) ≡ 0 → lone (items_in octets) ≡ Some (first_item octets)
one_alone octets whole none = ap (λ (o : Option (List ItemValue)). lone (unwrap_or o [])) (read_items-one octets whole none)

alone-behind : (item : ItemValue) (octets : List ℕ) (begin : Bool) → begins_whole octets ≡ begin → IsSome (read_items octets) → 0 < length octets → lone (item ∷ items_in octets) ≡ None
alone-behind item octets true begin whole some = ap (λ (items : List ItemValue). lone (item ∷ items)) (one_more octets whole begin).here
alone-behind item octets false begin whole some =
    let bad : false ≡ true = sym (is_some-broken octets some begin) ∙ whole in
    absurd cc

pub several_alone : (octets : List ℕ) → IsSome (read_items octets) → begins_whole octets ≡ true → 0 < length (behind_first octets) → lone (items_in octets) ≡ None
several_alone octets whole begins some =
    let s = one_more octets whole begins in
    ap lone s.here ∙ alone-behind (first_item octets) (behind_first octets) (begins_whole (behind_first octets)) refl s.rest some
