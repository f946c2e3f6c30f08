-- The cells of a ring in order, after each change.
use Rattle.std.proofs.Common.{◌≡◌, ◌≢◌, ℕ, zero, suc, ◌+◌, ◌-◌, ◌<◌, ◌≤◌, List, [], ◌∷◌, ◌++◌, length, get_or, take, drop, refl, sym, ap, ◌∙◌, inl, inr, add-one, length-append, length-drop, arith}
use Rattle.std.proofs.Math.ListN.{set}
use Rattle.std.proofs.lemmas.Bool.{cases_lt, cases_eq}
use Rattle.std.proofs.lemmas.List.{get_or_append_left, get_or_push, get_or-set_same, get_or-set_other, get_or-drop, get_or-take, length-set, length-take-le, ext_get_or}
use Rattle.sctp_sending.specs.Outgoing.{Outgoing, new_outgoing, no_message, outgoing_at}
use Rattle.sctp_sending.specs.Cells.{cells_of_ring, place_at, window}

abbrev pub blank : Outgoing
blank = new_outgoing no_message 0

pub length-window : (cells : List Outgoing) (start count : ℕ) → length (window cells start count) ≡ count
unfolding window
length-window cells start zero = refl
length-window cells start (suc n) =
    omega (arith, length-window cells start n, length-append (window cells start n) (outgoing_at cells (place_at start n) ∷ []))

-- how many there are
pub is_count : (cells : List Outgoing) (start count : ℕ) (now : List Outgoing) → window cells start count ≡ now → length now ≡ count
is_count cells start count now e = ap length (sym e) ∙ length-window cells start count

pub at-window : (cells : List Outgoing) (start count i : ℕ) → i < count → get_or (window cells start count) i blank ≡ get_or cells (place_at start i) blank
unfolding window
at-window cells start zero i b = absurd (omega (arith, b))
at-window cells start (suc n) i b =
    elim (cases_lt i n) [
      | inl below ↦
          get_or_append_left (window cells start n) (outgoing_at cells (place_at start n) ∷ []) blank i (omega (arith, below, length-window cells start n))
          ∙ at-window cells start n i below
      | inr past ↦
          let same : n ≡ i = omega (arith, b, past) in
          get_or_push (window cells start n) (outgoing_at cells (place_at start n)) blank i (length-window cells start n ∙ same)
          ∙ ap (λ (k : ℕ). outgoing_at cells (place_at start k)) same
    ]

-- places of cells that are less than a ring apart differ
places_apart : (start i j : ℕ) → i < cells_of_ring → j < cells_of_ring → i ≢ j → place_at start i ≢ place_at start j
places_apart start i j bi bj apart same = apart (omega (arith, bi, bj, same))

-- a cell that isn't among them is written
window-other : (cells : List Outgoing) (start count place : ℕ) (o : Outgoing) → count ≤ place → place < cells_of_ring
    → window (set cells (place_at start place) o) start count ≡ window cells start count
window-other cells start count place o b m =
    ext_get_or blank _ _ (length-window (set cells (place_at start place) o) start count ∙ sym (length-window cells start count)) (λ i h.
    let within : i < count = omega (arith, h, length-window (set cells (place_at start place) o) start count) in
    at-window (set cells (place_at start place) o) start count i within
    ∙ get_or-set_other cells (place_at start place) (place_at start i) o blank (places_apart start i place (omega (arith, within, b, m)) m (λ same. omega (arith, within, b, same)))
    ∙ sym (at-window cells start count i within))

pub window-push : (cells : List Outgoing) (start count : ℕ) (o : Outgoing) → length cells ≡ cells_of_ring → count < cells_of_ring
    → window (set cells (place_at start count) o) start (count + 1) ≡ window cells start count ++ o ∷ []
unfolding window
window-push cells start count o row b =
    let front = window-other cells start count count o (omega arith) b in
    let last = get_or-set_same cells (place_at start count) o blank (omega (arith, row)) in
    rw add-one (ap (λ (x : Outgoing). window (set cells (place_at start count) o) start count ++ x ∷ []) last ∙ ap (λ (xs : List Outgoing). xs ++ o ∷ []) front)

pub window-set : (cells : List Outgoing) (start count place : ℕ) (o : Outgoing) → length cells ≡ cells_of_ring → count ≤ cells_of_ring → place < count
    → window (set cells (place_at start place) o) start count ≡ set (window cells start count) place o
window-set cells start count place o row m b =
    let long = length-window (set cells (place_at start place) o) start count in
    let wide = length-window cells start count in
    ext_get_or blank _ _ (long ∙ sym (length-set (window cells start count) place o ∙ wide)) (λ i h.
    let within : i < count = omega (arith, h, long) in
    let left = at-window (set cells (place_at start place) o) start count i within in
    elim (cases_eq i place) [
      | inl same ↦
          left ∙ ap (λ (k : ℕ). get_or (set cells (place_at start place) o) (place_at start k) blank) same
          ∙ get_or-set_same cells (place_at start place) o blank (omega (arith, row))
          ∙ sym (ap (λ (k : ℕ). get_or (set (window cells start count) place o) k blank) same ∙ get_or-set_same (window cells start count) place o blank (omega (arith, wide, b)))
      | inr apart ↦
          left
          ∙ get_or-set_other cells (place_at start place) (place_at start i) o blank (places_apart start i place (omega (arith, within, m)) (omega (arith, b, m)) apart)
          ∙ sym (get_or-set_other (window cells start count) place i o blank apart ∙ at-window cells start count i within)
    ])

-- the cell at a place is changed
pub window-changed : (f : Outgoing → Outgoing) (cells : List Outgoing) (start count place : ℕ) → length cells ≡ cells_of_ring → count ≤ cells_of_ring → place < count
    → window (set cells (place_at start place) (f (get_or cells (place_at start place) blank))) start count ≡ set (window cells start count) place (f (get_or (window cells start count) place blank))
window-changed f cells start count place row m b =
    window-set cells start count place (f (get_or cells (place_at start place) blank)) row m b
    ∙ ap (λ (o : Outgoing). set (window cells start count) place (f o)) (sym (at-window cells start count place b))

pub window-drop : (cells : List Outgoing) (start count gone : ℕ) → gone ≤ count → window cells (place_at start gone) (count - gone) ≡ drop gone (window cells start count)
window-drop cells start count gone b =
    let long = length-window cells (place_at start gone) (count - gone) in
    let wide = length-window cells start count in
    ext_get_or blank _ _ (omega (arith, long, wide, length-drop gone (window cells start count))) (λ i h.
    let within : i < count - gone = omega (arith, h, long) in
    let same : place_at (place_at start gone) i ≡ place_at start (gone + i) = omega arith in
    at-window cells (place_at start gone) (count - gone) i within ∙ ap (λ (k : ℕ). get_or cells k blank) same
    ∙ sym (get_or-drop gone (window cells start count) i blank ∙ at-window cells start count (gone + i) (omega (arith, within))))

pub window-take : (cells : List Outgoing) (start count left : ℕ) → left ≤ count → window cells start left ≡ take left (window cells start count)
window-take cells start count left b =
    let long = length-window cells start left in
    let wide = length-window cells start count in
    ext_get_or blank _ _ (long ∙ sym (length-take-le left (window cells start count) (omega (arith, wide, b)))) (λ i h.
    let within : i < left = omega (arith, h, long) in
    at-window cells start left i within
    ∙ sym (get_or-take left (window cells start count) i blank within ∙ at-window cells start count i (omega (arith, within, b))))
