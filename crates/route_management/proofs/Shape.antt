-- What was told keeps its shape: of each set, the same destinations.
use Rattle.route_management.proofs.Basics.{◌≡◌, ◌<◌, ℕ, zero, suc, List, [], ◌∷◌, length, replicate, refl, ap, sym, ◌∙◌, map, slice_index_or, slice_set, get_or-map, map-set, set-get_or, length-set, length-map, length-replicate, get_or-replicate, SetEntry, DestinationEntry, RouteStatus, Allowed, ToldTable, row_of, shape_of, first_told, with_told, with_told_reset}

-- a row as long as the one that stood there
row_alike : (rows : List (List RouteStatus)) (set : ℕ) (row : List RouteStatus) → length row ≡ length (slice_index_or rows set []) → map length (slice_set rows set row) ≡ map length rows
row_alike rows set row e =
    map-set length rows set row
    ∙ ap (λ (n : ℕ). slice_set (map length rows) set n) e
    ∙ sym (map-set length rows set (slice_index_or rows set []))
    ∙ ap (map length) (set-get_or rows set [])

pub told_shape : (t : ToldTable) (set destination : ℕ) (status : RouteStatus) → shape_of (with_told set destination status t) ≡ shape_of t
told_shape t set destination status = row_alike t.rows set (slice_set (row_of t set) destination status) (length-set (row_of t set) destination status)

pub reset_shape : (t : ToldTable) (set : ℕ) → shape_of (with_told_reset set t) ≡ shape_of t
reset_shape t set = row_alike t.rows set (map (λ old. Allowed) (row_of t set)) (length-map (row_of t set) (λ old. Allowed))

rows_alike : (sets destinations : ℕ) → map length (replicate sets (replicate destinations Allowed)) ≡ replicate sets destinations
rows_alike zero destinations = refl
rows_alike (suc sets) destinations =
    ap (λ (n : ℕ). n ∷ map length (replicate sets (replicate destinations Allowed))) (length-replicate destinations Allowed)
    ∙ ap (λ (ns : List ℕ). destinations ∷ ns) (rows_alike sets destinations)

pub first_shape : (sets : List SetEntry) (destinations : List DestinationEntry) → shape_of (first_told sets destinations) ≡ replicate (length sets) (length destinations)
first_shape sets destinations = rows_alike (length sets) (length destinations)

-- how many rows there are, and how long each is
pub rows_by_shape : (t : ToldTable) (sets destinations : ℕ) → shape_of t ≡ replicate sets destinations → length t.rows ≡ sets
rows_by_shape t sets destinations e = sym (length-map t.rows length) ∙ ap length e ∙ length-replicate sets destinations

pub row_by_shape : (t : ToldTable) (sets destinations set : ℕ) → shape_of t ≡ replicate sets destinations → set < sets → length (row_of t set) ≡ destinations
row_by_shape t sets destinations set e h =
    sym (get_or-map length t.rows set []) ∙ ap (λ (ns : List ℕ). slice_index_or ns set 0) e ∙ get_or-replicate sets set destinations 0 h
