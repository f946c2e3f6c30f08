-- What remains of the rows at an index, with one row more or less.
use Rattle.sccp_relay.proofs.Basics.{◌≡◌, ◌≢◌, Bool, true, false, List, [], ◌∷◌, ◌++◌, refl, sym, ap, ◌∙◌, cond, append-nil, filter-append, filter, ℕ, not, is_lt, is_eq, is_gt, ordering_reverse, Ordering, Less, Equal, Greater, TitleEntry, row_place, place_order, is_before, is_at, is_behind, rows_at, added_stands, added_leaves, removed_is_gone, removed_leaves}
use Rattle.sccp_relay.proofs.RowOrder.{total, reversed, equal-is_eq}

-- ---- two tests, one after the other

-- a row that may have been left out by the inner test
one : (at : TitleEntry → Bool) (x : TitleEntry) (kept a b : Bool) (inner outer : List TitleEntry) → at x ≡ a → (a ≡ true → kept ≡ b)
    → filter at inner ≡ cond b outer [] → filter at (cond kept (x ∷ inner) inner) ≡ cond b (cond a (x ∷ outer) outer) []
one at x true true true inner outer e f h = rw (e, h) refl
one at x true true false inner outer e f h = absurd (let wrong : true ≡ false = f refl in cc)
one at x true false b inner outer e f h = rw e h
one at x false true true inner outer e f h = absurd (let wrong : false ≡ true = f refl in cc)
one at x false true false inner outer e f h = h
one at x false false b inner outer e f h = h

-- an inner test that all rows of the outer one pass, or none
pub both : (at kept : TitleEntry → Bool) (b : Bool) → ((x : TitleEntry) → at x ≡ true → kept x ≡ b) → (rows : List TitleEntry)
    → filter at (filter kept rows) ≡ cond b (filter at rows) []
both at kept true f [] = refl
both at kept false f [] = refl
both at kept b f (x ∷ rows) = one at x (kept x) (at x) b (filter kept rows) (filter at rows) refl (f x) (both at kept b f rows)

-- ---- rows at an index, before another index and after it

-- all rows at a place stand to another place as the place itself
as_place : (place other : List ℕ) (x : TitleEntry) → is_at place x ≡ true → place_order (row_place x) other ≡ place_order place other
as_place place other x e = total.congr (row_place x) place other (equal-is_eq _ e)

before : (place other : List ℕ) (rows : List TitleEntry) → rows_at place (filter (is_before other) rows) ≡ cond (is_lt (place_order place other)) (rows_at place rows) []
before place other rows = both (is_at place) (is_before other) (is_lt (place_order place other)) (λ x e. ap is_lt (as_place place other x e)) rows

behind : (place other : List ℕ) (rows : List TitleEntry) → rows_at place (filter (is_behind other) rows) ≡ cond (is_gt (place_order place other)) (rows_at place rows) []
behind place other rows = both (is_at place) (is_behind other) (is_gt (place_order place other)) (λ x e. ap is_gt (as_place place other x e)) rows

split : (o : Ordering) (rows : List TitleEntry) → o ≢ Equal → cond (is_lt o) rows [] ++ cond (is_gt o) rows [] ≡ rows
split Less rows f = append-nil rows
split Equal rows f = absurd (f refl)
split Greater rows f = refl

not_eq : (o : Ordering) → o ≢ Equal → is_eq o ≡ false
not_eq Equal f = absurd (f refl)
not_eq o f = refl

-- an order that is its own reverse is that of equals
alone : (o : Ordering) → ordering_reverse o ≡ o → o ≡ Equal
alone Equal e = refl
alone o e = absurd cc

itself : (place : List ℕ) → place_order place place ≡ Equal
itself place = alone (place_order place place) (sym (total.antisymm place place))

-- if one place differs from another, the other differs from it
apart : (place other : List ℕ) → place_order other place ≢ Equal → place_order place other ≢ Equal
apart place other f e = f (reversed place other Equal e)

-- ---- a row more

pub added : added_leaves
added place row rows f =
    let front : List TitleEntry = filter (is_before (row_place row)) rows in
    let back : List TitleEntry = filter (is_behind (row_place row)) rows in
    rw (filter-append (is_at place) front (row ∷ back), not_eq _ f, before place (row_place row) rows, behind place (row_place row) rows)
    (split (place_order place (row_place row)) (rows_at place rows) (apart place (row_place row) f))

pub stands : added_stands
stands row rows =
    let front : List TitleEntry = filter (is_before (row_place row)) rows in
    let back : List TitleEntry = filter (is_behind (row_place row)) rows in
    rw (filter-append (is_at (row_place row)) front (row ∷ back), before (row_place row) (row_place row) rows, behind (row_place row) (row_place row) rows, itself (row_place row)) refl

-- ---- a row less

pub gone : removed_is_gone
gone place rows = both (is_at place) (λ row. not (is_at place row)) false (λ x e. ap not e) rows

pub left : removed_leaves
left place other rows f =
    both (is_at other) (λ row. not (is_at place row)) true (λ x e. ap not (ap is_eq (as_place other place x e) ∙ not_eq _ f)) rows
