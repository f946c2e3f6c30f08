-- What a walk over all sets and destinations, in order, finds to be owed.
use Rattle.route_management.proofs.Basics.{◌≡◌, ◌≢◌, ◌≤◌, ◌<◌, ◌+◌, ℕ, zero, suc, Bool, false, List, [], ◌∷◌, ◌++◌, length, refl, ap, sym, ◌∙◌, arith, add-one, Option, Some, None, slice_get, slice_index_or, slice_set, AllByRecursion, range_with_len, filter_map, cons_option, option_map, get_or-set_other, RouteStatus, Facts, ToldTable, is_number, is_own_point, row_of, told_at, with_told, Owed, status_to_advertise, is_reachable, owed_at, owed_from, owed_to, owed_by_sets}
use Rattle.route_management.proofs.Owing.{owed_by, other_destinations}
use Rattle.route_management.proofs.Listing.{none_of_point}

-- ---- one destination after the other

-- a word about a destination, if it is owed
abbrev word_about : (set destination : ℕ) → Option RouteStatus → Option Owed
word_about set destination = option_map (λ status. record { set = set; destination = destination; status = status })

-- what one more destination adds
next_by : (f : Facts) (t : ToldTable) (set from count : ℕ) (o : Option RouteStatus) → owed_at f t set from ≡ o
    → owed_from f t set from (suc count) ≡ cons_option (word_about set from o) (owed_from f t set (suc from) count)
next_by f t set from count o e =
    ap (λ (o : Option RouteStatus). cons_option (word_about set from o) (owed_from f t set (from + 1) count)) e
    ∙ ap (λ (n : ℕ). cons_option (word_about set from o) (owed_from f t set n count)) (add-one from)

pub next_is_owed : (f : Facts) (t : ToldTable) (set from count : ℕ) (status : RouteStatus) → owed_at f t set from ≡ Some status
    → owed_from f t set from (suc count) ≡ record { set = set; destination = from; status = status } ∷ owed_from f t set (suc from) count
next_is_owed f t set from count status e = next_by f t set from count (Some status) e

pub next_is_not_owed : (f : Facts) (t : ToldTable) (set from count : ℕ) → owed_at f t set from ≡ None
    → owed_from f t set from (suc count) ≡ owed_from f t set (suc from) count
next_is_not_owed f t set from count e = next_by f t set from count None e

-- a word about an earlier destination changes nothing of what is owed about the later ones
pub later_stay_owed : (f : Facts) (t : ToldTable) (set destination from count : ℕ) (status : RouteStatus) → destination < from
    → owed_from f (with_told set destination status t) set from count ≡ owed_from f t set from count
later_stay_owed f t set destination from zero status l = refl
later_stay_owed f t set destination from (suc count) status l =
    next_by f (with_told set destination status t) set from count (owed_at f t set from)
    (other_destinations f t set set destination from status (λ e. omega (arith, l, e)))
    ∙ ap (cons_option (word_about set from (owed_at f t set from))) (later_stay_owed f t set destination (suc from) count status (omega (arith, l)))
    ∙ sym (next_by f t set from count (owed_at f t set from) refl)

-- ---- one set after the other

pub next_set : (f : Facts) (t : ToldTable) (from count : ℕ)
    → owed_by_sets f t from (suc count) ≡ owed_to f t from ++ owed_by_sets f t (suc from) count
next_set f t from count = ap (λ (n : ℕ). owed_to f t from ++ owed_by_sets f t n count) (add-one from)

-- ---- what stays of what was told

pub row_kept : (set other destination : ℕ) (status : RouteStatus) (t : ToldTable) → set ≢ other
    → row_of (with_told set destination status t) other ≡ row_of t other
row_kept set other destination status t apart =
    get_or-set_other t.rows set other (slice_set (row_of t set) destination status) [] (λ e. apart (sym e))

-- all of these go to the adjacent point of one set
abbrev pub AreTo : ℕ → List Owed → Type 0
AreTo set os = AllByRecursion (λ (o : Owed). o.set ≡ set) os

pub owed_are_to : (f : Facts) (t : ToldTable) (set from count : ℕ) → AreTo set (owed_from f t set from count)
owed_are_to f t set from zero = tt
owed_are_to f t set from (suc count) =
    elim (owed_at f t set from) as (λ o. AreTo set (cons_option (word_about set from o) (owed_from f t set (from + 1) count))) [
      | None ↦ owed_are_to f t set (from + 1) count
      | Some status ↦ (refl, owed_are_to f t set (from + 1) count)
    ]

-- ---- what stays owed

-- what the adjacent point of a set is owed, by what it hangs on
abbrev owed_of_row : Facts → ℕ → List (Option ℕ) → List RouteStatus → List Owed
owed_of_row f set adjacents row =
    filter_map (λ (destination : ℕ). word_about set destination (owed_by (is_reachable f set)
    (is_number destination (slice_index_or adjacents set None)) (status_to_advertise f set destination) (slice_get row destination)))
    (range_with_len 0 (length row))

pub row_stays_owed : (f : Facts) (t u : ToldTable) (set : ℕ) → t.adjacents ≡ u.adjacents → row_of u set ≡ row_of t set
    → owed_to f u set ≡ owed_to f t set
row_stays_owed f t u set same row =
    ap (λ (adjacents : List (Option ℕ)). owed_of_row f set adjacents (row_of u set)) (sym same)
    ∙ ap (λ (row : List RouteStatus). owed_of_row f set t.adjacents row) row

pub others_stay_owed : (f : Facts) (t u : ToldTable) (from count : ℕ) → t.adjacents ≡ u.adjacents
    → ((set : ℕ) → from ≤ set → row_of u set ≡ row_of t set)
    → owed_by_sets f u from count ≡ owed_by_sets f t from count
others_stay_owed f t u from zero same rows = refl
others_stay_owed f t u from (suc count) same rows =
    ap (λ (os : List Owed). os ++ owed_by_sets f u (from + 1) count) (row_stays_owed f t u from same (rows from (omega arith)))
    ∙ ap (λ (os : List Owed). owed_to f t from ++ os)
    (others_stay_owed f t u (from + 1) count same (λ set l. rows set (omega (arith, l))))

pub unreached_is_owed_nothing : (f : Facts) (t : ToldTable) (set : ℕ) → is_reachable f set ≡ false → owed_to f t set ≡ []
unreached_is_owed_nothing f t set down =
    none_of_point f t set 0 (length (row_of t set)) (λ destination l k.
    ap (λ (b : Bool). owed_by b (is_own_point t set destination) (status_to_advertise f set destination) (told_at t set destination)) down)
