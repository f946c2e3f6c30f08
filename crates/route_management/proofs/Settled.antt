-- If nothing is listed as owed, nothing is owed.
use Rattle.route_management.proofs.Basics.{◌≡◌, ℕ, true, List, [], length, ap, None, eqb-true, eq-eqb, nil_from_length, Facts, ToldTable, row_of, Owed, owed_at, owed, owes_nothing, all_told}
use Rattle.route_management.proofs.Listing.{none_of_point, none_of_points, nothing_owed}

-- and the other way round
pub nothing_is_listed : (f : Facts) (t : ToldTable) → ((set destination : ℕ) → owed_at f t set destination ≡ None) → owed f t ≡ []
nothing_is_listed f t none =
    none_of_points f t 0 (length t.rows) (λ set l k.
    none_of_point f t set 0 (length (row_of t set)) (λ destination m n. none set destination))

-- ---- by its test

pub none_from_owes_nothing : (f : Facts) (t : ToldTable) → owes_nothing f t ≡ true → owed f t ≡ []
unfolding owes_nothing
none_from_owes_nothing f t e = nil_from_length (owed f t) (eqb-true (length (owed f t)) 0 e)

pub owes_nothing_from_none : (f : Facts) (t : ToldTable) → owed f t ≡ [] → owes_nothing f t ≡ true
unfolding owes_nothing
owes_nothing_from_none f t e = eq-eqb (length (owed f t)) 0 (ap (λ (os : List Owed). length os) e)

pub all_told_owes_nothing : (f : Facts) (t : ToldTable) → owes_nothing f (all_told (owed f t) t) ≡ true
all_told_owes_nothing f t = owes_nothing_from_none f (all_told (owed f t) t) (nothing_owed f t)
