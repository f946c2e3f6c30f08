-- Faults that are told one after another.
use Rattle.settings_file.proofs.Basics.{◌≡◌, ℕ, Bool, ◌+◌, ◌<◌, ◌≤◌, List, [], ◌∷◌, ◌++◌, length, get_or, drop, map, refl, ◌∙◌, drop_more, drop_all, ServeFault}
use Rattle.std.specs.Prelude.{true, false, cond, filter}
use Rattle.settings.specs.declared.fault.DraftFault.{DraftFault}
use Rattle.settings_file.specs.AllFaults.{checked_fault}
use Rattle.settings_file.specs.ToldFaults.{told_with, told_if, all_told}

pub then-told : (told a b : List ServeFault) → all_told (all_told told a) b ≡ all_told told (a ++ b)
then-told told [] b = refl
then-told told (fault ∷ a) b = then-told (told_with told fault) a b

pub three-told : (told a b c : List ServeFault) → all_told (all_told (all_told told a) b) c ≡ all_told told (a ++ (b ++ c))
three-told told a b c = then-told (all_told told a) b c ∙ then-told told a (b ++ c)

pub told-next : (xs : List ServeFault) (i : ℕ) (d : ServeFault) (old new all : List ServeFault)
    → i < length xs → new ≡ told_with old (get_or xs i d) → all_told old (drop i xs) ≡ all → all_told new (drop (i + 1) xs) ≡ all
told-next xs i d old new all within n h =
    let step : all_told (told_with old (get_or xs i d)) (drop (i + 1) xs) ≡ all = rw (drop_more xs i d within) at h in
    rw n step

pub told-done : (xs : List ServeFault) (i : ℕ) (told all : List ServeFault) → length xs ≤ i → all_told told (drop i xs) ≡ all → told ≡ all
told-done xs i told all past h = rw (drop_all i xs past) at h

pub read-next : {A : Type 0} (f : A → ServeFault) (xs : List A) (i : ℕ) (d : A) (old new all : List ServeFault)
    → i < length xs → new ≡ told_with old (f (get_or xs i d)) → all_told old (map f (drop i xs)) ≡ all → all_told new (map f (drop (i + 1) xs)) ≡ all
read-next f xs i d old new all within n h =
    let step : all_told (told_with old (f (get_or xs i d))) (map f (drop (i + 1) xs)) ≡ all = rw (drop_more xs i d within) at h in
    rw n step

pub read-done : {A : Type 0} (f : A → ServeFault) (xs : List A) (i : ℕ) (told all : List ServeFault) → length xs ≤ i → all_told told (map f (drop i xs)) ≡ all → told ≡ all
read-done f xs i told all past h = rw (drop_all i xs past) at h

-- ---- those that stand

told_or_not : (b : Bool) (old : List ServeFault) (fault : DraftFault) (rest : List DraftFault)
    → all_told (told_if b old (checked_fault fault)) (map checked_fault rest) ≡ all_told old (map checked_fault (cond b (fault ∷ rest) rest))
told_or_not true old fault rest = refl
told_or_not false old fault rest = refl

pub checked-next : (test : DraftFault → Bool) (xs : List DraftFault) (i : ℕ) (d : DraftFault) (old new all : List ServeFault)
    → i < length xs → new ≡ told_if (test (get_or xs i d)) old (checked_fault (get_or xs i d))
    → all_told old (map checked_fault (filter test (drop i xs))) ≡ all → all_told new (map checked_fault (filter test (drop (i + 1) xs))) ≡ all
checked-next test xs i d old new all within n h =
    let x = get_or xs i d in
    let rest = filter test (drop (i + 1) xs) in
    let step : all_told old (map checked_fault (cond (test x) (x ∷ rest) rest)) ≡ all = rw (drop_more xs i d within) at h in
    rw n (told_or_not (test x) old x rest ∙ step)

pub checked-done : (test : DraftFault → Bool) (xs : List DraftFault) (i : ℕ) (told all : List ServeFault)
    → length xs ≤ i → all_told told (map checked_fault (filter test (drop i xs))) ≡ all → told ≡ all
checked-done test xs i told all past h = rw (drop_all i xs past) at h
