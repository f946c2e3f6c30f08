-- Keys that each of several gives, one after another.
use Rattle.settings_file.proofs.Basics.{◌≡◌, ℕ, ◌+◌, ◌<◌, ◌≤◌, List, [], ◌++◌, length, get_or, drop, ap, sym, ◌∙◌, drop_more, drop_all, append_assoc, append-nil}
use Rattle.settings.specs.declared.key.Key.{Key}
use Rattle.settings_file.specs.Doubts.{each_key}

-- three lists of keys, one behind another
pub three_behind : (old a b c : List Key) → ((old ++ a) ++ b) ++ c ≡ old ++ (a ++ (b ++ c))
three_behind old a b c = append_assoc (old ++ a) b c ∙ append_assoc old a (b ++ c)

pub keys_next : {A : Type 0} (keys : ℕ → A → List Key) (xs : List A) (i : ℕ) (d : A) (old new all : List Key)
    → i < length xs → new ≡ old ++ keys i (get_or xs i d) → old ++ each_key keys i (drop i xs) ≡ all
    → new ++ each_key keys (i + 1) (drop (i + 1) xs) ≡ all
keys_next keys xs i d old new all within n h =
    let step : old ++ (keys i (get_or xs i d) ++ each_key keys (i + 1) (drop (i + 1) xs)) ≡ all = rw (drop_more xs i d within) at h in
    rw (n, append_assoc) step

-- the same of an entry that was borrowed
pub keys_behind : {A : Type 0} (keys : ℕ → A → List Key) (xs : List A) (i : ℕ) (x : A) (old new all : List Key)
    → i < length xs → x ≡ get_or xs i x → new ≡ old ++ keys i x → old ++ each_key keys i (drop i xs) ≡ all
    → new ++ each_key keys (i + 1) (drop (i + 1) xs) ≡ all
keys_behind keys xs i x old new all within is n h = keys_next keys xs i x old new all within (n ∙ ap (λ v. old ++ keys i v) is) h

pub keys_all : {A : Type 0} (keys : ℕ → A → List Key) (xs : List A) (i : ℕ) (done all : List Key)
    → length xs ≤ i → done ++ each_key keys i (drop i xs) ≡ all → done ≡ all
keys_all keys xs i done all past h =
    let step : done ++ [] ≡ all = rw (drop_all i xs past) at h in
    sym (append-nil done) ∙ step
