-- What each entry of an array counts as, one after another.
use Rattle.settings_file.proofs.Basics.{◌≡◌, ℕ, ◌+◌, ◌<◌, ◌≤◌, List, [], ◌∷◌, ◌++◌, length, get_or, drop, map, sym, ◌∙◌, drop_more, drop_all, append_assoc, append-nil, view}
use Rattle.settings_file.specs.Mended.{members_in, each_mended}
use Rattle.toml.specs.Data.{Members}
use Rattle.toml.specs.declared.value.Value.{Value}

pub mended_entry : {A : Type 0} (mend : ℕ → Members → A) (vs : List Value) (i : ℕ) (v : Value) (t : Members) (x : A) (old new all : List A)
    → i < length vs → v ≡ get_or vs i v → new ≡ old ++ x ∷ [] → x ≡ mend i t → t ≡ members_in (view v) → old ++ each_mended mend i (map view (drop i vs)) ≡ all
    → new ++ each_mended mend (i + 1) (map view (drop (i + 1) vs)) ≡ all
mended_entry mend vs i v t x old new all within is n e m h =
    let step : old ++ (mend i (members_in (view v)) ∷ each_mended mend (i + 1) (map view (drop (i + 1) vs))) ≡ all = rw (drop_more vs i v within, ← is) at h in
    rw (n, e, m, append_assoc) step

pub mended_all : {A : Type 0} (mend : ℕ → Members → A) (vs : List Value) (i : ℕ) (done all : List A)
    → length vs ≤ i → done ++ each_mended mend i (map view (drop i vs)) ≡ all → done ≡ all
mended_all mend vs i done all past h =
    let step : done ++ [] ≡ all = rw (drop_all i vs past) at h in
    sym (append-nil done) ∙ step
