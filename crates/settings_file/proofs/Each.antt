-- Reading several values, one after the other.
use Rattle.settings_file.proofs.Basics.{◌≡◌, ◌⊎◌, inl, inr, ℕ, ◌+◌, ◌<◌, ◌≤◌, List, [], ◌∷◌, ◌++◌, length, get_or, drop, map, Result, Ok, Err, append_assoc, append-nil, refl, ap, sym, ◌∙◌, drop_more, drop_all, and_then, each, listed, view, items_view, SettingsFault}
use Rattle.settings_file.specs.Faults.{no_memory}
use Rattle.toml.specs.declared.value.Value.{Value}

-- the entries of an array of values
pub listed-items_view : (vs : List Value) → listed (items_view vs) ≡ map view vs
listed-items_view [] = refl
listed-items_view (v ∷ vs) = ap (λ ds. view v ∷ ds) (listed-items_view vs)

-- what was read so far, and then the rest
abbrev pub after : {B : Type 0} → List B → Result (List B) SettingsFault → Result (List B) SettingsFault
after done rest = and_then rest (λ bs. Ok (done ++ bs))

pub after-none : {B : Type 0} (rest : Result (List B) SettingsFault) → after [] rest ≡ rest
after-none (Ok bs) = refl
after-none (Err fault) = refl

after-one : {B : Type 0} (done : List B) (b : B) (rest : Result (List B) SettingsFault)
    → after done (and_then rest (λ bs. Ok (b ∷ bs))) ≡ after (done ++ b ∷ []) rest
after-one done b (Ok bs) = rw append_assoc
after-one done b (Err fault) = refl

-- One step of reading each of the values vs: those before number i are done, v is number i, and `all` is what
-- reading each gives.
module _ {V A B : Type 0} (seen : V → A) (read : ℕ → A → Result B SettingsFault) (vs : List V) (i : ℕ) (done : List B) (all : Result (List B) SettingsFault)
    (so_far : after done (each read i (map seen (drop i vs))) ≡ all) where
  pub read-next : (v : V) (b : B) (more : List B) → i < length vs → v ≡ get_or vs i v → read i (seen v) ≡ Ok b → more ≡ done ++ b ∷ []
      → after more (each read (i + 1) (map seen (drop (i + 1) vs))) ≡ all
  read-next v b more within is ok grown =
      let step = rw (drop_more vs i v within, ← is, ok) at so_far in
      rw grown (sym (after-one done b _) ∙ step)

  pub read-fault : (v : V) (fault : SettingsFault) → i < length vs → v ≡ get_or vs i v → read i (seen v) ≡ Err fault → all ≡ Err fault
  read-fault v fault within is err =
      let step = rw (drop_more vs i v within, ← is, err) at so_far in
      sym step

  pub read-fault_or : (v : V) (fault : SettingsFault) → i < length vs → v ≡ get_or vs i v → (fault ≡ no_memory) ⊎ (read i (seen v) ≡ Err fault)
      → (fault ≡ no_memory) ⊎ (all ≡ Err fault)
  read-fault_or v fault within is (inl memory) = inl memory
  read-fault_or v fault within is (inr err) = inr (read-fault v fault within is err)

  pub read-all : length vs ≤ i → all ≡ Ok done
  read-all past =
      let step = rw (drop_all i vs past) at so_far in
      sym step ∙ ap Ok (append-nil done)
