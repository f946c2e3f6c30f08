-- Lists of settings, looked at one by one.
use Rattle.std.proofs.Common.{◌≡◌, ◌<◌, ◌+◌, ℕ, Bool, true, false, List, Some, None, nat_eq, refl, ap, sym, subst, ◌∙◌, arith}
use Rattle.std.specs.Prelude.{position, slice_index_or}
use Rattle.std.proofs.lemmas.Bool.Decides.{nat_tests}
use Rattle.settings.specs.Configuration.{Configuration}
use Rattle.settings.specs.Readings.{set_place}
use Rattle.settings.specs.Sharing.{SharesSet}
use Rattle.network_world.specs.Joined.{no_settings, settings_at, settings_for, settings_or}
use Rattle.network_world.proofs.Firsts.{found-at, found-none}
use Rattle.network_world.proofs.NodePlaces.{equal}

pub same-some : (x y : Configuration) → Some x ≡ Some y → x ≡ y
same-some x y e = cc

-- ---- what holds of each up to a place

module _ (P : ℕ → Type 0) (i : ℕ) (before : (j : ℕ) → j < i → P j) (here : P i) where
  by-place : (j : ℕ) (b : Bool) → nat_eq j i ≡ b → j < i + 1 → P j
  by-place j true e l = subst P (sym (equal j i e)) here
  by-place j false e l = before j (below j i e l)
    where
      below : (j i : ℕ) → nat_eq j i ≡ false → j < i + 1 → j < i
      below j i e l = grind (arith, nat_tests, e, l)

  pub one-further : (j : ℕ) → j < i + 1 → P j
  one-further j l = by-place j (nat_eq j i) refl l

-- ---- the settings of a point

module _ (xs : List Configuration) (c : Configuration) (point : ℕ) where
  pub shares-there : (i : ℕ) (d : Configuration) → position (λ (o : Configuration). nat_eq o.own point) xs ≡ Some i → settings_at xs point ≡ slice_index_or xs i d
  shares-there i d e = ap (settings_or point) (found-at (λ (o : Configuration). nat_eq o.own point) xs i d e)

  none-there : settings_for xs point ≡ None → SharesSet c (settings_at xs point) → ⊥
  none-there e shares =
      let at : settings_at xs point ≡ no_settings point = ap (settings_or point) e in
      let no : set_place (no_settings point) c.own ≡ Some shares.far_set = ap (λ (o : Configuration). set_place o c.own) (sym at) ∙ shares.far_leads.adjacent in cc

  pub shares-none : position (λ (o : Configuration). nat_eq o.own point) xs ≡ None → SharesSet c (settings_at xs point) → ⊥
  shares-none e = none-there (found-none (λ (o : Configuration). nat_eq o.own point) xs e)
