-- A mated pair is linked.
use Rattle.std.proofs.Common.{◌≡◌, ◌||◌, ℕ, Bool, true, false, [], refl, sym, subst}
use Rattle.std.specs.Prelude.{count_by, if◌then◌else◌, nat_eq}
use Rattle.settings.specs.Well.{IsWell}
use Rattle.settings.specs.Configuration.{Configuration}
use Rattle.node_moves.specs.MatedPair.{end_settings, mated, transfer_settings, without_links}
use Rattle.node_moves.proofs.Basics.{eqb-true}
use Rattle.node_moves.proofs.Mated.{mated-theirs}
use Rattle.network_rules.specs.Totals.{IsPlaced, is_listed}
use Rattle.node_law.specs.Mated.{IsMatedPairLinked, mated_points}
use Rattle.node_law.proofs.Places.{linked-of}

module _ (point : ℕ) where
  abbrev settings_by : (one two three four : Bool) → Configuration
  settings_by one two three four =
      if one then transfer_settings 1 2 else if two then transfer_settings 2 1 else if three then end_settings 3 4 else if four then end_settings 4 3 else without_links point

  abbrev is_one : (one two three four : Bool) → Bool
  is_one one two three four = one || (two || (three || (four || false)))

  own-at : (mated point).own ≡ point
  own-at = by (nat_eq point 1) (nat_eq point 2) (nat_eq point 3) (nat_eq point 4) refl refl refl refl
    where
      by : (one two three four : Bool) → nat_eq point 1 ≡ one → nat_eq point 2 ≡ two → nat_eq point 3 ≡ three → nat_eq point 4 ≡ four → (settings_by one two three four).own ≡ point
      by true two three four e f g h = sym (eqb-true point 1 e)
      by false true three four e f g h = sym (eqb-true point 2 f)
      by false false true four e f g h = sym (eqb-true point 3 g)
      by false false false true e f g h = sym (eqb-true point 4 h)
      by false false false false e f g h = refl

  no-others : is_listed mated_points point ≡ false → (mated point).links ≡ []
  no-others none = by (nat_eq point 1) (nat_eq point 2) (nat_eq point 3) (nat_eq point 4) none
    where
      by : (one two three four : Bool) → is_one one two three four ≡ false → (settings_by one two three four).links ≡ []
      by true two three four e = absurd cc
      by false true three four e = absurd cc
      by false false true four e = absurd cc
      by false false false true e = absurd cc
      by false false false false e = refl

  of-listed : (P : ℕ → Type 0) → P 1 → P 2 → P 3 → P 4 → is_listed mated_points point ≡ true → P point
  of-listed P a b c d its = by (nat_eq point 1) (nat_eq point 2) (nat_eq point 3) (nat_eq point 4) refl refl refl refl its
    where
      by : (one two three four : Bool) → nat_eq point 1 ≡ one → nat_eq point 2 ≡ two → nat_eq point 3 ≡ three → nat_eq point 4 ≡ four → is_one one two three four ≡ true → P point
      by true two three four e f g h i = subst P (sym (eqb-true point 1 e)) a
      by false true three four e f g h i = subst P (sym (eqb-true point 2 f)) b
      by false false true four e f g h i = subst P (sym (eqb-true point 3 g)) c
      by false false false true e f g h i = subst P (sym (eqb-true point 4 h)) d
      by false false false false e f g h i = absurd cc

pub mated-placed : IsPlaced mated mated_points
mated-placed = record {
  own = own-at;
  once = λ point its. of-listed point (λ p. count_by (nat_eq p) mated_points ≡ 1) refl refl refl refl its;
  well = λ point its.
      of-listed point (λ p. IsWell (mated p)) (mated-theirs.well 1 refl) (mated-theirs.well 2 refl) (mated-theirs.well 3 refl) (mated-theirs.well 4 refl) its;
  others = no-others;
}

pub mated-linked : IsMatedPairLinked
mated-linked = record { placed = mated-placed; linked = linked-of mated mated_points mated-placed mated-theirs }
