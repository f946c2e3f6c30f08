-- The longest row that leads the digits is a row that leads them, and none of these is longer.
use Rattle.sccp_relay.proofs.Basics.{◌≡◌, ℕ, zero, suc, ◌<◌, ◌≤◌, Bool, true, false, cond, List, [], ◌∷◌, length, get_or, Option, Some, None, refl, subst, ◌⊎◌, inl, inr, arith, cases_lt, lt-ltb, le-ltb, All-from_recursion, AllByRecursion, filter, IfSome, TitleEntry, TitleKey, longer, longest_from, leads, IsTranslation}
use Rattle.sccp_relay.specs.Translation.{longest}

abbrev pub AtMost : ℕ → TitleEntry → Type 0
AtMost n row = length row.digits ≤ n

longer-one : (best row found : TitleEntry) (b : Bool) → cond b (Some row) (Some best) ≡ Some found → (best ≡ found) ⊎ (row ≡ found)
longer-one best row found true e = inr cc
longer-one best row found false e = inl cc

-- the longer of two is one of them
longer-origin : (best : Option TitleEntry) (row found : TitleEntry) → longer best row ≡ Some found → (best ≡ Some found) ⊎ (row ≡ found)
longer-origin None row found e = inr cc
longer-origin (Some best) row found e = elim (longer-one best row found _ e) [ inl f ↦ inl cc | inr f ↦ inr f ]

-- the longer of two is as long as each
longer-bound : (best : Option TitleEntry) (row : TitleEntry) (n : ℕ) → IfSome (longer best row) (AtMost n) → IfSome best (AtMost n) × AtMost n row
longer-bound None row n h = (tt, h)
longer-bound (Some best) row n h =
    elim (cases_lt (length best.digits) (length row.digits)) [
      | inl below ↦ let k : AtMost n row = rw (lt-ltb (length best.digits) (length row.digits) below) at h in (omega (arith, below, k), k)
      | inr above ↦ let k : AtMost n best = rw (le-ltb (length best.digits) (length row.digits) above) at h in (k, omega (arith, above, k))
    ]

record Found (test : TitleEntry → Bool) (best : Option TitleEntry) (rows : List TitleEntry) (row : TitleEntry) : Type 0 where
  pub origin : (best ≡ Some row) ⊎ ((k : ℕ) × (k < length rows) × (get_or rows k row ≡ row) × (test row ≡ true))
  pub before : IfSome best (AtMost (length row.digits))
  pub all : AllByRecursion (λ other. test other ≡ true → AtMost (length row.digits) other) rows

same-bound : (best : Option TitleEntry) (row : TitleEntry) → best ≡ Some row → IfSome best (AtMost (length row.digits))
same-bound None row e = tt
same-bound (Some best) row e = let same : best ≡ row = cc in rw same (omega arith)

later : (test : TitleEntry → Bool) (first : TitleEntry) (rows : List TitleEntry) (row : TitleEntry)
    → ((k : ℕ) × (k < length rows) × (get_or rows k row ≡ row) × (test row ≡ true)) → (k : ℕ) × (k < length (first ∷ rows)) × (get_or (first ∷ rows) k row ≡ row) × (test row ≡ true)
later test first rows row (k, lt, e, t) = (suc k, omega (arith, lt), e, t)

found-step : (test : TitleEntry → Bool) (best : Option TitleEntry) (first : TitleEntry) (rows : List TitleEntry) (row : TitleEntry) (b : Bool) → test first ≡ b
    → Found test (cond b (longer best first) best) rows row → Found test best (first ∷ rows) row
found-step test best first rows row false t f = record {
  origin = elim f.origin [ inl e ↦ inl e | inr at ↦ inr (later test first rows row at) ];
  before = f.before;
  all = (λ e. absurd (let two : false ≡ true = cc in cc), f.all);
}
found-step test best first rows row true t f =
    let bound = longer-bound best first (length row.digits) f.before in
    record {
      origin =
          elim f.origin [
            | inl e ↦ elim (longer-origin best first row e) [
              | inl old ↦ inl old
              | inr new ↦ inr (zero, omega arith, new, subst (λ (r : TitleEntry). test r ≡ true) new t)
            ]
            | inr at ↦ inr (later test first rows row at)
          ];
      before = bound.0;
      all = (λ e. bound.1, f.all);
    }

stepped : (b : Bool) (best : Option TitleEntry) (first : TitleEntry) (rest : List TitleEntry) (row : TitleEntry) → longest_from best (cond b (first ∷ rest) rest) ≡ Some row
    → longest_from (cond b (longer best first) best) rest ≡ Some row
stepped true best first rest row e = e
stepped false best first rest row e = e

found : (test : TitleEntry → Bool) (rows : List TitleEntry) (best : Option TitleEntry) (row : TitleEntry) → longest_from best (filter test rows) ≡ Some row → Found test best rows row
found test [] best row e = record { origin = inl e; before = same-bound best row e; all = tt }
found test (first ∷ rows) best row e =
    found-step test best first rows row (test first) refl (found test rows (cond (test first) (longer best first) best) row (stepped (test first) best first (filter test rows) row e))

pub is_translation-longest : (rows : List TitleEntry) (key : TitleKey) (digits : List ℕ) (row : TitleEntry) → longest (filter (leads key digits) rows) ≡ Some row
    → IsTranslation rows key digits row
is_translation-longest rows key digits row e =
    let f = found (leads key digits) rows None row e in
    elim f.origin [
      | inl none ↦ absurd cc
      | inr at ↦ record { among = (at.0, at.1, at.2); leading = at.3; longest = All-from_recursion _ rows f.all }
    ]
