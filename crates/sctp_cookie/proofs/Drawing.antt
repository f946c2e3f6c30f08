-- The tags of the numbers below one, under any permutation.
use Rattle.std.proofs.Common.{◌≡◌, ◌≢◌, ℕ, zero, suc, ◌+◌, ◌-◌, ◌^◌, ◌<◌, ◌≤◌, List, [], ◌∷◌, ◌++◌, length, refl, sym, ap, subst, ◌∙◌, inl, inr, add-one, length-append, arith}
use Rattle.std.proofs.lemmas.Bool.{cases_lt, cases_eq, eq-eqb, ne_eqb, lt-ltb, le-ltb}
use Rattle.std.specs.Prelude.{All, IfSome, IfNone}
use Rattle.std.specs.List.{AllPairs}
use Rattle.std.proofs.lemmas.List.Elements.{All-nil, All-push}
use Rattle.std.proofs.lemmas.List.Quantifiers.{all_pairs_push}
use Rattle.sctp_cookie.specs.Tags.{Drawing, half_given, permutation, tags_below, drawn, numbers, next_tag, after_draw}
use Rattle.sctp_cookie.proofs.Permuting.{permuted-fits, permuted_back-fits, permuted-permuted_back, permuted-apart}
use Rattle.sctp_cookie.specs.Permutation.{permuted_back}

pub record Permutes (p : ℕ → ℕ) : Type 0 where
  pub fits : (n : ℕ) → n < numbers → p n < numbers
  pub apart : (m n : ℕ) → m < numbers → n < numbers → p m ≡ p n → m ≡ n
  -- the number that gives 0
  pub void : ℕ
  pub void_fits : void < numbers
  pub void_gives : p void ≡ 0

pub permutation-permutes : (key : List ℕ) → Permutes (permutation key)
unfolding permutation
permutation-permutes key = record {
  fits = permuted-fits (half_given key);
  apart = permuted-apart (half_given key);
  void = permuted_back (half_given key) 0;
  void_fits = permuted_back-fits (half_given key) 0 (omega arith);
  void_gives = permuted-permuted_back (half_given key) 0 (omega arith);
}

-- ---- one more number

passes : (p : ℕ → ℕ) (n : ℕ) → p n ≡ 0 → tags_below p (suc n) ≡ tags_below p n
unfolding tags_below
passes p n e = rw (eq-eqb (p n) 0 e)

gives : (p : ℕ → ℕ) (n : ℕ) → p n ≢ 0 → tags_below p (suc n) ≡ tags_below p n ++ p n ∷ []
unfolding tags_below
gives p n e = rw (ne_eqb (p n) 0 e)

-- what holds of the tag of each number that gives one holds of all tags
each : (P : ℕ → Type 0) (p : ℕ → ℕ) (n : ℕ) → ((k : ℕ) → k < n → p k ≢ 0 → P (p k)) → All P (tags_below p n)
unfolding tags_below
each P p zero h = All-nil P
each P p (suc n) h =
    let before = each P p n (λ k b e. h k (omega (arith, b)) e) in
    elim (cases_eq (p n) 0) [
      | inl void ↦ subst (All P) (sym (passes p n void)) before
      | inr other ↦ subst (All P) (sym (gives p n other)) (All-push P (tags_below p n) (p n) before (h n (omega arith) other))
    ]

pub none_is_0 : (p : ℕ → ℕ) (n : ℕ) → All (λ tag. tag ≢ 0) (tags_below p n)
none_is_0 p n = each (λ tag. tag ≢ 0) p n (λ k b e. e)

pub fit : (p : ℕ → ℕ) (n : ℕ) → Permutes p → n ≤ numbers → All (λ tag. tag < numbers) (tags_below p n)
fit p n h m = each (λ tag. tag < numbers) p n (λ k b e. h.fits k (omega (arith, b, m)))

-- the tag of a number differs from those of the numbers below it
others : (p : ℕ → ℕ) (n : ℕ) → Permutes p → n < numbers → All (λ tag. tag ≢ p n) (tags_below p n)
others p n h m = each (λ tag. tag ≢ p n) p n (λ k b e same. omega (arith, b, h.apart k n (omega (arith, b, m)) m same))

pub differ : (p : ℕ → ℕ) (n : ℕ) → Permutes p → n ≤ numbers → AllPairs (λ s t. s ≢ t) (tags_below p n)
unfolding tags_below
differ p zero h m = λ i j d b c. absurd (omega (arith, c))
differ p (suc n) h m =
    let before = differ p n h (omega (arith, m)) in
    elim (cases_eq (p n) 0) [
      | inl void ↦ subst (AllPairs (λ s t. s ≢ t)) (sym (passes p n void)) before
      | inr other ↦ subst (AllPairs (λ s t. s ≢ t)) (sym (gives p n other)) (all_pairs_push (λ s t. s ≢ t) (tags_below p n) (p n) before (others p n h (omega (arith, m))))
    ]

-- ---- how many there are

count_before : (p : ℕ → ℕ) (n : ℕ) (h : Permutes p) → n ≤ h.void → length (tags_below p n) ≡ n
unfolding tags_below
count_before p zero h b = refl
count_before p (suc n) h b =
    let before = count_before p n h (omega (arith, b)) in
    let other : p n ≢ 0 = λ e. omega (arith, b, h.apart n h.void (omega (arith, b, h.void_fits)) h.void_fits (e ∙ sym h.void_gives)) in
    ap length (gives p n other) ∙ omega (arith, before, length-append (tags_below p n) (p n ∷ []))

pub count_behind : (p : ℕ → ℕ) (n : ℕ) (h : Permutes p) → h.void < n → n ≤ numbers → length (tags_below p n) + 1 ≡ n
unfolding tags_below
count_behind p zero h b m = absurd (omega (arith, b))
count_behind p (suc n) h b m =
    elim (cases_eq n h.void) [
      | inl same ↦
          let before = count_before p n h (omega (arith, same)) in
          let shorter = ap length (passes p n (ap p same ∙ h.void_gives)) in
          omega (arith, before, shorter)
      | inr apart ↦
          let before = count_behind p n h (omega (arith, b, apart)) (omega (arith, m)) in
          let other : p n ≢ 0 = λ e. apart (h.apart n h.void (omega (arith, m)) h.void_fits (e ∙ sym h.void_gives)) in
          let longer = ap length (gives p n other) in
          omega (arith, before, longer, length-append (tags_below p n) (p n ∷ []))
    ]

-- ---- a draw

-- the next number passes, and the one after it gives a tag
next_behind : (d : Drawing) → d.used < numbers → permutation d.key d.used ≡ 0 → IfSome (next_tag d) (λ tag. drawn (after_draw d) ≡ drawn d ++ tag ∷ [])
next_behind d b void =
    let p = permutation d.key in
    let h = permutation-permutes d.key in
    elim (cases_lt (d.used + 1) numbers) [
      | inl again ↦
          let other : p (d.used + 1) ≢ 0 = λ e. omega (arith, h.apart (d.used + 1) d.used again b (e ∙ sym void)) in
          let longer : tags_below p (d.used + 1 + 1) ≡ tags_below p (d.used + 1) ++ p (d.used + 1) ∷ [] = rw (add-one (d.used + 1)) (gives p (d.used + 1) other) in
          let same : tags_below p (d.used + 1) ≡ tags_below p d.used = rw (add-one d.used) (passes p d.used void) in
          rw (lt-ltb d.used numbers b, eq-eqb (p d.used) 0 void, lt-ltb (d.used + 1) numbers again) (longer ∙ ap (λ (tags : List ℕ). tags ++ p (d.used + 1) ∷ []) same)
      | inr past ↦ rw (lt-ltb d.used numbers b, eq-eqb (p d.used) 0 void, le-ltb (d.used + 1) numbers past) tt
    ]

next_here : (d : Drawing) → d.used < numbers → permutation d.key d.used ≢ 0 → IfSome (next_tag d) (λ tag. drawn (after_draw d) ≡ drawn d ++ tag ∷ [])
next_here d b other =
    let p = permutation d.key in
    let longer : tags_below p (d.used + 1) ≡ tags_below p d.used ++ p d.used ∷ [] = rw (add-one d.used) (gives p d.used other) in
    rw (lt-ltb d.used numbers b, ne_eqb (p d.used) 0 other) longer

pub drawn-next : (d : Drawing) → IfSome (next_tag d) (λ tag. drawn (after_draw d) ≡ drawn d ++ tag ∷ [])
drawn-next d =
    elim (cases_lt d.used numbers) [
      | inl below ↦ elim (cases_eq (permutation d.key d.used) 0) [ inl void ↦ next_behind d below void | inr other ↦ next_here d below other ]
      | inr past ↦ rw (le-ltb d.used numbers past) tt
    ]

-- there is no next number
end_past : (d : Drawing) → d.used ≡ numbers → IfNone (next_tag d) (length (drawn (after_draw d)) ≡ 2 ^ 32 - 1)
end_past d e =
    let h = permutation-permutes d.key in
    let all = count_behind (permutation d.key) d.used h (omega (arith, e, h.void_fits)) (omega (arith, e)) in
    rw (le-ltb d.used numbers (omega (arith, e))) (omega (arith, e, all))

-- the next number passes
end_behind : (d : Drawing) → d.used < numbers → permutation d.key d.used ≡ 0 → IfNone (next_tag d) (length (drawn (after_draw d)) ≡ 2 ^ 32 - 1)
end_behind d b void =
    let p = permutation d.key in
    let h = permutation-permutes d.key in
    elim (cases_lt (d.used + 1) numbers) [
      | inl again ↦ rw (lt-ltb d.used numbers b, eq-eqb (p d.used) 0 void, lt-ltb (d.used + 1) numbers again) tt
      | inr past ↦
          let same = h.apart d.used h.void b h.void_fits (void ∙ sym h.void_gives) in
          let all = count_behind p (d.used + 1) h (omega (arith, same)) (omega (arith, b)) in
          rw (lt-ltb d.used numbers b, eq-eqb (p d.used) 0 void, le-ltb (d.used + 1) numbers past) (omega (arith, b, past, all))
    ]

pub end-next : (d : Drawing) → d.used ≤ numbers → IfNone (next_tag d) (length (drawn (after_draw d)) ≡ 2 ^ 32 - 1)
end-next d m =
    elim (cases_lt d.used numbers) [
      | inl below ↦
          elim (cases_eq (permutation d.key d.used) 0) [
            | inl void ↦ end_behind d below void
            | inr other ↦ rw (lt-ltb d.used numbers below, ne_eqb (permutation d.key d.used) 0 other) tt
          ]
      | inr past ↦ end_past d (omega (arith, m, past))
    ]
