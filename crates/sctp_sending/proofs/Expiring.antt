-- When T3 runs, and for how long.
use Rattle.std.proofs.Common.{◌≡◌, ◌<◌, ◌≤◌, ℕ, suc, ◌+◌, ◌-◌, ◌*◌, ◌^◌, Bool, true, false, cond, ltb, eqb, List, [], ◌∷◌, Some, None, length, min, refl, sym, ap, ◌∙◌, inl, inr, arith}
use Rattle.std.proofs.Math.Nat.{min-eq_left, min-eq_right, mul_assoc}
use Rattle.std.proofs.lemmas.Bool.{cases_lt, eq-eqb, lt-ltb}
use Rattle.std.proofs.lemmas.Bool.Decides.{nat_tests}
use Rattle.sctp_sending.specs.Congestion.{after_all}
use Rattle.sctp_sending.specs.Sending.{Sending, confirmed, settled, acknowledged, gone_again, after_t3, after_each_t3}

-- twice a timeout, within the longest
twice : (x most : ℕ) → min (2 * min x most) most ≡ min (2 * x) most
twice x most =
    elim (cases_lt x most) [
      | inl below ↦ ap (λ (n : ℕ). min (2 * n) most) (let h : x ≤ most = omega (arith, below) in min-eq_left h)
      | inr above ↦
          let least : most ≤ 2 * most = omega arith in
          let more : most ≤ 2 * x = omega (arith, above) in
          ap (λ (n : ℕ). min (2 * n) most) (min-eq_right above) ∙ min-eq_right least ∙ sym (min-eq_right more)
    ]

once-more : (s : Sending) (now x : ℕ) → s.round_trips.timeout ≡ min x s.round_trips.bounds.most
    → (after_t3 s now).round_trips.timeout ≡ min (2 * x) s.round_trips.bounds.most
unfolding after_t3
once-more s now x e = ap (λ (n : ℕ). min (2 * n) s.round_trips.bounds.most) e ∙ twice x s.round_trips.bounds.most

same-most : (s : Sending) (now : ℕ) → (after_t3 s now).round_trips.bounds.most ≡ s.round_trips.bounds.most
unfolding after_t3
same-most s now = refl

powers : (n x : ℕ) → 2 ^ n * (2 * x) ≡ 2 ^ (suc n) * x
powers n x = sym (mul_assoc (2 ^ n) 2 x) ∙ ap (λ (k : ℕ). k * x) (let power : 2 ^ n * 2 ≡ 2 ^ suc n = omega arith in power)

each : (moments : List ℕ) (s : Sending) (x most : ℕ) → s.round_trips.bounds.most ≡ most → s.round_trips.timeout ≡ min x most
    → (after_each_t3 moments s).round_trips.timeout ≡ min (2 ^ length moments * x) most
each [] s x most m e = e ∙ ap (λ (n : ℕ). min n most) (let same : x ≡ 1 * x = omega arith in same)
each (now ∷ more) s x most m e =
    each more (after_t3 s now) (2 * x) most (same-most s now ∙ m)
    (once-more s now x (e ∙ ap (λ (n : ℕ). min x n) (sym m)) ∙ ap (λ (n : ℕ). min (2 * x) n) m)
    ∙ ap (λ (n : ℕ). min n most) (powers (length more) x)

pub doubles : (s : Sending) (moments : List ℕ) → s.round_trips.timeout ≤ s.round_trips.bounds.most
    → (after_each_t3 moments s).round_trips.timeout ≡ min (2 ^ length moments * s.round_trips.timeout) s.round_trips.bounds.most
doubles s moments l = each moments s s.round_trips.timeout s.round_trips.bounds.most refl (sym (min-eq_left l))

pub runs : (s : Sending) (now : ℕ) → (after_t3 s now).t3 ≡ Some (now + (after_t3 s now).round_trips.timeout)
unfolding after_t3
runs s now = refl

-- ---- by what settles it

anew : (s : Sending) (count now : ℕ) → 0 < s.went → 0 < count → (settled s count now).t3 ≡ Some (now + (settled s count now).round_trips.timeout)
unfolding settled
anew s count now l m =
    let some : eqb s.went 0 ≡ false = grind (arith, nat_tests, l) in
    let progress : ltb 0 count ≡ true = lt-ltb 0 count m in
    let later : Sending = record s { t3 = Some (now + s.round_trips.timeout) } in
    let is : settled s count now ≡ later =
    ap (λ (b : Bool). cond b (record s { t3 = None; congestion = after_all s.congestion }) (cond (ltb 0 count) later s)) some
    ∙ ap (λ (b : Bool). cond b later s) progress in
    ap (λ (t : Sending). t.t3) is ∙ ap (λ (t : Sending). Some (now + t.round_trips.timeout)) (sym is)

without : (s : Sending) (count now : ℕ) → s.went ≡ 0 → (settled s count now).t3 ≡ None
unfolding settled
without s count now e =
    let none : eqb s.went 0 ≡ true = eq-eqb s.went 0 e in
    ap (λ (b : Bool). (cond b (record s { t3 = None; congestion = after_all s.congestion }) (cond (ltb 0 count) (record s { t3 = Some (now + s.round_trips.timeout) }) s)).t3) none

stays : (s : Sending) (now : ℕ) → 0 < s.went → (settled s 0 now).t3 ≡ s.t3
unfolding settled
stays s now l =
    let some : eqb s.went 0 ≡ false = grind (arith, nat_tests, l) in
    ap (λ (b : Bool). (cond b (record s { t3 = None; congestion = after_all s.congestion }) s).t3) some

pub confirmed-anew : (s : Sending) (now window count : ℕ) (names : ℕ → Bool) → 0 < count → count < s.went
    → (acknowledged s now window count names).t3 ≡ Some (now + (acknowledged s now window count names).round_trips.timeout)
unfolding acknowledged confirmed
confirmed-anew s now window count names l m = anew _ count now (let left : 0 < s.went - count = omega (arith, m) in left) l

pub stops-without : (s : Sending) (now window count : ℕ) (names : ℕ → Bool) → s.went ≤ count → (acknowledged s now window count names).t3 ≡ None
unfolding acknowledged confirmed
stops-without s now window count names l = without _ count now (let none : s.went - count ≡ 0 = omega (arith, l) in none)

pub stays-otherwise : (s : Sending) (now window : ℕ) (names : ℕ → Bool) → 0 < s.went → (acknowledged s now window 0 names).t3 ≡ s.t3
unfolding acknowledged confirmed
stays-otherwise s now window names l = stays _ now (let left : 0 < s.went - 0 = omega (arith, l) in left)

pub again-anew : (s : Sending) (now : ℕ) → (gone_again s 0 now).t3 ≡ Some (now + s.round_trips.timeout)
unfolding gone_again
again-anew s now = refl
