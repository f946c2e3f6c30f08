-- The waits between tries that fail one after another.
use Rattle.std.proofs.Common.{◌≡◌, ℕ, suc, ◌+◌, ◌-◌, ◌*◌, ◌^◌, ◌≤◌, List, [], ◌∷◌, length, min, refl, ap, sym, ◌∙◌, inl, inr, arith}
use Rattle.std.proofs.Math.Nat.{min-eq_left, min-eq_right}
use Rattle.std.proofs.lemmas.Bool.{cases_lt}
use Rattle.sctp_rules.specs.State.{Up, Failed}
use Rattle.sctp_gate.specs.declared.standing.Standing.{Standing}
use Rattle.sctp_gate.specs.Standing.{first_standing, stands_by}
use Rattle.sctp_gate.specs.Laws.{Failure, after_failures, WaitsDouble, waits_double_from_up}

-- twice a wait, within the longest
twice : (x : ℕ) → min 30000 (2 * min 30000 x) ≡ min 30000 (2 * x)
twice x =
    elim (cases_lt x 30000) [
      | inl below ↦ ap (λ (n : ℕ). min 30000 (2 * n)) (let h : x ≤ 30000 = omega (arith, below) in min-eq_right h)
      | inr above ↦
          let most : 30000 ≤ 2 * x = omega (arith, above) in
          ap (λ (n : ℕ). min 30000 (2 * n)) (min-eq_left above) ∙ sym (min-eq_left most)
    ]

one-more : (k : ℕ) → 2 * (1000 * 2 ^ k) ≡ 1000 * 2 ^ (k + 1)
one-more k =
    let power : 2 ^ k * 2 ≡ 2 ^ suc k = omega arith in
    let twofold : 2 * (1000 * 2 ^ k) ≡ 1000 * 2 ^ suc k = omega (arith, power) in
    twofold ∙ ap (λ (n : ℕ). 1000 * 2 ^ n) (let same : suc k ≡ k + 1 = omega arith in same)

wait-after : (failures : List Failure) (p : Standing) (k : ℕ) → p.wait ≡ min 30000 (1000 * 2 ^ k) →
    (after_failures failures p).wait ≡ min 30000 (1000 * 2 ^ (k + length failures))
wait-after [] p k e = e ∙ ap (λ (n : ℕ). min 30000 (1000 * 2 ^ n)) (let same : k ≡ k + 0 = omega arith in same)
wait-after (f ∷ more) p k e =
    wait-after more (stands_by f.moment (Failed f.why) p) (k + 1)
    (ap (λ (n : ℕ). min 30000 (2 * n)) e ∙ twice (1000 * 2 ^ k) ∙ ap (λ (n : ℕ). min 30000 n) (one-more k))
    ∙ ap (λ (n : ℕ). min 30000 (1000 * 2 ^ n)) (let same : (k + 1) + length more ≡ k + suc (length more) = omega arith in same)

double : (p : Standing) → p.wait ≡ 1000 → WaitsDouble p
double p e failures last =
    ap (λ (n : ℕ). min (2 ^ 64 - 1) (last.moment + n))
    (wait-after failures p 0 e
    ∙ ap (λ (n : ℕ). min 30000 (1000 * 2 ^ n)) (let same : 0 + length failures ≡ length failures = omega arith in same))

pub from-first : WaitsDouble first_standing
from-first = double first_standing refl

pub from-up : waits_double_from_up
from-up moment p = double (stands_by moment Up p) refl
