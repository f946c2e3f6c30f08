-- Each round can be undone, so the network is a permutation.
use Rattle.std.proofs.Common.{◌≡◌, ℕ, ◌/◌, ◌%◌, ◌^◌, ◌<◌, sym, ap, ◌∙◌, arith}
use Rattle.std.specs.Prelude.{bit_xor}
use Rattle.std.specs.Int.Bits.{xor_assoc, xor_self, xor_zero_r}
use Rattle.std.proofs.lemmas.Nat.{xor_of_16, shr_high, mod_low, div-add-mod'}
use Rattle.sctp_cookie.specs.Permutation.{high_half, low_half, joined, round, round_back, permuted, permuted_back}

xor_twice : (a b : ℕ) → bit_xor (bit_xor a b) b ≡ a
xor_twice a b = xor_assoc a b b ∙ ap (bit_xor a) (xor_self b) ∙ xor_zero_r a

altered-fits : (high given : ℕ) → high < 2 ^ 16 → bit_xor high (given % 2 ^ 16) < 2 ^ 16
altered-fits high given h = xor_of_16 high (given % 2 ^ 16) h (omega arith)

pub round-fits : (f : ℕ → ℕ) (n : ℕ) → n < 2 ^ 32 → round f n < 2 ^ 32
unfolding round
round-fits f n h =
    let altered = altered-fits (n / 2 ^ 16) (f (n % 2 ^ 16)) (omega (arith, h)) in
    omega (arith, altered)

pub round_back-fits : (f : ℕ → ℕ) (n : ℕ) → n < 2 ^ 32 → round_back f n < 2 ^ 32
unfolding round_back
round_back-fits f n h =
    let altered = altered-fits (n % 2 ^ 16) (f (n / 2 ^ 16)) (omega arith) in
    omega (arith, altered, h)

undone : (f : ℕ → ℕ) (high low : ℕ) → high < 2 ^ 16 → round_back f (joined low (bit_xor high (f low % 2 ^ 16))) ≡ joined high low
unfolding round_back
undone f high low h =
    let altered = altered-fits high (f low) h in
    let front = shr_high low 16 (bit_xor high (f low % 2 ^ 16)) altered in
    let behind = mod_low low 16 (bit_xor high (f low % 2 ^ 16)) altered in
    rw (front, behind, xor_twice high (f low % 2 ^ 16))

redone : (f : ℕ → ℕ) (high low : ℕ) → high < 2 ^ 16 → low < 2 ^ 16 → round f (joined (bit_xor low (f high % 2 ^ 16)) high) ≡ joined high low
unfolding round
redone f high low h l =
    let front = shr_high (bit_xor low (f high % 2 ^ 16)) 16 high h in
    let behind = mod_low (bit_xor low (f high % 2 ^ 16)) 16 high h in
    rw (front, behind, xor_twice low (f high % 2 ^ 16))

pub round_back-round : (f : ℕ → ℕ) (n : ℕ) → n < 2 ^ 32 → round_back f (round f n) ≡ n
unfolding round
round_back-round f n h = undone f (high_half n) (low_half n) (omega (arith, h)) ∙ div-add-mod' n (2 ^ 16)

pub round-round_back : (f : ℕ → ℕ) (n : ℕ) → n < 2 ^ 32 → round f (round_back f n) ≡ n
unfolding round_back
round-round_back f n h = redone f (high_half n) (low_half n) (omega (arith, h)) (omega arith) ∙ div-add-mod' n (2 ^ 16)

pub permuted-fits : (f : ℕ → ℕ → ℕ) (n : ℕ) → n < 2 ^ 32 → permuted f n < 2 ^ 32
permuted-fits f n h = round-fits (f 3) _ (round-fits (f 2) _ (round-fits (f 1) _ (round-fits (f 0) n h)))

pub permuted_back-fits : (f : ℕ → ℕ → ℕ) (n : ℕ) → n < 2 ^ 32 → permuted_back f n < 2 ^ 32
permuted_back-fits f n h = round_back-fits (f 0) _ (round_back-fits (f 1) _ (round_back-fits (f 2) _ (round_back-fits (f 3) n h)))

pub permuted_back-permuted : (f : ℕ → ℕ → ℕ) (n : ℕ) → n < 2 ^ 32 → permuted_back f (permuted f n) ≡ n
permuted_back-permuted f n h =
    let once = round-fits (f 0) n h in
    let twice = round-fits (f 1) _ once in
    let thrice = round-fits (f 2) _ twice in
    ap (λ (m : ℕ). round_back (f 0) (round_back (f 1) (round_back (f 2) m))) (round_back-round (f 3) _ thrice)
    ∙ ap (λ (m : ℕ). round_back (f 0) (round_back (f 1) m)) (round_back-round (f 2) _ twice)
    ∙ ap (round_back (f 0)) (round_back-round (f 1) _ once)
    ∙ round_back-round (f 0) n h

pub permuted-permuted_back : (f : ℕ → ℕ → ℕ) (n : ℕ) → n < 2 ^ 32 → permuted f (permuted_back f n) ≡ n
permuted-permuted_back f n h =
    let once = round_back-fits (f 3) n h in
    let twice = round_back-fits (f 2) _ once in
    let thrice = round_back-fits (f 1) _ twice in
    ap (λ (m : ℕ). round (f 3) (round (f 2) (round (f 1) m))) (round-round_back (f 0) _ thrice)
    ∙ ap (λ (m : ℕ). round (f 3) (round (f 2) m)) (round-round_back (f 1) _ twice)
    ∙ ap (round (f 3)) (round-round_back (f 2) _ once)
    ∙ round-round_back (f 3) n h

pub permuted-apart : (f : ℕ → ℕ → ℕ) (m n : ℕ) → m < 2 ^ 32 → n < 2 ^ 32 → permuted f m ≡ permuted f n → m ≡ n
permuted-apart f m n h k e = sym (permuted_back-permuted f m h) ∙ ap (permuted_back f) e ∙ permuted_back-permuted f n k
