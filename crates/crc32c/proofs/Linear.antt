-- Steps of the division distribute over xor, so what several octets leave is the xor of what each of them leaves.
use Rattle.std.proofs.Common.{◌≡◌, ℕ, zero, suc, ◌+◌, ◌*◌, ◌/◌, ◌%◌, ◌^◌, ◌<◌, Bool, true, false, List, [], ◌∷◌, ◌++◌, length, get_or, take, drop, bit_xor, refl, sym, ap, ◌∙◌, arith}
use Rattle.std.proofs.lemmas.Bool.{ne_eqb}
use Rattle.std.proofs.lemmas.List.{append_assoc, at_drop_more, take-append-drop}
use Rattle.std.proofs.lemmas.Nat.{xor_comm, xor_shr, xor_mod, xor_block, pow_pos}
use Rattle.std.proofs.Math.Nat.{pow-suc, mul_assoc}
use Rattle.std.specs.Prelude.{◌==◌, if◌then◌else◌, slice_index}
use Rattle.std.specs.Int.Bits.{xor_zero_l, xor_zero_r}
use Rattle.std.specs.Int.{w32, from_le_bytes}
use Rattle.std.specs.List.{flat_map}
use lib.Bits.{xor_assoc}
use Rattle.crc32c.specs.Division.{polynomial, divided, after_bits, lowest_bits, after_octets, divided_by}

-- ---- xor

pub xor_apart : (low high k : ℕ) → low < 2 ^ k → low + high * 2 ^ k ≡ bit_xor low (high * 2 ^ k)
xor_apart low high k fits =
    let joined = xor_block k 0 high low 0 fits (pow_pos k) in
    let left : 0 * 2 ^ k + low ≡ low = omega arith in
    let right : high * 2 ^ k + 0 ≡ high * 2 ^ k = omega arith in
    let sum : low + high * 2 ^ k ≡ high * 2 ^ k + low = omega arith in
    sum ∙ sym (ap (λ (x : ℕ). bit_xor x (high * 2 ^ k)) (sym left) ∙ ap (λ (x : ℕ). bit_xor (0 * 2 ^ k + low) x) (sym right) ∙ joined
    ∙ ap (λ (x : ℕ). bit_xor 0 high * 2 ^ k + x) (xor_zero_r low) ∙ ap (λ (x : ℕ). x * 2 ^ k + low) (xor_zero_l high))

xor_swap : (a b c d : ℕ) → bit_xor (bit_xor a b) (bit_xor c d) ≡ bit_xor (bit_xor a c) (bit_xor b d)
xor_swap a b c d =
    xor_assoc a b (bit_xor c d)
    ∙ ap (bit_xor a) (sym (xor_assoc b c d) ∙ ap (λ (x : ℕ). bit_xor x d) (xor_comm b c) ∙ xor_assoc c b d)
    ∙ sym (xor_assoc a c (bit_xor b d))

-- ---- one step

-- what the lowest bit takes away
abbrev taken : ℕ → ℕ
taken bit = if bit == 1 then polynomial else 0

either : (test : Bool) (n : ℕ) → (if test then bit_xor n polynomial else n) ≡ bit_xor n (if test then polynomial else 0)
either true n = refl
either false n = sym (xor_zero_r n)

divided-taken : (r : ℕ) → divided r ≡ bit_xor (r / 2) (taken (r % 2))
divided-taken r = either (r % 2 == 1) (r / 2)

taken-xor : (a b : ℕ) → a < 2 → b < 2 → taken (bit_xor a b) ≡ bit_xor (taken a) (taken b)
taken-xor zero zero x y = refl
taken-xor zero (suc zero) x y = refl
taken-xor (suc zero) zero x y = refl
taken-xor (suc zero) (suc zero) x y = refl
taken-xor zero (suc (suc b)) x y = absurd (omega (arith, y))
taken-xor (suc zero) (suc (suc b)) x y = absurd (omega (arith, y))
taken-xor (suc (suc a)) b x y = absurd (omega (arith, x))

pub divided-xor : (a b : ℕ) → divided (bit_xor a b) ≡ bit_xor (divided a) (divided b)
divided-xor a b =
    let half : bit_xor a b / 2 ≡ bit_xor (a / 2) (b / 2) = xor_shr a b 1 in
    let odd : bit_xor a b % 2 ≡ bit_xor (a % 2) (b % 2) = xor_mod a b 1 in
    let both = ap taken odd ∙ taken-xor (a % 2) (b % 2) (omega arith) (omega arith) in
    divided-taken (bit_xor a b) ∙ ap (λ (x : ℕ). bit_xor x (taken (bit_xor a b % 2))) half ∙ ap (bit_xor (bit_xor (a / 2) (b / 2))) both
    ∙ xor_swap (a / 2) (b / 2) (taken (a % 2)) (taken (b % 2)) ∙ sym (ap (bit_xor (divided a)) (divided-taken b) ∙ ap (λ (x : ℕ). bit_xor x (bit_xor (b / 2) (taken (b % 2)))) (divided-taken a))

pub divided-double : (n : ℕ) → divided (n * 2) ≡ n
divided-double n =
    let half : n * 2 / 2 ≡ n = omega arith in
    rw (ne_eqb (n * 2 % 2) 1 (λ odd. omega (arith, odd))) half

-- ---- several steps

pub divided_by-xor : (n a b : ℕ) → divided_by n (bit_xor a b) ≡ bit_xor (divided_by n a) (divided_by n b)
unfolding divided_by
divided_by-xor zero a b = refl
divided_by-xor (suc n) a b = ap (divided_by n) (divided-xor a b) ∙ divided_by-xor n (divided a) (divided b)

pub divided_by-add : (m n r : ℕ) → divided_by (m + n) r ≡ divided_by n (divided_by m r)
unfolding divided_by
divided_by-add zero n r = let e : zero + n ≡ n = omega arith in ap (λ (k : ℕ). divided_by k r) e
divided_by-add (suc m) n r = let e : suc m + n ≡ suc (m + n) = omega arith in ap (λ (k : ℕ). divided_by k r) e ∙ divided_by-add m n (divided r)

twice : (n k : ℕ) → n * 2 ^ suc k ≡ n * 2 ^ k * 2
twice n k = let e : 2 ^ suc k ≡ 2 ^ k * 2 = pow-suc 2 k in ap (λ (x : ℕ). n * x) e ∙ sym (mul_assoc n (2 ^ k) 2)

pub divided_by-shifted : (k n : ℕ) → divided_by k (n * 2 ^ k) ≡ n
unfolding divided_by
divided_by-shifted zero n = omega arith
divided_by-shifted (suc k) n = ap (divided_by (suc k)) (twice n k) ∙ ap (divided_by k) (divided-double (n * 2 ^ k)) ∙ divided_by-shifted k n

-- the lowest octet leaves what its own table holds for all the steps, and the others come to their turn after eight
pub lowest_octet : (k r : ℕ) → divided_by (8 + k) r ≡ bit_xor (divided_by (8 + k) (r % 2 ^ 8)) (divided_by k (r / 2 ^ 8))
lowest_octet k r =
    let parts : r ≡ r % 2 ^ 8 + r / 2 ^ 8 * 2 ^ 8 = omega arith in
    let fits : r % 2 ^ 8 < 2 ^ 8 = omega arith in
    ap (divided_by (8 + k)) (parts ∙ xor_apart (r % 2 ^ 8) (r / 2 ^ 8) 8 fits)
    ∙ divided_by-xor (8 + k) (r % 2 ^ 8) (r / 2 ^ 8 * 2 ^ 8)
    ∙ ap (bit_xor (divided_by (8 + k) (r % 2 ^ 8))) (divided_by-add 8 k (r / 2 ^ 8 * 2 ^ 8) ∙ ap (divided_by k) (divided_by-shifted 8 (r / 2 ^ 8)))

-- ---- bits

-- bits that come one by one are taken up at once
pub after_bits-number : (k r n : ℕ) → n < 2 ^ k → after_bits r (lowest_bits k n) ≡ divided_by k (bit_xor r n)
unfolding lowest_bits divided_by
after_bits-number zero r n fits = let none : n ≡ 0 = omega (arith, fits) in sym (ap (bit_xor r) none ∙ xor_zero_r r)
after_bits-number (suc k) r n fits =
    let parts : n ≡ n % 2 + n / 2 * 2 = omega arith in
    let apart : n ≡ bit_xor (n % 2) (n / 2 * 2) = parts ∙ xor_apart (n % 2) (n / 2) 1 (omega arith) in
    let less : n / 2 < 2 ^ k = omega (arith, fits, twice 1 k) in
    let one : divided (bit_xor r n) ≡ bit_xor (divided (bit_xor r (n % 2))) (n / 2) =
    ap divided (ap (bit_xor r) apart ∙ sym (xor_assoc r (n % 2) (n / 2 * 2))) ∙ divided-xor (bit_xor r (n % 2)) (n / 2 * 2)
    ∙ ap (bit_xor (divided (bit_xor r (n % 2)))) (divided-double (n / 2)) in
    after_bits-number k (divided (bit_xor r (n % 2))) (n / 2) less ∙ ap (divided_by k) (sym one)

pub after_bits-append : (r : ℕ) (xs ys : List ℕ) → after_bits r (xs ++ ys) ≡ after_bits (after_bits r xs) ys
after_bits-append r [] ys = refl
after_bits-append r (x ∷ xs) ys = after_bits-append (divided (bit_xor r x)) xs ys

lowest_bits-append : (k m low high : ℕ) → low < 2 ^ k → lowest_bits (k + m) (low + high * 2 ^ k) ≡ lowest_bits k low ++ lowest_bits m high
unfolding lowest_bits
lowest_bits-append zero m low high fits =
    let count : zero + m ≡ m = omega arith in
    let number : low + high * 2 ^ zero ≡ high = omega (arith, fits) in
    ap (λ (k : ℕ). lowest_bits k (low + high * 2 ^ zero)) count ∙ ap (lowest_bits m) number
lowest_bits-append (suc k) m low high fits =
    let count : suc k + m ≡ suc (k + m) = omega arith in
    let shifted = twice high k in
    let bit : (low + high * 2 ^ suc k) % 2 ≡ low % 2 = omega (arith, shifted) in
    let half : (low + high * 2 ^ suc k) / 2 ≡ low / 2 + high * 2 ^ k = omega (arith, shifted) in
    let less : low / 2 < 2 ^ k = omega (arith, fits, twice 1 k) in
    ap (λ (j : ℕ). lowest_bits j (low + high * 2 ^ suc k)) count
    ∙ ap (λ (b : ℕ). b ∷ lowest_bits (k + m) ((low + high * 2 ^ suc k) / 2)) bit
    ∙ ap (λ (n : ℕ). low % 2 ∷ lowest_bits (k + m) n) half
    ∙ ap (λ (bits : List ℕ). low % 2 ∷ bits) (lowest_bits-append k m (low / 2) high less)

word_bits : (a b c d : ℕ) → a < 2 ^ 8 → b < 2 ^ 8 → c < 2 ^ 8 → d < 2 ^ 8
    → lowest_bits 32 (from_le_bytes w32 (a ∷ b ∷ c ∷ d ∷ [])) ≡ lowest_bits 8 a ++ (lowest_bits 8 b ++ (lowest_bits 8 c ++ lowest_bits 8 d))
word_bits a b c d fa fb fc fd =
    let number : from_le_bytes w32 (a ∷ b ∷ c ∷ d ∷ []) ≡ a + (b + (c + d * 2 ^ 8) * 2 ^ 8) * 2 ^ 8 = omega arith in
    ap (lowest_bits 32) number ∙ lowest_bits-append 8 24 a _ fa
    ∙ ap (λ (bits : List ℕ). lowest_bits 8 a ++ bits)
    (lowest_bits-append 8 16 b _ fb ∙ ap (λ (bits : List ℕ). lowest_bits 8 b ++ bits) (lowest_bits-append 8 8 c d fc))

-- ---- octets

pub after_octet : (r octet : ℕ) (octets : List ℕ) → octet < 2 ^ 8 → after_octets r (octet ∷ octets) ≡ after_octets (divided_by 8 (bit_xor r octet)) octets
after_octet r octet octets fits =
    after_bits-append r (lowest_bits 8 octet) (flat_map (lowest_bits 8) octets)
    ∙ ap (λ (x : ℕ). after_octets x octets) (after_bits-number 8 r octet fits)

pub after_word : (r a b c d : ℕ) (octets : List ℕ) → a < 2 ^ 8 → b < 2 ^ 8 → c < 2 ^ 8 → d < 2 ^ 8
    → after_octets r (a ∷ b ∷ c ∷ d ∷ octets) ≡ after_octets (divided_by 32 (bit_xor r (from_le_bytes w32 (a ∷ b ∷ c ∷ d ∷ [])))) octets
after_word r a b c d octets fa fb fc fd =
    let rest = flat_map (lowest_bits 8) octets in
    let number : ℕ = from_le_bytes w32 (a ∷ b ∷ c ∷ d ∷ []) in
    let fits : number < 2 ^ 32 = omega (arith, fa, fb, fc, fd) in
    let one = lowest_bits 8 a in
    let two = lowest_bits 8 b in
    let three = lowest_bits 8 c in
    let four = lowest_bits 8 d in
    let joined : (one ++ (two ++ (three ++ four))) ++ rest ≡ one ++ (two ++ (three ++ (four ++ rest))) =
    append_assoc one (two ++ (three ++ four)) rest
    ∙ ap (λ (x : List ℕ). one ++ x) (append_assoc two (three ++ four) rest ∙ ap (λ (x : List ℕ). two ++ x) (append_assoc three four rest)) in
    ap (after_bits r) (sym joined) ∙ after_bits-append r (one ++ (two ++ (three ++ four))) rest
    ∙ ap (λ (bits : List ℕ). after_bits (after_bits r bits) rest) (sym (word_bits a b c d fa fb fc fd))
    ∙ ap (λ (x : ℕ). after_bits x rest) (after_bits-number 32 r number fits)

pub after_octets-append : (r : ℕ) (xs ys : List ℕ) → after_octets r (xs ++ ys) ≡ after_octets (after_octets r xs) ys
after_octets-append r [] ys = refl
after_octets-append r (x ∷ xs) ys =
    after_bits-append r (lowest_bits 8 x) (flat_map (lowest_bits 8) (xs ++ ys))
    ∙ after_octets-append (after_bits r (lowest_bits 8 x)) xs ys
    ∙ ap (λ (q : ℕ). after_octets q ys) (sym (after_bits-append r (lowest_bits 8 x) (flat_map (lowest_bits 8) xs)))

-- ---- what the code computes

-- four octets as a number, the lowest first
abbrev pub joined : ℕ → ℕ → ℕ → ℕ → ℕ
joined a b c d = a + (b + (c + d * 2 ^ 8) * 2 ^ 8) * 2 ^ 8

-- what a number of four octets leaves after n steps and 24 more: what each of them leaves
pub word_step : (k r a b c d : ℕ) → r ≡ joined a b c d → a < 2 ^ 8 → b < 2 ^ 8 → c < 2 ^ 8
    → bit_xor (divided_by (8 + (8 + (8 + k))) a) (bit_xor (divided_by (8 + (8 + k)) b) (bit_xor (divided_by (8 + k) c) (divided_by k d))) ≡ divided_by (8 + (8 + (8 + k))) r
word_step k r a b c d e fa fb fc =
    let cd : ℕ = c + d * 2 ^ 8 in
    let bcd : ℕ = b + cd * 2 ^ 8 in
    let a-is : r % 2 ^ 8 ≡ a = omega (arith, e, fa) in
    let above-a : r / 2 ^ 8 ≡ bcd = omega (arith, e, fa) in
    let b-is : bcd % 2 ^ 8 ≡ b = omega (arith, fb) in
    let above-b : bcd / 2 ^ 8 ≡ cd = omega (arith, fb) in
    let c-is : cd % 2 ^ 8 ≡ c = omega (arith, fc) in
    let above-c : cd / 2 ^ 8 ≡ d = omega (arith, fc) in
    let third : divided_by (8 + k) cd ≡ bit_xor (divided_by (8 + k) c) (divided_by k d) =
    lowest_octet k cd ∙ ap (λ (x : ℕ). bit_xor (divided_by (8 + k) x) (divided_by k (cd / 2 ^ 8))) c-is ∙ ap (λ (x : ℕ). bit_xor (divided_by (8 + k) c) (divided_by k x)) above-c in
    let second : divided_by (8 + (8 + k)) bcd ≡ bit_xor (divided_by (8 + (8 + k)) b) (divided_by (8 + k) cd) =
    lowest_octet (8 + k) bcd ∙ ap (λ (x : ℕ). bit_xor (divided_by (8 + (8 + k)) x) (divided_by (8 + k) (bcd / 2 ^ 8))) b-is ∙ ap (λ (x : ℕ). bit_xor (divided_by (8 + (8 + k)) b) (divided_by (8 + k) x)) above-b in
    let first : divided_by (8 + (8 + (8 + k))) r ≡ bit_xor (divided_by (8 + (8 + (8 + k))) a) (divided_by (8 + (8 + k)) bcd) =
    lowest_octet (8 + (8 + k)) r ∙ ap (λ (x : ℕ). bit_xor (divided_by (8 + (8 + (8 + k))) x) (divided_by (8 + (8 + k)) (r / 2 ^ 8))) a-is ∙ ap (λ (x : ℕ). bit_xor (divided_by (8 + (8 + (8 + k))) a) (divided_by (8 + (8 + k)) x)) above-a in
    sym (first ∙ ap (bit_xor (divided_by (8 + (8 + (8 + k))) a)) (second ∙ ap (bit_xor (divided_by (8 + (8 + k)) b)) third))

-- two words in turn leave what each of them leaves: the first after 64 steps, the second after 32
pub two_words : (r a b c d e f g h : ℕ) → a < 2 ^ 8 → b < 2 ^ 8 → c < 2 ^ 8 → d < 2 ^ 8 → e < 2 ^ 8 → f < 2 ^ 8 → g < 2 ^ 8 → h < 2 ^ 8
    → bit_xor (divided_by 64 (bit_xor r (from_le_bytes w32 (a ∷ b ∷ c ∷ d ∷ [])))) (divided_by 32 (joined e f g h))
    ≡ after_octets r (a ∷ b ∷ c ∷ d ∷ e ∷ f ∷ g ∷ h ∷ [])
two_words r a b c d e f g h fa fb fc fd fe ff fg fh =
    let one : ℕ = bit_xor r (from_le_bytes w32 (a ∷ b ∷ c ∷ d ∷ [])) in
    let between : ℕ = divided_by 32 one in
    let number : from_le_bytes w32 (e ∷ f ∷ g ∷ h ∷ []) ≡ joined e f g h = omega arith in
    sym (after_word r a b c d (e ∷ f ∷ g ∷ h ∷ []) fa fb fc fd
    ∙ after_word between e f g h [] fe ff fg fh
    ∙ divided_by-xor 32 between (from_le_bytes w32 (e ∷ f ∷ g ∷ h ∷ []))
    ∙ ap (λ (x : ℕ). bit_xor x (divided_by 32 (from_le_bytes w32 (e ∷ f ∷ g ∷ h ∷ [])))) (sym (divided_by-add 32 32 one))
    ∙ ap (λ (x : ℕ). bit_xor (divided_by 64 one) (divided_by 32 x)) number)

pub octet_step : (r octet : ℕ) → octet < 2 ^ 8 → bit_xor (divided_by 8 (bit_xor (r % 2 ^ 8) octet)) (r / 2 ^ 8) ≡ after_octets r (octet ∷ [])
unfolding divided_by
octet_step r octet fits =
    let x : ℕ = bit_xor r octet in
    let low : x % 2 ^ 8 ≡ bit_xor (r % 2 ^ 8) (octet % 2 ^ 8) = xor_mod r octet 8 in
    let same : octet % 2 ^ 8 ≡ octet = omega (arith, fits) in
    let high : x / 2 ^ 8 ≡ bit_xor (r / 2 ^ 8) (octet / 2 ^ 8) = xor_shr r octet 8 in
    let none : octet / 2 ^ 8 ≡ 0 = omega (arith, fits) in
    sym (after_octet r octet [] fits ∙ lowest_octet 0 x
    ∙ ap (λ (y : ℕ). bit_xor (divided_by 8 y) (x / 2 ^ 8)) (low ∙ ap (bit_xor (r % 2 ^ 8)) same)
    ∙ ap (bit_xor (divided_by 8 (bit_xor (r % 2 ^ 8) octet))) (high ∙ ap (bit_xor (r / 2 ^ 8)) none ∙ xor_zero_r (r / 2 ^ 8)))

-- every place has an octet
abbrev pub are_octets : List ℕ → Type 0
are_octets octets = (i : ℕ) → slice_index octets i < 2 ^ 8

pub four_octets : (r : ℕ) (octets : List ℕ) (word s : ℕ) → length octets ≡ 4 → are_octets octets → word ≡ from_le_bytes w32 octets
    → s ≡ divided_by 32 (bit_xor r word) → s ≡ after_octets r octets
four_octets r ([]) word s long fits w e = absurd (omega (arith, long))
four_octets r (a ∷ []) word s long fits w e = absurd (omega (arith, long))
four_octets r (a ∷ b ∷ []) word s long fits w e = absurd (omega (arith, long))
four_octets r (a ∷ b ∷ c ∷ []) word s long fits w e = absurd (omega (arith, long))
four_octets r (a ∷ b ∷ c ∷ d ∷ []) word s long fits w e = rw (e, w) (sym (after_word r a b c d [] (fits 0) (fits 1) (fits 2) (fits 3)))
four_octets r (a ∷ b ∷ c ∷ d ∷ x ∷ rest) word s long fits w e = absurd (omega (arith, long))

pub eight_octets : (r : ℕ) (octets : List ℕ) (word s t : ℕ) → length octets ≡ 8 → are_octets octets
    → word ≡ from_le_bytes w32 (slice_index octets 0 ∷ slice_index octets 1 ∷ slice_index octets 2 ∷ slice_index octets 3 ∷ [])
    → s ≡ divided_by 64 (bit_xor r word)
    → t ≡ divided_by 32 (joined (slice_index octets 4) (slice_index octets 5) (slice_index octets 6) (slice_index octets 7))
    → bit_xor s t ≡ after_octets r octets
eight_octets r ([]) word s t long fits w first second = absurd (omega (arith, long))
eight_octets r (a ∷ []) word s t long fits w first second = absurd (omega (arith, long))
eight_octets r (a ∷ b ∷ []) word s t long fits w first second = absurd (omega (arith, long))
eight_octets r (a ∷ b ∷ c ∷ []) word s t long fits w first second = absurd (omega (arith, long))
eight_octets r (a ∷ b ∷ c ∷ d ∷ []) word s t long fits w first second = absurd (omega (arith, long))
eight_octets r (a ∷ b ∷ c ∷ d ∷ e ∷ []) word s t long fits w first second = absurd (omega (arith, long))
eight_octets r (a ∷ b ∷ c ∷ d ∷ e ∷ f ∷ []) word s t long fits w first second = absurd (omega (arith, long))
eight_octets r (a ∷ b ∷ c ∷ d ∷ e ∷ f ∷ g ∷ []) word s t long fits w first second = absurd (omega (arith, long))
eight_octets r (a ∷ b ∷ c ∷ d ∷ e ∷ f ∷ g ∷ h ∷ []) word s t long fits w first second =
    rw (first, second, w) (two_words r a b c d e f g h (fits 0) (fits 1) (fits 2) (fits 3) (fits 4) (fits 5) (fits 6) (fits 7))
eight_octets r (a ∷ b ∷ c ∷ d ∷ e ∷ f ∷ g ∷ h ∷ x ∷ rest) word s t long fits w first second = absurd (omega (arith, long))

pub chunk_loop : (r s count : ℕ) (rest chunk behind : List ℕ) → chunk ≡ take count rest → behind ≡ drop count rest
    → s ≡ after_octets r chunk → after_octets s behind ≡ after_octets r rest
chunk_loop r s count rest chunk behind c b e =
    rw (e, c, b) (sym (after_octets-append r (take count rest) (drop count rest)) ∙ ap (after_octets r) (take-append-drop count rest))

pub octet_loop : (r s : ℕ) (xs : List ℕ) (i x : ℕ) → i < length xs → x ≡ get_or xs i 0 → s ≡ after_octets r (x ∷ [])
    → after_octets s (drop (i + 1) xs) ≡ after_octets r (drop i xs)
octet_loop r s xs i x inside read e =
    rw (e, read) (sym (at_drop_more (after_octets r) xs i 0 inside ∙ after_octets-append r (get_or xs i 0 ∷ []) (drop (i + 1) xs)))
