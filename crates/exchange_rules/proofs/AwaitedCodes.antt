-- One code more is awaited, and one message more is in a queue.
use Rattle.exchange_rules.proofs.Basics.{◌≡◌, ◌≢◌, ◌<◌, ◌≤◌, ℕ, Bool, true, false, not, List, [], length, Some, refl, ap, sym, ◌∙◌, subst, arith, slice_index_or, slice_set, ⊎_elim, cases_lt, cases_eq, get_or_past, get_or-set_same, get_or-set_other, length-set, position-Some}
use Rattle.exchange_rules.proofs.Definitions.{Codes, codes_of, free_code, is_outstanding, with_code}

no : {A : Type 0} → false ≡ true → A
no e = absurd cc

-- ---- one code more is awaited

codes-same : (t : Codes) (set code : ℕ) → set < length t → codes_of (with_code t set code true) set ≡ slice_set (codes_of t set) code true
codes-same t set code there = get_or-set_same t set (slice_set (codes_of t set) code true) [] there

pub outstanding-own : (t : Codes) (set code : ℕ) → set < length t → code < length (codes_of t set) → is_outstanding (with_code t set code true) set code ≡ true
outstanding-own t set code there few =
    ap (λ (row : List Bool). slice_index_or row code false) (codes-same t set code there) ∙ get_or-set_same (codes_of t set) code true false few

pub outstanding-other : (t : Codes) (set code other number : ℕ) → (other ≡ set → number ≡ code → ⊥) → is_outstanding (with_code t set code true) other number ≡ is_outstanding t other number
outstanding-other t set code other number apart =
    ⊎_elim
    (λ (same : other ≡ set). subst (λ (s : ℕ). is_outstanding (with_code t set code true) s number ≡ is_outstanding t s number) (sym same)
    (⊎_elim
    (λ (there : set < length t).
    ap (λ (row : List Bool). slice_index_or row number false) (codes-same t set code there)
    ∙ get_or-set_other (codes_of t set) code number true false (λ e. apart same e))
    (λ (past : length t ≤ set).
    ap (λ (row : List Bool). slice_index_or row number false)
    (get_or_past (slice_set t set (slice_set (codes_of t set) code true)) set [] (omega (arith, past, length-set t set (slice_set (codes_of t set) code true))) ∙ sym (get_or_past t set [] past)))
    (cases_lt set (length t))))
    (λ (d : other ≢ set). ap (λ (row : List Bool). slice_index_or row number false) (get_or-set_other t set other (slice_set (codes_of t set) code true) [] d))
    (cases_eq other set)

-- a code that is awaited is there
awaited-set : (t : Codes) (set code : ℕ) → is_outstanding t set code ≡ true → set < length t
awaited-set t set code e =
    ⊎_elim (λ (l : set < length t). l)
    (λ (l : length t ≤ set). no (sym (ap (λ (row : List Bool). slice_index_or row code false) (get_or_past t set [] l)) ∙ e))
    (cases_lt set (length t))

awaited-code : (t : Codes) (set code : ℕ) → is_outstanding t set code ≡ true → code < length (codes_of t set)
awaited-code t set code e =
    ⊎_elim (λ (l : code < length (codes_of t set)). l)
    (λ (l : length (codes_of t set) ≤ code). no (sym (get_or_past (codes_of t set) code false l) ∙ e))
    (cases_lt code (length (codes_of t set)))

pub outstanding-stays : (t : Codes) (set code other number : ℕ) → is_outstanding t other number ≡ true → is_outstanding (with_code t set code true) other number ≡ true
outstanding-stays t set code other number e =
    ⊎_elim
    (λ (same : other ≡ set). ⊎_elim
    (λ (also : number ≡ code).
    let here : is_outstanding t set code ≡ true = ap (λ (s : ℕ). is_outstanding t s code) (sym same) ∙ ap (λ (n : ℕ). is_outstanding t other n) (sym also) ∙ e in
    ap (λ (s : ℕ). is_outstanding (with_code t set code true) s number) same ∙ ap (λ (n : ℕ). is_outstanding (with_code t set code true) set n) also
    ∙ outstanding-own t set code (awaited-set t set code here) (awaited-code t set code here))
    (λ (d : number ≢ code). outstanding-other t set code other number (λ s n. d n) ∙ e)
    (cases_eq number code))
    (λ (d : other ≢ set). outstanding-other t set code other number (λ s n. d s) ∙ e)
    (cases_eq other set)

-- a set that has a code is there
pub codes-there : (t : Codes) (set code : ℕ) → code < length (codes_of t set) → set < length t
codes-there t set code few =
    ⊎_elim (λ (l : set < length t). l)
    (λ (l : length t ≤ set). absurd (omega (arith, few, ap length (get_or_past t set [] l))))
    (cases_lt set (length t))

-- a free code is there, and isn't awaited
pub record IsFree (t : Codes) (set code : ℕ) : Type 0 where
  pub there : code < length (codes_of t set)
  pub free : is_outstanding t set code ≡ false

not-so : (b : Bool) → not b ≡ true → b ≡ false
not-so true e = sym e
not-so false e = refl

pub is-free : (t : Codes) (set code : ℕ) → free_code t set ≡ Some code → IsFree t set code
is-free t set code e =
    let found = position-Some not (codes_of t set) code false e in
    record { there = found.0; free = not-so (is_outstanding t set code) found.1 }
