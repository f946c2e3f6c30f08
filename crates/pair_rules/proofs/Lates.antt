-- A code that is free again.
use Rattle.pair_rules.proofs.Basics.{◌≡◌, ◌≢◌, ◌<◌, ◌≤◌, ℕ, Bool, false, List, [], length, ap, sym, ◌∙◌, arith, slice_index_or, slice_set, ⊎_elim, cases_lt, get_or_past, get_or-set_other, get_or-set_same, length-set}
use Rattle.pair_rules.proofs.Definitions.{Codes, codes_of, is_outstanding, with_code}

-- ---- a code is free again

row-freed : (row : List Bool) (code : ℕ) → slice_index_or (slice_set row code false) code false ≡ false
row-freed row code =
    ⊎_elim
    (λ (there : code < length row). get_or-set_same row code false false there)
    (λ (past : length row ≤ code). get_or_past (slice_set row code false) code false (omega (arith, past, length-set row code false)))
    (cases_lt code (length row))

codes-freed : (t : Codes) (set code : ℕ) → set < length t → codes_of (with_code t set code false) set ≡ slice_set (codes_of t set) code false
codes-freed t set code there = get_or-set_same t set (slice_set (codes_of t set) code false) [] there

no-codes : (t : Codes) (set code : ℕ) → length t ≤ set → codes_of (with_code t set code false) set ≡ []
no-codes t set code past =
    get_or_past (slice_set t set (slice_set (codes_of t set) code false)) set [] (omega (arith, past, length-set t set (slice_set (codes_of t set) code false)))

pub freed-own : (t : Codes) (set code : ℕ) → is_outstanding (with_code t set code false) set code ≡ false
freed-own t set code =
    ⊎_elim
    (λ (there : set < length t). ap (λ (row : List Bool). slice_index_or row code false) (codes-freed t set code there) ∙ row-freed (codes_of t set) code)
    (λ (past : length t ≤ set). ap (λ (row : List Bool). slice_index_or row code false) (no-codes t set code past))
    (cases_lt set (length t))

pub freed-other : (t : Codes) (set code other : ℕ) → other ≢ code → is_outstanding (with_code t set code false) set other ≡ is_outstanding t set other
freed-other t set code other apart =
    ⊎_elim
    (λ (there : set < length t).
    ap (λ (row : List Bool). slice_index_or row other false) (codes-freed t set code there) ∙ get_or-set_other (codes_of t set) code other false false apart)
    (λ (past : length t ≤ set). ap (λ (row : List Bool). slice_index_or row other false) (no-codes t set code past ∙ sym (get_or_past t set [] past)))
    (cases_lt set (length t))
