-- A row loses its marks one at a time, and the counts go with them.
use Rattle.flow_hold.proofs.Basics.{◌≡◌, ℕ, ◌+◌, ◌-◌, ◌<◌, Bool, true, false, ◌&&◌, List, [], ◌∷◌, ◌++◌, length, get_or, drop, replicate, refl, ap, sym, ◌∙◌, arith, nat_lt, nat_le, set, common_steps, ltb-true, ltb-false, nat_tests, set_at, get_or-set_same, get_or-set_other, length-replicate, replicate_more, drop_more, append_assoc, has_mark, as_count}

-- the marks when the first n are gone
abbrev pub marks_gone : List Bool → ℕ → List Bool
marks_gone marks n = replicate n false ++ drop n marks

pub gone-more : (marks : List Bool) (n : ℕ) → n < length marks → set (marks_gone marks n) n false ≡ marks_gone marks (n + 1)
gone-more marks n h =
    ap (λ (xs : List Bool). set (replicate n false ++ xs) n false) (drop_more marks n false h)
    ∙ set_at (replicate n false) (get_or marks n false) (drop (n + 1) marks) false n (length-replicate n false)
    ∙ sym (append_assoc (replicate n false) (false ∷ []) (drop (n + 1) marks))
    ∙ ap (λ (xs : List Bool). xs ++ drop (n + 1) marks) (replicate_more n false)

pub next-mark : (marks : List Bool) (n : ℕ) → n < length marks → get_or (marks_gone marks n) n false ≡ get_or marks n false
next-mark marks n h =
    ap (λ (xs : List Bool). get_or (replicate n false ++ xs) n false) (drop_more marks n false h)
    ∙ grind (arith, common_steps, length-replicate)

-- what a row adds to the count of a flow by its marks before an index
abbrev pub mark_before : (first place flow : ℕ) → List Bool → ℕ
mark_before first place flow marks =
    as_count (nat_lt flow (first + place) && has_mark flow (record { first = first; marks = marks }))

own-before : (first place : ℕ) (marks : List Bool) → mark_before first place (first + place) marks ≡ 0
own-before first place marks =
    let past : nat_lt (first + place) (first + place) ≡ false = grind (arith, nat_tests) in
    ap (λ (b : Bool). as_count (b && has_mark (first + place) (record { first = first; marks = marks }))) past

own-behind : (first place : ℕ) (marks : List Bool) → mark_before first (place + 1) (first + place) marks ≡ as_count (get_or marks place false)
own-behind first place marks =
    let flow : ℕ = first + place in
    let front : nat_lt flow (first + (place + 1)) ≡ true = grind (arith, nat_tests) in
    let from : nat_le first flow ≡ true = grind (arith, nat_tests) in
    let at : flow - first ≡ place = omega arith in
    ap (λ (b : Bool). as_count (b && (nat_le first flow && get_or marks (flow - first) false))) front
    ∙ ap (λ (b : Bool). as_count (b && get_or marks (flow - first) false)) from
    ∙ ap (λ (i : ℕ). as_count (get_or marks i false)) at

others-alike : (first place flow : ℕ) (marks : List Bool) (b : Bool) → nat_lt flow (first + place) ≡ b → nat_lt flow (first + (place + 1)) ≡ b →
    mark_before first place flow marks ≡ mark_before first (place + 1) flow marks
others-alike first place flow marks b e f =
    ap (λ (c : Bool). as_count (c && has_mark flow (record { first = first; marks = marks }))) (e ∙ sym f)

-- the counts from which the marks before an index are taken
abbrev pub IsTaken : (old now : List ℕ) (first place flow : ℕ) → List Bool → Type 0
IsTaken old now first place flow marks = get_or now flow 0 ≡ get_or old flow 0 - mark_before first place flow marks

taken-case : (old now : List ℕ) (first place taken flow : ℕ) (marks : List Bool) (below above : Bool) → nat_lt flow (first + place) ≡ below → nat_lt (first + place) flow ≡ above →
    first + place < length now → taken ≡ as_count (get_or marks place false) → IsTaken old now first place flow marks → IsTaken old now first place (first + place) marks →
    IsTaken old (set now (first + place) (get_or now (first + place) 0 - taken)) first (place + 1) flow marks
taken-case old now first place taken flow marks true above a b within e h own =
    let before : flow < first + place = ltb-true flow (first + place) a in
    let still : nat_lt flow (first + (place + 1)) ≡ true = grind (arith, nat_tests, before) in
    get_or-set_other now (first + place) flow (get_or now (first + place) 0 - taken) 0 (λ f. absurd (omega (arith, before, f)))
    ∙ h ∙ ap (λ (n : ℕ). get_or old flow 0 - n) (others-alike first place flow marks true a still)
taken-case old now first place taken flow marks false true a b within e h own =
    let behind : first + place < flow = ltb-true (first + place) flow b in
    let still : nat_lt flow (first + (place + 1)) ≡ false = grind (arith, nat_tests, behind) in
    get_or-set_other now (first + place) flow (get_or now (first + place) 0 - taken) 0 (λ f. absurd (omega (arith, behind, f)))
    ∙ h ∙ ap (λ (n : ℕ). get_or old flow 0 - n) (others-alike first place flow marks false a still)
taken-case old now first place taken flow marks false false a b within e h own =
    let is : flow ≡ first + place = omega (arith, ltb-false flow (first + place) a, ltb-false (first + place) flow b) in
    ap (λ (i : ℕ). get_or (set now (first + place) (get_or now (first + place) 0 - taken)) i 0) is
    ∙ get_or-set_same now (first + place) (get_or now (first + place) 0 - taken) 0 within
    ∙ omega (arith, own, own-before first place marks, own-behind first place marks, e)
    ∙ ap (λ (i : ℕ). get_or old i 0 - mark_before first (place + 1) i marks) (sym is)

pub taken-more : (old now : List ℕ) (first place taken : ℕ) (marks : List Bool) → first + place < length now → taken ≡ as_count (get_or marks place false) →
    ((flow : ℕ) → IsTaken old now first place flow marks) →
    (flow : ℕ) → IsTaken old (set now (first + place) (get_or now (first + place) 0 - taken)) first (place + 1) flow marks
taken-more old now first place taken marks within e h flow =
    taken-case old now first place taken flow marks (nat_lt flow (first + place)) (nat_lt (first + place) flow) refl refl within e (h flow) (h (first + place))
