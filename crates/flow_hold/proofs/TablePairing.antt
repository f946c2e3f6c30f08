-- Each row is that of one procedure, so that a lift leaves the pairs of others, and each mark is a pair.
use Rattle.flow_hold.proofs.Basics.{◌≡◌, ◌≢◌, ℕ, suc, ◌+◌, ◌-◌, ◌*◌, ◌<◌, ◌≤◌, Bool, true, false, ◌&&◌, ◌||◌, List, [], ◌∷◌, length, get_or, replicate, refl, ap, sym, ◌∙◌, arith, nat_lt, nat_le, Option, Some, None, if◌then◌else◌, list_any, set, common_steps, ltb-true, ltb-false, nat_tests, get_or-set_same, get_or-set_other, get_or_past, set_past, list_any_at, Procedure, Changeover, Code, Time, Reroute, Marks, marks_at, has_mark, HoldTable, place_of, flow_place, row_has, has_pair, any_has, has_flow, cleared, with_row_cleared, without_pairs, procedure_at, CHANGEBACK_CODES, SELECTIONS, and-false}
use Rattle.flow_hold.proofs.Counting.{all_same}

-- ---- the procedure of a row

pub named : (t : HoldTable) (procedure : Procedure) (row : ℕ) → place_of t procedure ≡ Some row → procedure_at t row ≡ procedure
named t (Changeover link) row e = grind (arith, common_steps, nat_tests)
named t other row e = grind (arith, common_steps, nat_tests)

pub placed : (t : HoldTable) (row : ℕ) → row < 2 * t.links + CHANGEBACK_CODES * t.sets + t.destinations → place_of t (procedure_at t row) ≡ Some row
placed t row h = grind (arith, common_steps, nat_tests)

-- ---- a lift

pub same-places : (t u : HoldTable) (procedure : Procedure) → u.links ≡ t.links → u.sets ≡ t.sets → u.destinations ≡ t.destinations → place_of u procedure ≡ place_of t procedure
same-places t u (Changeover link) l s d = rw l refl
same-places t u (Time link) l s d = rw l refl
same-places t u (Code set code) l s d = rw (l, s) refl
same-places t u (Reroute destination) l s d = rw (l, s, d) refl

lifted-links : (t : HoldTable) (row : Option ℕ) → (with_row_cleared t row).links ≡ t.links
lifted-links t (Some row) = refl
lifted-links t None = refl

lifted-sets : (t : HoldTable) (row : Option ℕ) → (with_row_cleared t row).sets ≡ t.sets
lifted-sets t (Some row) = refl
lifted-sets t None = refl

lifted-destinations : (t : HoldTable) (row : Option ℕ) → (with_row_cleared t row).destinations ≡ t.destinations
lifted-destinations t (Some row) = refl
lifted-destinations t None = refl

places-lifted : (t : HoldTable) (row : Option ℕ) (procedure : Procedure) → place_of (with_row_cleared t row) procedure ≡ place_of t procedure
places-lifted t row procedure = same-places t (with_row_cleared t row) procedure (lifted-links t row) (lifted-sets t row) (lifted-destinations t row)

flows-lifted : (t : HoldTable) (row : Option ℕ) (destination sls : ℕ) → flow_place (with_row_cleared t row) destination sls ≡ flow_place t destination sls
flows-lifted t row destination sls = ap (λ (n : ℕ). if nat_lt destination n then Some (SELECTIONS * destination + sls) else None) (lifted-destinations t row)

-- what a pair says after a lift, at the places as they were
after-lift : (t : HoldTable) (row : Option ℕ) (procedure : Procedure) (destination sls : ℕ) →
    has_pair (with_row_cleared t row) procedure destination sls ≡ row_has (with_row_cleared t row) (place_of t procedure) (flow_place t destination sls)
after-lift t row procedure destination sls =
    ap (λ (o : Option ℕ). row_has (with_row_cleared t row) o (flow_place (with_row_cleared t row) destination sls)) (places-lifted t row procedure)
    ∙ ap (λ (o : Option ℕ). row_has (with_row_cleared t row) (place_of t procedure) o) (flows-lifted t row destination sls)

others-row : (t : HoldTable) (row other flow : Option ℕ) → ((i : ℕ) → row ≡ Some i → other ≡ Some i → 1 ≤ 0) → row_has (with_row_cleared t row) other flow ≡ row_has t other flow
others-row t None other flow apart = refl
others-row t (Some i) None flow apart = refl
others-row t (Some i) (Some j) None apart = refl
others-row t (Some i) (Some j) (Some flow) apart =
    ap (has_mark flow) (get_or-set_other t.rows i j (record (marks_at t.rows i) { marks = replicate (length (marks_at t.rows i).marks) false }) (record { first = 0; marks = [] })
    (λ e. absurd (omega (arith, apart i refl (ap (λ (k : ℕ). Some k) e)))))

pub leaves_others : (t : HoldTable) (procedure other : Procedure) (destination sls : ℕ) → procedure ≢ other →
    has_pair (without_pairs t procedure) other destination sls ≡ has_pair t other destination sls
leaves_others t procedure other destination sls apart =
    after-lift t (place_of t procedure) other destination sls
    ∙ others-row t (place_of t procedure) (place_of t other) (flow_place t destination sls)
    (λ i e f. absurd (apart (sym (named t procedure i e) ∙ named t other i f)))

unmarked : (b : Bool) (n i : ℕ) → (b && get_or (replicate n false) i false) ≡ false
unmarked true n i = all_same n i false
unmarked false n i = refl

cleared-row : (t : HoldTable) (row flow : ℕ) (within : Bool) → nat_lt row (length t.rows) ≡ within → has_mark flow (marks_at (cleared t row).rows row) ≡ false
cleared-row t row flow true e =
    ap (has_mark flow) (get_or-set_same t.rows row (record (marks_at t.rows row) { marks = replicate (length (marks_at t.rows row).marks) false }) (record { first = 0; marks = [] }) (ltb-true row (length t.rows) e))
    ∙ unmarked (nat_le (marks_at t.rows row).first flow) (length (marks_at t.rows row).marks) (flow - (marks_at t.rows row).first)
cleared-row t row flow false e =
    let past : length t.rows ≤ row = ltb-false row (length t.rows) e in
    ap (λ (rows : List Marks). has_mark flow (marks_at rows row)) (set_past t.rows row (record (marks_at t.rows row) { marks = replicate (length (marks_at t.rows row).marks) false }) past)
    ∙ ap (has_mark flow) (get_or_past t.rows row (record { first = 0; marks = [] }) past)
    ∙ and-false (nat_le 0 flow)

own-row : (t : HoldTable) (row flow : Option ℕ) → row_has (with_row_cleared t row) row flow ≡ false
own-row t None flow = refl
own-row t (Some row) None = refl
own-row t (Some row) (Some flow) = cleared-row t row flow (nat_lt row (length t.rows)) refl

pub ends_its_own : (t : HoldTable) (procedure : Procedure) (destination sls : ℕ) → has_pair (without_pairs t procedure) procedure destination sls ≡ false
ends_its_own t procedure destination sls =
    after-lift t (place_of t procedure) procedure destination sls ∙ own-row t (place_of t procedure) (flow_place t destination sls)

-- ---- a flow that is held

abbrev pub FoundAt : (Marks → Bool) → List Marks → Type 0
FoundAt test rows = (row : ℕ) × (row < length rows) × (test (marks_at rows row) ≡ true)

found-first : (test : Marks → Bool) (m : Marks) (rows : List Marks) (b : Bool) → test m ≡ b → (b || list_any test rows) ≡ true → (list_any test rows ≡ true → FoundAt test rows) → FoundAt test (m ∷ rows)
found-first test m rows true e any rest = (0, omega arith, e)
found-first test m rows false e any rest =
    let found : FoundAt test rows = rest any in
    (suc found.0, omega (arith, found.1), found.2)

found : (test : Marks → Bool) (rows : List Marks) → list_any test rows ≡ true → FoundAt test rows
found test [] e = absurd cc
found test (m ∷ rows) e = found-first test m rows (test m) refl e (found test rows)

not-true : (b : Bool) → (b && false) ≡ true → 1 ≤ 0
not-true true e = absurd cc
not-true false e = absurd cc

pub inside-case : (rows : List Marks) (row flow : ℕ) (within : Bool) → nat_lt row (length rows) ≡ within → has_mark flow (marks_at rows row) ≡ true → row < length rows
inside-case rows row flow true e h = ltb-true row (length rows) e
inside-case rows row flow false e h =
    let none : has_mark flow (marks_at rows row) ≡ (nat_le 0 flow && false) = ap (has_mark flow) (get_or_past rows row (record { first = 0; marks = [] }) (ltb-false row (length rows) e)) in
    absurd (omega (arith, not-true (nat_le 0 flow) (sym none ∙ h)))

some-pair : (t : HoldTable) (flow : Option ℕ) → length t.rows ≡ 2 * t.links + CHANGEBACK_CODES * t.sets + t.destinations → any_has t flow ≡ true → (procedure : Procedure) × (row_has t (place_of t procedure) flow ≡ true)
some-pair t None h e = absurd cc
some-pair t (Some flow) h e =
    let at : FoundAt (has_mark flow) t.rows = found (has_mark flow) t.rows e in
    (procedure_at t at.0, ap (λ (o : Option ℕ). row_has t o (Some flow)) (placed t at.0 (omega (arith, at.1, h))) ∙ at.2)

pub some-mark : (t : HoldTable) (row flow : Option ℕ) → row_has t row flow ≡ true → any_has t flow ≡ true
some-mark t None flow e = absurd cc
some-mark t (Some row) None e = absurd cc
some-mark t (Some row) (Some flow) e = list_any_at (has_mark flow) t.rows row (record { first = 0; marks = [] }) (inside-case t.rows row flow (nat_lt row (length t.rows)) refl e) e

pub marked_by : (t : HoldTable) (destination sls : ℕ) → length t.rows ≡ 2 * t.links + CHANGEBACK_CODES * t.sets + t.destinations → has_flow t destination sls ≡ true →
    (procedure : Procedure) × (has_pair t procedure destination sls ≡ true)
marked_by t destination sls h e = some-pair t (flow_place t destination sls) h e
