-- Each change keeps the indices of the marks, so that the row of a procedure has the flows that it may hold.
use Rattle.flow_hold.proofs.Basics.{◌≡◌, ℕ, ◌+◌, ◌-◌, ◌*◌, ◌<◌, ◌≤◌, Bool, true, false, List, [], length, map, get_or, replicate, refl, ap, sym, ◌∙◌, arith, nat_lt, Option, Some, None, if◌then◌else◌, set, and_parts, ltb-true, nat_tests, get_or-map, set-get_or, length-set, length-map, map-set, length-replicate, length-map-range_with_len, get_or-map-range_with_len, Procedure, Changeover, Code, Time, Reroute, Marks, marks_at, place_of_flow, HoldTable, HasPlaces, marks_shape, no_marks, with_pair, without_pairs, first_row, place_of, flow_place, with_mark_at, with_flow_marked, with_row_cleared, may_hold_to, set_of, CHANGEBACK_CODES, SELECTIONS}

-- ---- they stay

same-shapes : (rows : List Marks) (row : ℕ) (marks : List Bool) → length marks ≡ length (marks_at rows row).marks →
    map marks_shape (set rows row (record (marks_at rows row) { marks = marks })) ≡ map marks_shape rows
same-shapes rows row marks e =
    map-set marks_shape rows row (record (marks_at rows row) { marks = marks })
    ∙ ap (λ (n : ℕ). set (map marks_shape rows) row ((marks_at rows row).first, n)) e
    ∙ sym (map-set marks_shape rows row (marks_at rows row))
    ∙ ap (map marks_shape) (set-get_or rows row (record { first = 0; marks = [] }))

pub no_marks-places : (links sets destinations : ℕ) → HasPlaces (no_marks links sets destinations)
no_marks-places links sets destinations = record { rows = refl }

with_mark_at-places : (t : HoldTable) (row : ℕ) (place : Option ℕ) → HasPlaces t → HasPlaces (with_mark_at t row place)
with_mark_at-places t row None h = h
with_mark_at-places t row (Some place) h = record {
  rows = same-shapes t.rows row (set (marks_at t.rows row).marks place true) (length-set (marks_at t.rows row).marks place true) ∙ h.rows;
}

with_flow_marked-places : (t : HoldTable) (row flow : Option ℕ) → HasPlaces t → HasPlaces (with_flow_marked t row flow)
with_flow_marked-places t None flow h = h
with_flow_marked-places t (Some row) None h = h
with_flow_marked-places t (Some row) (Some flow) h = with_mark_at-places t row (place_of_flow (marks_at t.rows row) flow) h

pub with_pair-places : (t : HoldTable) (procedure : Procedure) (destination sls : ℕ) → HasPlaces t → HasPlaces (with_pair t procedure destination sls)
with_pair-places t procedure destination sls h = with_flow_marked-places t (place_of t procedure) (flow_place t destination sls) h

with_row_cleared-places : (t : HoldTable) (row : Option ℕ) → HasPlaces t → HasPlaces (with_row_cleared t row)
with_row_cleared-places t None h = h
with_row_cleared-places t (Some row) h = record {
  rows = same-shapes t.rows row (replicate (length (marks_at t.rows row).marks) false) (length-replicate (length (marks_at t.rows row).marks) false) ∙ h.rows;
}

pub without_pairs-places : (t : HoldTable) (procedure : Procedure) → HasPlaces t → HasPlaces (without_pairs t procedure)
without_pairs-places t procedure h = with_row_cleared-places t (place_of t procedure) h

-- ---- what the row of a procedure has

abbrev pub shared_rows : HoldTable → ℕ
shared_rows t = 2 * t.links + CHANGEBACK_CODES * t.sets

abbrev rows_at_first : HoldTable → List Marks
rows_at_first t = (no_marks t.links t.sets t.destinations).rows

count-first : (t : HoldTable) → length (rows_at_first t) ≡ shared_rows t + t.destinations
count-first t = length-map-range_with_len (first_row (shared_rows t) t.destinations) 0 (shared_rows t + t.destinations)

pub count : (t : HoldTable) → HasPlaces t → length t.rows ≡ shared_rows t + t.destinations
count t h = sym (length-map t.rows marks_shape) ∙ ap (length {A = ℕ × ℕ}) h.rows ∙ length-map (rows_at_first t) marks_shape ∙ count-first t

shape-at : (t : HoldTable) (row : ℕ) → HasPlaces t → row < shared_rows t + t.destinations →
    marks_shape (marks_at t.rows row) ≡ marks_shape (first_row (shared_rows t) t.destinations row)
shape-at t row h k =
    sym (get_or-map marks_shape t.rows row (record { first = 0; marks = [] }) (0, 0) (omega (arith, k, count t h)))
    ∙ ap (λ (shapes : List (ℕ × ℕ)). get_or shapes row (0, 0)) h.rows
    ∙ get_or-map marks_shape (rows_at_first t) row (record { first = 0; marks = [] }) (0, 0) (omega (arith, k, count-first t))
    ∙ ap marks_shape (get_or-map-range_with_len (first_row (shared_rows t) t.destinations) 0 (shared_rows t + t.destinations) row row (record { first = 0; marks = [] }) k (omega arith))

first-shape : (b : Bool) (shared destinations place : ℕ) →
    marks_shape (if b then record { first = 0; marks = replicate (SELECTIONS * destinations) false } else record { first = SELECTIONS * (place - shared); marks = replicate SELECTIONS false })
    ≡ (if b then (0, SELECTIONS * destinations) else (SELECTIONS * (place - shared), SELECTIONS))
first-shape true shared destinations place = ap (λ (n : ℕ). (0, n)) (length-replicate (SELECTIONS * destinations) false)
first-shape false shared destinations place = refl

-- the index of a flow in the row of a procedure
pub record HasFlow (t : HoldTable) (procedure : Procedure) (flow : ℕ) : Type 0 where
  pub row : ℕ
  pub is : place_of t procedure ≡ Some row
  pub there : row < length t.rows
  pub from : (marks_at t.rows row).first ≤ flow
  pub to : flow < (marks_at t.rows row).first + length (marks_at t.rows row).marks

has_flow-shape : (t : HoldTable) (procedure : Procedure) (row flow first marks : ℕ) → HasPlaces t → place_of t procedure ≡ Some row →
    row < shared_rows t + t.destinations → marks_shape (marks_at t.rows row) ≡ (first, marks) → first ≤ flow → flow < first + marks → HasFlow t procedure flow
has_flow-shape t procedure row flow first marks h e k same from to =
    let begin : (marks_at t.rows row).first ≡ first = ap (λ (p : ℕ × ℕ). p.0) same in
    let many : length (marks_at t.rows row).marks ≡ marks = ap (λ (p : ℕ × ℕ). p.1) same in
    record {
      row = row;
      is = e;
      there = omega (arith, k, count t h);
      from = omega (arith, begin, from);
      to = omega (arith, begin, many, to);
    }

in-shared : (t : HoldTable) (procedure : Procedure) (row flow : ℕ) → HasPlaces t → place_of t procedure ≡ Some row → row < shared_rows t → flow < SELECTIONS * t.destinations → HasFlow t procedure flow
in-shared t procedure row flow h e k f =
    let all : nat_lt row (shared_rows t) ≡ true = grind (arith, nat_tests, k) in
    has_flow-shape t procedure row flow 0 (SELECTIONS * t.destinations) h e (omega (arith, k))
    (shape-at t row h (omega (arith, k)) ∙ first-shape (nat_lt row (shared_rows t)) (shared_rows t) t.destinations row ∙ ap (λ (b : Bool). if b then (0, SELECTIONS * t.destinations) else (SELECTIONS * (row - shared_rows t), SELECTIONS)) all)
    (omega arith) (omega (arith, f))

-- the row of a rerouting has the flows to its destination
pub own-shape : (t : HoldTable) (destination : ℕ) → HasPlaces t → destination < t.destinations → marks_shape (marks_at t.rows (shared_rows t + destination)) ≡ (SELECTIONS * destination, SELECTIONS)
own-shape t destination h k =
    let row : ℕ = shared_rows t + destination in
    let own : nat_lt row (shared_rows t) ≡ false = grind (arith, nat_tests) in
    shape-at t row h (omega (arith, k))
    ∙ first-shape (nat_lt row (shared_rows t)) (shared_rows t) t.destinations row
    ∙ ap (λ (b : Bool). if b then (0, SELECTIONS * t.destinations) else (SELECTIONS * (row - shared_rows t), SELECTIONS)) own
    ∙ ap (λ (n : ℕ). (SELECTIONS * n, SELECTIONS)) (omega arith)

in-own : (t : HoldTable) (procedure : Procedure) (destination flow : ℕ) → HasPlaces t → place_of t procedure ≡ Some (shared_rows t + destination) → destination < t.destinations →
    SELECTIONS * destination ≤ flow → flow < SELECTIONS * destination + SELECTIONS → HasFlow t procedure flow
in-own t procedure destination flow h e k from to =
    has_flow-shape t procedure (shared_rows t + destination) flow (SELECTIONS * destination) SELECTIONS h e (omega (arith, k)) (own-shape t destination h k) from to

pub flow_at : (t : HoldTable) (procedure : Procedure) (destination sls : ℕ) → HasPlaces t → may_hold_to (set_of t) procedure destination ≡ true → destination < t.destinations → sls < SELECTIONS →
    HasFlow t procedure (SELECTIONS * destination + sls)
flow_at t (Changeover link) destination sls h may there few =
    in-shared t (Changeover link) link (SELECTIONS * destination + sls) h (ap (λ (b : Bool). if b then Some link else None) may) (omega (arith, ltb-true link t.links may)) (omega (arith, there, few))
flow_at t (Time link) destination sls h may there few =
    in-shared t (Time link) (t.links + link) (SELECTIONS * destination + sls) h (ap (λ (b : Bool). if b then Some (t.links + link) else None) may) (omega (arith, ltb-true link t.links may)) (omega (arith, there, few))
flow_at t (Code set code) destination sls h may there few =
    let both : (nat_lt set t.sets ≡ true) × (nat_lt code CHANGEBACK_CODES ≡ true) = and_parts (nat_lt set t.sets) (nat_lt code CHANGEBACK_CODES) may in
    in-shared t (Code set code) (2 * t.links + CHANGEBACK_CODES * set + code) (SELECTIONS * destination + sls) h (ap (λ (b : Bool). if b then Some (2 * t.links + CHANGEBACK_CODES * set + code) else None) may)
    (omega (arith, ltb-true set t.sets both.0, ltb-true code CHANGEBACK_CODES both.1)) (omega (arith, there, few))
flow_at t (Reroute rerouted) destination sls h may there few =
    let same : rerouted ≡ destination = grind (arith, nat_tests, may) in
    let within : rerouted < t.destinations = omega (arith, same, there) in
    let is : nat_lt rerouted t.destinations ≡ true = grind (arith, nat_tests, within) in
    in-own t (Reroute rerouted) rerouted (SELECTIONS * destination + sls) h (ap (λ (b : Bool). if b then Some (shared_rows t + rerouted) else None) is) within
    (omega (arith, same)) (omega (arith, same, few))
