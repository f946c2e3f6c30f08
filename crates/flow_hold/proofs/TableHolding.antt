-- A hold puts one mark, that of its pair.
use Rattle.flow_hold.proofs.Basics.{◌≡◌, ℕ, zero, suc, ◌+◌, ◌-◌, ◌*◌, ◌<◌, ◌≤◌, Bool, true, false, ◌&&◌, List, [], ◌∷◌, length, get_or, refl, ap, sym, ◌∙◌, arith, nat_lt, nat_le, nat_eq, Option, Some, None, if◌then◌else◌, set, common_steps, and_from, ltb-true, nat_tests, get_or-set_same, get_or-set_other, Procedure, Changeover, Code, Time, Reroute, Marks, marks_at, place_of_flow, has_mark, HoldTable, place_of, flow_place, row_has, has_pair, HasPlaces, marks_shape, with_mark_at, with_flow_marked, with_pair, may_hold_to, set_of, CHANGEBACK_CODES, SELECTIONS}
use Rattle.flow_hold.proofs.TablePairing.{same-places, named}
use Rattle.flow_hold.proofs.Placing.{HasFlow, flow_at, shared_rows, own-shape}

-- ---- procedures and flows keep their numbers

only-rows-at : (t : HoldTable) (row : ℕ) (place : Option ℕ) → with_mark_at t row place ≡ record t { rows = (with_mark_at t row place).rows }
only-rows-at t row (Some place) = refl
only-rows-at t row None = refl

pub only-rows : (t : HoldTable) (row flow : Option ℕ) → with_flow_marked t row flow ≡ record t { rows = (with_flow_marked t row flow).rows }
only-rows t (Some row) (Some flow) = only-rows-at t row (place_of_flow (marks_at t.rows row) flow)
only-rows t (Some row) None = refl
only-rows t None flow = refl

same-flows : (t : HoldTable) (row flow : Option ℕ) (destination sls : ℕ) → flow_place (with_flow_marked t row flow) destination sls ≡ flow_place t destination sls
same-flows t row flow destination sls =
    ap (λ (u : HoldTable). if nat_lt destination u.destinations then Some (SELECTIONS * destination + sls) else None) (only-rows t row flow)

-- what a pair says after a hold, at the places as they were
after-hold : (t : HoldTable) (row flow : Option ℕ) (procedure : Procedure) (destination sls : ℕ) →
    has_pair (with_flow_marked t row flow) procedure destination sls ≡ row_has (with_flow_marked t row flow) (place_of t procedure) (flow_place t destination sls)
after-hold t row flow procedure destination sls =
    let u : HoldTable = with_flow_marked t row flow in
    ap (λ (o : Option ℕ). row_has u o (flow_place u destination sls))
    (same-places t u procedure (ap (λ (v : HoldTable). v.links) (only-rows t row flow)) (ap (λ (v : HoldTable). v.sets) (only-rows t row flow)) (ap (λ (v : HoldTable). v.destinations) (only-rows t row flow)))
    ∙ ap (λ (o : Option ℕ). row_has u (place_of t procedure) o) (same-flows t row flow destination sls)

-- ---- its own pair

is-there : (t : HoldTable) (destination sls : ℕ) → destination < t.destinations → flow_place t destination sls ≡ Some (SELECTIONS * destination + sls)
is-there t destination sls h =
    let test : nat_lt destination t.destinations ≡ true = grind (arith, nat_tests, h) in
    ap (λ (b : Bool). if b then Some (SELECTIONS * destination + sls) else None) test

is-marked : (t : HoldTable) (row flow : ℕ) → row < length t.rows → (marks_at t.rows row).first ≤ flow → flow < (marks_at t.rows row).first + length (marks_at t.rows row).marks →
    row_has (with_flow_marked t (Some row) (Some flow)) (Some row) (Some flow) ≡ true
is-marked t row flow there from to =
    let m : Marks = marks_at t.rows row in
    let low : nat_le m.first flow ≡ true = grind (arith, nat_tests, from) in
    let high : nat_lt (flow - m.first) (length m.marks) ≡ true = grind (arith, nat_tests, from, to) in
    ap (λ (b : Bool). row_has (with_mark_at t row (if b then Some (flow - m.first) else None)) (Some row) (Some flow)) (and_from (nat_le m.first flow) (nat_lt (flow - m.first) (length m.marks)) low high)
    ∙ ap (has_mark flow) (get_or-set_same t.rows row (record m { marks = set m.marks (flow - m.first) true }) (record { first = 0; marks = [] }) there)
    ∙ and_from (nat_le m.first flow) (get_or (set m.marks (flow - m.first) true) (flow - m.first) false) low (get_or-set_same m.marks (flow - m.first) true false (omega (arith, from, to)))

pub adds_its_pair : (t : HoldTable) (procedure : Procedure) (destination sls : ℕ) → HasPlaces t → may_hold_to (set_of t) procedure destination ≡ true → destination < t.destinations → sls < SELECTIONS →
    has_pair (with_pair t procedure destination sls) procedure destination sls ≡ true
adds_its_pair t procedure destination sls h may there few =
    let at : HasFlow t procedure (SELECTIONS * destination + sls) = flow_at t procedure destination sls h may there few in
    after-hold t (place_of t procedure) (flow_place t destination sls) procedure destination sls
    ∙ ap (λ (o : Option ℕ). row_has (with_flow_marked t o (flow_place t destination sls)) o (flow_place t destination sls)) at.is
    ∙ ap (λ (o : Option ℕ). row_has (with_flow_marked t (Some at.row) o) (Some at.row) o) (is-there t destination sls there)
    ∙ is-marked t at.row (SELECTIONS * destination + sls) at.there at.from at.to

-- ---- what isn't there is ignored

no-row : (t : HoldTable) (row flow : Option ℕ) → row ≡ None → with_flow_marked t row flow ≡ t
no-row t row flow e = ap (λ (o : Option ℕ). with_flow_marked t o flow) e

no-flow : (t : HoldTable) (row flow : Option ℕ) → flow ≡ None → with_flow_marked t row flow ≡ t
no-flow t None flow e = refl
no-flow t (Some row) flow e = ap (λ (o : Option ℕ). with_flow_marked t (Some row) o) e

pub no-destination : (t : HoldTable) (procedure : Procedure) (destination sls : ℕ) → nat_lt destination t.destinations ≡ false → with_pair t procedure destination sls ≡ t
no-destination t procedure destination sls e =
    no-flow t (place_of t procedure) (flow_place t destination sls) (ap (λ (b : Bool). if b then Some (SELECTIONS * destination + sls) else None) e)

not-own : (m : Marks) (rerouted destination sls : ℕ) → marks_shape m ≡ (SELECTIONS * rerouted, SELECTIONS) → nat_eq rerouted destination ≡ false → sls < SELECTIONS → place_of_flow m (SELECTIONS * destination + sls) ≡ None
not-own m rerouted destination sls shape e few =
    let begin : m.first ≡ SELECTIONS * rerouted = ap (λ (p : ℕ × ℕ). p.0) shape in
    let many : length m.marks ≡ SELECTIONS = ap (λ (p : ℕ × ℕ). p.1) shape in
    grind (arith, common_steps, nat_tests)

not-rerouted : (t : HoldTable) (rerouted destination sls : ℕ) (there : Bool) → nat_lt rerouted t.destinations ≡ there → HasPlaces t → nat_eq rerouted destination ≡ false → destination < t.destinations → sls < SELECTIONS →
    with_pair t (Reroute rerouted) destination sls ≡ t
not-rerouted t rerouted destination sls false e h other there few =
    no-row t (place_of t (Reroute rerouted)) (flow_place t destination sls) (ap (λ (b : Bool). if b then Some (shared_rows t + rerouted) else None) e)
not-rerouted t rerouted destination sls true e h other there few =
    let row : ℕ = shared_rows t + rerouted in
    ap (λ (b : Bool). with_flow_marked t (if b then Some row else None) (flow_place t destination sls)) e
    ∙ ap (λ (o : Option ℕ). with_flow_marked t (Some row) o) (is-there t destination sls there)
    ∙ ap (λ (o : Option ℕ). with_mark_at t row o)
    (not-own (marks_at t.rows row) rerouted destination sls (own-shape t rerouted h (ltb-true rerouted t.destinations e)) other few)

pub left_aside : (t : HoldTable) (procedure : Procedure) (destination sls : ℕ) → HasPlaces t → may_hold_to (set_of t) procedure destination ≡ false → destination < t.destinations → sls < SELECTIONS →
    with_pair t procedure destination sls ≡ t
left_aside t (Changeover link) destination sls h e there few =
    no-row t (place_of t (Changeover link)) (flow_place t destination sls) (ap (λ (b : Bool). if b then Some link else None) e)
left_aside t (Time link) destination sls h e there few =
    no-row t (place_of t (Time link)) (flow_place t destination sls) (ap (λ (b : Bool). if b then Some (t.links + link) else None) e)
left_aside t (Code set code) destination sls h e there few =
    no-row t (place_of t (Code set code)) (flow_place t destination sls) (ap (λ (b : Bool). if b then Some (2 * t.links + CHANGEBACK_CODES * set + code) else None) e)
left_aside t (Reroute rerouted) destination sls h e there few =
    not-rerouted t rerouted destination sls (nat_lt rerouted t.destinations) refl h e there few

-- ---- other pairs

abbrev marked : ℕ → Marks → Marks
marked place m = record m { marks = set m.marks place true }

same-rest : (rows : List Marks) (row place other flow : ℕ) → (other ≡ row → has_mark flow (marked place (marks_at rows row)) ≡ has_mark flow (marks_at rows row)) →
    has_mark flow (marks_at (set rows row (marked place (marks_at rows row))) other) ≡ has_mark flow (marks_at rows other)
same-rest [] row place other flow same = refl
same-rest (m ∷ rows) zero place zero flow same = same refl
same-rest (m ∷ rows) zero place (suc other) flow same = refl
same-rest (m ∷ rows) (suc row) place zero flow same = refl
same-rest (m ∷ rows) (suc row) place (suc other) flow same = same-rest rows row place other flow (λ e. same (ap suc e))

same-marks : (b : Bool) (marks : List Bool) (place i : ℕ) → (b ≡ true → i ≡ place → 1 ≤ 0) → (b && get_or (set marks place true) i false) ≡ (b && get_or marks i false)
same-marks false marks place i apart = refl
same-marks true marks place i apart = get_or-set_other marks place i true false (λ e. absurd (omega (arith, apart refl e)))

-- the place of a flow is that of no other flow
place-apart : (m : Marks) (flow other place : ℕ) → place_of_flow m flow ≡ Some place → nat_le m.first other ≡ true → other - m.first ≡ place → other ≡ flow
place-apart m flow other place e low same = grind (arith, common_steps, nat_tests)

abbrev Apart : (row flow other other_flow : Option ℕ) → Type 0
Apart row flow other other_flow = (i f : ℕ) → row ≡ Some i → flow ≡ Some f → other ≡ Some i → other_flow ≡ Some f → 1 ≤ 0

other-place : (t : HoldTable) (row flow other other_flow : ℕ) (place : Option ℕ) → place_of_flow (marks_at t.rows row) flow ≡ place → (other ≡ row → other_flow ≡ flow → 1 ≤ 0) →
    row_has (with_mark_at t row place) (Some other) (Some other_flow) ≡ row_has t (Some other) (Some other_flow)
other-place t row flow other other_flow None e apart = refl
other-place t row flow other other_flow (Some place) e apart =
    let m : Marks = marks_at t.rows row in
    same-rest t.rows row place other other_flow
    (λ same. same-marks (nat_le m.first other_flow) m.marks place (other_flow - m.first) (λ low at. apart same (place-apart m flow other_flow place e low at)))

other-pair : (t : HoldTable) (row flow other other_flow : Option ℕ) → Apart row flow other other_flow → row_has (with_flow_marked t row flow) other other_flow ≡ row_has t other other_flow
other-pair t None flow other other_flow apart = refl
other-pair t (Some row) None other other_flow apart = refl
other-pair t (Some row) (Some flow) None other_flow apart = refl
other-pair t (Some row) (Some flow) (Some other) None apart = refl
other-pair t (Some row) (Some flow) (Some other) (Some other_flow) apart =
    other-place t row flow other other_flow (place_of_flow (marks_at t.rows row) flow) refl
    (λ e f. apart row flow refl refl (ap (λ (i : ℕ). Some i) e) (ap (λ (i : ℕ). Some i) f))

numbered : (t : HoldTable) (destination sls flow : ℕ) → flow_place t destination sls ≡ Some flow → SELECTIONS * destination + sls ≡ flow
numbered t destination sls flow e = grind (arith, common_steps, nat_tests)

pub leaves_others : (t : HoldTable) (procedure other : Procedure) (destination sls other_destination other_sls : ℕ) → sls < SELECTIONS → other_sls < SELECTIONS →
    (other ≡ procedure → other_destination ≡ destination → other_sls ≡ sls → 1 ≤ 0) →
    has_pair (with_pair t procedure destination sls) other other_destination other_sls ≡ has_pair t other other_destination other_sls
leaves_others t procedure other destination sls other_destination other_sls few other_few apart =
    after-hold t (place_of t procedure) (flow_place t destination sls) other other_destination other_sls
    ∙ other-pair t (place_of t procedure) (flow_place t destination sls) (place_of t other) (flow_place t other_destination other_sls)
    (λ i f row flow other_row other_flow.
    let same : SELECTIONS * destination + sls ≡ SELECTIONS * other_destination + other_sls = numbered t destination sls f flow ∙ sym (numbered t other_destination other_sls f other_flow) in
    absurd (omega (arith, apart (sym (named t other i other_row) ∙ named t procedure i row) (omega (arith, same, few, other_few)) (omega (arith, same, few, other_few)))))
