-- A table of marks stands for a set of pairs: each mark is one, and what changes the one changes the other.
use Rattle.flow_hold.proofs.Basics.{◌≡◌, ℕ, zero, suc, ◌+◌, ◌*◌, ◌/◌, ◌%◌, ◌<◌, ◌≤◌, Bool, true, false, ◌||◌, length, refl, ap, sym, subst, ◌∙◌, arith, nat_lt, Option, Some, None, if◌then◌else◌, eq_by_cmp, contains, insert, contains-empty, contains-insert, contains-union, common_steps, true≢false, nat_tests, Procedure, marks_at, has_mark, CHANGEBACK_CODES, SELECTIONS, Hold, by_numbers, HoldTable, place_of, flow_place, row_has, has_pair, procedure_at, hold_at, pairs_of_row, pairs_of_rows, set_of, or_right, or_left}
use Rattle.flow_hold.proofs.Numbers.{in_order, tied, tied-same}
use Rattle.flow_hold.proofs.TablePairing.{named, placed, inside-case}

-- ---- the pairs of a row

record IsMarked (t : HoldTable) (row count : ℕ) (hold : Hold) : Type 0 where
  pub flow : ℕ
  pub below : flow < count
  pub mark : has_mark flow (marks_at t.rows row) ≡ true
  pub is : hold ≡ hold_at t row flow

further : (t : HoldTable) (row count : ℕ) (hold : Hold) → IsMarked t row count hold → IsMarked t row (suc count) hold
further t row count hold m = record { flow = m.flow; below = omega (arith, m.below); mark = m.mark; is = m.is }

this-or-before : (t : HoldTable) (row count : ℕ) (hold : Hold) (same : Bool) → eq_by_cmp by_numbers hold (hold_at t row count) ≡ same → has_mark count (marks_at t.rows row) ≡ true →
    (same || contains (pairs_of_row t row count) hold) ≡ true → (contains (pairs_of_row t row count) hold ≡ true → IsMarked t row count hold) → IsMarked t row (suc count) hold
this-or-before t row count hold true s m e rest = record { flow = count; below = omega arith; mark = m; is = tied hold (hold_at t row count) s }
this-or-before t row count hold false s m e rest = further t row count hold (rest e)

marked-case : (t : HoldTable) (row count : ℕ) (hold : Hold) (mark : Bool) → has_mark count (marks_at t.rows row) ≡ mark →
    contains (if mark then insert (pairs_of_row t row count) (hold_at t row count) else pairs_of_row t row count) hold ≡ true →
    (contains (pairs_of_row t row count) hold ≡ true → IsMarked t row count hold) → IsMarked t row (suc count) hold
marked-case t row count hold true m e rest =
    this-or-before t row count hold (eq_by_cmp by_numbers hold (hold_at t row count)) refl m
    (sym (contains-insert in_order (pairs_of_row t row count) (hold_at t row count) hold) ∙ e) rest
marked-case t row count hold false m e rest = further t row count hold (rest e)

marked-in-row : (t : HoldTable) (row count : ℕ) (hold : Hold) → contains (pairs_of_row t row count) hold ≡ true → IsMarked t row count hold
unfolding pairs_of_row
marked-in-row t row zero hold e = absurd (true≢false (sym e ∙ contains-empty by_numbers hold))
marked-in-row t row (suc count) hold e = marked-case t row count hold (has_mark count (marks_at t.rows row)) refl e (marked-in-row t row count hold)

row-case : (t : HoldTable) (row count flow : ℕ) (mark : Bool) → has_mark count (marks_at t.rows row) ≡ mark → has_mark flow (marks_at t.rows row) ≡ true → flow ≤ count →
    (flow < count → contains (pairs_of_row t row count) (hold_at t row flow) ≡ true) →
    contains (if mark then insert (pairs_of_row t row count) (hold_at t row count) else pairs_of_row t row count) (hold_at t row flow) ≡ true
row-case t row count flow mark m e h rest = last-case (nat_lt flow count) refl mark m
  where
    last-case : (b : Bool) → nat_lt flow count ≡ b → (mark : Bool) → has_mark count (marks_at t.rows row) ≡ mark →
        contains (if mark then insert (pairs_of_row t row count) (hold_at t row count) else pairs_of_row t row count) (hold_at t row flow) ≡ true
    last-case true b true m =
        contains-insert in_order (pairs_of_row t row count) (hold_at t row count) (hold_at t row flow)
        ∙ or_right (eq_by_cmp by_numbers (hold_at t row flow) (hold_at t row count)) (contains (pairs_of_row t row count) (hold_at t row flow)) (rest (grind (arith, nat_tests, b)))
    last-case true b false m = rest (grind (arith, nat_tests, b))
    last-case false b true m =
        let same : flow ≡ count = grind (arith, nat_tests, b, h) in
        contains-insert in_order (pairs_of_row t row count) (hold_at t row count) (hold_at t row flow)
        ∙ or_left (eq_by_cmp by_numbers (hold_at t row flow) (hold_at t row count)) (contains (pairs_of_row t row count) (hold_at t row flow))
        (ap (λ (f : ℕ). eq_by_cmp by_numbers (hold_at t row f) (hold_at t row count)) same ∙ tied-same (hold_at t row count))
    last-case false b false m =
        let same : flow ≡ count = grind (arith, nat_tests, b, h) in
        absurd (true≢false (sym e ∙ ap (λ (f : ℕ). has_mark f (marks_at t.rows row)) same ∙ m))

in-row : (t : HoldTable) (row count flow : ℕ) → has_mark flow (marks_at t.rows row) ≡ true → flow < count → contains (pairs_of_row t row count) (hold_at t row flow) ≡ true
unfolding pairs_of_row
in-row t row zero flow e h = absurd (omega (arith, h))
in-row t row (suc count) flow e h =
    row-case t row count flow (has_mark count (marks_at t.rows row)) refl e (omega (arith, h)) (in-row t row count flow e)

-- ---- the pairs of all rows

abbrev flows : HoldTable → ℕ
flows t = SELECTIONS * t.destinations

record IsInTable (t : HoldTable) (count : ℕ) (hold : Hold) : Type 0 where
  pub row : ℕ
  pub below : row < count
  pub marked : IsMarked t row (flows t) hold

either-row : (t : HoldTable) (row : ℕ) (hold : Hold) (before : Bool) → contains (pairs_of_rows t row) hold ≡ before → (before || contains (pairs_of_row t row (flows t)) hold) ≡ true →
    (contains (pairs_of_rows t row) hold ≡ true → IsInTable t row hold) → IsInTable t (suc row) hold
either-row t row hold true b e rest =
    let found : IsInTable t row hold = rest b in
    record { row = found.row; below = omega (arith, found.below); marked = found.marked }
either-row t row hold false b e rest = record { row = row; below = omega arith; marked = marked-in-row t row (flows t) hold e }

marked-in-table : (t : HoldTable) (count : ℕ) (hold : Hold) → contains (pairs_of_rows t count) hold ≡ true → IsInTable t count hold
unfolding pairs_of_rows
marked-in-table t zero hold e = absurd (true≢false (sym e ∙ contains-empty by_numbers hold))
marked-in-table t (suc row) hold e =
    either-row t row hold (contains (pairs_of_rows t row) hold) refl
    (sym (contains-union in_order (pairs_of_rows t row) (pairs_of_row t row (flows t)) hold) ∙ e) (marked-in-table t row hold)

last-row : (t : HoldTable) (count row : ℕ) (hold : Hold) (before : Bool) → nat_lt row count ≡ before → row ≤ count → contains (pairs_of_row t row (flows t)) hold ≡ true →
    (row < count → contains (pairs_of_rows t count) hold ≡ true) → (contains (pairs_of_rows t count) hold || contains (pairs_of_row t count (flows t)) hold) ≡ true
last-row t count row hold true b h e rest =
    or_left (contains (pairs_of_rows t count) hold) (contains (pairs_of_row t count (flows t)) hold) (rest (grind (arith, nat_tests, b)))
last-row t count row hold false b h e rest =
    let same : count ≡ row = grind (arith, nat_tests, b, h) in
    or_right (contains (pairs_of_rows t count) hold) (contains (pairs_of_row t count (flows t)) hold)
    (ap (λ (r : ℕ). contains (pairs_of_row t r (flows t)) hold) same ∙ e)

in-table : (t : HoldTable) (count row : ℕ) (hold : Hold) → row < count → contains (pairs_of_row t row (flows t)) hold ≡ true → contains (pairs_of_rows t count) hold ≡ true
unfolding pairs_of_rows
in-table t zero row hold h e = absurd (omega (arith, h))
in-table t (suc count) row hold h e =
    contains-union in_order (pairs_of_rows t count) (pairs_of_row t count (flows t)) hold
    ∙ last-row t count row hold (nat_lt row count) refl (omega (arith, h)) e (λ l. in-table t count row hold l e)

-- ---- each pair is a mark, and each mark a pair

pub record HasAllRows (t : HoldTable) : Type 0 where
  pub rows : length t.rows ≡ 2 * t.links + CHANGEBACK_CODES * t.sets + t.destinations

-- a pair of a selection that there is, marked in the table
pub record IsPair (t : HoldTable) (hold : Hold) : Type 0 where
  pub few : hold.sls < SELECTIONS
  pub mark : has_pair t hold.procedure hold.destination hold.sls ≡ true

flow-there : (t : HoldTable) (flow : ℕ) → flow < flows t → flow_place t (flow / SELECTIONS) (flow % SELECTIONS) ≡ Some flow
flow-there t flow h =
    let test : nat_lt (flow / SELECTIONS) t.destinations ≡ true = grind (arith, nat_tests, h) in
    ap (λ (b : Bool). if b then Some (SELECTIONS * (flow / SELECTIONS) + flow % SELECTIONS) else None) test
    ∙ ap (λ (n : ℕ). Some n) (omega arith)

at-is-pair : (t : HoldTable) (row flow : ℕ) → HasAllRows t → row < length t.rows → flow < flows t → has_mark flow (marks_at t.rows row) ≡ true → IsPair t (hold_at t row flow)
at-is-pair t row flow h r f m = record {
  few = omega arith;
  mark = ap (λ (o : Option ℕ). row_has t o (flow_place t (flow / SELECTIONS) (flow % SELECTIONS))) (placed t row (omega (arith, r, h.rows)))
      ∙ ap (λ (o : Option ℕ). row_has t (Some row) o) (flow-there t flow f)
      ∙ m;
}

pub set-to-mark : (t : HoldTable) (hold : Hold) → HasAllRows t → contains (set_of t).pairs hold ≡ true → IsPair t hold
set-to-mark t hold h e =
    let found : IsInTable t (length t.rows) hold = marked-in-table t (length t.rows) hold e in
    subst (IsPair t) (sym found.marked.is) (at-is-pair t found.row found.marked.flow h found.below found.marked.below found.marked.mark)

-- where a pair is marked
record MarkAt (t : HoldTable) (place flow : Option ℕ) : Type 0 where
  pub row : ℕ
  pub number : ℕ
  pub place_is : place ≡ Some row
  pub flow_is : flow ≡ Some number
  pub mark : has_mark number (marks_at t.rows row) ≡ true

mark-at : (t : HoldTable) (place flow : Option ℕ) → row_has t place flow ≡ true → MarkAt t place flow
mark-at t None flow e = absurd cc
mark-at t (Some row) None e = absurd cc
mark-at t (Some row) (Some number) e = record { row = row; number = number; place_is = refl; flow_is = refl; mark = e }

number-parts : (t : HoldTable) (destination sls number : ℕ) → flow_place t destination sls ≡ Some number → (destination < t.destinations) × (number ≡ SELECTIONS * destination + sls)
number-parts t destination sls number e = parts-case (nat_lt destination t.destinations) refl e
  where
    parts-case : (b : Bool) → nat_lt destination t.destinations ≡ b → (if b then Some (SELECTIONS * destination + sls) else None) ≡ Some number →
        (destination < t.destinations) × (number ≡ SELECTIONS * destination + sls)
    parts-case true b e = (grind (arith, nat_tests, b), grind (arith, common_steps, e))
    parts-case false b e = absurd cc

-- the pair of a row and a flow, where these are those of a pair
same-pair : (t : HoldTable) (hold : Hold) (row number : ℕ) → procedure_at t row ≡ hold.procedure → number ≡ SELECTIONS * hold.destination + hold.sls → hold.sls < SELECTIONS →
    hold_at t row number ≡ hold
same-pair t hold row number named numbered few =
    let place : number / SELECTIONS ≡ hold.destination = omega (arith, numbered, few) in
    let selection : number % SELECTIONS ≡ hold.sls = omega (arith, numbered, few) in
    ap (λ (q : Procedure). record { procedure = q; destination = number / SELECTIONS; sls = number % SELECTIONS }) named
    ∙ ap (λ (d : ℕ). record { procedure = hold.procedure; destination = d; sls = number % SELECTIONS }) place
    ∙ ap (λ (s : ℕ). record { procedure = hold.procedure; destination = hold.destination; sls = s }) selection

pub mark-to-set : (t : HoldTable) (hold : Hold) → IsPair t hold → contains (set_of t).pairs hold ≡ true
mark-to-set t hold p =
    let at : MarkAt t (place_of t hold.procedure) (flow_place t hold.destination hold.sls) = mark-at t (place_of t hold.procedure) (flow_place t hold.destination hold.sls) p.mark in
    let parts : (hold.destination < t.destinations) × (at.number ≡ SELECTIONS * hold.destination + hold.sls) = number-parts t hold.destination hold.sls at.number at.flow_is in
    let same : hold_at t at.row at.number ≡ hold = same-pair t hold at.row at.number (named t hold.procedure at.row at.place_is) parts.1 p.few in
    let inside : at.row < length t.rows = inside-case t.rows at.row at.number (nat_lt at.row (length t.rows)) refl at.mark in
    in-table t (length t.rows) at.row hold inside
    (ap (contains (pairs_of_row t at.row (flows t))) (sym same) ∙ in-row t at.row (flows t) at.number at.mark (omega (arith, parts.0, parts.1, p.few)))
