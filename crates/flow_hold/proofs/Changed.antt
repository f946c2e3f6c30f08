-- What changes the table changes the set that it stands for.
use Rattle.flow_hold.proofs.Basics.{◌≡◌, ℕ, ◌+◌, ◌*◌, ◌<◌, Bool, true, false, not, ◌&&◌, ◌||◌, cond, List, [], refl, ap, sym, ◌∙◌, arith, nat_le, nat_lt, Option, Some, None, if◌then◌else◌, eq_by_cmp, FinSet, contains, empty, insert, contains-empty, contains-insert, same_set, true≢false, ltb-true, ltb-false, nat_tests, get_or_past, length-map-range_with_len, get_or-map-range_with_len, Procedure, CHANGEBACK_CODES, SELECTIONS, Hold, by_numbers, holds, is_held, no_holds, may_hold_to, may_hold, with_hold, is_same, lifted, Marks, marks_at, has_mark, HoldTable, HasPlaces, place_of, flow_place, row_has, first_row, has_pair, has_flow, no_marks, with_row_cleared, with_pair, without_pairs, set_of, both_ways, and-false}
use Rattle.flow_hold.proofs.Numbers.{in_order, only_same_tie, tied, tied-same, same, same-itself}
use Rattle.flow_hold.proofs.Pairing.{held_by, contains-lifted}
use Rattle.flow_hold.proofs.Holding.{MayHold, may_parts}
use Rattle.flow_hold.proofs.Counting.{unmarked}
use Rattle.flow_hold.proofs.Placing.{count, no_marks-places, with_pair-places, without_pairs-places}
use Rattle.flow_hold.proofs.TablePairing.{marked_by, some-mark, ends_its_own, leaves_others}
use Rattle.flow_hold.proofs.TableHolding as table
use Rattle.flow_hold.proofs.Standing.{IsPair, HasAllRows, set-to-mark, mark-to-set}

all_rows : (t : HoldTable) → HasPlaces t → HasAllRows t
all_rows t h = record { rows = count t h }

-- two tables whose marks for a pair are alike have the pair alike
alike-at : (t u : HoldTable) (hold : Hold) → HasPlaces t → HasPlaces u →
    (hold.sls < SELECTIONS → has_pair u hold.procedure hold.destination hold.sls ≡ has_pair t hold.procedure hold.destination hold.sls) →
    contains (set_of u).pairs hold ≡ contains (set_of t).pairs hold
alike-at t u hold h k alike =
    both_ways (contains (set_of u).pairs hold) (contains (set_of t).pairs hold)
    (λ e. let p : IsPair u hold = set-to-mark u hold (all_rows u k) e in
    mark-to-set t hold (record { few = p.few; mark = sym (alike p.few) ∙ p.mark }))
    (λ e. let p : IsPair t hold = set-to-mark t hold (all_rows t h) e in
    mark-to-set u hold (record { few = p.few; mark = alike p.few ∙ p.mark }))

-- ---- a hold

contains-pair : (t : HoldTable) (procedure : Procedure) (destination sls : ℕ) (other : Hold) (same : Bool) → HasPlaces t → MayHold (set_of t) procedure destination sls →
    eq_by_cmp by_numbers other (record { procedure = procedure; destination = destination; sls = sls }) ≡ same →
    contains (set_of (with_pair t procedure destination sls)).pairs other ≡ (same || contains (set_of t).pairs other)
contains-pair t procedure destination sls other true h may e =
    let hold : Hold = record { procedure = procedure; destination = destination; sls = sls } in
    ap (contains (set_of (with_pair t procedure destination sls)).pairs) (tied other hold e)
    ∙ mark-to-set (with_pair t procedure destination sls) hold
    (record { few = may.few; mark = table.adds_its_pair t procedure destination sls h may.to may.there may.few })
contains-pair t procedure destination sls other false h may e =
    let hold : Hold = record { procedure = procedure; destination = destination; sls = sls } in
    alike-at t (with_pair t procedure destination sls) other h (with_pair-places t procedure destination sls h)
    (λ few. table.leaves_others t procedure other.procedure destination sls other.destination other.sls may.few few
    (λ p d s. absurd (true≢false (sym (tied-same hold) ∙ ap (λ (x : Hold). eq_by_cmp by_numbers x hold) (sym (one-pair p d s)) ∙ e))))
  where
    one-pair : other.procedure ≡ procedure → other.destination ≡ destination → other.sls ≡ sls → other ≡ record { procedure = procedure; destination = destination; sls = sls }
    one-pair p d s =
        ap (λ (q : Procedure). record { procedure = q; destination = other.destination; sls = other.sls }) p
        ∙ ap (λ (n : ℕ). record { procedure = procedure; destination = n; sls = other.sls }) d
        ∙ ap (λ (n : ℕ). record { procedure = procedure; destination = destination; sls = n }) s

pub set-with_pair-may : (t : HoldTable) (procedure : Procedure) (destination sls : ℕ) → HasPlaces t → MayHold (set_of t) procedure destination sls →
    set_of (with_pair t procedure destination sls)
    ≡ record (set_of t) { pairs = insert (set_of t).pairs (record { procedure = procedure; destination = destination; sls = sls }) }
set-with_pair-may t procedure destination sls h may =
    let u : HoldTable = with_pair t procedure destination sls in
    let hold : Hold = record { procedure = procedure; destination = destination; sls = sls } in
    ap (λ (v : HoldTable). record { links = v.links; sets = v.sets; destinations = v.destinations; pairs = (set_of u).pairs }) (table.only-rows t (place_of t procedure) (flow_place t destination sls))
    ∙ ap (λ (pairs : FinSet by_numbers). record { links = t.links; sets = t.sets; destinations = t.destinations; pairs = pairs })
    (same_set in_order only_same_tie (set_of u).pairs (insert (set_of t).pairs hold)
    (λ other. contains-pair t procedure destination sls other (eq_by_cmp by_numbers other hold) h may refl
    ∙ sym (contains-insert in_order (set_of t).pairs hold other)))

-- a pair that may not be held is ignored
not-held : (t : HoldTable) (procedure : Procedure) (destination sls : ℕ) (to there few : Bool) → HasPlaces t → sls < SELECTIONS →
    may_hold_to (set_of t) procedure destination ≡ to → nat_lt destination t.destinations ≡ there → nat_lt sls SELECTIONS ≡ few → (to && (there && few)) ≡ false →
    with_pair t procedure destination sls ≡ t
not-held t procedure destination sls true true true h k a b d e = absurd cc
not-held t procedure destination sls true true false h k a b d e = absurd (true≢false (sym (grind (arith, nat_tests, k)) ∙ d))
not-held t procedure destination sls true false few h k a b d e = table.no-destination t procedure destination sls b
not-held t procedure destination sls false false few h k a b d e = table.no-destination t procedure destination sls b
not-held t procedure destination sls false true few h k a b d e = table.left_aside t procedure destination sls h a (grind (arith, nat_tests, b)) k

set-with_pair-case : (t : HoldTable) (procedure : Procedure) (destination sls : ℕ) (may : Bool) → HasPlaces t → sls < SELECTIONS → may_hold (set_of t) procedure destination sls ≡ may →
    set_of (with_pair t procedure destination sls)
    ≡ record (set_of t) { pairs = if may then insert (set_of t).pairs (record { procedure = procedure; destination = destination; sls = sls }) else (set_of t).pairs }
set-with_pair-case t procedure destination sls true h few e = set-with_pair-may t procedure destination sls h (may_parts (set_of t) procedure destination sls e)
set-with_pair-case t procedure destination sls false h few e =
    ap set_of (not-held t procedure destination sls (may_hold_to (set_of t) procedure destination) (nat_lt destination t.destinations) (nat_lt sls SELECTIONS) h few refl refl refl e)

pub set-with_pair : (t : HoldTable) (procedure : Procedure) (destination sls : ℕ) → HasPlaces t → sls < SELECTIONS →
    set_of (with_pair t procedure destination sls) ≡ with_hold (set_of t) procedure destination sls
set-with_pair t procedure destination sls h few = set-with_pair-case t procedure destination sls (may_hold (set_of t) procedure destination sls) h few refl

-- ---- a lift

and-not : (b : Bool) → (b && not true) ≡ false
and-not true = refl
and-not false = refl

and-yes : (b : Bool) → b ≡ (b && not false)
and-yes true = refl
and-yes false = refl

never : (b : Bool) → (b ≡ true → 1 < 1) → b ≡ false
never true f = absurd (omega (arith, f refl))
never false f = refl

contains-without : (t : HoldTable) (procedure : Procedure) (hold : Hold) (own : Bool) → HasPlaces t → is_same hold.procedure procedure ≡ own →
    contains (set_of (without_pairs t procedure)).pairs hold ≡ (contains (set_of t).pairs hold && not own)
contains-without t procedure hold true h e =
    let u : HoldTable = without_pairs t procedure in
    never (contains (set_of u).pairs hold)
    (λ k. let p : IsPair u hold = set-to-mark u hold (all_rows u (without_pairs-places t procedure h)) k in
    absurd (true≢false (sym p.mark
    ∙ ap (λ (q : Procedure). has_pair u q hold.destination hold.sls) (same hold.procedure procedure e)
    ∙ ends_its_own t procedure hold.destination hold.sls)))
    ∙ sym (and-not (contains (set_of t).pairs hold))
contains-without t procedure hold false h e =
    alike-at t (without_pairs t procedure) hold h (without_pairs-places t procedure h)
    (λ few. leaves_others t procedure hold.procedure hold.destination hold.sls
    (λ is. true≢false (sym (same-itself procedure) ∙ ap (λ (q : Procedure). is_same q procedure) is ∙ e)))
    ∙ and-yes (contains (set_of t).pairs hold)

cleared-rows : (t : HoldTable) (row : Option ℕ) → with_row_cleared t row ≡ record t { rows = (with_row_cleared t row).rows }
cleared-rows t (Some row) = refl
cleared-rows t None = refl

pub set-without_pairs : (t : HoldTable) (procedure : Procedure) → HasPlaces t → set_of (without_pairs t procedure) ≡ lifted (set_of t) procedure
set-without_pairs t procedure h =
    let u : HoldTable = without_pairs t procedure in
    ap (λ (v : HoldTable). record { links = v.links; sets = v.sets; destinations = v.destinations; pairs = (set_of u).pairs }) (cleared-rows t (place_of t procedure))
    ∙ ap (λ (pairs : FinSet by_numbers). record { links = t.links; sets = t.sets; destinations = t.destinations; pairs = pairs })
    (same_set in_order only_same_tie (set_of u).pairs (lifted (set_of t) procedure).pairs
    (λ hold. contains-without t procedure hold (is_same hold.procedure procedure) h refl ∙ sym (contains-lifted (set_of t) procedure hold)))

-- ---- a flow that is held

pub set-has_flow : (t : HoldTable) (destination sls : ℕ) → HasPlaces t → sls < SELECTIONS → has_flow t destination sls ≡ is_held (set_of t) destination sls
set-has_flow t destination sls h few =
    both_ways (has_flow t destination sls) (is_held (set_of t) destination sls)
    (λ e. let found : (procedure : Procedure) × (has_pair t procedure destination sls ≡ true) = marked_by t destination sls (count t h) e in
    (held_by (set_of t) destination sls).1
    (found.0, mark-to-set t (record { procedure = found.0; destination = destination; sls = sls }) (record { few = few; mark = found.1 })))
    (λ e. let found : (procedure : Procedure) × (holds (set_of t) procedure destination sls ≡ true) = (held_by (set_of t) destination sls).0 e in
    some-mark t (place_of t found.0) (flow_place t destination sls)
    ((set-to-mark t (record { procedure = found.0; destination = destination; sls = sls }) (all_rows t h) found.1).mark))

-- ---- at first

not-one : (b : Bool) → cond {A = ℕ} b 1 0 ≡ 0 → b ≡ false
not-one true e = absurd (omega (arith, e))
not-one false e = refl

-- the rows of a table without marks
abbrev first_rows_of : (links sets destinations : ℕ) → List Marks
first_rows_of links sets destinations = (no_marks links sets destinations).rows

none-marked : (links sets destinations row flow : ℕ) (there : Bool) → nat_lt row (2 * links + CHANGEBACK_CODES * sets + destinations) ≡ there →
    has_mark flow (marks_at (first_rows_of links sets destinations) row) ≡ false
none-marked links sets destinations row flow true e =
    let shared : ℕ = 2 * links + CHANGEBACK_CODES * sets in
    ap (has_mark flow) (get_or-map-range_with_len (first_row shared destinations) 0 (shared + destinations) row row (record { first = 0; marks = [] }) (ltb-true row (shared + destinations) e) (omega arith))
    ∙ not-one (has_mark flow (first_row shared destinations row)) (unmarked shared destinations row flow)
none-marked links sets destinations row flow false e =
    let shared : ℕ = 2 * links + CHANGEBACK_CODES * sets in
    ap (has_mark flow) (get_or_past (first_rows_of links sets destinations) row (record { first = 0; marks = [] })
    (omega (arith, ltb-false row (shared + destinations) e, length-map-range_with_len (first_row shared destinations) 0 (shared + destinations))))
    ∙ and-false (nat_le 0 flow)

no-pair : (links sets destinations : ℕ) (place flow : Option ℕ) → row_has (no_marks links sets destinations) place flow ≡ false
no-pair links sets destinations (Some row) (Some flow) = none-marked links sets destinations row flow (nat_lt row (2 * links + CHANGEBACK_CODES * sets + destinations)) refl
no-pair links sets destinations (Some row) None = refl
no-pair links sets destinations None flow = refl

pub set-no_marks : (links sets destinations : ℕ) → set_of (no_marks links sets destinations) ≡ no_holds links sets destinations
set-no_marks links sets destinations =
    let t : HoldTable = no_marks links sets destinations in
    ap (λ (pairs : FinSet by_numbers). record { links = links; sets = sets; destinations = destinations; pairs = pairs })
    (same_set in_order only_same_tie (set_of t).pairs empty
    (λ hold. never (contains (set_of t).pairs hold)
    (λ e. let p : IsPair t hold = set-to-mark t hold (all_rows t (no_marks-places links sets destinations)) e in
    absurd (true≢false (sym p.mark ∙ no-pair links sets destinations (place_of t hold.procedure) (flow_place t hold.destination hold.sls))))
    ∙ sym (contains-empty by_numbers hold)))
