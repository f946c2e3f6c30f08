-- Nothing is owed except what may be pending, and nothing before the index that a walk over what may be has reached.
use Rattle.exchange.proofs.Basics.{◌≡◌, ◌≢◌, ◌<◌, ◌≤◌, ◌+◌, ◌-◌, ℕ, zero, suc, Bool, true, false, length, List, [], ◌∷◌, Option, Some, None, refl, ap, sym, subst, ◌∙◌, inl, inr, arith, common_steps, if◌then◌else◌, ◌||◌, replicate, slice_get, slice_index_or, slice_set, eqb_tells, leb_tells, nat_tests, get_or-set_same, get_or-set_other, length-set, length-replicate, slice_get_past, Configuration, Facts, with_status, is_marked, Updates, is_from, is_within, is_any, has_all_from, with_all, with_none, with_mark, with_destination, without_before, Extent, Nothing, Marked, From, RouteStatus, ToldTable, is_own_point, row_of, shape_of, told_at, with_told, Owed, owed_at, status_to_advertise, is_reachable, told_shape, owed_by, none_owed, once, after_status, still, next_is_not_owed, QueueKind, Node, facts, may_tell, tell, tell_if, tell_each, tell-facts, tell-told, OwesNone, OwesNoneBefore, OwesNoneBetween, OwesNoneBut, tell_at}
use Rattle.route_management.specs.Updates.{is_some}
use Rattle.exchange.proofs.Telling.{row_left}

-- ---- places

behind : (set destination other about : ℕ) → set < other → is_from set destination other about ≡ true
behind set destination other about l = grind (arith, common_steps, nat_tests)

at-or-behind : (set destination about : ℕ) → destination ≤ about → is_from set destination set about ≡ true
at-or-behind set destination about l = grind (arith, common_steps, nat_tests)

-- ---- all may be pending

all_within : (marks : List Bool) (set destination : ℕ) → is_within (From 0 0) marks set destination ≡ true
all_within marks zero destination = ap (λ (b : Bool). b || is_marked marks destination) (at-or-behind 0 0 destination (omega arith))
all_within marks (suc set) destination = ap (λ (b : Bool). b || is_marked marks destination) (behind 0 0 (suc set) destination (omega arith))

pub all_may_be : (destinations : ℕ) (u : Updates) (f : Facts) (t : ToldTable) → length u.marks ≡ destinations → OwesNoneBut destinations (with_all u) f t
all_may_be destinations u f t many = record {
  marks = many;
  none = λ set destination out. let may = sym (all_within u.marks set destination) ∙ out in absurd cc;
}

-- ---- those about one more destination may be

with_mark-marks : (x : Extent) (marks : List Bool) (destination : ℕ) → length (with_mark destination x marks).marks ≡ length marks
with_mark-marks Nothing marks destination = length-set (replicate (length marks) false) destination true ∙ length-replicate (length marks) false
with_mark-marks Marked marks destination = length-set marks destination true
with_mark-marks (From first about) marks destination = length-set marks destination true

unmarked : (marks : List Bool) (destination about : ℕ) → destination < length marks → is_marked (slice_set marks destination true) about ≡ false
    → (destination ≢ about) × (is_marked marks about ≡ false)
unmarked marks destination about there out =
    elim (eqb_tells about destination) [
      | inl same ↦
          let is = sym (get_or-set_same marks destination true false there) ∙ sym (ap (λ (d : ℕ). is_marked (slice_set marks destination true) d) same.1) ∙ out in
          absurd cc
      | inr apart ↦ (λ same. apart.1 (sym same), sym (get_or-set_other marks destination about true false apart.1) ∙ out)
    ]

neither : (a b : Bool) → (a || b) ≡ false → (a ≡ false) × (b ≡ false)
neither true b e = absurd cc
neither false b e = (refl, e)

still_within : (x : Extent) (marks : List Bool) (destination set about : ℕ) → destination < length marks
    → is_within (with_mark destination x marks).extent (with_mark destination x marks).marks set about ≡ false
    → (destination ≢ about) × (is_within x marks set about ≡ false)
still_within Nothing marks destination set about there out =
    let many : length (replicate (length marks) false) ≡ length marks = length-replicate (length marks) false in
    ((unmarked (replicate (length marks) false) destination about (omega (arith, there, many)) out).0, refl)
still_within Marked marks destination set about there out = unmarked marks destination about there out
still_within (From first from) marks destination set about there out =
    let n = neither (is_from first from set about) (is_marked (slice_set marks destination true) about) out in
    let m = unmarked marks destination about there n.1 in
    (m.0, ap (λ (b : Bool). b || is_marked marks about) n.0 ∙ m.1)

-- a status of one destination changes nothing that points are to be told of another
pub status_owes : (destinations : ℕ) (u : Updates) (f : Facts) (t : ToldTable) (destination set : ℕ) (status : RouteStatus)
    → destination < destinations → OwesNoneBut destinations u f t
    → OwesNoneBut destinations (with_destination destination u) (with_status destination set status f) t
status_owes destinations u f t destination set status there h = record {
  marks = with_mark-marks u.extent u.marks destination ∙ h.marks;
  none = λ other about out.
      let s = still_within u.extent u.marks destination other about (omega (arith, there, h.marks)) out in
      ap (λ (x : RouteStatus). owed_by (is_reachable f other) (is_own_point t other about) x (told_at t other about))
      (after_status f destination set other about status s.0)
      ∙ h.none other about s.1;
}

-- ---- none may be

none_within : (x : Extent) (marks : List Bool) (set destination : ℕ) → is_some x ≡ false → is_within x marks set destination ≡ false
none_within Nothing marks set destination none = refl
none_within Marked marks set destination none = absurd cc
none_within (From first about) marks set destination none = absurd cc

pub none_is_owed : (destinations : ℕ) (u : Updates) (f : Facts) (t : ToldTable) → is_any u ≡ false → OwesNoneBut destinations u f t → OwesNone f t
none_is_owed destinations u f t none h = λ set destination. h.none set destination (none_within u.extent u.marks set destination none)

pub none_left : (destinations : ℕ) (u : Updates) (f : Facts) (t : ToldTable) → OwesNoneBut destinations u f t → OwesNone f t → OwesNoneBut destinations (with_none u) f t
none_left destinations u f t h none = record {
  marks = h.marks;
  none = λ set destination out. none set destination;
}

-- ---- none before a place

owed_before : (f : Facts) (t : ToldTable) (set destination other about : ℕ) → OwesNoneBefore f t set destination
    → is_from set destination other about ≡ false → owed_at f t other about ≡ None
owed_before f t set destination other about h out =
    elim (leb_tells set other) [
      | inr l ↦ h.sets other about l.1
      | inl l ↦ elim (eqb_tells other set) [
        | inr apart ↦ let is = sym (behind set destination other about (omega (arith, l.1, apart.1))) ∙ out in absurd cc
        | inl same ↦ elim (leb_tells destination about) [
          | inr m ↦ ap (λ (s : ℕ). owed_at f t s about) same.1 ∙ h.row about m.1
          | inl m ↦
              let is = sym (at-or-behind set destination about m.1) ∙ sym (ap (λ (s : ℕ). is_from set destination s about) same.1) ∙ out in
              absurd cc
        ]
      ]
    ]

left-by : (b : Bool) (destinations : ℕ) (u : Updates) (f : Facts) (t : ToldTable) (set destination : ℕ) → OwesNoneBut destinations u f t → OwesNoneBefore f t set destination
    → OwesNoneBut destinations (if b then record { extent = From set destination; marks = replicate (length u.marks) false } else u) f t
left-by true destinations u f t set destination h before = record {
  marks = length-replicate (length u.marks) false ∙ h.marks;
  none = λ other about out.
      owed_before f t set destination other about before (neither (is_from set destination other about) (is_marked (replicate (length u.marks) false) about) out).0;
}
left-by false destinations u f t set destination h before = h

pub left_from : (destinations : ℕ) (u : Updates) (f : Facts) (t : ToldTable) (set destination : ℕ) → OwesNoneBut destinations u f t → OwesNoneBefore f t set destination
    → OwesNoneBut destinations (without_before set destination u) f t
left_from destinations u f t set destination h before = left-by (has_all_from set destination u.extent) destinations u f t set destination h before

-- ---- as something is told

module _ (f : Facts) (t : ToldTable) (set destination : ℕ) where
  stays : (other about : ℕ) → owed_at f t other about ≡ None → owed_at f (with_told set destination (status_to_advertise f set destination) t) other about ≡ None
  stays other about none =
      still f t (record { set = set; destination = destination; status = status_to_advertise f set destination }) other about refl none

  pub told_owes_no_more : (destinations : ℕ) (u : Updates) → OwesNoneBut destinations u f t
      → OwesNoneBut destinations u f (with_told set destination (status_to_advertise f set destination) t)
  told_owes_no_more destinations u h = record {
    marks = h.marks;
    none = λ other about out. stays other about (h.none other about out);
  }

  before_stays : (from first : ℕ) → OwesNoneBefore f t from first
      → OwesNoneBefore f (with_told set destination (status_to_advertise f set destination) t) from first
  before_stays from first h = record {
    sets = λ earlier about l. stays earlier about (h.sets earlier about l);
    row = λ about l. stays from about (h.row about l);
  }

-- ---- from one place to the next

next_by : (f : Facts) (t : ToldTable) (set destination about : ℕ) → about < destination + 1 → owed_at f t set destination ≡ None
    → ((earlier : ℕ) → earlier < destination → owed_at f t set earlier ≡ None) → owed_at f t set about ≡ None
next_by f t set destination about l here before =
    elim (eqb_tells about destination) [
      | inl same ↦ ap (λ (d : ℕ). owed_at f t set d) same.1 ∙ here
      | inr apart ↦ before about (omega (arith, l, apart.1))
    ]

pub next_place : (f : Facts) (t : ToldTable) (set destination : ℕ) → OwesNoneBefore f t set destination → owed_at f t set destination ≡ None
    → OwesNoneBefore f t set (destination + 1)
next_place f t set destination h here = record {
  sets = h.sets;
  row = λ about l. next_by f t set destination about l here h.row;
}

pub next_places : (f : Facts) (t : ToldTable) (set from next : ℕ) → OwesNoneBefore f t set from → OwesNoneBetween f t set from next → OwesNoneBefore f t set next
next_places f t set from next h between = record {
  sets = h.sets;
  row = λ about l. elim (leb_tells from about) [
    | inl behind ↦ between about behind.1 l
    | inr before ↦ h.row about before.1
  ];
}

pub due_by : (b : Bool) (s status : RouteStatus) → (if b then Some s else None) ≡ Some status → status ≡ s
due_by true s status e = cc
due_by false s status e = absurd cc

told_next : (f : Facts) (t : ToldTable) (set destination : ℕ) (status : RouteStatus) → OwesNoneBefore f t set destination
    → owed_at f t set destination ≡ Some status → OwesNoneBefore f (with_told set destination status t) set (destination + 1)
told_next f t set destination status h e =
    let due : status ≡ status_to_advertise f set destination = due_by _ (status_to_advertise f set destination) status e in
    subst (λ (s : RouteStatus). OwesNoneBefore f (with_told set destination s t) set (destination + 1)) (sym due)
    (next_place f (with_told set destination (status_to_advertise f set destination) t) set destination
    (before_stays f t set destination set destination h) (once f t set destination))

-- ---- from one set to the next

pub before_all : (f : Facts) (t : ToldTable) → OwesNoneBefore f t 0 0
before_all f t = record {
  sets = λ earlier about l. absurd (omega (arith, l));
  row = λ about l. absurd (omega (arith, l));
}

next_set_by : (f : Facts) (t : ToldTable) (set destination : ℕ) → OwesNoneBefore f t set destination
    → ((about : ℕ) → owed_at f t set about ≡ None) → OwesNoneBefore f t (set + 1) 0
next_set_by f t set destination h none = record {
  sets = λ earlier about l. elim (eqb_tells earlier set) [
    | inl same ↦ ap (λ (s : ℕ). owed_at f t s about) same.1 ∙ none about
    | inr apart ↦ h.sets earlier about (omega (arith, l, apart.1))
  ];
  row = λ about l. absurd (omega (arith, l));
}

-- a place that isn't there is owed nothing
not_there : (f : Facts) (t : ToldTable) (set destination : ℕ) → told_at t set destination ≡ None → owed_at f t set destination ≡ None
not_there f t set destination none =
    ap (owed_by (is_reachable f set) (is_own_point t set destination) (status_to_advertise f set destination)) none
    ∙ none_owed (is_reachable f set) (is_own_point t set destination) false (status_to_advertise f set destination) refl

-- a set whose destinations were all looked at
pub row_done : (f : Facts) (t : ToldTable) (set destination : ℕ) → OwesNoneBefore f t set destination → length (row_of t set) ≤ destination
    → OwesNoneBefore f t (set + 1) 0
row_done f t set destination h done =
    next_set_by f t set destination h (λ about.
    elim (leb_tells destination about) [
      | inl past ↦ not_there f t set about (slice_get_past (row_of t set) about (omega (arith, done, past.1)))
      | inr before ↦ h.row about before.1
    ])

-- a set whose point can't be reached
pub unreached_done : (f : Facts) (t : ToldTable) (set destination : ℕ) → OwesNoneBefore f t set destination → is_reachable f set ≡ false
    → OwesNoneBefore f t (set + 1) 0
unreached_done f t set destination h down =
    next_set_by f t set destination h (λ about.
    ap (λ (b : Bool). owed_by b (is_own_point t set about) (status_to_advertise f set about) (told_at t set about)) down)

no_row : (rows : List (List RouteStatus)) (set destination : ℕ) → length rows ≤ set → slice_get (slice_index_or rows set []) destination ≡ None
no_row [] set destination past = refl
no_row (row ∷ rows) zero destination past = absurd (omega (arith, past))
no_row (row ∷ rows) (suc set) destination past = no_row rows set destination (omega (arith, past))

-- all sets
pub sets_done : (f : Facts) (t : ToldTable) (set destination : ℕ) → OwesNoneBefore f t set destination → length t.rows ≤ set → OwesNone f t
sets_done f t set destination h done =
    λ other about. elim (leb_tells set other) [
      | inl past ↦ not_there f t other about (no_row t.rows other about (omega (arith, done, past.1)))
      | inr before ↦ h.sets other about before.1
    ]

-- ---- what is left from a place on, before which nothing is owed

module _ {Q : Type 0} (q : QueueKind Q) (c : Configuration) where
  row_skipped : (set from left : ℕ) (n : Node Q) → owed_at (facts c n.parts) n.parts.told set from ≡ None
      → row_left q c set (from + 1) (left - 1) n ≡ row_left q c set from left n
  row_skipped set from zero n none = refl
  row_skipped set from (suc left) n none =
      let one : from + 1 ≡ suc from = omega arith in
      let less : suc left - 1 ≡ left = omega arith in
      ap (λ (k : ℕ). row_left q c set (from + 1) k n) less
      ∙ ap (λ (k : ℕ). row_left q c set k left n) one
      ∙ ap (λ (os : List Owed). tell_each q c os n) (sym (next_is_not_owed (facts c n.parts) n.parts.told set from left none))

  row_gap : (set from gap end : ℕ) (n : Node Q) → OwesNoneBetween (facts c n.parts) n.parts.told set from (from + gap)
      → row_left q c set (from + gap) (end - (from + gap)) n ≡ row_left q c set from (end - from) n
  row_gap set from zero end n none =
      let here : from + 0 ≡ from = omega arith in
      ap (λ (k : ℕ). row_left q c set k (end - k) n) here
  row_gap set from (suc gap) end n none =
      let next : from + suc gap ≡ (from + gap) + 1 = omega arith in
      let less : end - (from + suc gap) ≡ (end - (from + gap)) - 1 = omega arith in
      ap (λ (k : ℕ). row_left q c set k (end - (from + suc gap)) n) next
      ∙ ap (λ (k : ℕ). row_left q c set ((from + gap) + 1) k n) less
      ∙ row_skipped set (from + gap) (end - (from + gap)) n (none (from + gap) (omega arith) (omega arith))
      ∙ row_gap set from gap end n (λ about least below. none about least (omega (arith, below)))

  pub row_from : (set from next end : ℕ) (n : Node Q) → from ≤ next → OwesNoneBetween (facts c n.parts) n.parts.told set from next
      → row_left q c set next (end - next) n ≡ row_left q c set from (end - from) n
  row_from set from next end n l none =
      let gap : from + (next - from) ≡ next = omega (arith, l) in
      sym (ap (λ (k : ℕ). row_left q c set k (end - k) n) gap)
      ∙ row_gap set from (next - from) end n (λ about least below. none about least (omega (arith, below, gap)))

  -- ---- one place told

  told_by : (set destination : ℕ) (status : RouteStatus) (room : Bool) (n : Node Q) → room ≡ true
      → OwesNoneBefore (facts c n.parts) n.parts.told set destination → owed_at (facts c n.parts) n.parts.told set destination ≡ Some status
      → OwesNoneBefore (facts c (if room then tell q c (record { set = set; destination = destination; status = status }) n else n).parts)
      (if room then tell q c (record { set = set; destination = destination; status = status }) n else n).parts.told set (destination + 1)
  told_by set destination status false n room h e = absurd cc
  told_by set destination status true n room h e =
      let o : Owed = record { set = set; destination = destination; status = status } in
      subst (λ (f : Facts). OwesNoneBefore f (tell q c o n).parts.told set (destination + 1)) (sym (tell-facts q c o n))
      (subst (λ (t : ToldTable). OwesNoneBefore (facts c n.parts) t set (destination + 1)) (sym (tell-told q c o n))
      (told_next (facts c n.parts) n.parts.told set destination status h e))

  place_by : (set destination : ℕ) (status : Option RouteStatus) (n : Node Q) → may_tell q c n ≡ true
      → OwesNoneBefore (facts c n.parts) n.parts.told set destination → owed_at (facts c n.parts) n.parts.told set destination ≡ status
      → OwesNoneBefore (facts c (tell_at q c set destination status n).parts) (tell_at q c set destination status n).parts.told set (destination + 1)
  place_by set destination None n room h e = next_place (facts c n.parts) n.parts.told set destination h e
  place_by set destination (Some status) n room h e = told_by set destination status (may_tell q c n) n room h e

  pub place_done : (set destination : ℕ) (n : Node Q) → may_tell q c n ≡ true → OwesNoneBefore (facts c n.parts) n.parts.told set destination
      → OwesNoneBefore (facts c (tell_at q c set destination (owed_at (facts c n.parts) n.parts.told set destination) n).parts)
      (tell_at q c set destination (owed_at (facts c n.parts) n.parts.told set destination) n).parts.told set (destination + 1)
  place_done set destination n room h = place_by set destination (owed_at (facts c n.parts) n.parts.told set destination) n room h refl

  -- ---- what was told keeps its shape

  shape_by : (o : Owed) (room : Bool) (n : Node Q) → shape_of (if room then tell q c o n else n).parts.told ≡ shape_of n.parts.told
  shape_by o true n = ap shape_of (tell-told q c o n) ∙ told_shape n.parts.told o.set o.destination o.status
  shape_by o false n = refl

  pub place_shape : (set destination : ℕ) (status : Option RouteStatus) (n : Node Q)
      → shape_of (tell_at q c set destination status n).parts.told ≡ shape_of n.parts.told
  place_shape set destination None n = refl
  place_shape set destination (Some status) n =
      shape_by (record { set = set; destination = destination; status = status }) (may_tell q c n) n

  pub each_shape : (os : List Owed) (n : Node Q) → shape_of (tell_each q c os n).parts.told ≡ shape_of n.parts.told
  each_shape [] n = refl
  each_shape (o ∷ os) n = each_shape os (tell_if q c o n) ∙ shape_by o (may_tell q c n) n
