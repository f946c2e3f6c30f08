-- One more flow, and one more destination.
use Rattle.changeback.proofs.Basics.{or-false, or_assoc, ◌≡◌, ℕ, zero, suc, ◌+◌, replicate, Bool, false, ◌||◌, List, [], ◌∷◌, ◌++◌, refl, ap, sym, ◌∙◌, add-one, nat_eq, slice_index_or, Option, Some, None, Facts, with_link, Network, facts_of, Procedure, SELECTIONS, HoldSet, FlowChange, former_link_of, change_from, changes_of, changes, comes_from, gives_up, with_change, held_by}

pub more_changes_of : (to : ℕ) (before after : Facts) (destination count : ℕ)
    → changes_of to before after destination (count + 1) ≡ changes_of to before after destination count ++ change_from destination count (former_link_of to before after destination count)
unfolding changes_of
more_changes_of to before after destination count = ap (λ (n : ℕ). changes_of to before after destination n) (add-one count)

pub more_changes : (to : ℕ) (before after : Facts) (count : ℕ)
    → changes to before after (count + 1) ≡ changes to before after count ++ changes_of to before after count SELECTIONS
unfolding changes
more_changes to before after count = ap (λ (n : ℕ). changes to before after n) (add-one count)

-- ---- which links lose flows

pub gives_up-append : (xs ys : List FlowChange) (other : ℕ) → gives_up (xs ++ ys) other ≡ (gives_up xs other || gives_up ys other)
gives_up-append [] ys other = refl
gives_up-append (x ∷ xs) ys other =
    ap (λ (b : Bool). nat_eq x.from other || b) (gives_up-append xs ys other) ∙ sym (or_assoc (nat_eq x.from other) (gives_up xs other) (gives_up ys other))

pub gives_up-one : (destination sls : ℕ) (from : Option ℕ) (other : ℕ) → gives_up (change_from destination sls from) other ≡ comes_from from other
gives_up-one destination sls (Some from) other = or-false (nat_eq from other)
gives_up-one destination sls None other = refl

-- marks that were put for some flows, and then for more
pub marked_more : (m0 m1 m2 : List Bool) (xs ys : List FlowChange)
    → ((other : ℕ) → slice_index_or m1 other false ≡ (slice_index_or m0 other false || gives_up xs other))
    → ((other : ℕ) → slice_index_or m2 other false ≡ (slice_index_or m1 other false || gives_up ys other))
    → (other : ℕ) → slice_index_or m2 other false ≡ (slice_index_or m0 other false || gives_up (xs ++ ys) other)
marked_more m0 m1 m2 xs ys f g other =
    g other
    ∙ ap (λ (b : Bool). b || gives_up ys other) (f other)
    ∙ or_assoc (slice_index_or m0 other false) (gives_up xs other) (gives_up ys other)
    ∙ ap (λ (b : Bool). slice_index_or m0 other false || b) (sym (gives_up-append xs ys other))

-- and then for one
pub marked_one : (m0 m1 m2 : List Bool) (xs : List FlowChange) (destination sls : ℕ) (from : Option ℕ)
    → ((other : ℕ) → slice_index_or m1 other false ≡ (slice_index_or m0 other false || gives_up xs other))
    → ((other : ℕ) → slice_index_or m2 other false ≡ (slice_index_or m1 other false || comes_from from other))
    → (other : ℕ) → slice_index_or m2 other false ≡ (slice_index_or m0 other false || gives_up (xs ++ change_from destination sls from) other)
marked_one m0 m1 m2 xs destination sls from f g =
    marked_more m0 m1 m2 xs (change_from destination sls from) f
    (λ other. g other ∙ ap (λ (b : Bool). slice_index_or m1 other false || b) (sym (gives_up-one destination sls from other)))

-- ---- which flows are held

pub held_by-append : (holders : List (Option Procedure)) (xs ys : List FlowChange) (t : HoldSet)
    → held_by holders (xs ++ ys) t ≡ held_by holders ys (held_by holders xs t)
held_by-append holders [] ys t = refl
held_by-append holders (x ∷ xs) ys t = held_by-append holders xs ys (with_change t x (slice_index_or holders x.from None))

-- ---- the loops

-- what a link takes over as against its being out of service
abbrev pub taken_to : Network → (link destination count : ℕ) → List FlowChange
taken_to n link destination count = changes_of link (with_link link false (facts_of n)) (facts_of n) destination count

abbrev pub taken : Network → (link count : ℕ) → List FlowChange
taken n link count = changes link (with_link link false (facts_of n)) (facts_of n) count

abbrev pub former_in : Network → (link destination sls : ℕ) → Option ℕ
former_in n link destination sls = former_link_of link (with_link link false (facts_of n)) (facts_of n) destination sls

pub none_set : (n i : ℕ) → slice_index_or (replicate n false) i false ≡ false
none_set zero i = refl
none_set (suc n) zero = refl
none_set (suc n) (suc i) = none_set n i

pub marks_begin : (m : List Bool) (n : Network) (link destination other : ℕ)
    → slice_index_or m other false ≡ (slice_index_or m other false || gives_up (taken_to n link destination 0) other)
unfolding changes_of
marks_begin m n link destination other = sym (or-false (slice_index_or m other false))

pub marks_go_on : (m0 m1 m2 : List Bool) (n : Network) (link destination count : ℕ) (from : Option ℕ)
    → from ≡ former_in n link destination count
    → ((other : ℕ) → slice_index_or m1 other false ≡ (slice_index_or m0 other false || gives_up (taken_to n link destination count) other))
    → ((other : ℕ) → slice_index_or m2 other false ≡ (slice_index_or m1 other false || comes_from from other))
    → (other : ℕ) → slice_index_or m2 other false ≡ (slice_index_or m0 other false || gives_up (taken_to n link destination (count + 1)) other)
marks_go_on m0 m1 m2 n link destination count from e f g other =
    marked_one m0 m1 m2 (taken_to n link destination count) destination count from f g other
    ∙ ap (λ (o : Option ℕ). slice_index_or m0 other false || gives_up (taken_to n link destination count ++ change_from destination count o) other) e
    ∙ ap (λ (cs : List FlowChange). slice_index_or m0 other false || gives_up cs other)
    (sym (more_changes_of link (with_link link false (facts_of n)) (facts_of n) destination count))

pub all_marks_begin : (count : ℕ) (n : Network) (link other : ℕ) → slice_index_or (replicate count false) other false ≡ gives_up (taken n link 0) other
unfolding changes
all_marks_begin count n link other = none_set count other

pub all_marks_go_on : (m1 m2 : List Bool) (n : Network) (link count : ℕ)
    → ((other : ℕ) → slice_index_or m1 other false ≡ gives_up (taken n link count) other)
    → ((other : ℕ) → slice_index_or m2 other false ≡ (slice_index_or m1 other false || gives_up (taken_to n link count SELECTIONS) other))
    → (other : ℕ) → slice_index_or m2 other false ≡ gives_up (taken n link (count + 1)) other
all_marks_go_on m1 m2 n link count f g other =
    g other
    ∙ ap (λ (b : Bool). b || gives_up (taken_to n link count SELECTIONS) other) (f other)
    ∙ sym (gives_up-append (taken n link count) (taken_to n link count SELECTIONS) other)
    ∙ ap (λ (cs : List FlowChange). gives_up cs other) (sym (more_changes link (with_link link false (facts_of n)) (facts_of n) count))

pub holds_begin : (holders : List (Option Procedure)) (t : HoldSet) (n : Network) (link destination : ℕ)
    → t ≡ held_by holders (taken_to n link destination 0) t
unfolding changes_of
holds_begin holders t n link destination = refl

pub holds_go_on : (holders : List (Option Procedure)) (t0 t1 t2 : HoldSet) (n : Network) (link destination count : ℕ)
    → t1 ≡ held_by holders (taken_to n link destination count) t0
    → t2 ≡ held_by holders (change_from destination count (former_in n link destination count)) t1
    → t2 ≡ held_by holders (taken_to n link destination (count + 1)) t0
holds_go_on holders t0 t1 t2 n link destination count f g =
    let more : List FlowChange = change_from destination count (former_in n link destination count) in
    g
    ∙ ap (λ (t : HoldSet). held_by holders more t) f
    ∙ sym (held_by-append holders (taken_to n link destination count) more t0)
    ∙ ap (λ (cs : List FlowChange). held_by holders cs t0) (sym (more_changes_of link (with_link link false (facts_of n)) (facts_of n) destination count))

pub all_holds_begin : (holders : List (Option Procedure)) (t : HoldSet) (n : Network) (link : ℕ) → t ≡ held_by holders (taken n link 0) t
unfolding changes
all_holds_begin holders t n link = refl

pub all_holds_go_on : (holders : List (Option Procedure)) (t0 t1 t2 : HoldSet) (n : Network) (link count : ℕ)
    → t1 ≡ held_by holders (taken n link count) t0
    → t2 ≡ held_by holders (taken_to n link count SELECTIONS) t1
    → t2 ≡ held_by holders (taken n link (count + 1)) t0
all_holds_go_on holders t0 t1 t2 n link count f g =
    g
    ∙ ap (λ (t : HoldSet). held_by holders (taken_to n link count SELECTIONS) t) f
    ∙ sym (held_by-append holders (taken n link count) (taken_to n link count SELECTIONS) t0)
    ∙ ap (λ (cs : List FlowChange). held_by holders cs t0) (sym (more_changes link (with_link link false (facts_of n)) (facts_of n) count))
