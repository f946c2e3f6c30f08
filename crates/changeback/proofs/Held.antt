-- The flows that a link takes over are held, each by the procedure that holds what comes from its former link.
use Rattle.changeback.proofs.Basics.{◌≡◌, ℕ, zero, suc, Bool, true, false, ◌&&◌, ◌||◌, List, [], ◌∷◌, slice_index_or, refl, ap, sym, ◌∙◌, subst, arith, ◌⊎◌, inl, inr, Option, Some, None, Contains, eq_by_cmp, ⊎_elim, Procedure, Hold, HoldSet, by_numbers, holds, may_hold, tied, IsSameNode, contains-with_hold, adds_its_pair, keeps_pairs, may-still, hold-leaves_others, FlowChange, with_change, held_by, IsToHold, each_change_has_its_pair, changes_leave_other_pairs}

-- ---- one change

change-keeps_pairs : (h : HoldSet) (c : FlowChange) (holder : Option Procedure) (procedure : Procedure) (destination sls : ℕ) → holds h procedure destination sls ≡ true →
    holds (with_change h c holder) procedure destination sls ≡ true
change-keeps_pairs h c (Some other) procedure destination sls e = keeps_pairs h other procedure c.destination c.sls destination sls e
change-keeps_pairs h c None procedure destination sls e = e

pub change-may : (h : HoldSet) (c : FlowChange) (holder : Option Procedure) (procedure : Procedure) (destination sls : ℕ) →
    may_hold (with_change h c holder) procedure destination sls ≡ may_hold h procedure destination sls
change-may h c (Some other) procedure destination sls = may-still h other c.destination c.sls procedure destination sls
change-may h c None procedure destination sls = refl

change-has_pair : (h : HoldSet) (c : FlowChange) (holder : Option Procedure) (procedure : Procedure) → holder ≡ Some procedure → may_hold h procedure c.destination c.sls ≡ true →
    holds (with_change h c holder) procedure c.destination c.sls ≡ true
change-has_pair h c holder procedure e may =
    ap (λ (o : Option Procedure). holds (with_change h c o) procedure c.destination c.sls) e ∙ adds_its_pair h procedure c.destination c.sls may

change-leaves : (h : HoldSet) (c : FlowChange) (holder : Option Procedure) (procedure : Procedure) (destination sls : ℕ) →
    (holder ≡ Some procedure → c.destination ≡ destination → c.sls ≡ sls → ⊥) → holds (with_change h c holder) procedure destination sls ≡ holds h procedure destination sls
change-leaves h c (Some other) procedure destination sls apart =
    hold-leaves_others h other procedure c.destination c.sls destination sls
    (λ e. apart (ap (λ (p : Procedure × ℕ × ℕ). Some p.0) (sym e)) (ap (λ (p : Procedure × ℕ × ℕ). p.1) (sym e)) (ap (λ (p : Procedure × ℕ × ℕ). p.2) (sym e)))
change-leaves h c None procedure destination sls apart = refl

-- ---- all of them

pub pairs-stay : (holders : List (Option Procedure)) (cs : List FlowChange) (h : HoldSet) (procedure : Procedure) (destination sls : ℕ) → holds h procedure destination sls ≡ true →
    holds (held_by holders cs h) procedure destination sls ≡ true
pairs-stay holders [] h procedure destination sls e = e
pairs-stay holders (c ∷ cs) h procedure destination sls e =
    pairs-stay holders cs (with_change h c (slice_index_or holders c.from None)) procedure destination sls
    (change-keeps_pairs h c (slice_index_or holders c.from None) procedure destination sls e)

has-pair : (holders : List (Option Procedure)) (cs : List FlowChange) (h : HoldSet) (c : FlowChange) (procedure : Procedure) → Contains cs c → slice_index_or holders c.from None ≡ Some procedure →
    may_hold h procedure c.destination c.sls ≡ true → holds (held_by holders cs h) procedure c.destination c.sls ≡ true
has-pair holders [] h c procedure (k, l, e) holder may = absurd (omega (arith, l))
has-pair holders (x ∷ cs) h c procedure (zero, l, e) holder may =
    pairs-stay holders cs (with_change h x (slice_index_or holders x.from None)) procedure c.destination c.sls
    (subst (λ (x : FlowChange). holds (with_change h x (slice_index_or holders x.from None)) procedure c.destination c.sls ≡ true) (sym e)
    (change-has_pair h c (slice_index_or holders c.from None) procedure holder may))
has-pair holders (x ∷ cs) h c procedure (suc k, l, e) holder may =
    let first : Option Procedure = slice_index_or holders x.from None in
    has-pair holders cs (with_change h x first) c procedure (k, omega (arith, l), e) holder (change-may h x first procedure c.destination c.sls ∙ may)

pub change_pairs : each_change_has_its_pair
change_pairs holders cs h procedure destination sls to_hold may =
    ap (λ (d : ℕ). holds (held_by holders cs h) procedure d sls) (sym to_hold.to)
    ∙ ap (λ (s : ℕ). holds (held_by holders cs h) procedure to_hold.change.destination s) (sym to_hold.selection)
    ∙ has-pair holders cs h to_hold.change procedure to_hold.among to_hold.holder
    (ap (λ (d : ℕ). may_hold h procedure d to_hold.change.sls) to_hold.to ∙ ap (λ (s : ℕ). may_hold h procedure destination s) to_hold.selection ∙ may)

to-hold-behind : (holders : List (Option Procedure)) (x : FlowChange) (cs : List FlowChange) (procedure : Procedure) (destination sls : ℕ) →
    IsToHold holders cs procedure destination sls → IsToHold holders (x ∷ cs) procedure destination sls
to-hold-behind holders x cs procedure destination sls t = record {
  change = t.change;
  among = (suc t.among.0, omega (arith, t.among.1), t.among.2);
  holder = t.holder;
  to = t.to;
  selection = t.selection;
}

pub other_pairs_stay : changes_leave_other_pairs
other_pairs_stay holders [] h procedure destination sls apart = refl
other_pairs_stay holders (x ∷ cs) h procedure destination sls apart =
    let first : Option Procedure = slice_index_or holders x.from None in
    other_pairs_stay holders cs (with_change h x first) procedure destination sls (λ t. apart (to-hold-behind holders x cs procedure destination sls t))
    ∙ change-leaves h x first procedure destination sls
    (λ holder to selection. apart (record { change = x; among = (0, omega arith, refl); holder = holder; to = to; selection = selection }))

-- ---- a pair that is there

came-case : (holders : List (Option Procedure)) (x : FlowChange) (cs : List FlowChange) (h : HoldSet) (first procedure : Procedure) (destination sls : ℕ) (may tie : Bool) →
    slice_index_or holders x.from None ≡ Some first → eq_by_cmp by_numbers (record { procedure = procedure; destination = destination; sls = sls }) (record { procedure = first; destination = x.destination; sls = x.sls }) ≡ tie →
    ((may && tie) || holds h procedure destination sls) ≡ true → IsToHold holders (x ∷ cs) procedure destination sls ⊎ (holds h procedure destination sls ≡ true)
came-case holders x cs h first procedure destination sls true true holder e f =
    let this : Hold = record { procedure = procedure; destination = destination; sls = sls } in
    let that : Hold = record { procedure = first; destination = x.destination; sls = x.sls } in
    let same : this ≡ that = tied this that e in
    inl (record {
      change = x;
      among = (0, omega arith, refl);
      holder = holder ∙ ap (λ (y : Hold). Some y.procedure) (sym same);
      to = ap (λ (y : Hold). y.destination) (sym same);
      selection = ap (λ (y : Hold). y.sls) (sym same);
    })
came-case holders x cs h first procedure destination sls true false holder e f = inr f
came-case holders x cs h first procedure destination sls false tie holder e f = inr f

came-one : (holders : List (Option Procedure)) (x : FlowChange) (cs : List FlowChange) (h : HoldSet) (holder : Option Procedure) (procedure : Procedure) (destination sls : ℕ) →
    slice_index_or holders x.from None ≡ holder → holds (with_change h x holder) procedure destination sls ≡ true →
    IsToHold holders (x ∷ cs) procedure destination sls ⊎ (holds h procedure destination sls ≡ true)
came-one holders x cs h (Some first) procedure destination sls holder e =
    came-case holders x cs h first procedure destination sls (may_hold h first x.destination x.sls) _ holder refl
    (sym (contains-with_hold h first x.destination x.sls (record { procedure = procedure; destination = destination; sls = sls })) ∙ e)
came-one holders x cs h None procedure destination sls holder e = inr e

-- it is one that was to be held, or it was there
pub came : (holders : List (Option Procedure)) (cs : List FlowChange) (h : HoldSet) (procedure : Procedure) (destination sls : ℕ) → holds (held_by holders cs h) procedure destination sls ≡ true →
    IsToHold holders cs procedure destination sls ⊎ (holds h procedure destination sls ≡ true)
came holders [] h procedure destination sls e = inr e
came holders (x ∷ cs) h procedure destination sls e =
    let first : Option Procedure = slice_index_or holders x.from None in
    ⊎_elim
    (λ (t : IsToHold holders cs procedure destination sls). inl (to-hold-behind holders x cs procedure destination sls t))
    (λ (f : holds (with_change h x first) procedure destination sls ≡ true). came-one holders x cs h first procedure destination sls refl f)
    (came holders cs (with_change h x first) procedure destination sls e)

-- ---- links, sets and destinations stay

change-same_node : (h : HoldSet) (c : FlowChange) (holder : Option Procedure) → IsSameNode (with_change h c holder) h
change-same_node h c (Some procedure) = record { links = refl; sets = refl; destinations = refl }
change-same_node h c None = record { links = refl; sets = refl; destinations = refl }

pub changes-same_node : (holders : List (Option Procedure)) (cs : List FlowChange) (h : HoldSet) → IsSameNode (held_by holders cs h) h
changes-same_node holders [] h = record { links = refl; sets = refl; destinations = refl }
changes-same_node holders (c ∷ cs) h =
    let first : Option Procedure = slice_index_or holders c.from None in
    let rest : IsSameNode (held_by holders cs (with_change h c first)) (with_change h c first) = changes-same_node holders cs (with_change h c first) in
    let one : IsSameNode (with_change h c first) h = change-same_node h c first in
    record { links = rest.links ∙ one.links; sets = rest.sets ∙ one.sets; destinations = rest.destinations ∙ one.destinations }
