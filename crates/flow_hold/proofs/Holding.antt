-- A hold adds its pair, if the procedure may hold the flow.
use Rattle.flow_hold.proofs.Basics.{◌≡◌, ℕ, ◌<◌, Bool, true, false, ◌&&◌, ◌||◌, refl, ap, sym, ◌∙◌, nat_lt, if◌then◌else◌, eq_by_cmp, contains, insert, contains-insert, and_parts, ltb-true, Procedure, SELECTIONS, Hold, HoldSet, by_numbers, holds, may_hold_to, may_hold, with_hold, IsOfNode, pair, hold_is_of_node, hold_adds_its_pair, hold_leaves_others, may_not_leaves, hold_holds_its_flow, hold_keeps_flows_held, and-false, or_right}
use Rattle.flow_hold.proofs.Numbers.{in_order, tied, tied-same, untied}
use Rattle.flow_hold.proofs.Pairing.{held_by, may-alike}

-- ---- what it takes to hold a flow

pub record MayHold (h : HoldSet) (procedure : Procedure) (destination sls : ℕ) : Type 0 where
  pub to : may_hold_to h procedure destination ≡ true
  pub there : destination < h.destinations
  pub few : sls < SELECTIONS

pub may_parts : (h : HoldSet) (procedure : Procedure) (destination sls : ℕ) → may_hold h procedure destination sls ≡ true → MayHold h procedure destination sls
may_parts h procedure destination sls may =
    let parts : (may_hold_to h procedure destination ≡ true) × ((nat_lt destination h.destinations && nat_lt sls SELECTIONS) ≡ true) =
    and_parts (may_hold_to h procedure destination) (nat_lt destination h.destinations && nat_lt sls SELECTIONS) may in
    let flow : (nat_lt destination h.destinations ≡ true) × (nat_lt sls SELECTIONS ≡ true) = and_parts (nat_lt destination h.destinations) (nat_lt sls SELECTIONS) parts.1 in
    record { to = parts.0; there = ltb-true destination h.destinations flow.0; few = ltb-true sls SELECTIONS flow.1 }

-- ---- the pairs after a hold

abbrev if_may : Bool → HoldSet → Hold → HoldSet
if_may may h hold = record h { pairs = if may then insert h.pairs hold else h.pairs }

contains-if_may : (may : Bool) (h : HoldSet) (hold other : Hold) → contains (if_may may h hold).pairs other ≡ ((may && eq_by_cmp by_numbers other hold) || contains h.pairs other)
contains-if_may true h hold other = contains-insert in_order h.pairs hold other
contains-if_may false h hold other = refl

pub contains-with_hold : (h : HoldSet) (procedure : Procedure) (destination sls : ℕ) (other : Hold) →
    contains (with_hold h procedure destination sls).pairs other
    ≡ ((may_hold h procedure destination sls && eq_by_cmp by_numbers other (record { procedure = procedure; destination = destination; sls = sls })) || contains h.pairs other)
contains-with_hold h procedure destination sls other =
    contains-if_may (may_hold h procedure destination sls) h (record { procedure = procedure; destination = destination; sls = sls }) other

pub adds_its_pair : hold_adds_its_pair
adds_its_pair h procedure destination sls may =
    let hold : Hold = record { procedure = procedure; destination = destination; sls = sls } in
    contains-with_hold h procedure destination sls hold
    ∙ ap (λ (b : Bool). (b && eq_by_cmp by_numbers hold hold) || contains h.pairs hold) may
    ∙ ap (λ (b : Bool). b || contains h.pairs hold) (tied-same hold)

pub hold-leaves_others : hold_leaves_others
hold-leaves_others h procedure other destination sls other_destination other_sls apart =
    let hold : Hold = record { procedure = procedure; destination = destination; sls = sls } in
    let second : Hold = record { procedure = other; destination = other_destination; sls = other_sls } in
    contains-with_hold h procedure destination sls second
    ∙ ap (λ (b : Bool). (may_hold h procedure destination sls && b) || contains h.pairs second)
    (untied second hold (λ e. apart (ap (λ (x : Hold). pair x.procedure x.destination x.sls) e)))
    ∙ ap (λ (b : Bool). b || contains h.pairs second) (and-false (may_hold h procedure destination sls))

pub may_not-leaves : may_not_leaves
may_not-leaves h procedure destination sls e =
    ap (λ (b : Bool). if_may b h (record { procedure = procedure; destination = destination; sls = sls })) e

-- what was held stays held
pub keeps_pairs : (h : HoldSet) (procedure other : Procedure) (destination sls other_destination other_sls : ℕ) → holds h other other_destination other_sls ≡ true →
    holds (with_hold h procedure destination sls) other other_destination other_sls ≡ true
keeps_pairs h procedure other destination sls other_destination other_sls e =
    let second : Hold = record { procedure = other; destination = other_destination; sls = other_sls } in
    contains-with_hold h procedure destination sls second
    ∙ or_right (may_hold h procedure destination sls && eq_by_cmp by_numbers second (record { procedure = procedure; destination = destination; sls = sls })) (contains h.pairs second) e

pub holds_its_flow : hold_holds_its_flow
holds_its_flow h procedure destination sls may =
    (held_by (with_hold h procedure destination sls) destination sls).1 (procedure, adds_its_pair h procedure destination sls may)

pub keeps_flows_held : hold_keeps_flows_held
keeps_flows_held h procedure destination sls other_destination other_sls e =
    let found : (other : Procedure) × (holds h other other_destination other_sls ≡ true) = (held_by h other_destination other_sls).0 e in
    (held_by (with_hold h procedure destination sls) other_destination other_sls).1
    (found.0, keeps_pairs h procedure found.0 destination sls other_destination other_sls found.1)

-- ---- links, sets and destinations stay

pub may-still : (h : HoldSet) (procedure : Procedure) (destination sls : ℕ) (other : Procedure) (other_destination other_sls : ℕ) →
    may_hold (with_hold h procedure destination sls) other other_destination other_sls ≡ may_hold h other other_destination other_sls
may-still h procedure destination sls other other_destination other_sls =
    may-alike h (with_hold h procedure destination sls) other other_destination other_sls refl refl refl

of-node-case : (h : HoldSet) (hold other : Hold) (may same : Bool) → IsOfNode h → may_hold h hold.procedure hold.destination hold.sls ≡ may → eq_by_cmp by_numbers other hold ≡ same →
    ((may && same) || contains h.pairs other) ≡ true → may_hold h other.procedure other.destination other.sls ≡ true
of-node-case h hold other true true of_node m s e = ap (λ (x : Hold). may_hold h x.procedure x.destination x.sls) (tied other hold s) ∙ m
of-node-case h hold other true false of_node m s e = of_node.each other e
of-node-case h hold other false same of_node m s e = of_node.each other e

pub hold_of_node : hold_is_of_node
hold_of_node h procedure destination sls of_node =
    let hold : Hold = record { procedure = procedure; destination = destination; sls = sls } in
    record {
      each = λ other e.
          may-still h procedure destination sls other.procedure other.destination other.sls
          ∙ of-node-case h hold other (may_hold h procedure destination sls) (eq_by_cmp by_numbers other hold) of_node refl refl
          (sym (contains-with_hold h procedure destination sls other) ∙ e);
    }
