-- A hold of all flows for which a test holds adds their pairs, and no other.
use Rattle.flow_hold.proofs.Basics.{◌≡◌, ◌≢◌, ℕ, zero, suc, ◌+◌, ◌<◌, ◌≤◌, Bool, true, false, ◌&&◌, ◌||◌, cond, List, [], ◌∷◌, map, refl, ap, sym, ◌∙◌, arith, filter, flat_map, list_any, range_with_len, eq_by_cmp, FinSet, contains, same_set, and_parts, cases_eq, list_any-append, Procedure, SELECTIONS, Hold, HoldSet, by_numbers, holds, may_hold, with_hold, NodeFlow, flows_to, flows, passes, any_flow, with_each, with_flows, IsOfNode, some_flow_passes, flows_add_their_pairs, flows_leave_others, flows_are_of_node, or_right, or_left, and_from, both_ways}
use Rattle.std.proofs.Math.Logic.{⊎_elim}
use Rattle.flow_hold.proofs.Numbers.{in_order, only_same_tie, tied, tied-same, untied}
use Rattle.flow_hold.proofs.Holding.{MayHold, may_parts, contains-with_hold, may-still, hold_of_node}

or-swap : (a b c : Bool) → (a || (b || c)) ≡ ((b || a) || c)
or-swap true true c = refl
or-swap true false c = refl
or-swap false true c = refl
or-swap false false c = refl

-- ---- numbers of a range

-- a number of a range of which a test is true
record IsInRange (test : ℕ → Bool) (from count : ℕ) : Type 0 where
  pub number : ℕ
  pub least : from ≤ number
  pub below : number < from + count
  pub passing : test number ≡ true

in-range-case : (test : ℕ → Bool) (from count : ℕ) (b : Bool) → test from ≡ b → (b || list_any test (range_with_len (from + 1) count)) ≡ true →
    (list_any test (range_with_len (from + 1) count) ≡ true → IsInRange test (from + 1) count) → IsInRange test from (suc count)
in-range-case test from count true here e rest = record { number = from; least = omega arith; below = omega arith; passing = here }
in-range-case test from count false here e rest =
    let found : IsInRange test (from + 1) count = rest e in
    record { number = found.number; least = omega (arith, found.least); below = omega (arith, found.below); passing = found.passing }

in-range : (test : ℕ → Bool) (from count : ℕ) → list_any test (range_with_len from count) ≡ true → IsInRange test from count
in-range test from zero e = absurd cc
in-range test from (suc count) e = in-range-case test from count (test from) refl e (in-range test (from + 1) count)

any-in-range : (test : ℕ → Bool) (from count number : ℕ) → from ≤ number → number < from + count → test number ≡ true → list_any test (range_with_len from count) ≡ true
any-in-range test from zero number least below e = absurd (omega (arith, least, below))
any-in-range test from (suc count) number least below e =
    ⊎_elim
    (λ (same : number ≡ from). or_left (test from) (list_any test (range_with_len (from + 1) count)) (ap test (sym same) ∙ e))
    (λ (apart : number ≢ from). or_right (test from) (list_any test (range_with_len (from + 1) count))
    (any-in-range test (from + 1) count number (omega (arith, least, apart)) (omega (arith, below)) e))
    (cases_eq number from)

-- ---- flows of a node

any-to : (test : NodeFlow → Bool) (destination : ℕ) (numbers : List ℕ) →
    list_any test (map (λ sls. record { destination = destination; sls = sls }) numbers) ≡ list_any (λ sls. test (record { destination = destination; sls = sls })) numbers
any-to test destination [] = refl
any-to test destination (n ∷ ns) = ap (λ (b : Bool). test (record { destination = destination; sls = n }) || b) (any-to test destination ns)

any-of : (test : NodeFlow → Bool) (numbers : List ℕ) → list_any test (flat_map flows_to numbers) ≡ list_any (λ destination. list_any test (flows_to destination)) numbers
any-of test [] = refl
any-of test (n ∷ ns) =
    list_any-append test (flows_to n) (flat_map flows_to ns) ∙ ap (λ (b : Bool). list_any test (flows_to n) || b) (any-of test ns)

-- a flow that is there, of which a test is true
pub record IsThere (destinations : ℕ) (test : NodeFlow → Bool) : Type 0 where
  pub flow : NodeFlow
  pub there : flow.destination < destinations
  pub selection : flow.sls < SELECTIONS
  pub passing : test flow ≡ true

pub found_flow : (destinations : ℕ) (test : NodeFlow → Bool) → list_any test (flows destinations) ≡ true → IsThere destinations test
unfolding flows
found_flow destinations test e =
    let place : IsInRange (λ destination. list_any test (flows_to destination)) 0 destinations =
    in-range (λ destination. list_any test (flows_to destination)) 0 destinations (sym (any-of test (range_with_len 0 destinations)) ∙ e) in
    let one : IsInRange (λ sls. test (record { destination = place.number; sls = sls })) 0 SELECTIONS =
    in-range (λ sls. test (record { destination = place.number; sls = sls })) 0 SELECTIONS (sym (any-to test place.number (range_with_len 0 SELECTIONS)) ∙ place.passing) in
    record {
      flow = record { destination = place.number; sls = one.number };
      there = omega (arith, place.below);
      selection = omega (arith, one.below);
      passing = one.passing;
    }

pub flow_there : (destinations : ℕ) (test : NodeFlow → Bool) (flow : NodeFlow) → flow.destination < destinations → flow.sls < SELECTIONS → test flow ≡ true →
    list_any test (flows destinations) ≡ true
unfolding flows
flow_there destinations test flow there few e =
    any-of test (range_with_len 0 destinations)
    ∙ any-in-range (λ destination. list_any test (flows_to destination)) 0 destinations flow.destination (omega arith) (omega (arith, there))
    (any-to test flow.destination (range_with_len 0 SELECTIONS)
    ∙ any-in-range (λ sls. test (record { destination = flow.destination; sls = sls })) 0 SELECTIONS flow.sls (omega arith) (omega (arith, few)) e)

pub some_passes : some_flow_passes
unfolding any_flow
some_passes destinations test = (
  (λ e.
      let found : IsThere destinations (passes test) = found_flow destinations (passes test) e in
      record { flow = found.flow; there = found.there; selection = found.selection; passing = found.passing }),
  (λ is. flow_there destinations (passes test) is.flow is.there is.selection is.passing),
)

-- ---- the pairs after a hold of several flows

-- whether a pair is that of a flow with a procedure that may hold it
abbrev is_added : HoldSet → Procedure → Hold → NodeFlow → Bool
is_added h procedure other flow =
    may_hold h procedure flow.destination flow.sls
    && eq_by_cmp by_numbers other (record { procedure = procedure; destination = flow.destination; sls = flow.sls })

added-alike : (h : HoldSet) (procedure : Procedure) (first : NodeFlow) (other : Hold) (others : List NodeFlow) →
    list_any (is_added (with_hold h procedure first.destination first.sls) procedure other) others ≡ list_any (is_added h procedure other) others
added-alike h procedure first other [] = refl
added-alike h procedure first other (flow ∷ flows) =
    ap (λ (b : Bool). (b && eq_by_cmp by_numbers other (record { procedure = procedure; destination = flow.destination; sls = flow.sls }))
    || list_any (is_added (with_hold h procedure first.destination first.sls) procedure other) flows)
    (may-still h procedure first.destination first.sls procedure flow.destination flow.sls)
    ∙ ap (λ (b : Bool). is_added h procedure other flow || b) (added-alike h procedure first other flows)

contains-with_each : (h : HoldSet) (procedure : Procedure) (fs : List NodeFlow) (other : Hold) →
    contains (with_each procedure fs h).pairs other ≡ (list_any (is_added h procedure other) fs || contains h.pairs other)
contains-with_each h procedure [] other = refl
contains-with_each h procedure (flow ∷ fs) other =
    contains-with_each (with_hold h procedure flow.destination flow.sls) procedure fs other
    ∙ ap (λ (b : Bool). b || contains (with_hold h procedure flow.destination flow.sls).pairs other) (added-alike h procedure flow other fs)
    ∙ ap (λ (b : Bool). list_any (is_added h procedure other) fs || b) (contains-with_hold h procedure flow.destination flow.sls other)
    ∙ or-swap (list_any (is_added h procedure other) fs) (is_added h procedure other flow) (contains h.pairs other)

any-filter-case : (b : Bool) (test : NodeFlow → Bool) (x : NodeFlow) (kept : List NodeFlow) (rest : Bool) → list_any test kept ≡ rest →
    list_any test (cond b (x ∷ kept) kept) ≡ ((b && test x) || rest)
any-filter-case true test x kept rest e = ap (λ (b : Bool). test x || b) e
any-filter-case false test x kept rest e = e

any-filter : (keeps test : NodeFlow → Bool) (xs : List NodeFlow) → list_any test (filter keeps xs) ≡ list_any (λ f. keeps f && test f) xs
any-filter keeps test [] = refl
any-filter keeps test (x ∷ xs) = any-filter-case (keeps x) test x (filter keeps xs) (list_any (λ f. keeps f && test f) xs) (any-filter keeps test xs)

-- whether a pair is added by a hold of all flows of which a test is true
contains-with_flows : (h : HoldSet) (procedure : Procedure) (test : ℕ → ℕ → Bool) (other : Hold) →
    contains (with_flows h procedure test).pairs other
    ≡ (list_any (λ f. passes test f && is_added h procedure other f) (flows h.destinations) || contains h.pairs other)
unfolding with_flows
contains-with_flows h procedure test other =
    contains-with_each h procedure (filter (passes test) (flows h.destinations)) other
    ∙ ap (λ (b : Bool). b || contains h.pairs other) (any-filter (passes test) (is_added h procedure other) (flows h.destinations))

added-own : (h : HoldSet) (procedure : Procedure) (test : ℕ → ℕ → Bool) (destination sls : ℕ) →
    list_any (λ f. passes test f && is_added h procedure (record { procedure = procedure; destination = destination; sls = sls }) f) (flows h.destinations)
    ≡ (may_hold h procedure destination sls && test destination sls)
added-own h procedure test destination sls =
    let hold : Hold = record { procedure = procedure; destination = destination; sls = sls } in
    let one : NodeFlow = record { destination = destination; sls = sls } in
    let added : NodeFlow → Bool = λ f. passes test f && is_added h procedure hold f in
    both_ways (list_any added (flows h.destinations)) (may_hold h procedure destination sls && test destination sls)
    (λ e.
    let found : IsThere h.destinations added = found_flow h.destinations added e in
    let parts : (passes test found.flow ≡ true) × (is_added h procedure hold found.flow ≡ true) = and_parts (passes test found.flow) (is_added h procedure hold found.flow) found.passing in
    let pair : Hold = record { procedure = procedure; destination = found.flow.destination; sls = found.flow.sls } in
    let more : (may_hold h procedure found.flow.destination found.flow.sls ≡ true) × (eq_by_cmp by_numbers hold pair ≡ true) =
    and_parts (may_hold h procedure found.flow.destination found.flow.sls) (eq_by_cmp by_numbers hold pair) parts.1 in
    let same : hold ≡ pair = tied hold pair more.1 in
    ap (λ (x : Hold). may_hold h procedure x.destination x.sls && test x.destination x.sls) same
    ∙ and_from (may_hold h procedure found.flow.destination found.flow.sls) (test found.flow.destination found.flow.sls) more.0 parts.0)
    (λ e.
    let parts : (may_hold h procedure destination sls ≡ true) × (test destination sls ≡ true) = and_parts (may_hold h procedure destination sls) (test destination sls) e in
    let may : MayHold h procedure destination sls = may_parts h procedure destination sls parts.0 in
    flow_there h.destinations added one may.there may.few
    (and_from (test destination sls) (is_added h procedure hold one) parts.1 (and_from (may_hold h procedure destination sls) (eq_by_cmp by_numbers hold hold) parts.0 (tied-same hold))))

pub flows_add : flows_add_their_pairs
flows_add h procedure test destination sls =
    let hold : Hold = record { procedure = procedure; destination = destination; sls = sls } in
    contains-with_flows h procedure test hold
    ∙ ap (λ (b : Bool). b || contains h.pairs hold) (added-own h procedure test destination sls)

none-added : (h : HoldSet) (procedure : Procedure) (test : ℕ → ℕ → Bool) (other : Hold) → other.procedure ≢ procedure →
    (fs : List NodeFlow) → list_any (λ f. passes test f && is_added h procedure other f) fs ≡ false
none-added h procedure test other apart [] = refl
none-added h procedure test other apart (f ∷ fs) =
    let pair : Hold = record { procedure = procedure; destination = f.destination; sls = f.sls } in
    let no : eq_by_cmp by_numbers other pair ≡ false = untied other pair (λ e. apart (ap (λ (x : Hold). x.procedure) e)) in
    ap (λ (b : Bool). (passes test f && (may_hold h procedure f.destination f.sls && b)) || list_any (λ f. passes test f && is_added h procedure other f) fs) no
    ∙ neither (passes test f) (may_hold h procedure f.destination f.sls) (list_any (λ f. passes test f && is_added h procedure other f) fs) (none-added h procedure test other apart fs)
  where
    neither : (a b c : Bool) → c ≡ false → ((a && (b && false)) || c) ≡ false
    neither true true c e = e
    neither true false c e = e
    neither false b c e = e

pub flows_leave : flows_leave_others
flows_leave h procedure other test destination sls apart =
    let hold : Hold = record { procedure = other; destination = destination; sls = sls } in
    contains-with_flows h procedure test hold
    ∙ ap (λ (b : Bool). b || contains h.pairs hold) (none-added h procedure test hold apart (flows h.destinations))

-- ---- links, sets and destinations stay

-- a set of the same links, sets and destinations as another
pub record IsSameNode (k h : HoldSet) : Type 0 where
  pub links : k.links ≡ h.links
  pub sets : k.sets ≡ h.sets
  pub destinations : k.destinations ≡ h.destinations

each-same_node : (procedure : Procedure) (fs : List NodeFlow) (h : HoldSet) → IsSameNode (with_each procedure fs h) h
each-same_node procedure [] h = record { links = refl; sets = refl; destinations = refl }
each-same_node procedure (f ∷ fs) h =
    let rest : IsSameNode (with_each procedure fs (with_hold h procedure f.destination f.sls)) (with_hold h procedure f.destination f.sls) =
    each-same_node procedure fs (with_hold h procedure f.destination f.sls) in
    record { links = rest.links; sets = rest.sets; destinations = rest.destinations }

pub flows-same_node : (h : HoldSet) (procedure : Procedure) (test : ℕ → ℕ → Bool) → IsSameNode (with_flows h procedure test) h
unfolding with_flows
flows-same_node h procedure test = each-same_node procedure (filter (passes test) (flows h.destinations)) h

each-of_node : (procedure : Procedure) (fs : List NodeFlow) (h : HoldSet) → IsOfNode h → IsOfNode (with_each procedure fs h)
each-of_node procedure [] h of_node = of_node
each-of_node procedure (f ∷ fs) h of_node =
    each-of_node procedure fs (with_hold h procedure f.destination f.sls) (hold_of_node h procedure f.destination f.sls of_node)

pub flows_of_node : flows_are_of_node
unfolding with_flows
flows_of_node h procedure test of_node = each-of_node procedure (filter (passes test) (flows h.destinations)) h of_node

-- two sets of the same node that have the same pairs are the same
pub same_holds : (k h : HoldSet) → IsSameNode k h → ((procedure : Procedure) (destination sls : ℕ) → holds k procedure destination sls ≡ holds h procedure destination sls) → k ≡ h
same_holds k h node alike =
    ap (λ (n : ℕ). record { links = n; sets = k.sets; destinations = k.destinations; pairs = k.pairs }) node.links
    ∙ ap (λ (n : ℕ). record { links = h.links; sets = n; destinations = k.destinations; pairs = k.pairs }) node.sets
    ∙ ap (λ (n : ℕ). record { links = h.links; sets = h.sets; destinations = n; pairs = k.pairs }) node.destinations
    ∙ ap (λ (xs : FinSet by_numbers). record { links = h.links; sets = h.sets; destinations = h.destinations; pairs = xs })
    (same_set in_order only_same_tie k.pairs h.pairs (λ hold. alike hold.procedure hold.destination hold.sls))
