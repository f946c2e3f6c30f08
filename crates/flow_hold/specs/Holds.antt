-- The holds of TCOC, TCBC and TCRC (Q.704 §5.4, §6.3, §8.2): a set of pairs of a procedure and a flow.
use Rattle.std.specs.Prelude.{ℕ, Bool, ◌&&◌, not, List, [], ◌∷◌, nat_eq, nat_lt, if◌then◌else◌, map}
use Rattle.std.specs.List.{list_any, filter, flat_map, range_with_len}
use Rattle.std.specs.declared.cmp.Ordering.{Ordering}
use Rattle.std.specs.Ordering.{nat_cmp, on}
use Rattle.std.specs.Cmp.Lexicographic.{slice_cmp, pointwise}
use Rattle.std.specs.FinSet.{FinSet, empty, contains, insert, retain, items}
use Rattle.signalling_types.specs.declared.limits.TheConstants.Limits.{CHANGEBACK_CODES, SELECTIONS}
use Rattle.flow_hold.specs.declared.procedure.Procedure.{Procedure}
use Rattle.flow_hold.specs.declared.procedure.Procedure.TheVariants.{Changeover, Code, Time, Reroute}

-- a pair: a procedure holds the flow to a destination, by its index in the settings, with a selection
pub record Hold : Type 0 where
  pub procedure : Procedure
  pub destination : ℕ
  pub sls : ℕ

-- a procedure as numbers: which kind it is, and of which link, of which set and code, or of which destination
abbrev pub numbers_of : Procedure → List ℕ
numbers_of (Changeover link) = 0 ∷ link ∷ []
numbers_of (Code set code) = 1 ∷ set ∷ code ∷ []
numbers_of (Time link) = 2 ∷ link ∷ []
numbers_of (Reroute destination) = 3 ∷ destination ∷ []

-- a pair as numbers
abbrev pub hold_numbers : Hold → List ℕ
hold_numbers hold = hold.destination ∷ hold.sls ∷ numbers_of hold.procedure

-- the order in which a set has its pairs
abbrev pub by_numbers : Hold → Hold → Ordering
by_numbers = on hold_numbers (slice_cmp nat_cmp)

-- how many links, sets and destinations the node has, and which procedure holds which flow
pub record HoldSet : Type 0 where
  pub links : ℕ
  pub sets : ℕ
  pub destinations : ℕ
  pub pairs : FinSet by_numbers

-- ---- what is held

-- whether a procedure holds a flow
abbrev pub holds : HoldSet → Procedure → (destination sls : ℕ) → Bool
holds h procedure destination sls =
    contains h.pairs (record { procedure = procedure; destination = destination; sls = sls })

-- whether a pair is one of this flow
abbrev pub is_of_flow : (destination sls : ℕ) → Hold → Bool
is_of_flow destination sls hold = nat_eq hold.destination destination && nat_eq hold.sls sls

-- whether some procedure holds a flow
abbrev pub is_held : HoldSet → (destination sls : ℕ) → Bool
is_held h destination sls = list_any (is_of_flow destination sls) (items h.pairs)

-- ---- how they begin and change

-- at first nothing is held
abbrev pub no_holds : (links sets destinations : ℕ) → HoldSet
no_holds links sets destinations = record { links = links; sets = sets; destinations = destinations; pairs = empty }

-- whether a procedure is there and may hold flows to a destination: a rerouting holds only those to its own
abbrev pub may_hold_to : HoldSet → Procedure → (destination : ℕ) → Bool
may_hold_to h (Changeover link) destination = nat_lt link h.links
may_hold_to h (Code set code) destination = nat_lt set h.sets && nat_lt code CHANGEBACK_CODES
may_hold_to h (Time link) destination = nat_lt link h.links
may_hold_to h (Reroute rerouted) destination = nat_eq rerouted destination

-- whether a procedure may hold a flow, and both are there
abbrev pub may_hold : HoldSet → Procedure → (destination sls : ℕ) → Bool
may_hold h procedure destination sls =
    may_hold_to h procedure destination && (nat_lt destination h.destinations && nat_lt sls SELECTIONS)

-- a procedure holds a flow from now on, if it may
abbrev pub with_hold : HoldSet → Procedure → (destination sls : ℕ) → HoldSet
with_hold h procedure destination sls = record h {
  pairs =
      if may_hold h procedure destination sls
      then insert h.pairs (record { procedure = procedure; destination = destination; sls = sls })
      else h.pairs;
}

-- whether two procedures are the same
abbrev pub is_same : Procedure → Procedure → Bool
is_same one other = pointwise nat_eq (numbers_of one) (numbers_of other)

-- a procedure holds nothing from now on; what others hold stays
abbrev pub lifted : HoldSet → Procedure → HoldSet
lifted h procedure = record h { pairs = retain h.pairs (λ hold. not (is_same hold.procedure procedure)) }

-- ---- The flows of a node, and a hold of all for which a test holds.

-- a flow of a node: its destination, by its index in the settings, and its selection
pub record NodeFlow : Type 0 where
  pub destination : ℕ
  pub sls : ℕ

abbrev pub flows_to : (destination : ℕ) → List NodeFlow
flows_to destination = map (λ sls. record { destination = destination; sls = sls }) (range_with_len 0 SELECTIONS)

-- the flows of a node with this many destinations
unfoldable pub flows : (destinations : ℕ) → List NodeFlow
flows destinations = flat_map flows_to (range_with_len 0 destinations)

-- whether a test holds for a flow
abbrev pub passes : (test : (destination sls : ℕ) → Bool) → NodeFlow → Bool
passes test flow = test flow.destination flow.sls

-- whether it holds for some flow
unfoldable pub any_flow : (destinations : ℕ) → (test : (destination sls : ℕ) → Bool) → Bool
any_flow destinations test = list_any (passes test) (flows destinations)

-- a procedure holds each of these flows from now on, if it may
abbrev pub with_each : Procedure → List NodeFlow → HoldSet → HoldSet
with_each procedure [] h = h
with_each procedure (flow ∷ others) h =
    with_each procedure others (with_hold h procedure flow.destination flow.sls)

-- a procedure holds each flow for which a test holds from now on, if it may
unfoldable pub with_flows : HoldSet → Procedure → (test : (destination sls : ℕ) → Bool) → HoldSet
with_flows h procedure test = with_each procedure (filter (passes test) (flows h.destinations)) h
