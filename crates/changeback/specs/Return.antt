-- TCBC, changeback control (Q.704 §6.2 to §6.4): the flows that a link takes over when it enters service, and what
-- holds them.
use Rattle.std.specs.Prelude.{ℕ, zero, suc, Bool, List, [], ◌∷◌, ◌++◌, false, length, nat_eq, slice_index_or, Option, Some, None}
use Rattle.std.specs.List.{list_any}
use Rattle.routes.specs.Routes.{Facts, chosen_link}
use Rattle.flow_hold.specs.declared.procedure.Procedure.{Procedure}
use Rattle.signalling_types.specs.declared.limits.TheConstants.Limits.{SELECTIONS}
use Rattle.flow_hold.specs.Holds.{HoldSet, with_hold}
use Rattle.node_links.specs.FormerLink.{former_link}

-- a flow that changes its link: its destination, its selection, and the link that it comes from
pub record FlowChange : Type 0 where
  pub destination : ℕ
  pub sls : ℕ
  pub from : ℕ

-- the change of a flow that comes from this link, if it comes from one
abbrev pub change_from : (destination sls : ℕ) → Option ℕ → List FlowChange
change_from destination sls (Some from) = record { destination = destination; sls = sls; from = from } ∷ []
change_from destination sls None = []

module _ (to : ℕ) (before after : Facts) where
  -- the link from which a link takes a flow over
  abbrev pub former_link_of : (destination sls : ℕ) → Option ℕ
  former_link_of destination sls =
      former_link to (chosen_link before destination sls) (chosen_link after destination sls)

  -- the flows of the first n selections to a destination that it takes over, in order
  unfoldable pub changes_of : (destination count : ℕ) → List FlowChange
  changes_of destination zero = []
  changes_of destination (suc count) =
      changes_of destination count ++ change_from destination count (former_link_of destination count)

  -- and those to the first n destinations
  unfoldable pub changes : (count : ℕ) → List FlowChange
  changes zero = []
  changes (suc count) = changes count ++ changes_of count SELECTIONS

  -- all flows that it takes over
  abbrev pub returned : List FlowChange
  returned = changes (length after.routes)

-- whether this is the link that a flow comes from, if it comes from one
abbrev pub comes_from : Option ℕ → (other : ℕ) → Bool
comes_from (Some from) other = nat_eq from other
comes_from None other = false

-- whether some flow comes from a link
abbrev pub gives_up : List FlowChange → (other : ℕ) → Bool
gives_up cs other = list_any (λ c. nat_eq c.from other) cs

-- a flow is held if its former link has a holder
abbrev pub with_change : HoldSet → FlowChange → Option Procedure → HoldSet
with_change h c (Some procedure) = with_hold h procedure c.destination c.sls
with_change h c None = h

-- each flow is held by the holder of its former link, if it has one
abbrev pub held_by : (holders : List (Option Procedure)) → List FlowChange → HoldSet → HoldSet
held_by holders [] h = h
held_by holders (c ∷ cs) h = held_by holders cs (with_change h c (slice_index_or holders c.from None))
