-- How the code takes flows back: it begins the hold of each link that loses some, notes which procedure that is, and
-- then walks all flows once.
use Rattle.std.specs.Prelude.{ℕ, zero, suc, Bool, List, length, replicate, Option, Some, None, if◌then◌else◌, slice_set}
use Rattle.settings.specs.Configuration.{Configuration}
use Rattle.signalling_types.specs.declared.limits.TheConstants.Limits.{LINKS}
use Rattle.routes.specs.Routes.{Facts}
use Rattle.flow_hold.specs.declared.procedure.Procedure.{Procedure}
use Rattle.changeback.specs.Return.{FlowChange, returned, gives_up, held_by}
use Rattle.exchange_rules.specs.State.{QueueKind, Node, with_parts}
use Rattle.exchange_rules.specs.Routing.{facts}
use Rattle.exchange_rules.specs.ChangingBack.{procedure_by, code_for, declare_by}

module _ {Q : Type 0} (q : QueueKind Q) (c : Configuration) where
  -- a link takes over flows from the others that lose some
  module _ (link : ℕ) (loses : ℕ → Bool) where
    -- what holds the flows that come from another link, if any come
    abbrev pub holder : (other : ℕ) → Node Q → Option Procedure
    holder other node = if loses other then Some (procedure_by c link (code_for q c link other node)) else None

    -- and what begins that hold
    abbrev pub declare : (other : ℕ) → Node Q → Node Q
    declare other node = if loses other then declare_by q c (code_for q c link other node) link other node else node

    -- the first n links, in order
    unfoldable pub declare_each : ℕ → Node Q → Node Q
    declare_each zero node = node
    declare_each (suc other) node = declare other (declare_each other node)

    -- for each of the first n links, what holds the flows that come from it
    unfoldable pub holders : ℕ → Node Q → List (Option Procedure)
    holders zero node = replicate LINKS None
    holders (suc other) node = slice_set (holders other node) other (holder other (declare_each other node))

  -- each flow that comes from another link is held by the procedure of that link
  abbrev pub take_over_flows : (link : ℕ) → List FlowChange → Node Q → Node Q
  take_over_flows link changes node =
      let begun : Node Q = declare_each link (gives_up changes) (length c.links) node in
      with_parts begun (record begun.parts {
        holds = held_by (holders link (gives_up changes) (length c.links) node) changes begun.parts.holds;
      })

  -- a link takes over the flows that went by other links before
  abbrev pub take_over : (link : ℕ) → (before : Facts) → Node Q → Node Q
  take_over link before node = take_over_flows link (returned link before (facts c node.parts)) node
