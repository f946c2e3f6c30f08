-- What an order that sets a translation row does: laws (Q.714 §2.4).
use Rattle.std.specs.Prelude.{◌≡◌, ◌≢◌, ◌+◌, ℕ, Bool, true, false, if◌then◌else◌, List, [], ◌∷◌, length, Ok}
use Rattle.std.specs.declared.cmp.Ordering.TheVariants.{Equal}
use Rattle.signalling_types.specs.declared.outcome.Outcome.TheVariants.{Handled}
use Rattle.settings.specs.Configuration.{Configuration, TitleEntry}
use Rattle.sccp_relay.specs.Laws.{rows_at}
use Rattle.sccp_relay.specs.Rows.{IsOrdered, has_row, key_of, place_order, row_place}
use Rattle.sccp_relay.specs.Translation.{translation}
use Rattle.exchange_rules.specs.Exchange.{after, handle_event, outcome_of}
use Rattle.exchange_rules.specs.First.{Abstract}
use Rattle.exchange_rules.specs.Queues.{WholeQueues, whole}
use Rattle.exchange_rules.specs.State.{Done, Node, TitleAdded, TitleRemoved, TitleSet}

-- ---- the rows after it

-- rows in which one was set: its digits lead by it, every other place has the row that it had, and there is one row
-- more only if none was at its place
pub record IsSet (row : TitleEntry) (old new : List TitleEntry) : Type 0 where
  pub leads : translation new (key_of row) row.digits ≡ Ok row
  pub own : rows_at (row_place row) new ≡ row ∷ []
  pub others : (place : List ℕ) → place_order (row_place row) place ≢ Equal → rows_at place new ≡ rows_at place old
  pub count : length new ≡ (if has_row old (row_place row) then length old else length old + 1)

abbrev pub set_rows_lead : Type 0
set_rows_lead =
    (row : TitleEntry) (is_memory_refused : Bool) (a : Abstract) → IsOrdered a.node.parts.titles.rows →
    outcome_of whole (TitleSet row is_memory_refused) a ≡ Handled →
    IsSet row a.node.parts.titles.rows (after whole (TitleSet row is_memory_refused) a).node.parts.titles.rows

-- ---- which are set

-- a row replaces the one of its key and digits, however many rows there are, and whatever memory there is
abbrev pub rows_that_are_there_are_replaced : Type 0
rows_that_are_there_are_replaced =
    (row : TitleEntry) (is_memory_refused : Bool) (a : Abstract) →
    has_row a.node.parts.titles.rows (row_place row) ≡ true →
    outcome_of whole (TitleSet row is_memory_refused) a ≡ Handled

-- if there is none, all is as if it were added
abbrev pub others_are_added : Type 0
others_are_added =
    (c : Configuration) (row : TitleEntry) (is_memory_refused : Bool) (node : Node WholeQueues) →
    has_row node.parts.titles.rows (row_place row) ≡ false →
    handle_event whole c (TitleSet row is_memory_refused) node
    ≡ handle_event whole c (TitleAdded row is_memory_refused) node

-- ---- it is one event for two

-- what removing the row of this row's key and digits does, and what adding this one then does
abbrev pub removed : Configuration → TitleEntry → Node WholeQueues → Done WholeQueues
removed c row node = handle_event whole c (TitleRemoved (key_of row) row.digits) node

abbrev pub removed_and_added : Configuration → TitleEntry → (is_memory_refused : Bool) → Node WholeQueues
    → Done WholeQueues
removed_and_added c row is_memory_refused node =
    handle_event whole c (TitleAdded row is_memory_refused) (removed c row node).left

-- where both are done, setting the row does the same
abbrev pub setting_removes_and_adds : Type 0
setting_removes_and_adds =
    (c : Configuration) (row : TitleEntry) (is_memory_refused : Bool) (node : Node WholeQueues) →
    (removed c row node).outcome ≡ Handled →
    (removed_and_added c row is_memory_refused node).outcome ≡ Handled →
    handle_event whole c (TitleSet row is_memory_refused) node ≡ removed_and_added c row is_memory_refused node
