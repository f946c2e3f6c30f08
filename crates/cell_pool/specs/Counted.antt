-- How the messages of a store are counted.
use Rattle.signalling_types.specs.declared.limits.TheConstants.Limits.{MANAGEMENT_MESSAGES}
use Rattle.std.specs.Prelude.{◌≡◌, ◌+◌, ◌≤◌}
use Rattle.cell_pool.specs.Lanes.{users, managements}
use Rattle.cell_pool.specs.Stored.{Stored}
use Rattle.cell_pool.specs.declared.linked_pool.CellPool.TheInside.{Inside}

abbrev pub stored_in : Inside → Stored
stored_in s = record { lists = s.lists.lists; pool = s.pool }

-- the counts are those of all lists, neither is above its limit, and there is a cell for each message that may be
pub record IsCounted (s : Inside) : Type 0 where
  pub users : s.users ≡ users s.lists.lists
  pub managements : s.managements ≡ managements s.lists.lists
  pub few_users : s.users ≤ s.pool
  pub few_managements : s.managements ≤ MANAGEMENT_MESSAGES
  pub cells : s.lists.cells ≡ s.pool + MANAGEMENT_MESSAGES
