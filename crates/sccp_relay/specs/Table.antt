-- What the table of the code keeps.
use Rattle.std.specs.Prelude.{◌≡◌, ◌≤◌, length, All}
use Rattle.sccp_relay.specs.Nodes.{stored}
use Rattle.signalling_types.specs.declared.limits.TheConstants.Limits.{TITLES}
use Rattle.sccp_relay.specs.Rows.{IsOrdered}
use Rattle.sccp_relay.specs.Ways.{IsRow, leads_of}
use Rattle.sccp_relay.specs.declared.translations.Translations.TheInside.{Inside}

pub record IsTable (table : Inside) : Type 0 where
  pub ordered : IsOrdered table.rows.items
  pub fits : length table.rows.items ≤ TITLES
  pub rows : All IsRow table.rows.items
  pub leads : stored table.trie ≡ leads_of table.rows.items
