use Rattle.sccp_relay.proofs.Basics.{◌≡◌, rules, always_returns_same, ranks_by, is_lt, row_place}
use Rattle.sccp_relay.proofs.RowOrder.{total}
use Rattle.sccp_relay.proofs.SortedRows.{comes_first, sorted-table}
use Rattle.sccp_relay.proofs.places.sort.Goals as goal

pub returns-clause-table : goal.returns-clause-table
returns-clause-table c =
    sorted-table c.args.rows.now.items c.sort_unstable_by.new.self.items c.requires c.sort_unstable_by.ensures.permutation
    (c.sort_unstable_by.ensures.sorted comes_first (ranks_by total row_place) (always_returns_same _ (λ a r. is_lt r ≡ comes_first a.0.now a.1.0.now) _ (λ a r f k. search rules)))
