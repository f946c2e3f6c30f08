use Rattle.sccp_relay.proofs.Basics.{◌≤◌, length, sym, ◌∙◌, arith, le-ltb}
use Rattle.sccp_relay.proofs.KeyRows.{any-at, none-at-end}
use Rattle.sccp_relay.proofs.places.has_key.Goals as goal

pub returns-then-at-rows : goal.returns-then-at-rows
returns-then-at-rows c =
    c.is_of_key.ensures
    ∙ any-at c.args.key c.args.rows.now c.count_before-at.result c.index-rows-at.result c.requires c.count_before-at.ensures.split c.if-at-rows.true c.index-rows-at.is

pub returns-else-at-rows : goal.returns-else-at-rows
returns-else-at-rows c =
    let end : length c.args.rows.now ≤ c.count_before-at.result = omega (arith, c.if-at-rows.false) in
    le-ltb _ _ end ∙ sym (none-at-end c.args.key c.args.rows.now c.count_before-at.result c.count_before-at.ensures.split end)
