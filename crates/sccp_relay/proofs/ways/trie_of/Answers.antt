use Rattle.sccp_relay.proofs.Basics.{◌≡◌, ap, sym, ◌∙◌, arith, false, is_err, DigitMap, with_value, way_of, lead_of}
use Rattle.sccp_relay.proofs.RowWays.{on_ok, leads-pushed, all-more}
use Rattle.sccp_relay.proofs.ways.trie_of.Goals as goal

pub loop-row-init : goal.loop-row-init
loop-row-init c = (c.new-trie.ensures, λ k d lt. absurd (omega (arith, lt)))

pub loop-row-preserved : goal.loop-row-preserved
loop-row-preserved c =
    let row = c.row-item.result in
    let ok : is_err c.enter.result ≡ false = sym c.is_err.ensures.value ∙ c.if-is_err.false in
    let inv = c.loop-row.invariant in (
      on_ok c.enter.result ok c.enter.ensures.entered
          ∙ ap (λ (map : DigitMap). with_value map (way_of row) (lead_of row)) inv.0
          ∙ sym (leads-pushed c.args.rows.now c.loop-row.row-index row c.loop-row-test.true c.row-item.is
          (sym (ap (λ (map : DigitMap). map (way_of row)) inv.0) ∙ on_ok c.enter.result ok c.enter.ensures.free)),
      all-more c.args.rows.now c.loop-row.row-index row c.loop-row-test.true c.row-item.is inv.1 c.enter.ensures.row,
    )
