use Rattle.sccp_relay.proofs.Basics.{ap, sym, ◌∙◌, arith, is_eq, place_of}
use Rattle.sccp_relay.proofs.RowOrder.{stands-at, fits-at, fits-end}
use Rattle.sccp_relay.proofs.places.place.Goals as goal

pub returns-then-at-rows-clause-free : goal.returns-then-at-rows-clause-free
returns-then-at-rows-clause-free c =
    fits-end (place_of c.args.key c.args.digits.now) c.args.rows.now c.count_before-at.result c.requires c.count_before-at.ensures.split (omega arith)

pub returns-then-is_eq-clause-found : goal.returns-then-is_eq-clause-found
returns-then-is_eq-clause-found c =
    stands-at (place_of c.args.key c.args.digits.now) c.args.rows.now c.count_before-at.result c.index-rows-at.result c.requires c.count_before-at.ensures.split (omega arith)
    c.index-rows-at.is (ap is_eq (sym c.order.ensures) ∙ sym c.is_eq.ensures ∙ c.if-is_eq.true)

pub returns-else-is_eq-clause-free : goal.returns-else-is_eq-clause-free
returns-else-is_eq-clause-free c =
    fits-at (place_of c.args.key c.args.digits.now) c.args.rows.now c.count_before-at.result c.index-rows-at.result c.requires c.count_before-at.ensures.split (omega arith)
    c.index-rows-at.is (ap is_eq (sym c.order.ensures) ∙ sym c.is_eq.ensures ∙ c.if-is_eq.false)
