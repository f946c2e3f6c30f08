use Rattle.sccp_relay.proofs.Basics.{rules, IsPartitionPoint-from_clause, is_before, place_of}
use Rattle.sccp_relay.proofs.RowOrder.{partitioned}
use Rattle.sccp_relay.proofs.places.count_before.Goals as goal

pub returns-clause-split : goal.returns-clause-split
returns-clause-split c =
    IsPartitionPoint-from_clause (is_before (place_of c.args.key c.args.digits.now)) c.args.rows.now c.partition_point.result c.partition_point.ensures.partitioned
    (partitioned (place_of c.args.key c.args.digits.now) c.args.rows.now c.requires) (λ a r f e. search rules)
