use Rattle.std.proofs.Common.{sym, ap}
use Rattle.sctp_codec.specs.Values.{blocks_of}
use Rattle.sctp_sending.specs.Sending.{Naming}
use Rattle.sctp_sending.proofs.Naming.{unnamed_by}
use Rattle.sctp_sending.proofs.outbox.Outbox.name_by.Goals as goal

pub returns-then-not-is_any_named-clause-octets : goal.returns-then-not-is_any_named-clause-octets
returns-then-not-is_any_named-clause-octets c =
    ap (λ (n : Naming). n.octets) (sym (unnamed_by (blocks_of c.args.blocks) c.args.self.now c.are_none.result c.is_any_named.result c.are_none.ensures c.if-are_none.true c.is_any_named.ensures.named c.if-not-is_any_named.true c.is_any_named.ensures.went))

pub returns-then-not-is_any_named-clause-reach : goal.returns-then-not-is_any_named-clause-reach
returns-then-not-is_any_named-clause-reach c =
    ap (λ (n : Naming). n.reach) (sym (unnamed_by (blocks_of c.args.blocks) c.args.self.now c.are_none.result c.is_any_named.result c.are_none.ensures c.if-are_none.true c.is_any_named.ensures.named c.if-not-is_any_named.true c.is_any_named.ensures.went))

pub returns-then-not-is_any_named-clause-outbox : goal.returns-then-not-is_any_named-clause-outbox
returns-then-not-is_any_named-clause-outbox c =
    ap (λ (n : Naming). record { out = n.out; went = c.args.self.now.went }) (sym (unnamed_by (blocks_of c.args.blocks) c.args.self.now c.are_none.result c.is_any_named.result c.are_none.ensures c.if-are_none.true c.is_any_named.ensures.named c.if-not-is_any_named.true c.is_any_named.ensures.went))
