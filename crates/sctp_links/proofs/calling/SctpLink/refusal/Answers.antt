use Rattle.sctp_links.proofs.Refused.{refused}
use Rattle.sctp_links.proofs.calling.SctpLink.refusal.Goals as goal

pub returns-then-may_be_refused : goal.returns-then-may_be_refused
returns-then-may_be_refused c =
    refused c.args.octets.now c.args.self.now.gate c.may_be_refused.result c.refusal.result c.setback_for.result
    c.may_be_refused.ensures c.if-may_be_refused.true (rw (← c.self.view_is) c.refusal.ensures) c.setback_for.ensures
