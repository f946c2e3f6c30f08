use Rattle.exchange.specs.KeptQueues.{kept}
use Rattle.sctp_gate.specs.Doing.{done_by}
use Rattle.sctp_gate.specs.Gates.{does, settled}
use Rattle.sctp_gate.specs.declared.doing.Doing.TheVariants.{Hear}
use Rattle.sctp_gate.proofs.Making.{makes-then}
use Rattle.sctp_gate.proofs.Whole.{makes-whole, same-heard}
use Rattle.sctp_gate.proofs.gate.Gate.hear.Goals as goal

pub returns-clause-kept : goal.returns-clause-kept
returns-clause-kept g c =
    makes-then g.W.Watch.has _ _ _ _ _ _ _ _ (λ h t. settled kept c.args.now h t)
    (makes-then g.W.Watch.has _ _ _ _ _ _ _ _ (λ h t. does kept c.args.now (λ e. done_by (Hear c.args.octets c.args.source.now) c.args.now e) h t) c.settle.ensures.kept c.act.ensures)
    c.settle-2.ensures.kept

pub returns-clause-whole : goal.returns-clause-whole
returns-clause-whole g c = λ a s. makes-whole g.W.Watch.has _ _ _ _ _ _ (returns-clause-kept g c) (same-heard c.args.now _ _ c.args.self.now c.args.exchange.now a s)
