use Rattle.exchange.specs.KeptQueues.{kept}
use Rattle.sctp_gate.specs.Gates.{flushed}
use Rattle.sctp_gate.proofs.Making.{makes-then}
use Rattle.sctp_gate.proofs.Whole.{makes-whole, same-filled}
use Rattle.sctp_gate.proofs.gate.Gate.fill.Goals as goal

pub returns-clause-kept : goal.returns-clause-kept
returns-clause-kept g c = makes-then g.W.Watch.has _ _ _ _ _ _ _ _ (λ h t. flushed kept c.args.now h t) c.take_if_room.ensures c.act.ensures

pub returns-clause-whole : goal.returns-clause-whole
returns-clause-whole g c = λ a s. makes-whole g.W.Watch.has _ _ _ _ _ _ (returns-clause-kept g c) (same-filled c.args.now c.args.self.now c.args.exchange.now a s)
