use Rattle.sctp_rules.proofs.Lively.{always-lively, idle-puts-out, goes-as-data}
use Rattle.sctp_rules.proofs.laws.something_may_always_go.Goals as goal

pub returns-clause-halves : goal.returns-clause-halves
returns-clause-halves c = always-lively

pub returns-clause-idle : goal.returns-clause-idle
returns-clause-idle c = idle-puts-out

pub returns-clause-data : goal.returns-clause-data
returns-clause-data c = goes-as-data
