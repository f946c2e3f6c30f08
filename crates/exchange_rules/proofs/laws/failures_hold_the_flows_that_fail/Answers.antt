use Rattle.exchange_rules.proofs.Failures.{failed_so, failed_by_peer_so, idle_so, idle_by_peer_so}
use Rattle.exchange_rules.proofs.laws.failures_hold_the_flows_that_fail.Goals as goal

pub returns-clause-own : goal.returns-clause-own
returns-clause-own c = failed_so

pub returns-clause-by_peer : goal.returns-clause-by_peer
returns-clause-by_peer c = failed_by_peer_so

pub returns-clause-idle : goal.returns-clause-idle
returns-clause-idle c = idle_so

pub returns-clause-idle_by_peer : goal.returns-clause-idle_by_peer
returns-clause-idle_by_peer c = idle_by_peer_so
