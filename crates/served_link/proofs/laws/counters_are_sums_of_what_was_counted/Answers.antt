use Rattle.served_link.proofs.Sums.{counters-sums, links-sums}
use Rattle.served_link.proofs.laws.counters_are_sums_of_what_was_counted.Goals as goal

pub returns-clause-row : goal.returns-clause-row
returns-clause-row c = counters-sums

pub returns-clause-rows : goal.returns-clause-rows
returns-clause-rows c = links-sums
