use Rattle.exchange_rules.proofs.LinkTests.{none-run, are-tested, read-back, passes, ignores, judges}
use Rattle.exchange_rules.proofs.laws.link_tests.links_are_tested.Goals as goal

pub returns-clause-off : goal.returns-clause-off
returns-clause-off c = none-run

pub returns-clause-tested : goal.returns-clause-tested
returns-clause-tested c = are-tested

pub returns-clause-says : goal.returns-clause-says
returns-clause-says c = read-back

pub returns-clause-passes : goal.returns-clause-passes
returns-clause-passes c = passes

pub returns-clause-others : goal.returns-clause-others
returns-clause-others c = ignores

pub returns-clause-fails : goal.returns-clause-fails
returns-clause-fails c = judges
