use Rattle.exchange_rules.proofs.KeptTitles.{counts-them, no-other, orders-leave}
use Rattle.exchange_rules.proofs.SubsystemTests.{none-where-nothing-leads}
use Rattle.exchange_rules.proofs.Countdowns.{none-at-first, takes-leave, unled-go}
use Rattle.exchange_rules.proofs.HeardNews.{heard-changes}
use Rattle.exchange_rules.proofs.laws.subsystems.subsystems_are_forgotten_with_their_points.Goals as goal

pub returns-clause-others : goal.returns-clause-others
returns-clause-others c = no-other

pub returns-clause-orders : goal.returns-clause-orders
returns-clause-orders c = orders-leave

pub returns-clause-tick : goal.returns-clause-tick
returns-clause-tick c = counts-them

pub returns-clause-reached : goal.returns-clause-reached
returns-clause-reached c = none-where-nothing-leads

pub returns-clause-first : goal.returns-clause-first
returns-clause-first c = none-at-first

pub returns-clause-takes : goal.returns-clause-takes
returns-clause-takes c = takes-leave

pub returns-clause-unled : goal.returns-clause-unled
returns-clause-unled c = unled-go

pub returns-clause-news : goal.returns-clause-news
returns-clause-news c = heard-changes
