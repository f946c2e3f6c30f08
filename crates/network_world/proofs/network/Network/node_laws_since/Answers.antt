use Rattle.std.proofs.Common.{◌≡◌, ℕ, true}
use Rattle.network_rules.specs.Anew.{HaveLostNothingSince}
use Rattle.network_rules.specs.Totals.{is_listed}
use Rattle.node_law.specs.Anew.{EndsOnceSince, NoneBrokenSince, SinceQuiet}
use Rattle.node_law.specs.Ends.{EndsWhole}
use Rattle.node_law.specs.Sums.{AreAccountedFor, ComeToNode, ComeWhole, IsWhole, ToEach}
use Rattle.node_law.proofs.AnewNetworks as anew
use Rattle.node_law.proofs.PassedOn.{all-taken-anew}
use Rattle.network_world.proofs.NodeLawsSince.{always-since, linked-before, linked-since}
use Rattle.network_world.proofs.network.Network.node_laws_since.Goals as goal

pub returns-clause-taken : goal.returns-clause-taken
returns-clause-taken c = λ from changes s point. all-taken-anew from changes point

pub returns-clause-ends : goal.returns-clause-ends
returns-clause-ends c = λ from changes s linked.
    always-since c.args.self.now from changes s linked (SinceQuiet NoneBrokenSince (λ points before w. (point : ℕ) → is_listed points point ≡ true → EndsOnceSince before w point)) anew.all-once

pub returns-clause-accounted : goal.returns-clause-accounted
returns-clause-accounted c = λ from changes s linked.
    always-since c.args.self.now from changes s linked (SinceQuiet NoneBrokenSince (λ points before w. AreAccountedFor points w)) anew.all-summed

pub returns-clause-to_each : goal.returns-clause-to_each
returns-clause-to_each c = λ from changes s linked.
    always-since c.args.self.now from changes s linked (SinceQuiet NoneBrokenSince (λ points before w. ToEach ComeToNode points w)) anew.all-come

pub returns-clause-none_gone : goal.returns-clause-none_gone
returns-clause-none_gone c = λ from changes s linked.
    always-since c.args.self.now from changes s linked (SinceQuiet HaveLostNothingSince (λ points before w. (point : ℕ) → is_listed points point ≡ true → EndsWhole w point)) anew.nodes-whole

pub returns-clause-whole : goal.returns-clause-whole
returns-clause-whole c = λ from changes s linked.
    always-since c.args.self.now from changes s linked (SinceQuiet HaveLostNothingSince (λ points before w. IsWhole points w)) anew.all-whole

pub returns-clause-each_whole : goal.returns-clause-each_whole
returns-clause-each_whole c = λ from changes s linked.
    always-since c.args.self.now from changes s linked (SinceQuiet HaveLostNothingSince (λ points before w. ToEach ComeWhole points w)) anew.each-whole

pub returns-clause-linked : goal.returns-clause-linked
returns-clause-linked c = λ from changes. (linked-before from changes, linked-since from changes)
