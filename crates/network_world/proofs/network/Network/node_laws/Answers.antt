use Rattle.std.proofs.Common.{◌≡◌, ℕ, true}
use Rattle.network_rules.specs.Totals.{HaveLostNothing, is_listed}
use Rattle.node_law.specs.Ends.{AreUnbroken, EndsOnce, EndsWhole}
use Rattle.node_law.specs.Sums.{AreAccountedFor, ComeToNode, ComeWhole, IsWhole, ToEach}
use Rattle.node_law.proofs.Ending as nodes
use Rattle.node_law.proofs.Summing as sums
use Rattle.node_law.proofs.ToPoint as ends
use Rattle.network_world.proofs.NodeLaws.{always, is-run, linked-on, shared-linked, taken}
use Rattle.network_world.proofs.network.Network.node_laws.Goals as goal

pub returns-clause-taken : goal.returns-clause-taken
returns-clause-taken c = λ w s point. taken c.args.self.now w s point

pub returns-clause-ends : goal.returns-clause-ends
returns-clause-ends c = λ w s linked none point its.
    always c.args.self.now w s linked (λ points u. AreUnbroken points u → (p : ℕ) → is_listed points p ≡ true → EndsOnce u p) nodes.all-once none point its

pub returns-clause-accounted : goal.returns-clause-accounted
returns-clause-accounted c = λ w s linked. always c.args.self.now w s linked (λ points u. AreUnbroken points u → AreAccountedFor points u) sums.all-summed

pub returns-clause-to_each : goal.returns-clause-to_each
returns-clause-to_each c = λ w s linked. always c.args.self.now w s linked (λ points u. AreUnbroken points u → ToEach ComeToNode points u) ends.all-come

pub returns-clause-none_gone : goal.returns-clause-none_gone
returns-clause-none_gone c = λ w s linked none point its.
    always c.args.self.now w s linked (λ points u. HaveLostNothing points u → (p : ℕ) → is_listed points p ≡ true → EndsWhole u p) nodes.all-whole none point its

pub returns-clause-whole : goal.returns-clause-whole
returns-clause-whole c = λ w s linked. always c.args.self.now w s linked (λ points u. HaveLostNothing points u → IsWhole points u) sums.all-whole

pub returns-clause-each_whole : goal.returns-clause-each_whole
returns-clause-each_whole c = λ w s linked. always c.args.self.now w s linked (λ points u. HaveLostNothing points u → ToEach ComeWhole points u) ends.all-whole

pub returns-clause-runs : goal.returns-clause-runs
returns-clause-runs c = λ w s linked. is-run c.args.self.now w s linked

pub returns-clause-shared : goal.returns-clause-shared
returns-clause-shared c = λ w s all. shared-linked c.args.self.now w s all

pub returns-clause-linked : goal.returns-clause-linked
returns-clause-linked c = linked-on
