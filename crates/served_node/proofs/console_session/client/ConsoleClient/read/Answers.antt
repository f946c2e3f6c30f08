use Rattle.std.proofs.Common.{◌≢◌, ◌≤◌, ◌∙◌, ℕ, length, ap, subst}
use Rattle.std.proofs.lemmas.List.Elements.{All-more}
use Rattle.script.specs.Steps.{LineSoFar}
use Rattle.served_node.specs.Clients.{ClientState}
use Rattle.served_node.specs.WholeLines.{shown}
use Rattle.served_node.specs.contracts.console_session.client.ConsoleClient.{the_view}
use Rattle.served_node.proofs.Taking.{up-to, grown, done-at, has-room, ends-somewhere, ends-too-late, never-ends}
use Rattle.served_node.proofs.console_session.client.ConsoleClient.read.Goals as goal

pub returns-in-TooLong-clause-one_line : goal.returns-in-TooLong-clause-one_line
returns-in-TooLong-clause-one_line c = up-to c.args.octets.now c.loop-k.k c.loop-k-test.true c.loop-k.invariant.none

pub returns-in-Whole-clause-one_line : goal.returns-in-Whole-clause-one_line
returns-in-Whole-clause-one_line c = up-to c.args.octets.now c.loop-k.k c.loop-k-test.true c.loop-k.invariant.none

pub loop-k-preserved : goal.loop-k-preserved
loop-k-preserved c = record {
  none = All-more (λ (octet : ℕ). octet ≢ 10) c.args.octets.now c.loop-k.k 0 c.loop-k-test.true c.loop-k.invariant.none c.in-Open.ensures.line.0;
  line =
      grown c.args.octets.now c.loop-k.k c.add.new.self.octets _ c.args.self.now c.loop-k-test.true (c.self.view_is ∙ c.loop-k.invariant.line)
      (ap (λ (l : LineSoFar). l.octets) c.in-Open.ensures.line.1);
  exchange = c.loop-k.invariant.exchange;
  points = c.loop-k.invariant.points;
  counters = c.loop-k.invariant.counters;
  alarms = c.loop-k.invariant.alarms;
  links = c.loop-k.invariant.links;
  tick = c.loop-k.invariant.tick;
  captured = c.loop-k.invariant.captured;
  room = λ more. c.in-Open.ensures.short;
}

pub returns-in-TooLong-clause-done : goal.returns-in-TooLong-clause-done
returns-in-TooLong-clause-done c = λ front behind parts ends room.
    let now = c.self.view_is ∙ c.loop-k.invariant.line in
    absurd (has-room c.args.octets.now front behind c.loop-k.k parts c.args.self.now.line c.loop-k.invariant.none c.loop-k-test.true c.in-TooLong.ensures.line.0
    (subst (λ (n : ℕ). 8300 ≤ n) (ap (λ (s : ClientState). length s.line) now) c.in-TooLong.ensures.line.1) room)

pub returns-in-Whole-clause-done : goal.returns-in-Whole-clause-done
returns-in-Whole-clause-done c = λ front behind parts ends room.
    let now = c.self.view_is ∙ c.loop-k.invariant.line in
    done-at c.args.octets.now front behind c.loop-k.k parts (shown c.loop-k.context.points c.loop-k.context.counters.now c.loop-k.context.alarms.now c.loop-k.context.links.now c.loop-k.context.tick_ms) (shown c.args.context.now.points c.args.context.now.counters.now c.args.context.now.alarms.now c.args.context.now.links.now c.args.context.now.tick_ms) (λ i. shown (c.loop-k.invariant.points i) (c.loop-k.invariant.counters i) (c.loop-k.invariant.alarms i) (c.loop-k.invariant.links i) (c.loop-k.invariant.tick i)) c.loop-k.context.captured.now c.args.context.now.captured.now c.end_line.new.context.captured.now c.loop-k.invariant.captured c.end_line.result c.args.context.now.exchange.now c.loop-k.context.exchange.now c.end_line.new.context.exchange.now c.args.self.now _
    c.end_line.new.self ends c.loop-k.invariant.none c.loop-k-test.true c.in-Whole.ensures.line.0
    ((λ i. record (the_view c.self.inside) { line = (c.in-Whole.ensures.line.1 i).octets }) ∙ now) c.loop-k.invariant.exchange c.end_line.ensures.done

pub returns-clause-done : goal.returns-clause-done
returns-clause-done c = λ front behind parts ends room.
    absurd (ends-somewhere c.args.octets.now front behind c.loop-k.k parts c.loop-k.invariant.none c.loop-k-test.false)

pub returns-in-Whole-clause-too_long : goal.returns-in-Whole-clause-too_long
returns-in-Whole-clause-too_long c = λ front behind parts none some long.
    absurd (ends-too-late c.args.octets.now front behind c.loop-k.k c.loop-k.self c.args.self.now parts none c.in-Whole.ensures.line.0 some c.loop-k.invariant.line c.loop-k.invariant.room long)

pub returns-clause-too_long : goal.returns-clause-too_long
returns-clause-too_long c = λ front behind parts none some long.
    absurd (never-ends c.args.octets.now front behind c.loop-k.k c.loop-k.self c.args.self.now parts c.loop-k-test.false some c.loop-k.invariant.line c.loop-k.invariant.room long)
