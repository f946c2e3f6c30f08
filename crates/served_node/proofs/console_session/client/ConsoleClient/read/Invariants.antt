-- None of the octets so far ended the line; they are part of it, and it isn't too long.
use Rattle.std.proofs.Common.{◌≡◌, ◌<◌, ◌≤◌, ◌++◌, take, length}
use Rattle.served_node.specs.Clients.{EndsNoLine}
use Rattle.served_node.specs.declared.console_session.client.TheConstants.{LINE_OCTETS}
use Rattle.served_node.proofs.console_session.client.ConsoleClient.read.Given as goal

abbrev pub invariant-loop-k : goal.invariant-loop-k
invariant-loop-k l = record {
  none : EndsNoLine (take l.k l.octets);
  line : l.self ≡ record l.fn.self { line = l.fn.self.line ++ take l.k l.octets };
  exchange : l.context.exchange.now ≡ l.fn.context.exchange.now;
  points : l.context.points ≡ l.fn.context.points;
  counters : l.context.counters.now ≡ l.fn.context.counters.now;
  alarms : l.context.alarms.now ≡ l.fn.context.alarms.now;
  links : l.context.links.now ≡ l.fn.context.links.now;
  tick : l.context.tick_ms ≡ l.fn.context.tick_ms;
  captured : l.context.captured.now ≡ l.fn.context.captured.now;
  room : 0 < l.k → length l.self.line ≤ LINE_OCTETS;
}
