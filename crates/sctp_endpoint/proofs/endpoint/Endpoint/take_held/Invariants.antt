use Rattle.std.proofs.Common.{◌-◌, ◌<◌, ◌^◌}
use Rattle.sctp_endpoint.specs.Draining.{told_held}
use Rattle.sctp_endpoint.proofs.Chained.{LeadsTo}
use Rattle.sctp_endpoint.proofs.endpoint.Endpoint.take_held.Given as goal

abbrev pub invariant-each_chunk : goal.invariant-each_chunk
invariant-each_chunk g l = record {
  rest : LeadsTo g.W.Watch.has l.fn.watch l.watch l.fn.self l.self (told_held l.fn.self.settings 256 l.fn.self.state) (told_held l.self.settings (256 - l.counter) l.self.state);
  generation : l.self.state.generation < 2 ^ 64 - 1;
}
