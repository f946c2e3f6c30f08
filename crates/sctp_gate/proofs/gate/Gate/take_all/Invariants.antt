-- What is left to take from here leads to what is to be taken from the start.
use Rattle.std.proofs.Common.{◌-◌}
use Rattle.exchange.specs.KeptQueues.{kept}
use Rattle.sctp_gate.specs.Gates.{taken_all}
use Rattle.sctp_gate.proofs.Filling.{IsFilling}
use Rattle.sctp_gate.proofs.gate.Gate.take_all.Given as goal

abbrev pub invariant-each_frame : goal.invariant-each_frame
invariant-each_frame g l =
    IsFilling g.W.Watch.has l.fn.watch l.watch (taken_all kept 256 0 l.fn.self l.fn.exchange) (taken_all kept (256 - l.counter) l.octets l.self l.exchange) l.octets l.counter
