use Rattle.script.proofs.Basics.{◌≡◌, ◌+◌, ◌*◌, ◌-◌, ◌^◌, ◌≤◌, min, length, LINE_OCTETS}
use Rattle.script.proofs.Running.{Progress}
use Rattle.script.proofs.run.run_pieces.Given as goal

abbrev pub invariant-loop : goal.invariant-loop
invariant-loop g l = record {
  number : l.line.number ≤ 1 + 4096 * l.counter;
  most : (g.R.Source.input l.reader).reads ≤ (g.R.Source.input l.fn.reader).reads + l.counter;
  least : min ((g.R.Source.input l.fn.reader).reads + l.counter) (2 ^ 64 - 1) ≤ (g.R.Source.input l.reader).reads;
  reads : (g.R.Source.input l.reader).failures ≡ (g.R.Source.input l.fn.reader).failures;
  writes : (g.W.Sink.output l.writer).failures ≡ (g.W.Sink.output l.fn.writer).failures;
  short : length l.line.octets ≤ LINE_OCTETS;
  run : Progress l.counter l.fn.exchange (g.R.Source.input l.fn.reader).remaining (g.R.Source.input l.reader).remaining
      (g.W.Sink.output l.fn.writer).written (g.W.Sink.output l.writer).written l.line l.exchange;
}
