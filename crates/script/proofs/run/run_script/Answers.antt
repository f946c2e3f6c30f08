use Rattle.script.proofs.Standing.{runs-stand}
use Rattle.script.proofs.run.run_script.Goals as goal

pub returns-clause-run : goal.returns-clause-run
returns-clause-run g c = λ before s.
    runs-stand c.run_pieces.result c.args.exchange.now c.run_pieces.new.exchange before (g.R.Source.input c.args.reader.now).remaining (g.R.Source.input c.run_pieces.new.reader).remaining
    (g.W.Sink.output c.args.writer.now).written (g.W.Sink.output c.run_pieces.new.writer).written s c.run_pieces.ensures.run
