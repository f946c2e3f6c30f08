use Rattle.exchange_rules.specs.First.{first_state}
use Rattle.script.proofs.Standing.{runs-stand}
use Rattle.program.proofs.program.run_in.Goals as goal

pub returns : goal.returns
returns g c = λ settings first.
    let ran = runs-stand c.run_pieces-script.result c.args.exchange.now c.run_pieces-script.new.exchange (first_state settings)
    (g.R.Source.input c.args.reader.now).remaining (g.R.Source.input c.run_pieces-script.new.reader).remaining
    (g.W.Sink.output c.args.writer.now).written (g.W.Sink.output c.run_pieces-script.new.writer).written
    first c.run_pieces-script.ensures.run in (
      c.run_pieces-script.result,
      ran.0,
      ran.2,
      record {
        reads_made = c.run_pieces-script.ensures.bounded;
        reads_failed = c.run_pieces-script.ensures.reads;
        writes_failed = c.run_pieces-script.ensures.writes;
      },
      c.status_after.ensures,
      c.explain_end.ensures,
    )
