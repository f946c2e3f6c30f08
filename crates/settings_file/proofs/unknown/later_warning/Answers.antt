use Rattle.settings_file.proofs.Basics.{codes, ◌++◌, IfOk-weaker}
use Rattle.std.specs.Fmt.{decimal}
use Rattle.settings_file.proofs.unknown.later_warning.Goals as goal

pub returns : goal.returns
returns c = IfOk-weaker c.format.result _ _
    (λ text written. (
      record {
        table = c.args.front.now;
        key = c.args.key.now;
        behind = codes ": it needs version = " ++ (decimal c.args.version ++ codes "\n");
      },
      written,
    ))
    c.format.ensures.ok
