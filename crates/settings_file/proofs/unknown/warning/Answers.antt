use Rattle.settings_file.proofs.Basics.{codes, string_bytes, ◌++◌, IfOk-weaker}
use Rattle.settings_file.proofs.unknown.warning.Goals as goal

pub returns-then-not-is_shown : goal.returns-then-not-is_shown
returns-then-not-is_shown c = IfOk-weaker c.format-then-not-is_shown.result _ _
    (λ text written. (record { table = c.args.front.now; key = string_bytes c.in_ok-key.key; behind = codes "\n" }, written))
    c.format-then-not-is_shown.ensures.ok

pub returns-in_default : goal.returns-in_default
returns-in_default c = IfOk-weaker c.format-in_default.result _ _
    (λ text written. (
      record { table = c.args.front.now; key = c.args.key.now; behind = codes ": no such key\n" },
      written,
    ))
    c.format-in_default.ensures.ok

pub returns : goal.returns
returns c = IfOk-weaker c.format-2.result _ _
    (λ text written. (
      record {
        table = c.args.front.now;
        key = c.args.key.now;
        behind = codes "; the nearest key is " ++ (c.args.front.now ++ (c.in-Some.nearest.now ++ codes "\n"));
      },
      written,
    ))
    c.format-2.ensures.ok
