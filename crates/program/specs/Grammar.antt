-- The program's command line, as `clap` is told of it.
use Rattle.std.specs.Prelude.{true, codes}
use Rattle.clap.specs.Words.{App, Rule, new_app, new_rule, with_rule, with_subcommand}
use Rattle.clap.specs.Simple.{on_top}

-- `run [FILE]`
abbrev pub run : App
run = with_rule (new_app (codes "run")) (new_rule (codes "file"))

-- `check FILE`
abbrev pub needed_file : Rule
needed_file = record (new_rule (codes "file")) { required = true }

abbrev pub check : App
check = with_rule (new_app (codes "check")) needed_file

-- `lab NEAR FAR`
abbrev pub near_rule : Rule
near_rule = record (new_rule (codes "near")) { required = true }

abbrev pub far_rule : Rule
far_rule = record (new_rule (codes "far")) { required = true }

abbrev pub lab : App
lab = with_rule (with_rule (new_app (codes "lab")) near_rule) far_rule

-- `serve FILE`
abbrev pub serve : App
serve = with_rule (new_app (codes "serve")) needed_file

-- `lab-udp NEAR FAR`
abbrev pub lab_udp : App
lab_udp = with_rule (with_rule (new_app (codes "lab-udp")) near_rule) far_rule

-- one of the five, with no texts of its own and no help command
abbrev pub bare : App
bare = on_top (λ s. record s {
  no_binary_name = true;
  disable_help_flag = true;
  disable_help_subcommand = true;
  subcommand_required = true;
}) (new_app (codes "stp"))

abbrev pub stp : App
stp =
    with_subcommand (with_subcommand (with_subcommand (with_subcommand (with_subcommand bare run.top) check.top) lab.top)
    lab_udp.top) serve.top
