use Rattle.std.proofs.Common.{ap, ◌∙◌}
use Rattle.clap.specs.Words.{is_simple_and_free}
use Rattle.program.proofs.Parsing.{free, parse-taken, parse-refused}
use Rattle.program.proofs.command_line.parse.Goals as goal

pub returns-clause-taken : goal.returns-clause-taken
returns-clause-taken c =
    let parse = c.try_get_matches_from in
    parse-taken _ c.args.words.now parse.result c.in_ok-stp.ensures c.requires
    (parse.ensures.kinds (ap is_simple_and_free c.in_ok-stp.ensures ∙ free)) parse.ensures.matches

pub returns-clause-refused : goal.returns-clause-refused
returns-clause-refused c =
    let parse = c.try_get_matches_from in
    parse-refused _ c.args.words.now parse.result c.in_ok-stp.ensures c.requires
    (parse.ensures.kinds (ap is_simple_and_free c.in_ok-stp.ensures ∙ free))
