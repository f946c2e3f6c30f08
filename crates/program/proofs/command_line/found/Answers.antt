use Rattle.std.proofs.Common.{◌∙◌, sym, ap, List, Option, Some, codes, ℕ}
use Rattle.std.specs.Prelude.{option_map}
use Rattle.std.proofs.lemmas.Result.{IfOk-weaker}
use Rattle.clap.specs.Words.{found_of, rows_of, first_of}
use Rattle.clap.proofs.WalkLemmas.{first_value-rows}
use Rattle.program.specs.Words.{Task, found, found_by}
use Rattle.program.proofs.Parsing.{rows-are}
use Rattle.program.proofs.command_line.found.Goals as goal

pub returns-in-Some : goal.returns-in-Some
returns-in-Some c =
    let command = c.in-Some.command.now in
    let inner = found_of c.in-Some.inner.now in
    let rows = rows_of inner in
    IfOk-weaker c.with_files.result _ _ (λ read h. h ∙ ap (λ (t : Task). Some t)
    (ap (λ (f : Option (List ℕ)). found_by command f (option_map (λ name. name.now) c.get_str-near.result) (option_map (λ name. name.now) c.get_str-far.result))
    (c.get_str-file.ensures ∙ first_value-rows inner (codes "file"))
    ∙ ap (λ (n : Option (List ℕ)). found_by command (first_of (codes "file") rows) n (option_map (λ name. name.now) c.get_str-far.result))
    (c.get_str-near.ensures ∙ first_value-rows inner (codes "near"))
    ∙ ap (λ (d : Option (List ℕ)). found_by command (first_of (codes "file") rows) (first_of (codes "near") rows) d)
    (c.get_str-far.ensures ∙ first_value-rows inner (codes "far"))
    ∙ ap found (sym (rows-are c.args.matches.now command rows c.in-Some.ensures.name c.in-Some.ensures.rows))))
    c.with_files.ensures
