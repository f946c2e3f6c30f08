use Rattle.settings_file.proofs.Basics.{sym}
use Rattle.settings_file.proofs.Placing.{part-of, part-stands}
use Rattle.settings_file.proofs.text_places.part_place.Goals as goal

pub returns : goal.returns
returns c =
    part-stands c.args.text.now c.args.path.now c.in_ok-word.word.now c.place_of.result
    (part-of c.args.path.now c.in_ok-before.before.now c.in_ok-before.behind.now c.in_ok-word.word.now c.in_ok-word.rest.now c.args.part.from c.args.part.len
    c.in_ok-before.ensures.cases.1 c.in_ok-before.ensures.cases.2 c.in_ok-word.ensures.cases.1 c.in_ok-word.ensures.cases.2 c.if-is_empty.ensures
    (sym c.if-not-are_before_name.ensures) (sym c.if-not-are_behind_name.ensures))
    c.place_of.ensures
