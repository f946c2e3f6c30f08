use Rattle.settings_file.proofs.Basics.{sym}
use Rattle.settings_file.proofs.Placing.{word-stands}
use Rattle.settings_file.proofs.text_places.place_of.Goals as goal

pub returns : goal.returns
returns c =
    word-stands c.args.text.now c.in_ok-before.before.now c.in_ok-before.rest.now c.args.word.now c.args.at c.end_of.result
    c.in_ok-before.ensures.cases.1 c.in_ok-before.ensures.cases.2 (sym c.if-not-starts_with.ensures.value) c.end_of.ensures
