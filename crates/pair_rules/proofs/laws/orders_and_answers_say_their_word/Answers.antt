use Rattle.pair_rules.proofs.MadeWords.{words-read}
use Rattle.pair_rules.proofs.laws.orders_and_answers_say_their_word.Goals as goal

pub returns : goal.returns
returns c = words-read
