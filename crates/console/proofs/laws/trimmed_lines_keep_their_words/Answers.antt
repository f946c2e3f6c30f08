use Rattle.console.proofs.Trimmed.{kept-words}
use Rattle.console.proofs.laws.trimmed_lines_keep_their_words.Goals as goal

pub returns : goal.returns
returns c = kept-words
