use Rattle.std.proofs.Common.{◌≡◌, drop}
use Rattle.console.specs.ClientWords.{first_client_word}
use Rattle.console.proofs.client_words.first_client_word.Given as goal

abbrev pub invariant-loop-candidate : goal.invariant-loop-candidate
invariant-loop-candidate l =
    first_client_word l.word (drop l.candidate-index l.known) ≡ first_client_word l.word l.known
