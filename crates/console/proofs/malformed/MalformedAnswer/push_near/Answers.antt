use Rattle.std.proofs.Common.{append_assoc}
use Rattle.std.specs.Prelude.{codes}
use Rattle.console.specs.ClientWords.{client_word}
use Rattle.console.proofs.malformed.MalformedAnswer.push_near.Goals as goal

pub returns-in-Some-clause-text : goal.returns-in-Some-clause-text
returns-in-Some-clause-text c =
    rw (c.in-Some.is, c.push-in-Some.ensures, c.push.ensures, c.as_bytes.ensures.value, c.word.ensures.word)
    (append_assoc c.args.self.now (codes "; the nearest is ") (client_word c.in-Some.word))

pub returns-in-None-clause-text : goal.returns-in-None-clause-text
returns-in-None-clause-text c = rw c.in-None.is c.push-in-None.ensures
