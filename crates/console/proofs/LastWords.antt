-- Words behind the last one that a line may have.
use Rattle.std.proofs.Common.{◌≡◌, ℕ, List, [], ◌∷◌, ◌<◌, length, arith, refl}
use Rattle.std.specs.Prelude.{Err}
use Rattle.console.specs.Words.{words}
use Rattle.console.specs.TitleWords.{if_last}
use Rattle.console.specs.declared.title_mistakes.TitleMistake.{TitleMistake}
use Rattle.console.specs.Mistakes.{submit_mistake}
use Rattle.console.specs.declared.mistakes.Mistake.TheVariants as mistake
use Rattle.console.specs.declared.client_words.ClientWord.TheVariants as word
use Rattle.console.proofs.Parting.{parted-some}

some_word : {A : Type 0} (ws : List (List ℕ)) (mistake : TitleMistake) (value : A) → 0 < length ws → if_last ws mistake value ≡ Err mistake
some_word [] mistake value h = absurd (omega (arith, h))
some_word (word ∷ more) mistake value h = refl

pub if_last-some : {A : Type 0} (rest : List ℕ) (mistake : TitleMistake) (value : A) → if_last (words rest) mistake value ≡ Err mistake
if_last-some rest mistake value = some_word (words rest) mistake value (parted-some 32 rest)

second_word : (digits : List ℕ) (ws : List (List ℕ)) → 0 < length ws → submit_mistake (digits ∷ ws) ≡ mistake.Form word.Submit
second_word digits [] h = absurd (omega (arith, h))
second_word digits (second ∷ more) h = refl

pub submit_mistake-second : (digits rest : List ℕ) → submit_mistake (digits ∷ words rest) ≡ mistake.Form word.Submit
submit_mistake-second digits rest = second_word digits (words rest) (parted-some 32 rest)

pub ruleset last_steps = (if_last-some, submit_mistake-second)
