-- What a client is answered to a line that it may not write.
use Rattle.std.specs.Prelude.{ℕ, Bool, if◌then◌else◌, List, [], ◌++◌, codes, Option, None, Some}
use Rattle.settings.specs.declared.point.PointFormat.{PointFormat}
use Rattle.console.specs.Words.{words, first_word, second_word}
use Rattle.console.specs.ClientWords.{client_word, form, is_shown, nearest}
use Rattle.console.specs.Mistakes.{mistake_of}
use Rattle.console.specs.TitleMistakes.{title_sentence}
use Rattle.console.specs.declared.client_words.ClientWord.{ClientWord}
use Rattle.console.specs.declared.client_words.TheConstants.{COMMANDS, TEXTS}
use Rattle.console.specs.declared.mistakes.Mistake.{Mistake}
use Rattle.console.specs.declared.mistakes.Mistake.TheVariants as mistake

-- the nearest word, if there is memory to look for it
abbrev pub near_word : (lacks_memory : Bool) → List ℕ → List ClientWord → Option ClientWord
near_word lacks_memory text known = if lacks_memory then None else nearest text known

abbrev pub near_text : Option ClientWord → List ℕ
near_text (Some word) = codes "; the nearest is " ++ client_word word
near_text None = codes "; help lists them"

-- a word that isn't known is shown if a terminal prints it
abbrev pub unknown_text : (front such : List ℕ) → (word : List ℕ) → Option ClientWord → List ℕ
unknown_text front such word near = (if is_shown word then front ++ word else such) ++ near_text near

-- the word that isn't known, where that is the mistake
abbrev pub word_asked : Mistake → List (List ℕ) → List ℕ
word_asked mistake.NoText ws = second_word ws
word_asked _ ws = first_word ws

-- the words that would have been known there
abbrev pub known_to : Mistake → List ClientWord
known_to mistake.NoCommand = COMMANDS.now
known_to mistake.NoText = TEXTS.now
known_to _ = []

abbrev pub mistake_text : Mistake → (word : List ℕ) → Option ClientWord → List ℕ
mistake_text mistake.NoCommand word near = unknown_text (codes "no command ") (codes "no such command") word near
mistake_text mistake.NoText word near = unknown_text (codes "show has no ") (codes "show has no such text") word near
mistake_text mistake.OfScripts word near = codes "for scripts alone: here links and clock are real"
mistake_text mistake.NoHexDigit word near = codes "submit: a character that is no hexadecimal digit"
mistake_text mistake.OddDigits word near = codes "submit: an odd number of digits"
mistake_text mistake.TooManyOctets word near = codes "submit: more than 4096 octets"
mistake_text (mistake.Title title) word near = title_sentence (codes "title add") title
mistake_text (mistake.SetTitle title) word near = title_sentence (codes "title set") title
mistake_text (mistake.Form command) word near = codes "must be " ++ form command

abbrev pub answer_text : Mistake → (word : List ℕ) → Option ClientWord → List ℕ
answer_text mistake word near = codes "malformed: " ++ (mistake_text mistake word near ++ codes "\n")

abbrev pub answer_about : (lacks_memory : Bool) → Mistake → (word : List ℕ) → List ℕ
answer_about lacks_memory mistake word =
    answer_text mistake word (near_word lacks_memory word (known_to mistake))

-- the answer to a line, which says that it is malformed, and why
abbrev pub malformed_answer : (lacks_memory : Bool) → PointFormat → List ℕ → List ℕ
malformed_answer lacks_memory points line =
    answer_about lacks_memory (mistake_of points line) (word_asked (mistake_of points line) (words line))
