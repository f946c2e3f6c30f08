-- Titles that are tested: what `test title T P N DIGITS` writes.
use Rattle.std.specs.Prelude.{bytes_eq, codes, if◌then◌else◌, ℕ, List, Result, Err}
use Rattle.console.specs.Words.{first_word, second_word, third_word, fourth_word, rest_of, behind_four}
use Rattle.console.specs.TitleWords.{and_then, if_last, name_written}
use Rattle.console.specs.declared.title_mistakes.TitleMistake.{TitleMistake}
use Rattle.console.specs.declared.title_mistakes.TitleMistake.TheVariants as title
use Rattle.console.specs.declared.title_words.RowName.{RowName}

-- the title of these words, with no others behind them
abbrev pub title_written : List (List ℕ) → Result RowName TitleMistake
title_written ws =
    and_then (name_written (first_word ws) (second_word ws) (third_word ws) (fourth_word ws)) (λ name.
    if_last (behind_four ws) title.BehindTested name)

-- the title that the words behind `test` write, or else the first mistake in them
abbrev pub title_tested : List (List ℕ) → Result RowName TitleMistake
title_tested ws = if bytes_eq (first_word ws) (codes "title") then title_written (rest_of ws) else Err title.Tested
