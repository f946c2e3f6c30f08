-- What is said of a mistake in the words behind `title`, and behind `test`.
use Rattle.std.specs.Prelude.{ℕ, List, ◌++◌, codes}
use Rattle.console.specs.declared.title_mistakes.TitleMistake.{TitleMistake}
use Rattle.console.specs.declared.title_mistakes.TitleMistake.TheVariants as title

-- the words before the one that is wrong: those of an order that has all words of a row, if it is behind those that
-- name the row
abbrev pub title_front : (order : List ℕ) → TitleMistake → List ℕ
title_front order title.Verb = codes "title"
title_front order title.Translation = codes "title"
title_front order title.Plan = codes "title"
title_front order title.Nature = codes "title"
title_front order title.Digits = codes "title"
title_front order title.BehindName = codes "title remove"
title_front order title.Point = order
title_front order title.Route = order
title_front order title.Ssn = order
title_front order title.Backup = order
title_front order title.Behind = order
title_front order title.NewPlan = order
title_front order title.NewNature = order
title_front order title.Remove = order
title_front order title.Add = order
title_front order title.Tested = codes "test"
title_front order title.BehindTested = codes "test title"

-- what must be
abbrev pub title_reason : TitleMistake → List ℕ
title_reason title.Verb = codes "add, set or remove must be behind it"
title_reason title.Translation = codes "T must be 0 to 255"
title_reason title.Plan = codes "P must be 0 to 15"
title_reason title.Nature = codes "N must be 0 to 127"
title_reason title.Digits = codes "DIGITS must be 1 to 32 of 0 to 9 and a to f"
title_reason title.BehindName = codes "nothing may be behind DIGITS"
title_reason title.Point = codes "POINT must be a point code"
title_reason title.Route = codes "ROUTE must be title or ssn"
title_reason title.Ssn = codes "SSN must be 1 to 255, or - if ROUTE is title"
title_reason title.Backup = codes "a point code must be behind backup"
title_reason title.Behind = codes "behind SSN may be backup POINT, then changed PLAN NATURE REMOVE ADD"
title_reason title.NewPlan = codes "PLAN must be 0 to 15, or -"
title_reason title.NewNature = codes "NATURE must be 0 to 127, or -"
title_reason title.Remove = codes "REMOVE must be 0 to 32"
title_reason title.Add = codes "ADD must be 1 to 32 of 0 to 9 and a to f, or -"
title_reason title.Tested = codes "title must be behind it"
title_reason title.BehindTested = codes "nothing may be behind DIGITS"

abbrev pub title_sentence : (order : List ℕ) → TitleMistake → List ℕ
title_sentence order mistake = title_front order mistake ++ (codes ": " ++ title_reason mistake)
