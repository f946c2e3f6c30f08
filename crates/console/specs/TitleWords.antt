-- Translation rows as an operator writes them, or else the first mistake in their words, from the left. Each value has
-- the range of its key in a settings file; a word that is missing is wrong as an empty one is.
use Rattle.std.specs.Prelude.{ℕ, ◌&&◌, nat_le, if◌then◌else◌, bytes_eq, codes, map, List, [], ◌∷◌}
use Rattle.std.specs.Prelude.{length, Option, None, Some, Result, Ok, Err}
use Rattle.std.specs.List.{list_all}
use Rattle.std.specs.Option.{ok_or, option_map}
use Rattle.signalling_types.specs.declared.limits.TheConstants.Limits.{TITLE_DIGITS}
use Rattle.settings.specs.Configuration.{ChangeEntry, TitleEntry, unchanged}
use Rattle.settings.specs.declared.title_row.TitleRoute.{TitleRoute}
use Rattle.settings.specs.declared.title_row.TitleRoute.TheVariants.{Title, Ssn}
use Rattle.settings.specs.Checks.{is_digit}
use Rattle.settings.specs.Meaning.{digit_of}
use Rattle.sccp_codec.specs.declared.title.TitleKey.{TitleKey}
use Rattle.settings.specs.Points.{point_in}
use Rattle.settings.specs.declared.point.PointFormat.{PointFormat}
use Rattle.console.specs.Numbers.{number_within}
use Rattle.console.specs.Words.{first_word, second_word, third_word, fourth_word, behind_two, behind_three, behind_four}
use Rattle.console.specs.declared.title_mistakes.TitleMistake.{TitleMistake}
use Rattle.console.specs.declared.title_mistakes.TitleMistake.TheVariants as title
use Rattle.console.specs.declared.title_words.RowName.{RowName}

-- what is read next, if nothing was wrong so far
abbrev pub and_then : {A B : Type 0} → Result A TitleMistake → (A → Result B TitleMistake) → Result B TitleMistake
and_then (Ok value) next = next value
and_then (Err mistake) next = Err mistake

-- a value with no words behind it, or else this mistake
abbrev pub if_last : {A : Type 0} → List (List ℕ) → TitleMistake → A → Result A TitleMistake
if_last [] mistake value = Ok value
if_last (word ∷ more) mistake value = Err mistake

-- a translation type, a numbering plan and a nature of address
abbrev pub key_written : (translation plan nature : List ℕ) → Result TitleKey TitleMistake
key_written translation plan nature =
    and_then (ok_or (number_within 0 255 translation) title.Translation) (λ t.
    and_then (ok_or (number_within 0 15 plan) title.Plan) (λ p.
    and_then (ok_or (number_within 0 127 nature) title.Nature) (λ n.
    Ok (record { translation = t; plan = p; nature = n }))))

-- 1 to 32 digits, 0 to 9 and a to f
abbrev pub digits_written : List ℕ → Option (List ℕ)
digits_written text =
    if nat_le 1 (length text) && nat_le (length text) TITLE_DIGITS && list_all is_digit text
    then Some (map digit_of text)
    else None

-- what names a row: its key and its digits
abbrev pub name_written : (translation plan nature digits : List ℕ) → Result RowName TitleMistake
name_written translation plan nature digits =
    and_then (key_written translation plan nature) (λ key.
    and_then (ok_or (digits_written digits) title.Digits) (λ ds.
    Ok (record { key = key; digits = record { items = ds } })))

-- a subsystem number, or - for none
abbrev pub ssn_written : List ℕ → Option (Option ℕ)
ssn_written text = if bytes_eq text (codes "-") then Some None else option_map (λ n. Some n) (number_within 1 255 text)

-- how addresses are routed: by title, with a subsystem number, if any, or by a subsystem number
abbrev pub route_written : (way ssn : List ℕ) → Result TitleRoute TitleMistake
route_written way ssn =
    if bytes_eq way (codes "title") then ok_or (option_map (λ number. Title number) (ssn_written ssn)) title.Ssn
    else if bytes_eq way (codes "ssn") then ok_or (option_map (λ number. Ssn number) (number_within 1 255 ssn)) title.Ssn
    else Err title.Route

-- the row of this name that leads to a point, and is routed there in a way
abbrev pub row_leading : RowName → (point : ℕ) → TitleRoute → TitleEntry
row_leading name point route = record {
  translation = name.key.translation;
  plan = name.key.plan;
  nature = name.key.nature;
  digits = name.digits.items;
  point = point;
  backup = None;
  route = route;
  change = unchanged;
}

-- the row of this name that these words write, with points in this format; it has no backup, and changes no titles
abbrev pub row_of : PointFormat → RowName → (point way ssn : List ℕ) → Result TitleEntry TitleMistake
row_of points name point way ssn =
    and_then (ok_or (point_in points point) title.Point) (λ p.
    and_then (route_written way ssn) (λ route.
    Ok (row_leading name p route)))

-- a numbering plan or a nature of address up to the most, or - for none
abbrev pub given_written : (most : ℕ) → List ℕ → Option (Option ℕ)
given_written most text =
    if bytes_eq text (codes "-") then Some None else option_map (λ n. Some n) (number_within 0 most text)

-- 1 to 32 digits, or - for none
abbrev pub added_written : List ℕ → Option (List ℕ)
added_written text = if bytes_eq text (codes "-") then Some [] else digits_written text

-- the change of titles that these words write
abbrev pub change_written : (plan nature removed added : List ℕ) → Result ChangeEntry TitleMistake
change_written plan nature removed added =
    and_then (ok_or (given_written 15 plan) title.NewPlan) (λ p.
    and_then (ok_or (given_written 127 nature) title.NewNature) (λ n.
    and_then (ok_or (number_within 0 TITLE_DIGITS removed) title.Remove) (λ r.
    and_then (ok_or (added_written added) title.Add) (λ ds.
    Ok (record { plan = p; nature = n; removed = r; added = ds })))))

-- the row with the change of titles that these words write: `PLAN NATURE REMOVE ADD`, and no others behind them
abbrev pub with_change : TitleEntry → List (List ℕ) → Result TitleEntry TitleMistake
with_change row ws =
    and_then (change_written (first_word ws) (second_word ws) (third_word ws) (fourth_word ws)) (λ change.
    if_last (behind_four ws) title.Behind (record row { change = change }))

-- .. behind `changed`; without words, the row as it is
abbrev pub changed_by : TitleEntry → List (List ℕ) → Result TitleEntry TitleMistake
changed_by row [] = Ok row
changed_by row (word ∷ behind) = if bytes_eq word (codes "changed") then with_change row behind else Err title.Behind

-- the row with what these words write: `backup POINT`, if it has a backup, and the words of a change, if any
abbrev pub completed_by : PointFormat → TitleEntry → List (List ℕ) → Result TitleEntry TitleMistake
completed_by points row ws =
    if bytes_eq (first_word ws) (codes "backup")
    then and_then (ok_or (point_in points (second_word ws)) title.Backup) (λ point.
    changed_by (record row { backup = Some point }) (behind_two ws))
    else changed_by row ws

-- the row of this name that these words write: `POINT ROUTE SSN`, and the words of a backup and of a change, if any
abbrev pub row_written : PointFormat → RowName → List (List ℕ) → Result TitleEntry TitleMistake
row_written points name ws =
    and_then (row_of points name (first_word ws) (second_word ws) (third_word ws)) (λ row.
    completed_by points row (behind_three ws))
