-- The law of translation at two rows, one of which begins the other: a definition that takes another prefix than the
-- longest makes it false here.
use Rattle.std.specs.Prelude.{◌≡◌, ℕ, List, [], ◌∷◌, Ok, None}
use Rattle.settings.specs.Configuration.{TitleEntry, unchanged}
use Rattle.settings.specs.declared.title_row.TitleRoute.TheVariants.{Title}
use Rattle.sccp_codec.specs.declared.title.TitleKey.{TitleKey}
use Rattle.sccp_relay.specs.Rows.{IsOrdered}
use Rattle.sccp_relay.specs.Translation.{IsTranslation, translation}

abbrev pub key : TitleKey
key = record { translation = 0; plan = 1; nature = 4 }

-- a row of this key
abbrev pub row : (digits : List ℕ) → TitleEntry
row digits = record {
  translation = 0;
  plan = 1;
  nature = 4;
  digits = digits;
  point = 2;
  backup = None;
  route = Title None;
  change = unchanged;
}

-- rows 49 and 4917
abbrev pub rows : List TitleEntry
rows = row (4 ∷ 9 ∷ []) ∷ row (4 ∷ 9 ∷ 1 ∷ 7 ∷ []) ∷ []

-- digits that both of them begin
abbrev pub digits : List ℕ
digits = 4 ∷ 9 ∷ 1 ∷ 7 ∷ 5 ∷ []

abbrev pub are_ordered : Type 0
are_ordered = IsOrdered rows

abbrev pub is_translation : Type 0
is_translation = IsTranslation rows key digits (row (4 ∷ 9 ∷ 1 ∷ 7 ∷ []))

-- so it is what the table answers
abbrev pub longest_is_found : Type 0
longest_is_found = translation rows key digits ≡ Ok (row (4 ∷ 9 ∷ 1 ∷ 7 ∷ []))
