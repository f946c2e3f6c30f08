-- What an address is translated to (Q.714 §2.4). Among all rows of its key whose digits begin those of the address, the
-- longest wins; that choice is this node's.
use Rattle.std.specs.Prelude.{ℕ, ◌≤◌, Bool, IsTrue, ◌&&◌, ◌==◌, if◌then◌else◌, nat_eq, nat_lt, List, [], ◌∷◌, length, filter, All, Contains, Option, Some, None, Result, Ok, Err}
use Rattle.std.specs.List.{starts_with, list_any}
use Rattle.settings.specs.Configuration.{TitleEntry}
use Rattle.signalling_types.specs.declared.cause.Cause.{Cause}
use Rattle.signalling_types.specs.declared.cause.Cause.TheVariants.{NoNature, NoDigits}
use Rattle.sccp_codec.specs.declared.title.TitleKey.{TitleKey}

-- the row is of this translation type, plan and nature
abbrev pub has_key : TitleKey → TitleEntry → Bool
has_key key row = row.translation == key.translation && row.plan == key.plan && row.nature == key.nature

-- the row is of this key, and its digits begin these
abbrev pub leads : TitleKey → List ℕ → TitleEntry → Bool
leads key digits row = has_key key row && starts_with nat_eq digits row.digits

-- the row that has more digits; of two that have as many, the first
abbrev pub longer : Option TitleEntry → TitleEntry → Option TitleEntry
longer None row = Some row
longer (Some best) row = if nat_lt (length best.digits) (length row.digits) then Some row else Some best

-- the row that has the most digits
abbrev pub longest_from : Option TitleEntry → List TitleEntry → Option TitleEntry
longest_from best [] = best
longest_from best (row ∷ rows) = longest_from (longer best row) rows

abbrev pub longest : List TitleEntry → Option TitleEntry
longest rows = longest_from None rows

-- why an address leads nowhere: no row is of its key, or none of these begins its digits
abbrev pub translation_refusal : List TitleEntry → TitleKey → Cause
translation_refusal rows key = if list_any (has_key key) rows then NoDigits else NoNature

abbrev pub or_refusal : Option TitleEntry → Cause → Result TitleEntry Cause
or_refusal (Some row) cause = Ok row
or_refusal None cause = Err cause

-- the longest of the rows that lead these digits
abbrev pub translation : List TitleEntry → TitleKey → List ℕ → Result TitleEntry Cause
translation rows key digits = or_refusal (longest (filter (leads key digits) rows)) (translation_refusal rows key)

-- what makes a row that one
pub record IsTranslation (rows : List TitleEntry) (key : TitleKey) (digits : List ℕ) (row : TitleEntry) : Type 0 where
  pub among : Contains rows row
  pub leading : IsTrue (leads key digits row)
  pub longest : All (λ other. IsTrue (leads key digits other) → length other.digits ≤ length row.digits) rows
