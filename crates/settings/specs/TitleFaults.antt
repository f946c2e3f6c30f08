-- The first fault of translation rows as they were written.
use Rattle.std.specs.Prelude.{not, ◌&&◌, nat_le, ℕ, Bool, List, [], ◌∷◌, Option, length, string_bytes}
use Rattle.std.specs.List.{list_any}
use Rattle.std.specs.Str.{bytes_eq}
use Rattle.std.specs.Ordering.{int_eq}
use Rattle.settings.specs.Checks.{first_of, fault_unless, range_fault, entries_fault, optional_fault}
use Rattle.settings.specs.Checks.{digits_fault, added_fault, route_fault, ssn_fault}
use Rattle.settings.specs.Meaning.{is_by_title}
use Rattle.settings.specs.declared.fault.DraftFault.{DraftFault}
use Rattle.settings.specs.declared.fault.FaultKind.TheVariants.{Duplicate, TooMany}
use Rattle.settings.specs.declared.key.Key.TheVariants.{Title, TitleTranslation, TitlePlan, TitleNature}
use Rattle.settings.specs.declared.key.Key.TheVariants.{TitleDigits, TitlePoint, TitleBackup, TitleRoute, TitleSsn}
use Rattle.settings.specs.declared.key.Key.TheVariants.{TitleNewPlan, TitleNewNature, TitleRemove, TitleAdd}
use Rattle.signalling_types.specs.declared.limits.TheConstants.Limits.{TITLES, TITLE_DIGITS}
use Rattle.settings.specs.declared.draft.TitleDraft.{TitleDraft}
use Rattle.settings.specs.declared.draft.ChangeDraft.{ChangeDraft}

-- whether two translation rows have one key and the same digits
abbrev pub is_same_title : TitleDraft → TitleDraft → Bool
is_same_title t e =
    int_eq t.translation e.translation
    && (int_eq t.plan e.plan
    && (int_eq t.nature e.nature
    && bytes_eq (string_bytes t.digits) (string_bytes e.digits)))

-- the digits of a translation row: well formed, and no row before it has the same key and digits
abbrev pub title_digits_fault : List TitleDraft → TitleDraft → Option DraftFault
title_digits_fault earlier t = first_of (
    digits_fault (TitleDigits (length earlier)) (string_bytes t.digits)
    ∷ fault_unless (not (list_any (is_same_title t) earlier)) Duplicate (TitleDigits (length earlier))
    ∷ [])

-- the numbers of a translation row at this index: its translation type, numbering plan and nature of address
abbrev pub title_numbers_checks : ℕ → TitleDraft → List (Option DraftFault)
title_numbers_checks place t =
    range_fault 0 255 (TitleTranslation place) t.translation
    ∷ range_fault 0 15 (TitlePlan place) t.plan
    ∷ range_fault 0 127 (TitleNature place) t.nature
    ∷ []

abbrev pub title_numbers_fault : ℕ → TitleDraft → Option DraftFault
title_numbers_fault place t = first_of (title_numbers_checks place t)

-- where a translation row at this index leads to: its point, its backup, its route and its subsystem number
abbrev pub title_target_fault : ℕ → TitleDraft → Option DraftFault
title_target_fault place t = first_of (
    range_fault 0 16383 (TitlePoint place) t.point
    ∷ optional_fault 0 16383 (TitleBackup place) t.backup
    ∷ route_fault (TitleRoute place) (string_bytes t.route)
    ∷ ssn_fault (is_by_title t) (TitleSsn place) t.ssn
    ∷ [])

-- how a translation row at this index changes titles: the numbering plan and the nature of address that they get, and
-- the digits that are taken off and put on
abbrev pub title_change_checks : ℕ → ChangeDraft → List (Option DraftFault)
title_change_checks place c =
    optional_fault 0 15 (TitleNewPlan place) c.plan
    ∷ optional_fault 0 127 (TitleNewNature place) c.nature
    ∷ range_fault 0 TITLE_DIGITS (TitleRemove place) c.removed
    ∷ added_fault (TitleAdd place) (string_bytes c.added)
    ∷ []

abbrev pub title_change_fault : ℕ → ChangeDraft → Option DraftFault
title_change_fault place c = first_of (title_change_checks place c)

-- the first fault of a translation row, after the rows before it
abbrev pub title_fault : List TitleDraft → TitleDraft → Option DraftFault
title_fault earlier t = first_of (
    title_numbers_fault (length earlier) t
    ∷ title_digits_fault earlier t
    ∷ title_target_fault (length earlier) t
    ∷ title_change_fault (length earlier) t.change
    ∷ [])

-- the translation rows: as many as there may be, or none, and each without a fault
unfoldable pub titles_fault : List TitleDraft → Option DraftFault
titles_fault titles = first_of (
    fault_unless (nat_le (length titles) TITLES) TooMany Title
    ∷ entries_fault title_fault [] titles
    ∷ [])
