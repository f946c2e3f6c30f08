-- The keys and digits of the translation rows that were looked at.
use Rattle.std.specs.Prelude.{◌≡◌, ◌≤◌, ◌&&◌, Bool, List, length, string_bytes}
use Rattle.std.specs.List.{list_any}
use Rattle.std.specs.Str.{bytes_eq}
use Rattle.std.specs.Ordering.{int_eq}
use Rattle.settings.specs.TitleFaults.{is_same_title}
use Rattle.settings.specs.declared.titles.TitleKey.{TitleKey}
use Rattle.settings.specs.declared.draft.TitleDraft.{TitleDraft}
use Rattle.signalling_types.specs.declared.limits.TheConstants.Limits.{TITLE_DIGITS}

-- whether a translation row has this key and these digits
abbrev pub has_key : TitleDraft → TitleKey → Bool
has_key t k =
    int_eq t.translation k.translation
    && (int_eq t.plan k.plan
    && (int_eq t.nature k.nature
    && bytes_eq (string_bytes t.digits) k.digits.items))

-- of rows whose digits aren't too many, the keys are of those that are the same as one of these rows
pub record AreOf (keys : List TitleKey) (titles : List TitleDraft) : Type 0 where
  pub same : (t : TitleDraft) → length (string_bytes t.digits) ≤ TITLE_DIGITS → list_any (has_key t) keys ≡ list_any (is_same_title t) titles
