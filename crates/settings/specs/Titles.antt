-- What may be in one translation row alone.
use Rattle.std.specs.Prelude.{string_bytes}
use Rattle.settings.specs.declared.draft.TitleDraft.{TitleDraft}
use Rattle.settings.specs.declared.titles.TitleKey.{TitleKey}

-- the key and the digits of a translation row, as they were written
abbrev pub title_key : TitleDraft → TitleKey
title_key t = record {
  translation = t.translation;
  plan = t.plan;
  nature = t.nature;
  digits = record { items = string_bytes t.digits };
}
