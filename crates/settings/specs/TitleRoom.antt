-- How a translation row and its change of titles lie in place: their digits at the front of a row of fixed length, and
-- zeros after them.
use Rattle.std.specs.Prelude.{◌≡◌, ◌-◌, ◌++◌, length, take, drop, replicate}
use Rattle.settings.specs.Configuration.{ChangeEntry, TitleEntry}
use Rattle.settings.specs.TitleRanges.{HasTitleRanges, HasChangeRanges}
use Rattle.signalling_types.specs.declared.limits.TheConstants.Limits.{TITLE_DIGITS}
use Rattle.settings.specs.declared.title_row.TitleRow.TheInside.{Inside}
use Rattle.settings.specs.declared.title_change.TitleChange.TheInside as change

abbrev pub change_in : change.Inside → ChangeEntry
change_in c = record {
  plan = c.plan;
  nature = c.nature;
  removed = c.removed;
  added = take c.len c.added;
}

pub record IsChangeInPlace (c : change.Inside) : Type 0 where
  pub row : length c.added ≡ TITLE_DIGITS
  pub padded : drop c.len c.added ≡ replicate (TITLE_DIGITS - c.len) 0
  pub len : length (take c.len c.added) ≡ c.len
  pub ranges : HasChangeRanges (change_in c)

abbrev pub put_change : ChangeEntry → change.Inside
put_change c = record {
  plan = c.plan;
  nature = c.nature;
  removed = c.removed;
  added = c.added ++ replicate (TITLE_DIGITS - length c.added) 0;
  len = length c.added;
}

abbrev pub title_in : Inside → TitleEntry
title_in t = record {
  translation = t.translation;
  plan = t.plan;
  nature = t.nature;
  digits = take t.len t.digits;
  point = t.point;
  backup = t.backup;
  route = t.route;
  change = t.change;
}

pub record IsTitleInPlace (t : Inside) : Type 0 where
  pub row : length t.digits ≡ TITLE_DIGITS
  pub padded : drop t.len t.digits ≡ replicate (TITLE_DIGITS - t.len) 0
  pub len : length (take t.len t.digits) ≡ t.len
  pub ranges : HasTitleRanges t.plan t.nature (take t.len t.digits)

abbrev pub put_title : TitleEntry → Inside
put_title t = record {
  translation = t.translation;
  plan = t.plan;
  nature = t.nature;
  digits = t.digits ++ replicate (TITLE_DIGITS - length t.digits) 0;
  len = length t.digits;
  point = t.point;
  backup = t.backup;
  route = t.route;
  change = t.change;
}
