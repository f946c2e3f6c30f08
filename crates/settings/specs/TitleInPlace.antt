-- A translation row in place is what its numbers and its digits make, and so is its change of titles.
use Rattle.std.specs.Prelude.{◌≡◌, ◌-◌, take, ◌++◌, replicate}
use Rattle.std.proofs.lemmas.List.{take-append-drop}
use Rattle.settings.specs.TitleRoom.{change_in, IsChangeInPlace, put_change, title_in, IsTitleInPlace, put_title}
use Rattle.signalling_types.specs.declared.limits.TheConstants.Limits.{TITLE_DIGITS}
use Rattle.settings.specs.declared.title_row.TitleRow.TheInside.{Inside}
use Rattle.settings.specs.declared.title_change.TitleChange.TheInside as change

pub put_change-change_in : (c : change.Inside) → IsChangeInPlace c → put_change (change_in c) ≡ c
put_change-change_in c h =
    let row : take c.len c.added ++ replicate (TITLE_DIGITS - c.len) 0 ≡ c.added =
    rw (← h.padded) (take-append-drop c.len c.added) in
    rw (h.len, row)

pub put_title-title_in : (t : Inside) → IsTitleInPlace t → put_title (title_in t) ≡ t
put_title-title_in t h =
    let row : take t.len t.digits ++ replicate (TITLE_DIGITS - t.len) 0 ≡ t.digits =
    rw (← h.padded) (take-append-drop t.len t.digits) in
    rw (h.len, row)
