-- What tags are drawn from, as the struct keeps it.
use Rattle.std.specs.Prelude.{◌≡◌, ◌≤◌, length}
use Rattle.sctp_cookie.specs.declared.tags.Tags.TheInside.{Inside}
use Rattle.sctp_cookie.specs.Tags.{Drawing, numbers}

abbrev pub drawing_in : Inside → Drawing
drawing_in t = record { key = t.key; used = t.used }

pub record IsDrawing (t : Inside) : Type 0 where
  pub key : length t.key ≡ 32
  pub used : t.used ≤ numbers
