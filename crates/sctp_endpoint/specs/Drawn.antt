-- The tags that were drawn, as the struct keeps them.
use Rattle.std.specs.Prelude.{◌≡◌, ◌≤◌, ℕ, List}
use Rattle.sctp_endpoint.specs.declared.beginnings.Beginnings.TheInside.{Inside}
use Rattle.sctp_ends.specs.Keyed.{drawing_after}

-- a key, and how many tags were drawn under it
pub record Drawn : Type 0 where
  pub key : List ℕ
  pub count : ℕ

abbrev pub drawn_in : Inside → Drawn
drawn_in b = record { key = b.tags.key; count = b.count }

pub record IsDrawn (b : Inside) : Type 0 where
  pub tags : b.tags ≡ drawing_after b.tags.key b.count
  pub count : b.count ≤ b.tags.used
