-- How a packet that is written is kept.
use Rattle.std.specs.Prelude.{◌≤◌, take}
use Rattle.sctp_bundling.specs.declared.draft.Draft.TheInside.{Inside}
use Rattle.sctp_bundling.specs.Bundling.{Draft}
use Rattle.sctp_bundling.specs.Ways.{way_of}

abbrev pub draft_in : Inside → Draft
draft_in d = record { way = way_of d.way; text = take d.end d.out; end = d.end }

pub record IsDraft (d : Inside) : Type 0 where
  pub front : 12 ≤ d.end
  pub room : d.end ≤ 1200
