-- The messages on their way with running counts, as the struct keeps them.
use Rattle.std.specs.Prelude.{◌≡◌, ◌≤◌, length, take, All}
use Rattle.sctp_sending.specs.declared.outbox.Outbox.TheInside.{Inside}
use Rattle.sctp_sending.specs.Outgoing.{octets_of}
use Rattle.sctp_sending.specs.Outbox.{Outbox}
use Rattle.sctp_sending.specs.Tallies.{tally_of}

abbrev pub outbox_in : Inside → Outbox
outbox_in b = record { out = b.ring; went = b.went }

pub record IsTallied (b : Inside) : Type 0 where
  pub went : b.went ≤ length b.ring
  pub most : length b.ring ≤ 256
  pub short : All (λ o. octets_of o ≤ 290) b.ring
  pub tally : b.tally ≡ tally_of (take b.went b.ring)
