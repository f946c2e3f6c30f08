-- What a SACK does to the messages on their way: it names some, and passes over those before them.
use Rattle.std.specs.Prelude.{ℕ, Bool, List, length}
use Rattle.sctp_codec.specs.Packets.{BlockValue}
use Rattle.sctp_sending.specs.Outbox.{Outbox}
use Rattle.sctp_sending.specs.Sending.{Naming, named_below, passed_below}
use Rattle.sctp_sending.specs.Gaps.{names_in}

-- what naming some of those that went out leaves, by how far each is ahead of the cumulative TSN
abbrev pub naming_in : (ℕ → Bool) → Outbox → Naming
naming_in names b = named_below names b.out b.went

abbrev pub named_in : (ℕ → Bool) → Outbox → Outbox
named_in names b = record { out = (naming_in names b).out; went = b.went }

-- what blocks name
abbrev pub names_of : List BlockValue → Outbox → ℕ → Bool
names_of blocks b = names_in blocks (length b.out)

-- what passing over the first ones leaves
abbrev pub passed_in : Outbox → (reach : ℕ) → Outbox
passed_in b reach = record { out = (passed_below b.out reach).out; went = b.went }
