-- What a SACK says of what was sent, by its cumulative TSN and its gap blocks.
use Rattle.std.specs.Prelude.{ℕ, Bool, false, List, length}
use Rattle.sctp_codec.specs.Packets.{BlockValue}
use Rattle.sctp_sending.specs.declared.confirmation.Confirmation.{Confirmation}
use Rattle.sctp_sending.specs.declared.confirmation.Confirmation.TheVariants.{Old, Beyond, Of}
use Rattle.sctp_sending.specs.Sending.{Sending, confirmed, makes_progress, acknowledged}
use Rattle.sctp_sending.specs.Gaps.{names_in}

-- which messages blocks name once this many are confirmed, by how far each is ahead of the cumulative TSN
abbrev pub names_behind : List BlockValue → Sending → (count now : ℕ) → ℕ → Bool
names_behind blocks s count now = names_in blocks (length (confirmed s count now).out)

-- the sending half after a SACK that confirms so much; one that is old, or confirms what didn't go out, changes nothing
abbrev pub acknowledged_by : Confirmation → (now window : ℕ) → List BlockValue → Sending → Sending
acknowledged_by Old now window blocks s = s
acknowledged_by Beyond now window blocks s = s
acknowledged_by (Of count) now window blocks s = acknowledged s now window count (names_behind blocks s count now)

-- whether it confirms a message, or names one for the first time
abbrev pub progress_by : Confirmation → (now : ℕ) → List BlockValue → Sending → Bool
progress_by Old now blocks s = false
progress_by Beyond now blocks s = false
progress_by (Of count) now blocks s = makes_progress s now count (names_behind blocks s count now)
