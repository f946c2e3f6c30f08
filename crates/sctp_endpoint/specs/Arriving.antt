-- A SACK that comes, step by step.
use Rattle.std.specs.Prelude.{ℕ}
use Rattle.sctp_codec.specs.Packets.{SackValue}
use Rattle.sctp_sending.specs.declared.confirmation.Confirmation.{Confirmation}
use Rattle.sctp_sending.specs.declared.confirmation.Confirmation.TheVariants.{Old, Beyond, Of}
use Rattle.sctp_rules.specs.State.{State}
use Rattle.sctp_rules.specs.Data.{after_sack}

-- one that is old, or confirms what wasn't sent, changes nothing
abbrev pub noted_sack : Confirmation → (now : ℕ) → SackValue → State → State
noted_sack Old now sack s = s
noted_sack Beyond now sack s = s
noted_sack (Of count) now sack s = after_sack now sack s
