-- What causes of the code say.
use Rattle.std.specs.Prelude.{ℕ, List, [], ◌++◌, Option, Some, None}
use Rattle.sctp_codec.specs.declared.cause.Cause.{Cause}
use Rattle.sctp_codec.specs.declared.cause.Cause.TheVariants as variant
use Rattle.sctp_codec.specs.declared.cause.CauseParts.{CauseParts}
use Rattle.sctp_codec.specs.Items.{ItemValue}
use Rattle.sctp_codec.specs.Parameters.{CauseValue, NoStream, StaleCookie, UnresolvableAddress, UnrecognizedChunk}
use Rattle.sctp_codec.specs.Parameters.{InvalidParameter, NoUserData, CookieInShutdown, EndedByUser, ProtocolViolation}

abbrev pub cause_of : Cause → CauseValue
cause_of (variant.NoStream stream) = NoStream stream
cause_of (variant.StaleCookie microseconds) = StaleCookie microseconds
cause_of (variant.UnresolvableAddress name) = UnresolvableAddress name.now
cause_of (variant.UnrecognizedChunk kind flags value) = UnrecognizedChunk kind flags value.now
cause_of variant.InvalidParameter = InvalidParameter
cause_of (variant.NoUserData tsn) = NoUserData tsn
cause_of variant.CookieInShutdown = CookieInShutdown
cause_of variant.EndedByUser = EndedByUser
cause_of (variant.ProtocolViolation words) = ProtocolViolation words.now

abbrev pub front_octets : Option (List ℕ) → List ℕ
front_octets None = []
front_octets (Some octets) = octets

-- the cause that these parts make
abbrev pub parts_of : CauseParts → ItemValue
parts_of p = record { kind = p.code; value = front_octets p.front ++ p.behind.now }
