use Rattle.std.proofs.Common.{length}
use Rattle.sctp_codec.proofs.Grammar.{are-read, read-are}
use Rattle.sctp_codec.proofs.laws.items_are_what_is_read.Goals as goal

pub returns : goal.returns
returns c = λ octets items fits. (are-read octets items, read-are (length octets) octets items fits)
