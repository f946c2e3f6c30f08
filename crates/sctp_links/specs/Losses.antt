-- Why an association went down, in the words of the log.
use Rattle.std.specs.Prelude.{ℕ, List, codes}
use Rattle.sctp_rules.specs.declared.loss.Loss.{Loss}
use Rattle.sctp_rules.specs.declared.loss.Loss.TheVariants.{Local, Aborted, Shutdown, Restart, NoAnswer, Refused}
use Rattle.sctp_rules.specs.declared.loss.Loss.TheVariants.{Protocol, BadInitAck, StaleCookie, NoTag}

abbrev pub word_of : Loss → List ℕ
-- the peer ended it, or refused it
word_of Aborted = codes "peer"
word_of Shutdown = codes "peer"
word_of Refused = codes "peer"
-- it has restarted
word_of Restart = codes "restart"
-- it doesn't answer, or finds each cookie stale
word_of NoAnswer = codes "silence"
word_of StaleCookie = codes "silence"
-- it violates the protocol
word_of Protocol = codes "framing"
word_of BadInitAck = codes "framing"
-- this node ended it, or has no tag left
word_of Local = codes "node"
word_of NoTag = codes "node"
