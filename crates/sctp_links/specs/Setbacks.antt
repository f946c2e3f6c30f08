-- What keeps an association from opening, as it is counted.
use Rattle.std.specs.Prelude.{Option, Some, None}
use Rattle.sctp_rules.specs.declared.loss.Loss.{Loss}
use Rattle.sctp_rules.specs.declared.loss.Loss.TheVariants.{Local, Aborted, Shutdown, Restart, NoAnswer, Refused}
use Rattle.sctp_rules.specs.declared.loss.Loss.TheVariants.{Protocol, BadInitAck, StaleCookie, NoTag}
use Rattle.sctp_endpoint.specs.declared.refusal.Refusal.{Refusal}
use Rattle.sctp_endpoint.specs.declared.refusal.Refusal.TheVariants as refusal
use Rattle.served_link.specs.declared.setback.Setback.{Setback}
use Rattle.served_link.specs.declared.setback.Setback.TheVariants as setback

-- why an INIT or an INIT ACK was refused
abbrev pub setback_by : Refusal → Setback
setback_by refusal.WithoutTag = setback.WithoutTag
setback_by refusal.HostName = setback.HostName
setback_by refusal.FewStreams = setback.FewStreams
setback_by refusal.Unwanted = setback.Unwanted
setback_by refusal.NoTagLeft = setback.NoTagLeft
setback_by refusal.ShuttingDown = setback.ShuttingDown
setback_by refusal.WithoutCookie = setback.WithoutCookie
setback_by refusal.LongCookie = setback.LongCookie

-- why a try failed, in the words that the log has for an association that went down; one that its link no longer wanted
-- didn't fail
abbrev pub failed_by : Loss → Option Setback
failed_by Local = None
failed_by Aborted = Some setback.EndedByPeer
failed_by Shutdown = Some setback.EndedByPeer
failed_by Refused = Some setback.EndedByPeer
failed_by Restart = Some setback.Unanswered
failed_by NoAnswer = Some setback.Unanswered
failed_by StaleCookie = Some setback.Unanswered
failed_by Protocol = Some setback.BadAnswer
failed_by BadInitAck = Some setback.BadAnswer
failed_by NoTag = Some setback.EndedByNode
