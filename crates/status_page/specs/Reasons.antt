-- The causes, reasons and kinds by which there is a metric each.
use Rattle.std.specs.Prelude.{ℕ, List, [], ◌∷◌}
use Rattle.signalling_types.specs.declared.cause.Cause.{Cause}
use Rattle.signalling_types.specs.declared.cause.Cause.TheVariants.{WrongNetwork, NoLabel, UnknownDestination}
use Rattle.signalling_types.specs.declared.cause.Cause.TheVariants.{NoRoute, PoolFull, NoUserPart}
use Rattle.signalling_types.specs.declared.cause.Cause.TheVariants.{NotInProfile, BadManagement, BadSccp}
use Rattle.signalling_types.specs.declared.cause.Cause.TheVariants.{NoNature, NoDigits, Unequipped, TooLong}
use Rattle.signalling_types.specs.declared.cause.Cause.TheVariants.{LostUnconfirmed, ManagementFull}
use Rattle.signalling_types.specs.declared.cause.Cause.TheVariants.{NotFromAdjacent, LinkNotReady}
use Rattle.signalling_types.specs.declared.cause.Cause.TheVariants.{ChangeoverPending, NoMemory, TableFull}
use Rattle.signalling_types.specs.declared.cause.Cause.TheVariants.{DuplicateRow, NoSuchName, HopCounter, ShareFull}
use Rattle.signalling_types.specs.declared.cause.Cause.TheVariants.{SubsystemProhibited}
use Rattle.signalling_types.specs.declared.notice.FailureReason.{FailureReason}
use Rattle.signalling_types.specs.declared.notice.FailureReason.TheVariants.{Association, Timer, Sequence}
use Rattle.signalling_types.specs.declared.notice.FailureReason.TheVariants.{Status, Length, Changeover}
use Rattle.signalling_types.specs.declared.notice.FailureReason.TheVariants.{Operator, Test}
use Rattle.served_link.specs.declared.management_kind.ManagementKind.{ManagementKind}
use Rattle.served_link.specs.declared.management_kind.ManagementKind.TheVariants as management
use Rattle.served_link.specs.declared.setback.Setback.{Setback}
use Rattle.served_link.specs.declared.setback.Setback.TheVariants.{OtherPort, TooMany, WithoutTag, HostName}
use Rattle.served_link.specs.declared.setback.Setback.TheVariants.{FewStreams, Unwanted, NoTagLeft, ShuttingDown}
use Rattle.served_link.specs.declared.setback.Setback.TheVariants.{WithoutCookie, LongCookie, EndedByPeer}
use Rattle.served_link.specs.declared.setback.Setback.TheVariants.{Unanswered, BadAnswer, EndedByNode}
use Rattle.status_page.specs.declared.noticed.NoticeKind.{NoticeKind}
use Rattle.status_page.specs.declared.noticed.NoticeKind.TheVariants as noticed

-- the causes of refusals, and the reasons of failures
abbrev pub causes : List Cause
causes =
    WrongNetwork ∷ NoLabel ∷ UnknownDestination ∷ NoRoute ∷ PoolFull ∷ NoUserPart ∷ NotInProfile ∷
    BadManagement ∷ BadSccp ∷ NoNature ∷ NoDigits ∷ Unequipped ∷ TooLong ∷ LostUnconfirmed ∷ ManagementFull ∷
    NotFromAdjacent ∷ LinkNotReady ∷ ChangeoverPending ∷ NoMemory ∷ TableFull ∷ DuplicateRow ∷ NoSuchName
    ∷ HopCounter ∷ ShareFull ∷ SubsystemProhibited ∷ []

abbrev pub reasons : List FailureReason
reasons = Association ∷ Timer ∷ Sequence ∷ Status ∷ Length ∷ Changeover ∷ Operator ∷ Test ∷ []

-- why INITs are refused, and why tries fail
abbrev pub init_reasons : List Setback
init_reasons =
    OtherPort ∷ TooMany ∷ WithoutTag ∷ HostName ∷ FewStreams ∷ Unwanted ∷ NoTagLeft ∷ ShuttingDown ∷
    WithoutCookie ∷ LongCookie ∷ []

abbrev pub try_reasons : List Setback
try_reasons = EndedByPeer ∷ Unanswered ∷ BadAnswer ∷ EndedByNode ∷ []

-- the kinds of notices
abbrev pub notice_kinds : List NoticeKind
notice_kinds =
    noticed.Refused ∷ noticed.Frame ∷ noticed.Failed ∷ noticed.Lost ∷ noticed.Unsent ∷ noticed.Expired ∷
    noticed.Unbarred ∷ noticed.Late ∷ noticed.Missed ∷ []

-- the kinds of management messages and link tests
abbrev pub management_kinds : List ManagementKind
management_kinds =
    management.ChangeoverOrder ∷ management.ChangeoverAcknowledgement ∷ management.ExtendedChangeoverOrder ∷
    management.ExtendedChangeoverAcknowledgement ∷ management.ChangebackDeclaration ∷
    management.ChangebackAcknowledgement ∷ management.EmergencyChangeoverOrder ∷
    management.EmergencyChangeoverAcknowledgement ∷ management.TransferControlled ∷
    management.TransferProhibited ∷ management.TransferRestricted ∷ management.TransferAllowed ∷
    management.RouteSetTestProhibited ∷ management.RouteSetTestRestricted ∷
    management.TrafficRestartAllowed ∷ management.UserPartUnavailable ∷ management.LinkTest ∷
    management.LinkTestAcknowledgement ∷ []

-- the service indicators (Q.704 §14.2.1)
abbrev pub services : List ℕ
services =
    0 ∷ 1 ∷ 2 ∷ 3 ∷ 4 ∷ 5 ∷ 6 ∷ 7 ∷ 8 ∷ 9 ∷ 10 ∷ 11 ∷ 12 ∷ 13 ∷ 14 ∷ 15 ∷ []
