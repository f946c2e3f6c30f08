-- What ends a hold, and what takes a link down: laws.
use Rattle.std.specs.Prelude.{◌≡◌, ◌≤◌, ◌==◌, ◌⊎◌, ℕ, Bool, true, false, not, Contains, List, Option, Some, None}
use Rattle.std.specs.Prelude.{Result, Ok, Err}
use Rattle.std.specs.Prelude.{if◌then◌else◌}
use Rattle.std.specs.List.{count_by}
use Rattle.std.specs.Option.{option_map}
use Rattle.settings.specs.Configuration.{Configuration}
use Rattle.settings.specs.Readings.{set_place}
use Rattle.signalling_types.specs.Message.{Message, opc_of}
use Rattle.signalling_types.specs.declared.notice.Notice.{Notice}
use Rattle.signalling_types.specs.declared.notice.Notice.TheVariants as notices
use Rattle.signalling_types.specs.declared.notice.FailureReason.{FailureReason}
use Rattle.signalling_types.specs.declared.notice.FailureReason.TheVariants as reasons
use Rattle.signalling_types.specs.declared.notice.FrameFault.{FrameFault}
use Rattle.signalling_types.specs.declared.notice.FrameFault.TheVariants as faults
use Rattle.m2pa_codec.specs.Frames.{FrameValue, read_frame}
use Rattle.m2pa_codec.specs.declared.status.LinkStatus.{LinkStatus}
use Rattle.m2pa_codec.specs.declared.status.LinkStatus.TheVariants.{ProcessorRecovered}
use Rattle.mtp3_codec.specs.Management.{read_management}
use Rattle.mtp3_codec.specs.declared.fault.MgmtFault.{MgmtFault}
use Rattle.mtp3_codec.specs.declared.management.Management.{Management}
use Rattle.mtp3_codec.specs.declared.management.Management.TheVariants.{ExtendedChangeoverOrder}
use Rattle.mtp3_codec.specs.declared.management.Management.TheVariants.{ExtendedChangeoverAcknowledgement}
use Rattle.mtp3_codec.specs.declared.management.Management.TheVariants.{EmergencyChangeoverOrder}
use Rattle.mtp3_codec.specs.declared.management.Management.TheVariants.{EmergencyChangeoverAcknowledgement}
use Rattle.mtp3_codec.specs.declared.management.Management.TheVariants.{ChangebackAcknowledgement}
use Rattle.mtp3_codec.specs.declared.discrimination.Discrimination.{Discrimination}
use Rattle.mtp3_codec.specs.declared.discrimination.Discrimination.TheVariants as whither
use Rattle.link.specs.declared.action.Action.{Action}
use Rattle.link.specs.declared.action.Action.TheVariants as act
use Rattle.link.specs.declared.action.Input.TheVariants.{Status, UserData}
use Rattle.link.specs.declared.action.LinkTimer.{LinkTimer}
use Rattle.link.specs.declared.action.LinkTimer.TheVariants as link_timer
use Rattle.link.specs.declared.fault.SeqFault.{SeqFault}
use Rattle.node_links.specs.NodeLinks.{acts_on}
use Rattle.timers.specs.declared.name.TimerName.{TimerName}
use Rattle.timers.specs.declared.name.TimerName.TheVariants.{T1, T2, T3, T4, T6, Slt1}
use Rattle.flow_hold.specs.declared.procedure.Procedure.{Procedure}
use Rattle.flow_hold.specs.declared.procedure.Procedure.TheVariants.{Changeover, Code, Time, Reroute}
use Rattle.flow_hold.specs.Holds.{holds}
use Rattle.changeback.specs.Codes.{is_outstanding}
use Rattle.signalling_types.specs.declared.outcome.Outcome.TheVariants.{Ignored}
use Rattle.exchange_rules.specs.State.{Happening, FrameCame, WentDown, Deactivated, Node, Parts, answer, noted_all}
use Rattle.exchange_rules.specs.State.{down, link_at}
use Rattle.exchange_rules.specs.Timing.{timer_name}
use Rattle.exchange_rules.specs.Frames.{Carrying, data_of, numbers, advance, in_outage, tells_outage}
use Rattle.exchange_rules.specs.Messages.{whither_goes, link_with_code, on_management}
use Rattle.exchange_rules.specs.ChangingOver.{changeover_of}
use Rattle.exchange_rules.specs.Exchange.{after, taken}
use Rattle.exchange_rules.specs.Queues.{WholeQueues, whole}
use Rattle.exchange_rules.specs.First.{Abstract}
use Rattle.exchange_rules.specs.Receiving.{new_message}
use Rattle.exchange_rules.specs.Conserving.{is_word}
use Rattle.exchange_rules.specs.Aligning.{RunsOut, Says}

-- ---- the management message of an event

-- what an adjacent point says
pub record Word : Type 0 where
  pub point : ℕ
  pub says : Management

abbrev pub word_read : (point : ℕ) → Result Management MgmtFault → Option Word
word_read point (Ok says) = Some (record { point = point; says = says })
word_read point (Err fault) = None

-- that of a message, by where it goes
abbrev pub word_to : Discrimination → Configuration → Message → Option Word
word_to (whither.Refused fault) c m = None
word_to (whither.Here label) c m = if is_word c m then word_read (opc_of m) (read_management m.sif) else None
word_to (whither.Transfer label) c m = None

abbrev pub word_of : Configuration → Option Message → Option Word
word_of c (Some m) = word_to (whither_goes c m) c m
word_of c None = None

-- that of the message that a frame newly carries, by whatever link it came
abbrev pub word_heard : Happening → Abstract → Option Word
word_heard (FrameCame link text) a = word_of a.settings (new_message link text a)
word_heard what a = None

-- ---- what ends a hold

-- the procedure whose holds a word may end: an order to change over, or the answer to one, the changeover of its link;
-- the answer to a declaration its code
abbrev pub ended_by : Configuration → (point : ℕ) → Management → Option Procedure
ended_by c point (ExtendedChangeoverOrder slc number) = option_map Changeover (link_with_code c point slc)
ended_by c point (EmergencyChangeoverOrder slc) = option_map Changeover (link_with_code c point slc)
ended_by c point (ExtendedChangeoverAcknowledgement slc number) = option_map Changeover (link_with_code c point slc)
ended_by c point (EmergencyChangeoverAcknowledgement slc) = option_map Changeover (link_with_code c point slc)
ended_by c point (ChangebackAcknowledgement slc code) = option_map (λ set. Code set code) (set_place c point)
ended_by c point other = None

-- that whose holds a timer ends: T1 and T2 those of a changeover, T3 those by time, T4 those of a code, and T6 those of
-- a rerouting
abbrev pub ended_by_timer : TimerName → Option Procedure
ended_by_timer (T1 link) = Some (Changeover link)
ended_by_timer (T2 link) = Some (Changeover link)
ended_by_timer (T3 link) = Some (Time link)
ended_by_timer (T4 set code) = Some (Code set code)
ended_by_timer (T6 destination) = Some (Reroute destination)
ended_by_timer other = None

pub record EndsByWord (procedure : Procedure) (what : Happening) (a : Abstract) : Type 0 where
  pub word : Word
  pub heard : word_heard what a ≡ Some word
  pub ends : ended_by a.settings word.point word.says ≡ Some procedure

pub record EndsByTimer (procedure : Procedure) (what : Happening) (a : Abstract) : Type 0 where
  pub timer : TimerName
  pub runs_out : RunsOut timer what a.node.parts.timers
  pub ends : ended_by_timer timer ≡ Some procedure

-- that of the changeover of a link whose peer's processor was out: the peer says that it recovered
pub record EndsByRecovery (procedure : Procedure) (what : Happening) (a : Abstract) : Type 0 where
  pub link : ℕ
  pub says : Says link ProcessorRecovered what
  pub out : in_outage a.node.parts link ≡ true
  pub ends : procedure ≡ Changeover link

-- a procedure that holds a flow before an event, and doesn't after it, ended by such a word, by such a timer, or by the
-- end of an outage
abbrev pub holds_end_so : Type 0
holds_end_so =
    (what : Happening) (a : Abstract) (procedure : Procedure) (destination sls : ℕ) →
    holds a.node.parts.holds procedure destination sls ≡ true →
    holds (after whole what a).node.parts.holds procedure destination sls ≡ false →
    EndsByWord procedure what a ⊎ (EndsByTimer procedure what a ⊎ EndsByRecovery procedure what a)

-- whether an answer is awaited by nobody: one to an order, about a link whose changeover doesn't await it; one to a
-- declaration, with a code that doesn't
abbrev pub is_order_unasked : Parts → Option ℕ → Bool
is_order_unasked p (Some link) = not (changeover_of p link).awaited
is_order_unasked p None = false

abbrev pub is_code_unasked : Parts → (code : ℕ) → Option ℕ → Bool
is_code_unasked p code (Some set) = not (is_outstanding p.codes set code)
is_code_unasked p code None = true

abbrev pub is_unasked : Configuration → Parts → (point : ℕ) → Management → Bool
is_unasked c p point (ExtendedChangeoverAcknowledgement slc number) = is_order_unasked p (link_with_code c point slc)
is_unasked c p point (EmergencyChangeoverAcknowledgement slc) = is_order_unasked p (link_with_code c point slc)
is_unasked c p point (ChangebackAcknowledgement slc code) = is_code_unasked p code (set_place c point)
is_unasked c p point other = false

-- such an answer is ignored, and ends no hold
abbrev pub unasked_answers_are_ignored : Type 0
unasked_answers_are_ignored =
    (c : Configuration) (point : ℕ) (says : Management) (node : Node WholeQueues) →
    is_unasked c node.parts point says ≡ true → on_management whole c says point node ≡ answer Ignored node

-- a take ends none, and begins none
abbrev pub takes_leave_holds : Type 0
takes_leave_holds = (a : Abstract) (link : ℕ) → (taken whole a link).node.parts.holds ≡ a.node.parts.holds

-- ---- what takes a link down

-- whether User Data fails a link: it doesn't expect that yet, or one of the numbers is wrong
abbrev pub is_wrong : Result ℕ SeqFault → Bool
is_wrong (Ok confirmed) = false
is_wrong (Err fault) = true

abbrev pub is_misplaced_at : Action → ℕ → Carrying → Configuration → Node WholeQueues → Bool
is_misplaced_at act.Ignored link d c node = false
is_misplaced_at act.Fail link d c node = true
is_misplaced_at (act.Go step) link d c node = is_wrong (numbers whole c link d (advance whole c link step node))

abbrev pub is_misplaced_in : Option Carrying → ℕ → Configuration → Node WholeQueues → Bool
is_misplaced_in None link c node = false
is_misplaced_in (Some d) link c node =
    is_misplaced_at (acts_on (link_at node.parts link) UserData) link d c node

abbrev pub is_misplaced : Result FrameValue FrameFault → ℕ → Configuration → Node WholeQueues → Bool
is_misplaced (Ok frame) link c node = is_misplaced_in (data_of frame) link c node
is_misplaced (Err fault) link c node = false

-- the link whose changeover a word orders
abbrev pub ordered_by : Configuration → (point : ℕ) → Management → Option ℕ
ordered_by c point (ExtendedChangeoverOrder slc number) = link_with_code c point slc
ordered_by c point (EmergencyChangeoverOrder slc) = link_with_code c point slc
ordered_by c point other = None

-- whether a link may fail as a timer of it runs out. At the end of L4 it was proved. Each other timer runs in one state
-- alone (`links_have_their_timers`), which it ends
abbrev pub fails_by : LinkTimer → Bool
fails_by link_timer.L1 = true
fails_by link_timer.L2 = true
fails_by link_timer.L3 = true
fails_by link_timer.L4 = false
fails_by link_timer.L6 = true
fails_by link_timer.L7 = true

-- a link may fail by an event, for each reason: its association goes down; such a timer of it runs out; a frame came by
-- it, with User Data out of place, with a status that fails it in its state and begins no outage, or of a wrong length;
-- its peer orders a changeover of it, by any link; the operator deactivates it; or a test of it isn't answered in time
abbrev pub MayFail : FailureReason → (link : ℕ) → Happening → Abstract → Type 0
MayFail reasons.Association link what a = what ≡ WentDown link
MayFail reasons.Timer link what a =
    (timer : LinkTimer) × (fails_by timer ≡ true) × RunsOut (timer_name link timer) what a.node.parts.timers
MayFail reasons.Sequence link what a =
    (text : List ℕ) × (what ≡ FrameCame link text)
    × (is_misplaced (read_frame text) link a.settings a.node ≡ true)
MayFail reasons.Status link what a =
    (status : LinkStatus) × Says link status what × (tells_outage a.settings link status a.node.parts ≡ false)
    × (acts_on (link_at a.node.parts link) (Status status) ≡ act.Fail)
MayFail reasons.Length link what a =
    (text : List ℕ) × (what ≡ FrameCame link text) × (read_frame text ≡ Err faults.Length)
MayFail reasons.Changeover link what a =
    (word : Word) × (word_heard what a ≡ Some word) × (ordered_by a.settings word.point word.says ≡ Some link)
MayFail reasons.Operator link what a = what ≡ Deactivated link
MayFail reasons.Test link what a = RunsOut (Slt1 link) what a.node.parts.timers

-- whether a notice names this link as failed
abbrev pub says_failed : (link : ℕ) → Notice → Bool
says_failed link (notices.Failed other why) = other == link
says_failed link (notices.Lost cause point sls) = false
says_failed link (notices.Unsent cause point) = false
says_failed link (notices.Expired timer other) = false
says_failed link (notices.Unbarred by other) = false
says_failed link (notices.Refused cause other) = false
says_failed link (notices.Frame fault other) = false
says_failed link (notices.Late timer number) = false

-- An event makes these notices. It names a link as failed exactly if it takes it down, once, and with a reason for
-- which it may fail it.
pub record AreFailuresNamed (what : Happening) (a : Abstract) (new : Node WholeQueues) : Type 0 where
  pub made : List Notice
  pub noted : new.parts.notices ≡ noted_all made a.node.parts.notices
  pub causes : (link : ℕ) (why : FailureReason) → Contains made (notices.Failed link why) → MayFail why link what a
  pub goes : (link : ℕ) (why : FailureReason) → Contains made (notices.Failed link why) →
      (down a.node.parts link ≡ false) × (down new.parts link ≡ true)
  pub named : (link : ℕ) → down a.node.parts link ≡ false → down new.parts link ≡ true →
      (why : FailureReason) × Contains made (notices.Failed link why)
  pub once : (link : ℕ) → count_by (says_failed link) made ≤ 1

abbrev pub links_fail_so : Type 0
links_fail_so = (what : Happening) (a : Abstract) → AreFailuresNamed what a (after whole what a).node
