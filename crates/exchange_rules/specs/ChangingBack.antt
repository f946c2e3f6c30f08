-- TCBC, changeback control (Q.704 §6): a link carries traffic again, and takes its flows back from the links that
-- carried them meanwhile.
use Rattle.std.specs.Prelude.{ℕ, zero, suc, Bool, true, false, not, ◌&&◌, nat_eq, length, Option, Some, None, if◌then◌else◌}
use Rattle.settings.specs.Configuration.{Configuration}
use Rattle.signalling_types.specs.Message.{Message}
use Rattle.signalling_types.specs.declared.cause.Cause.{Cause}
use Rattle.signalling_types.specs.declared.outcome.Outcome.TheVariants.{Handled, Ignored}
use Rattle.signalling_types.specs.declared.notice.Notice.{Notice}
use Rattle.signalling_types.specs.declared.notice.Notice.TheVariants as notices
use Rattle.signalling_types.specs.declared.notice.LateTimer.TheVariants as late_timer
use Rattle.mtp3_codec.specs.declared.management.Management.TheVariants.{ChangebackDeclaration, ChangebackAcknowledgement}
use Rattle.timers.specs.declared.name.TimerName.TheVariants.{T3, T4}
use Rattle.timers.specs.Timers.{set_timer, clear_timer}
use Rattle.routes.specs.Routes.{Facts, chosen_link}
use Rattle.flow_hold.specs.declared.procedure.Procedure.{Procedure}
use Rattle.flow_hold.specs.declared.procedure.Procedure.TheVariants.{Code, Time}
use Rattle.flow_hold.specs.Holds.{lifted, any_flow, with_flows}
use Rattle.changeback.specs.Codes.{free_code, is_outstanding, with_code}
use Rattle.exchange_rules.specs.State.{unless◌then◌else◌, ◌▷◌, QueueKind, Parts, Node, Done, with_parts, answer, note, flagged_late}
use Rattle.exchange_rules.specs.Routing.{facts, goes_by, no_room, queue_on, entry_of, set_of, peer_of}
use Rattle.exchange_rules.specs.Telling.{management_to, send_routed}

-- the declaration that a link is back, and what answers one
abbrev pub declaration : Configuration → (link code : ℕ) → Message
declaration c link code = management_to c (peer_of c link) (ChangebackDeclaration (entry_of c link).slc code)

abbrev pub changeback_acknowledgement : Configuration → (point slc code : ℕ) → Message
changeback_acknowledgement c point slc code = management_to c point (ChangebackAcknowledgement slc code)

-- a code waits for its answer, and T4 runs
abbrev pub code_in_use : Configuration → (set code : ℕ) → Parts → Parts
code_in_use c set code p =
    record p { codes = with_code p.codes set code true; timers = set_timer (T4 set code) c.timers.t4 p.timers }

-- T3 starts, or restarts
abbrev pub time_in_use : Configuration → (link : ℕ) → Parts → Parts
time_in_use c link p = record p { timers = set_timer (T3 link) c.timers.t3 p.timers }

-- the answer came: the code is free and no longer holds anything, and T4 stops
abbrev pub freed : (set code : ℕ) → Parts → Parts
freed set code p = record p {
  codes = with_code p.codes set code false;
  holds = lifted p.holds (Code set code);
  timers = clear_timer (T4 set code) p.timers;
}

-- a hold ended by its timer: that is noted, and messages may go out of order
abbrev pub late : Notice → Procedure → Parts → Parts
late notice procedure p = flagged_late (record (note notice p) { holds = lifted p.holds procedure })

-- T3 of a link ran out
abbrev pub late_time : (link : ℕ) → Parts → Parts
late_time link p = late (notices.Late late_timer.T3 link) (Time link) p

-- T4 of a code ran out; the code still waits for its answer
abbrev pub late_code : (set code : ℕ) → Parts → Parts
late_code set code p = late (notices.Late late_timer.T4 code) (Code set code) p

-- a code whose declaration finds room
abbrev pub if_room : Option Cause → (code : ℕ) → Option ℕ
if_room None code = Some code
if_room (Some cause) code = None

-- flows that a link takes back are held by a code if there is one, else by time
abbrev pub procedure_by : Configuration → (link : ℕ) → Option ℕ → Procedure
procedure_by c link (Some code) = Code (set_of c link) code
procedure_by c link None = Time link

-- whether a link takes a flow back from another: it went by the other before, and goes by the link now
abbrev pub is_taken_back : (before after : Facts) → (other link : ℕ) → (destination sls : ℕ) → Bool
is_taken_back before after other link destination sls =
    goes_by (chosen_link before destination sls) other && goes_by (chosen_link after destination sls) link

-- whether another link loses flows to a link
abbrev pub loses_flows : Configuration → (before after : Facts) → (other link : ℕ) → Bool
loses_flows c before after other link =
    not (nat_eq other link) && any_flow (length c.destinations) (is_taken_back before after other link)

-- the flows that a link takes back from another are held by a procedure
abbrev pub with_flows_held : (before after : Facts) → (other link : ℕ) → Procedure → Parts → Parts
with_flows_held before after other link procedure p =
    record p { holds = with_flows p.holds procedure (is_taken_back before after other link) }

module _ {Q : Type 0} (q : QueueKind Q) (c : Configuration) where
  -- a code by which flows can be held: one that is free, whose declaration finds room
  abbrev pub usable : (link : ℕ) → Option ℕ → Node Q → Option ℕ
  usable link (Some code) node = if_room (no_room q c (declaration c link code) node.queues) code
  usable link None node = None

  -- the code that holds the flows that a link takes back from another: the least that is free, if both links are of one
  -- set
  abbrev pub code_for : (link other : ℕ) → Node Q → Option ℕ
  code_for link other node =
      if nat_eq (set_of c other) (set_of c link)
      then usable link (free_code node.parts.codes (set_of c link)) node
      else None

  -- a declaration with a code goes out on the other link itself
  abbrev pub declared : Option ℕ → (link other : ℕ) → Node Q → Node Q
  declared (Some code) link other node =
      queue_on q c other (declaration c link code) (with_parts node (code_in_use c (set_of c link) code node.parts))
  declared None link other node = node

  -- flows are to be held: by a code, whose declaration goes out, or by time, and T3 runs
  abbrev pub declare_by : Option ℕ → (link other : ℕ) → Node Q → Node Q
  declare_by (Some code) link other node = declared (Some code) link other node
  declare_by None link other node = with_parts node (time_in_use c link node.parts)

  -- the flows that a link takes back from another are held: their hold begins, by a code or by time
  abbrev pub hold_flows : (before after : Facts) → Option ℕ → (link other : ℕ) → Node Q → Node Q
  hold_flows before after code link other node =
      let begun : Node Q = declare_by code link other node in
      with_parts begun (with_flows_held before after other link (procedure_by c link code) begun.parts)

  -- a link takes its flows back from another that loses some
  abbrev pub take_back : (before after : Facts) → (link other : ℕ) → Node Q → Node Q
  take_back before after link other node =
      unless loses_flows c before after other link then node
      else hold_flows before after (code_for link other node) link other node

  -- from the first n links, in order
  unfoldable pub take_back_each : (before after : Facts) → (link count : ℕ) → Node Q → Node Q
  take_back_each before after link zero node = node
  take_back_each before after link (suc other) node =
      node ▷ take_back_each before after link other ▷ take_back before after link other

  -- a link takes back the flows that went by other links before
  abbrev pub change_back : (link : ℕ) → (before : Facts) → Node Q → Node Q
  change_back link before node = take_back_each before (facts c node.parts) link (length c.links) node

  -- a declaration is answered
  abbrev pub on_changeback_declaration : (point slc code : ℕ) → Node Q → Done Q
  on_changeback_declaration point slc code node =
      answer Handled (send_routed q c (changeback_acknowledgement c point slc code) node)

  -- an answer from the point of a set
  abbrev pub on_changeback_acknowledgement : Option ℕ → (code : ℕ) → Node Q → Done Q
  on_changeback_acknowledgement (Some set) code node =
      unless is_outstanding node.parts.codes set code then answer Ignored node
      else answer Handled (with_parts node (freed set code node.parts))
  on_changeback_acknowledgement None code node = answer Ignored node
