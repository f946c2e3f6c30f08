-- What the console shows, a line at a time, without the line feeds. Points are in the format that is asked for.
use Rattle.std.specs.Prelude.{◌≡◌, ℕ, zero, suc, ◌+◌, Bool, true, false, ◌++◌, List, [], ◌∷◌, map, codes, decimal, slice_get, nat_lt, if◌then◌else◌, Option, Some, None}
use Rattle.std.specs.Prelude.{not, ◌||◌, nat_eq, length, is_some}
use Rattle.std.specs.Option.{option_map, option_and_then}
use Rattle.settings.specs.Configuration.{Configuration, ChangeEntry, TitleEntry}
use Rattle.settings.specs.declared.title_row.TitleRoute.{TitleRoute}
use Rattle.settings.specs.declared.title_row.TitleRoute.TheVariants as route
use Rattle.signalling_types.specs.Causes.{cause_number, cause_name}
use Rattle.signalling_types.specs.Notices.{frame_fault_number, frame_fault_name, failure_name}
use Rattle.signalling_types.specs.declared.cause.Cause.{Cause}
use Rattle.signalling_types.specs.declared.notice.Notice.{Notice}
use Rattle.signalling_types.specs.declared.notice.Unbarring.{Unbarring}
use Rattle.signalling_types.specs.declared.notice.Unbarring.TheVariants as unbarring
use Rattle.signalling_types.specs.declared.notice.Notice.TheVariants.{Refused, Frame, Failed, Lost, Unsent, Expired, Late, Unbarred}
use Rattle.signalling_types.specs.declared.notice.ChangeoverTimer.{ChangeoverTimer}
use Rattle.signalling_types.specs.declared.notice.ChangeoverTimer.TheVariants.{T1, T2}
use Rattle.signalling_types.specs.declared.notice.FailureReason.{FailureReason}
use Rattle.signalling_types.specs.declared.notice.FrameFault.{FrameFault}
use Rattle.signalling_types.specs.declared.notice.LateTimer.TheVariants.{T3, T4}
use Rattle.settings.specs.Points.{point_text}
use Rattle.settings.specs.declared.point.PointFormat.{PointFormat}
use Rattle.routes.specs.Routes.{status_name}
use Rattle.exchange.specs.declared.view.LinkView.{LinkView}
use Rattle.exchange.specs.declared.view.RouteView.{RouteView}
use Rattle.exchange_rules.specs.State.{QueueKind, State}
use Rattle.sccp_relay.specs.declared.subsystem.Subsystem.{Subsystem}
use Rattle.exchange.specs.Views.{link_view, is_barred_at, route_view, standing_name}
use Rattle.console.specs.Names.{name_in, set_name_in}

-- a line that is shown, if there is one; otherwise nothing is written
abbrev pub Shows : Option (List ℕ) → Bool → (text text_new : List ℕ) → Type 0
Shows (Some line) shown text text_new = (shown ≡ true) × (text_new ≡ line)
Shows None shown text text_new = (shown ≡ false) × (text_new ≡ text)

-- ---- links

-- a link that is barred from opening says so
abbrev pub bar_text : (is_barred : Bool) → List ℕ
bar_text is_barred = if is_barred then codes " barred" else []

abbrev pub link_text : (name : List ℕ) → LinkView → (is_barred : Bool) → List ℕ
link_text name v is_barred =
    codes "link " ++ name ++ codes " " ++ standing_name v.standing ++ codes " waiting " ++ decimal v.waiting
    ++ codes " fsn " ++ decimal v.last_sent ++ codes " bsn " ++ decimal v.last_accepted ++ bar_text is_barred

-- the line of link k
abbrev pub link_line : {Q : Type 0} → QueueKind Q → State Q → ℕ → Option (List ℕ)
link_line q s k =
    option_and_then (λ row. option_map (λ v. link_text row.name v (is_barred_at s k)) (link_view q s k))
    (slice_get s.settings.links k)

-- ---- routes

-- the sets that messages take, of which there are at most two
abbrev pub sets_text : Configuration → List ℕ → List ℕ
sets_text c [] = codes "none"
sets_text c (set ∷ []) = set_name_in c set
sets_text c (first ∷ second ∷ rest) = set_name_in c first ++ codes "+" ++ set_name_in c second

abbrev pub route_text : PointFormat → Configuration → RouteView → List ℕ
route_text points c v =
    codes "route " ++ point_text points v.point ++ codes " " ++ sets_text c v.sets.items ++ codes " " ++ status_name v.status

-- the line of destination k
abbrev pub route_line : {Q : Type 0} → PointFormat → State Q → ℕ → Option (List ℕ)
route_line points s k = option_map (λ v. route_text points s.settings v) (route_view s k)

-- ---- notices

abbrev pub cause_text : Cause → List ℕ
cause_text cause = decimal (cause_number cause) ++ codes " " ++ cause_name cause

-- a message in a frame of this link was refused
abbrev pub refused_text : (name : List ℕ) → Cause → List ℕ
refused_text name cause = codes "refused " ++ cause_text cause ++ codes " " ++ name

-- a frame of this link was discarded
abbrev pub frame_text : (name : List ℕ) → FrameFault → List ℕ
frame_text name fault =
    codes "frame " ++ decimal (frame_fault_number fault) ++ codes " " ++ frame_fault_name fault ++ codes " " ++ name

-- this link failed
abbrev pub failed_text : (name : List ℕ) → FailureReason → List ℕ
failed_text name reason = codes "failed " ++ name ++ codes " " ++ failure_name reason

-- a message was lost
abbrev pub lost_text : PointFormat → Cause → (point sls : ℕ) → List ℕ
lost_text points cause point sls =
    codes "lost " ++ cause_text cause ++ codes " " ++ point_text points point ++ codes " " ++ decimal sls

-- a management message could not go out
abbrev pub unsent_text : PointFormat → Cause → (point : ℕ) → List ℕ
unsent_text points cause point = codes "unsent " ++ cause_text cause ++ codes " " ++ point_text points point

-- T1 or T2 of this link's changeover ran out
abbrev pub expired_text : (name : List ℕ) → ChangeoverTimer → List ℕ
expired_text name T1 = codes "expired T1 " ++ name
expired_text name T2 = codes "expired T2 " ++ name

-- this link isn't barred any more though its answer didn't come: by T2, or by the operator
abbrev pub unbarred_text : (name : List ℕ) → Unbarring → List ℕ
unbarred_text name unbarring.T2 = codes "unbarred T2 " ++ name
unbarred_text name unbarring.Operator = codes "unbarred operator " ++ name

-- a changeback ended by its timer: T3 of this link, or T4 of this code
abbrev pub late_link_text : (name : List ℕ) → List ℕ
late_link_text name = codes "late T3 " ++ name

abbrev pub late_code_text : (code : ℕ) → List ℕ
late_code_text code = codes "late T4 " ++ decimal code

abbrev pub notice_text : PointFormat → Configuration → Notice → List ℕ
notice_text points c (Refused cause link) = refused_text (name_in c link) cause
notice_text points c (Frame fault link) = frame_text (name_in c link) fault
notice_text points c (Failed link reason) = failed_text (name_in c link) reason
notice_text points c (Lost cause point sls) = lost_text points cause point sls
notice_text points c (Unsent cause point) = unsent_text points cause point
notice_text points c (Expired timer link) = expired_text (name_in c link) timer
notice_text points c (Unbarred by link) = unbarred_text (name_in c link) by
notice_text points c (Late T3 link) = late_link_text (name_in c link)
notice_text points c (Late T4 code) = late_code_text code

-- the line of notice k, the oldest first
abbrev pub notice_line : {Q : Type 0} → PointFormat → State Q → ℕ → Option (List ℕ)
notice_line points s k =
    option_map (λ notice. notice_text points s.settings notice) (slice_get s.node.parts.notices.last k)

-- ---- flags, losses and reroutings

-- a count behind the words that say of what
abbrev pub count_text : (word : List ℕ) (count : ℕ) → List ℕ
count_text word count = word ++ decimal count

-- the line of flag k: how often it was raised
abbrev pub flag_line : {Q : Type 0} → State Q → ℕ → Option (List ℕ)
flag_line s zero = Some (count_text (codes "flag lost_any ") s.node.parts.times_lost)
flag_line s (suc zero) = Some (count_text (codes "flag late_any ") s.node.parts.times_late)
flag_line s (suc (suc k)) = None

-- the line of count k: the messages that were named as lost; and how often it wasn't known for sure what the other end
-- has of a link
abbrev pub loss_line : {Q : Type 0} → State Q → ℕ → Option (List ℕ)
loss_line s zero = Some (count_text (codes "loss messages_lost ") s.node.parts.messages_lost)
loss_line s (suc zero) = Some (count_text (codes "loss times_broken ") s.node.parts.times_broken)
loss_line s (suc (suc k)) = None

-- the line of count k: how often a flow changed its link set, but away from its destination's own
abbrev pub rerouting_line : {Q : Type 0} → State Q → ℕ → Option (List ℕ)
rerouting_line s zero = Some (count_text (codes "rerouting times_rerouted ") s.reroutings.times)
rerouting_line s (suc k) = None

-- ---- translation rows

-- a digit as it is written: 0 to 9, then a to f
abbrev pub digit_octet : ℕ → ℕ
digit_octet digit = if nat_lt digit 10 then 48 + digit else 87 + digit

-- what the address is routed by at the point that a row leads to
abbrev pub title_way_text : Option ℕ → List ℕ
title_way_text (Some ssn) = codes " title " ++ decimal ssn
title_way_text None = codes " title -"

abbrev pub way_text : TitleRoute → List ℕ
way_text (route.Title ssn) = title_way_text ssn
way_text (route.Ssn ssn) = codes " ssn " ++ decimal ssn

-- a row's backup point; nothing, if it has none
abbrev pub backup_text : PointFormat → Option ℕ → List ℕ
backup_text points (Some point) = codes " backup " ++ point_text points point
backup_text points None = []

-- a number, or - for none
abbrev pub given_text : Option ℕ → List ℕ
given_text (Some n) = decimal n
given_text None = codes "-"

-- digits, or - for none
abbrev pub added_text : List ℕ → List ℕ
added_text digits = if nat_eq (length digits) 0 then codes "-" else map digit_octet digits

-- whether a row changes titles
abbrev pub is_change : ChangeEntry → Bool
is_change c =
    is_some c.plan || is_some c.nature || not (nat_eq c.removed 0) || not (nat_eq (length c.added) 0)

-- how a row changes titles; nothing, if it doesn't
abbrev pub change_text : ChangeEntry → List ℕ
change_text c =
    if is_change c
    then codes " changed " ++ given_text c.plan ++ codes " " ++ given_text c.nature ++ codes " " ++ decimal c.removed
    ++ codes " " ++ added_text c.added
    else []

abbrev pub title_text : PointFormat → TitleEntry → List ℕ
title_text points row =
    codes "title " ++ decimal row.translation ++ codes " " ++ decimal row.plan ++ codes " " ++ decimal row.nature
    ++ codes " " ++ map digit_octet row.digits ++ codes " " ++ point_text points row.point ++ way_text row.route
    ++ backup_text points row.backup ++ change_text row.change

-- the line of row k, in the order of the rows
abbrev pub title_line : {Q : Type 0} → PointFormat → State Q → ℕ → Option (List ℕ)
title_line points s k = option_map (title_text points) (slice_get s.node.parts.titles.rows k)

-- ---- prohibited subsystems

abbrev pub subsystem_text : PointFormat → Subsystem → List ℕ
subsystem_text points subsystem =
    codes "subsystem " ++ point_text points subsystem.point ++ codes " " ++ decimal subsystem.ssn ++ codes " prohibited"

-- the line of prohibited subsystem k, in the order in which they were heard of
abbrev pub subsystem_line : {Q : Type 0} → PointFormat → State Q → ℕ → Option (List ℕ)
subsystem_line points s k =
    option_map (λ prohibited. subsystem_text points prohibited.subsystem) (slice_get s.node.parts.titles.prohibited k)
