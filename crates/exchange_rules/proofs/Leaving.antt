-- A refused event leaves what it is to leave, and a message is queued on a link in service.
use Rattle.exchange_rules.proofs.Basics.{◌≡◌, ℕ, Bool, true, false, List, [], ◌∷◌, Option, Some, None, Result, Ok, Err, refl, ap, ◌∙◌, if◌then◌else◌, zero, suc, length}
use Rattle.exchange_rules.proofs.Definitions.{Message, flow_of, Configuration, Cause, Queued, Ignored, Refused, FrameFault, FrameValue, read_frame, Owed, owed, facts, Action, UserData, acts_on, count_confirmed, Node, Done, with_parts, answer, refuse, is_link, link_at, down, in_traffic, link_of, no_room, send, route_message, told_parts, may_tell, tell_if, tell_each, tell_owed, whither_goes, submit, advance, Carrying, data_of, numbers, accept, read, CameUp, WentDown, FrameCame, Ticked, Submitted, Activated, Deactivated, TitleAdded, TitleSet, TitleRemoved, WholeQueues, whole, waits, all_wait, go_on, go_by, go, go_each, release, settled, apply, accept_data, accept_frame, accept_text, carried_message, answered, refusals_leave, queued_in_traffic, Abstract, IsSound, Released, late_by, ordered_late, order_all, order_each, order_if_late, order_late, is_late, asking, changeover_order, receive}
use Rattle.exchange_rules.specs.State.{Reroutings}
use Rattle.exchange_rules.specs.Exchange.{leaving}
use Rattle.signalling_types.specs.declared.cause.Cause.TheVariants as causes
use Rattle.link.specs.declared.action.Action.TheVariants as act
use Rattle.exchange_rules.specs.Telling as telling
use Rattle.exchange_rules.proofs.Settling.{nothing_released}
use Rattle.exchange_rules.proofs.Answering.{answered-waits, answered-told}
use Rattle.exchange_rules.proofs.Telling.{told_already}
use Rattle.exchange_rules.proofs.AddedHolds.{advance-waits}
use Rattle.exchange_rules.proofs.Leaves.{Leaves, Stays}
use Rattle.exchange_rules.proofs.LeavingMessages.{submit_to-leaves, add_title-leaves, set_title-leaves, remove_title-leaves, association_up-leaves, association_down-leaves, activate-leaves, deactivate-leaves, release_bar-leaves}
use Rattle.exchange_rules.proofs.LeavingFrames.{left_of_text, up_leaves}
use Rattle.signalling_types.specs.declared.outcome.Outcome.{Outcome}
use Rattle.signalling_types.specs.declared.outcome.Outcome.TheVariants as outcome

-- ---- the end of an event after a rule

-- a release changes no link
go_on-serves : (c : Configuration) (link : Option ℕ) (m : Message) (n : Node WholeQueues) (l : ℕ) → in_traffic (go_on whole c link m n).parts l ≡ in_traffic n.parts l
go_on-serves c (Some link) m n l = refl
go_on-serves c None m n l = refl

go_by-serves : (c : Configuration) (b : Bool) (m : Message) (n : Node WholeQueues) (l : ℕ) → in_traffic (go_by whole c b m n).parts l ≡ in_traffic n.parts l
go_by-serves c true m n l = refl
go_by-serves c false m n l = go_on-serves c (link_of c n.parts (flow_of m)) m n l

go_each-serves : (c : Configuration) (ms : List Message) (n : Node WholeQueues) (l : ℕ) → in_traffic (go_each whole c ms n).parts l ≡ in_traffic n.parts l
go_each-serves c [] n l = refl
go_each-serves c (m ∷ ms) n l = go_each-serves c ms (go whole c m n) l ∙ go_by-serves c (waits c n.parts.holds m) m n l

release-serves : (c : Configuration) (n : Node WholeQueues) (l : ℕ) → in_traffic (release whole c n).parts l ≡ in_traffic n.parts l
release-serves c n l = go_each-serves c n.queues.held (record n { queues = whole.without_held n.queues }) l

-- nor does what adjacent points are told
send-serves : (c : Configuration) (room : Option Cause) (link : Option ℕ) (m : Message) (n : Node WholeQueues) (l : ℕ)
    → in_traffic (send whole c room link m n).parts l ≡ in_traffic n.parts l
send-serves c (Some cause) link m n l = refl
send-serves c None None m n l = refl
send-serves c None (Some link) m n l = refl

tell_if-serves : (c : Configuration) (b : Bool) (o : Owed) (n : Node WholeQueues) (l : ℕ)
    → in_traffic (if b then telling.tell whole c o n else n).parts l ≡ in_traffic n.parts l
tell_if-serves c true o n l =
    let m : Message = route_message c o.set o.destination o.status in
    let next : Node WholeQueues = with_parts n (told_parts c o n.parts) in
    send-serves c (no_room whole c m n.queues) (link_of c next.parts (flow_of m)) m next l
tell_if-serves c false o n l = refl

tell_each-serves : (c : Configuration) (os : List Owed) (n : Node WholeQueues) (l : ℕ) → in_traffic (tell_each whole c os n).parts l ≡ in_traffic n.parts l
tell_each-serves c [] n l = refl
tell_each-serves c (o ∷ os) n l = tell_each-serves c os (tell_if whole c o n) l ∙ tell_if-serves c (may_tell whole c n) o n l

tell_owed-serves : (c : Configuration) (n : Node WholeQueues) (l : ℕ) → in_traffic (tell_owed whole c n).parts l ≡ in_traffic n.parts l
unfolding tell_owed
tell_owed-serves c n l = tell_each-serves c (owed (facts c n.parts) n.parts.told) n l

-- where each message of Held waits, what a refusal left stays but for what is told
settled-left : (c : Configuration) (d : Done WholeQueues) (n : Node WholeQueues) → d.left ≡ n → all_wait c n.parts.holds n.queues.held ≡ true
    → (settled whole c d).left ≡ tell_owed whole c n
settled-left c d n e w =
    ap (λ (m : Node WholeQueues). tell_owed whole c (release whole c m)) e
    ∙ ap (λ (m : Node WholeQueues). tell_owed whole c m) (nothing_released c n w)

-- accepting a frame leaves Held as it is, and what waits there still waits
accept-waits : (c : Configuration) (link : ℕ) (d : Carrying) (m : Option Message) (confirmed : ℕ) (n : Node WholeQueues) → d.message ≡ m
    → all_wait c n.parts.holds n.queues.held ≡ true → all_wait c (accept whole c link d confirmed n).parts.holds (accept whole c link d confirmed n).queues.held ≡ true
accept-waits c link d None confirmed n e w = rw e w
accept-waits c link d (Some m) confirmed n e w = rw e w

accept_data-waits : (c : Configuration) (a : Action) (link : ℕ) (d : Carrying) (n : Node WholeQueues) → all_wait c n.parts.holds n.queues.held ≡ true
    → all_wait c (accept_data a link d c n).parts.holds (accept_data a link d c n).queues.held ≡ true
accept_data-waits c act.Ignored link d n w = w
accept_data-waits c act.Fail link d n w = w
accept_data-waits c (act.Go step) link d n w =
    let next : Node WholeQueues = advance whole c link step n in
    accept-waits c link d d.message (count_confirmed (numbers whole c link d next)) next refl (advance-waits c link step n w)

accept_frame-waits : (c : Configuration) (carried : Option Carrying) (link : ℕ) (n : Node WholeQueues) → all_wait c n.parts.holds n.queues.held ≡ true
    → all_wait c (accept_frame carried link c n).parts.holds (accept_frame carried link c n).queues.held ≡ true
accept_frame-waits c None link n w = w
accept_frame-waits c (Some d) link n w = accept_data-waits c (acts_on (link_at n.parts link) UserData) link d n w

accept_text-waits : (link : ℕ) (r : Result FrameValue FrameFault) (a : Abstract) → all_wait a.settings a.node.parts.holds a.node.queues.held ≡ true
    → all_wait a.settings (accept_text link r a).parts.holds (accept_text link r a).queues.held ≡ true
accept_text-waits link (Ok frame) a w = accept_frame-waits a.settings (data_of frame) link a.node w
accept_text-waits link (Err fault) a w = w

-- a state in which nothing waits that is to go on, and nothing is owed that finds room, stays
settled-so : (a : Abstract) (d : Done WholeQueues) → IsSound a → d.left ≡ a.node → leaving a (settled whole a.settings d).left ≡ a
settled-so a d s e =
    ap (λ (m : Node WholeQueues). leaving a m)
    (settled-left a.settings d a.node e s.waiting ∙ told_already whole a.settings a.node s.telling)
    ∙ ap (λ (r : Reroutings). record a { reroutings = r }) s.rerouting

received_left : (t : Bool) (d : Done WholeQueues) (by : Cause → Node WholeQueues) (a : Abstract) (cause : Cause) → Leaves d by
    → all_wait a.settings (by cause).parts.holds (by cause).queues.held ≡ true → IsSound a
    → (if t then d else refuse causes.NoSuchName a.node).outcome ≡ Refused cause
    → leaving a (settled whole a.settings (if t then d else refuse causes.NoSuchName a.node)).left
    ≡ (if t then leaving a (tell_owed whole a.settings (by cause)) else a)
received_left true d by a cause f w s e = ap (λ (m : Node WholeQueues). leaving a m) (settled-left a.settings d (by cause) (f.left cause e) w)
received_left false d by a cause f w s e = settled-so a (refuse causes.NoSuchName a.node) s refl

received_served : (t : Bool) (d : Done WholeQueues) (by : Cause → Node WholeQueues) (a : Abstract) (l : ℕ) → Leaves d by
    → (if t then d else refuse causes.NoSuchName a.node).outcome ≡ Queued l
    → in_traffic (if t then d else refuse causes.NoSuchName a.node).left.parts l ≡ true
received_served true d by a l f e = f.served l e
received_served false d by a l f e = cc

-- ---- orders that go out late

-- a refusal sends none
late-refused : (c : Configuration) (d : Done WholeQueues) (cause : Cause) → d.outcome ≡ Refused cause → late_by whole c d.outcome d.left ≡ d.left
late-refused c d cause e = ap (λ (o : Outcome). late_by whole c o d.left) e

-- and none changes a link
order_if_late-serves : (c : Configuration) (link : ℕ) (n : Node WholeQueues) (l : ℕ) → in_traffic (order_if_late whole c link n).parts l ≡ in_traffic n.parts l
order_if_late-serves c link n l = by (is_late c link n.parts)
  where
    by : (late : Bool) → in_traffic (if late then order_late whole c link n else n).parts l ≡ in_traffic n.parts l
    by true =
        let m : Message = changeover_order c link (whole.last_accepted n.queues link) in
        let asks : Node WholeQueues = with_parts n (asking c link n.parts) in
        send-serves c (no_room whole c m n.queues) (link_of c asks.parts (flow_of m)) m asks l
    by false = refl

order_each-serves : (c : Configuration) (many : ℕ) (n : Node WholeQueues) (l : ℕ) → in_traffic (order_each whole c many n).parts l ≡ in_traffic n.parts l
unfolding order_each
order_each-serves c zero n l = refl
order_each-serves c (suc link) n l = order_if_late-serves c link (order_each whole c link n) l ∙ order_each-serves c link n l

order_all-serves : (c : Configuration) (n : Node WholeQueues) (l : ℕ) → in_traffic (order_all whole c n).parts l ≡ in_traffic n.parts l
order_all-serves c n l = by c.changeover_by_any_route
  where
    by : (b : Bool) → in_traffic (if b then order_each whole c (length c.links) n else n).parts l ≡ in_traffic n.parts l
    by true = order_each-serves c (length c.links) n l
    by false = refl

late_by-serves : (c : Configuration) (o : Outcome) (n : Node WholeQueues) (l : ℕ) → in_traffic (late_by whole c o n).parts l ≡ in_traffic n.parts l
late_by-serves c (outcome.Refused cause) n l = refl
late_by-serves c (outcome.Queued link) n l = order_all-serves c n l
late_by-serves c outcome.Held n l = order_all-serves c n l
late_by-serves c outcome.Local n l = order_all-serves c n l
late_by-serves c outcome.Handled n l = order_all-serves c n l
late_by-serves c outcome.Ignored n l = order_all-serves c n l

-- ---- the laws

-- what any other refusal leaves: the node as it was
abbrev as_it_was : Abstract → Cause → Node WholeQueues
as_it_was a cause = a.node

unchanged : (a : Abstract) → Stays (as_it_was a) a.node
unchanged a = record { others = λ cause e. refl }

left-so : (a : Abstract) (d : Done WholeQueues) (cause : Cause) → IsSound a → Leaves d (as_it_was a) → d.outcome ≡ Refused cause → leaving a (settled whole a.settings d).left ≡ a
left-so a d cause s f e = settled-so a d s (f.left cause e)

pub refused_leaves : refusals_leave
unfolding apply
refused_leaves (CameUp link) a cause s e = left-so a _ cause s (association_up-leaves a.settings a.node (as_it_was a) (unchanged a) link) e
refused_leaves (WentDown link) a cause s e = left-so a _ cause s (association_down-leaves a.settings a.node (as_it_was a) (unchanged a) link) e
refused_leaves Ticked a cause s e = cc
refused_leaves (Activated link emergency) a cause s e = left-so a _ cause s (activate-leaves a.settings a.node (as_it_was a) (unchanged a) emergency link) e
refused_leaves (Deactivated link) a cause s e = left-so a _ cause s (deactivate-leaves a.settings a.node (as_it_was a) (unchanged a) link) e
refused_leaves (Released link) a cause s e = left-so a _ cause s (release_bar-leaves a.settings a.node (as_it_was a) (unchanged a) link) e
refused_leaves (TitleAdded row lacking) a cause s e = left-so a _ cause s (add_title-leaves row lacking a.node) e
refused_leaves (TitleSet row lacking) a cause s e = left-so a _ cause s (set_title-leaves row lacking a.node) e
refused_leaves (TitleRemoved key digits) a cause s e = left-so a _ cause s (remove_title-leaves key digits a.node) e
refused_leaves (Submitted message) a cause s e =
    let left : Node WholeQueues = answered cause None (Some message) a.settings a.node in
    ap (λ (m : Node WholeQueues). leaving a m)
    (settled-left a.settings (submit whole a.settings message a.node) left ((submit_to-leaves a.settings a.node (whither_goes a.settings message) message).left cause e)
    (answered-waits a.settings cause None (Some message) a.node s.waiting)
    ∙ told_already whole a.settings left (answered-told a.settings cause message a.node s.telling))
refused_leaves (FrameCame link text) a cause s e =
    ap (λ (m : Node WholeQueues). leaving a (tell_owed whole a.settings (release whole a.settings m))) (late-refused a.settings (receive whole a.settings link text a.node) cause e)
    ∙ received_left (is_link a.node.parts link) (if down a.node.parts link then answer Ignored a.node else read whole a.settings link (read_frame text) a.node)
    (left_of_text link (read_frame text) a) a cause (up_leaves (down a.node.parts link) link (read_frame text) a)
    (answered-waits a.settings cause (Some link) (carried_message (read_frame text)) (accept_text link (read_frame text) a)
    (accept_text-waits link (read_frame text) a s.waiting)) s e

-- a link that a rule leaves in service is so at the end of the event
still : (a : Abstract) (d : Done WholeQueues) (l : ℕ) → in_traffic d.left.parts l ≡ true → in_traffic (settled whole a.settings d).left.parts l ≡ true
still a d l e = tell_owed-serves a.settings (release whole a.settings d.left) l ∙ release-serves a.settings d.left l ∙ e

served-so : (a : Abstract) (d : Done WholeQueues) (l : ℕ) → Leaves d (as_it_was a) → d.outcome ≡ Queued l → in_traffic (settled whole a.settings d).left.parts l ≡ true
served-so a d l f e = still a d l (f.served l e)

pub queued_served : queued_in_traffic
unfolding apply
queued_served (CameUp link) a l e = served-so a _ l (association_up-leaves a.settings a.node (as_it_was a) (unchanged a) link) e
queued_served (WentDown link) a l e = served-so a _ l (association_down-leaves a.settings a.node (as_it_was a) (unchanged a) link) e
queued_served Ticked a l e = cc
queued_served (Activated link emergency) a l e = served-so a _ l (activate-leaves a.settings a.node (as_it_was a) (unchanged a) emergency link) e
queued_served (Deactivated link) a l e = served-so a _ l (deactivate-leaves a.settings a.node (as_it_was a) (unchanged a) link) e
queued_served (Released link) a l e = served-so a _ l (release_bar-leaves a.settings a.node (as_it_was a) (unchanged a) link) e
queued_served (Submitted message) a l e =
    still a (submit whole a.settings message a.node) l ((submit_to-leaves a.settings a.node (whither_goes a.settings message) message).served l e)
queued_served (TitleAdded row lacking) a l e = served-so a _ l (add_title-leaves row lacking a.node) e
queued_served (TitleSet row lacking) a l e = served-so a _ l (set_title-leaves row lacking a.node) e
queued_served (TitleRemoved key digits) a l e = served-so a _ l (remove_title-leaves key digits a.node) e
queued_served (FrameCame link text) a l e =
    let up : Done WholeQueues = if down a.node.parts link then answer Ignored a.node else read whole a.settings link (read_frame text) a.node in
    let d : Done WholeQueues = receive whole a.settings link text a.node in
    still a (ordered_late whole a.settings d) l
    (late_by-serves a.settings d.outcome d.left l
    ∙ received_served (is_link a.node.parts link) up (left_of_text link (read_frame text) a) a l (up_leaves (down a.node.parts link) link (read_frame text) a) e)
