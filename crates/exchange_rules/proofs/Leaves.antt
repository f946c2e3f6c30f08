-- What a rule leaves if it refuses, by the cause of the refusal, and which link it queues on: for plain answers, and
-- for tests between two.
use Rattle.exchange_rules.proofs.Basics.{◌≡◌, ℕ, Bool, true, false, Option, Some, None, refl, ap, ◌∙◌, ◌&&◌, ◌||◌, not, if◌then◌else◌, nat_le, option_or}
use Rattle.exchange_rules.proofs.Definitions.{Message, flow_of, is_management, Configuration, Cause, MANAGEMENT_MESSAGES, Outcome, Queued, Held, Local, Handled, Ignored, Refused, MgmtFault, Node, Done, answer, refuse, in_traffic, link_of, waits, no_room, is_share_full, no_room_on, no_room_for, cause_of, WholeQueues, whole}
use Rattle.signalling_types.specs.declared.cause.Cause.TheVariants as causes
use Rattle.mtp3_codec.specs.declared.fault.MgmtFault.TheVariants as mgmt

-- where a rule refuses, it leaves the node of the cause; where it queues a message, it does so on a link in service
pub record Leaves (d : Done WholeQueues) (by : Cause → Node WholeQueues) : Type 0 where
  pub left : (cause : Cause) → d.outcome ≡ Refused cause → d.left ≡ by cause
  pub served : (l : ℕ) → d.outcome ≡ Queued l → in_traffic d.left.parts l ≡ true

-- the link that an outcome names
abbrev pub queued_on : Outcome → Option ℕ
queued_on (Queued l) = Some l
queued_on Held = None
queued_on Local = None
queued_on Handled = None
queued_on Ignored = None
queued_on (Refused cause) = None

-- and the cause
abbrev pub cause_in : Cause → Outcome → Cause
cause_in other (Queued l) = other
cause_in other Held = other
cause_in other Local = other
cause_in other Handled = other
cause_in other Ignored = other
cause_in other (Refused cause) = cause

-- ---- causes

-- whether a cause isn't that a message found no route, or no user part
abbrev pub is_other : Cause → Bool
is_other causes.NoRoute = false
is_other causes.NoUserPart = false
is_other cause = true

-- whether a refusal, if it is one, has such a cause
abbrev pub refuses_other : Option Cause → Bool
refuses_other (Some cause) = is_other cause
refuses_other None = true

either_so : {A : Type 0} (f : A → Bool) (b : Bool) (x y : A) → f x ≡ true → f y ≡ true → f (if b then x else y) ≡ true
either_so f true x y e g = e
either_so f false x y e g = g

room_so : (c : Configuration) (m : Message) (qs : WholeQueues) → refuses_other (no_room whole c m qs) ≡ true
room_so c m qs =
    let management : Option Cause = if nat_le MANAGEMENT_MESSAGES (whole.managements qs) then Some causes.ManagementFull else None in
    let user : Option Cause = if nat_le c.pool (whole.users qs) then Some causes.PoolFull else None in
    either_so refuses_other (is_management m) management user
    (either_so refuses_other (nat_le MANAGEMENT_MESSAGES (whole.managements qs)) (Some causes.ManagementFull) None refl refl)
    (either_so refuses_other (nat_le c.pool (whole.users qs)) (Some causes.PoolFull) None refl refl)

share_so : (c : Configuration) (link : Option ℕ) (is_waiting : Bool) (m : Message) (qs : WholeQueues) → refuses_other (no_room_on whole c link is_waiting m qs) ≡ true
share_so c None is_waiting m qs = refl
share_so c (Some link) is_waiting m qs =
    either_so refuses_other (is_share_full whole c link qs && not (is_waiting || is_management m)) (Some causes.ShareFull) None refl refl

first_so : (first second : Option Cause) → refuses_other first ≡ true → refuses_other second ≡ true → refuses_other (option_or first second) ≡ true
first_so (Some cause) second e f = e
first_so None second e f = f

pub room_for_so : (c : Configuration) (m : Message) (n : Node WholeQueues) → refuses_other (no_room_for whole c m n) ≡ true
room_for_so c m n =
    let link : Option ℕ = link_of c n.parts (flow_of m) in
    let is_waiting : Bool = waits c n.parts.holds m in
    first_so (no_room whole c m n.queues) (no_room_on whole c link is_waiting m n.queues) (room_so c m n.queues) (share_so c link is_waiting m n.queues)

pub fault_so : (fault : MgmtFault) → is_other (cause_of fault) ≡ true
fault_so mgmt.Short = refl
fault_so mgmt.NotInProfile = refl

-- where any cause but those two leaves a node as it was
pub record Stays (by : Cause → Node WholeQueues) (n : Node WholeQueues) : Type 0 where
  pub others : (cause : Cause) → is_other cause ≡ true → n ≡ by cause

-- ---- answers

pub left_by : (cause : Cause) (n : Node WholeQueues) (by : Cause → Node WholeQueues) → n ≡ by cause → Leaves (refuse cause n) by
left_by cause n by e = record {
  left = λ other o. e ∙ ap (λ (x : Outcome). by (cause_in cause x)) o;
  served = λ l o. cc;
}

pub stayed : (n : Node WholeQueues) (by : Cause → Node WholeQueues) → Leaves (answer Local n) by
stayed n by = record { left = λ cause e. cc; served = λ l e. cc }

pub waited : (n : Node WholeQueues) (by : Cause → Node WholeQueues) → Leaves (answer Held n) by
waited n by = record { left = λ cause e. cc; served = λ l e. cc }

pub handled : (n : Node WholeQueues) (by : Cause → Node WholeQueues) → Leaves (answer Handled n) by
handled n by = record { left = λ cause e. cc; served = λ l e. cc }

pub ignored : (n : Node WholeQueues) (by : Cause → Node WholeQueues) → Leaves (answer Ignored n) by
ignored n by = record { left = λ cause e. cc; served = λ l e. cc }

pub either : (b : Bool) (d e : Done WholeQueues) (by : Cause → Node WholeQueues) → Leaves d by → Leaves e by → Leaves (if b then d else e) by
either true d e by f g = f
either false d e by f g = g

-- each branch may take for granted that the test goes its way
pub either_by : (b : Bool) (d e : Done WholeQueues) (by : Cause → Node WholeQueues) → (b ≡ true → Leaves d by) → (b ≡ false → Leaves e by) → Leaves (if b then d else e) by
either_by true d e by f g = f refl
either_by false d e by f g = g refl

-- the same node for each cause
pub left_as : (d : Done WholeQueues) (by other : Cause → Node WholeQueues) → ((cause : Cause) → other cause ≡ by cause) → Leaves d other → Leaves d by
left_as d by other e f = record { left = λ cause o. f.left cause o ∙ e cause; served = f.served }
