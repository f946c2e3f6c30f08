-- What ends the wait for the answer to an order to change over: laws.
use Rattle.std.specs.Prelude.{◌≡◌, ◌⊎◌, ℕ, true, false, max, Option, Some, None}
use Rattle.settings.specs.Configuration.{Configuration}
use Rattle.signalling_types.specs.declared.notice.ChangeoverTimer.TheVariants as which
use Rattle.mtp3_codec.specs.declared.management.Management.{Management}
use Rattle.mtp3_codec.specs.declared.management.Management.TheVariants.{ExtendedChangeoverAcknowledgement}
use Rattle.mtp3_codec.specs.declared.management.Management.TheVariants.{EmergencyChangeoverAcknowledgement}
use Rattle.timers.specs.declared.name.TimerName.TheVariants.{T2}
use Rattle.changeover.specs.Changeover.{awaits_incomplete, is_barred, no_changeover, stays_awaited}
use Rattle.exchange_rules.specs.State.{Happening, Node, Released, is_link}
use Rattle.exchange_rules.specs.Messages.{link_with_code, on_management}
use Rattle.exchange_rules.specs.ChangingOver.{bars, changeover_of, on_changeover_timer}
use Rattle.exchange_rules.specs.Opening.{release_bar}
use Rattle.exchange_rules.specs.Exchange.{after, taken}
use Rattle.exchange_rules.specs.Queues.{WholeQueues, whole}
use Rattle.exchange_rules.specs.First.{Abstract}
use Rattle.exchange_rules.specs.Lasting.{HasAllPlaces}
use Rattle.exchange_rules.specs.LastingLinks.{AreLinksSteady}
use Rattle.exchange_rules.specs.LawsOfCauses.{Word, word_heard}
use Rattle.exchange_rules.specs.Aligning.{RunsOut}

-- the link about which a word answers an order
abbrev pub answered_by : Configuration → (point : ℕ) → Management → Option ℕ
answered_by c point (ExtendedChangeoverAcknowledgement slc number) = link_with_code c point slc
answered_by c point (EmergencyChangeoverAcknowledgement slc) = link_with_code c point slc
answered_by c point other = None

-- the answer to the order about a link comes
pub record AnswerComes (link : ℕ) (what : Happening) (a : Abstract) : Type 0 where
  pub word : Word
  pub heard : word_heard what a ≡ Some word
  pub answers : answered_by a.settings word.point word.says ≡ Some link

-- T2 of the link runs out: where links are barred, only after its changeover was complete
pub record LastT2RunsOut (link : ℕ) (what : Happening) (a : Abstract) : Type 0 where
  pub runs_out : RunsOut (T2 link) what a.node.parts.timers
  pub last : stays_awaited (bars a.settings) (changeover_of a.node.parts link) ≡ false

-- the operator lets the link open, which is barred
pub record IsReleased (link : ℕ) (what : Happening) (a : Abstract) : Type 0 where
  pub ordered : what ≡ Released link
  pub barred : is_barred (changeover_of a.node.parts link) ≡ true

-- the wait for it ends by the answer, by T2 that runs out, or by the operator
abbrev pub EndsWait : (link : ℕ) → Happening → Abstract → Type 0
EndsWait link what a = AnswerComes link what a ⊎ (LastT2RunsOut link what a ⊎ IsReleased link what a)

-- an answer that was awaited before an event, and isn't after it: that is for one of these reasons. So a bar ends by
-- nothing else
abbrev pub waits_end_so : Type 0
waits_end_so =
    (what : Happening) (a : Abstract) (link : ℕ) →
    AreLinksSteady a.settings.window a.node →
    (changeover_of a.node.parts link).awaited ≡ true →
    (changeover_of (after whole what a).node.parts link).awaited ≡ false →
    EndsWait link what a

-- a take ends none, and begins none
abbrev pub takes_leave_waits : Type 0
takes_leave_waits = (a : Abstract) (link : ℕ) → (taken whole a link).node.parts.changeovers ≡ a.node.parts.changeovers

-- ---- and each of these does end it

-- the changeover of a link is over, and T2 doesn't run
pub record IsOver (link : ℕ) (node : Node WholeQueues) : Type 0 where
  pub over : changeover_of node.parts link ≡ no_changeover
  pub stopped : node.parts.timers.left (T2 link) ≡ None

-- so it is by an answer that is awaited, from the point at the other end of the link
abbrev pub answers_end_waits : Type 0
answers_end_waits =
    (c : Configuration) (point link : ℕ) (says : Management) (node : Node WholeQueues) →
    answered_by c point says ≡ Some link → (changeover_of node.parts link).awaited ≡ true →
    IsOver link (on_management whole c says point node).left

-- by T2 that ran out, but where links are barred and the changeover isn't complete
abbrev pub t2_ends_waits : Type 0
t2_ends_waits =
    (c : Configuration) (link : ℕ) (node : Node WholeQueues) → is_link node.parts link ≡ true →
    node.parts.timers.left (T2 link) ≡ None → stays_awaited (bars c) (changeover_of node.parts link) ≡ false →
    IsOver link (on_changeover_timer whole c which.T2 link node)

-- there the changeover is completed; the answer stays awaited, and T2 runs for the time of the bar
pub record IsBarredFor (ticks link : ℕ) (node : Node WholeQueues) : Type 0 where
  pub barred : is_barred (changeover_of node.parts link) ≡ true
  pub t2 : node.parts.timers.left (T2 link) ≡ Some (max 1 ticks)

abbrev pub t2_bars_links : Type 0
t2_bars_links =
    (c : Configuration) (link ticks : ℕ) (node : Node WholeQueues) → HasAllPlaces c node →
    c.timers.t2_bar ≡ Some ticks → awaits_incomplete (changeover_of node.parts link) ≡ true →
    IsBarredFor ticks link (on_changeover_timer whole c which.T2 link node)

-- and by the operator, where the link is barred; where it isn't, the order changes nothing
abbrev pub releases_end_bars : Type 0
releases_end_bars =
    (c : Configuration) (link : ℕ) (node : Node WholeQueues) → is_link node.parts link ≡ true →
    is_barred (changeover_of node.parts link) ≡ true → IsOver link (release_bar whole c link node).left

abbrev pub releases_leave_others : Type 0
releases_leave_others =
    (c : Configuration) (link : ℕ) (node : Node WholeQueues) →
    is_barred (changeover_of node.parts link) ≡ false → (release_bar whole c link node).left ≡ node
