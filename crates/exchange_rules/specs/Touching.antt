-- The queues that events and takes touch: laws.
use Rattle.std.specs.Prelude.{◌≡◌, ◌≢◌, ◌⊎◌, ℕ, Bool, true, false, nat_eq, List, [], ◌∷◌, ◌++◌}
use Rattle.std.specs.List.{list_any}
use Rattle.signalling_types.specs.Message.{Message}
use Rattle.link.specs.declared.action.LinkTimer.{LinkTimer}
use Rattle.link.specs.declared.action.LinkTimer.TheVariants.{L1, L2, L3, L4, L6, L7}
use Rattle.link.specs.Queue.{Queue, emptied}
use Rattle.timers.specs.Timers.{is_due, ticked}
use Rattle.exchange_rules.specs.State.{Happening, CameUp, WentDown, FrameCame, Ticked, Submitted, Activated, Deactivated, Released, TitleAdded, TitleSet, TitleRemoved, Parts, Node, in_service}
use Rattle.exchange_rules.specs.Timing.{timer_name}
use Rattle.exchange_rules.specs.ChangingOver.{changeover_of}
use Rattle.exchange_rules.specs.Queues.{WholeQueues, queue_at, whole}
use Rattle.exchange_rules.specs.Exchange.{after, taken}
use Rattle.exchange_rules.specs.First.{Abstract}

-- ---- whose event it is

abbrev pub link_timers : List LinkTimer
link_timers = L1 ∷ L2 ∷ L3 ∷ L4 ∷ L6 ∷ L7 ∷ []

-- whether one of them runs out at the next tick, and whether any does
abbrev pub runs_out : Parts → (link : ℕ) → LinkTimer → Bool
runs_out p link timer = is_due (ticked p.timers) (timer_name link timer)

abbrev pub some_runs_out : Parts → (link : ℕ) → Bool
some_runs_out p link = list_any (runs_out p link) link_timers

-- whether an event may take a link into service, or begin one of its epochs: its association comes up, a frame comes by
-- it, or one of its timers runs out
abbrev pub is_about : Happening → Parts → (link : ℕ) → Bool
is_about (CameUp its) p link = nat_eq its link
is_about (FrameCame its text) p link = nat_eq its link
is_about Ticked p link = some_runs_out p link
is_about (WentDown its) p link = false
is_about (Submitted message) p link = false
is_about (Activated its emergency) p link = false
is_about (Deactivated its) p link = false
is_about (Released its) p link = false
is_about (TitleAdded row is_memory_refused) p link = false
is_about (TitleSet row is_memory_refused) p link = false
is_about (TitleRemoved key digits) p link = false

-- ---- what becomes of a queue

-- q with messages after it
pub record IsGrown (q p : Queue) : Type 0 where
  pub behind : List Message
  pub grown : p ≡ record q { all = q.all ++ behind }

-- the changeover of a link was completed, and its queue was emptied
pub record IsCompleted (link : ℕ) (n m : Node WholeQueues) : Type 0 where
  pub was : (changeover_of n.parts link).incomplete ≡ true
  pub is : (changeover_of m.parts link).incomplete ≡ false
  pub emptied : queue_at m.queues link ≡ emptied (queue_at n.queues link)

-- its changeover and its queue are as before
pub record IsUntouched (link : ℕ) (n m : Node WholeQueues) : Type 0 where
  pub changeover : (changeover_of m.parts link).incomplete ≡ (changeover_of n.parts link).incomplete
  pub queue : queue_at m.queues link ≡ queue_at n.queues link

-- a changeover of the link was under way: it wasn't complete before, or the link failed meanwhile
abbrev pub HadChangeover : (link : ℕ) → (n m : Node WholeQueues) → Type 0
HadChangeover link n m =
    ((changeover_of n.parts link).incomplete ≡ true)
    ⊎ ((in_service n.parts link ≡ true) × (in_service m.parts link ≡ false))

-- its queue was emptied by a completion, and messages may have been added since
pub record IsEmptied (link : ℕ) (n m : Node WholeQueues) : Type 0 where
  pub queue : IsGrown (emptied (queue_at n.queues link)) (queue_at m.queues link)
  pub changeover : HadChangeover link n m

-- what becomes of a link by an event that isn't about it
pub record IsLeft (link : ℕ) (n m : Node WholeQueues) : Type 0 where
  -- messages are added to its queue; it may be emptied only if a changeover was under way
  pub queue : IsGrown (queue_at n.queues link) (queue_at m.queues link) ⊎ IsEmptied link n m
  -- a changeover begins only as the link fails
  pub begins : (changeover_of m.parts link).incomplete ≡ true → HadChangeover link n m
  -- out of service it stays so,
  pub service : in_service n.parts link ≡ false → in_service m.parts link ≡ false
  -- and gets no message: it is untouched unless its changeover is completed
  pub waits : in_service n.parts link ≡ false → IsUntouched link n m ⊎ IsCompleted link n m

abbrev pub other_links_are_left : Type 0
other_links_are_left =
    (what : Happening) (a : Abstract) (link : ℕ) → is_about what a.node.parts link ≡ false →
    IsLeft link a.node (after whole what a).node

-- a take touches no other link
abbrev pub takes_leave_other_queues : Type 0
takes_leave_other_queues =
    (a : Abstract) (link other : ℕ) → other ≢ link →
    queue_at (taken whole a link).node.queues other ≡ queue_at a.node.queues other
