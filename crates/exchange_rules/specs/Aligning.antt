-- Each link has the timer of its state, and is proved before it enters service: laws (Q.703 §7, §12.3).
use Rattle.std.specs.Prelude.{◌≡◌, ◌≢◌, ◌⊎◌, ◌≤◌, ◌&&◌, ◌==◌, ℕ, Bool, true, false, length, List, Option, Some, None, is_some, Ok}
use Rattle.settings.specs.Configuration.{Configuration}
use Rattle.signalling_types.specs.declared.limits.TheConstants.Limits.{LINKS}
use Rattle.link.specs.declared.alignment.Alignment.{Alignment}
use Rattle.link.specs.declared.alignment.Alignment.TheVariants.{Down, NotAligned, Aligned, Proving, AlignedReady, InService}
use Rattle.link.specs.declared.period.Period.{Period}
use Rattle.link.specs.declared.period.Period.TheVariants.{Fixed}
use Rattle.link.specs.declared.action.LinkTimer.{LinkTimer}
use Rattle.link.specs.declared.action.LinkTimer.TheVariants.{L1, L2, L3, L4, L6, L7}
use Rattle.link.specs.Table.{timer_number}
use Rattle.timers.specs.Timers.{Running, is_due, is_running, ticked}
use Rattle.timers.specs.declared.name.TimerName.{TimerName}
use Rattle.timers.specs.declared.name.TimerName.TheVariants as name
use Rattle.m2pa_codec.specs.Frames.{FrameValue, StatusFrame, read_frame}
use Rattle.m2pa_codec.specs.declared.status.LinkStatus.{LinkStatus}
use Rattle.m2pa_codec.specs.declared.status.LinkStatus.TheVariants.{Alignment as AlignmentStatus, ProvingNormal, ProvingEmergency, Ready}
use Rattle.node_links.specs.NodeLinks.{Link, is_in_service}
use Rattle.exchange_rules.specs.State.{Asking, CameUp, FrameCame, Happening, Parts, Ticked, link_at}
use Rattle.exchange_rules.specs.Timing.{timer_name}
use Rattle.exchange_rules.specs.Frames.{data_of}
use Rattle.exchange_rules.specs.Lasting.{after_each}
use Rattle.exchange_rules.specs.Exchange.{after}
use Rattle.exchange_rules.specs.Queues.{whole}
use Rattle.exchange_rules.specs.First.{Abstract, first_state}

-- the timer with which a link waits in a state: L2 for its peer to align, L3 to be proved, L4 while it is proved, and
-- L1 for its peer to be ready
abbrev pub waiting_in : Alignment → Option LinkTimer
waiting_in Down = None
waiting_in NotAligned = Some L2
waiting_in Aligned = Some L3
waiting_in (Proving ready) = Some L4
waiting_in AlignedReady = Some L1
waiting_in InService = None

abbrev pub is_that : Option LinkTimer → LinkTimer → Bool
is_that None timer = false
is_that (Some other) timer = timer_number other == timer_number timer

-- whether a link waits with a timer: L6 and L7 are those of a link in service
abbrev pub is_of_waits : LinkTimer → Bool
is_of_waits L1 = true
is_of_waits L2 = true
is_of_waits L3 = true
is_of_waits L4 = true
is_of_waits L6 = false
is_of_waits L7 = false

-- Of the timers with which links wait, only that of a link's state runs. L6 runs only while the link is in service and
-- its peer is busy.
pub record HasItsTimer (link : ℕ) (l : Link) (r : Running) : Type 0 where
  pub waits : (timer : LinkTimer) → is_of_waits timer ≡ true →
      is_running (timer_name link timer) r ≡ is_that (waiting_in l.alignment) timer
  pub busy : is_running (timer_name link L6) r ≡ (is_in_service l.alignment && l.peer_busy)

-- this holds in each state reached from the first
abbrev pub links_have_their_timers : Type 0
links_have_their_timers =
    (c : Configuration) (asked : List Asking) (link : ℕ) → length c.links ≤ LINKS →
    HasItsTimer link (link_at (after_each asked (first_state c)).node.parts link)
    (after_each asked (first_state c)).node.parts.timers

-- ---- a link is proved before it enters service

abbrev pub state_of : Parts → (link : ℕ) → Alignment
state_of p link = (link_at p link).alignment

-- a link status came by the link
pub record Says (link : ℕ) (status : LinkStatus) (what : Happening) : Type 0 where
  pub text : List ℕ
  pub bsn : ℕ
  pub fsn : ℕ
  pub came : what ≡ FrameCame link text
  pub reads : read_frame text ≡ Ok (StatusFrame bsn fsn status)

-- User Data came by it
pub record Carries (link : ℕ) (what : Happening) : Type 0 where
  pub text : List ℕ
  pub frame : FrameValue
  pub came : what ≡ FrameCame link text
  pub reads : read_frame text ≡ Ok frame
  pub carries : is_some (data_of frame) ≡ true

-- a timer runs out at this tick
abbrev pub RunsOut : TimerName → Happening → Running → Type 0
RunsOut timer what r = (what ≡ Ticked) × (is_due (ticked r) timer ≡ true)

-- A link may enter service by an event: its proving succeeds as L4 runs out, and its peer said Ready meanwhile; or it
-- has succeeded, and now the peer says Ready, or sends User Data.
abbrev pub MayEnter : (link : ℕ) → Happening → Parts → Type 0
MayEnter link what p =
    (RunsOut (name.L4 link) what p.timers × (state_of p link ≡ Proving true))
    ⊎ ((Says link Ready what ⊎ Carries link what) × (state_of p link ≡ AlignedReady))

-- a link may be aligned again: it is proved, and its period isn't fixed
abbrev pub MayAlignAgain : Period → Alignment → Type 0
MayAlignAgain period state = (period ≢ Fixed) × ((ready : Bool) × (state ≡ Proving ready))

-- What led a link to the state that it is in after an event, if that is another than before: its association that comes
-- up, its peer's words, and L4.
pub record IsProvedFirst (what : Happening) (link : ℕ) (p : Parts) (after : Alignment) : Type 0 where
  pub begins : after ≡ NotAligned → state_of p link ≢ NotAligned → what ≡ CameUp link
  pub aligns : after ≡ Aligned → state_of p link ≢ Aligned →
      Says link AlignmentStatus what
      × ((state_of p link ≡ NotAligned) ⊎ MayAlignAgain (link_at p link).period (state_of p link))
  pub proves : after ≡ Proving false → state_of p link ≢ Proving false →
      (Says link ProvingNormal what ⊎ Says link ProvingEmergency what)
      × ((state_of p link ≡ NotAligned) ⊎ (state_of p link ≡ Aligned))
  pub remembers : after ≡ Proving true → state_of p link ≢ Proving true →
      Says link Ready what × (state_of p link ≡ Proving false)
  pub ends : after ≡ AlignedReady → state_of p link ≢ AlignedReady →
      RunsOut (name.L4 link) what p.timers × (state_of p link ≡ Proving false)
  pub enters : after ≡ InService → state_of p link ≢ InService → MayEnter link what p

abbrev pub links_are_proved_first : Type 0
links_are_proved_first =
    (what : Happening) (a : Abstract) (link : ℕ) →
    IsProvedFirst what link a.node.parts (state_of (after whole what a).node.parts link)
