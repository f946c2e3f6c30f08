-- How long a link is proved, by what its two ends ask for: laws (Q.703 §7.3).
use Rattle.std.specs.Prelude.{◌≡◌, ◌≢◌, ◌⊎◌, ℕ, Bool, max, Option, Some, unwrap_or}
use Rattle.settings.specs.Configuration.{Configuration}
use Rattle.m2pa_codec.specs.declared.status.LinkStatus.{LinkStatus}
use Rattle.m2pa_codec.specs.declared.status.LinkStatus.TheVariants.{ProvingNormal, ProvingEmergency}
use Rattle.link.specs.declared.alignment.Alignment.TheVariants.{NotAligned, Aligned, Proving}
use Rattle.link.specs.declared.period.Period.TheVariants.{Fixed, Normal, Emergency}
use Rattle.timers.specs.declared.name.TimerName.TheVariants.{L4}
use Rattle.node_links.specs.NodeLinks.{Link}
use Rattle.exchange_rules.specs.State.{Node, link_at}
use Rattle.exchange_rules.specs.Frames.{on_link_status}
use Rattle.exchange_rules.specs.Queues.{WholeQueues, whole}
use Rattle.exchange_rules.specs.Lasting.{HasAllPlaces}

-- a link waits for its peer's Proving; it is being proved
abbrev pub AwaitsProving : Link → Type 0
AwaitsProving l = (l.alignment ≡ NotAligned) ⊎ (l.alignment ≡ Aligned)

abbrev pub IsBeingProved : Link → Type 0
IsBeingProved l = (ready : Bool) × (l.alignment ≡ Proving ready)

-- how many ticks L4 of a link has left once its peer told a status
abbrev pub left_to_prove : Configuration → (link : ℕ) → LinkStatus → Node WholeQueues → Option ℕ
left_to_prove c link status node = (on_link_status whole c link status node).left.parts.timers.left (L4 link)

-- those of normal proving and of emergency proving
abbrev pub normal_ticks : Configuration → Option ℕ
normal_ticks c = Some (max 1 c.timers.l4)

abbrev pub emergency_ticks : Configuration → Option ℕ
emergency_ticks c = Some (max 1 (unwrap_or c.timers.l4e c.timers.l4))

-- L4 runs for emergency where either end asks for that, and for normal where neither does, or where the period of
-- links is fixed. A peer that asks for emergency while a link is proved for the normal period gets the whole of it from
-- then on; in any other period L4 runs on
pub record IsProvedAsAsked (c : Configuration) (link : ℕ) (l : Link) (node : Node WholeQueues) : Type 0 where
  pub by_peer : l.period ≢ Fixed → AwaitsProving l → left_to_prove c link ProvingEmergency node ≡ emergency_ticks c
  pub by_this_end : l.period ≡ Emergency → AwaitsProving l →
      left_to_prove c link ProvingNormal node ≡ emergency_ticks c
  pub by_neither : (l.period ≡ Normal) ⊎ (l.period ≡ Fixed) → AwaitsProving l →
      left_to_prove c link ProvingNormal node ≡ normal_ticks c
  pub fixed : l.period ≡ Fixed → AwaitsProving l → left_to_prove c link ProvingEmergency node ≡ normal_ticks c
  pub hurried : l.period ≡ Normal → IsBeingProved l → left_to_prove c link ProvingEmergency node ≡ emergency_ticks c
  pub runs_on : l.period ≢ Normal → IsBeingProved l →
      left_to_prove c link ProvingEmergency node ≡ node.parts.timers.left (L4 link)

abbrev pub links_are_proved_as_either_end_asks : Type 0
links_are_proved_as_either_end_asks =
    (c : Configuration) (link : ℕ) (node : Node WholeQueues) → HasAllPlaces c node →
    IsProvedAsAsked c link (link_at node.parts link) node
