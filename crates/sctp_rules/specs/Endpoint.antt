-- The endpoint: what becomes of everything that can happen to it.
use Rattle.std.specs.Prelude.{ℕ, Bool, List, [], ◌∷◌}
use Rattle.sctp_sending.specs.Outgoing.{Message}
use Rattle.sctp_codec.specs.Packets.{PacketValue}
use Rattle.sctp_rules.specs.Settings.{Settings, Secrets, Address}
use Rattle.sctp_rules.specs.State.{State, Done, silent, followed_by}
use Rattle.sctp_rules.specs.Ending.{abort}
use Rattle.sctp_rules.specs.Opening.{opening}
use Rattle.sctp_rules.specs.Shutdown.{shutdown}
use Rattle.sctp_rules.specs.Packets.{heard}
use Rattle.sctp_rules.specs.Timers.{ticked}
use Rattle.sctp_rules.specs.Sending.{send, flush}

-- what happens, and when, in milliseconds
pub data Happening : Type 0 where
  -- the user wants an association, and whether this end tries to open it
  Opens : (now : ℕ) (is_active : Bool) → Happening
  -- a packet came
  Came : (now : ℕ) (source : Address) (packet : PacketValue) → Happening
  -- time went by
  Ticked : (now : ℕ) → Happening
  -- the user sends a message
  Sends : (message : Message) → Happening
  -- the user ends it, at once or when all is confirmed
  Aborts : Happening
  ShutsDown : (now : ℕ) → Happening
  -- packets are asked for
  Flushes : (now : ℕ) → Happening

unfoldable pub after : Settings → Secrets → Happening → State → Done
after c k (Opens now is_active) s = opening c k now is_active s
after c k (Came now source packet) s = heard c k now source packet s
after c k (Ticked now) s = ticked c k now s
after c k (Sends message) s = silent (send message s)
after c k Aborts s = abort c s
after c k (ShutsDown now) s = shutdown c now s
after c k (Flushes now) s = flush c now s

-- one after another
abbrev pub after_all : Settings → Secrets → List Happening → State → Done
after_all c k [] s = silent s
after_all c k (what ∷ more) s = followed_by (after c k what s) (λ left. after_all c k more left)
