-- What the rules that a gate calls tell, by what the user of its endpoint wants.
use Rattle.std.proofs.Common.{ℕ, Bool, Option, Some, None}
use Rattle.sctp_codec.specs.Packets.{PacketValue}
use Rattle.sctp_sending.specs.Outgoing.{Message}
use Rattle.sctp_rules.specs.Settings.{Settings, Secrets, Address}
use Rattle.sctp_rules.specs.State.{State, Done, silent}
use Rattle.sctp_rules.specs.Opening.{opening}
use Rattle.sctp_rules.specs.Sending.{send, flush}
use Rattle.sctp_rules.specs.Timers.{ticked}
use Rattle.sctp_rules.specs.Endpoint.{Happening, Opens, Came, Ticked, Sends, Flushes, after}
use Rattle.sctp_rules.specs.Wishing.{Wish, Seeking, wish_after, wish_by_call, Fits}
use Rattle.sctp_rules.proofs.Passing.{Right}
use Rattle.sctp_rules.proofs.Wishing.{happening-fits, still-right}
use Rattle.sctp_endpoint.specs.Dispatching.{heard_datagram}

-- what is told fits what is wanted
pub record Suits (w : Wish) (d : Done) : Type 0 where
  pub right : Right d.left
  pub fits : Fits (wish_after d.told w) d.left

module _ (c : Settings) (k : Secrets) (s : State) (right : Right s) where
  happening-suits : (what : Happening) (w : Wish) → Fits (Some w) s → Suits (wish_by_call what w) (after c k what s)
  happening-suits what w f = record { right = still-right c k what s right; fits = happening-fits c k what s w right f }

  pub heard-suits : (packet : Option PacketValue) (now : ℕ) (source : Address) (w : Wish) → Fits (Some w) s → Suits w (heard_datagram packet c k now source s)
  unfolding after
  heard-suits None now source w f = record { right = right; fits = f }
  heard-suits (Some packet) now source w f = happening-suits (Came now source packet) w f

  pub ticked-suits : (now : ℕ) (w : Wish) → Fits (Some w) s → Suits w (ticked c k now s)
  unfolding after
  ticked-suits now w f = happening-suits (Ticked now) w f

  pub sent-suits : (m : Message) (w : Wish) → Fits (Some w) s → Suits w (silent (send m s))
  unfolding after
  sent-suits m w f = happening-suits (Sends m) w f

  pub flushed-suits : (now : ℕ) (w : Wish) → Fits (Some w) s → Suits w (flush c now s)
  unfolding after
  flushed-suits now w f = happening-suits (Flushes now) w f

  pub opened-suits : (now : ℕ) (is_active : Bool) → Fits (Some Seeking) s → Suits Seeking (opening c k now is_active s)
  unfolding after
  opened-suits now is_active f = happening-suits (Opens now is_active) Seeking f
