-- What a call of the code does to a watch, a gate and an exchange: what the abstract gate does.
use Rattle.std.specs.Prelude.{◌≡◌, ℕ, List, ◌++◌, map}
use Rattle.sctp_rules.specs.State.{Told}
use Rattle.sctp_bundling.specs.Watching.{Sent, sent_as}
use Rattle.exchange_rules.specs.Queues.{WholeQueues}
use Rattle.exchange.specs.KeptQueues.{KeptQueues, kept}
use Rattle.exchange.specs.Calls.{Kept, StandsFor}
use Rattle.sctp_gate.specs.declared.standing.Standing.{Standing}
use Rattle.sctp_gate.specs.Standing.{stands_after}
use Rattle.sctp_gate.specs.Watching.{Sight, Gives}
use Rattle.sctp_gate.specs.Handing.{after_told, sights_of}
use Rattle.sctp_gate.specs.Gates.{Gate, Did}

-- on what is kept
pub record Makes {W : Type 0} (has : W → List Sent → List Sight → Type 0) (before after : W) (gate : Gate)
    (exchange : Kept) (did : Did KeptQueues) : Type 0 where
  pub gate_is : gate ≡ did.gate
  pub exchange_is : exchange ≡ did.exchange
  pub gives : Gives has before after (map sent_as did.sent) did.seen

-- on an abstract exchange
pub record MakesWhole {W : Type 0} (has : W → List Sent → List Sight → Type 0) (before after : W) (gate : Gate)
    (exchange : Kept) (did : Did WholeQueues) : Type 0 where
  pub gate_is : gate ≡ did.gate
  pub stands : StandsFor exchange did.exchange
  pub gives : Gives has before after (map sent_as did.sent) did.seen

-- ---- while the endpoint does something

-- what a bridge began with
pub record Beginning : Type 0 where
  pub link : ℕ
  pub time : ℕ
  pub standing : Standing
  pub exchange : Kept

-- what a bridge has that began like this, with a watch that had this
pub record HasHanded {W : Type 0} (has : W → List Sent → List Sight → Type 0) (had : List Sent → List Sight → Type 0)
    (b : Beginning) (sent : List Sent) (told : List Told) (now : Beginning) (watch : W) : Type 0 where
  pub now_is : now ≡ record b { standing = stands_after b.time told b.standing; exchange = after_told kept b.link told b.exchange }
  pub seen : (before : List Sent) (saw : List Sight) → had before saw
      → has watch (before ++ sent) (saw ++ sights_of kept b.link told b.exchange)
