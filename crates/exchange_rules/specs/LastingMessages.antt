-- Which messages are in Held and in queues, over every event and every take: laws.
use Rattle.std.specs.Prelude.{◌≡◌, ℕ, Bool, true, not, nat_eq, List}
use Rattle.std.specs.List.{list_all}
use Rattle.signalling_types.specs.Message.{Message, dpc_of}
use Rattle.settings.specs.Configuration.{Configuration}
use Rattle.settings.specs.Well.{IsWell}
use Rattle.exchange_rules.specs.State.{Asking}
use Rattle.exchange_rules.specs.Queues.{WholeQueues, queue_at}
use Rattle.exchange_rules.specs.Lasting.{after_each}
use Rattle.exchange_rules.specs.First.{Abstract, first_state}

-- whether a message is for another point
abbrev pub is_onward : Configuration → Message → Bool
is_onward c m = not (nat_eq (dpc_of m) c.own)

abbrev pub all_onward : Configuration → List Message → Bool
all_onward c ms = list_all (is_onward c) ms

-- no message for this point is in Held, or in the queue of a link
pub record AreOnward (c : Configuration) (qs : WholeQueues) : Type 0 where
  pub held : all_onward c qs.held ≡ true
  pub links : (link : ℕ) → all_onward c (queue_at qs link).all ≡ true

-- so it is at first
abbrev pub first_is_onward : Type 0
first_is_onward = (c : Configuration) → AreOnward c (first_state c).node.queues

-- and this stays so, whatever is asked: a message for this point is never queued as it came
abbrev pub messages_stay_onward : Type 0
messages_stay_onward =
    (asked : List Asking) (a : Abstract) → IsWell a.settings → AreOnward a.settings a.node.queues →
    AreOnward a.settings (after_each asked a).node.queues
