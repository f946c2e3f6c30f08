-- When counts and a list of messages are what is kept of a queue with a window of w.
use Rattle.std.specs.Prelude.{◌≡◌, ℕ, List}
use Rattle.signalling_types.specs.Message.{Message}
use Rattle.link.specs.Queue.{Queue, IsQueue, unconfirmed}
use Rattle.link.specs.Counts.{Counts, counts_of}

pub record Keeps (w : ℕ) (k : Counts) (lane : List Message) (q : Queue) : Type 0 where
  pub sound : IsQueue w q
  pub counts : k ≡ counts_of q
  pub messages : lane ≡ unconfirmed q
