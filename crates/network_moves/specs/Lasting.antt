-- What holds whatever was broken, and however often nodes start again.
use Rattle.std.specs.Prelude.{◌≡◌, ◌^◌, ℕ, Bool, false, not, nat_lt, List, count_by}
use Rattle.signalling_types.specs.Message.{Message}
use Rattle.network_moves.specs.Sayings.{Saying, UserMessage, Order, Answer, Other, saying}
use Rattle.network_moves.specs.Networks.{Network, Shape, Place, line_at}
use Rattle.network_moves.specs.Flowing.{IsEnd}
use Rattle.network_moves.specs.Moves.{Moves, last_of}
use Rattle.network_moves.specs.Quiet.{first_network}

-- a word with a number that no message has: these have 24 bits
abbrev pub is_odd : Saying → Bool
is_odd UserMessage = false
is_odd (Order link maker number) = not (nat_lt number (2 ^ 24))
is_odd (Answer link maker number) = not (nat_lt number (2 ^ 24))
is_odd Other = false

module _ (read : Message → Saying) where
  abbrev pub odd : Message → Bool
  odd = saying read is_odd

  -- each end of a link is sound, and no word with such a number is at a node or on an end
  pub record IsLasting (p : Network) : Type 0 where
    pub ends : (place : Place) → IsEnd (line_at p place).near
    pub nodes : (point : ℕ) → count_by odd (p.node point).bag ≡ 0
    pub queues : (place : Place) → count_by odd (line_at p place).near.queue.all ≡ 0

-- so it is after every list of moves from the first network on, whichever nodes are broken
abbrev pub ends_stay_sound : Type 0
ends_stay_sound =
    (shape : Shape) (read : Message → Saying) (networks : List Network) → Moves shape read first_network networks →
    IsLasting read (last_of first_network networks)
