-- What DATA chunks carry, and the messages that they make (RFC 9260 §3.3.1, §6.9).
use Rattle.std.specs.Prelude.{ℕ, Bool, List}

-- what a DATA chunk says except its TSN: a message, or a fragment of one
pub record Piece : Type 0 where
  pub stream : ℕ
  -- the message's number in its stream
  pub sequence : ℕ
  pub protocol : ℕ
  -- whether it is the first fragment of its message, and whether the last
  pub begins : Bool
  pub ends : Bool
  pub unordered : Bool
  pub octets : List ℕ

-- a message as it is handed to the user
pub record Message : Type 0 where
  pub stream : ℕ
  pub protocol : ℕ
  pub octets : List ℕ

-- what has come of a message that hasn't ended
pub record Partial : Type 0 where
  pub stream : ℕ
  pub sequence : ℕ
  pub protocol : ℕ
  pub unordered : Bool
  pub octets : List ℕ
