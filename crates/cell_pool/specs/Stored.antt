-- What a store of messages keeps.
use Rattle.std.specs.Prelude.{ℕ, List}
use Rattle.signalling_types.specs.Message.{Message}

-- the lists, and how many user messages may be in all of them together
pub record Stored : Type 0 where
  pub lists : List (List Message)
  pub pool : ℕ
