-- A place where connections come.
use Rattle.std.specs.Prelude.{Bool, false}

-- whether a listener is there, and whether a connection may have come to it
pub record Listening : Type 0 where
  pub is_there : Bool
  pub may_accept : Bool

-- no listener: nothing comes
abbrev pub nowhere : Listening
nowhere = record { is_there = false; may_accept = false }
