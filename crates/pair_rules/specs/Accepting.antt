-- What an end accepts.
use Rattle.std.specs.Prelude.{◌≡◌, ℕ, false, All}
use Rattle.signalling_types.specs.Message.{Message, dpc_of, is_management}
use Rattle.pair_rules.specs.Pairs.{PairState}

-- a user message for a point
pub record IsUserMessageTo (point : ℕ) (m : Message) : Type 0 where
  pub destination : dpc_of m ≡ point
  pub user : is_management m ≡ false

-- all that the near end accepted is for the far point
abbrev pub AreForFarPoint : PairState → Type 0
AreForFarPoint p = All (IsUserMessageTo p.far.exchange.settings.own) p.near.accepted
