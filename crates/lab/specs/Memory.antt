-- What is seen of a joiner in memory.
use Rattle.std.specs.Prelude.{ℕ}
use Rattle.lab.specs.declared.joining.JoinFault.{JoinFault}

-- how many octets its streams give a read at most, and the fault of a join that fails; which call fails, if one does,
-- stands in a cell that its streams share, and isn't seen
pub record MemoryLinks : Type 0 where
  pub most : ℕ
  pub fault : JoinFault
