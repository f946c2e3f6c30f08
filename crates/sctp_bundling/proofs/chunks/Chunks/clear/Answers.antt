use Rattle.std.proofs.Common.{[], refl, arith}
use Rattle.sctp_bundling.proofs.Rows.{are_none}
use Rattle.sctp_bundling.proofs.chunks.Chunks.clear.Goals as goal

pub invariant_of-self : goal.invariant_of-self
invariant_of-self c =
    let none = are_none [] refl in
    record { fits = omega arith; text = none.text; chunks = none.all }

pub returns : goal.returns
returns c = (are_none [] refl).read
