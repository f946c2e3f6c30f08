use Rattle.std.proofs.Common.{refl}
use Rattle.crc32c.specs.Division.{lowest_bits}
use Rattle.crc32c.proofs.laws.check_value.Goals as goal

pub returns : goal.returns
unfolding lowest_bits
returns c = refl
