use Rattle.std.proofs.Common.{◌≡◌, length}
use Rattle.crc32c.specs.Division.{after_octets}
use Rattle.crc32c.proofs.remainder.Given as goal

abbrev pub invariant-each_block : goal.invariant-each_block
invariant-each_block l = after_octets l.remainder l.rest ≡ after_octets l.fn.before l.fn.octets

abbrev pub decreases-each_block : goal.decreases-each_block
decreases-each_block l = length l.rest
