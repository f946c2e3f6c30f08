use Rattle.std.proofs.Common.{◌≡◌, length}
use Rattle.crc32c.specs.Division.{after_octets}
use Rattle.crc32c.proofs.remainder_by_eights.Given as goal

abbrev pub invariant-eights : goal.invariant-eights
invariant-eights l = after_octets l.remainder l.rest ≡ after_octets l.fn.before l.fn.octets

abbrev pub decreases-eights : goal.decreases-eights
decreases-eights l = length l.rest
