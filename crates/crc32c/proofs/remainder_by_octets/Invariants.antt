use Rattle.std.proofs.Common.{◌≡◌, drop}
use Rattle.crc32c.specs.Division.{after_octets}
use Rattle.crc32c.proofs.remainder_by_octets.Given as goal

abbrev pub invariant-octets : goal.invariant-octets
invariant-octets l = after_octets l.remainder (drop l.octet-index l.octets) ≡ after_octets l.fn.before l.fn.octets
