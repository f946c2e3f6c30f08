use Rattle.std.proofs.Common.{◌≡◌, ◌++◌, length, take, drop}
use Rattle.sctp_links.specs.EndpointSettings.{given}
use Rattle.sctp_links.proofs.endpoint_settings.listed_in.Given as goal

abbrev pub invariant-loop-i : goal.invariant-loop-i
invariant-loop-i l = (length l.addresses ≡ 8) × (take l.i l.addresses ++ given (drop l.i l.places) ≡ given l.places)
