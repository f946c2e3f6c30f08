use Rattle.std.proofs.Common.{◌≡◌}
use Rattle.sctp_codec.specs.Parameters.{has_stale_cookie}
use Rattle.sctp_codec.specs.Values.{items_of}
use Rattle.sctp_codec.proofs.parameters.has_stale_cookie.Given as goal

abbrev pub invariant-each_cause : goal.invariant-each_cause
invariant-each_cause l = has_stale_cookie (items_of l.cause-iterator) ≡ has_stale_cookie (items_of l.fn.causes)
