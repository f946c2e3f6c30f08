use Rattle.std.proofs.Common.{◌≡◌, length}
use Rattle.sctp_codec.specs.Parameters.{reported_in}
use Rattle.sctp_codec.specs.Values.{items_of}
use Rattle.sctp_codec.proofs.reports.ReportsIterator.next.Given as goal

abbrev pub invariant-each_parameter : goal.invariant-each_parameter
invariant-each_parameter l = reported_in (items_of l.self.rest) ≡ reported_in (items_of l.fn.self.rest)

abbrev pub decreases-each_parameter : goal.decreases-each_parameter
decreases-each_parameter l = length (items_of l.self.rest)
