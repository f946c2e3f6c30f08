use Rattle.std.proofs.Common.{◌≡◌, length}
use Rattle.std.specs.Prelude.{is_some}
use Rattle.sctp_codec.specs.Items.{read_items}
use Rattle.sctp_codec.proofs.items.Items.read.Given as goal

abbrev pub invariant-each_item : goal.invariant-each_item
invariant-each_item l = is_some (read_items l.rest) ≡ is_some (read_items l.fn.octets)

abbrev pub decreases-each_item : goal.decreases-each_item
decreases-each_item l = length l.rest
