use Rattle.std.proofs.Common.{◌≡◌}
use Rattle.std.specs.Prelude.{◌||◌}
use Rattle.sctp_codec.specs.Reading.{has_type}
use Rattle.sctp_codec.specs.Values.{items_of}
use Rattle.sctp_codec.proofs.packet.has_beginning.Given as goal

abbrev pub invariant-each_item : goal.invariant-each_item
invariant-each_item l =
    (has_type 1 (items_of l.item-iterator) || has_type 2 (items_of l.item-iterator))
    ≡ (has_type 1 (items_of l.fn.items) || has_type 2 (items_of l.fn.items))
