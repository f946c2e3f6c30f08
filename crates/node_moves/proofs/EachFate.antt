-- Books are in order after every list of changes, so each message has its fate.
use Rattle.node_moves.proofs.Anew.{changes-keep}
use Rattle.node_moves.proofs.Booking.{IsInOrder, first-in-order, order-kept, takes-each}
use Rattle.node_moves.specs.Anew.{after_changes}
use Rattle.node_moves.specs.EachFate.{each_message_has_its_fate}
use Rattle.node_moves.specs.Networks.{first_network}

pub has-fate : each_message_has_its_fate
has-fate settings changes point =
    takes-each settings (after_changes settings changes (first_network settings)) point
    (changes-keep settings 0 0 (λ c x. IsInOrder c x) order-kept (λ c x h. record { submitted = h.submitted; came = h.came; accepted = h.accepted; made = h.made; made_once = h.made_once })
    point changes (first_network settings) (first-in-order (settings point)))
