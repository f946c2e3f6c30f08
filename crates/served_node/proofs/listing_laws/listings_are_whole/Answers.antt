use Rattle.std.proofs.Common.{refl}
use Rattle.served_node.proofs.listing_laws.listings_are_whole.Goals as goal

pub returns : goal.returns
returns c = record { facts = refl; parts = refl; users = refl; timers = λ ticks. refl }
