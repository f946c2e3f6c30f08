use Rattle.served_link.proofs.Basics.{refl}
use Rattle.served_link.proofs.Handing.{feeds}
use Rattle.served_link.proofs.reading.feed.Goals as goal

pub returns : goal.returns
returns c =
    feeds c.args.framer.now c.args.octets.now _ c.feed-count.new.self c.feed-count.result c.requires.waits c.requires.room c.requires.some c.feed-count.ensures.count c.feed-count.ensures.held refl
