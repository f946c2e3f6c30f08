use Rattle.sctp_bundling.specs.Addresses.{listed}
use Rattle.sctp_endpoint.proofs.Answering.{init-chunk, init-room}
use Rattle.sctp_endpoint.proofs.endpoint.Endpoint.begin_by.Goals as goal

pub add-requires-clause-room : goal.add-requires-clause-room
add-requires-clause-room g c = init-room c.new-chunks.result c.offer.result (listed c.self.inside.settings.addresses) c.new-chunks.ensures

pub add-requires-clause-chunk : goal.add-requires-clause-chunk
add-requires-clause-chunk g c = init-chunk c.offer.result c.args.tag (listed c.self.inside.settings.addresses) c.offer.ensures c.ranges.tag.fits
