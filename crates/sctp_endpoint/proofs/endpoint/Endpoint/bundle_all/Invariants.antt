use Rattle.std.proofs.Common.{◌≡◌, ◌-◌, map}
use Rattle.sctp_codec.specs.Packets.{DataChunk}
use Rattle.sctp_rules.specs.Confirming.{going, all_gone}
use Rattle.sctp_bundling.specs.Bundling.{Draft, Adds}
use Rattle.sctp_endpoint.specs.Flushing.{with_sender}
use Rattle.sctp_endpoint.proofs.endpoint.Endpoint.bundle_all.Given as goal

abbrev pub invariant-loop : goal.invariant-loop
invariant-loop g l = record {
  kept : l.self ≡ with_sender l.fn.self l.self.state.association.sender;
  left : (going (257 - l.counter) l.now l.self.state.association.sender).left ≡ (all_gone l.now l.fn.self.state.association.sender).left;
  bundled : (last : g.row.W.Denot) (d : Draft)
      → Adds g.W.Watch.has l.watch last l.draft d (map DataChunk (going (257 - l.counter) l.now l.self.state.association.sender).chunks)
      → Adds g.W.Watch.has l.fn.watch last l.fn.draft d (map DataChunk (all_gone l.now l.fn.self.state.association.sender).chunks);
}
