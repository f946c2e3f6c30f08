use Rattle.std.proofs.Common.{◌≡◌, drop}
use Rattle.sctp_links.specs.Peers.{is_among}
use Rattle.sctp_links.proofs.peers.is_among.Given as goal

abbrev pub invariant-each_place : goal.invariant-each_place
invariant-each_place l = is_among l.host (drop l.place-index l.places) ≡ is_among l.host l.fn.places
