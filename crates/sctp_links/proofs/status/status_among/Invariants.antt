-- The links so far are others.
use Rattle.std.proofs.Common.{◌≡◌, drop}
use Rattle.sctp_links.specs.Links.{status_among}
use Rattle.sctp_links.proofs.status.status_among.Given as goal

abbrev pub invariant-loop-one : goal.invariant-loop-one
invariant-loop-one l = status_among l.link (drop l.one-index l.links) ≡ status_among l.fn.link l.fn.links
