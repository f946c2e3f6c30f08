use Rattle.std.proofs.Common.{◌≡◌, drop}
use Rattle.sctp_links.specs.Screening.{is_at_one}
use Rattle.sctp_links.proofs.screening.is_at_one.Given as goal

abbrev pub invariant-each_place : goal.invariant-each_place
invariant-each_place l = is_at_one l.source (drop l.place-index l.places) ≡ is_at_one l.source l.fn.places
