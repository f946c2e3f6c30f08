use Rattle.std.proofs.Common.{◌∙◌}
use Rattle.std.proofs.lemmas.List.{length-set}
use Rattle.sctp_links.proofs.GivenAddresses.{one-more}
use Rattle.sctp_links.proofs.endpoint_settings.listed_in.Goals as goal

pub loop-i-preserved : goal.loop-i-preserved
loop-i-preserved c = (
  length-set c.loop-i.addresses c.loop-i.i c.in-Some.address ∙ c.loop-i.invariant.0,
  one-more c.args.places.now c.loop-i.addresses c.loop-i.i c.in-Some.address
      (rw c.loop-i.invariant.0 c.loop-i-test.true) (rw c.told-places c.loop-i-test.true) c.in-Some.is c.loop-i.invariant.1,
)
