use Rattle.std.proofs.Common.{arith}
use Rattle.sctp_cookie.proofs.Sameness.{still_same}
use Rattle.sctp_cookie.proofs.signing.is_same.Goals as goal

pub loop-place-preserved : goal.loop-place-preserved
loop-place-preserved c =
    still_same c.loop-place.differing c.args.octets.now c.args.others.now c.loop-place.place (omega (arith, c.told-octets)) (omega (arith, c.told-others)) c.loop-place.invariant
