use Rattle.std.proofs.Common.{◌≡◌, ◌<◌, ◌≤◌, length, ap, arith}
use Rattle.sctp_sending.specs.Outgoing.{outgoing_at}
use Rattle.sctp_sending.specs.Outbox.{Outbox}
use Rattle.sctp_sending.proofs.Tallying.{leaving-octets, leaving-tally}
use Rattle.sctp_sending.proofs.outbox.Outbox.leaving.Goals as goal

pub loop-place-preserved : goal.loop-place-preserved
loop-place-preserved c =
    let went = ap (λ (b : Outbox). b.went) c.self.view_is in
    let b : c.loop-place.place < c.args.self.now.went = omega (arith, c.loop-place-test.true, c.requires) in
    let m : c.args.self.now.went ≤ length c.args.self.now.out = rw (← c.self.view_is) c.self.invariant.went in
    let cell : c.get-cell.result.now ≡ outgoing_at c.args.self.now.out c.loop-place.place = rw (← c.self.view_is) c.get-cell.ensures in
    record {
      octets = leaving-octets c.args.self.now.out c.loop-place.place c.loop-place.octets c.newly_confirmed-octets.result c.get-cell.result.now (omega (arith, b, m)) c.loop-place.invariant.octets c.newly_confirmed-octets.ensures.octets cell;
      tally = leaving-tally c.args.self.now.out c.args.self.now.went c.loop-place.place c.loop-place.tally c.without-tally.result c.get-cell.result.now b m c.loop-place.invariant.tally c.without-tally.ensures cell;
      most = omega (arith, c.loop-place.invariant.most, c.newly_confirmed-octets.ensures);
    }
