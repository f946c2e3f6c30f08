use Rattle.std.proofs.Common.{arith}
use Rattle.sctp_endpoint.proofs.Ticking.{calmed, calm-t1, calm-t5, calm-t2, calm-t3, ticked-does}
use Rattle.sctp_endpoint.proofs.endpoint.Endpoint.tick.Goals as goal

pub tick_beat-requires-clause-generation : goal.tick_beat-requires-clause-generation
tick_beat-requires-clause-generation g c =
    let e = c.args.self.now in
    let one = calmed g.W.Watch.has c.args.watch.now c.tick_t1.new.watch e c.tick_t1.new.self _ c.tick_t1.ensures (calm-t1 e.settings c.args.now e.state) in
    let two = calmed g.W.Watch.has c.tick_t1.new.watch c.tick_t5.new.watch c.tick_t1.new.self c.tick_t5.new.self _ c.tick_t5.ensures (calm-t5 c.tick_t1.new.self.settings c.args.now c.tick_t1.new.self.state) in
    let three = calmed g.W.Watch.has c.tick_t5.new.watch c.tick_t2.new.watch c.tick_t5.new.self c.tick_t2.new.self _ c.tick_t2.ensures (calm-t2 c.tick_t5.new.self.settings c.args.now c.tick_t5.new.self.state) in
    let four = calmed g.W.Watch.has c.tick_t2.new.watch c.tick_t3.new.watch c.tick_t2.new.self c.tick_t3.new.self _ c.tick_t3.ensures (calm-t3 c.tick_t2.new.self.settings c.args.now c.tick_t2.new.self.state) in
    omega (arith, c.requires.generation, one.grows, two.grows, three.grows, four.grows)

pub tick_beat-requires-clause-nonces : goal.tick_beat-requires-clause-nonces
tick_beat-requires-clause-nonces g c =
    let e = c.args.self.now in
    let one = calmed g.W.Watch.has c.args.watch.now c.tick_t1.new.watch e c.tick_t1.new.self _ c.tick_t1.ensures (calm-t1 e.settings c.args.now e.state) in
    let two = calmed g.W.Watch.has c.tick_t1.new.watch c.tick_t5.new.watch c.tick_t1.new.self c.tick_t5.new.self _ c.tick_t5.ensures (calm-t5 c.tick_t1.new.self.settings c.args.now c.tick_t1.new.self.state) in
    let three = calmed g.W.Watch.has c.tick_t5.new.watch c.tick_t2.new.watch c.tick_t5.new.self c.tick_t2.new.self _ c.tick_t2.ensures (calm-t2 c.tick_t5.new.self.settings c.args.now c.tick_t5.new.self.state) in
    let four = calmed g.W.Watch.has c.tick_t2.new.watch c.tick_t3.new.watch c.tick_t2.new.self c.tick_t3.new.self _ c.tick_t3.ensures (calm-t3 c.tick_t2.new.self.settings c.args.now c.tick_t2.new.self.state) in
    omega (arith, c.requires.nonces, one.same, two.same, three.same, four.same)

pub returns : goal.returns
returns g c =
    ticked-does g.W.Watch.has c.args.now c.args.watch.now c.tick_t1.new.watch c.tick_t5.new.watch c.tick_t2.new.watch c.tick_t3.new.watch c.tick_beat.new.watch
    c.args.self.now c.tick_t1.new.self c.tick_t5.new.self c.tick_t2.new.self c.tick_t3.new.self c.tick_beat.new.self c.tick_t1.ensures c.tick_t5.ensures c.tick_t2.ensures c.tick_t3.ensures c.tick_beat.ensures
