use Rattle.std.proofs.Common.{refl}
use Rattle.trace.proofs.Captured.{gone_on, packet_written}
use Rattle.trace.specs.Captures.{FramePassed}
use Rattle.trace.proofs.capture_file.Capture.write.Goals as goal

pub returns-clause-captured : goal.returns-clause-captured
returns-clause-captured g c = λ before frames h few going.
    let numbers = rw (← c.self.view_is) at h.numbers in
    gone_on _ before c.args.self.now _ frames (FramePassed _) h (rw (← c.self.view_is) refl)
    (rw (← c.self.view_is) (packet_written _ _ c.self.inside.started c.args.now c.saturating_add-time.result c.args.link
    c.args.direction c.take-number.result frames c.args.frame.now _ c.saturating_add-time.ensures
    (c.take-number.ensures.number frames numbers) c.packet-count.ensures.text (c.write.ensures.all going)))
    (c.take-number.ensures.behind frames _ numbers refl refl)
