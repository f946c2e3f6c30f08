use Rattle.std.proofs.Common.{refl}
use Rattle.trace.specs.Captures.{PacketPassed}
use Rattle.trace.proofs.Captured.{gone_on, not_before, wire_cut, wire_written}
use Rattle.trace.proofs.Numbering.{behind_packet}
use Rattle.trace.proofs.capture_file.Capture.write_packet.Goals as goal

pub returns-clause-captured : goal.returns-clause-captured
returns-clause-captured g c = λ before passed h few going.
    let numbers = rw (← c.self.view_is) at h.numbers in
    gone_on _ before c.args.self.now _ passed (PacketPassed c.args.now c.args.packet.now) h (rw (← c.self.view_is) refl)
    (rw (← c.self.view_is) (wire_written _ _ _ c.self.inside.started c.args.now c.saturating_add-time.result
    c.record_header.result c.args.packet.now c.saturating_add-time.ensures c.record_header.ensures
    (c.write.ensures.all (not_before g.O.CaptureOutput.failed _ _ c.write-2.ensures.ended going))
    (c.write-2.ensures.all going)))
    (behind_packet _ passed c.args.now c.args.packet.now numbers)

pub returns-clause-part : goal.returns-clause-part
returns-clause-part g c = λ before failing.
    rw (← c.self.view_is) (wire_cut g.O.CaptureOutput.written g.O.CaptureOutput.failed _ _ _ c.self.inside.started
    c.args.now c.saturating_add-time.result c.record_header.result c.args.packet.now c.saturating_add-time.ensures
    c.record_header.ensures (rw (← c.self.view_is) at before) failing c.write.ensures.all c.write.ensures.part
    c.write-2.ensures.part c.write-2.ensures.ended)
