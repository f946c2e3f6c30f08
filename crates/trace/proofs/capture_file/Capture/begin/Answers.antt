use Rattle.trace.specs.Packets.{file_header}
use Rattle.trace.proofs.Captured.{begun, front_kept, front_written, not_before}
use Rattle.trace.proofs.Written.{written_kept}
use Rattle.trace.proofs.capture_file.Capture.begin.Goals as goal

pub returns-clause-begun : goal.returns-clause-begun
returns-clause-begun g c = λ going.
    let written = c.write.ensures.all (not_before g.O.CaptureOutput.failed _ _ c.flush.ensures.ended going) in
    begun _ _ _ (written_kept _ _ _ file_header (rw (c.file_header.ensures) at written) c.flush.ensures.octets) c.new.ensures

pub returns-clause-front : goal.returns-clause-front
returns-clause-front g c =
    front_kept _ _ _ _ file_header c.file_header.ensures
    (front_written g.O.CaptureOutput.written g.O.CaptureOutput.failed c.args.output c.write.new.self _
    c.write.ensures.all c.write.ensures.part c.write.ensures.ended)
    c.flush.ensures.octets
