use Rattle.std.proofs.Common.{arith}
use Rattle.m2pa_codec.proofs.FrameTexts.{is_frame_read, only_frame, first_fault_read, field_read}
use Rattle.m2pa_codec.proofs.reading.decode.Goals as goal

pub returns-clause-value : goal.returns-clause-value
returns-clause-value c = is_frame_read c.args.octets.now c.read.result (λ i. omega (arith, c.type_inv.octets i)) c.read.ensures

pub returns-clause-only : goal.returns-clause-only
returns-clause-only c = λ v h. only_frame c.args.octets.now c.read.result v c.read.ensures h

pub returns-clause-fault : goal.returns-clause-fault
returns-clause-fault c = first_fault_read c.args.octets.now c.read.result c.read.ensures

pub returns-clause-field : goal.returns-clause-field
returns-clause-field c = field_read c.args.octets.now c.read.result (λ i. omega (arith, c.type_inv.octets i)) c.read.ensures
