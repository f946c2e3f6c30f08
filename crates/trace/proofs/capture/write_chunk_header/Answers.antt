use Rattle.std.proofs.Common.{take}
use Rattle.trace.proofs.Joined.{joined}
use Rattle.trace.proofs.capture.write_chunk_header.Goals as goal

pub returns-clause-text : goal.returns-clause-text
returns-clause-text c =
    let front = rw (c.octets.ensures) at c.write_chunk_front-at.ensures.text in
    let behind = rw (c.stream.ensures) at c.write_chunk_stream.ensures.text in
    joined (take c.args.at c.args.out.now) _ _ _ _ front behind
