use Rattle.std.proofs.Common.{Ok}
use Rattle.program.proofs.Files.{checked-document, ends-check}
use Rattle.program.proofs.program.check_parsed.Goals as goal

pub returns-in-Ok : goal.returns-in-Ok
returns-in-Ok g c =
    let octets = c.args.parsed.now.octets.items in
    let has = c.in-Ok.ensures.settings in
    checked-document c.args.file.now octets c.in-Ok.settings _ _ _ _ _ _ _ has.0 has.1 c.check_server_in.ensures

pub returns-in-Err : goal.returns-in-Err
returns-in-Err g c = ends-check c.args.file.now (Ok c.args.parsed.now.octets.items) _ _ _ _ _ c.in-Err.ensures.ended
