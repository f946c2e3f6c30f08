use Rattle.std.proofs.Common.{Ok}
use Rattle.program.proofs.Files.{checks-from, ends-check}
use Rattle.program.proofs.program.check_file.Goals as goal

pub returns : goal.returns
returns g c =
    let octets = c.in-Ok.parsed.octets.items in
    let d = c.in-Ok.ensures.document in
    (Ok octets, d.0, checks-from c.args.file.now octets _ _ _ _ _ _ _ c.in-Ok.ensures.unwritten c.in-Ok.ensures.untold c.check_parsed-status.ensures)

pub returns-in-Err : goal.returns-in-Err
returns-in-Err g c =
    let ended = c.in-Err.ensures.ended in
    (ended.0, ended.1, ends-check c.args.file.now ended.0 _ _ _ _ _ ended.2)
