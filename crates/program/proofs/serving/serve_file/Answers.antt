use Rattle.std.proofs.Common.{Ok}
use Rattle.program.proofs.Files.{serves-from, ends-serve}
use Rattle.program.proofs.serving.serve_file.Goals as goal

pub returns : goal.returns
returns g c =
    let octets = c.in-Ok.parsed.octets.items in
    let d = c.in-Ok.ensures.document in
    (Ok octets, d.0, serves-from c.args.file.now octets _ _ _ _ _ _ _ c.in-Ok.ensures.unwritten c.in-Ok.ensures.untold c.serve_parsed-status.ensures)

pub returns-in-Err : goal.returns-in-Err
returns-in-Err g c =
    let ended = c.in-Err.ensures.ended in
    (ended.0, ended.1, ends-serve c.args.file.now ended.0 _ _ _ _ _ ended.2)
