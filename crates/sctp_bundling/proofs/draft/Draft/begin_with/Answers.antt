use Rattle.std.proofs.Common.{take, ◌∙◌}
use Rattle.sctp_bundling.specs.Ways.{way_of}
use Rattle.sctp_bundling.proofs.Bundling.{draft-front, draft-none}
use Rattle.sctp_bundling.proofs.draft.Draft.begin_with.Goals as goal

pub returns-clause-text : goal.returns-clause-text
returns-clause-text c =
    rw (← c.self.view_is)
    (draft-front (way_of c.self.inside.way) c.args.chunks.now (take c.begin-at.result c.begin-at.new.out) (take c.write_at-end.result c.write_at-end.new.out) c.octets.result.now
    (c.begin-at.ensures.text ∙ draft-none (way_of c.self.inside.way)) c.write_at-end.ensures.text c.octets.ensures.octets)
