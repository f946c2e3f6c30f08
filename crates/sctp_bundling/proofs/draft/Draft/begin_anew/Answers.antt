use Rattle.std.proofs.Common.{◌∙◌}
use Rattle.sctp_bundling.specs.Ways.{way_of}
use Rattle.sctp_bundling.proofs.Bundling.{draft-none, draft-is}
use Rattle.sctp_bundling.proofs.draft.Draft.begin_anew.Goals as goal

pub returns : goal.returns
returns c = rw (← c.self.view_is) (draft-is (way_of c.self.inside.way) _ _ _ (c.begin-self-inside.ensures.text ∙ draft-none (way_of c.self.inside.way)) c.begin-self-inside.ensures.count)
