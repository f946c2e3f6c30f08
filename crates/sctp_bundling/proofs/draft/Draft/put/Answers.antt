use Rattle.std.proofs.Common.{take, ap, ◌∙◌}
use Rattle.sctp_bundling.specs.Bundling.{Draft}
use Rattle.sctp_bundling.specs.Settings.{address_of}
use Rattle.sctp_bundling.proofs.Bundling.{draft-sent}
use Rattle.sctp_bundling.proofs.draft.Draft.put.Goals as goal

pub returns-clause-put : goal.returns-clause-put
returns-clause-put g c = λ waiting e.
    draft-sent g.W.Watch.has c.args.self.now.way c.args.watch.now c.send.new.self waiting (take c.self.inside.end c.self.inside.out) (take c.self.inside.end c.finish_behind.new.out) (address_of c.self.inside.way.to)
    c.finish_behind.ensures c.send.ensures (ap (λ (d : Draft). d.way.to) c.self.view_is) (ap (λ (d : Draft). d.text) c.self.view_is ∙ e)
