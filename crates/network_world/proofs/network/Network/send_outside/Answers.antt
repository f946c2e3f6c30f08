-- What becomes of it on what is kept is what becomes of it.
use Rattle.std.proofs.Common.{List, sym, subst, ◌∙◌}
use Rattle.network_rules.specs.Outside.{leads_out}
use Rattle.pair_rules.specs.Pairs.{Takes}
use Rattle.network_world.specs.KeptNodes.{KeptNode}
use Rattle.network_world.specs.NetworkStands.{NetworkStandsFor, stepped}
use Rattle.network_world.specs.NetworkAnew.{since}
use Rattle.network_world.proofs.LeadingOut.{sends-still}
use Rattle.network_world.proofs.Runs.{runs-kept}
use Rattle.network_world.proofs.OutsideTurns.{send-stands, send-text}
use Rattle.network_world.proofs.network.Network.send_outside.Goals as goal

pub returns-clause-text : goal.returns-clause-text
returns-clause-text c = λ w s. c.sent.ensures.text ∙ send-text c.args.self.now w s c.args.at c.args.link

pub returns-clause-state : goal.returns-clause-state
returns-clause-state c = λ w s.
    subst (λ (k : List KeptNode). NetworkStandsFor k (stepped (leads_out w c.args.at c.args.link) (record { point = c.args.at; what = Takes c.args.link }) w))
    (sym c.sent.ensures.state) (send-stands c.args.self.now w s c.args.at c.args.link)

pub returns-clause-since : goal.returns-clause-since
returns-clause-since c = λ from changes s within.
    c.sent.ensures.state ∙ sends-still c.args.self.now (since from changes) (runs-kept c.args.self.now from changes s) c.args.at c.args.link within
