-- The links of a node have their sets in the settings.
use Rattle.exchange.proofs.Basics.{ap, ◌∙◌, Kept}
use Rattle.exchange_rules.specs.Messages.{own_of}
use Rattle.exchange.proofs.SubsystemTests.{own-here}
use Rattle.exchange.proofs.exchange.Exchange.own.Goals as goal

pub returns : goal.returns
returns c =
    c.own_in.ensures ∙ own-here c.self.inside.settings c.self.inside.links c.self.invariant.sets
    ∙ ap (λ (s : Kept). own_of s.settings s.node.parts) c.self.view_is
