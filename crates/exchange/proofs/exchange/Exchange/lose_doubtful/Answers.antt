-- What is in doubt is what is lost.
use Rattle.exchange.proofs.Basics.{Bool, ap, sym, ◌∙◌, State, Parts, with_node, with_parts, KeptQueues, is_some, flagged}
use Rattle.exchange_rules.specs.State.{broken_if}
use Rattle.exchange.proofs.Passing.{doubtful}
use Rattle.exchange.proofs.exchange.Exchange.lose_doubtful.Goals as goal

pub returns-in-Some : goal.returns-in-Some
returns-in-Some c =
    c.count_break_if.ensures
    ∙ ap (λ (breaks : Bool). with_node c.flag_loss.new.self (with_parts c.flag_loss.new.self.node (broken_if breaks c.flag_loss.new.self.node.parts))) c.is_some.ensures
    ∙ ap (λ (s : State KeptQueues). with_node s (with_parts s.node (broken_if (is_some c.args.number.now) s.node.parts))) c.flag_loss.ensures
    ∙ ap (λ (s : State KeptQueues). with_node s (with_parts s.node (broken_if (is_some c.args.number.now) (flagged s.node.parts)))) c.lose_first.ensures
    ∙ ap (λ (p : Parts). with_node c.args.self.now (with_parts c.args.self.now.node p))
    (doubtful c.args.self.now.node.queues c.args.link c.args.number.now c.in-Some.count c.args.self.now.node.parts (sym c.in-Some.ensures))
