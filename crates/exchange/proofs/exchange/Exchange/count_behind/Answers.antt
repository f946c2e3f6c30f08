-- What is kept after a number is what waits after it.
use Rattle.exchange.proofs.Basics.{ap, List, ◌∙◌, count_by, Message, is_user_picked}
use Rattle.exchange.proofs.Waiting.{stands-behind}
use Rattle.exchange.proofs.exchange.Exchange.count_behind.Goals as goal

pub returns-clause-count : goal.returns-clause-count
returns-clause-count g c = λ a s.
    c.count_on_link.ensures
    ∙ ap (λ (ms : List Message). count_by (is_user_picked (g.P.Pick.picks c.args.pick.now)) ms) (stands-behind c.args.link c.args.number c.args.self.now a s)
