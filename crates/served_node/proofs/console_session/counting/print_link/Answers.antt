use Rattle.served_node.specs.Counters.{link_text}
use Rattle.served_node.proofs.console_session.counting.print_link.Goals as goal

pub returns-clause-all : goal.returns-clause-all
unfolding link_text
returns-clause-all g c = c.print_each.ensures.all

pub returns-clause-first : goal.returns-clause-first
unfolding link_text
returns-clause-first g c = c.print_each.ensures.first
