-- A wrong number fails the link.
use Rattle.exchange.proofs.Accepting.{wrong_number}
use Rattle.exchange.proofs.exchange.Exchange.handle.Goals as goal

pub returns-in-Err : goal.returns-in-Err
returns-in-Err c =
    wrong_number c.args.self.now c.accept_numbers.new.self c.fail.new.self c.args.link c.args.frame.now c.is_some-carries.result c.accept_numbers.result c.in-Err.field-0
    c.is_some-carries.ensures c.accept_numbers.ensures.answer c.in-Err.is c.accept_numbers.ensures.state c.fail.ensures
