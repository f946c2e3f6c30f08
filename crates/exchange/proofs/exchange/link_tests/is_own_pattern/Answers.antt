-- A pattern of another length is another.
use Rattle.exchange.proofs.Basics.{sym, arith}
use Rattle.std.proofs.lemmas.Bool.Decides.{nat_tests}
use Rattle.exchange.proofs.OwnPattern.{other-length}
use Rattle.exchange.proofs.exchange.link_tests.is_own_pattern.Goals as goal

pub returns-in_default : goal.returns-in_default
returns-in_default c = sym (other-length c.args.pattern.now (let few = c.in_default.len_below in grind (arith, nat_tests, few)))

pub returns-in_default-2 : goal.returns-in_default-2
returns-in_default-2 c = sym (other-length c.args.pattern.now (let many = c.in_default.len_at_least in grind (arith, nat_tests, many)))
