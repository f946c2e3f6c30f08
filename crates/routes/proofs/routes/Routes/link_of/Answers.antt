-- The row of the destination has the link.
use Rattle.routes.proofs.Basics.{◌∙◌, ap, arith, rules, nat_tests, Facts, chosen_link}
use Rattle.routes.proofs.Compiling.{found_row, no_row}
use Rattle.routes.proofs.routes.Routes.link_of.Goals as goal

pub returns-in-Some : goal.returns-in-Some
returns-in-Some c =
    c.link.ensures
    ∙ found_row c.self.inside.known c.deref.result.now c.in-Some.links.now c.args.destination c.args.sls
    (c.deref.ensures.value ∙ c.self.invariant.table) (grind (arith, nat_tests, c.in-Some.ensures.lookup.0)) c.in-Some.ensures.lookup.1 (search rules)
    ∙ ap (λ (f : Facts). chosen_link f c.args.destination c.args.sls) c.self.view_is

pub returns-in-None : goal.returns-in-None
returns-in-None c =
    no_row c.self.inside.known c.deref.result.now c.args.destination c.args.sls (c.deref.ensures.value ∙ c.self.invariant.table) c.in-None.ensures.lookup.0
    ∙ ap (λ (f : Facts). chosen_link f c.args.destination c.args.sls) c.self.view_is
