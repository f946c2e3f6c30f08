-- What is read after the label is what the rule reads there.
use Rattle.sccp_relay.proofs.Basics.{◌≡◌, refl, sym, ◌∙◌, Some, returned}
use Rattle.sccp_relay.specs.Returning as rule
use Rattle.sccp_relay.proofs.returning.returned.Goals as goal

pub returns-in-Ok-clause-exact : goal.returns-in-Ok-clause-exact
unfolding returned
returns-in-Ok-clause-exact g c =
    let number : rule.return_cause c.args.cause ≡ Some c.in_ok-number.number = sym c.return_cause.ensures ∙ c.in_ok-number.was in
    rw (← c.at-label.ensures, ← c.behind_label.ensures, c.in-Ok.ensures, number) c.return_read.ensures.text

pub returns-in-Err-clause-exact : goal.returns-in-Err-clause-exact
unfolding returned
returns-in-Err-clause-exact g c =
    let number : rule.return_cause c.args.cause ≡ Some c.in_ok-number.number = sym c.return_cause.ensures ∙ c.in_ok-number.was in
    rw (← c.behind_label.ensures, c.in-Err.ensures, number) refl
