-- What is read after the label is what the rule reads there.
use Rattle.sccp_relay.proofs.Basics.{refl, relay}
use Rattle.sccp_relay.proofs.relaying.relay.Goals as goal

pub returns-in-Err-clause-exact : goal.returns-in-Err-clause-exact
unfolding relay
returns-in-Err-clause-exact g c = rw (← c.behind_label.ensures, c.in-Err.ensures, c.sccp_cause.ensures) refl

pub returns-in-Ok-clause-exact : goal.returns-in-Ok-clause-exact
unfolding relay
returns-in-Ok-clause-exact g c =
    rw (← c.at-label.ensures, ← c.behind_label.ensures, c.in-Ok.ensures) c.relay_read.ensures.exact
