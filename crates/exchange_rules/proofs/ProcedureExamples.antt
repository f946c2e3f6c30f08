-- Laws of procedures at a node of one link, by computation.
use Rattle.exchange_rules.proofs.Basics.{refl}
use Rattle.exchange_rules.proofs.Definitions.{set_timer, clear_timer}
use Rattle.sccp_relay.specs.Relay.{relay}
use Rattle.exchange_rules.specs.ProcedureExamples as examples

pub outage_outlasts_busy : examples.outage_outlasts_busy
outage_outlasts_busy = refl

pub emergency_has_its_ticks : examples.emergency_has_its_ticks
unfolding set_timer clear_timer
emergency_has_its_ticks = refl

pub share_is_full : examples.share_is_full
share_is_full = refl

pub link_test_is_answered : examples.link_test_is_answered
link_test_is_answered = refl

pub subsystem_test_is_answered : examples.subsystem_test_is_answered
unfolding relay
subsystem_test_is_answered = refl

pub test_from_afar_is_refused : examples.test_from_afar_is_refused
test_from_afar_is_refused = refl
