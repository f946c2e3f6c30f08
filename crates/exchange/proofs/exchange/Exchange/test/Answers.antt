-- The message that is submitted is the test.
use Rattle.exchange.proofs.Basics.{ap, ◌∙◌, ℕ, Message, Kept, kept, after}
use Rattle.exchange_rules.specs.State.{Submitted}
use Rattle.sccp_relay.specs.SubsystemTests.{test_field}
use Rattle.exchange.proofs.exchange.Exchange.test.Goals as goal

pub returns : goal.returns
returns c =
    let text = c.write_test-count.ensures.text ∙ ap (λ (own : ℕ). test_field own c.args.subsystem.now) c.own.ensures ∙ ap (λ (k : Kept). test_field k.settings.own c.args.subsystem.now) c.self.view_is in
    c.happen.ensures.state ∙ ap (λ (m : Message). after kept (Submitted m) c.args.self.now) (λ i. record { sio = c.own_sio-sio.ensures i; sif = text i })
