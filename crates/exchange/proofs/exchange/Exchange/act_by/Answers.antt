-- A link enters service, or it was in service, or isn't.
use Rattle.std.proofs.Common.{sym, ◌∙◌, inl, inr}
use Rattle.exchange.proofs.Basics.{◌<◌, length, arith, ap, State, KeptQueues}
use Rattle.exchange.proofs.Returning.{entered_service, stayed_out}
use Rattle.exchange.proofs.exchange.Exchange.act_by.Goals as goal
use Rattle.exchange.proofs.exchange.Exchange.act_by.Goals.{else-not-served-via-then-not-served+else-serves, else-not-served-via-else-not-served}

pub returns-then-serves-clause-state : goal.returns-then-serves-clause-state
returns-then-serves-clause-state c =
    entered_service c.step_alignment-action.result c.args.self.now c.step_alignment-action.new.self c.enter_service.new.self c.args.link
    c.step_alignment-action.ensures.state (sym c.serves-served.ensures ∙ c.if-not-served.true)
    (sym c.serves.ensures ∙ c.if-serves.true) c.enter_service.ensures

pub returns-else-not-served-clause-state : goal.returns-else-not-served-clause-state
returns-else-not-served-clause-state c =
    let there : c.args.link < length c.args.self.now.node.parts.links =
    omega (arith, c.requires, c.self.invariant.links, ap (λ (s : State KeptQueues). length s.settings.links) c.self.view_is, ap (λ (s : State KeptQueues). length s.node.parts.links) c.self.view_is) in
    stayed_out c.step_alignment-action.result c.args.self.now c.step_alignment-action.new.self c.args.link there c.step_alignment-action.ensures.state
    (elim c.else-not-served.branch [
      | else-not-served-via-then-not-served+else-serves w ↦ inr (sym w.serves.ensures ∙ w.if-serves.false)
      | else-not-served-via-else-not-served w ↦ inl (sym c.serves-served.ensures ∙ w.if-not-served.false)
    ])
