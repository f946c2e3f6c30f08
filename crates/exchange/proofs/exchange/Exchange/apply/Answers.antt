-- An event is handled, then held messages that may go on do, and adjacent points are told what they are owed.
use Rattle.exchange.proofs.Basics.{ap, ◌∙◌, State, with_node, KeptQueues, kept, release, tell_owed, apply}
use Rattle.exchange.proofs.exchange.Exchange.apply.Goals as goal

abbrev release_if_due : State KeptQueues → State KeptQueues
release_if_due s = with_node s (release kept s.settings s.node)

abbrev told : State KeptQueues → State KeptQueues
told s = with_node s (tell_owed kept s.settings s.node)

pub returns : goal.returns
unfolding apply
returns c = (
  c.handle_event-outcome.ensures.0,
  c.tell_owed.ensures ∙ ap told c.release_if_due.ensures ∙ ap (λ (s : State KeptQueues). told (release_if_due s)) c.handle_event-outcome.ensures.1,
)
