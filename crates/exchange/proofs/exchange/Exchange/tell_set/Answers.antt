-- A point that can't be reached is owed nothing.
use Rattle.exchange.proofs.Basics.{List, ap, sym, ◌∙◌, has_link, Facts, set_at, Owed, unreached_is_owed_nothing, State, with_node, KeptQueues, kept, facts, tell_each}
use Rattle.exchange.proofs.Pending.{unreached_done}
use Rattle.exchange.proofs.Rooms.{view_facts}
use Rattle.exchange.proofs.exchange.Exchange.tell_set.Goals as goal

pub returns-else-has_link-clause-state : goal.returns-else-has_link-clause-state
returns-else-has_link-clause-state c =
    let s : State KeptQueues = c.args.self.now in
    let f : Facts = facts s.settings s.node.parts in
    ap (λ (os : List Owed). with_node s (tell_each kept s.settings os s.node))
    (sym (unreached_is_owed_nothing f s.node.parts.told c.args.set
    (ap (λ (f : Facts). has_link f.in_service (set_at f c.args.set)) (view_facts c.self.inside s c.self.invariant c.self.view_is ∙ sym c.facts.ensures)
    ∙ sym c.has_link.ensures ∙ c.if-has_link.false)))

pub returns-else-has_link-clause-pending : goal.returns-else-has_link-clause-pending
returns-else-has_link-clause-pending c =
    let s : State KeptQueues = c.args.self.now in
    unreached_done (facts s.settings s.node.parts) s.node.parts.told c.args.set 0 c.requires.before
    (ap (λ (f : Facts). has_link f.in_service (set_at f c.args.set)) (view_facts c.self.inside s c.self.invariant c.self.view_is ∙ sym c.facts.ensures)
    ∙ sym c.has_link.ensures ∙ c.if-has_link.false)
