-- What was told keeps its shape, and anything may be pending.
use Rattle.exchange.proofs.Basics.{length, map, ap, sym, subst, ◌∙◌, length-map, Allowed, Network, facts_of, shape_of, reset_shape, Updates, OwesNoneBut}
use Rattle.routes.specs.Routes as facts
use Rattle.exchange.proofs.Pending.{all_may_be}
use Rattle.exchange.proofs.Recounting.{all-due}
use Rattle.exchange.proofs.Rooms.{changed_room, reroutings_in}
use Rattle.exchange.specs.DueFlows.{CountedBut}
use Rattle.exchange.specs.declared.reroutings.DueFlows.{DueFlows}
use Rattle.exchange.proofs.exchange.Exchange.reset_set.Goals as goal

pub invariant_of-self : goal.invariant_of-self
invariant_of-self c =
    changed_room c.self.inside c.reset_statuses.new.self c.reset.new.self c.clear_set-2.new.self c.add_all.new.self c.mark_all_if.new.self c.self.invariant
    (ap (λ (n : Network). length n.links) c.reset_statuses.ensures) (ap (λ (n : Network). n.sets) c.reset_statuses.ensures)
    (ap (λ (n : Network). length n.routes) c.reset_statuses.ensures ∙ length-map c.self.inside.links.routes (map (facts.with_status_over c.args.set Allowed)))
    (ap shape_of c.reset.ensures ∙ reset_shape c.self.inside.told c.args.set)
    (subst (λ (p : Updates). OwesNoneBut (length c.self.inside.settings.destinations) p (facts_of c.reset_statuses.new.self) c.reset.new.self)
    (sym c.add_all.ensures)
    (all_may_be (length c.self.inside.settings.destinations) c.self.inside.pending (facts_of c.reset_statuses.new.self) c.reset.new.self
    c.self.invariant.pending.marks))
    (subst (λ (d : DueFlows). CountedBut c.self.inside.settings d (facts_of c.reset_statuses.new.self) (reroutings_in c.self.inside)) (sym c.mark_all_if.ensures)
    (all-due c.self.inside.settings c.self.inside.flows_due (facts_of c.self.inside.links) (facts_of c.reset_statuses.new.self) (reroutings_in c.self.inside) c.self.invariant.flows))
