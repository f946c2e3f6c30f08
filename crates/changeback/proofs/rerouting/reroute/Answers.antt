-- The links from before are those of the routing facts from before.
use Rattle.changeback.proofs.Basics.{◌∙◌, ℕ, List, ap, length, nat_lt, facts_of, held_for}
use Rattle.changeback.proofs.Rerouted.{moved_alike}
use Rattle.changeback.proofs.rerouting.reroute.Goals as goal

pub returns-clause-holds : goal.returns-clause-holds
returns-clause-holds c =
    c.hold_moved.ensures.holds ∙ ap (λ (xs : List ℕ). held_for c.args.destination xs c.args.holds.now)
    (moved_alike c.links_to-before.result (facts_of c.args.links.now) (facts_of c.set_status.new.self) c.args.destination c.links_to-before.ensures)

pub returns-clause-moved : goal.returns-clause-moved
returns-clause-moved c =
    c.hold_moved.ensures.moved ∙ ap (λ (xs : List ℕ). nat_lt 0 (length xs))
    (moved_alike c.links_to-before.result (facts_of c.args.links.now) (facts_of c.set_status.new.self) c.args.destination c.links_to-before.ensures)
