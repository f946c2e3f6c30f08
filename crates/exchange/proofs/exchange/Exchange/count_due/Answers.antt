-- Whichever flows were due, all are counted now: to count them again changes nothing.
use Rattle.exchange.proofs.Basics.{◌≡◌, sym, subst, ◌∙◌, facts, State, KeptQueues}
use Rattle.exchange_rules.specs.Exchange.{leaving}
use Rattle.exchange_rules.specs.Reroutings.{counted}
use Rattle.exchange_rules.proofs.Reroutings.{counted-again}
use Rattle.exchange.proofs.exchange.Exchange.count_due.Goals as goal
use Rattle.exchange.proofs.exchange.Exchange.count_due.Goals.{in-To, in-Nothing}

all_are : (s t : State KeptQueues) → t ≡ leaving s s.node → counted t.settings (facts t.settings t.node.parts) t.reroutings ≡ t.reroutings
all_are s t is =
    subst (λ (x : State KeptQueues). counted x.settings (facts x.settings x.node.parts) x.reroutings ≡ x.reroutings) (sym is)
    (counted-again s.settings (facts s.settings s.node.parts) s.reroutings)

pub end_counting-requires : goal.end_counting-requires
end_counting-requires c =
    elim c.match-self.branch [
      | in-To w ↦ all_are c.args.self.now c.match-self.self (w.self-is ∙ w.count_one.ensures)
      | in-Nothing w ↦ all_are c.args.self.now c.match-self.self (w.self-is ∙ w.count_rows.ensures)
    ]
