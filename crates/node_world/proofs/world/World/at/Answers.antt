-- The exchange of a node stands for that of the abstract one.
use Rattle.std.proofs.Common.{rules, ◌≡◌, List, Option, Some, None, ap, sym, subst, ◌∙◌}
use Rattle.std.specs.Prelude.{IfSome}
use Rattle.std.specs.Option.{option_map}
use Rattle.exchange.specs.Calls.{Kept, StandsFor}
use Rattle.exchange_rules.specs.First.{Abstract}
use Rattle.node_world.specs.Kept.{KeptNode, node_at}
use Rattle.node_world.proofs.Shown.{exchange-stands}
use Rattle.node_world.proofs.world.World.at.Goals as goal

through : {A : Type 0} (view : A → Kept) (a : Abstract) (o : Option A) → IfSome (option_map view o) (λ e. StandsFor e a) → IfSome o (λ x. StandsFor (view x) a)
through view a (Some x) is = is
through view a None is = tt

pub returns-clause-stands : goal.returns-clause-stands
returns-clause-stands c =
    let here : c.deref.result.now ≡ c.args.self.now = search rules in
    λ w s.
    through (λ x. x.now) (w.node c.args.at).books.exchange c.exchange_at.result
    (subst (λ (o : Option Kept). IfSome o (λ e. StandsFor e (w.node c.args.at).books.exchange))
    (sym (c.exchange_at.ensures.exchange ∙ ap (λ (k : List KeptNode). option_map (λ (n : KeptNode). n.exchange) (node_at c.args.at k)) here))
    (exchange-stands c.args.self.now w s c.args.at))
