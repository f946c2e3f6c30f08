-- The node to which a link leads is that of the first settings for the point.
use Rattle.std.proofs.Common.{◌≡◌, ℕ, false, true, Some, None, nat_eq, ap, sym, subst, ◌∙◌}
use Rattle.std.specs.Prelude.{position}
use Rattle.settings.specs.Configuration.{Configuration}
use Rattle.settings.specs.Sharing.{SharesSet}
use Rattle.exchange_rules.specs.Routing.{adjacent_of}
use Rattle.network_world.specs.Joined.{settings_at}
use Rattle.network_world.proofs.OneByOne.{shares-none, shares-there}
use Rattle.network_world.proofs.joining.is_joined_by.Goals as goal

pub returns-in-Some : goal.returns-in-Some
returns-in-Some c =
    let near = c.args.near.now in
    let all = c.args.all.now in
    let point : ℕ = adjacent_of near c.args.link.now.set in
    let place : position (λ (o : Configuration). nat_eq o.own point) all ≡ Some c.in-Some.far =
    ap (λ (p : ℕ). position (λ (o : Configuration). nat_eq o.own p) all) (sym c.adjacent_of.ensures) ∙ sym c.in-Some.ensures.place in
    let there : settings_at all point ≡ c.index-all-far.result = shares-there all near point c.in-Some.far c.index-all-far.result place ∙ sym c.index-all-far.is in (
      (λ t. subst (SharesSet near) (sym there) (c.shares_set_with.ensures.0 t)),
      (λ h. c.shares_set_with.ensures.1 (subst (SharesSet near) there h)),
    )

pub returns-in-None : goal.returns-in-None
returns-in-None c =
    let near = c.args.near.now in
    let all = c.args.all.now in
    let point : ℕ = adjacent_of near c.args.link.now.set in
    let place : position (λ (o : Configuration). nat_eq o.own point) all ≡ None =
    ap (λ (p : ℕ). position (λ (o : Configuration). nat_eq o.own p) all) (sym c.adjacent_of.ensures) ∙ sym c.in-None.ensures.place in (
      (λ t. absurd (let no : false ≡ true = t in cc)),
      (λ h. absurd (shares-none all near point place h)),
    )
