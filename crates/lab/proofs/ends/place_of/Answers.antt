use Rattle.std.proofs.Common.{◌∙◌, sym, nat_eq}
use Rattle.settings.specs.Configuration.{Configuration}
use Rattle.exchange.specs.Calls.{Kept}
use Rattle.lab.proofs.Networks.{position-map}
use Rattle.lab.proofs.ends.place_of.Goals as goal

pub returns : goal.returns
returns c = c.first_at.ensures ∙ sym (position-map (λ (n : Configuration). nat_eq n.own c.args.point) (λ (k : Kept). k.settings) c.args.nodes.now)
