-- No link of the set has the code.
use Rattle.std.proofs.Common.{◌&&◌, List, nat_eq, ap, ◌∙◌}
use Rattle.std.specs.Option.{option_and_then}
use Rattle.std.specs.Prelude.{position}
use Rattle.settings.specs.Configuration.{LinkEntry}
use Rattle.exchange_rules.specs.Messages.{link_in_set}
use Rattle.node_world.proofs.between.link_with_code.Goals as goal

pub returns-in_err-place : goal.returns-in_err-place
returns-in_err-place c =
    c.from_residual-in_err-place.ensures
    ∙ c.in_err-place.ensures.place
    ∙ ap (λ (links : List LinkEntry). position (λ (l : LinkEntry). nat_eq l.set c.in_ok-set.set && nat_eq l.slc c.args.slc) links) c.links.ensures.rows
    ∙ ap (option_and_then (link_in_set c.args.settings.now c.args.slc)) c.in_ok-set.ensures
