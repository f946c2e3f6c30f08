-- There is one where the count is above 0.
use Rattle.std.proofs.Common.{◌∙◌, ap, List, nat_lt}
use Rattle.std.specs.List.{list_any}
use Rattle.changeover.specs.Changeover.{Standing, is_unasked}
use Rattle.changeover.proofs.Unasked.{any-unasked}
use Rattle.changeover.proofs.changeover.Changeover.has_unasked.Goals as goal

pub returns : goal.returns
returns c =
    ap (nat_lt 0) c.self.invariant ∙ any-unasked c.self.inside.links.items
    ∙ ap (λ (all : List Standing). list_any is_unasked all) c.self.view_is
