-- What is told at first has the shape of the settings.
use Rattle.exchange.proofs.Basics.{◌≡◌, List, Ok, Err, replicate, length, ap, ◌∙◌, IfOk, SetEntry, DestinationEntry, first_told, shape_of, first_shape}
use Rattle.exchange.proofs.exchange.boot.nothing_told.Goals as goal

pub returns-clause-shape : goal.returns-clause-shape
returns-clause-shape c =
    elim c.new.result as (λ r. IfOk r (λ told. told ≡ first_told c.sets-sets.result.now c.destinations.result.now)
    → IfOk r (λ told. shape_of told ≡ replicate (length c.args.settings.now.sets) (length c.args.settings.now.destinations))) [
      | Ok told ↦ λ e. ap shape_of e
          ∙ first_shape c.sets-sets.result.now c.destinations.result.now
          ∙ ap (λ (sets : List SetEntry). replicate (length sets) (length c.destinations.result.now)) c.sets-sets.ensures.rows
          ∙ ap (λ (destinations : List DestinationEntry). replicate (length c.args.settings.now.sets) (length destinations)) c.destinations.ensures.rows
      | Err error ↦ λ e. e
    ] c.new.ensures
