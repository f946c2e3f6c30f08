-- What a step's outcome tells between two that have only each other: a delivery comes to what it brought.
use Rattle.signalling_types.specs.declared.outcome.Outcome.{Outcome}
use Rattle.settings.specs.Facing.{IsFacing}
use Rattle.pair_rules.specs.Pairs.{Doing, Delivers, DeliversStatus, PairState}
use Rattle.pair_rules.specs.Deliveries.{TellsOf}

-- the two have only each other: their settings face each other
abbrev pub AreAlone : PairState → Type 0
AreAlone p = IsFacing p.near.exchange.settings p.far.exchange.settings

-- of what is done at the near end, a delivery: by what that end received, and what it accepted
abbrev pub TellsHere : Doing → PairState → Outcome → Type 0
TellsHere (Delivers link) p outcome = TellsOf (Delivers link) p outcome
TellsHere (DeliversStatus link) p outcome = TellsOf (DeliversStatus link) p outcome
TellsHere what p outcome = Unit {0}
