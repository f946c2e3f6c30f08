-- The same, seen from the far node.
use Rattle.pair_rules.proofs.Basics.{◌≡◌, List, [], ◌∷◌, map, refl, ap, ◌∙◌}
use Rattle.pair_rules.proofs.Definitions.{Pair}
use Rattle.pair_moves.specs.Ends.{turned}
use Rattle.pair_moves.specs.Moves.{Move, Moves, last_of}
use Rattle.pair_moves.specs.Moves as moves
use Rattle.pair_moves.specs.Sayings.{Reading, turned_reading}
use Rattle.pair_rules.proofs.Going.{Goes}

module _ (read : Reading) where
  -- a move of one node is a move of the other, as that sees it
  pub move-turned : (p q : Pair) → Move read p q → Move (turned_reading read) (turned p) (turned q)
  move-turned p q (moves.near m) = moves.far m
  move-turned p q (moves.far m) = moves.near m

  moves-turned : (p : Pair) (ps : List Pair) → Moves read p ps → Moves (turned_reading read) (turned p) (map turned ps)
  moves-turned p [] m = tt
  moves-turned p (q ∷ ps) m = (move-turned p q m.0, moves-turned q ps m.1)

  last-turned : (p : Pair) (ps : List Pair) → last_of (turned p) (map turned ps) ≡ turned (last_of p ps)
  last-turned p [] = refl
  last-turned p (q ∷ ps) = last-turned q ps

  pub goes-turned : (p q : Pair) → Goes read p q → Goes (turned_reading read) (turned p) (turned q)
  goes-turned p q g = record {
    through = map turned g.through;
    moves = moves-turned p g.through g.moves;
    ends = last-turned p g.through ∙ ap turned g.ends;
  }
