-- A network with two routes to a point of which the laws speak.
use Rattle.std.specs.Prelude.{ℕ, List, [], ◌∷◌}
use Rattle.node_moves.specs.MatedPair.{mated}
use Rattle.network_rules.specs.Networks.{first_network}
use Rattle.network_rules.specs.Totals.{IsPlaced}
use Rattle.node_law.specs.Alike.{AreLinked}

-- the points of the pair, and of the two that it transfers for
abbrev pub mated_points : List ℕ
mated_points = 1 ∷ 2 ∷ 3 ∷ 4 ∷ []

-- its nodes are where they are told, with settings that keep every limit, and each of its links has its other end there
pub record IsMatedPairLinked : Type 0 where
  pub placed : IsPlaced mated mated_points
  pub linked : AreLinked (first_network mated)
