-- How many chunks are held.
use Rattle.std.proofs.Common.{◌≤◌, List, [], ◌∷◌, Option, Some, None, length, arith}
use Rattle.std.specs.Prelude.{sum_by}
use Rattle.std.proofs.lemmas.List.Sums.{sum_by-cons}
use Rattle.sctp_receiving.specs.Pieces.{Piece}
use Rattle.sctp_receiving.specs.Room.{held_count}

-- no more than there are places
pub few : (places : List (Option Piece)) → sum_by held_count places ≤ length places
few [] = omega arith
few (None ∷ places) = omega (arith, few places, sum_by-cons held_count None places)
few (Some p ∷ places) = omega (arith, few places, sum_by-cons held_count (Some p) places)
