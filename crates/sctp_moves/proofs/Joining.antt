-- Lists of moves: of one end, and one after another.
use Rattle.std.proofs.Common.{◌≡◌, List, [], ◌∷◌, ◌++◌, map, refl, ◌∙◌, subst, sym}
use Rattle.sctp_moves.specs.Ends.{End, Ends}
use Rattle.sctp_moves.specs.Moves as moves
use Rattle.sctp_moves.specs.Moves.{EndMoves, last_end, Moves, last_of}
use Rattle.sctp_moves.specs.Theorems.{both, AreMoves, near_moves_are_moves, far_moves_are_moves, moves_join}

pub near-moves : near_moves_are_moves
near-moves near far [] m = record { moves = tt; last = refl }
near-moves near far (q ∷ rest) m =
    let r : AreMoves (both q far) (map (λ (e : End). both e far) rest) (both (last_end q rest) far) = near-moves q far rest m.1 in
    record { moves = (moves.near m.0 refl, r.moves); last = r.last }

pub far-moves : far_moves_are_moves
far-moves near far [] m = record { moves = tt; last = refl }
far-moves near far (q ∷ rest) m =
    let r : AreMoves (both near q) (map (λ (e : End). both near e) rest) (both near (last_end q rest)) = far-moves near q rest m.1 in
    record { moves = (moves.far m.0 refl, r.moves); last = r.last }

append : (p : Ends) (list more : List Ends) → Moves p list → Moves (last_of p list) more → Moves p (list ++ more)
append p [] more m n = n
append p (q ∷ list) more m n = (m.0, append q list more m.1 n)

last-append : (p : Ends) (list more : List Ends) → last_of p (list ++ more) ≡ last_of (last_of p list) more
last-append p [] more = refl
last-append p (q ∷ list) more = last-append q list more

pub moves-join : moves_join
moves-join p q r list more m n =
    let further : Moves (last_of p list) more = subst (λ (e : Ends). Moves e more) (sym m.last) n.moves in
    record {
      moves = append p list more m.moves further;
      last = last-append p list more ∙ subst (λ (e : Ends). last_of e more ≡ r) (sym m.last) n.last;
    }
