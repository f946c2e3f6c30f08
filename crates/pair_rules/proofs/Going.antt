-- Lists of moves, one after another.
use Rattle.pair_rules.proofs.Basics.{◌≡◌, true, List, [], ◌∷◌, ◌++◌, refl, ◌∙◌, ap, subst, sym}
use Rattle.pair_rules.proofs.Definitions.{Pair}
use Rattle.pair_moves.specs.Moves.{NearMove, Move, Moves, Loses, last_of}
use Rattle.pair_moves.specs.Moves as moves
use Rattle.pair_moves.specs.Sayings.{Reading}

module _ (read : Reading) where
  -- some moves lead from one pair to another
  pub record Goes (p q : Pair) : Type 0 where
    pub through : List Pair
    pub moves : Moves read p through
    pub ends : last_of p through ≡ q

  pub goes-none : (p : Pair) → Goes p p
  goes-none p = record { through = []; moves = tt; ends = refl }

  pub goes-same : (p q : Pair) → p ≡ q → Goes p q
  goes-same p q e = record { through = []; moves = tt; ends = e }

  pub goes-one : (p q : Pair) → NearMove read p q → Goes p q
  goes-one p q m = record { through = q ∷ []; moves = (moves.near m, tt); ends = refl }

  -- a message may be lost
  pub goes-lost : (p q : Pair) → q.near.lost ≡ true → Goes p q
  goes-lost p q e = goes-one p q (moves.loses (record { lost = e }))

  moves-behind : (p : Pair) (ps qs : List Pair) → Moves read p ps → Moves read (last_of p ps) qs → Moves read p (ps ++ qs)
  moves-behind p [] qs m n = n
  moves-behind p (q ∷ ps) qs m n = (m.0, moves-behind q ps qs m.1 n)

  last-behind : (p : Pair) (ps qs : List Pair) → last_of p (ps ++ qs) ≡ last_of (last_of p ps) qs
  last-behind p [] qs = refl
  last-behind p (q ∷ ps) qs = last-behind q ps qs

  pub goes-both : (p q r : Pair) → Goes p q → Goes q r → Goes p r
  goes-both p q r f g = record {
    through = f.through ++ g.through;
    moves = moves-behind p f.through g.through f.moves (subst (λ (x : Pair). Moves read x g.through) (sym f.ends) g.moves);
    ends = last-behind p f.through g.through ∙ ap (λ (x : Pair). last_of x g.through) f.ends ∙ g.ends;
  }
