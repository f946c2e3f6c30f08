-- Moves of one line that make nothing and take nothing out of a bag.
use Rattle.network_moves.proofs.Basics.{◌≡◌, ◌⊎◌, true, [], refl, arith}
use Rattle.network_moves.proofs.Definitions.{Message, last_accepted, opposite, Saying, LinkEnd, Line, Network, Shape, turned, Place, line_at, node_at, Becomes, under_way, user}
use Rattle.network_moves.proofs.Lines.{IsLine}
use Rattle.network_moves.proofs.Counts.{way-within}
use Rattle.network_moves.proofs.Words.{untrue_of, untrue-more, one-flag}
use Rattle.network_moves.proofs.Sound.{Sound, kept-line}
use Rattle.network_moves.proofs.Waiting.{IsSame}

module _ (shape : Shape) (read : Message → Saying) (p : Network) where
  pub record IsQuietChange (place : Place) (z : Line) : Type 0 where
    pub line : IsLine z
    pub near : IsSame z (line_at p place)
    pub far : IsSame (turned z) (turned (line_at p place))
    pub awaited : z.near.awaited ≡ (line_at p place).near.awaited
    pub far_awaited : z.far.awaited ≡ (line_at p place).far.awaited
    pub truth : under_way shape (untrue_of read place.link place.side z.near) p ≡ 0
    pub far_truth : under_way shape (untrue_of read place.link (opposite place.side) z.far) p ≡ 0

  pub quiet-line : (q : Network) (place : Place) (z : Line) → Becomes shape p q place z (node_at shape p place) → IsQuietChange place z →
      Sound shape read p → Sound shape read q
  quiet-line q place z after c h =
      kept-line shape read p q place z (node_at shape p place) after [] [] c.line
      (record {
        way = λ test. omega (arith, c.near.way test, c.far.way test);
        awaited = omega (arith, one-flag z.near.awaited (line_at p place).near.awaited c.awaited);
        far_awaited = omega (arith, one-flag z.far.awaited (line_at p place).far.awaited c.far_awaited);
        elsewhere = λ l s d. omega arith;
        truth = omega (arith, c.truth);
        far_truth = omega (arith, c.far_truth);
        truth_elsewhere = λ l s d. refl;
      })
      (record {
        entered = λ test. omega (arith, c.far.came (user read test));
        far_entered = λ test. c.near.came (user read test);
        each = λ test. omega (arith, c.near.each (user read test));
        far_each = λ test. c.far.each (user read test);
        named = λ test. omega (arith, c.near.lost (user read test));
        far_named = λ test. c.far.lost (user read test);
      })
      h

  -- an end that didn't come up, and where nothing was accepted while it was down
  pub still-true : (place : Place) (x : LinkEnd) → (x.up ≡ true → (line_at p place).near.up ≡ true) →
      ((line_at p place).near.up ≡ true) ⊎ (last_accepted x.queue ≡ last_accepted (line_at p place).near.queue) → Sound shape read p →
      under_way shape (untrue_of read place.link place.side x) p ≡ 0
  still-true place x up last h =
      let old : LinkEnd = (line_at p place).near in
      omega (
        arith,
        h.truth place.link place.side,
        way-within shape (untrue_of read place.link place.side x) (untrue_of read place.link place.side old) (untrue_of read place.link place.side old) p
            (λ m. untrue-more place.link place.side old.up x.up (last_accepted old.queue) (last_accepted x.queue) up last (read m)),
      )
