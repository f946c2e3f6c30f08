-- What an order or an answer tells that a node takes out of its bag, since it is true.
use Rattle.network_moves.proofs.Basics.{◌≡◌, ℕ, true, false, List, ap, sym, ◌∙◌, arith, Some}
use Rattle.network_moves.proofs.Definitions.{Message, last_accepted, named_count, opposite, Saying, Order, Answer, is_untrue, LinkEnd, Line, Network, Shape, Place, line_at, point_at, node_at, Flows, IsTakenFrom}
use Rattle.network_moves.proofs.Frames.{named-there}
use Rattle.network_moves.proofs.Words.{true-word, taken-not, untrue_of}
use Rattle.network_moves.proofs.Lines.{IsLine}
use Rattle.network_moves.proofs.LinesChanged.{incomplete-there}
use Rattle.network_moves.proofs.Sound.{Sound, far-truth, line-there}
use Rattle.std.specs.Prelude.{◌<◌}

count-same : (count received : ℕ) → Some count ≡ Some received → count ≡ received
count-same count received e = grind arith

module _ (shape : Shape) (read : Message → Saying) (p : Network) (place : Place) where
  -- what a true order or answer of the far end says
  pub record Tells (number : ℕ) : Type 0 where
    pub far_down : (line_at p place).far.up ≡ false
    pub right : number ≡ last_accepted (line_at p place).far.queue

  module _ (m : Message) (rest : List Message) (inside : point_at shape place < shape.nodes) (taken : IsTakenFrom (node_at shape p place).bag m rest) (h : Sound shape read p) where
    said-true : is_untrue place.link (opposite place.side) (line_at p place).far.up (last_accepted (line_at p place).far.queue) (read m) ≡ false
    said-true = taken-not shape (untrue_of read place.link (opposite place.side) (line_at p place).far) p (point_at shape place) m rest inside taken (far-truth shape read p h place)

    tells : (number : ℕ) →
        is_untrue place.link (opposite place.side) (line_at p place).far.up (last_accepted (line_at p place).far.queue) (Order place.link (opposite place.side) number) ≡ false →
        Tells number
    tells number e =
        let x : LinkEnd = (line_at p place).far in
        let t : (x.up ≡ false) × (number ≡ last_accepted x.queue) = true-word place.link (opposite place.side) x.up (last_accepted x.queue) number e in
        record { far_down = t.0; right = t.1 }

    pub order-tells : (number : ℕ) → read m ≡ Order place.link (opposite place.side) number → Tells number
    order-tells number says =
        let x : LinkEnd = (line_at p place).far in
        tells number (ap (is_untrue place.link (opposite place.side) x.up (last_accepted x.queue)) (sym says) ∙ said-true)

    pub answer-tells : (number : ℕ) → read m ≡ Answer place.link (opposite place.side) number → Tells number
    answer-tells number says =
        let x : LinkEnd = (line_at p place).far in
        tells number (ap (is_untrue place.link (opposite place.side) x.up (last_accepted x.queue)) (sym says) ∙ said-true)

  -- the count that it names is of what the far end received
  pub names-there : (number : ℕ) → Tells number → (line_at p place).near.incomplete ≡ true → Sound shape read p →
      named_count (line_at p place).near.queue number ≡ Some (line_at p place).far.queue.received
  names-there number t incomplete h =
      let y : Line = line_at p place in
      let l : IsLine y = line-there shape read p h place in
      let f : Flows y = incomplete-there y incomplete l in
      ap (named_count y.near.queue) t.right ∙ named-there y.near.queue y.far.queue.received l.near.queue l.near.base f.confirmed f.received

  pub names-received : (number count : ℕ) → Tells number → (line_at p place).near.incomplete ≡ true →
      named_count (line_at p place).near.queue number ≡ Some count → Sound shape read p → count ≡ (line_at p place).far.queue.received
  names-received number count t incomplete named h =
      count-same count (line_at p place).far.queue.received (sym named ∙ names-there number t incomplete h)
