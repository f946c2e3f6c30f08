-- The move of an order to change over that goes out late: when the link failed there was no way to the far node, and
-- now there is (Q.704 §5.4).
use Rattle.std.specs.Prelude.{◌≡◌, ℕ, true, false, [], ◌∷◌, ◌++◌}
use Rattle.signalling_types.specs.Message.{Message}
use Rattle.link.specs.Queue.{last_accepted}
use Rattle.pair_moves.specs.Sayings.{Reading, Order}
use Rattle.pair_moves.specs.Ends.{Line, Pair}
use Rattle.pair_moves.specs.Passing.{BecomeAt}

-- a line after the near end awaits an answer
abbrev pub with_wait : Line → Line
with_wait z = record z { near = record z.near { awaited = true } }

module _ (read : Reading) (p q : Pair) where
  -- an order goes out about a link that failed in service, so that it is down, and whose changeover isn't complete. It
  -- has the number of the last message accepted there. While an answer is awaited, no second one goes out
  pub record OrdersLate : Type 0 where
    pub link : ℕ
    pub incomplete : (p.line link).near.incomplete ≡ true
    pub unawaited : (p.line link).near.awaited ≡ false
    pub order : Message
    pub says : read.there order ≡ Order link (last_accepted (p.line link).near.queue)
    pub lines : ℕ → Line
    pub set : BecomeAt p link (with_wait (p.line link)) lines
    pub after : q ≡ record p { line = lines; near = record p.near { loose = p.near.loose ++ order ∷ [] } }
