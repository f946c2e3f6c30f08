-- A pair between which nothing is left: from any such one the laws hold, as from the first.
use Rattle.std.specs.Prelude.{◌≡◌, ℕ, false, []}
use Rattle.signalling_types.specs.Message.{Message}
use Rattle.pair_moves.specs.Sayings.{Reading, Saying}
use Rattle.pair_moves.specs.Ends.{LinkEnd, Line, Side, Pair, first_pair}
use Rattle.pair_moves.specs.Flowing.{IsEnd}
use Rattle.pair_moves.specs.Passing.{without_others}
use Rattle.pair_moves.specs.Returning.{MayOpen}

-- an end that may open, so no message is in its queue
pub record IsClosed (x : LinkEnd) : Type 0 where
  pub end : IsEnd x
  pub may_open : MayOpen x

-- a line that is closed at both ends, of which neither may follow the other. What is in flight on it doesn't matter,
-- since an opening leaves nothing of it
pub record IsAtRest (z : Line) : Type 0 where
  pub near : IsClosed z.near
  pub far : IsClosed z.far
  pub near_alone : z.near_may_follow ≡ false
  pub far_alone : z.far_may_follow ≡ false

-- a node that has no message, but for those in Held that the laws don't speak of, and gives up all codes that are
-- outstanding. Its flows may have links, and holds
pub record IsIdle (read : Message → Saying) (s : Side) : Type 0 where
  pub accepted : s.accepted ≡ []
  pub received : s.received ≡ []
  pub arrived : s.arrived ≡ []
  pub held : without_others read s.held ≡ []
  pub loose : s.loose ≡ []
  pub codes : (code : ℕ) → s.outstanding code ≡ s.given_up code

pub record IsQuiet (read : Reading) (p : Pair) : Type 0 where
  pub lines : (link : ℕ) → IsAtRest (p.line link)
  pub near : IsIdle read.there p.near
  pub far : IsIdle read.back p.far

-- the first pair is quiet, however many links there are
abbrev pub first_pairs_are_quiet : Type 0
first_pairs_are_quiet = (read : Reading) (links : ℕ) → IsQuiet read (first_pair links)
