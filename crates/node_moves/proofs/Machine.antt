-- The machine of moves, and what of its proofs is used here.
pub use Rattle.network_moves.specs.Sayings.{Side, Near, Far, opposite, Saying, UserMessage, Order, Answer, Other, is_user_message, is_untrue, saying, user}
pub use Rattle.network_moves.specs.Networks.{Frame, EmptyFrame, MessageFrame, Phase, Live, Moved, Gone, LinkEnd, Line, Network, Shape, turned, seen, end_at, Place, line_at, point_at, node_at, one_if, NodeBecomes, LinesBecome, Becomes, IsTakenFrom}
pub use Rattle.network_moves.specs.Moves.{Move, Moves, last_of}
pub use Rattle.network_moves.specs.Flowing.{IsEnd}
pub use Rattle.network_moves.proofs.Sound.{Sound}
