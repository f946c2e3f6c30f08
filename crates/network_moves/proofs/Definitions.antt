-- Definitions that the proofs here are about, and lemmas of the crates below.
pub use Rattle.link.proofs.Sound.{sound-appended, sound-first, sound-emptied, sound-accepted}
pub use Rattle.link.specs.Queue.{last_accepted, Queue, IsQueue, first_queue, forward_number, named_count, confirmation, expected, accept_answer, appended, last_sent, Sending, numbered, to_send, after_sending, after_answer, emptied}
pub use Rattle.signalling_types.specs.Message.{Message}
pub use Rattle.signalling_types.specs.declared.limits.TheConstants.Limits.{WINDOW}
pub use Rattle.network_moves.specs.Sayings.{Side, Near, Far, opposite, same_side, Saying, UserMessage, Order, Answer, Other, is_user_message, is_end, is_awaited_by, is_untrue, saying, user}
pub use Rattle.network_moves.specs.Networks.{Frame, EmptyFrame, MessageFrame, Phase, Live, Moved, Gone, LinkEnd, Line, Node, Network, Shape, turned, seen, end_at, Place, line_at, point_at, node_at, waiting_in, waiting, given_up_in, given_up, one_if, sum_to, sum_of_ends, NodeBecomes, LinesBecome, Becomes, IsTakenFrom}
pub use Rattle.network_moves.specs.Passing.{with_message, Submits, Makes, Ends, GivesUp, Discards, Places}
pub use Rattle.network_moves.specs.Carrying.{with_status, with_statuses_left, with_frame, acknowledgement, with_sent, with_frames_left, with_heard, with_accepted, LineBecomes, SendsStatus, SendsMessage, SendsEmpty, HearsStatus, TakesStatus, DoublesStatus, Drops, TakesEmpty, TakesMessage}
pub use Rattle.network_moves.specs.Failing.{with_failure, with_wait, with_completion, sent_unconfirmed, without_unconfirmed, Falls, Orders, CompletesByOrder, AnswersOrder, CompletesByAnswer, EndsWait, CompletesByTime}
pub use Rattle.network_moves.specs.Returning.{opened_end, opened_first, opened_second, MayOpen, with_service, OpensFirst, OpensSecond, Enters, Breaks, ReleasesBar, HearsUnreasonableOrder, HearsUnreasonableAnswer}
pub use Rattle.network_moves.specs.Moves.{Move, Moves, last_of}
pub use Rattle.network_moves.specs.Flowing.{Carry, Name, Flows, is_in_use, IsFlowing, OpenedAlone, OpensAlone, IsEnd, MovesAlone, NamesReceived}
pub use Rattle.network_moves.specs.Quiet.{IsClosed, IsAtRest, AreOthers, IsIdle, IsQuiet, closed_end, closed_line, first_node, first_network, first_networks_are_quiet}
pub use Rattle.network_moves.specs.Laws.{on_its_way, under_way, WordsAreAwaited, WordsAreTrue, sum_at, came_from, came_to, waits_at, gone_at, EntersOnce, EndsOnce, IsJoined, IsAccountedFor}
