-- Definitions that the proofs here are about, and lemmas of the crates below.
pub use Rattle.link.proofs.Sound.{sound-appended, sound-first, sound-emptied, sound-accepted}
pub use Rattle.link.specs.Queue.{last_accepted, Queue, IsQueue, first_queue, forward_number, named_count, confirmation, expected, accept_answer, appended, last_sent, Sending, numbered, to_send, after_sending, after_answer}
pub use Rattle.pair_moves.specs.Carrying.{with_sent, with_frames_left, with_accepted, with_status, with_statuses_left, with_heard, with_frame, SendsStatus, SendsMessage, SendsEmpty, HearsStatus, TakesStatus, DoublesStatus, Drops, TakesEmpty, TakesMessage}
pub use Rattle.pair_moves.specs.Crossing.{plain_reading, read_plainly, the_message, the_order, the_answer, lines_with, held_by_changeover, Crosses}
pub use Rattle.pair_moves.specs.Ends.{LinkEnd, Line, Side, Pair, turned, turned_line, unreceived, first_pair, first_side, MessageFrame, Procedure, Changeover, Code, Time, closed_line, Frame, EmptyFrame, closed_end}
pub use Rattle.pair_moves.specs.Failing.{with_failure, with_completion, without_wait, users_of, managements_of, Falls, FallsWithOrder, CompletesByOrder, AnswersOrder, CompletesByAnswer, EndsWait, IgnoresAnswer, HoldsInService, Suspends, ChangesOnly}
pub use Rattle.pair_moves.specs.Flowing.{Carry, Name, Flows, IsFlowing, OpenedAlone, OpensAlone, IsEnd, is_in_use, NamesReceived, WaitsRightly}
pub use Rattle.pair_moves.specs.LateOrders.{with_wait, OrdersLate}
pub use Rattle.pair_moves.specs.Laws.{sum_to, under_way, one_if, saying, OrdersAreAwaited, WordsAreTrue, CodesAreOutstanding}
pub use Rattle.pair_moves.specs.Moves.{last_of, Move, Moves, NearMove, RunsLate}
pub use Rattle.pair_moves.specs.Once.{user, EachOnce}
pub use Rattle.pair_moves.specs.Order.{IsInOrder, join_to, of_flow, standing_on, IsGuarded, by_route, by_changeover, by_time, by_code}
pub use Rattle.pair_moves.specs.Passing.{BecomeAt, with_message, without_others, Accepts, TakesOut, Keeps, HandsOver, MayGo, Places, MixesOthers}
pub use Rattle.pair_moves.specs.Quiet.{IsClosed, IsAtRest, IsIdle, IsQuiet, first_pairs_are_quiet}
pub use Rattle.pair_moves.specs.Returning.{MayOpen, opened_first, opened_second, with_service, opened_end, StaysOrIsHeld, OpensFirst, OpensSecond, Enters, Declares, WaitsForTime, Confirms, EndsHold, IgnoresConfirmation}
pub use Rattle.pair_moves.specs.Sayings.{Reading, turned_reading, Saying, is_order, is_answer, is_untrue, is_declaration, is_confirmation, Order, Answer, is_user_message, is_of_flow, is_same_flow, Declaration, Confirmation, UserMessage, Other, is_other}
pub use Rattle.signalling_types.specs.Message.{Message, flow_of}
pub use Rattle.signalling_types.specs.declared.limits.TheConstants.Limits.{WINDOW}
pub use Rattle.signalling_types.specs.declared.point.Flow.{Flow}
