-- The run of the example is one: each pair of it comes from the one before by a move.
use Rattle.pair_moves.proofs.Basics.{true, false, [], refl, sym, arith, None}
use Rattle.pair_moves.proofs.Definitions.{MessageFrame, turned, with_message, with_sent, with_frames_left, with_accepted, with_failure, with_completion, Move, Moves, plain_reading, the_message, the_order, the_answer, lines_with, Crosses}
use Rattle.pair_moves.specs.Moves as moves
use Rattle.pair_moves.specs.Crossing as run
use Rattle.pair_moves.proofs.Lines.{false_is_true}
use Rattle.pair_moves.proofs.CrossingBegun.{set, some-none, held-alone, joining, opens-first, joins-first, opens-second, joins-second, serves-first, serves-second, serves-first_there, serves-second_there, accepts, places-first, sends-first, fails-near, places-order, sends-order}

-- ---- the order comes, and its answer

takes-order : Move plain_reading run.order_sent run.order_came
takes-order = moves.far (moves.takes_message (record {
  link = 1;
  fsn = 0;
  bsn = 16777215;
  message = the_order;
  rest = [];
  first = refl;
  up = refl;
  count = 0;
  accepted = refl;
  lines = lines_with (turned run.order_sent) 1 (with_accepted (((turned run.order_sent)).line 1) [] true 0);
  set = set (turned run.order_sent) 1 (with_accepted (((turned run.order_sent)).line 1) [] true 0) (omega arith);
  after = refl;
}))

fails-far : Move plain_reading run.order_came run.failed_far
fails-far = moves.far (moves.falls (record {
  link = 0;
  up = refl;
  route = λ flow. None;
  holds = λ procedure flow. false;
  suspends = record {
    others = λ flow other d e. e;
    kept = λ procedure flow e. e;
    same = λ procedure flow d. refl;
    held = λ flow serving e. some-none 0 e;
  };
  lines = lines_with (turned run.order_came) 0 (with_failure (((turned run.order_came)).line 0) false);
  set = set (turned run.order_came) 0 (with_failure (((turned run.order_came)).line 0) false) (omega arith);
  after = refl;
}))

drops : Move plain_reading run.failed_far run.message_dropped
drops = moves.far (moves.drops (record {
  link = 0;
  frame = MessageFrame 0 16777215 the_message;
  rest = [];
  first = refl;
  down = refl;
  lines = lines_with (turned run.failed_far) 0 (with_frames_left (((turned run.failed_far)).line 0) []);
  set = set (turned run.failed_far) 0 (with_frames_left (((turned run.failed_far)).line 0) []) (omega arith);
  after = refl;
}))

completes-far : Move plain_reading run.message_dropped run.completed_far
completes-far = moves.far (moves.completes_by_order (record {
  link = 0;
  number = 16777215;
  heard = record { message = the_order; rest = []; first = refl; says = refl };
  incomplete = refl;
  count = 0;
  named = refl;
  answer = the_answer;
  answers = refl;
  holds = λ procedure flow. false;
  lifted = λ procedure flow d. refl;
  lines = lines_with (turned run.message_dropped) 0 (with_completion (((turned run.message_dropped)).line 0) false);
  set = set (turned run.message_dropped) 0 (with_completion (((turned run.message_dropped)).line 0) false) (omega arith);
  after = refl;
}))

places-answer : Move plain_reading run.completed_far run.answer_placed
places-answer = moves.far (moves.places (record {
  link = 1;
  message = the_answer;
  rest = [];
  first = refl;
  serving = refl;
  may_go = λ u. false_is_true u;
  lines = lines_with (turned run.completed_far) 1 (with_message (((turned run.completed_far)).line 1) the_answer);
  set = set (turned run.completed_far) 1 (with_message (((turned run.completed_far)).line 1) the_answer) (omega arith);
  after = refl;
}))

sends-answer : Move plain_reading run.answer_placed run.answer_sent
sends-answer = moves.far (moves.sends_message (record {
  link = 1;
  serving = refl;
  window = 1;
  small = omega arith;
  sending = record { number = 0; message = the_answer };
  next = refl;
  lines = lines_with (turned run.answer_placed) 1 (with_sent (((turned run.answer_placed)).line 1) (record { number = 0; message = the_answer }));
  set = set (turned run.answer_placed) 1 (with_sent (((turned run.answer_placed)).line 1) (record { number = 0; message = the_answer })) (omega arith);
  after = refl;
}))

takes-answer : Move plain_reading run.answer_sent run.answer_came
takes-answer = moves.near (moves.takes_message (record {
  link = 1;
  fsn = 0;
  bsn = 0;
  message = the_answer;
  rest = [];
  first = refl;
  up = refl;
  count = 1;
  accepted = refl;
  lines = lines_with run.answer_sent 1 (with_accepted ((run.answer_sent).line 1) [] true 1);
  set = set run.answer_sent 1 (with_accepted ((run.answer_sent).line 1) [] true 1) (omega arith);
  after = refl;
}))

completes-near : Move plain_reading run.answer_came run.completed_near
completes-near = moves.near (moves.completes_by_answer (record {
  link = 0;
  number = 16777215;
  heard = record { message = the_answer; rest = []; first = refl; says = refl };
  awaited = refl;
  incomplete = refl;
  count = 0;
  named = refl;
  holds = λ procedure flow. false;
  lifted = λ procedure flow d. sym (held-alone 0 procedure d);
  lines = lines_with run.answer_came 0 (with_completion ((run.answer_came).line 0) false);
  set = set run.answer_came 0 (with_completion ((run.answer_came).line 0) false) (omega arith);
  after = refl;
}))

takes-out : Move plain_reading run.completed_near run.taken_out
takes-out = moves.near (moves.takes_out (record {
  after = refl;
}))

places-second : Move plain_reading run.taken_out run.placed_second
places-second = moves.near (moves.places (record {
  link = 1;
  message = the_message;
  rest = [];
  first = refl;
  serving = refl;
  may_go = λ u. record { routed = refl; unheld = λ procedure. refl; none_held = refl };
  lines = lines_with run.taken_out 1 (with_message ((run.taken_out).line 1) the_message);
  set = set run.taken_out 1 (with_message ((run.taken_out).line 1) the_message) (omega arith);
  after = refl;
}))

sends-second : Move plain_reading run.placed_second run.sent_second
sends-second = moves.near (moves.sends_message (record {
  link = 1;
  serving = refl;
  window = 2;
  small = omega arith;
  sending = record { number = 1; message = the_message };
  next = refl;
  lines = lines_with run.placed_second 1 (with_sent ((run.placed_second).line 1) (record { number = 1; message = the_message }));
  set = set run.placed_second 1 (with_sent ((run.placed_second).line 1) (record { number = 1; message = the_message })) (omega arith);
  after = refl;
}))

takes-second : Move plain_reading run.sent_second run.message_came
takes-second = moves.far (moves.takes_message (record {
  link = 1;
  fsn = 1;
  bsn = 0;
  message = the_message;
  rest = [];
  first = refl;
  up = refl;
  count = 1;
  accepted = refl;
  lines = lines_with (turned run.sent_second) 1 (with_accepted (((turned run.sent_second)).line 1) [] true 1);
  set = set (turned run.sent_second) 1 (with_accepted (((turned run.sent_second)).line 1) [] true 1) (omega arith);
  after = refl;
}))

hands-over : Move plain_reading run.message_came run.handed_over
hands-over = moves.far (moves.hands_over (record {
  heard = record { message = the_message; rest = []; first = refl; says = refl };
  after = refl;
}))

pub ordered : Moves plain_reading run.failed_near run.ordered_run
ordered =
    (places-order, (sends-order, (takes-order, (fails-far, (drops, (completes-far, (places-answer, (sends-answer, (takes-answer, (completes-near, (takes-out, (places-second, (sends-second, (takes-second, (hands-over, tt)))))))))))))))

crossing : Moves plain_reading run.opened_both run.crossing_run
crossing =
    (serves-first, (serves-second, (serves-first_there, (serves-second_there, (accepts, (places-first, (sends-first, (fails-near, ordered))))))))

pub crosses : Crosses
crosses = record {
  moves = (
    opens-first,
    joining run.first_opens 0 run.second_run joins-first
        (opens-second, joining run.second_opens 1 run.crossing_run joins-second crossing),
  );
  order = record { awaited = refl; one = refl };
  answer = record { awaited = refl; one = refl };
  crossed = record {
    accepted = refl;
    received = refl;
    near_down = refl;
    far_down = refl;
    flags = record { near_lost = refl; far_lost = refl; near_late = refl; far_late = refl };
  };
}
