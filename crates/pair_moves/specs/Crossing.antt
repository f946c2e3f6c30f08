-- A run of the moves: the only message is on a link that fails under it, and comes to the far node by another.
use Rattle.std.specs.Prelude.{◌≡◌, ℕ, ◌+◌, Bool, true, false, List, [], ◌∷◌, ◌++◌, drop, slice_index, nat_eq}
use Rattle.std.specs.Prelude.{Option, Some, None, if◌then◌else◌}
use Rattle.signalling_types.specs.Message.{Message, is_management}
use Rattle.signalling_types.specs.Numbers.{number_of}
use Rattle.pair_moves.specs.Sayings.{Reading, Saying, UserMessage, Order, Answer, Declaration, Confirmation, is_order, is_answer}
use Rattle.pair_moves.specs.Ends.{Line, Procedure, Changeover, Code, Time, Side, Pair, turned, first_pair}
use Rattle.pair_moves.specs.Passing.{with_message}
use Rattle.pair_moves.specs.Carrying.{with_status, with_statuses_left, with_sent, with_heard, with_frames_left, with_accepted}
use Rattle.pair_moves.specs.Failing.{with_failure, with_completion}
use Rattle.pair_moves.specs.Returning.{opened_first, opened_second, with_service}
use Rattle.pair_moves.specs.Moves.{Moves, last_of}
use Rattle.pair_moves.specs.Laws.{saying, under_way}

-- how messages are read here: a management message has a heading, a link or a code, and three
-- octets of a number
abbrev pub read_heading : (heading about number : ℕ) → Saying
read_heading heading about number =
    if nat_eq heading 0
    then Order about number
    else (if nat_eq heading 1
    then Answer about number
    else (if nat_eq heading 2
    then Declaration about
    else Confirmation about))

abbrev pub read_plainly : Message → Saying
read_plainly m =
    if is_management m
    then read_heading (slice_index m.sif 0) (slice_index m.sif 1) (number_of (drop 2 m.sif))
    else UserMessage

-- in either direction
abbrev pub plain_reading : Reading
plain_reading = record { there = read_plainly; back = read_plainly }

-- the message, and the order and the answer about link 0, on which nothing was accepted at either
-- end
abbrev pub the_message : Message
the_message = record { sio = 5; sif = 0 ∷ 0 ∷ 0 ∷ 0 ∷ [] }

abbrev pub the_order : Message
the_order = record { sio = 0; sif = 0 ∷ 0 ∷ 255 ∷ 255 ∷ 255 ∷ [] }

abbrev pub the_answer : Message
the_answer = record { sio = 0; sif = 1 ∷ 0 ∷ 255 ∷ 255 ∷ 255 ∷ [] }

-- ---- words for one step

abbrev pub lines_with : Pair → ℕ → Line → ℕ → Line
lines_with p link z other = if nat_eq other link then z else p.line other

abbrev pub with_line : Pair → ℕ → Line → Pair
with_line p link z = record p { line = lines_with p link z }

abbrev pub with_near : Pair → Side → Pair
with_near p s = record p { near = s }

-- every flow is held by the changeover of one link, and by nothing else
abbrev pub held_by_changeover : ℕ → Procedure → Bool
held_by_changeover link (Changeover other) = nat_eq other link
held_by_changeover link (Code code) = false
held_by_changeover link (Time returned) = false

-- the first loose message is placed on a link
abbrev pub after_placing : Pair → ℕ → Message → Pair
after_placing p link m = with_near (with_line p link (with_message (p.line link) m)) (record p.near { loose = [] })

-- the message of this number is sent on a link
abbrev pub after_sending_one : Pair → ℕ → ℕ → Message → Pair
after_sending_one p link number m =
    with_line p link (with_sent (p.line link) (record { number = number; message = m }))

-- the only message in flight on a link is taken in, and confirms this many
abbrev pub after_taking_one : Pair → ℕ → ℕ → Message → Pair
after_taking_one p link count m =
    with_near (with_line p link (with_accepted (p.line link) [] true count)) (record p.near { arrived = m ∷ [] })

-- ---- a link opens: at the near end first, then at the far one, and each hears the other's status

abbrev pub opens : Pair → ℕ → Pair
opens p link = with_line p link (opened_first (p.line link))

abbrev pub follows : Pair → ℕ → Pair
follows p link = with_line p link (opened_second (p.line link))

abbrev pub says_so : Pair → ℕ → Pair
says_so p link = with_line p link (with_status (p.line link))

abbrev pub hears : Pair → ℕ → Pair
hears p link = with_line p link (with_heard (p.line link))

abbrev pub takes : Pair → ℕ → Pair
takes p link = with_line p link (with_statuses_left (p.line link) 0)

-- the far end follows, and then both are told
abbrev pub followed : Pair → ℕ → Pair
followed p link = turned (follows (turned p) link)

abbrev pub said : Pair → ℕ → Pair
said p link = says_so (followed p link) link

abbrev pub said_back : Pair → ℕ → Pair
said_back p link = turned (says_so (turned (said p link)) link)

abbrev pub heard : Pair → ℕ → Pair
heard p link = hears (said_back p link) link

abbrev pub taken : Pair → ℕ → Pair
taken p link = takes (heard p link) link

abbrev pub heard_there : Pair → ℕ → Pair
heard_there p link = turned (hears (turned (taken p link)) link)

abbrev pub joined : Pair → ℕ → Pair
joined p link = turned (takes (turned (heard_there p link)) link)

abbrev pub joining : Pair → ℕ → List Pair
joining p link =
    followed p link ∷ said p link ∷ said_back p link ∷ heard p link ∷ taken p link ∷ heard_there p link
    ∷ joined p link ∷ []

-- ---- the run: both links open and enter service at both ends

abbrev pub first_opens : Pair
first_opens = opens (first_pair 2) 0

abbrev pub second_opens : Pair
second_opens = opens (joined first_opens 0) 1

abbrev pub opened_both : Pair
opened_both = joined second_opens 1

abbrev pub enters_near : Pair → ℕ → (Option ℕ) → Pair
enters_near p link route =
    with_near (with_line p link (with_service (p.line link))) (record p.near { route = λ flow. route })

abbrev pub first_serves : Pair
first_serves = enters_near opened_both 0 (Some 0)

abbrev pub second_serves : Pair
second_serves = enters_near first_serves 1 (Some 0)

abbrev pub first_serves_there : Pair
first_serves_there = turned (enters_near (turned second_serves) 0 None)

abbrev pub second_serves_there : Pair
second_serves_there = turned (enters_near (turned first_serves_there) 1 None)

-- the message goes out on link 0, and link 0 fails at the near end

abbrev pub accepted_one : Pair
accepted_one =
    with_near second_serves_there
    (record second_serves_there.near { accepted = the_message ∷ []; loose = the_message ∷ [] })

abbrev pub placed_first : Pair
placed_first = after_placing accepted_one 0 the_message

abbrev pub sent_first : Pair
sent_first = after_sending_one placed_first 0 0 the_message

abbrev pub failed_near : Pair
failed_near =
    with_near (with_line sent_first 0 (with_failure (sent_first.line 0) true))
    (record sent_first.near {
      route = λ flow. Some 1;
      holds = λ procedure flow. held_by_changeover 0 procedure;
      loose = the_order ∷ [];
    })

abbrev pub order_placed : Pair
order_placed = after_placing failed_near 1 the_order

abbrev pub order_sent : Pair
order_sent = after_sending_one order_placed 1 0 the_order

-- the order comes; link 0 fails at the far end too, which never takes the message in, and answers

abbrev pub order_came : Pair
order_came = turned (after_taking_one (turned order_sent) 1 0 the_order)

abbrev pub failed_far : Pair
failed_far = turned (with_line (turned order_came) 0 (with_failure ((turned order_came).line 0) false))

abbrev pub message_dropped : Pair
message_dropped = turned (with_line (turned failed_far) 0 (with_frames_left ((turned failed_far).line 0) []))

abbrev pub completed_far : Pair
completed_far =
    turned
    (with_near (with_line (turned message_dropped) 0 (with_completion ((turned message_dropped).line 0) false))
    (record message_dropped.far { arrived = []; loose = the_answer ∷ [] }))

abbrev pub answer_placed : Pair
answer_placed = turned (after_placing (turned completed_far) 1 the_answer)

abbrev pub answer_sent : Pair
answer_sent = turned (after_sending_one (turned answer_placed) 1 0 the_answer)

-- the answer comes, and the message moves to link 1

abbrev pub answer_came : Pair
answer_came = after_taking_one answer_sent 1 1 the_answer

abbrev pub completed_near : Pair
completed_near =
    with_near (with_line answer_came 0 (with_completion (answer_came.line 0) false))
    (record answer_came.near { arrived = []; held = the_message ∷ []; holds = λ procedure flow. false })

abbrev pub taken_out : Pair
taken_out = with_near completed_near (record completed_near.near { held = []; loose = the_message ∷ [] })

abbrev pub placed_second : Pair
placed_second = after_placing taken_out 1 the_message

abbrev pub sent_second : Pair
sent_second = after_sending_one placed_second 1 1 the_message

abbrev pub message_came : Pair
message_came = turned (after_taking_one (turned sent_second) 1 1 the_message)

abbrev pub handed_over : Pair
handed_over =
    turned (with_near (turned message_came) (record message_came.far { arrived = []; received = the_message ∷ [] }))

-- once the order is made
abbrev pub ordered_run : List Pair
ordered_run =
    order_placed ∷ order_sent
    ∷ order_came ∷ failed_far ∷ message_dropped ∷ completed_far ∷ answer_placed ∷ answer_sent
    ∷ answer_came ∷ completed_near ∷ taken_out ∷ placed_second ∷ sent_second ∷ message_came ∷ handed_over ∷ []

-- once both links are open
abbrev pub crossing_run : List Pair
crossing_run =
    first_serves ∷ second_serves ∷ first_serves_there ∷ second_serves_there
    ∷ accepted_one ∷ placed_first ∷ sent_first ∷ failed_near ∷ ordered_run

-- once the first is
abbrev pub second_run : List Pair
second_run = second_opens ∷ joining second_opens 1 ++ crossing_run

abbrev pub run : List Pair
run = first_opens ∷ joining first_opens 0 ++ second_run

-- neither node lost anything, and no timer ended a hold
pub record RaisesNoFlag (p : Pair) : Type 0 where
  pub near_lost : p.near.lost ≡ false
  pub far_lost : p.far.lost ≡ false
  pub near_late : p.near.late ≡ false
  pub far_late : p.far.late ≡ false

-- the message was accepted and received, its link is down at both ends, and no flag was raised
pub record HasCrossed (p : Pair) : Type 0 where
  pub accepted : p.near.accepted ≡ the_message ∷ []
  pub received : p.far.received ≡ the_message ∷ []
  pub near_down : (p.line 0).near.up ≡ false
  pub far_down : (p.line 0).far.up ≡ false
  pub flags : RaisesNoFlag p

-- the near node awaits an answer about a link, and one order or answer about it is under way
pub record AwaitsOne (p : Pair) (link : ℕ) : Type 0 where
  pub awaited : (p.line link).near.awaited ≡ true
  pub one :
      under_way (saying read_plainly (is_order link)) p + under_way (saying read_plainly (is_answer link)) (turned p) ≡ 1

-- the run is one, the order and its answer are awaited on their way, and the message crosses the failure
pub record Crosses : Type 0 where
  pub moves : Moves plain_reading (first_pair 2) run
  pub order : AwaitsOne order_sent 0
  pub answer : AwaitsOne answer_sent 0
  pub crossed : HasCrossed (last_of (first_pair 2) run)
