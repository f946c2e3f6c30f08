-- A run of the moves: points 1 and 2 are a mated pair, and point 0 is reached from 1 by two links, and by 2. Both links
-- fail, one with a message on it that came, and one with a message that didn't. The orders and the answers go by point
-- 2, and so does the second message.
use Rattle.std.specs.Prelude.{◌≡◌, ◌||◌, ℕ, Bool, true, false, not, List, [], ◌∷◌, ◌++◌, drop, slice_index, nat_eq}
use Rattle.std.specs.Prelude.{if◌then◌else◌}
use Rattle.signalling_types.specs.Message.{Message, is_management}
use Rattle.signalling_types.specs.Numbers.{number_of}
use Rattle.network_moves.specs.Sayings.{Side, Near, Far, Saying, UserMessage, Order, Answer, is_awaited_by}
use Rattle.network_moves.specs.Sayings.{saying}
use Rattle.network_moves.specs.Networks.{Frame, MessageFrame, Moved, Gone, Line, Node, Network, Shape, Place, seen}
use Rattle.network_moves.specs.Networks.{line_at, node_at, point_at}
use Rattle.network_moves.specs.Passing.{with_message}
use Rattle.network_moves.specs.Carrying.{with_status, with_sent, with_frames_left, with_heard, with_accepted}
use Rattle.network_moves.specs.Failing.{with_failure, with_wait, with_completion, without_unconfirmed}
use Rattle.network_moves.specs.Returning.{MayOpen, opened_first, opened_second, with_service}
use Rattle.network_moves.specs.Moves.{Moves, last_of}
use Rattle.network_moves.specs.Laws.{under_way}
use Rattle.network_moves.specs.Groups.{concerns, is_within}
use Rattle.network_moves.specs.Quiet.{first_network}

-- how messages are read here: a management message has a heading, a link, which end of it made the message, and three
-- octets of a number
abbrev pub read_heading : (heading link maker number : ℕ) → Saying
read_heading heading link maker number =
    if nat_eq heading 0
    then Order link (if nat_eq maker 0 then Near else Far) number
    else Answer link (if nat_eq maker 0 then Near else Far) number

abbrev pub read_plainly : Message → Saying
read_plainly m =
    if is_management m
    then read_heading (slice_index m.sif 0) (slice_index m.sif 1) (slice_index m.sif 2) (number_of (drop 3 m.sif))
    else UserMessage

-- two messages; and about a link the order of its near end, on which nothing was accepted, and the answer of its far
-- end, on which one message was, or none
abbrev pub message_one : Message
message_one = record { sio = 5; sif = 0 ∷ 0 ∷ 0 ∷ 0 ∷ [] }

abbrev pub message_two : Message
message_two = record { sio = 5; sif = 0 ∷ 0 ∷ 0 ∷ 16 ∷ [] }

abbrev pub order_about : (link : ℕ) → Message
order_about link = record { sio = 0; sif = 0 ∷ link ∷ 0 ∷ 255 ∷ 255 ∷ 255 ∷ [] }

abbrev pub answer_of_one : (link : ℕ) → Message
answer_of_one link = record { sio = 0; sif = 1 ∷ link ∷ 1 ∷ 0 ∷ 0 ∷ 0 ∷ [] }

abbrev pub answer_of_none : (link : ℕ) → Message
answer_of_none link = record { sio = 0; sif = 1 ∷ link ∷ 1 ∷ 255 ∷ 255 ∷ 255 ∷ [] }

-- ---- the network

-- the ends of its links, with the point where the end is: the first and the second link join points 1 and 0, the cross
-- link joins the mates 1 and 2, and the mate's link joins 2 and 0
pub data MatedEnd : Type 0 where
  First1 : MatedEnd
  First0 : MatedEnd
  Second1 : MatedEnd
  Second0 : MatedEnd
  Cross1 : MatedEnd
  Cross2 : MatedEnd
  Mate2 : MatedEnd
  Mate0 : MatedEnd

abbrev pub place_of : MatedEnd → Place
place_of First1 = record { link = 0; side = Near }
place_of First0 = record { link = 0; side = Far }
place_of Second1 = record { link = 1; side = Near }
place_of Second0 = record { link = 1; side = Far }
place_of Cross1 = record { link = 2; side = Near }
place_of Cross2 = record { link = 2; side = Far }
place_of Mate2 = record { link = 3; side = Near }
place_of Mate0 = record { link = 3; side = Far }

abbrev pub mated_point : ℕ → Side → ℕ
mated_point link Near = if nat_eq link 3 then 2 else 1
mated_point link Far = if nat_eq link 2 then 2 else 0

-- the mates, and the user messages for point 2
abbrev pub is_mate : ℕ → Bool
is_mate point = nat_eq point 1 || nat_eq point 2

abbrev pub is_for_mate : Message → Bool
is_for_mate m = nat_eq (slice_index m.sif 0) 2

-- any message may go by any link; and point 0 is outside
abbrev pub mated_freely : Shape
mated_freely = record {
  nodes = 3;
  links = 4;
  point = mated_point;
  leads = λ link side message. true;
  outside = λ point. nat_eq point 0;
}

-- but what concerns the mates goes between them by the cross link alone
abbrev pub mated : Shape
mated = record mated_freely {
  leads = λ link side m.
      is_within mated_freely read_plainly is_mate is_for_mate link
      || not (concerns mated_freely read_plainly is_mate is_for_mate m);
}

-- ---- what is done

pub data Doing : Type 0 where
  opens : MatedEnd → Doing
  follows : MatedEnd → Doing
  says : MatedEnd → Doing
  hears : MatedEnd → Doing
  enters : MatedEnd → Doing
  submits : (point : ℕ) (message : Message) → Doing
  ends : (point : ℕ) (message : Message) → Doing
  places : MatedEnd → (message : Message) → Doing
  sends : MatedEnd → (number : ℕ) (message : Message) → Doing
  takes : MatedEnd → (fsn bsn : ℕ) (message : Message) (count : ℕ) → Doing
  drops : MatedEnd → Frame → Doing
  falls : MatedEnd → Doing
  orders : MatedEnd → (order : Message) → Doing
  answers : MatedEnd → (order : Message) (number : ℕ) (answer : Message) (count : ℕ) → Doing
  completes : MatedEnd → (answer : Message) (number : ℕ) (count : ℕ) → Doing
  runs_out : MatedEnd → Doing
  ends_wait : MatedEnd → (answer : Message) (number : ℕ) → Doing
  releases : MatedEnd → Doing

abbrev pub at : Network → MatedEnd → Line
at p end = line_at p (place_of end)

abbrev pub there : Network → MatedEnd → Node
there p end = node_at mated p (place_of end)

-- a network with another node at a point, or besides another line
abbrev pub with_node : Network → ℕ → Node → Network
with_node p point n = record p { node = λ other. if nat_eq other point then n else p.node other }

abbrev pub with_line : Network → MatedEnd → Line → Network
with_line p end z = record p {
  line = λ other. if nat_eq other (place_of end).link then seen (place_of end).side z else p.line other;
}

abbrev pub with_both : Network → MatedEnd → Line → Node → Network
with_both p end z n = with_node (with_line p end z) (point_at mated (place_of end)) n

-- what becomes of a network; of a bag or a stream the only message is taken
abbrev pub after : Network → Doing → Network
after p (opens end) = with_both p end (opened_first (at p end)) (there p end)
after p (follows end) = with_both p end (opened_second (at p end)) (there p end)
after p (says end) = with_both p end (with_status (at p end)) (there p end)
after p (hears end) = with_both p end (with_heard (at p end)) (there p end)
after p (enters end) = with_both p end (with_service (at p end)) (there p end)
after p (submits point message) = with_node p point (record (p.node point) {
  bag = message ∷ (p.node point).bag;
  submitted = message ∷ (p.node point).submitted;
  accepted = message ∷ (p.node point).accepted;
})
after p (ends point message) =
    with_node p point (record (p.node point) { bag = []; ended = message ∷ (p.node point).ended })
after p (places end message) = with_both p end (with_message (at p end) message) (record (there p end) { bag = [] })
after p (sends end number message) =
    with_both p end (with_sent (at p end) (record { number = number; message = message })) (there p end)
after p (takes end fsn bsn message count) =
    with_both p end
    (with_accepted (at p end) [] true count (message ∷ (at p end).far.came))
    (record (there p end) { bag = message ∷ (there p end).bag; accepted = message ∷ (there p end).accepted })
after p (drops end frame) = with_both p end (with_frames_left (at p end) []) (there p end)
after p (falls end) = with_both p end (with_failure (at p end)) (there p end)
after p (orders end order) =
    with_both p end (with_wait (at p end) true) (record (there p end) { bag = order ∷ (there p end).bag })
after p (answers end order number answer count) =
    with_both p end
    (with_completion (at p end) Moved (at p end).near.awaited)
    (record (there p end) { bag = answer ∷ (drop count (at p end).near.queue.all ++ []) })
after p (completes end answer number count) =
    with_both p end
    (with_completion (at p end) Moved false)
    (record (there p end) { bag = drop count (at p end).near.queue.all ++ [] })
after p (runs_out end) =
    with_both p end
    (with_completion (at p end) Gone (at p end).near.awaited)
    (without_unconfirmed (there p end) (at p end).near.queue)
after p (ends_wait end answer number) =
    with_both p end (with_wait (at p end) false) (record (there p end) { bag = [] })
after p (releases end) = record (with_both p end (with_wait (at p end) false) (there p end)) {
  broken = λ other. nat_eq other (point_at mated (place_of end)) || p.broken other;
}

-- ---- the run

-- a link opens and enters service, as either end says so
abbrev pub joins : (first second : MatedEnd) → List Doing
joins first second =
    opens first ∷ follows second ∷ says first ∷ says second ∷ hears first ∷ hears second ∷ enters first
    ∷ enters second ∷ []

-- a message goes from one point to the next
abbrev pub passes : (from to : MatedEnd) (number bsn : ℕ) (message : Message) (count : ℕ) → List Doing
passes from to number bsn message count =
    places from message ∷ sends from number message ∷ takes to number bsn message count ∷ []

-- the number before that of the first message
abbrev pub none_yet : ℕ
none_yet = 16777215

-- from point 1 by point 2 to point 0, and back
abbrev pub goes : (number bsn : ℕ) (message : Message) (count : ℕ) → List Doing
goes number bsn message count =
    passes Cross1 Cross2 number bsn message count ++ passes Mate2 Mate0 number bsn message count

abbrev pub comes_back : (number bsn : ℕ) (message : Message) (count : ℕ) → List Doing
comes_back number bsn message count =
    passes Mate0 Mate2 number bsn message count ++ passes Cross2 Cross1 number bsn message count

abbrev pub joining : List Doing
joining = joins First1 First0 ++ joins Second1 Second0 ++ joins Cross1 Cross2 ++ joins Mate2 Mate0

abbrev pub failing : List Doing
failing =
    submits 1 message_one ∷ passes First1 First0 0 none_yet message_one 0 ++ ends 0 message_one
    ∷ submits 1 message_two ∷ places Second1 message_two ∷ sends Second1 0 message_two
    ∷ falls First1 ∷ falls Second1 ∷ falls First0 ∷ falls Second0
    ∷ drops Second0 (MessageFrame 0 none_yet message_two) ∷ []

-- the changeover of the first link, in the middle of which its order is answered
abbrev pub ordering : List Doing
ordering = orders First1 (order_about 0) ∷ goes 0 none_yet (order_about 0) 0

abbrev pub answering : List Doing
answering =
    answers First0 (order_about 0) none_yet (answer_of_one 0) 0 ∷ comes_back 0 0 (answer_of_one 0) 1
    ++ completes First1 (answer_of_one 0) 0 1 ∷ []

-- that of the second, which moves the message
abbrev pub changing_over : List Doing
changing_over =
    orders Second1 (order_about 1) ∷ goes 1 0 (order_about 1) 1
    ++ answers Second0 (order_about 1) none_yet (answer_of_none 1) 0 ∷ comes_back 1 1 (answer_of_none 1) 1
    ++ completes Second1 (answer_of_none 1) none_yet 0 ∷ []

abbrev pub moving : List Doing
moving = goes 2 1 message_two 1 ++ ends 0 message_two ∷ []

abbrev pub run : List Doing
run = joining ++ failing ++ ordering ++ answering ++ changing_over ++ moving

abbrev pub networks_of : Network → List Doing → List Network
networks_of p [] = []
networks_of p (d ∷ ds) = after p d ∷ networks_of (after p d) ds

abbrev pub end_of : Network → List Doing → Network
end_of p ds = last_of p (networks_of p ds)

-- both messages came in at point 1 and ended at point 0; the orders and the answers went by point 2, and of the
-- messages the second alone; nothing is left at a node, nothing was lost, and the links that failed may open again
pub record HasCrossed (p : Network) : Type 0 where
  pub accepted : (p.node 1).accepted ≡ answer_of_none 1 ∷ answer_of_one 0 ∷ message_two ∷ message_one ∷ []
  pub passed_on : (p.node 2).accepted
      ≡ message_two ∷ answer_of_none 1 ∷ order_about 1 ∷ answer_of_one 0 ∷ order_about 0 ∷ []
  pub ended : (p.node 0).ended ≡ message_two ∷ message_one ∷ []
  pub bags : ((p.node 0).bag ≡ []) × ((p.node 1).bag ≡ []) × ((p.node 2).bag ≡ [])
  pub named : ((p.node 0).named ≡ []) × ((p.node 1).named ≡ []) × ((p.node 2).named ≡ [])
  pub first_may_open : MayOpen (p.line 0).near × MayOpen (p.line 0).far
  pub second_may_open : MayOpen (p.line 1).near × MayOpen (p.line 1).far
  pub unbroken : (point : ℕ) → p.broken point ≡ false

-- the near end of the first link awaits an answer, and one word about it is under way
pub record AwaitsOne (p : Network) : Type 0 where
  pub awaited : (p.line 0).near.awaited ≡ true
  pub one : under_way mated (saying read_plainly (is_awaited_by 0 Near)) p ≡ 1

-- the run is one; an order that has come is awaited and under way; and the messages cross the failures
pub record Crosses : Type 0 where
  pub moves : Moves mated read_plainly first_network (networks_of first_network run)
  pub order : AwaitsOne (end_of first_network (joining ++ failing ++ ordering))
  pub crossed : HasCrossed (end_of first_network run)
