-- The laws, after every list of moves.
use Rattle.pair_moves.proofs.Basics.{◌≡◌, inl, inr, ℕ, false, drop, ap, arith}
use Rattle.pair_moves.proofs.Definitions.{Message, Flow, Reading, Saying, turned_reading, Pair, turned, last_of, IsInOrder}
use Rattle.pair_moves.specs.Theorems.{Always, lines_flow, first_ends_are_alone, ends_are_sound, messages_come_in_order, orders_are_awaited, opens_with_nothing_under_way, follows_with_nothing_under_way}
use Rattle.pair_moves.specs.Theorems.{words_are_true, numbers_name_what_was_received, what_waits_is_lacked}
use Rattle.pair_moves.specs.Theorems.{orders_move_what_is_lacked, answers_move_what_is_lacked}
use Rattle.pair_moves.specs.Theorems.{codes_are_outstanding, none_is_given_up, each_message_once, each_flow_in_order}
use Rattle.pair_moves.proofs.Lines.{both}
use Rattle.pair_moves.proofs.Keeping.{AllLaws, GivenUp, IsKept, near_lost, far_lost, all_kept, all-kept, turned-laws, Ordered}
use Rattle.pair_moves.proofs.LinesTaken.{taken_message-is}
use Rattle.pair_moves.proofs.LinesChanged.{line-names, line-waits}
use Rattle.pair_moves.proofs.Tells.{order-tells, answer-tells, names-received, none-said}

record Concludes (read : Reading) (start p : Pair) : Type 0 where
  laws : AllLaws read p
  given_up : GivenUp read start.near.given_up start.far.given_up p

concludes : (read : Reading) (start p : Pair) → p.near.lost ≡ false → p.far.lost ≡ false → IsKept read start.near.given_up start.far.given_up p → Concludes read start p
concludes read start p near far (near_lost e) = both e near
concludes read start p near far (far_lost e) = both e far
concludes read start p near far (all_kept h g) = record { laws = h; given_up = g }

-- what follows from all laws holds always
always : (Statement : Reading → Pair → Type 0) → ((read : Reading) (p : Pair) → AllLaws read p → Statement read p) → Always Statement
always Statement follows read start pairs quiet moves near far =
    let p : Pair = last_of start pairs in
    let h : AllLaws read p = (concludes read start p near far (all-kept read start pairs quiet moves)).laws in
    record { there = follows read p h; back = follows (turned_reading read) (turned p) (turned-laws read p h) }

pub none_given_up-always : none_is_given_up
none_given_up-always read start pairs quiet moves near far =
    let g : GivenUp read start.near.given_up start.far.given_up (last_of start pairs) =
    (concludes read start (last_of start pairs) near far (all-kept read start pairs quiet moves)).given_up in
    (g.there, g.back)

pub lines_flow-always : lines_flow
lines_flow-always = always _ (λ read p h link. (h.sound.lines link).there)

pub first_ends_are_alone-always : first_ends_are_alone
first_ends_are_alone-always = always _ (λ read p h link. (h.sound.lines link).first)

pub ends_are_sound-always : ends_are_sound
ends_are_sound-always = always _ (λ read p h link. (h.sound.lines link).near)

pub messages_come-always : messages_come_in_order
messages_come-always = always _ (λ read p h q m.
    taken_message-is (p.line m.link) m.fsn m.bsn m.message m.rest m.first m.up (h.sound.lines m.link))

pub orders_are_awaited-always : orders_are_awaited
orders_are_awaited-always = always _ (λ read p h link. h.sound.there.orders link)

pub opens_with_nothing-always : opens_with_nothing_under_way
opens_with_nothing-always = always _ (λ read p h link near far.
    omega (arith, h.sound.there.orders link, h.sound.back.orders link, none-said (p.line link).near.awaited near.unawaited, none-said (p.line link).far.awaited far.unawaited))

pub follows_with_nothing-always : follows_with_nothing_under_way
follows_with_nothing-always = always _ (λ read p h link follows.
    omega (
      arith,
      h.sound.there.orders link,
      h.sound.back.orders link,
      none-said (p.line link).near.awaited ((h.sound.lines link).second follows).far_may.unawaited,
      none-said (p.line link).far.awaited ((h.sound.lines link).second follows).unawaited,
    ))

pub words_are_true-always : words_are_true
words_are_true-always = always _ (λ read p h link. h.sound.there.words link)

pub numbers_name-always : numbers_name_what_was_received
numbers_name-always = always _ (λ read p h link. line-names (p.line link) (h.sound.lines link))

pub what_waits-always : what_waits_is_lacked
what_waits-always = always _ (λ read p h link. line-waits (p.line link) (h.sound.lines link))

pub orders_move-always : orders_move_what_is_lacked
orders_move-always = always _ (λ read p h q m.
    ap (λ (n : ℕ). drop n (p.line m.link).near.queue.all)
    (names-received read p m.link m.number m.count (order-tells read p m.link m.number m.heard.message m.heard.rest m.heard.first m.heard.says h.sound) m.incomplete m.named h.sound))

pub answers_move-always : answers_move_what_is_lacked
answers_move-always = always _ (λ read p h q m.
    ap (λ (n : ℕ). drop n (p.line m.link).near.queue.all)
    (names-received read p m.link m.number m.count (answer-tells read p m.link m.number m.heard.message m.heard.rest m.heard.first m.heard.says h.sound) m.incomplete m.named h.sound))

pub codes_are_outstanding-always : codes_are_outstanding
codes_are_outstanding-always = always _ (λ read p h code. h.sound.there.codes code)

pub each_message_once-always : each_message_once
each_message_once-always = always _ (λ read p h test. h.sound.there.once test)

in-order : (read : Message → Saying) (p : Pair) → Ordered read p → p.near.late ≡ false → (flow : Flow) → IsInOrder read flow p
in-order read p (inl e) late = both e late
in-order read p (inr h) late = h

pub each_flow_in_order-always : each_flow_in_order
each_flow_in_order-always = always _ (λ read p h. in-order read.there p h.there)
