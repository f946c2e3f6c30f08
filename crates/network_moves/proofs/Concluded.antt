-- The laws, after every list of moves.
use Rattle.network_moves.proofs.Basics.{◌≡◌, ℕ, Bool, true, false, ◌+◌, drop, count_by, nat_eq, Option, Some, None, refl, ap, sym, ◌∙◌, arith, if◌then◌else◌}
use Rattle.network_moves.proofs.Definitions.{EndsOnce, Far, IsAccountedFor, IsJoined, Line, Message, Near, Network, OpenedAlone, Place, Saying, Shape, WordsAreAwaited, WordsAreTrue, came_from, came_to, gone_at, is_awaited_by, line_at, named_count, saying, sum_at, sum_of_ends, sum_to, turned, under_way, user, waiting, waits_at}
use Rattle.network_moves.specs.Theorems.{Always, LinesFlow, FirstEndsAreAlone, EndsAreSound, MovedEndsAreAlone, MessagesComeInOrder, NothingAbout, LinksOpenWithNoWordLeft, EndsFollowWithNoWordLeft, NumbersNameWhatWasReceived, OrdersMoveWhatIsLacked, AnswersMoveWhatIsLacked, OrdersAreReasonable, AnswersAreReasonable, EachMessageEntersOnce, EachMessageEndsOnce, EachMessageIsAccountedFor}
use Rattle.network_moves.proofs.Counts.{ends-added, sum-added, sum-alike, sum-swap, sum-one}
use Rattle.network_moves.proofs.Words.{one-flag}
use Rattle.network_moves.proofs.Lines.{IsLine}
use Rattle.network_moves.proofs.LinesTaken.{taken_message-is}
use Rattle.network_moves.proofs.LinesChanged.{line-names}
use Rattle.network_moves.proofs.Sound.{Sound, booked, lost, line-there, far-awaited}
use Rattle.network_moves.proofs.Waiting.{waiting-live}
use Rattle.network_moves.proofs.Tells.{order-tells, answer-tells, names-there, names-received}
use Rattle.network_moves.proofs.Failed.{of-sides}
use Rattle.network_moves.proofs.Keeping.{sound-always}

-- what follows from all laws holds always
always : (Statement : Shape → (Message → Saying) → Network → Type 0) → ((shape : Shape) (read : Message → Saying) (p : Network) → Sound shape read p → Statement shape read p) → Always Statement
always Statement follows shape read start networks quiet ms none = follows shape read _ (sound-always shape read start networks quiet ms none)

-- ---- law (i)

pub lines_flow-always : Always LinesFlow
lines_flow-always = always LinesFlow (λ shape read p h place. (line-there shape read p h place).there)

pub first_ends_are_alone-always : Always FirstEndsAreAlone
first_ends_are_alone-always = always FirstEndsAreAlone (λ shape read p h place. (line-there shape read p h place).first)

pub ends_are_sound-always : Always EndsAreSound
ends_are_sound-always = always EndsAreSound (λ shape read p h place. (line-there shape read p h place).near)

pub moved_ends-always : Always MovedEndsAreAlone
moved_ends-always = always MovedEndsAreAlone (λ shape read p h place. (line-there shape read p h place).moved)

pub messages_come-always : Always MessagesComeInOrder
messages_come-always = always MessagesComeInOrder (λ shape read p h q m.
    taken_message-is (line_at p m.place) m.fsn m.bsn m.message m.rest m.first m.up (line-there shape read p h m.place))

-- ---- law (ii)

pub words_are_awaited-always : Always WordsAreAwaited
words_are_awaited-always = always WordsAreAwaited (λ shape read p h. h.awaited)

none-about : (shape : Shape) (read : Message → Saying) (p : Network) (h : Sound shape read p) (place : Place) → (line_at p place).near.awaited ≡ false → (line_at p place).far.awaited ≡ false →
    NothingAbout shape read p place
none-about shape read p h place near far side =
    of-sides (λ s. under_way shape (saying read (is_awaited_by place.link s)) p ≡ 0) place.side side
    (omega (arith, h.awaited place.link place.side, one-flag (line_at p place).near.awaited false near))
    (omega (arith, far-awaited shape read p h place, one-flag (line_at p place).far.awaited false far))

pub links_open-always : Always LinksOpenWithNoWordLeft
links_open-always = always LinksOpenWithNoWordLeft (λ shape read p h place near far. none-about shape read p h place near.unawaited far.unawaited)

pub ends_follow-always : Always EndsFollowWithNoWordLeft
ends_follow-always = always EndsFollowWithNoWordLeft (λ shape read p h place follows.
    (let o : OpenedAlone (turned (line_at p place)) = (line-there shape read p h place).second follows in none-about shape read p h place o.far_may.unawaited o.unawaited))

-- ---- law (iii)

pub words_are_true-always : Always WordsAreTrue
words_are_true-always = always WordsAreTrue (λ shape read p h. h.truth)

-- ---- law (iv)

pub numbers_name-always : Always NumbersNameWhatWasReceived
numbers_name-always = always NumbersNameWhatWasReceived (λ shape read p h place. line-names (line_at p place) (line-there shape read p h place))

moves-waiting : (z : Line) (count : ℕ) → IsLine z → z.near.incomplete ≡ true → count ≡ z.far.queue.received → drop count z.near.queue.all ≡ waiting z
moves-waiting z count l incomplete is =
    ap (λ (n : ℕ). drop n z.near.queue.all) is
    ∙ sym (waiting-live z.near.phase z.near.queue z.far.queue.received (l.near.live_incomplete incomplete))

pub orders_move-always : Always OrdersMoveWhatIsLacked
orders_move-always = always OrdersMoveWhatIsLacked (λ shape read p h q m.
    moves-waiting (line_at p m.place) m.count (line-there shape read p h m.place) m.incomplete
    (names-received shape read p m.place m.number m.count (order-tells shape read p m.place m.order m.rest m.after.inside m.taken h m.number m.says) m.incomplete m.named h))

pub answers_move-always : Always AnswersMoveWhatIsLacked
answers_move-always = always AnswersMoveWhatIsLacked (λ shape read p h q m.
    moves-waiting (line_at p m.place) m.count (line-there shape read p h m.place) m.incomplete
    (names-received shape read p m.place m.number m.count (answer-tells shape read p m.place m.answer m.rest m.after.inside m.taken h m.number m.says) m.incomplete m.named h))

some-none : (o : Option ℕ) (n : ℕ) → o ≡ Some n → o ≡ None → ⊥
some-none o n e f = (let no : Some n ≡ None = sym e ∙ f in cc)

pub orders_are_reasonable-always : Always OrdersAreReasonable
orders_are_reasonable-always = always OrdersAreReasonable (λ shape read p h q m.
    some-none (named_count (line_at p m.place).near.queue m.number) (line_at p m.place).far.queue.received
    (names-there shape read p m.place m.number (order-tells shape read p m.place m.order m.rest m.after.inside m.taken h m.number m.says) m.incomplete h)
    m.unreasonable)

pub answers_are_reasonable-always : Always AnswersAreReasonable
answers_are_reasonable-always = always AnswersAreReasonable (λ shape read p h q m.
    some-none (named_count (line_at p m.place).near.queue m.number) (line_at p m.place).far.queue.received
    (names-there shape read p m.place m.number (answer-tells shape read p m.place m.answer m.rest m.after.inside m.taken h m.number m.says) m.incomplete h)
    m.unreasonable)

-- ---- the node law

if-added : (b : Bool) (k m n : ℕ) → k ≡ m + n → (if b then k else 0) ≡ (if b then m else 0) + (if b then n else 0)
if-added true k m n e = e
if-added false k m n e = refl

at-added : (shape : Shape) (p : Network) (x : ℕ) (f g k : Line → ℕ) → ((z : Line) → f z ≡ g z + k z) → sum_at shape x f p ≡ sum_at shape x g p + sum_at shape x k p
at-added shape p x f g k e =
    ends-added shape (λ link side z. if nat_eq (shape.point link side) x then f z else 0) (λ link side z. if nat_eq (shape.point link side) x then g z else 0)
    (λ link side z. if nat_eq (shape.point link side) x then k z else 0) p
    (λ link side z. if-added (nat_eq (shape.point link side) x) (f z) (g z) (k z) (e z))

-- what was booked came, waits or is lost
booked-split : (shape : Shape) (p : Network) (x : ℕ) (test : Message → Bool) →
    sum_at shape x (booked test) p
    ≡ sum_at shape x (λ z. count_by test z.near.came) p + (sum_at shape x (λ z. count_by test (waiting z)) p + sum_at shape x (lost test) p)
booked-split shape p x test =
    omega (
      arith,
      at-added shape p x (booked test) (λ z. count_by test z.near.came) (λ z. count_by test (waiting z) + lost test z) (λ z. omega arith),
      at-added shape p x (λ z. count_by test (waiting z) + lost test z) (λ z. count_by test (waiting z)) (lost test) (λ z. refl),
    )

pub ends-once : (shape : Shape) (read : Message → Saying) (p : Network) → Sound shape read p → (point : ℕ) → EndsOnce shape read p point
ends-once shape read p h point = record {
  each = λ test. omega (arith, (h.books point).each test, booked-split shape p point (user read test));
  named = λ test. (h.books point).named test;
}

pub each_message_ends_once-always : Always EachMessageEndsOnce
each_message_ends_once-always = always EachMessageEndsOnce (λ shape read p h point. ends-once shape read p h point)

pub each_message_enters_once-always : Always EachMessageEntersOnce
each_message_enters_once-always = always EachMessageEntersOnce (λ shape read p h point. (h.books point).entered)

-- ---- of the whole network

module _ (shape : Shape) (joined : IsJoined shape) (p : Network) (f : Line → ℕ) where
  -- the ends at all nodes are all ends
  at-all : sum_to (λ x. sum_at shape x f p) shape.nodes ≡ sum_of_ends shape (λ link side z. f z) p
  at-all =
      sum-swap
      (λ x k. (if nat_eq (shape.point k Near) x then f (p.line k) else 0) + (if nat_eq (shape.point k Far) x then f (turned (p.line k)) else 0))
      shape.links shape.nodes
      ∙ sum-alike
      (λ k. f (p.line k) + f (turned (p.line k)))
      (λ k. sum_to (λ x. (if nat_eq (shape.point k Near) x then f (p.line k) else 0) + (if nat_eq (shape.point k Far) x then f (turned (p.line k)) else 0)) shape.nodes)
      shape.links
      (λ k inside.
      omega (
        arith,
        sum-added
            (λ x. (if nat_eq (shape.point k Near) x then f (p.line k) else 0) + (if nat_eq (shape.point k Far) x then f (turned (p.line k)) else 0))
            (λ x. if nat_eq (shape.point k Near) x then f (p.line k) else 0) (λ x. if nat_eq (shape.point k Far) x then f (turned (p.line k)) else 0) shape.nodes (λ x. refl),
        sum-one (shape.point k Near) shape.nodes (f (p.line k)) (joined.inside k Near inside),
        sum-one (shape.point k Far) shape.nodes (f (turned (p.line k))) (joined.inside k Far inside),
      ))

-- what came from all nodes came to all
pub came-across : (shape : Shape) → IsJoined shape → (test : Message → Bool) (p : Network) →
    sum_to (came_from shape test p) shape.nodes ≡ sum_to (came_to shape test p) shape.nodes
came-across shape joined test p =
    at-all shape joined p (λ z. count_by test z.near.came)
    ∙ sum-alike (λ k. count_by test (p.line k).far.came + count_by test (p.line k).near.came) (λ k. count_by test (p.line k).near.came + count_by test (p.line k).far.came) shape.links (λ k l. omega arith)
    ∙ sym (at-all shape joined p (λ z. count_by test z.far.came))

accounted : (shape : Shape) (read : Message → Saying) (p : Network) → Sound shape read p → IsJoined shape → IsAccountedFor shape read p
accounted shape read p h joined test =
    let t : Message → Bool = user read test in
    let n : ℕ = shape.nodes in
    let ended : ℕ → ℕ = λ x. count_by t (p.node x).ended in
    let from : ℕ → ℕ = came_from shape t p in
    let waits : ℕ → ℕ = waits_at shape t p in
    let gone : ℕ → ℕ = gone_at shape t p in
    omega (
      arith,
      sum-added (λ x. count_by t (p.node x).accepted) (λ x. count_by t (p.node x).submitted) (came_to shape t p) n (λ x. (h.books x).entered test),
      sum-added (λ x. count_by t (p.node x).accepted) (λ x. ended x + from x + waits x) gone n (λ x. (ends-once shape read p h x).each test),
      sum-added (λ x. ended x + from x + waits x) (λ x. ended x + from x) waits n (λ x. refl),
      sum-added (λ x. ended x + from x) ended from n (λ x. refl),
      came-across shape joined t p,
    )

pub accounted-always : Always EachMessageIsAccountedFor
accounted-always = always EachMessageIsAccountedFor (λ shape read p h joined. accounted shape read p h joined)
