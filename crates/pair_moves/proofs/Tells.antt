-- What an order or an answer that just arrived tells, since it is true.
use Rattle.pair_moves.proofs.Basics.{◌≡◌, ℕ, zero, suc, Bool, true, false, ◌||◌, ◌+◌, List, [], ◌∷◌, drop, count_by, refl, ap, sym, ◌∙◌, arith, Some}
use Rattle.pair_moves.proofs.Definitions.{Message, last_accepted, named_count, Reading, Saying, turned_reading, Order, Answer, is_user_message, is_untrue, LinkEnd, Line, Pair, unreceived, users_of, managements_of, one_if}
use Rattle.pair_moves.proofs.Counts.{count-split}
use Rattle.pair_moves.proofs.Words.{true-order, true-answer, arrived-not}
use Rattle.pair_moves.proofs.Lines.{or-second, used-by, unless-true, incomplete-joined, incomplete-first}
use Rattle.pair_moves.proofs.Books.{untrue_of}
use Rattle.pair_moves.proofs.Sound.{Sound}
use Rattle.pair_moves.proofs.LinesChanged.{line-names}

pub one-said : (b : Bool) → b ≡ true → one_if b ≡ 1
one-said b e = ap one_if e

pub none-said : (b : Bool) → b ≡ false → one_if b ≡ 0
none-said b e = ap one_if e

count-same : (count received : ℕ) → Some count ≡ Some received → count ≡ received
count-same count received e = grind arith

pub count-beyond : (test : Message → Bool) (n : ℕ) → count_by test (drop {A = Message} n []) ≡ 0
count-beyond test zero = refl
count-beyond test (suc n) = refl

-- what a true order or answer about a link says
pub record Tells (p : Pair) (link number : ℕ) : Type 0 where
  pub far_down : (p.line link).far.up ≡ false
  pub right : number ≡ last_accepted (p.line link).far.queue

module _ (read : Reading) (p : Pair) where
  pub order-tells : (link number : ℕ) (m : Message) (rest : List Message) → p.near.arrived ≡ m ∷ rest → read.back m ≡ Order link number → Sound read p → Tells p link number
  order-tells link number m rest first says h =
      let x : LinkEnd = (p.line link).far in
      let n : is_untrue link x.up (last_accepted x.queue) (read.back m) ≡ false = arrived-not (untrue_of read.back link x) p m rest first (h.back.words link) in
      let t : (x.up ≡ false) × (number ≡ last_accepted x.queue) = true-order link x.up (last_accepted x.queue) number (ap (is_untrue link x.up (last_accepted x.queue)) (sym says) ∙ n) in
      record { far_down = t.0; right = t.1 }

  pub answer-tells : (link number : ℕ) (m : Message) (rest : List Message) → p.near.arrived ≡ m ∷ rest → read.back m ≡ Answer link number → Sound read p → Tells p link number
  answer-tells link number m rest first says h =
      let x : LinkEnd = (p.line link).far in
      let n : is_untrue link x.up (last_accepted x.queue) (read.back m) ≡ false = arrived-not (untrue_of read.back link x) p m rest first (h.back.words link) in
      let t : (x.up ≡ false) × (number ≡ last_accepted x.queue) = true-answer link x.up (last_accepted x.queue) number (ap (is_untrue link x.up (last_accepted x.queue)) (sym says) ∙ n) in
      record { far_down = t.0; right = t.1 }

  -- the count that it names is of what the far end received
  pub names-received : (link number count : ℕ) → Tells p link number → (p.line link).near.incomplete ≡ true →
      named_count (p.line link).near.queue number ≡ Some count → Sound read p → count ≡ (p.line link).far.queue.received
  names-received link number count t incomplete named h =
      let z : Line = p.line link in
      count-same count z.far.queue.received
      (sym named ∙ ap (named_count z.near.queue) t.right ∙ line-names z (h.lines link)
      (used-by z.near_may_follow z.far_may_follow (z.near.up || z.near.incomplete || z.far.up)
      (unless-true z.near_may_follow (incomplete-first z (h.lines link) incomplete)) (unless-true z.far_may_follow (incomplete-joined z (h.lines link) incomplete))
      (or-second z.near.up z.near.incomplete z.far.up incomplete)))

  -- the user messages that move and the others that are queued again are those that weren't received
  pub moved-counts : (link count : ℕ) → count ≡ (p.line link).far.queue.received → (test : Message → Bool) →
      count_by test (users_of read.there (drop count (p.line link).near.queue.all)) + count_by test (managements_of read.there (drop count (p.line link).near.queue.all))
      ≡ count_by test (unreceived (p.line link))
  moved-counts link count e test =
      count-split test (λ m. is_user_message (read.there m)) (drop count (p.line link).near.queue.all)
      ∙ ap (λ (n : ℕ). count_by test (drop n (p.line link).near.queue.all)) e
