-- What the far end of a link received and didn't confirm: how it goes as a queue grows, as some are confirmed, and as a
-- changeover ends.
use Rattle.exchange_rules.proofs.Basics.{◌≡◌, ◌≢◌, ◌<◌, ◌≤◌, ◌+◌, ◌-◌, ◌%◌, ℕ, zero, suc, Bool, List, [], ◌∷◌, ◌++◌, length, Some, Ok, refl, ap, sym, subst, ◌∙◌, arith, take, ⊎_elim, cases_eq, slice_set, slice_index_or, get_or-set_same, get_or-set_other, take-append-drop}
use Rattle.std.proofs.Common.{drop}
use Rattle.std.proofs.lemmas.List.{drop-append-le, take-append-le, drop-drop, length-drop}
use Rattle.exchange_rules.proofs.Definitions.{Message, Queue, first_queue, unconfirmed, IsQueue, after_answer, users_that, WholeQueues, queue_at, AreQueues}
use Rattle.exchange_rules.specs.Touching.{IsGrown}
use Rattle.link.specs.Queue.{Names, named_count}
use Rattle.signalling_types.specs.Numbers.{modulus}
use Rattle.link.proofs.Naming.{finds_named}
use Rattle.pair_moves.specs.Laws.{sum_to}
use Rattle.pair_moves.proofs.Counts.{sum-alike}
use Rattle.network_rules.proofs.Growing.{AreGrown}

-- the lesser of two
abbrev within : ℕ → ℕ → ℕ
within there sent = there - (there - sent)

-- of the messages that aren't confirmed those that were received there, where so many were
abbrev pub ahead : (there : ℕ) → Queue → List Message
ahead there q = take (within there q.sent - q.confirmed) (unconfirmed q)

pub take-none : (n : ℕ) → take {A = Message} n [] ≡ []
take-none zero = refl
take-none (suc n) = refl

pub drop-none : (n : ℕ) → drop {A = Message} n [] ≡ []
drop-none zero = refl
drop-none (suc n) = refl

less-left : (there sent confirmed all : ℕ) → confirmed ≤ sent → sent ≤ all → within there sent - confirmed ≤ all - confirmed
less-left there sent confirmed all e f = omega (arith, e, f)

pub ahead-grown : {w : ℕ} (there : ℕ) (q p : Queue) → IsQueue w q → IsGrown q p → ahead there p ≡ ahead there q
ahead-grown there q p h e =
    let some : ℕ = within there q.sent - q.confirmed in
    ap (ahead there) e.grown
    ∙ ap (take some) (drop-append-le q.confirmed q.all e.behind (omega (arith, h.confirmed, h.sent)))
    ∙ take-append-le some (unconfirmed q) e.behind
    (subst (λ (n : ℕ). some ≤ n) (sym (length-drop q.confirmed q.all)) (less-left there q.sent q.confirmed (length q.all) h.confirmed h.sent))

-- where none was sent, none is ahead
within-none : (there sent confirmed : ℕ) → sent ≡ 0 → within there sent - confirmed ≡ 0
within-none there sent confirmed e = omega (arith, e)

pub ahead-unsent : (there : ℕ) (q : Queue) → q.sent ≡ 0 → ahead there q ≡ []
ahead-unsent there q e = ap (λ (n : ℕ). take n (unconfirmed q)) (within-none there q.sent q.confirmed e)

-- some of these are confirmed
less-some : (there sent confirmed count : ℕ) → confirmed + count ≤ there → confirmed + count ≤ sent → within there sent - confirmed ≡ count + (within there sent - (confirmed + count))
less-some there sent confirmed count e f = omega (arith, e, f)

take-two : (m n : ℕ) (xs : List Message) → take (m + n) xs ≡ take m xs ++ take n (drop m xs)
take-two zero n xs = ap (λ (k : ℕ). take k xs) (none-and n)
  where
    none-and : (n : ℕ) → 0 + n ≡ n
    none-and n = omega arith
take-two (suc m) n [] = take-none (suc m + n) ∙ sym (take-none n)
take-two (suc m) n (x ∷ xs) = ap (λ (k : ℕ). take k (x ∷ xs)) (one-and m n) ∙ ap (λ (ys : List Message). x ∷ ys) (take-two m n xs)
  where
    one-and : (m n : ℕ) → suc m + n ≡ suc (m + n)
    one-and m n = omega arith

pub ahead-confirmed : (there : ℕ) (q : Queue) (carries : Bool) (count : ℕ) → q.confirmed + count ≤ there → q.confirmed + count ≤ q.sent
    → ahead there q ≡ take count (unconfirmed q) ++ ahead there (after_answer q carries (Ok count))
ahead-confirmed there q carries count e f =
    let left : ℕ = within there q.sent - (q.confirmed + count) in
    ap (λ (n : ℕ). take n (unconfirmed q)) (less-some there q.sent q.confirmed count e f)
    ∙ take-two count left (unconfirmed q)
    ∙ ap (λ (xs : List Message). take count (unconfirmed q) ++ take left xs) (drop-drop count q.confirmed q.all)

-- all of these are named
all-within : (there sent confirmed : ℕ) → there ≤ sent → there - confirmed ≡ within there sent - confirmed
all-within there sent confirmed e = omega (arith, e)

pub ahead-named : (there : ℕ) (q : Queue) → there ≤ q.sent → take (there - q.confirmed) (unconfirmed q) ≡ ahead there q
ahead-named there q e = ap (λ (n : ℕ). take n (unconfirmed q)) (all-within there q.sent q.confirmed e)

-- these, and those that weren't received, are all that aren't confirmed
pub ahead-all : (there : ℕ) (q : Queue) → q.confirmed ≤ there → there ≤ q.sent → unconfirmed q ≡ ahead there q ++ drop there q.all
ahead-all there q e f =
    sym (take-append-drop (there - q.confirmed) (unconfirmed q))
    ∙ ap (λ (xs : List Message). xs ++ drop (there - q.confirmed) (unconfirmed q)) (ahead-named there q f)
    ∙ ap (λ (xs : List Message). ahead there q ++ xs) (drop-drop (there - q.confirmed) q.confirmed q.all ∙ ap (λ (n : ℕ). drop n q.all) (back there q.confirmed e))
  where
    back : (there confirmed : ℕ) → confirmed ≤ there → confirmed + (there - confirmed) ≡ there
    back there confirmed e = omega (arith, e)

-- ---- what a number names

-- the count that a number names stays the same as messages are confirmed, up to that count
pub still-named : {w : ℕ} (q p : Queue) (number there count : ℕ) → IsQueue w q → IsQueue w p → p.base ≡ q.base → p.sent ≡ q.sent → q.confirmed ≤ p.confirmed
    → named_count q number ≡ Some there → named_count p number ≡ Some count → (count ≡ there) × (p.confirmed ≤ there) × (there ≤ p.sent)
still-named {w} q p number there count h i base sent more e f =
    let names : Names p number count = (finds_named w p number count i).0 f in
    let old : Names q number count = record {
      from_confirmed = omega (arith, more, names.from_confirmed);
      to_sent = subst (λ (n : ℕ). count ≤ n) sent names.to_sent;
      number = subst (λ (n : ℕ). (n + count) % modulus ≡ (number + 1) % modulus) base names.number;
    } in
    let same : count ≡ there = some-same (sym ((finds_named w q number count h).1 old) ∙ e) in
    (same, subst (λ (n : ℕ). p.confirmed ≤ n) same names.from_confirmed, subst (λ (n : ℕ). n ≤ p.sent) same names.to_sent)
  where
    some-same : {A : Type 0} {x y : A} → Some x ≡ Some y → x ≡ y
    some-same e = cc

-- ---- sums of which one term changes

alike-but : (f g : ℕ → ℕ) (n : ℕ) (link : ℕ) → n ≤ link → ((k : ℕ) → k < n → k ≢ link → g k ≡ f k) → sum_to g n ≡ sum_to f n
alike-but f g n link past h = sum-alike f g n (λ k less. h k less (λ same. (let no : k < k = omega (arith, less, past, same) in omega (arith, no))))

pub sum-less : (f g : ℕ → ℕ) (n link d : ℕ) → ((k : ℕ) → k < n → k ≢ link → g k ≡ f k) → (link < n → g link + d ≡ f link) → (n ≤ link → d ≡ 0) → sum_to g n + d ≡ sum_to f n
sum-less f g zero link d h here past = (let none : d ≡ 0 = past (omega arith) in omega (arith, none))
sum-less f g (suc n) link d h here past =
    ⊎_elim
    (λ (same : link ≡ n).
    let first : sum_to g n ≡ sum_to f n = alike-but f g n link (omega (arith, same)) (λ k less. h k (omega (arith, less))) in
    let last : g n + d ≡ f n = subst (λ (k : ℕ). g k + d ≡ f k) same (here (omega (arith, same))) in
    omega (arith, first, last))
    (λ (apart : link ≢ n).
    let first : sum_to g n + d ≡ sum_to f n = sum-less f g n link d (λ k less. h k (omega (arith, less))) (λ less. here (omega (arith, less))) (λ more. past (omega (arith, more, apart))) in
    let last : g n ≡ f n = h n (omega arith) (λ e. apart (sym e)) in
    omega (arith, first, last))
    (cases_eq link n)

-- ---- all that is ahead at a node, of its first links

module _ (of : Message → Bool) (there : ℕ → ℕ) where
  abbrev pub ahead_at : WholeQueues → (link : ℕ) → ℕ
  ahead_at qs link = users_that of (ahead (there link) (queue_at qs link))

  abbrev pub all_ahead : (links : ℕ) → WholeQueues → ℕ
  all_ahead links qs = sum_to (ahead_at qs) links

  -- no queue has more
  pub all-grown : {w : ℕ} (links : ℕ) (qs rs : WholeQueues) → AreQueues w qs → AreGrown qs rs → all_ahead links rs ≡ all_ahead links qs
  all-grown links qs rs h e = sum-alike (ahead_at qs) (ahead_at rs) links (λ link less. ap (users_that of) (ahead-grown (there link) (queue_at qs link) (queue_at rs link) (h.each link) (e.each link)))

  -- the queue of one link changes
  pub all-less : (links : ℕ) (qs : WholeQueues) (link : ℕ) (q : Queue) (rs : WholeQueues) (d : ℕ) → rs.links ≡ slice_set qs.links link q → links ≤ length qs.links
      → users_that of (ahead (there link) q) + d ≡ ahead_at qs link → (links ≤ link → d ≡ 0) → all_ahead links rs + d ≡ all_ahead links qs
  all-less links qs link q rs d e fits here past =
      sum-less (ahead_at qs) (ahead_at rs) links link d
      (λ k less apart. ap (λ (x : Queue). users_that of (ahead (there k) x)) (ap (λ (xs : List Queue). slice_index_or xs k first_queue) e ∙ get_or-set_other qs.links link k q first_queue apart))
      (λ less.
      ap (λ (x : Queue). users_that of (ahead (there link) x) + d) (ap (λ (xs : List Queue). slice_index_or xs link first_queue) e ∙ get_or-set_same qs.links link q first_queue (omega (arith, less, fits))) ∙ here)
      past
