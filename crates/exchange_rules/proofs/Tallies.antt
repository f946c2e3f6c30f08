-- Counts of user messages: over lists, and over queues of which one changes.
use Rattle.exchange_rules.proofs.Basics.{Bool, List, [], ap, arith, cond, false, length, not, refl, suc, sum_by, sym, true, zero, ℕ, ◌++◌, ◌+◌, ◌<◌, ◌∙◌, ◌∷◌, ◌≡◌, filter-append, sum_by-append, sum_by-cons, sum_by-set, count_by, if◌then◌else◌, slice_index_or, slice_set}
use Rattle.exchange_rules.proofs.Definitions.{users_of, Queue, first_queue, unconfirmed, Message, is_management, standing, users_that, WholeQueues, queue_at, whole, with_queue}
use Rattle.std.proofs.Common.{drop}

-- ---- numbers

pub none-more : (n : ℕ) → n ≡ n + 0
none-more n = omega arith

-- ---- one element of a list changes

first-less : (a b k l s t : ℕ) → s ≡ a + l → t ≡ b + l → a + k ≡ b → s + k ≡ t
first-less a b k l s t e f g = omega (arith, e, f, g)

later-less : (a k l r s t : ℕ) → s ≡ a + r → t ≡ a + l → r + k ≡ l → s + k ≡ t
later-less a k l r s t e f g = omega (arith, e, f, g)

none-less : (a b k : ℕ) → b ≡ 0 → a + k ≡ b → 0 + k ≡ 0
none-less a b k e f = omega (arith, e, f)

pub none-first : (n : ℕ) → 0 + n ≡ n
none-first n = omega arith

-- by so much less
pub sum-less : {A : Type 0} (f : A → ℕ) (xs : List A) (i : ℕ) (x d : A) (k : ℕ) → f d ≡ 0 → f x + k ≡ f (slice_index_or xs i d) → sum_by f (slice_set xs i x) + k ≡ sum_by f xs
sum-less f [] i x d k none e = none-less (f x) (f d) k none e
sum-less f (y ∷ xs) zero x d k none e =
    first-less (f x) (f y) k (sum_by f xs) (sum_by f (x ∷ xs)) (sum_by f (y ∷ xs)) (sum_by-cons f x xs) (sum_by-cons f y xs) e
sum-less f (y ∷ xs) (suc i) x d k none e =
    later-less (f y) k (sum_by f xs) (sum_by f (slice_set xs i x)) (sum_by f (y ∷ slice_set xs i x)) (sum_by f (y ∷ xs))
    (sum_by-cons f y (slice_set xs i x)) (sum_by-cons f y xs) (sum-less f xs i x d k none e)

set-more : (a b k s t : ℕ) → t + a ≡ s + b → b ≡ a + k → t ≡ s + k
set-more a b k s t e f = omega (arith, e, f)

-- by so much more
sum-more : {A : Type 0} (f : A → ℕ) (xs : List A) (i : ℕ) (x d : A) (k : ℕ) → i < length xs → f x ≡ f (slice_index_or xs i d) + k → sum_by f (slice_set xs i x) ≡ sum_by f xs + k
sum-more f xs i x d k there e =
    set-more (f (slice_index_or xs i d)) (f x) k (sum_by f xs) (sum_by f (slice_set xs i x)) (sum_by-set f xs i x d there) e

-- ---- user messages that satisfy a test

pub again : (ms : List Message) → users_of (users_of ms) ≡ users_of ms
again [] = refl
again (m ∷ ms) = by (is_management m) refl (again ms)
  where
    by : (b : Bool) → is_management m ≡ b → users_of (users_of ms) ≡ users_of ms
        → users_of (if not b then m ∷ users_of ms else users_of ms) ≡ (if not b then m ∷ users_of ms else users_of ms)
    by true e rest = rest
    by false e rest =
        ap (λ (t : Bool). if not t then m ∷ users_of (users_of ms) else users_of (users_of ms)) e ∙ ap (λ (xs : List Message). m ∷ xs) rest

module _ (of : Message → Bool) where
  pub append : (xs ys : List Message) → users_that of (xs ++ ys) ≡ users_that of xs + users_that of ys
  append xs ys =
      ap (count_by of) (filter-append (λ m. not (is_management m)) xs ys) ∙ sum_by-append (λ m. cond (of m) 1 0) (users_of xs) (users_of ys)

  -- a management message is none
  pub no-user : (m : Message) → is_management m ≡ true → users_that of (m ∷ []) ≡ 0
  no-user m e = ap (λ (b : Bool). count_by of (if not b then m ∷ [] else [])) e

  -- one message, where a test holds
  pub one-first : (b : Bool) (m : Message) (ms : List Message)
      → users_that of (if b then m ∷ ms else ms) ≡ users_that of (if b then m ∷ [] else []) + users_that of ms
  one-first true m ms = append (m ∷ []) ms
  one-first false m ms = sym (none-first (users_that of ms))

  none-behind : (ms : List Message) (m : Message) → is_management m ≡ true → users_that of (ms ++ m ∷ []) ≡ users_that of ms
  none-behind ms m e = omega (arith, append ms (m ∷ []), no-user m e)

  -- wherever the messages stand that aren't confirmed
  pub no-user-behind : (k : ℕ) (ms : List Message) (m : Message) → is_management m ≡ true → users_that of (drop k (ms ++ m ∷ [])) ≡ users_that of (drop k ms)
  no-user-behind zero ms m e = none-behind ms m e
  no-user-behind (suc zero) [] m e = refl
  no-user-behind (suc (suc k)) [] m e = refl
  no-user-behind (suc k) (first ∷ ms) m e = no-user-behind k ms m e

  -- ---- queues

  in-front : (h k s t : ℕ) → s + k ≡ t → h + s + k ≡ h + t
  in-front h k s t e = omega (arith, e)

  in-front-more : (h k s t : ℕ) → t ≡ s + k → h + t ≡ h + s + k
  in-front-more h k s t e = omega (arith, e)

  abbrev in_queue : Queue → ℕ
  in_queue q = users_that of (unconfirmed q)

  -- fewer stand in one queue
  pub queue-less : (qs : WholeQueues) (link : ℕ) (q : Queue) (k : ℕ) → users_that of (unconfirmed q) + k ≡ users_that of (unconfirmed (queue_at qs link))
      → standing of (with_queue qs link q) + k ≡ standing of qs
  queue-less qs link q k e =
      in-front (users_that of qs.held) k (sum_by in_queue (slice_set qs.links link q)) (sum_by in_queue qs.links)
      (sum-less in_queue qs.links link q first_queue k refl e)

  -- more stand in one
  pub queue-more : (qs : WholeQueues) (link : ℕ) (q : Queue) (k : ℕ) → link < length qs.links → users_that of (unconfirmed q) ≡ users_that of (unconfirmed (queue_at qs link)) + k
      → standing of (with_queue qs link q) ≡ standing of qs + k
  queue-more qs link q k there e =
      in-front-more (users_that of qs.held) k (sum_by in_queue qs.links) (sum_by in_queue (slice_set qs.links link q))
      (sum-more in_queue qs.links link q first_queue k there e)

  -- as many
  pub queue-same : (qs : WholeQueues) (link : ℕ) (q : Queue) → users_that of (unconfirmed q) ≡ users_that of (unconfirmed (queue_at qs link))
      → standing of (with_queue qs link q) ≡ standing of qs
  queue-same qs link q e = none-more (standing of (with_queue qs link q)) ∙ queue-less qs link q 0 (sym (none-more (users_that of (unconfirmed q))) ∙ e)

  held-more : (h k s t : ℕ) → t ≡ h + k → t + s ≡ h + s + k
  held-more h k s t e = omega (arith, e)

  -- one more in Held
  pub held-more-by : (qs : WholeQueues) (m : Message) → standing of (whole.holding qs m) ≡ standing of qs + users_that of (m ∷ [])
  held-more-by qs m =
      held-more (users_that of qs.held) (users_that of (m ∷ [])) (sum_by in_queue qs.links) (users_that of (qs.held ++ m ∷ [])) (append qs.held (m ∷ []))

  -- none in Held
  held-none : (h s : ℕ) → 0 + s + h ≡ h + s
  held-none h s = omega arith

  pub held-taken-out : (qs : WholeQueues) → standing of (whole.without_held qs) + users_that of qs.held ≡ standing of qs
  held-taken-out qs = held-none (users_that of qs.held) (sum_by in_queue qs.links)
