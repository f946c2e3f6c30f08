-- The search for the count that a number names finds it, and nothing else.
use Rattle.link.proofs.Basics.{◌≡◌, ℕ, ◌+◌, ◌-◌, ◌%◌, ◌^◌, ◌<◌, ◌≤◌, arith, refl, sym, ◌∙◌, Some, None, nat_lt, if◌then◌else◌, common_steps, nat_tests, next_number, steps_between, Queue, IsQueue, Names, forward_number, named_count, search_finds_named}
use Rattle.link.proofs.Named.{found}

-- ---- by the distance d to what the number names

found-near : (first many d n : ℕ) → (if nat_lt d (many + 1) then Some (first + d) else None) ≡ Some n → d ≤ many
found-near first many d n e = grind (arith, common_steps, nat_tests)

found-there : (first many d n : ℕ) → (if nat_lt d (many + 1) then Some (first + d) else None) ≡ Some n → n ≡ first + d
found-there first many d n e = grind (arith, common_steps, nat_tests)

near-found : (first many d n : ℕ) → d ≤ many → n ≡ first + d → (if nat_lt d (many + 1) then Some (first + d) else None) ≡ Some n
near-found first many d n h e = grind (arith, common_steps, nat_tests)

number-there : (base first d n bsn : ℕ) → d ≡ steps_between ((base + first) % 2 ^ 24) (next_number bsn) → n ≡ first + d → (base + n) % 2 ^ 24 ≡ (bsn + 1) % 2 ^ 24
number-there base first d n bsn e f = omega arith

distance-there : (base first n bsn : ℕ) → first ≤ n → n - first < 2 ^ 24 → (base + n) % 2 ^ 24 ≡ (bsn + 1) % 2 ^ 24 →
    steps_between ((base + first) % 2 ^ 24) (next_number bsn) ≡ n - first
distance-there base first n bsn h k e = omega arith

-- ---- the search

searched : {w : ℕ} (q : Queue) (bsn d : ℕ) → IsQueue w q → d ≡ steps_between (forward_number q q.confirmed) (next_number bsn) →
    named_count q bsn ≡ (if nat_lt d (q.sent - q.confirmed + 1) then Some (q.confirmed + d) else None)
searched q bsn d h e = rw e (found q.base q.confirmed (q.sent - q.confirmed + 1) (next_number bsn) (omega (arith, h.window, h.limit)) (omega arith))

named : {w : ℕ} (q : Queue) (bsn d n : ℕ) → d ≡ steps_between (forward_number q q.confirmed) (next_number bsn) →
    (if nat_lt d (q.sent - q.confirmed + 1) then Some (q.confirmed + d) else None) ≡ Some n → IsQueue w q → Names q bsn n
named q bsn d n e f h =
    let near : d ≤ q.sent - q.confirmed = found-near q.confirmed (q.sent - q.confirmed) d n f in
    let there : n ≡ q.confirmed + d = found-there q.confirmed (q.sent - q.confirmed) d n f in
    record { from_confirmed = omega arith; to_sent = omega (arith, h.confirmed); number = number-there q.base q.confirmed d n bsn e there }

pub finds_named : search_finds_named
finds_named w q bsn n h = (
  (λ e. named q bsn _ n refl (sym (searched q bsn _ h refl) ∙ e) h),
  (λ names.
      let d : steps_between (forward_number q q.confirmed) (next_number bsn) ≡ n - q.confirmed =
      distance-there q.base q.confirmed n bsn names.from_confirmed (omega (arith, h.window, h.limit, names.to_sent)) names.number in
      searched q bsn (n - q.confirmed) h (sym d)
      ∙ near-found q.confirmed (q.sent - q.confirmed) (n - q.confirmed) n (omega (arith, names.to_sent)) (omega (arith, names.from_confirmed))),
)
