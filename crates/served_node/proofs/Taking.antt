-- Octets of a line, one after another.
use Rattle.std.proofs.Common.{◌≡◌, ◌≢◌, ℕ, ◌+◌, ◌-◌, ◌<◌, ◌≤◌, ◌∙◌, List, [], ◌∷◌, ◌++◌, length, take, slice_index_or, inl, inr, sym, ap, subst, arith, append_assoc, add-one}
use Rattle.std.proofs.Math.Seq.{take-suc, get_or-append_seam}
use Rattle.std.proofs.lemmas.Bool.{cases_lt}
use Rattle.std.proofs.lemmas.List.{length-take, length-take-le, length-append, take-take, take_all, take_at, get_or-take, get_or_append_left}
use Rattle.exchange.specs.Calls.{Kept}
use Rattle.served_node.specs.Clients.{ClientState, EndsNoLine, IsOneLine, without_return}
use Rattle.served_node.specs.WholeLines.{DoesLine, Shown}
use Rattle.served_node.specs.Captured.{Captured}
use Rattle.served_node.specs.declared.console_session.client.Ending.{Ending}
use Rattle.served_node.specs.declared.console_session.client.TheConstants.{LINE_OCTETS}

-- an octet after some that end no line may end it
pub up-to : (octets : List ℕ) (k : ℕ) → k < length octets → EndsNoLine (take k octets) → IsOneLine (take (k + 1) octets)
up-to octets k within none =
    let len : length (take (k + 1) octets) ≡ k + 1 = length-take-le (k + 1) octets (omega arith) in
    let most : length (take (k + 1) octets) - 1 ≡ k = omega (arith, len) in
    let front : take k (take (k + 1) octets) ≡ take k octets = take-take k (k + 1) octets (omega arith) in
    subst (λ (n : ℕ). EndsNoLine (take n (take (k + 1) octets))) (sym most) (subst EndsNoLine (sym front) none)

-- an octet that is part of the line
pub grown : (octets : List ℕ) (k : ℕ) (line : List ℕ) (now old : ClientState) → k < length octets → now ≡ record old { line = old.line ++ take k octets }
    → line ≡ now.line ++ slice_index_or octets k 0 ∷ [] → record now { line = line } ≡ record old { line = old.line ++ take (k + 1) octets }
grown octets k line now old within same longer =
    let more = slice_index_or octets k 0 ∷ [] in
    let joined : (old.line ++ take k octets) ++ more ≡ old.line ++ take (k + 1) octets =
    append_assoc old.line (take k octets) more ∙ ap (λ (xs : List ℕ). old.line ++ xs) (sym (ap (λ (n : ℕ). take n octets) (add-one k) ∙ take-suc octets k 0 within))
    in
    (λ i. record now { line = longer i }) ∙ ap (λ (c : ClientState). record c { line = c.line ++ more }) same ∙ (λ i. record old { line = joined i })

-- ---- where a line ends

-- the octet that ends a line comes after those that end none
front-within : (octets front behind : List ℕ) (k : ℕ) → octets ≡ front ++ behind → EndsNoLine front → slice_index_or octets k 0 ≡ 10 → length front ≤ k
front-within octets front behind k parts none ends =
    elim (cases_lt k (length front)) [
      | inl less ↦ absurd (none k 0 less (sym (get_or_append_left front behind 0 k less) ∙ sym (ap (λ (xs : List ℕ). slice_index_or xs k 0) parts) ∙ ends))
      | inr more ↦ more
    ]

-- octets that are part of a line that isn't too long have room
no-room : (octets front behind : List ℕ) (k : ℕ) (line : List ℕ) → octets ≡ front ++ behind → length front ≤ k → 0 < length front → (0 < k → length (line ++ take k octets) ≤ LINE_OCTETS)
    → LINE_OCTETS < length line + length front → ⊥
no-room octets front behind k line parts more some room long =
    let fits : length (line ++ take k octets) ≤ LINE_OCTETS = room (omega arith) in
    let len : length octets ≡ length front + length behind = ap length parts ∙ length-append front behind in
    absurd (omega (arith, fits, len, long, more, length-append line (take k octets), length-take k octets))

pub ends-too-late : (octets front behind : List ℕ) (k : ℕ) (now old : ClientState) → octets ≡ front ++ behind → EndsNoLine front → slice_index_or octets k 0 ≡ 10 → 0 < length front
    → now ≡ record old { line = old.line ++ take k octets } → (0 < k → length now.line ≤ LINE_OCTETS) → LINE_OCTETS < length old.line + length front → ⊥
ends-too-late octets front behind k now old parts none ends some same room long =
    no-room octets front behind k old.line parts (front-within octets front behind k parts none ends) some
    (λ more. subst (λ (c : ClientState). length c.line ≤ LINE_OCTETS) same (room more)) long

pub never-ends : (octets front behind : List ℕ) (k : ℕ) (now old : ClientState) → octets ≡ front ++ behind → length octets ≤ k → 0 < length front
    → now ≡ record old { line = old.line ++ take k octets } → (0 < k → length now.line ≤ LINE_OCTETS) → LINE_OCTETS < length old.line + length front → ⊥
never-ends octets front behind k now old parts all some same room long =
    no-room octets front behind k old.line parts (omega (arith, all, ap length parts, length-append front behind)) some
    (λ more. subst (λ (c : ClientState). length c.line ≤ LINE_OCTETS) same (room more)) long

module _ (octets front behind : List ℕ) (k : ℕ) (parts : octets ≡ front ++ 10 ∷ behind) where
  -- octets that end no line come before the end
  within-front : k ≤ length octets → EndsNoLine (take k octets) → k ≤ length front
  within-front fits none =
      elim (cases_lt (length front) k) [
        | inl more ↦
            absurd (none (length front) 0 (omega (arith, length-take-le k octets fits, more))
            (get_or-take k octets (length front) 0 more ∙ ap (λ (xs : List ℕ). slice_index_or xs (length front) 0) parts ∙ get_or-append_seam front 10 behind 0))
        | inr less ↦ less
      ]

  -- the line that ended is done
  pub done-at : (shown was : Shown) → shown ≡ was → (captured began captured_after : Captured) → captured ≡ began → (ending : Ending) (s t after : Kept) (old now new : ClientState) → EndsNoLine front → EndsNoLine (take k octets) → k < length octets → slice_index_or octets k 0 ≡ 10
      → now ≡ record old { line = old.line ++ take k octets } → t ≡ s → DoesLine (without_return now.line) shown captured captured_after ending t after (record now { line = [] }) new
      → (k + 1 ≡ length front + 1) × DoesLine (without_return (old.line ++ front)) was began captured_after ending s after (record old { line = [] }) new
  done-at shown was kept captured began captured_after same_captured ending s t after old now new front_ends none within ends same same_state does =
      let at : k ≡ length front = omega (arith, within-front (omega arith) none, front-within octets front (10 ∷ behind) k parts front_ends ends) in
      let text : take k octets ≡ front = ap (take k) parts ∙ take_at front (10 ∷ behind) k (sym at) in
      let is : now ≡ record old { line = old.line ++ front } = same ∙ (λ i. record old { line = old.line ++ text i }) in (
        ap (λ (n : ℕ). n + 1) at,
        subst (λ (c : ClientState). DoesLine (without_return c.line) was began captured_after ending s after (record c { line = [] }) new) is
            (subst (λ (u : Kept). DoesLine (without_return now.line) was began captured_after ending u after (record now { line = [] }) new) same_state
            (subst (λ (b : Captured). DoesLine (without_return now.line) was b captured_after ending t after (record now { line = [] }) new) same_captured
            (subst (λ (r : Shown). DoesLine (without_return now.line) r captured captured_after ending t after (record now { line = [] }) new) kept does))),
      )

  -- a line that has room ends before it is too long
  pub has-room : (line : List ℕ) → EndsNoLine (take k octets) → k < length octets → slice_index_or octets k 0 ≢ 10 → LINE_OCTETS ≤ length (line ++ take k octets)
      → length line + length front ≤ LINE_OCTETS → ⊥
  has-room line none within goes_on long room =
      let less = within-front (omega arith) none in
      let at : k ≡ length front = omega (arith, less, long, room, length-append line (take k octets), length-take-le k octets (omega arith)) in
      goes_on (ap (λ (n : ℕ). slice_index_or octets n 0) at ∙ ap (λ (xs : List ℕ). slice_index_or xs (length front) 0) parts ∙ get_or-append_seam front 10 behind 0)

  -- a line that ends, ends
  pub ends-somewhere : EndsNoLine (take k octets) → length octets ≤ k → ⊥
  ends-somewhere none all =
      let len : length octets ≡ length front + length (10 ∷ behind) = ap length parts ∙ length-append front (10 ∷ behind) in
      let whole : EndsNoLine octets = subst EndsNoLine (take_all k octets all) none in
      whole (length front) 0 (omega (arith, len)) (ap (λ (xs : List ℕ). slice_index_or xs (length front) 0) parts ∙ get_or-append_seam front 10 behind 0)
