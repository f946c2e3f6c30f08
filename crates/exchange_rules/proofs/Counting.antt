-- Notices are counted, and the last 64 are kept.
use Rattle.exchange_rules.proofs.Basics.{◌≡◌, ◌≤◌, ℕ, List, [], ◌∷◌, ◌++◌, length, refl, ap, sym, subst, arith, drop-drop, ◌∙◌, drop, min, append-nil, append_assoc, drop-append-le, length-append, length-drop}
use Rattle.exchange_rules.proofs.Definitions.{Configuration, NOTICES, Notice, first_state, AreNoted, IsWithinLimits, after_each, new_notices_are_the_last, notices_made_are_counted, notices_keep_their_limits, noted, noted_all, WholeQueues, Node, Noted}
use Rattle.std.proofs.Math.Nat.{min-le_left, min-le_right, sub-add-min_cancel}
use Rattle.std.proofs.Math.Seq.{drop-append-add}
use Rattle.std.specs.Prelude.{◌+◌, ◌-◌, ◌%◌, ◌^◌}
use Rattle.circular_buffer.specs.Buffer.{keep_last}
use Rattle.signalling_types.specs.declared.notice.Notice.TheVariants as notices
use Rattle.exchange_rules.proofs.Asked.{any, IsOfAll, all-of, asked-all}
use Rattle.exchange_rules.proofs.Naming.{named-append}
use Rattle.exchange_rules.proofs.Steps.{IsOfSteps}

-- ---- lists

short-last : (n : ℕ) (xs : List Notice) → length (keep_last n xs) ≤ n
short-last n xs = omega (arith, length-drop (length xs - n) xs)

all-last : (n : ℕ) (xs : List Notice) → length xs ≤ n → keep_last n xs ≡ xs
all-last n xs short = let none : length xs - n ≡ 0 = omega (arith, short) in ap (λ (k : ℕ). drop k xs) none

-- the last of the last, and of more
last-last : (n : ℕ) (xs ys : List Notice) → keep_last n (keep_last n xs ++ ys) ≡ keep_last n (xs ++ ys)
last-last n xs ys =
    let k : ℕ = length xs - n in
    let front : k ≤ length xs = omega arith in
    let joined : drop k xs ++ ys ≡ drop k (xs ++ ys) = sym (drop-append-le k xs ys front) in
    let size : length (drop k xs ++ ys) ≡ length (xs ++ ys) - k =
    ap (λ (zs : List Notice). length zs) joined ∙ length-drop k (xs ++ ys) in
    let left : k + (length (drop k xs ++ ys) - n) ≡ length (xs ++ ys) - n =
    omega (arith, size, length-append xs ys) in
    ap (drop (length (drop k xs ++ ys) - n)) joined ∙ drop-drop (length (drop k xs ++ ys) - n) k (xs ++ ys) ∙ ap (λ (j : ℕ). drop j (xs ++ ys)) left

-- the last few of the last
few-last : (k n : ℕ) (xs : List Notice) → k ≤ n → keep_last k (keep_last n xs) ≡ keep_last k xs
few-last k n xs few =
    let size : length (keep_last n xs) ≡ length xs - (length xs - n) = length-drop (length xs - n) xs in
    let left : length xs - n + (length (keep_last n xs) - k) ≡ length xs - k = omega (arith, size, few) in
    drop-drop (length (keep_last n xs) - k) (length xs - n) xs ∙ ap (λ (j : ℕ). drop j xs) left

-- and of what comes after others
last-behind : (k : ℕ) (xs ys : List Notice) → k ≤ length ys → keep_last k (xs ++ ys) ≡ keep_last k ys
last-behind k xs ys few =
    let at : length (xs ++ ys) - k ≡ length xs + (length ys - k) = omega (arith, length-append xs ys, few) in
    ap (λ (j : ℕ). drop j (xs ++ ys)) at ∙ drop-append-add xs ys (length ys - k)

-- no more than there are
capped-last : (n : ℕ) (xs : List Notice) → keep_last (min (length xs) n) xs ≡ keep_last n xs
capped-last n xs =
    let same : length xs - min (length xs) n ≡ length xs - n = omega (arith, sub-add-min_cancel (length xs) n, min-le_left (length xs) n) in
    ap (λ (j : ℕ). drop j xs) same

-- ---- noting

one-limits : (notice : Notice) (n : Noted) → IsWithinLimits (noted notice n)
one-limits notice n = record {
  count = omega arith;
  last = short-last NOTICES (n.last ++ notice ∷ []);
}

all-limits : (made : List Notice) (n : Noted) → IsWithinLimits n → IsWithinLimits (noted_all made n)
all-limits [] n h = h
all-limits (notice ∷ others) n h = all-limits others (noted notice n) (one-limits notice n)

all-noted : (made : List Notice) (n : Noted) → IsWithinLimits n → AreNoted made n (noted_all made n)
all-noted [] n h = record {
  counted = omega (arith, h.count);
  kept = sym (ap (keep_last NOTICES) (append-nil n.last) ∙ all-last NOTICES n.last h.last);
}
all-noted (notice ∷ others) n h =
    let rest : AreNoted others (noted notice n) (noted_all others (noted notice n)) = all-noted others (noted notice n) (one-limits notice n) in
    record {
      counted = rest.counted ∙ omega arith;
      kept =
          rest.kept ∙ last-last NOTICES (n.last ++ notice ∷ []) others ∙ ap (keep_last NOTICES) (append_assoc n.last (notice ∷ []) others);
    }

-- ---- what is new

pub new-last : new_notices_are_the_last
new-last made old new limits h few =
    let k : ℕ = min (length made) NOTICES in (
      ap (λ (n : ℕ). (n + 2 ^ 64 - old.count) % 2 ^ 64) h.counted ∙ omega (arith, limits.count, few),
      ap (keep_last k) h.kept
          ∙ few-last k NOTICES (old.last ++ made) (min-le_right (length made) NOTICES)
          ∙ last-behind k old.last made (min-le_left (length made) NOTICES)
          ∙ capped-last NOTICES made,
    )

-- ---- steps

-- from one node to another some notices were made
record Makes (n m : Node WholeQueues) : Type 0 where
  pub made : List Notice
  pub by : m.parts.notices ≡ noted_all made n.parts.notices

same-makes : (n m : Node WholeQueues) → m.parts.notices ≡ n.parts.notices → Makes n m
same-makes n m e = record { made = []; by = e }

makes-steps : (c : Configuration) → IsOfSteps c any any Makes
makes-steps c = record {
  none = λ n. same-makes n n refl;
  both = λ n m o e f. record { made = e.made ++ f.made; by = f.by ∙ ap (noted_all f.made) e.by ∙ sym (named-append e.made f.made n.parts.notices) };
  routed = λ link m n e. same-makes n _ refl;
  declared = λ link other code n e f. same-makes n _ refl;
  tested = λ link point test n e f. same-makes n _ refl;
  probed = λ link n e. same-makes n _ refl;
  held = λ m n e. same-makes n _ refl;
  taken_out = λ n. same-makes n _ refl;
  noted = λ notice n e. record { made = notice ∷ []; by = refl };
  lost = λ n. same-makes n _ refl;
  counted = λ messages broken n. same-makes n _ refl;
  asked = λ link n e. same-makes n _ refl;
  late = λ n. same-makes n _ refl;
  timed = λ r n e. same-makes n _ refl;
  holding = λ h n e. same-makes n _ refl;
  coded = λ set code awaited n. same-makes n _ refl;
  rerouted = λ routes n e. same-makes n _ refl;
  told = λ t n e. same-makes n _ refl;
  titled = λ rows n. same-makes n _ refl;
  unequipped = λ counts n e. same-makes n _ refl;
  failed = λ link why st n e f. record { made = notices.Failed link why ∷ []; by = refl };
  dropped = λ link why n e. record { made = notices.Failed link why ∷ []; by = refl };
  completed = λ link number st n e f. same-makes n _ refl;
  answered = λ link st n e f w. same-makes n _ refl;
  linked = λ link x n e o. same-makes n _ refl;
  parted = λ link n e. same-makes n _ refl;
  opened = λ link n own e f g. same-makes n _ refl;
  stepped = λ link input step n own e. same-makes n _ refl;
  passed = λ link n e. same-makes n _ refl;
  busied = λ link n own e f. same-makes n _ refl;
  resumed = λ link n own e f. same-makes n _ refl;
  accepted = λ link d confirmed n own e f. same-makes n _ refl;
  sent = λ link next n own e. same-makes n _ refl;
}

makes-all : (c : Configuration) → IsOfAll c Makes
makes-all c = all-of (makes-steps c) (λ n. same-makes n _ refl) (λ n. same-makes n _ refl)

pub notices-counted : notices_made_are_counted
notices-counted asked a h =
    let some : Makes a.node (after_each asked a).node = asked-all (makes-all a.settings) asked a refl in
    (some.made, subst (AreNoted some.made a.node.parts.notices) (sym some.by) (all-noted some.made a.node.parts.notices h))

pub notices-limits : notices_keep_their_limits
notices-limits c asked =
    let some : Makes (first_state c).node (after_each asked (first_state c)).node = asked-all (makes-all c) asked (first_state c) refl in
    subst IsWithinLimits (sym some.by) (all-limits some.made (first_state c).node.parts.notices (record { count = omega arith; last = omega arith }))
