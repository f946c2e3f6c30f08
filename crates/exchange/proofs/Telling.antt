-- Adjacent points are told what they are owed, one destination after the other and one set after the other.
use Rattle.exchange.proofs.Basics.{◌≡◌, ◌<◌, ◌≤◌, ℕ, suc, ◌+◌, ◌-◌, length, replicate, Bool, true, false, List, [], ◌∷◌, ◌++◌, Option, Some, None, refl, ap, sym, ◌∙◌, arith, if◌then◌else◌, Configuration, Facts, RouteStatus, ToldTable, shape_of, Owed, owed_at, owed_from, owed_to, owed_by_sets, next_is_owed, next_is_not_owed, later_stay_owed, next_set, owed_are_to, others_stay_owed, row_by_shape, rows_by_shape, QueueKind, Node, State, with_node, KeptQueues, kept, facts, may_tell, tell, tell_if, tell_each, tell_owed, tell_at, told_at_place, told_set, tell-facts, tell-told, tell_each-facts, tell_each-row, tell_each-adjacents}

module _ {Q : Type 0} (q : QueueKind Q) (c : Configuration) where
  -- ---- one destination after the other

  -- what the adjacent point of a set is still to be told, of n destinations from one on
  abbrev pub row_left : (set from count : ℕ) → Node Q → Node Q
  row_left set from count n = tell_each q c (owed_from (facts c n.parts) n.parts.told set from count) n

  later-left : (b : Bool) (o : Owed) (from count : ℕ) (n : Node Q) → o.destination < from
      → row_left o.set from count (if b then tell q c o n else n)
      ≡ tell_each q c (owed_from (facts c n.parts) n.parts.told o.set from count) (if b then tell q c o n else n)
  later-left true o from count n before =
      ap (λ (os : List Owed). tell_each q c os (tell q c o n))
      (ap (λ (f : Facts). owed_from f (tell q c o n).parts.told o.set from count) (tell-facts q c o n)
      ∙ ap (λ (t : ToldTable). owed_from (facts c n.parts) t o.set from count) (tell-told q c o n)
      ∙ later_stay_owed (facts c n.parts) n.parts.told o.set o.destination from count o.status before)
  later-left false o from count n before = refl

  at-place : (set from count : ℕ) (status : Option RouteStatus) (n : Node Q) → owed_at (facts c n.parts) n.parts.told set from ≡ status
      → row_left set (suc from) count (tell_at q c set from status n) ≡ row_left set from (suc count) n
  at-place set from count (Some status) n e =
      let o : Owed = record { set = set; destination = from; status = status } in
      later-left (may_tell q c n) o (suc from) count n (omega arith)
      ∙ ap (λ (os : List Owed). tell_each q c os n) (sym (next_is_owed (facts c n.parts) n.parts.told set from count status e))
  at-place set from count None n e = ap (λ (os : List Owed). tell_each q c os n) (sym (next_is_not_owed (facts c n.parts) n.parts.told set from count e))

  pub one_told : (set from count : ℕ) (n : Node Q)
      → row_left set (suc from) count (tell_at q c set from (owed_at (facts c n.parts) n.parts.told set from) n) ≡ row_left set from (suc count) n
  one_told set from count n = at-place set from count (owed_at (facts c n.parts) n.parts.told set from) n refl

  -- ---- one set after the other

  -- what the adjacent points of n sets from one on are still to be told
  abbrev pub sets_left : (from count : ℕ) → Node Q → Node Q
  sets_left from count n = tell_each q c (owed_by_sets (facts c n.parts) n.parts.told from count) n

  tell_each-behind : (os xs : List Owed) (n : Node Q) → tell_each q c (os ++ xs) n ≡ tell_each q c xs (tell_each q c os n)
  tell_each-behind [] xs n = refl
  tell_each-behind (o ∷ os) xs n = tell_each-behind os xs (tell_if q c o n)

  pub set_told : (from count : ℕ) (n : Node Q)
      → sets_left (suc from) count (tell_each q c (owed_to (facts c n.parts) n.parts.told from) n) ≡ sets_left from (suc count) n
  set_told from count n =
      let f : Facts = facts c n.parts in
      let t : ToldTable = n.parts.told in
      let next : Node Q = tell_each q c (owed_to f t from) n in
      ap (λ (os : List Owed). tell_each q c os next)
      (ap (λ (g : Facts). owed_by_sets g next.parts.told (suc from) count) (tell_each-facts q c (owed_to f t from) n)
      ∙ others_stay_owed f t next.parts.told (suc from) count (sym (tell_each-adjacents q c (owed_to f t from) n))
      (λ set l. tell_each-row q c from set (owed_to f t from) n (owed_are_to f t from 0 _) (λ e. omega (arith, l, e))))
      ∙ sym (tell_each-behind (owed_to f t from) (owed_by_sets f t (suc from) count) n)
      ∙ ap (λ (os : List Owed). tell_each q c os n) (sym (next_set f t from count))

-- ---- the same of a state of the code

-- a state once the adjacent point of a set was told of n destinations from one on
abbrev pub row_rest : (set from count : ℕ) → State KeptQueues → State KeptQueues
row_rest set from count s = with_node s (row_left kept s.settings set from count s.node)

-- and once those of n sets from one on were told all
abbrev pub sets_rest : (from count : ℕ) → State KeptQueues → State KeptQueues
sets_rest from count s = with_node s (sets_left kept s.settings from count s.node)

pub row_step : (s next : State KeptQueues) (set from end : ℕ) → from < end → next ≡ told_at_place set from s
    → row_rest set (from + 1) (end - (from + 1)) next ≡ row_rest set from (end - from) s
row_step s next set from end h e =
    let left : end - from ≡ suc (end - (from + 1)) = omega (arith, h) in
    let one : from + 1 ≡ suc from = omega arith in
    ap (row_rest set (from + 1) (end - (from + 1))) e
    ∙ ap (λ (k : ℕ). row_rest set k (end - (from + 1)) (told_at_place set from s)) one
    ∙ ap (λ (n : Node KeptQueues). with_node s n) (one_told kept s.settings set from (end - (from + 1)) s.node)
    ∙ ap (λ (k : ℕ). row_rest set from k s) (sym left)

pub row_end : (s : State KeptQueues) (set from end : ℕ) → end ≤ from → row_rest set from (end - from) s ≡ s
row_end s set from end h =
    let none : end - from ≡ 0 = omega (arith, h) in
    ap (λ (k : ℕ). row_rest set from k s) none

pub row_whole : (s : State KeptQueues) (set : ℕ) → set < length s.settings.sets
    → shape_of s.node.parts.told ≡ replicate (length s.settings.sets) (length s.settings.destinations)
    → row_rest set 0 (length s.settings.destinations) s ≡ told_set set s
row_whole s set h shape =
    ap (λ (k : ℕ). row_rest set 0 k s) (sym (row_by_shape s.node.parts.told (length s.settings.sets) (length s.settings.destinations) set shape h))

pub set_step : (s next : State KeptQueues) (from end : ℕ) → from < end → next ≡ told_set from s
    → sets_rest (from + 1) (end - (from + 1)) next ≡ sets_rest from (end - from) s
set_step s next from end h e =
    let left : end - from ≡ suc (end - (from + 1)) = omega (arith, h) in
    let one : from + 1 ≡ suc from = omega arith in
    ap (sets_rest (from + 1) (end - (from + 1))) e
    ∙ ap (λ (k : ℕ). sets_rest k (end - (from + 1)) (told_set from s)) one
    ∙ ap (λ (n : Node KeptQueues). with_node s n) (set_told kept s.settings from (end - (from + 1)) s.node)
    ∙ ap (λ (k : ℕ). sets_rest from k s) (sym left)

pub sets_end : (s : State KeptQueues) (from end : ℕ) → end ≤ from → sets_rest from (end - from) s ≡ s
sets_end s from end h =
    let none : end - from ≡ 0 = omega (arith, h) in
    ap (λ (k : ℕ). sets_rest from k s) none

pub sets_whole : (s : State KeptQueues) → shape_of s.node.parts.told ≡ replicate (length s.settings.sets) (length s.settings.destinations)
    → sets_rest 0 (length s.settings.sets) s ≡ with_node s (tell_owed kept s.settings s.node)
unfolding tell_owed
sets_whole s shape =
    ap (λ (k : ℕ). sets_rest 0 k s) (sym (rows_by_shape s.node.parts.told (length s.settings.sets) (length s.settings.destinations) shape))
