-- The ticks that are left, read from the leaves of a tree of moments.
use Rattle.timers.proofs.Basics.{◌≡◌, ℕ, zero, suc, nat_lt, ◌+◌, ◌-◌, ◌*◌, ◌^◌, ◌<◌, ◌≤◌, ◌==◌, inl, inr, min, Bool, true, false, cond, List, [], ◌∷◌, length, map, get_or, take, drop, slice_set, replicate, refl, sym, ap, subst, ◌∙◌, arith, map-set, get_or-set_other, get_or-take, get_or-drop, length-map, length-drop, length-take-le, drop-map, take-map, take_rest, take-replicate, drop-replicate, length-replicate, sum_by-take-drop, length-filter, position_or_len_is, cases_lt, nat_tests, Option, Some, None, is_some, filter, position, count_by, position_or_len, one_less, no_tick_left, never, left_at, has_come, rebased, at, least, first_below, count_below, IsBounded, AreBounded, left_in, IsTree, lt-ltb}
use Rattle.std.proofs.lemmas.List as list
use Rattle.timers.proofs.Beneath.{come-yes, come-no, all-bounded, IsFirst, AreLate, IsAnswer, first-is, count-row}

-- ---- one moment

runs : (clock moment : ℕ) → is_some (left_at clock moment) ≡ nat_lt moment never
runs clock moment = elim (nat_lt moment never) as (λ b. is_some (cond b (Some (moment - clock)) None) ≡ b) [ true ↦ refl | false ↦ refl ]

later : (clock moment : ℕ) → left_at (clock + 1) moment ≡ one_less (left_at clock moment)
later clock moment =
    elim (nat_lt moment never) as (λ b. cond b (Some (moment - (clock + 1))) None ≡ one_less (cond b (Some (moment - clock)) None)) [
      | true ↦ (let e : moment - (clock + 1) ≡ moment - clock - 1 = omega arith in ap (λ n. Some n) e)
      | false ↦ refl
    ]

again : (clock moment : ℕ) → left_at 1 (rebased clock moment) ≡ one_less (left_at clock moment)
again clock moment =
    elim (nat_lt moment never) as (λ b. nat_lt moment never ≡ b → left_at 1 (cond b (moment - clock) moment) ≡ one_less (cond b (Some (moment - clock)) None)) [
      | true ↦ λ h. ap (λ b. cond b (Some (moment - clock - 1)) None) (less moment clock h)
      | false ↦ λ h. ap (λ b. cond b (Some (moment - 1)) None) h
    ] refl
  where
    less : (m c : ℕ) → nat_lt m never ≡ true → nat_lt (m - c) never ≡ true
    less m c h = grind (arith, nat_tests, h)

due : (clock moment : ℕ) → clock < never → no_tick_left (left_at clock moment) ≡ has_come clock moment
due clock moment h =
    elim (nat_lt moment never) as (λ b. nat_lt moment never ≡ b → no_tick_left (cond b (Some (moment - clock)) None) ≡ has_come clock moment) [
      | true ↦ λ e. passed moment clock
      | false ↦ λ e. sym (come-no clock moment (past moment e))
    ] refl
  where
    passed : (m c : ℕ) → (m - c == 0) ≡ has_come c m
    passed m c = grind (arith, nat_tests)

    past : (m : ℕ) → nat_lt m never ≡ false → clock < m
    past m e = grind (arith, nat_tests, e, h)

-- ---- one place

take-set : (n : ℕ) (xs : List ℕ) (i y : ℕ) → take n (slice_set xs i y) ≡ slice_set (take n xs) i y
take-set zero xs i y = refl
take-set (suc n) [] i y = refl
take-set (suc n) (x ∷ xs) zero y = refl
take-set (suc n) (x ∷ xs) (suc i) y = ap (λ (ys : List ℕ). x ∷ ys) (take-set n xs i y)

pub left-set : (clock places leaves place moment : ℕ) (nodes new : List ℕ) → drop leaves new ≡ slice_set (drop leaves nodes) place moment
    → left_in clock places leaves new ≡ slice_set (left_in clock places leaves nodes) place (left_at clock moment)
left-set clock places leaves place moment nodes new e =
    ap (λ xs. map (left_at clock) (take places xs)) e
    ∙ ap (map (left_at clock)) (take-set places (drop leaves nodes) place moment)
    ∙ map-set (left_at clock) (take places (drop leaves nodes)) place moment

-- as many leaves as places are read
length-leaves : (places leaves : ℕ) (nodes : List ℕ) → length nodes ≡ 2 * leaves → places ≤ leaves → length (take places (drop leaves nodes)) ≡ places
length-leaves places leaves nodes e h = length-take-le places (drop leaves nodes) (omega (arith, e, h, length-drop leaves nodes))

pub length-left : (clock places levels leaves : ℕ) (nodes : List ℕ) → IsTree clock places levels leaves nodes → length (left_in clock places leaves nodes) ≡ places
length-left clock places levels leaves nodes t = length-map (take places (drop leaves nodes)) (left_at clock) ∙ length-leaves places leaves nodes t.size t.room

pub left-read : (clock places levels leaves place : ℕ) (nodes : List ℕ) → IsTree clock places levels leaves nodes → place < places → get_or (left_in clock places leaves nodes) place None ≡ left_at clock (at nodes (leaves + place))
left-read clock places levels leaves place nodes t h =
    list.get_or-map (left_at clock) (take places (drop leaves nodes)) place never None (omega (arith, h, length-leaves places leaves nodes t.size t.room))
    ∙ ap (left_at clock) (get_or-take places (drop leaves nodes) place never h ∙ get_or-drop leaves nodes place never)

pub left-runs : (clock places levels leaves place moment : ℕ) (nodes : List ℕ) → IsTree clock places levels leaves nodes → place < places → moment ≡ at nodes (leaves + place)
    → nat_lt moment never ≡ is_some (get_or (left_in clock places leaves nodes) place None)
left-runs clock places levels leaves place moment nodes t h e =
    sym (ap is_some (left-read clock places levels leaves place nodes t h) ∙ runs clock (at nodes (leaves + place)) ∙ ap (λ m. nat_lt m never) (sym e))

pub tree-set : (clock places levels leaves place moment : ℕ) (nodes new : List ℕ) → IsTree clock places levels leaves nodes → place < places → length new ≡ length nodes → IsBounded leaves new
    → drop leaves new ≡ slice_set (drop leaves nodes) place moment → IsTree clock places levels leaves new
tree-set clock places levels leaves place moment nodes new t h len bounded e = record {
  early = t.early;
  halves = t.halves;
  size = len ∙ t.size;
  room = t.room;
  bounded = bounded;
  idle = λ leaf far.
      ap (λ xs. get_or xs leaf never) e
      ∙ get_or-set_other (drop leaves nodes) place leaf moment never (λ same. absurd (omega (arith, same, far, h)))
      ∙ t.idle leaf far;
}

pub tree-mended : (clock places levels leaves : ℕ) (nodes new : List ℕ) → IsTree clock places levels leaves nodes → length new ≡ length nodes → IsBounded leaves new → drop leaves new ≡ drop leaves nodes → IsTree clock places levels leaves new
tree-mended clock places levels leaves nodes new t len bounded e = record {
  early = t.early;
  halves = t.halves;
  size = len ∙ t.size;
  room = t.room;
  bounded = bounded;
  idle = λ leaf far. ap (λ xs. get_or xs leaf never) e ∙ t.idle leaf far;
}

-- ---- at first

pub tree-none : (places levels leaves : ℕ) (nodes : List ℕ) → places ≤ 2 ^ levels → leaves ≡ 2 ^ levels → nodes ≡ replicate (2 * leaves) never → IsTree 0 places levels leaves nodes
tree-none places levels leaves nodes room halves e = record {
  early = omega arith;
  halves = halves;
  size = ap length e ∙ length-replicate (2 * leaves) never;
  room = omega (arith, room, halves);
  bounded = record {
    holds = λ node some inside.
        let below : never ≡ least nodes node = λ i. min (sym (all (2 * node)) i) (sym (all (2 * node + 1)) i) in
        omega (arith, all node, below);
  };
  idle = λ leaf far. ap (λ xs. get_or (drop leaves xs) leaf never) e ∙ get_or-drop leaves (replicate (2 * leaves) never) leaf never ∙ none (2 * leaves) (leaves + leaf);
}
  where
    none : (n i : ℕ) → get_or (replicate n never) i never ≡ never
    none zero i = refl
    none (suc n) zero = refl
    none (suc n) (suc i) = none n i

    all : (i : ℕ) → at nodes i ≡ never
    all i = ap (λ xs. at xs i) e ∙ none (2 * leaves) i

map-none : (n clock : ℕ) → map (left_at clock) (replicate n never) ≡ replicate n None
map-none zero clock = refl
map-none (suc n) clock = ap (λ (xs : List (Option ℕ)). None ∷ xs) (map-none n clock)

pub left-none : (places leaves : ℕ) (nodes : List ℕ) → places ≤ leaves → nodes ≡ replicate (2 * leaves) never → left_in 0 places leaves nodes ≡ replicate places None
left-none places leaves nodes room e =
    ap (λ xs. map (left_at 0) (take places (drop leaves xs))) e
    ∙ ap (λ xs. map (left_at 0) (take places xs)) (drop-replicate leaves (2 * leaves) never)
    ∙ ap (map (left_at 0)) (take-replicate places (2 * leaves - leaves) never (omega (arith, room)))
    ∙ map-none places 0

-- ---- a tick

map-later : (clock : ℕ) (xs : List ℕ) → map (left_at (clock + 1)) xs ≡ map one_less (map (left_at clock) xs)
map-later clock [] = refl
map-later clock (x ∷ xs) = λ i. later clock x i ∷ map-later clock xs i

map-again : (clock : ℕ) (xs : List ℕ) → map (left_at 1) (map (rebased clock) xs) ≡ map one_less (map (left_at clock) xs)
map-again clock [] = refl
map-again clock (x ∷ xs) = λ i. again clock x i ∷ map-again clock xs i

pub left-later : (clock places leaves : ℕ) (nodes : List ℕ) → left_in (clock + 1) places leaves nodes ≡ map one_less (left_in clock places leaves nodes)
left-later clock places leaves nodes = map-later clock (take places (drop leaves nodes))

pub tree-later : (clock places levels leaves : ℕ) (nodes : List ℕ) → IsTree clock places levels leaves nodes → clock + 65536 < never → IsTree (clock + 1) places levels leaves nodes
tree-later clock places levels leaves nodes t h = record {
  early = omega (arith, h);
  halves = t.halves;
  size = t.size;
  room = t.room;
  bounded = t.bounded;
  idle = t.idle;
}

pub left-again : (clock places leaves : ℕ) (nodes : List ℕ) → left_in 1 places leaves (map (rebased clock) nodes) ≡ map one_less (left_in clock places leaves nodes)
left-again clock places leaves nodes =
    ap (λ xs. map (left_at 1) (take places xs)) (drop-map (rebased clock) leaves nodes)
    ∙ ap (map (left_at 1)) (take-map (rebased clock) places (drop leaves nodes))
    ∙ map-again clock (take places (drop leaves nodes))

-- the lesser of two moments stays the lesser
least-rebased : (clock a b : ℕ) → min (rebased clock a) (rebased clock b) ≡ rebased clock (min a b)
least-rebased clock a b = grind (arith, nat_tests)

rebased-le : (clock a b : ℕ) → a ≤ b → rebased clock a ≤ rebased clock b
rebased-le clock a b h = grind (arith, nat_tests, h)

at-rebased : (clock : ℕ) (nodes : List ℕ) (i : ℕ) → at (map (rebased clock) nodes) i ≡ rebased clock (at nodes i)
at-rebased clock [] i = refl
at-rebased clock (x ∷ xs) zero = refl
at-rebased clock (x ∷ xs) (suc i) = at-rebased clock xs i

pub tree-again : (clock places levels leaves : ℕ) (nodes : List ℕ) → IsTree clock places levels leaves nodes → IsTree 1 places levels leaves (map (rebased clock) nodes)
tree-again clock places levels leaves nodes t = record {
  early = omega arith;
  halves = t.halves;
  size = length-map nodes (rebased clock) ∙ t.size;
  room = t.room;
  bounded = record {
    holds = λ node some inside.
        let here = at-rebased clock nodes node in
        let below =
        (λ i. min (at-rebased clock nodes (2 * node) i) (at-rebased clock nodes (2 * node + 1) i))
        ∙ least-rebased clock (at nodes (2 * node)) (at nodes (2 * node + 1)) in
        omega (arith, here, below, rebased-le clock (at nodes node) (least nodes node) (t.bounded.holds node some inside));
  };
  idle = λ leaf far.
      ap (λ xs. get_or xs leaf never) (drop-map (rebased clock) leaves nodes)
      ∙ at-rebased clock (drop leaves nodes) leaf
      ∙ ap (rebased clock) (t.idle leaf far);
}

-- ---- what is due

pub all_rows : (clock places levels leaves : ℕ) (nodes : List ℕ) → IsTree clock places levels leaves nodes → (1 + 1) * 2 ^ levels ≤ length nodes
all_rows clock places levels leaves nodes t = omega (arith, t.size, t.halves)

pub bounded : (clock places levels leaves : ℕ) (nodes : List ℕ) → IsTree clock places levels leaves nodes → AreBounded levels 1 nodes
bounded clock places levels leaves nodes t = all-bounded levels nodes (subst (λ n. IsBounded n nodes) t.halves t.bounded)

counted : (clock : ℕ) (xs : List ℕ) → clock < never → length (filter no_tick_left (map (left_at clock) xs)) ≡ count_by (has_come clock) xs
counted clock xs h = each xs ∙ length-filter (has_come clock) xs
  where
    each : (xs : List ℕ) → length (filter no_tick_left (map (left_at clock) xs)) ≡ length (filter (has_come clock) xs)
    each [] = refl
    each (x ∷ xs) =
        ap (λ b. length (cond b (left_at clock x ∷ filter no_tick_left (map (left_at clock) xs)) (filter no_tick_left (map (left_at clock) xs)))) (due clock x h)
        ∙ same (has_come clock x) (left_at clock x) x (filter no_tick_left (map (left_at clock) xs)) (filter (has_come clock) xs) (each xs)
      where
        same : (b : Bool) (y : Option ℕ) (x : ℕ) (ys : List (Option ℕ)) (xs : List ℕ) → length ys ≡ length xs → length (cond b (y ∷ ys) ys) ≡ length (cond b (x ∷ xs) xs)
        same true y x ys xs e = ap suc e
        same false y x ys xs e = e

none-counted : (clock : ℕ) (xs : List ℕ) → clock < never → ((i : ℕ) → get_or xs i never ≡ never) → count_by (has_come clock) xs ≡ 0
none-counted clock xs h e = sym (length-filter (has_come clock) xs) ∙ each xs e
  where
    each : (xs : List ℕ) → ((i : ℕ) → get_or xs i never ≡ never) → length (filter (has_come clock) xs) ≡ 0
    each [] e = refl
    each (x ∷ xs) e =
        ap (λ b. length (cond b (x ∷ filter (has_come clock) xs) (filter (has_come clock) xs))) (ap (has_come clock) (e 0) ∙ come-no clock never h)
        ∙ each xs (λ i. e (suc i))

pub left-counted : (clock places levels leaves : ℕ) (nodes : List ℕ) → IsTree clock places levels leaves nodes → count_below clock nodes levels 1 ≡ length (filter no_tick_left (left_in clock places leaves nodes))
left-counted clock places levels leaves nodes t =
    let early : clock < never = omega (arith, t.early) in
    let start : 1 * 2 ^ levels ≡ leaves = omega (arith, t.halves) in
    let wide : 2 ^ levels ≡ length nodes - leaves = omega (arith, t.halves, t.size) in
    let row = count-row clock nodes levels 1 (all_rows clock places levels leaves nodes t) in
    let all = (λ i. count_by (has_come clock) (take (wide i) (drop (start i) nodes))) ∙ ap (count_by (has_come clock)) (take_rest nodes leaves) in
    let parts : count_by (has_come clock) (take places (drop leaves nodes)) + count_by (has_come clock) (drop places (drop leaves nodes)) ≡ count_by (has_come clock) (drop leaves nodes) = sum_by-take-drop (λ m. cond (has_come clock m) 1 0) (drop leaves nodes) places in
    let rest = none-counted clock (drop places (drop leaves nodes)) early (λ i. get_or-drop places (drop leaves nodes) i never ∙ t.idle (places + i) (omega arith)) in
    let few = counted clock (take places (drop leaves nodes)) early in
    omega (arith, row, all, parts, rest, few)

-- where a search ends
found : (n : ℕ) (xs : List (Option ℕ)) → position_or_len no_tick_left xs ≡ n → n < length xs → Some n ≡ position no_tick_left xs
found n xs e h = sym (ap (λ m. cond (nat_lt m (length xs)) (Some m) None) e ∙ ap (λ b. cond b (Some n) None) (lt-ltb n (length xs) h))

not_found : (xs : List (Option ℕ)) → position_or_len no_tick_left xs ≡ length xs → None ≡ position no_tick_left xs
not_found xs e = sym (ap (λ m. cond (nat_lt m (length xs)) (Some m) None) e ∙ ap (λ b. cond b (Some (length xs)) None) (itself (length xs)))
  where
    itself : (n : ℕ) → nat_lt n n ≡ false
    itself n = grind (arith, nat_tests)

module _ (clock places levels leaves : ℕ) (nodes : List ℕ) (t : IsTree clock places levels leaves nodes) where
  early : clock < never
  early = omega (arith, t.early)

  -- whether a place is due
  due-at : (place : ℕ) → place < places → no_tick_left (get_or (left_in clock places leaves nodes) place None) ≡ has_come clock (at nodes (leaves + place))
  due-at place h = ap no_tick_left (left-read clock places levels leaves place nodes t h) ∙ due clock (at nodes (leaves + place)) early

  -- a leaf that has come is that of a place
  come-within : (place : ℕ) → at nodes (leaves + place) ≤ clock → place < places
  come-within place h =
      elim (cases_lt place places) [
        | inl lower ↦ lower
        | inr far ↦ (let idle : at nodes (leaves + place) ≡ never = sym (get_or-drop leaves nodes place never) ∙ t.idle place far in absurd (omega (arith, idle, h, early)))
      ]

  first-place : (place : ℕ) → at nodes (leaves + place) ≤ clock → ((k : ℕ) → k < place → clock < at nodes (leaves + k)) → Some place ≡ position no_tick_left (left_in clock places leaves nodes)
  first-place place h before =
      let within = come-within place h in
      let len = length-left clock places levels leaves nodes t in
      found place (left_in clock places leaves nodes)
      (position_or_len_is no_tick_left (left_in clock places leaves nodes) place None (omega (arith, within, len))
      (λ k lower. due-at k (omega (arith, lower, within)) ∙ come-no clock (at nodes (leaves + k)) (before k lower))
      (λ l. due-at place within ∙ come-yes clock (at nodes (leaves + place)) h))
      (omega (arith, within, len))

  pub record IsFirstPlace (leaf : ℕ) : Type 0 where
    pub low : leaves ≤ leaf
    pub within : leaf - leaves < places
    pub first : Some (leaf - leaves) ≡ position no_tick_left (left_in clock places leaves nodes)

  first-leaf : (leaf : ℕ) → IsFirst clock nodes levels 1 leaf → IsFirstPlace leaf
  first-leaf leaf f =
      let low : leaves ≤ leaf = omega (arith, f.low, t.halves) in
      let whole : leaves + (leaf - leaves) ≡ leaf = omega (arith, low) in
      let h : at nodes (leaves + (leaf - leaves)) ≤ clock = subst (λ i. at nodes i ≤ clock) (sym whole) f.come in
      record {
        low = low;
        within = come-within (leaf - leaves) h;
        first = first-place (leaf - leaves) h (λ k lower. f.before (leaves + k) (omega (arith, t.halves)) (omega (arith, lower, whole)));
      }

  -- what a search of the whole row says
  pub leaf-found : (leaf : ℕ) → first_below clock nodes levels 1 ≡ Some leaf → IsFirstPlace leaf
  leaf-found leaf e = first-leaf leaf (subst (IsAnswer clock nodes levels 1) e (first-is clock nodes levels 1))

  pub none-found : first_below clock nodes levels 1 ≡ None → None ≡ position no_tick_left (left_in clock places leaves nodes)
  none-found e =
      not_found (left_in clock places leaves nodes) (position_or_len_is no_tick_left (left_in clock places leaves nodes) (length (left_in clock places leaves nodes)) None (omega arith) before (λ l. absurd (omega (arith, l))))
    where
      late : AreLate clock nodes levels 1
      late = subst (IsAnswer clock nodes levels 1) e (first-is clock nodes levels 1)

      before : (k : ℕ) → k < length (left_in clock places leaves nodes) → no_tick_left (get_or (left_in clock places leaves nodes) k None) ≡ false
      before k lower =
          let inside : k < places = omega (arith, lower, length-left clock places levels leaves nodes t) in
          due-at k inside
          ∙ come-no clock (at nodes (leaves + k)) (late.all (leaves + k) (omega (arith, t.halves)) (omega (arith, t.halves, inside, t.room)))
