-- Destinations whose messages went by one set alone, and still do, lose the same links.
use Rattle.changeback.proofs.Basics.{and_parts, or_left, or_right, ◌≡◌, ◌≢◌, ◌⊎◌, ◌<◌, ℕ, zero, suc, ◌*◌, Bool, true, false, ◌||◌, List, Option, Some, None, refl, ap, sym, ◌∙◌, arith, ◌&&◌, nat_lt, if◌then◌else◌, slice_index_or, slice_set, ⊎_elim, cases_eq, ltb-true, get_or-set_other, SETS, SELECTIONS, Facts, with_link, chosen_link, lone_set, lone_alike, Network, facts_of, former_link, change_from, former_link_of, changes_of, comes_from, gives_up, number_of_pair, no_pairs, has_pair, with_pair, is_seen, with_seen, IsSeen}
use Rattle.std.proofs.Math.Logic.{inl, inr}
use Rattle.changeback.proofs.Changes.{gives_up-append, gives_up-one, none_set}

-- ---- what a destination loses goes by the links of its flows

module _ (to : ℕ) (f g : Facts) (destination other : ℕ) (was : (sls : ℕ) → chosen_link f destination sls ≡ chosen_link f other sls)
    (is : (sls : ℕ) → chosen_link g destination sls ≡ chosen_link g other sls) where
  same_former : (sls : ℕ) → former_link_of to f g destination sls ≡ former_link_of to f g other sls
  same_former sls =
      ap (λ (o : Option ℕ). former_link to o (chosen_link g destination sls)) (was sls)
      ∙ ap (λ (o : Option ℕ). former_link to (chosen_link f other sls) o) (is sls)

  pub same_lost : (count from : ℕ) → gives_up (changes_of to f g destination count) from ≡ gives_up (changes_of to f g other count) from
  unfolding changes_of
  same_lost zero from = refl
  same_lost (suc count) from =
      gives_up-append (changes_of to f g destination count) (change_from destination count (former_link_of to f g destination count)) from
      ∙ ap (λ (b : Bool). b || gives_up (change_from destination count (former_link_of to f g destination count)) from) (same_lost count from)
      ∙ ap (λ (b : Bool). gives_up (changes_of to f g other count) from || b)
      (gives_up-one destination count (former_link_of to f g destination count) from
      ∙ ap (λ (o : Option ℕ). comes_from o from) (same_former count)
      ∙ sym (gives_up-one other count (former_link_of to f g other count) from))
      ∙ sym (gives_up-append (changes_of to f g other count) (change_from other count (former_link_of to f g other count)) from)

-- ---- marks

absorbed : (x g : Bool) → (g ≡ true → x ≡ true) → x ≡ (x || g)
absorbed true g f = refl
absorbed false true f = f refl
absorbed false false f = refl

-- one of a pair that was looked at loses nothing more
pub marked_already : (n : Network) (link destination : ℕ) (before after : Option ℕ) (seen losing : List Bool) → IsSeen n link seen losing
    → is_seen seen before after ≡ true
    → before ≡ lone_set (with_link link false (facts_of n)) destination → after ≡ lone_set (facts_of n) destination → (other : ℕ)
    → slice_index_or losing other false
    ≡ (slice_index_or losing other false || gives_up (changes_of link (with_link link false (facts_of n)) (facts_of n) destination SELECTIONS) other)
marked_already n link destination (Some first) (Some second) seen losing s h b a other =
    absorbed (slice_index_or losing other false) _ (λ e. s.marked first second destination other h (sym b) (sym a) e)
marked_already n link destination (Some first) None seen losing s h b a other = absurd cc
marked_already n link destination None after seen losing s h b a other = absurd cc

-- ---- pairs

never : (a b : Bool) → a ≡ false → a ≡ true → b ≡ true
never a b e f = absurd cc

pub none_seen : (n : Network) (link : ℕ) (losing : List Bool) → IsSeen n link no_pairs losing
none_seen n link losing = record {
  marked = λ first second destination other h b a g. never (slice_index_or no_pairs (number_of_pair first second) false) (slice_index_or losing other false) (none_set (SETS * SETS) (number_of_pair first second)) (and_parts (nat_lt second SETS) _ h).1;
}

-- marks that are added leave what was looked at
more_marked : (n : Network) (link destination : ℕ) (seen old new : List Bool) → IsSeen n link seen old
    → ((other : ℕ) → slice_index_or new other false
    ≡ (slice_index_or old other false || gives_up (changes_of link (with_link link false (facts_of n)) (facts_of n) destination SELECTIONS) other))
    → IsSeen n link seen new
more_marked n link destination seen old new s m = record {
  marked = λ x y d other h p q g. m other ∙ or_left (slice_index_or old other false) _ (s.marked x y d other h p q g);
}

-- a pair of more pairs was there, or is the new one
same_pair : (b a x y : ℕ) → a < SETS → y < SETS → number_of_pair b a ≡ number_of_pair x y → (b ≡ x) × (a ≡ y)
same_pair b a x y h k e = (omega (arith, h, k, e), omega (arith, h, k, e))

there_by : (small : Bool) (seen : List Bool) (b a x y : ℕ) → nat_lt a SETS ≡ small → has_pair (if small then slice_set seen (number_of_pair b a) true else seen) x y ≡ true
    → (has_pair seen x y ≡ true) ⊎ ((b ≡ x) × (a ≡ y))
there_by false seen b a x y s h = inl h
there_by true seen b a x y s h =
    ⊎_elim
    (λ (e : number_of_pair b a ≡ number_of_pair x y).
    inr (same_pair b a x y (ltb-true a SETS s) (ltb-true y SETS (and_parts (nat_lt y SETS) _ h).0) e))
    (λ (d : number_of_pair b a ≢ number_of_pair x y).
    inl (ap (λ (mark : Bool). nat_lt y SETS && mark)
    (sym (get_or-set_other seen (number_of_pair b a) (number_of_pair x y) true false (λ e. d (sym e)))) ∙ h))
    (cases_eq (number_of_pair b a) (number_of_pair x y))

pub pair_there : (seen : List Bool) (b a x y : ℕ) → has_pair (with_pair seen b a) x y ≡ true → (has_pair seen x y ≡ true) ⊎ ((b ≡ x) × (a ≡ y))
pair_there seen b a x y h = there_by (nat_lt a SETS) seen b a x y refl h

-- the links that a destination loses were marked, so its pair was looked at
pub one_seen : (n : Network) (link destination : ℕ) (before after : Option ℕ) (seen old new : List Bool) → IsSeen n link seen old
    → before ≡ lone_set (with_link link false (facts_of n)) destination → after ≡ lone_set (facts_of n) destination
    → ((other : ℕ) → slice_index_or new other false
    ≡ (slice_index_or old other false || gives_up (changes_of link (with_link link false (facts_of n)) (facts_of n) destination SELECTIONS) other))
    → IsSeen n link (with_seen seen before after) new
one_seen n link destination (Some first) (Some second) seen old new s b a m = record {
  marked = λ x y d other h p q g.
      let f : Facts = with_link link false (facts_of n) in
      let k : Facts = facts_of n in
      m other
      ∙ ⊎_elim
      (λ (e : has_pair seen x y ≡ true).
      or_left (slice_index_or old other false) _ (s.marked x y d other e p q g))
      (λ (e : (first ≡ x) × (second ≡ y)).
      or_right (slice_index_or old other false) _
      (same_lost link f k destination d
      (λ sls. lone_alike f destination d first sls (sym b) (p ∙ ap (λ (i : ℕ). Some i) (sym e.0)))
      (λ sls. lone_alike k destination d second sls (sym a) (q ∙ ap (λ (i : ℕ). Some i) (sym e.1)))
      SELECTIONS other ∙ g))
      (pair_there seen first second x y h);
}
one_seen n link destination (Some first) None seen old new s b a m = more_marked n link destination seen old new s m
one_seen n link destination None after seen old new s b a m = more_marked n link destination seen old new s m
