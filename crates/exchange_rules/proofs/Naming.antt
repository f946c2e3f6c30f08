-- Notices that are made one after another, and what they count.
use Rattle.exchange_rules.proofs.Basics.{Bool, List, [], ap, append-nil, arith, cond, count_by, false, filter, filter-append, length, length-append, refl, suc, sum_by-append, sym, true, zero, ℕ, ◌+◌, ◌++◌, ◌∙◌, ◌∷◌, ◌≡◌, ◌≤◌, if◌then◌else◌}
use Rattle.exchange_rules.proofs.Definitions.{AreAccounted, counted, names_a_message, names_none, tells_of_lateness, Notice, Noted, note, noted, noted_all, Done, Node, Parts, WholeQueues}
use Rattle.exchange_rules.specs.LawsOfLosses.{Reasons, latenesses, losses, tells_of_t2, tells_unsent}
use Rattle.exchange_rules.specs.State.{once_more}

-- ---- counts

pub named-append : (xs ys : List Notice) (kept : Noted) → noted_all (xs ++ ys) kept ≡ noted_all ys (noted_all xs kept)
named-append [] ys kept = refl
named-append (x ∷ xs) ys kept = named-append xs ys (noted x kept)

pub counts-append : (p : Notice → Bool) (xs ys : List Notice) → count_by p (xs ++ ys) ≡ count_by p xs + count_by p ys
counts-append p xs ys = sum_by-append (λ x. cond (p x) 1 0) xs ys

same-count : (k j times : ℕ) → k ≡ j → counted k times ≡ counted j times
same-count k j times e = ap (λ (x : ℕ). counted x times) e

counted-both : (k j times : ℕ) → counted (k + j) times ≡ counted j (counted k times)
counted-both zero j times = same-count (0 + j) j times (omega arith)
counted-both (suc k) j times = same-count (suc k + j) (suc (k + j)) times (omega arith) ∙ counted-both k j (once_more times)

-- ---- reasons

abbrev pub none : Reasons
none = record { lost = []; unsent = []; expired = []; late = []; doubts = 0; breaks = 0 }

abbrev pub both : Reasons → Reasons → Reasons
both r s = record {
  lost = r.lost ++ s.lost;
  unsent = r.unsent ++ s.unsent;
  expired = r.expired ++ s.expired;
  late = r.late ++ s.late;
  doubts = r.doubts + s.doubts;
  breaks = r.breaks + s.breaks;
}

same-length : (xs ys : List Notice) → xs ≡ ys → length xs ≡ length ys
same-length xs ys e = ap (λ (ns : List Notice). length ns) e

losses-as : (r s : Reasons) → r.lost ≡ s.lost → r.unsent ≡ s.unsent → r.expired ≡ s.expired → r.doubts ≡ s.doubts → losses r ≡ losses s
losses-as r s e f g h = omega (arith, same-length r.lost s.lost e, same-length r.unsent s.unsent f, same-length r.expired s.expired g, h)

losses-both : (r s : Reasons) → losses r + losses s ≡ losses (both r s)
losses-both r s = omega (arith, length-append r.lost s.lost, length-append r.unsent s.unsent, length-append r.expired s.expired)

module _ (r : Reasons) where
  -- a bound may be greater
  pub fewer : (k j : ℕ) (p q : Parts) → k ≤ j → AreAccounted r k p q → AreAccounted r j p q
  fewer k j p q l a = record {
    made = a.made;
    noted = a.noted;
    names = a.names;
    unsent = a.unsent;
    expired = a.expired;
    lates = a.lates;
    few = omega (arith, l, a.few);
    times_lost = a.times_lost;
    times_late = a.times_late;
    messages_lost = a.messages_lost;
    times_broken = a.times_broken;
  }

  -- something before that notes nothing
  pub after-same : (k : ℕ) (p q t : Parts) → q.notices ≡ p.notices → q.times_lost ≡ p.times_lost → q.times_late ≡ p.times_late
      → q.messages_lost ≡ p.messages_lost → q.times_broken ≡ p.times_broken → AreAccounted r k q t → AreAccounted r k p t
  after-same k p q t e f g h i a = record {
    made = a.made;
    noted = a.noted ∙ ap (noted_all a.made) e;
    names = a.names;
    unsent = a.unsent;
    expired = a.expired;
    lates = a.lates;
    few = a.few;
    times_lost = a.times_lost ∙ ap (counted (losses r)) f;
    times_late = a.times_late ∙ ap (counted (latenesses r)) g;
    messages_lost = a.messages_lost ∙ ap (counted (length r.lost)) h;
    times_broken = a.times_broken ∙ ap (counted r.breaks) i;
  }

  -- the same reasons, in other words
  pub accounted-as : (s : Reasons) (k j : ℕ) (p q : Parts) → r.lost ≡ s.lost → r.unsent ≡ s.unsent → r.expired ≡ s.expired → r.late ≡ s.late → r.doubts ≡ s.doubts → r.breaks ≡ s.breaks → k ≤ j → AreAccounted r k p q
      → AreAccounted s j p q
  accounted-as s k j p q e f g h d b l a = record {
    made = a.made;
    noted = a.noted;
    names = a.names ∙ e;
    unsent = a.unsent ∙ f;
    expired = a.expired ∙ g;
    lates = a.lates ∙ h;
    few = omega (arith, l, a.few);
    times_lost = a.times_lost ∙ same-count (losses r) (losses s) p.times_lost (losses-as r s e f g d);
    times_late = a.times_late ∙ same-count (latenesses r) (latenesses s) p.times_late (same-length r.late s.late h);
    messages_lost = a.messages_lost ∙ same-count (length r.lost) (length s.lost) p.messages_lost (same-length r.lost s.lost e);
    times_broken = a.times_broken ∙ same-count r.breaks s.breaks p.times_broken b;
  }

both-filter : (p : Notice → Bool) (xs ys us vs : List Notice) → filter p xs ≡ us → filter p ys ≡ vs → filter p (xs ++ ys) ≡ us ++ vs
both-filter p xs ys us vs e f = filter-append p xs ys ∙ ap (λ (ns : List Notice). ns ++ filter p ys) e ∙ ap (λ (ns : List Notice). us ++ ns) f

pub both-accounted : (r s : Reasons) (k j : ℕ) (p q t : Parts) → AreAccounted r k p q → AreAccounted s j q t → AreAccounted (both r s) (k + j) p t
both-accounted r s k j p q t a b = record {
  made = a.made ++ b.made;
  noted = b.noted ∙ ap (noted_all b.made) a.noted ∙ sym (named-append a.made b.made p.notices);
  names = both-filter names_a_message a.made b.made r.lost s.lost a.names b.names;
  unsent = both-filter tells_unsent a.made b.made r.unsent s.unsent a.unsent b.unsent;
  expired = both-filter tells_of_t2 a.made b.made r.expired s.expired a.expired b.expired;
  lates = both-filter tells_of_lateness a.made b.made r.late s.late a.lates b.lates;
  few = omega (arith, a.few, b.few, counts-append names_none a.made b.made);
  times_lost =
      b.times_lost ∙ ap (counted (losses s)) a.times_lost ∙ sym (counted-both (losses r) (losses s) p.times_lost)
      ∙ same-count (losses r + losses s) (losses (both r s)) p.times_lost (losses-both r s);
  times_late =
      b.times_late ∙ ap (counted (latenesses s)) a.times_late ∙ sym (counted-both (latenesses r) (latenesses s) p.times_late)
      ∙ same-count (latenesses r + latenesses s) (latenesses (both r s)) p.times_late (sym (length-append r.late s.late));
  messages_lost =
      b.messages_lost ∙ ap (counted (length s.lost)) a.messages_lost ∙ sym (counted-both (length r.lost) (length s.lost) p.messages_lost)
      ∙ same-count (length r.lost + length s.lost) (length (r.lost ++ s.lost)) p.messages_lost (sym (length-append r.lost s.lost));
  times_broken = b.times_broken ∙ ap (counted s.breaks) a.times_broken ∙ sym (counted-both r.breaks s.breaks p.times_broken);
}

-- ---- what a rule does, for these reasons

pub record Does (r : Reasons) (most : ℕ) (n m : Node WholeQueues) : Type 0 where
  pub is : AreAccounted r most n.parts m.parts

-- it raises no flag
abbrev pub Quiet : (most : ℕ) (n m : Node WholeQueues) → Type 0
Quiet most n m = Does none most n m

-- it sends management in vain, and raises no flag for another reason
abbrev pub sending : List Notice → Reasons
sending us = record { lost = []; unsent = us; expired = []; late = []; doubts = 0; breaks = 0 }

abbrev pub Sends : (us : List Notice) (most : ℕ) (n m : Node WholeQueues) → Type 0
Sends us most n m = Does (sending us) most n m

pub most-one : (p : Notice → Bool) (x : Notice) → count_by p (x ∷ []) ≤ 1
most-one p x = by (p x)
  where
    by : (b : Bool) → 0 + cond b 1 0 ≤ 1
    by true = omega arith
    by false = omega arith

pub same-quiet : (n m : Node WholeQueues) → m.parts.notices ≡ n.parts.notices → m.parts.times_lost ≡ n.parts.times_lost → m.parts.times_late ≡ n.parts.times_late
    → m.parts.messages_lost ≡ n.parts.messages_lost → m.parts.times_broken ≡ n.parts.times_broken → Quiet 0 n m
same-quiet n m e f g h i = record {
  is = record { made = []; noted = e; names = refl; unsent = refl; expired = refl; lates = refl; few = omega arith; times_lost = f; times_late = g; messages_lost = h; times_broken = i };
}

-- one notice
pub one-does : (r : Reasons) (notice : Notice) (n m : Node WholeQueues) → filter names_a_message (notice ∷ []) ≡ r.lost → filter tells_unsent (notice ∷ []) ≡ r.unsent
    → filter tells_of_t2 (notice ∷ []) ≡ r.expired → filter tells_of_lateness (notice ∷ []) ≡ r.late → m.parts.notices ≡ (note notice n.parts).notices
    → m.parts.times_lost ≡ counted (losses r) n.parts.times_lost → m.parts.times_late ≡ counted (latenesses r) n.parts.times_late
    → m.parts.messages_lost ≡ counted (length r.lost) n.parts.messages_lost → m.parts.times_broken ≡ counted r.breaks n.parts.times_broken → Does r 1 n m
one-does r notice n m e u x l f g h i j = record {
  is = record { made = notice ∷ []; noted = f; names = e; unsent = u; expired = x; lates = l; few = most-one names_none notice; times_lost = g; times_late = h; messages_lost = i; times_broken = j };
}

module _ (r : Reasons) where
  pub more-does : (k j : ℕ) (n m : Node WholeQueues) → k ≤ j → Does r k n m → Does r j n m
  more-does k j n m l a = record { is = fewer r k j n.parts m.parts l a.is }

  pub same-first : (k : ℕ) (n m o : Node WholeQueues) → m.parts.notices ≡ n.parts.notices → m.parts.times_lost ≡ n.parts.times_lost → m.parts.times_late ≡ n.parts.times_late
      → m.parts.messages_lost ≡ n.parts.messages_lost → m.parts.times_broken ≡ n.parts.times_broken → Does r k m o → Does r k n o
  same-first k n m o e f g h i a = record { is = after-same r k n.parts m.parts o.parts e f g h i a.is }

  pub both-does : (s : Reasons) (k j : ℕ) (n m o : Node WholeQueues) → Does r k n m → Does s j m o → Does (both r s) (k + j) n o
  both-does s k j n m o a b = record { is = both-accounted r s k j n.parts m.parts o.parts a.is b.is }

pub both-quiet : (k j : ℕ) (n m o : Node WholeQueues) → Quiet k n m → Quiet j m o → Quiet (k + j) n o
both-quiet = both-does none none

pub more-quiet : (k j : ℕ) (n m : Node WholeQueues) → k ≤ j → Quiet k n m → Quiet j n m
more-quiet = more-does none

pub any-quiet : (k : ℕ) (n : Node WholeQueues) → Quiet k n n
any-quiet k n = more-quiet 0 k n n (omega arith) (same-quiet n n refl refl refl refl refl)

-- ---- management is sent in vain

pub both-sends : (us vs : List Notice) (k j : ℕ) (n m o : Node WholeQueues) → Sends us k n m → Sends vs j m o → Sends (us ++ vs) (k + j) n o
both-sends us vs = both-does (sending us) (sending vs)

pub quiet-first : (us : List Notice) (k j : ℕ) (n m o : Node WholeQueues) → Quiet k n m → Sends us j m o → Sends us (k + j) n o
quiet-first us = both-does none (sending us)

pub quiet-then : (us : List Notice) (k j : ℕ) (n m o : Node WholeQueues) → Sends us k n m → Quiet j m o → Sends us (k + j) n o
quiet-then us k j n m o a b = record {
  is = accounted-as (sending (us ++ [])) (sending us) (k + j) (k + j) n.parts o.parts refl (append-nil us) refl refl refl refl (omega arith)
      (both-does (sending us) none k j n m o a b).is;
}

pub either-sends : (us vs : List Notice) (k : ℕ) (b : Bool) (o n m : Node WholeQueues) → Sends us k o n → Sends vs k o m → Sends (if b then us else vs) k o (if b then n else m)
either-sends us vs k true o n m e f = e
either-sends us vs k false o n m e f = f

pub either_done-sends : (us vs : List Notice) (k : ℕ) (b : Bool) (o : Node WholeQueues) (d e : Done WholeQueues) → Sends us k o d.left → Sends vs k o e.left → Sends (if b then us else vs) k o (if b then d else e).left
either_done-sends us vs k true o d e f g = f
either_done-sends us vs k false o d e f g = g

-- neither does
pub either-quiet : (k : ℕ) (b : Bool) (o n m : Node WholeQueues) → Quiet k o n → Quiet k o m → Quiet k o (if b then n else m)
either-quiet k true o n m e f = e
either-quiet k false o n m e f = f

pub either_done-quiet : (k : ℕ) (b : Bool) (o : Node WholeQueues) (d e : Done WholeQueues) → Quiet k o d.left → Quiet k o e.left → Quiet k o (if b then d else e).left
either_done-quiet k true o d e f g = f
either_done-quiet k false o d e f g = g
