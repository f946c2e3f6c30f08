-- Faults that are told one after another.
use Rattle.settings.proofs.Basics.{refl, ap, sym, ◌∙◌, ◌≡◌, ◌≢◌, ◌≤◌, ◌<◌, ◌+◌, inl, inr, ℕ, List, [], ◌∷◌, ◌++◌, Option, Some, None, length, take, drop, get_or, arith, common_steps, append_assoc, first_of, all_of, all_behind, tell, tell_all, entries_checks, own_point, scalars_checks, lists_checks, timers_checks, arrays_checks, all_checks, DraftFault, Draft}
use Rattle.std.specs.Prelude.{◌⊎◌}
use Rattle.std.proofs.lemmas.List.{length-append, append-nil}

pub then_tell : (told : List DraftFault) (a b : List (Option DraftFault)) → tell_all (tell_all told a) b ≡ tell_all told (a ++ b)
then_tell told [] b = refl
then_tell told (check ∷ a) b = then_tell (tell told check) a b

-- the checks of an entry, and of those after it
next_checks : {A : Type 0} (f : List A → A → List (Option DraftFault)) (xs : List A) (i : ℕ) (x d : A) → i < length xs → x ≡ get_or xs i d → f (take i xs) x ++ entries_checks f (take (i + 1) xs) (drop (i + 1) xs) ≡ entries_checks f (take i xs) (drop i xs)
next_checks f xs i x d l e = grind (arith, common_steps)

-- after the last entry there is nothing to check
no_checks : {A : Type 0} (f : List A → A → List (Option DraftFault)) (xs : List A) (i : ℕ) → length xs ≤ i → entries_checks f (take i xs) (drop i xs) ≡ []
no_checks f xs i l = grind (arith, common_steps)

-- an entry is told, and what is left to tell
pub told_entry : {A : Type 0} (f : List A → A → List (Option DraftFault)) (xs : List A) (i : ℕ) (x d : A) (old new all : List DraftFault) → i < length xs → x ≡ get_or xs i d → new ≡ tell_all old (f (take i xs) x) → tell_all old (entries_checks f (take i xs) (drop i xs)) ≡ all → tell_all new (entries_checks f (take (i + 1) xs) (drop (i + 1) xs)) ≡ all
told_entry f xs i x d old new all l e n h =
    rw n (then_tell old (f (take i xs) x) (entries_checks f (take (i + 1) xs) (drop (i + 1) xs)) ∙ ap (tell_all old) (next_checks f xs i x d l e) ∙ h)

-- all are told
pub told_all : {A : Type 0} (f : List A → A → List (Option DraftFault)) (xs : List A) (i : ℕ) (told all : List DraftFault) → length xs ≤ i → tell_all told (entries_checks f (take i xs) (drop i xs)) ≡ all → told ≡ all
told_all f xs i told all l h = rw (no_checks f xs i l) at h

-- ---- how many are told
grows : (told : List DraftFault) (checks : List (Option DraftFault)) → length told ≤ length (tell_all told checks)
grows told [] = omega arith
grows told (None ∷ rest) = grows told rest
grows told (Some fault ∷ rest) = let more = grows (told ++ fault ∷ []) rest in omega (arith, length-append told (fault ∷ []), more)

none_told : (told : List DraftFault) (checks : List (Option DraftFault)) → first_of checks ≡ None → tell_all told checks ≡ told
none_told told [] h = refl
none_told told (None ∷ rest) h = none_told told rest h
none_told told (Some fault ∷ rest) h = cc

-- where no more are told, there was nothing to tell
no_more : (told : List DraftFault) (checks : List (Option DraftFault)) → length (tell_all told checks) ≡ length told → first_of checks ≡ None
no_more told [] h = refl
no_more told (None ∷ rest) h = no_more told rest h
no_more told (Some fault ∷ rest) h = let more = grows (told ++ fault ∷ []) rest in absurd (omega (arith, length-append told (fault ∷ []), more, h))

-- ---- checks behind the faults of others, which were told in two pieces
both_none : (a b : List (Option DraftFault)) → first_of a ≡ None → first_of b ≡ None → first_of (a ++ b) ≡ None
both_none [] b h k = k
both_none (None ∷ a) b h k = both_none a b h k
both_none (Some fault ∷ a) b h k = cc

first_none : (a b : List (Option DraftFault)) → first_of (a ++ b) ≡ None → first_of a ≡ None
first_none [] b h = refl
first_none (None ∷ a) b h = first_none a b h
first_none (Some fault ∷ a) b h = cc

second_none : (a b : List (Option DraftFault)) → first_of (a ++ b) ≡ None → first_of b ≡ None
second_none [] b h = h
second_none (None ∷ a) b h = second_none a b h
second_none (Some fault ∷ a) b h = cc

-- the pieces: these were told before the first, the first, what is between, the second, and what is behind
pub record Pieces (before : List DraftFault) (a between b behind : List (Option DraftFault)) (after_a after_between after_b after : List DraftFault) : Type 0 where
  pub a_told : after_a ≡ tell_all before a
  pub between_told : after_between ≡ tell_all after_a between
  pub b_told : after_b ≡ tell_all after_between b
  pub behind_told : after ≡ tell_all after_b behind

-- all of them in a row
in_row : (before : List DraftFault) (a between b behind last : List (Option DraftFault)) (after_a after_between after_b after : List DraftFault) → Pieces before a between b behind after_a after_between after_b after → tell_all after last ≡ tell_all before (a ++ (between ++ (b ++ (behind ++ last))))
in_row before a between b behind last after_a after_between after_b after p =
    rw (p.behind_told, p.b_told, p.between_told, p.a_told) (then_tell (tell_all (tell_all (tell_all before a) between) b) behind last
    ∙ then_tell (tell_all (tell_all before a) between) b (behind ++ last)
    ∙ then_tell (tell_all before a) between (b ++ (behind ++ last))
    ∙ then_tell before a (between ++ (b ++ (behind ++ last))))

-- if neither of the two told any, what stands behind both is told
pub told_behind : (before : List DraftFault) (a between b behind last : List (Option DraftFault)) (after_a after_between after_b after : List DraftFault) → Pieces before a between b behind after_a after_between after_b after → length after_a ≡ length before → length after_b ≡ length after_between → tell_all after last ≡ tell_all before (a ++ (between ++ (b ++ (behind ++ all_behind (first_of (a ++ b)) last))))
told_behind before a between b behind last after_a after_between after_b after p e f =
    let none : first_of (a ++ b) ≡ None = both_none a b (no_more before a (rw (← p.a_told) e)) (no_more after_between b (rw (← p.b_told) f)) in
    rw none (in_row before a between b behind last after_a after_between after_b after p)

-- if one of them told some, it isn't
pub not_told_behind : (before : List DraftFault) (a between b behind last : List (Option DraftFault)) (after_a after_between after_b after : List DraftFault) → Pieces before a between b behind after_a after_between after_b after → (length after_a ≢ length before) ⊎ (length after_b ≢ length after_between) → after ≡ tell_all before (a ++ (between ++ (b ++ (behind ++ all_behind (first_of (a ++ b)) last))))
not_told_behind before a between b behind last after_a after_between after_b after p h =
    by (first_of (a ++ b)) refl ∙ in_row before a between b behind (all_behind (first_of (a ++ b)) last) after_a after_between after_b after p
  where
    by : (found : Option DraftFault) → first_of (a ++ b) ≡ found → after ≡ tell_all after (all_behind found last)
    by None g = elim h [
      | inl n ↦ absurd (n (ap length (p.a_told ∙ none_told before a (first_none a b g))))
      | inr n ↦ absurd (n (ap length (p.b_told ∙ none_told after_between b (second_none a b g))))
    ]
    by (Some fault) g = refl

-- ---- all that there are
pub told_found : (told : List DraftFault) (checks : List (Option DraftFault)) → tell_all told checks ≡ told ++ all_of checks
told_found told [] = sym (append-nil told)
told_found told (None ∷ rest) = told_found told rest
told_found told (Some fault ∷ rest) = told_found (told ++ fault ∷ []) rest ∙ append_assoc told (fault ∷ []) (all_of rest)

-- the pieces of settings, told in a row
pub all_told : (told a b c all : List DraftFault) (d : Draft) (own : ℕ) → own ≡ own_point d.own → a ≡ tell_all told (scalars_checks d) → b ≡ tell_all a (lists_checks d) → c ≡ tell_all b (timers_checks d.timers) → all ≡ tell_all c (arrays_checks own d) → all ≡ tell_all told (all_checks d)
unfolding all_checks
all_told told a b c all d own e f g h i =
    let arrays = arrays_checks own d in
    let timers = timers_checks d.timers ++ arrays in
    let rest : tell_all b timers ≡ tell_all told (scalars_checks d ++ (lists_checks d ++ timers)) = ap (λ t. tell_all t timers) g ∙ (then_tell a (lists_checks d) timers ∙ (ap (λ t. tell_all t (lists_checks d ++ timers)) f ∙ then_tell told (scalars_checks d) (lists_checks d ++ timers))) in
    i ∙ (ap (λ t. tell_all t arrays) h ∙ (then_tell b (timers_checks d.timers) arrays ∙ (rest ∙ ap (λ n. tell_all told (scalars_checks d ++ (lists_checks d ++ (timers_checks d.timers ++ arrays_checks n d)))) e)))
