-- The settings of the nodes of a mated pair keep every limit, and each of their links has another end.
use Rattle.node_moves.proofs.Basics.{◌≡◌, ◌≢◌, ◌≤◌, ◌<◌, ◌^◌, ◌&&◌, ◌||◌, nat_tests, if◌then◌else◌, ℕ, zero, suc, Bool, true, false, length, [], ◌∷◌, Some, is_some, refl, sym, subst, arith, nat_eq, nat_lt, slice_get, eqb-true, eq-eqb}
use Rattle.node_moves.proofs.Definitions.{Configuration, SetEntry, LinkEntry, IsLink, IsSet, IsWell}
use Rattle.node_moves.specs.Laws.{AreTheirs}
use Rattle.node_moves.specs.MatedPair.{mated, ticks, without_links, transfer_settings, end_settings}
use Rattle.node_moves.specs.Networks.{IsNode, points, other_end}
use Rattle.settings.specs.Well.{IsDestination, IsTitle, IsWithin, IsFarPoint, all_ticks, is_led_first}
use Rattle.signalling_types.specs.declared.limits.TheConstants.Limits.{LINKS, SETS, DESTINATIONS, POOL, TICKS, WINDOW}
use Rattle.std.specs.Prelude.{IsTrue}
use Rattle.std.specs.List.{list_any}
unfoldable use Rattle.std.specs.List.{IsDistinct}
use Rattle.std.proofs.lemmas.List.Elements.{All-from_recursion}
use Rattle.std.proofs.lemmas.List.Sums.{count_by-le-length}

within : (low high n : ℕ) → low ≤ n → n ≤ high → IsWithin low high n
within low high n a b = record { above = a; below = b }

-- ---- one of the pair

module _ (own mate : ℕ) (fits : own < 2 ^ 14) (mate_fits : mate < 2 ^ 14) (apart : mate ≢ own) (low : own < 3) (mate_low : mate < 3) where
  abbrev pair : Configuration
  pair = transfer_settings own mate

  itself : nat_eq mate mate ≡ true
  itself = eq-eqb mate mate refl

  other-than : (point : ℕ) → 3 ≤ point → nat_eq point mate ≡ false
  other-than point l = grind (arith, nat_tests, mate_low, l)

  pair-led : (set : ℕ) (s : SetEntry) → slice_get pair.sets set ≡ Some s → IsTrue (list_any (is_led_first s.adjacent set) pair.destinations)
  pair-led zero s e =
      subst (λ (x : SetEntry). IsTrue (list_any (is_led_first x.adjacent 0) pair.destinations)) (let is : record { name = 97 ∷ []; adjacent = 3 } ≡ s = cc in is) refl
  pair-led (suc zero) s e =
      subst (λ (x : SetEntry). IsTrue (list_any (is_led_first x.adjacent 1) pair.destinations)) (let is : record { name = 98 ∷ []; adjacent = 4 } ≡ s = cc in is) refl
  pair-led (suc (suc zero)) s e =
      subst (λ (x : SetEntry). IsTrue (list_any (is_led_first x.adjacent 2) pair.destinations)) (let is : record { name = 99 ∷ []; adjacent = mate } ≡ s = cc in is)
      (by (nat_eq 3 mate) (nat_eq 4 mate) (nat_eq mate mate) itself)
    where
      by : (a b d : Bool) → d ≡ true → IsTrue ((a && false) || ((b && false) || ((d && true) || false)))
      by a b true e = either a b
        where
          either : (a b : Bool) → IsTrue ((a && false) || ((b && false) || true))
          either true true = refl
          either true false = refl
          either false true = refl
          either false false = refl
      by a b false e = absurd cc
  pair-led (suc (suc (suc set))) s e = absurd cc

  at-three : IsFarPoint own 3
  at-three = record { fits = omega arith; far = λ e. absurd (omega (arith, low, e)) }

  at-four : IsFarPoint own 4
  at-four = record { fits = omega arith; far = λ e. absurd (omega (arith, low, e)) }

  at-mate : IsFarPoint own mate
  at-mate = record { fits = mate_fits; far = apart }

  pair-well : IsWell pair
  unfolding IsDistinct
  pair-well =
      let nine : IsWithin 1 TICKS 9 = within 1 TICKS 9 (omega arith) (omega arith) in
      let one : IsWithin 1 TICKS 1 = within 1 TICKS 1 (omega arith) (omega arith) in
      let long : IsWithin 1 TICKS 99 = within 1 TICKS 99 (omega arith) (omega arith) in
      record {
        own = fits;
        network = omega arith;
        window = within 1 WINDOW 8 (omega arith) (omega arith);
        pool = within 1 POOL 10 (omega arith) (omega arith);
        users = All-from_recursion (IsWithin 4 15) (5 ∷ []) (within 4 15 5 (omega arith) (omega arith), tt);
        users_differ = (tt, tt);
        subsystems = All-from_recursion (IsWithin 1 255) [] tt;
        subsystems_differ = tt;
        timers = All-from_recursion (IsWithin 1 TICKS) (all_ticks ticks) (nine, (nine, (nine, (one, (nine, (nine, (nine, (nine, (nine, (nine, (nine, (nine, (nine, (long, tt))))))))))))));
        bar = omega arith;
        set_count = within 1 SETS 3 (omega arith) (omega arith);
        sets = All-from_recursion (IsSet own) pair.sets (record { name = refl; adjacent = at-three }, (record { name = refl; adjacent = at-four }, (record { name = refl; adjacent = at-mate }, tt)));
        set_names_differ = ((refl, (refl, tt)), ((refl, tt), (tt, tt)));
        adjacent_points_differ = ((refl, (other-than 3 (omega arith), tt)), ((other-than 4 (omega arith), tt), (tt, tt)));
        link_count = within 1 LINKS 3 (omega arith) (omega arith);
        links = All-from_recursion (IsLink 3) pair.links (
          record { name = refl; set = omega arith; slc = omega arith; share = tt },
          (record { name = refl; set = omega arith; slc = omega arith; share = tt }, (record { name = refl; set = omega arith; slc = omega arith; share = tt }, tt)),
        );
        link_names_differ = ((refl, (refl, tt)), ((refl, tt), (tt, tt)));
        link_codes_differ = ((refl, (refl, tt)), ((refl, tt), (tt, tt)));
        links_of_a_set = λ set. let few = count_by-le-length (λ (l : LinkEntry). nat_eq l.set set) pair.links in omega (arith, few);
        destination_count = within 1 DESTINATIONS 3 (omega arith) (omega arith);
        destinations = All-from_recursion (IsDestination own 3) pair.destinations (
          record {
            point = at-three;
            some = omega arith;
            fits = omega arith;
            within = All-from_recursion (λ (set : ℕ). set < 3) (0 ∷ 2 ∷ []) (omega arith, (omega arith, tt));
            differ = ((refl, tt), (tt, tt));
            joined = λ e. absurd cc;
          },
          (
            record {
              point = at-four;
              some = omega arith;
              fits = omega arith;
              within = All-from_recursion (λ (set : ℕ). set < 3) (1 ∷ 2 ∷ []) (omega arith, (omega arith, tt));
              differ = ((refl, tt), (tt, tt));
              joined = λ e. absurd cc;
            },
            (
              record {
                point = at-mate;
                some = omega arith;
                fits = omega arith;
                within = All-from_recursion (λ (set : ℕ). set < 3) (2 ∷ []) (omega arith, tt);
                differ = (tt, tt);
                joined = λ e. absurd cc;
              },
              tt,
            ),
          ),
        );
        points_differ = ((refl, (other-than 3 (omega arith), tt)), ((other-than 4 (omega arith), tt), (tt, tt)));
        adjacent_points_led = pair-led;
        title_count = omega arith;
        titles = All-from_recursion IsTitle [] tt;
        titles_differ = tt;
      }

-- ---- one that they transfer for

module _ (own other : ℕ) (fits : own < 2 ^ 14) (other_fits : other < 2 ^ 14) (apart : other ≢ own) (high : 3 ≤ own) (other_high : 3 ≤ other) where
  abbrev end : Configuration
  end = end_settings own other

  other-than_it : (point : ℕ) → point < 3 → nat_eq point other ≡ false
  other-than_it point l = grind (arith, nat_tests, other_high, l)

  end-led : (set : ℕ) (s : SetEntry) → slice_get end.sets set ≡ Some s → IsTrue (list_any (is_led_first s.adjacent set) end.destinations)
  end-led zero s e =
      subst (λ (x : SetEntry). IsTrue (list_any (is_led_first x.adjacent 0) end.destinations)) (let is : record { name = 97 ∷ []; adjacent = 1 } ≡ s = cc in is) refl
  end-led (suc zero) s e =
      subst (λ (x : SetEntry). IsTrue (list_any (is_led_first x.adjacent 1) end.destinations)) (let is : record { name = 98 ∷ []; adjacent = 2 } ≡ s = cc in is) refl
  end-led (suc (suc set)) s e = absurd cc

  at-one : IsFarPoint own 1
  at-one = record { fits = omega arith; far = λ e. absurd (omega (arith, high, e)) }

  at-two : IsFarPoint own 2
  at-two = record { fits = omega arith; far = λ e. absurd (omega (arith, high, e)) }

  end-well : IsWell end
  unfolding IsDistinct
  end-well =
      let nine : IsWithin 1 TICKS 9 = within 1 TICKS 9 (omega arith) (omega arith) in
      let one : IsWithin 1 TICKS 1 = within 1 TICKS 1 (omega arith) (omega arith) in
      let long : IsWithin 1 TICKS 99 = within 1 TICKS 99 (omega arith) (omega arith) in
      record {
        own = fits;
        network = omega arith;
        window = within 1 WINDOW 8 (omega arith) (omega arith);
        pool = within 1 POOL 10 (omega arith) (omega arith);
        users = All-from_recursion (IsWithin 4 15) (5 ∷ []) (within 4 15 5 (omega arith) (omega arith), tt);
        users_differ = (tt, tt);
        subsystems = All-from_recursion (IsWithin 1 255) [] tt;
        subsystems_differ = tt;
        timers = All-from_recursion (IsWithin 1 TICKS) (all_ticks ticks) (nine, (nine, (nine, (one, (nine, (nine, (nine, (nine, (nine, (nine, (nine, (nine, (nine, (long, tt))))))))))))));
        bar = omega arith;
        set_count = within 1 SETS 2 (omega arith) (omega arith);
        sets = All-from_recursion (IsSet own) end.sets (record { name = refl; adjacent = at-one }, (record { name = refl; adjacent = at-two }, tt));
        set_names_differ = ((refl, tt), (tt, tt));
        adjacent_points_differ = ((refl, tt), (tt, tt));
        link_count = within 1 LINKS 2 (omega arith) (omega arith);
        links = All-from_recursion (IsLink 2) end.links (
          record { name = refl; set = omega arith; slc = omega arith; share = tt },
          (record { name = refl; set = omega arith; slc = omega arith; share = tt }, tt),
        );
        link_names_differ = ((refl, tt), (tt, tt));
        link_codes_differ = ((refl, tt), (tt, tt));
        links_of_a_set = λ set. let few = count_by-le-length (λ (l : LinkEntry). nat_eq l.set set) end.links in omega (arith, few);
        destination_count = within 1 DESTINATIONS 3 (omega arith) (omega arith);
        destinations = All-from_recursion (IsDestination own 2) end.destinations (
          record {
            point = at-one;
            some = omega arith;
            fits = omega arith;
            within = All-from_recursion (λ (set : ℕ). set < 2) (0 ∷ 1 ∷ []) (omega arith, (omega arith, tt));
            differ = ((refl, tt), (tt, tt));
            joined = λ e. absurd cc;
          },
          (
            record {
              point = at-two;
              some = omega arith;
              fits = omega arith;
              within = All-from_recursion (λ (set : ℕ). set < 2) (1 ∷ 0 ∷ []) (omega arith, (omega arith, tt));
              differ = ((refl, tt), (tt, tt));
              joined = λ e. absurd cc;
            },
            (
              record {
                point = record { fits = other_fits; far = apart };
                some = omega arith;
                fits = omega arith;
                within = All-from_recursion (λ (set : ℕ). set < 2) (0 ∷ 1 ∷ []) (omega arith, (omega arith, tt));
                differ = ((refl, tt), (tt, tt));
                joined = λ e. omega arith;
              },
              tt,
            ),
          ),
        );
        points_differ = ((refl, (other-than_it 1 (omega arith), tt)), ((other-than_it 2 (omega arith), tt), (tt, tt)));
        adjacent_points_led = end-led;
        title_count = omega arith;
        titles = All-from_recursion IsTitle [] tt;
        titles_differ = tt;
      }

-- ---- the network

-- what holds of the four nodes holds of each
pub of-four : (P : ℕ → Type 0) → P 1 → P 2 → P 3 → P 4 → (point : ℕ) → IsNode mated point → P point
of-four P a b c d point its = by (nat_eq point 1) (nat_eq point 2) (nat_eq point 3) (nat_eq point 4) refl refl refl refl its
  where
    none : (b : Bool) → (b && false) ≡ true → P point
    none true e = absurd cc
    none false e = absurd cc

    by : (one two three four : Bool) → nat_eq point 1 ≡ one → nat_eq point 2 ≡ two → nat_eq point 3 ≡ three → nat_eq point 4 ≡ four
        → (nat_lt point points && nat_lt 0 (length (if one then transfer_settings 1 2 else if two then transfer_settings 2 1 else if three then end_settings 3 4 else if four then end_settings 4 3 else without_links point).links)) ≡ true → P point
    by true two three four e f g h i = subst P (sym (eqb-true point 1 e)) a
    by false true three four e f g h i = subst P (sym (eqb-true point 2 f)) b
    by false false true four e f g h i = subst P (sym (eqb-true point 3 g)) c
    by false false false true e f g h i = subst P (sym (eqb-true point 4 h)) d
    by false false false false e f g h i = none (nat_lt point points) i

pair-joined : (own : ℕ) → is_some (other_end mated own 0) ≡ true → is_some (other_end mated own 1) ≡ true → is_some (other_end mated own 2) ≡ true → (link : ℕ) → link < 3
    → is_some (other_end mated own link) ≡ true
pair-joined own a b c zero l = a
pair-joined own a b c (suc zero) l = b
pair-joined own a b c (suc (suc zero)) l = c
pair-joined own a b c (suc (suc (suc link))) l = absurd (omega (arith, l))

end-joined : (own : ℕ) → is_some (other_end mated own 0) ≡ true → is_some (other_end mated own 1) ≡ true → (link : ℕ) → link < 2 → is_some (other_end mated own link) ≡ true
end-joined own a b zero l = a
end-joined own a b (suc zero) l = b
end-joined own a b (suc (suc link)) l = absurd (omega (arith, l))

pub mated-theirs : AreTheirs mated
mated-theirs = record {
  own = of-four (λ point. (mated point).own ≡ point) refl refl refl refl;
  well = of-four (λ point. IsWell (mated point))
      (pair-well 1 2 (omega arith) (omega arith) (λ e. absurd (omega (arith, e))) (omega arith) (omega arith))
      (pair-well 2 1 (omega arith) (omega arith) (λ e. absurd (omega (arith, e))) (omega arith) (omega arith))
      (end-well 3 4 (omega arith) (omega arith) (λ e. absurd (omega (arith, e))) (omega arith) (omega arith))
      (end-well 4 3 (omega arith) (omega arith) (λ e. absurd (omega (arith, e))) (omega arith) (omega arith));
  joined = λ point link its.
      of-four (λ point. (link : ℕ) → link < length (mated point).links → is_some (other_end mated point link) ≡ true) (pair-joined 1 refl refl refl) (pair-joined 2 refl refl refl)
      (end-joined 3 refl refl) (end-joined 4 refl refl) point its link;
}
