-- The settings of two points of which the one has a set that leads out keep every limit, and each link that leads to a node has
-- its other end there.
use Rattle.node_moves.proofs.Basics.{◌≡◌, ◌≢◌, ◌≤◌, ◌<◌, ◌^◌, ◌&&◌, if◌then◌else◌, ℕ, zero, suc, Bool, true, false, length, [], ◌∷◌, Some, is_some, refl, sym, subst, arith, nat_eq, nat_lt, slice_get, eqb-true}
use Rattle.node_moves.proofs.Definitions.{SetEntry, LinkEntry, IsLink, IsSet, IsWell, peer_of}
use Rattle.node_moves.specs.MatedPair.{ticks, without_links}
use Rattle.node_moves.specs.Networks.{IsNode, points, other_end}
use Rattle.node_moves.specs.Outside.{ArePlaced}
use Rattle.node_moves.specs.OutsideRun.{beside, far_settings, near_settings}
use Rattle.settings.specs.Well.{IsDestination, IsTitle, IsWithin, IsFarPoint, all_ticks, is_led_first}
use Rattle.signalling_types.specs.declared.limits.TheConstants.Limits.{LINKS, SETS, DESTINATIONS, POOL, TICKS, WINDOW}
use Rattle.std.specs.Prelude.{IsTrue}
use Rattle.std.specs.List.{list_any}
unfoldable use Rattle.std.specs.List.{IsDistinct}
use Rattle.std.proofs.lemmas.List.Elements.{All-from_recursion}
use Rattle.std.proofs.lemmas.List.Sums.{count_by-le-length}

within : (low high n : ℕ) → low ≤ n → n ≤ high → IsWithin low high n
within low high n a b = record { above = a; below = b }

far-point : (own point : ℕ) → point < 2 ^ 14 → point ≢ own → IsFarPoint own point
far-point own point fits far = record { fits = fits; far = far }

near-led : (set : ℕ) (s : SetEntry) → slice_get near_settings.sets set ≡ Some s → IsTrue (list_any (is_led_first s.adjacent set) near_settings.destinations)
near-led zero s e =
    subst (λ (x : SetEntry). IsTrue (list_any (is_led_first x.adjacent 0) near_settings.destinations)) (let is : record { name = 97 ∷ []; adjacent = 3 } ≡ s = cc in is) refl
near-led (suc zero) s e =
    subst (λ (x : SetEntry). IsTrue (list_any (is_led_first x.adjacent 1) near_settings.destinations)) (let is : record { name = 99 ∷ []; adjacent = 2 } ≡ s = cc in is) refl
near-led (suc (suc set)) s e = absurd cc

far-led : (set : ℕ) (s : SetEntry) → slice_get far_settings.sets set ≡ Some s → IsTrue (list_any (is_led_first s.adjacent set) far_settings.destinations)
far-led zero s e =
    subst (λ (x : SetEntry). IsTrue (list_any (is_led_first x.adjacent 0) far_settings.destinations)) (let is : record { name = 99 ∷ []; adjacent = 1 } ≡ s = cc in is) refl
far-led (suc set) s e = absurd cc

near-well : IsWell near_settings
unfolding IsDistinct
near-well =
    let nine : IsWithin 1 TICKS 9 = within 1 TICKS 9 (omega arith) (omega arith) in
    let one : IsWithin 1 TICKS 1 = within 1 TICKS 1 (omega arith) (omega arith) in
    let long : IsWithin 1 TICKS 99 = within 1 TICKS 99 (omega arith) (omega arith) in
    let three : IsFarPoint 1 3 = far-point 1 3 (omega arith) (λ e. absurd (omega (arith, e))) in
    let two : IsFarPoint 1 2 = far-point 1 2 (omega arith) (λ e. absurd (omega (arith, e))) in
    record {
      own = omega arith;
      network = omega arith;
      window = within 1 WINDOW 8 (omega arith) (omega arith);
      pool = within 1 POOL 10 (omega arith) (omega arith);
      users = All-from_recursion (IsWithin 4 15) (5 ∷ []) (within 4 15 5 (omega arith) (omega arith), tt);
      users_differ = (tt, tt);
      subsystems = All-from_recursion (IsWithin 1 255) [] tt;
      subsystems_differ = tt;
      timers = All-from_recursion (IsWithin 1 TICKS) (all_ticks ticks) (nine, (nine, (nine, (one, (nine, (nine, (nine, (nine, (nine, (nine, (nine, (nine, (nine, (long, tt))))))))))))));
      bar = omega arith;
      set_count = within 1 SETS 2 (omega arith) (omega arith);
      sets = All-from_recursion (IsSet 1) near_settings.sets (record { name = refl; adjacent = three }, (record { name = refl; adjacent = two }, tt));
      set_names_differ = ((refl, tt), (tt, tt));
      adjacent_points_differ = ((refl, tt), (tt, tt));
      link_count = within 1 LINKS 3 (omega arith) (omega arith);
      links = All-from_recursion (IsLink 2) near_settings.links (
        record { name = refl; set = omega arith; slc = omega arith; share = tt },
        (record { name = refl; set = omega arith; slc = omega arith; share = tt }, (record { name = refl; set = omega arith; slc = omega arith; share = tt }, tt)),
      );
      link_names_differ = ((refl, (refl, tt)), ((refl, tt), (tt, tt)));
      link_codes_differ = ((refl, (refl, tt)), ((refl, tt), (tt, tt)));
      links_of_a_set = λ set. let few = count_by-le-length (λ (l : LinkEntry). nat_eq l.set set) near_settings.links in omega (arith, few);
      destination_count = within 1 DESTINATIONS 2 (omega arith) (omega arith);
      destinations = All-from_recursion (IsDestination 1 2) near_settings.destinations (
        record {
          point = three;
          some = omega arith;
          fits = omega arith;
          within = All-from_recursion (λ (set : ℕ). set < 2) (0 ∷ []) (omega arith, tt);
          differ = (tt, tt);
          joined = λ e. absurd cc;
        },
        (
          record {
            point = two;
            some = omega arith;
            fits = omega arith;
            within = All-from_recursion (λ (set : ℕ). set < 2) (1 ∷ []) (omega arith, tt);
            differ = (tt, tt);
            joined = λ e. absurd cc;
          },
          tt,
        ),
      );
      points_differ = ((refl, tt), (tt, tt));
      adjacent_points_led = near-led;
      title_count = omega arith;
      titles = All-from_recursion IsTitle [] tt;
      titles_differ = tt;
    }

far-well : IsWell far_settings
unfolding IsDistinct
far-well =
    let nine : IsWithin 1 TICKS 9 = within 1 TICKS 9 (omega arith) (omega arith) in
    let one : IsWithin 1 TICKS 1 = within 1 TICKS 1 (omega arith) (omega arith) in
    let long : IsWithin 1 TICKS 99 = within 1 TICKS 99 (omega arith) (omega arith) in
    let first : IsFarPoint 2 1 = far-point 2 1 (omega arith) (λ e. absurd (omega (arith, e))) in
    record {
      own = omega arith;
      network = omega arith;
      window = within 1 WINDOW 8 (omega arith) (omega arith);
      pool = within 1 POOL 10 (omega arith) (omega arith);
      users = All-from_recursion (IsWithin 4 15) (5 ∷ []) (within 4 15 5 (omega arith) (omega arith), tt);
      users_differ = (tt, tt);
      subsystems = All-from_recursion (IsWithin 1 255) [] tt;
      subsystems_differ = tt;
      timers = All-from_recursion (IsWithin 1 TICKS) (all_ticks ticks) (nine, (nine, (nine, (one, (nine, (nine, (nine, (nine, (nine, (nine, (nine, (nine, (nine, (long, tt))))))))))))));
      bar = omega arith;
      set_count = within 1 SETS 1 (omega arith) (omega arith);
      sets = All-from_recursion (IsSet 2) far_settings.sets (record { name = refl; adjacent = first }, tt);
      set_names_differ = (tt, tt);
      adjacent_points_differ = (tt, tt);
      link_count = within 1 LINKS 1 (omega arith) (omega arith);
      links = All-from_recursion (IsLink 1) far_settings.links (record { name = refl; set = omega arith; slc = omega arith; share = tt }, tt);
      link_names_differ = (tt, tt);
      link_codes_differ = (tt, tt);
      links_of_a_set = λ set. let few = count_by-le-length (λ (l : LinkEntry). nat_eq l.set set) far_settings.links in omega (arith, few);
      destination_count = within 1 DESTINATIONS 1 (omega arith) (omega arith);
      destinations = All-from_recursion (IsDestination 2 1) far_settings.destinations (
        record {
          point = first;
          some = omega arith;
          fits = omega arith;
          within = All-from_recursion (λ (set : ℕ). set < 1) (0 ∷ []) (omega arith, tt);
          differ = (tt, tt);
          joined = λ e. absurd cc;
        },
        tt,
      );
      points_differ = (tt, tt);
      adjacent_points_led = far-led;
      title_count = omega arith;
      titles = All-from_recursion IsTitle [] tt;
      titles_differ = tt;
    }

-- what holds of the two nodes holds of each
of-two : (P : ℕ → Type 0) → P 1 → P 2 → (point : ℕ) → IsNode beside point → P point
of-two P a b point its = by (nat_eq point 1) (nat_eq point 2) refl refl its
  where
    none : (b : Bool) → (b && false) ≡ true → P point
    none true e = absurd cc
    none false e = absurd cc

    by : (one two : Bool) → nat_eq point 1 ≡ one → nat_eq point 2 ≡ two
        → (nat_lt point points && nat_lt 0 (length (if one then near_settings else if two then far_settings else without_links point).links)) ≡ true → P point
    by true two e f i = subst P (sym (eqb-true point 1 e)) a
    by false true e f i = subst P (sym (eqb-true point 2 f)) b
    by false false e f i = none (nat_lt point points) i

near-joined : (link : ℕ) → link < 3 → IsNode beside (peer_of near_settings link) → is_some (other_end beside 1 link) ≡ true
near-joined zero l e = absurd cc
near-joined (suc zero) l e = absurd cc
near-joined (suc (suc zero)) l e = refl
near-joined (suc (suc (suc link))) l e = absurd (omega (arith, l))

far-joined : (link : ℕ) → link < 1 → IsNode beside (peer_of far_settings link) → is_some (other_end beside 2 link) ≡ true
far-joined zero l e = refl
far-joined (suc link) l e = absurd (omega (arith, l))

pub beside-placed : ArePlaced beside
beside-placed = record {
  own = of-two (λ point. (beside point).own ≡ point) refl refl;
  well = of-two (λ point. IsWell (beside point)) near-well far-well;
  joined = λ point link its l.
      of-two (λ point. (link : ℕ) → link < length (beside point).links → IsNode beside (peer_of (beside point) link) → is_some (other_end beside point link) ≡ true) near-joined far-joined point its link l;
}
