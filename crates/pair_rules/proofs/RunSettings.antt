-- The settings of the run keep every limit, and face each other.
use Rattle.pair_rules.proofs.Basics.{◌≡◌, ◌≢◌, ◌≤◌, ◌<◌, ◌^◌, ◌&&◌, ◌||◌, ℕ, zero, suc, Bool, true, false, List, [], ◌∷◌, refl, ap, subst, arith, nat_eq, Some, IsTrue, slice_get, IsDistinct, list_any, nat_tests, All-from_recursion}
use Rattle.pair_rules.proofs.Definitions.{SetEntry, LinkEntry, DestinationEntry, LINKS, SETS, DESTINATIONS, POOL, WINDOW, TICKS, IsLink, IsSet, IsDestination, IsTitle, IsWell, IsWithin, all_ticks, is_led_first, AreJoined}
use Rattle.std.proofs.lemmas.List.Sums.{count_by-le-length}
use Rattle.pair_rules.specs.OneEndFirst.{far_settings, near_settings, settings_of, ticks}

within : (low high n : ℕ) → low ≤ n → n ≤ high → IsWithin low high n
within low high n a b = record { above = a; below = b }

same-number : (n : ℕ) → nat_eq n n ≡ true
same-number n = grind (arith, nat_tests)

module _ (own adjacent : ℕ) where
  abbrev sets : List SetEntry
  sets = (settings_of own adjacent).sets

  abbrev links : List LinkEntry
  links = (settings_of own adjacent).links

  abbrev destinations : List DestinationEntry
  destinations = (settings_of own adjacent).destinations

  led-here : IsTrue (list_any (is_led_first adjacent 0) destinations)
  led-here = ap (λ (b : Bool). (b && true) || false) (same-number adjacent)

  led : (set : ℕ) (s : SetEntry) → slice_get sets set ≡ Some s → IsTrue (list_any (is_led_first s.adjacent set) destinations)
  led zero s e = subst (λ (x : SetEntry). IsTrue (list_any (is_led_first x.adjacent 0) destinations)) (let same : record { name = 97 ∷ []; adjacent = adjacent } ≡ s = cc in same) led-here
  led (suc set) s e = absurd cc

  well : own < 2 ^ 14 → adjacent < 2 ^ 14 → adjacent ≢ own → IsWell (settings_of own adjacent)
  unfolding IsDistinct
  well fits there far =
      let nine : IsWithin 1 TICKS 9 = within 1 TICKS 9 (omega arith) (omega arith) in
      let one : IsWithin 1 TICKS 1 = within 1 TICKS 1 (omega arith) (omega arith) in
      record {
        own = fits;
        network = omega arith;
        window = within 1 WINDOW 8 (omega arith) (omega arith);
        pool = within 1 POOL 10 (omega arith) (omega arith);
        users = All-from_recursion (IsWithin 4 15) (5 ∷ []) (within 4 15 5 (omega arith) (omega arith), tt);
        users_differ = (tt, tt);
        subsystems = All-from_recursion (IsWithin 1 255) [] tt;
        subsystems_differ = tt;
        timers = All-from_recursion (IsWithin 1 TICKS) (all_ticks ticks) (nine, (nine, (nine, (one, (nine, (nine, (nine, (nine, (nine, (nine, (nine, (nine, (nine, tt)))))))))))));
        bar = tt;
        set_count = within 1 SETS 1 (omega arith) (omega arith);
        sets = All-from_recursion (IsSet own) sets (record { name = refl; adjacent = record { fits = there; far = far } }, tt);
        set_names_differ = (tt, tt);
        adjacent_points_differ = (tt, tt);
        link_count = within 1 LINKS 2 (omega arith) (omega arith);
        links = All-from_recursion (IsLink 1) links (record { name = refl; set = omega arith; slc = omega arith; share = tt }, (record { name = refl; set = omega arith; slc = omega arith; share = tt }, tt));
        link_names_differ = ((refl, tt), (tt, tt));
        link_codes_differ = ((refl, tt), (tt, tt));
        links_of_a_set = λ set. let few = count_by-le-length (λ (l : LinkEntry). nat_eq l.set set) links in omega (arith, few);
        destination_count = within 1 DESTINATIONS 1 (omega arith) (omega arith);
        destinations = All-from_recursion (IsDestination own 1) destinations (
          record {
            point = record { fits = there; far = far };
            some = omega arith;
            fits = omega arith;
            within = All-from_recursion (λ (set : ℕ). set < 1) (0 ∷ []) (omega arith, tt);
            differ = (tt, tt);
            joined = λ e. absurd cc;
          },
          tt,
        );
        points_differ = (tt, tt);
        adjacent_points_led = led;
        title_count = omega arith;
        titles = All-from_recursion IsTitle [] tt;
        titles_differ = tt;
      }

pub joined : AreJoined near_settings far_settings
joined = record {
  near_well = well 1 2 (omega arith) (omega arith) (λ e. absurd (omega (arith, e)));
  far_well = well 2 1 (omega arith) (omega arith) (λ e. absurd (omega (arith, e)));
  facing = record {
    near_leads = record { adjacent = refl; destination = refl };
    far_leads = record { adjacent = refl; destination = refl };
    network = refl;
    codes = refl;
  };
}
