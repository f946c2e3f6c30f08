-- The settings of three nodes in a row keep every limit, and each two neighbours share a set.
use Rattle.pair_rules.proofs.Basics.{◌≡◌, ◌≢◌, ◌≤◌, ◌<◌, ◌^◌, ◌⊎◌, inl, inr, ◌||◌, ⊎_elim, length, count_by, ℕ, zero, suc, Bool, true, false, [], ◌∷◌, Some, refl, sym, subst, arith, nat_eq, IsTrue, slice_get, IsDistinct, list_any, if◌then◌else◌, All-from_recursion}
use Rattle.pair_rules.proofs.Definitions.{Configuration, SetEntry, LinkEntry, LINKS, SETS, DESTINATIONS, POOL, WINDOW, TICKS, IsLink, IsSet, IsDestination, IsTitle, IsWell, IsWithin, all_ticks, is_led_first}
use Rattle.std.proofs.lemmas.List.Sums.{count_by-le-length}
use Rattle.exchange_rules.proofs.Basics.{eqb-true}
use Rattle.exchange_rules.specs.Routing.{peer_of}
use Rattle.pair_rules.specs.OneEndFirst.{ticks}
use Rattle.pair_rules.specs.Sharing.{AreSharing}
use Rattle.network_rules.specs.Pairs.{AreTheirPoints, AreWellOrAlone}
use Rattle.network_rules.specs.Totals.{IsJoined, is_listed}
use Rattle.network_rules.specs.TwoFailures.{end_settings, middle_settings, no_settings, row}

within : (low high n : ℕ) → low ≤ n → n ≤ high → IsWithin low high n
within low high n a b = record { above = a; below = b }

-- ---- at an end

module _ (own other : ℕ) where
  abbrev c : Configuration
  c = end_settings own other

  led : (set : ℕ) (s : SetEntry) → slice_get c.sets set ≡ Some s → IsTrue (list_any (is_led_first s.adjacent set) c.destinations)
  led zero s e =
      subst (λ (x : SetEntry). IsTrue (list_any (is_led_first x.adjacent 0) c.destinations)) (let same : record { name = 97 ∷ []; adjacent = 1 } ≡ s = cc in same) refl
  led (suc set) s e = absurd cc

  end-well : own < 2 ^ 14 → other < 2 ^ 14 → 1 ≢ own → other ≢ own → nat_eq 1 other ≡ false → IsWell c
  unfolding IsDistinct
  end-well fits reached beside away differ =
      let nine : IsWithin 1 TICKS 9 = within 1 TICKS 9 (omega arith) (omega arith) in
      let one : IsWithin 1 TICKS 1 = within 1 TICKS 1 (omega arith) (omega arith) in
      record {
        own = fits;
        network = omega arith;
        window = within 1 WINDOW 8 (omega arith) (omega arith);
        pool = within 1 POOL 10 (omega arith) (omega arith);
        users = All-from_recursion (IsWithin 4 15) (5 ∷ []) (within 4 15 5 (omega arith) (omega arith), tt);
        users_differ = (tt, tt);
        subsystems = All-from_recursion (IsWithin 1 255) [] tt;
        subsystems_differ = tt;
        timers = All-from_recursion (IsWithin 1 TICKS) (all_ticks ticks) (nine, (nine, (nine, (one, (nine, (nine, (nine, (nine, (nine, (nine, (nine, (nine, (nine, tt)))))))))))));
        bar = tt;
        set_count = within 1 SETS 1 (omega arith) (omega arith);
        sets = All-from_recursion (IsSet own) c.sets (record { name = refl; adjacent = record { fits = omega arith; far = beside } }, tt);
        set_names_differ = (tt, tt);
        adjacent_points_differ = (tt, tt);
        link_count = within 1 LINKS 2 (omega arith) (omega arith);
        links = All-from_recursion (IsLink 1) c.links (record { name = refl; set = omega arith; slc = omega arith; share = tt }, (record { name = refl; set = omega arith; slc = omega arith; share = tt }, tt));
        link_names_differ = ((refl, tt), (tt, tt));
        link_codes_differ = ((refl, tt), (tt, tt));
        links_of_a_set = λ set. let few = count_by-le-length (λ (l : LinkEntry). nat_eq l.set set) c.links in omega (arith, few);
        destination_count = within 1 DESTINATIONS 2 (omega arith) (omega arith);
        destinations = All-from_recursion (IsDestination own 1) c.destinations (
          record {
            point = record { fits = omega arith; far = beside };
            some = omega arith;
            fits = omega arith;
            within = All-from_recursion (λ (set : ℕ). set < 1) (0 ∷ []) (omega arith, tt);
            differ = (tt, tt);
            joined = λ e. absurd cc;
          },
          (
            record {
              point = record { fits = reached; far = away };
              some = omega arith;
              fits = omega arith;
              within = All-from_recursion (λ (set : ℕ). set < 1) (0 ∷ []) (omega arith, tt);
              differ = (tt, tt);
              joined = λ e. absurd cc;
            },
            tt,
          ),
        );
        points_differ = ((differ, tt), (tt, tt));
        adjacent_points_led = led;
        title_count = omega arith;
        titles = All-from_recursion IsTitle [] tt;
        titles_differ = tt;
      }

second-well : IsWell (end_settings 2 3)
second-well = end-well 2 3 (omega arith) (omega arith) (λ e. absurd (omega (arith, e))) (λ e. absurd (omega (arith, e))) refl

third-well : IsWell (end_settings 3 2)
third-well = end-well 3 2 (omega arith) (omega arith) (λ e. absurd (omega (arith, e))) (λ e. absurd (omega (arith, e))) refl

-- ---- in the middle

led-on : (set : ℕ) (s : SetEntry) → slice_get middle_settings.sets set ≡ Some s → IsTrue (list_any (is_led_first s.adjacent set) middle_settings.destinations)
led-on zero s e =
    subst (λ (x : SetEntry). IsTrue (list_any (is_led_first x.adjacent 0) middle_settings.destinations)) (let same : record { name = 97 ∷ []; adjacent = 3 } ≡ s = cc in same) refl
led-on (suc zero) s e =
    subst (λ (x : SetEntry). IsTrue (list_any (is_led_first x.adjacent 1) middle_settings.destinations)) (let same : record { name = 98 ∷ []; adjacent = 2 } ≡ s = cc in same) refl
led-on (suc (suc set)) s e = absurd cc

middle-well : IsWell middle_settings
unfolding IsDistinct
middle-well =
    let nine : IsWithin 1 TICKS 9 = within 1 TICKS 9 (omega arith) (omega arith) in
    let one : IsWithin 1 TICKS 1 = within 1 TICKS 1 (omega arith) (omega arith) in
    record {
      own = omega arith;
      network = omega arith;
      window = within 1 WINDOW 8 (omega arith) (omega arith);
      pool = within 1 POOL 10 (omega arith) (omega arith);
      users = All-from_recursion (IsWithin 4 15) (5 ∷ []) (within 4 15 5 (omega arith) (omega arith), tt);
      users_differ = (tt, tt);
      subsystems = All-from_recursion (IsWithin 1 255) [] tt;
      subsystems_differ = tt;
      timers = All-from_recursion (IsWithin 1 TICKS) (all_ticks ticks) (nine, (nine, (nine, (one, (nine, (nine, (nine, (nine, (nine, (nine, (nine, (nine, (nine, tt)))))))))))));
      bar = tt;
      set_count = within 1 SETS 2 (omega arith) (omega arith);
      sets = All-from_recursion (IsSet 1) middle_settings.sets (
        record { name = refl; adjacent = record { fits = omega arith; far = λ e. absurd (omega (arith, e)) } },
        (record { name = refl; adjacent = record { fits = omega arith; far = λ e. absurd (omega (arith, e)) } }, tt),
      );
      set_names_differ = ((refl, tt), (tt, tt));
      adjacent_points_differ = ((refl, tt), (tt, tt));
      link_count = within 1 LINKS 4 (omega arith) (omega arith);
      links = All-from_recursion (IsLink 2) middle_settings.links (
        record { name = refl; set = omega arith; slc = omega arith; share = tt },
        (
          record { name = refl; set = omega arith; slc = omega arith; share = tt },
          (record { name = refl; set = omega arith; slc = omega arith; share = tt }, (record { name = refl; set = omega arith; slc = omega arith; share = tt }, tt)),
        ),
      );
      link_names_differ = ((refl, (refl, (refl, tt))), ((refl, (refl, tt)), ((refl, tt), (tt, tt))));
      link_codes_differ = ((refl, (refl, (refl, tt))), ((refl, (refl, tt)), ((refl, tt), (tt, tt))));
      links_of_a_set = λ set. let few = count_by-le-length (λ (l : LinkEntry). nat_eq l.set set) middle_settings.links in omega (arith, few);
      destination_count = within 1 DESTINATIONS 2 (omega arith) (omega arith);
      destinations = All-from_recursion (IsDestination 1 2) middle_settings.destinations (
        record {
          point = record { fits = omega arith; far = λ e. absurd (omega (arith, e)) };
          some = omega arith;
          fits = omega arith;
          within = All-from_recursion (λ (set : ℕ). set < 2) (0 ∷ []) (omega arith, tt);
          differ = (tt, tt);
          joined = λ e. absurd cc;
        },
        (
          record {
            point = record { fits = omega arith; far = λ e. absurd (omega (arith, e)) };
            some = omega arith;
            fits = omega arith;
            within = All-from_recursion (λ (set : ℕ). set < 2) (1 ∷ []) (omega arith, tt);
            differ = (tt, tt);
            joined = λ e. absurd cc;
          },
          tt,
        ),
      );
      points_differ = ((refl, tt), (tt, tt));
      adjacent_points_led = led-on;
      title_count = omega arith;
      titles = All-from_recursion IsTitle [] tt;
      titles_differ = tt;
    }

-- ---- each two neighbours

pub first-sharing : AreSharing middle_settings (end_settings 3 2)
first-sharing = record {
  near_well = middle-well;
  far_well = third-well;
  shares = record {
    near_set = 0;
    far_set = 0;
    near_leads = record { adjacent = refl; only = refl };
    far_leads = record { adjacent = refl; only = refl };
    network = refl;
    codes = λ slc. refl;
  };
}

pub second-sharing : AreSharing middle_settings (end_settings 2 3)
second-sharing = record {
  near_well = middle-well;
  far_well = second-well;
  shares = record {
    near_set = 1;
    far_set = 0;
    near_leads = record { adjacent = refl; only = refl };
    far_leads = record { adjacent = refl; only = refl };
    network = refl;
    codes = λ slc. refl;
  };
}

-- ---- at every point

own-by : (one two three : Bool) (point : ℕ) → nat_eq point 1 ≡ one → nat_eq point 2 ≡ two → nat_eq point 3 ≡ three
    → (if one then middle_settings else if two then end_settings 2 3 else if three then end_settings 3 2 else no_settings point).own ≡ point
own-by true two three point e f g = sym (eqb-true point 1 e)
own-by false true three point e f g = sym (eqb-true point 2 f)
own-by false false true point e f g = sym (eqb-true point 3 g)
own-by false false false point e f g = refl

well-by : (one two three : Bool) (point : ℕ)
    → IsWell (if one then middle_settings else if two then end_settings 2 3 else if three then end_settings 3 2 else no_settings point)
    ⊎ ((if one then middle_settings else if two then end_settings 2 3 else if three then end_settings 3 2 else no_settings point).links ≡ [])
well-by true two three point = inl middle-well
well-by false true three point = inl second-well
well-by false false true point = inl third-well
well-by false false false point = inr refl

pub points : AreTheirPoints row
points = λ point. own-by (nat_eq point 1) (nat_eq point 2) (nat_eq point 3) point refl refl refl

pub well : AreWellOrAlone row
well = λ point. well-by (nat_eq point 1) (nat_eq point 2) (nat_eq point 3) point

-- ---- of the whole

listed-by : (one two three : Bool) (point : ℕ) → nat_eq point 1 ≡ one → nat_eq point 2 ≡ two → nat_eq point 3 ≡ three → (one || (two || (three || false))) ≡ true
    → (point ≡ 1) ⊎ ((point ≡ 2) ⊎ (point ≡ 3))
listed-by true two three point e f g its = inl (eqb-true point 1 e)
listed-by false true three point e f g its = inr (inl (eqb-true point 2 f))
listed-by false false true point e f g its = inr (inr (eqb-true point 3 g))
listed-by false false false point e f g its = absurd cc

-- what holds of the three
pub of-three : (P : ℕ → Type 0) → P 1 → P 2 → P 3 → (point : ℕ) → is_listed (1 ∷ 2 ∷ 3 ∷ []) point ≡ true → P point
of-three P a b c point its =
    ⊎_elim (λ (e : point ≡ 1). subst P (sym e) a)
    (λ (rest : (point ≡ 2) ⊎ (point ≡ 3)). ⊎_elim (λ (e : point ≡ 2). subst P (sym e) b) (λ (e : point ≡ 3). subst P (sym e) c) rest)
    (listed-by (nat_eq point 1) (nat_eq point 2) (nat_eq point 3) point refl refl refl its)

alone-by : (one two three : Bool) (point : ℕ) → (one || (two || (three || false))) ≡ false
    → (if one then middle_settings else if two then end_settings 2 3 else if three then end_settings 3 2 else no_settings point).links ≡ []
alone-by true two three point e = absurd cc
alone-by false true three point e = absurd cc
alone-by false false true point e = absurd cc
alone-by false false false point e = refl

pub back : (c z : Configuration) → AreSharing c z → AreSharing z c
back c z s = record {
  near_well = s.far_well;
  far_well = s.near_well;
  shares = record {
    near_set = s.shares.far_set;
    far_set = s.shares.near_set;
    near_leads = s.shares.far_leads;
    far_leads = s.shares.near_leads;
    network = sym s.shares.network;
    codes = λ slc. sym (s.shares.codes slc);
  };
}

-- each link leads to a point that shares its set
near-shares : (link : ℕ) → link < 4 → AreSharing middle_settings (row (peer_of middle_settings link))
near-shares zero less = first-sharing
near-shares (suc zero) less = first-sharing
near-shares (suc (suc zero)) less = second-sharing
near-shares (suc (suc (suc zero))) less = second-sharing
near-shares (suc (suc (suc (suc link)))) less = absurd (omega (arith, less))

end-shares : (own other : ℕ) → AreSharing middle_settings (end_settings own other) → (link : ℕ) → link < 2 → AreSharing (end_settings own other) (row (peer_of (end_settings own other) link))
end-shares own other s zero less = back middle_settings (end_settings own other) s
end-shares own other s (suc zero) less = back middle_settings (end_settings own other) s
end-shares own other s (suc (suc link)) less = absurd (omega (arith, less))

shares-by : (one two three : Bool) (point link : ℕ)
    → link < length (if one then middle_settings else if two then end_settings 2 3 else if three then end_settings 3 2 else no_settings point).links
    → AreSharing (if one then middle_settings else if two then end_settings 2 3 else if three then end_settings 3 2 else no_settings point)
    (row (peer_of (if one then middle_settings else if two then end_settings 2 3 else if three then end_settings 3 2 else no_settings point) link))
shares-by true two three point link less = near-shares link less
shares-by false true three point link less = end-shares 2 3 second-sharing link less
shares-by false false true point link less = end-shares 3 2 first-sharing link less
shares-by false false false point link less = absurd (omega (arith, less))

pub joined : IsJoined row (1 ∷ 2 ∷ 3 ∷ [])
joined = record {
  placed = record {
    own = points;
    once = of-three (λ point. count_by (nat_eq point) (1 ∷ 2 ∷ 3 ∷ []) ≡ 1) refl refl refl;
    well = of-three (λ point. IsWell (row point)) middle-well second-well third-well;
    others = λ point e. alone-by (nat_eq point 1) (nat_eq point 2) (nat_eq point 3) point e;
  };
  shared = λ point link less. shares-by (nat_eq point 1) (nat_eq point 2) (nat_eq point 3) point link less;
}
