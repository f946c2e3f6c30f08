-- One more flow, and one more destination; the walk over all flows holds those that fail with the link.
use Rattle.exchange.proofs.Basics.{add-one, ◌≡◌, ◌<◌, ℕ, zero, suc, ◌+◌, Bool, true, false, ◌&&◌, ◌||◌, not, List, [], ◌∷◌, length, Option, Some, None, nat_eq, nat_lt, refl, ap, sym, ◌∙◌, arith, if◌then◌else◌, list_any, option_eq, nat_tests, Message, flow_of, is_management, Configuration, destination_place, Facts, chosen_link, Changeover, SELECTIONS, HoldSet, with_hold, may_parts, Adds, adds-none, adds-one, adds-more, adds-alike, added_flows, Parts, facts, goes_by, HasPlacesFor, is_of_flow, is_failed, suspended, with_flow, with_selections, with_destinations, with_flow_to, with_message, with_messages}

pub no_selections : (f : Facts) (link place : ℕ) (holds : HoldSet) → holds ≡ with_selections f link place 0 holds
unfolding with_selections
no_selections f link place holds = refl

pub more_selections : (f : Facts) (link place count : ℕ) (holds : HoldSet)
    → with_flow f link place count (with_selections f link place count holds) ≡ with_selections f link place (count + 1) holds
unfolding with_selections
more_selections f link place count holds = ap (λ (n : ℕ). with_selections f link place n holds) (sym (add-one count))

pub no_destinations : (f : Facts) (link : ℕ) (holds : HoldSet) → holds ≡ with_destinations f link 0 holds
unfolding with_destinations
no_destinations f link holds = refl

pub more_destinations : (f : Facts) (link count : ℕ) (holds : HoldSet)
    → with_selections f link count SELECTIONS (with_destinations f link count holds) ≡ with_destinations f link (count + 1) holds
unfolding with_destinations
more_destinations f link count holds = ap (λ (n : ℕ). with_destinations f link n holds) (sym (add-one count))

-- ---- the walk holds the flows that fail with the link

module _ (f : Facts) (link : ℕ) where
  abbrev goes : (destination sls : ℕ) → Bool
  goes destination sls = goes_by (chosen_link f destination sls) link

  at-flow : (destination sls d s : ℕ) (at b : Bool) → (nat_eq d destination && nat_eq s sls) ≡ at → goes destination sls ≡ b → (at && b) ≡ (at && goes d s)
  at-flow destination sls d s true b e is =
      let same_d : d ≡ destination = grind (arith, nat_tests, e) in
      let same_s : s ≡ sls = grind (arith, nat_tests, e) in
      sym is ∙ ap (λ (n : ℕ). goes n sls) (sym same_d) ∙ ap (λ (n : ℕ). goes d n) (sym same_s)
  at-flow destination sls d s false b e is = refl

  true-and : (b : Bool) → b ≡ (b && true)
  true-and true = refl
  true-and false = refl

  false-and : (b : Bool) → false ≡ (b && false)
  false-and true = refl
  false-and false = refl

  adds-if : (h : HoldSet) (destination sls : ℕ) (b : Bool) → goes destination sls ≡ b
      → Adds h (if b then with_hold h (Changeover link) destination sls else h) (Changeover link) (λ d s. (nat_eq d destination && nat_eq s sls) && goes d s)
  adds-if h destination sls true e =
      adds-alike h (with_hold h (Changeover link) destination sls) (Changeover link) (λ d s. nat_eq d destination && nat_eq s sls) (λ d s. (nat_eq d destination && nat_eq s sls) && goes d s)
      (λ d s may. true-and (nat_eq d destination && nat_eq s sls) ∙ at-flow destination sls d s (nat_eq d destination && nat_eq s sls) true refl e)
      (adds-one h (Changeover link) destination sls)
  adds-if h destination sls false e =
      adds-alike h h (Changeover link) (λ d s. false) (λ d s. (nat_eq d destination && nat_eq s sls) && goes d s)
      (λ d s may. false-and (nat_eq d destination && nat_eq s sls) ∙ at-flow destination sls d s (nat_eq d destination && nat_eq s sls) false refl e)
      (adds-none h (Changeover link))

  one-behind : (s count : ℕ) → (nat_lt s count || nat_eq s count) ≡ nat_lt s (suc count)
  one-behind s count = grind (arith, nat_tests)

  none-below : (n : ℕ) → false ≡ nat_lt n 0
  none-below n = grind (arith, nat_tests)

  selection-more : (a b d g : Bool) → ((a && (b && g)) || ((a && d) && g)) ≡ (a && ((b || d) && g))
  selection-more true true true g = or-same g
    where
      or-same : (g : Bool) → (g || g) ≡ g
      or-same true = refl
      or-same false = refl
  selection-more true true false true = refl
  selection-more true true false false = refl
  selection-more true false d g = refl
  selection-more false b d g = refl

  adds-selections : (h : HoldSet) (destination count : ℕ)
      → Adds h (with_selections f link destination count h) (Changeover link) (λ d s. nat_eq d destination && (nat_lt s count && goes d s))
  unfolding with_selections
  adds-selections h destination zero =
      adds-alike h h (Changeover link) (λ d s. false) (λ d s. nat_eq d destination && (nat_lt s 0 && goes d s)) (λ d s may. false-and (nat_eq d destination) ∙ ap (λ (b : Bool). nat_eq d destination && (b && goes d s)) (none-below s))
      (adds-none h (Changeover link))
  adds-selections h destination (suc count) =
      let k : HoldSet = with_selections f link destination count h in
      adds-alike h (with_flow f link destination count k) (Changeover link)
      (λ d s. (nat_eq d destination && (nat_lt s count && goes d s)) || ((nat_eq d destination && nat_eq s count) && goes d s))
      (λ d s. nat_eq d destination && (nat_lt s (suc count) && goes d s))
      (λ d s may. selection-more (nat_eq d destination) (nat_lt s count) (nat_eq s count) (goes d s) ∙ ap (λ (b : Bool). nat_eq d destination && (b && goes d s)) (one-behind s count))
      (adds-more h k (with_flow f link destination count k) (Changeover link) _ _ (adds-selections h destination count) (adds-if k destination count (goes destination count) refl))

  destination-more : (a b g few : Bool) → few ≡ true → ((a && g) || (b && (few && g))) ≡ ((a || b) && g)
  destination-more true true true few e = refl
  destination-more true true false true e = refl
  destination-more true true false false e = refl
  destination-more true false true few e = refl
  destination-more true false false few e = refl
  destination-more false true g few e = ap (λ (b : Bool). b && g) e
  destination-more false false g few e = refl

  adds-destinations : (h : HoldSet) (count : ℕ) → Adds h (with_destinations f link count h) (Changeover link) (λ d s. nat_lt d count && goes d s)
  unfolding with_destinations
  adds-destinations h zero = adds-alike h h (Changeover link) (λ d s. false) (λ d s. nat_lt d 0 && goes d s)
      (λ d s may. ap (λ (b : Bool). b && goes d s) (none-below d)) (adds-none h (Changeover link))
  adds-destinations h (suc count) =
      let k : HoldSet = with_destinations f link count h in
      adds-alike h (with_selections f link count SELECTIONS k) (Changeover link)
      (λ d s. (nat_lt d count && goes d s) || (nat_eq d count && (nat_lt s SELECTIONS && goes d s)))
      (λ d s. nat_lt d (suc count) && goes d s)
      (λ d s may.
      destination-more (nat_lt d count) (nat_eq d count) (goes d s) (nat_lt s SELECTIONS) (few-selections s (may_parts h (Changeover link) d s may).few)
      ∙ ap (λ (b : Bool). b && goes d s) (one-behind d count))
      (adds-more h k (with_selections f link count SELECTIONS k) (Changeover link) _ _ (adds-destinations h count) (adds-selections k count SELECTIONS))
    where
      few-selections : (s : ℕ) → s < SELECTIONS → nat_lt s SELECTIONS ≡ true
      few-selections s few = grind (arith, nat_tests, few)

  -- all of them, in a node of n destinations
  adds-going : (h : HoldSet) (count : ℕ) → h.destinations ≡ count → Adds h (with_destinations f link count h) (Changeover link) goes
  adds-going h count e =
      adds-alike h (with_destinations f link count h) (Changeover link) (λ d s. nat_lt d count && goes d s) goes
      (λ d s may. ap (λ (b : Bool). b && goes d s) (there d (may_parts h (Changeover link) d s may).there))
      (adds-destinations h count)
    where
      there : (d : ℕ) → d < h.destinations → nat_lt d count ≡ true
      there d l = grind (arith, nat_tests, l, e)

module _ (c : Configuration) (link : ℕ) where
  -- the flow of a message that goes to this place
  adds-to : (h : HoldSet) (place : Option ℕ) (sls : ℕ) → Adds h (with_flow_to c link place sls h) (Changeover link) (λ d s. option_eq nat_eq place (Some d) && nat_eq sls s)
  adds-to h (Some place) sls =
      adds-alike h (with_hold h (Changeover link) place sls) (Changeover link) (λ d s. nat_eq d place && nat_eq s sls) (λ d s. nat_eq place d && nat_eq sls s)
      (λ d s may. ap (λ (b : Bool). b && nat_eq s sls) (turned d place) ∙ ap (λ (b : Bool). nat_eq place d && b) (turned s sls)) (adds-one h (Changeover link) place sls)
    where
      turned : (a b : ℕ) → nat_eq a b ≡ nat_eq b a
      turned a b = grind (arith, nat_tests)
  adds-to h None sls = adds-none h (Changeover link)

  adds-by_kind : (h : HoldSet) (management : Bool) (place : Option ℕ) (sls : ℕ)
      → Adds h (if management then h else with_flow_to c link place sls h) (Changeover link) (λ d s. not management && (option_eq nat_eq place (Some d) && nat_eq sls s))
  adds-by_kind h true place sls = adds-none h (Changeover link)
  adds-by_kind h false place sls = adds-to h place sls

  adds-messages : (h : HoldSet) (ms : List Message) → Adds h (with_messages c link ms h) (Changeover link) (λ d s. list_any (is_of_flow c d s) ms)
  adds-messages h [] = adds-none h (Changeover link)
  adds-messages h (m ∷ ms) =
      let k : HoldSet = with_message c link m h in
      adds-more h k (with_messages c link ms k) (Changeover link) (λ d s. is_of_flow c d s m) (λ d s. list_any (is_of_flow c d s) ms)
      (adds-by_kind h (is_management m) (destination_place c (flow_of m).point) (flow_of m).sls) (adds-messages k ms)

-- all flows are walked, and then the messages: each flow that fails with the link is held
pub walked : (c : Configuration) (p : Parts) (link : ℕ) (unconfirmed : List Message) → HasPlacesFor c p
    → record p { holds = with_messages c link unconfirmed (with_destinations (facts c p) link (length c.destinations) p.holds) } ≡ suspended c link unconfirmed p
walked c p link unconfirmed fits =
    let k : HoldSet = with_destinations (facts c p) link (length c.destinations) p.holds in
    ap (λ (h : HoldSet). record p { holds = h })
    (added_flows p.holds (with_messages c link unconfirmed k) (Changeover link) (is_failed c (facts c p) link unconfirmed)
    (adds-more p.holds k (with_messages c link unconfirmed k) (Changeover link) (goes (facts c p) link) (λ d s. list_any (is_of_flow c d s) unconfirmed)
    (adds-going (facts c p) link p.holds (length c.destinations) fits.holds.destinations) (adds-messages c link k unconfirmed)))
