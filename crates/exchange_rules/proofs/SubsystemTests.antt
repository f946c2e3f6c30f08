-- Tests of prohibited subsystems: when they are due, what they say, and how long subsystems stay prohibited.
use Rattle.std.proofs.Common.{◌≡◌, ℕ, zero, suc, ◌+◌, ◌-◌, ◌*◌, ◌%◌, ◌<◌, ◌≤◌, Bool, true, false, not, List, [], ◌∷◌, Option, Some, None, refl, sym, ap, ◌∙◌, arith, map, filter}
use Rattle.std.proofs.lemmas.Bool.{and_parts, eqb-true}
use Rattle.std.proofs.lemmas.Bool.Decides.{nat_tests}
use Rattle.std.proofs.lemmas.Nat.{mod-mul-add}
use Rattle.std.specs.Option.{option_and_then}
use Rattle.std.specs.Prelude.{◌&&◌, ◌||◌, if◌then◌else◌, is_some, nat_eq}
use Rattle.std.specs.List.{list_any}
use Rattle.settings.specs.Configuration.{Configuration, TitleEntry}
use Rattle.settings.specs.Readings.{destination_place}
use Rattle.mtp3_codec.specs.declared.label.Label.{Label}
use Rattle.mtp3_codec.proofs.Labels.{label-back}
use Rattle.routes.specs.Routes.{chosen_link}
use Rattle.routes.proofs.Choosing.{linked_by_sets}
use Rattle.sccp_codec.specs.Management.{ManagementValue, management_octets}
use Rattle.sccp_codec.specs.Messages.{PartsValue}
use Rattle.sccp_codec.proofs.ManagementTexts.{read_management-written}
use Rattle.sccp_relay.specs.Points.{OwnValue, is_reached}
use Rattle.sccp_relay.specs.Relay.{management_address, said}
use Rattle.sccp_relay.specs.Sccp.{sccp_octets}
use Rattle.sccp_relay.specs.Statuses.{TitlesValue, counted, first_prohibited, is_due, is_prohibited, is_same, leads_to}
use Rattle.sccp_relay.specs.SubsystemTests.{is_test_led, stays, test_about}
use Rattle.sccp_relay.specs.declared.subsystem.ProhibitedSubsystem.{ProhibitedSubsystem}
use Rattle.sccp_relay.specs.declared.subsystem.Subsystem.{Subsystem}
use Rattle.sccp_relay.proofs.SaidMessages.{octets-back}
use Rattle.exchange_rules.specs.Exchange.{after}
use Rattle.exchange_rules.specs.LawsOfSubsystems.{counted_times, known_of, none_is_where_nothing_leads, reached_ones_stay, tests_come_in_turn, tests_read_as_such}
use Rattle.exchange_rules.specs.Messages.{own_of, sst_ticks}
use Rattle.exchange_rules.specs.Queues.{whole}
use Rattle.exchange_rules.specs.Routing.{facts}
use Rattle.exchange_rules.specs.State.{Parts, Ticked}
use Rattle.exchange_rules.proofs.KeptTitles.{counts-them}

-- ---- a subsystem whose point is reached stays

pub same-point : (s x : Subsystem) → is_same s x ≡ true → x ≡ s
same-point s x e =
    let parts = and_parts (nat_eq s.point x.point) (nat_eq s.ssn x.ssn) e in
    λ i. record { point = sym (eqb-true s.point x.point parts.0) i; ssn = sym (eqb-true s.ssn x.ssn parts.1) i }

stays-led : (reached led due : Bool) → reached ≡ true → led ≡ true → (reached && (not due || led)) ≡ true
stays-led true true true e f = refl
stays-led true true false e f = refl
stays-led true false due e f = absurd cc
stays-led false led due e f = absurd cc

module _ (own : OwnValue) (sst : ℕ) (rows : List TitleEntry) (s : Subsystem) (reached : is_test_led own s.point ≡ true) (led : list_any (leads_to s) rows ≡ true) where
  its-stay : (x : ProhibitedSubsystem) → is_same s x.subsystem ≡ true → stays own rows x ≡ true
  its-stay x e =
      stays-led (is_test_led own x.subsystem.point) (list_any (leads_to x.subsystem) rows) (is_due x)
      (ap (λ (y : Subsystem). is_test_led own y.point) (same-point s x.subsystem e) ∙ reached)
      (ap (λ (y : Subsystem). list_any (leads_to y) rows) (same-point s x.subsystem e) ∙ led)

  abbrev kept : List ProhibitedSubsystem → List ProhibitedSubsystem
  kept xs = filter (stays own rows) (map (counted sst) xs)

  one-known : (x : ProhibitedSubsystem) (xs : List ProhibitedSubsystem) (same stay : Bool) → is_same s x.subsystem ≡ same → stays own rows (counted sst x) ≡ stay
      → (same ≡ true → stay ≡ true) → known_of s (kept xs) ≡ map (counted sst) (known_of s xs)
      → known_of s (if stay then counted sst x ∷ kept xs else kept xs) ≡ map (counted sst) (if same then x ∷ known_of s xs else known_of s xs)
  one-known x xs true true e f h rest = ap (λ (b : Bool). if b then counted sst x ∷ known_of s (kept xs) else known_of s (kept xs)) e ∙ ap (λ (ys : List ProhibitedSubsystem). counted sst x ∷ ys) rest
  one-known x xs false true e f h rest = ap (λ (b : Bool). if b then counted sst x ∷ known_of s (kept xs) else known_of s (kept xs)) e ∙ rest
  one-known x xs false false e f h rest = rest
  one-known x xs true false e f h rest = (let no : false ≡ true = h refl in absurd cc)

  all-known : (xs : List ProhibitedSubsystem) → known_of s (kept xs) ≡ map (counted sst) (known_of s xs)
  all-known [] = refl
  all-known (x ∷ xs) =
      one-known x xs (is_same s x.subsystem) (stays own rows (counted sst x)) refl refl (λ e. its-stay (counted sst x) e) (all-known xs)

pub reached-stay : reached_ones_stay
reached-stay own sst titles s reached led = all-known own sst titles.rows s reached led titles.prohibited

-- ---- and one whose point isn't is allowed

first-and : (a b : Bool) → (a && b) ≡ true → a ≡ true
first-and true b e = refl
first-and false b e = absurd cc

module _ (own : OwnValue) (rows : List TitleEntry) (s : Subsystem) where
  by-test : (x : ProhibitedSubsystem) (xs : List ProhibitedSubsystem) (stay same : Bool) → stays own rows x ≡ stay → is_same s x.subsystem ≡ same
      → (is_prohibited xs s ≡ true → is_test_led own s.point ≡ true) → is_prohibited (if stay then x ∷ xs else xs) s ≡ true → is_test_led own s.point ≡ true
  by-test x xs true true e f rest h =
      ap (λ (y : Subsystem). is_test_led own y.point) (sym (same-point s x.subsystem f))
      ∙ first-and (is_test_led own x.subsystem.point) (not (is_due x) || list_any (leads_to x.subsystem) rows) e
  by-test x xs true false e f rest h = rest (sym (ap (λ (b : Bool). b || is_prohibited xs s) f) ∙ h)
  by-test x xs false same e f rest h = rest h

  left-are-led : (xs : List ProhibitedSubsystem) → is_prohibited (filter (stays own rows) xs) s ≡ true → is_test_led own s.point ≡ true
  left-are-led [] h = absurd cc
  left-are-led (x ∷ xs) h = by-test x (filter (stays own rows) xs) (stays own rows x) (is_same s x.subsystem) refl refl (left-are-led xs) h

-- a point is reached by each link selection or by none
any-selection : (c : Configuration) (p : Parts) (one other point : ℕ) → is_reached (own_of c p) one point ≡ is_reached (own_of c p) other point
any-selection c p one other point = ap (λ (b : Bool). nat_eq point c.own || b) (by (destination_place c point))
  where
    by : (place : Option ℕ) → is_some (option_and_then (λ place. chosen_link (facts c p) place one) place) ≡ is_some (option_and_then (λ place. chosen_link (facts c p) place other) place)
    by None = refl
    by (Some place) = linked_by_sets (facts c p) place one ∙ sym (linked_by_sets (facts c p) place other)

pub none-where-nothing-leads : none_is_where_nothing_leads
none-where-nothing-leads a s sls h =
    let later : Parts = (after whole Ticked a).node.parts in
    let own : OwnValue = own_of a.settings later in
    any-selection a.settings later sls 0 s.point
    ∙ left-are-led own a.node.parts.titles.rows s (map (counted (sst_ticks a.settings)) a.node.parts.titles.prohibited)
    (sym (ap (λ (t : TitlesValue). is_prohibited t.prohibited s) (counts-them a)) ∙ h)

-- ---- tests come in turn

-- so many ticks are left after some, until a whole number of times has passed
record Turns (sst times left : ℕ) : Type 0 where
  rounds : ℕ
  all : times + left ≡ rounds * sst
  few : left < sst

next-turn : (sst times left : ℕ) (due : Bool) → 1 ≤ sst → nat_eq left 0 ≡ due → Turns sst times left → Turns sst (suc times) ((if due then sst else left) - 1)
next-turn sst times left true some e t =
    let none : left ≡ 0 = grind (arith, nat_tests, e) in
    record { rounds = suc t.rounds; all = omega (arith, none, t.all, some); few = omega (arith, some) }
next-turn sst times left false some e t =
    let more : 1 ≤ left = grind (arith, nat_tests, e) in
    record { rounds = t.rounds; all = omega (arith, more, t.all); few = omega (arith, more, t.few) }

turned : (sst times : ℕ) (s : Subsystem) → 1 ≤ sst → Turns sst (suc times) (counted_times sst (suc times) (first_prohibited sst s)).ticks
turned sst zero s some = first (nat_eq sst 0) refl
  where
    first : (none : Bool) → nat_eq sst 0 ≡ none → Turns sst 1 ((if none then sst else sst) - 1)
    first true e = record { rounds = 1; all = omega (arith, some); few = omega (arith, some) }
    first false e = record { rounds = 1; all = omega (arith, some); few = omega (arith, some) }
turned sst (suc times) s some =
    let before : ProhibitedSubsystem = counted_times sst (suc times) (first_prohibited sst s) in
    next-turn sst (suc times) before.ticks (is_due before) some refl (turned sst times s some)

remainder : (sst times left : ℕ) → Turns sst times left → nat_eq left 0 ≡ nat_eq (times % sst) 0
remainder sst times zero t =
    let is : times ≡ t.rounds * sst + 0 = omega (arith, t.all) in
    let rest : times % sst ≡ 0 = ap (λ (n : ℕ). n % sst) is ∙ mod-mul-add t.rounds sst 0 t.few in
    sym (ap (λ (n : ℕ). nat_eq n 0) rest)
remainder sst times (suc left) t = by t.rounds t.all
  where
    by : (rounds : ℕ) → times + suc left ≡ rounds * sst → nat_eq (suc left) 0 ≡ nat_eq (times % sst) 0
    by zero e = absurd (omega (arith, e))
    by (suc rounds) e =
        let is : times ≡ rounds * sst + (sst - suc left) = omega (arith, e, t.few) in
        let rest : times % sst ≡ sst - suc left = ap (λ (n : ℕ). n % sst) is ∙ mod-mul-add rounds sst (sst - suc left) (omega (arith, t.few)) in
        let more : 1 ≤ sst - suc left = omega (arith, t.few) in
        let other : nat_eq (sst - suc left) 0 ≡ false = grind (arith, nat_tests, more) in
        let none : nat_eq (suc left) 0 ≡ false = grind (arith, nat_tests) in
        none ∙ sym (ap (λ (n : ℕ). nat_eq n 0) rest ∙ other)

pub in-turn : tests_come_in_turn
in-turn sst zero s some once = absurd (omega (arith, once))
in-turn sst (suc times) s some once = remainder sst (suc times) (counted_times sst (suc times) (first_prohibited sst s)).ticks (turned sst times s some)

-- ---- what a test says

pub reads-as-such : tests_read_as_such
reads-as-such c s own point =
    let label : Label = record { dpc = s.point; opc = c.own; sls = 0 } in
    let about : ManagementValue = test_about s in
    let parts : PartsValue = record { called = management_address; calling = management_address; «data» = management_octets 0 about } in
    record {
      of_sccp = omega arith;
      network = omega arith;
      label = label-back label (sccp_octets (said about)) (record { dpc = point; opc = own; sls = omega arith });
      parts = parts;
      reads = λ extended. octets-back extended (said about) tt (record {
        called = record { title_indicator = omega arith; point = tt; ssn = omega arith };
        calling = record { title_indicator = omega arith; point = tt; ssn = omega arith };
      });
      called = record { routed = refl; ssn = refl; point = refl; untitled = refl };
      calling = record { routed = refl; ssn = refl; point = refl; untitled = refl };
      says = read_management-written about point;
    }
