-- What may be done to two nodes.
use Rattle.std.proofs.Common.{◌≡◌, ◌≢◌, ◌⊎◌, ◌<◌, ◌≤◌, ◌||◌, ◌++◌, ℕ, Bool, true, false, not, List, [], ◌∷◌, length, Option, Some, None, refl, ap, sym, ◌∙◌, arith, inl, inr}
use Rattle.std.proofs.Math.Logic.{⊎_elim}
use Rattle.std.proofs.lemmas.Bool.{and_parts, cases_lt, eqb-true, false_from_ne_true}
use Rattle.std.proofs.lemmas.Bool.Decides.{nat_tests}
use Rattle.std.proofs.lemmas.List.{get_or_past, get_or-set_same}
use Rattle.std.specs.List.{list_any}
use Rattle.std.specs.Prelude.{◌&&◌, drop, nat_eq, option_to_list, slice_get, slice_set, take}
use Rattle.signalling_types.specs.Message.{Message, dpc_of, opc_of, service_indicator}
use Rattle.settings.specs.Configuration.{Configuration}
use Rattle.m2pa_codec.specs.Frames.{read_frame}
use Rattle.exchange_rules.specs.Laws.{carried_message}
use Rattle.exchange_rules.specs.Routing.{adjacent_of}
use Rattle.exchange_rules.specs.State.{Happening, CameUp, FrameCame}
use Rattle.exchange_rules.specs.Exchange.{after}
use Rattle.exchange_rules.specs.Queues.{whole}
use Rattle.pair_rules.specs.Pairs.{PairState, Streams, change_statuses, in_flight, with_status_twice, without_status}
use Rattle.neighbour_rules.specs.Neighbours.{is_management_between, leads_elsewhere, leads_elsewhere_by, speaks_for, takes_elsewhere_for}
use Rattle.neighbour_rules.specs.Possible.{statuses_may_be_harmed, links_may_fail, LeadsToThird, Manages, MayComeFromThird, third_nodes_may_say_anything_else}

-- ---- link statuses

there : (lists : List (List (List ℕ))) (link : ℕ) (first : List ℕ) (others : List (List ℕ)) → in_flight lists link ≡ first ∷ others → link < length lists
there lists link first others e =
    ⊎_elim (λ (l : link < length lists). l)
    (λ (l : length lists ≤ link).
    let no : [] ≡ first ∷ others = sym (get_or_past lists link [] l) ∙ e in
    absurd cc)
    (cases_lt link (length lists))

written : (lists : List (List (List ℕ))) (link : ℕ) (first : List ℕ) (others text : List (List ℕ)) → in_flight lists link ≡ first ∷ others → in_flight (slice_set lists link text) link ≡ text
written lists link first others text e = get_or-set_same lists link text [] (there lists link first others e)

pub may-be-harmed : statuses_may_be_harmed
may-be-harmed p link first others e =
    let s : Streams = p.near.incoming in
    record {
      lost =
          ap (λ (o : Option (List ℕ)). in_flight (change_statuses o (without_status link s) p).left.near.incoming.statuses link) head
          ∙ written s.statuses link first others (drop 1 (in_flight s.statuses link)) e
          ∙ ap (λ (texts : List (List ℕ)). drop 1 texts) e;
      doubled =
          ap (λ (o : Option (List ℕ)). in_flight (change_statuses o (with_status_twice link s) p).left.near.incoming.statuses link) head
          ∙ written s.statuses link first others (take 1 (in_flight s.statuses link) ++ in_flight s.statuses link) e
          ∙ ap (λ (texts : List (List ℕ)). take 1 texts ++ texts) e;
    }
  where
    head : slice_get (in_flight p.near.incoming.statuses link) 0 ≡ Some first
    head = ap (λ (texts : List (List ℕ)). slice_get texts 0) e

pub may-fail : links_may_fail
may-fail p link = record { lost = refl; ticks = refl }

-- ---- third nodes

none-speaks : (near far : ℕ) (o : Option Message) → ((m : Message) → o ≡ Some m → Manages near far m ⊎ Manages far near m → ⊥)
    → list_any (λ m. is_management_between near far m || is_management_between far near m) (option_to_list o) ≡ false
none-speaks near far None silent = refl
none-speaks near far (Some m) silent =
    ap (λ (b : Bool). b || false)
    (false_from_ne_true (is_management_between near far m || is_management_between far near m)
    (λ e. silent m refl (either (is_management_between near far m) (is_management_between far near m) refl refl e)))
  where
    manages : (from to : ℕ) → is_management_between from to m ≡ true → Manages from to m
    manages from to e =
        let one = and_parts (nat_eq (service_indicator m) 0) (nat_eq (opc_of m) from && nat_eq (dpc_of m) to) e in
        let two = and_parts (nat_eq (opc_of m) from) (nat_eq (dpc_of m) to) one.1 in
        record {
          indicator = eqb-true (service_indicator m) 0 one.0;
          origin = eqb-true (opc_of m) from two.0;
          destination = eqb-true (dpc_of m) to two.1;
        }

    either : (a b : Bool) → is_management_between near far m ≡ a → is_management_between far near m ≡ b → (a || b) ≡ true → Manages near far m ⊎ Manages far near m
    either true b f g e = inl (manages near far f)
    either false true f g e = inr (manages far near g)
    either false false f g e = absurd cc

not-equal : (m n : ℕ) → m ≢ n → nat_eq m n ≡ false
not-equal m n d = grind (arith, nat_tests, d)

module _ (p : PairState) (link : ℕ) (leads : LeadsToThird p link) where
  abbrev near : Configuration
  near = p.near.exchange.settings

  abbrev far : Configuration
  far = p.far.exchange.settings

  elsewhere : leads_elsewhere p link ≡ true
  elsewhere =
      ap (leads_elsewhere_by near far) leads.its
      ∙ ap not (not-equal (adjacent_of near leads.entry.set) far.own leads.third)

  taken-in : (speaks : Bool) (what : Happening) → speaks ≡ false → (takes_elsewhere_for far.own (leads_elsewhere p link) speaks what p).left.near.exchange ≡ after whole what p.near.exchange
  taken-in speaks what silent =
      ap (λ (b : Bool). (takes_elsewhere_for far.own b speaks what p).left.near.exchange) elsewhere
      ∙ ap (λ (b : Bool). (takes_elsewhere_for far.own true b what p).left.near.exchange) silent

  pub may-come : MayComeFromThird p link
  may-come = record {
    opens = taken-in false (CameUp link) refl;
    hears = λ text silent. taken-in (speaks_for near.own far.own text) (FrameCame link text) (none-speaks near.own far.own (carried_message (read_frame text)) silent);
  }

pub may-say : third_nodes_may_say_anything_else
may-say p link leads = may-come p link leads
