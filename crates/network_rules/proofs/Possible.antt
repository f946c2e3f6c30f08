-- What may be done to a network.
use Rattle.std.proofs.Common.{◌≡◌, ◌<◌, ◌≤◌, ◌||◌, ◌++◌, ℕ, Bool, true, false, not, List, [], ◌∷◌, length, Option, Some, None, refl, ap, sym, ◌∙◌, arith}
use Rattle.std.proofs.Math.Logic.{⊎_elim}
use Rattle.std.proofs.lemmas.Bool.{and_parts, cases_lt, eqb-true, false_from_ne_true}
use Rattle.std.proofs.lemmas.Bool.Decides.{nat_tests}
use Rattle.std.proofs.lemmas.List.{get_or_past, get_or-set_same}
use Rattle.std.specs.List.{list_any}
use Rattle.std.specs.Prelude.{◌&&◌, drop, nat_eq, nat_lt, option_to_list, slice_get, slice_set, take}
use Rattle.signalling_types.specs.Message.{Message, dpc_of, opc_of, service_indicator}
use Rattle.settings.specs.Configuration.{Configuration, SetEntry}
use Rattle.m2pa_codec.specs.Frames.{read_frame}
use Rattle.exchange_rules.specs.Laws.{carried_message}
use Rattle.exchange_rules.specs.State.{CameUp, Ticked, WentDown}
use Rattle.pair_rules.specs.Pairs.{in_flight, with_status_twice, without_status}
use Rattle.network_rules.specs.Networks.{NetworkNode, NetworkState, change_statuses, happens}
use Rattle.network_rules.specs.Outside.{hears, hears_outside, is_management_within, is_within, leads_out, leads_out_by, opens_outside, speaks_within}
use Rattle.network_rules.proofs.Places.{node-same}
use Rattle.network_rules.specs.Possible.{statuses_may_be_harmed, links_may_fail, LeadsOut, ManagesWithin, MayComeFromOutside, outside_may_say_anything_else}

-- ---- link statuses

there : (lists : List (List (List ℕ))) (link : ℕ) (first : List ℕ) (others : List (List ℕ)) → in_flight lists link ≡ first ∷ others → link < length lists
there lists link first others e =
    ⊎_elim (λ (l : link < length lists). l)
    (λ (l : length lists ≤ link).
    let no : [] ≡ first ∷ others = sym (get_or_past lists link [] l) ∙ e in
    absurd cc)
    (cases_lt link (length lists))

written : (lists : List (List (List ℕ))) (link : ℕ) (first : List ℕ) (others text : List (List ℕ)) → in_flight lists link ≡ first ∷ others → in_flight (slice_set lists link text) link ≡ text
written lists link first others text e = get_or-set_same lists link text [] (there lists link first others e)

module _ (x : NetworkNode) (link : ℕ) (first : List ℕ) (others : List (List ℕ)) (e : in_flight x.incoming.statuses link ≡ first ∷ others) where
  head : slice_get (in_flight x.incoming.statuses link) 0 ≡ Some first
  head = ap (λ (texts : List (List ℕ)). slice_get texts 0) e

  lost : in_flight (change_statuses (slice_get (in_flight x.incoming.statuses link) 0) (without_status link x.incoming) x).incoming.statuses link ≡ others
  lost =
      ap (λ (o : Option (List ℕ)). in_flight (change_statuses o (without_status link x.incoming) x).incoming.statuses link) head
      ∙ written x.incoming.statuses link first others (drop 1 (in_flight x.incoming.statuses link)) e
      ∙ ap (λ (texts : List (List ℕ)). drop 1 texts) e

  doubled : in_flight (change_statuses (slice_get (in_flight x.incoming.statuses link) 0) (with_status_twice link x.incoming) x).incoming.statuses link ≡ first ∷ first ∷ others
  doubled =
      ap (λ (o : Option (List ℕ)). in_flight (change_statuses o (with_status_twice link x.incoming) x).incoming.statuses link) head
      ∙ written x.incoming.statuses link first others (take 1 (in_flight x.incoming.statuses link) ++ in_flight x.incoming.statuses link) e
      ∙ ap (λ (texts : List (List ℕ)). take 1 texts ++ texts) e

pub may-be-harmed : statuses_may_be_harmed
may-be-harmed w point link first others e =
    let x : NetworkNode = w.node point in
    record {
      lost =
          ap (λ (y : NetworkNode). in_flight y.incoming.statuses link)
          (node-same point (λ y. change_statuses (slice_get (in_flight y.incoming.statuses link) 0) (without_status link y.incoming) y) w)
          ∙ lost x link first others e;
      doubled =
          ap (λ (y : NetworkNode). in_flight y.incoming.statuses link)
          (node-same point (λ y. change_statuses (slice_get (in_flight y.incoming.statuses link) 0) (with_status_twice link y.incoming) y) w)
          ∙ doubled x link first others e;
    }

pub may-fail : links_may_fail
may-fail w point link = record {
  lost = ap (λ (y : NetworkNode). y.exchange) (node-same point (happens (WentDown link)) w);
  ticks = ap (λ (y : NetworkNode). y.exchange) (node-same point (happens Ticked) w);
}

-- ---- points outside

within-so : (w : NetworkState) (point : ℕ) → is_within w point ≡ true → 1 ≤ length (w.node point).exchange.settings.sets
within-so w point e = grind (arith, nat_tests, e)

none-speaks : (w : NetworkState) (o : Option Message) → ((m : Message) → o ≡ Some m → ManagesWithin w m → ⊥) → list_any (is_management_within w) (option_to_list o) ≡ false
none-speaks w None silent = refl
none-speaks w (Some m) silent =
    ap (λ (b : Bool). b || false) (false_from_ne_true (is_management_within w m) (λ e. silent m refl (manages e)))
  where
    manages : is_management_within w m ≡ true → ManagesWithin w m
    manages e =
        let one = and_parts (nat_eq (service_indicator m) 0) (is_within w (opc_of m) && is_within w (dpc_of m)) e in
        let two = and_parts (is_within w (opc_of m)) (is_within w (dpc_of m)) one.1 in
        record {
          indicator = eqb-true (service_indicator m) 0 one.0;
          origin = within-so w (opc_of m) two.0;
          destination = within-so w (dpc_of m) two.1;
        }

module _ (w : NetworkState) (point link : ℕ) (leads : LeadsOut w point link) where
  abbrev c : Configuration
  c = (w.node point).exchange.settings

  out : leads_out w point link ≡ true
  out =
      ap (leads_out_by w c) leads.its
      ∙ ap (λ (sets : List SetEntry). not (nat_lt 0 (length sets))) leads.out

  pub may-come : MayComeFromOutside w point link
  may-come = record {
    opens =
        ap (λ (b : Bool). ((opens_outside b point link w).node point).exchange) out
        ∙ ap (λ (y : NetworkNode). y.exchange) (node-same point (happens (CameUp link)) w);
    hears = λ text silent.
        ap (λ (b : Bool). ((hears_outside b (speaks_within w text) point link text w).node point).exchange) out
        ∙ ap (λ (b : Bool). ((hears_outside true b point link text w).node point).exchange) (none-speaks w (carried_message (read_frame text)) silent)
        ∙ ap (λ (y : NetworkNode). y.exchange) (node-same point (hears link text) w);
  }

pub may-say : outside_may_say_anything_else
may-say w point link leads = may-come w point link leads
