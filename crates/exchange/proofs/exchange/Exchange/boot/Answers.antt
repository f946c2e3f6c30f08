-- The parts are those of the first state.
use Rattle.exchange.proofs.Basics.{◌≡◌, ◌+◌, ℕ, suc, false, List, [], length, replicate, ap, sym, subst, refl, ◌∙◌, arith, length-replicate, length-map, Message, kept_first, no_changeover, down_link, Network, facts_of, lane_at, held_lane, all_wait, Stored, first_routes, HasHoldsFor, HasCodes, no_codes-fits, no_holds-fits, Updates, first_updates, OwesNoneBut, Option, None}
use Rattle.signalling_types.specs.declared.limits.TheConstants.Limits.{SELECTIONS}
use Rattle.exchange.proofs.Pending.{all_may_be}
use Rattle.exchange.proofs.Standing.{first-kept, stands-first}
use Rattle.exchange.proofs.exchange.Exchange.boot.Goals as goal

abbrev no_sets : List (Option ℕ)
no_sets = replicate SELECTIONS None

one_more : (n : ℕ) → n + 1 ≡ suc n
one_more n = omega arith

pub returns-clause-exact : goal.returns-clause-exact
returns-clause-exact c =
    let many : ℕ = length c.args.settings.links in
    first-kept c.args.settings many _ _ _ _ _ _ _ _ _ _ _ _ refl (ap (λ (x : Stored). x.lists) c.in_ok-of_links.ensures.lanes ∙ ap (λ (n : ℕ). replicate n []) (one_more many)) c.in_ok-of_links.ensures.sequences c.in_ok-of_links.ensures.links c.in_ok-of_network.ensures.told c.in_ok-of_links.ensures.changeovers c.in_ok-of_network.ensures.changeback
    c.in_ok-of_network.ensures.holds c.in_ok-of_network.ensures.titles c.in_ok-of_network.ensures.unequipped c.in_ok-of_network.ensures.timers (ap (λ x. x.items) c.in_ok-notices.ensures) c.in_ok-of_network.ensures.flow_sets

pub returns-clause-first : goal.returns-clause-first
returns-clause-first c = stands-first c.args.settings _ c.window.ensures.fits (returns-clause-exact c)

pub invariant_of-result : goal.invariant_of-result
invariant_of-result c =
    let many : ℕ = length c.args.settings.links in
    let lists : c.in_ok-of_links.of_links.lanes.lists ≡ replicate (suc many) [] = ap (λ (x : Stored). x.lists) c.in_ok-of_links.ensures.lanes ∙ ap (λ (n : ℕ). replicate n []) (one_more many) in
    let links : length c.in_ok-of_links.of_links.links.links ≡ many =
    ap (λ (n : Network). length n.links) c.in_ok-of_links.ensures.links ∙ length-replicate many down_link in
    record {
      lanes = ap length lists ∙ length-replicate (suc many) [] ∙ sym (one_more many) ∙ ap (λ (n : ℕ). n + 1) (sym links);
      sequences = c.in_ok-of_links.of_links.sequences.ok.0 ∙ ap length c.in_ok-of_links.ensures.sequences ∙ length-replicate many kept_first ∙ sym links;
      changeovers = ap length c.in_ok-of_links.ensures.changeovers ∙ length-replicate many no_changeover ∙ sym links;
      links = links;
      sets = ap (λ (n : Network). n.sets) c.in_ok-of_links.ensures.links;
      pool = ap (λ (x : Stored). x.pool) c.in_ok-of_links.ensures.lanes;
      notices = ap (λ x. x.capacity) c.in_ok-notices.ensures;
      told = c.in_ok-of_network.ensures.shape;
      few_links = c.link_count.ensures.fits;
      routes = ap (λ (n : Network). length n.routes) c.in_ok-of_links.ensures.links ∙ length-map c.args.settings.destinations first_routes;
      codes = subst (HasCodes (length c.args.settings.sets)) (sym c.in_ok-of_network.ensures.changeback) (no_codes-fits (length c.args.settings.sets));
      holds = subst (HasHoldsFor c.args.settings) (sym c.in_ok-of_network.ensures.holds) (no_holds-fits c.args.settings);
      unequipped = ap length c.in_ok-of_network.ensures.unequipped ∙ length-replicate (length c.args.settings.destinations) 0;
      waiting = ap (λ (ls : List (List Message)). all_wait c.args.settings c.in_ok-of_network.of_network.holds (lane_at ls held_lane)) lists;
      pending =
          subst (λ (p : Updates). OwesNoneBut (length c.args.settings.destinations) p (facts_of c.in_ok-of_links.of_links.links) c.in_ok-of_network.of_network.told)
          (sym c.in_ok-of_network.ensures.pending)
          (all_may_be (length c.args.settings.destinations) (first_updates (length c.args.settings.destinations)) (facts_of c.in_ok-of_links.of_links.links)
          c.in_ok-of_network.of_network.told (length-replicate (length c.args.settings.destinations) false));
      flows = record {
        rows = ap length c.in_ok-of_network.ensures.flow_sets ∙ length-replicate (length c.args.settings.destinations) no_sets;
        few = omega arith;
        counted = λ destination out. absurd cc;
      };
    }
