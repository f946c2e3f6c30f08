-- The first world: two nodes as they are booted, and nothing between them.
use Rattle.pair_rules.proofs.Basics.{sym, slice_index_or, ◌≡◌, ℕ, Bool, true, false, not, ◌&&◌, zero, suc, List, [], ◌∷◌, Option, Some, None, length, get_or, nat_eq, nat_lt, refl, ap, ◌∙◌, if◌then◌else◌, find, option_and_then, option_map, list_any, and_right as both-false}
use Rattle.pair_rules.proofs.Definitions.{DestinationEntry, Message, Flow, CHANGEBACK_CODES, SELECTIONS, Configuration, destination_place, Facts, routes_to, Choice, choice_among, taken_by, sets_of, members, link_by, chosen_link, Link, down_link, is_down, serving_none, by_numbers, no_codes, is_outstanding, Standing, no_changeover, Queue, first_queue, Parts, facts, link_of, each-replicate, LinkEnd, closed_end, first_side}
use Rattle.std.specs.FinSet.{contains-empty}
use Rattle.routes.specs.declared.link_group.Member.{Member}
use Rattle.routes.specs.Routes.{preference, is_in_service, serves}
use Rattle.node_links.specs.NodeLinks as state
use Rattle.exchange_rules.specs.First.{first_state, first_parts}
use Rattle.exchange_rules.proofs.Basics.{get_or-map}
use Rattle.exchange_rules.proofs.LoneRoutes.{flows-stay}
use Rattle.routes.specs.Routes.{first_routes}
use Rattle.settings.specs.Sharing.{sets_to}
use Rattle.pair_moves.specs.Ends.{Procedure, first_pair}
use Rattle.pair_moves.specs.Sayings.{Other}
use Rattle.pair_rules.proofs.World.{is_heard, end_of}
use Rattle.pair_rules.proofs.Good.{Each, IsSilent}
use Rattle.pair_rules.proofs.First.{first_mid, first_world, fits-first}
use Rattle.neighbour_rules.proofs.Counted.{IsBase, no_base, no_counts}
use Rattle.neighbour_rules.proofs.World.{code_of, codes, link_at_code, holds_at, holds_of, procedure_of, route_of, says_of, shown, side_by}
use Rattle.neighbour_rules.proofs.Good.{Good, IsSent, Joint, set}

abbrev none : DestinationEntry
none = record { point = 0; sets = []; joined = false }

pub first-good : (near far : Configuration) (j : Joint near far) → IsBase j.base.near no_counts → Good near far j (first_world near far)
first-good near far j counted = record {
  fits = fits-first near j.near_well;
  route = record {
    beyond =
        get_or-map first_routes near.destinations j.destination none
        ∙ ap (λ (sets : List ℕ). first_routes (record (slice_index_or near.destinations j.destination none) { sets = sets })) (ap (sets_to near) (sym j.place) ∙ j.only);
    between = (flows-stay near [] (set near far j) far.own j.adjacent j.shares.near_leads j.adjacent_place).route;
  };
  settled = λ link e. each-replicate (λ (s : Standing). s ≡ no_changeover) (length near.links) link no_changeover refl;
  silent = λ link. each-replicate (λ (l : Link). IsSilent l) (length near.links) link down_link (λ e. (refl, refl));
  queued = λ link. each-replicate (λ (q : Queue). Each (IsSent near far j.base.there (set near far j)) q.all) (length near.links) link first_queue tt;
  elsewhere = λ link apart. each-replicate (λ (q : Queue). Each (λ (m : Message). says_of near.own far.own j.base.there m ≡ Other) q.all) (length near.links) link first_queue tt;
  held = tt;
  loose = tt;
  arrived = tt;
  coming = record { statuses = λ link. tt; user_data = λ link. tt };
  counted = counted;
}

-- ---- what is shown of it

-- no link is in service, so no flow has one
none-found : {X : Type 0} (p : X → Bool) (xs : List X) → ((x : X) → p x ≡ false) → find p xs ≡ None
none-found p [] h = refl
none-found {X = X} p (x ∷ xs) h = ap (λ (b : Bool). if b then Some x else find p xs) (h x) ∙ none-found p xs h

none-then : {X Y : Type 0} (f : X → Option Y) (o : Option X) → ((x : X) → f x ≡ None) → option_and_then f o ≡ None
none-then f None h = refl
none-then f (Some x) h = h x

either-none : {X : Type 0} (b : Bool) (o : Option X) → o ≡ None → (if b then o else None) ≡ None
either-none true o e = e
either-none false o e = refl

module _ (c : Configuration) (to its : ℕ) where
  abbrev p : Parts
  p = first_parts c

  none-serves : (link : ℕ) → is_in_service (facts c p).in_service link ≡ false
  none-serves link =
      ap (λ (serving : List Bool). get_or serving link false) (serving_none (length c.links))
      ∙ each-replicate (λ (b : Bool). b ≡ false) (length c.links) link false refl

  none-chosen : (place selection : ℕ) → chosen_link (facts c p) place selection ≡ None
  unfolding link_by
  none-chosen place selection =
      let f : Facts = facts c p in
      let choice : Choice = choice_among f (routes_to f place) in
      let sets : List ℕ = sets_of (taken_by f choice) in
      ap (λ (o : Option Member). option_map (λ (m : Member). m.link) o)
      (none-found (serves f.in_service sets) (preference selection (members f choice.group))
      (λ m. ap (λ (b : Bool). b && list_any (λ set. nat_eq set m.set) sets) (none-serves m.link)))

  route-none : (flow : Flow) → route_of c to its p flow ≡ None
  route-none flow =
      either-none (nat_eq flow.point to && nat_lt flow.sls SELECTIONS) (option_map (code_of c) (link_of c p flow))
      (ap (option_map (code_of c))
      (none-then (λ place. chosen_link (facts c p) place flow.sls) (destination_place c flow.point) (λ place. none-chosen place flow.sls)))

  holds-none : (procedure : Procedure) (flow : Flow) → holds_of c to its p procedure flow ≡ false
  holds-none procedure flow =
      both-false (nat_eq flow.point to) (holds_at c to its (destination_place c to) p procedure flow.sls) (by (destination_place c to))
    where
      by : (o : Option ℕ) → holds_at c to its o p procedure flow.sls ≡ false
      by (Some destination) = contains-empty by_numbers (record { procedure = procedure_of c to its procedure; destination = destination; sls = flow.sls })
      by None = refl

  code-none : (code : ℕ) → is_outstanding p.codes its code ≡ false
  code-none code = by (length c.sets) its
    where
      by : (sets one : ℕ) → is_outstanding (no_codes sets) one code ≡ false
      by zero one = refl
      by (suc sets) zero = each-replicate (λ (b : Bool). b ≡ false) CHANGEBACK_CODES code false refl
      by (suc sets) (suc one) = by sets one

  side-first : side_by c to its no_counts (λ code. false) (route_of c to its p) (first_mid c) ≡ first_side
  side-first = λ i. record first_side {
    route = λ flow. route-none flow i;
    holds = λ procedure flow. holds-none procedure flow i;
    outstanding = λ code. code-none code i;
  }

  abbrev end_by : Queue → Link → Standing → LinkEnd
  end_by q l s = record { queue = q; up = not (is_down l.alignment); serving = state.is_in_service l.alignment; incomplete = s.incomplete; awaited = s.awaited; heard = is_heard l.alignment }

  end-first : (link : ℕ) → end_of (first_state c).node link ≡ closed_end
  end-first link = λ i.
      end_by (each-replicate (λ (q : Queue). q ≡ first_queue) (length c.links) link first_queue refl i)
      (each-replicate (λ (l : Link). l ≡ down_link) (length c.links) link down_link refl i)
      (each-replicate (λ (s : Standing). s ≡ no_changeover) (length c.links) link no_changeover refl i)

pub first-shown : (near far : Configuration) (near_set far_set there back : ℕ) → shown near far near_set far_set (no_base there back) (first_world near far) ≡ first_pair codes
first-shown near far near_set far_set there back = λ i. record {
  links = codes;
  line = λ code. record {
    near = end-first near there near_set (link_at_code near near_set code) i;
    far = end-first far back far_set (link_at_code far far_set code) i;
    to_far = [];
    to_near = [];
    told_far = 0;
    told_near = 0;
    near_may_follow = each-replicate (λ (b : Bool). b ≡ false) (length near.links) (link_at_code near near_set code) false refl i;
    far_may_follow = each-replicate (λ (b : Bool). b ≡ false) (length far.links) (link_at_code far far_set code) false refl i;
  };
  near = side-first near there near_set i;
  far = side-first far back far_set i;
}
