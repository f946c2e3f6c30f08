-- Whatever happens, and whatever has been lost: books, routes and holds of both ends.
use Rattle.pair_rules.proofs.Basics.{◌≡◌, ◌≢◌, ℕ, Bool, true, false, not, ◌||◌, List, [], ◌∷◌, Option, Some, None, refl, ap, sym, subst, ◌∙◌, All, slice_get, list_any, if◌then◌else◌, eq-eqb}
use Rattle.std.proofs.lemmas.Option.{get_or_from_slice_get}
use Rattle.pair_rules.proofs.Definitions.{Message, Configuration, LinkEntry, IsWell, destination_place, set_of, entry_of, queue_of, PairState, first_pair, turned}
use Rattle.settings.specs.Sharing.{SharesSet, LeadsAlone, sets_to}
use Rattle.exchange_rules.specs.First.{Abstract}
use Rattle.exchange_rules.specs.LastingHolds.{AllWillEnd}
use Rattle.exchange_rules.specs.LoneRoutes.{GoesBySet, is_user_to}
use Rattle.exchange_rules.specs.Routing.{adjacent_of}
use Rattle.exchange_rules.proofs.LastingHolds.{every-hold}
use Rattle.exchange_rules.proofs.LoneRoutes.{flows-stay}
use Rattle.exchange_rules.proofs.SharingNodes.{shared-peer, shares-turned}
use Rattle.pair_rules.specs.Accepting.{IsUserMessageTo}
use Rattle.pair_rules.specs.Sharing.{AreSharing}
use Rattle.neighbour_rules.specs.Neighbours.{after_steps, leads_elsewhere_by, users_to}
use Rattle.neighbour_rules.specs.Awaiting.{nothing_is_held_in_vain}
use Rattle.neighbour_rules.specs.Promises.{AreBooked, StaysBetween, books_are_of_the_two, flows_stay_between}
use Rattle.neighbour_rules.proofs.Asked.{AreEnds, IsAsked, all-ends, ends-turned}

sharing-turned : (near far : Configuration) → AreSharing near far → AreSharing far near
sharing-turned near far g = record { near_well = g.far_well; far_well = g.near_well; shares = shares-turned near far g.shares }

-- ---- holds

will-end : (c : Configuration) (a : Abstract) → IsWell c → IsAsked c a → AllWillEnd a.node.parts
will-end c a well i = subst (λ (x : Abstract). AllWillEnd x.node.parts) (sym i.is) (every-hold c i.asked well.link_count.below)

pub held-in-no-vain : nothing_is_held_in_vain
held-in-no-vain near far steps g =
    let t : AreEnds near far (after_steps steps (first_pair near far)) = all-ends near far steps in
    record { near = will-end near _ g.near_well t.near_is.exchange; far = will-end far _ g.far_well t.far_is.exchange }

-- ---- books

pub are-booked : (near far : Configuration) (p : PairState) → AreEnds near far p → AreBooked p
are-booked near far p t = record {
  accepted = subst (λ (x : Configuration). All (IsUserMessageTo x.own) p.near.accepted) (sym t.far_is.exchange.settings) t.near_is.accepted;
  received = subst (λ (x : Configuration). All (IsUserMessageTo x.own) p.near.received) (sym t.near_is.exchange.settings) t.near_is.received;
}

pub books-stay : books_are_of_the_two
books-stay near far steps g =
    let p : PairState = after_steps steps (first_pair near far) in
    let t : AreEnds near far p = all-ends near far steps in
    record { there = are-booked near far p t; back = are-booked far near (turned p) (ends-turned near far p t) }

-- ---- routes

-- a set leads to a point that is a destination
pub record IsKnown (c : Configuration) (point : ℕ) : Type 0 where
  pub destination : ℕ
  pub is : destination_place c point ≡ Some destination

pub known : (c : Configuration) (point set : ℕ) → LeadsAlone c point set → IsKnown c point
known c point set h = by (destination_place c point) refl h.only
  where
    by : (o : Option ℕ) → destination_place c point ≡ o → sets_to c o ≡ set ∷ [] → IsKnown c point
    by (Some destination) e f = record { destination = destination; is = e }
    by None e f = absurd cc

none-of : (point : ℕ) (ms : List Message) → list_any (is_user_to point) ms ≡ false → users_to point ms ≡ []
none-of point [] e = refl
none-of point (m ∷ ms) e = by (is_user_to point m) e (none-of point ms)
  where
    by : (b : Bool) → (b || list_any (is_user_to point) ms) ≡ false → (list_any (is_user_to point) ms ≡ false → users_to point ms ≡ []) → (if b then m ∷ users_to point ms else users_to point ms) ≡ []
    by true f rest = absurd cc
    by false f rest = rest f

-- a link that leads elsewhere isn't of the set
other-set : (near far : Configuration) (f : SharesSet near far) → IsWell near → (link : ℕ) → leads_elsewhere_by near far (slice_get near.links link) ≡ true → set_of near link ≢ f.near_set
other-set near far f well link e its = by (slice_get near.links link) refl e
  where
    by : (o : Option LinkEntry) → slice_get near.links link ≡ o → leads_elsewhere_by near far o ≡ true → ⊥
    by None h i = absurd cc
    by (Some l) h i =
        let same : entry_of near link ≡ l = get_or_from_slice_get near.links link l (record { name = []; set = 0; slc = 0; share = None }) h in
        let leads : adjacent_of near l.set ≡ far.own = ap (λ (x : LinkEntry). adjacent_of near x.set) (sym same) ∙ shared-peer near far f well link its in
        let no : true ≡ false = sym i ∙ ap not (eq-eqb (adjacent_of near l.set) far.own leads) in
        absurd cc

-- the pair with the settings written out
abbrev pub with_settings : Configuration → Configuration → PairState → PairState
with_settings x y p = record {
  near = record p.near { exchange = record p.near.exchange { settings = x } };
  far = record p.far { exchange = record p.far.exchange { settings = y } };
}

pub written : (near far : Configuration) (p : PairState) → p.near.exchange.settings ≡ near → p.far.exchange.settings ≡ far → p ≡ with_settings near far p
written near far p e f =
    ap (λ (x : Configuration). with_settings x p.far.exchange.settings p) e ∙ ap (λ (y : Configuration). with_settings near y p) f

stays : (near far : Configuration) (g : AreSharing near far) (p : PairState) → AreEnds near far p → StaysBetween p
stays near far g p t =
    subst StaysBetween (sym (written near far p t.near_is.exchange.settings t.far_is.exchange.settings)) (record {
      destination = d.destination;
      known = d.is;
      set = g.shares.near_set;
      leads = g.shares.near_leads;
      route = by-set.route;
      flows = λ sls link e. shared-peer near far g.shares g.near_well link (by-set.links sls link e);
      elsewhere = λ link e. none-of far.own (queue_of p.near link).all (by-set.queues link (other-set near far g.shares g.near_well link e));
    })
  where
    d : IsKnown near far.own
    d = known near far.own g.shares.near_set g.shares.near_leads

    by-set : GoesBySet near g.shares.near_set far.own d.destination p.near.exchange.node
    by-set =
        subst (λ (a : Abstract). GoesBySet near g.shares.near_set far.own d.destination a.node) (sym t.near_is.exchange.is)
        (flows-stay near t.near_is.exchange.asked g.shares.near_set far.own d.destination g.shares.near_leads d.is)

pub stay-between : flows_stay_between
stay-between near far steps g =
    let p : PairState = after_steps steps (first_pair near far) in
    let t : AreEnds near far p = all-ends near far steps in
    record { there = stays near far g p t; back = stays far near (sharing-turned near far g) (turned p) (ends-turned near far p t) }
