-- What a network shows is what the abstract one has, by whatever that came to be.
use Rattle.std.proofs.Common.{◌≡◌, ℕ, Bool, List, [], Option, Some, None, refl, ap, sym, subst, ◌∙◌}
use Rattle.std.specs.Prelude.{IfSome, count_by, false, is_some, slice_get, slice_index_or, true}
use Rattle.settings.specs.Sharing.{LeadsAlone, SharesSet}
use Rattle.settings.specs.Well.{IsWell}
use Rattle.std.specs.Option.{option_and_then, option_map}
use Rattle.signalling_types.specs.Message.{Message}
use Rattle.settings.specs.Configuration.{Configuration}
use Rattle.settings.specs.Readings.{set_place}
use Rattle.exchange_rules.specs.First.{IsSound}
use Rattle.exchange.specs.Calls as exchanges
use Rattle.pair_rules.specs.Pairs.{may_follow}
use Rattle.pair_rules.specs.Promises.{user}
use Rattle.pair_rules.specs.Sharing.{AreSharing}
use Rattle.neighbour_rules.specs.Promises.{waiting}
use Rattle.network_rules.specs.Networks.{NetworkNode, NetworkState, end_of, first_node}
use Rattle.network_rules.specs.Pairs.{pair_of}
use Rattle.network_rules.specs.Totals.{is_listed}
use Rattle.network_world.specs.Joined.{no_settings}
use Rattle.network_world.specs.KeptNodes.{KeptNode, kept_node_of}
use Rattle.network_world.specs.KeptNetworks.{kept_at, node_at, place_at, points_of}
use Rattle.network_world.specs.NetworkPromised.{ShareSet, booked, follows_at, waiting_between}
use Rattle.network_world.specs.NetworkStands.{IsNodeAt, has_node}
use Rattle.network_world.proofs.AsKept.{IsKept}
use Rattle.network_world.proofs.Listed.{listed-kept}
use Rattle.network_world.proofs.NodeFits.{Fits}
use Rattle.network_world.proofs.NodePlaces.{gets, keeps, keeps-none}
use Rattle.network_world.proofs.Ready.{IsReady}
use Rattle.network_world.proofs.Waiting.{waiting-same}

module _ (k : List KeptNode) (w : NetworkState) (s : IsKept k w) where
  -- ---- the node at a point

  module _ (point : ℕ) where
    abbrev x : NetworkNode
    x = w.node point

    by-place : (o : Option ℕ) → place_at point k ≡ o → option_and_then (slice_get k) o ≡ kept_at point k
    by-place None e = sym (keeps-none k point e)
    by-place (Some place) e = gets k point place (kept_node_of x) e ∙ sym (keeps k point place (kept_node_of x) e)

    pub node-there : IsNodeAt point (node_at point k) x
    node-there = subst (λ (o : Option KeptNode). IsNodeAt point o x) (sym (by-place (place_at point k) refl)) (s.nodes point)

    module _ {A : Type 0} (of : KeptNode → List A) (its : NetworkNode → List A) (same : (y : NetworkNode) → of (kept_node_of y) ≡ its y) (empty : (c : Configuration) → its (first_node c) ≡ []) where
      booked-by : (o : Option KeptNode) → IsNodeAt point o x → booked of o ≡ its x
      booked-by (Some n) is = ap of is.kept ∙ same x
      booked-by None is = sym (ap its is ∙ empty (no_settings point))

      booked-same : booked of (node_at point k) ≡ its x
      booked-same = booked-by (node_at point k) node-there

    pub accepted-same : booked (λ n. n.accepted) (node_at point k) ≡ x.accepted
    accepted-same = booked-same (λ n. n.accepted) (λ y. y.accepted) (λ y. refl) (λ c. refl)

    pub arrived-same : booked (λ n. n.arrived) (node_at point k) ≡ x.arrived
    arrived-same = booked-same (λ n. n.arrived) (λ y. y.arrived) (λ y. refl) (λ c. refl)

    pub entered-same : booked (λ n. n.entered) (node_at point k) ≡ x.entered
    entered-same = booked-same (λ n. n.entered) (λ y. y.entered) (λ y. refl) (λ c. refl)

    -- its exchange stands for that of the abstract node
    stands-by : (o : Option KeptNode) → IsNodeAt point o x → IfSome (option_map (λ (n : KeptNode). n.exchange) o) (λ e. exchanges.StandsFor e x.exchange)
    stands-by (Some n) is = record { sound = is.sound; kept = ap (λ (m : KeptNode). m.exchange) is.kept }
    stands-by None is = tt

    pub exchange-stands : IfSome (option_map (λ (n : KeptNode). n.exchange) (node_at point k)) (λ e. exchanges.StandsFor e x.exchange)
    exchange-stands = stands-by (node_at point k) node-there

    follows-by : (link : ℕ) (o : Option KeptNode) → IsNodeAt point o x → follows_at link o ≡ may_follow (end_of x) link
    follows-by link (Some n) is = ap (λ (m : KeptNode). slice_index_or m.following link false) is.kept
    follows-by link None is = sym (ap (λ (y : NetworkNode). may_follow (end_of y) link) is)

    pub follows-same : (link : ℕ) → follows_at link (node_at point k) ≡ may_follow (end_of x) link
    follows-same link = follows-by link (node_at point k) node-there

    pub refused-same : booked (λ n. n.refused) (node_at point k) ≡ x.refused
    refused-same = booked-same (λ n. n.refused) (λ y. y.refused) (λ y. refl) (λ c. refl)

  -- ---- a node from which a set leads

  -- no set leads from a point without a node
  no-sets : (point other set : ℕ) → LeadsAlone (w.node point).exchange.settings other set → w.node point ≡ first_node (no_settings point) → ⊥
  no-sets point other set leads is =
      (let no : set_place (no_settings point) other ≡ Some set = ap (λ (y : NetworkNode). set_place y.exchange.settings other) (sym is) ∙ leads.adjacent in cc)

  module _ (point other set : ℕ) (leads : LeadsAlone (w.node point).exchange.settings other set) where
    kept-there : is_some (kept_at point k) ≡ true
    kept-there = by (kept_at point k) (s.nodes point)
      where
        by : (o : Option KeptNode) → IsNodeAt point o (w.node point) → is_some o ≡ true
        by (Some n) is = refl
        by None is = absurd (no-sets point other set leads is)

    is-well : IsWell (s.settings point)
    is-well = s.placed.well point (listed-kept k point ∙ kept-there)

    has-place : has_node point k ≡ true
    has-place = by (place_at point k) (node-there point)
      where
        by : (o : Option ℕ) → IsNodeAt point (option_and_then (slice_get k) o) (w.node point) → is_some o ≡ true
        by (Some place) is = refl
        by None is = absurd (no-sets point other set leads is)

    is-sound : IsSound (w.node point).exchange
    is-sound = by (node_at point k) (node-there point)
      where
        by : (o : Option KeptNode) → IsNodeAt point o (w.node point) → IsSound (w.node point).exchange
        by (Some n) is = is.sound
        by None is = absurd (no-sets point other set leads is)

  -- ---- two that share a set

  module _ (near far : ℕ) (a : ShareSet w near far) where
    abbrev c : Configuration
    c = (w.node near).exchange.settings

    pub near-same : c ≡ s.settings near
    near-same = (s.fits near).settings

    pub far-same : (w.node far).exchange.settings ≡ s.settings far
    far-same = (s.fits far).settings

    pub sharing : AreSharing (s.settings near) (s.settings far)
    sharing = record {
      near_well = is-well near (w.node far).exchange.settings.own a.near_set a.near_leads;
      far_well = is-well far c.own a.far_set a.far_leads;
      shares =
          subst (λ (d : Configuration). SharesSet d (s.settings far)) near-same
          (subst (SharesSet c) far-same a);
    }

    -- both are there
    pub near-listed : is_listed (points_of k) near ≡ true
    near-listed = listed-kept k near ∙ kept-there near (w.node far).exchange.settings.own a.near_set a.near_leads

    pub far-listed : is_listed (points_of k) far ≡ true
    far-listed = listed-kept k far ∙ kept-there far c.own a.far_set a.far_leads

    pub has-near : has_node near k ≡ true
    has-near = has-place near (w.node far).exchange.settings.own a.near_set a.near_leads

    near-sound : IsSound (w.node near).exchange
    near-sound = is-sound near (w.node far).exchange.settings.own a.near_set a.near_leads

    far-sound : IsSound (w.node far).exchange
    far-sound = is-sound far c.own a.far_set a.far_leads

    near-fits : Fits (w.node near)
    near-fits = (s.fits near).fits

    far-fits : Fits (w.node far)
    far-fits = (s.fits far).fits

    ready : IsReady (pair_of w near far)
    ready = record {
      near_places = near-fits.places;
      far_places = far-fits.places;
      near_sized = record { statuses = near-fits.statuses; user_data = near-fits.user_data };
      far_sized = record { statuses = far-fits.statuses; user_data = far-fits.user_data };
    }

    module _ (picks : Message → Bool) where
      abbrev waits : ℕ
      waits = count_by (user picks) (waiting (pair_of w near far))

      waiting-by : (o v : Option KeptNode) → IsNodeAt near o (w.node near) → IsNodeAt far v (w.node far) → waiting_between picks o v ≡ waits
      waiting-by (Some n) (Some m) is are =
          ap (λ (z : KeptNode). waiting_between picks (Some z) (Some m)) is.kept
          ∙ ap (λ (z : KeptNode). waiting_between picks (Some (kept_node_of (w.node near))) (Some z)) are.kept
          ∙ waiting-same picks (pair_of w near far) near-sound far-sound ready
      waiting-by (Some n) None is are = absurd (no-sets far c.own a.far_set a.far_leads are)
      waiting-by None v is are = absurd (no-sets near (w.node far).exchange.settings.own a.near_set a.near_leads is)

      pub counted : waiting_between picks (node_at near k) (node_at far k) ≡ waits
      counted = waiting-by (node_at near k) (node_at far k) (node-there near) (node-there far)
