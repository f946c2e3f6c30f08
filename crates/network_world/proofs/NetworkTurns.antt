-- A network that stood for an abstract one stands for that after each step.
use Rattle.std.proofs.Common.{◌≡◌, ◌≢◌, ◌<◌, ℕ, Bool, true, false, List, length, Option, Some, None, is_some, nat_eq, refl, ap, sym, subst, ◌∙◌}
use Rattle.std.specs.Prelude.{if◌then◌else◌, slice_get}
use Rattle.std.specs.Option.{option_and_then, option_map}
use Rattle.signalling_types.specs.declared.outcome.Outcome.TheVariants.{Ignored}
use Rattle.settings.specs.Configuration.{Configuration, LinkEntry}
use Rattle.m2pa_codec.specs.Frames.{FrameValue}
use Rattle.exchange_rules.specs.declared.wants.Wants.{Wants}
use Rattle.exchange_rules.specs.declared.wants.Wants.TheVariants as wants
use Rattle.exchange_rules.specs.Exchange.{frame_to_take, wants_of}
use Rattle.exchange_rules.specs.First.{IsSound}
use Rattle.exchange_rules.specs.Messages.{link_with_code}
use Rattle.exchange_rules.specs.Queues.{whole}
use Rattle.exchange_rules.specs.Routing.{adjacent_of}
use Rattle.pair_rules.specs.Pairs.{Doing, Submits, Takes, Delivers, DeliversStatus, LosesStatus, DoublesStatus, Loses, Ticks, Activates, Deactivates, Releases, AddsTitle, SetsTitle, RemovesTitle, OpensFirst, OpensSecond}
use Rattle.neighbour_rules.specs.Neighbours.{end_there}
use Rattle.network_rules.specs.Networks.{NetworkNode, NetworkState, Place, Step, changed, did, did_here, first_node, may_open_there, opens_first, other_end, place_there, sends, take_frame}
use Rattle.network_rules.specs.Outside.{Within}
use Rattle.network_world.specs.Joined.{no_settings}
use Rattle.network_world.specs.declared.doing.Reach.TheVariants as reach
use Rattle.network_world.specs.KeptNodes.{KeptNode, kept_node_of, node_did, node_takes}
use Rattle.network_world.specs.KeptNetworks.{KeptPlace, end_at, end_by, kept_did, kept_did_at, kept_other_end, network_ignored, network_turn, one_turned, place_at, points_of, reached_by}
use Rattle.network_world.specs.NetworkStands.{IsNetworkReached, IsNodeAt, NetworkStandsFor, did_outcome, first_outcome, has_node, here_outcome, if_any, step_outcome, stepped}
use Rattle.network_world.proofs.AsKept.{IsKept, as-kept, own-point}
use Rattle.network_world.proofs.Listed.{leads-apart}
use Rattle.network_world.proofs.NodePlaces.{itself-eq, keeps-none, points-same, put-nodes}
use Rattle.network_world.proofs.NodeReaches.{sent_by, take-alone}
use Rattle.network_world.proofs.NodeRules.{IsNodeSame}
use Rattle.network_world.proofs.Ready.{far-there}
use Rattle.network_world.proofs.NetworkSteps as steps
use Rattle.network_world.proofs.NetworkSteps.{IsTurn, reached-more}

-- ---- at a node whose place is known

module _ (k : List KeptNode) (w : NetworkState) (s : IsKept k w) where
  module _ (point place : ℕ) (e : place_at point k ≡ Some place) where
    abbrev x : NetworkNode
    x = w.node point

    abbrev n : KeptNode
    n = kept_node_of x

    x-sound : IsSound x.exchange
    x-sound = steps.x-sound k w s point place e

    got : slice_get k place ≡ Some n
    got = steps.got k w s point place e

    own-x : x.exchange.settings.own ≡ point
    own-x = own-point k w s point

    here-turn : (what : Doing) → IsTurn (points_of k) (one_turned place (node_did what) (slice_get k place) k) (here_outcome what x) (changed point (did_here what) w)
    here-turn = steps.here-turn k w s point place e

    -- ---- the other end of a link

    abbrev c : Configuration
    c = x.exchange.settings

    data AreEndsOf (o : Option KeptPlace) (there : Option Place) : Type 0 where
      neither : o ≡ None → there ≡ None → AreEndsOf o there
      between : (far other away : ℕ) → place_at far k ≡ Some other → far ≢ point → away < length (w.node far).exchange.settings.links
          → o ≡ Some (record { place = other; link = away }) → there ≡ Some (record { point = far; link = away }) → AreEndsOf o there

    module _ (link : ℕ) (l : LinkEntry) (is : slice_get c.links link ≡ Some l) where
      abbrev far_point : ℕ
      far_point = adjacent_of c l.set

      abbrev z : Configuration
      z = (w.node far_point).exchange.settings

      c-same : c ≡ s.settings point
      c-same = (s.fits point).settings

      far-apart : far_point ≢ point
      far-apart i =
          leads-apart s.settings (points_of k) s.placed point link l (ap (λ (d : Configuration). slice_get d.links link) (sym c-same) ∙ is)
          (ap (λ (d : Configuration). adjacent_of d l.set) (sym c-same) ∙ i)

      -- no link is at a point without a node
      none-there : place_at far_point k ≡ None → link_with_code z c.own l.slc ≡ None
      none-there g =
          let first : w.node far_point ≡ first_node (no_settings far_point) = subst (λ (o : Option KeptNode). IsNodeAt far_point o (w.node far_point)) (keeps-none k far_point g) (s.nodes far_point) in
          ap (λ (d : NetworkNode). link_with_code d.exchange.settings c.own l.slc) first

      leads-here : (o : Option ℕ) → link_with_code z c.own l.slc ≡ o → end_there c z (Some l) ≡ o
      leads-here o g =
          ap (λ (b : Bool). if b then link_with_code z c.own l.slc else None) (ap (nat_eq far_point) (own-point k w s far_point) ∙ itself-eq far_point) ∙ g

      ends-at : (other : ℕ) → place_at far_point k ≡ Some other → (o : Option ℕ) → link_with_code z c.own l.slc ≡ o
          → AreEndsOf (end_at c l other (Some (kept_node_of (w.node far_point)))) (option_map (λ (away : ℕ). record { point = far_point; link = away }) (link_with_code z c.own l.slc))
      ends-at other g None h =
          subst (λ (o : Option ℕ). AreEndsOf (option_map (λ (away : ℕ). record { place = other; link = away }) o) (option_map (λ (away : ℕ). record { point = far_point; link = away }) (link_with_code z c.own l.slc)))
          (sym (leads-here None h))
          (subst (λ (o : Option ℕ). AreEndsOf None (option_map (λ (away : ℕ). record { point = far_point; link = away }) o)) (sym h) (neither refl refl))
      ends-at other g (Some away) h =
          subst (λ (o : Option ℕ). AreEndsOf (option_map (λ (away : ℕ). record { place = other; link = away }) o) (option_map (λ (away : ℕ). record { point = far_point; link = away }) (link_with_code z c.own l.slc)))
          (sym (leads-here (Some away) h))
          (subst (λ (o : Option ℕ). AreEndsOf (Some (record { place = other; link = away })) (option_map (λ (away : ℕ). record { point = far_point; link = away }) o)) (sym h)
          (between far_point other away g far-apart (far-there c z (Some l) away (leads-here (Some away) h)) refl refl))

      ends-by : (o : Option ℕ) → place_at far_point k ≡ o
          → AreEndsOf (option_and_then (λ (q : ℕ). end_at c l q (slice_get k q)) o) (place_there w c (Some l))
      ends-by None g = subst (λ (o : Option ℕ). AreEndsOf None (option_map (λ (away : ℕ). record { point = far_point; link = away }) o)) (sym (none-there g)) (neither refl refl)
      ends-by (Some other) g =
          subst (λ (o : Option KeptNode). AreEndsOf (end_at c l other o) (place_there w c (Some l))) (sym (steps.far-got k w s point place e far_point other g far-apart))
          (ends-at other g (link_with_code z c.own l.slc) refl)

    ends-of : (link : ℕ) (entry : Option LinkEntry) → slice_get c.links link ≡ entry → AreEndsOf (end_by k c entry) (place_there w c entry)
    ends-of link None is = neither refl refl
    ends-of link (Some l) is = ends-by link l is (place_at (adjacent_of c l.set) k) refl

    -- where there is none
    pub sent-alone : (link : ℕ) (frame : Option FrameValue) → IsNodeSame (node_takes link n) (if_any frame) (sent_by frame link x)
        → IsTurn (points_of k) (one_turned place (node_takes link) (slice_get k place) k) (if_any frame) (take_frame frame point link None w)
    sent-alone link None same =
        subst (λ (o : Option KeptNode). IsTurn (points_of k) (one_turned place (node_takes link) o k) Ignored w) (sym got)
        (record {
          outcome_same = same.outcome_same;
          points_same = points-same k point place (node_takes link n).left e own-x;
          nodes =
              put-nodes k point place (node_takes link n).left e own-x w w s.nodes same.node (λ other d. refl);
        })
    sent-alone link (Some frame) same = steps.one-by k w s point place e (node_takes link) _ (sends link) same own-x

    none-opens : (wish : Wants) (may : Bool) (link : ℕ) → IsTurn (points_of k) (network_ignored k) (first_outcome wish may None) (opens_first wish may point link None w)
    none-opens wants.Open true link = record { outcome_same = refl; points_same = refl; nodes = s.nodes }
    none-opens wants.Open false link = record { outcome_same = refl; points_same = refl; nodes = s.nodes }
    none-opens wants.Nothing may link = record { outcome_same = refl; points_same = refl; nodes = s.nodes }
    none-opens wants.Close may link = record { outcome_same = refl; points_same = refl; nodes = s.nodes }

    abbrev Fetched : (link : ℕ) → Option KeptPlace → Option Place → Type 0
    Fetched link o there =
        IsTurn (points_of k) (reached_by reach.Fetch place link o k) (if_any (frame_to_take whole x.exchange link)) (take_frame (frame_to_take whole x.exchange link) point link there w)

    take-by : (link : ℕ) (o : Option KeptPlace) (there : Option Place) → AreEndsOf o there → Fetched link o there
    take-by link o there (neither e f) =
        subst (λ (p : Option KeptPlace). Fetched link p there) (sym e)
        (subst (λ (p : Option Place). Fetched link None p) (sym f) (sent-alone link (frame_to_take whole x.exchange link) (take-alone x x-sound link)))
    take-by link o there (between far other away g apart inside at f) =
        subst (λ (p : Option KeptPlace). Fetched link p there) (sym at)
        (subst (λ (p : Option Place). Fetched link (Some (record { place = other; link = away })) p) (sym f) (steps.fetch-turn k w s point place e far other g apart link away inside))

    abbrev Opened : (link : ℕ) → Option KeptPlace → Option Place → Type 0
    Opened link o there =
        IsTurn (points_of k) (reached_by reach.Open place link o k) (first_outcome (wants_of x.exchange link) (may_open_there w there) there)
        (opens_first (wants_of x.exchange link) (may_open_there w there) point link there w)

    open-by : (link : ℕ) (o : Option KeptPlace) (there : Option Place) → AreEndsOf o there → Opened link o there
    open-by link o there (neither e f) =
        subst (λ (p : Option KeptPlace). Opened link p there) (sym e)
        (subst (λ (p : Option Place). Opened link None p) (sym f) (none-opens (wants_of x.exchange link) false link))
    open-by link o there (between far other away g apart inside at f) =
        subst (λ (p : Option KeptPlace). Opened link p there) (sym at)
        (subst (λ (p : Option Place). Opened link (Some (record { place = other; link = away })) p) (sym f) (steps.open-turn k w s point place e far other g apart link away inside))

    other-ends : (link : ℕ) → AreEndsOf (kept_other_end k (slice_get k place) link) (other_end w point link)
    other-ends link =
        subst (λ (o : Option KeptNode). AreEndsOf (kept_other_end k o link) (other_end w point link)) (sym got)
        (ends-of link (slice_get c.links link) refl)

    some-alike : (o : Option KeptPlace) (there : Option Place) → AreEndsOf o there → is_some o ≡ is_some there
    some-alike o there (neither e f) = ap (λ (p : Option KeptPlace). is_some p) e ∙ sym (ap (λ (p : Option Place). is_some p) f)
    some-alike o there (between far other away g apart inside at f) = ap (λ (p : Option KeptPlace). is_some p) at ∙ sym (ap (λ (p : Option Place). is_some p) f)

    -- there is one in what is kept, if there is one
    pub ends-there : (link : ℕ) → is_some (kept_other_end k (slice_get k place) link) ≡ is_some (other_end w point link)
    ends-there link = some-alike (kept_other_end k (slice_get k place) link) (other_end w point link) (other-ends link)

    -- ---- whatever is done there

    did-turn : (what : Doing) → IsTurn (points_of k) (kept_did what place k) (did_outcome what point w) (did what point w)
    did-turn (Takes link) = take-by link (kept_other_end k (slice_get k place) link) (other_end w point link) (other-ends link)
    did-turn (OpensFirst link) = open-by link (kept_other_end k (slice_get k place) link) (other_end w point link) (other-ends link)
    did-turn (Submits m) = here-turn (Submits m)
    did-turn (Delivers link) = here-turn (Delivers link)
    did-turn (DeliversStatus link) = here-turn (DeliversStatus link)
    did-turn (LosesStatus link) = here-turn (LosesStatus link)
    did-turn (DoublesStatus link) = here-turn (DoublesStatus link)
    did-turn (Loses link) = here-turn (Loses link)
    did-turn Ticks = here-turn Ticks
    did-turn (Activates link emergency) = here-turn (Activates link emergency)
    did-turn (Deactivates link) = here-turn (Deactivates link)
    did-turn (Releases link) = here-turn (Releases link)
    did-turn (AddsTitle row refused) = here-turn (AddsTitle row refused)
    did-turn (SetsTitle row refused) = here-turn (SetsTitle row refused)
    did-turn (RemovesTitle key digits) = here-turn (RemovesTitle key digits)
    did-turn (OpensSecond link) = here-turn (OpensSecond link)

-- ---- at whatever point

module _ (k : List KeptNode) (w : NetworkState) (s : IsKept k w) (what : Doing) (point : ℕ) where
  abbrev step : Step
  step = record { point = point; what = what }

  turn-by : (o : Option ℕ) → place_at point k ≡ o → IsTurn (points_of k) (kept_did_at what o k) (step_outcome (is_some o) step w) (stepped (is_some o) step w)
  turn-by None e = record { outcome_same = refl; points_same = refl; nodes = s.nodes }
  turn-by (Some place) e = did-turn k w s point place e what

  pub turns : IsTurn (points_of k) (network_turn what point k) (step_outcome (has_node point k) step w) (stepped (has_node point k) step w)
  turns = turn-by (place_at point k) refl

module _ (k : List KeptNode) (w : NetworkState) (s : NetworkStandsFor k w) (what : Doing) (point : ℕ) where
  abbrev done : Step
  done = record { point = point; what = what }

  turn : IsTurn (points_of k) (network_turn what point k) (step_outcome (has_node point k) done w) (stepped (has_node point k) done w)
  turn = turns k w (as-kept k w s) what point

  pub turn-outcome : (network_turn what point k).outcome ≡ step_outcome (has_node point k) done w
  turn-outcome = turn.outcome_same

  reached-by : (b : Bool) → IsNetworkReached (points_of k) (stepped b done w)
  reached-by true = reached-more (Within done) w s.reached
  reached-by false = s.reached

  pub turn-stands : NetworkStandsFor (network_turn what point k).left (stepped (has_node point k) done w)
  turn-stands = record {
    reached =
        subst (λ (points : List ℕ). IsNetworkReached points (stepped (has_node point k) done w)) (sym turn.points_same)
        (reached-by (has_node point k));
    nodes = turn.nodes;
  }
