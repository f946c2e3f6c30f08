-- Whatever is done, the nodes of a network stay at their points.
use Rattle.std.proofs.Common.{◌≡◌, ℕ, Bool, true, false, List, [], ◌∷◌, Option, Some, None, nat_eq, refl, ap, sym, subst, ◌∙◌}
use Rattle.std.specs.Prelude.{if◌then◌else◌, slice_get, slice_index_or, slice_set}
use Rattle.std.proofs.Math.Seq.{map-set_same}
use Rattle.std.proofs.lemmas.List.{map-set}
use Rattle.std.proofs.lemmas.Option.{get_or_from_slice_get}
use Rattle.signalling_types.specs.declared.outcome.Outcome.TheVariants.{Ignored}
use Rattle.settings.specs.Configuration.{Configuration}
use Rattle.exchange_rules.specs.declared.wants.Wants.{Wants}
use Rattle.exchange_rules.specs.declared.wants.Wants.TheVariants as wants
use Rattle.exchange_rules.specs.Exchange.{wants_of}
use Rattle.exchange.specs.Views.{may_restart_at}
use Rattle.network_rules.specs.Networks.{first_node}
use Rattle.pair_rules.specs.Pairs.{Doing, Submits, Takes, Delivers, DeliversStatus, LosesStatus, DoublesStatus, Loses, Ticks, Activates, Deactivates, Releases, AddsTitle, SetsTitle, RemovesTitle, OpensFirst, OpensSecond, Streams, in_flight, with_status_twice, without_data, without_status}
use Rattle.network_world.specs.declared.doing.Reach.{Reach}
use Rattle.network_world.specs.declared.doing.Reach.TheVariants as reach
use Rattle.network_world.specs.Joined.{no_settings}
use Rattle.network_world.specs.KeptAnew.{all_begin_anew, kept_gives_up, kept_restarts, node_gives_up, node_restarts, one_at}
use Rattle.network_world.specs.KeptNodes.{BothTurn, KeptNode, NodeTurn, both_did, both_open, both_take, kept_node_of, node_did, node_hears, node_of_site, node_takes, site_of_node}
use Rattle.network_world.specs.KeptNetworks.{KeptPlace, both_turned, kept_did, kept_did_at, kept_other_end, network_ignored, network_turn, one_turned, place_at, points_of, reached_at, reached_by}
use Rattle.network_world.specs.KeptSites.{has_link, site_changes, site_follows}
use Rattle.network_world.proofs.NodePlaces.{gets, has-point}

abbrev own : KeptNode → ℕ
own n = n.exchange.settings.own

-- ---- what is put in the place of a node that is at the same point

module _ (k : List KeptNode) (place : ℕ) (n : KeptNode) (is : slice_get k place ≡ Some n) where
  put-points : (m : KeptNode) → own m ≡ own n → points_of (slice_set k place m) ≡ points_of k
  put-points m same = map-set_same own k place m n (same ∙ sym (ap own (get_or_from_slice_get k place n n is)))

  both-points : (other : ℕ) (there : KeptNode) → slice_get k other ≡ Some there → (t : BothTurn) → own t.near ≡ own n → own t.far ≡ own there → points_of (both_turned place other t k).left ≡ points_of k
  both-points other there at t near far =
      map-set own (slice_set k place t.near) other t.far
      ∙ ap (λ (points : List ℕ). slice_set points other (own t.far)) (put-points t.near near)
      ∙ sym (map-set own k other t.far)
      ∙ map-set_same own k other t.far there (far ∙ sym (ap own (get_or_from_slice_get k other there there at)))

one-points : (k : List KeptNode) (place : ℕ) (done : KeptNode → NodeTurn) → ((n : KeptNode) → own (done n).left ≡ own n) → (o : Option KeptNode) → slice_get k place ≡ o
    → points_of (one_turned place done o k).left ≡ points_of k
one-points k place done stays None is = refl
one-points k place done stays (Some n) is = put-points k place n is (done n).left (stays n)

-- ---- a step

hears-own : (text : Option (List ℕ)) (link : ℕ) (left : Streams) (n : KeptNode) → own (node_hears text link left n).left ≡ own n
hears-own None link left n = refl
hears-own (Some text) link left n = refl

changes-own : (text : Option (List ℕ)) (left : Streams) (n : KeptNode) → own (node_of_site (site_changes text left (site_of_node n)) n).left ≡ own n
changes-own None left n = refl
changes-own (Some text) left n = refl

follows-own : (wish : Wants) (follows : Bool) (link : ℕ) (n : KeptNode) → own (node_of_site (site_follows wish follows link (site_of_node n)) n).left ≡ own n
follows-own wants.Open true link n = refl
follows-own wants.Open false link n = refl
follows-own wants.Nothing follows link n = refl
follows-own wants.Close follows link n = refl

did-own : (what : Doing) (n : KeptNode) → own (node_did what n).left ≡ own n
did-own (Submits m) n = refl
did-own (Delivers link) n = hears-own (slice_get (in_flight n.incoming.user_data link) 0) link (without_data link n.incoming) n
did-own (DeliversStatus link) n = hears-own (slice_get (in_flight n.incoming.statuses link) 0) link (without_status link n.incoming) n
did-own (LosesStatus link) n = changes-own (slice_get (in_flight n.incoming.statuses link) 0) (without_status link n.incoming) n
did-own (DoublesStatus link) n = changes-own (slice_get (in_flight n.incoming.statuses link) 0) (with_status_twice link n.incoming) n
did-own (Loses link) n = refl
did-own Ticks n = refl
did-own (Activates link emergency) n = refl
did-own (Deactivates link) n = refl
did-own (Releases link) n = refl
did-own (AddsTitle row refused) n = refl
did-own (SetsTitle row refused) n = refl
did-own (RemovesTitle key digits) n = refl
did-own (OpensSecond link) n = follows-own (wants_of n.exchange link) (slice_index_or n.following link false) link n
did-own (Takes link) n = refl
did-own (OpensFirst link) n = refl

record StayThere (t : BothTurn) (near far : KeptNode) : Type 0 where
  pub near_own : own t.near ≡ own near
  pub far_own : own t.far ≡ own far

fetch-own : (b : Bool) (link other : ℕ) (near far : KeptNode)
    → StayThere (if b then both_take link other near far else record { outcome = Ignored; near = near; far = far }) near far
fetch-own true link other near far = record { near_own = refl; far_own = refl }
fetch-own false link other near far = record { near_own = refl; far_own = refl }

open-own : (wish : Wants) (may : Bool) (link other : ℕ) (near far : KeptNode) → StayThere (both_open wish may link other near far) near far
open-own wants.Open true link other near far = record { near_own = refl; far_own = refl }
open-own wants.Open false link other near far = record { near_own = refl; far_own = refl }
open-own wants.Nothing may link other near far = record { near_own = refl; far_own = refl }
open-own wants.Close may link other near far = record { near_own = refl; far_own = refl }

both-own : (what : Reach) (link other : ℕ) (near far : KeptNode) → StayThere (both_did what link other near far) near far
both-own reach.Fetch link other near far = fetch-own (has_link other far.incoming) link other near far
both-own reach.Open link other near far = open-own (wants_of near.exchange link) (may_restart_at far.exchange other) link other near far

module _ (k : List KeptNode) (what : Reach) (place link : ℕ) where
  apart-points : (b : Bool) (far other : ℕ) (near there : KeptNode) → slice_get k place ≡ Some near → slice_get k far ≡ Some there
      → points_of (if b then network_ignored k else both_turned place far (both_did what link other near there) k).left ≡ points_of k
  apart-points true far other near there is at = refl
  apart-points false far other near there is at =
      let t : StayThere (both_did what link other near there) near there = both-own what link other near there in
      both-points k place near is far there at (both_did what link other near there) t.near_own t.far_own

  reached-points : (far other : ℕ) (near there : Option KeptNode) → slice_get k place ≡ near → slice_get k far ≡ there
      → points_of (reached_at what place link far other near there k).left ≡ points_of k
  reached-points far other (Some near) (Some there) is at = apart-points (nat_eq place far) far other near there is at
  reached-points far other (Some near) None is at = refl
  reached-points far other None there is at = refl

reach-points : (k : List KeptNode) (what : Reach) (place link : ℕ) (o : Option KeptPlace) → points_of (reached_by what place link o k).left ≡ points_of k
reach-points k what place link (Some there) = reached-points k what place link there.place there.link (slice_get k place) (slice_get k there.place) refl refl
reach-points k reach.Fetch place link None = one-points k place (node_takes link) (λ n. refl) (slice_get k place) refl
reach-points k reach.Open place link None = refl

did-points : (what : Doing) (place : ℕ) (k : List KeptNode) → points_of (kept_did what place k).left ≡ points_of k
did-points (Takes link) place k = reach-points k reach.Fetch place link (kept_other_end k (slice_get k place) link)
did-points (OpensFirst link) place k = reach-points k reach.Open place link (kept_other_end k (slice_get k place) link)
did-points (Submits m) place k = one-points k place (node_did (Submits m)) (did-own (Submits m)) (slice_get k place) refl
did-points (Delivers link) place k = one-points k place (node_did (Delivers link)) (did-own (Delivers link)) (slice_get k place) refl
did-points (DeliversStatus link) place k = one-points k place (node_did (DeliversStatus link)) (did-own (DeliversStatus link)) (slice_get k place) refl
did-points (LosesStatus link) place k = one-points k place (node_did (LosesStatus link)) (did-own (LosesStatus link)) (slice_get k place) refl
did-points (DoublesStatus link) place k = one-points k place (node_did (DoublesStatus link)) (did-own (DoublesStatus link)) (slice_get k place) refl
did-points (Loses link) place k = one-points k place (node_did (Loses link)) (did-own (Loses link)) (slice_get k place) refl
did-points Ticks place k = one-points k place (node_did Ticks) (did-own Ticks) (slice_get k place) refl
did-points (Activates link emergency) place k = one-points k place (node_did (Activates link emergency)) (did-own (Activates link emergency)) (slice_get k place) refl
did-points (Deactivates link) place k = one-points k place (node_did (Deactivates link)) (did-own (Deactivates link)) (slice_get k place) refl
did-points (Releases link) place k = one-points k place (node_did (Releases link)) (did-own (Releases link)) (slice_get k place) refl
did-points (AddsTitle row refused) place k = one-points k place (node_did (AddsTitle row refused)) (did-own (AddsTitle row refused)) (slice_get k place) refl
did-points (SetsTitle row refused) place k = one-points k place (node_did (SetsTitle row refused)) (did-own (SetsTitle row refused)) (slice_get k place) refl
did-points (RemovesTitle key digits) place k = one-points k place (node_did (RemovesTitle key digits)) (did-own (RemovesTitle key digits)) (slice_get k place) refl
did-points (OpensSecond link) place k = one-points k place (node_did (OpensSecond link)) (did-own (OpensSecond link)) (slice_get k place) refl

pub turn-points : (what : Doing) (point : ℕ) (k : List KeptNode) → points_of (network_turn what point k).left ≡ points_of k
turn-points what point k = by (place_at point k)
  where
    by : (o : Option ℕ) → points_of (kept_did_at what o k).left ≡ points_of k
    by (Some place) = did-points what place k
    by None = refl

-- ---- a node that starts again, or gives up following

pub restart-points : (c : Configuration) (k : List KeptNode) → points_of (kept_restarts c k).left ≡ points_of k
restart-points c k = by (place_at c.own k) refl
  where
    none : KeptNode
    none = kept_node_of (first_node (no_settings c.own))

    by : (o : Option ℕ) → place_at c.own k ≡ o → points_of (one_at o (node_restarts c) k).left ≡ points_of k
    by None e = refl
    by (Some place) e =
        let n : KeptNode = slice_index_or k place none in
        subst (λ (o : Option KeptNode). points_of (one_turned place (node_restarts c) o k).left ≡ points_of k) (sym (gets k c.own place none e))
        (put-points k place n (gets k c.own place none e) (node_restarts c n).left (sym (has-point k c.own place none e)))

pub give-points : (point link : ℕ) (k : List KeptNode) → points_of (kept_gives_up point link k).left ≡ points_of k
give-points point link k = by (place_at point k)
  where
    by : (o : Option ℕ) → points_of (one_at o (node_gives_up link) k).left ≡ points_of k
    by None = refl
    by (Some place) = one-points k place (node_gives_up link) (λ n. refl) (slice_get k place) refl

-- ---- books that begin anew

pub anew-points : (k : List KeptNode) → points_of (all_begin_anew k) ≡ points_of k
anew-points [] = refl
anew-points (n ∷ k) = ap (λ (points : List ℕ). own n ∷ points) (anew-points k)
