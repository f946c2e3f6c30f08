-- What is done at one node of a network, alone or with another, is done to what is kept of them.
use Rattle.std.proofs.Common.{◌≡◌, ◌≢◌, ◌<◌, ℕ, Bool, true, false, List, [], ◌∷◌, ◌++◌, length, Option, Some, None, nat_eq, refl, ap, sym, subst, ◌∙◌}
use Rattle.std.specs.Prelude.{if◌then◌else◌, slice_get, slice_index_or, slice_set}
use Rattle.signalling_types.specs.declared.outcome.Outcome.{Outcome}
use Rattle.signalling_types.specs.declared.outcome.Outcome.TheVariants.{Ignored}
use Rattle.settings.specs.Configuration.{Configuration}
use Rattle.m2pa_codec.specs.Frames.{FrameValue}
use Rattle.exchange_rules.specs.declared.wants.Wants.{Wants}
use Rattle.exchange_rules.specs.declared.wants.Wants.TheVariants as wants
use Rattle.exchange_rules.specs.Exchange.{frame_to_take, wants_of}
use Rattle.exchange_rules.specs.First.{IsSound}
use Rattle.exchange_rules.specs.Queues.{whole}
use Rattle.pair_rules.specs.Pairs.{Doing, may_open_at}
use Rattle.network_rules.specs.Networks.{NetworkNode, NetworkState, changed, comes_up, did_here, end_of, first_network, is_led, opens_first, reaches, sends, take_frame}
use Rattle.network_rules.specs.Outside.{Move, after_move, after_moves}
use Rattle.network_rules.proofs.Places.{node-other, node-same}
use Rattle.network_world.specs.declared.doing.Reach.{Reach}
use Rattle.network_world.specs.declared.doing.Reach.TheVariants as reach
use Rattle.network_world.specs.KeptNodes.{BothTurn, KeptNode, NodeTurn, both_did, kept_node_of, node_did}
use Rattle.network_world.specs.KeptNetworks.{NetworkTurn, both_turned, kept_at, network_ignored, one_turned, place_at, points_of, reached_at}
use Rattle.network_world.specs.NetworkStands.{IsNetworkReached, IsNodeAt, IsNodeOf, first_outcome, here_outcome, if_any}
use Rattle.network_world.proofs.AsKept.{IsKept, own-point}
use Rattle.network_world.proofs.NodeFits.{Fits, here-fits}
use Rattle.network_world.proofs.NodePlaces.{equal, unlike, gets, has-point, keeps, places-same, points-same, put-nodes}
use Rattle.network_world.proofs.NodeReaches.{AreBothSame, fetch-same, led_by, open-same, open_outcome, opened_by, reached_with, sent_by}
use Rattle.network_world.proofs.NodeRules.{IsNodeSame, here-same}

-- ---- one move more

moves-more : (moves : List Move) (move : Move) (w : NetworkState) → after_moves (moves ++ move ∷ []) w ≡ after_move move (after_moves moves w)
moves-more [] move w = refl
moves-more (first ∷ moves) move w = moves-more moves move (after_move first w)

pub reached-more : {points : List ℕ} (move : Move) (w : NetworkState) → IsNetworkReached points w → IsNetworkReached points (after_move move w)
reached-more move w r = record {
  settings = r.settings;
  placed = r.placed;
  moves = r.moves ++ move ∷ [];
  by = ap (after_move move) r.by ∙ sym (moves-more r.moves move (first_network r.settings));
}

-- the nodes that are kept are those of a state
abbrev pub AreNodes : List KeptNode → NetworkState → Type 0
AreNodes k w = (point : ℕ) → IsNodeAt point (kept_at point k) (w.node point)

pub record IsTurn (points : List ℕ) (t : NetworkTurn) (outcome : Outcome) (w : NetworkState) : Type 0 where
  pub outcome_same : t.outcome ≡ outcome
  pub points_same : points_of t.left ≡ points
  pub nodes : AreNodes t.left w

module _ (k : List KeptNode) (w : NetworkState) (s : IsKept k w) where
  fits-at : (point : ℕ) → Fits (w.node point)
  fits-at point = (s.fits point).fits

  -- ---- a node whose place is known

  module _ (point place : ℕ) (e : place_at point k ≡ Some place) where
    abbrev x : NetworkNode
    x = w.node point

    abbrev n : KeptNode
    n = kept_node_of x

    is-node : IsNodeOf (slice_index_or k place n) x
    is-node = subst (λ (o : Option KeptNode). IsNodeAt point o x) (keeps k point place n e) (s.nodes point)

    pub x-sound : IsSound x.exchange
    x-sound = is-node.sound

    pub got : slice_get k place ≡ Some n
    got = gets k point place n e ∙ ap (λ (m : KeptNode). Some m) is-node.kept

    -- what was done there alone
    put-one : (t : NodeTurn) (outcome : Outcome) (change : NetworkNode → NetworkNode) → IsNodeSame t outcome (change x) → (change x).exchange.settings.own ≡ point
        → IsTurn (points_of k) (record { outcome = t.outcome; left = slice_set k place t.left }) outcome (changed point change w)
    put-one t outcome change same own = record {
      outcome_same = same.outcome_same;
      points_same = points-same k point place t.left e (ap (λ (m : KeptNode). m.exchange.settings.own) same.node.kept ∙ own);
      nodes =
          put-nodes k point place t.left e (ap (λ (m : KeptNode). m.exchange.settings.own) same.node.kept ∙ own) w (changed point change w) s.nodes
          (subst (λ (y : NetworkNode). IsNodeOf t.left y) (sym (node-same point change w)) same.node)
          (λ other d. node-other point other change w d);
    }

    pub one-by : (done : KeptNode → NodeTurn) (outcome : Outcome) (change : NetworkNode → NetworkNode) → IsNodeSame (done n) outcome (change x) → (change x).exchange.settings.own ≡ point
        → IsTurn (points_of k) (one_turned place done (slice_get k place) k) outcome (changed point change w)
    one-by done outcome change same own =
        subst (λ (o : Option KeptNode). IsTurn (points_of k) (one_turned place done o k) outcome (changed point change w)) (sym got)
        (put-one (done n) outcome change same own)

    pub own-x : x.exchange.settings.own ≡ point
    own-x = own-point k w s point

    -- its point stays the same
    own-here : (what : Doing) → (did_here what x).exchange.settings.own ≡ point
    own-here what =
        ap (λ (d : Configuration). d.own) (here-fits (s.settings point) x (s.fits point) what).settings ∙ s.placed.own point

    -- what is done here alone
    pub here-turn : (what : Doing) → IsTurn (points_of k) (one_turned place (node_did what) (slice_get k place) k) (here_outcome what x) (changed point (did_here what) w)
    here-turn what = one-by (node_did what) (here_outcome what x) (did_here what) (here-same x x-sound (fits-at point).places what) (own-here what)

    -- ---- with another node, whose place is known too

    module _ (far other : ℕ) (f : place_at far k ≡ Some other) (apart : far ≢ point) where
      abbrev y : NetworkNode
      y = w.node far

      abbrev m : KeptNode
      m = kept_node_of y

      far-node : IsNodeOf (slice_index_or k other m) y
      far-node = subst (λ (o : Option KeptNode). IsNodeAt far o y) (keeps k far other m f) (s.nodes far)

      pub far-got : slice_get k other ≡ Some m
      far-got = gets k far other m f ∙ ap (λ (z : KeptNode). Some z) far-node.kept

      -- both are put where they were
      module _ (t : BothTurn) (outcome : Outcome) (near_after far_after : NetworkNode) (v : NetworkState) (same : AreBothSame t outcome near_after far_after)
          (near_own : near_after.exchange.settings.own ≡ point) (far_own : far_after.exchange.settings.own ≡ far) (at_near : v.node point ≡ near_after) (at_far : v.node far ≡ far_after)
          (thirds : (third : ℕ) → third ≢ point → third ≢ far → v.node third ≡ w.node third) where
        near-point : t.near.exchange.settings.own ≡ point
        near-point = ap (λ (z : KeptNode). z.exchange.settings.own) same.near_node.kept ∙ near_own

        far-point : t.far.exchange.settings.own ≡ far
        far-point = ap (λ (z : KeptNode). z.exchange.settings.own) same.far_node.kept ∙ far_own

        abbrev becomes : NetworkNode → NetworkNode
        becomes z = near_after

        abbrev mid : NetworkState
        mid = changed point becomes w

        mid-nodes : AreNodes (slice_set k place t.near) mid
        mid-nodes =
            put-nodes k point place t.near e near-point w mid s.nodes
            (subst (λ (z : NetworkNode). IsNodeOf t.near z) (sym (node-same point becomes w)) same.near_node)
            (λ third d. node-other point third becomes w d)

        mid-same : (third : ℕ) → third ≢ far → v.node third ≡ mid.node third
        mid-same third d = by (nat_eq third point) refl
          where
            by : (b : Bool) → nat_eq third point ≡ b → v.node third ≡ mid.node third
            by true g =
                subst (λ (p : ℕ). v.node p ≡ mid.node p) (sym (equal third point g)) (at_near ∙ sym (node-same point becomes w))
            by false g = thirds third (unlike third point g) d ∙ sym (node-other point third becomes w (unlike third point g))

        put-both : IsTurn (points_of k) (both_turned place other t k) outcome v
        put-both = record {
          outcome_same = same.outcome_same;
          points_same =
              points-same (slice_set k place t.near) far other t.far (places-same k point place t.near e near-point far ∙ f) far-point
              ∙ points-same k point place t.near e near-point;
          nodes =
              put-nodes (slice_set k place t.near) far other t.far (places-same k point place t.near e near-point far ∙ f) far-point mid v mid-nodes
              (subst (λ (z : NetworkNode). IsNodeOf t.far z) (sym at_far) same.far_node)
              mid-same;
        }

      own-y : y.exchange.settings.own ≡ far
      own-y = own-point k w s far

      -- two changes
      both-changed : (t : BothTurn) (outcome : Outcome) (change lead : NetworkNode → NetworkNode) → AreBothSame t outcome (change x) (lead y)
          → (change x).exchange.settings.own ≡ point → (lead y).exchange.settings.own ≡ far
          → IsTurn (points_of k) (both_turned place other t k) outcome (changed far lead (changed point change w))
      both-changed t outcome change lead same near_own far_own =
          put-both t outcome (change x) (lead y) (changed far lead (changed point change w)) same near_own far_own
          (node-other far point lead (changed point change w) (λ i. apart (sym i)) ∙ node-same point change w)
          (node-same far lead (changed point change w) ∙ ap lead (node-other point far change w apart))
          (λ third d g. node-other far third lead (changed point change w) g ∙ node-other point third change w d)

      module _ (link away : ℕ) where
        taken-by : (t : BothTurn) (frame : Option FrameValue) → AreBothSame t (if_any frame) (sent_by frame link x) (reached_with frame away y)
            → IsTurn (points_of k) (both_turned place other t k) (if_any frame) (take_frame frame point link (Some (record { point = far; link = away })) w)
        taken-by t None same = put-both t Ignored x y w same own-x own-y refl refl (λ third d g. refl)
        taken-by t (Some frame) same = both-changed t _ (sends link) (reaches frame away) same own-x own-y

        opened-by : (t : BothTurn) (wish : Wants) (may : Bool) → AreBothSame t (open_outcome wish may) (opened_by wish may link x) (led_by wish may away y)
            → IsTurn (points_of k) (both_turned place other t k) (first_outcome wish may (Some (record { point = far; link = away }))) (opens_first wish may point link (Some (record { point = far; link = away })) w)
        opened-by t wants.Open true same = both-changed t _ (comes_up link) (is_led away) same own-x own-y
        opened-by t wants.Open false same = put-both t Ignored x y w same own-x own-y refl refl (λ third d g. refl)
        opened-by t wants.Nothing may same = put-both t Ignored x y w same own-x own-y refl refl (λ third d g. refl)
        opened-by t wants.Close may same = put-both t Ignored x y w same own-x own-y refl refl (λ third d g. refl)

        -- the two places differ
        places-apart : nat_eq place other ≡ false
        places-apart = by (nat_eq place other) refl
          where
            by : (b : Bool) → nat_eq place other ≡ b → nat_eq place other ≡ false
            by false g = g
            by true g =
                absurd (apart (sym (has-point k far other n f) ∙ ap (λ (p : ℕ). (slice_index_or k p n).exchange.settings.own) (sym (equal place other g)) ∙ has-point k point place n e))

        reached-so : (what : Reach) (outcome : Outcome) (v : NetworkState) → IsTurn (points_of k) (both_turned place other (both_did what link away n m) k) outcome v
            → IsTurn (points_of k) (reached_at what place link other away (slice_get k place) (slice_get k other) k) outcome v
        reached-so what outcome v turn =
            subst (λ (o : Option KeptNode). IsTurn (points_of k) (reached_at what place link other away o (slice_get k other) k) outcome v) (sym got)
            (subst (λ (o : Option KeptNode). IsTurn (points_of k) (reached_at what place link other away (Some n) o k) outcome v) (sym far-got)
            (subst (λ (b : Bool). IsTurn (points_of k) (if b then network_ignored k else both_turned place other (both_did what link away n m) k) outcome v) (sym places-apart) turn))

        module _ (there : away < length y.exchange.settings.links) where
          pub fetch-turn : IsTurn (points_of k) (reached_at reach.Fetch place link other away (slice_get k place) (slice_get k other) k) (if_any (frame_to_take whole x.exchange link))
              (take_frame (frame_to_take whole x.exchange link) point link (Some (record { point = far; link = away })) w)
          fetch-turn =
              reached-so reach.Fetch _ _
              (taken-by (both_did reach.Fetch link away n m) (frame_to_take whole x.exchange link)
              (fetch-same x x-sound link y far-node.sound (fits-at far) away there))

          pub open-turn : IsTurn (points_of k) (reached_at reach.Open place link other away (slice_get k place) (slice_get k other) k)
              (first_outcome (wants_of x.exchange link) (may_open_at (end_of y) away) (Some (record { point = far; link = away })))
              (opens_first (wants_of x.exchange link) (may_open_at (end_of y) away) point link (Some (record { point = far; link = away })) w)
          open-turn =
              reached-so reach.Open _ _
              (opened-by (both_did reach.Open link away n m) (wants_of x.exchange link) (may_open_at (end_of y) away)
              (open-same x x-sound link y far-node.sound (fits-at far) away there))
