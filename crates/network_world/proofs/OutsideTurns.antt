-- A network that stood for an abstract one stands for that after what comes by a link that leads out, or goes out by
-- it.
use Rattle.std.proofs.Common.{arith, ◌≡◌, ◌<◌, ℕ, Bool, true, false, not, List, [], ◌∷◌, length, Option, Some, None, nat_eq, refl, ap, sym, subst, ◌∙◌}
use Rattle.std.specs.Prelude.{nat_lt, position, slice_get}
use Rattle.std.proofs.lemmas.Bool.Decides.{nat_tests}
use Rattle.std.specs.Option.{option_and_then, option_map}
use Rattle.signalling_types.specs.declared.outcome.Outcome.{Outcome}
use Rattle.signalling_types.specs.declared.outcome.Outcome.TheVariants.{Ignored}
use Rattle.settings.specs.Configuration.{Configuration, LinkEntry, SetEntry}
use Rattle.m2pa_codec.specs.Frames.{FrameValue}
use Rattle.exchange_rules.specs.Exchange.{frame_to_take, outcome_of}
use Rattle.exchange_rules.specs.First.{IsSound}
use Rattle.exchange_rules.specs.Messages.{link_in_set}
use Rattle.exchange_rules.specs.Queues.{whole}
use Rattle.exchange_rules.specs.Routing.{adjacent_of}
use Rattle.exchange_rules.specs.State.{CameUp, FrameCame, Happening}
use Rattle.pair_rules.specs.Pairs.{Takes}
use Rattle.network_rules.specs.Networks.{NetworkNode, NetworkState, Place, Step, changed, happens, place_there, take_frame}
use Rattle.network_rules.specs.Outside.{HearsOutside, Move, OpensOutside, Within, after_move, hears, hears_outside, is_within, leads_out, leads_out_by, opens_outside, speaks_within}
use Rattle.network_world.specs.KeptNodes.{KeptNode, NodeTurn, kept_node_of, node_happens, node_takes}
use Rattle.network_world.specs.KeptNetworks.{NetworkTurn, network_ignored, one_turned, place_at, points_of}
use Rattle.network_world.specs.KeptOutside.{FrameOut, comes_outside, kept_hears_outside, kept_opens_outside, kept_sends_outside, kept_speaks_within, node_hears_outside, sent_out}
use Rattle.network_world.specs.NetworkStands.{IsNetworkReached, NetworkStandsFor, if_any, outside_outcome, sent_outside, stepped}
use Rattle.network_world.proofs.AsKept.{IsKept, as-kept, own-point}
use Rattle.network_world.proofs.LeadingOut.{leads-same, none-out, speaks-same}
use Rattle.network_world.proofs.NetworkSteps as steps
use Rattle.network_world.proofs.NetworkSteps.{AreNodes, IsTurn, reached-more}
use Rattle.network_world.proofs.NodeFits.{reached-fit}
use Rattle.network_world.proofs.NetworkTurns.{sent-alone}
use Rattle.network_world.proofs.NodeReaches.{take-alone, text-same}
use Rattle.network_world.proofs.NodeRules.{IsNodeSame, frame-node, happens-same}

module _ (k : List KeptNode) (w : NetworkState) (s : NetworkStandsFor k w) where
  abbrev k-is : IsKept k w
  k-is = as-kept k w s

  idle : IsTurn (points_of k) (network_ignored k) Ignored w
  idle = record { outcome_same = refl; points_same = refl; nodes = s.nodes }

  -- ---- at a node whose place is known

  module _ (point place : ℕ) (e : place_at point k ≡ Some place) where
    abbrev x : NetworkNode
    x = w.node point

    x-sound : IsSound x.exchange
    x-sound = steps.x-sound k w k-is point place e

    got : slice_get k place ≡ Some (kept_node_of x)
    got = steps.got k w k-is point place e

    -- something comes, if it may
    comes-turn : (out speaks : Bool) (done : KeptNode → NodeTurn) (what : Happening) (change : NetworkNode → NetworkNode) (v : NetworkState)
        → IsNodeSame (done (kept_node_of x)) (outcome_of whole what x.exchange) (change x) → (change x).exchange.settings ≡ x.exchange.settings
        → (out ≡ true → speaks ≡ false → changed point change w ≡ v) → (out ≡ false → w ≡ v) → (speaks ≡ true → w ≡ v)
        → IsTurn (points_of k) (comes_outside out speaks place done k) (outside_outcome out speaks what x) v
    comes-turn true false done what change v same kept does idles still =
        subst (IsTurn (points_of k) (one_turned place done (slice_get k place) k) (outcome_of whole what x.exchange)) (does refl refl)
        (steps.one-by k w k-is point place e done (outcome_of whole what x.exchange) change same
        (ap (λ (c : Configuration). c.own) kept ∙ own-point k w k-is point))
    comes-turn true true done what change v same kept does idles still = subst (IsTurn (points_of k) (network_ignored k) Ignored) (still refl) idle
    comes-turn false speaks done what change v same kept does idles still = subst (IsTurn (points_of k) (network_ignored k) Ignored) (idles refl) idle

    open-turn : (link : ℕ) (out : Bool)
        → IsTurn (points_of k) (comes_outside out false place (node_happens (CameUp link)) k) (outside_outcome out false (CameUp link) x) (opens_outside out point link w)
    open-turn link out =
        comes-turn out false (node_happens (CameUp link)) (CameUp link) (happens (CameUp link)) (opens_outside out point link w)
        (happens-same x x-sound (reached-fit w s.reached point).fits.places (CameUp link)) refl
        (λ f g. ap (λ (b : Bool). opens_outside b point link w) (sym f)) (λ f. ap (λ (b : Bool). opens_outside b point link w) (sym f)) (λ f. absurd cc)

    hear-turn : (link : ℕ) (text : List ℕ) (out speaks : Bool)
        → IsTurn (points_of k) (comes_outside out speaks place (node_hears_outside link text) k) (outside_outcome out speaks (FrameCame link text) x) (hears_outside out speaks point link text w)
    hear-turn link text out speaks =
        comes-turn out speaks (node_hears_outside link text) (FrameCame link text) (hears link text) (hears_outside out speaks point link text w)
        (frame-node x x-sound (reached-fit w s.reached point).fits.places link text x.incoming) refl
        (λ f g. ap (λ (b : Bool). hears_outside b false point link text w) (sym f) ∙ ap (λ (b : Bool). hears_outside out b point link text w) (sym g))
        (λ f. ap (λ (b : Bool). hears_outside b speaks point link text w) (sym f)) (λ f. still out f)
      where
        still : (b : Bool) → speaks ≡ true → w ≡ hears_outside b speaks point link text w
        still true f = ap (λ (d : Bool). hears_outside true d point link text w) (sym f)
        still false f = refl

  -- ---- at whatever point

  open-by : (point link : ℕ) (o : Option ℕ) → place_at point k ≡ o
      → IsTurn (points_of k) (kept_opens_outside o link k) (outside_outcome (leads_out w point link) false (CameUp link) (w.node point)) (after_move (OpensOutside point link) w)
  open-by point link None e =
      subst (λ (out : Bool). IsTurn (points_of k) (network_ignored k) (outside_outcome out false (CameUp link) (w.node point)) (opens_outside out point link w)) (sym (none-out k w k-is point link e)) idle
  open-by point link (Some place) e =
      subst (λ (out : Bool). IsTurn (points_of k) (comes_outside out false place (node_happens (CameUp link)) k) (outside_outcome (leads_out w point link) false (CameUp link) (w.node point))
      (opens_outside (leads_out w point link) point link w)) (sym (leads-same k w k-is point place e link)) (open-turn point place e link (leads_out w point link))

  hear-by : (point link : ℕ) (text : List ℕ) (o : Option ℕ) → place_at point k ≡ o
      → IsTurn (points_of k) (kept_hears_outside o link text k) (outside_outcome (leads_out w point link) (speaks_within w text) (FrameCame link text) (w.node point))
      (after_move (HearsOutside point link text) w)
  hear-by point link text None e =
      subst (λ (out : Bool). IsTurn (points_of k) (network_ignored k) (outside_outcome out (speaks_within w text) (FrameCame link text) (w.node point)) (hears_outside out (speaks_within w text) point link text w))
      (sym (none-out k w k-is point link e)) idle
  hear-by point link text (Some place) e =
      let out : Bool = leads_out w point link in
      let speaks : Bool = speaks_within w text in
      subst (λ (b : Bool). IsTurn (points_of k) (comes_outside b (kept_speaks_within k text) place (node_hears_outside link text) k) (outside_outcome out speaks (FrameCame link text) (w.node point))
      (hears_outside out speaks point link text w)) (sym (leads-same k w k-is point place e link))
      (subst (λ (b : Bool). IsTurn (points_of k) (comes_outside out b place (node_hears_outside link text) k) (outside_outcome out speaks (FrameCame link text) (w.node point))
      (hears_outside out speaks point link text w)) (sym (speaks-same k w k-is text)) (hear-turn point place e link text out speaks))

  stands-by : (t : NetworkTurn) (outcome : Outcome) (move : Move) → IsTurn (points_of k) t outcome (after_move move w) → NetworkStandsFor t.left (after_move move w)
  stands-by t outcome move turn = record {
    reached = subst (λ (points : List ℕ). IsNetworkReached points (after_move move w)) (sym turn.points_same) (reached-more move w s.reached);
    nodes = turn.nodes;
  }

  pub open-outcome : (point link : ℕ) → (kept_opens_outside (place_at point k) link k).outcome ≡ outside_outcome (leads_out w point link) false (CameUp link) (w.node point)
  open-outcome point link = (open-by point link (place_at point k) refl).outcome_same

  pub open-stands : (point link : ℕ) → NetworkStandsFor (kept_opens_outside (place_at point k) link k).left (after_move (OpensOutside point link) w)
  open-stands point link = stands-by _ _ (OpensOutside point link) (open-by point link (place_at point k) refl)

  pub hear-outcome : (point link : ℕ) (text : List ℕ)
      → (kept_hears_outside (place_at point k) link text k).outcome ≡ outside_outcome (leads_out w point link) (speaks_within w text) (FrameCame link text) (w.node point)
  hear-outcome point link text = (hear-by point link text (place_at point k) refl).outcome_same

  pub hear-stands : (point link : ℕ) (text : List ℕ) → NetworkStandsFor (kept_hears_outside (place_at point k) link text k).left (after_move (HearsOutside point link text) w)
  hear-stands point link text = stands-by _ _ (HearsOutside point link text) (hear-by point link text (place_at point k) refl)

  -- ---- what goes out

  above : (n : ℕ) → 0 < n → nat_lt 0 n ≡ true
  above n l = grind (arith, nat_tests, l)

  -- no link is at a point at which no node is
  no-place : (sets : List SetEntry) (point : ℕ) → nat_lt 0 (length sets) ≡ false → position (λ (s : SetEntry). nat_eq point s.adjacent) sets ≡ None
  no-place [] point e = refl
  no-place (s ∷ sets) point e = absurd (let no : true ≡ false = sym (above (length (s ∷ sets)) (omega arith)) ∙ e in cc)

  not-true : (b : Bool) → not b ≡ true → b ≡ false
  not-true false e = refl
  not-true true e = absurd cc

  no-end : (c : Configuration) (entry : Option LinkEntry) → leads_out_by w c entry ≡ true → place_there w c entry ≡ None
  no-end c None e = refl
  no-end c (Some l) e =
      let far : ℕ = adjacent_of c l.set in
      let z : Configuration = (w.node far).exchange.settings in
      ap (λ (set : Option ℕ). option_map (λ (other : ℕ). record { point = far; link = other }) (option_and_then (link_in_set z l.slc) set)) (no-place z.sets c.own (not-true (is_within w far) e))

  record IsSent (f : FrameOut) (text : Option (List ℕ)) (v : NetworkState) : Type 0 where
    text_same : f.text ≡ text
    points_same : points_of f.left ≡ points_of k
    nodes : AreNodes f.left v

  none-sent : IsSent (record { text = None; left = k }) None w
  none-sent = record { text_same = refl; points_same = refl; nodes = s.nodes }

  module _ (point link : ℕ) where
    abbrev sender : NetworkNode
    sender = w.node point

    abbrev frame : Option FrameValue
    frame = frame_to_take whole sender.exchange link

    abbrev takes : Step
    takes = record { point = point; what = Takes link }

    goes-nowhere : leads_out w point link ≡ true → take_frame frame point link None w ≡ stepped true takes w
    goes-nowhere e =
        ap (λ (there : Option Place). take_frame frame point link there w) (sym (no-end sender.exchange.settings (slice_get sender.exchange.settings.links link) e))

    send-turn : (place : ℕ) → place_at point k ≡ Some place → (out : Bool) → leads_out w point link ≡ out
        → IsSent (sent_out out place link (slice_get k place) k) (sent_outside out link sender) (stepped out takes w)
    send-turn place e false f = none-sent
    send-turn place e true f =
        let sound : IsSound sender.exchange = steps.x-sound k w k-is point place e in
        let n : KeptNode = kept_node_of sender in
        let at : slice_get k place ≡ Some n = steps.got k w k-is point place e in
        let turn : IsTurn (points_of k) (one_turned place (node_takes link) (Some n) k) (if_any frame) (stepped true takes w) =
        subst (λ (o : Option KeptNode). IsTurn (points_of k) (one_turned place (node_takes link) o k) (if_any frame) (stepped true takes w)) at
        (subst (IsTurn (points_of k) (one_turned place (node_takes link) (slice_get k place) k) (if_any frame)) (goes-nowhere f)
        (sent-alone k w k-is point place e link frame (take-alone sender sound link))) in
        subst (λ (o : Option KeptNode). IsSent (sent_out true place link o k) (sent_outside true link sender) (stepped true takes w)) (sym at)
        (record { text_same = text-same sender sound link; points_same = turn.points_same; nodes = turn.nodes })

    send-by : (o : Option ℕ) → place_at point k ≡ o
        → IsSent (kept_sends_outside o link k) (sent_outside (leads_out w point link) link sender) (stepped (leads_out w point link) takes w)
    send-by None e =
        subst (λ (out : Bool). IsSent (record { text = None; left = k }) (sent_outside out link sender) (stepped out takes w)) (sym (none-out k w k-is point link e)) none-sent
    send-by (Some place) e =
        subst (λ (out : Bool). IsSent (sent_out out place link (slice_get k place) k) (sent_outside (leads_out w point link) link sender) (stepped (leads_out w point link) takes w))
        (sym (leads-same k w k-is point place e link)) (send-turn place e (leads_out w point link) refl)

    sent : IsSent (kept_sends_outside (place_at point k) link k) (sent_outside (leads_out w point link) link sender) (stepped (leads_out w point link) takes w)
    sent = send-by (place_at point k) refl

    pub send-text : (kept_sends_outside (place_at point k) link k).text ≡ sent_outside (leads_out w point link) link sender
    send-text = sent.text_same

    reached-by : (b : Bool) → IsNetworkReached (points_of k) (stepped b takes w)
    reached-by true = reached-more (Within takes) w s.reached
    reached-by false = s.reached

    pub send-stands : NetworkStandsFor (kept_sends_outside (place_at point k) link k).left (stepped (leads_out w point link) takes w)
    send-stands = record {
      reached =
          subst (λ (points : List ℕ). IsNetworkReached points (stepped (leads_out w point link) takes w)) (sym sent.points_same) (reached-by (leads_out w point link));
      nodes = sent.nodes;
    }
