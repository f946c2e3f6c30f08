-- What a network promises from end to end.
use Rattle.std.proofs.Common.{◌≡◌, ◌<◌, ℕ, true, List, length, refl, ap, sym, subst, ◌∙◌}
use Rattle.settings.specs.Configuration.{Configuration}
use Rattle.exchange_rules.specs.Routing.{peer_of}
use Rattle.pair_rules.specs.Sharing.{AreSharing}
use Rattle.network_rules.specs.Networks.{NetworkState, first_network}
use Rattle.network_rules.specs.Totals.{ComeToPoint, HaveLostNothing, IsAccounted, IsJoined, is_listed}
use Rattle.network_rules.proofs.Accounted.{accounts}
use Rattle.network_rules.proofs.NoneOut.{AreOfSteps, of-steps}
use Rattle.network_rules.proofs.ToPoint.{ends-meet}
use Rattle.network_rules.specs.Outside.{Move, after_move}
use Rattle.network_rules.proofs.Outside.{move-keeps}
use Rattle.settings.specs.Sharing.{SharesSet}
use Rattle.network_world.specs.KeptNodes.{KeptNode}
use Rattle.network_world.specs.KeptNetworks.{points_of}
use Rattle.network_world.specs.NetworkPromised.{ComeToEach, ShareAll}
use Rattle.network_world.specs.NetworkStands.{IsNetworkReached, NetworkStandsFor}
use Rattle.network_world.proofs.NetworkLaws as laws
use Rattle.network_world.proofs.NetworkLaws.{sharing}
use Rattle.network_world.proofs.NodeFits.{reached-fit}

-- whatever is done changes no settings
pub shared-on : (w : NetworkState) → ShareAll w → (move : Move) → ShareAll (after_move move w)
shared-on w all move = λ point link less.
    let v : NetworkState = after_move move w in
    let own : Configuration = (w.node point).exchange.settings in
    subst (λ (c : Configuration). SharesSet c (v.node (peer_of c link)).exchange.settings) (sym (move-keeps move w point))
    (subst (λ (c : Configuration). SharesSet own c) (sym (move-keeps move w (peer_of own link)))
    (all point link (subst (λ (c : Configuration). link < length c.links) (move-keeps move w point) less)))

module _ (k : List KeptNode) (w : NetworkState) (s : NetworkStandsFor k w) (all : ShareAll w) where
  abbrev r : IsNetworkReached (points_of k) w
  r = laws.r k w s

  settings-same : (point : ℕ) → (w.node point).exchange.settings ≡ r.settings point
  settings-same point = (reached-fit w r point).settings

  -- each link is joined
  shared-by : (point link : ℕ) → link < length (w.node point).exchange.settings.links → AreSharing (r.settings point) (r.settings (peer_of (w.node point).exchange.settings link))
  shared-by point link less = sharing k w s point (peer_of (w.node point).exchange.settings link) (all point link less)

  pub joined : IsJoined r.settings (points_of k)
  joined = record {
    placed = r.placed;
    shared = λ point link less.
        subst (λ (c : Configuration). AreSharing (r.settings point) (r.settings (peer_of c link))) (settings-same point)
        (shared-by point link (subst (λ (c : Configuration). link < length c.links) (sym (settings-same point)) less));
  }

  -- so it comes of steps
  by-steps : AreOfSteps r.moves (first_network r.settings)
  by-steps = of-steps r.settings (points_of k) joined r.moves (first_network r.settings) (λ point. refl)

  pub each-accounted : HaveLostNothing (points_of k) w → IsAccounted (points_of k) w
  each-accounted =
      subst (λ (v : NetworkState). HaveLostNothing (points_of k) v → IsAccounted (points_of k) v) (sym (r.by ∙ by-steps.by))
      (accounts r.settings (points_of k) by-steps.steps joined)

  come-by : (point : ℕ) → is_listed (points_of k) point ≡ true → ((other : ℕ) → is_listed (points_of k) other ≡ true → (r.settings other).network ≡ (r.settings point).network)
      → HaveLostNothing (points_of k) w → ComeToPoint (points_of k) w (r.settings point)
  come-by point there one =
      subst (λ (v : NetworkState). HaveLostNothing (points_of k) v → ComeToPoint (points_of k) v (r.settings point)) (sym (r.by ∙ by-steps.by))
      (ends-meet r.settings (points_of k) by-steps.steps point joined there one)

  pub come-to-each : ComeToEach (points_of k) w
  come-to-each = λ point there one lost.
      subst (ComeToPoint (points_of k) w) (sym (settings-same point))
      (come-by point there
      (λ other is.
      ap (λ (c : Configuration). c.network) (sym (settings-same other)) ∙ one other is ∙ ap (λ (c : Configuration). c.network) (settings-same point))
      lost)
