-- What holds of each node, and of all together, of a network each of whose links has its other end in it.
use Rattle.std.proofs.Common.{◌≡◌, ◌<◌, ℕ, List, length, refl, ap, sym, subst, ◌∙◌}
use Rattle.std.specs.Prelude.{is_some}
use Rattle.settings.specs.Configuration.{Configuration}
use Rattle.network_rules.specs.Networks.{NetworkState, first_network}
use Rattle.network_rules.specs.Outside.{Move, after_move}
use Rattle.network_rules.proofs.Joined.{HasOther, ends-are, has-other}
use Rattle.network_rules.proofs.Outside.{move-keeps}
use Rattle.node_law.specs.Alike.{AreLinked, IsRunOfNodes}
use Rattle.node_law.specs.Ends.{Always, TakesOrRefuses}
use Rattle.node_law.proofs.PassedOn.{all-taken}
use Rattle.node_law.proofs.Runs.{are-runs}
use Rattle.network_world.specs.KeptNetworks.{points_of}
use Rattle.network_world.specs.KeptNodes.{KeptNode}
use Rattle.network_world.specs.NetworkPromised.{ShareAll}
use Rattle.network_world.specs.NetworkStands.{IsNetworkReached, NetworkStandsFor}
use Rattle.network_world.proofs.EndToEnd.{joined}
use Rattle.network_world.proofs.NodeFits.{reached-fit}

-- settings never change, so each link has its other end there ever after
pub linked-on : (w : NetworkState) → AreLinked w → (move : Move) → AreLinked (after_move move w)
linked-on w linked move = λ point link inside.
    let settings : (point : ℕ) → Configuration = λ k. (w.node k).exchange.settings in
    ap is_some (ends-are settings (after_move move w) (move-keeps move w) point link ∙ sym (ends-are settings w (λ k. refl) point link))
    ∙ linked point link (subst (λ (c : Configuration). link < length c.links) (move-keeps move w point) inside)

module _ (k : List KeptNode) (w : NetworkState) (s : NetworkStandsFor k w) where
  abbrev r : IsNetworkReached (points_of k) w
  r = s.reached

  settings-same : (point : ℕ) → (w.node point).exchange.settings ≡ r.settings point
  settings-same point = (reached-fit w r point).settings

  -- wherever links lead
  pub taken : (point : ℕ) → TakesOrRefuses w point
  taken point = subst (λ (u : NetworkState). TakesOrRefuses u point) (sym r.by) (all-taken r.settings r.moves point)

  -- each has its other end there, where each leads to a node with which its own shares a set
  pub shared-linked : ShareAll w → AreLinked w
  shared-linked all = λ point link inside.
      let its : HasOther r.settings (points_of k) (joined k w s all) point link =
      has-other r.settings (points_of k) (joined k w s all) point link (subst (λ (c : Configuration). link < length c.links) (settings-same point) inside) in
      ap is_some (ends-are r.settings w settings-same point link ∙ its.is)

  module _ (linked : AreLinked w) where
    first-linked : AreLinked (first_network r.settings)
    first-linked = λ point link inside.
        ap is_some (ends-are r.settings (first_network r.settings) (λ p. refl) point link ∙ sym (ends-are r.settings w settings-same point link))
        ∙ linked point link (subst (λ (c : Configuration). link < length c.links) (sym (settings-same point)) inside)

    pub always : (Statement : (points : List ℕ) → NetworkState → Type 0) → Always Statement → Statement (points_of k) w
    always Statement holds = subst (Statement (points_of k)) (sym r.by) (holds r.settings (points_of k) r.moves r.placed first-linked)

    pub is-run : IsRunOfNodes w
    is-run = subst IsRunOfNodes (sym r.by) (are-runs r.settings (points_of k) r.moves r.placed first-linked)
