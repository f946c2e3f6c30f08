-- Each link has its other end in what is kept exactly if each has in the abstract network.
use Rattle.std.proofs.Common.{◌≡◌, ◌<◌, ℕ, false, true, List, length, Option, Some, None, is_some, refl, ap, sym, subst, ◌∙◌, arith}
use Rattle.network_rules.specs.Networks.{NetworkNode, NetworkState, first_node, other_end}
use Rattle.network_rules.specs.Totals.{is_listed}
use Rattle.node_law.specs.Alike.{AreLinked}
use Rattle.network_world.specs.Joined.{no_settings}
use Rattle.network_world.specs.KeptLinks.{AreAllLinked}
use Rattle.network_world.specs.KeptNetworks.{kept_other_end, place_at, points_of}
use Rattle.network_world.specs.KeptNodes.{KeptNode, kept_node_of}
use Rattle.network_world.specs.NetworkStands.{IsNodeAt, IsNodeOf}
use Rattle.network_world.proofs.AsKept.{IsKept}
use Rattle.network_world.proofs.Listed.{listed-kept}
use Rattle.network_world.proofs.NetworkSteps as steps
use Rattle.network_world.proofs.NetworkTurns.{ends-there}
use Rattle.network_world.proofs.NodePlaces.{keeps-none}
use Rattle.network_world.proofs.Quiet.{listed, node-of}

no-link : (k n : ℕ) → k < n → n ≡ 0 → ⊥
no-link k n l e = omega (arith, l, e)

module _ (k : List KeptNode) (w : NetworkState) (s : IsKept k w) where
  -- the other end of a link of the node at a place
  there-same : (point place link : ℕ) → place_at point k ≡ Some place → is_some (kept_other_end k (Some (kept_node_of (w.node point))) link) ≡ is_some (other_end w point link)
  there-same point place link e =
      ap (λ (o : Option KeptNode). is_some (kept_other_end k o link)) (sym (steps.got k w s point place e)) ∙ ends-there k w s point place e link

  one-linked : AreAllLinked k → (point link : ℕ) (o : Option ℕ) → place_at point k ≡ o → link < length (w.node point).exchange.settings.links → is_some (other_end w point link) ≡ true
  one-linked all point link None e inside =
      let first : w.node point ≡ first_node (no_settings point) = subst (λ (o : Option KeptNode). IsNodeAt point o (w.node point)) (keeps-none k point e) (s.nodes point) in
      absurd (no-link link (length (w.node point).exchange.settings.links) inside (ap (λ (x : NetworkNode). length x.exchange.settings.links) first))
  one-linked all point link (Some place) e inside =
      sym (there-same point place link e) ∙ all place (kept_node_of (w.node point)) (steps.got k w s point place e) link inside

  pub all-linked : AreAllLinked k → AreLinked w
  all-linked all = λ point link inside. one-linked all point link (place_at point k) refl inside

  pub linked-all : AreLinked w → AreAllLinked k
  linked-all linked = λ place n e link inside.
      let own : ℕ = n.exchange.settings.own in
      let its : IsNodeOf n (w.node own) = node-of k w s place n e in
      subst (λ (m : KeptNode). is_some (kept_other_end k (Some m) link) ≡ true) (sym its.kept)
      (by own (place_at own k) refl (listed k place n e) link (subst (λ (m : KeptNode). link < length m.exchange.settings.links) its.kept inside))
    where
      by : (point : ℕ) (o : Option ℕ) → place_at point k ≡ o → is_listed (points_of k) point ≡ true → (link : ℕ) → link < length (w.node point).exchange.settings.links
          → is_some (kept_other_end k (Some (kept_node_of (w.node point))) link) ≡ true
      by point None e there link inside =
          (let no : false ≡ true = sym (ap (λ (o : Option KeptNode). is_some o) (keeps-none k point e)) ∙ sym (listed-kept k point) ∙ there in absurd cc)
      by point (Some place) e there link inside = there-same point place link e ∙ linked point link inside
