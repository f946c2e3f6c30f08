-- What holds of each hop, each node, and all together since the books began anew, where each link has its other end in the network.
use Rattle.std.proofs.Common.{◌≡◌, ◌<◌, ℕ, List, length, refl, ap, sym, subst, ◌∙◌}
use Rattle.std.specs.Prelude.{is_some}
use Rattle.settings.specs.Configuration.{Configuration}
use Rattle.network_rules.specs.Anew.{Change}
use Rattle.network_rules.specs.Networks.{NetworkState, first_network}
use Rattle.network_rules.proofs.Joined.{ends-are}
use Rattle.network_rules.proofs.Reached.{changes-keep}
use Rattle.node_law.specs.Alike.{AreLinked}
use Rattle.node_law.specs.Anew.{AlwaysFrom}
use Rattle.network_world.specs.KeptNodes.{KeptNode}
use Rattle.network_world.specs.KeptNetworks.{points_of}
use Rattle.network_world.specs.NetworkAnew.{IsChanged, RunsSince, since}
use Rattle.network_world.proofs.ChangedFits.{from-fits}

-- two networks of the same settings
linked-alike : (w v : NetworkState) → ((point : ℕ) → (v.node point).exchange.settings ≡ (w.node point).exchange.settings) → AreLinked w → AreLinked v
linked-alike w v same linked = λ point link inside.
    let settings : (point : ℕ) → Configuration = λ p. (w.node p).exchange.settings in
    ap is_some (ends-are settings v same point link ∙ sym (ends-are settings w (λ p. refl) point link))
    ∙ linked point link (subst (λ (c : Configuration). link < length c.links) (same point) inside)

since-keeps : (from : NetworkState) (changes : List Change) (point : ℕ) → ((since from changes).node point).exchange.settings ≡ (from.node point).exchange.settings
since-keeps from changes point = changes-keep changes _ point

pub linked-since : (from : NetworkState) (changes : List Change) → AreLinked from → AreLinked (since from changes)
linked-since from changes = linked-alike from (since from changes) (since-keeps from changes)

pub linked-before : (from : NetworkState) (changes : List Change) → AreLinked (since from changes) → AreLinked from
linked-before from changes = linked-alike (since from changes) from (λ point. sym (since-keeps from changes point))

module _ (k : List KeptNode) (from : NetworkState) (changes : List Change) (s : RunsSince k from changes) (linked : AreLinked from) where
  abbrev r : IsChanged (points_of k) from
  r = s.changed

  first-linked : AreLinked (first_network r.settings)
  first-linked = linked-alike from (first_network r.settings) (λ point. sym (from-fits from r point).settings) linked

  pub always-since : (Statement : (points : List ℕ) → NetworkState → List Change → Type 0) → AlwaysFrom Statement → Statement (points_of k) from changes
  always-since Statement holds = subst (λ (v : NetworkState). Statement (points_of k) v changes) (sym r.by) (holds r.settings (points_of k) r.changes changes r.placed first-linked)
