-- Worlds that are reached by steps, and one step more.
use Rattle.std.proofs.Common.{◌≡◌, ◌<◌, ℕ, List, [], ◌∷◌, ◌++◌, length, refl, ap, sym, subst, ◌∙◌}
use Rattle.settings.specs.Configuration.{Configuration}
use Rattle.network_rules.specs.Totals.{IsJoined}
use Rattle.network_rules.proofs.Joined.{HasOther, ends-are, has-other}
use Rattle.network_datagrams.specs.NetworkWorlds.{HasEnd}
use Rattle.gate_rules.specs.Octets.{AreRead}
use Rattle.network_gates.specs.GateWorlds.{GateWorld, Step, Steps, last_world, new_world, shown}
use Rattle.network_gates.specs.GatePromises.{settings_of}
use Rattle.network_gates.proofs.Reading.{all-read}
use Rattle.network_gates.proofs.Running.{all-reach, settings-are}
use Rattle.node_world.specs.Stands.{IsReached}

pub steps-on : (w v : GateWorld) (list : List GateWorld) → Steps w list → Step (last_world w list) v → Steps w (list ++ v ∷ [])
steps-on w v [] h s = (s, tt)
steps-on w v (u ∷ rest) h s = (h.0, steps-on u v rest h.1 s)

pub last-on : (w v : GateWorld) (list : List GateWorld) → last_world w (list ++ v ∷ []) ≡ v
last-on w v [] = refl
last-on w v (u ∷ rest) = last-on u v rest

abbrev pub reached-more : (points : List ℕ) (w v : GateWorld) (r : IsReached points w) → Step w v → IsReached points v
reached-more points w v r step = record {
  make = r.make;
  joined = r.joined;
  ports = r.ports;
  list = r.list ++ v ∷ [];
  steps = steps-on (new_world r.make) v r.list r.steps (subst (λ (x : GateWorld). Step x v) (sym r.last) step);
  last = last-on (new_world r.make) v r.list;
}

abbrev pub same-points : (points others : List ℕ) (w : GateWorld) → points ≡ others → IsReached points w → IsReached others w
same-points points others w same r = record {
  make = r.make;
  joined = subst (λ (at : List ℕ). IsJoined (settings_of r.make) at) same r.joined;
  ports = r.ports;
  list = r.list;
  steps = r.steps;
  last = r.last;
}

module _ (points : List ℕ) (w : GateWorld) (r : IsReached points w) where
  -- each node has the settings that it was made of
  pub settings-known : (o : ℕ) → (w.node o).books.exchange.settings ≡ (r.make o).configuration
  settings-known o =
      subst (λ (x : GateWorld). (x.node o).books.exchange.settings ≡ (r.make o).configuration) r.last
      (settings-are r.make points r.joined (last_world (new_world r.make) r.list) (all-reach r.make points r.joined r.list r.steps) o)

  -- and is told its point
  pub own-known : (o : ℕ) → (w.node o).books.exchange.settings.own ≡ o
  own-known o = ap (λ (c : Configuration). c.own) (settings-known o) ∙ r.joined.placed.own o

  -- what gates put out is read as it was put out
  pub read-known : (o : ℕ) → AreRead (w.node o)
  read-known o = subst (λ (x : GateWorld). AreRead (x.node o)) r.last (all-read r.make points r.joined r.list r.steps r.ports o)

  -- each link has another end
  pub end-known : (o link : ℕ) → link < length (w.node o).books.exchange.settings.links → HasEnd (shown w) o link
  end-known o link less =
      let h : HasOther (settings_of r.make) points r.joined o link =
      has-other (settings_of r.make) points r.joined o link (subst (λ (c : Configuration). link < length c.links) (settings-known o) less) in
      record { there = h.other; is = ends-are (settings_of r.make) (shown w) settings-known o link ∙ h.is }
