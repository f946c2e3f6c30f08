-- What worlds of gates promise, those of the code promise.
use Rattle.std.proofs.Common.{◌≡◌, ℕ, List, subst, sym}
use Rattle.settings.specs.Configuration.{Configuration}
use Rattle.pair_rules.specs.Promises.{AreJoined}
use Rattle.network_rules.specs.Networks.{NetworkState}
use Rattle.gate_rules.specs.Promises.{IsSpecial}
use Rattle.network_gates.specs.GateWorlds.{GateWorld, shown}
use Rattle.network_gates.specs.GatePromises.{AlwaysShown, settings_of}
use Rattle.network_gates.specs.GatesAlone.{two_of}
use Rattle.network_gates.proofs.Alone.{alone}
use Rattle.node_world.specs.Kept.{KeptNode, points_of}
use Rattle.node_world.specs.Promised.{AloneComeBetween, Promises, settings_in}
use Rattle.node_world.specs.Stands.{IsReached}
use Rattle.node_world.proofs.Reached.{settings-known}

-- the settings of all nodes
same-settings : (points : List ℕ) (w : GateWorld) (r : IsReached points w) → settings_of r.make ≡ settings_in w
same-settings points w r = λ i point. sym (settings-known points w r point) i

pub holds : (Statement : (settings : (point : ℕ) → Configuration) → (points : List ℕ) → NetworkState → Type 0) → AlwaysShown Statement → (k : List KeptNode) → Promises Statement k
holds Statement always k w s =
    let r : IsReached (points_of k) w = s.reached in
    subst (λ (settings : (point : ℕ) → Configuration). Statement settings (points_of k) (shown w)) (same-settings (points_of k) w r)
    (subst (λ (v : GateWorld). Statement (settings_of r.make) (points_of k) (shown v)) r.last (always r.make (points_of k) r.joined r.list r.steps))

pub alone-come : (k : List KeptNode) → AloneComeBetween k
alone-come k w s near far joined lost =
    let r : IsReached (points_of k) w = s.reached in
    let apart : AreJoined (settings_of r.make near) (settings_of r.make far) =
    subst (λ (settings : (point : ℕ) → Configuration). AreJoined (settings near) (settings far)) (sym (same-settings (points_of k) w r)) joined in
    let special : IsSpecial (r.make near) (r.make far) (two_of w near far) =
    subst (λ (v : GateWorld). IsSpecial (r.make near) (r.make far) (two_of v near far)) r.last (alone r.make (points_of k) r.joined r.list r.steps near far apart) in
    record { once = special.once lost; order = special.in_order lost }
