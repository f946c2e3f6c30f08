-- The next frame of a link fits an endpoint: each node and a neighbour are like two of a pair, whose frames do.
use Rattle.std.proofs.Common.{◌≡◌, ℕ, List, Some, ap, sym, ◌∙◌, subst}
use Rattle.settings.specs.Configuration.{Configuration}
use Rattle.m2pa_codec.specs.Frames.{FrameValue}
use Rattle.exchange_rules.specs.Exchange.{frame_to_take}
use Rattle.exchange_rules.specs.First.{Abstract}
use Rattle.exchange_rules.specs.Queues.{whole}
use Rattle.pair_rules.specs.Pairs.{PairState, first_pair}
use Rattle.pair_rules.specs.Sharing.{AreSharing}
use Rattle.neighbour_rules.specs.Neighbours as neighbours
use Rattle.neighbour_rules.proofs.Promised.{all-stand, for_each_other}
use Rattle.neighbour_rules.proofs.Sharing.{AreFacing, are-facing, from_first}
use Rattle.neighbour_rules.proofs.Standing.{Stands}
use Rattle.network_rules.specs.Networks.{NetworkNode, NetworkState, Step, after_steps, first_network}
use Rattle.network_rules.specs.Pairs.{IsRunOfNeighbours, pair_of}
use Rattle.network_rules.specs.Totals.{IsJoined}
use Rattle.network_rules.proofs.AllRuns.{steps-keep}
use Rattle.network_rules.proofs.Always.{runs}
use Rattle.network_rules.proofs.Joined.{ends-are, has-other, well-or-alone}
use Rattle.network_rules.proofs.Outside.{at-steps}
use Rattle.node_rules.specs.Promises.{IsShort}
use Rattle.node_rules.specs.Worlds.{Make}
use Rattle.node_rules.proofs.Fitting.{taken-short}
use Rattle.network_datagrams.specs.NetworkWorlds.{NetworkWorld, last_world, new_world, shown}
use Rattle.network_datagrams.specs.NetworkPromises.{Always, AreJoined, FramesAreShort, settings_of}
use Rattle.network_datagrams.proofs.Placing.{AreEnds, ends-of}
use Rattle.network_datagrams.proofs.Running.{IsRun, all-run}

-- in a network, of a node that shares a set with another one
network-short : (settings : (point : ℕ) → Configuration) (points : List ℕ) → IsJoined settings points → (steps : List Step) (p q link : ℕ) → AreSharing (settings p) (settings q)
    → (frame : FrameValue) → frame_to_take whole ((after_steps steps (first_network settings)).node p).exchange link ≡ Some frame → IsShort frame
network-short settings points h steps p q link sharing frame e =
    let s : NetworkState = after_steps steps (first_network settings) in
    let c : Configuration = (s.node p).exchange.settings in
    let z : Configuration = (s.node q).exchange.settings in
    let f : AreFacing c z =
    are-facing c z
    (subst (λ (y : Configuration). AreSharing c y) (sym (steps-keep steps (first_network settings) q))
    (subst (λ (y : Configuration). AreSharing y (settings q)) (sym (steps-keep steps (first_network settings) p)) sharing)) in
    let r : IsRunOfNeighbours (pair_of s p q) = at-steps IsRunOfNeighbours runs settings steps p q h.placed.own (well-or-alone settings points h) sharing in
    let pair : PairState = neighbours.after_steps r.steps (first_pair c z) in
    let stands : Stands c z (from_first c z (for_each_other c z f)) pair = all-stand c z r.steps f in
    taken-short c z z.own f.near_set link pair.near.exchange (stands.near_good.queued link) frame
    (ap (λ (a : Abstract). frame_to_take whole a link) r.is_alike.near_alike.exchange ∙ e)

pub run-short : (make : (point : ℕ) → Make) (points : List ℕ) → AreJoined make points → (w : NetworkWorld) → IsRun make w → FramesAreShort (settings_of make) points (shown w)
run-short make points joined w r p link end frame next =
    let e : AreEnds (settings_of make) p link end.there.point end.there.link =
    ends-of (settings_of make) points joined.joined p link end.there.point end.there.link
    (sym (ends-are (settings_of make) (shown w) (λ o. (r.meets.all.each o).settings) p link) ∙ end.is) in
    let o = has-other (settings_of make) points joined.joined p link e.here in
    network-short (settings_of make) points joined.joined r.steps p o.other.point link o.sharing frame
    (ap (λ (x : NetworkNode). frame_to_take whole x.exchange link) (sym (r.meets.all.each p).same) ∙ next)

pub all-short : Always FramesAreShort
all-short make points joined list m = run-short make points joined (last_world (new_world make) list) (all-run make points joined list m)
