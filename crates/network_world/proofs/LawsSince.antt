-- What a network promises since its books began anew.
use Rattle.std.specs.Prelude.{All}
use Rattle.std.proofs.Common.{◌≡◌, ◌<◌, ℕ, List, length, ap, sym, subst, ◌∙◌}
use Rattle.settings.specs.Configuration.{Configuration}
use Rattle.settings.specs.Sharing.{SharesSet}
use Rattle.exchange_rules.specs.Routing.{peer_of}
use Rattle.pair_rules.specs.Sharing.{AreSharing}
use Rattle.neighbour_rules.specs.Anew.{IsQuietPair, LostNothingSince}
use Rattle.network_rules.specs.Anew.{BothKeep, Change, HaveLostNothingSince, HoldBetween, HoldThroughout, IsQuietNetwork, IsStepOrThird, after_all, begun_anew}
use Rattle.network_rules.specs.Networks.{NetworkState, first_network}
use Rattle.network_rules.specs.Pairs.{pair_of}
use Rattle.network_rules.specs.Totals.{ComeToPoint, IsAccounted, IsJoined}
use Rattle.network_rules.proofs.Accounted.{accounts-anew}
use Rattle.network_rules.proofs.Anew.{neighbours-anew, quiet-between}
use Rattle.network_rules.proofs.Joined.{placed-well}
use Rattle.network_rules.proofs.Reached.{changes-keep}
use Rattle.network_rules.proofs.ToPoint.{ends-meet-anew}
use Rattle.node_law.specs.Anew.{IsStep}
use Rattle.node_law.proofs.AnewNetworks.{AreOfSteps, of-steps}
use Rattle.network_world.specs.KeptNodes.{KeptNode}
use Rattle.network_world.specs.KeptNetworks.{points_of}
use Rattle.network_world.specs.NetworkAnew.{ComeToEachSince, HoldsSince, IsChanged, KeptBetween, QuietBetween, RunsSince, since}
use Rattle.network_world.specs.NetworkPromised.{ShareAll, ShareSet}
use Rattle.network_world.proofs.AsKept.{IsKept}
use Rattle.network_world.proofs.ChangedFits.{from-fits}
use Rattle.network_world.proofs.Runs.{runs-kept}
use Rattle.network_world.proofs.Shown as shown

-- ---- settings stay

pub shared-after : (from : NetworkState) → ShareAll from → (changes : List Change) → ShareAll (after_all changes from)
shared-after from all changes = λ point link less.
    let v : NetworkState = after_all changes from in
    let own : Configuration = (from.node point).exchange.settings in
    subst (λ (c : Configuration). SharesSet c (v.node (peer_of c link)).exchange.settings) (sym (changes-keep changes from point))
    (subst (λ (c : Configuration). SharesSet own c) (sym (changes-keep changes from (peer_of own link)))
    (all point link (subst (λ (c : Configuration). link < length c.links) (changes-keep changes from point) less)))

pub shared-since : (from : NetworkState) → ShareAll from → (changes : List Change) → ShareAll (since from changes)
shared-since from all changes = shared-after (begun_anew from) all changes

module _ (k : List KeptNode) (from : NetworkState) (changes : List Change) (s : RunsSince k from changes) where
  abbrev w : NetworkState
  w = since from changes

  abbrev r : IsChanged (points_of k) from
  r = s.changed

  abbrev its : IsKept k w
  its = runs-kept k from changes s

  from-same : (point : ℕ) → (from.node point).exchange.settings ≡ r.settings point
  from-same point = (from-fits from r point).settings

  now-same : (point : ℕ) → (w.node point).exchange.settings ≡ r.settings point
  now-same point = (its.fits point).settings

  -- ---- two that share a set

  module _ (near far : ℕ) (a : ShareSet from near far) where
    share-now : ShareSet w near far
    share-now =
        subst (λ (c : Configuration). SharesSet c (w.node far).exchange.settings) (from-same near ∙ sym (now-same near))
        (subst (λ (c : Configuration). SharesSet (from.node near).exchange.settings c) (from-same far ∙ sym (now-same far)) a)

    sharing : AreSharing (r.settings near) (r.settings far)
    sharing = shown.sharing k w its near far share-now

    hold-between : IsQuietPair (pair_of from near far) → HoldBetween near far from
    hold-between quiet =
        subst (HoldBetween near far) (sym r.by)
        (neighbours-anew r.settings r.changes near far r.placed.own (placed-well r.settings (points_of k) r.placed) sharing
        (subst (λ (v : NetworkState). IsQuietPair (pair_of v near far)) r.by quiet))

    pub keep-between : IsQuietPair (pair_of from near far) → All (IsStepOrThird near far) changes → LostNothingSince (pair_of from near far) (pair_of w near far)
        → BothKeep (pair_of from near far) (pair_of w near far)
    keep-between quiet third lost = hold-between quiet changes third lost

    pub pair-quiet : IsQuietNetwork (points_of k) from → IsQuietPair (pair_of from near far)
    pair-quiet quiet =
        quiet-between (points_of k) from near far quiet (shown.near-listed k w its near far share-now) (shown.far-listed k w its near far share-now)

  -- ---- from end to end

  module _ (all : ShareAll from) (quiet : IsQuietNetwork (points_of k) from) (each : All IsStep changes) (lost : HaveLostNothingSince (points_of k) from w) where
    shared-by : (point link : ℕ) → link < length (from.node point).exchange.settings.links → AreSharing (r.settings point) (r.settings (peer_of (from.node point).exchange.settings link))
    shared-by point link less = sharing point (peer_of (from.node point).exchange.settings link) (all point link less)

    joined : IsJoined r.settings (points_of k)
    joined = record {
      placed = r.placed;
      shared = λ point link less.
          subst (λ (c : Configuration). AreSharing (r.settings point) (r.settings (peer_of c link))) (from-same point)
          (shared-by point link (subst (λ (c : Configuration). link < length c.links) (sym (from-same point)) less));
    }

    quiet-then : IsQuietNetwork (points_of k) (after_all r.changes (first_network r.settings))
    quiet-then = subst (IsQuietNetwork (points_of k)) r.by quiet

    by-steps : AreOfSteps changes (begun_anew from)
    by-steps = of-steps changes each (begun_anew from)

    -- what holds throughout holds now
    holds : (Statement : NetworkState → Type 0) → HoldThroughout (points_of k) Statement (after_all r.changes (first_network r.settings)) → Statement w
    holds Statement throughout =
        let here : HoldThroughout (points_of k) Statement from = subst (HoldThroughout (points_of k) Statement) (sym r.by) throughout in
        subst (λ (v : NetworkState). HaveLostNothingSince (points_of k) from v → Statement v) (sym by-steps.by) (here by-steps.steps) lost

    pub accounted : IsAccounted (points_of k) w
    accounted = holds (IsAccounted (points_of k)) (accounts-anew r.settings (points_of k) r.changes joined quiet-then)

    pub each-reached : ComeToEachSince (points_of k) w
    each-reached = λ point there one.
        subst (ComeToPoint (points_of k) w) (sym (now-same point))
        (holds (λ v. ComeToPoint (points_of k) v (r.settings point))
        (ends-meet-anew r.settings (points_of k) r.changes point joined there
        (λ other is.
        ap (λ (c : Configuration). c.network) (sym (now-same other)) ∙ one other is ∙ ap (λ (c : Configuration). c.network) (now-same point))
        quiet-then))

pub hold-accounted : (k : List KeptNode) → HoldsSince k (IsAccounted (points_of k))
hold-accounted k = λ from changes s all quiet each lost. accounted k from changes s all quiet each lost

pub hold-reached : (k : List KeptNode) → HoldsSince k (ComeToEachSince (points_of k))
hold-reached k = λ from changes s all quiet each lost. each-reached k from changes s all quiet each lost

pub kept-between : (k : List KeptNode) → KeptBetween k
kept-between k = λ from changes s near far a quiet third lost. keep-between k from changes s near far a quiet third lost

pub quiet-pairs : (k : List KeptNode) → QuietBetween k
quiet-pairs k = λ from changes s near far a quiet. pair-quiet k from changes s near far a quiet
