-- Over datagrams nodes pass on in order, and so does a path, by the lemmas of networks.
use Rattle.std.proofs.Common.{◌≡◌, ℕ, Bool, List, [], ◌∷◌, map, refl, ap, sym, ◌∙◌, subst}
use Rattle.settings.specs.Configuration.{Configuration}
use Rattle.network_rules.specs.Anew.{Steps, after_all}
use Rattle.network_rules.specs.Networks.{NetworkNode, NetworkState, Step, after_step, after_steps, first_network}
use Rattle.signalling_types.specs.declared.point.Flow.{Flow}
use Rattle.exchange_rules.specs.State.{late_any, lost_any}
use Rattle.network_rules.specs.Outside.{Move, Within, after_moves}
use Rattle.network_rules.specs.Paths.{EachHopInOrder, KeepsInOrder, PassesInOrder}
use Rattle.network_rules.specs.Hops.{AreOpenHops, HearsOfNoRoute, IsOpenHop, LeadsOver, beyond, to_it}
use Rattle.network_rules.proofs.PassedOn.{all-pass, begin-empty}
use Rattle.network_rules.proofs.Joined.{well-or-alone}
use Rattle.network_rules.proofs.Hops.{hop-open}
use Rattle.network_rules.proofs.Outside.{steps-moves}
use Rattle.network_rules.proofs.Paths as network
use Rattle.network_datagrams.specs.NetworkWorlds.{NetworkWorld, last_world, new_world, shown}
use Rattle.network_datagrams.specs.NetworkPromises.{HopsKeepFlows, settings_of, Always, LastHopsKeepOrder, NodesPassInOrder, PathsKeepFlows, PathsKeepOrder}
use Rattle.network_datagrams.proofs.Showing.{plain}
use Rattle.network_datagrams.proofs.Running.{IsRun, all-run}
use Rattle.network_datagrams.proofs.Promised.{order}

-- steps are changes
as-changes : (steps : List Step) (s : NetworkState) → after_all (map Steps steps) s ≡ after_steps steps s
as-changes [] s = refl
as-changes (step ∷ steps) s = as-changes steps (after_step step s)

network-passes : (settings : (point : ℕ) → Configuration) (steps : List Step) (point : ℕ) → PassesInOrder ((after_steps steps (first_network settings)).node point)
network-passes settings steps point =
    subst (λ (s : NetworkState). PassesInOrder (s.node point)) (as-changes steps (first_network settings))
    (subst (λ (s : NetworkState). PassesInOrder ((after_all (map Steps steps) s).node point)) (begin-empty settings)
    (all-pass (first_network settings) (map Steps steps) point))

-- it speaks of no frames in flight
passes-so : (b x : NetworkNode) → plain b ≡ plain x → PassesInOrder x → PassesInOrder b
passes-so b x same h =
    let other : PassesInOrder (plain x) = record { passed = h.passed; came = h.came; accepted = h.accepted } in
    let here : PassesInOrder (plain b) = subst PassesInOrder (sym same) other in
    record { passed = here.passed; came = here.came; accepted = here.accepted }

pub nodes-pass : Always NodesPassInOrder
nodes-pass make points joined list m point =
    let w : NetworkWorld = last_world (new_world make) list in
    let r : IsRun make w = all-run make points joined list m in
    let s : NetworkState = after_steps r.steps (first_network (settings_of make)) in
    passes-so ((shown w).node point) (s.node point) (r.meets.all.each point).same (network-passes (settings_of make) r.steps point)

pub paths : Always PathsKeepOrder
paths make points joined list m flow first rest hops only =
    network.over flow (shown (last_world (new_world make) list)) (λ point. nodes-pass make points joined list m point) first rest hops only

pub last-hops : Always LastHopsKeepOrder
last-hops make points joined list m near far sls sharing lost punctual =
    let w : NetworkWorld = last_world (new_world make) list in
    let r : IsRun make w = all-run make points joined list m in
    network.hop (shown w) near far sls
    (ap (λ (c : Configuration). c.own) (r.meets.all.each far).settings ∙ joined.joined.placed.own far)
    ((order make points joined list m near far sharing lost).there punctual)

-- ---- what a hop asks shows in the books

-- of a world, and of a network whose nodes are the same but for what is in flight to them
module _ (settings : (point : ℕ) → Configuration) (t s : NetworkState) (same : (point : ℕ) → plain (t.node point) ≡ plain (s.node point)) where
  hears-as : (route near far : ℕ) → HearsOfNoRoute route (t.node near) (t.node far) → HearsOfNoRoute route (s.node near) (s.node far)
  hears-as route near far told =
      subst (λ (x : NetworkNode). HearsOfNoRoute route x (s.node far)) (same near) (subst (λ (y : NetworkNode). HearsOfNoRoute route (t.node near) y) (same far) told)

  leads-as : (flow : Flow) (near far : ℕ) → LeadsOver settings t flow near far → LeadsOver settings s flow near far
  leads-as flow near far (to_it e) = to_it e
  leads-as flow near far (beyond lead told) = beyond lead (hears-as flow.point near far told)

  abbrev lost : NetworkNode → Bool
  lost x = lost_any x.exchange.node.parts

  abbrev late : NetworkNode → Bool
  late x = late_any x.exchange.node.parts

  open-as : (flow : Flow) (near far : ℕ) → IsOpenHop settings t flow near far → IsOpenHop settings s flow near far
  open-as flow near far h = record {
    sharing = h.sharing;
    leads = leads-as flow near far h.leads;
    lossless = record { near = sym (ap lost (same near)) ∙ h.lossless.near; far = sym (ap lost (same far)) ∙ h.lossless.far };
    punctual = sym (ap late (same near)) ∙ h.punctual;
  }

  keeps-as : (flow : Flow) (near far : ℕ) → KeepsInOrder flow s near far → KeepsInOrder flow t near far
  keeps-as flow near far k = subst (λ (node : (point : ℕ) → NetworkNode). KeepsInOrder flow (record { node = node }) near far) (λ i. λ point. sym (same point) i) k

pub hops : Always HopsKeepFlows
hops make points joined list m flow near far h =
    let w : NetworkWorld = last_world (new_world make) list in
    let r : IsRun make w = all-run make points joined list m in
    let moves : List Move = map Within r.steps in
    let s : NetworkState = after_moves moves (first_network (settings_of make)) in
    let same : (point : ℕ) → plain ((shown w).node point) ≡ plain (s.node point) =
    λ point. (r.meets.all.each point).same ∙ sym (ap (λ (v : NetworkState). plain (v.node point)) (steps-moves r.steps (first_network (settings_of make)))) in
    keeps-as (settings_of make) (shown w) s same flow near far
    (hop-open (settings_of make) moves flow near far joined.joined.placed.own (well-or-alone (settings_of make) points joined.joined)
    (open-as (settings_of make) (shown w) s same flow near far h))

pub flows : Always PathsKeepFlows
flows make points joined list m flow first rest all-open only = paths make points joined list m flow first rest (each first rest all-open) only
  where
    each : (first : ℕ) (rest : List ℕ) → AreOpenHops (settings_of make) (shown (last_world (new_world make) list)) flow first rest
        → EachHopInOrder flow (shown (last_world (new_world make) list)) first rest
    each first [] h = tt
    each first (next ∷ rest) h = (hops make points joined list m flow first next h.0, each next rest h.1)
