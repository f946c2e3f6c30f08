-- The laws of a network over datagrams hold of gates: none of them speaks of endpoints.
use Rattle.std.proofs.Common.{◌≡◌, ℕ, List, subst}
use Rattle.settings.specs.Configuration.{Configuration}
use Rattle.network_rules.specs.Networks.{NetworkState}
use Rattle.network_datagrams.specs.NetworkWorlds as datagrams
use Rattle.network_datagrams.specs.NetworkPromises as datagrams_promise
use Rattle.network_datagrams.specs.NetworkPromises.{BooksAreOfTheTwo, EachFlowInOrder, EachMessageAccounted, EachMessageOnce, FlowsStayBetween, FramesAreShort, HopsKeepFlows, IsRunOfNetwork, LastHopsKeepOrder, MessagesComeToEnd, NodesPassInOrder, NothingAwaitedInVain, NothingHeldInVain, PathsKeepFlows, PathsKeepOrder}
use Rattle.network_datagrams.proofs.Running as runs
use Rattle.network_datagrams.proofs.Promised as promised
use Rattle.network_datagrams.proofs.Paths as paths
use Rattle.network_datagrams.proofs.Fitting as fitting
use Rattle.network_gates.specs.GateWorlds.{GateWorld, last_world, new_world, shown}
use Rattle.network_gates.specs.GatePromises.{AlwaysShown, nodes_of, runs_are_runs_over_datagrams, settings_of}
use Rattle.network_gates.proofs.Running.{Reaches, all-reach, joined}

pub are-runs : runs_are_runs_over_datagrams
are-runs make points is_joined list steps =
    let r : Reaches make points is_joined (last_world (new_world make) list) = all-reach make points is_joined list steps in
    record { list = r.list; steps = r.steps; is = λ point. (r.beside point).books }

-- what always holds over datagrams always holds of gates
over : (Statement : (settings : (point : ℕ) → Configuration) → (points : List ℕ) → NetworkState → Type 0) → datagrams_promise.Always Statement → AlwaysShown Statement
over Statement always make points is_joined list steps =
    let v : GateWorld = last_world (new_world make) list in
    let r : Reaches make points is_joined v = all-reach make points is_joined list steps in
    subst (Statement (settings_of make) points) (same v r) (always (nodes_of make) points (joined make points is_joined) r.list r.steps)
  where
    same : (v : GateWorld) (r : Reaches make points is_joined v) → datagrams.shown (datagrams.last_world (datagrams.new_world (nodes_of make)) r.list) ≡ shown v
    same v r = λ i. record { node = λ o. (r.beside o).books i }

pub of-networks : AlwaysShown IsRunOfNetwork
of-networks = over IsRunOfNetwork runs.are-runs

pub once : AlwaysShown EachMessageOnce
once = over EachMessageOnce promised.once

pub order : AlwaysShown EachFlowInOrder
order = over EachFlowInOrder promised.order

pub awaited : AlwaysShown NothingAwaitedInVain
awaited = over NothingAwaitedInVain promised.awaited

pub books : AlwaysShown BooksAreOfTheTwo
books = over BooksAreOfTheTwo promised.books

pub flows : AlwaysShown FlowsStayBetween
flows = over FlowsStayBetween promised.flows

pub held : AlwaysShown NothingHeldInVain
held = over NothingHeldInVain promised.held

pub accounts : AlwaysShown EachMessageAccounted
accounts = over EachMessageAccounted promised.accounts

pub ends-meet : AlwaysShown MessagesComeToEnd
ends-meet = over MessagesComeToEnd promised.ends-meet

pub nodes-pass : AlwaysShown NodesPassInOrder
nodes-pass = over NodesPassInOrder paths.nodes-pass

pub keep-order : AlwaysShown PathsKeepOrder
keep-order = over PathsKeepOrder paths.paths

pub keep-hops : AlwaysShown HopsKeepFlows
keep-hops = over HopsKeepFlows paths.hops

pub keep-flows : AlwaysShown PathsKeepFlows
keep-flows = over PathsKeepFlows paths.flows

pub last-hops : AlwaysShown LastHopsKeepOrder
last-hops = over LastHopsKeepOrder paths.last-hops

pub short : AlwaysShown FramesAreShort
short = over FramesAreShort fitting.all-short
