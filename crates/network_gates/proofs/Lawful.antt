-- Calls of gates are steps of the nodes of a network over datagrams.
use Rattle.std.proofs.Common.{◌≡◌, ℕ, Bool, List, map, ap, sym, ◌∙◌, subst}
use Rattle.std.specs.List.{Contains}
use Rattle.sctp_moves.proofs.Members.{in-from, contains-from, in-map}
use Rattle.sctp_ends.specs.Worlds.{Emitted, emitted}
use Rattle.exchange_rules.specs.Queues.{WholeQueues, whole}
use Rattle.sctp_gate.specs.Gates.{Did}
use Rattle.sctp_gate.specs.Calling.{called}
use Rattle.network_rules.specs.Networks.{NetworkNode}
use Rattle.network_rules.proofs.Joined.{ends-are}
use Rattle.node_rules.specs.Worlds.{Make, Port}
use Rattle.network_datagrams.specs.NetworkWorlds.{HasEnd, NetworkWorld, last_world, new_world, shown}
use Rattle.network_datagrams.specs.NetworkPromises.{AreJoined, settings_of}
use Rattle.network_datagrams.proofs.Placing.{AreEnds, ends-of}
use Rattle.network_datagrams.proofs.Running.{IsRun, all-run}
use Rattle.gate_rules.specs.Calls.{Shows, does_flush}
use Rattle.gate_rules.proofs.LinkEnds.{LinkEnd, acted_all}
use Rattle.gate_rules.proofs.Calling.{AreCalled}
use Rattle.gate_rules.proofs.Called.{called-done}
use Rattle.network_gates.specs.GateCalls.{AreSteps, after_all, calls_are_steps}
use Rattle.network_gates.specs.GateWorlds.{node_kept}
use Rattle.network_gates.proofs.NodeEnds.{doing_of}
use Rattle.network_gates.proofs.WorldEnds.{Runs, all-after, books-here, end_at, lasts, may-all, port-here, run-at, there, world_with}

module _ (make : (point : ℕ) → Make) (points : List ℕ) (joined : AreJoined make points) (w : NetworkWorld) (r : IsRun make w) (p k q j : ℕ)
    (e : AreEnds (settings_of make) p k q j) where
  steps-of : (d : Did WholeQueues) (b : Bool)
      → AreCalled node_kept (make p) k (there make w p k points joined q j e) (Runs make w p k points joined q j e) (lasts make w p k points joined q j e) (end_at make w p k) d b
      → AreSteps make w p k d
  steps-of d b f =
      let l : LinkEnd NetworkNode = acted_all node_kept (make p) k f.steps (end_at make w p k) in
      let is : after_all make p (map (doing_of k) f.steps) w ≡ world_with make w p k l = all-after make w p k f.steps in
      let port : ((after_all make p (map (doing_of k) f.steps) w).node p).ports k ≡ l.port = ap (λ (v : NetworkWorld). (v.node p).ports k) is ∙ port-here make w p k l in
      let books : ((after_all make p (map (doing_of k) f.steps) w).node p).books ≡ l.books = ap (λ (v : NetworkWorld). (v.node p).books) is ∙ books-here make w p k l in
      record {
        steps = map (doing_of k) f.steps;
        may = may-all make w p k points joined q j e f.steps r f.may;
        shows = subst (λ (x : Port). Shows (make p) k x d.gate) (sym port) f.leaves.shows;
        exchange = ap (λ (x : NetworkNode). x.exchange) books ∙ f.leaves.exchange;
        books = books ∙ f.leaves.books;
        sent = λ x c.
            subst (λ (y : Port). Contains (map (λ (o : Emitted). o.packet) y.site.packets) x.packet) (sym port)
            (contains-from (map (λ (o : Emitted). o.packet) l.port.site.packets) x.packet
            (in-map (λ (o : Emitted). o.packet) l.port.site.packets (emitted ((w.node p).ports k).site.mark x) (f.leaves.sent x (in-from d.sent x c))));
      }

-- where a link of a run leads to
pub run-ends : (make : (point : ℕ) → Make) (points : List ℕ) → AreJoined make points → (w : NetworkWorld) → IsRun make w → (p k : ℕ) (h : HasEnd (shown w) p k)
    → AreEnds (settings_of make) p k h.there.point h.there.link
run-ends make points joined w r p k h =
    ends-of (settings_of make) points joined.joined p k h.there.point h.there.link
    (sym (ends-are (settings_of make) (shown w) (λ o. (r.meets.all.each o).settings) p k) ∙ h.is)

pub all-calls : calls_are_steps
all-calls make points joined list m p k g call h shows may =
    let w : NetworkWorld = last_world (new_world make) list in
    let r : IsRun make w = all-run make points joined list m in
    let q : ℕ = h.there.point in
    let j : ℕ = h.there.link in
    let e : AreEnds (settings_of make) p k q j = run-ends make points joined w r p k h in
    steps-of make points joined w r p k q j e (called whole call g (w.node p).books.exchange) (does_flush call g)
    (called-done node_kept (make p) k (there make w p k points joined q j e) (Runs make w p k points joined q j e) (lasts make w p k points joined q j e) (end_at make w p k) g call shows
    (run-at make w p k points joined q j e r) may)
