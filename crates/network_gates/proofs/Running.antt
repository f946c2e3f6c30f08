-- Runs of networks of gates are runs over datagrams.
use Rattle.std.proofs.Common.{◌≡◌, ℕ, Bool, true, false, List, [], ◌∷◌, ◌++◌, map, nat_eq, refl, ap, sym, ◌∙◌, subst}
use Rattle.std.specs.Prelude.{if◌then◌else◌}
use Rattle.exchange_rules.specs.State.{Happening}
use Rattle.exchange_rules.specs.Queues.{WholeQueues}
use Rattle.sctp_ends.proofs.Keyed.{keyed-good}
use Rattle.sctp_gate.specs.Gates.{Did}
use Rattle.sctp_gate.specs.Calling.{Call}
use Rattle.network_rules.specs.Networks.{NetworkNode}
use Rattle.network_rules.specs.Totals.{IsJoined}
use Rattle.network_rules.proofs.Joined.{ends-are}
use Rattle.node_rules.specs.Worlds.{IsOwn}
use Rattle.node_rules.specs.Worlds as nodes
use Rattle.network_datagrams.specs.NetworkWorlds as datagrams
use Rattle.network_datagrams.specs.NetworkWorlds.{HasEnd, NetworkWorld, happened}
use Rattle.network_datagrams.specs.NetworkPromises.{AreJoined}
use Rattle.network_datagrams.proofs.Placing.{AreEnds, ends-of}
use Rattle.network_datagrams.proofs.Running.{IsRun, all-run}
use Rattle.gate_rules.specs.Calls.{seen_all}
use Rattle.gate_rules.specs.Worlds.{Make, MayCall, done_by, new_port, port_after}
use Rattle.gate_rules.specs.Promises.{node_make}
use Rattle.gate_rules.proofs.LinkEnds.{LinkEnd, acted_all, same-number}
use Rattle.gate_rules.proofs.Called.{Beside, Goes, books-so, call-goes, each-beside, new-ages}
use Rattle.gate_rules.proofs.Lawful.{new-shows}
use Rattle.network_gates.specs.GateCalls.{MayAll, after_all}
use Rattle.network_gates.specs.GateWorlds.{Calls, Doing, GateWorld, Happens, MayDo, Node, Steps, after, did, last_world, new_node, new_world, node_kept, shown}
use Rattle.network_gates.specs.GatePromises.{nodes_of, settings_of}
use Rattle.network_gates.proofs.NodeEnds.{doing_of}
use Rattle.network_gates.proofs.WorldEnds.{Runs, all-after, end_at, lasts, may-all, run-at, there, world_with}
use Rattle.network_gates.proofs.NodeEnds as ends

-- ---- a node with gates beside one over datagrams

pub record BesideNode (m : Make) (g : Node) (n : datagrams.Node) : Type 0 where
  pub books : n.books ≡ g.books
  pub ports : (k : ℕ) → Beside (node_make m) k (n.ports k) (g.ports k)

either : (m : Make) (b : Bool) (g h : Node) (n l : datagrams.Node) → BesideNode m g n → BesideNode m h l → BesideNode m (if b then g else h) (if b then n else l)
either m true g h n l x y = x
either m false g h n l x y = y

-- ---- the worlds that steps of one node lead through

module _ (make : (point : ℕ) → nodes.Make) (p : ℕ) where
  abbrev through : List datagrams.Doing → NetworkWorld → List NetworkWorld
  through [] w = []
  through (what ∷ more) w = datagrams.after make p what w ∷ through more (datagrams.after make p what w)

  through-last : (list : List datagrams.Doing) (w : NetworkWorld) → datagrams.last_world w (through list w) ≡ after_all make p list w
  through-last [] w = refl
  through-last (what ∷ more) w = through-last more (datagrams.after make p what w)

  through-steps : (list : List datagrams.Doing) (w : NetworkWorld) → MayAll make p list w → datagrams.Steps make w (through list w)
  through-steps [] w may = tt
  through-steps (what ∷ more) w may =
      (record { point = p; what = what; may = may.0; is = refl }, through-steps more (datagrams.after make p what w) may.1)

last-more : (xs ys : List NetworkWorld) (w : NetworkWorld) → datagrams.last_world w (xs ++ ys) ≡ datagrams.last_world (datagrams.last_world w xs) ys
last-more [] ys w = refl
last-more (x ∷ xs) ys w = last-more xs ys x

steps-more : (make : (point : ℕ) → nodes.Make) (xs ys : List NetworkWorld) (w : NetworkWorld) → datagrams.Steps make w xs → datagrams.Steps make (datagrams.last_world w xs) ys
    → datagrams.Steps make w (xs ++ ys)
steps-more make [] ys w h g = g
steps-more make (x ∷ xs) ys w h g = (h.0, steps-more make xs ys x h.1 g)

module _ (make : (point : ℕ) → Make) (points : List ℕ) (is_joined : IsJoined (settings_of make) points) where
  abbrev nodes_made : (point : ℕ) → nodes.Make
  nodes_made = nodes_of make

  abbrev first : NetworkWorld
  first = datagrams.new_world nodes_made

  pub joined : AreJoined nodes_made points
  joined = record {
    joined = is_joined;
    good = λ point link. keyed-good ((make point).gates link).tag_key ((make point).gates link).cookie_key;
  }

  -- a world of gates is reached by these worlds over datagrams
  pub record Reaches (v : GateWorld) : Type 0 where
    pub list : List NetworkWorld
    pub steps : datagrams.Steps nodes_made first list
    pub beside : (point : ℕ) → BesideNode (make point) (v.node point) ((datagrams.last_world first list).node point)

  -- by further steps of a node
  goes-on : (v u : GateWorld) (r : Reaches v) (p : ℕ) (more : List datagrams.Doing) (w : NetworkWorld) → MayAll nodes_made p more (datagrams.last_world first r.list)
      → after_all nodes_made p more (datagrams.last_world first r.list) ≡ w → ((o : ℕ) → BesideNode (make o) (u.node o) (w.node o)) → Reaches u
  goes-on v u r p more w may is beside =
      let last : NetworkWorld = datagrams.last_world first r.list in
      let list : List NetworkWorld = through nodes_made p more last in
      let reached : datagrams.last_world first (r.list ++ list) ≡ w = last-more r.list list first ∙ through-last nodes_made p more last ∙ is in
      record {
        list = r.list ++ list;
        steps = steps-more nodes_made r.list list first r.steps (through-steps nodes_made p more last may);
        beside = λ o. subst (λ (x : NetworkWorld). BesideNode (make o) (u.node o) (x.node o)) (sym reached) (beside o);
      }

  happens : (v : GateWorld) (p : ℕ) (what : Happening) → IsOwn what → (r : Reaches v) → Reaches (after p (Happens what) v)
  happens v p what own r =
      let w : NetworkWorld = datagrams.last_world first r.list in
      goes-on v (after p (Happens what) v) r p (datagrams.Happens what ∷ []) (datagrams.after nodes_made p (datagrams.Happens what) w) (own, tt) refl
      (λ o.
      either (make o) (nat_eq o p) (did (Happens what) (v.node o)) (v.node o) (datagrams.did (nodes_made o) (datagrams.Happens what) (w.node o)) (w.node o)
      (record { books = ap (happened what) (r.beside o).books; ports = (r.beside o).ports }) (r.beside o))

  module _ (v : GateWorld) (r : Reaches v) where
    abbrev w : NetworkWorld
    w = datagrams.last_world first r.list

    run : IsRun nodes_made w
    run = all-run nodes_made points joined r.list r.steps

    pub settings-are : (o : ℕ) → (v.node o).books.exchange.settings ≡ (make o).configuration
    settings-are o = ap (λ (x : NetworkNode). x.exchange.settings) (sym (r.beside o).books) ∙ (run.meets.all.each o).settings

    pub ends-there : (p k : ℕ) (h : HasEnd (shown v) p k) → AreEnds (settings_of make) p k h.there.point h.there.link
    ends-there p k h =
        ends-of (settings_of make) points is_joined p k h.there.point h.there.link (sym (ends-are (settings_of make) (shown v) settings-are p k) ∙ h.is)

    calls : (p k : ℕ) (call : Call) (h : HasEnd (shown v) p k) → MayCall ((v.node h.there.point).ports h.there.link) call → Reaches (after p (Calls k call) v)
    calls p k call h may =
        let q : ℕ = h.there.point in
        let j : ℕ = h.there.link in
        let e : AreEnds (settings_of make) p k q j = ends-there p k h in
        let m : nodes.Make = nodes_made p in
        let g : Node = v.node p in
        let d : Did WholeQueues = done_by node_kept call k g in
        let c : Goes node_kept m k (there nodes_made w p k points joined q j e) (Runs nodes_made w p k points joined q j e) (lasts nodes_made w p k points joined q j e)
        (end_at nodes_made w p k) g.books call d (g.ports k) =
        call-goes node_kept m k (there nodes_made w p k points joined q j e) (Runs nodes_made w p k points joined q j e) (lasts nodes_made w p k points joined q j e)
        (end_at nodes_made w p k) g.books (g.ports k) ((v.node q).ports j) call (r.beside p).books ((r.beside p).ports k) (run-at nodes_made w p k points joined q j e run)
        ((r.beside q).ports j).ages may in
        let l : LinkEnd NetworkNode = acted_all node_kept m k c.acts (end_at nodes_made w p k) in
        let at : BesideNode (make p) (did (Calls k call) g) (ends.with_end m k (w.node p) l) =
        record {
          books = books-so node_kept l.books (seen_all node_kept k d.seen g.books) d.exchange (λ x. refl) c.books c.exchange;
          ports = each-beside m k l.port (port_after call d (g.ports k)) (w.node p).ports g.ports c.port (r.beside p).ports;
        } in
        goes-on v (after p (Calls k call) v) r p (map (doing_of k) c.acts) (world_with nodes_made w p k l) (may-all nodes_made w p k points joined q j e c.acts run c.may)
        (all-after nodes_made w p k c.acts) (λ o. by o (ends.with_end m k (w.node p) l) at (nat_eq o p) refl)
      where
        by : (o : ℕ) (n : datagrams.Node) → BesideNode (make p) (did (Calls k call) (v.node p)) n → (b : Bool) → nat_eq o p ≡ b
            → BesideNode (make o) (if b then did (Calls k call) (v.node o) else v.node o) (if b then n else w.node o)
        by o n at true same = subst (λ (i : ℕ). BesideNode (make i) (did (Calls k call) (v.node i)) n) (sym (same-number o p same)) at
        by o n at false same = r.beside o

    pub did-goes : (p : ℕ) (what : Doing) → MayDo v p what → Reaches (after p what v)
    did-goes p (Happens what) own = happens v p what own r
    did-goes p (Calls k call) may = calls p k call may.0 may.1

  all-go : (list : List GateWorld) (v : GateWorld) → Steps v list → Reaches v → Reaches (last_world v list)
  all-go [] v m r = r
  all-go (u ∷ list) v m r = all-go list u m.1 (subst Reaches (sym m.0.is) (did-goes v r m.0.point m.0.what m.0.may))

  new-beside : (m : Make) → BesideNode m (new_node m) (datagrams.new_node (node_make m))
  new-beside m = record {
    books = refl;
    ports = λ k. record {
      shows = new-shows (node_make m) k (new_port k (m.gates k)).gate (m.gates k).tries (m.gates k).tag_key (m.gates k).cookie_key refl refl;
      ages = new-ages (m.gates k) k (m.gates k).settings;
    };
  }

  pub first-reaches : Reaches (new_world make)
  first-reaches = record { list = []; steps = tt; beside = λ o. new-beside (make o) }

  pub all-reach : (list : List GateWorld) → Steps (new_world make) list → Reaches (last_world (new_world make) list)
  all-reach list steps = all-go list (new_world make) steps first-reaches
