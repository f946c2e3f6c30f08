-- One end of a link in a world over datagrams: what is done there are steps of its node, and a run goes on by them.
use Rattle.std.proofs.Common.{◌≡◌, ℕ, List, [], ◌∷◌, Some, map, refl, ap, sym, ◌∙◌, subst}
use Rattle.exchange_rules.specs.Exchange.{frame_to_take}
use Rattle.exchange_rules.specs.First.{Abstract}
use Rattle.exchange_rules.specs.Queues.{whole}
use Rattle.sctp_rules.specs.Wishing.{Fits}
use Rattle.sctp_rules.proofs.Passing.{Right}
use Rattle.sctp_ends.specs.Worlds.{Site}
use Rattle.network_rules.specs.Networks.{NetworkNode}
use Rattle.network_rules.proofs.Joined.{ends-are}
use Rattle.node_rules.specs.Worlds.{Make, MayAssociate, Port}
use Rattle.network_datagrams.specs.NetworkWorlds.{HasEnd, MayDo, NetworkWorld, Node, after, bare, did, shown}
use Rattle.network_datagrams.specs.NetworkPromises.{AreJoined, settings_of}
use Rattle.network_datagrams.proofs.Changing.{after-is, node-here, node-same, node-there, with_node}
use Rattle.network_datagrams.proofs.Fitting.{run-short}
use Rattle.network_datagrams.proofs.Placing.{AreEnds}
use Rattle.network_datagrams.proofs.Running.{IsRun, one-step}
use Rattle.gate_rules.proofs.LinkEnds.{Act, Associates, Lasts, LinkEnd, MayAct, MayActAll, Sends, acted, acted_all, as_node, put-twice}
use Rattle.gate_rules.proofs.Lifting.{associates-as, goes-as}
use Rattle.network_gates.specs.GateCalls.{MayAll, after_all}
use Rattle.network_gates.specs.GateWorlds.{node_kept}
use Rattle.network_gates.proofs.NodeEnds.{did-so, doing_of, end-port, end-same, node-keeps}
use Rattle.network_gates.proofs.NodeEnds as ends

module _ (make : (point : ℕ) → Make) (w : NetworkWorld) (p k : ℕ) where
  abbrev pub end_at : LinkEnd NetworkNode
  end_at = ends.end_at (make p) k (w.node p)

  abbrev with_end : LinkEnd NetworkNode → Node
  with_end l = ends.with_end (make p) k (w.node p) l

  -- the world with this end in its place
  abbrev pub world_with : LinkEnd NetworkNode → NetworkWorld
  world_with l = with_node p (with_end l) w

  pub world-same : world_with end_at ≡ w
  world-same = ap (λ (n : Node). with_node p n w) (end-same (make p) k (w.node p)) ∙ sym (node-same p w)

  here : (l : LinkEnd NetworkNode) → (world_with l).node p ≡ with_end l
  here l = node-here p (with_end l) w

  pub port-here : (l : LinkEnd NetworkNode) → ((world_with l).node p).ports k ≡ l.port
  port-here l = ap (λ (n : Node). n.ports k) (here l) ∙ end-port (make p) k (w.node p) l

  pub books-here : (l : LinkEnd NetworkNode) → ((world_with l).node p).books ≡ l.books
  books-here l = ap (λ (n : Node). n.books) (here l)

  exchange-here : (l : LinkEnd NetworkNode) → ((world_with l).node p).books.exchange ≡ l.books.exchange
  exchange-here l = ap (λ (x : NetworkNode). x.exchange) (books-here l)

  after-so : (what : Act) (l : LinkEnd NetworkNode) → after make p (doing_of k what) (world_with l) ≡ world_with (acted node_kept (make p) k what l)
  after-so what l =
      after-is make p (doing_of k what) (world_with l)
      ∙ ap (λ (n : Node). with_node p (did (make p) (doing_of k what) n) (world_with l)) (here l)
      ∙ ap (λ (n : Node). with_node p n (world_with l)) (did-so (make p) k (w.node p) what l)
      ∙ ap (λ (node : ℕ → Node). record { node = node }) (put-twice p (with_end (acted node_kept (make p) k what l)) (with_end l) w.node)

  all-so : (list : List Act) (l : LinkEnd NetworkNode) → after_all make p (map (doing_of k) list) (world_with l) ≡ world_with (acted_all node_kept (make p) k list l)
  all-so [] l = refl
  all-so (what ∷ more) l = ap (after_all make p (map (doing_of k) more)) (after-so what l) ∙ all-so more (acted node_kept (make p) k what l)

  pub all-after : (list : List Act) → after_all make p (map (doing_of k) list) w ≡ world_with (acted_all node_kept (make p) k list end_at)
  all-after list = ap (after_all make p (map (doing_of k) list)) (sym world-same) ∙ all-so list end_at

  -- ---- a run goes on by what is done there

  module _ (points : List ℕ) (joined : AreJoined make points) (q j : ℕ) (e : AreEnds (settings_of make) p k q j) where
    abbrev pub there : Site
    there = ((w.node q).ports j).site

    abbrev pub Runs : LinkEnd NetworkNode → Type 0
    Runs l = IsRun make (world_with l)

    abbrev has-end : (l : LinkEnd NetworkNode) → Runs l → HasEnd (shown (world_with l)) p k
    has-end l r = record {
      there = record { point = q; link = j };
      is = ends-are (settings_of make) (shown (world_with l)) (λ o. (r.meets.all.each o).settings) p k ∙ e.end;
    }

    may-so : (what : Act) (l : LinkEnd NetworkNode) → Runs l → MayAct node_kept (make p) k there what l → MayDo (world_with l) p (doing_of k what)
    may-so (Associates what) l r may = (
      has-end l r,
      subst (λ (n : Node). MayAssociate (n.ports j).site k what (bare ((world_with l).node p))) (sym (node-there p (with_end l) w q e.apart))
          (associates-as k (as_node node_kept l) (bare ((world_with l).node p)) (port-here l) (exchange-here l) there what may),
    )
    may-so Sends l r may = (has-end l r, goes-as k (as_node node_kept l) (bare ((world_with l).node p)) (port-here l) (exchange-here l) may)

    pub lasts : Lasts node_kept (make p) k there Runs
    lasts = record {
      keeps = node-keeps;
      stays = λ l what r may.
          subst (IsRun make) (after-so what l)
          (one-step make points joined (world_with l) (after make p (doing_of k what) (world_with l))
          (record { point = p; what = doing_of k what; may = may-so what l r may; is = refl }) r);
      right = λ l r. subst (λ (x : Port). Right x.site.state) (port-here l) (r.meets.linked p k q j e).near_right;
      fits = λ l r. subst (λ (x : Port). Fits (Some x.wish) x.site.state) (port-here l) (r.meets.linked p k q j e).near_fits;
      short = λ l r frame next.
          run-short make points joined (world_with l) r p k (has-end l r) frame (ap (λ (a : Abstract). frame_to_take whole a k) (exchange-here l) ∙ next);
    }

    all-may : (list : List Act) (l : LinkEnd NetworkNode) → Runs l → MayActAll node_kept (make p) k there list l → MayAll make p (map (doing_of k) list) (world_with l)
    all-may [] l r may = tt
    all-may (what ∷ more) l r may = (
      may-so what l r may.0,
      subst (MayAll make p (map (doing_of k) more)) (sym (after-so what l)) (all-may more (acted node_kept (make p) k what l) (lasts.stays l what r may.0) may.1),
    )

    pub run-at : IsRun make w → Runs end_at
    run-at r = subst (IsRun make) (sym world-same) r

    pub may-all : (list : List Act) → IsRun make w → MayActAll node_kept (make p) k there list end_at → MayAll make p (map (doing_of k) list) w
    may-all list r may = subst (MayAll make p (map (doing_of k) list)) world-same (all-may list end_at (run-at r) may)
