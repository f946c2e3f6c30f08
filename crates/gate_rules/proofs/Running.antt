-- Runs of two nodes with gates are runs of two nodes of `node_rules`, and so have their promises.
use Rattle.std.proofs.Common.{◌≡◌, ℕ, List, [], ◌∷◌, ◌++◌, map, refl, ap, sym, ◌∙◌, subst}
use Rattle.settings.specs.Configuration.{Configuration}
use Rattle.exchange_rules.specs.Exchange.{frame_to_take}
use Rattle.exchange_rules.specs.Queues.{WholeQueues, whole}
use Rattle.sctp_ends.proofs.Keyed.{keyed-good}
use Rattle.sctp_gate.specs.Gates.{Did}
use Rattle.sctp_gate.specs.Calling.{Call}
use Rattle.pair_rules.specs.Pairs.{PairState}
use Rattle.pair_rules.specs.Promises as alone
use Rattle.pair_rules.specs.Promises.{LostNothing, IsPunctual, BothWays}
use Rattle.pair_rules.specs.Sharing.{AreSharing}
use Rattle.neighbour_rules.specs.Promises.{EachOnce, InOrder}
use Rattle.neighbour_rules.proofs.Special.{sharing}
use Rattle.node_rules.specs.Worlds as nodes
use Rattle.node_rules.specs.Worlds.{Books, IsBetween}
use Rattle.node_rules.specs.Promises.{AreNeighbours, end_of}
use Rattle.node_rules.specs.Alone as nodes_alone
use Rattle.node_rules.specs.Alone.{whole_end}
use Rattle.node_rules.proofs.Alone as special
use Rattle.node_rules.proofs.Runs.{IsRun, all-run, facing}
use Rattle.node_rules.proofs.Promised.{once, in-order}
use Rattle.gate_rules.specs.Calls.{MayAll, books_kept, dids, seen_all}
use Rattle.gate_rules.specs.Worlds as gates
use Rattle.gate_rules.specs.Worlds.{Make, World, new_world, at_near, at_far, Steps, last_world, done_by, port_after, with_call}
use Rattle.gate_rules.specs.Promises.{node_make, first_nodes, IsRunOfNodes, runs_are_runs_of_nodes, each_message_once, each_flow_in_order, alone_is_special}
use Rattle.gate_rules.proofs.LinkEnds.{Lasts, LinkEnd, acted_all}
use Rattle.gate_rules.proofs.Called.{Ages, Beside, Goes, books-so, call-goes, each-beside, new-ages}
use Rattle.gate_rules.proofs.Lifting.{doing_of, end_at}
use Rattle.gate_rules.proofs.Lawful.{dids-are, far-lasts, far-run, may-are, near-lasts, near-run, new-shows}

-- ---- a node with gates beside one of `node_rules`

pub record BesideNode (m : Make) (g : gates.Node) (n : nodes.Node) : Type 0 where
  pub books : n.books ≡ g.books
  pub ports : (k : ℕ) → Beside (node_make m) k (n.ports k) (g.ports k)

-- ---- after a call

module _ (m : Make) (peer : Configuration) (other : nodes.Node) (k : ℕ) (k-in : IsBetween m.configuration peer k) (Holds : LinkEnd Books → Type 0)
    (lasts : Lasts books_kept (node_make m) k (other.ports k-in.there).site Holds) where
  pub record GoesOn (g : gates.Node) (n : nodes.Node) (what : gates.Doing) : Type 0 where
    pub steps : List nodes.Doing
    pub may : MayAll (node_make m) peer other steps n
    pub beside : BesideNode m (gates.did what g) (dids (node_make m) steps n)

  pub node-goes : (g : gates.Node) (n : nodes.Node) (o : gates.Port) (call : Call) → BesideNode m g n → Holds (end_at (node_make m) k n) → Ages (other.ports k-in.there).site o
      → gates.MayCall o call → GoesOn g n (gates.Calls k call)
  node-goes g n o call b z a may =
      let d : Did WholeQueues = done_by books_kept call k g in
      let e : LinkEnd Books = end_at (node_make m) k n in
      let c : Goes books_kept (node_make m) k (other.ports k-in.there).site Holds lasts e g.books call d (g.ports k) =
      call-goes books_kept (node_make m) k (other.ports k-in.there).site Holds lasts e g.books (g.ports k) o call b.books (b.ports k) z a may in
      let l : LinkEnd Books = acted_all books_kept (node_make m) k c.acts e in
      record {
        steps = map (doing_of k) c.acts;
        may = may-are (node_make m) k n c.acts peer other k-in c.may;
        beside = subst (BesideNode m (with_call books_kept call k d g)) (sym (dids-are (node_make m) k n c.acts))
            (record {
              books = books-so books_kept l.books (seen_all books_kept k d.seen g.books) d.exchange (λ x. refl) c.books c.exchange;
              ports = each-beside (node_make m) k l.port (port_after call d (g.ports k)) n.ports g.ports c.port b.ports;
            });
      }

-- what its links don't bring
own-goes : (m : Make) (g : gates.Node) (n : nodes.Node) (what : nodes.Doing) (books : Books → Books) → BesideNode m g n → nodes.did (node_make m) what n ≡ record n { books = books n.books }
    → BesideNode m (record g { books = books g.books }) (nodes.did (node_make m) what n)
own-goes m g n what books b e =
    subst (BesideNode m (record g { books = books g.books })) (sym e) (record { books = ap books b.books; ports = b.ports })

-- ---- two nodes

-- the worlds that steps of one node lead through
abbrev near-through : (m : nodes.Make) → List nodes.Doing → nodes.World → List nodes.World
near-through m [] w = []
near-through m (what ∷ more) w = record w { near = nodes.did m what w.near } ∷ near-through m more (record w { near = nodes.did m what w.near })

abbrev far-through : (m : nodes.Make) → List nodes.Doing → nodes.World → List nodes.World
far-through m [] w = []
far-through m (what ∷ more) w = record w { far = nodes.did m what w.far } ∷ far-through m more (record w { far = nodes.did m what w.far })

near-last : (m : nodes.Make) (list : List nodes.Doing) (w : nodes.World) → nodes.last_world w (near-through m list w) ≡ record w { near = dids m list w.near }
near-last m [] w = refl
near-last m (what ∷ more) w = near-last m more (record w { near = nodes.did m what w.near })

far-last : (m : nodes.Make) (list : List nodes.Doing) (w : nodes.World) → nodes.last_world w (far-through m list w) ≡ record w { far = dids m list w.far }
far-last m [] w = refl
far-last m (what ∷ more) w = far-last m more (record w { far = nodes.did m what w.far })

near-steps : (near far : nodes.Make) (list : List nodes.Doing) (w : nodes.World) → MayAll near far.configuration w.far list w.near → nodes.Steps near far w (near-through near list w)
near-steps near far [] w may = tt
near-steps near far (what ∷ more) w may = (nodes.at_near what may.0 refl, near-steps near far more (record w { near = nodes.did near what w.near }) may.1)

far-steps : (near far : nodes.Make) (list : List nodes.Doing) (w : nodes.World) → MayAll far near.configuration w.near list w.far → nodes.Steps near far w (far-through far list w)
far-steps near far [] w may = tt
far-steps near far (what ∷ more) w may = (nodes.at_far what may.0 refl, far-steps near far more (record w { far = nodes.did far what w.far }) may.1)

last-more : (xs ys : List nodes.World) (w : nodes.World) → nodes.last_world w (xs ++ ys) ≡ nodes.last_world (nodes.last_world w xs) ys
last-more [] ys w = refl
last-more (x ∷ xs) ys w = last-more xs ys x

steps-more : (near far : nodes.Make) (xs ys : List nodes.World) (w : nodes.World) → nodes.Steps near far w xs → nodes.Steps near far (nodes.last_world w xs) ys
    → nodes.Steps near far w (xs ++ ys)
steps-more near far [] ys w h g = g
steps-more near far (x ∷ xs) ys w h g = (h.0, steps-more near far xs ys x h.1 g)

module _ (near far : Make) (sharing : AreSharing near.configuration far.configuration) where
  abbrev near_node : nodes.Make
  near_node = node_make near

  abbrev far_node : nodes.Make
  far_node = node_make far

  abbrev first : nodes.World
  first = first_nodes near far

  neighbours : AreNeighbours near_node far_node
  neighbours = record {
    sharing = sharing;
    near_good = λ link. keyed-good (near.gates link).tag_key (near.gates link).cookie_key;
    far_good = λ link. keyed-good (far.gates link).tag_key (far.gates link).cookie_key;
  }

  -- a world of gates is reached by these worlds of nodes
  pub record Reaches (v : World) : Type 0 where
    pub list : List nodes.World
    pub steps : nodes.Steps near_node far_node first list
    pub near_beside : BesideNode near v.near (nodes.last_world first list).near
    pub far_beside : BesideNode far v.far (nodes.last_world first list).far

  -- by further steps
  goes-on : (v u : World) (r : Reaches v) (more : List nodes.World) (w : nodes.World) → nodes.Steps near_node far_node (nodes.last_world first r.list) more
      → nodes.last_world (nodes.last_world first r.list) more ≡ w → BesideNode near u.near w.near → BesideNode far u.far w.far → Reaches u
  goes-on v u r more w steps is b c =
      let last : nodes.last_world first (r.list ++ more) ≡ w = last-more r.list more first ∙ is in
      record {
        list = r.list ++ more;
        steps = steps-more near_node far_node r.list more first r.steps steps;
        near_beside = subst (λ (x : nodes.World). BesideNode near u.near x.near) (sym last) b;
        far_beside = subst (λ (x : nodes.World). BesideNode far u.far x.far) (sym last) c;
      }

  -- what no link between the two brings, which changes books alone
  near-alone : (v : World) (what : nodes.Doing) (books : Books → Books) (r : Reaches v)
      → nodes.MayDo near.configuration far.configuration (nodes.last_world first r.list).far what (nodes.last_world first r.list).near
      → nodes.did near_node what (nodes.last_world first r.list).near ≡ record (nodes.last_world first r.list).near { books = books (nodes.last_world first r.list).near.books }
      → Reaches (record v { near = record v.near { books = books v.near.books } })
  near-alone v what books r may is =
      let w : nodes.World = nodes.last_world first r.list in
      goes-on v (record v { near = record v.near { books = books v.near.books } }) r (near-through near_node (what ∷ []) w) _
      (near-steps near_node far_node (what ∷ []) w (may, tt)) (near-last near_node (what ∷ []) w)
      (own-goes near v.near w.near what books r.near_beside is) r.far_beside

  far-alone : (v : World) (what : nodes.Doing) (books : Books → Books) (r : Reaches v)
      → nodes.MayDo far.configuration near.configuration (nodes.last_world first r.list).near what (nodes.last_world first r.list).far
      → nodes.did far_node what (nodes.last_world first r.list).far ≡ record (nodes.last_world first r.list).far { books = books (nodes.last_world first r.list).far.books }
      → Reaches (record v { far = record v.far { books = books v.far.books } })
  far-alone v what books r may is =
      let w : nodes.World = nodes.last_world first r.list in
      goes-on v (record v { far = record v.far { books = books v.far.books } }) r (far-through far_node (what ∷ []) w) _
      (far-steps near_node far_node (what ∷ []) w (may, tt)) (far-last far_node (what ∷ []) w)
      r.near_beside (own-goes far v.far w.far what books r.far_beside is)

  near-goes : (v : World) (what : gates.Doing) → gates.MayDo near.configuration far.configuration v.far what → (r : Reaches v) → Reaches (record v { near = gates.did what v.near })
  near-goes v (gates.Happens what) may r = near-alone v (nodes.Happens what) (nodes.happened what) r may refl
  near-goes v (gates.Brings what) may r = near-alone v (nodes.Brings what) (nodes.happened_elsewhere what) r may refl
  near-goes v (gates.Leaves k) may r =
      near-alone v (nodes.Leaves k) (λ b. nodes.left_by k (frame_to_take whole b.exchange k) b) r may refl
  near-goes v (gates.Calls k call) may r =
      let w : nodes.World = nodes.last_world first r.list in
      let run : IsRun near_node far_node (facing near_node far_node neighbours) w = all-run near_node far_node neighbours r.list r.steps in
      let e : GoesOn near far.configuration w.far k may.0 _ (near-lasts near_node far_node neighbours w.near w.far k may.0) v.near w.near (gates.Calls k call) =
      node-goes near far.configuration w.far k may.0 _ (near-lasts near_node far_node neighbours w.near w.far k may.0) v.near w.near (v.far.ports may.0.there) call r.near_beside
      (near-run near_node far_node neighbours w.near w.far k may.0 run) (r.far_beside.ports may.0.there).ages may.1 in
      goes-on v (record v { near = gates.did (gates.Calls k call) v.near }) r (near-through near_node e.steps w) _
      (near-steps near_node far_node e.steps w e.may) (near-last near_node e.steps w) e.beside r.far_beside

  far-goes : (v : World) (what : gates.Doing) → gates.MayDo far.configuration near.configuration v.near what → (r : Reaches v) → Reaches (record v { far = gates.did what v.far })
  far-goes v (gates.Happens what) may r = far-alone v (nodes.Happens what) (nodes.happened what) r may refl
  far-goes v (gates.Brings what) may r = far-alone v (nodes.Brings what) (nodes.happened_elsewhere what) r may refl
  far-goes v (gates.Leaves k) may r =
      far-alone v (nodes.Leaves k) (λ b. nodes.left_by k (frame_to_take whole b.exchange k) b) r may refl
  far-goes v (gates.Calls k call) may r =
      let w : nodes.World = nodes.last_world first r.list in
      let run : IsRun near_node far_node (facing near_node far_node neighbours) w = all-run near_node far_node neighbours r.list r.steps in
      let e : GoesOn far near.configuration w.near k may.0 _ (far-lasts near_node far_node neighbours w.near w.far k may.0) v.far w.far (gates.Calls k call) =
      node-goes far near.configuration w.near k may.0 _ (far-lasts near_node far_node neighbours w.near w.far k may.0) v.far w.far (v.near.ports may.0.there) call r.far_beside
      (far-run near_node far_node neighbours w.near w.far k may.0 run) (r.near_beside.ports may.0.there).ages may.1 in
      goes-on v (record v { far = gates.did (gates.Calls k call) v.far }) r (far-through far_node e.steps w) _
      (far-steps near_node far_node e.steps w e.may) (far-last far_node e.steps w) r.near_beside e.beside

  step-goes : (v u : World) → gates.Step near far v u → Reaches v → Reaches u
  step-goes v u (at_near what may is) r = subst Reaches (sym is) (near-goes v what may r)
  step-goes v u (at_far what may is) r = subst Reaches (sym is) (far-goes v what may r)

  all-go : (list : List World) (v : World) → Steps near far v list → Reaches v → Reaches (last_world v list)
  all-go [] v m r = r
  all-go (u ∷ list) v m r = all-go list u m.1 (step-goes v u m.0 r)

  -- the first
  new-beside : (m : Make) → BesideNode m (gates.new_node m) (nodes.new_node (node_make m))
  new-beside m = record {
    books = refl;
    ports = λ k. record {
      shows = new-shows (node_make m) k (gates.new_port k (m.gates k)).gate (m.gates k).tries (m.gates k).tag_key (m.gates k).cookie_key refl refl;
      ages = new-ages (m.gates k) k ((node_make m).endpoints k).settings;
    };
  }

  pub all-reach : (list : List World) → Steps near far (new_world near far) list → Reaches (last_world (new_world near far) list)
  all-reach list steps =
      all-go list (new_world near far) steps (record { list = []; steps = tt; near_beside = new-beside near; far_beside = new-beside far })

-- ---- the laws

pub are-runs : runs_are_runs_of_nodes
are-runs near far sharing list steps =
    let r : Reaches near far sharing (last_world (new_world near far) list) = all-reach near far sharing list steps in
    record { list = r.list; steps = r.steps; near_is = r.near_beside.books; far_is = r.far_beside.books }

-- what is said of books
books-as : (P : Books → Books → Type 0) (a b c d : Books) → a ≡ c → b ≡ d → P a b → P c d
books-as P a b c d e f h = subst (λ (x : Books). P x d) e (subst (λ (y : Books). P a y) f h)

module _ (near far : Make) (w : World) (r : IsRunOfNodes near far w) where
  abbrev v : nodes.World
  v = nodes.last_world (first_nodes near far) r.list

  -- what is said of the books of nodes is said of those of nodes with gates
  pub of-nodes : (P : Books → Books → Type 0) → P v.near.books v.far.books → P w.near.books w.far.books
  of-nodes P h = books-as P v.near.books v.far.books w.near.books w.far.books r.near_is r.far_is h

  pub of-gates : (P : Books → Books → Type 0) → P w.near.books w.far.books → P v.near.books v.far.books
  of-gates P h = books-as P w.near.books w.far.books v.near.books v.far.books (sym r.near_is) (sym r.far_is) h

  -- a pair with these books
  abbrev pub pair-of : Books → Books → PairState
  pair-of x y = record {
    near = end_of near.configuration.own far.configuration.own x;
    far = end_of far.configuration.own near.configuration.own y;
  }

pub each-once : each_message_once
each-once near far sharing list steps lost =
    let w : World = last_world (new_world near far) list in
    let r : IsRunOfNodes near far w = are-runs near far sharing list steps in
    of-nodes near far w r (λ x y. BothWays EachOnce (pair-of near far w r x y))
    (once (node_make near) (node_make far) (neighbours near far sharing) r.list r.steps (of-gates near far w r (λ x y. LostNothing (pair-of near far w r x y)) lost))

pub each-in-order : each_flow_in_order
each-in-order near far sharing list steps lost =
    let w : World = last_world (new_world near far) list in
    let r : IsRunOfNodes near far w = are-runs near far sharing list steps in
    of-nodes near far w r (λ x y. BothWays (λ p. IsPunctual p → InOrder p) (pair-of near far w r x y))
    (in-order (node_make near) (node_make far) (neighbours near far sharing) r.list r.steps (of-gates near far w r (λ x y. LostNothing (pair-of near far w r x y)) lost))

-- ---- nodes alone

pub is-special : alone_is_special
is-special near far joined list steps =
    let w : World = last_world (new_world near far) list in
    let both : AreSharing near.configuration far.configuration = sharing near.configuration far.configuration joined in
    let r : IsRunOfNodes near far w = are-runs near far both list steps in
    let n : AreNeighbours (node_make near) (node_make far) = neighbours near far both in
    let s : nodes_alone.IsSpecial (node_make near) (node_make far) (nodes.last_world (first_nodes near far) r.list) =
    special.is-special (node_make near) (node_make far) (record { joined = joined; near_good = n.near_good; far_good = n.far_good }) r.list r.steps in
    record {
      sharing = both;
      near_links = s.near_links;
      far_links = s.far_links;
      all_booked = of-nodes near far w r (λ x y. pair-of near far w r x y ≡ whole-of x y) s.all_booked;
      once = of-nodes near far w r (λ x y. LostNothing (whole-of x y) → BothWays alone.EachOnce (whole-of x y)) s.once;
      in_order = of-nodes near far w r (λ x y. LostNothing (whole-of x y) → BothWays (λ p. IsPunctual p → alone.InOrder p) (whole-of x y)) s.in_order;
    }
  where
    whole-of : Books → Books → PairState
    whole-of x y = record { near = whole_end x; far = whole_end y }
