-- The laws of gates beside nodes.
use Rattle.std.proofs.Common.{◌≡◌, ℕ, Bool, List, Some, map, refl, ap, sym, ◌∙◌, subst}
use Rattle.std.specs.List.{Contains}
use Rattle.settings.specs.Configuration.{Configuration}
use Rattle.sctp_rules.specs.Wishing.{Fits}
use Rattle.sctp_rules.proofs.Passing.{Right}
use Rattle.sctp_moves.proofs.Members.{in-from, contains-from, in-map}
use Rattle.sctp_ends.specs.Worlds.{Emitted, emitted}
use Rattle.sctp_endpoint.specs.Endpoints.{secrets_of}
use Rattle.exchange_rules.specs.Queues.{WholeQueues, whole}
use Rattle.sctp_gate.specs.Gates.{Gate, Did}
use Rattle.sctp_gate.specs.Calling.{called}
use Rattle.node_rules.specs.Worlds.{Books, IsBetween, Make, Node, Port, new_node, World, new_world, at_near, at_far, did, last_world}
use Rattle.node_rules.specs.Promises.{AreNeighbours}
use Rattle.node_rules.proofs.Lines.{Ends, ends-of, turned-ends}
use Rattle.node_rules.proofs.Runs.{IsRun, all-run, back, facing, one-step}
use Rattle.neighbour_rules.proofs.Sharing.{AreFacing}
use Rattle.node_rules.proofs.Fitting.{run-short}
use Rattle.gate_rules.specs.Calls.{AreSteps, Shows, books_kept, calls_are_steps, dids, does_flush, MayAll, new_gates_show}
use Rattle.gate_rules.proofs.LinkEnds.{Act, Lasts, LinkEnd, MayActAll, acted_all}
use Rattle.gate_rules.proofs.Calling.{AreCalled}
use Rattle.gate_rules.proofs.Called.{called-done}
use Rattle.gate_rules.proofs.Lifting.{all-may, books-keep, did-so, dids-so, doing_of, end-port, end-same, end_at, may-so, with_end}

-- ---- acts at an end are steps of its node

module _ (m : Make) (k : ℕ) (n : Node) (list : List Act) where
  pub dids-are : dids m (map (doing_of k) list) n ≡ with_end m k n (acted_all books_kept m k list (end_at m k n))
  dids-are = ap (dids m (map (doing_of k) list)) (sym (end-same m k n)) ∙ dids-so m k n list (end_at m k n)

  pub may-are : (peer : Configuration) (other : Node) (k-in : IsBetween m.configuration peer k) → MayActAll books_kept m k (other.ports k-in.there).site list (end_at m k n)
      → MayAll m peer other (map (doing_of k) list) n
  may-are peer other k-in may = subst (MayAll m peer other (map (doing_of k) list)) (end-same m k n) (all-may m k n peer other k-in list (end_at m k n) may)

module _ (m : Make) (peer : Configuration) (other : Node) (k : ℕ) (k-in : IsBetween m.configuration peer k) (Holds : LinkEnd Books → Type 0)
    (lasts : Lasts books_kept m k (other.ports k-in.there).site Holds) where
  steps-of : (n : Node) (d : Did WholeQueues) (b : Bool) → AreCalled books_kept m k (other.ports k-in.there).site Holds lasts (end_at m k n) d b → AreSteps m peer other n k d
  steps-of n d b f =
      let l : LinkEnd Books = acted_all books_kept m k f.steps (end_at m k n) in
      let is : dids m (map (doing_of k) f.steps) n ≡ with_end m k n l = dids-are m k n f.steps in
      let port : (dids m (map (doing_of k) f.steps) n).ports k ≡ l.port = ap (λ (x : Node). x.ports k) is ∙ end-port m k n l in
      record {
        steps = map (doing_of k) f.steps;
        may = may-are m k n f.steps peer other k-in f.may;
        shows = subst (λ (p : Port). Shows m k p d.gate) (sym port) f.leaves.shows;
        exchange = ap (λ (x : Node). x.books.exchange) is ∙ f.leaves.exchange;
        books = ap (λ (x : Node). x.books) is ∙ f.leaves.books;
        sent = λ x c.
            subst (λ (p : Port). Contains (map (λ (e : Emitted). e.packet) p.site.packets) x.packet) (sym port)
            (contains-from (map (λ (e : Emitted). e.packet) l.port.site.packets) x.packet
            (in-map (λ (e : Emitted). e.packet) l.port.site.packets (emitted (n.ports k).site.mark x) (f.leaves.sent x (in-from d.sent x c))));
      }

-- ---- after every list of steps

module _ (near far : Make) (n : AreNeighbours near far) where
  abbrev f : AreFacing near.configuration far.configuration
  f = facing near far n

  -- a run that got so far goes on so at each node
  module _ (near_node far_node : Node) where
    module _ (k : ℕ) (k-in : IsBetween near.configuration far.configuration k) where
      abbrev pub near-runs : LinkEnd Books → Type 0
      near-runs l = IsRun near far f (record { near = with_end near k near_node l; far = far_node })

      pub near-lasts : Lasts books_kept near k (far_node.ports k-in.there).site near-runs
      near-lasts =
          let e : Ends near.configuration far.configuration f k k-in.there = ends-of near.configuration far.configuration f k k-in.there k-in.is in
          record {
            keeps = books-keep;
            stays = λ l what r may.
                subst (λ (x : Node). IsRun near far f (record { near = x; far = far_node })) (did-so near k near_node what l)
                (one-step near far f n.near_good n.far_good (record { near = with_end near k near_node l; far = far_node })
                (record { near = did near (doing_of k what) (with_end near k near_node l); far = far_node })
                (at_near (doing_of k what) (may-so near k near_node far.configuration far_node k-in what l may) refl) r);
            right = λ l r. subst (λ (p : Port). Right p.site.state) (end-port near k near_node l) (r.meets.linked k k-in.there e).near_right;
            fits = λ l r. subst (λ (p : Port). Fits (Some p.wish) p.site.state) (end-port near k near_node l) (r.meets.linked k k-in.there e).near_fits;
            short = λ l r. (run-short near far f (record { near = with_end near k near_node l; far = far_node }) r).near k;
          }

      pub near-run : IsRun near far f (record { near = near_node; far = far_node }) → near-runs (end_at near k near_node)
      near-run r = subst (λ (x : Node). IsRun near far f (record { near = x; far = far_node })) (sym (end-same near k near_node)) r

    module _ (k : ℕ) (k-in : IsBetween far.configuration near.configuration k) where
      abbrev pub far-runs : LinkEnd Books → Type 0
      far-runs l = IsRun near far f (record { near = near_node; far = with_end far k far_node l })

      pub far-lasts : Lasts books_kept far k (near_node.ports k-in.there).site far-runs
      far-lasts =
          let e : Ends far.configuration near.configuration (back near far f) k k-in.there =
          ends-of far.configuration near.configuration (back near far f) k k-in.there k-in.is in
          let b : Ends near.configuration far.configuration f k-in.there k = turned-ends far.configuration near.configuration (back near far f) k k-in.there e in
          record {
            keeps = books-keep;
            stays = λ l what r may.
                subst (λ (x : Node). IsRun near far f (record { near = near_node; far = x })) (did-so far k far_node what l)
                (one-step near far f n.near_good n.far_good (record { near = near_node; far = with_end far k far_node l })
                (record { near = near_node; far = did far (doing_of k what) (with_end far k far_node l) })
                (at_far (doing_of k what) (may-so far k far_node near.configuration near_node k-in what l may) refl) r);
            right = λ l r. subst (λ (p : Port). Right p.site.state) (end-port far k far_node l) (r.meets.linked k-in.there k b).far_right;
            fits = λ l r. subst (λ (p : Port). Fits (Some p.wish) p.site.state) (end-port far k far_node l) (r.meets.linked k-in.there k b).far_fits;
            short = λ l r. (run-short near far f (record { near = near_node; far = with_end far k far_node l }) r).far k;
          }

      pub far-run : IsRun near far f (record { near = near_node; far = far_node }) → far-runs (end_at far k far_node)
      far-run r = subst (λ (x : Node). IsRun near far f (record { near = near_node; far = x })) (sym (end-same far k far_node)) r

pub all-calls : calls_are_steps
all-calls near far n list steps =
    let w : World = last_world (new_world near far) list in
    let r : IsRun near far (facing near far n) w = all-run near far n list steps in
    record {
      near_calls = λ k g call k-in h may.
          steps-of near far.configuration w.far k k-in _ (near-lasts near far n w.near w.far k k-in) w.near (called whole call g w.near.books.exchange) (does_flush call g)
          (called-done books_kept near k (w.far.ports k-in.there).site _ (near-lasts near far n w.near w.far k k-in) (end_at near k w.near) g call h (near-run near far n w.near w.far k k-in r) may);
      far_calls = λ k g call k-in h may.
          steps-of far near.configuration w.near k k-in _ (far-lasts near far n w.near w.far k k-in) w.far (called whole call g w.far.books.exchange) (does_flush call g)
          (called-done books_kept far k (w.near.ports k-in.there).site _ (far-lasts near far n w.near w.far k k-in) (end_at far k w.far) g call h (far-run near far n w.near w.far k k-in r) may);
    }

pub new-shows : new_gates_show
new-shows m link g tries tag_key cookie_key e secrets =
    subst (λ (x : Gate). (m.endpoints link).secrets ≡ secrets_of x.endpoint → Shows m link ((new_node m).ports link) x) (sym e)
    (λ s. record { link_is = refl; settings = refl; secrets = s; state = refl; up = refl; seeking = refl }) secrets
