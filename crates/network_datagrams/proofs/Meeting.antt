-- A world and a network with frames in flight. One link goes on, or what isn't of links happens, and all others stay.
use Rattle.std.proofs.Common.{◌≡◌, ◌≢◌, ℕ, Bool, List, [], ◌∷◌, refl, ap, sym, ◌∙◌, subst, ⊎_elim}
use Rattle.std.proofs.lemmas.Bool.{cases_eq}
use Rattle.std.specs.Prelude.{if◌then◌else◌}
use Rattle.settings.specs.Configuration.{Configuration}
use Rattle.exchange_rules.specs.State.{Happening}
use Rattle.network_rules.specs.Networks.{NetworkNode, NetworkState, Step, after_steps}
use Rattle.network_rules.proofs.Places.{not-equal}
use Rattle.node_rules.specs.Worlds.{Make, Port, IsOwn}
use Rattle.node_rules.proofs.Staying.{MayOpen}
use Rattle.node_rules.proofs.Flights.{Air}
use Rattle.node_rules.proofs.Linked.{turned-linked}
use Rattle.network_datagrams.specs.NetworkWorlds.{Node, NetworkWorld, happened, with_port}
use Rattle.network_datagrams.specs.NetworkPromises.{settings_of}
use Rattle.network_datagrams.proofs.Showing.{AllShow, Flight, Shows, air-stays, between, equal, far-air, far-other, near-air, near-other, other-row, shows-with, to_far, to_near, with_air}
use Rattle.network_datagrams.proofs.Owning.{own-goes, own_step}
use Rattle.network_datagrams.proofs.Acting.{Goes, ShowsAt}
use Rattle.network_datagrams.proofs.Handing.{own-open}
use Rattle.network_datagrams.proofs.Changing.{End, LinkedAt, Stays, linked-stays, node-here, node-there, seen, with_node}
use Rattle.network_datagrams.proofs.Placing.{AreEnds, Which, far-of, is_far, is_near, is_other, near-of, not-far, not-near, which}

-- ---- a world and a network

abbrev pub books_in : NetworkWorld → (point : ℕ) → NetworkNode
books_in w point = (w.node point).books

pub record Meets (make : (point : ℕ) → Make) (w : NetworkWorld) (s : NetworkState) : Type 0 where
  pub air : (point link : ℕ) → Flight
  pub all : AllShow (settings_of make) (books_in w) air s
  pub linked : (p k q j : ℕ) → AreEnds (settings_of make) p k q j → LinkedAt k j ((make p).endpoints k) ((make q).endpoints j) (seen w air p k) (seen w air q j)

-- by some steps
pub record Reached (make : (point : ℕ) → Make) (w : NetworkWorld) (s : NetworkState) : Type 0 where
  pub list : List Step
  pub meets : Meets make w (after_steps list s)

module _ (make : (point : ℕ) → Make) (w : NetworkWorld) (s : NetworkState) (h : Meets make w s) where
  abbrev settings : (point : ℕ) → Configuration
  settings = settings_of make

  -- ---- one link goes on, and the others stay

  module _ (p k q j : ℕ) (e : AreEnds settings p k q j) (port : Port) (b : NetworkNode) (x : Air) where
    abbrev n : Node
    n = with_port k port (record (w.node p) { books = b })

    abbrev v : NetworkWorld
    v = with_node p n w

    abbrev air : (point link : ℕ) → Flight
    air = with_air p k q j x h.air

    port-here : n.ports k ≡ port
    port-here = ap (λ (y : Bool). if y then port else (w.node p).ports k) (equal k)

    port-there : (i : ℕ) → i ≢ k → n.ports i ≡ (w.node p).ports i
    port-there i d = ap (λ (y : Bool). if y then port else (w.node p).ports i) (not-equal i k d)

    one-shows : (s' : NetworkState) → ShowsAt settings (books_in w) h.air p k q j e.apart e.here e.there e.end b x s' → AllShow settings (books_in v) air s'
    one-shows s' z = record {
      each = λ o.
          ⊎_elim
          (λ (same : o ≡ p). subst (λ (m : ℕ). Shows (settings m) (books_in v m) (air m) (s'.node m)) (sym same)
          (subst (λ (y : Node). Shows (settings p) y.books (air p) (s'.node p)) (sym (node-here p n w))
          (shows-with (settings p) b (h.air p) (air p) k (to_near x) (s'.node p) z.near
          (near-air p k q j e.apart x h.air) (near-other p k q j e.apart x h.air))))
          (λ (d : o ≢ p).
          subst (λ (y : Node). Shows (settings o) y.books (air o) (s'.node o)) (sym (node-there p n w o d))
          (⊎_elim
          (λ (same : o ≡ q). subst (λ (m : ℕ). Shows (settings m) (books_in w m) (air m) (s'.node m)) (sym same)
          (shows-with (settings q) (books_in w q) (h.air q) (air q) j (to_far x) (s'.node q) z.far
          (far-air p k q j e.apart x h.air) (far-other p k q j e.apart x h.air)))
          (λ (f : o ≢ q). subst (λ (row : (link : ℕ) → Flight). Shows (settings o) (books_in w o) row (s'.node o))
          (sym (other-row p k q j e.apart x h.air o d f)) (z.others o d f))
          (cases_eq o q)))
          (cases_eq o p);
    }

    -- the ends of the link, and the others
    near-seen : seen v air p k ≡ record { port = port; exchange = b.exchange; flight = to_near x }
    near-seen =
        ap (λ (y : Node). record { port = y.ports k; exchange = y.books.exchange; flight = air p k }) (node-here p n w)
        ∙ ap (λ (y : Port). record { port = y; exchange = b.exchange; flight = air p k }) port-here
        ∙ ap (λ (y : Flight). record { port = port; exchange = b.exchange; flight = y }) (near-air p k q j e.apart x h.air)

    far-seen : seen v air q j ≡ record { port = (w.node q).ports j; exchange = (w.node q).books.exchange; flight = to_far x }
    far-seen =
        ap (λ (y : Node). record { port = y.ports j; exchange = y.books.exchange; flight = air q j }) (node-there p n w q e.apart)
        ∙ ap (λ (y : Flight). record { port = (w.node q).ports j; exchange = (w.node q).books.exchange; flight = y }) (far-air p k q j e.apart x h.air)

    other-seen : ((i : ℕ) → i ≢ k → MayOpen i (w.node p).books.exchange.node.parts → MayOpen i b.exchange.node.parts) → (o i : ℕ) → (o ≡ p → i ≢ k) → (o ≡ q → i ≢ j)
        → Stays i (seen w h.air o i) (seen v air o i)
    other-seen stays o i d f =
        ⊎_elim
        (λ (same : o ≡ p). subst (λ (m : ℕ). Stays i (seen w h.air m i) (seen v air m i)) (sym same)
        (record {
          port = ap (λ (y : Node). y.ports i) (node-here p n w) ∙ port-there i (d same);
          flight = near-other p k q j e.apart x h.air i (d same);
          opens = λ m. subst (λ (y : Node). MayOpen i y.books.exchange.node.parts) (sym (node-here p n w)) (stays i (d same) m);
        }))
        (λ (apart : o ≢ p). record {
          port = ap (λ (y : Node). y.ports i) (node-there p n w o apart);
          flight = air-stays p k q j e.apart x h.air o i d f;
          opens = λ m. subst (λ (y : Node). MayOpen i y.books.exchange.node.parts) (sym (node-there p n w o apart)) m;
        })
        (cases_eq o p)

    abbrev far : End
    far = record { port = (w.node q).ports j; exchange = (w.node q).books.exchange; flight = to_far x }

    abbrev near : End
    near = record { port = port; exchange = b.exchange; flight = to_near x }

    abbrev At : (i o m l : ℕ) → Type 0
    At i o m l = LinkedAt o l ((make i).endpoints o) ((make m).endpoints l) (seen v air i o) (seen v air m l)

    module _ (g : Goes settings (books_in w) h.air p k q j e.apart e.here e.there e.end b x s)
        (linked : LinkedAt k j ((make p).endpoints k) ((make q).endpoints j) near far)
        (stays : (i : ℕ) → i ≢ k → MayOpen i (w.node p).books.exchange.node.parts → MayOpen i b.exchange.node.parts) where
      here : At p k q j
      here =
          subst (λ (y : End). LinkedAt k j ((make p).endpoints k) ((make q).endpoints j) y (seen v air q j)) (sym near-seen)
          (subst (λ (y : End). LinkedAt k j ((make p).endpoints k) ((make q).endpoints j) near y) (sym far-seen) linked)

      there : At q j p k
      there =
          turned-linked k j ((make p).endpoints k) ((make q).endpoints j) (seen v air p k).port (seen v air q j).port (seen v air p k).exchange (seen v air q j).exchange
          (between (seen v air p k).flight (seen v air q j).flight) here

      all-linked : (i o m l : ℕ) → AreEnds settings i o m l → Which p k q j i o → At i o m l
      all-linked i o m l f (is_near a c) =
          let z : (m ≡ q) × (l ≡ j) = far-of settings p k q j e i o m l f a c in
          subst (λ (y : ℕ). At y o m l) (sym a) (subst (λ (y : ℕ). At p y m l) (sym c) (subst (λ (y : ℕ). At p k y l) (sym z.0) (subst (λ (y : ℕ). At p k q y) (sym z.1) here)))
      all-linked i o m l f (is_far a c) =
          let z : (m ≡ p) × (l ≡ k) = near-of settings p k q j e i o m l f a c in
          subst (λ (y : ℕ). At y o m l) (sym a) (subst (λ (y : ℕ). At q y m l) (sym c) (subst (λ (y : ℕ). At q j y l) (sym z.0) (subst (λ (y : ℕ). At q j p y) (sym z.1) there)))
      all-linked i o m l f (is_other d c) =
          linked-stays o l ((make i).endpoints o) ((make m).endpoints l) (seen w h.air i o) (seen v air i o) (seen w h.air m l) (seen v air m l)
          (other-seen stays i o d c) (other-seen stays m l (not-near settings p k q j e i o m l f c) (not-far settings p k q j e i o m l f d)) (h.linked i o m l f)

      pub one-goes : Reached make v s
      one-goes = record {
        list = g.list;
        meets = record {
          air = air;
          all = one-shows (after_steps g.list s) g.shows;
          linked = λ i o m l f. all-linked i o m l f (which p k q j i o);
        };
      }

  -- ---- what isn't of links

  module _ (p : ℕ) (what : Happening) (own : IsOwn what) where
    abbrev own_node : Node
    own_node = record (w.node p) { books = happened what (w.node p).books }

    abbrev own_world : NetworkWorld
    own_world = with_node p own_node w

    own-stays : (o i : ℕ) → Stays i (seen w h.air o i) (seen own_world h.air o i)
    own-stays o i =
        ⊎_elim
        (λ (same : o ≡ p). subst (λ (m : ℕ). Stays i (seen w h.air m i) (seen own_world h.air m i)) (sym same)
        (record {
          port = ap (λ (y : Node). y.ports i) (node-here p own_node w);
          flight = refl;
          opens = λ m. subst (λ (y : Node). MayOpen i y.books.exchange.node.parts) (sym (node-here p own_node w)) (own-open what own i (w.node p).books m);
        }))
        (λ (apart : o ≢ p). record {
          port = ap (λ (y : Node). y.ports i) (node-there p own_node w o apart);
          flight = refl;
          opens = λ m. subst (λ (y : Node). MayOpen i y.books.exchange.node.parts) (sym (node-there p own_node w o apart)) m;
        })
        (cases_eq o p)

    pub none-goes : Reached make own_world s
    none-goes = record {
      list = record { point = p; what = own_step what } ∷ [];
      meets = record {
        air = h.air;
        all =
            own-goes settings (books_in w) (books_in own_world) h.air s p what own h.all (ap (λ (y : Node). y.books) (node-here p own_node w))
            (λ o d. ap (λ (y : Node). y.books) (node-there p own_node w o d));
        linked = λ i o m l f.
            linked-stays o l ((make i).endpoints o) ((make m).endpoints l) (seen w h.air i o) (seen own_world h.air i o) (seen w h.air m l) (seen own_world h.air m l)
            (own-stays i o) (own-stays m l) (h.linked i o m l f);
      };
    }
