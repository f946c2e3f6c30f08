-- What is done at one end of a link of a node is done at the node.
use Rattle.std.proofs.Common.{◌≡◌, ◌≢◌, ℕ, true, List, [], ◌∷◌, Option, Some, None, map, refl, ap, sym, ◌∙◌, subst}
use Rattle.settings.specs.Configuration.{Configuration}
use Rattle.m2pa_codec.specs.Frames.{FrameValue, spelled}
use Rattle.exchange_rules.specs.Exchange.{frame_to_take, wants_of}
use Rattle.exchange_rules.specs.First.{Abstract}
use Rattle.exchange_rules.specs.Queues.{whole}
use Rattle.sctp_rules.specs.State.{Told, Up, Heard, Down, Failed}
use Rattle.sctp_rules.specs.Sending.{may_send}
use Rattle.sctp_rules.specs.Endpoint as endpoint
use Rattle.sctp_rules.specs.Wishing.{Served, wish_by_call}
use Rattle.sctp_ends.specs.Worlds as ends
use Rattle.node_rules.specs.Worlds as nodes
use Rattle.node_rules.specs.Worlds.{Books, CanGo, Doing, IsBetween, IsLooked, Make, MayAssociate, MayDo, Node, Port, associated, did, message_of, told_by, with_port}
use Rattle.gate_rules.specs.Calls.{MayAll, books_kept, dids}
use Rattle.gate_rules.proofs.LinkEnds.{Act, Associates, Keeps, LinkEnd, MayAct, MayActAll, Sends, acted, acted_all, as_node, handed_all, put-here, put-same, put-twice, sent}

-- ---- nodes that are alike at a link

module _ (k : ℕ) (n l : Node) (port : l.ports k ≡ n.ports k) (exchange : l.books.exchange ≡ n.books.exchange) where
  looks-as : (what : endpoint.Happening) → IsLooked k what n → IsLooked k what l
  looks-as what h q = ap (λ (a : Abstract). wants_of a k) exchange ∙ h (ap (λ (p : Port). wish_by_call what p.wish) (sym port) ∙ q)

  pub associates-as : (there : ends.Site) (what : endpoint.Happening) → MayAssociate there k what n → MayAssociate there k what l
  associates-as there (endpoint.Opens now is_active) h = record {
    wants = ap (λ (a : Abstract). wants_of a k) exchange ∙ h.wants;
    down = subst (λ (p : Port). p.wish ≢ Served) (sym port) h.down;
  }
  associates-as there (endpoint.Came now source packet) h = (h.0, looks-as (endpoint.Came now source packet) h.1)
  associates-as there (endpoint.Ticked now) h = looks-as (endpoint.Ticked now) h
  associates-as there (endpoint.Sends message) h = h
  associates-as there endpoint.Aborts h = tt
  associates-as there (endpoint.ShutsDown now) h = looks-as (endpoint.ShutsDown now) h
  associates-as there (endpoint.Flushes now) h = tt

  pub goes-as : CanGo k n → CanGo k l
  goes-as h frame e =
      subst (λ (p : Port). may_send (message_of (spelled frame)) p.site.state ≡ true) (sym port)
      (h frame (ap (λ (a : Abstract). frame_to_take whole a k) (sym exchange) ∙ e))

-- ---- one end of a node

pub books-keep : Keeps books_kept
books-keep = record { happened = λ what b. refl; took = λ link b. refl }

handed-so : (k : ℕ) (ts : List Told) (b : Books) → nodes.handed_all k ts b ≡ handed_all books_kept k ts b
handed-so k [] b = refl
handed-so k (Up ∷ more) b = handed-so k more (nodes.handed k Up b)
handed-so k (Down why ∷ more) b = handed-so k more (nodes.handed k (Down why) b)
handed-so k (Failed why ∷ more) b = handed-so k more b
handed-so k (Heard m ∷ more) b = handed-so k more (nodes.handed k (Heard m) b)

abbrev pub doing_of : (k : ℕ) → Act → Doing
doing_of k (Associates what) = nodes.Associates k what
doing_of k Sends = nodes.Sends k

module _ (m : Make) (k : ℕ) (n : Node) where
  abbrev pub end_at : LinkEnd Books
  end_at = record { books = n.books; port = n.ports k }

  -- the node with this end in its place
  abbrev pub with_end : LinkEnd Books → Node
  with_end e = with_port k e.port (record n { books = e.books })

  pub end-same : with_end end_at ≡ n
  end-same = ap (λ (ports : ℕ → Port). record { books = n.books; ports = ports }) (put-same k n.ports)

  pub end-port : (e : LinkEnd Books) → (with_end e).ports k ≡ e.port
  end-port e = put-here k e.port n.ports

  twice : (port : Port) (b : Books) (e : LinkEnd Books) → with_port k port (record (with_end e) { books = b }) ≡ with_end (record { books = b; port = port })
  twice port b e = ap (λ (ports : ℕ → Port). record { books = b; ports = ports }) (put-twice k port e.port n.ports)

  -- a node with this port at each link
  abbrev with_ports : Books → Port → Node
  with_ports b port = record { books = b; ports = λ link. port }

  associates-so : (what : endpoint.Happening) (e : LinkEnd Books) → did m (nodes.Associates k what) (with_end e) ≡ with_end (acted books_kept m k (Associates what) e)
  associates-so what e =
      ap
      (λ (q : Port).
      with_port k (associated m k what (with_ports e.books q)) (record (with_end e) { books = nodes.handed_all k (told_by m k what (with_ports e.books q)) e.books }))
      (end-port e)
      ∙ ap (λ (b : Books). with_port k (associated m k what (as_node books_kept e)) (record (with_end e) { books = b }))
      (handed-so k (told_by m k what (as_node books_kept e)) e.books)
      ∙ twice (associated m k what (as_node books_kept e)) (handed_all books_kept k (told_by m k what (as_node books_kept e)) e.books) e

  sends-so : (e : LinkEnd Books) (next : Option FrameValue) → nodes.sent m k next (with_end e) ≡ with_end (sent books_kept m k next e)
  sends-so e None = refl
  sends-so e (Some frame) =
      ap
      (λ (q : Port).
      with_port k (associated m k (endpoint.Sends (message_of (spelled frame))) (with_ports e.books q)) (record (with_end e) { books = books_kept.took k e.books }))
      (end-port e)
      ∙ twice (associated m k (endpoint.Sends (message_of (spelled frame))) (as_node books_kept e)) (books_kept.took k e.books) e

  pub did-so : (what : Act) (e : LinkEnd Books) → did m (doing_of k what) (with_end e) ≡ with_end (acted books_kept m k what e)
  did-so (Associates what) e = associates-so what e
  did-so Sends e = sends-so e (frame_to_take whole e.books.exchange k)

  pub dids-so : (list : List Act) (e : LinkEnd Books) → dids m (map (doing_of k) list) (with_end e) ≡ with_end (acted_all books_kept m k list e)
  dids-so [] e = refl
  dids-so (what ∷ more) e = ap (dids m (map (doing_of k) more)) (did-so what e) ∙ dids-so more (acted books_kept m k what e)

  module _ (peer : Configuration) (other : Node) (k-in : IsBetween m.configuration peer k) where
    pub may-so : (what : Act) (e : LinkEnd Books) → MayAct books_kept m k (other.ports k-in.there).site what e → MayDo m.configuration peer other (doing_of k what) (with_end e)
    may-so (Associates what) e may = (k-in, associates-as k (as_node books_kept e) (with_end e) (end-port e) refl (other.ports k-in.there).site what may)
    may-so Sends e may = (k-in, goes-as k (as_node books_kept e) (with_end e) (end-port e) refl may)

    pub all-may : (list : List Act) (e : LinkEnd Books) → MayActAll books_kept m k (other.ports k-in.there).site list e → MayAll m peer other (map (doing_of k) list) (with_end e)
    all-may [] e may = tt
    all-may (what ∷ more) e may = (
      may-so what e may.0,
      subst (λ (l : Node). MayAll m peer other (map (doing_of k) more) l) (sym (did-so what e)) (all-may more (acted books_kept m k what e) may.1),
    )
