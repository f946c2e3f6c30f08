-- What is done at one end of a link of a network's node is done at the node.
use Rattle.std.proofs.Common.{◌≡◌, ℕ, List, [], ◌∷◌, Option, Some, None, refl, ap, ◌∙◌}
use Rattle.m2pa_codec.specs.Frames.{FrameValue, spelled}
use Rattle.exchange_rules.specs.Exchange.{frame_to_take}
use Rattle.exchange_rules.specs.Queues.{whole}
use Rattle.sctp_rules.specs.State.{Told, Up, Heard, Down, Failed}
use Rattle.sctp_rules.specs.Endpoint as endpoint
use Rattle.network_rules.specs.Networks.{NetworkNode}
use Rattle.node_rules.specs.Worlds as nodes
use Rattle.node_rules.specs.Worlds.{Make, Port, associated, message_of, told_by}
use Rattle.network_datagrams.specs.NetworkWorlds as worlds
use Rattle.network_datagrams.specs.NetworkWorlds.{Doing, Node, did, with_port}
use Rattle.network_datagrams.proofs.Handing.{event-exchange}
use Rattle.gate_rules.proofs.LinkEnds.{Act, Associates, Keeps, LinkEnd, Sends, acted, as_node, handed_all, put-here, put-same, put-twice, sent}
use Rattle.network_gates.specs.GateWorlds.{node_kept}

pub node-keeps : Keeps node_kept
node-keeps = record { happened = event-exchange; took = λ link x. refl }

handed-so : (k : ℕ) (ts : List Told) (x : NetworkNode) → worlds.handed_all k ts x ≡ handed_all node_kept k ts x
handed-so k [] x = refl
handed-so k (Up ∷ more) x = handed-so k more (worlds.handed k Up x)
handed-so k (Down why ∷ more) x = handed-so k more (worlds.handed k (Down why) x)
handed-so k (Failed why ∷ more) x = handed-so k more x
handed-so k (Heard m ∷ more) x = handed-so k more (worlds.handed k (Heard m) x)

abbrev pub doing_of : (k : ℕ) → Act → Doing
doing_of k (Associates what) = worlds.Associates k what
doing_of k Sends = worlds.Sends k

module _ (m : Make) (k : ℕ) (n : Node) where
  abbrev pub end_at : LinkEnd NetworkNode
  end_at = record { books = n.books; port = n.ports k }

  -- the node with this end in its place
  abbrev pub with_end : LinkEnd NetworkNode → Node
  with_end e = with_port k e.port (record n { books = e.books })

  pub end-same : with_end end_at ≡ n
  end-same = ap (λ (ports : ℕ → Port). record { books = n.books; ports = ports }) (put-same k n.ports)

  pub end-port : (e : LinkEnd NetworkNode) → (with_end e).ports k ≡ e.port
  end-port e = put-here k e.port n.ports

  twice : (port : Port) (b : NetworkNode) (e : LinkEnd NetworkNode) → with_port k port (record (with_end e) { books = b }) ≡ with_end (record { books = b; port = port })
  twice port b e = ap (λ (ports : ℕ → Port). record { books = b; ports = ports }) (put-twice k port e.port n.ports)

  -- a bare node with this port at each link
  abbrev with_ports : NetworkNode → Port → nodes.Node
  with_ports b port = record { books = record { exchange = b.exchange; accepted = []; received = [] }; ports = λ link. port }

  associates-so : (what : endpoint.Happening) (e : LinkEnd NetworkNode) → did m (worlds.Associates k what) (with_end e) ≡ with_end (acted node_kept m k (Associates what) e)
  associates-so what e =
      ap
      (λ (q : Port).
      with_port k (associated m k what (with_ports e.books q)) (record (with_end e) { books = worlds.handed_all k (told_by m k what (with_ports e.books q)) e.books }))
      (end-port e)
      ∙ ap (λ (b : NetworkNode). with_port k (associated m k what (as_node node_kept e)) (record (with_end e) { books = b }))
      (handed-so k (told_by m k what (as_node node_kept e)) e.books)
      ∙ twice (associated m k what (as_node node_kept e)) (handed_all node_kept k (told_by m k what (as_node node_kept e)) e.books) e

  sends-so : (e : LinkEnd NetworkNode) (next : Option FrameValue) → worlds.sent m k next (with_end e) ≡ with_end (sent node_kept m k next e)
  sends-so e None = refl
  sends-so e (Some frame) =
      ap
      (λ (q : Port).
      with_port k (associated m k (endpoint.Sends (message_of (spelled frame))) (with_ports e.books q)) (record (with_end e) { books = node_kept.took k e.books }))
      (end-port e)
      ∙ twice (associated m k (endpoint.Sends (message_of (spelled frame))) (as_node node_kept e)) (node_kept.took k e.books) e

  pub did-so : (what : Act) (e : LinkEnd NetworkNode) → did m (doing_of k what) (with_end e) ≡ with_end (acted node_kept m k what e)
  did-so (Associates what) e = associates-so what e
  did-so Sends e = sends-so e (frame_to_take whole e.books.exchange k)
