-- What a world in code shows is what the abstract one has.
use Rattle.std.proofs.Common.{◌≡◌, ◌<◌, ℕ, zero, suc, true, false, List, [], ◌∷◌, Option, Some, None, refl, ap, sym, subst, length, arith}
use Rattle.std.proofs.lemmas.Grind.{common_steps}
use Rattle.std.proofs.lemmas.List.Elements.{All-nil}
use Rattle.std.specs.Option.{option_map}
use Rattle.std.specs.Prelude.{All, IfSome, slice_get}
use Rattle.exchange.specs.Calls as exchanges
use Rattle.exchange.specs.Calls.{Kept}
use Rattle.exchange_rules.specs.State.{lost_any}
use Rattle.sctp_gate.specs.Gates.{due}
use Rattle.network_gates.specs.GateWorlds.{GateWorld, Node, new_node}
use Rattle.node_world.specs.Kept.{KeptNode, KeptPort, due_at, due_of, due_on, is_whole_at, is_whole_on, lost_at, node_at, sent_at, sent_of, sent_on, whole_of}
use Rattle.node_world.specs.Making.{make_of, no_node}
use Rattle.node_world.specs.Stands.{HasAll, IsNodeAt, IsSentBy, NodeStands, PortStands, StandsFor}

none-past : (ports : List KeptPort) (link : ℕ) → slice_get ports link ≡ None → link < length ports → ⊥
none-past [] link e l = omega (arith, l)
none-past (x ∷ ports) zero e l = grind (arith, common_steps)
none-past (x ∷ ports) (suc link) e l = none-past ports link e (omega (arith, l))

-- ---- a node

module _ (k : KeptNode) (n : Node) (h : NodeStands k n) (link : ℕ) where
  put-by : (o : Option KeptPort) → slice_get k.ports link ≡ o → All (IsSentBy (n.ports link)) (sent_of o)
  put-by None e = All-nil (IsSentBy (n.ports link))
  put-by (Some port) e = let p : PortStands port (n.ports link) = h.ports link port e in p.sent

  put-on : All (IsSentBy (n.ports link)) (sent_on k link)
  put-on = put-by (slice_get k.ports link) refl

  all-by : (o : Option KeptPort) → slice_get k.ports link ≡ o → whole_of o ≡ true → HasAll (n.ports link) (sent_of o)
  all-by None e t = absurd (cc)
  all-by (Some port) e t = let p : PortStands port (n.ports link) = h.ports link port e in p.all t

  all-on : is_whole_on k link ≡ true → HasAll (n.ports link) (sent_on k link)
  all-on t = all-by (slice_get k.ports link) refl t

  fewer-by : (o : Option KeptPort) → slice_get k.ports link ≡ o → link < length k.ports → whole_of o ≡ false → length (sent_of o) < length (n.ports link).packets
  fewer-by None e l f = absurd (none-past k.ports link e l)
  fewer-by (Some port) e l f = let p : PortStands port (n.ports link) = h.ports link port e in p.fewer f

  fewer-on : link < length k.ports → is_whole_on k link ≡ false → length (sent_on k link) < length (n.ports link).packets
  fewer-on l f = fewer-by (slice_get k.ports link) refl l f

  due-by : (o : Option KeptPort) → slice_get k.ports link ≡ o → link < length k.ports → due_of o ≡ due (n.ports link).gate
  due-by None e l = absurd (none-past k.ports link e l)
  due-by (Some port) e l = let p : PortStands port (n.ports link) = h.ports link port e in ap due p.gate

  due-same : link < length k.ports → due_on k link ≡ due (n.ports link).gate
  due-same l = due-by (slice_get k.ports link) refl l

-- ---- the node at a point

module _ (k : List KeptNode) (w : GateWorld) (s : StandsFor k w) (point : ℕ) where
  lost-by : (o : Option KeptNode) → IsNodeAt point o (w.node point) → lost_at o ≡ lost_any (w.node point).books.exchange.node.parts
  lost-by (Some n) is = ap (λ (x : Kept). lost_any x.node.parts) is.exchange.kept
  lost-by None is = sym (ap (λ (n : Node). lost_any n.books.exchange.node.parts) is)

  pub lost-same : lost_at (node_at point k) ≡ lost_any (w.node point).books.exchange.node.parts
  lost-same = lost-by (node_at point k) (s.nodes point)

  stands-by : (o : Option KeptNode) → IsNodeAt point o (w.node point) → IfSome (option_map (λ (n : KeptNode). n.exchange) o) (λ e. exchanges.StandsFor e (w.node point).books.exchange)
  stands-by (Some n) is = is.exchange
  stands-by None is = tt

  pub exchange-stands : IfSome (option_map (λ (n : KeptNode). n.exchange) (node_at point k)) (λ e. exchanges.StandsFor e (w.node point).books.exchange)
  exchange-stands = stands-by (node_at point k) (s.nodes point)

  put-at : (link : ℕ) (o : Option KeptNode) → IsNodeAt point o (w.node point) → All (IsSentBy ((w.node point).ports link)) (sent_at o link)
  put-at link (Some n) is = put-on n (w.node point) is link
  put-at link None is = All-nil (IsSentBy ((w.node point).ports link))

  pub put-out-so : (link : ℕ) → All (IsSentBy ((w.node point).ports link)) (sent_at (node_at point k) link)
  put-out-so link = put-at link (node_at point k) (s.nodes point)

  all-at : (link : ℕ) (o : Option KeptNode) → IsNodeAt point o (w.node point) → is_whole_at o link ≡ true → HasAll ((w.node point).ports link) (sent_at o link)
  all-at link (Some n) is t = all-on n (w.node point) is link t
  all-at link None is t = absurd (cc)

  pub has-all : (link : ℕ) → is_whole_at (node_at point k) link ≡ true → HasAll ((w.node point).ports link) (sent_at (node_at point k) link)
  has-all link t = all-at link (node_at point k) (s.nodes point) t

  -- a point without a node has no link
  pub no-links : w.node point ≡ new_node (make_of (no_node point) []) → (link : ℕ) → link < length (w.node point).books.exchange.settings.links → ⊥
  no-links is link l =
      let none : link < 0 = subst (λ (n : Node). link < length n.books.exchange.settings.links) is l in
      omega (arith, none)

  due-at : (link : ℕ) (o : Option KeptNode) → node_at point k ≡ o → IsNodeAt point o (w.node point) → link < length (w.node point).books.exchange.settings.links
      → due_at o link ≡ due ((w.node point).ports link).gate
  due-at link (Some n) e is l =
      due-same n (w.node point) is link (subst (λ (count : ℕ). link < count) (sym (s.gates point n e)) l)
  due-at link None e is l = absurd (no-links is link l)

  pub due-so : (link : ℕ) → link < length (w.node point).books.exchange.settings.links → due_at (node_at point k) link ≡ due ((w.node point).ports link).gate
  due-so link l = due-at link (node_at point k) refl (s.nodes point) l

  fewer-at : (link : ℕ) (o : Option KeptNode) → node_at point k ≡ o → IsNodeAt point o (w.node point) → link < length (w.node point).books.exchange.settings.links → is_whole_at o link ≡ false
      → length (sent_at o link) < length ((w.node point).ports link).packets
  fewer-at link (Some n) e is l f =
      fewer-on n (w.node point) is link (subst (λ (count : ℕ). link < count) (sym (s.gates point n e)) l) f
  fewer-at link None e is l f = absurd (no-links is link l)

  pub fewer-so : (link : ℕ) → link < length (w.node point).books.exchange.settings.links → is_whole_at (node_at point k) link ≡ false
      → length (sent_at (node_at point k) link) < length ((w.node point).ports link).packets
  fewer-so link l f = fewer-at link (node_at point k) refl (s.nodes point) l f
