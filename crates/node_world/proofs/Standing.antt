-- A node in code stands for the abstract one after a call, as it did before.
use Rattle.std.proofs.Common.{◌≡◌, ◌≢◌, ◌<◌, ◌≤◌, ◌⊎◌, ◌+◌, inl, inr, ℕ, zero, suc, Bool, true, false, List, [], ◌∷◌, ◌++◌, Some, map, length, length-append, refl, ap, sym, subst, ◌∙◌, nat_eq, arith}
use Rattle.std.proofs.lemmas.Bool.Decides.{nat_tests}
use Rattle.std.proofs.lemmas.Grind.{common_steps}
use Rattle.std.proofs.lemmas.List.{length-map}
use Rattle.std.specs.Prelude.{All, slice_get, slice_set, if◌then◌else◌}
use Rattle.std.specs.List.{Contains}
use Rattle.std.proofs.lemmas.List.Elements.{All-nil, All-cons, All-append, All-weaker, All-contains, Contains-append_left, Contains-append_right}
use Rattle.sctp_rules.specs.State.{Datagram}
use Rattle.sctp_moves.proofs.Members.{In, in-from, contains-from, some-same}
use Rattle.sctp_ends.specs.Worlds.{Emitted, emitted}
use Rattle.sctp_bundling.specs.ChunkRows.{packet_text}
use Rattle.sctp_bundling.specs.Watching.{Sent, sent_as}
use Rattle.exchange.specs.Calls.{Kept}
use Rattle.exchange_rules.specs.Queues.{WholeQueues, whole}
use Rattle.sctp_gate.specs.Gates.{Gate, Did}
use Rattle.sctp_gate.specs.Calling.{Call, called}
use Rattle.gate_rules.specs.Worlds.{Port, port_after, done_by, with_call}
use Rattle.network_gates.specs.GateWorlds.{Node, node_kept}
use Rattle.gate_rules.proofs.Seen.{in-either, in-front, in-behind}
use Rattle.node_world.specs.Kept.{KeptPort, KeptNode}
use Rattle.node_world.specs.Calls.{PortCalls, NodeCalls}
use Rattle.node_world.specs.Stands.{IsSentBy, PortStands, NodeStands}

abbrev octets_in : List Sent → List (List ℕ)
octets_in sent = map (λ x. x.octets) sent

-- ---- a gate

put-out : (p : Port) (made : ℕ) (sent : List Datagram) → ((x : Emitted) → Contains (map (emitted made) sent) x → Contains p.packets x) → All (IsSentBy p) (map sent_as sent)
put-out p made [] h = All-nil (IsSentBy p)
put-out p made (d ∷ sent) h =
    All-cons (IsSentBy p) (sent_as d) (map sent_as sent)
    (record { one = emitted made d; there = h (emitted made d) (contains-from (map (emitted made) (d ∷ sent)) (emitted made d) (inl refl)); text = refl })
    (put-out p made sent (λ x i. h x (Contains-append_right (emitted made d ∷ []) (map (emitted made) sent) x i)))

still-sent : (p q : Port) → ((x : Emitted) → Contains p.packets x → Contains q.packets x) → (x : Sent) → IsSentBy p x → IsSentBy q x
still-sent p q h x i = record { one = i.one; there = h i.one i.there; text = i.text }

-- the text of each packet of a call is among its datagrams
text-of : (made : ℕ) (sent : List Datagram) (one : Emitted) → In one (map (emitted made) sent) → In (packet_text one.packet) (octets_in (map sent_as sent))
text-of made [] one i = absurd i
text-of made (d ∷ sent) one (inl e) = inl (ap (λ (x : Emitted). packet_text x.packet) e)
text-of made (d ∷ sent) one (inr i) = inr (text-of made sent one i)

octets-more : (xs ys : List Sent) → octets_in (xs ++ ys) ≡ octets_in xs ++ octets_in ys
octets-more [] ys = refl
octets-more (x ∷ xs) ys = ap (λ (l : List (List ℕ)). x.octets ∷ l) (octets-more xs ys)

module _ (call : Call) (was is : KeptPort) (exchange : Kept) (p : Port) (d : Did WholeQueues) (h : PortStands was p) (c : PortCalls was is exchange d) where
  abbrev q : Port
  q = port_after call d p

  abbrev new : List Emitted
  new = map (emitted p.mark) d.sent

  sent-by : All (IsSentBy q) (was.log.sent ++ map sent_as d.sent)
  sent-by =
      All-append (IsSentBy q) was.log.sent (map sent_as d.sent)
      (All-weaker (IsSentBy p) (IsSentBy q) (still-sent p q (λ x i. Contains-append_right new p.packets x i)) was.log.sent h.sent)
      (put-out q p.mark d.sent (λ x i. Contains-append_left new p.packets x i))

  is-text : is.log.is_whole ≡ true → (one : Emitted) → In one new ⊎ In one p.packets → In (packet_text one.packet) (octets_in was.log.sent ++ octets_in (map sent_as d.sent))
  is-text w one (inl i) = in-behind (packet_text one.packet) (octets_in was.log.sent) (octets_in (map sent_as d.sent)) (text-of p.mark d.sent one i)
  is-text w one (inr i) =
      in-front (packet_text one.packet) (octets_in was.log.sent) (octets_in (map sent_as d.sent))
      (in-from (octets_in was.log.sent) (packet_text one.packet) (h.all (c.was_whole w) one (contains-from p.packets one i)))

  more-packets : length q.packets ≡ length d.sent + length p.packets
  more-packets = length-append new p.packets ∙ ap (λ (n : ℕ). n + length p.packets) (length-map d.sent (emitted p.mark))

  more-sent : length (was.log.sent ++ map sent_as d.sent) ≡ length was.log.sent + length d.sent
  more-sent = length-append was.log.sent (map sent_as d.sent) ∙ ap (λ (n : ℕ). length was.log.sent + n) (length-map d.sent sent_as)

  few-kept : length is.log.sent ≤ length q.packets
  few-kept = omega (arith, c.few, h.few, more-sent, more-packets)

  fewer-kept : (b : Bool) → was.log.is_whole ≡ b → is.log.is_whole ≡ false → length is.log.sent < length q.packets
  fewer-kept true e f = omega (arith, c.fewer e f, h.few, more-sent, more-packets)
  fewer-kept false e f = omega (arith, c.few, h.fewer e, more-sent, more-packets)

  pub port-goes : PortStands is q
  port-goes = record {
    gate = c.gate_is;
    sent = All-weaker (Contains (was.log.sent ++ map sent_as d.sent)) (IsSentBy q) (λ x i. All-contains (IsSentBy q) (was.log.sent ++ map sent_as d.sent) x sent-by i)
        is.log.sent c.part;
    all = λ w one i. subst (λ (l : List (List ℕ)). Contains l (packet_text one.packet))
        (sym (octets-more was.log.sent (map sent_as d.sent)) ∙ ap octets_in (sym (c.all w)))
        (contains-from _ (packet_text one.packet) (is-text w one (in-either one new p.packets (in-from (new ++ p.packets) one i))));
    few = few-kept;
    fewer = λ f. fewer-kept was.log.is_whole refl f;
  }

-- ---- a node

set-same : {X : Type 0} (xs : List X) (i : ℕ) (x y : X) → slice_get (slice_set xs i x) i ≡ Some y → x ≡ y
set-same [] i x y e = grind (arith, common_steps)
set-same (z ∷ xs) zero x y e = some-same e
set-same (z ∷ xs) (suc i) x y e = set-same xs i x y e

pub set-other : {X : Type 0} (xs : List X) (i j : ℕ) (x : X) → j ≢ i → slice_get (slice_set xs i x) j ≡ slice_get xs j
set-other [] i j x e = refl
set-other (z ∷ xs) zero zero x e = absurd (e refl)
set-other (z ∷ xs) zero (suc j) x e = refl
set-other (z ∷ xs) (suc i) zero x e = refl
set-other (z ∷ xs) (suc i) (suc j) x e = set-other xs i j x (λ h. e (ap suc h))

pub is-other : (j i : ℕ) → nat_eq j i ≡ false → j ≢ i
is-other j i e h = grind (arith, nat_tests, e, h)

pub is-same : (j i : ℕ) → nat_eq j i ≡ true → j ≡ i
is-same j i e = grind (arith, nat_tests, e)

module _ (link : ℕ) (call : Call) (was is : KeptNode) (n : Node) (h : NodeStands was n) (c : NodeCalls link call was is n.books.exchange) where
  abbrev d : Did WholeQueues
  d = done_by node_kept call link n

  old : PortStands c.old_port (n.ports link)
  old = h.ports link c.old_port c.old_is

  -- the gate is that of the port
  calls-so : PortCalls c.old_port c.new_port is.exchange d
  calls-so = subst (λ (g : Gate). PortCalls c.old_port c.new_port is.exchange (called whole call g n.books.exchange)) old.gate c.calls

  new-port : PortStands c.new_port (port_after call d (n.ports link))
  new-port = port-goes call c.old_port c.new_port is.exchange (n.ports link) d old calls-so

  port-by : (b : Bool) (other : ℕ) (port : KeptPort) → nat_eq other link ≡ b → slice_get (slice_set was.ports link c.new_port) other ≡ Some port
      → PortStands port (if b then port_after call d (n.ports link) else n.ports other)
  port-by true other port e there =
      subst (λ (k : KeptPort). PortStands k (port_after call d (n.ports link)))
      (set-same was.ports link c.new_port port (subst (λ (j : ℕ). slice_get (slice_set was.ports link c.new_port) j ≡ Some port) (is-same other link e) there)) new-port
  port-by false other port e there = h.ports other port (sym (set-other was.ports link other c.new_port (is-other other link e)) ∙ there)

  pub node-calls : NodeStands is (with_call node_kept call link d n)
  node-calls = record {
    exchange = calls-so.stands;
    ports = λ other port there. port-by (nat_eq other link) other port refl (subst (λ (l : List KeptPort). slice_get l other ≡ Some port) c.new_is there);
  }

  set-length : {X : Type 0} (xs : List X) (i : ℕ) (x : X) → length (slice_set xs i x) ≡ length xs
  set-length [] i x = refl
  set-length (z ∷ xs) zero x = refl
  set-length (z ∷ xs) (suc i) x = ap suc (set-length xs i x)

  pub as-many : length is.ports ≡ length was.ports
  as-many = ap length c.new_is ∙ set-length was.ports link c.new_port
