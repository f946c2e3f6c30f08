-- What is done at one of the nodes in code is a step of the abstract world for which they stand.
use Rattle.std.proofs.Common.{◌≡◌, ◌<◌, ◌&&◌, ℕ, Bool, true, false, List, Option, Some, length, nat_eq, refl, ap, sym, subst, ◌∙◌}
use Rattle.std.specs.Prelude.{if◌then◌else◌, slice_get, slice_set}
use Rattle.std.proofs.lemmas.List.{length-set}
use Rattle.settings.specs.Configuration.{Configuration}
use Rattle.sctp_codec.specs.Packets.{PacketValue}
use Rattle.sctp_codec.specs.Reading.{read_packet}
use Rattle.sctp_bundling.specs.Settings.{address_of}
use Rattle.exchange.specs.Calls as exchanges
use Rattle.exchange.specs.Calls.{Kept}
use Rattle.exchange.specs.declared.event.Event.{Event}
use Rattle.exchange.specs.declared.event.Event.TheVariants as event
use Rattle.exchange.specs.declared.event.Order.{Order}
use Rattle.exchange.specs.declared.event.Order.TheVariants.{Activate, Deactivate, Release, AddTitle, SetTitle, RemoveTitle}
use Rattle.exchange_rules.specs.Exchange.{after, outcome_of}
use Rattle.exchange_rules.specs.Queues.{whole}
use Rattle.exchange_rules.specs.State.{Happening, CameUp, WentDown, FrameCame, Ticked, Submitted, Activated, Deactivated, Released, TitleAdded, TitleSet, TitleRemoved}
use Rattle.signalling_types.specs.declared.outcome.Outcome.{Outcome}
use Rattle.sctp_gate.specs.Calling as calling
use Rattle.node_rules.specs.Worlds.{IsOwn}
use Rattle.gate_rules.specs.Worlds.{MayCall}
use Rattle.gate_rules.specs.Octets.{AreRead}
use Rattle.network_datagrams.specs.NetworkWorlds.{HasEnd}
use Rattle.network_rules.specs.Networks.{NetworkNode}
use Rattle.network_datagrams.specs.NetworkWorlds as datagrams
use Rattle.network_gates.specs.GateWorlds as gates
use Rattle.network_gates.specs.GateWorlds.{Calls, Doing, GateWorld, Happens, MayDo, Node, did, shown}
use Rattle.node_world.specs.declared.call.Call.{Call}
use Rattle.node_world.specs.declared.call.Call.TheVariants.{Hear, Tick, Settle, Fill, Close}
use Rattle.node_world.specs.Kept.{KeptPort, KeptNode, node_at, place_at, points_of}
use Rattle.node_world.specs.Calls.{NodeCalls, NodesCall, NodesStep, told}
use Rattle.node_world.specs.Stands.{IsNodeAt, IsReached, NodeStands, StandsFor}
use Rattle.node_world.specs.Worlds.{is_own, MayCome, MayComeFrom}
use Rattle.node_world.proofs.Places.{equal, found-new, found-others, itself-eq, node-there, points-same, unlike}
use Rattle.node_world.proofs.Reached.{end-known, own-known, reached-more, read-known, same-points, settings-known}
use Rattle.node_world.proofs.Standing.{as-many, node-calls}

same-node : (x y : KeptNode) → Some x ≡ Some y → x ≡ y
same-node x y e = cc

pub second-of : (a b : Bool) → (a && b) ≡ true → b ≡ true
second-of true b e = e
second-of false b e = absurd (cc)

-- ---- as many nodes as before

pub step-length : (k is : List KeptNode) (place : ℕ) (e : Event) (outcome : Outcome) → NodesStep place e outcome k is → length is ≡ length k
step-length k is place e outcome t = ap length t.new_is ∙ length-set k place t.new

pub call-length : (k is : List KeptNode) (place link : ℕ) (call : calling.Call) → NodesCall place link call k is → length is ≡ length k
call-length k is place link call t = ap length t.new_is ∙ length-set k place t.new

-- ---- one step more

module _ (k : List KeptNode) (w : GateWorld) (s : StandsFor k w) (point place : ℕ) (e : place_at point k ≡ Some place) (what : Doing) (may : MayDo w point what)
    (old new : KeptNode) (old_is : slice_get k place ≡ Some old) (many : length new.ports ≡ length old.ports) (is : NodeStands new (did what (w.node point))) where
  abbrev v : GateWorld
  v = gates.after point what w

  abbrev reached : IsReached (points_of k) v
  reached = reached-more (points_of k) w v s.reached (record { point = point; what = what; may = may; is = refl })

  at-point : v.node point ≡ did what (w.node point)
  at-point = ap (λ (b : Bool). if b then did what (w.node point) else w.node point) (itself-eq point)

  own-point : new.exchange.settings.own ≡ point
  own-point =
      ap (λ (x : Kept). x.settings.own) is.exchange.kept ∙ ap (λ (n : Node). n.books.exchange.settings.own) (sym at-point)
      ∙ own-known (points_of k) v reached point

  abbrev put : List KeptNode
  put = slice_set k place new

  node-by : (other : ℕ) (b : Bool) → nat_eq other point ≡ b → IsNodeAt other (node_at other put) (if b then did what (w.node other) else w.node other)
  node-by other true f =
      subst (λ (o : ℕ). IsNodeAt o (node_at o put) (did what (w.node o))) (sym (equal other point f))
      (subst (λ (o : Option KeptNode). IsNodeAt point o (did what (w.node point))) (sym (found-new k point place new e own-point)) is)
  node-by other false f =
      subst (λ (o : Option KeptNode). IsNodeAt other o (w.node other)) (sym (found-others k point place new e own-point other (unlike other point f))) (s.nodes other)

  -- no settings change
  settings-stay : (other : ℕ) → (w.node other).books.exchange.settings ≡ (v.node other).books.exchange.settings
  settings-stay other = settings-known (points_of k) w s.reached other ∙ sym (settings-known (points_of k) v reached other)

  many-by : (other : ℕ) (n : KeptNode) → node_at other put ≡ Some n → (b : Bool) → nat_eq other point ≡ b → length n.ports ≡ length (w.node other).books.exchange.settings.links
  many-by other n there true f =
      let at : node_at point put ≡ Some n = ap (λ (o : ℕ). node_at o put) (sym (equal other point f)) ∙ there in
      let one : new ≡ n = same-node new n (sym (found-new k point place new e own-point) ∙ at) in
      ap (λ (x : KeptNode). length x.ports) (sym one) ∙ many ∙ s.gates point old (node-there k point place e ∙ old_is)
      ∙ ap (λ (o : ℕ). length (w.node o).books.exchange.settings.links) (sym (equal other point f))
  many-by other n there false f =
      s.gates other n (sym (found-others k point place new e own-point other (unlike other point f)) ∙ there)

  pub goes : StandsFor put v
  goes = record {
    reached = same-points (points_of k) (points_of put) v (sym (points-same k point place new e own-point)) reached;
    nodes = λ other. node-by other (nat_eq other point) refl;
    gates = λ other n there.
        many-by other n there (nat_eq other point) refl ∙ ap (λ (c : Configuration). length c.links) (settings-stay other);
  }

-- ---- what stands at a point where a node is

pub stands-there : (k : List KeptNode) (w : GateWorld) (s : StandsFor k w) (point : ℕ) (n : KeptNode) → node_at point k ≡ Some n → NodeStands n (w.node point)
stands-there k w s point n e = subst (λ (o : Option KeptNode). IsNodeAt point o (w.node point)) e (s.nodes point)

-- ---- something happens to an exchange

own-order : (order : Order) (outcome : Outcome) → IsOwn (exchanges.happened (event.Order order) outcome)
own-order (Activate link emergency) outcome = tt
own-order (Deactivate link) outcome = tt
own-order (Release link) outcome = tt
own-order (AddTitle row) outcome = tt
own-order (SetTitle row) outcome = tt
own-order (RemoveTitle key digits) outcome = tt

own-so : (e : Event) (outcome : Outcome) → is_own e ≡ true → IsOwn (exchanges.happened e outcome)
own-so (event.AssociationUp link) outcome h = absurd (cc)
own-so (event.AssociationDown link) outcome h = absurd (cc)
own-so (event.Frame link octets) outcome h = absurd (cc)
own-so event.Tick outcome h = tt
own-so (event.Submit message) outcome h = tt
own-so (event.Order order) outcome h = own-order order outcome

-- the exchange of a node afterwards is that of the rules
same-exchange : (what : Happening) (x : NetworkNode) → (datagrams.happened what x).exchange ≡ after whole what x.exchange
same-exchange (CameUp link) x = refl
same-exchange (WentDown link) x = refl
same-exchange (FrameCame link text) x = refl
same-exchange Ticked x = refl
same-exchange (Submitted message) x = refl
same-exchange (Activated link emergency) x = refl
same-exchange (Deactivated link) x = refl
same-exchange (Released link) x = refl
same-exchange (TitleAdded row is_memory_refused) x = refl
same-exchange (TitleSet row is_memory_refused) x = refl
same-exchange (TitleRemoved key digits) x = refl

node-happens : (what : Happening) (was is : KeptNode) (n : Node) → NodeStands was n → exchanges.StandsFor is.exchange (after whole what n.books.exchange) → is.ports ≡ was.ports
    → NodeStands is (did (Happens what) n)
node-happens what was is n h e same = record {
  exchange = subst (exchanges.StandsFor is.exchange) (sym (same-exchange what n.books)) e;
  ports = λ link port there. h.ports link port (subst (λ (l : List KeptPort). slice_get l link ≡ Some port) same there);
}

pub happens-there : (k is : List KeptNode) (w : GateWorld) → StandsFor k w → (point place : ℕ) → place_at point k ≡ Some place → (e : Event) (outcome : Outcome) → is_own e ≡ true
    → NodesStep place e outcome k is → StandsFor is (gates.after point (Happens (exchanges.happened e outcome)) w)
happens-there k is w s point place at e outcome own t =
    let h : NodeStands t.old (w.node point) = stands-there k w s point t.old (node-there k point place at ∙ t.old_is) in
    let what : Happening = exchanges.happened e outcome in
    subst (λ (x : List KeptNode). StandsFor x (gates.after point (Happens what) w)) (sym t.new_is)
    (goes k w s point place at (Happens what) (own-so e outcome own) t.old t.new t.old_is (ap length t.ports)
    (node-happens what t.old t.new (w.node point) h (t.exchange (w.node point).books.exchange h.exchange) t.ports))

-- and its outcome that of the abstract exchange
pub outcome-there : (k is : List KeptNode) (w : GateWorld) → StandsFor k w → (point place : ℕ) → place_at point k ≡ Some place → (e : Event) (outcome : Outcome)
    → NodesStep place e outcome k is → outcome ≡ outcome_of whole (exchanges.happened e outcome) (w.node point).books.exchange
outcome-there k is w s point place at e outcome t =
    let h : NodeStands t.old (w.node point) = stands-there k w s point t.old (node-there k point place at ∙ t.old_is) in
    t.outcome_is (w.node point).books.exchange h.exchange

-- ---- a gate is called

-- octets that come are read as the packet that was put out
may-call : (call : Call) (octets : List ℕ) (now : ℕ) (other : Node) (link : ℕ) → AreRead other → MayCome call octets (other.ports link)
    → MayCall (other.ports link) (told call octets now)
may-call (Hear place source) octets now other link read y =
    subst (λ (packet : Option PacketValue). MayCall (other.ports link) (calling.Hears now packet (address_of source)))
    (sym (ap read_packet y.text ∙ read link y.one y.there)) (record { one = y.one; there = y.there; is = refl; young = y.young })
may-call Tick octets now other link read y = tt
may-call Settle octets now other link read y = tt
may-call Fill octets now other link read y = tt
may-call Close octets now other link read y = tt

pub calls-there : (k is : List KeptNode) (w : GateWorld) → StandsFor k w → (point place : ℕ) → place_at point k ≡ Some place → (call : Call) (octets : List ℕ) (now link : ℕ)
    → (c : NodesCall place link (told call octets now) k is) → link < length c.old.ports → MayComeFrom w point link call octets
    → StandsFor is (gates.after point (Calls link (told call octets now)) w)
calls-there k is w s point place at call octets now link c less may =
    let there : node_at point k ≡ Some c.old = node-there k point place at ∙ c.old_is in
    let h : NodeStands c.old (w.node point) = stands-there k w s point c.old there in
    let end : HasEnd (shown w) point link = end-known (points_of k) w s.reached point link (subst (λ (count : ℕ). link < count) (s.gates point c.old there) less) in
    let t : NodeCalls link (told call octets now) c.old c.new (w.node point).books.exchange = c.calls (w.node point).books.exchange h.exchange in
    subst (λ (x : List KeptNode). StandsFor x (gates.after point (Calls link (told call octets now)) w)) (sym c.new_is)
    (goes k w s point place at (Calls link (told call octets now))
    (end, may-call call octets now (w.node end.there.point) end.there.link (read-known (points_of k) w s.reached end.there.point) (may end)) c.old c.new c.old_is
    (as-many link (told call octets now) c.old c.new (w.node point) h t) (node-calls link (told call octets now) c.old c.new (w.node point) h t))
