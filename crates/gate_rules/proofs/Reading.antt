-- All that gates put out is packets that can be written, and so reads back.
use Rattle.std.proofs.Common.{◌≡◌, ℕ, Bool, true, false, List, [], ◌∷◌, Option, Some, None, map, refl, sym, subst, nat_eq, arith}
use Rattle.std.specs.Prelude.{All, if◌then◌else◌}
use Rattle.std.specs.List.{Contains}
use Rattle.std.proofs.lemmas.List.Elements.{All-nil, All-cons, All-head, All-tail, All-append, All-weaker, All-contains}
use Rattle.m2pa_codec.specs.Frames.{FrameValue, spelled}
use Rattle.sctp_codec.specs.Packets as packets
use Rattle.sctp_codec.specs.Packets.{ChunkValue, PacketValue}
use Rattle.sctp_codec.specs.Reading.{read_packet}
use Rattle.sctp_codec.specs.Writing.{IsChunk, IsPacket}
use Rattle.sctp_codec.proofs.ChunkTexts.{packet-back}
use Rattle.sctp_bundling.specs.ChunkRows.{packet_text}
use Rattle.sctp_rules.specs.Settings.{Settings}
use Rattle.sctp_rules.specs.State.{Datagram, Done}
use Rattle.sctp_rules.specs.Endpoint as endpoint
use Rattle.sctp_rules.specs.Endpoint.{Happening, after}
use Rattle.sctp_rules.specs.WrittenPackets.{HasPorts, AreFit, IsFit, Fits, IsWritten}
use Rattle.sctp_rules.specs.WrittenPackets as wire
use Rattle.sctp_rules.proofs.Fitting.{Kept, Puts, happens, kept-first}
use Rattle.sctp_moves.proofs.Members.{in-from, contains-from}
use Rattle.sctp_ends.specs.Worlds.{Emitted, Site, emitted}
use Rattle.sctp_ends.specs.Worlds as ends
use Rattle.sctp_ends.proofs.Keyed.{keyed-fit}
use Rattle.exchange_rules.specs.Exchange.{frame_to_take}
use Rattle.exchange_rules.specs.Queues.{whole}
use Rattle.node_rules.specs.Worlds as nodes
use Rattle.node_rules.specs.Worlds.{Port, associated, message_of}
use Rattle.gate_rules.specs.Worlds as gates
use Rattle.gate_rules.specs.Worlds.{Make, World, new_world, last_world}
use Rattle.gate_rules.specs.Promises.{node_make, first_nodes}
use Rattle.gate_rules.specs.Octets.{AreRead, packets_are_read}
use Rattle.gate_rules.proofs.LinkEnds.{same-number}
use Rattle.gate_rules.proofs.Called.{Beside, IsThere}
use Rattle.gate_rules.proofs.Running.{BesideNode, Reaches, all-reach}

-- ---- a packet that can be written

numbers-of : (chunk : ChunkValue) → IsChunk chunk → wire.HasNumbers chunk
numbers-of (packets.DataChunk carried) h = let f = h.fields in f.tsn
numbers-of (packets.InitChunk init) h = let f = h.fields in f.tag
numbers-of (packets.InitAckChunk init) h = let f = h.fields in f.tag
numbers-of (packets.SackChunk sack) h = tt
numbers-of (packets.HeartbeatChunk information) h = tt
numbers-of (packets.HeartbeatAckChunk information) h = tt
numbers-of (packets.AbortChunk is_reflected causes) h = tt
numbers-of (packets.ShutdownChunk cumulative) h = tt
numbers-of packets.ShutdownAckChunk h = tt
numbers-of (packets.ErrorChunk causes) h = tt
numbers-of (packets.CookieEchoChunk cookie) h = tt
numbers-of packets.CookieAckChunk h = tt
numbers-of (packets.ShutdownCompleteChunk is_reflected) h = tt
numbers-of (packets.UnknownChunk kind flags value) h = tt
numbers-of (packets.MalformedChunk kind) h = tt

fit-of : (p : PacketValue) → IsPacket p → IsFit p
fit-of p h = record { tag = h.tag; chunks = All-weaker IsChunk wire.HasNumbers numbers-of p.chunks h.chunks }

abbrev Written : Emitted → Type 0
Written e = IsPacket e.packet

all-emitted : (made : ℕ) (sent : List Datagram) → All IsWritten sent → All Written (map (emitted made) sent)
all-emitted made [] h = All-nil Written
all-emitted made (d ∷ sent) h =
    All-cons Written (emitted made d) (map (emitted made) sent) (All-head IsWritten d sent h) (all-emitted made sent (All-tail IsWritten d sent h))

-- ---- an endpoint

pub record SiteFits (c : Settings) (s : Site) : Type 0 where
  pub kept : Kept c s.state.association
  pub packets : All Written s.packets

pub site-first : (c : Settings) → HasPorts c → SiteFits c (ends.new_site c)
site-first c ports = record { kept = kept-first c ports; packets = All-nil Written }

pub site-happens : (m : ends.Make) (what : Happening) (s : Site) → HasPorts m.settings → AreFit m.secrets → Fits what → SiteFits m.settings s
    → SiteFits m.settings (ends.happened m what s)
site-happens m what s ports fit h f =
    let d : Done = after m.settings m.secrets what s.state in
    let p : Puts m.settings d = happens m.settings ports m.secrets fit what s.state h f.kept in
    record { kept = p.left; packets = All-append Written (map (emitted s.mark) d.sent) s.packets (all-emitted s.mark d.sent p.sent) f.packets }

-- what may happen to it, while the other end stands still
pub may-fit : (c : Settings) (there : Site) → SiteFits c there → (n : nodes.Node) (k : ℕ) (what : Happening) → nodes.MayAssociate there k what n → Fits what
may-fit c there f n k (endpoint.Opens now is_active) may = tt
may-fit c there f n k (endpoint.Came now source packet) may =
    let one : Emitted = may.0.one in
    fit-of packet (subst IsPacket may.0.is (All-contains Written there.packets one f.packets may.0.there))
may-fit c there f n k (endpoint.Ticked now) may = tt
may-fit c there f n k (endpoint.Sends message) may = absurd may
may-fit c there f n k endpoint.Aborts may = tt
may-fit c there f n k (endpoint.ShutsDown now) may = tt
may-fit c there f n k (endpoint.Flushes now) may = tt

-- ---- a node

pub record NodeFits (m : nodes.Make) (n : nodes.Node) : Type 0 where
  pub each : (k : ℕ) → SiteFits (m.endpoints k).settings (n.ports k).site

pub port-fits : (m : nodes.Make) (n : nodes.Node) (k : ℕ) (port : Port) → NodeFits m n → SiteFits (m.endpoints k).settings port.site
    → (j : ℕ) → SiteFits (m.endpoints j).settings (if nat_eq j k then port else n.ports j).site
port-fits m n k port f h j = by (nat_eq j k) refl where
  by : (b : Bool) → nat_eq j k ≡ b → SiteFits (m.endpoints j).settings (if b then port else n.ports j).site
  by true e = subst (λ (i : ℕ). SiteFits (m.endpoints i).settings port.site) (sym (same-number j k e)) h
  by false e = f.each j

module _ (m : nodes.Make) (ports : (k : ℕ) → HasPorts (m.endpoints k).settings) (fit : (k : ℕ) → AreFit (m.endpoints k).secrets) where
  pub one-fits : (n : nodes.Node) (k : ℕ) (what : Happening) → Fits what → NodeFits m n → SiteFits (m.endpoints k).settings (associated m k what n).site
  one-fits n k what h f = site-happens (m.endpoints k) what (n.ports k).site (ports k) (fit k) h (f.each k)

  sent-fits : (n : nodes.Node) (k : ℕ) (frame : Option FrameValue) → NodeFits m n → NodeFits m (nodes.sent m k frame n)
  sent-fits n k None f = f
  sent-fits n k (Some frame) f =
      record { each = port-fits m n k (associated m k (endpoint.Sends (message_of (spelled frame))) n) f (one-fits n k (endpoint.Sends (message_of (spelled frame))) (omega arith) f) }

  module _ (o : nodes.Make) (other : nodes.Node) (there : NodeFits o other) where
    did-fits : (n : nodes.Node) (what : nodes.Doing) → nodes.MayDo m.configuration o.configuration other what n → NodeFits m n → NodeFits m (nodes.did m what n)
    did-fits n (nodes.Happens what) may f = record { each = f.each }
    did-fits n (nodes.Associates k what) may f = record { each = port-fits m n k (associated m k what n) f (one-fits n k what (may-fit (o.endpoints may.0.there).settings (other.ports may.0.there).site (there.each may.0.there) n k what may.1) f) }
    did-fits n (nodes.Sends k) may f = sent-fits n k (frame_to_take whole n.books.exchange k) f
    did-fits n (nodes.Brings what) may f = record { each = f.each }
    did-fits n (nodes.Leaves k) may f = record { each = f.each }

-- ---- two nodes

module _ (near far : nodes.Make) (near_ports : (k : ℕ) → HasPorts (near.endpoints k).settings) (far_ports : (k : ℕ) → HasPorts (far.endpoints k).settings)
    (near_fit : (k : ℕ) → AreFit (near.endpoints k).secrets) (far_fit : (k : ℕ) → AreFit (far.endpoints k).secrets) where
  record WorldFits (w : nodes.World) : Type 0 where
    near_fits : NodeFits near w.near
    far_fits : NodeFits far w.far

  step-fits : (w v : nodes.World) → nodes.Step near far w v → WorldFits w → WorldFits v
  step-fits w v (nodes.at_near what may is) f =
      subst WorldFits (sym is)
      (record { near_fits = did-fits near near_ports near_fit far w.far f.far_fits w.near what may f.near_fits; far_fits = f.far_fits })
  step-fits w v (nodes.at_far what may is) f =
      subst WorldFits (sym is)
      (record { near_fits = f.near_fits; far_fits = did-fits far far_ports far_fit near w.near f.near_fits w.far what may f.far_fits })

  all-fit : (list : List nodes.World) (w : nodes.World) → nodes.Steps near far w list → WorldFits w → WorldFits (nodes.last_world w list)
  all-fit [] w m f = f
  all-fit (v ∷ list) w m f = all-fit list v m.1 (step-fits w v m.0 f)

  new-fits : WorldFits (nodes.new_world near far)
  new-fits = record {
    near_fits = record { each = λ k. site-first (near.endpoints k).settings (near_ports k) };
    far_fits = record { each = λ k. site-first (far.endpoints k).settings (far_ports k) };
  }

-- ---- the law

text-back : (p : PacketValue) → IsPacket p → read_packet (packet_text p) ≡ Some p
unfolding packet_text
text-back p h = packet-back p h

-- a packet of a gate is one of the endpoint beside it
pub port-read : (m : nodes.Make) (c : Settings) (k : ℕ) (port : Port) (p : gates.Port) → Beside m k port p → SiteFits c port.site → (one : Emitted) → Contains p.packets one
    → read_packet (packet_text one.packet) ≡ Some one.packet
port-read m c k port p b f one i =
    let t : IsThere port.site p one = b.ages.packets one (in-from p.packets one i) in
    text-back one.packet (subst IsPacket t.same (All-contains Written port.site.packets t.one f.packets (contains-from port.site.packets t.one t.there)))

read-so : (m : Make) (g : gates.Node) (n : nodes.Node) → BesideNode m g n → NodeFits (node_make m) n → AreRead g
read-so m g n b f link one i = port-read (node_make m) ((node_make m).endpoints link).settings link (n.ports link) (g.ports link) (b.ports link) (f.each link) one i

pub all-read : packets_are_read
all-read near far sharing list steps near_ports far_ports =
    let r : Reaches near far sharing (last_world (new_world near far) list) = all-reach near far sharing list steps in
    let f : WorldFits (node_make near) (node_make far) near_ports far_ports (λ k. keyed-fit (near.gates k).tag_key (near.gates k).cookie_key)
    (λ k. keyed-fit (far.gates k).tag_key (far.gates k).cookie_key) (nodes.last_world (first_nodes near far) r.list) =
    all-fit (node_make near) (node_make far) near_ports far_ports _ _ r.list (first_nodes near far) r.steps
    (new-fits (node_make near) (node_make far) near_ports far_ports (λ k. keyed-fit (near.gates k).tag_key (near.gates k).cookie_key)
    (λ k. keyed-fit (far.gates k).tag_key (far.gates k).cookie_key)) in
    record {
      near = read-so near _ _ r.near_beside f.near_fits;
      far = read-so far _ _ r.far_beside f.far_fits;
    }
