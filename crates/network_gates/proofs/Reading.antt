-- All that the gates of a network put out is packets that can be written, and so reads back.
use Rattle.std.proofs.Common.{◌≡◌, ℕ, Bool, true, false, List, [], ◌∷◌, Option, Some, None, nat_eq, refl, sym, subst, arith}
use Rattle.std.specs.Prelude.{if◌then◌else◌}
use Rattle.m2pa_codec.specs.Frames.{FrameValue, spelled}
use Rattle.exchange_rules.specs.Exchange.{frame_to_take}
use Rattle.exchange_rules.specs.Queues.{whole}
use Rattle.sctp_rules.specs.Endpoint as endpoint
use Rattle.sctp_rules.specs.WrittenPackets.{AreFit, HasPorts}
use Rattle.sctp_ends.proofs.Keyed.{keyed-fit}
use Rattle.network_rules.specs.Totals.{IsJoined}
use Rattle.node_rules.specs.Worlds as nodes
use Rattle.node_rules.specs.Worlds.{associated, message_of}
use Rattle.network_datagrams.specs.NetworkWorlds as datagrams
use Rattle.network_datagrams.specs.NetworkWorlds.{NetworkWorld, bare, did, sent}
use Rattle.gate_rules.proofs.LinkEnds.{same-number}
use Rattle.gate_rules.proofs.Reading.{NodeFits, may-fit, one-fits, port-fits, port-read, site-first}
use Rattle.network_gates.specs.GateWorlds.{GateWorld, last_world, new_world}
use Rattle.network_gates.specs.GateOctets.{packets_are_read}
use Rattle.network_gates.specs.GatePromises.{nodes_of}
use Rattle.network_gates.proofs.Running.{Reaches, all-reach}

module _ (make : (point : ℕ) → nodes.Make) (ports : (p k : ℕ) → HasPorts ((make p).endpoints k).settings) (fit : (p k : ℕ) → AreFit ((make p).endpoints k).secrets) where
  record WorldFits (w : NetworkWorld) : Type 0 where
    each : (p : ℕ) → NodeFits (make p) (bare (w.node p))

  sent-fits : (p k : ℕ) (n : datagrams.Node) (frame : Option FrameValue) → NodeFits (make p) (bare n) → NodeFits (make p) (bare (sent (make p) k frame n))
  sent-fits p k n None f = f
  sent-fits p k n (Some frame) f = record {
    each =
        port-fits (make p) (bare n) k (associated (make p) k (endpoint.Sends (message_of (spelled frame))) (bare n)) f
        (one-fits (make p) (ports p) (fit p) (bare n) k (endpoint.Sends (message_of (spelled frame))) (omega arith) f);
  }

  did-fits : (w : NetworkWorld) → WorldFits w → (p : ℕ) (what : datagrams.Doing) → datagrams.MayDo w p what → NodeFits (make p) (bare (did (make p) what (w.node p)))
  did-fits w f p (datagrams.Happens what) may = record { each = (f.each p).each }
  did-fits w f p (datagrams.Associates k what) may =
      let q : ℕ = may.0.there.point in
      let j : ℕ = may.0.there.link in
      record {
        each =
            port-fits (make p) (bare (w.node p)) k (associated (make p) k what (bare (w.node p))) (f.each p)
            (one-fits (make p) (ports p) (fit p) (bare (w.node p)) k what
            (may-fit ((make q).endpoints j).settings ((w.node q).ports j).site ((f.each q).each j) (bare (w.node p)) k what may.1) (f.each p));
      }
  did-fits w f p (datagrams.Sends k) may = sent-fits p k (w.node p) (frame_to_take whole (w.node p).books.exchange k) (f.each p)

  after-fits : (w : NetworkWorld) → WorldFits w → (p : ℕ) (what : datagrams.Doing) → datagrams.MayDo w p what → WorldFits (datagrams.after make p what w)
  after-fits w f p what may = record { each = λ o. by o (nat_eq o p) refl }
    where
      by : (o : ℕ) (b : Bool) → nat_eq o p ≡ b → NodeFits (make o) (bare (if b then did (make o) what (w.node o) else w.node o))
      by o true e = subst (λ (i : ℕ). NodeFits (make i) (bare (did (make i) what (w.node i)))) (sym (same-number o p e)) (did-fits w f p what may)
      by o false e = f.each o

  all-fit : (list : List NetworkWorld) (w : NetworkWorld) → datagrams.Steps make w list → WorldFits w → WorldFits (datagrams.last_world w list)
  all-fit [] w m f = f
  all-fit (v ∷ list) w m f = all-fit list v m.1 (subst WorldFits (sym m.0.is) (after-fits w f m.0.point m.0.what m.0.may))

  new-fits : WorldFits (datagrams.new_world make)
  new-fits = record { each = λ p. record { each = λ k. site-first ((make p).endpoints k).settings (ports p k) } }

pub all-read : packets_are_read
all-read make points is_joined list steps ports point link one i =
    let v : GateWorld = last_world (new_world make) list in
    let r : Reaches make points is_joined v = all-reach make points is_joined list steps in
    let made : (p : ℕ) → nodes.Make = nodes_of make in
    let fit : (p k : ℕ) → AreFit ((made p).endpoints k).secrets = λ p k. keyed-fit ((make p).gates k).tag_key ((make p).gates k).cookie_key in
    let f : WorldFits made ports fit (datagrams.last_world (datagrams.new_world made) r.list) = all-fit made ports fit r.list (datagrams.new_world made) r.steps (new-fits made ports fit) in
    port-read (made point) ((made point).endpoints link).settings link (((datagrams.last_world (datagrams.new_world made) r.list).node point).ports link) ((v.node point).ports link)
    ((r.beside point).ports link) ((f.each point).each link) one i
