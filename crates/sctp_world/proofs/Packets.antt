-- All that two endpoints in code put out is packets that can be written.
use Rattle.std.proofs.Common.{◌≡◌, ℕ, List, [], ◌∷◌, ◌++◌, map, refl, sym, subst}
use Rattle.std.specs.Prelude.{All}
use Rattle.std.proofs.lemmas.List.Elements.{All-nil, All-cons, All-head, All-tail, All-append, All-weaker}
use Rattle.sctp_codec.specs.Packets as packets
use Rattle.sctp_codec.specs.Packets.{ChunkValue, PacketValue}
use Rattle.sctp_codec.specs.Writing.{IsChunk, IsPacket}
use Rattle.sctp_rules.specs.Settings.{Settings}
use Rattle.sctp_rules.specs.State.{Datagram, Done}
use Rattle.sctp_rules.specs.Endpoint.{Happening, after}
use Rattle.sctp_rules.specs.WrittenPackets.{HasPorts, AreFit, IsFit, Fits, IsWritten}
use Rattle.sctp_rules.specs.WrittenPackets as wire
use Rattle.sctp_rules.proofs.Fitting.{Kept, Puts, happens, kept-first}
use Rattle.sctp_ends.specs.Worlds.{Emitted, Site, World, Make, Steps, at_near, at_far, new_world, last_world, emitted, happened}
use Rattle.sctp_ends.proofs.Keyed.{keyed-fit}
use Rattle.sctp_world.specs.Kept.{KeptWorld}
use Rattle.sctp_world.specs.Stands.{FitStep, FitSteps, make_of, first_of, StandsFor}

-- ---- steps

pub steps-on : (near far : Make) (w v : World) (list : List World) → FitSteps near far w list → FitStep near far (last_world w list) v →
    FitSteps near far w (list ++ v ∷ [])
steps-on near far w v [] h s = (s, tt)
steps-on near far w v (u ∷ rest) h s = (h.0, steps-on near far u v rest h.1 s)

pub last-on : (w v : World) (list : List World) → last_world w (list ++ v ∷ []) ≡ v
last-on w v [] = refl
last-on w v (u ∷ rest) = last-on u v rest

pub plain-steps : (near far : Make) (w : World) (list : List World) → FitSteps near far w list → Steps near far w list
plain-steps near far w [] h = tt
plain-steps near far w (v ∷ rest) h = let step = h.0 in (step.0, plain-steps near far v rest h.1)

-- ---- all that was put out is packets

pub record SiteFits (c : Settings) (s : Site) : Type 0 where
  pub kept : Kept c s.state.association
  pub packets : All (λ e. IsPacket e.packet) s.packets

pub record WorldFits (near far : Make) (w : World) : Type 0 where
  pub near_fits : SiteFits near.settings w.near
  pub far_fits : SiteFits far.settings w.far

numbers-of : (chunk : ChunkValue) → IsChunk chunk → wire.HasNumbers chunk
numbers-of (packets.DataChunk carried) h = let f = h.fields in f.tsn
numbers-of (packets.InitChunk init) h = let f = h.fields in f.tag
numbers-of (packets.InitAckChunk init) h = let f = h.fields in f.tag
numbers-of (packets.SackChunk sack) h = tt
numbers-of (packets.HeartbeatChunk information) h = tt
numbers-of (packets.HeartbeatAckChunk information) h = tt
numbers-of (packets.AbortChunk is_reflected causes) h = tt
numbers-of (packets.ShutdownChunk cumulative) h = tt
numbers-of packets.ShutdownAckChunk h = tt
numbers-of (packets.ErrorChunk causes) h = tt
numbers-of (packets.CookieEchoChunk cookie) h = tt
numbers-of packets.CookieAckChunk h = tt
numbers-of (packets.ShutdownCompleteChunk is_reflected) h = tt
numbers-of (packets.UnknownChunk kind flags value) h = tt
numbers-of (packets.MalformedChunk kind) h = tt

pub fit-of : (p : PacketValue) → IsPacket p → IsFit p
fit-of p h = record { tag = h.tag; chunks = All-weaker IsChunk wire.HasNumbers numbers-of p.chunks h.chunks }

emitted-fit : (made : ℕ) (sent : List Datagram) → All IsWritten sent → All (λ (e : Emitted). IsPacket e.packet) (map (emitted made) sent)
emitted-fit made [] h = All-nil (λ (e : Emitted). IsPacket e.packet)
emitted-fit made (d ∷ sent) h =
    All-cons (λ (e : Emitted). IsPacket e.packet) (emitted made d) (map (emitted made) sent) (All-head IsWritten d sent h)
    (emitted-fit made sent (All-tail IsWritten d sent h))

site-happens : (m : Make) (what : Happening) (s : Site) → HasPorts m.settings → AreFit m.secrets → Fits what → SiteFits m.settings s →
    SiteFits m.settings (happened m what s)
site-happens m what s ports fit h f =
    let p : Puts m.settings (after m.settings m.secrets what s.state) = happens m.settings ports m.secrets fit what s.state h f.kept in
    let d : Done = after m.settings m.secrets what s.state in
    record {
      kept = p.left;
      packets = All-append (λ (e : Emitted). IsPacket e.packet) (map (emitted s.mark) d.sent) s.packets (emitted-fit s.mark d.sent p.sent) f.packets;
    }

world-step : (near far : Make) (w v : World) → HasPorts near.settings → HasPorts far.settings → AreFit near.secrets → AreFit far.secrets →
    FitStep near far w v → WorldFits near far w → WorldFits near far v
world-step near far w v near_ports far_ports near_fit far_fit (at_near what may is, h) f =
    subst (λ (x : World). WorldFits near far x) (sym is) (record {
      near_fits = site-happens near what w.near near_ports near_fit h f.near_fits;
      far_fits = f.far_fits;
    })
world-step near far w v near_ports far_ports near_fit far_fit (at_far what may is, h) f =
    subst (λ (x : World). WorldFits near far x) (sym is) (record {
      near_fits = f.near_fits;
      far_fits = site-happens far what w.far far_ports far_fit h f.far_fits;
    })

world-fits : (near far : Make) (w : World) (list : List World) → HasPorts near.settings → HasPorts far.settings → AreFit near.secrets →
    AreFit far.secrets → FitSteps near far w list → WorldFits near far w → WorldFits near far (last_world w list)
world-fits near far w [] np fp nf ff h f = f
world-fits near far w (v ∷ rest) np fp nf ff h f = world-fits near far v rest np fp nf ff h.1 (world-step near far w v np fp nf ff h.0 f)

first-fits : (near far : Make) → HasPorts near.settings → HasPorts far.settings → WorldFits near far (new_world near far)
first-fits near far np fp = record {
  near_fits = record { kept = kept-first near.settings np; packets = All-nil (λ (e : Emitted). IsPacket e.packet) };
  far_fits = record { kept = kept-first far.settings fp; packets = All-nil (λ (e : Emitted). IsPacket e.packet) };
}

pub stands-fits : (k : KeptWorld) (w : World) → StandsFor k w → WorldFits (make_of k.near) (make_of k.far) w
stands-fits k w s =
    let np : HasPorts k.near.endpoint.settings = let x = s.near in x.ports in
    let fp : HasPorts k.far.endpoint.settings = let x = s.far in x.ports in
    subst (λ (x : World). WorldFits (make_of k.near) (make_of k.far) x) s.last
    (world-fits (make_of k.near) (make_of k.far) (first_of k) s.list np fp (keyed-fit k.near.endpoint.tag_key k.near.endpoint.cookie_key)
    (keyed-fit k.far.endpoint.tag_key k.far.endpoint.cookie_key) s.steps (first-fits (make_of k.near) (make_of k.far) np fp))
