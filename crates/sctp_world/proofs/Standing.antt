-- What happens at an endpoint in code is a step of the world that it is in.
use Rattle.std.proofs.Common.{◌≡◌, ℕ, suc, List, [], ◌∷◌, ◌++◌, Option, Some, map, refl, sym, ap, subst, ◌∙◌, arith}
use Rattle.std.specs.Prelude.{All}
use Rattle.std.specs.List.{Contains}
use Rattle.std.proofs.lemmas.List.Elements.{All-nil, All-cons, All-append, All-weaker, All-contains, Contains-append_left, Contains-append_right}
use Rattle.sctp_codec.specs.Packets.{PacketValue}
use Rattle.sctp_codec.specs.Reading.{read_packet}
use Rattle.sctp_codec.specs.Writing.{IsPacket}
use Rattle.sctp_codec.proofs.ChunkTexts.{packet-back}
use Rattle.sctp_rules.specs.Settings.{Settings, Address}
use Rattle.sctp_rules.specs.State.{State, Datagram, Told, Done}
use Rattle.sctp_rules.specs.Endpoint.{Happening, Opens, Came, Ticked, Sends, Aborts, ShutsDown, Flushes, after}
use Rattle.sctp_rules.specs.WrittenPackets.{HasPorts, Fits}
use Rattle.sctp_moves.specs.Ends.{Message}
use Rattle.sctp_ends.specs.Told.{opened_by, given_by, told_by}
use Rattle.sctp_ends.specs.Worlds.{Emitted, Site, World, Make, Step, at_near, at_far, new_site, emitted, happened, Arrives, MayHappen}
use Rattle.sctp_ends.specs.Theorems.{DeliverBoth, Delivers, AreAssociated}
use Rattle.sctp_world.specs.declared.step.End.{End}
use Rattle.sctp_world.specs.declared.step.End.TheVariants.{Near, Far}
use Rattle.sctp_ends.proofs.Keyed.{keyed-good}
use Rattle.sctp_ends.proofs.World.{were-given, have-the-laws}
use Rattle.sctp_bundling.specs.ChunkRows.{packet_text}
use Rattle.sctp_bundling.specs.Watching.{Sent, sent_as}
use Rattle.sctp_endpoint.specs.Endpoints.{secrets_of}
use Rattle.sctp_sending.specs.Cells.{given_as}
use Rattle.sctp_bundling.specs.Settings.{address_of}
use Rattle.sctp_endpoint.specs.Dispatching.{heard_datagram}
use Rattle.sctp_world.specs.declared.step.Doing.{Doing}
use Rattle.sctp_world.specs.declared.step.Doing.TheVariants.{Open, Send, Abort, ShutDown, Tick, Flush, Hear}
use Rattle.sctp_world.specs.Doing.{kept_did, HasNumbers, MayCome, other_site}
use Rattle.sctp_world.specs.Kept.{KeptSite, KeptWorld, kept_happened, with_done, first_kept, kept_at, octets_at}
use Rattle.sctp_world.proofs.Packets.{SiteFits, WorldFits, steps-on, last-on, plain-steps, fit-of, stands-fits}
use Rattle.sctp_world.specs.Stands.{FitStep, FitSteps, IsSentBy, SiteStands, make_of, first_of, StandsFor, GoesOn, IsYoung}

-- ---- one site

put-out : (s : Site) (made : ℕ) (sent : List Datagram) → ((x : Emitted) → Contains (map (emitted made) sent) x → Contains s.packets x) →
    All (IsSentBy s) (map sent_as sent)
put-out s made [] h = All-nil (IsSentBy s)
put-out s made (d ∷ sent) h =
    All-cons (IsSentBy s) (sent_as d) (map sent_as sent)
    (record { one = emitted made d; there = h (emitted made d) (0, omega arith, refl); text = refl })
    (put-out s made sent (λ x i. h x (suc i.0, omega (arith, i.1), i.2)))

still-sent : (s t : Site) → ((x : Emitted) → Contains s.packets x → Contains t.packets x) → (x : Sent) → IsSentBy s x → IsSentBy t x
still-sent s t h x i = record { one = i.one; there = h i.one i.there; text = i.text }

site-stands : (what : Happening) (k : KeptSite) (s : Site) → SiteStands k s → SiteStands (kept_happened what k) (happened (make_of k) what s)
site-stands what k s h =
    let m : Make = make_of k in
    let t : Site = happened m what s in
    let of : State → Done = λ x. after m.settings m.secrets what x in
    let d : Done = of s.state in
    let e : Done = of k.endpoint.state in
    let new : List Emitted = map (emitted s.mark) d.sent in
    let sent : All (IsSentBy t) (k.log.sent ++ map sent_as d.sent) =
    All-append (IsSentBy t) k.log.sent (map sent_as d.sent)
    (All-weaker (IsSentBy s) (IsSentBy t) (still-sent s t (λ x i. Contains-append_right new s.packets x i)) k.log.sent h.sent)
    (put-out t s.mark d.sent (λ x i. Contains-append_left new s.packets x i)) in
    record {
      state = ap (λ (x : State). (of x).left) h.state;
      told = ap (λ (l : List Told). l ++ e.told) h.told ∙ ap (λ (x : State). s.told ++ (of x).told) h.state;
      given = ap (λ (l : List (List Message)). opened_by (given_by what k.endpoint.state l) e.told) h.given
          ∙ ap (λ (x : State). opened_by (given_by what x s.given) (of x).told) h.state;
      sent = subst (λ (x : State). All (IsSentBy t) (k.log.sent ++ map sent_as (of x).sent)) (sym h.state) sent;
      ports = h.ports;
    }

-- ---- both

pub goes-near : (what : Happening) (k : KeptWorld) (w : World) → StandsFor k w → MayHappen w.far what → Fits what →
    GoesOn (record k { near = kept_happened what k.near }) w
goes-near what k w h may fits =
    let near : Make = make_of k.near in
    let far : Make = make_of k.far in
    let v : World = record w { near = happened near what w.near } in
    let step : Step near far w v = at_near what may refl in
    let steps : FitSteps near far (first_of k) (h.list ++ v ∷ []) =
    steps-on near far (first_of k) v h.list h.steps (subst (λ (x : World). FitStep near far x v) (sym h.last) (step, fits)) in
    record {
      to = v;
      step = step;
      stands = record {
        list = h.list ++ v ∷ [];
        steps = steps;
        last = last-on (first_of k) v h.list;
        near = site-stands what k.near w.near h.near;
        far = h.far;
      };
    }

pub goes-far : (what : Happening) (k : KeptWorld) (w : World) → StandsFor k w → MayHappen w.near what → Fits what →
    GoesOn (record k { far = kept_happened what k.far }) w
goes-far what k w h may fits =
    let near : Make = make_of k.near in
    let far : Make = make_of k.far in
    let v : World = record w { far = happened far what w.far } in
    let step : Step near far w v = at_far what may refl in
    let steps : FitSteps near far (first_of k) (h.list ++ v ∷ []) =
    steps-on near far (first_of k) v h.list h.steps (subst (λ (x : World). FitStep near far x v) (sym h.last) (step, fits)) in
    record {
      to = v;
      step = step;
      stands = record {
        list = h.list ++ v ∷ [];
        steps = steps;
        last = last-on (first_of k) v h.list;
        near = h.near;
        far = site-stands what k.far w.far h.far;
      };
    }

pub delivers : (k : KeptWorld) (w : World) → StandsFor k w → DeliverBoth w
delivers k w h =
    let near : Make = make_of k.near in
    let far : Make = make_of k.far in
    subst (λ (x : World). DeliverBoth x) h.last
    (were-given near far (keyed-good k.near.endpoint.tag_key k.near.endpoint.cookie_key) (keyed-good k.far.endpoint.tag_key k.far.endpoint.cookie_key)
    h.list (plain-steps near far (first_of k) h.list h.steps))

pub associated : (k : KeptWorld) (w : World) → StandsFor k w → AreAssociated (make_of k.near) (make_of k.far) w
associated k w h =
    let near : Make = make_of k.near in
    let far : Make = make_of k.far in
    subst (λ (x : World). AreAssociated near far x) h.last
    (have-the-laws near far (keyed-good k.near.endpoint.tag_key k.near.endpoint.cookie_key) (keyed-good k.far.endpoint.tag_key k.far.endpoint.cookie_key)
    h.list (plain-steps near far (first_of k) h.list h.steps))

-- ---- a datagram that comes

packet-there : (c : Settings) (s : Site) (one : Emitted) → SiteFits c s → Contains s.packets one → IsPacket one.packet
packet-there c s one f i = All-contains (λ (e : Emitted). IsPacket e.packet) s.packets one f.packets i

-- what is read of octets that an endpoint put out is the packet
read-so : (c : Settings) (s : Site) (one : Emitted) (octets : List ℕ) → SiteFits c s → Contains s.packets one → octets ≡ packet_text one.packet →
    read_packet octets ≡ Some one.packet
unfolding packet_text
read-so c s one octets f i e = ap read_packet e ∙ packet-back one.packet (packet-there c s one f i)

arrives : (s : Site) (octets : List ℕ) (y : IsYoung s octets) → Arrives s (let one = y.one in one.packet)
arrives s octets y = record { one = y.one; there = y.there; is = refl; young = y.young }

pub read-from-far : (k : KeptWorld) (w : World) (octets : List ℕ) → StandsFor k w → (y : IsYoung w.far octets) →
    read_packet octets ≡ Some (let one = y.one in one.packet)
read-from-far k w octets h y =
    let f : WorldFits (make_of k.near) (make_of k.far) w = stands-fits k w h in
    read-so k.far.endpoint.settings w.far y.one octets f.far_fits y.there y.text

pub read-from-near : (k : KeptWorld) (w : World) (octets : List ℕ) → StandsFor k w → (y : IsYoung w.near octets) →
    read_packet octets ≡ Some (let one = y.one in one.packet)
read-from-near k w octets h y =
    let f : WorldFits (make_of k.near) (make_of k.far) w = stands-fits k w h in
    read-so k.near.endpoint.settings w.near y.one octets f.near_fits y.there y.text

-- ---- what is done at an end

heard-so : (octets : List ℕ) (k : KeptSite) (now : ℕ) (source : Address) (p : PacketValue) → read_packet octets ≡ Some p →
    with_done (heard_datagram (read_packet octets) k.endpoint.settings (secrets_of k.endpoint) now source k.endpoint.state) k.given k
    ≡ kept_happened (Came now source p) k
unfolding after
heard-so octets k now source p e =
    ap (λ (o : Option PacketValue). with_done (heard_datagram o k.endpoint.settings (secrets_of k.endpoint) now source k.endpoint.state) k.given k) e

pub did-near : (what : Doing) (now : ℕ) (k : KeptWorld) (w : World) → StandsFor k w → HasNumbers what → MayCome what k.far w.far →
    GoesOn (record k { near = kept_did what now k.far k.near }) w
did-near (Open is_active) now k w h fits may = goes-near (Opens now is_active) k w h tt tt
did-near (Send message) now k w h fits may = goes-near (Sends (given_as message)) k w h tt fits
did-near Abort now k w h fits may = goes-near Aborts k w h tt tt
did-near ShutDown now k w h fits may = goes-near (ShutsDown now) k w h tt tt
did-near Tick now k w h fits may = goes-near (Ticked now) k w h tt tt
did-near Flush now k w h fits may = goes-near (Flushes now) k w h tt tt
did-near (Hear place source) now k w h fits may =
    let octets : List ℕ = octets_at k.far place in
    let one : Emitted = may.one in
    let f : WorldFits (make_of k.near) (make_of k.far) w = stands-fits k w h in
    let packet : IsPacket one.packet = packet-there k.far.endpoint.settings w.far one f.far_fits may.there in
    let come : Happening = Came now (address_of source) one.packet in
    subst (λ (s : KeptSite). GoesOn (record k { near = s }) w)
    (sym (heard-so octets k.near now (address_of source) one.packet (read-from-far k w octets h may)))
    (goes-near come k w h (arrives w.far octets may) (fit-of one.packet packet))

pub did-far : (what : Doing) (now : ℕ) (k : KeptWorld) (w : World) → StandsFor k w → HasNumbers what → MayCome what k.near w.near →
    GoesOn (record k { far = kept_did what now k.near k.far }) w
did-far (Open is_active) now k w h fits may = goes-far (Opens now is_active) k w h tt tt
did-far (Send message) now k w h fits may = goes-far (Sends (given_as message)) k w h tt fits
did-far Abort now k w h fits may = goes-far Aborts k w h tt tt
did-far ShutDown now k w h fits may = goes-far (ShutsDown now) k w h tt tt
did-far Tick now k w h fits may = goes-far (Ticked now) k w h tt tt
did-far Flush now k w h fits may = goes-far (Flushes now) k w h tt tt
did-far (Hear place source) now k w h fits may =
    let octets : List ℕ = octets_at k.near place in
    let one : Emitted = may.one in
    let f : WorldFits (make_of k.near) (make_of k.far) w = stands-fits k w h in
    let packet : IsPacket one.packet = packet-there k.near.endpoint.settings w.near one f.near_fits may.there in
    let come : Happening = Came now (address_of source) one.packet in
    subst (λ (s : KeptSite). GoesOn (record k { far = s }) w)
    (sym (heard-so octets k.far now (address_of source) one.packet (read-from-near k w octets h may)))
    (goes-far come k w h (arrives w.near octets may) (fit-of one.packet packet))

-- ---- the first world

site-first : (c : Settings) (tag_key cookie_key : List ℕ) → HasPorts c → SiteStands (first_kept c tag_key cookie_key) (new_site c)
site-first c tag_key cookie_key ports =
    record { state = refl; told = refl; given = refl; sent = All-nil (IsSentBy (new_site c)); ports = ports }

pub first-stands : (c d : Settings) (a b e f : List ℕ) → HasPorts c → HasPorts d →
    StandsFor (record { near = first_kept c a b; far = first_kept d e f }) (first_of (record { near = first_kept c a b; far = first_kept d e f }))
first-stands c d a b e f near far =
    record { list = []; steps = tt; last = refl; near = site-first c a b near; far = site-first d e f far }

-- ---- what users were told

pub told-delivers : (end : End) (k : KeptWorld) (told : List Told) → told ≡ (kept_at end k).log.told → (w : World) → StandsFor k w →
    Delivers (told_by [] told) (other_site end w).given
told-delivers Near k told e w h =
    let n : SiteStands k.near w.near = h.near in
    let d = delivers k w h in
    subst (λ (l : List Told). Delivers (told_by [] l) w.far.given) (sym (e ∙ n.told)) d.there
told-delivers Far k told e w h =
    let f : SiteStands k.far w.far = h.far in
    let d = delivers k w h in
    subst (λ (l : List Told). Delivers (told_by [] l) w.near.given) (sym (e ∙ f.told)) d.back

-- what is done at either end
pub did-at-near : (what : Doing) (now : ℕ) (k : KeptWorld) (near : KeptSite) → near ≡ kept_did what now k.far k.near → HasNumbers what →
    (w : World) → StandsFor k w → MayCome what k.far w.far → GoesOn (record k { near = near }) w
did-at-near what now k near e fits w h may = subst (λ (s : KeptSite). GoesOn (record k { near = s }) w) (sym e) (did-near what now k w h fits may)

pub did-at-far : (what : Doing) (now : ℕ) (k : KeptWorld) (far : KeptSite) → far ≡ kept_did what now k.near k.far → HasNumbers what →
    (w : World) → StandsFor k w → MayCome what k.near w.near → GoesOn (record k { far = far }) w
did-at-far what now k far e fits w h may = subst (λ (s : KeptSite). GoesOn (record k { far = s }) w) (sym e) (did-far what now k w h fits may)
