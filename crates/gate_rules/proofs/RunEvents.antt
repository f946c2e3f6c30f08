-- What becomes of the messages of the run where nothing holds their flow: as one is submitted, and as the changeover is
-- complete that held one.
use Rattle.exchange_rules.specs.Reroutings.{counted}
use Rattle.exchange_rules.specs.Routing.{facts}
use Rattle.std.proofs.Common.{◌≡◌, ℕ, Bool, true, false, List, [], ◌∷◌, ◌++◌, Option, Some, None, refl, ap, ◌∙◌, nat_eq}
use Rattle.std.specs.Prelude.{if◌then◌else◌}
use Rattle.signalling_types.specs.Message.{Message, flow_of}
use Rattle.signalling_types.specs.declared.outcome.Outcome.{Outcome}
use Rattle.settings.specs.Configuration.{Configuration}
use Rattle.m2pa_codec.specs.Frames.{FrameValue}
unfoldable use Rattle.exchange_rules.specs.Exchange.{apply}
use Rattle.exchange_rules.specs.Exchange.{after, frame_to_take, go_by, go_each, handle_event, outcome_of, settled, wants_of}
use Rattle.exchange_rules.specs.First.{Abstract}
use Rattle.exchange_rules.specs.Conserving.{brought_in, brought_to, taken_in}
use Rattle.exchange_rules.specs.Messages.{no_room_for, offer, whither_goes}
use Rattle.exchange_rules.specs.Queues.{WholeQueues, whole}
use Rattle.exchange_rules.specs.Routing.{link_of, waits}
use Rattle.exchange_rules.specs.State as exchange
use Rattle.exchange_rules.specs.State.{FrameCame, Submitted}
use Rattle.exchange_rules.specs.Telling.{tell_owed}
use Rattle.exchange_rules.specs.declared.wants.Wants.{Wants}
use Rattle.exchange_rules.specs.declared.wants.Wants.TheVariants.{Nothing}
use Rattle.sctp_codec.specs.Packets.{PacketValue}
use Rattle.sctp_receiving.specs.Pieces as pieces
use Rattle.sctp_rules.specs.Settings.{Address}
use Rattle.sctp_rules.specs.State as rules
use Rattle.sctp_rules.specs.State.{Told, Heard}
use Rattle.sctp_endpoint.specs.Dispatching.{heard_datagram}
use Rattle.sctp_endpoint.specs.Endpoints.{secrets_of}
use Rattle.sctp_gate.specs.Calling as calling
use Rattle.sctp_gate.specs.Calling.{called}
use Rattle.sctp_gate.specs.Gates as gates
use Rattle.sctp_gate.specs.Gates.{Did, Gate, aborted, behind, does, followed_by, handed, is_lasting, nothing, settled_by, with_state}
use Rattle.sctp_gate.specs.Handing.{after_told, is_frame, sights_of}
use Rattle.sctp_gate.specs.Standing.{stands_after}
use Rattle.sctp_gate.specs.Watching.{CameIn, Dropped, Sight}
use Rattle.node_rules.specs.Worlds.{Books, carried, happened, left_by}
use Rattle.pair_rules.specs.OneEndFirst.{near_settings}
use Rattle.gate_rules.specs.Calls.{books_kept, seen_all}
use Rattle.gate_rules.specs.FallAndReturn.{AtFar, AtNear, Done, after_all, after_one, doing_of}
use Rattle.gate_rules.specs.Worlds.{Brings, Calls, Doing, Happens, Leaves, Node, World, did, port_after, with_call}
use Rattle.gate_rules.proofs.SettingsStay.{called-stays}

-- ---- settings stay

left-stays : (link : ℕ) (o : Option FrameValue) (b : Books) → (left_by link o b).exchange.settings ≡ b.exchange.settings
left-stays link None b = refl
left-stays link (Some frame) b = refl

did-stays : (what : Doing) (n : Node) → (did what n).books.exchange.settings ≡ n.books.exchange.settings
did-stays (Happens what) n = refl
did-stays (Calls link call) n = called-stays whole call (n.ports link).gate n.books.exchange
did-stays (Brings what) n = refl
did-stays (Leaves link) n = left-stays link (frame_to_take whole n.books.exchange link) n.books

one-stays : (one : Done) (w : World) → (after_one one w).near.books.exchange.settings ≡ w.near.books.exchange.settings
one-stays (AtNear what) w = did-stays (doing_of w.far what) w.near
one-stays (AtFar what) w = refl

pub near-stays : (all : List Done) (w : World) → (after_all all w).near.books.exchange.settings ≡ w.near.books.exchange.settings
near-stays [] w = refl
near-stays (one ∷ more) w = near-stays more (after_one one w) ∙ one-stays one w

-- ---- a message is submitted at the near node

abbrev pub offered : Message → (waiting : Bool) → exchange.Node WholeQueues → exchange.Done WholeQueues
offered m waiting n =
    offer whole near_settings (no_room_for whole near_settings m n) waiting (link_of near_settings n.parts (flow_of m)) None m n

abbrev left_with : Configuration → exchange.Done WholeQueues → List Message → Books → Books
left_with c d ms b = record {
  exchange = record { settings = c; node = d.left; reroutings = counted c (facts c d.left.parts) b.exchange.reroutings };
  accepted = b.accepted ++ ms;
  received = b.received ++ [];
}

abbrev submitted_as : Message → Configuration → Books → Books
submitted_as m c b =
    left_with c (apply whole c (Submitted m) b.exchange.node) (brought_in (Submitted m) (record { settings = c; node = b.exchange.node; reroutings = b.exchange.reroutings })) b

abbrev queued_as : Message → exchange.Done WholeQueues → Books → Books
queued_as m d b = left_with near_settings d (taken_in d.outcome m) b

abbrev pub queued : Message → Books → Books
queued m b = queued_as m (settled whole near_settings (offered m false b.exchange.node)) b

-- it goes in, whatever the node is doing
pub record GoesIn (m : Message) : Type 0 where
  pub submits : (n : exchange.Node WholeQueues) → apply whole near_settings (Submitted m) n ≡ settled whole near_settings (offered m (waits near_settings n.parts.holds m) n)
  pub enters : (o : Outcome) (n : exchange.Node WholeQueues) → brought_to (whither_goes near_settings m) o near_settings m n ≡ taken_in o m

is-queued : (m : Message) → GoesIn m → (b : Books) → b.exchange.settings ≡ near_settings → waits near_settings b.exchange.node.parts.holds m ≡ false → happened (Submitted m) b ≡ queued m b
is-queued m on b e f =
    let d : exchange.Done WholeQueues = apply whole near_settings (Submitted m) b.exchange.node in
    ap (λ (c : Configuration). submitted_as m c b) e
    ∙ ap (λ (ms : List Message). left_with near_settings d ms b) (on.enters d.outcome b.exchange.node)
    ∙ ap (λ (k : exchange.Done WholeQueues). queued_as m k b) (on.submits b.exchange.node ∙ ap (λ (w : Bool). settled whole near_settings (offered m w b.exchange.node)) f)

abbrev pub with_near : World → Node → World
with_near w n = record w { near = n }

abbrev pub submitting : Message → World → World
submitting m w = with_near w (record w.near { books = queued m w.near.books })

pub is-submitted : (m : Message) → GoesIn m → (w : World) → w.near.books.exchange.settings ≡ near_settings → waits near_settings w.near.books.exchange.node.parts.holds m ≡ false
    → with_near w (did (Happens (Submitted m)) w.near) ≡ submitting m w
is-submitted m on w e f = ap (λ (b : Books). with_near w (record w.near { books = b })) (is-queued m on w.near.books e f)

-- ---- a gate hears a packet that brings one frame, and settles nothing before

abbrev pub done : (now : ℕ) → Option PacketValue → Address → Gate → rules.Done
done now packet source g = heard_datagram packet g.endpoint.settings (secrets_of g.endpoint) now source g.endpoint.state

abbrev pub heard_gate : (now : ℕ) → rules.Done → Gate → Gate
heard_gate now d g = record g { standing = stands_after now d.told g.standing; endpoint = with_state g.endpoint d.left }

-- this is seen, and the exchange is left so; then the gate settles
abbrev pub heard_as : (now : ℕ) → rules.Done → Gate → Abstract → List Sight → (left : Abstract) → Did WholeQueues
heard_as now d g a seen left =
    followed_by (behind (nothing g a) (record { sent = d.sent; seen = seen; gate = heard_gate now d g; exchange = left })) (λ h t. gates.settled whole now h t)

pub record HearsOne (now : ℕ) (d : rules.Done) (g : Gate) (a : Abstract) (m : pieces.Message) : Type 0 where
  pub wants : wants_of a g.link ≡ Nothing
  pub unsought : g.standing.is_seeking ≡ false
  pub lasts : is_lasting now g.endpoint ≡ true
  pub told : d.told ≡ Heard m ∷ []
  pub framed : is_frame m ≡ true

pub hears-one : (now : ℕ) (packet : Option PacketValue) (source : Address) (g : Gate) (a : Abstract) (m : pieces.Message) → HearsOne now (done now packet source g) g a m
    → called whole (calling.Hears now packet source) g a
    ≡ heard_as now (done now packet source g) g a (CameIn m.octets (outcome_of whole (FrameCame g.link m.octets) a) ∷ []) (after whole (FrameCame g.link m.octets) a)
hears-one now packet source g a m h =
    let d : rules.Done = done now packet source g in
    ap (λ (first : Did WholeQueues). followed_by (followed_by first (λ k t. does whole now (λ e. heard_datagram packet e.settings (secrets_of e) now source e.state) k t)) (λ k t. gates.settled whole now k t))
    (ap (λ (wish : Wants). settled_by whole now wish g a) h.wants ∙ ap (λ (b : Bool). if b then aborted whole now g a else nothing g a) h.unsought)
    ∙ ap (λ (b : Bool). followed_by (behind (nothing g a) (if b then handed whole now d g a else nothing g a)) (λ k t. gates.settled whole now k t)) h.lasts
    ∙ ap (λ (told : List Told). heard_as now d g a (sights_of whole g.link told a) (after_told whole g.link told a)) h.told
    ∙ ap (λ (b : Bool). heard_as now d g a
    ((if b then CameIn m.octets (outcome_of whole (FrameCame g.link m.octets) a) else Dropped m) ∷ [])
    (if b then after whole (FrameCame g.link m.octets) a else a)) h.framed

-- ---- by an order the changeover is complete, and the message goes on

abbrev pub its_end : (link : ℕ) (text : List ℕ) → exchange.Node WholeQueues → exchange.Done WholeQueues
its_end link text n = handle_event whole near_settings (FrameCame link text) n

abbrev state_of : Configuration → Abstract → exchange.Node WholeQueues → Abstract
state_of c a n = record { settings = c; node = n; reroutings = counted c (facts c n.parts) a.reroutings }

abbrev pub released : Message → (link : ℕ) (text : List ℕ) → (waiting : Bool) → Abstract → Abstract
released m link text waiting a =
    let d : exchange.Done WholeQueues = its_end link text a.node in
    state_of near_settings a (tell_owed whole near_settings (go_by whole near_settings waiting m (record d.left { queues = whole.without_held d.left.queues })))

as-applied : (c : Configuration) (link : ℕ) (text : List ℕ) (n : exchange.Node WholeQueues) → (apply whole c (FrameCame link text) n).left ≡ (settled whole c (handle_event whole c (FrameCame link text) n)).left
unfolding apply
as-applied c link text n = refl

one-held : (c : Configuration) (d : exchange.Done WholeQueues) (m : Message) → d.left.queues.held ≡ m ∷ []
    → (settled whole c d).left ≡ tell_owed whole c (go_by whole c (waits c d.left.parts.holds m) m (record d.left { queues = whole.without_held d.left.queues }))
one-held c d m e = ap (λ (ms : List Message). tell_owed whole c (go_each whole c ms (record d.left { queues = whole.without_held d.left.queues }))) e

pub is-released : (m : Message) (link : ℕ) (text : List ℕ) (a : Abstract) → a.settings ≡ near_settings → (its_end link text a.node).left.queues.held ≡ m ∷ []
    → waits near_settings (its_end link text a.node).left.parts.holds m ≡ false → after whole (FrameCame link text) a ≡ released m link text false a
is-released m link text a e held free =
    ap (λ (c : Configuration). state_of c a (apply whole c (FrameCame link text) a.node).left) e
    ∙ ap (state_of near_settings a) (as-applied near_settings link text a.node ∙ one-held near_settings (its_end link text a.node) m held)
    ∙ ap (λ (b : Bool). released m link text b a) free

-- ---- so it is at the near node

-- what a call leaves of a node, if it leaves its exchange so
abbrev pub node_left : (link now : ℕ) → Option PacketValue → Address → Node → (text : List ℕ) → (left : Abstract) → Node
node_left link now packet source n text left =
    let g : Gate = (n.ports link).gate in
    let a : Abstract = n.books.exchange in
    let d : rules.Done = done now packet source g in
    let whole_did : Did WholeQueues = heard_as now d g a (CameIn text (outcome_of whole (FrameCame g.link text) a) ∷ []) left in
    record {
      books = record (seen_all books_kept link (gates.settled whole now (heard_gate now d g) left).seen (record {
        exchange = left;
        accepted = n.books.accepted ++ brought_in (FrameCame link text) a;
        received = n.books.received ++ carried (FrameCame link text) a;
      })) { exchange = whole_did.exchange };
      ports = λ other. if nat_eq other link then port_after (calling.Hears now packet source) whole_did (n.ports link) else n.ports other;
    }

pub record Completes (link now : ℕ) (d : rules.Done) (n : Node) (m : Message) (text : List ℕ) (one : pieces.Message) : Type 0 where
  pub hears : HearsOne now d (n.ports link).gate n.books.exchange one
  pub text_is : one.octets ≡ text
  pub link_is : (n.ports link).gate.link ≡ link
  pub settings : n.books.exchange.settings ≡ near_settings
  pub held : (its_end link text n.books.exchange.node).left.queues.held ≡ m ∷ []
  pub free : waits near_settings (its_end link text n.books.exchange.node).left.parts.holds m ≡ false

pub completes : (link now : ℕ) (packet : Option PacketValue) (source : Address) (n : Node) (m : Message) (text : List ℕ) (one : pieces.Message)
    → Completes link now (done now packet source (n.ports link).gate) n m text one
    → did (Calls link (calling.Hears now packet source)) n ≡ node_left link now packet source n text (released m link text false n.books.exchange)
completes link now packet source n m text one h =
    let g : Gate = (n.ports link).gate in
    let a : Abstract = n.books.exchange in
    let d : rules.Done = done now packet source g in
    ap (λ (e : Did WholeQueues). with_call books_kept (calling.Hears now packet source) link e n)
    (hears-one now packet source g a one h.hears
    ∙ ap (λ (t : List ℕ). heard_as now d g a (CameIn t (outcome_of whole (FrameCame g.link t) a) ∷ []) (after whole (FrameCame g.link t) a)) h.text_is
    ∙ ap (λ (l : ℕ). heard_as now d g a (CameIn text (outcome_of whole (FrameCame g.link text) a) ∷ []) (after whole (FrameCame l text) a)) h.link_is)
    ∙ ap (node_left link now packet source n text) (is-released m link text a h.settings h.held h.free)
