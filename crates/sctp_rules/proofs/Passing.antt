-- One pass over all rules, for laws that hold of every list of happenings.
use Rattle.std.proofs.Common.{◌≡◌, ◌≤◌, ℕ, ◌+◌, ◌-◌, ◌*◌, arith, Bool, true, false, List, [], ◌∷◌, ◌++◌, Option, Some, None, refl, ap, sym, ◌∙◌, subst}
use Rattle.std.proofs.Common.{nat_eq, nat_lt, nat_le, length}
use Rattle.std.proofs.lemmas.Bool.Decides.{nat_tests}
use Rattle.std.proofs.lemmas.List.Elements.{All-nil, All-cons, All-append, All-push}
use Rattle.std.specs.Prelude.{◌&&◌, ◌||◌, not, if◌then◌else◌, All}
use Rattle.std.specs.Str.{bytes_eq}
use Rattle.std.specs.List.{list_any}
use Rattle.sctp_receiving.specs.Consuming as consuming
use Rattle.sctp_receiving.specs.declared.violation.Violation.TheVariants as violations
use Rattle.sctp_receiving.specs.Receiver.{received, drained}
use Rattle.sctp_receiving.specs.Receiver as receiving
use Rattle.sctp_codec.specs.Items.{ItemValue}
use Rattle.sctp_codec.specs.Packets as packets
use Rattle.sctp_codec.specs.Packets.{ChunkValue, InitValue, SackValue, DataValue, PacketValue}
use Rattle.sctp_codec.specs.Parameters.{CauseValue, InvalidParameter, EndedByUser, NoUserData, CookieInShutdown}
use Rattle.sctp_codec.specs.Parameters.{UnrecognizedChunk, cause_item, cookie_in, host_name_in, has_stale_cookie}
use Rattle.sctp_codec.specs.Parameters.{information_of, unrecognized_parameters, complained_of, listing}
use Rattle.sctp_sending.specs.Outgoing.{Message}
use Rattle.sctp_sending.specs.Sending.{confirmation, given, stopped}
use Rattle.sctp_sending.specs.RoundTrips.{backed_off}
use Rattle.sctp_rules.specs.declared.phase.Phase.{Phase}
use Rattle.sctp_rules.specs.declared.phase.Phase.TheVariants.{Closed, CookieWait, CookieEchoed, Established}
use Rattle.sctp_rules.specs.declared.phase.Phase.TheVariants.{ShutdownPending, ShutdownSent, ShutdownReceived}
use Rattle.sctp_rules.specs.declared.phase.Phase.TheVariants.{ShutdownAckSent}
use Rattle.sctp_rules.specs.declared.loss.Loss.{Loss}
use Rattle.sctp_rules.specs.declared.loss.Loss.TheVariants as losses
use Rattle.sctp_cookie.specs.declared.cookie.Cookie.{Cookie}
use Rattle.sctp_rules.specs.Settings.{Settings, Secrets, Beginning, Address}
use Rattle.sctp_rules.specs.State as state
use Rattle.sctp_rules.specs.State.{Association, State, Told, Up, Heard, Down, Failed, Done, Try, Beat, silent, followed_by}
use Rattle.sctp_rules.specs.State.{no_association, first_state, Datagram}
use Rattle.sctp_rules.specs.Ending as ending
use Rattle.sctp_rules.specs.Opening as opening
use Rattle.sctp_rules.specs.Confirming as confirming
use Rattle.sctp_rules.specs.Shutdown as shutdown
use Rattle.sctp_rules.specs.Data as data_rules
use Rattle.sctp_rules.specs.Packets as arriving
use Rattle.sctp_rules.specs.Timers as timers
use Rattle.sctp_rules.specs.Sending as sending
use Rattle.sctp_rules.proofs.Halves.{Half, half_of, AreSame, Same, same, same-on, IsAnswered, sack-answered, shutdown-answered, t3-same}
use Rattle.sctp_rules.specs.Endpoint.{Happening, Opens, Came, Ticked, Sends, Aborts, ShutsDown, Flushes, after}

-- ---- what a law may look at

-- while DATA counts the association is up, and before there is one none is; and a try is one that the user wants
pub record IsRight (phase : Phase) (is_up is_wanted : Bool) : Type 0 where
  pub up : data_rules.takes_data phase ≡ true → is_up ≡ true
  pub down : opening.is_there phase ≡ false → is_up ≡ false
  pub waiting : opening.is_waiting phase ≡ true → is_wanted ≡ true
  pub echoed : opening.is_echoed phase ≡ true → is_wanted ≡ true

-- chunks, and packets, without DATA
abbrev pub IsBare : ChunkValue → Type 0
IsBare (packets.DataChunk carried) = ⊥
IsBare chunk = Unit {0}

abbrev pub AreBare : List Datagram → Type 0
AreBare sent = All (λ d. All IsBare d.packet.chunks) sent

abbrev pub IsBareTry : Option Try → Type 0
IsBareTry None = Unit {0}
IsBareTry (Some t) = All IsBare t.chunks

-- what is seen of a state
pub record Seen : Type 0 where
  pub is_wanted : Bool
  pub generation : ℕ
  pub phase : Phase
  pub is_up : Bool
  pub own_tag : ℕ
  pub far_tag : ℕ
  pub own_first : ℕ
  pub peer : state.Peer
  pub receiver : receiving.Receiver

abbrev pub seen : State → Seen
seen s = record {
  is_wanted = s.is_wanted;
  generation = s.generation;
  phase = s.association.phase;
  is_up = s.association.is_up;
  own_tag = s.association.own_tag;
  far_tag = s.association.far_tag;
  own_first = s.association.own_first;
  peer = s.association.peer;
  receiver = s.association.receiver;
}

-- answers that wait, and what a try sends, have no DATA
pub record AreRight (phase : Phase) (is_up is_wanted : Bool) (waiting : List ChunkValue) (try : Option Try) : Type 0 where
  pub right : IsRight phase is_up is_wanted
  pub control : All IsBare waiting
  pub trying : IsBareTry try

abbrev pub Right : State → Type 0
Right s = AreRight s.association.phase s.association.is_up s.is_wanted s.association.control s.association.trying

-- what a law may look at stays, but for messages
pub record AreAlike (x y : Seen) : Type 0 where
  pub wanted : x.is_wanted ≡ y.is_wanted
  pub generation : x.generation ≡ y.generation
  pub up : x.is_up ≡ y.is_up
  pub own_tag : x.own_tag ≡ y.own_tag
  pub far_tag : x.far_tag ≡ y.far_tag
  pub own_first : x.own_first ≡ y.own_first
  pub peer : x.peer ≡ y.peer
  pub receiver : x.receiver ≡ y.receiver
  pub takes : data_rules.takes_data y.phase ≡ true → data_rules.takes_data x.phase ≡ true
  pub there : opening.is_there y.phase ≡ true → opening.is_there x.phase ≡ true

abbrev pub Alike : State → State → Type 0
Alike s left = AreAlike (seen s) (seen left)

-- messages do, too
pub record AreFollowing (x y : Seen) (h i : Half) (waiting : List ChunkValue) (try : Option Try) : Type 0 where
  pub same : AreAlike x y
  pub half : AreSame h i
  pub right : AreRight y.phase y.is_up y.is_wanted waiting try

abbrev pub Follows : State → State → Type 0
Follows s left =
    AreFollowing (seen s) (seen left) (half_of s.association.sender) (half_of left.association.sender) left.association.control
    left.association.trying

-- there is no association yet, and the user wants one
pub record IsTry (s left : State) : Type 0 where
  pub was_wanted : s.is_wanted ≡ true
  pub generation : s.generation ≤ left.generation
  pub was_down : s.association.is_up ≡ false
  pub is_down : left.association.is_up ≡ false
  pub takes_none : data_rules.takes_data left.association.phase ≡ false
  pub is_none : opening.is_there left.association.phase ≡ false

-- the peer shuts the association down: what didn't go out is dropped
pub record IsShut (s left : State) : Type 0 where
  pub not_wanted : left.is_wanted ≡ false
  pub generation : s.generation ≡ left.generation
  pub is_down : left.association.is_up ≡ false
  pub takes_none : data_rules.takes_data left.association.phase ≡ false
  pub own_tag : s.association.own_tag ≡ left.association.own_tag
  pub far_tag : s.association.far_tag ≡ left.association.far_tag
  pub own_first : s.association.own_first ≡ left.association.own_first
  pub was_there : opening.is_there s.association.phase ≡ true
  pub half : Same (stopped s.association.sender) left.association.sender

-- what may come: DATA, cumulative TSNs of SACK and SHUTDOWN, and tags; messages of the user; and whether packets are
-- asked for, and an association
pub record Arrivals : Type 1 where
  pub carried : DataValue → Type 0
  pub cumulative : ℕ → Type 0
  pub tag : ℕ → Type 0
  pub message : Message → Type 0
  pub flush : Type 0
  pub wish : Type 0

-- what rules are made of, and what a relation between a state and what a rule does then has to hold of
pub record AreSteps (A : Arrivals) (R : State → Done → Type 0) : Type 0 where
  pub alike :
      (s left : State) (sent : List Datagram) → Follows s left → AreBare sent →
      R s (record { sent = sent; told = []; left = left })
  pub ended :
      (c : Settings) (why : Loss) (chunks : List ChunkValue) (s : State) → AreBare (ending.ended_with c why chunks s).sent →
      R s (ending.ended_with c why chunks s)
  pub tries :
      (s left : State) (sent : List Datagram) → IsTry s left → AreBare sent →
      R s (record { sent = sent; told = []; left = left })
  pub opens :
      (c : Settings) (now own_tag far_tag own_first : ℕ) (peer : state.Peer) (address : Address) (s : State) →
      A.tag own_tag → s.association.is_up ≡ false → s.is_wanted ≡ true → R s (opening.opened c now own_tag far_tag own_first peer address s)
  pub shuts :
      (s left : State) → IsShut s left →
      R s (record { sent = []; told = if s.association.is_up then Down losses.Shutdown ∷ [] else []; left = left })
  pub takes :
      (c : Settings) (d : DataValue) (s : State) → A.carried d → A.tag s.association.own_tag → Right s → s.association.is_up ≡ true →
      data_rules.takes_data s.association.phase ≡ true →
      R s (data_rules.after_data c (received s.association.receiver d.tsn (data_rules.piece_of d)) s)
  pub confirms :
      (s left : State) (cumulative : ℕ) → A.cumulative cumulative → A.tag s.association.own_tag → Alike s left →
      IsAnswered (confirmation s.association.sender cumulative) s.association.sender left.association.sender → R s (silent left)
  pub wants : (s : State) → A.wish → R s (silent (record s { is_wanted = true }))
  pub gives : (m : Message) (s left : State) → A.message m → Alike s left → R s (silent left)
  pub reports : (s : State) → R s (silent (state.with_association s (data_rules.sacked s.association)))
  pub puts :
      (s left : State) (sent : List Datagram) → A.flush → Alike s left → R s (record { sent = sent; told = []; left = left })
  pub also : (s : State) (d : Done) (rule : State → Done) → R s d → R d.left (rule d.left) → R s (followed_by d rule)

pub record Passes (R : State → Done → Type 0) (s : State) (d : Done) : Type 0 where
  pub kept : R s d
  pub left : Right d.left

-- none is up
pub off : IsRight Closed false false
off = record { up = λ e. absurd (cc); down = λ e. refl; waiting = λ e. absurd (cc); echoed = λ e. absurd (cc) }

none-bare : All IsBare []
none-bare = All-nil IsBare

pub one-bare : (chunk : ChunkValue) → IsBare chunk → All IsBare (chunk ∷ [])
one-bare chunk b = All-cons IsBare chunk [] b none-bare

pub none-sent : AreBare []
none-sent = All-nil (λ (d : Datagram). All IsBare d.packet.chunks)

one-sent : (d : Datagram) → All IsBare d.packet.chunks → AreBare (d ∷ [])
one-sent d b = All-cons (λ (x : Datagram). All IsBare x.packet.chunks) d [] b none-sent

-- of an end without an association
pub none-right : AreRight Closed false false [] None
none-right = record { right = off; control = none-bare; trying = tt }

pub itself : (s : State) → Alike s s
itself s = record {
  wanted = refl;
  generation = refl;
  up = refl;
  own_tag = refl;
  far_tag = refl;
  own_first = refl;
  peer = refl;
  receiver = refl;
  takes = λ e. e;
  there = λ e. e;
}

-- nothing that is seen changes
pub unmoved : (s : State) → Right s → Follows s s
unmoved s r = record { same = itself s; half = same s.association.sender; right = r }

-- ---- the states before there is an association

pub closed-down : (phase : Phase) → opening.is_closed phase ≡ true → opening.is_there phase ≡ false
closed-down Closed e = refl
closed-down CookieWait e = refl
closed-down CookieEchoed e = refl
closed-down Established e = absurd (cc)
closed-down ShutdownPending e = absurd (cc)
closed-down ShutdownSent e = absurd (cc)
closed-down ShutdownReceived e = absurd (cc)
closed-down ShutdownAckSent e = absurd (cc)

echoed-down : (phase : Phase) → opening.is_echoed phase ≡ true → opening.is_there phase ≡ false
echoed-down Closed e = refl
echoed-down CookieWait e = refl
echoed-down CookieEchoed e = refl
echoed-down Established e = absurd (cc)
echoed-down ShutdownPending e = absurd (cc)
echoed-down ShutdownSent e = absurd (cc)
echoed-down ShutdownReceived e = absurd (cc)
echoed-down ShutdownAckSent e = absurd (cc)

waiting-down : (phase : Phase) → opening.is_waiting phase ≡ true → opening.is_there phase ≡ false
waiting-down Closed e = refl
waiting-down CookieWait e = refl
waiting-down CookieEchoed e = refl
waiting-down Established e = absurd (cc)
waiting-down ShutdownPending e = absurd (cc)
waiting-down ShutdownSent e = absurd (cc)
waiting-down ShutdownReceived e = absurd (cc)
waiting-down ShutdownAckSent e = absurd (cc)

waiting : IsRight CookieWait false true
waiting = record { up = λ e. absurd (cc); down = λ e. refl; waiting = λ e. refl; echoed = λ e. refl }

echoing : (is_up is_wanted : Bool) → is_up ≡ false → is_wanted ≡ true → IsRight CookieEchoed is_up is_wanted
echoing is_up is_wanted d w = record { up = λ e. absurd (cc); down = λ e. d; waiting = λ e. w; echoed = λ e. w }

-- from ESTABLISHED on
there : (phase : Phase) (is_up is_wanted : Bool) → opening.is_there phase ≡ true → (data_rules.takes_data phase ≡ true → is_up ≡ true) →
    IsRight phase is_up is_wanted
there phase is_up is_wanted e h = record {
  up = h;
  down = λ g. absurd (cc);
  waiting = λ g. absurd (let d = waiting-down phase g in cc);
  echoed = λ g. absurd (let d = echoed-down phase g in cc);
}

pub same-number : (m n : ℕ) → nat_eq m n ≡ true → m ≡ n
same-number m n e = grind (arith, nat_tests, e)

pub second-true : (x y : Bool) → (x && y) ≡ true → y ≡ true
second-true true y e = e
second-true false y e = absurd (cc)

pub both-true : (x y : Bool) → (x && y) ≡ true → x ≡ true
both-true true y e = refl
both-true false y e = absurd (cc)

-- ---- answers

choice : (b : Bool) (s : State) (a : Association) (control : List ChunkValue) → All IsBare control → Follows s (state.with_association s a) →
    Follows s (state.with_association s (if b then record a { control = control } else a))
choice true s a control bare f =
    let r = f.right in
    record { same = f.same; half = f.half; right = record { right = r.right; control = bare; trying = r.trying } }
choice false s a control bare f = f

alike-choice : (b : Bool) (s : State) (control : List ChunkValue) →
    Alike s (state.with_association s (if b then record s.association { control = control } else s.association))
alike-choice true s control = itself s
alike-choice false s control = itself s

with-answer : (chunk : ChunkValue) (s : State) (a : Association) → IsBare chunk → Follows s (state.with_association s a) →
    Follows s (state.with_association s (ending.with_answer chunk a))
with-answer chunk s a bare f =
    let r = f.right in
    choice (ending.has_place a.control chunk) s a (a.control ++ chunk ∷ []) (All-push IsBare a.control chunk r.control bare) f

pub answer-follows : (chunk : ChunkValue) (s : State) → IsBare chunk → Right s → Follows s (ending.answered chunk s)
answer-follows chunk s bare r = with-answer chunk s s.association bare (unmoved s r)

pub answer-alike : (chunk : ChunkValue) (s : State) → Alike s (ending.answered chunk s)
answer-alike chunk s = alike-choice (ending.has_place s.association.control chunk) s (s.association.control ++ chunk ∷ [])

same-both : (x y z : Seen) → AreAlike x y → AreAlike y z → AreAlike x z
same-both x y z f g = record {
  wanted = f.wanted ∙ g.wanted;
  generation = f.generation ∙ g.generation;
  up = f.up ∙ g.up;
  own_tag = f.own_tag ∙ g.own_tag;
  far_tag = f.far_tag ∙ g.far_tag;
  own_first = f.own_first ∙ g.own_first;
  peer = f.peer ∙ g.peer;
  receiver = f.receiver ∙ g.receiver;
  takes = λ e. f.takes (g.takes e);
  there = λ e. f.there (g.there e);
}

-- one change after another
behind : (s middle left : State) → Follows s middle → Follows middle left → Follows s left
behind s middle left f g = record {
  same = same-both (seen s) (seen middle) (seen left) f.same g.same;
  half = same-on s.association.sender middle.association.sender left.association.sender f.half g.half;
  right = g.right;
}

follows-either : (b : Bool) (s x y : State) → Follows s x → Follows s y → Follows s (if b then x else y)
follows-either true s x y f g = f
follows-either false s x y f g = g

-- ---- shutting down

pending-up : (up wanted : Bool) → IsRight ShutdownPending up wanted → IsRight ShutdownSent up wanted
pending-up up wanted r = there ShutdownSent up wanted refl (λ e. r.up refl)

settled : (up wanted : Bool) → IsRight ShutdownAckSent up wanted
settled up wanted = there ShutdownAckSent up wanted refl (λ e. absurd (cc))

received-right : (wanted : Bool) → IsRight ShutdownReceived false wanted
received-right wanted = there ShutdownReceived false wanted refl (λ e. absurd (cc))

not-wanted : (up wanted : Bool) → up ≡ true → (if up then false else wanted) ≡ false
not-wanted true wanted e = refl
not-wanted false wanted e = absurd (cc)

not-taken : (b : Bool) → (b ≡ true → false ≡ true) → b ≡ false
not-taken true h = let e : false ≡ true = h refl in absurd (cc)
not-taken false h = refl

takes-none : (s left : State) → Alike s left → data_rules.takes_data s.association.phase ≡ false →
    data_rules.takes_data left.association.phase ≡ false
takes-none s left l e = not-taken (data_rules.takes_data left.association.phase) (λ g. sym e ∙ l.takes g)

-- a phase from which the rest of it goes on
in-phase : (s : State) (a : Association) (phase : Phase) → s.association.phase ≡ phase → opening.is_there phase ≡ true →
    (data_rules.takes_data a.phase ≡ true → data_rules.takes_data phase ≡ true) → Alike s (state.with_association s (record a { phase = s.association.phase })) →
    Alike s (state.with_association s a)
in-phase s a phase e there takes l = record {
  wanted = l.wanted;
  generation = l.generation;
  up = l.up;
  own_tag = l.own_tag;
  far_tag = l.far_tag;
  own_first = l.own_first;
  peer = l.peer;
  receiver = l.receiver;
  takes = λ g. ap data_rules.takes_data e ∙ takes g;
  there = λ g. ap opening.is_there e ∙ there;
}

going-on-in : (phase : Phase) (c : Settings) (now : ℕ) (s : State) → s.association.phase ≡ phase → Right s →
    Follows s (shutdown.going_on_in phase c now s)
going-on-in ShutdownPending c now s e r =
    let a : Association = s.association in
    let right : IsRight ShutdownPending a.is_up s.is_wanted = subst (λ (phase : Phase). IsRight phase a.is_up s.is_wanted) e r.right in
    let sent : Association =
    record a { t5 = Some (now + 5 * c.bounds.most); phase = ShutdownSent; t2 = Some (now + a.sender.round_trips.timeout) } in
    with-answer (shutdown.shutdown_of a) s sent tt (record {
      same = in-phase s sent ShutdownPending e refl (λ g. refl) (itself s);
      half = same a.sender;
      right = record { right = pending-up a.is_up s.is_wanted right; control = r.control; trying = r.trying };
    })
going-on-in ShutdownReceived c now s e r =
    let a : Association = s.association in
    let sent : Association = record a { phase = ShutdownAckSent; t2 = Some (now + a.sender.round_trips.timeout) } in
    with-answer packets.ShutdownAckChunk s sent tt (record {
      same = in-phase s sent ShutdownReceived e refl (λ g. absurd (cc)) (itself s);
      half = same a.sender;
      right = record { right = settled a.is_up s.is_wanted; control = r.control; trying = r.trying };
    })
going-on-in Closed c now s e r = unmoved s r
going-on-in CookieWait c now s e r = unmoved s r
going-on-in CookieEchoed c now s e r = unmoved s r
going-on-in Established c now s e r = unmoved s r
going-on-in ShutdownSent c now s e r = unmoved s r
going-on-in ShutdownAckSent c now s e r = unmoved s r

going-on : (c : Settings) (now : ℕ) (s : State) → Right s → Follows s (shutdown.going_on c now s)
going-on c now s r =
    follows-either (nat_eq (length s.association.sender.out) 0) s (shutdown.going_on_in s.association.phase c now s) s
    (going-on-in s.association.phase c now s refl r) (unmoved s r)

-- ---- what comes

abbrev pub HasCome : Arrivals → ChunkValue → Type 0
HasCome A (packets.DataChunk carried) = A.carried carried
HasCome A (packets.SackChunk sack) = A.cumulative sack.cumulative
HasCome A (packets.ShutdownChunk cumulative) = A.cumulative cumulative
HasCome A chunk = Unit {0}

abbrev pub HaveCome : Arrivals → List ChunkValue → Type 0
HaveCome A [] = Unit {0}
HaveCome A (chunk ∷ chunks) = HasCome A chunk × HaveCome A chunks

-- what comes, and the tag that it comes with; what the user gives; and that packets are asked for, or an association
abbrev pub Comes : Arrivals → Happening → Type 0
Comes A (Came now source packet) = HaveCome A packet.chunks × A.tag packet.tag
Comes A (Sends message) = A.message message
Comes A (Flushes now) = A.flush
Comes A (Opens now is_active) = A.wish
Comes A what = Unit {0}

pub told-right : (c : Settings) (tolds : List consuming.Told) (s : State) → Right s → Right (data_rules.told_each c tolds s).left
told-right c [] s r = r
told-right c (consuming.Nothing ∷ more) s r = told-right c more s r
told-right c (consuming.Tells message ∷ more) s r = told-right c more s r
told-right c (consuming.NoStream stream ∷ more) s r =
    told-right c more (ending.answered (data_rules.no_stream stream) s) (let f = answer-follows (data_rules.no_stream stream) s tt r in f.right)
told-right c (consuming.Violates (violations.FragmentOfNoStream stream) ∷ more) s r =
    told-right c more (data_rules.violated c (violations.FragmentOfNoStream stream) s).left none-right
told-right c (consuming.Violates violations.Misplaced ∷ more) s r =
    told-right c more (data_rules.violated c violations.Misplaced s).left none-right
told-right c (consuming.Violates violations.Differs ∷ more) s r =
    told-right c more (data_rules.violated c violations.Differs s).left none-right
told-right c (consuming.Violates violations.TooLong ∷ more) s r =
    told-right c more (data_rules.violated c violations.TooLong s).left none-right

from-source : (b : Bool) (s : State) (source : Address) → Right s →
    Follows s (if b then s else state.with_association s (record s.association { address = source }))
from-source true s source r = unmoved s r
from-source false s source r = unmoved s r

-- ---- heartbeats, and DATA that goes out

beating : (k : Secrets) (now : ℕ) (s : State) → Right s → Follows s (timers.beating k now s)
beating k now s r =
    let counted : State = record s {
      nonces = s.nonces + 1;
      association = record s.association {
        beat = Some (record { nonce = k.nonce s.nonces; sent = now });
        beat_due = Some (now + s.association.sender.round_trips.timeout);
      };
    } in
    let f : Follows s counted = unmoved s r in
    behind s counted (timers.beating k now s) f (answer-follows (packets.HeartbeatChunk (information_of (k.nonce s.nonces))) counted tt f.right)

-- all that is due goes out
data-goes : (b : Bool) (now : ℕ) (s : State) → Right s →
    let left : State = state.with_association s (record (if b then record s.association { sender = (confirming.all_gone now s.association.sender).left } else s.association) { control = [] }) in
    Alike s left × Right left
data-goes true now s r = (itself s, record { right = r.right; control = none-bare; trying = r.trying })
data-goes false now s r = (itself s, record { right = r.right; control = none-bare; trying = r.trying })

pub last-bare : (c : Settings) (a : Association) (chunks : List ChunkValue) → All IsBare chunks → AreBare (ending.last_words c a chunks)
last-bare c a [] h = none-sent
last-bare c a (chunk ∷ chunks) h = if-there (ending.has_peer a.phase) where
  if-there : (b : Bool) → AreBare (if b then state.datagram_to c a.address a.far_tag (chunk ∷ chunks) ∷ [] else [])
  if-there true = one-sent (state.datagram_to c a.address a.far_tag (chunk ∷ chunks)) h
  if-there false = none-sent

reports-bare : (b : Bool) (items : List ItemValue) → All IsBare (if b then opening.reports_of items else [])
reports-bare false items = none-bare
reports-bare true [] = none-bare
reports-bare true (item ∷ items) = one-bare (packets.ErrorChunk (unrecognized_parameters (item ∷ items) ∷ [])) tt

echo-bare : (cookie : List ℕ) (items : List ItemValue) → All IsBare (opening.echo_of cookie items)
echo-bare cookie items =
    let short : Bool = nat_le (length cookie) 660 in
    All-cons IsBare (packets.CookieEchoChunk cookie) (if short then opening.reports_of items else []) tt (reports-bare short items)

answer-bare : (first : ChunkValue) → IsBare (arriving.answer_to first)
answer-bare packets.ShutdownAckChunk = tt
answer-bare (packets.DataChunk carried) = tt
answer-bare (packets.InitChunk init) = tt
answer-bare (packets.InitAckChunk init) = tt
answer-bare (packets.SackChunk sack) = tt
answer-bare (packets.HeartbeatChunk information) = tt
answer-bare (packets.HeartbeatAckChunk information) = tt
answer-bare (packets.AbortChunk is_reflected causes) = tt
answer-bare (packets.ShutdownChunk cumulative) = tt
answer-bare (packets.ErrorChunk causes) = tt
answer-bare (packets.CookieEchoChunk cookie) = tt
answer-bare packets.CookieAckChunk = tt
answer-bare (packets.ShutdownCompleteChunk is_reflected) = tt
answer-bare (packets.UnknownChunk kind flags value) = tt
answer-bare (packets.MalformedChunk kind) = tt

again-bare : (phase : Phase) (a : Association) → IsBare (timers.shutdown_again phase a)
again-bare ShutdownSent a = tt
again-bare Closed a = tt
again-bare CookieWait a = tt
again-bare CookieEchoed a = tt
again-bare Established a = tt
again-bare ShutdownPending a = tt
again-bare ShutdownReceived a = tt
again-bare ShutdownAckSent a = tt

-- ---- the pass

module _ {A : Arrivals} {R : State → Done → Type 0} (steps : AreSteps A R) where
  -- a rule, and then another
  next-there : (s : State) (d : Done) (rule : State → Done) → Passes R s d → Passes R d.left (rule d.left) → Passes R s (followed_by d rule)
  next-there s d rule t u = record { kept = steps.also s d rule t.kept u.kept; left = u.left }

  next : (s : State) (d : Done) (rule : State → Done) → Passes R s d → ((left : State) → Right left → Passes R left (rule left)) →
      Passes R s (followed_by d rule)
  next s d rule t h = next-there s d rule t (h d.left t.left)

  -- a test
  either : (b : Bool) (s : State) (d e : Done) → Passes R s d → Passes R s e → Passes R s (if b then d else e)
  either true s d e t u = t
  either false s d e t u = u

  either-so : (b : Bool) (s : State) (d e : Done) → (b ≡ true → Passes R s d) → (b ≡ false → Passes R s e) →
      Passes R s (if b then d else e)
  either-so true s d e t u = t refl
  either-so false s d e t u = u refl

  -- nothing that a law may look at changes
  plainly : (s left : State) (sent : List Datagram) → Follows s left → AreBare sent →
      Passes R s (record { sent = sent; told = []; left = left })
  plainly s left sent f bare = record { kept = steps.alike s left sent f bare; left = f.right }

  stays : (s : State) → Right s → Passes R s (silent s)
  stays s r = plainly s s [] (unmoved s r) none-sent

  then-silent : (s left : State) → Follows s left → Passes R s (silent left)
  then-silent s left f = plainly s left [] f none-sent

  -- a rule at a state that is as this one
  moved : (s left : State) (d : Done) → Follows s left → Passes R left d → Passes R s d
  moved s left d f t = record { kept = steps.also s (silent left) (λ x. d) (steps.alike s left [] f none-sent) t.kept; left = t.left }

  ended : (c : Settings) (why : Loss) (chunks : List ChunkValue) (s : State) → All IsBare chunks → Right s →
      Passes R s (ending.ended_with c why chunks s)
  ended c why chunks s bare r = record {
    kept = steps.ended c why chunks s
        (last-bare c s.association (s.association.control ++ chunks) (All-append IsBare s.association.control chunks r.control bare));
    left = none-right;
  }

  ended-alone : (c : Settings) (why : Loss) (chunks : List ChunkValue) (s : State) → All IsBare chunks → Right s →
      Passes R s (ending.ended_alone c why chunks s)
  ended-alone c why chunks s bare r =
      let left : State = ending.without_answers s in
      let q : Right left = record { right = r.right; control = none-bare; trying = r.trying } in
      moved s left (ending.ended_alone c why chunks s) (record { same = itself s; half = same s.association.sender; right = q })
      (ended c why chunks left bare q)

  -- ---- opening

  begun : (c : Settings) (now failures : ℕ) (address : Address) (b : Option Beginning) (s : State) →
      s.association.is_up ≡ false → A.wish → Right s → Passes R s (opening.begun_with c now failures address b s)
  begun c now failures address None s d h r = ended c losses.NoTag [] s none-bare r
  begun c now failures address (Some b) s d h r =
      let wishing : State = record s { is_wanted = true } in
      let x : Done = opening.begun_with c now failures address (Some b) s in
      let init : All IsBare (packets.InitChunk (opening.init_of b (listing c.addresses)) ∷ []) = one-bare (packets.InitChunk (opening.init_of b (listing c.addresses))) tt in
      record {
        kept = steps.also s (silent wishing) (λ left. x) (steps.wants s h)
            (steps.tries wishing x.left x.sent
            (record { was_wanted = refl; generation = omega arith; was_down = d; is_down = refl; takes_none = refl; is_none = refl })
            (one-sent (state.datagram_to c address 0 (packets.InitChunk (opening.init_of b (listing c.addresses)) ∷ [])) init));
        left = record { right = waiting; control = none-bare; trying = init };
      }

  begun-anew-with : (b : Option Beginning) (c : Settings) (now failures : ℕ) (address : Address) (s : State) →
      s.association.is_up ≡ false → s.is_wanted ≡ true → Right s → Passes R s (opening.begun_anew_with c now failures address b s)
  begun-anew-with None c now failures address s d w r = ended c losses.NoTag [] s none-bare r
  begun-anew-with (Some b) c now failures address s d w r =
      let x : Done = opening.begun_anew_with c now failures address (Some b) s in
      let init : All IsBare (packets.InitChunk (opening.init_of b (listing c.addresses)) ∷ []) = one-bare (packets.InitChunk (opening.init_of b (listing c.addresses))) tt in
      record {
        kept = steps.tries s x.left x.sent
            (record { was_wanted = w; generation = omega arith; was_down = d; is_down = refl; takes_none = refl; is_none = refl })
            (one-sent (state.datagram_to c address 0 (packets.InitChunk (opening.init_of b (listing c.addresses)) ∷ [])) init);
        left = record { right = waiting; control = none-bare; trying = init };
      }

  begun-anew : (c : Settings) (k : Secrets) (now failures : ℕ) (address : Address) (s : State) →
      s.association.is_up ≡ false → s.is_wanted ≡ true → Right s → Passes R s (opening.begun_anew c k now failures address s)
  begun-anew c k now failures address s d w r = begun-anew-with (k.beginning s.beginnings) c now failures address s d w r

  wanting : (s : State) → A.wish → Right s → Passes R s (silent (record s { is_wanted = true }))
  wanting s h r =
      let q = r.right in
      let right : IsRight s.association.phase s.association.is_up true = record { up = q.up; down = q.down; waiting = λ e. refl; echoed = λ e. refl } in
      record { kept = steps.wants s h; left = record { right = right; control = r.control; trying = r.trying } }

  opened-by-user : (c : Settings) (k : Secrets) (now : ℕ) (is_active : Bool) (s : State) → A.wish → Right s →
      Passes R s (opening.opening c k now is_active s)
  opened-by-user c k now is_active s h r =
      let try : Done = opening.begun c k now 0 c.address s in
      let wait : Done = silent (record s { is_wanted = true }) in
      either-so (opening.may_open is_active s) s (if is_active then try else wait) (silent s)
      (λ e.
      let closed : opening.is_closed s.association.phase ≡ true = both-true (opening.is_closed s.association.phase) (is_active || not s.is_wanted) e in
      either is_active s try wait
      (begun c now 0 c.address (k.beginning s.beginnings) s (r.right.down (closed-down s.association.phase closed)) h r)
      (wanting s h r))
      (λ e. stays s r)

  tried : (c : Settings) (now : ℕ) (t : Try) (s : State) → All IsBare t.chunks → Right s → Passes R s (opening.tried_again c now t s)
  tried c now t s bare r =
      let waited : State = state.with_association s (record s.association {
        sender = record s.association.sender { round_trips = backed_off s.association.sender.round_trips };
      }) in
      let again : Done = opening.trying_with c now (t.failures + 1) t.chunks waited in
      let q : Right again.left = record { right = r.right; control = r.control; trying = bare } in
      either (nat_lt c.init_retransmissions (t.failures + 1)) s (ending.ended c losses.NoAnswer s) again
      (ended c losses.NoAnswer [] s none-bare r)
      (plainly s again.left again.sent (record { same = itself s; half = same s.association.sender; right = q })
      (one-sent (state.datagram_to c s.association.address (opening.tag_of_try waited.association) t.chunks) bare))

  -- one chunk goes out at once
  putting : (c : Settings) (to : Address) (tag : ℕ) (chunk : ChunkValue) (s left : State) → IsBare chunk → Follows s left →
      Passes R s (state.put c to tag (chunk ∷ []) left)
  putting c to tag chunk s left bare f =
      plainly s left (state.put c to tag (chunk ∷ []) left).sent f (one-sent (state.datagram_to c to tag (chunk ∷ [])) (one-bare chunk bare))

  answered-with : (c : Settings) (k : Secrets) (now : ℕ) (source : Address) (init : InitValue) (b : Beginning) (s : State) →
      Right s → Passes R s (opening.answered_with c k now source init b s)
  answered-with c k now source init b s r = putting c source init.tag _ s s tt (unmoved s r)

  answered-anew : (c : Settings) (k : Secrets) (now : ℕ) (source : Address) (init : InitValue) (b : Option Beginning) (s : State) →
      Right s → Passes R s (opening.answered_anew_with c k now source init b s)
  answered-anew c k now source init None s r = stays s r
  answered-anew c k now source init (Some b) s r = answered-with c k now source init b s r

  answered-echoed : (c : Settings) (k : Secrets) (now : ℕ) (source : Address) (init : InitValue) (s : State) → Right s →
      Passes R s (opening.answered_echoed c k now source init s)
  answered-echoed c k now source init s r =
      either (nat_eq init.tag s.association.far_tag) s (opening.answered_alike c k now source init s)
      (opening.answered_anew c k now source init s)
      (answered-with c k now source init (opening.own_beginning s.association) s r)
      (answered-anew c k now source init (k.beginning s.beginnings) s r)

  init-in : (phase : Phase) (c : Settings) (k : Secrets) (now : ℕ) (source : Address) (init : InitValue) (s : State) →
      s.association.phase ≡ phase → Right s → Passes R s (opening.init_in phase c k now source init s)
  init-in Closed c k now source init s e r =
      either s.is_wanted s (opening.answered_anew c k now source init s) (silent s)
      (answered-anew c k now source init (k.beginning s.beginnings) s r) (stays s r)
  init-in CookieWait c k now source init s e r = answered-with c k now source init (opening.own_beginning s.association) s r
  init-in CookieEchoed c k now source init s e r = answered-echoed c k now source init s r
  init-in Established c k now source init s e r = answered-anew c k now source init (k.beginning s.beginnings) s r
  init-in ShutdownPending c k now source init s e r = answered-anew c k now source init (k.beginning s.beginnings) s r
  init-in ShutdownSent c k now source init s e r = answered-anew c k now source init (k.beginning s.beginnings) s r
  init-in ShutdownReceived c k now source init s e r = answered-anew c k now source init (k.beginning s.beginnings) s r
  init-in ShutdownAckSent c k now source init s e r =
      putting c s.association.address s.association.far_tag packets.ShutdownAckChunk s s tt (unmoved s r)

  judged-init : (name : Option (List ℕ)) (c : Settings) (k : Secrets) (now : ℕ) (source : Address) (init : InitValue) (s : State) →
      Right s → Passes R s (opening.judged_init name c k now source init s)
  judged-init (Some name) c k now source init s r =
      putting c source init.tag (ending.abort_for (opening.no_address name)) s s tt (unmoved s r)
  judged-init None c k now source init s r =
      let invalid : Done = state.put c source init.tag (ending.abort_for InvalidParameter ∷ []) s in
      let taken : Done = opening.init_in s.association.phase c k now source init s in
      either (opening.has_few_streams init) s invalid taken
      (putting c source init.tag (ending.abort_for InvalidParameter) s s tt (unmoved s r))
      (init-in s.association.phase c k now source init s refl r)

  heard-init : (c : Settings) (k : Secrets) (now : ℕ) (source : Address) (init : InitValue) (s : State) → Right s →
      Passes R s (opening.heard_init c k now source init s)
  heard-init c k now source init s r =
      either (nat_eq init.tag 0) s (silent s) (opening.judged_init (host_name_in init.parameters) c k now source init s)
      (stays s r) (judged-init (host_name_in init.parameters) c k now source init s r)

  refused : (c : Settings) (init : InitValue) (s : State) → Right s → Passes R s (opening.refused c init s)
  refused c init s r =
      let told : Done = state.put c s.association.address init.tag (ending.abort_for InvalidParameter ∷ []) s in
      let rule : State → Done = λ left. ending.ended c losses.BadInitAck left in
      either (nat_eq init.tag 0) s (ending.ended c losses.BadInitAck s) (followed_by told rule) (ended c losses.BadInitAck [] s none-bare r)
      (next s told rule (putting c s.association.address init.tag (ending.abort_for InvalidParameter) s s tt (unmoved s r))
      (λ left q. ended c losses.BadInitAck [] left none-bare q))

  echoed : (c : Settings) (now failures : ℕ) (init : InitValue) (cookie : List ℕ) (s : State) → s.association.is_up ≡ false →
      s.is_wanted ≡ true → Right s → Passes R s (opening.echoed c now failures init cookie s)
  echoed c now failures init cookie s d w r =
      let x : Done = opening.echoed c now failures init cookie s in
      let chunks : List ChunkValue = opening.echo_of cookie (complained_of init.parameters) in
      let bare : All IsBare chunks = echo-bare cookie (complained_of init.parameters) in
      let tag : ℕ = if nat_eq init.tag 0 then 0 else init.tag in
      record {
        kept = steps.tries s x.left x.sent
            (record { was_wanted = w; generation = omega arith; was_down = d; is_down = d; takes_none = refl; is_none = refl })
            (one-sent (state.datagram_to c s.association.address tag chunks) bare);
        left = record { right = echoing s.association.is_up s.is_wanted d w; control = r.control; trying = bare };
      }

  echoed-if : (c : Settings) (now : ℕ) (init : InitValue) (t : Option Try) (cookie : Option (List ℕ)) (s : State) →
      s.association.is_up ≡ false → s.is_wanted ≡ true → Right s → Passes R s (opening.echoed_if c now init t cookie s)
  echoed-if c now init (Some t) (Some cookie) s d w r =
      either (opening.is_usable init && opening.fits_echo cookie) s (opening.echoed c now t.failures init cookie s) (opening.refused c init s)
      (echoed c now t.failures init cookie s d w r)
      (refused c init s r)
  echoed-if c now init None (Some cookie) s d w r = stays s r
  echoed-if c now init None None s d w r = stays s r
  echoed-if c now init (Some t) None s d w r = refused c init s r

  heard-init-ack : (c : Settings) (now : ℕ) (init : InitValue) (s : State) → Right s → Passes R s (opening.heard_init_ack c now init s)
  heard-init-ack c now init s r =
      let echo : Done = opening.echoed_if c now init s.association.trying (cookie_in init.parameters) s in
      either-so (opening.is_waiting s.association.phase) s echo (silent s)
      (λ e. echoed-if c now init s.association.trying (cookie_in init.parameters) s (r.right.down (waiting-down s.association.phase e)) (r.right.waiting e) r)
      (λ e. stays s r)

  opened : (c : Settings) (now own_tag far_tag own_first : ℕ) (peer : state.Peer) (address : Address) (s : State) →
      A.tag own_tag → s.association.is_up ≡ false → s.is_wanted ≡ true →
      Passes R s (opening.opened c now own_tag far_tag own_first peer address s)
  opened c now own_tag far_tag own_first peer address s t d w = record {
    kept = steps.opens c now own_tag far_tag own_first peer address s t d w;
    left = record { right = there Established true s.is_wanted refl (λ e. refl); control = none-bare; trying = tt };
  }

  heard-cookie-ack : (c : Settings) (now : ℕ) (s : State) → A.tag s.association.own_tag → Right s → Passes R s (opening.heard_cookie_ack c now s)
  heard-cookie-ack c now s t r =
      let a : Association = s.association in
      let up : Done = opening.opened c now a.own_tag a.far_tag a.own_first a.peer a.address s in
      either-so (opening.is_echoed a.phase) s up (silent s)
      (λ e. opened c now a.own_tag a.far_tag a.own_first a.peer a.address s t (r.right.down (echoed-down a.phase e)) (r.right.echoed e))
      (λ e. stays s r)

  -- ---- answers

  answered : (chunk : ChunkValue) (s : State) → IsBare chunk → Right s → Passes R s (silent (ending.answered chunk s))
  answered chunk s bare r = then-silent s (ending.answered chunk s) (answer-follows chunk s bare r)

  -- a packet that begins with COOKIE ECHO: after it the packet's tag is that of the association
  record Echoes (tag : ℕ) (s : State) (x : opening.Echo) : Type 0 where
    passes : Passes R s x.does
    tag_is : x.goes_on ≡ true → x.does.left.association.own_tag ≡ tag

  echo-stops : (tag : ℕ) (s : State) (d : Done) → Passes R s d → Echoes tag s (opening.stops d)
  echo-stops tag s d t = record { passes = t; tag_is = λ e. absurd (cc) }

  echo-either : (b : Bool) (tag : ℕ) (s : State) (x y : opening.Echo) → Echoes tag s x → Echoes tag s y → Echoes tag s (if b then x else y)
  echo-either true tag s x y t u = t
  echo-either false tag s x y t u = u

  echo-either-so : (b : Bool) (tag : ℕ) (s : State) (x y : opening.Echo) → (b ≡ true → Echoes tag s x) → Echoes tag s y →
      Echoes tag s (if b then x else y)
  echo-either-so true tag s x y t u = t refl
  echo-either-so false tag s x y t u = u

  tag-stays : (b : Bool) (a : Association) (control : List ChunkValue) →
      (if b then record a { control = control } else a).own_tag ≡ a.own_tag
  tag-stays true a control = refl
  tag-stays false a control = refl

  opened-by : (c : Settings) (now tag : ℕ) (source : Address) (cookie : Cookie) (s : State) → cookie.own_tag ≡ tag → A.tag cookie.own_tag →
      s.association.is_up ≡ false → s.is_wanted ≡ true → Echoes tag s (opening.opened_by c now source cookie s)
  opened-by c now tag source cookie s same t d w =
      let peer : state.Peer = record { first = cookie.peer_first_tsn; window = cookie.peer_window } in
      let up : Done = opening.opened c now cookie.own_tag cookie.peer_tag cookie.own_first_tsn peer source s in
      let rule : State → Done = λ left. silent (ending.answered packets.CookieAckChunk left) in
      record {
        passes = next s up rule (opened c now cookie.own_tag cookie.peer_tag cookie.own_first_tsn peer source s t d w)
            (λ left q. answered packets.CookieAckChunk left tt q);
        tag_is = λ e. tag-stays (ending.has_place [] packets.CookieAckChunk) up.left.association (packets.CookieAckChunk ∷ []) ∙ same;
      }

  acknowledged-again : (tag : ℕ) (s : State) → s.association.own_tag ≡ tag → Right s → Echoes tag s (opening.acknowledged_again s)
  acknowledged-again tag s same r =
      let a : Association = s.association in
      let place : Bool = ending.has_place a.control packets.CookieAckChunk in
      record {
        passes = then-silent s (state.with_association s (ending.with_answer_first packets.CookieAckChunk a))
            (choice place s a (packets.CookieAckChunk ∷ a.control) (All-cons IsBare packets.CookieAckChunk a.control tt r.control) (unmoved s r));
        tag_is = λ e. tag-stays place a (packets.CookieAckChunk ∷ a.control) ∙ same;
      }

  stale : (c : Settings) (source : Address) (microseconds : ℕ) (cookie : Cookie) (s : State) → Right s →
      Passes R s (opening.stale c source microseconds cookie s)
  stale c source microseconds cookie s r = putting c source cookie.peer_tag _ s s tt (unmoved s r)

  restart : (c : Settings) (source : Address) (cookie : Cookie) (s : State) → Right s →
      Passes R s (followed_by (ending.ended c losses.Restart s) (λ left. opening.stale c source 1 cookie left))
  restart c source cookie s r =
      next s (ending.ended c losses.Restart s) (λ left. opening.stale c source 1 cookie left) (ended c losses.Restart [] s none-bare r)
      (λ left q. stale c source 1 cookie left q)

  restarted : (phase : Phase) (c : Settings) (source : Address) (cookie : Cookie) (s : State) → Right s →
      Passes R s (opening.restarted phase c source cookie s)
  restarted ShutdownAckSent c source cookie s r =
      let again : Done = state.put c s.association.address s.association.far_tag (packets.ShutdownAckChunk ∷ []) s in
      let error : ChunkValue = packets.ErrorChunk (cause_item CookieInShutdown ∷ []) in
      next s again (λ left. state.put c source cookie.peer_tag (error ∷ []) left)
      (putting c s.association.address s.association.far_tag packets.ShutdownAckChunk s s tt (unmoved s r))
      (λ left q. putting c source cookie.peer_tag error left left tt (unmoved left q))
  restarted Closed c source cookie s r = restart c source cookie s r
  restarted CookieWait c source cookie s r = restart c source cookie s r
  restarted CookieEchoed c source cookie s r = restart c source cookie s r
  restarted Established c source cookie s r = restart c source cookie s r
  restarted ShutdownPending c source cookie s r = restart c source cookie s r
  restarted ShutdownSent c source cookie s r = restart c source cookie s r
  restarted ShutdownReceived c source cookie s r = restart c source cookie s r

  -- nothing becomes of a packet
  abbrev nothing : State → opening.Echo
  nothing s = opening.stops (silent s)

  echo-in : (phase : Phase) (c : Settings) (tag : ℕ) (source : Address) (cookie : Cookie) (s : State) → Right s →
      Echoes tag s (opening.echo_in_association phase c source cookie s)
  echo-in phase c tag source cookie s r =
      let a : Association = s.association in
      echo-either (not (opening.is_own cookie a) && not (opening.is_far cookie a) && opening.is_tied cookie a) tag s
      (opening.stops (opening.restarted phase c source cookie s)) (nothing s)
      (echo-stops tag s (opening.restarted phase c source cookie s) (restarted phase c source cookie s r)) (echo-stops tag s (silent s) (stays s r))

  given-up : (c : Settings) (source : Address) (cookie : Cookie) (s : State) →
      s.association.is_up ≡ false → s.is_wanted ≡ true → Passes R s (opening.given_up c source cookie s)
  given-up c source cookie s d w =
      let left : State = record s { generation = s.generation + 1; association = no_association c } in
      let closed : IsRight Closed false s.is_wanted = record { up = λ e. absurd (cc); down = λ e. refl; waiting = λ e. absurd (cc); echoed = λ e. absurd (cc) } in
      next s (silent left) (λ x. opening.stale c source 1 cookie x)
      (record {
        kept = steps.tries s left []
            (record { was_wanted = w; generation = omega arith; was_down = d; is_down = refl; takes_none = refl; is_none = refl }) none-sent;
        left = record { right = closed; control = none-bare; trying = tt };
      })
      (λ x q. stale c source 1 cookie x q)

  echo-in-try : (c : Settings) (now tag : ℕ) (source : Address) (cookie : Cookie) (s : State) → cookie.own_tag ≡ tag → A.tag cookie.own_tag →
      s.association.is_up ≡ false → s.is_wanted ≡ true → Echoes tag s (opening.echo_in_try c now source cookie s)
  echo-in-try c now tag source cookie s same t d w =
      let a : Association = s.association in
      let gives-up : opening.Echo = opening.stops (opening.given_up c source cookie s) in
      echo-either (opening.is_own cookie a && opening.is_far cookie a) tag s (opening.opened_by c now source cookie s) gives-up
      (opened-by c now tag source cookie s same t d w)
      (echo-stops tag s (opening.given_up c source cookie s) (given-up c source cookie s d w))

  echo-without-try : (c : Settings) (k : Secrets) (now tag : ℕ) (source : Address) (cookie : Cookie) (s : State) → cookie.own_tag ≡ tag →
      A.tag cookie.own_tag → s.association.is_up ≡ false → Right s → Echoes tag s (opening.echo_without_try c k now source cookie s)
  echo-without-try c k now tag source cookie s same t d r =
      let drawn : State = opening.drawn_next s in
      let opens : opening.Echo = opening.opened_by c now source cookie drawn in
      let is-next : Bool = opening.is_next (k.beginning s.beginnings) cookie.own_tag in
      echo-either-so (s.is_wanted && is-next) tag s opens (nothing s)
      (λ e.
      let g : Echoes tag drawn opens = opened-by c now tag source cookie drawn same t d (both-true s.is_wanted is-next e) in
      record { passes = moved s drawn opens.does (unmoved s r) g.passes; tag_is = g.tag_is })
      (echo-stops tag s (silent s) (stays s r))

  good-echo : (phase : Phase) (c : Settings) (k : Secrets) (now tag : ℕ) (source : Address) (cookie : Cookie) (s : State) →
      s.association.phase ≡ phase → cookie.own_tag ≡ tag → A.tag cookie.own_tag → Right s →
      Echoes tag s (opening.good_echo_in phase c k now source cookie s)
  good-echo Closed c k now tag source cookie s e same t r =
      echo-without-try c k now tag source cookie s same t (r.right.down (ap opening.is_there e)) r
  good-echo CookieWait c k now tag source cookie s e same t r =
      echo-either (opening.is_own cookie s.association) tag s (opening.opened_by c now source cookie s) (nothing s)
      (opened-by c now tag source cookie s same t (r.right.down (ap opening.is_there e)) (r.right.waiting (ap opening.is_waiting e))) (echo-stops tag s (silent s) (stays s r))
  good-echo CookieEchoed c k now tag source cookie s e same t r =
      echo-in-try c now tag source cookie s same t (r.right.down (ap opening.is_there e)) (r.right.echoed (ap opening.is_echoed e))
  good-echo Established c k now tag source cookie s e same t r = echo-in Established c tag source cookie s r
  good-echo ShutdownPending c k now tag source cookie s e same t r = echo-in ShutdownPending c tag source cookie s r
  good-echo ShutdownSent c k now tag source cookie s e same t r = echo-in ShutdownSent c tag source cookie s r
  good-echo ShutdownReceived c k now tag source cookie s e same t r = echo-in ShutdownReceived c tag source cookie s r
  good-echo ShutdownAckSent c k now tag source cookie s e same t r = echo-in ShutdownAckSent c tag source cookie s r

  own-tag : (there own far : Bool) → (there && own && far) ≡ true → own ≡ true
  own-tag true true far e = refl
  own-tag true false far e = absurd (cc)
  own-tag false own far e = absurd (cc)

  heard-cookie : (c : Settings) (k : Secrets) (now tag : ℕ) (source : Address) (cookie : Cookie) (s : State) → cookie.own_tag ≡ tag → A.tag cookie.own_tag → Right s →
      Echoes tag s (opening.heard_cookie c k now source cookie s)
  heard-cookie c k now tag source cookie s same t r =
      let a : Association = s.association in
      let good : opening.Echo = opening.good_echo_in a.phase c k now source cookie s in
      let stale-now : Done = opening.stale c source 1 cookie s in
      let stale-late : Done = opening.stale c source (opening.staleness now cookie) cookie s in
      let old : opening.Echo = opening.stops stale-now in
      let late : opening.Echo = opening.stops stale-late in
      let fresh : opening.Echo = if nat_eq cookie.generation s.generation then good else old in
      echo-either-so (opening.is_there a.phase && opening.is_own cookie a && opening.is_far cookie a) tag s
      (opening.acknowledged_again s) (if nat_lt cookie.life (now - cookie.made) then late else fresh)
      (λ e. acknowledged-again tag s
      (sym (same-number cookie.own_tag a.own_tag (own-tag (opening.is_there a.phase) (opening.is_own cookie a) (opening.is_far cookie a) e)) ∙ same) r)
      (echo-either (nat_lt cookie.life (now - cookie.made)) tag s late fresh
      (echo-stops tag s stale-late (stale c source (opening.staleness now cookie) cookie s r))
      (echo-either (nat_eq cookie.generation s.generation) tag s good old
      (good-echo a.phase c k now tag source cookie s refl same t r) (echo-stops tag s stale-now (stale c source 1 cookie s r))))

  heard-echo : (cookie : Option Cookie) (c : Settings) (k : Secrets) (now tag : ℕ) (source : Address) (s : State) → A.tag tag → Right s →
      Echoes tag s (opening.heard_echo_of cookie c k now tag source s)
  heard-echo None c k now tag source s t r = echo-stops tag s (silent s) (stays s r)
  heard-echo (Some cookie) c k now tag source s t r =
      echo-either-so (nat_eq cookie.own_tag tag && nat_eq cookie.peer_port c.far_port) tag s
      (opening.heard_cookie c k now source cookie s) (nothing s)
      (λ e.
      let same : cookie.own_tag ≡ tag =
      same-number cookie.own_tag tag (both-true (nat_eq cookie.own_tag tag) (nat_eq cookie.peer_port c.far_port) e) in
      heard-cookie c k now tag source cookie s same (subst A.tag (sym same) t) r)
      (echo-stops tag s (silent s) (stays s r))

  begun-after-stale : (c : Settings) (k : Secrets) (now : ℕ) (t : Option Try) (s : State) → s.association.is_up ≡ false →
      s.is_wanted ≡ true → Right s → Passes R s (opening.begun_after_stale c k now t s)
  begun-after-stale c k now None s d w r = stays s r
  begun-after-stale c k now (Some t) s d w r =
      either (nat_lt c.init_retransmissions (t.failures + 1)) s (ending.ended c losses.StaleCookie s)
      (opening.begun_anew c k now (t.failures + 1) c.address s)
      (ended c losses.StaleCookie [] s none-bare r) (begun-anew c k now (t.failures + 1) c.address s d w r)

  heard-error : (c : Settings) (k : Secrets) (now : ℕ) (causes : List ItemValue) (s : State) → Right s →
      Passes R s (opening.heard_error c k now causes s)
  heard-error c k now causes s r =
      let anew : Done = opening.begun_after_stale c k now s.association.trying s in
      either-so (opening.is_echoed s.association.phase && has_stale_cookie causes) s anew (silent s)
      (λ e.
      let echoed : opening.is_echoed s.association.phase ≡ true = both-true (opening.is_echoed s.association.phase) (has_stale_cookie causes) e in
      begun-after-stale c k now s.association.trying s (r.right.down (echoed-down s.association.phase echoed)) (r.right.echoed echoed) r)
      (λ e. stays s r)

  -- ---- shutting down

  aborted : (c : Settings) (why : Loss) (cause : CauseValue) (s : State) → Right s → Passes R s (ending.aborted c why cause s)
  aborted c why cause s r = ended c why (ending.abort_for cause ∷ []) s (one-bare (ending.abort_for cause) tt) r

  abort-tells : (c : Settings) (s : State) → Right s → Passes R s (ending.abort c s)
  abort-tells c s r = aborted c losses.Local EndedByUser s r

  shutdown-in : (phase : Phase) (c : Settings) (now : ℕ) (s : State) → s.association.phase ≡ phase → Right s →
      Passes R s (shutdown.shutdown_in phase c now s)
  shutdown-in Closed c now s e r = abort-tells c s r
  shutdown-in CookieWait c now s e r = abort-tells c s r
  shutdown-in CookieEchoed c now s e r = abort-tells c s r
  shutdown-in Established c now s e r =
      let pending : State = state.with_association s (record s.association { phase = ShutdownPending }) in
      let up : s.association.is_up ≡ true = r.right.up (ap data_rules.takes_data e) in
      let right : IsRight ShutdownPending s.association.is_up s.is_wanted = there ShutdownPending s.association.is_up s.is_wanted refl (λ g. up) in
      let f : Follows s pending = record {
        same = in-phase s pending.association Established e refl (λ g. refl) (itself s);
        half = same s.association.sender;
        right = record { right = right; control = r.control; trying = r.trying };
      } in
      then-silent s (shutdown.going_on c now pending) (behind s pending (shutdown.going_on c now pending) f (going-on c now pending f.right))
  shutdown-in ShutdownPending c now s e r = stays s r
  shutdown-in ShutdownSent c now s e r = stays s r
  shutdown-in ShutdownReceived c now s e r = stays s r
  shutdown-in ShutdownAckSent c now s e r = stays s r

  -- the peer shuts down
  shutdown-received : (c : Settings) (now : ℕ) (s : State) → opening.is_there s.association.phase ≡ true →
      data_rules.takes_data s.association.phase ≡ true → Right s →
      Passes R s (shutdown.then_going_on c now (shutdown.shutdown_received s))
  shutdown-received c now s there takes r =
      let received : State = (shutdown.shutdown_received s).left in
      let q : Right received = record { right = received-right received.is_wanted; control = r.control; trying = r.trying } in
      let left : State = shutdown.going_on c now received in
      let on : Follows received left = going-on c now received q in
      let l : Alike received left = on.same in
      record {
        kept = steps.shuts s left (record {
          not_wanted = sym l.wanted ∙ not-wanted s.association.is_up s.is_wanted (r.right.up takes);
          generation = l.generation;
          is_down = sym l.up;
          takes_none = takes-none received left l refl;
          own_tag = l.own_tag;
          far_tag = l.far_tag;
          own_first = l.own_first;
          was_there = there;
          half = on.half;
        });
        left = on.right;
      }

  -- its cumulative TSN confirms
  confirms : (now cumulative : ℕ) (s : State) (d : Done) → A.cumulative cumulative → A.tag s.association.own_tag → Right s →
      Passes R (shutdown.with_confirmed now cumulative s) d → Passes R s d
  confirms now cumulative s d h tag r t =
      let left : State = shutdown.with_confirmed now cumulative s in
      let half = s.association.sender in
      record {
        kept = steps.also s (silent left) (λ x. d)
            (steps.confirms s left cumulative h tag (itself s) (shutdown-answered (confirmation half cumulative) half now cumulative refl)) t.kept;
        left = t.left;
      }

  heard-shutdown-in : (phase : Phase) (c : Settings) (now cumulative : ℕ) (s : State) → s.association.phase ≡ phase →
      A.cumulative cumulative → A.tag s.association.own_tag → Right s → Passes R s (shutdown.heard_shutdown_in phase c now cumulative s)
  heard-shutdown-in Established c now cumulative s e h tag r =
      let confirmed : State = shutdown.with_confirmed now cumulative s in
      confirms now cumulative s (shutdown.heard_shutdown_in Established c now cumulative s) h tag r
      (shutdown-received c now confirmed (ap opening.is_there e) (ap data_rules.takes_data e) r)
  heard-shutdown-in ShutdownPending c now cumulative s e h tag r =
      let confirmed : State = shutdown.with_confirmed now cumulative s in
      confirms now cumulative s (shutdown.heard_shutdown_in ShutdownPending c now cumulative s) h tag r
      (shutdown-received c now confirmed (ap opening.is_there e) (ap data_rules.takes_data e) r)
  heard-shutdown-in ShutdownReceived c now cumulative s e h tag r =
      let confirmed : State = shutdown.with_confirmed now cumulative s in
      confirms now cumulative s (silent (shutdown.going_on c now confirmed)) h tag r
      (then-silent confirmed (shutdown.going_on c now confirmed) (going-on c now confirmed r))
  heard-shutdown-in ShutdownSent c now cumulative s e h tag r =
      let a : Association = s.association in
      let answered : Association = record a { phase = ShutdownAckSent; t2 = Some (now + a.sender.round_trips.timeout) } in
      then-silent s (shutdown.shutdown_answered now s)
      (with-answer packets.ShutdownAckChunk s answered tt (record {
        same = in-phase s answered ShutdownSent e refl (λ g. absurd (cc)) (itself s);
        half = same a.sender;
        right = record { right = settled a.is_up s.is_wanted; control = r.control; trying = r.trying };
      }))
  heard-shutdown-in Closed c now cumulative s e h tag r = stays s r
  heard-shutdown-in CookieWait c now cumulative s e h tag r = stays s r
  heard-shutdown-in CookieEchoed c now cumulative s e h tag r = stays s r
  heard-shutdown-in ShutdownAckSent c now cumulative s e h tag r = stays s r

  heard-shutdown : (c : Settings) (now cumulative : ℕ) (s : State) → A.cumulative cumulative → A.tag s.association.own_tag → Right s →
      Passes R s (shutdown.heard_shutdown c now cumulative s)
  heard-shutdown c now cumulative s h tag r =
      either (shutdown.confirms s.association.phase && confirming.confirms_beyond s.association.sender cumulative) s
      (ending.aborted c losses.Protocol ending.violation s)
      (shutdown.heard_shutdown_in s.association.phase c now cumulative s)
      (aborted c losses.Protocol ending.violation s r) (heard-shutdown-in s.association.phase c now cumulative s refl h tag r)

  completed : (c : Settings) (s : State) → Right s →
      Passes R s (ending.ended_alone c losses.Shutdown (packets.ShutdownCompleteChunk false ∷ []) s)
  completed c s r =
      ended-alone c losses.Shutdown (packets.ShutdownCompleteChunk false ∷ []) s (one-bare (packets.ShutdownCompleteChunk false) tt) r

  shutdown-ack-in : (phase : Phase) (c : Settings) (s : State) → Right s → Passes R s (shutdown.heard_shutdown_ack_in phase c s)
  shutdown-ack-in ShutdownSent c s r = completed c s r
  shutdown-ack-in ShutdownAckSent c s r = completed c s r
  shutdown-ack-in Closed c s r = stays s r
  shutdown-ack-in CookieWait c s r = stays s r
  shutdown-ack-in CookieEchoed c s r = stays s r
  shutdown-ack-in Established c s r = stays s r
  shutdown-ack-in ShutdownPending c s r = stays s r
  shutdown-ack-in ShutdownReceived c s r = stays s r

  shutdown-complete-in : (phase : Phase) (c : Settings) (s : State) → Right s →
      Passes R s (shutdown.heard_shutdown_complete_in phase c s)
  shutdown-complete-in ShutdownAckSent c s r = ended-alone c losses.Shutdown [] s none-bare r
  shutdown-complete-in Closed c s r = stays s r
  shutdown-complete-in CookieWait c s r = stays s r
  shutdown-complete-in CookieEchoed c s r = stays s r
  shutdown-complete-in Established c s r = stays s r
  shutdown-complete-in ShutdownPending c s r = stays s r
  shutdown-complete-in ShutdownSent c s r = stays s r
  shutdown-complete-in ShutdownReceived c s r = stays s r

  -- ---- DATA, SACK and HEARTBEAT

  heard-data : (c : Settings) (d : DataValue) (s : State) → A.carried d → A.tag s.association.own_tag → Right s → Passes R s (data_rules.heard_data c d s)
  heard-data c d s come tag r =
      let steps-of : receiving.Steps = received s.association.receiver d.tsn (data_rules.piece_of d) in
      let taken : State = state.with_association s (record s.association { receiver = steps-of.left; is_sack_due = true }) in
      let empty : Done = ending.aborted c losses.Protocol (NoUserData d.tsn) s in
      let tells : Done = data_rules.after_data c steps-of s in
      either-so (data_rules.takes_data s.association.phase) s (if nat_eq (length d.octets) 0 then empty else tells) (silent s)
      (λ e.
      either (nat_eq (length d.octets) 0) s empty tells (aborted c losses.Protocol (NoUserData d.tsn) s r)
      (record { kept = steps.takes c d s come tag r (r.right.up e) e; left = told-right c steps-of.told taken r }))
      (λ e. stays s r)

  heard-sack-of : (c : Settings) (now : ℕ) (sack : SackValue) (s : State) → A.cumulative sack.cumulative → A.tag s.association.own_tag →
      Right s → Passes R s (data_rules.heard_sack_of c now sack s)
  heard-sack-of c now sack s h tag r =
      let half = s.association.sender in
      let later : State = data_rules.after_sack now sack s in
      let bad : Done = ending.aborted c losses.Protocol ending.violation s in
      let good : Done = silent (shutdown.going_on c now later) in
      let t : Passes R later good = then-silent later (shutdown.going_on c now later) (going-on c now later r) in
      let beyond : Bool = confirming.confirms_beyond half sack.cumulative in
      either (confirming.is_old (confirmation half sack.cumulative)) s (silent s) (if beyond then bad else good)
      (stays s r)
      (either beyond s bad good (aborted c losses.Protocol ending.violation s r)
      (record {
        kept = steps.also s (silent later) (λ x. good)
            (steps.confirms s later sack.cumulative h tag (itself s) (sack-answered (confirmation half sack.cumulative) half now sack refl)) t.kept;
        left = t.left;
      }))

  heard-sack : (c : Settings) (now : ℕ) (sack : SackValue) (s : State) → A.cumulative sack.cumulative → A.tag s.association.own_tag →
      Right s → Passes R s (data_rules.heard_sack_chunk c now sack s)
  heard-sack c now sack s h tag r =
      either (data_rules.takes_sack s.association.phase) s (data_rules.heard_sack_of c now sack s) (silent s)
      (heard-sack-of c now sack s h tag r) (stays s r)

  heard-heartbeat : (information : List ℕ) (s : State) → Right s → Passes R s (data_rules.heard_heartbeat information s)
  heard-heartbeat information s r =
      let chunk : ChunkValue = packets.HeartbeatAckChunk information in
      either (opening.is_there s.association.phase) s (silent (ending.answered chunk s)) (silent s) (answered chunk s tt r) (stays s r)

  beat-answered : (c : Settings) (now : ℕ) (beat : Beat) (s : State) → Right s → Passes R s (silent (data_rules.beat_answered c now beat s))
  beat-answered c now beat s r = then-silent s (data_rules.beat_answered c now beat s) (unmoved s r)

  heard-answer : (beat : Option Beat) (c : Settings) (now : ℕ) (information : List ℕ) (s : State) → Right s →
      Passes R s (data_rules.heard_answer_to beat c now information s)
  heard-answer None c now information s r = stays s r
  heard-answer (Some beat) c now information s r =
      either (bytes_eq information (information_of beat.nonce)) s (silent (data_rules.beat_answered c now beat s)) (silent s)
      (beat-answered c now beat s r) (stays s r)

  -- ---- packets

  heard-unknown : (kind flags : ℕ) (value : List ℕ) (s : State) → Right s → Passes R s (arriving.heard_unknown kind flags value s).does
  heard-unknown kind flags value s r =
      let report : ChunkValue = packets.ErrorChunk (cause_item (UnrecognizedChunk kind flags value) ∷ []) in
      either (arriving.is_reported kind) s (silent (ending.answered report s)) (silent s) (answered report s tt r) (stays s r)

  heard-abort : (c : Settings) (tag : ℕ) (chunk : ChunkValue) (s : State) → Right s → Passes R s (arriving.heard_abort c tag chunk s).does
  heard-abort c tag chunk s r =
      let why : Loss = arriving.loss_by_abort s.association.phase in
      either (arriving.has_tag s.association tag chunk) s (ending.ended_alone c why [] s) (silent s) (ended-alone c why [] s none-bare r) (stays s r)

  handled-either : (b : Bool) (s : State) (x y : arriving.Handled) → Passes R s x.does → Passes R s y.does →
      Passes R s (if b then x else y).does
  handled-either true s x y t u = t
  handled-either false s x y t u = u

  -- DATA, SACK, SHUTDOWN and COOKIE ACK count only with the tag of this end
  abbrev IsTagged : ℕ → State → ChunkValue → Type 0
  IsTagged tag s (packets.DataChunk carried) = s.association.own_tag ≡ tag
  IsTagged tag s (packets.SackChunk sack) = s.association.own_tag ≡ tag
  IsTagged tag s (packets.ShutdownChunk cumulative) = s.association.own_tag ≡ tag
  IsTagged tag s packets.CookieAckChunk = s.association.own_tag ≡ tag
  IsTagged tag s chunk = Unit {0}

  heard-chunk : (c : Settings) (k : Secrets) (now tag : ℕ) (chunk : ChunkValue) (s : State) → HasCome A chunk → A.tag tag →
      IsTagged tag s chunk → Right s → Passes R s (arriving.heard_chunk c k now tag chunk s).does
  heard-chunk c k now tag (packets.DataChunk carried) s h t same r = heard-data c carried s h (subst A.tag (sym same) t) r
  heard-chunk c k now tag (packets.InitChunk init) s h t same r = stays s r
  heard-chunk c k now tag (packets.InitAckChunk init) s h t same r = heard-init-ack c now init s r
  heard-chunk c k now tag (packets.SackChunk sack) s h t same r = heard-sack c now sack s h (subst A.tag (sym same) t) r
  heard-chunk c k now tag (packets.HeartbeatChunk information) s h t same r = heard-heartbeat information s r
  heard-chunk c k now tag (packets.HeartbeatAckChunk information) s h t same r = heard-answer s.association.beat c now information s r
  heard-chunk c k now tag (packets.AbortChunk is_reflected causes) s h t same r = heard-abort c tag (packets.AbortChunk is_reflected causes) s r
  heard-chunk c k now tag (packets.ShutdownChunk cumulative) s h t same r = heard-shutdown c now cumulative s h (subst A.tag (sym same) t) r
  heard-chunk c k now tag packets.ShutdownAckChunk s h t same r = shutdown-ack-in s.association.phase c s r
  heard-chunk c k now tag (packets.ErrorChunk causes) s h t same r = heard-error c k now causes s r
  heard-chunk c k now tag (packets.CookieEchoChunk cookie) s h t same r = stays s r
  heard-chunk c k now tag packets.CookieAckChunk s h t same r = heard-cookie-ack c now s (subst A.tag (sym same) t) r
  heard-chunk c k now tag (packets.ShutdownCompleteChunk is_reflected) s h t same r =
      handled-either (arriving.has_tag s.association tag (packets.ShutdownCompleteChunk is_reflected)) s
      (arriving.while_there tag (shutdown.heard_shutdown_complete c s)) (arriving.while_there tag (silent s))
      (shutdown-complete-in s.association.phase c s r) (stays s r)
  heard-chunk c k now tag (packets.UnknownChunk kind flags value) s h t same r = heard-unknown kind flags value s r
  heard-chunk c k now tag (packets.MalformedChunk kind) s h t same r = stays s r

  tagged : (chunk : ChunkValue) (tag : ℕ) (s : State) → s.association.own_tag ≡ tag → IsTagged tag s chunk
  tagged (packets.DataChunk carried) tag s e = e
  tagged (packets.InitChunk init) tag s e = tt
  tagged (packets.InitAckChunk init) tag s e = tt
  tagged (packets.SackChunk sack) tag s e = e
  tagged (packets.HeartbeatChunk information) tag s e = tt
  tagged (packets.HeartbeatAckChunk information) tag s e = tt
  tagged (packets.AbortChunk is_reflected causes) tag s e = tt
  tagged (packets.ShutdownChunk cumulative) tag s e = e
  tagged packets.ShutdownAckChunk tag s e = tt
  tagged (packets.ErrorChunk causes) tag s e = tt
  tagged (packets.CookieEchoChunk cookie) tag s e = tt
  tagged packets.CookieAckChunk tag s e = e
  tagged (packets.ShutdownCompleteChunk is_reflected) tag s e = tt
  tagged (packets.UnknownChunk kind flags value) tag s e = tt
  tagged (packets.MalformedChunk kind) tag s e = tt

  -- if the chunks after one count, the tag is still that of this end
  abbrev IsStill : (tag : ℕ) → arriving.Handled → Type 0
  IsStill tag x = x.goes_on ≡ true → x.does.left.association.own_tag ≡ tag

  still-there : (tag : ℕ) (d : Done) → IsStill tag (arriving.while_there tag d)
  still-there tag d e = same-number d.left.association.own_tag tag (second-true (not (opening.is_closed d.left.association.phase)) (nat_eq d.left.association.own_tag tag) e)

  still-either : (b : Bool) (tag : ℕ) (x y : arriving.Handled) → IsStill tag x → IsStill tag y → IsStill tag (if b then x else y)
  still-either true tag x y t u = t
  still-either false tag x y t u = u

  reported-tag : (b : Bool) (chunk : ChunkValue) (s : State) →
      (if b then silent (ending.answered chunk s) else silent s).left.association.own_tag ≡ s.association.own_tag
  reported-tag true chunk s = tag-stays (ending.has_place s.association.control chunk) s.association (s.association.control ++ chunk ∷ [])
  reported-tag false chunk s = refl

  still : (c : Settings) (k : Secrets) (now tag : ℕ) (chunk : ChunkValue) (s : State) → s.association.own_tag ≡ tag →
      IsStill tag (arriving.heard_chunk c k now tag chunk s)
  still c k now tag (packets.DataChunk carried) s same = still-there tag (data_rules.heard_data c carried s)
  still c k now tag (packets.InitChunk init) s same = still-there tag (silent s)
  still c k now tag (packets.InitAckChunk init) s same = still-there tag (opening.heard_init_ack c now init s)
  still c k now tag (packets.SackChunk sack) s same = still-there tag (data_rules.heard_sack_chunk c now sack s)
  still c k now tag (packets.HeartbeatChunk information) s same = still-there tag (data_rules.heard_heartbeat information s)
  still c k now tag (packets.HeartbeatAckChunk information) s same = still-there tag (data_rules.heard_heartbeat_ack c now information s)
  still c k now tag (packets.AbortChunk is_reflected causes) s same = λ e. absurd (cc)
  still c k now tag (packets.ShutdownChunk cumulative) s same = still-there tag (shutdown.heard_shutdown c now cumulative s)
  still c k now tag packets.ShutdownAckChunk s same = still-there tag (shutdown.heard_shutdown_ack c s)
  still c k now tag (packets.ErrorChunk causes) s same = still-there tag (opening.heard_error c k now causes s)
  still c k now tag (packets.CookieEchoChunk cookie) s same = still-there tag (silent s)
  still c k now tag packets.CookieAckChunk s same = still-there tag (opening.heard_cookie_ack c now s)
  still c k now tag (packets.ShutdownCompleteChunk is_reflected) s same =
      still-either (arriving.has_tag s.association tag (packets.ShutdownCompleteChunk is_reflected)) tag
      (arriving.while_there tag (shutdown.heard_shutdown_complete c s)) (arriving.while_there tag (silent s))
      (still-there tag (shutdown.heard_shutdown_complete c s)) (still-there tag (silent s))
  still c k now tag (packets.UnknownChunk kind flags value) s same =
      λ e. reported-tag (arriving.is_reported kind) (packets.ErrorChunk (cause_item (UnrecognizedChunk kind flags value) ∷ [])) s ∙ same
  still c k now tag (packets.MalformedChunk kind) s same = still-there tag (silent s)

  heard-chunks : (c : Settings) (k : Secrets) (now tag : ℕ) (chunks : List ChunkValue) (s : State) → HaveCome A chunks → A.tag tag →
      s.association.own_tag ≡ tag → Right s → Passes R s (arriving.heard_chunks c k now tag chunks s)
  heard-chunks c k now tag [] s h t same r = stays s r
  heard-chunks c k now tag (chunk ∷ chunks) s h t same r =
      let handled : arriving.Handled = arriving.heard_chunk c k now tag chunk s in
      let p : Passes R s handled.does = heard-chunk c k now tag chunk s h.0 t (tagged chunk tag s same) r in
      let rule : State → Done = λ left. arriving.heard_chunks c k now tag chunks left in
      either-so handled.goes_on s (followed_by handled.does rule) handled.does
      (λ e. next-there s handled.does rule p
      (heard-chunks c k now tag chunks handled.does.left h.1 t (still c k now tag chunk s same e) p.left)) (λ e. p)

  -- one chunk alone, which may have the peer's tag
  heard-alone : (c : Settings) (k : Secrets) (now tag : ℕ) (chunk : ChunkValue) (s : State) → HasCome A chunk → A.tag tag →
      IsTagged tag s chunk → Right s → Passes R s (arriving.heard_chunks c k now tag (chunk ∷ []) s)
  heard-alone c k now tag chunk s h t same r =
      let handled : arriving.Handled = arriving.heard_chunk c k now tag chunk s in
      let p : Passes R s handled.does = heard-chunk c k now tag chunk s h t same r in
      let rule : State → Done = λ left. silent left in
      either handled.goes_on s (followed_by handled.does rule) handled.does
      (next-there s handled.does rule p (stays handled.does.left p.left)) p

  source-tag : (b : Bool) (s : State) (source : Address) →
      (if b then s else state.with_association s (record s.association { address = source })).association.own_tag ≡ s.association.own_tag
  source-tag true s source = refl
  source-tag false s source = refl

  by-tag : (c : Settings) (k : Secrets) (now : ℕ) (source : Address) (tag : ℕ) (chunks : List ChunkValue) (s : State) →
      HaveCome A chunks → A.tag tag → s.association.own_tag ≡ tag → Right s → Passes R s (arriving.heard_by_tag c k now source tag chunks s)
  by-tag c k now source tag chunks s h t same r =
      let there-now : State = arriving.from_source source s in
      let f : Follows s there-now = from-source (opening.is_waiting s.association.phase) s source r in
      moved s there-now (arriving.heard_by_tag c k now source tag chunks s) f
      (heard-chunks c k now tag chunks there-now h t (source-tag (opening.is_waiting s.association.phase) s source ∙ same) f.right)

  blue : (c : Settings) (source : Address) (tag : ℕ) (first : ChunkValue) (more : List ChunkValue) (s : State) → Right s →
      Passes R s (arriving.out_of_the_blue c source tag first more s)
  blue c source tag first more s r =
      either (arriving.is_quiet_first first || list_any arriving.is_quiet (first ∷ more)) s (silent s)
      (state.put c source tag (arriving.answer_to first ∷ []) s) (stays s r)
      (putting c source tag (arriving.answer_to first) s s (answer-bare first) (unmoved s r))

  -- a chunk with the peer's tag is none of these
  peer-tagged : (chunk : ChunkValue) (tag : ℕ) (s : State) → arriving.has_peer_tag chunk ≡ true → IsTagged tag s chunk
  peer-tagged (packets.DataChunk carried) tag s e = absurd (cc)
  peer-tagged (packets.InitChunk init) tag s e = tt
  peer-tagged (packets.InitAckChunk init) tag s e = tt
  peer-tagged (packets.SackChunk sack) tag s e = absurd (cc)
  peer-tagged (packets.HeartbeatChunk information) tag s e = tt
  peer-tagged (packets.HeartbeatAckChunk information) tag s e = tt
  peer-tagged (packets.AbortChunk is_reflected causes) tag s e = tt
  peer-tagged (packets.ShutdownChunk cumulative) tag s e = absurd (cc)
  peer-tagged packets.ShutdownAckChunk tag s e = tt
  peer-tagged (packets.ErrorChunk causes) tag s e = tt
  peer-tagged (packets.CookieEchoChunk cookie) tag s e = tt
  peer-tagged packets.CookieAckChunk tag s e = absurd (cc)
  peer-tagged (packets.ShutdownCompleteChunk is_reflected) tag s e = tt
  peer-tagged (packets.UnknownChunk kind flags value) tag s e = tt
  peer-tagged (packets.MalformedChunk kind) tag s e = tt

  -- a packet with the right tag
  by-first : (b : Bool) (c : Settings) (k : Secrets) (now : ℕ) (source : Address) (tag : ℕ) (first : ChunkValue) (more : List ChunkValue) (s : State) →
      HaveCome A (first ∷ more) → A.tag tag → arriving.has_peer_tag first ≡ b →
      (if b then not (nat_eq s.association.far_tag 0) && nat_eq tag s.association.far_tag else nat_eq tag s.association.own_tag) ≡ true → Right s →
      Passes R s (arriving.heard_by_tag c k now source tag (first ∷ (if b then [] else more)) s)
  by-first true c k now source tag first more s h t e right-tag r =
      let there-now : State = arriving.from_source source s in
      let f : Follows s there-now = from-source (opening.is_waiting s.association.phase) s source r in
      moved s there-now (arriving.heard_by_tag c k now source tag (first ∷ []) s) f
      (heard-alone c k now tag first there-now h.0 t (peer-tagged first tag there-now e) f.right)
  by-first false c k now source tag first more s h t e right-tag r =
      by-tag c k now source tag (first ∷ more) s h t (sym (same-number tag s.association.own_tag right-tag)) r

  otherwise : (c : Settings) (k : Secrets) (now : ℕ) (source : Address) (tag : ℕ) (first : ChunkValue) (more : List ChunkValue) (s : State) →
      HaveCome A (first ∷ more) → A.tag tag → Right s → Passes R s (arriving.heard_otherwise c k now source tag first more s)
  otherwise c k now source tag first more s h t r =
      let complete : List ChunkValue = packets.ShutdownCompleteChunk true ∷ [] in
      let taken : Done = arriving.heard_by_tag c k now source tag (arriving.looked_at first more) s in
      let late : Bool = arriving.is_late_shutdown s.association.phase first in
      let right-tag : Bool = arriving.has_tag s.association tag first in
      either (opening.is_closed s.association.phase) s (arriving.out_of_the_blue c source tag first more s)
      (if late then state.put c source tag complete s else (if right-tag then taken else silent s))
      (blue c source tag first more s r)
      (either late s (state.put c source tag complete s) (if right-tag then taken else silent s) (putting c source tag (packets.ShutdownCompleteChunk true) s s tt (unmoved s r))
      (either-so right-tag s taken (silent s)
      (λ e. by-first (arriving.has_peer_tag first) c k now source tag first more s h t refl e r) (λ e. stays s r)))

  after-echo : (c : Settings) (k : Secrets) (now : ℕ) (source : Address) (tag : ℕ) (more : List ChunkValue) (s : State) (echo : opening.Echo) →
      HaveCome A more → A.tag tag → Echoes tag s echo → Passes R s (arriving.after_echo c k now source tag more echo)
  after-echo c k now source tag more s echo h t x =
      let rule : State → Done = λ left. arriving.heard_by_tag c k now source tag more left in
      let p : Passes R s echo.does = x.passes in
      either-so echo.goes_on s (followed_by echo.does rule) echo.does
      (λ e. next-there s echo.does rule p (by-tag c k now source tag more echo.does.left h t (x.tag_is e) p.left)) (λ e. p)

  heard-first : (c : Settings) (k : Secrets) (now : ℕ) (source : Address) (tag : ℕ) (first : ChunkValue) (more : List ChunkValue) (s : State) →
      HaveCome A (first ∷ more) → A.tag tag → Right s → Passes R s (arriving.heard_first c k now source tag first more s)
  heard-first c k now source tag (packets.InitChunk init) more s h t r = heard-init c k now source init s r
  heard-first c k now source tag (packets.CookieEchoChunk cookie) more s h t r =
      after-echo c k now source tag more s (opening.heard_cookie_echo c k now tag source cookie s) h.1 t
      (heard-echo (k.cookie_in cookie) c k now tag source s t r)
  heard-first c k now source tag (packets.MalformedChunk kind) more s h t r =
      either (nat_eq kind 1) s (silent s) (arriving.heard_otherwise c k now source tag (packets.MalformedChunk kind) more s)
      (stays s r) (otherwise c k now source tag (packets.MalformedChunk kind) more s h t r)
  heard-first c k now source tag first more s h t r = otherwise c k now source tag first more s h t r

  heard-all : (c : Settings) (k : Secrets) (now : ℕ) (source : Address) (tag : ℕ) (chunks : List ChunkValue) (s : State) →
      HaveCome A chunks → A.tag tag → Right s → Passes R s (arriving.heard_all c k now source tag chunks s)
  heard-all c k now source tag [] s h t r = stays s r
  heard-all c k now source tag (first ∷ more) s h t r = heard-first c k now source tag first more s h t r

  heard : (c : Settings) (k : Secrets) (now : ℕ) (source : Address) (p : PacketValue) (s : State) → HaveCome A p.chunks → A.tag p.tag → Right s →
      Passes R s (arriving.heard c k now source p s)
  heard c k now source p s h t r =
      either (nat_eq p.destination c.own_port && nat_eq p.source c.far_port) s
      (arriving.heard_all c k now source p.tag p.chunks s) (silent s)
      (heard-all c k now source p.tag p.chunks s h t r) (stays s r)

  -- ---- timers

  unanswered : (c : Settings) (rule : State → Done) (s : State) → Right s → ((left : State) → Right left → Passes R left (rule left)) →
      Passes R s (timers.unanswered c rule s)
  unanswered c rule s r h =
      let failed : State = state.with_association s (record s.association { failures = s.association.failures + 1 }) in
      let f : Follows s failed = unmoved s r in
      either (nat_lt c.retransmissions (s.association.failures + 1)) s (ending.aborted c losses.NoAnswer ending.violation s) (rule failed)
      (aborted c losses.NoAnswer ending.violation s r) (moved s failed (rule failed) f (h failed f.right))

  retry : (t : Option Try) (c : Settings) (now : ℕ) (s : State) → IsBareTry t → Right s → Passes R s (timers.retry t c now s)
  retry None c now s bare r = stays s r
  retry (Some t) c now s bare r =
      either (nat_le t.t1 now) s (opening.tried_again c now t s) (silent s) (tried c now t s bare r) (stays s r)

  tick-t5 : (c : Settings) (now : ℕ) (s : State) → Right s → Passes R s (timers.tick_t5 c now s)
  tick-t5 c now s r =
      either (timers.is_due now s.association.t5) s (ending.aborted c losses.NoAnswer EndedByUser s) (silent s)
      (aborted c losses.NoAnswer EndedByUser s r) (stays s r)

  t2-out : (c : Settings) (now : ℕ) (s : State) → Right s → Passes R s (timers.t2_out c now s)
  t2-out c now s r =
      let waited : Association = timers.with_back_off s.association in
      then-silent s
      (shutdown.awaiting now s.association.phase (timers.shutdown_again s.association.phase s.association) (state.with_association s waited))
      (with-answer (timers.shutdown_again s.association.phase s.association) s
      (record waited { phase = s.association.phase; t2 = Some (now + waited.sender.round_trips.timeout) })
      (again-bare s.association.phase s.association) (unmoved s r))

  tick-t2 : (c : Settings) (now : ℕ) (s : State) → Right s → Passes R s (timers.tick_t2 c now s)
  tick-t2 c now s r =
      let rule : State → Done = λ left. timers.t2_out c now left in
      either (timers.is_due now s.association.t2) s (timers.unanswered c rule s) (silent s)
      (unanswered c rule s r (λ left q. t2-out c now left q)) (stays s r)

  t3-out : (c : Settings) (now : ℕ) (s : State) → Right s → Passes R s (timers.t3_out c now s)
  t3-out c now s r =
      then-silent s (timers.t3_out c now s).left
      (let half = t3-same s.association.sender now in record { same = itself s; half = half; right = r })

  tick-t3 : (c : Settings) (now : ℕ) (s : State) → Right s → Passes R s (timers.tick_t3 c now s)
  tick-t3 c now s r =
      let rule : State → Done = λ left. timers.t3_out c now left in
      either (timers.is_due now s.association.sender.t3) s (timers.unanswered c rule s) (silent s)
      (unanswered c rule s r (λ left q. t3-out c now left q)) (stays s r)

  beat-again : (beat : Option Beat) (c : Settings) (k : Secrets) (now : ℕ) (s : State) → Right s →
      Passes R s (timers.beat_again beat c k now s)
  beat-again None c k now s r = then-silent s (timers.beating k now s) (beating k now s r)
  beat-again (Some beat) c k now s r =
      unanswered c
      (λ left. silent (timers.beating k now (state.with_association left (timers.with_back_off left.association)))) s r
      (λ left q.
      let waited : State = state.with_association left (timers.with_back_off left.association) in
      let f : Follows left waited = unmoved left q in
      then-silent left (timers.beating k now waited) (behind left waited (timers.beating k now waited) f (beating k now waited f.right)))

  not-due : (s : State) → Right s → Passes R s (silent (state.with_association s (record s.association { beat_due = None })))
  not-due s r = then-silent s (state.with_association s (record s.association { beat_due = None })) (unmoved s r)

  beat-in : (phase : Phase) (c : Settings) (k : Secrets) (now : ℕ) (s : State) → Right s → Passes R s (timers.beat_in phase c k now s)
  beat-in Established c k now s r = beat-again s.association.beat c k now s r
  beat-in Closed c k now s r = not-due s r
  beat-in CookieWait c k now s r = not-due s r
  beat-in CookieEchoed c k now s r = not-due s r
  beat-in ShutdownPending c k now s r = not-due s r
  beat-in ShutdownSent c k now s r = not-due s r
  beat-in ShutdownReceived c k now s r = not-due s r
  beat-in ShutdownAckSent c k now s r = not-due s r

  tick-beat : (c : Settings) (k : Secrets) (now : ℕ) (s : State) → Right s → Passes R s (timers.tick_beat c k now s)
  tick-beat c k now s r =
      either (timers.is_due now s.association.beat_due) s (timers.beat_in s.association.phase c k now s) (silent s)
      (beat-in s.association.phase c k now s r) (stays s r)

  ticked : (c : Settings) (k : Secrets) (now : ℕ) (s : State) → Right s → Passes R s (timers.ticked c k now s)
  ticked c k now s r =
      let first : Done = timers.tick_t1 c now s in
      let second : Done = followed_by first (λ left. timers.tick_t5 c now left) in
      let third : Done = followed_by second (λ left. timers.tick_t2 c now left) in
      let fourth : Done = followed_by third (λ left. timers.tick_t3 c now left) in
      next s fourth (λ left. timers.tick_beat c k now left)
      (next s third (λ left. timers.tick_t3 c now left)
      (next s second (λ left. timers.tick_t2 c now left)
      (next s first (λ left. timers.tick_t5 c now left) (retry s.association.trying c now s r.trying r) (λ left q. tick-t5 c now left q))
      (λ left q. tick-t2 c now left q))
      (λ left q. tick-t3 c now left q))
      (λ left q. tick-beat c k now left q)

  -- ---- sending

  sends : (m : Message) (s : State) → A.message m → Right s → Passes R s (silent (sending.send m s))
  sends m s h r = record { kept = steps.gives m s (sending.send m s) h (same-if (sending.may_send m s)); left = right-if (sending.may_send m s) } where
    taken : State
    taken = state.with_association s (record s.association { sender = given s.association.sender m })

    same-if : (b : Bool) → Alike s (if b then taken else s)
    same-if true = itself s
    same-if false = itself s

    right-if : (b : Bool) → Right (if b then taken else s)
    right-if true = r
    right-if false = r

  -- what is acknowledged is reported, and then DATA goes out
  acknowledges : (b : Bool) (t2 : Option ℕ) (s : State) → Right s →
      Passes R s (silent (state.with_association s (if b then record (data_rules.sacked s.association) { t2 = t2 } else s.association)))
  acknowledges true t2 s r =
      let reported : State = state.with_association s (data_rules.sacked s.association) in
      let left : State = state.with_association s (record (data_rules.sacked s.association) { t2 = t2 }) in
      let q : Right reported = record { right = r.right; control = r.control; trying = r.trying } in
      next-there s (silent reported) (λ x. silent left) (record { kept = steps.reports s; left = q }) (then-silent reported left (unmoved reported q))
  acknowledges false t2 s r = then-silent s s (unmoved s r)

  flushed : (c : Settings) (now : ℕ) (s : State) → A.flush → Right s → Passes R s (sending.flush c now s)
  flushed c now s h r =
      let acked : State = state.with_association s (sending.with_acknowledged now s.association) in
      let t : Passes R s (silent acked) = acknowledges (sending.is_acknowledging s.association) (sending.t2_in s.association.phase now s.association) s r in
      let f = data-goes (data_rules.takes_sack acked.association.phase) now acked t.left in
      next-there s (silent acked) (λ left. sending.flush c now s) t
      (record { kept = steps.puts acked (sending.flush c now s).left (sending.flush c now s).sent h f.0; left = f.1 })

  -- ---- all that can happen

  pub happens : (c : Settings) (k : Secrets) (what : Happening) (s : State) → Comes A what → Right s → Passes R s (after c k what s)
  unfolding after
  happens c k (Opens now is_active) s h r = opened-by-user c k now is_active s h r
  happens c k (Came now source packet) s h r = heard c k now source packet s h.0 h.1 r
  happens c k (Ticked now) s h r = ticked c k now s r
  happens c k (Sends message) s h r = sends message s h r
  happens c k Aborts s h r = abort-tells c s r
  happens c k (ShutsDown now) s h r = shutdown-in s.association.phase c now s refl r
  happens c k (Flushes now) s h r = flushed c now s h r
