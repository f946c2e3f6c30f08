-- What each rule does, as moves; and changes that no move sees.
use Rattle.std.proofs.Common.{◌≡◌, ◌≤◌, ◌<◌, inl, inr, ℕ, suc, ◌+◌, ◌%◌, arith, Bool, true, false, List, [], ◌∷◌, ◌++◌, Option, Some, None, length, map, refl, ap, sym, ◌∙◌, subst}
use Rattle.std.specs.Prelude.{slice_get, slice_index_or}
use Rattle.std.specs.List.{Contains}
use Rattle.sctp_codec.specs.Packets as packets
use Rattle.sctp_codec.specs.Packets.{ChunkValue}
use Rattle.sctp_receiving.specs.declared.limits.TheConstants.{CHUNKS}
use Rattle.sctp_receiving.specs.Pieces.{Piece}
use Rattle.sctp_receiving.specs.Receiver.{Receiver}
use Rattle.sctp_sending.specs.Sending.{Sending}
use Rattle.sctp_rules.specs.Settings.{Secrets}
use Rattle.sctp_rules.specs.State.{Association, State, Datagram, Told, Up, Heard, Down, Failed, Done, Try, followed_by}
use Rattle.sctp_rules.specs.Sending.{is_established}
use Rattle.sctp_rules.specs.GivenMessages.{message_of}
use Rattle.sctp_moves.specs.Numbers.{modulus, cumulative}
use Rattle.sctp_moves.specs.Ends.{Message, Name, Epoch, CookieWait, CookieEchoed, End}
use Rattle.sctp_moves.specs.Moves.{EndMoves, last_end, ack_of}
use Rattle.sctp_moves.specs.Openings.{IsQuiet}
use Rattle.sctp_moves.proofs.Standing.{quiet-append}
use Rattle.sctp_moves.proofs.Members.{In, in-from}
use Rattle.sctp_moves.proofs.Keeping.{IsSound, sound-move}
use Rattle.sctp_moves.proofs.Concluded.{far-differ}
use Rattle.sctp_ends.specs.Said.{Each, load, since, never, IsAck, ack_in, IsSaid, AreSaid}
use Rattle.sctp_ends.specs.Shown.{Stage, Off, Waiting, Echoing, There, stage_of, own_name, far_name, IsIn, IsPresent}
use Rattle.sctp_ends.specs.Shown.{SendsOut, TakesIn, IsPlain, Waits, Shows, IsOffered, AreDrawn, own_of}
use Rattle.sctp_ends.specs.Told.{with_last, text_told, told_by, opened_by}
use Rattle.sctp_ends.proofs.Said.{each-append, IsMore, more-same, more-behind, more-all-said}

-- ---- lists of moves

pub moves-append : (other e : End) (list more : List End) → EndMoves other e list → EndMoves other (last_end e list) more →
    EndMoves other e (list ++ more)
moves-append other e [] more m n = n
moves-append other e (f ∷ list) more m n = (m.0, moves-append other f list more m.1 n)

pub last-append : (e : End) (list more : List End) → last_end e (list ++ more) ≡ last_end (last_end e list) more
last-append e [] more = refl
last-append e (f ∷ list) more = last-append f list more

pub sound-on : (other e : End) (list : List End) → EndMoves other e list → IsSound e other → IsSound (last_end e list) other
sound-on other e [] m h = h
sound-on other e (f ∷ list) m h = sound-on other f list m.1 (sound-move e other f m.0 h)

-- ---- what users were told

pub told-append : (lists : List (List Message)) (xs ys : List Told) → told_by lists (xs ++ ys) ≡ told_by (told_by lists xs) ys
told-append lists [] ys = refl
told-append lists (Up ∷ xs) ys = told-append ([] ∷ lists) xs ys
told-append lists (Heard message ∷ xs) ys = told-append (with_last (text_told message) lists) xs ys
told-append lists (Down why ∷ xs) ys = told-append lists xs ys
told-append lists (Failed why ∷ xs) ys = told-append lists xs ys

pub opened-append : (lists : List (List Message)) (xs ys : List Told) → opened_by lists (xs ++ ys) ≡ opened_by (opened_by lists xs) ys
opened-append lists [] ys = refl
opened-append lists (Up ∷ xs) ys = opened-append ([] ∷ lists) xs ys
opened-append lists (Heard message ∷ xs) ys = opened-append lists xs ys
opened-append lists (Down why ∷ xs) ys = opened-append lists xs ys
opened-append lists (Failed why ∷ xs) ys = opened-append lists xs ys

abbrev pub receipts : End → List (List Message)
receipts e = map (λ (epoch : Epoch). epoch.received) e.epochs

abbrev pub gifts : End → List (List Message)
gifts e = map (λ (epoch : Epoch). epoch.sent) e.epochs

-- ---- what a rule does

-- `before` are the messages that were given before Up was told; `begins` says whether the user may begin a try
pub record Outcome (own far : Secrets) (mark : ℕ) (other e : End) (begins : Bool) (before : List (List Message)) (d : Done) : Type 0 where
  pub list : List End
  pub moves : EndMoves other e list
  pub shows : Shows own far mark (last_end e list) d.left
  pub more : IsMore e (last_end e list)
  pub sent : AreSaid own far mark (last_end e list) d.sent
  pub told : receipts (last_end e list) ≡ told_by (receipts e) d.told
  pub given : gifts (last_end e list) ≡ opened_by before d.told
  pub quiet : begins ≡ false → IsQuiet e list

abbrev pub Result : (own far : Secrets) → (mark : ℕ) → (other e : End) → Done → Type 0
Result own far mark other e d = Outcome own far mark other e false (gifts e) d

-- from COOKIE-ECHOED on, the packet that is looked at has this tag
abbrev pub hears : Stage → Bool
hears Off = false
hears Waiting = false
hears Echoing = true
hears There = true

abbrev pub IsTagged : ℕ → State → Type 0
IsTagged tag s = hears (stage_of s.association.phase) ≡ true → s.association.own_tag ≡ tag

-- a rule does what moves do
abbrev pub Does : (own far : Secrets) → (mark : ℕ) → (other : End) → State → Done → Type 0
Does own far mark other s d = (e : End) → IsSound e other → Shows own far mark e s → Result own far mark other e d

-- where the user may begin a try
abbrev pub Starts : (own far : Secrets) → (mark : ℕ) → (other : End) → State → Done → Type 0
Starts own far mark other s d =
    (e : End) → IsSound e other → Shows own far mark e s → Outcome own far mark other e true (gifts e) d

pub loosely : (own far : Secrets) (mark : ℕ) (other : End) (s : State) (d : Done) → Does own far mark other s d → Starts own far mark other s d
loosely own far mark other s d does e sound h =
    let r : Result own far mark other e d = does e sound h in
    record {
      list = r.list;
      moves = r.moves;
      shows = r.shows;
      more = r.more;
      sent = r.sent;
      told = r.told;
      given = r.given;
      quiet = λ q. absurd (cc);
    }

-- and so does one that leaves the own tag, where it is looked at
pub record Goes (own far : Secrets) (mark : ℕ) (other : End) (s : State) (d : Done) : Type 0 where
  pub result : Does own far mark other s d
  pub tagged : (tag : ℕ) → IsTagged tag s → IsTagged tag d.left

-- ---- changes that no move sees

-- a chunk that may wait in this stage, with this cumulative TSN
abbrev pub Stands : Stage → ℕ → ChunkValue → Type 0
Stands Off cumulative chunk = IsPlain chunk
Stands Waiting cumulative chunk = IsPlain chunk
Stands Echoing cumulative chunk = IsPlain chunk
Stands There cumulative packets.CookieAckChunk = Unit {0}
Stands There cumulative (packets.ShutdownChunk number) = number ≡ cumulative
Stands There cumulative chunk = IsPlain chunk

-- a sending half with the same messages, and a receiving half that holds the same
pub record SameOut (s t : Sending) : Type 0 where
  pub out : map message_of s.out ≡ map message_of t.out
  pub first : s.first ≡ t.first
  pub went : s.went ≤ length s.out → t.went ≤ length t.out

pub record SameIn (r q : Receiver) : Type 0 where
  pub streams : r.streams ≡ q.streams
  pub partial : r.partial ≡ q.partial
  pub cumulative : r.cumulative ≡ q.cumulative
  pub held : r.held ≡ q.held

pub out-same : (s : Sending) → SameOut s s
out-same s = record { out = refl; first = refl; went = λ l. l }

pub in-same : (r : Receiver) → SameIn r r
in-same r = record { streams = refl; partial = refl; cumulative = refl; held = refl }

pub record Alike (s left : State) : Type 1 where
  pub generation : s.generation ≡ left.generation
  pub beginnings : s.beginnings ≡ left.beginnings
  pub wanted : s.is_wanted ≡ left.is_wanted
  pub stage : stage_of s.association.phase ≡ stage_of left.association.phase
  pub established : is_established left.association.phase ≡ true → is_established s.association.phase ≡ true
  pub own_tag : s.association.own_tag ≡ left.association.own_tag
  pub own_first : s.association.own_first ≡ left.association.own_first
  pub far_tag : s.association.far_tag ≡ left.association.far_tag
  pub peer : s.association.peer ≡ left.association.peer
  pub sender : SameOut s.association.sender left.association.sender
  pub receiver : SameIn s.association.receiver left.association.receiver
  pub control :
      (P : ChunkValue → Type 0) →
      ((chunk : ChunkValue) → Stands (stage_of s.association.phase) s.association.receiver.cumulative chunk → P chunk) →
      Each P s.association.control → Each P left.association.control
  pub trying :
      (P : List ChunkValue → Type 0) → ((t : Try) → s.association.trying ≡ Some t → P t.chunks) →
      (t : Try) → left.association.trying ≡ Some t → P t.chunks

pub itself : (s : State) → Alike s s
itself s = record {
  generation = refl;
  beginnings = refl;
  wanted = refl;
  stage = refl;
  established = λ e. e;
  own_tag = refl;
  own_first = refl;
  far_tag = refl;
  peer = refl;
  sender = out-same s.association.sender;
  receiver = in-same s.association.receiver;
  control = λ P h g. g;
  trying = λ P h. h;
}

pub alike-behind : (s middle left : State) → Alike s middle → Alike middle left → Alike s left
alike-behind s middle left a b = record {
  generation = a.generation ∙ b.generation;
  beginnings = a.beginnings ∙ b.beginnings;
  wanted = a.wanted ∙ b.wanted;
  stage = a.stage ∙ b.stage;
  established = λ e. a.established (b.established e);
  own_tag = a.own_tag ∙ b.own_tag;
  own_first = a.own_first ∙ b.own_first;
  far_tag = a.far_tag ∙ b.far_tag;
  peer = a.peer ∙ b.peer;
  sender = record {
    out = a.sender.out ∙ b.sender.out;
    first = a.sender.first ∙ b.sender.first;
    went = λ l. b.sender.went (a.sender.went l);
  };
  receiver = record {
    streams = a.receiver.streams ∙ b.receiver.streams;
    partial = a.receiver.partial ∙ b.receiver.partial;
    cumulative = a.receiver.cumulative ∙ b.receiver.cumulative;
    held = a.receiver.held ∙ b.receiver.held;
  };
  control = λ P h g. b.control P
      (λ chunk w. h chunk (subst (λ (stage : Stage). Stands stage s.association.receiver.cumulative chunk) (sym a.stage)
      (subst (λ (n : ℕ). Stands (stage_of middle.association.phase) n chunk) (sym a.receiver.cumulative) w)))
      (a.control P h g);
  trying = λ P h. b.trying P (a.trying P h);
}

-- ---- the halves of an association

pub sends-same : (e : End) (epoch : Epoch) (b c : Bool) (s t : Sending) → (c ≡ true → b ≡ true) → SameOut s t → SendsOut e epoch b s →
    SendsOut e epoch c t
sends-same e epoch b c s t still a h = record {
  all = λ is. h.all (still is);
  given = h.given;
  part = h.part;
  order = record { out = sym a.out ∙ h.order.out; tsn = sym a.first ∙ h.order.tsn; chunks = h.order.chunks };
  went = a.went h.went;
  within = h.within;
  taken = h.taken;
  put = h.put;
}

takes-same : (e : End) (epoch : Epoch) (r q : Receiver) → SameIn r q → TakesIn e epoch r → TakesIn e epoch q
takes-same e epoch r q a h = record {
  streams = sym a.streams ∙ h.streams;
  partial = sym a.partial ∙ h.partial;
  cumulative_is = sym a.cumulative ∙ h.cumulative_is;
  places = ap (λ (held : List (Option Piece)). length held) (sym a.held) ∙ h.places;
  held = λ ahead p low high there. h.held ahead p low high
      (subst (λ (n : ℕ). slice_index_or r.held ((n + ahead) % CHUNKS) None ≡ Some p) (sym a.cumulative)
      (subst (λ (held : List (Option Piece)). slice_index_or held ((q.cumulative + ahead) % CHUNKS) None ≡ Some p) (sym a.held) there));
  acknowledged = h.acknowledged;
}

-- ---- one association

place-of : {X : Type 0} (xs : List X) (x : X) → In x xs → (i : ℕ) × (slice_get xs i ≡ Some x)
place-of [] x m = absurd m
place-of {X = X} (y ∷ ys) x (inl e) = (0, ap (λ (z : X). Some z) (sym e))
place-of (y ∷ ys) x (inr m) = let r = place-of ys x m in (suc r.0, r.1)

some-is : {X : Type 0} (x y : X) → Some x ≡ Some y → x ≡ y
some-is x y e = cc

-- the present association is the only one with its far tag
pub only-one : (e other : End) → IsSound e other → (epoch : Epoch) (past : List Epoch) → e.epochs ≡ epoch ∷ past →
    (g : Epoch) → Contains e.epochs g → g.far.tag ≡ epoch.far.tag → g ≡ epoch
only-one e other sound epoch past now g i t =
    let found : (k : ℕ) × (slice_get e.epochs k ≡ Some g) = place-of e.epochs g (in-from e.epochs g i) in
    let first : slice_get e.epochs 0 ≡ Some epoch = ap (λ (es : List Epoch). slice_get es 0) now in
    let place : found.0 ≡ 0 = far-differ (record { near = e; far = other }) sound found.0 0 g epoch found.1 first t in
    let there : slice_get e.epochs 0 ≡ Some g = subst (λ (k : ℕ). slice_get e.epochs k ≡ Some g) place found.1 in
    some-is g epoch (sym there ∙ first)

-- the acknowledgement of all that was received
pub ack-said : (mark : ℕ) (e other : End) (a : Association) → IsSound e other → mark ≤ load e.epochs → IsPresent e a →
    IsAck (since mark e) e a.far_tag a.receiver.cumulative
ack-said mark e other a sound late h =
    let epoch : Epoch = h.epoch in
    let tag : epoch.far.tag ≡ a.far_tag = ap (λ (n : Name). n.tag) h.far in
    let is : ack_of epoch ≡ ack_in a.far_tag a.receiver.cumulative (length epoch.received) =
    same-ack epoch.far.tag a.far_tag (cumulative epoch.far.first (length epoch.received)) a.receiver.cumulative (length epoch.received)
    tag (sym h.takes.cumulative_is) in
    record {
      count = length epoch.received;
      there = subst (Contains e.acks) is h.takes.acknowledged;
      aged = λ g i t.
          let same : g ≡ epoch = only-one e other sound epoch h.past h.now g i (t ∙ sym tag) in
          let long : length g.received ≡ length epoch.received = ap (λ (k : Epoch). length k.received) same in
          omega (arith, long, late);
    } where
      same-ack : (t u n m count : ℕ) → t ≡ u → n ≡ m → ack_in t n count ≡ ack_in u m count
      same-ack t u n m count x y = cc

own-same : (s left : State) → Alike s left → own_name s.association ≡ own_name left.association
own-same s left a = let t = a.own_tag in let f = a.own_first in cc

far-same : (s left : State) → Alike s left → far_name s.association ≡ far_name left.association
far-same s left a = let t = a.far_tag in let f = a.peer in cc

same-echoed : (m n k l : Name) → m ≡ n → k ≡ l → CookieEchoed m k ≡ CookieEchoed n l
same-echoed m n k l e f = cc

stage-stays : (stage : Stage) (e : End) (s left : State) → Alike s left → IsIn stage e s.is_wanted s.association →
    IsIn stage e left.is_wanted left.association
stage-stays Off e s left a h = record { phase = h.phase; wants = h.wants ∙ a.wanted }
stage-stays Waiting e s left a h = record {
  fits = subst (λ (n : ℕ). n < modulus) a.own_first h.fits;
  phase = h.phase ∙ ap (λ (n : Name). CookieWait n) (own-same s left a);
  wants = h.wants;
  wanted_is = sym a.wanted ∙ h.wanted_is;
}
stage-stays Echoing e s left a h = record {
  fits = subst (λ (n : ℕ). n < modulus) a.own_first h.fits;
  phase = h.phase ∙ same-echoed (own_name s.association) (own_name left.association) (far_name s.association) (far_name left.association) (own-same s left a) (far-same s left a);
  wants = h.wants;
  wanted_is = sym a.wanted ∙ h.wanted_is;
}
stage-stays There e s left a h = record {
  up = h.up;
  epoch = h.epoch;
  past = h.past;
  now = h.now;
  own = h.own ∙ own-same s left a;
  far = h.far ∙ far-same s left a;
  confirmed = subst (Contains e.cookie_acks) a.far_tag h.confirmed;
  sends = sends-same e h.epoch (is_established s.association.phase) (is_established left.association.phase) s.association.sender
      left.association.sender a.established a.sender h.sends;
  takes = takes-same e h.epoch s.association.receiver left.association.receiver a.receiver h.takes;
}

stands-waits : (stage : Stage) (mark : ℕ) (e other : End) (s : State) (chunk : ChunkValue) → IsSound e other → mark ≤ load e.epochs →
    IsIn stage e s.is_wanted s.association → Stands stage s.association.receiver.cumulative chunk →
    Waits stage mark e s.association.far_tag chunk
stands-waits Off mark e other s chunk sound late h w = w
stands-waits Waiting mark e other s chunk sound late h w = w
stands-waits Echoing mark e other s chunk sound late h w = w
stands-waits There mark e other s packets.CookieAckChunk sound late h w = h.confirmed
stands-waits There mark e other s (packets.ShutdownChunk number) sound late h w =
    subst (λ (n : ℕ). IsAck (since mark e) e s.association.far_tag n) (sym w) (ack-said mark e other s.association sound late h)
stands-waits There mark e other s (packets.DataChunk carried) sound late h w = absurd w
stands-waits There mark e other s (packets.SackChunk sack) sound late h w = absurd w
stands-waits There mark e other s (packets.InitChunk init) sound late h w = w
stands-waits There mark e other s (packets.InitAckChunk init) sound late h w = w
stands-waits There mark e other s (packets.HeartbeatChunk information) sound late h w = w
stands-waits There mark e other s (packets.HeartbeatAckChunk information) sound late h w = w
stands-waits There mark e other s (packets.AbortChunk is_reflected causes) sound late h w = w
stands-waits There mark e other s packets.ShutdownAckChunk sound late h w = w
stands-waits There mark e other s (packets.ErrorChunk causes) sound late h w = w
stands-waits There mark e other s (packets.CookieEchoChunk octets) sound late h w = w
stands-waits There mark e other s (packets.ShutdownCompleteChunk is_reflected) sound late h w = w
stands-waits There mark e other s (packets.UnknownChunk kind flags value) sound late h w = w
stands-waits There mark e other s (packets.MalformedChunk kind) sound late h w = w

pub plain-stands : (stage : Stage) (cumulative : ℕ) (chunk : ChunkValue) → IsPlain chunk → Stands stage cumulative chunk
plain-stands Off n chunk p = p
plain-stands Waiting n chunk p = p
plain-stands Echoing n chunk p = p
plain-stands There n packets.CookieAckChunk p = tt
plain-stands There n (packets.ShutdownChunk number) p = absurd p
plain-stands There n (packets.DataChunk carried) p = p
plain-stands There n (packets.SackChunk sack) p = p
plain-stands There n (packets.InitChunk init) p = p
plain-stands There n (packets.InitAckChunk init) p = p
plain-stands There n (packets.HeartbeatChunk information) p = p
plain-stands There n (packets.HeartbeatAckChunk information) p = p
plain-stands There n (packets.AbortChunk is_reflected causes) p = p
plain-stands There n packets.ShutdownAckChunk p = p
plain-stands There n (packets.ErrorChunk causes) p = p
plain-stands There n (packets.CookieEchoChunk octets) p = p
plain-stands There n (packets.ShutdownCompleteChunk is_reflected) p = p
plain-stands There n (packets.UnknownChunk kind flags value) p = p
plain-stands There n (packets.MalformedChunk kind) p = p

module _ (own far : Secrets) (mark : ℕ) (other : End) where
  pub alike-shows : (e : End) (s left : State) → IsSound e other → Alike s left → Shows own far mark e s → Shows own far mark e left
  alike-shows e s left sound a h = record {
    generation = h.generation ∙ a.generation;
    stage = subst (λ (stage : Stage). IsIn stage e left.is_wanted left.association) a.stage (stage-stays (stage_of s.association.phase) e s left a h.stage);
    offered = λ n c. subst (λ (many : ℕ). IsOffered own many n) a.beginnings (h.offered n c);
    drawn = subst (λ (many : ℕ). AreDrawn own many e.phase e.echoes (map own_of e.epochs)) a.beginnings h.drawn;
    control = subst (λ (stage : Stage). Each (Waits stage mark e left.association.far_tag) left.association.control) a.stage
        (subst (λ (tag : ℕ). Each (Waits (stage_of s.association.phase) mark e tag) left.association.control) a.far_tag
        (a.control (Waits (stage_of s.association.phase) mark e s.association.far_tag)
        (λ chunk w. stands-waits (stage_of s.association.phase) mark e other s chunk sound h.later h.stage w) h.control));
    trying = a.trying (λ chunks. IsSaid own far never e left.association.far_tag chunks)
        (λ t q. subst (λ (tag : ℕ). IsSaid own far never e tag t.chunks) a.far_tag (h.trying t q));
    later = h.later;
  }

  pub alike-goes : (s left : State) (sent : List Datagram) → Alike s left →
      ((e : End) → IsSound e other → Shows own far mark e s → AreSaid own far mark e sent) →
      Goes own far mark other s (record { sent = sent; told = []; left = left })
  alike-goes s left sent a says = record {
    result = λ e sound h. record {
      list = [];
      moves = tt;
      shows = alike-shows e s left sound a h;
      more = more-same e;
      sent = says e sound h;
      told = refl;
      given = refl;
      quiet = λ q. tt;
    };
    tagged = λ tag t on. sym a.own_tag ∙ t (ap hears a.stage ∙ on);
  }

  -- a rule, and then another
  pub also-does : (s : State) (d : Done) (rule : State → Done) → Does own far mark other s d → Does own far mark other d.left (rule d.left) →
      Does own far mark other s (followed_by d rule)
  also-does s d rule g h e sound shown =
      together e (g e sound shown)
      (h (last_end e (g e sound shown).list) (sound-on other e (g e sound shown).list (g e sound shown).moves sound) (g e sound shown).shows) where
        together : (e : End) (r : Result own far mark other e d) → Result own far mark other (last_end e r.list) (rule d.left) →
            Result own far mark other e (followed_by d rule)
        together e r q =
            let f : End = last_end e r.list in
            let l : End = last_end f q.list in
            let more : IsMore e l = more-behind e f l r.more q.more in
            let is : last_end e (r.list ++ q.list) ≡ l = last-append e r.list q.list in
            record {
              list = r.list ++ q.list;
              moves = moves-append other e r.list q.list r.moves q.moves;
              shows = subst (λ (x : End). Shows own far mark x (rule d.left).left) (sym is) q.shows;
              more = subst (IsMore e) (sym is) more;
              sent = subst (λ (x : End). AreSaid own far mark x (d.sent ++ (rule d.left).sent)) (sym is)
                  (each-append (λ (x : Datagram). IsSaid own far (since mark l) l x.packet.tag x.packet.chunks) d.sent (rule d.left).sent
                  (more-all-said own far mark f l q.more r.shows.later d.sent r.sent) q.sent);
              told = ap receipts is ∙ q.told ∙ ap (λ (lists : List (List Message)). told_by lists (rule d.left).told) r.told
                  ∙ sym (told-append (receipts e) d.told (rule d.left).told);
              given = ap gifts is ∙ q.given ∙ ap (λ (lists : List (List Message)). opened_by lists (rule d.left).told) r.given
                  ∙ sym (opened-append (gifts e) d.told (rule d.left).told);
              quiet = λ b. quiet-append e r.list q.list (r.quiet b) (q.quiet b);
            }

  pub also : (s : State) (d : Done) (rule : State → Done) → Goes own far mark other s d → Goes own far mark other d.left (rule d.left) →
      Goes own far mark other s (followed_by d rule)
  also s d rule g h = record {
    result = also-does s d rule g.result h.result;
    tagged = λ tag t. h.tagged tag (g.tagged tag t);
  }
