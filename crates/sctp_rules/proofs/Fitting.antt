-- What an endpoint puts out can be written, by one pass over all rules.
use Rattle.std.proofs.Common.{◌≡◌, ◌≢◌, ℕ, zero, suc, ◌+◌, ◌-◌, ◌*◌, ◌%◌, ◌^◌, ◌<◌, ◌≤◌, arith, Bool, true, false, List, [], ◌∷◌, ◌++◌}
use Rattle.std.proofs.Common.{Option, Some, None, refl, length, map, take, drop, get_or, replicate, length-append, nat_eq, nat_le, nat_lt}
use Rattle.std.specs.Prelude.{All, ◌==◌, ◌&&◌, ◌||◌, not, is_some, if◌then◌else◌, slice_index, sum_by}
use Rattle.std.specs.Str.{bytes_eq}
use Rattle.std.specs.List.{list_any}
use Rattle.std.proofs.lemmas.Bool.Decides.{nat_tests}
use Rattle.std.proofs.lemmas.List.Elements.{All-nil, All-cons, All-head, All-tail, All-append, All-set, All-push, All-take, All-drop, All-weaker}
use Rattle.sctp_sending.specs.Outgoing.{Message, Outgoing, no_message, new_outgoing, outgoing_at, gone_out, named_or_not, passed_over, timed_out}
use Rattle.sctp_sending.specs.Sending as half
use Rattle.sctp_sending.specs.Sending.{Sending, given, next_place, gone_next, gone_again, gone_first, confirmation, confirmed, settled, acknowledged}
use Rattle.sctp_sending.specs.Sending.{after_cumulative, after_t3, stopped, named_below, passed_below, naming_of, passing_of, is_named}
use Rattle.sctp_sending.specs.declared.confirmation.Confirmation.{Confirmation}
use Rattle.sctp_sending.specs.declared.confirmation.Confirmation.TheVariants.{Old, Beyond, Of}
use Rattle.sctp_receiving.specs.Pieces.{Piece}
use Rattle.sctp_receiving.specs.Tsn.{next_tsn}
use Rattle.sctp_receiving.specs.Consuming as consuming
use Rattle.sctp_receiving.specs.Receiver as receiving
use Rattle.sctp_receiving.specs.Receiver.{Receiver, drained, received}
use Rattle.sctp_receiving.specs.declared.standing.Standing.{Standing}
use Rattle.sctp_receiving.specs.declared.standing.Standing.TheVariants.{Next, Early, Again, Beyond as BeyondWindow}
use Rattle.sctp_receiving.specs.declared.violation.Violation.{Violation}
use Rattle.sctp_receiving.specs.declared.violation.Violation.TheVariants as violations
use Rattle.sctp_codec.specs.Items.{ItemValue, item_octets, padding_behind}
use Rattle.sctp_codec.specs.Reading.{type_of}
use Rattle.sctp_codec.specs.Packets as packets
use Rattle.sctp_codec.specs.Packets.{ChunkValue, InitValue, SackValue, DataValue, PacketValue}
use Rattle.sctp_codec.specs.Parameters.{CauseValue, InvalidParameter, EndedByUser, NoUserData, CookieInShutdown, StaleCookie, NoStream}
use Rattle.sctp_codec.specs.Parameters.{UnrecognizedChunk, cause_item, cookie_in, host_name_in, has_stale_cookie, information_of, complained_of, listing, answering}
use Rattle.sctp_codec.specs.Parameters.{unrecognized_parameters, reported_in}
use Rattle.sctp_sending.specs.RoundTrips.{first_round_trips}
use Rattle.sctp_codec.specs.Writing.{IsPacket, HasFields, chunk_octets, chunk_item, value_octets}
use Rattle.sctp_codec.proofs.ChunkTexts.{packet-back}
use Rattle.sctp_cookie.specs.declared.cookie.Cookie.{Cookie}
use Rattle.sctp_rules.specs.declared.phase.Phase.{Phase}
use Rattle.sctp_rules.specs.declared.phase.Phase.TheVariants.{Closed, CookieWait, CookieEchoed, Established}
use Rattle.sctp_rules.specs.declared.phase.Phase.TheVariants.{ShutdownPending, ShutdownSent, ShutdownReceived}
use Rattle.sctp_rules.specs.declared.phase.Phase.TheVariants.{ShutdownAckSent}
use Rattle.sctp_rules.specs.declared.loss.Loss.{Loss}
use Rattle.sctp_rules.specs.declared.loss.Loss.TheVariants as losses
use Rattle.sctp_rules.specs.Settings.{Settings, Secrets, Beginning, Address}
use Rattle.sctp_rules.specs.State as state
use Rattle.sctp_rules.specs.State.{Association, State, Done, Try, Beat, Datagram, silent, followed_by, no_association, first_state, packet_to}
use Rattle.sctp_rules.specs.Ending as ending
use Rattle.sctp_rules.specs.Opening as opening
use Rattle.sctp_rules.specs.Confirming as confirming
use Rattle.sctp_rules.specs.Shutdown as shutdown
use Rattle.sctp_rules.specs.Data as data_rules
use Rattle.sctp_rules.specs.Packets as arriving
use Rattle.sctp_rules.specs.Timers as timers
use Rattle.sctp_rules.specs.Sending as sending
use Rattle.sctp_rules.specs.Endpoint.{Happening, Opens, Came, Ticked, Sends, Aborts, ShutsDown, Flushes, after, after_all}
use Rattle.sctp_rules.specs.WrittenPackets.{HasPorts, IsBeginning, HasTags, If, AreFit, HasNumbers, IsFit, Fits, IsWritten, IsRead, packets_are_written, packets_are_read}
use Rattle.sctp_rules.proofs.Written.{IsBundled, IsBundle, packet-of, packet-one, only, abort-chunk, error-chunk, no-address-chunk, report-chunk}
use Rattle.sctp_rules.proofs.Written.{init-packet, answer-packet, sack-chunk, packets-of}

abbrev Is32 : ℕ → Type 0
Is32 n = n < 2 ^ 32

abbrev Is16 : ℕ → Type 0
Is16 n = n < 2 ^ 16

-- ---- the sending half

-- a message that is to go out, and its number on its stream
pub record IsOutgoing (m : Message) (sequence : ℕ) : Type 0 where
  pub stream : m.stream < 2 ^ 16
  pub sequence_fits : sequence < 2 ^ 16
  pub protocol : m.protocol < 2 ^ 32
  pub octets : length m.octets ≤ 290

abbrev IsOut : Outgoing → Type 0
IsOut o = IsOutgoing o.message o.sequence

pub record AreOut (out : List Outgoing) (sequences : List ℕ) : Type 0 where
  pub each : All IsOut out
  pub numbers : All Is16 sequences

abbrev IsSending : Sending → Type 0
IsSending s = AreOut s.out s.sequences

some-at : {A : Type 0} → (P : A → Type 0) (xs : List A) (i : ℕ) (d : A) → P d → All P xs → P (get_or xs i d)
some-at P [] i d p h = p
some-at P (x ∷ xs) zero d p h = All-head P x xs h
some-at P (x ∷ xs) (suc i) d p h = some-at P xs i d p (All-tail P x xs h)

out-at : (out : List Outgoing) (place : ℕ) → All IsOut out → IsOut (outgoing_at out place)
out-at out place h =
    some-at IsOut out place (new_outgoing no_message 0)
    (record { stream = omega arith; sequence_fits = omega arith; protocol = omega arith; octets = omega arith }) h

given-fits : (s : Sending) (m : Message) → m.stream < 2 ^ 16 → m.protocol < 2 ^ 32 → length m.octets ≤ 290 → IsSending s → IsSending (given s m)
unfolding given
given-fits s m stream protocol octets h =
    let number : ℕ = slice_index s.sequences m.stream in
    let fits : number < 2 ^ 16 = some-at Is16 s.sequences m.stream 0 (omega arith) h.numbers in
    record {
      each = All-push IsOut s.out (new_outgoing m number) h.each
          (record { stream = stream; sequence_fits = fits; protocol = protocol; octets = octets });
      numbers = All-set Is16 s.sequences m.stream ((number + 1) % 2 ^ 16) (omega arith) h.numbers;
    }

passed-if : (b : Bool) (o x : Outgoing) → IsOut o → IsOut x → IsOut (if b then o else x)
passed-if true o x h i = h
passed-if false o x h i = i

named-fits : (names : ℕ → Bool) (out : List Outgoing) (n : ℕ) → All IsOut out → All IsOut (named_below names out n).out
unfolding named_below
named-fits names out zero h = h
named-fits names out (suc place) h =
    let before : List Outgoing = (named_below names out place).out in
    let i : All IsOut before = named-fits names out place h in
    All-set IsOut before place (named_or_not (is_named names place) (outgoing_at before place)) (out-at before place i) i

passed-fits : (out : List Outgoing) (n : ℕ) → All IsOut out → All IsOut (passed_below out n).out
unfolding passed_below
passed-fits out zero h = h
passed-fits out (suc place) h =
    let before : List Outgoing = (passed_below out place).out in
    let i : All IsOut before = passed-fits out place h in
    let o : Outgoing = outgoing_at before place in
    All-set IsOut before place (passed_over o) (passed-if (o.named || o.lost) o _ (out-at before place i) (out-at before place i)) i

settled-if : (b d : Bool) (x y z : Sending) → IsSending x → IsSending y → IsSending z → IsSending (if b then x else (if d then y else z))
settled-if true d x y z h i j = h
settled-if false true x y z h i j = i
settled-if false false x y z h i j = j

settled-fits : (s : Sending) (count now : ℕ) → IsSending s → IsSending (settled s count now)
unfolding settled
settled-fits s count now h = settled-if (s.went == 0) (nat_lt 0 count) _ _ s h h h

confirmed-fits : (s : Sending) (count now : ℕ) → IsSending s → IsSending (confirmed s count now)
unfolding confirmed
confirmed-fits s count now h = record { each = All-drop IsOut count s.out h.each; numbers = h.numbers }

acknowledged-fits : (s : Sending) (now window count : ℕ) (names : ℕ → Bool) → IsSending s → IsSending (acknowledged s now window count names)
unfolding acknowledged
acknowledged-fits s now window count names h =
    let left : Sending = confirmed s count now in
    let i : IsSending left = confirmed-fits s count now h in
    let naming : half.Naming = naming_of names left in
    settled-fits _ count now (record {
      each = passed-fits naming.out naming.reach (named-fits names left.out left.went i.each);
      numbers = i.numbers;
    })

sack-fits : (answer : Confirmation) (s : Sending) (now : ℕ) (sack : SackValue) → IsSending s → IsSending (confirming.with_sack_of answer now sack s)
sack-fits Old s now sack h = h
sack-fits Beyond s now sack h = h
sack-fits (Of count) s now sack h = acknowledged-fits s now sack.window count _ h

cumulative-fits : (answer : Confirmation) (s : Sending) (now : ℕ) → IsSending s → IsSending (after_cumulative s now answer)
cumulative-fits Old s now h = h
cumulative-fits Beyond s now h = h
cumulative-fits (Of count) s now h = settled-fits (confirmed s count now) count now (confirmed-fits s count now h)

stopped-fits : (s : Sending) → IsSending s → IsSending (stopped s)
unfolding stopped
stopped-fits s h = record { each = All-take IsOut s.went s.out h.each; numbers = h.numbers }

timed-fits : (out : List Outgoing) → All IsOut out → All IsOut (map timed_out out)
timed-fits [] h = All-nil IsOut
timed-fits (o ∷ out) h = All-cons IsOut (timed_out o) (map timed_out out) (All-head IsOut o out h) (timed-fits out (All-tail IsOut o out h))

t3-fits : (s : Sending) (now : ℕ) → IsSending s → IsSending (after_t3 s now)
unfolding after_t3
t3-fits s now h = record {
  each = All-append IsOut (map timed_out (take s.went s.out)) (drop s.went s.out) (timed-fits (take s.went s.out) (All-take IsOut s.went s.out h.each))
      (All-drop IsOut s.went s.out h.each);
  numbers = h.numbers;
}

gone-if : (b : Bool) (x y : Sending) → IsSending x → IsSending y → IsSending (if b then x else y)
gone-if true x y h i = h
gone-if false x y h i = i

gone-fits : (next : Option ℕ) (s : Sending) (now : ℕ) → IsSending s → IsSending (gone_next s now next)
unfolding gone_again gone_first
gone-fits None s now h = h
gone-fits (Some place) s now h =
    gone-if (nat_lt place s.went) (gone_again s place now) (gone_first s now)
    (record { each = All-set IsOut s.out place (gone_out true (outgoing_at s.out place)) (out-at s.out place h.each) h.each; numbers = h.numbers })
    (record { each = All-set IsOut s.out s.went (gone_out false (outgoing_at s.out s.went)) (out-at s.out s.went h.each) h.each; numbers = h.numbers })

data-chunk : (s : Sending) (place : ℕ) → IsSending s → IsBundled (packets.DataChunk (confirming.data_at s place))
data-chunk s place h =
    let o : IsOut (outgoing_at s.out place) = out-at s.out place h.each in
    record {
      can = record {
        fields = record { tsn = omega arith; stream = o.stream; sequence = o.sequence_fits; protocol = o.protocol };
        fits = let l = o.octets in omega (arith, l);
      };
      no_init = refl;
      no_init_ack = refl;
    }

-- chunks that go out, and the half afterwards
pub record IsGone (g : confirming.Gone) : Type 0 where
  pub chunks_fit : All IsBundled (map packets.DataChunk g.chunks)
  pub left_fits : IsSending g.left

gone-from : (next : Option ℕ) (rest : Sending → confirming.Gone) (now : ℕ) (s : Sending) → IsSending s →
    ((left : Sending) → IsSending left → IsGone (rest left)) → IsGone (confirming.gone_from rest now next s)
gone-from None rest now s h f = record { chunks_fit = All-nil IsBundled; left_fits = gone-fits None s now h }
gone-from (Some place) rest now s h f =
    let more : IsGone (rest (gone_next s now (Some place))) = f (gone_next s now (Some place)) (gone-fits (Some place) s now h) in
    record {
      chunks_fit = All-cons IsBundled (packets.DataChunk (confirming.data_at s place))
          (map packets.DataChunk (rest (gone_next s now (Some place))).chunks) (data-chunk s place h) more.chunks_fit;
      left_fits = more.left_fits;
    }

going-fits : (most now : ℕ) (s : Sending) → IsSending s → IsGone (confirming.going most now s)
unfolding confirming.going
going-fits zero now s h = record { chunks_fit = All-nil IsBundled; left_fits = h }
going-fits (suc most) now s h = gone-from (next_place s) (λ left. confirming.going most now left) now s h (λ left i. going-fits most now left i)

-- ---- the receiving half

pub record AreReceived (cumulative : ℕ) (duplicates : List ℕ) : Type 0 where
  pub last : cumulative < 2 ^ 32
  pub again : All Is32 duplicates
  pub few : length duplicates ≤ 20

abbrev IsReceiver : Receiver → Type 0
IsReceiver r = AreReceived r.cumulative r.duplicates

repeated-if : (b : Bool) (tsn : ℕ) (r : Receiver) → tsn < 2 ^ 32 → (b ≡ true → length r.duplicates < 20) → IsReceiver r →
    IsReceiver (if b then record r { duplicates = r.duplicates ++ tsn ∷ [] } else r)
repeated-if true tsn r t l h = record {
  last = h.last;
  again = All-push Is32 r.duplicates tsn h.again t;
  few = omega (arith, l refl, length-append r.duplicates (tsn ∷ []));
}
repeated-if false tsn r t l h = h

taken-fits : (r : Receiver) (p : Piece) → IsReceiver r → IsReceiver (receiving.taken r p).left
taken-fits r p h = record { last = omega arith; again = h.again; few = h.few }

heard-fits : (stands : Standing) (r : Receiver) (tsn : ℕ) (p : Piece) → tsn < 2 ^ 32 → IsReceiver r → IsReceiver (receiving.heard_as stands r tsn p).left
heard-fits Next r tsn p t h = taken-fits r p h
heard-fits Early r tsn p t h = h
heard-fits Again r tsn p t h = repeated-if (nat_lt (length r.duplicates) 20) tsn r t (λ e. grind (arith, nat_tests, e)) h
heard-fits BeyondWindow r tsn p t h = h

next-fits : (o : Option Piece) (r : Receiver) → IsReceiver r → IsReceiver (receiving.taken_next o r).left
next-fits None r h = h
next-fits (Some p) r h = taken-fits (receiving.with_piece r (next_tsn r.cumulative) None) p h

step-fits : (b : Bool) (step : receiving.Step) (rest : receiving.Steps) → IsReceiver step.left → IsReceiver rest.left →
    IsReceiver (if b then record { left = step.left; told = step.told ∷ [] } else receiving.followed_by step.told rest).left
step-fits true step rest h i = h
step-fits false step rest h i = i

steps-if : (b : Bool) (x y : receiving.Steps) → IsReceiver x.left → IsReceiver y.left → IsReceiver (if b then x else y).left
steps-if true x y h i = h
steps-if false x y h i = i

drained-fits : (many : ℕ) (r : Receiver) → IsReceiver r → IsReceiver (drained many r).left
unfolding drained
drained-fits zero r h = h
drained-fits (suc many) r h =
    let step : receiving.Step = receiving.take_next r in
    let i : IsReceiver step.left = next-fits (receiving.next_held r) r h in
    steps-if (is_some (receiving.next_held r)) (receiving.and_then (λ left. drained many left) step) (record { left = r; told = [] })
    (step-fits (receiving.is_violation step.told) step (drained many step.left) i (drained-fits many step.left i)) h

received-fits : (r : Receiver) (tsn : ℕ) (p : Piece) → tsn < 2 ^ 32 → IsReceiver r → IsReceiver (received r tsn p).left
received-fits r tsn p t h =
    let step : receiving.Step = receiving.hear r tsn p in
    let i : IsReceiver step.left = heard-fits (receiving.standing r tsn p) r tsn p t h in
    step-fits (receiving.is_violation step.told) step (drained 256 step.left) i (drained-fits 256 step.left i)

-- ---- the state

abbrev pub IsTry : Settings → (tag : ℕ) → Option Try → Type 0
IsTry c tag None = Unit {0}
IsTry c tag (Some t) = IsPacket (packet_to c tag t.chunks)

-- the tag of what a try sends
abbrev pub tag_to : (far_tag : ℕ) → ℕ
tag_to far_tag = if nat_eq far_tag 0 then 0 else far_tag

pub record AreKept (c : Settings) (own_tag far_tag own_first : ℕ) (control : List ChunkValue) (trying : Option Try) (cumulative : ℕ)
    (duplicates : List ℕ) (out : List Outgoing) (sequences : List ℕ) : Type 0 where
  pub own : own_tag < 2 ^ 32
  pub far : far_tag < 2 ^ 32
  pub first : own_first < 2 ^ 32
  pub answers : All IsBundled control
  pub try : IsTry c (tag_to far_tag) trying
  pub receives : AreReceived cumulative duplicates
  pub sends : AreOut out sequences

abbrev pub Kept : Settings → Association → Type 0
Kept c a =
    AreKept c a.own_tag a.far_tag a.own_first a.control a.trying a.receiver.cumulative a.receiver.duplicates a.sender.out a.sender.sequences

pub record Puts (c : Settings) (d : Done) : Type 0 where
  pub left : Kept c d.left.association
  pub sent : All IsWritten d.sent

-- ---- chunks that are answered

placed : (chunk : ChunkValue) (n : ℕ) → nat_le (n + length (chunk_octets chunk)) 1024 ≡ true → length (chunk_octets chunk) ≤ 1024
placed chunk n e = grind (arith, nat_tests, e)

sized : (chunk : ChunkValue) → length (chunk_octets chunk) ≤ 1024 → 4 + length (value_octets chunk) ≤ 1024
sized chunk l =
    let all = length-append (item_octets (chunk_item chunk)) (replicate (padding_behind (length (value_octets chunk))) 0) in
    omega (arith, l, all)

plain-chunk : (chunk : ChunkValue) → HasFields chunk → (type_of (chunk_item chunk) == 1) ≡ false → (type_of (chunk_item chunk) == 2) ≡ false →
    length (chunk_octets chunk) ≤ 1024 → IsBundled chunk
plain-chunk chunk f one two l = record {
  can = record { fields = f; fits = let m = sized chunk l in omega (arith, m) };
  no_init = one;
  no_init_ack = two;
}

error-answer : (item : ItemValue) → item.kind < 2 ^ 16 → length (chunk_octets (packets.ErrorChunk (item ∷ []))) ≤ 1024 →
    IsBundled (packets.ErrorChunk (item ∷ []))
error-answer item k l = error-chunk item k (let m = sized (packets.ErrorChunk (item ∷ [])) l in omega (arith, m))

bare-chunk : (chunk : ChunkValue) → HasFields chunk → 4 + length (value_octets chunk) < 2 ^ 16 → (type_of (chunk_item chunk) == 1) ≡ false →
    (type_of (chunk_item chunk) == 2) ≡ false → IsBundled chunk
bare-chunk chunk f l one two = record { can = record { fields = f; fits = l }; no_init = one; no_init_ack = two }

shutdown-ack-chunk : IsBundled packets.ShutdownAckChunk
shutdown-ack-chunk = bare-chunk packets.ShutdownAckChunk tt (omega arith) refl refl

second-true : (x y : Bool) → (x && y) ≡ true → y ≡ true
second-true true y e = e
second-true false y e = absurd (cc)

cookie-fits : (usable : Bool) (cookie : List ℕ) → (usable && opening.fits_echo cookie) ≡ true → length cookie ≤ 1184
cookie-fits usable cookie e =
    let f : nat_le (length cookie) 1184 ≡ true = second-true usable (opening.fits_echo cookie) e in
    grind (arith, nat_tests, f)

stream-fits : (s : Sending) (m : Message) → confirming.can_take s m ≡ true → m.stream < 2 ^ 16
stream-fits s m e = grind (arith, nat_tests, e)

octets-fit : (s : Sending) (m : Message) → confirming.can_take s m ≡ true → length m.octets ≤ 290
octets-fit s m e = grind (arith, nat_tests, e)

-- ---- the pass

module _ (c : Settings) (ports : HasPorts c) where
  -- a chunk that may be answered, if there is a place for it
  abbrev Answers : ChunkValue → Type 0
  Answers chunk = length (chunk_octets chunk) ≤ 1024 → IsBundled chunk

  kept-if : (b : Bool) (x y : Association) → (b ≡ true → Kept c x) → Kept c y → Kept c (if b then x else y)
  kept-if true x y h k = h refl
  kept-if false x y h k = k

  with-control : (a : Association) (control : List ChunkValue) → All IsBundled control → Kept c a → Kept c (record a { control = control })
  with-control a control h k = record {
    own = k.own;
    far = k.far;
    first = k.first;
    answers = h;
    try = k.try;
    receives = k.receives;
    sends = k.sends;
  }

  with-sender : (a : Association) (sender : Sending) → IsSending sender → Kept c a → Kept c (record a { sender = sender })
  with-sender a sender h k = record {
    own = k.own;
    far = k.far;
    first = k.first;
    answers = k.answers;
    try = k.try;
    receives = k.receives;
    sends = h;
  }

  with-receiver : (a : Association) (receiver : Receiver) → IsReceiver receiver → Kept c a → Kept c (record a { receiver = receiver })
  with-receiver a receiver h k = record {
    own = k.own;
    far = k.far;
    first = k.first;
    answers = k.answers;
    try = k.try;
    receives = h;
    sends = k.sends;
  }

  with-answer : (chunk : ChunkValue) (a : Association) → Answers chunk → Kept c a → Kept c (ending.with_answer chunk a)
  with-answer chunk a h k =
      kept-if (ending.has_place a.control chunk) (record a { control = a.control ++ chunk ∷ [] }) a
      (λ e. with-control a (a.control ++ chunk ∷ [])
      (All-push IsBundled a.control chunk k.answers (h (placed chunk (sum_by ending.chunk_size a.control) e))) k) k

  with-answer-first : (chunk : ChunkValue) (a : Association) → Answers chunk → Kept c a → Kept c (ending.with_answer_first chunk a)
  with-answer-first chunk a h k =
      kept-if (ending.has_place a.control chunk) (record a { control = chunk ∷ a.control }) a
      (λ e. with-control a (chunk ∷ a.control)
      (All-cons IsBundled chunk a.control (h (placed chunk (sum_by ending.chunk_size a.control) e)) k.answers) k) k

  none : All IsWritten []
  none = All-nil IsWritten

  silently : (left : State) → Kept c left.association → Puts c (silent left)
  silently left k = record { left = k; sent = none }

  next : (d : Done) (rule : State → Done) → Puts c d → Puts c (rule d.left) → Puts c (followed_by d rule)
  next d rule p q = record { left = q.left; sent = All-append IsWritten d.sent (rule d.left).sent p.sent q.sent }

  and-then : (d : Done) (rule : State → Done) → Puts c d → ((left : State) → Kept c left.association → Puts c (rule left)) → Puts c (followed_by d rule)
  and-then d rule p h = next d rule p (h d.left p.left)

  either : (b : Bool) (d e : Done) → Puts c d → Puts c e → Puts c (if b then d else e)
  either true d e p q = p
  either false d e p q = q

  either-so : (b : Bool) (d e : Done) → (b ≡ true → Puts c d) → Puts c e → Puts c (if b then d else e)
  either-so true d e p q = p refl
  either-so false d e p q = q

  one : (d : Datagram) → IsPacket d.packet → All IsWritten (d ∷ [])
  one d h = All-cons IsWritten d [] h none

  putting : (to : Address) (tag : ℕ) (chunk : ChunkValue) (s : State) → tag < 2 ^ 32 → IsBundled chunk → Kept c s.association →
      Puts c (state.put c to tag (chunk ∷ []) s)
  putting to tag chunk s t h k = record { left = k; sent = one (state.datagram_to c to tag (chunk ∷ [])) (packet-one c tag chunk ports t h) }

  -- ---- the end

  kept-none : Kept c (no_association c)
  kept-none = record {
    own = omega arith;
    far = omega arith;
    first = omega arith;
    answers = All-nil IsBundled;
    try = tt;
    receives = record { last = omega arith; again = All-nil Is32; few = omega arith };
    sends = record { each = All-nil IsOut; numbers = All-cons Is16 0 (0 ∷ []) (omega arith) (All-cons Is16 0 [] (omega arith) (All-nil Is16)) };
  }

  if-there : (b : Bool) (d : Datagram) → IsPacket d.packet → All IsWritten (if b then d ∷ [] else [])
  if-there true d h = one d h
  if-there false d h = none

  last-words : (a : Association) (chunks : List ChunkValue) → a.far_tag < 2 ^ 32 → All IsBundled chunks → All IsWritten (ending.last_words c a chunks)
  last-words a [] t h = none
  last-words a (chunk ∷ chunks) t h =
      if-there (ending.has_peer a.phase) (state.datagram_to c a.address a.far_tag (chunk ∷ chunks))
      (packet-of c a.far_tag (chunk ∷ chunks) ports t (λ e. absurd (cc)) h)

  ended-with : (why : Loss) (chunks : List ChunkValue) (s : State) → All IsBundled chunks → Kept c s.association → Puts c (ending.ended_with c why chunks s)
  ended-with why chunks s h k = record {
    left = kept-none;
    sent = last-words s.association (s.association.control ++ chunks) k.far (All-append IsBundled s.association.control chunks k.answers h);
  }

  ended : (why : Loss) (s : State) → Kept c s.association → Puts c (ending.ended c why s)
  ended why s k = ended-with why [] s (All-nil IsBundled) k

  ended-alone : (why : Loss) (chunks : List ChunkValue) (s : State) → All IsBundled chunks → Kept c s.association → Puts c (ending.ended_alone c why chunks s)
  ended-alone why chunks s h k = ended-with why chunks (ending.without_answers s) h (with-control s.association [] (All-nil IsBundled) k)

  aborted : (why : Loss) (cause : CauseValue) (s : State) → length (cause_item cause).value < 2 ^ 15 → Kept c s.association → Puts c (ending.aborted c why cause s)
  aborted why cause s l k = ended-with why (ending.abort_for cause ∷ []) s (only IsBundled (ending.abort_for cause) (abort-chunk cause l)) k

  violated : (why : Loss) (s : State) → Kept c s.association → Puts c (ending.aborted c why ending.violation s)
  violated why s k = aborted why ending.violation s (omega arith) k

  abort : (s : State) → Kept c s.association → Puts c (ending.abort c s)
  abort s k = aborted losses.Local EndedByUser s (omega arith) k

  -- ---- a try

  trying : (now failures : ℕ) (chunks : List ChunkValue) (s : State) →
      IsPacket (packet_to c (opening.tag_of_try s.association) chunks) → Kept c s.association → Puts c (opening.trying_with c now failures chunks s)
  trying now failures chunks s h k = record {
    left = record { own = k.own; far = k.far; first = k.first; answers = k.answers; try = h; receives = k.receives; sends = k.sends };
    sent = one (state.datagram_to c s.association.address (opening.tag_of_try s.association) chunks) h;
  }

  abbrev in-try : Beginning → Address → State → State
  in-try b address s = record s {
    is_wanted = true;
    beginnings = s.beginnings + 1;
    association = record (no_association c) { phase = CookieWait; own_tag = b.tag; own_first = b.first; address = address };
  }

  begun-with : (b : Option Beginning) (now failures : ℕ) (address : Address) (s : State) → If IsBeginning b → Kept c s.association →
      Puts c (opening.begun_with c now failures address b s)
  begun-with None now failures address s h k = ended losses.NoTag s k
  begun-with (Some b) now failures address s h k =
      trying now failures (packets.InitChunk (opening.init_of b (listing c.addresses)) ∷ []) (in-try b address s) (init-packet c b ports h)
      (record {
        own = h.tag;
        far = omega arith;
        first = h.first;
        answers = All-nil IsBundled;
        try = tt;
        receives = kept-none.receives;
        sends = kept-none.sends;
      })

  anew-with : (b : Option Beginning) (now failures : ℕ) (address : Address) (s : State) → If IsBeginning b → Kept c s.association →
      Puts c (opening.begun_anew_with c now failures address b s)
  anew-with None now failures address s h k = ended losses.NoTag s k
  anew-with (Some b) now failures address s h k = begun-with (Some b) now failures address (record s { generation = s.generation + 1 }) h k

  retried : (now : ℕ) (t : Try) (s : State) → IsPacket (packet_to c (opening.tag_of_try s.association) t.chunks) → Kept c s.association →
      Puts c (opening.tried_again c now t s)
  retried now t s h k =
      let waited : State = state.with_association s (timers.with_back_off s.association) in
      either (nat_lt c.init_retransmissions (t.failures + 1)) (ending.ended c losses.NoAnswer s)
      (opening.trying_with c now (t.failures + 1) t.chunks waited)
      (ended losses.NoAnswer s k) (trying now (t.failures + 1) t.chunks waited h k)

  -- ---- INIT comes

  answered-with : (k : Secrets) (now : ℕ) (source : Address) (init : InitValue) (b : Beginning) (s : State) → AreFit k → init.tag < 2 ^ 32 →
      IsBeginning b → Kept c s.association → Puts c (opening.answered_with c k now source init b s)
  answered-with k now source init b s fits t h kept =
      let cookie : Cookie = opening.cookie_for c now s b init in
      record {
        left = kept;
        sent = one (state.datagram_to c source init.tag (packets.InitAckChunk (opening.init_of b (answering c.addresses (k.signed cookie) init.parameters)) ∷ []))
            (answer-packet c init.tag b (k.signed cookie) init.parameters ports t h (fits.signed cookie));
      }

  answered-anew : (b : Option Beginning) (k : Secrets) (now : ℕ) (source : Address) (init : InitValue) (s : State) → AreFit k → init.tag < 2 ^ 32 →
      If IsBeginning b → Kept c s.association → Puts c (opening.answered_anew_with c k now source init b s)
  answered-anew None k now source init s fits t h kept = silently s kept
  answered-anew (Some b) k now source init s fits t h kept = answered-with k now source init b s fits t h kept

  answered-alike : (k : Secrets) (now : ℕ) (source : Address) (init : InitValue) (s : State) → AreFit k → init.tag < 2 ^ 32 →
      Kept c s.association → Puts c (opening.answered_alike c k now source init s)
  answered-alike k now source init s fits t kept =
      answered-with k now source init (opening.own_beginning s.association) s fits t (record { tag = kept.own; first = kept.first }) kept

  answered-echoed : (k : Secrets) (now : ℕ) (source : Address) (init : InitValue) (s : State) → AreFit k → init.tag < 2 ^ 32 →
      Kept c s.association → Puts c (opening.answered_echoed c k now source init s)
  answered-echoed k now source init s fits t kept =
      either (nat_eq init.tag s.association.far_tag) (opening.answered_alike c k now source init s)
      (opening.answered_anew c k now source init s) (answered-alike k now source init s fits t kept)
      (answered-anew (k.beginning s.beginnings) k now source init s fits t (fits.beginnings s.beginnings) kept)

  init-in : (phase : Phase) (k : Secrets) (now : ℕ) (source : Address) (init : InitValue) (s : State) → AreFit k → init.tag < 2 ^ 32 →
      Kept c s.association → Puts c (opening.init_in phase c k now source init s)
  init-in Closed k now source init s fits t kept =
      either s.is_wanted (opening.answered_anew c k now source init s) (silent s)
      (answered-anew (k.beginning s.beginnings) k now source init s fits t (fits.beginnings s.beginnings) kept) (silently s kept)
  init-in CookieWait k now source init s fits t kept = answered-alike k now source init s fits t kept
  init-in CookieEchoed k now source init s fits t kept = answered-echoed k now source init s fits t kept
  init-in Established k now source init s fits t kept = answered-anew (k.beginning s.beginnings) k now source init s fits t (fits.beginnings s.beginnings) kept
  init-in ShutdownPending k now source init s fits t kept = answered-anew (k.beginning s.beginnings) k now source init s fits t (fits.beginnings s.beginnings) kept
  init-in ShutdownSent k now source init s fits t kept = answered-anew (k.beginning s.beginnings) k now source init s fits t (fits.beginnings s.beginnings) kept
  init-in ShutdownReceived k now source init s fits t kept = answered-anew (k.beginning s.beginnings) k now source init s fits t (fits.beginnings s.beginnings) kept
  init-in ShutdownAckSent k now source init s fits t kept =
      putting s.association.address s.association.far_tag packets.ShutdownAckChunk s kept.far shutdown-ack-chunk kept

  judged-init : (name : Option (List ℕ)) (k : Secrets) (now : ℕ) (source : Address) (init : InitValue) (s : State) → AreFit k → init.tag < 2 ^ 32 →
      Kept c s.association → Puts c (opening.judged_init name c k now source init s)
  judged-init (Some name) k now source init s fits t kept =
      putting source init.tag (ending.abort_for (opening.no_address name)) s t (no-address-chunk name) kept
  judged-init None k now source init s fits t kept =
      either (opening.has_few_streams init) (state.put c source init.tag (ending.abort_for InvalidParameter ∷ []) s)
      (opening.init_in s.association.phase c k now source init s)
      (putting source init.tag (ending.abort_for InvalidParameter) s t (abort-chunk InvalidParameter (omega arith)) kept)
      (init-in s.association.phase k now source init s fits t kept)

  heard-init : (k : Secrets) (now : ℕ) (source : Address) (init : InitValue) (s : State) → AreFit k → init.tag < 2 ^ 32 →
      Kept c s.association → Puts c (opening.heard_init c k now source init s)
  heard-init k now source init s fits t kept =
      either (nat_eq init.tag 0) (silent s) (opening.judged_init (host_name_in init.parameters) c k now source init s) (silently s kept)
      (judged-init (host_name_in init.parameters) k now source init s fits t kept)

  -- ---- INIT ACK comes

  refused : (init : InitValue) (s : State) → init.tag < 2 ^ 32 → Kept c s.association → Puts c (opening.refused c init s)
  refused init s t kept =
      let told : Done = state.put c s.association.address init.tag (ending.abort_for InvalidParameter ∷ []) s in
      let rule : State → Done = λ left. ending.ended c losses.BadInitAck left in
      either (nat_eq init.tag 0) (ending.ended c losses.BadInitAck s) (followed_by told rule) (ended losses.BadInitAck s kept)
      (next told rule
      (putting s.association.address init.tag (ending.abort_for InvalidParameter) s t (abort-chunk InvalidParameter (omega arith)) kept)
      (ended losses.BadInitAck s kept))

  cookie-chunk : (cookie : List ℕ) → length cookie ≤ 1184 → IsBundled (packets.CookieEchoChunk cookie)
  cookie-chunk cookie l = record { can = record { fields = tt; fits = omega (arith, l) }; no_init = refl; no_init_ack = refl }

  some-echo : (cookie : List ℕ) (items : List ItemValue) → opening.echo_of cookie items ≢ []
  some-echo cookie items = λ e. absurd (cc)

  report-chunks : (b : Bool) (items : List ItemValue) → IsBundled (packets.ErrorChunk (unrecognized_parameters items ∷ [])) →
      All IsBundled (if b then opening.reports_of items else [])
  report-chunks false items h = All-nil IsBundled
  report-chunks true [] h = All-nil IsBundled
  report-chunks true (item ∷ items) h = only IsBundled (packets.ErrorChunk (unrecognized_parameters (item ∷ items) ∷ [])) h

  echo-chunks : (cookie : List ℕ) (items : List ItemValue) → length cookie ≤ 1184 →
      IsBundled (packets.ErrorChunk (unrecognized_parameters items ∷ [])) → All IsBundled (opening.echo_of cookie items)
  echo-chunks cookie items l h =
      let short : Bool = nat_le (length cookie) 660 in
      All-cons IsBundled (packets.CookieEchoChunk cookie) (if short then opening.reports_of items else []) (cookie-chunk cookie l)
      (report-chunks short items h)

  tag-fits : (b : Bool) (tag : ℕ) → tag < 2 ^ 32 → (if b then 0 else tag) < 2 ^ 32
  tag-fits true tag t = omega arith
  tag-fits false tag t = t

  echoed : (now failures : ℕ) (init : InitValue) (cookie : List ℕ) (s : State) → init.tag < 2 ^ 32 → length cookie ≤ 1184 → Kept c s.association →
      Puts c (opening.echoed c now failures init cookie s)
  echoed now failures init cookie s t l kept =
      let items : List ItemValue = complained_of init.parameters in
      let chunks : List ChunkValue = opening.echo_of cookie items in
      let a : Association = s.association in
      let left : State = state.with_association s (record a {
        phase = CookieEchoed;
        far_tag = init.tag;
        peer = opening.peer_of init;
        sender = record a.sender { round_trips = first_round_trips c.bounds };
      }) in
      let packet : IsPacket (packet_to c (opening.tag_of_try left.association) chunks) =
      packet-of c (opening.tag_of_try left.association) chunks ports (tag-fits (nat_eq init.tag 0) init.tag t) (some-echo cookie items)
      (echo-chunks cookie items l (report-chunk (reported_in init.parameters))) in
      record {
        left = record { own = kept.own; far = t; first = kept.first; answers = kept.answers; try = packet; receives = kept.receives; sends = kept.sends };
        sent = one (state.datagram_to c a.address (opening.tag_of_try left.association) chunks) packet;
      }

  echoed-if : (t : Option Try) (cookie : Option (List ℕ)) (now : ℕ) (init : InitValue) (s : State) → init.tag < 2 ^ 32 → Kept c s.association →
      Puts c (opening.echoed_if c now init t cookie s)
  echoed-if None None now init s l kept = silently s kept
  echoed-if None (Some cookie) now init s l kept = silently s kept
  echoed-if (Some t) None now init s l kept = refused init s l kept
  echoed-if (Some t) (Some cookie) now init s l kept =
      either-so (opening.is_usable init && opening.fits_echo cookie) (opening.echoed c now t.failures init cookie s) (opening.refused c init s)
      (λ e. echoed now t.failures init cookie s l (cookie-fits (opening.is_usable init) cookie e) kept) (refused init s l kept)

  heard-init-ack : (now : ℕ) (init : InitValue) (s : State) → init.tag < 2 ^ 32 → Kept c s.association → Puts c (opening.heard_init_ack c now init s)
  heard-init-ack now init s l kept =
      either (opening.is_waiting s.association.phase) (opening.echoed_if c now init s.association.trying (cookie_in init.parameters) s) (silent s)
      (echoed-if s.association.trying (cookie_in init.parameters) now init s l kept) (silently s kept)

  -- ---- the association opens

  opened : (now own_tag far_tag own_first : ℕ) (peer : state.Peer) (address : Address) (s : State) → own_tag < 2 ^ 32 → far_tag < 2 ^ 32 →
      own_first < 2 ^ 32 → Puts c (opening.opened c now own_tag far_tag own_first peer address s)
  opened now own_tag far_tag own_first peer address s own far first = record {
    left = record {
      own = own;
      far = far;
      first = first;
      answers = All-nil IsBundled;
      try = tt;
      receives = record { last = omega arith; again = All-nil Is32; few = omega arith };
      sends = kept-none.sends;
    };
    sent = none;
  }

  heard-cookie-ack : (now : ℕ) (s : State) → Kept c s.association → Puts c (opening.heard_cookie_ack c now s)
  heard-cookie-ack now s kept =
      let a : Association = s.association in
      either (opening.is_echoed a.phase) (opening.opened c now a.own_tag a.far_tag a.own_first a.peer a.address s) (silent s)
      (opened now a.own_tag a.far_tag a.own_first a.peer a.address s kept.own kept.far kept.first) (silently s kept)

  answered : (chunk : ChunkValue) (s : State) → Answers chunk → Kept c s.association → Puts c (silent (ending.answered chunk s))
  answered chunk s h kept = silently (ending.answered chunk s) (with-answer chunk s.association h kept)

  -- ---- COOKIE ECHO comes

  error-for : (cause : CauseValue) → (cause_item cause).kind < 2 ^ 16 → length (cause_item cause).value < 2 ^ 15 →
      IsBundled (packets.ErrorChunk (cause_item cause ∷ []))
  error-for cause kind l = error-chunk (cause_item cause) kind l

  stale : (source : Address) (microseconds : ℕ) (cookie : Cookie) (s : State) → HasTags cookie → Kept c s.association →
      Puts c (opening.stale c source microseconds cookie s)
  stale source microseconds cookie s h kept =
      putting source cookie.peer_tag (packets.ErrorChunk (cause_item (StaleCookie microseconds) ∷ [])) s h.far
      (error-for (StaleCookie microseconds) (omega arith) (omega arith)) kept

  restart : (source : Address) (cookie : Cookie) (s : State) → HasTags cookie → Kept c s.association →
      Puts c (followed_by (ending.ended c losses.Restart s) (λ left. opening.stale c source 1 cookie left))
  restart source cookie s h kept =
      and-then (ending.ended c losses.Restart s) (λ left. opening.stale c source 1 cookie left) (ended losses.Restart s kept)
      (λ left q. stale source 1 cookie left h q)

  restarted : (phase : Phase) (source : Address) (cookie : Cookie) (s : State) → HasTags cookie → Kept c s.association →
      Puts c (opening.restarted phase c source cookie s)
  restarted ShutdownAckSent source cookie s h kept =
      let again : Done = state.put c s.association.address s.association.far_tag (packets.ShutdownAckChunk ∷ []) s in
      let error : ChunkValue = packets.ErrorChunk (cause_item CookieInShutdown ∷ []) in
      and-then again (λ left. state.put c source cookie.peer_tag (error ∷ []) left)
      (putting s.association.address s.association.far_tag packets.ShutdownAckChunk s kept.far shutdown-ack-chunk kept)
      (λ left q. putting source cookie.peer_tag error left h.far (error-for CookieInShutdown (omega arith) (omega arith)) q)
  restarted Closed source cookie s h kept = restart source cookie s h kept
  restarted CookieWait source cookie s h kept = restart source cookie s h kept
  restarted CookieEchoed source cookie s h kept = restart source cookie s h kept
  restarted Established source cookie s h kept = restart source cookie s h kept
  restarted ShutdownPending source cookie s h kept = restart source cookie s h kept
  restarted ShutdownSent source cookie s h kept = restart source cookie s h kept
  restarted ShutdownReceived source cookie s h kept = restart source cookie s h kept

  echo-either : (b : Bool) (x y : opening.Echo) → Puts c x.does → Puts c y.does → Puts c (if b then x else y).does
  echo-either true x y p q = p
  echo-either false x y p q = q

  cookie-ack-chunk : IsBundled packets.CookieAckChunk
  cookie-ack-chunk = bare-chunk packets.CookieAckChunk tt (omega arith) refl refl

  opened-by : (now : ℕ) (source : Address) (cookie : Cookie) (s : State) → HasTags cookie → Puts c (opening.opened_by c now source cookie s).does
  opened-by now source cookie s h =
      let peer : state.Peer = record { first = cookie.peer_first_tsn; window = cookie.peer_window } in
      let up : Done = opening.opened c now cookie.own_tag cookie.peer_tag cookie.own_first_tsn peer source s in
      and-then up (λ left. silent (ending.answered packets.CookieAckChunk left))
      (opened now cookie.own_tag cookie.peer_tag cookie.own_first_tsn peer source s h.own h.far h.first)
      (λ left q. answered packets.CookieAckChunk left (λ l. cookie-ack-chunk) q)

  echo-in : (phase : Phase) (source : Address) (cookie : Cookie) (s : State) → HasTags cookie → Kept c s.association →
      Puts c (opening.echo_in_association phase c source cookie s).does
  echo-in phase source cookie s h kept =
      let a : Association = s.association in
      echo-either (not (opening.is_own cookie a) && not (opening.is_far cookie a) && opening.is_tied cookie a)
      (opening.stops (opening.restarted phase c source cookie s)) (opening.stops (silent s))
      (restarted phase source cookie s h kept) (silently s kept)

  given-up : (source : Address) (cookie : Cookie) (s : State) → HasTags cookie → Puts c (opening.given_up c source cookie s)
  given-up source cookie s h =
      let left : State = record s { generation = s.generation + 1; association = no_association c } in
      and-then (silent left) (λ x. opening.stale c source 1 cookie x) (silently left kept-none) (λ x q. stale source 1 cookie x h q)

  echo-in-try : (now : ℕ) (source : Address) (cookie : Cookie) (s : State) → HasTags cookie → Puts c (opening.echo_in_try c now source cookie s).does
  echo-in-try now source cookie s h =
      let a : Association = s.association in
      echo-either (opening.is_own cookie a && opening.is_far cookie a) (opening.opened_by c now source cookie s)
      (opening.stops (opening.given_up c source cookie s)) (opened-by now source cookie s h) (given-up source cookie s h)

  good-echo : (phase : Phase) (k : Secrets) (now : ℕ) (source : Address) (cookie : Cookie) (s : State) → HasTags cookie → Kept c s.association →
      Puts c (opening.good_echo_in phase c k now source cookie s).does
  good-echo Closed k now source cookie s h kept =
      echo-either (s.is_wanted && opening.is_next (k.beginning s.beginnings) cookie.own_tag)
      (opening.opened_by c now source cookie (opening.drawn_next s)) (opening.stops (silent s))
      (opened-by now source cookie (opening.drawn_next s) h) (silently s kept)
  good-echo CookieWait k now source cookie s h kept =
      echo-either (opening.is_own cookie s.association) (opening.opened_by c now source cookie s) (opening.stops (silent s))
      (opened-by now source cookie s h) (silently s kept)
  good-echo CookieEchoed k now source cookie s h kept = echo-in-try now source cookie s h
  good-echo Established k now source cookie s h kept = echo-in Established source cookie s h kept
  good-echo ShutdownPending k now source cookie s h kept = echo-in ShutdownPending source cookie s h kept
  good-echo ShutdownSent k now source cookie s h kept = echo-in ShutdownSent source cookie s h kept
  good-echo ShutdownReceived k now source cookie s h kept = echo-in ShutdownReceived source cookie s h kept
  good-echo ShutdownAckSent k now source cookie s h kept = echo-in ShutdownAckSent source cookie s h kept

  heard-cookie : (k : Secrets) (now : ℕ) (source : Address) (cookie : Cookie) (s : State) → HasTags cookie → Kept c s.association →
      Puts c (opening.heard_cookie c k now source cookie s).does
  heard-cookie k now source cookie s h kept =
      let a : Association = s.association in
      let good : opening.Echo = opening.good_echo_in a.phase c k now source cookie s in
      let old : opening.Echo = opening.stops (opening.stale c source 1 cookie s) in
      let late : opening.Echo = opening.stops (opening.stale c source (opening.staleness now cookie) cookie s) in
      let fresh : opening.Echo = if nat_eq cookie.generation s.generation then good else old in
      echo-either (opening.is_there a.phase && opening.is_own cookie a && opening.is_far cookie a) (opening.acknowledged_again s)
      (if nat_lt cookie.life (now - cookie.made) then late else fresh)
      (silently (state.with_association s (ending.with_answer_first packets.CookieAckChunk a))
      (with-answer-first packets.CookieAckChunk a (λ l. cookie-ack-chunk) kept))
      (echo-either (nat_lt cookie.life (now - cookie.made)) late fresh (stale source (opening.staleness now cookie) cookie s h kept)
      (echo-either (nat_eq cookie.generation s.generation) good old (good-echo a.phase k now source cookie s h kept) (stale source 1 cookie s h kept)))

  heard-echo : (cookie : Option Cookie) (k : Secrets) (now tag : ℕ) (source : Address) (s : State) → If HasTags cookie → Kept c s.association →
      Puts c (opening.heard_echo_of cookie c k now tag source s).does
  heard-echo None k now tag source s h kept = silently s kept
  heard-echo (Some cookie) k now tag source s h kept =
      echo-either (nat_eq cookie.own_tag tag && nat_eq cookie.peer_port c.far_port) (opening.heard_cookie c k now source cookie s)
      (opening.stops (silent s)) (heard-cookie k now source cookie s h kept) (silently s kept)

  -- ---- ERROR comes

  after-stale : (t : Option Try) (k : Secrets) (now : ℕ) (s : State) → AreFit k → Kept c s.association → Puts c (opening.begun_after_stale c k now t s)
  after-stale None k now s fits kept = silently s kept
  after-stale (Some t) k now s fits kept =
      either (nat_lt c.init_retransmissions (t.failures + 1)) (ending.ended c losses.StaleCookie s)
      (opening.begun_anew c k now (t.failures + 1) c.address s) (ended losses.StaleCookie s kept)
      (anew-with (k.beginning s.beginnings) now (t.failures + 1) c.address s (fits.beginnings s.beginnings) kept)

  heard-error : (k : Secrets) (now : ℕ) (causes : List ItemValue) (s : State) → AreFit k → Kept c s.association → Puts c (opening.heard_error c k now causes s)
  heard-error k now causes s fits kept =
      either (opening.is_echoed s.association.phase && has_stale_cookie causes) (opening.begun_after_stale c k now s.association.trying s) (silent s)
      (after-stale s.association.trying k now s fits kept) (silently s kept)

  -- ---- shutting down

  shutdown-chunk : (cumulative : ℕ) → cumulative < 2 ^ 32 → IsBundled (packets.ShutdownChunk cumulative)
  shutdown-chunk cumulative l = bare-chunk (packets.ShutdownChunk cumulative) l (omega arith) refl refl

  going-on-in : (phase : Phase) (now : ℕ) (s : State) → Kept c s.association → Kept c (shutdown.going_on_in phase c now s).association
  going-on-in ShutdownPending now s kept =
      let a : Association = s.association in
      with-answer (shutdown.shutdown_of a)
      (record a { t5 = Some (now + 5 * c.bounds.most); phase = ShutdownSent; t2 = Some (now + a.sender.round_trips.timeout) })
      (λ l. shutdown-chunk a.receiver.cumulative (let r = kept.receives in r.last)) kept
  going-on-in ShutdownReceived now s kept =
      let a : Association = s.association in
      with-answer packets.ShutdownAckChunk (record a { phase = ShutdownAckSent; t2 = Some (now + a.sender.round_trips.timeout) })
      (λ l. shutdown-ack-chunk) kept
  going-on-in Closed now s kept = kept
  going-on-in CookieWait now s kept = kept
  going-on-in CookieEchoed now s kept = kept
  going-on-in Established now s kept = kept
  going-on-in ShutdownSent now s kept = kept
  going-on-in ShutdownAckSent now s kept = kept

  state-if : (b : Bool) (x y : State) → Kept c x.association → Kept c y.association → Kept c (if b then x else y).association
  state-if true x y h i = h
  state-if false x y h i = i

  going-on : (now : ℕ) (s : State) → Kept c s.association → Kept c (shutdown.going_on c now s).association
  going-on now s kept =
      state-if (nat_eq (length s.association.sender.out) 0) (shutdown.going_on_in s.association.phase c now s) s
      (going-on-in s.association.phase now s kept) kept

  shutdown-in : (phase : Phase) (now : ℕ) (s : State) → Kept c s.association → Puts c (shutdown.shutdown_in phase c now s)
  shutdown-in Closed now s kept = abort s kept
  shutdown-in CookieWait now s kept = abort s kept
  shutdown-in CookieEchoed now s kept = abort s kept
  shutdown-in Established now s kept =
      let pending : State = state.with_association s (record s.association { phase = ShutdownPending }) in
      silently (shutdown.going_on c now pending) (going-on now pending kept)
  shutdown-in ShutdownPending now s kept = silently s kept
  shutdown-in ShutdownSent now s kept = silently s kept
  shutdown-in ShutdownReceived now s kept = silently s kept
  shutdown-in ShutdownAckSent now s kept = silently s kept

  confirms : (now cumulative : ℕ) (s : State) → Kept c s.association → Kept c (shutdown.with_confirmed now cumulative s).association
  confirms now cumulative s kept =
      let half : Sending = s.association.sender in
      with-sender s.association (after_cumulative half now (confirmation half cumulative))
      (cumulative-fits (confirmation half cumulative) half now kept.sends) kept

  shutdown-received : (now : ℕ) (s : State) → Kept c s.association → Puts c (shutdown.then_going_on c now (shutdown.shutdown_received s))
  shutdown-received now s kept =
      let received : State = (shutdown.shutdown_received s).left in
      let stopped-so : Kept c received.association = with-sender s.association (stopped s.association.sender) (stopped-fits s.association.sender kept.sends) kept in
      record { left = going-on now received stopped-so; sent = none }

  heard-shutdown-in : (phase : Phase) (now cumulative : ℕ) (s : State) → Kept c s.association → Puts c (shutdown.heard_shutdown_in phase c now cumulative s)
  heard-shutdown-in Established now cumulative s kept =
      shutdown-received now (shutdown.with_confirmed now cumulative s) (confirms now cumulative s kept)
  heard-shutdown-in ShutdownPending now cumulative s kept =
      shutdown-received now (shutdown.with_confirmed now cumulative s) (confirms now cumulative s kept)
  heard-shutdown-in ShutdownReceived now cumulative s kept =
      let confirmed : State = shutdown.with_confirmed now cumulative s in
      silently (shutdown.going_on c now confirmed) (going-on now confirmed (confirms now cumulative s kept))
  heard-shutdown-in ShutdownSent now cumulative s kept =
      let a : Association = s.association in
      silently (shutdown.shutdown_answered now s)
      (with-answer packets.ShutdownAckChunk (record a { phase = ShutdownAckSent; t2 = Some (now + a.sender.round_trips.timeout) })
      (λ l. shutdown-ack-chunk) kept)
  heard-shutdown-in Closed now cumulative s kept = silently s kept
  heard-shutdown-in CookieWait now cumulative s kept = silently s kept
  heard-shutdown-in CookieEchoed now cumulative s kept = silently s kept
  heard-shutdown-in ShutdownAckSent now cumulative s kept = silently s kept

  heard-shutdown : (now cumulative : ℕ) (s : State) → Kept c s.association → Puts c (shutdown.heard_shutdown c now cumulative s)
  heard-shutdown now cumulative s kept =
      either (shutdown.confirms s.association.phase && confirming.confirms_beyond s.association.sender cumulative)
      (ending.aborted c losses.Protocol ending.violation s) (shutdown.heard_shutdown_in s.association.phase c now cumulative s)
      (violated losses.Protocol s kept) (heard-shutdown-in s.association.phase now cumulative s kept)

  complete-chunk : (b : Bool) → IsBundled (packets.ShutdownCompleteChunk b)
  complete-chunk true = bare-chunk (packets.ShutdownCompleteChunk true) tt (omega arith) refl refl
  complete-chunk false = bare-chunk (packets.ShutdownCompleteChunk false) tt (omega arith) refl refl

  completed : (s : State) → Kept c s.association → Puts c (ending.ended_alone c losses.Shutdown (packets.ShutdownCompleteChunk false ∷ []) s)
  completed s kept =
      ended-alone losses.Shutdown (packets.ShutdownCompleteChunk false ∷ []) s
      (only IsBundled (packets.ShutdownCompleteChunk false) (complete-chunk false)) kept

  shutdown-ack-in : (phase : Phase) (s : State) → Kept c s.association → Puts c (shutdown.heard_shutdown_ack_in phase c s)
  shutdown-ack-in ShutdownSent s kept = completed s kept
  shutdown-ack-in ShutdownAckSent s kept = completed s kept
  shutdown-ack-in Closed s kept = silently s kept
  shutdown-ack-in CookieWait s kept = silently s kept
  shutdown-ack-in CookieEchoed s kept = silently s kept
  shutdown-ack-in Established s kept = silently s kept
  shutdown-ack-in ShutdownPending s kept = silently s kept
  shutdown-ack-in ShutdownReceived s kept = silently s kept

  shutdown-complete-in : (phase : Phase) (s : State) → Kept c s.association → Puts c (shutdown.heard_shutdown_complete_in phase c s)
  shutdown-complete-in ShutdownAckSent s kept = ended-alone losses.Shutdown [] s (All-nil IsBundled) kept
  shutdown-complete-in Closed s kept = silently s kept
  shutdown-complete-in CookieWait s kept = silently s kept
  shutdown-complete-in CookieEchoed s kept = silently s kept
  shutdown-complete-in Established s kept = silently s kept
  shutdown-complete-in ShutdownPending s kept = silently s kept
  shutdown-complete-in ShutdownSent s kept = silently s kept
  shutdown-complete-in ShutdownReceived s kept = silently s kept

  -- ---- DATA, SACK and HEARTBEAT

  no-stream : (stream : ℕ) (s : State) → Kept c s.association → Kept c (ending.answered (data_rules.no_stream stream) s).association
  no-stream stream s kept =
      with-answer (data_rules.no_stream stream) s.association (λ l. error-for (NoStream stream) (omega arith) (omega arith)) kept

  broken : (violation : Violation) (s : State) → Kept c s.association → Puts c (data_rules.violated c violation s)
  broken (violations.FragmentOfNoStream stream) s kept =
      violated losses.Protocol (ending.answered (data_rules.no_stream stream) s) (no-stream stream s kept)
  broken violations.Misplaced s kept = violated losses.Protocol s kept
  broken violations.Differs s kept = violated losses.Protocol s kept
  broken violations.TooLong s kept = violated losses.Protocol s kept

  told-one : (told : consuming.Told) (s : State) → Kept c s.association → Puts c (data_rules.told_one c told s)
  told-one consuming.Nothing s kept = silently s kept
  told-one (consuming.Tells message) s kept = record { left = kept; sent = none }
  told-one (consuming.NoStream stream) s kept = silently (ending.answered (data_rules.no_stream stream) s) (no-stream stream s kept)
  told-one (consuming.Violates violation) s kept = broken violation s kept

  told-each : (told : List consuming.Told) (s : State) → Kept c s.association → Puts c (data_rules.told_each c told s)
  told-each [] s kept = silently s kept
  told-each (told ∷ more) s kept =
      and-then (data_rules.told_one c told s) (λ left. data_rules.told_each c more left) (told-one told s kept) (λ left q. told-each more left q)

  heard-data : (d : DataValue) (s : State) → d.tsn < 2 ^ 32 → Kept c s.association → Puts c (data_rules.heard_data c d s)
  heard-data d s t kept =
      let a : Association = s.association in
      let steps : receiving.Steps = received a.receiver d.tsn (data_rules.piece_of d) in
      let taken : State = state.with_association s (record a { receiver = steps.left; is_sack_due = true }) in
      let empty : Done = ending.aborted c losses.Protocol (NoUserData d.tsn) s in
      let tells : Done = data_rules.after_data c steps s in
      either (data_rules.takes_data a.phase) (if nat_eq (length d.octets) 0 then empty else tells) (silent s)
      (either (nat_eq (length d.octets) 0) empty tells (aborted losses.Protocol (NoUserData d.tsn) s (omega arith) kept)
      (told-each steps.told taken (with-receiver a steps.left (received-fits a.receiver d.tsn (data_rules.piece_of d) t kept.receives) kept)))
      (silently s kept)

  heard-sack : (now : ℕ) (sack : SackValue) (s : State) → Kept c s.association → Puts c (data_rules.heard_sack_chunk c now sack s)
  heard-sack now sack s kept =
      let a : Association = s.association in
      let later : State = data_rules.after_sack now sack s in
      let bad : Done = ending.aborted c losses.Protocol ending.violation s in
      let good : Done = silent (shutdown.going_on c now later) in
      let beyond : Bool = confirming.confirms_beyond a.sender sack.cumulative in
      let fits : Kept c later.association =
      with-sender a (confirming.with_sack now sack a.sender) (sack-fits (confirmation a.sender sack.cumulative) a.sender now sack kept.sends) kept in
      either (data_rules.takes_sack a.phase) (data_rules.heard_sack_of c now sack s) (silent s)
      (either (confirming.is_old (confirmation a.sender sack.cumulative)) (silent s) (if beyond then bad else good) (silently s kept)
      (either beyond bad good (violated losses.Protocol s kept) (silently (shutdown.going_on c now later) (going-on now later fits))))
      (silently s kept)

  heard-heartbeat : (information : List ℕ) (s : State) → Kept c s.association → Puts c (data_rules.heard_heartbeat information s)
  heard-heartbeat information s kept =
      let chunk : ChunkValue = packets.HeartbeatAckChunk information in
      either (opening.is_there s.association.phase) (silent (ending.answered chunk s)) (silent s)
      (answered chunk s (λ l. plain-chunk chunk tt refl refl l) kept) (silently s kept)

  heard-answer : (beat : Option Beat) (now : ℕ) (information : List ℕ) (s : State) → Kept c s.association →
      Puts c (data_rules.heard_answer_to beat c now information s)
  heard-answer None now information s kept = silently s kept
  heard-answer (Some beat) now information s kept =
      either (bytes_eq information (information_of beat.nonce)) (silent (data_rules.beat_answered c now beat s)) (silent s)
      (silently (data_rules.beat_answered c now beat s) kept) (silently s kept)

  -- ---- packets

  reflected : IsBundled (packets.AbortChunk true [])
  reflected = bare-chunk (packets.AbortChunk true []) tt (omega arith) refl refl

  unknown-answer : (kind flags : ℕ) (value : List ℕ) → Answers (packets.ErrorChunk (cause_item (UnrecognizedChunk kind flags value) ∷ []))
  unknown-answer kind flags value l = error-answer (cause_item (UnrecognizedChunk kind flags value)) (omega arith) l

  heard-unknown : (kind flags : ℕ) (value : List ℕ) (s : State) → Kept c s.association → Puts c (arriving.heard_unknown kind flags value s).does
  heard-unknown kind flags value s kept =
      let chunk : ChunkValue = packets.ErrorChunk (cause_item (UnrecognizedChunk kind flags value) ∷ []) in
      either (arriving.is_reported kind) (silent (ending.answered chunk s)) (silent s) (answered chunk s (unknown-answer kind flags value) kept) (silently s kept)

  heard-abort : (tag : ℕ) (chunk : ChunkValue) (s : State) → Kept c s.association → Puts c (arriving.heard_abort c tag chunk s).does
  heard-abort tag chunk s kept =
      let why : Loss = arriving.loss_by_abort s.association.phase in
      either (arriving.has_tag s.association tag chunk) (ending.ended_alone c why [] s) (silent s)
      (ended-alone why [] s (All-nil IsBundled) kept) (silently s kept)

  handled-either : (b : Bool) (x y : arriving.Handled) → Puts c x.does → Puts c y.does → Puts c (if b then x else y).does
  handled-either true x y p q = p
  handled-either false x y p q = q

  module _ (k : Secrets) (fits : AreFit k) where
    heard-chunk : (chunk : ChunkValue) (now tag : ℕ) (s : State) → HasNumbers chunk → Kept c s.association →
        Puts c (arriving.heard_chunk c k now tag chunk s).does
    heard-chunk (packets.DataChunk carried) now tag s h kept = heard-data carried s h kept
    heard-chunk (packets.InitChunk init) now tag s h kept = silently s kept
    heard-chunk (packets.InitAckChunk init) now tag s h kept = heard-init-ack now init s h kept
    heard-chunk (packets.SackChunk sack) now tag s h kept = heard-sack now sack s kept
    heard-chunk (packets.HeartbeatChunk information) now tag s h kept = heard-heartbeat information s kept
    heard-chunk (packets.HeartbeatAckChunk information) now tag s h kept = heard-answer s.association.beat now information s kept
    heard-chunk (packets.AbortChunk is_reflected causes) now tag s h kept = heard-abort tag (packets.AbortChunk is_reflected causes) s kept
    heard-chunk (packets.ShutdownChunk cumulative) now tag s h kept = heard-shutdown now cumulative s kept
    heard-chunk packets.ShutdownAckChunk now tag s h kept = shutdown-ack-in s.association.phase s kept
    heard-chunk (packets.ErrorChunk causes) now tag s h kept = heard-error k now causes s fits kept
    heard-chunk (packets.CookieEchoChunk cookie) now tag s h kept = silently s kept
    heard-chunk packets.CookieAckChunk now tag s h kept = heard-cookie-ack now s kept
    heard-chunk (packets.ShutdownCompleteChunk is_reflected) now tag s h kept =
        handled-either (arriving.has_tag s.association tag (packets.ShutdownCompleteChunk is_reflected))
        (arriving.while_there tag (shutdown.heard_shutdown_complete c s)) (arriving.while_there tag (silent s))
        (shutdown-complete-in s.association.phase s kept) (silently s kept)
    heard-chunk (packets.UnknownChunk kind flags value) now tag s h kept = heard-unknown kind flags value s kept
    heard-chunk (packets.MalformedChunk kind) now tag s h kept = silently s kept

    heard-chunks : (chunks : List ChunkValue) (now tag : ℕ) (s : State) → All HasNumbers chunks → Kept c s.association →
        Puts c (arriving.heard_chunks c k now tag chunks s)
    heard-chunks [] now tag s h kept = silently s kept
    heard-chunks (chunk ∷ chunks) now tag s h kept =
        let handled : arriving.Handled = arriving.heard_chunk c k now tag chunk s in
        let rule : State → Done = λ left. arriving.heard_chunks c k now tag chunks left in
        let p : Puts c handled.does = heard-chunk chunk now tag s (All-head HasNumbers chunk chunks h) kept in
        either handled.goes_on (followed_by handled.does rule) handled.does
        (and-then handled.does rule p (λ left q. heard-chunks chunks now tag left (All-tail HasNumbers chunk chunks h) q)) p

    by-tag : (now : ℕ) (source : Address) (tag : ℕ) (chunks : List ChunkValue) (s : State) → All HasNumbers chunks → Kept c s.association →
        Puts c (arriving.heard_by_tag c k now source tag chunks s)
    by-tag now source tag chunks s h kept =
        heard-chunks chunks now tag (arriving.from_source source s) h
        (state-if (opening.is_waiting s.association.phase) s (state.with_association s (record s.association { address = source })) kept kept)

    answer-chunk : (first : ChunkValue) → IsBundled (arriving.answer_to first)
    answer-chunk packets.ShutdownAckChunk = complete-chunk true
    answer-chunk (packets.DataChunk carried) = reflected
    answer-chunk (packets.InitChunk init) = reflected
    answer-chunk (packets.InitAckChunk init) = reflected
    answer-chunk (packets.SackChunk sack) = reflected
    answer-chunk (packets.HeartbeatChunk information) = reflected
    answer-chunk (packets.HeartbeatAckChunk information) = reflected
    answer-chunk (packets.AbortChunk is_reflected causes) = reflected
    answer-chunk (packets.ShutdownChunk cumulative) = reflected
    answer-chunk (packets.ErrorChunk causes) = reflected
    answer-chunk (packets.CookieEchoChunk cookie) = reflected
    answer-chunk packets.CookieAckChunk = reflected
    answer-chunk (packets.ShutdownCompleteChunk is_reflected) = reflected
    answer-chunk (packets.UnknownChunk kind flags value) = reflected
    answer-chunk (packets.MalformedChunk kind) = reflected

    looked-at : (b : Bool) (first : ChunkValue) (more : List ChunkValue) → All HasNumbers (first ∷ more) → All HasNumbers (first ∷ (if b then [] else more))
    looked-at true first more h = only HasNumbers first (All-head HasNumbers first more h)
    looked-at false first more h = h

    otherwise : (now : ℕ) (source : Address) (tag : ℕ) (first : ChunkValue) (more : List ChunkValue) (s : State) → tag < 2 ^ 32 →
        All HasNumbers (first ∷ more) → Kept c s.association → Puts c (arriving.heard_otherwise c k now source tag first more s)
    otherwise now source tag first more s t h kept =
        let complete : Done = state.put c source tag (packets.ShutdownCompleteChunk true ∷ []) s in
        let taken : Done = arriving.heard_by_tag c k now source tag (arriving.looked_at first more) s in
        let late : Bool = arriving.is_late_shutdown s.association.phase first in
        let right-tag : Bool = arriving.has_tag s.association tag first in
        either (opening.is_closed s.association.phase) (arriving.out_of_the_blue c source tag first more s)
        (if late then complete else (if right-tag then taken else silent s))
        (either (arriving.is_quiet_first first || list_any arriving.is_quiet (first ∷ more)) (silent s)
        (state.put c source tag (arriving.answer_to first ∷ []) s) (silently s kept)
        (putting source tag (arriving.answer_to first) s t (answer-chunk first) kept))
        (either late complete (if right-tag then taken else silent s)
        (putting source tag (packets.ShutdownCompleteChunk true) s t (complete-chunk true) kept)
        (either right-tag taken (silent s)
        (by-tag now source tag (arriving.looked_at first more) s (looked-at (arriving.has_peer_tag first) first more h) kept) (silently s kept)))

    after-echo : (now : ℕ) (source : Address) (tag : ℕ) (more : List ChunkValue) (echo : opening.Echo) → All HasNumbers more → Puts c echo.does →
        Puts c (arriving.after_echo c k now source tag more echo)
    after-echo now source tag more echo h p =
        let rule : State → Done = λ left. arriving.heard_by_tag c k now source tag more left in
        either echo.goes_on (followed_by echo.does rule) echo.does (and-then echo.does rule p (λ left q. by-tag now source tag more left h q)) p

    heard-first : (first : ChunkValue) (now : ℕ) (source : Address) (tag : ℕ) (more : List ChunkValue) (s : State) → tag < 2 ^ 32 →
        All HasNumbers (first ∷ more) → Kept c s.association → Puts c (arriving.heard_first c k now source tag first more s)
    heard-first (packets.InitChunk init) now source tag more s t h kept =
        heard-init k now source init s fits (All-head HasNumbers (packets.InitChunk init) more h) kept
    heard-first (packets.CookieEchoChunk cookie) now source tag more s t h kept =
        after-echo now source tag more (opening.heard_cookie_echo c k now tag source cookie s) (All-tail HasNumbers (packets.CookieEchoChunk cookie) more h)
        (heard-echo (k.cookie_in cookie) k now tag source s (fits.cookies cookie) kept)
    heard-first (packets.MalformedChunk kind) now source tag more s t h kept =
        either (nat_eq kind 1) (silent s) (arriving.heard_otherwise c k now source tag (packets.MalformedChunk kind) more s) (silently s kept)
        (otherwise now source tag (packets.MalformedChunk kind) more s t h kept)
    heard-first first now source tag more s t h kept = otherwise now source tag first more s t h kept

    heard-all : (chunks : List ChunkValue) (now : ℕ) (source : Address) (tag : ℕ) (s : State) → tag < 2 ^ 32 → All HasNumbers chunks →
        Kept c s.association → Puts c (arriving.heard_all c k now source tag chunks s)
    heard-all [] now source tag s t h kept = silently s kept
    heard-all (first ∷ more) now source tag s t h kept = heard-first first now source tag more s t h kept

    heard : (now : ℕ) (source : Address) (p : PacketValue) (s : State) → IsFit p → Kept c s.association → Puts c (arriving.heard c k now source p s)
    heard now source p s h kept =
        either (nat_eq p.destination c.own_port && nat_eq p.source c.far_port) (arriving.heard_all c k now source p.tag p.chunks s) (silent s)
        (heard-all p.chunks now source p.tag s h.tag h.chunks kept) (silently s kept)

    -- ---- timers

    unanswered : (rule : State → Done) (s : State) → Kept c s.association → ((left : State) → Kept c left.association → Puts c (rule left)) →
        Puts c (timers.unanswered c rule s)
    unanswered rule s kept h =
        let failed : State = state.with_association s (record s.association { failures = s.association.failures + 1 }) in
        either (nat_lt c.retransmissions (s.association.failures + 1)) (ending.aborted c losses.NoAnswer ending.violation s) (rule failed)
        (violated losses.NoAnswer s kept) (h failed kept)

    retry : (t : Option Try) (now : ℕ) (s : State) → IsTry c (tag_to s.association.far_tag) t → Kept c s.association → Puts c (timers.retry t c now s)
    retry None now s h kept = silently s kept
    retry (Some t) now s h kept = either (nat_le t.t1 now) (opening.tried_again c now t s) (silent s) (retried now t s h kept) (silently s kept)

    tick-t5 : (now : ℕ) (s : State) → Kept c s.association → Puts c (timers.tick_t5 c now s)
    tick-t5 now s kept =
        either (timers.is_due now s.association.t5) (ending.aborted c losses.NoAnswer EndedByUser s) (silent s)
        (aborted losses.NoAnswer EndedByUser s (omega arith) kept) (silently s kept)

    again-chunk : (phase : Phase) (a : Association) → Kept c a → IsBundled (timers.shutdown_again phase a)
    again-chunk ShutdownSent a kept = shutdown-chunk a.receiver.cumulative (let r = kept.receives in r.last)
    again-chunk Closed a kept = shutdown-ack-chunk
    again-chunk CookieWait a kept = shutdown-ack-chunk
    again-chunk CookieEchoed a kept = shutdown-ack-chunk
    again-chunk Established a kept = shutdown-ack-chunk
    again-chunk ShutdownPending a kept = shutdown-ack-chunk
    again-chunk ShutdownReceived a kept = shutdown-ack-chunk
    again-chunk ShutdownAckSent a kept = shutdown-ack-chunk

    t2-out : (now : ℕ) (s : State) → Kept c s.association → Puts c (timers.t2_out c now s)
    t2-out now s kept =
        let waited : Association = timers.with_back_off s.association in
        let chunk : ChunkValue = timers.shutdown_again s.association.phase s.association in
        silently (timers.t2_out c now s).left
        (with-answer chunk (record waited { phase = s.association.phase; t2 = Some (now + waited.sender.round_trips.timeout) })
        (λ l. again-chunk s.association.phase s.association kept) kept)

    tick-t2 : (now : ℕ) (s : State) → Kept c s.association → Puts c (timers.tick_t2 c now s)
    tick-t2 now s kept =
        let rule : State → Done = λ left. timers.t2_out c now left in
        either (timers.is_due now s.association.t2) (timers.unanswered c rule s) (silent s) (unanswered rule s kept (λ left q. t2-out now left q)) (silently s kept)

    tick-t3 : (now : ℕ) (s : State) → Kept c s.association → Puts c (timers.tick_t3 c now s)
    tick-t3 now s kept =
        let rule : State → Done = λ left. timers.t3_out c now left in
        either (timers.is_due now s.association.sender.t3) (timers.unanswered c rule s) (silent s)
        (unanswered rule s kept (λ left q. silently (timers.t3_out c now left).left
        (with-sender left.association (after_t3 left.association.sender now) (t3-fits left.association.sender now q.sends) q))) (silently s kept)

    beating : (now : ℕ) (s : State) → Kept c s.association → Puts c (silent (timers.beating k now s))
    beating now s kept =
        let chunk : ChunkValue = packets.HeartbeatChunk (information_of (k.nonce s.nonces)) in
        silently (timers.beating k now s)
        (with-answer chunk (record s.association {
          beat = Some (record { nonce = k.nonce s.nonces; sent = now });
          beat_due = Some (now + s.association.sender.round_trips.timeout);
        }) (λ l. bare-chunk chunk tt (omega arith) refl refl) kept)

    beat-again : (beat : Option Beat) (now : ℕ) (s : State) → Kept c s.association → Puts c (timers.beat_again beat c k now s)
    beat-again None now s kept = beating now s kept
    beat-again (Some beat) now s kept =
        unanswered (λ left. silent (timers.beating k now (state.with_association left (timers.with_back_off left.association)))) s kept
        (λ left q. beating now (state.with_association left (timers.with_back_off left.association)) q)

    beat-in : (phase : Phase) (now : ℕ) (s : State) → Kept c s.association → Puts c (timers.beat_in phase c k now s)
    beat-in Established now s kept = beat-again s.association.beat now s kept
    beat-in Closed now s kept = silently (state.with_association s (record s.association { beat_due = None })) kept
    beat-in CookieWait now s kept = silently (state.with_association s (record s.association { beat_due = None })) kept
    beat-in CookieEchoed now s kept = silently (state.with_association s (record s.association { beat_due = None })) kept
    beat-in ShutdownPending now s kept = silently (state.with_association s (record s.association { beat_due = None })) kept
    beat-in ShutdownSent now s kept = silently (state.with_association s (record s.association { beat_due = None })) kept
    beat-in ShutdownReceived now s kept = silently (state.with_association s (record s.association { beat_due = None })) kept
    beat-in ShutdownAckSent now s kept = silently (state.with_association s (record s.association { beat_due = None })) kept

    ticked : (now : ℕ) (s : State) → Kept c s.association → Puts c (timers.ticked c k now s)
    ticked now s kept =
        let first : Done = timers.tick_t1 c now s in
        let second : Done = followed_by first (λ left. timers.tick_t5 c now left) in
        let third : Done = followed_by second (λ left. timers.tick_t2 c now left) in
        let fourth : Done = followed_by third (λ left. timers.tick_t3 c now left) in
        and-then fourth (λ left. timers.tick_beat c k now left)
        (and-then third (λ left. timers.tick_t3 c now left)
        (and-then second (λ left. timers.tick_t2 c now left)
        (and-then first (λ left. timers.tick_t5 c now left) (retry s.association.trying now s kept.try kept) (λ left q. tick-t5 now left q))
        (λ left q. tick-t2 now left q))
        (λ left q. tick-t3 now left q))
        (λ left q.
        either (timers.is_due now left.association.beat_due) (timers.beat_in left.association.phase c k now left) (silent left)
        (beat-in left.association.phase now left q) (silently left q))

    -- ---- sending

    sent-if : (b : Bool) (m : Message) (s : State) →
        (b ≡ true → Kept c (record s.association { sender = given s.association.sender m })) → Kept c s.association →
        Kept c (if b then state.with_association s (record s.association { sender = given s.association.sender m }) else s).association
    sent-if true m s h kept = h refl
    sent-if false m s h kept = kept

    sends-one : (m : Message) (s : State) → m.protocol < 2 ^ 32 → Kept c s.association → Puts c (silent (sending.send m s))
    sends-one m s p kept =
        silently (sending.send m s)
        (sent-if (sending.may_send m s) m s (λ e.
        let can = second-true (sending.is_established s.association.phase) (confirming.can_take s.association.sender m) e in
        with-sender s.association (given s.association.sender m) (given-fits s.association.sender m (stream-fits s.association.sender m can) p
        (octets-fit s.association.sender m can) kept.sends) kept) kept)

    sack-of : (a : Association) → Kept c a → IsBundled (data_rules.sack_of a.receiver)
    sack-of a kept = let r = kept.receives in sack-chunk a.receiver r.last r.again r.few

    datagrams : (a : Association) (bundles : List (List ChunkValue)) → a.far_tag < 2 ^ 32 → All (IsBundle IsBundled) bundles →
        All IsWritten (map (λ chunks. state.datagram_to c a.address a.far_tag chunks) bundles)
    datagrams a [] t h = none
    datagrams a (chunks ∷ more) t h =
        let b : IsBundle IsBundled chunks = All-head (IsBundle IsBundled) chunks more h in
        All-cons IsWritten (state.datagram_to c a.address a.far_tag chunks) (map (λ chunks. state.datagram_to c a.address a.far_tag chunks) more)
        (packet-of c a.far_tag chunks ports t b.some b.each) (datagrams a more t (All-tail (IsBundle IsBundled) chunks more h))

    acknowledgement-in : (phase : Phase) (a : Association) → Kept c a → All IsBundled (sending.acknowledgement_in phase a)
    acknowledgement-in ShutdownSent a kept =
        All-cons IsBundled (shutdown.shutdown_of a) (data_rules.sack_of a.receiver ∷ [])
        (shutdown-chunk a.receiver.cumulative (let r = kept.receives in r.last)) (only IsBundled (data_rules.sack_of a.receiver) (sack-of a kept))
    acknowledgement-in Closed a kept = only IsBundled (data_rules.sack_of a.receiver) (sack-of a kept)
    acknowledgement-in CookieWait a kept = only IsBundled (data_rules.sack_of a.receiver) (sack-of a kept)
    acknowledgement-in CookieEchoed a kept = only IsBundled (data_rules.sack_of a.receiver) (sack-of a kept)
    acknowledgement-in Established a kept = only IsBundled (data_rules.sack_of a.receiver) (sack-of a kept)
    acknowledgement-in ShutdownPending a kept = only IsBundled (data_rules.sack_of a.receiver) (sack-of a kept)
    acknowledgement-in ShutdownReceived a kept = only IsBundled (data_rules.sack_of a.receiver) (sack-of a kept)
    acknowledgement-in ShutdownAckSent a kept = only IsBundled (data_rules.sack_of a.receiver) (sack-of a kept)

    chunks-if : (b : Bool) (chunks : List ChunkValue) → All IsBundled chunks → All IsBundled (if b then chunks else [])
    chunks-if true chunks h = h
    chunks-if false chunks h = All-nil IsBundled

    due-fits : (now : ℕ) (a : Association) → Kept c a → All IsBundled (sending.due_chunks now a)
    due-fits now a kept =
        let gone : IsGone (confirming.all_gone now a.sender) = going-fits 257 now a.sender kept.sends in
        let acks : List ChunkValue = sending.acknowledgement a in
        let carried : List ChunkValue = sending.data_of now a in
        All-append IsBundled (a.control ++ acks) carried
        (All-append IsBundled a.control acks kept.answers
        (chunks-if (sending.is_acknowledging a) (sending.acknowledgement_in a.phase a) (acknowledgement-in a.phase a kept)))
        (chunks-if (data_rules.takes_sack a.phase) (map packets.DataChunk (confirming.all_gone now a.sender).chunks) gone.chunks_fit)

    acknowledged-kept : (b : Bool) (t2 : Option ℕ) (a : Association) → Kept c a → Kept c (if b then record (data_rules.sacked a) { t2 = t2 } else a)
    acknowledged-kept true t2 a kept =
        with-receiver a (data_rules.sacked a).receiver
        (let r = kept.receives in record { last = r.last; again = All-nil Is32; few = omega arith }) kept
    acknowledged-kept false t2 a kept = kept

    sent-kept : (b : Bool) (now : ℕ) (a : Association) → Kept c a →
        Kept c (record (if b then record a { sender = (confirming.all_gone now a.sender).left } else a) { control = [] })
    sent-kept true now a kept =
        let gone : IsGone (confirming.all_gone now a.sender) = going-fits 257 now a.sender kept.sends in
        let sender : Sending = (confirming.all_gone now a.sender).left in
        with-control (record a { sender = sender }) [] (All-nil IsBundled) (with-sender a sender gone.left_fits kept)
    sent-kept false now a kept = with-control a [] (All-nil IsBundled) kept

    flushed : (now : ℕ) (s : State) → Kept c s.association → Puts c (sending.flush c now s)
    flushed now s kept =
        let a : Association = s.association in
        record {
          left = sent-kept (data_rules.takes_sack (sending.with_acknowledged now a).phase) now (sending.with_acknowledged now a)
              (acknowledged-kept (sending.is_acknowledging a) (sending.t2_in a.phase now a) a kept);
          sent = datagrams a (sending.packets_of (sending.due_chunks now a)) kept.far
              (packets-of IsBundled (sending.due_chunks now a) (due-fits now a kept));
        }

    -- ---- all that can happen

    pub happens : (what : Happening) (s : State) → Fits what → Kept c s.association → Puts c (after c k what s)
    unfolding after
    happens (Opens now is_active) s h kept =
        either (opening.may_open is_active s) (if is_active then opening.begun c k now 0 c.address s else silent (record s { is_wanted = true })) (silent s)
        (either is_active (opening.begun c k now 0 c.address s) (silent (record s { is_wanted = true }))
        (begun-with (k.beginning s.beginnings) now 0 c.address s (fits.beginnings s.beginnings) kept) (silently (record s { is_wanted = true }) kept))
        (silently s kept)
    happens (Came now source packet) s h kept = heard now source packet s h kept
    happens (Ticked now) s h kept = ticked now s kept
    happens (Sends message) s h kept = sends-one message s h kept
    happens Aborts s h kept = abort s kept
    happens (ShutsDown now) s h kept = shutdown-in s.association.phase now s kept
    happens (Flushes now) s h kept = flushed now s kept

    all-happen : (whats : List Happening) (s : State) → All Fits whats → Kept c s.association → Puts c (after_all c k whats s)
    all-happen [] s h kept = silently s kept
    all-happen (what ∷ more) s h kept =
        and-then (after c k what s) (λ left. after_all c k more left) (happens what s (All-head Fits what more h) kept)
        (λ left q. all-happen more left (All-tail Fits what more h) q)

  pub kept-first : Kept c (no_association c)
  kept-first = kept-none

pub all-written : packets_are_written
all-written c k whats ports fits h = let p = all-happen c ports k fits whats (first_state c) h (kept-first c ports) in p.sent

pub all-read : packets_are_read
all-read c k whats ports fits h =
    All-weaker IsWritten IsRead (λ d p. packet-back d.packet p) (after_all c k whats (first_state c)).sent (all-written c k whats ports fits h)
