-- What an endpoint receives, by the pass over all rules.
use Rattle.std.proofs.Common.{◌≡◌, ℕ, zero, suc, ◌<◌, ◌^◌, Bool, true, false, List, [], ◌∷◌, ◌++◌, Option, Some, None}
use Rattle.std.proofs.Common.{refl, ap, sym, ◌∙◌, subst, arith, append_assoc}
use Rattle.std.specs.Prelude.{All, is_some, if◌then◌else◌}
use Rattle.std.specs.List.{Contains}
use Rattle.std.proofs.lemmas.List.{append-nil}
use Rattle.std.proofs.lemmas.Bool.{eq-eqb}
use Rattle.std.proofs.lemmas.List.Elements.{All-append, All-nil, All-cons, All-head, All-tail, All-weaker, Contains-append_left, Contains-append_right}
use Rattle.sctp_receiving.specs.Pieces.{Piece}
use Rattle.sctp_receiving.specs.Pieces as pieces
use Rattle.sctp_receiving.specs.Consuming as consuming
use Rattle.sctp_receiving.specs.Receiver as receiving
use Rattle.sctp_receiving.specs.Receiver.{drained, received}
use Rattle.sctp_receiving.specs.Sack.{reported}
use Rattle.sctp_receiving.specs.Courses.{Chunk, Call, Hears, TakesNext, Reports, AreCalls, Course, first_course}
use Rattle.sctp_receiving.specs.Courses.{after_call, after_calls, after_hearing, after_taking}
use Rattle.sctp_receiving.specs.declared.standing.Standing.{Standing}
use Rattle.sctp_receiving.specs.declared.standing.Standing.TheVariants.{Next, Early, Again, Beyond}
use Rattle.sctp_receiving.specs.declared.violation.Violation.TheVariants as violations
use Rattle.sctp_codec.specs.Packets.{ChunkValue, DataValue}
use Rattle.sctp_codec.specs.Packets as packets
use Rattle.sctp_rules.specs.Settings.{Settings, Secrets, Address}
use Rattle.sctp_rules.specs.State as state
use Rattle.sctp_rules.specs.State.{Association, State, Told, Up, Heard, Down, Failed, Done, silent, followed_by, first_state, Datagram}
use Rattle.sctp_rules.specs.Ending as ending
use Rattle.sctp_rules.specs.Opening as opening
use Rattle.sctp_rules.specs.Data as data_rules
use Rattle.sctp_rules.specs.Data.{takes_data, piece_of}
use Rattle.sctp_rules.specs.Endpoint.{Happening, Opens, Came, Ticked, Sends, Aborts, ShutsDown, Flushes, after, after_all}
use Rattle.sctp_rules.specs.declared.loss.Loss.{Loss}
use Rattle.sctp_rules.specs.declared.loss.Loss.TheVariants as losses
use Rattle.sctp_receiving.specs.declared.violation.Violation.{Violation}
use Rattle.sctp_rules.specs.ReceivedMessages.{chunks_in, came_by, came_with, Fits, HaveTsns, Epoch, tag_of, new_epoch, with_come, with_heard, with_told, epochs_after}
use Rattle.sctp_rules.specs.ReceivedMessages.{messages_in, IsCourse, IsReceived, Presents, AreReceived, messages_are_received}
use Rattle.sctp_rules.proofs.Telling.{OnlyLast, received-last, rest-last}
use Rattle.sctp_rules.proofs.Passing.{Alike, Arrivals, AreSteps, Passes, Right, HaveCome, Comes, happens, none-right}
use Rattle.sctp_rules.proofs.Passing.{answer-alike}

-- ---- lists

only : (P : Chunk → Type 0) (x : Chunk) → P x → All P (x ∷ [])
only P x h = All-cons P x [] h (All-nil P)

-- ---- the messages that were told

told-on : (what : Happening) (first second : List Told) (epochs : List Epoch) →
    with_told what (first ++ second) epochs ≡ with_told what second (with_told what first epochs)
told-on what [] second epochs = refl
told-on what (Up ∷ more) second epochs = told-on what more second (new_epoch what ∷ epochs)
told-on what (Heard m ∷ more) second epochs = told-on what more second (with_heard m epochs)
told-on what (Down why ∷ more) second epochs = told-on what more second epochs
told-on what (Failed why ∷ more) second epochs = told-on what more second epochs

messages-on : (first second : List consuming.Told) → messages_in (first ++ second) ≡ messages_in first ++ messages_in second
messages-on [] second = refl
messages-on (consuming.Nothing ∷ more) second = messages-on more second
messages-on (consuming.Tells m ∷ more) second = ap (λ (ms : List pieces.Message). m ∷ ms) (messages-on more second)
messages-on (consuming.NoStream stream ∷ more) second = messages-on more second
messages-on (consuming.Violates v ∷ more) second = messages-on more second

-- ---- calls

calls-on : (first second : List Call) (c : Course) → after_calls (first ++ second) c ≡ after_calls second (after_calls first c)
calls-on [] second c = refl
calls-on (call ∷ calls) second c = calls-on calls second (after_call call c)

are-on : (first second : List Call) → AreCalls first → AreCalls second → AreCalls (first ++ second)
are-on [] second h i = i
are-on (call ∷ calls) second h i = (h.0, are-on calls second h.1 i)

-- a course after calls: its receiver, and what it told, in messages
pub record IsAfter (d : Course) (r : receiving.Receiver) (messages : List pieces.Message) : Type 0 where
  pub receiver : d.receiver ≡ r
  pub messages_so : messages_in d.told ≡ messages

-- some calls by which chunks that are held are consumed: they lead there
pub record Reaches (c : Course) (steps : receiving.Steps) : Type 0 where
  pub calls : List Call
  pub are : AreCalls calls
  pub came : (after_calls calls c).came ≡ c.came
  pub so : IsAfter (after_calls calls c) steps.left (messages_in c.told ++ messages_in steps.told)

came-taking : (next : Option Piece) (c : Course) → (after_taking next c).came ≡ c.came
came-taking None c = refl
came-taking (Some p) c = refl

message-in : (told : consuming.Told) (more : List consuming.Told) → messages_in (told ∷ more) ≡ messages_in (told ∷ []) ++ messages_in more
message-in consuming.Nothing more = refl
message-in (consuming.Tells m) more = refl
message-in (consuming.NoStream stream) more = refl
message-in (consuming.Violates v) more = refl

-- ---- all that is held after a chunk

abbrev steps-of : Bool → receiving.Step → receiving.Steps → receiving.Steps
steps-of b step rest = if b then record { left = step.left; told = step.told ∷ [] } else receiving.followed_by step.told rest

-- a step, and those after it unless it is a violation
behind-step : (b : Bool) (step : receiving.Step) (rest : receiving.Receiver → receiving.Steps) (base : List pieces.Message) (c d : Course) →
    d.receiver ≡ step.left → messages_in d.told ≡ base ++ messages_in (step.told ∷ []) → Reaches d (rest d.receiver) →
    (calls : List Call) × AreCalls calls × ((after_calls calls d).came ≡ d.came)
    × IsAfter (after_calls calls d) (steps-of b step (rest step.left)).left (base ++ messages_in (steps-of b step (rest step.left)).told)
behind-step true step rest base c d f g r = ([], tt, refl, record { receiver = f; messages_so = g })
behind-step false step rest base c d f g r = (
  r.calls,
  r.are,
  r.came,
  record {
    receiver = r.so.receiver ∙ ap (λ (x : receiving.Receiver). (rest x).left) f;
    messages_so = r.so.messages_so
        ∙ ap (λ (x : receiving.Receiver). messages_in d.told ++ messages_in (rest x).told) f
        ∙ ap (λ (ms : List pieces.Message). ms ++ messages_in (rest step.left).told) g
        ∙ append_assoc base (messages_in (step.told ∷ [])) (messages_in (rest step.left).told)
        ∙ ap (λ (ms : List pieces.Message). base ++ ms) (sym (message-in step.told (rest step.left).told));
  },
)

abbrev drained-step : Option Piece → receiving.Receiver → ℕ → receiving.Steps
drained-step None r many = record { left = r; told = [] }
drained-step (Some p) r many = receiving.and_then (λ left. drained many left) (receiving.taken_next (Some p) r)

step-is : (o : Option Piece) (r : receiving.Receiver) (many : ℕ) →
    (if is_some o then receiving.and_then (λ left. drained many left) (receiving.taken_next o r) else record { left = r; told = [] })
    ≡ drained-step o r many
step-is None r many = refl
step-is (Some p) r many = refl

drained-by : (o : Option Piece) (many : ℕ) (c : Course) → receiving.next_held c.receiver ≡ o →
    ((d : Course) → Reaches d (drained many d.receiver)) → Reaches c (drained-step o c.receiver many)
drained-by None many c e ih = record {
  calls = [];
  are = tt;
  came = refl;
  so = record { receiver = refl; messages_so = sym (append-nil (messages_in c.told)) };
}
drained-by (Some p) many c e ih =
    let step : receiving.Step = receiving.taken_next (Some p) c.receiver in
    let d : Course = after_taking (Some p) c in
    let b = behind-step (receiving.is_violation step.told) step (λ left. drained many left) (messages_in c.told) c d refl
    (messages-on c.told (step.told ∷ [])) (ih d) in
    let one : after_call TakesNext c ≡ d = ap (λ (o : Option Piece). after_taking o c) e in
    record {
      calls = TakesNext ∷ b.0;
      are = (tt, b.1);
      came = ap (λ (x : Course). (after_calls b.0 x).came) one ∙ b.2;
      so = subst (λ (x : Course). IsAfter (after_calls b.0 x) (drained-step (Some p) c.receiver many).left
          (messages_in c.told ++ messages_in (drained-step (Some p) c.receiver many).told)) (sym one) b.3;
    }

drained-so : (many : ℕ) (c : Course) → Reaches c (drained many c.receiver)
unfolding drained
drained-so zero c = record {
  calls = [];
  are = tt;
  came = refl;
  so = record { receiver = refl; messages_so = sym (append-nil (messages_in c.told)) };
}
drained-so (suc many) c =
    let o : Option Piece = receiving.next_held c.receiver in
    subst (λ (x : receiving.Steps). Reaches c x) (sym (step-is o c.receiver many)) (drained-by o many c refl (λ d. drained-so many d))

hearing-so : (stands : Standing) (c : Course) (chunk : Chunk) →
    IsAfter (after_hearing stands chunk c) (receiving.heard_as stands c.receiver chunk.tsn chunk.piece).left
    (messages_in c.told ++ messages_in ((receiving.heard_as stands c.receiver chunk.tsn chunk.piece).told ∷ []))
hearing-so Next c chunk = record { receiver = refl; messages_so = messages-on c.told ((receiving.taken c.receiver chunk.piece).told ∷ []) }
hearing-so Early c chunk = record { receiver = refl; messages_so = sym (append-nil (messages_in c.told)) }
hearing-so Again c chunk = record { receiver = refl; messages_so = sym (append-nil (messages_in c.told)) }
hearing-so Beyond c chunk = record { receiver = refl; messages_so = sym (append-nil (messages_in c.told)) }

came-hearing : (stands : Standing) (c : Course) (chunk : Chunk) → (after_hearing stands chunk c).came ≡ c.came ++ chunk ∷ []
came-hearing Next c chunk = refl
came-hearing Early c chunk = refl
came-hearing Again c chunk = refl
came-hearing Beyond c chunk = refl

-- a chunk that comes, and all that is held after it
pub record Takes (c : Course) (chunk : Chunk) : Type 0 where
  pub calls : List Call
  pub are : chunk.tsn < 2 ^ 32 → AreCalls calls
  pub came : (after_calls calls c).came ≡ c.came ++ chunk ∷ []
  pub so :
      IsAfter (after_calls calls c) (received c.receiver chunk.tsn chunk.piece).left
      (messages_in c.told ++ messages_in (received c.receiver chunk.tsn chunk.piece).told)

received-so : (c : Course) (chunk : Chunk) → Takes c chunk
received-so c chunk =
    let step : receiving.Step = receiving.hear c.receiver chunk.tsn chunk.piece in
    let stands : Standing = receiving.standing c.receiver chunk.tsn chunk.piece in
    let d : Course = after_call (Hears chunk) c in
    let first = hearing-so stands c chunk in
    let b = behind-step (receiving.is_violation step.told) step (λ left. drained 256 left) (messages_in c.told) c d first.receiver
    first.messages_so (drained-so 256 d) in
    record { calls = Hears chunk ∷ b.0; are = λ l. (l, b.1); came = b.2 ∙ came-hearing stands c chunk; so = b.3 }

-- ---- what is told of each

end-told : (what : Happening) (up wanted : Bool) (why : Loss) (epochs : List Epoch) →
    with_told what (if up then Down why ∷ [] else (if wanted then Failed why ∷ [] else [])) epochs ≡ epochs
end-told what true wanted why epochs = refl
end-told what false true why epochs = refl
end-told what false false why epochs = refl

-- more was told in the latest one
abbrev hearing-more : Epoch → List pieces.Message → Epoch
hearing-more epoch ms = record epoch { heard = epoch.heard ++ ms }

no-more : (epoch : Epoch) (past : List Epoch) → epoch ∷ past ≡ hearing-more epoch [] ∷ past
no-more epoch past = ap (λ (ms : List pieces.Message). record epoch { heard = ms } ∷ past) (sym (append-nil epoch.heard))

violated-told : (what : Happening) (v : Violation) (c : Settings) (s : State) (epochs : List Epoch) →
    with_told what ((data_rules.violated c v s).told ++ []) epochs ≡ epochs
violated-told what (violations.FragmentOfNoStream stream) c s epochs =
    let d : Done = data_rules.violated c (violations.FragmentOfNoStream stream) s in
    let left : State = ending.answered (data_rules.no_stream stream) s in
    ap (λ (l : List Told). with_told what l epochs) (append-nil d.told) ∙ end-told what left.association.is_up left.is_wanted losses.Protocol epochs
violated-told what violations.Misplaced c s epochs =
    let d : Done = data_rules.violated c violations.Misplaced s in
    ap (λ (l : List Told). with_told what l epochs) (append-nil d.told) ∙ end-told what s.association.is_up s.is_wanted losses.Protocol epochs
violated-told what violations.Differs c s epochs =
    let d : Done = data_rules.violated c violations.Differs s in
    ap (λ (l : List Told). with_told what l epochs) (append-nil d.told) ∙ end-told what s.association.is_up s.is_wanted losses.Protocol epochs
violated-told what violations.TooLong c s epochs =
    let d : Done = data_rules.violated c violations.TooLong s in
    ap (λ (l : List Told). with_told what l epochs) (append-nil d.told) ∙ end-told what s.association.is_up s.is_wanted losses.Protocol epochs

each-told : (what : Happening) (c : Settings) (tolds : List consuming.Told) (s : State) (epoch : Epoch) (past : List Epoch) → OnlyLast tolds →
    with_told what (data_rules.told_each c tolds s).told (epoch ∷ past) ≡ hearing-more epoch (messages_in tolds) ∷ past
each-told what c [] s epoch past h = no-more epoch past
each-told what c (consuming.Nothing ∷ more) s epoch past h = each-told what c more s epoch past (rest-last consuming.Nothing more h)
each-told what c (consuming.Tells m ∷ more) s epoch past h =
    each-told what c more s (hearing-more epoch (m ∷ [])) past (rest-last (consuming.Tells m) more h)
    ∙ ap (λ (ms : List pieces.Message). record epoch { heard = ms } ∷ past) (append_assoc epoch.heard (m ∷ []) (messages_in more))
each-told what c (consuming.NoStream stream ∷ more) s epoch past h =
    each-told what c more (ending.answered (data_rules.no_stream stream) s) epoch past (rest-last (consuming.NoStream stream) more h)
each-told what c (consuming.Violates v ∷ []) s epoch past h = violated-told what v c s (epoch ∷ past) ∙ no-more epoch past
each-told what c (consuming.Violates v ∷ one ∷ more) s epoch past h = let e : true ≡ false = h.0 in absurd (cc)

-- while DATA counts, nothing else changed
record IsSame (a b : Association) : Type 0 where
  own_tag : a.own_tag ≡ b.own_tag
  peer : a.peer ≡ b.peer
  receiver : a.receiver ≡ b.receiver

each-same : (c : Settings) (tolds : List consuming.Told) (s : State) → OnlyLast tolds →
    takes_data (data_rules.told_each c tolds s).left.association.phase ≡ true →
    IsSame s.association (data_rules.told_each c tolds s).left.association
each-same c [] s h t = record { own_tag = refl; peer = refl; receiver = refl }
each-same c (consuming.Nothing ∷ more) s h t = each-same c more s (rest-last consuming.Nothing more h) t
each-same c (consuming.Tells m ∷ more) s h t = each-same c more s (rest-last (consuming.Tells m) more h) t
each-same c (consuming.NoStream stream ∷ more) s h t =
    let later : State = ending.answered (data_rules.no_stream stream) s in
    let f : Alike s later = answer-alike (data_rules.no_stream stream) s in
    let e = each-same c more later (rest-last (consuming.NoStream stream) more h) t in
    record { own_tag = f.own_tag ∙ e.own_tag; peer = f.peer ∙ e.peer; receiver = f.receiver ∙ e.receiver }
each-same c (consuming.Violates (violations.FragmentOfNoStream stream) ∷ []) s h t = absurd (cc)
each-same c (consuming.Violates violations.Misplaced ∷ []) s h t = absurd (cc)
each-same c (consuming.Violates violations.Differs ∷ []) s h t = absurd (cc)
each-same c (consuming.Violates violations.TooLong ∷ []) s h t = absurd (cc)
each-same c (consuming.Violates v ∷ one ∷ more) s h t = let e : true ≡ false = h.0 in absurd (cc)

-- ---- the steps

-- what comes was added to the latest association already, if it has its tag
abbrev Current : Happening → List Epoch → Type 0
Current what [] = Unit {0}
Current what (latest ∷ past) = (x : Chunk) → Contains (came_with latest.tag what) x → Contains latest.came x

record Holds (what : Happening) (epochs : List Epoch) (a : Association) : Type 0 where
  current : Current what epochs
  received : AreReceived epochs a

-- what a rule does keeps it
record Keeps (what : Happening) (s : State) (d : Done) : Type 0 where
  keeps : (epochs : List Epoch) → Holds what epochs s.association → Holds what (with_told what d.told epochs) d.left.association

abbrev chunk_of : DataValue → Chunk
chunk_of d = record { tsn = d.tsn; piece = piece_of d }

record HasComeBy (what : Happening) (d : DataValue) : Type 0 where
  fits : d.tsn < 2 ^ 32
  there : Contains (came_by what) (chunk_of d)

abbrev arrived : Happening → Arrivals
arrived what = record {
  carried = λ d. HasComeBy what d;
  cumulative = λ n. Unit {0};
  tag = λ tag. tag ≡ tag_of what;
  message = λ m. Unit {0};
  flush = Unit {0};
  wish = Unit {0};
}

present-as : (epochs : List Epoch) (a b : Association) → IsSame a b → Presents epochs a → Presents epochs b
present-as [] a b e h = h
present-as (latest ∷ past) a b e h = record {
  calls = h.calls;
  course = subst (λ (p : state.Peer). IsCourse latest p.first h.calls) e.peer h.course;
  tag_is = sym e.own_tag ∙ h.tag_is;
  receiver_is = sym e.receiver ∙ h.receiver_is
      ∙ ap (λ (p : state.Peer). (after_calls h.calls (first_course 2 p.first)).receiver) e.peer;
}

-- nothing is told of the latest one, and there is none any more
gone-keeps : (what : Happening) (s left : State) (sent : List Datagram) (told : List Told) →
    ((epochs : List Epoch) → with_told what told epochs ≡ epochs) → takes_data left.association.phase ≡ false →
    Keeps what s (record { sent = sent; told = told; left = left })
gone-keeps what s left sent told e f = record {
  keeps = λ epochs h.
      subst (λ (es : List Epoch). Holds what es left.association) (sym (e epochs)) (record {
        current = h.current;
        received = record { each = let r = h.received in r.each; present = λ t. let g : false ≡ true = sym f ∙ t in absurd (cc) };
      });
}

alike-keeps : (what : Happening) (s left : State) (sent : List Datagram) → Alike s left →
    Keeps what s (record { sent = sent; told = []; left = left })
alike-keeps what s left sent a = record {
  keeps = λ epochs h.
      let r = h.received in
      record {
        current = h.current;
        received = record {
          each = r.each;
          present = λ t.
              present-as epochs s.association left.association
              (record { own_tag = a.own_tag; peer = a.peer; receiver = a.receiver }) (r.present (a.takes t));
        };
      };
}

opens-keeps : (what : Happening) (c : Settings) (now own_tag far_tag own_first : ℕ) (peer : state.Peer) (address : Address) (s : State) →
    own_tag ≡ tag_of what → s.association.is_up ≡ false → Keeps what s (opening.opened c now own_tag far_tag own_first peer address s)
opens-keeps what c now own_tag far_tag own_first peer address s tag d = record {
  keeps = λ epochs h.
      let r = h.received in
      let course : IsCourse (new_epoch what) peer.first [] = record {
        are = tt;
        chunks = All-nil (λ (chunk : Chunk). Contains (new_epoch what).came chunk);
        heard_is = refl;
      } in
      record {
        current = λ x i. i;
        received = record {
          each = All-cons IsReceived (new_epoch what) epochs (record { first = peer.first; calls = []; course = course }) r.each;
          present = λ t. record { calls = []; course = course; tag_is = tag; receiver_is = refl };
        };
      };
}

come-with : (what : Happening) (tag : ℕ) (x : Chunk) → tag ≡ tag_of what → Contains (came_by what) x → Contains (came_with tag what) x
come-with (Came now source packet) tag x e i = rw (eq-eqb packet.tag tag (sym e)) i
come-with (Opens now is_active) tag x e i = i
come-with (Ticked now) tag x e i = i
come-with (Sends message) tag x e i = i
come-with Aborts tag x e i = i
come-with (ShutsDown now) tag x e i = i
come-with (Flushes now) tag x e i = i

takes-present : (what : Happening) (c : Settings) (d : DataValue) (s : State) (epochs : List Epoch) → HasComeBy what d → s.association.own_tag ≡ tag_of what →
    Current what epochs → All IsReceived epochs → Presents epochs s.association →
    Holds what (with_told what (data_rules.after_data c (received s.association.receiver d.tsn (piece_of d)) s).told epochs)
    (data_rules.after_data c (received s.association.receiver d.tsn (piece_of d)) s).left.association
takes-present what c d s [] come tag current each h = absurd h
takes-present what c d s (latest ∷ past) come tag current each h =
    let r : receiving.Receiver = s.association.receiver in
    let steps : receiving.Steps = received r d.tsn (piece_of d) in
    let taken : State = state.with_association s (record s.association { receiver = steps.left; is_sack_due = true }) in
    let x : Done = data_rules.told_each c steps.told taken in
    let last = received-last r d.tsn (piece_of d) in
    let first : ℕ = s.association.peer.first in
    let start : Course = first_course 2 first in
    let course : Course = after_calls h.calls start in
    let chunk : Chunk = chunk_of d in
    let before = h.course in
    let takes : Takes course chunk = received-so course chunk in
    let whole : List Call = h.calls ++ takes.calls in
    let on : after_calls whole start ≡ after_calls takes.calls course = calls-on h.calls takes.calls start in
    let so = takes.so in
    let more : Epoch = hearing-more latest (messages_in steps.told) in
    let P : Chunk → Type 0 = λ y. Contains latest.came y in
    let came : Contains latest.came chunk = current chunk (come-with what latest.tag chunk (sym h.tag_is ∙ tag) come.there) in
    let now-course : IsCourse more first whole = record {
      are = are-on h.calls takes.calls before.are (takes.are come.fits);
      chunks =
          subst (λ (l : List Chunk). All P l) (sym (ap (λ (y : Course). y.came) on ∙ takes.came))
          (All-append P course.came (chunk ∷ []) before.chunks (only P chunk came));
      heard_is = ap (λ (l : List pieces.Message). l ++ messages_in steps.told) before.heard_is
          ∙ ap (λ (q : receiving.Receiver). messages_in course.told ++ messages_in (received q d.tsn (piece_of d)).told) h.receiver_is
          ∙ sym so.messages_so ∙ ap (λ (y : Course). messages_in y.told) (sym on);
    } in
    subst (λ (es : List Epoch). Holds what es x.left.association) (sym (each-told what c steps.told taken latest past last)) (record {
      current = current;
      received = record {
        each = All-cons IsReceived more past (record { first = first; calls = whole; course = now-course }) (All-tail IsReceived latest past each);
        present = λ t.
            present-as (more ∷ past) taken.association x.left.association (each-same c steps.told taken last t)
            (record {
              calls = whole;
              course = now-course;
              tag_is = h.tag_is;
              receiver_is = ap (λ (q : receiving.Receiver). (received q d.tsn (piece_of d)).left) h.receiver_is
                  ∙ sym so.receiver ∙ ap (λ (y : Course). y.receiver) (sym on);
            });
      };
    })

reports-present : (epochs : List Epoch) (a : Association) → All IsReceived epochs → Presents epochs a → Presents epochs (data_rules.sacked a)
reports-present [] a each h = h
reports-present (latest ∷ past) a each h =
    let start : Course = first_course 2 a.peer.first in
    let course : Course = after_calls h.calls start in
    let before = h.course in
    let on : after_calls (h.calls ++ Reports ∷ []) start ≡ after_call Reports course = calls-on h.calls (Reports ∷ []) start in
    record {
      calls = h.calls ++ Reports ∷ [];
      course = record {
        are = are-on h.calls (Reports ∷ []) before.are (tt, tt);
        chunks = subst (λ (l : List Chunk). All (λ chunk. Contains latest.came chunk) l) (sym (ap (λ (y : Course). y.came) on)) before.chunks;
        heard_is = before.heard_is ∙ ap (λ (y : Course). messages_in y.told) (sym on);
      };
      tag_is = h.tag_is;
      receiver_is = ap (λ (q : receiving.Receiver). reported q) h.receiver_is ∙ ap (λ (y : Course). y.receiver) (sym on);
    }

also-keeps : (what : Happening) (s : State) (d : Done) (rule : State → Done) → Keeps what s d → Keeps what d.left (rule d.left) →
    Keeps what s (followed_by d rule)
also-keeps what s d rule t u = record {
  keeps = λ epochs h.
      subst (λ (es : List Epoch). Holds what es (rule d.left).left.association) (sym (told-on what d.told (rule d.left).told epochs))
      (u.keeps (with_told what d.told epochs) (t.keeps epochs h));
}

shut-told : (what : Happening) (up : Bool) (epochs : List Epoch) → with_told what (if up then Down losses.Shutdown ∷ [] else []) epochs ≡ epochs
shut-told what true epochs = refl
shut-told what false epochs = refl

received-steps : (what : Happening) → AreSteps (arrived what) (Keeps what)
received-steps what = record {
  alike = λ s left sent f bare. alike-keeps what s left sent f.same;
  ended = λ c why chunks s bare.
      let d : Done = ending.ended_with c why chunks s in
      gone-keeps what s d.left d.sent d.told (end-told what s.association.is_up s.is_wanted why) refl;
  tries = λ s left sent i bare. gone-keeps what s left sent [] (λ epochs. refl) i.takes_none;
  opens = λ c now own far first peer address s t d w. opens-keeps what c now own far first peer address s t d;
  shuts = λ s left i. gone-keeps what s left [] _ (shut-told what s.association.is_up) i.takes_none;
  takes = λ c d s come tag right up now-takes. record {
    keeps = λ epochs h.
        let r = h.received in
        takes-present what c d s epochs come tag h.current r.each (r.present now-takes);
  };
  confirms = λ s left n h tag a answer. alike-keeps what s left [] a;
  wants = λ s h. record { keeps = λ epochs t. t };
  gives = λ m s left h a. alike-keeps what s left [] a;
  puts = λ s left sent h a. alike-keeps what s left sent a;
  reports = λ s. record {
    keeps = λ epochs h.
        let r = h.received in
        record {
          current = h.current;
          received = record { each = r.each; present = λ t. reports-present epochs s.association r.each (r.present t) };
        };
  };
  also = also-keeps what;
}

-- ---- all that happens

chunks-come : (what : Happening) (chunks : List ChunkValue) → All Fits (chunks_in chunks) →
    ((x : Chunk) → Contains (chunks_in chunks) x → Contains (came_by what) x) → HaveCome (arrived what) chunks
chunks-come what [] f h = tt
chunks-come what (packets.DataChunk d ∷ chunks) f h = (
  record { fits = f 0 (chunk_of d) (omega arith); there = h (chunk_of d) (0, omega arith, refl) },
  chunks-come what chunks (λ i x l. f (suc i) x (omega (arith, l))) (λ x i. h x (suc i.0, omega (arith, i.1), i.2)),
)
chunks-come what (packets.InitChunk init ∷ chunks) f h = (tt, chunks-come what chunks f h)
chunks-come what (packets.InitAckChunk init ∷ chunks) f h = (tt, chunks-come what chunks f h)
chunks-come what (packets.SackChunk sack ∷ chunks) f h = (tt, chunks-come what chunks f h)
chunks-come what (packets.HeartbeatChunk information ∷ chunks) f h = (tt, chunks-come what chunks f h)
chunks-come what (packets.HeartbeatAckChunk information ∷ chunks) f h = (tt, chunks-come what chunks f h)
chunks-come what (packets.AbortChunk is_reflected causes ∷ chunks) f h = (tt, chunks-come what chunks f h)
chunks-come what (packets.ShutdownChunk cumulative ∷ chunks) f h = (tt, chunks-come what chunks f h)
chunks-come what (packets.ShutdownAckChunk ∷ chunks) f h = (tt, chunks-come what chunks f h)
chunks-come what (packets.ErrorChunk causes ∷ chunks) f h = (tt, chunks-come what chunks f h)
chunks-come what (packets.CookieEchoChunk cookie ∷ chunks) f h = (tt, chunks-come what chunks f h)
chunks-come what (packets.CookieAckChunk ∷ chunks) f h = (tt, chunks-come what chunks f h)
chunks-come what (packets.ShutdownCompleteChunk is_reflected ∷ chunks) f h = (tt, chunks-come what chunks f h)
chunks-come what (packets.UnknownChunk kind flags value ∷ chunks) f h = (tt, chunks-come what chunks f h)
chunks-come what (packets.MalformedChunk kind ∷ chunks) f h = (tt, chunks-come what chunks f h)

what-comes : (what : Happening) → HaveTsns what → Comes (arrived what) what
what-comes (Came now source packet) f = (chunks-come (Came now source packet) packet.chunks f (λ x i. i), refl)
what-comes (Opens now is_active) f = tt
what-comes (Ticked now) f = tt
what-comes (Sends message) f = tt
what-comes Aborts f = tt
what-comes (ShutsDown now) f = tt
what-comes (Flushes now) f = tt

-- what comes is added to the latest association
more-course : (epoch : Epoch) (more : List Chunk) (first : ℕ) (calls : List Call) → IsCourse epoch first calls →
    IsCourse (record epoch { came = epoch.came ++ more }) first calls
more-course epoch more first calls h = record {
  are = h.are;
  chunks = All-weaker (λ (chunk : Chunk). Contains epoch.came chunk) (λ (chunk : Chunk). Contains (epoch.came ++ more) chunk)
      (λ x i. Contains-append_left epoch.came more x i) (after_calls calls (first_course 2 first)).came h.chunks;
  heard_is = h.heard_is;
}

comes-to : (what : Happening) (epochs : List Epoch) (a : Association) → AreReceived epochs a → Holds what (with_come what epochs) a
comes-to what [] a h = record { current = tt; received = h }
comes-to what (latest ∷ past) a h =
    let more : List Chunk = came_with latest.tag what in
    let first : IsReceived latest = All-head IsReceived latest past h.each in
    record {
      current = λ x i. Contains-append_right latest.came more x i;
      received = record {
        each = All-cons IsReceived (record latest { came = latest.came ++ more }) past
            (record { first = first.first; calls = first.calls; course = more-course latest more first.first first.calls first.course })
            (All-tail IsReceived latest past h.each);
        present = λ t.
            let p = h.present t in
            record { calls = p.calls; course = more-course latest more a.peer.first p.calls p.course; tag_is = p.tag_is; receiver_is = p.receiver_is };
      };
    }

all-keep : (c : Settings) (k : Secrets) (whats : List Happening) (s : State) (epochs : List Epoch) → All HaveTsns whats → AreReceived epochs s.association →
    Right s → AreReceived (epochs_after c k whats s epochs) (after_all c k whats s).left.association
all-keep c k [] s epochs f h r = h
all-keep c k (what ∷ more) s epochs f h r =
    let t : Passes (Keeps what) s (after c k what s) =
    happens (received-steps what) c k what s (what-comes what (All-head HaveTsns what more f)) r in
    let one = t.kept in
    let next : Holds what (with_told what (after c k what s).told (with_come what epochs)) (after c k what s).left.association =
    one.keeps (with_come what epochs) (comes-to what epochs s.association h) in
    all-keep c k more (after c k what s).left (with_told what (after c k what s).told (with_come what epochs)) (All-tail HaveTsns what more f) next.received t.left

pub all-received : messages_are_received
all-received c k happenings f =
    all-keep c k happenings (first_state c) [] f (record { each = All-nil IsReceived; present = λ t. absurd (cc) })
    none-right
