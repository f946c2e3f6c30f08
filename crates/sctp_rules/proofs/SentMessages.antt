-- What an endpoint puts out was given, by the pass over all rules.
use Rattle.std.proofs.Common.{◌≡◌, ℕ, suc, ◌+◌, ◌<◌, Bool, true, false, List, [], ◌∷◌, ◌++◌, Option}
use Rattle.std.proofs.Common.{refl, ap, sym, ◌∙◌, subst, arith, map, nat_eq}
use Rattle.std.specs.Prelude.{All, ◌&&◌, if◌then◌else◌}
use Rattle.std.specs.List.{Contains}
use Rattle.std.proofs.lemmas.Bool.{eq-eqb}
use Rattle.std.proofs.lemmas.Bool.Decides.{nat_tests}
use Rattle.std.proofs.lemmas.List.Elements.{All-append, All-nil, All-cons, All-weaker, All-map, Contains-append_left, Contains-append_right}
use Rattle.sctp_receiving.specs.Consuming as consuming
use Rattle.sctp_receiving.specs.Receiver as receiving
use Rattle.sctp_receiving.specs.Receiver.{received}
use Rattle.sctp_receiving.specs.declared.violation.Violation.{Violation}
use Rattle.sctp_receiving.specs.declared.violation.Violation.TheVariants as violations
use Rattle.sctp_sending.specs.Outgoing.{Message}
use Rattle.sctp_sending.specs.Sending.{Sending, given, stopped, confirmation}
use Rattle.sctp_codec.specs.Packets.{ChunkValue, DataValue}
use Rattle.sctp_codec.specs.Packets as packets
use Rattle.sctp_rules.specs.declared.phase.Phase.{Phase}
use Rattle.sctp_rules.specs.declared.phase.Phase.TheVariants.{Closed, CookieWait, CookieEchoed, Established}
use Rattle.sctp_rules.specs.declared.phase.Phase.TheVariants.{ShutdownPending, ShutdownSent, ShutdownReceived}
use Rattle.sctp_rules.specs.declared.phase.Phase.TheVariants.{ShutdownAckSent}
use Rattle.sctp_rules.specs.declared.loss.Loss.{Loss}
use Rattle.sctp_rules.specs.declared.loss.Loss.TheVariants as losses
use Rattle.sctp_rules.specs.Settings.{Settings, Secrets, Address}
use Rattle.sctp_rules.specs.State as state
use Rattle.sctp_rules.specs.State.{Association, State, Told, Up, Heard, Down, Failed, Done, silent, followed_by, first_state, Datagram}
use Rattle.sctp_rules.specs.Ending as ending
use Rattle.sctp_rules.specs.Opening as opening
use Rattle.sctp_rules.specs.Opening.{is_there}
use Rattle.sctp_rules.specs.Confirming as confirming
use Rattle.sctp_rules.specs.Data as data_rules
use Rattle.sctp_rules.specs.Sending as sending
use Rattle.sctp_rules.specs.Endpoint.{Happening, Opens, Came, Ticked, Sends, Aborts, ShutsDown, Flushes, after, after_all}
use Rattle.sctp_rules.specs.Openings.{openings}
use Rattle.sctp_rules.specs.ReceivedMessages.{tag_of}
use Rattle.sctp_rules.specs.SentMessages.{cumulative_in, acknowledged_by, acknowledged_with, Latest, no_latest, opened_by, latest_by, latest_after}
use Rattle.sctp_rules.specs.SentMessages.{IsOneOf, IsGiven, AreGiven, given_messages_are_sent, given_messages_are_kept}
use Rattle.sctp_rules.proofs.Halves.{Half, half_of, IsAnswered, IsDataOf, going-so, AreGone, numbered_in}
use Rattle.sctp_rules.proofs.KeptMessages.{IsKept, kept-first, kept-same, kept-more, kept-answered, kept-stopped, kept-given, kept-gone, kept-chunk, kept-messages, kept-all}
use Rattle.sctp_rules.proofs.Openings.{openings-on, none-shut}
use Rattle.sctp_rules.proofs.Telling.{turn-steps, Turns, any-happening}
use Rattle.sctp_rules.proofs.Passing.{Alike, Follows, IsShut, Arrivals, AreSteps, Passes, Right, HaveCome, Comes, IsBare, AreBare}
use Rattle.sctp_rules.proofs.Passing.{happens, none-right, none-sent, unmoved, told-right, answer-follows, last-bare, one-bare, both-true, second-true}
use Rattle.sctp_rules.proofs.Written.{IsBundle, packets-of}

-- ---- what holds within a happening

pub record Names : Type 0 where
  pub own_tag : ℕ
  pub far_tag : ℕ
  pub own_first : ℕ

abbrev pub names_of : Association → Names
names_of a = record { own_tag = a.own_tag; far_tag = a.far_tag; own_first = a.own_first }

-- the cumulative TSNs that come with this end's tag are among these, and what is kept is right by them
pub record IsThere (what : Happening) (messages : List Message) (acknowledged : List ℕ) (n : Names) (is_up : Bool) (h : Half) : Type 0 where
  pub current : n.own_tag ≡ tag_of what → (cumulative : ℕ) → Contains (acknowledged_by what) cumulative → Contains acknowledged cumulative
  pub kept : IsKept n.own_first messages acknowledged is_up h

abbrev pub Holds : Happening → List Message → List ℕ → Association → Type 0
Holds what messages acknowledged a =
    is_there a.phase ≡ true → IsThere what messages acknowledged (names_of a) a.is_up (half_of a.sender)

-- Up begins an association
abbrev pub messages_in : ℕ → List Message → List Message
messages_in opened messages = if nat_eq opened 0 then messages else []

abbrev pub acknowledged_in : Happening → ℕ → List ℕ → List ℕ
acknowledged_in what opened acknowledged = if nat_eq opened 0 then acknowledged else acknowledged_by what

pub record Follow (what : Happening) (s : State) (d : Done) : Type 0 where
  pub keeps :
      (messages : List Message) (acknowledged : List ℕ) → Holds what messages acknowledged s.association →
      Holds what (messages_in (openings d.told) messages) (acknowledged_in what (openings d.told) acknowledged) d.left.association
  pub stays :
      openings d.told ≡ 0 → is_there d.left.association.phase ≡ true →
      (is_there s.association.phase ≡ true) × (names_of s.association ≡ names_of d.left.association)
  pub bare : AreBare d.sent

abbrev pub arrived : Happening → Arrivals
arrived what = record {
  carried = λ d. Unit {0};
  cumulative = λ n. Contains (acknowledged_by what) n;
  tag = λ tag. tag ≡ tag_of what;
  message = λ m. ⊥;
  flush = ⊥;
  wish = Unit {0};
}

-- ---- the steps

abbrev names : (own_tag far_tag own_first : ℕ) → Names
names own_tag far_tag own_first = record { own_tag = own_tag; far_tag = far_tag; own_first = own_first }

same-names : (a b c d e f : ℕ) → a ≡ d → b ≡ e → c ≡ f → names a b c ≡ names d e f
same-names a b c d e f p q r = cc

-- nothing is told
told-none : (what : Happening) (told : List Told) (messages : List Message) (acknowledged : List ℕ) (a : Association) → openings told ≡ 0 →
    Holds what messages acknowledged a →
    Holds what (messages_in (openings told) messages) (acknowledged_in what (openings told) acknowledged) a
told-none what told messages acknowledged a e h =
    subst (λ (n : ℕ). Holds what (messages_in n messages) (acknowledged_in what n acknowledged) a) (sym e) h

-- the same association goes on
names-follow : (what : Happening) (messages : List Message) (acknowledged : List ℕ) (x y : Names) (up is_up : Bool) (h : Half) → x ≡ y → up ≡ is_up →
    IsThere what messages acknowledged x up h → IsThere what messages acknowledged y is_up h
names-follow what messages acknowledged x y up is_up h e f i =
    subst (λ (n : Names). IsThere what messages acknowledged n is_up h) e
    (subst (λ (b : Bool). IsThere what messages acknowledged x b h) f i)

alike-follow : (what : Happening) (s left : State) (sent : List Datagram) → Follows s left → AreBare sent →
    Follow what s (record { sent = sent; told = []; left = left })
alike-follow what s left sent f bare =
    let a = f.same in
    let same-so : names_of s.association ≡ names_of left.association = same-names _ _ _ _ _ _ a.own_tag a.far_tag a.own_first in
    record {
      keeps = λ messages acknowledged h t.
          let i = h (a.there t) in
          names-follow what messages acknowledged (names_of s.association) (names_of left.association) s.association.is_up left.association.is_up
          (half_of left.association.sender) same-so a.up (record {
            current = i.current;
            kept = kept-same s.association.own_first messages acknowledged s.association.is_up (half_of s.association.sender)
                (half_of left.association.sender) f.half i.kept;
          });
      stays = λ e t. (a.there t, same-so);
      bare = bare;
    }

gone-follow : (what : Happening) (s : State) (d : Done) → is_there d.left.association.phase ≡ false → AreBare d.sent → Follow what s d
gone-follow what s d off bare = record {
  keeps = λ messages acknowledged h t. let e : false ≡ true = sym off ∙ t in absurd (cc);
  stays = λ n t. let e : false ≡ true = sym off ∙ t in absurd (cc);
  bare = bare;
}

opens-follow : (what : Happening) (c : Settings) (now own_tag far_tag own_first : ℕ) (peer : state.Peer) (address : Address) (s : State) →
    Follow what s (opening.opened c now own_tag far_tag own_first peer address s)
opens-follow what c now own_tag far_tag own_first peer address s = record {
  keeps = λ messages acknowledged h t. record { current = λ e n i. i; kept = kept-first c.bounds own_first peer.window (acknowledged_by what) };
  stays = λ e t. absurd (omega (arith, e));
  bare = none-sent;
}

shuts-follow : (what : Happening) (s left : State) → IsShut s left →
    Follow what s (record { sent = []; told = if s.association.is_up then Down losses.Shutdown ∷ [] else []; left = left })
shuts-follow what s left i =
    let told : List Told = if s.association.is_up then Down losses.Shutdown ∷ [] else [] in
    let same-so : names_of s.association ≡ names_of left.association = same-names _ _ _ _ _ _ i.own_tag i.far_tag i.own_first in
    record {
      keeps = λ messages acknowledged h.
          told-none what told messages acknowledged left.association (none-shut s.association.is_up losses.Shutdown)
          (λ t.
          let j = h i.was_there in
          names-follow what messages acknowledged (names_of s.association) (names_of left.association) false left.association.is_up
          (half_of left.association.sender) same-so (sym i.is_down) (record {
            current = j.current;
            kept = kept-same s.association.own_first messages acknowledged false (half_of (stopped s.association.sender))
                (half_of left.association.sender) i.half
                (kept-stopped s.association.own_first messages acknowledged s.association.is_up s.association.sender j.kept);
          }));
      stays = λ e t. (i.was_there, same-so);
      bare = none-sent;
    }

confirms-follow : (what : Happening) (s left : State) (n : ℕ) → Contains (acknowledged_by what) n → s.association.own_tag ≡ tag_of what → Alike s left →
    IsAnswered (confirmation s.association.sender n) s.association.sender left.association.sender → Follow what s (silent left)
confirms-follow what s left n came tag a answer =
    let same-so : names_of s.association ≡ names_of left.association = same-names _ _ _ _ _ _ a.own_tag a.far_tag a.own_first in
    record {
      keeps = λ messages acknowledged h t.
          let i = h (a.there t) in
          names-follow what messages acknowledged (names_of s.association) (names_of left.association) s.association.is_up left.association.is_up
          (half_of left.association.sender) same-so a.up (record {
            current = i.current;
            kept = kept-answered (confirmation s.association.sender n) s.association.own_first messages acknowledged s.association.is_up
                s.association.sender left.association.sender n refl answer (i.current tag n came) i.kept;
          });
      stays = λ e t. (a.there t, same-so);
      bare = none-sent;
    }

zero-sum : (m n k : ℕ) → k ≡ m + n → nat_eq k 0 ≡ (nat_eq m 0 && nat_eq n 0)
zero-sum m n k e = grind (arith, nat_tests, e)

both-if : {A : Type 0} → (a b : Bool) (x y : A) → (if (a && b) then x else y) ≡ (if b then (if a then x else y) else y)
both-if true true x y = refl
both-if true false x y = refl
both-if false true x y = refl
both-if false false x y = refl

opened-both : {A : Type 0} → (m n k : ℕ) (x y : A) → k ≡ m + n →
    (if nat_eq k 0 then x else y) ≡ (if nat_eq n 0 then (if nat_eq m 0 then x else y) else y)
opened-both {A} m n k x y e =
    ap (λ (b : Bool). if◌then◌else◌ {A = A} b x y) (zero-sum m n k e) ∙ both-if (nat_eq m 0) (nat_eq n 0) x y

also-follow : (what : Happening) (s : State) (d : Done) (rule : State → Done) → Follow what s d → Follow what d.left (rule d.left) →
    Follow what s (followed_by d rule)
also-follow what s d rule t u =
    let e : Done = rule d.left in
    let on : openings (d.told ++ e.told) ≡ openings d.told + openings e.told = openings-on d.told e.told in
    record {
      keeps = λ messages acknowledged h.
          subst (λ (ms : List Message). Holds what ms (acknowledged_in what (openings (d.told ++ e.told)) acknowledged) e.left.association)
          (sym (opened-both (openings d.told) (openings e.told) (openings (d.told ++ e.told)) messages [] on))
          (subst (λ (ns : List ℕ). Holds what (messages_in (openings e.told) (messages_in (openings d.told) messages)) ns e.left.association)
          (sym (opened-both (openings d.told) (openings e.told) (openings (d.told ++ e.told)) acknowledged (acknowledged_by what) on))
          (u.keeps (messages_in (openings d.told) messages) (acknowledged_in what (openings d.told) acknowledged)
          (t.keeps messages acknowledged h)));
      stays = λ n there.
          let second = u.stays (omega (arith, n, on)) there in
          let first = t.stays (omega (arith, n, on)) second.0 in
          (first.0, first.1 ∙ second.1);
      bare = All-append (λ (x : Datagram). All IsBare x.packet.chunks) d.sent e.sent t.bare u.bare;
    }

-- ---- DATA comes

ended-follow : (what : Happening) (c : Settings) (why : Loss) (chunks : List ChunkValue) (s : State) → All IsBare chunks → Right s →
    Follow what s (ending.ended_with c why chunks s)
ended-follow what c why chunks s bare r =
    gone-follow what s (ending.ended_with c why chunks s) refl
    (last-bare c s.association (s.association.control ++ chunks) (All-append IsBare s.association.control chunks r.control bare))

violated-follow : (what : Happening) (c : Settings) (v : Violation) (s : State) → Right s → Follow what s (data_rules.violated c v s)
violated-follow what c (violations.FragmentOfNoStream stream) s r =
    let later : State = ending.answered (data_rules.no_stream stream) s in
    let f : Follows s later = answer-follows (data_rules.no_stream stream) s tt r in
    let abort : List ChunkValue = ending.abort_for ending.violation ∷ [] in
    also-follow what s (silent later) (λ x. ending.ended_with c losses.Protocol abort later) (alike-follow what s later [] f none-sent)
    (ended-follow what c losses.Protocol abort later (one-bare (ending.abort_for ending.violation) tt) f.right)
violated-follow what c violations.Misplaced s r =
    ended-follow what c losses.Protocol (ending.abort_for ending.violation ∷ []) s (one-bare (ending.abort_for ending.violation) tt) r
violated-follow what c violations.Differs s r =
    ended-follow what c losses.Protocol (ending.abort_for ending.violation ∷ []) s (one-bare (ending.abort_for ending.violation) tt) r
violated-follow what c violations.TooLong s r =
    ended-follow what c losses.Protocol (ending.abort_for ending.violation ∷ []) s (one-bare (ending.abort_for ending.violation) tt) r

one-follow : (what : Happening) (c : Settings) (told : consuming.Told) (s : State) → Right s → Follow what s (data_rules.told_one c told s)
one-follow what c consuming.Nothing s r = alike-follow what s s [] (unmoved s r) none-sent
one-follow what c (consuming.Tells message) s r = record {
  keeps = λ messages acknowledged h. h;
  stays = λ e t. (t, refl);
  bare = none-sent;
}
one-follow what c (consuming.NoStream stream) s r =
    alike-follow what s (ending.answered (data_rules.no_stream stream) s) [] (answer-follows (data_rules.no_stream stream) s tt r) none-sent
one-follow what c (consuming.Violates v) s r = violated-follow what c v s r

each-follow : (what : Happening) (c : Settings) (tolds : List consuming.Told) (s : State) → Right s → Follow what s (data_rules.told_each c tolds s)
each-follow what c [] s r = alike-follow what s s [] (unmoved s r) none-sent
each-follow what c (told ∷ more) s r =
    also-follow what s (data_rules.told_one c told s) (λ left. data_rules.told_each c more left) (one-follow what c told s r)
    (each-follow what c more (data_rules.told_one c told s).left (told-right c (told ∷ []) s r))

sent-steps : (what : Happening) → AreSteps (arrived what) (Follow what)
sent-steps what = record {
  alike = alike-follow what;
  ended = λ c why chunks s bare. gone-follow what s (ending.ended_with c why chunks s) refl bare;
  tries = λ s left sent i bare. gone-follow what s (record { sent = sent; told = []; left = left }) i.is_none bare;
  opens = λ c now own far first peer address s t d w. opens-follow what c now own far first peer address s;
  shuts = shuts-follow what;
  takes = λ c d s come tag r up now-takes.
      let steps : receiving.Steps = received s.association.receiver d.tsn (data_rules.piece_of d) in
      let taken : State = state.with_association s (record s.association { receiver = steps.left; is_sack_due = true }) in
      let x = each-follow what c steps.told taken r in
      record { keeps = x.keeps; stays = x.stays; bare = x.bare };
  confirms = confirms-follow what;
  wants = λ s h. record { keeps = λ messages acknowledged t. t; stays = λ e t. (t, refl); bare = none-sent };
  gives = λ m s left h a. absurd h;
  reports = λ s. record { keeps = λ messages acknowledged h. h; stays = λ e t. (t, refl); bare = none-sent };
  puts = λ s left sent h a. absurd h;
  also = also-follow what;
}

-- ---- what comes

chunks-come : (what : Happening) (chunks : List ChunkValue) →
    ((n : ℕ) → Contains (cumulative_in chunks) n → Contains (acknowledged_by what) n) → HaveCome (arrived what) chunks
chunks-come what [] h = tt
chunks-come what (packets.SackChunk sack ∷ chunks) h =
    (h sack.cumulative (0, omega arith, refl), chunks-come what chunks (λ n i. h n (suc i.0, omega (arith, i.1), i.2)))
chunks-come what (packets.ShutdownChunk cumulative ∷ chunks) h =
    (h cumulative (0, omega arith, refl), chunks-come what chunks (λ n i. h n (suc i.0, omega (arith, i.1), i.2)))
chunks-come what (packets.DataChunk d ∷ chunks) h = (tt, chunks-come what chunks h)
chunks-come what (packets.InitChunk init ∷ chunks) h = (tt, chunks-come what chunks h)
chunks-come what (packets.InitAckChunk init ∷ chunks) h = (tt, chunks-come what chunks h)
chunks-come what (packets.HeartbeatChunk information ∷ chunks) h = (tt, chunks-come what chunks h)
chunks-come what (packets.HeartbeatAckChunk information ∷ chunks) h = (tt, chunks-come what chunks h)
chunks-come what (packets.AbortChunk is_reflected causes ∷ chunks) h = (tt, chunks-come what chunks h)
chunks-come what (packets.ShutdownAckChunk ∷ chunks) h = (tt, chunks-come what chunks h)
chunks-come what (packets.ErrorChunk causes ∷ chunks) h = (tt, chunks-come what chunks h)
chunks-come what (packets.CookieEchoChunk cookie ∷ chunks) h = (tt, chunks-come what chunks h)
chunks-come what (packets.CookieAckChunk ∷ chunks) h = (tt, chunks-come what chunks h)
chunks-come what (packets.ShutdownCompleteChunk is_reflected ∷ chunks) h = (tt, chunks-come what chunks h)
chunks-come what (packets.UnknownChunk kind flags value ∷ chunks) h = (tt, chunks-come what chunks h)
chunks-come what (packets.MalformedChunk kind ∷ chunks) h = (tt, chunks-come what chunks h)

come-with : (what : Happening) (tag n : ℕ) → tag ≡ tag_of what → Contains (acknowledged_by what) n → Contains (acknowledged_with tag what) n
come-with (Came now source packet) tag n e i = rw (eq-eqb packet.tag tag (sym e)) i
come-with (Opens now is_active) tag n e i = i
come-with (Ticked now) tag n e i = i
come-with (Sends message) tag n e i = i
come-with Aborts tag n e i = i
come-with (ShutsDown now) tag n e i = i
come-with (Flushes now) tag n e i = i

-- ---- the latest association

pub record IsLatest (latest : Latest) (n : Names) (is_up : Bool) (h : Half) : Type 0 where
  pub own_tag : n.own_tag ≡ latest.own_tag
  pub far_tag : n.far_tag ≡ latest.far_tag
  pub first : n.own_first ≡ latest.first
  pub kept : IsKept latest.first latest.given latest.acknowledged is_up h

abbrev pub HasLatest : Latest → Association → Type 0
HasLatest latest a = is_there a.phase ≡ true → IsLatest latest (names_of a) a.is_up (half_of a.sender)

-- what came since is added
abbrev with_more : Latest → Happening → Latest
with_more latest what = record latest { acknowledged = latest.acknowledged ++ acknowledged_with latest.own_tag what }

before-holds : (what : Happening) (latest : Latest) (a : Association) → HasLatest latest a →
    Holds what latest.given (latest.acknowledged ++ acknowledged_with latest.own_tag what) a
before-holds what latest a h t =
    let l = h t in
    let more : List ℕ = acknowledged_with latest.own_tag what in
    record {
      current = λ e n i.
          Contains-append_right latest.acknowledged more n (come-with what latest.own_tag n (sym l.own_tag ∙ e) i);
      kept = subst (λ (first : ℕ). IsKept first latest.given (latest.acknowledged ++ more) a.is_up (half_of a.sender)) (sym l.first)
          (kept-more latest.first latest.given latest.acknowledged (latest.acknowledged ++ more) a.is_up (half_of a.sender)
          (λ n i. Contains-append_left latest.acknowledged more n i) l.kept);
    }

latest-if : (b : Bool) (what : Happening) (latest : Latest) (s : State) (d : Done) → nat_eq (openings d.told) 0 ≡ b → Follow what s d →
    HasLatest latest s.association → HasLatest (if b then with_more latest what else opened_by what d.left.association) d.left.association
latest-if true what latest s d e x h t =
    let none : openings d.told ≡ 0 = grind (arith, nat_tests, e) in
    let stays = x.stays none t in
    let l = h stays.0 in
    let more : List ℕ = latest.acknowledged ++ acknowledged_with latest.own_tag what in
    let a : Association = d.left.association in
    let i : IsThere what latest.given more (names_of a) a.is_up (half_of a.sender) =
    subst (λ (b : Bool). IsThere what (if b then latest.given else []) (if b then more else acknowledged_by what) (names_of a) a.is_up (half_of a.sender)) e
    (x.keeps latest.given more (before-holds what latest s.association h) t) in
    let first : a.own_first ≡ latest.first = sym (ap (λ (n : Names). n.own_first) stays.1) ∙ l.first in
    record {
      own_tag = sym (ap (λ (n : Names). n.own_tag) stays.1) ∙ l.own_tag;
      far_tag = sym (ap (λ (n : Names). n.far_tag) stays.1) ∙ l.far_tag;
      first = first;
      kept = subst (λ (n : ℕ). IsKept n latest.given more a.is_up (half_of a.sender)) first i.kept;
    }
latest-if false what latest s d e x h t =
    let more : List ℕ = latest.acknowledged ++ acknowledged_with latest.own_tag what in
    let a : Association = d.left.association in
    let i : IsThere what [] (acknowledged_by what) (names_of a) a.is_up (half_of a.sender) =
    subst (λ (b : Bool). IsThere what (if b then latest.given else []) (if b then more else acknowledged_by what) (names_of a) a.is_up (half_of a.sender)) e
    (x.keeps latest.given more (before-holds what latest s.association h) t) in
    record { own_tag = refl; far_tag = refl; first = refl; kept = i.kept }

by-pass : (what : Happening) (c : Settings) (k : Secrets) (latest : Latest) (s : State) → Comes (arrived what) what → Right s →
    HasLatest latest s.association →
    HasLatest (if nat_eq (openings (after c k what s).told) 0 then with_more latest what else opened_by what (after c k what s).left.association)
    (after c k what s).left.association
by-pass what c k latest s comes r h =
    let t : Passes (Follow what) s (after c k what s) = happens (sent-steps what) c k what s comes r in
    latest-if (nat_eq (openings (after c k what s).told) 0) what latest s (after c k what s) refl t.kept h

-- ---- the user gives a message

none-more : (latest : Latest) (is_up : Bool) (h : Half) → IsKept latest.first latest.given latest.acknowledged is_up h →
    IsKept latest.first latest.given (latest.acknowledged ++ []) is_up h
none-more latest is_up h k =
    kept-more latest.first latest.given latest.acknowledged (latest.acknowledged ++ []) is_up h
    (λ n i. Contains-append_left latest.acknowledged [] n i) k

established-takes : (phase : Phase) → sending.is_established phase ≡ true → data_rules.takes_data phase ≡ true
established-takes Established e = refl
established-takes Closed e = absurd (cc)
established-takes CookieWait e = absurd (cc)
established-takes CookieEchoed e = absurd (cc)
established-takes ShutdownPending e = absurd (cc)
established-takes ShutdownSent e = absurd (cc)
established-takes ShutdownReceived e = absurd (cc)
established-takes ShutdownAckSent e = absurd (cc)

stream-below : (s : Sending) (m : Message) → confirming.can_take s m ≡ true → m.stream < 2
stream-below s m e = grind (arith, nat_tests, e)

sends-so : (b : Bool) (m : Message) (latest : Latest) (s : State) → sending.may_send m s ≡ b → Right s → HasLatest latest s.association →
    HasLatest (record latest { given = if b then latest.given ++ m ∷ [] else latest.given; acknowledged = latest.acknowledged ++ [] })
    (if b then state.with_association s (record s.association { sender = given s.association.sender m }) else s).association
sends-so true m latest s e r h t =
    let l = h t in
    let established : sending.is_established s.association.phase ≡ true =
    both-true (sending.is_established s.association.phase) (confirming.can_take s.association.sender m) e in
    let can : confirming.can_take s.association.sender m ≡ true =
    second-true (sending.is_established s.association.phase) (confirming.can_take s.association.sender m) e in
    let up : s.association.is_up ≡ true = r.right.up (established-takes s.association.phase established) in
    record {
      own_tag = l.own_tag;
      far_tag = l.far_tag;
      first = l.first;
      kept = kept-given latest.first latest.given (latest.acknowledged ++ []) s.association.is_up s.association.sender m
          (stream-below s.association.sender m can) up (none-more latest s.association.is_up (half_of s.association.sender) l.kept);
    }
sends-so false m latest s e r h t =
    let l = h t in
    record {
      own_tag = l.own_tag;
      far_tag = l.far_tag;
      first = l.first;
      kept = none-more latest s.association.is_up (half_of s.association.sender) l.kept;
    }

-- ---- packets are asked for

acked-there : (b : Bool) (t2 : Option ℕ) (a : Association) → is_there (if b then record (data_rules.sacked a) { t2 = t2 } else a).phase ≡ is_there a.phase
acked-there true t2 a = refl
acked-there false t2 a = refl

flushed-so : (b : Bool) (now : ℕ) (latest : Latest) (a : Association) → HasLatest latest a →
    HasLatest (record latest { acknowledged = latest.acknowledged ++ [] })
    (record (if b then record a { sender = (confirming.all_gone now a.sender).left } else a) { control = [] })
flushed-so true now latest a h t =
    let l = h t in
    let g : AreGone a.sender (confirming.all_gone now a.sender) = going-so 257 now a.sender in
    record {
      own_tag = l.own_tag;
      far_tag = l.far_tag;
      first = l.first;
      kept = none-more latest a.is_up (half_of (confirming.all_gone now a.sender).left)
          (kept-gone latest.first latest.given latest.acknowledged a.is_up a.sender (confirming.all_gone now a.sender).left g.left l.kept);
    }
flushed-so false now latest a h t =
    let l = h t in
    record {
      own_tag = l.own_tag;
      far_tag = l.far_tag;
      first = l.first;
      kept = none-more latest a.is_up (half_of a.sender) l.kept;
    }

reported-so : (b : Bool) (t2 : Option ℕ) (latest : Latest) (a : Association) → HasLatest latest a →
    HasLatest latest (if b then record (data_rules.sacked a) { t2 = t2 } else a)
reported-so true t2 latest a h = h
reported-so false t2 latest a h = h

flush-so : (now : ℕ) (latest : Latest) (a : Association) → HasLatest latest a →
    HasLatest (record latest { acknowledged = latest.acknowledged ++ [] }) (sending.flushed now a)
flush-so now latest a h =
    flushed-so (data_rules.takes_sack (sending.with_acknowledged now a).phase) now latest (sending.with_acknowledged now a)
    (reported-so (sending.is_acknowledging a) (sending.t2_in a.phase now a) latest a h)

-- ---- all that happens

step-so : (what : Happening) (c : Settings) (k : Secrets) (latest : Latest) (s : State) → Right s → HasLatest latest s.association →
    HasLatest (latest_by what s (after c k what s) latest) (after c k what s).left.association
unfolding after
step-so (Came now source packet) c k latest s r h =
    by-pass (Came now source packet) c k latest s (chunks-come (Came now source packet) packet.chunks (λ n i. i), refl) r h
step-so (Opens now is_active) c k latest s r h = by-pass (Opens now is_active) c k latest s tt r h
step-so (Ticked now) c k latest s r h = by-pass (Ticked now) c k latest s tt r h
step-so Aborts c k latest s r h = by-pass Aborts c k latest s tt r h
step-so (ShutsDown now) c k latest s r h = by-pass (ShutsDown now) c k latest s tt r h
step-so (Sends message) c k latest s r h = sends-so (sending.may_send message s) message latest s refl r h
step-so (Flushes now) c k latest s r h = flush-so now latest s.association h

pub record IsSound (latest : Latest) (s : State) : Type 0 where
  pub right : Right s
  pub latest_is : HasLatest latest s.association

all-sound : (c : Settings) (k : Secrets) (whats : List Happening) (s : State) (latest : Latest) → IsSound latest s →
    IsSound (latest_after c k whats s latest) (after_all c k whats s).left
all-sound c k [] s latest h = h
all-sound c k (what ∷ more) s latest h =
    let t : Passes Turns s (after c k what s) = happens turn-steps c k what s (any-happening what) h.right in
    all-sound c k more (after c k what s).left (latest_by what s (after c k what s) latest)
    (record { right = t.left; latest_is = step-so what c k latest s h.right h.latest_is })

sound-after : (c : Settings) (k : Secrets) (happenings : List Happening) →
    IsSound (latest_after c k happenings (first_state c) no_latest) (after_all c k happenings (first_state c)).left
sound-after c k happenings = all-sound c k happenings (first_state c) no_latest (record { right = none-right; latest_is = λ t. absurd (cc) })

-- ---- what is kept

pub all-kept : given_messages_are_kept
all-kept c k happenings there fits =
    let s : State = (after_all c k happenings (first_state c)).left in
    let latest : Latest = latest_after c k happenings (first_state c) no_latest in
    let h = sound-after c k happenings in
    let l = h.latest_is there in
    let kept : IsKept latest.first latest.given latest.acknowledged s.association.is_up (half_of s.association.sender) = l.kept in
    record {
      confirmed = kept.confirmed;
      within = let e = kept.enough in omega (arith, e);
      said = kept.said fits;
      rest = kept-messages latest.first latest.given latest.acknowledged s.association.is_up s.association.sender kept;
      all = λ up. kept-all latest.first latest.given latest.acknowledged s.association.is_up s.association.sender kept up;
    }

-- ---- what goes out

bare-given : (latest : Latest) (a : Association) (tag : ℕ) (chunk : ChunkValue) → IsBare chunk → IsGiven latest a tag chunk
bare-given latest a tag (packets.DataChunk carried) b = absurd b
bare-given latest a tag (packets.InitChunk init) b = tt
bare-given latest a tag (packets.InitAckChunk init) b = tt
bare-given latest a tag (packets.SackChunk sack) b = tt
bare-given latest a tag (packets.HeartbeatChunk information) b = tt
bare-given latest a tag (packets.HeartbeatAckChunk information) b = tt
bare-given latest a tag (packets.AbortChunk is_reflected causes) b = tt
bare-given latest a tag (packets.ShutdownChunk cumulative) b = tt
bare-given latest a tag packets.ShutdownAckChunk b = tt
bare-given latest a tag (packets.ErrorChunk causes) b = tt
bare-given latest a tag (packets.CookieEchoChunk cookie) b = tt
bare-given latest a tag packets.CookieAckChunk b = tt
bare-given latest a tag (packets.ShutdownCompleteChunk is_reflected) b = tt
bare-given latest a tag (packets.UnknownChunk kind flags value) b = tt
bare-given latest a tag (packets.MalformedChunk kind) b = tt

all-bare-given : (latest : Latest) (a : Association) (tag : ℕ) (chunks : List ChunkValue) → All IsBare chunks → All (IsGiven latest a tag) chunks
all-bare-given latest a tag chunks h = All-weaker IsBare (IsGiven latest a tag) (bare-given latest a tag) chunks h

bare-sent : (latest : Latest) (a : Association) (sent : List Datagram) → AreBare sent → All (AreGiven latest a) sent
bare-sent latest a sent h =
    All-weaker (λ (d : Datagram). All IsBare d.packet.chunks) (AreGiven latest a)
    (λ d b. all-bare-given latest a d.packet.tag d.packet.chunks b) sent h

sack-there : (phase : Phase) → data_rules.takes_sack phase ≡ true → is_there phase ≡ true
sack-there Established e = refl
sack-there ShutdownPending e = refl
sack-there ShutdownReceived e = refl
sack-there Closed e = absurd (cc)
sack-there CookieWait e = absurd (cc)
sack-there CookieEchoed e = absurd (cc)
sack-there ShutdownSent e = absurd (cc)
sack-there ShutdownAckSent e = absurd (cc)

acknowledgement-bare : (phase : Phase) (a : Association) → All IsBare (sending.acknowledgement_in phase a)
acknowledgement-bare ShutdownSent a =
    All-cons IsBare (packets.ShutdownChunk a.receiver.cumulative) (data_rules.sack_of a.receiver ∷ []) tt (one-bare (data_rules.sack_of a.receiver) tt)
acknowledgement-bare Closed a = one-bare (data_rules.sack_of a.receiver) tt
acknowledgement-bare CookieWait a = one-bare (data_rules.sack_of a.receiver) tt
acknowledgement-bare CookieEchoed a = one-bare (data_rules.sack_of a.receiver) tt
acknowledgement-bare Established a = one-bare (data_rules.sack_of a.receiver) tt
acknowledgement-bare ShutdownPending a = one-bare (data_rules.sack_of a.receiver) tt
acknowledgement-bare ShutdownReceived a = one-bare (data_rules.sack_of a.receiver) tt
acknowledgement-bare ShutdownAckSent a = one-bare (data_rules.sack_of a.receiver) tt

bare-if : (b : Bool) (chunks : List ChunkValue) → All IsBare chunks → All IsBare (if b then chunks else [])
bare-if true chunks h = h
bare-if false chunks h = All-nil IsBare

module _ (latest : Latest) (a : Association) (h : HasLatest latest a) where
  abbrev GoesOut : ChunkValue → Type 0
  GoesOut chunk = IsGiven latest a a.far_tag chunk

  data-given : (now : ℕ) → is_there a.phase ≡ true → All GoesOut (map packets.DataChunk (confirming.all_gone now a.sender).chunks)
  data-given now t =
      let l = h t in
      let g : AreGone a.sender (confirming.all_gone now a.sender) = going-so 257 now a.sender in
      All-map GoesOut packets.DataChunk (confirming.all_gone now a.sender).chunks
      (All-weaker (IsDataOf a.sender.first (numbered_in a.sender.out)) (λ (d : DataValue). IsOneOf latest a a.far_tag d)
      (λ d i.
      let at = kept-chunk latest.first latest.given latest.acknowledged a.is_up (half_of a.sender) d l.kept i in
      record { there = t; to_peer = l.far_tag; place = at.place; within = at.within; is = at.is })
      (confirming.all_gone now a.sender).chunks g.chunks)

  data-if : (b : Bool) (now : ℕ) → data_rules.takes_sack a.phase ≡ b →
      All GoesOut (if b then map packets.DataChunk (confirming.all_gone now a.sender).chunks else [])
  data-if true now e = data-given now (sack-there a.phase e)
  data-if false now e = All-nil GoesOut

  due-given : (now : ℕ) → All IsBare a.control → All GoesOut (sending.due_chunks now a)
  due-given now control =
      let acks : List ChunkValue = sending.acknowledgement a in
      All-append GoesOut (a.control ++ acks) (sending.data_of now a)
      (all-bare-given latest a a.far_tag (a.control ++ acks)
      (All-append IsBare a.control acks control
      (bare-if (sending.is_acknowledging a) (sending.acknowledgement_in a.phase a) (acknowledgement-bare a.phase a))))
      (data-if (data_rules.takes_sack a.phase) now refl)

  flush-given : (c : Settings) (now : ℕ) → All IsBare a.control → All (AreGiven latest a) (sending.datagrams c now a)
  flush-given c now control =
      All-map (AreGiven latest a) (λ chunks. state.datagram_to c a.address a.far_tag chunks) (sending.packets_of (sending.due_chunks now a))
      (All-weaker (IsBundle GoesOut) (λ (chunks : List ChunkValue). All GoesOut chunks) (λ chunks b. b.each)
      (sending.packets_of (sending.due_chunks now a)) (packets-of GoesOut (sending.due_chunks now a) (due-given now control)))

passed-given : (what : Happening) (c : Settings) (k : Secrets) (latest : Latest) (s : State) → Comes (arrived what) what → Right s →
    All (AreGiven latest s.association) (after c k what s).sent
passed-given what c k latest s comes r =
    let t : Passes (Follow what) s (after c k what s) = happens (sent-steps what) c k what s comes r in
    let f = t.kept in
    bare-sent latest s.association (after c k what s).sent f.bare

next-given : (what : Happening) (c : Settings) (k : Secrets) (latest : Latest) (s : State) → IsSound latest s →
    All (AreGiven latest s.association) (after c k what s).sent
unfolding after
next-given (Came now source packet) c k latest s h =
    passed-given (Came now source packet) c k latest s (chunks-come (Came now source packet) packet.chunks (λ n i. i), refl) h.right
next-given (Opens now is_active) c k latest s h = passed-given (Opens now is_active) c k latest s tt h.right
next-given (Ticked now) c k latest s h = passed-given (Ticked now) c k latest s tt h.right
next-given Aborts c k latest s h = passed-given Aborts c k latest s tt h.right
next-given (ShutsDown now) c k latest s h = passed-given (ShutsDown now) c k latest s tt h.right
next-given (Sends message) c k latest s h = All-nil (AreGiven latest s.association)
next-given (Flushes now) c k latest s h =
    let r = h.right in
    flush-given latest s.association h.latest_is c now r.control

pub all-sent : given_messages_are_sent
all-sent c k happenings what =
    next-given what c k (latest_after c k happenings (first_state c) no_latest) (after_all c k happenings (first_state c)).left
    (sound-after c k happenings)
