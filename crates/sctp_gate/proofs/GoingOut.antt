-- Frames that a fill takes go out before it ends.
use Rattle.std.proofs.Common.{◌≡◌, ◌∙◌, ◌≤◌, ◌<◌, ◌+◌, ℕ, zero, suc, arith, Bool, true, false, List, [], ◌∷◌, ◌++◌, length, drop, map, Option, Some, None, refl, sym, ap, subst, inl, inr}
use Rattle.std.specs.Prelude.{◌⊎◌, ◌&&◌, ◌||◌, not, nat_lt, nat_le, nat_eq, ◌==◌, is_some, sum_by, slice_index, if◌then◌else◌}
use Rattle.std.proofs.Math.Seq.{drop-length}
use Rattle.std.proofs.lemmas.Bool.{eqb-true, and_from}
use Rattle.std.proofs.lemmas.Bool.Decides.{nat_tests}
use Rattle.std.proofs.Common.{length-append}
use Rattle.std.proofs.lemmas.List.{drop-append-le, map-append}
use Rattle.m2pa_codec.specs.Frames.{link_status}
use Rattle.std.proofs.lemmas.List.Sums.{sum_by_push}
use Rattle.sctp_sending.specs.Outgoing.{Message, Outgoing, new_outgoing, octets_of, lost_from}
use Rattle.sctp_sending.specs.Sending.{Sending, most_messages, most_octets, given, messages_of, has_credit, finds_window, has_room, under_way}
use Rattle.sctp_sending.specs.Waiting.{waiting_octets}
use Rattle.sctp_sending.specs.Waiting as half
use Rattle.sctp_sending.proofs.Rooms.{both, none-of}
use Rattle.sctp_sending.proofs.Together.{Goes, Ready, ready-given}
use Rattle.sctp_rules.specs.declared.phase.Phase.{Phase}
use Rattle.sctp_rules.specs.declared.phase.Phase.TheVariants as phases
use Rattle.sctp_rules.specs.State as rules
use Rattle.sctp_rules.specs.State.{Association}
use Rattle.sctp_rules.specs.Data.{takes_sack, sacked}
use Rattle.sctp_rules.specs.Confirming.{can_take, all_gone}
use Rattle.sctp_rules.specs.Sending as sending
use Rattle.sctp_rules.specs.Waiting.{has_room_behind}
use Rattle.sctp_rules.proofs.GoingTogether.{all-out}
use Rattle.exchange_rules.specs.State.{QueueKind, State}
use Rattle.sctp_gate.specs.declared.gate.filling.TheConstants.{MOST_FRAMES}
use Rattle.sctp_gate.specs.Gates.{Gate, Did, nothing, followed_by, is_lasting, text_to_take, message_of, with_given, taken_by, taken_all, filled, flushed}
use Rattle.sctp_gate.specs.Laws.{IsAllOut, taken_frames_go_out, taken_frames_are_given}

-- a gate that may still take frames: all that was given may go out, and at most n octets wait
record IsOpen (now octets : ℕ) (g : Gate) : Type 0 where
  lasting : is_lasting now g.endpoint ≡ true
  there : sending.is_established g.endpoint.state.association.phase ≡ true
  few : length g.endpoint.state.association.sender.out ≤ 256
  ready : Ready g.endpoint.state.association.sender
  waits : waiting_octets g.endpoint.state.association.sender ≤ octets

-- ---- at first nothing waits

first-open : (now : ℕ) (g : Gate) → is_lasting now g.endpoint ≡ true → sending.has_room g.endpoint.state ≡ true → IsOpen now 0 g
unfolding has_room
first-open now g l room =
    let s : Sending = g.endpoint.state.association.sender in
    let ends = both (sending.is_established g.endpoint.state.association.phase) (has_room s) room in
    let last = both (nat_lt (length s.out) most_messages && not (is_some (lost_from s.out 0 s.went)) && (length s.out == s.went) && has_credit s) (finds_window s most_octets) ends.1 in
    let third = both (nat_lt (length s.out) most_messages && not (is_some (lost_from s.out 0 s.went)) && (length s.out == s.went)) (has_credit s) last.0 in
    let second = both (nat_lt (length s.out) most_messages && not (is_some (lost_from s.out 0 s.went))) (length s.out == s.went) third.0 in
    let first = both (nat_lt (length s.out) most_messages) (not (is_some (lost_from s.out 0 s.went))) second.0 in
    let all : length s.out ≡ s.went = eqb-true (length s.out) s.went second.1 in
    let none : drop s.went s.out ≡ [] = ap (λ (n : ℕ). drop n s.out) (sym all) ∙ drop-length s.out in
    record {
      lasting = l;
      there = ends.0;
      few = (let h = first.0 in let less : length s.out < 256 = grind (arith, nat_tests, h) in omega (arith, less));
      ready = record {
        within = omega (arith, all);
        none_lost = none-of (lost_from s.out 0 s.went) first.1;
        ahead = under_way s;
        under = omega arith;
        goes = subst (λ (os : List Outgoing). Goes (under_way s) s.peer_window s.congestion.window os) (sym none) tt;
      };
      waits = subst (λ (os : List Outgoing). sum_by octets_of os ≤ 0) (sym none) (omega arith);
    }

-- ---- one more is given

given-out : (s : Sending) (m : Message) → (given s m).out ≡ s.out ++ new_outgoing m (slice_index s.sequences m.stream) ∷ []
unfolding given
given-out s m = refl

given-went : (s : Sending) (m : Message) → (given s m).went ≡ s.went
unfolding given
given-went s m = refl

waits-more : (s : Sending) (m : Message) (octets : ℕ) → s.went ≤ length s.out → waiting_octets s ≤ octets → waiting_octets (given s m) ≤ octets + length m.octets
waits-more s m octets within waits =
    let o : Outgoing = new_outgoing m (slice_index s.sequences m.stream) in
    let is : waiting_octets (given s m) ≡ waiting_octets s + length m.octets =
    ap (λ (os : List Outgoing). sum_by octets_of (drop (given s m).went os)) (given-out s m)
    ∙ ap (λ (n : ℕ). sum_by octets_of (drop n (s.out ++ o ∷ []))) (given-went s m)
    ∙ ap (λ (os : List Outgoing). sum_by octets_of os) (drop-append-le s.went s.out (o ∷ []) within)
    ∙ sum_by_push octets_of (drop s.went s.out) o in
    omega (arith, is, waits)

given-length : (s : Sending) (m : Message) → length (given s m).out ≡ length s.out + 1
given-length s m = ap (λ (os : List Outgoing). length os) (given-out s m) ∙ length-append s.out (new_outgoing m (slice_index s.sequences m.stream) ∷ [])

room-left : (s : Sending) (octets : ℕ) → half.has_room_behind s octets ≡ true → length s.out < 256
unfolding half.has_room_behind
room-left s octets room =
    let last = both (nat_lt (length s.out) most_messages && not (is_some (lost_from s.out 0 s.went)) && nat_lt (under_way s + octets) s.congestion.window) (nat_le (octets + most_octets) s.peer_window || ((under_way s + octets) == 0)) room in
    let second = both (nat_lt (length s.out) most_messages && not (is_some (lost_from s.out 0 s.went))) (nat_lt (under_way s + octets) s.congestion.window) last.0 in
    let first = both (nat_lt (length s.out) most_messages) (not (is_some (lost_from s.out 0 s.went))) second.0 in
    let h = first.0 in
    grind (arith, nat_tests, h)

fits-taken : (s : Sending) (m : Message) → can_take s m ≡ true → length m.octets ≤ most_octets
fits-taken s m takes =
    let first = both (nat_lt (length s.out) most_messages && nat_lt 0 (length m.octets) && nat_le (length m.octets) most_octets) (nat_lt m.stream 2) takes in
    let second = both (nat_lt (length s.out) most_messages && nat_lt 0 (length m.octets)) (nat_le (length m.octets) most_octets) first.0 in
    let h = second.1 in
    grind (arith, nat_tests, h)

still-open : (now octets : ℕ) (frame : List ℕ) (g : Gate) → has_room_behind g.endpoint.state octets ≡ true → IsOpen now octets g → IsOpen now (octets + length frame) (with_given frame g)
still-open now octets frame g room h = by (sending.may_send (message_of frame) g.endpoint.state) refl
  where
    s : Sending
    s = g.endpoint.state.association.sender

    with_state : rules.State → Gate
    with_state t = record g { endpoint = record g.endpoint { state = t } }

    taken : rules.State
    taken = rules.with_association g.endpoint.state (record g.endpoint.state.association { sender = given s (message_of frame) })

    by : (b : Bool) → sending.may_send (message_of frame) g.endpoint.state ≡ b → IsOpen now (octets + length frame) (with_state (if b then taken else g.endpoint.state))
    by true e =
        let takes : can_take s (message_of frame) ≡ true = (both (sending.is_established g.endpoint.state.association.phase) (can_take s (message_of frame)) e).1 in
        let behind : half.has_room_behind s octets ≡ true = (both (sending.is_established g.endpoint.state.association.phase) (half.has_room_behind s octets) room).1 in
        let r : Ready s = h.ready in
        record {
          lasting = h.lasting;
          there = h.there;
          few = (let left = room-left s octets behind in let more = given-length s (message_of frame) in omega (arith, left, more));
          ready = ready-given s (message_of frame) octets r.within h.waits behind (fits-taken s (message_of frame) takes);
          waits = waits-more s (message_of frame) octets r.within h.waits;
        }
    by false e = record {
      lasting = h.lasting;
      there = h.there;
      few = h.few;
      ready = h.ready;
      waits = (let w = h.waits in omega (arith, w));
    }

-- ---- all that is given goes out

-- where it ends nothing but what may go out was given
record Ends (now : ℕ) (g : Gate) : Type 0 where
  octets : ℕ
  is_open : IsOpen now octets g

module _ {Q : Type 0} (q : QueueKind Q) (now : ℕ) where
  taken_by-ends : (rest : List ℕ → Gate → State Q → Did Q) (text : Option (List ℕ)) (octets : ℕ) (g : Gate) (s : State Q) → has_room_behind g.endpoint.state octets ≡ true → IsOpen now octets g
      → ((frame : List ℕ) (h : Gate) (t : State Q) → IsOpen now (octets + length frame) h → Ends now (rest frame h t).gate) → Ends now (taken_by q rest text g s).gate
  taken_by-ends rest None octets g s room h ends = record { octets = octets; is_open = h }
  taken_by-ends rest (Some frame) octets g s room h ends = ends frame (with_given frame g) _ (still-open now octets frame g room h)

  all-ends : (most octets : ℕ) (g : Gate) (s : State Q) → IsOpen now octets g → Ends now (taken_all q most octets g s).gate
  unfolding taken_all
  all-ends zero octets g s h = record { octets = octets; is_open = h }
  all-ends (suc most) octets g s h =
      by (has_room_behind g.endpoint.state octets) refl (λ (frame : List ℕ) (k : Gate) (t : State Q) (o : IsOpen now (octets + length frame) k). all-ends most (octets + length frame) k t o)
    where
      rest : List ℕ → Gate → State Q → Did Q
      rest frame k t = taken_all q most (octets + length frame) k t

      by : (b : Bool) → has_room_behind g.endpoint.state octets ≡ b
          → ((frame : List ℕ) (k : Gate) (t : State Q) → IsOpen now (octets + length frame) k → Ends now (rest frame k t).gate) → Ends now (if b then taken_by q rest (text_to_take q s g.link) g s else nothing g s).gate
      by true room ends = taken_by-ends rest (text_to_take q s g.link) octets g s room h ends
      by false full ends = record { octets = octets; is_open = h }

  -- ---- packets are asked for

  sends-there : (phase : Phase) → sending.is_established phase ≡ true → takes_sack phase ≡ true
  sends-there phases.Established e = refl
  sends-there phases.Closed e = absurd cc
  sends-there phases.CookieWait e = absurd cc
  sends-there phases.CookieEchoed e = absurd cc
  sends-there phases.ShutdownPending e = absurd cc
  sends-there phases.ShutdownSent e = absurd cc
  sends-there phases.ShutdownReceived e = absurd cc
  sends-there phases.ShutdownAckSent e = absurd cc

  left-out : (b : Bool) (a : Association) → b ≡ true → Ready a.sender → length a.sender.out ≤ 256
      → let left : Association = if b then record a { sender = (all_gone now a.sender).left } else a in left.sender.went ≡ length left.sender.out
  left-out true a e r few = all-out 257 now a.sender r (omega (arith, few))
  left-out false a e r few = absurd cc

  gone-all : (is_acknowledging : Bool) (t2 : Option ℕ) (a : Association) → takes_sack a.phase ≡ true → Ready a.sender → length a.sender.out ≤ 256
      → let acked : Association = if is_acknowledging then record (sacked a) { t2 = t2 } else a in
      let left : Association = sending.with_data_sent now acked in left.sender.went ≡ length left.sender.out
  gone-all true t2 a takes r few = left-out (takes_sack a.phase) (record (sacked a) { t2 = t2 }) takes r few
  gone-all false t2 a takes r few = left-out (takes_sack a.phase) a takes r few

  out-lasting : (b : Bool) (d e : Did Q) → b ≡ true → IsAllOut d.gate → IsAllOut (if b then d else e).gate
  out-lasting true d e l h = h
  out-lasting false d e l h = absurd cc

  flush-out : (g : Gate) (s : State Q) → Ends now g → IsAllOut (flushed q now g s).gate
  flush-out g s ends =
      let h : IsOpen now ends.octets g = ends.is_open in
      let a : Association = g.endpoint.state.association in
      out-lasting (is_lasting now g.endpoint) _ _ h.lasting
      (gone-all (sending.is_acknowledging a) (sending.t2_in a.phase now a) a (sends-there a.phase h.there) h.ready h.few)

  quiet-if : (b : Bool) (d e : Did Q) → d.seen ≡ [] → e.seen ≡ [] → (if b then d else e).seen ≡ []
  quiet-if true d e f g = f
  quiet-if false d e f g = g

  taken-out : (g : Gate) (s : State Q) → ((filled q now g s).seen ≡ []) ⊎ IsAllOut (filled q now g s).gate
  taken-out g s = by (is_lasting now g.endpoint && sending.has_room g.endpoint.state) refl
    where
      first : Bool → Did Q
      first b = if b then taken_all q MOST_FRAMES 0 g s else nothing g s

      whole : Bool → Did Q
      whole b = followed_by (first b) (λ h t. flushed q now h t)

      by : (b : Bool) → (is_lasting now g.endpoint && sending.has_room g.endpoint.state) ≡ b → ((whole b).seen ≡ []) ⊎ IsAllOut (whole b).gate
      by true e =
          let may = both (is_lasting now g.endpoint) (sending.has_room g.endpoint.state) e in
          inr (flush-out (first true).gate (first true).exchange (all-ends MOST_FRAMES 0 g s (first-open now g may.0 may.1)))
      by false e = inl (quiet-if (is_lasting now g.endpoint) _ _ refl refl)

pub frames-out : {Q : Type 0} (q : QueueKind Q) → taken_frames_go_out q
frames-out q now g s = taken-out q now g s

-- ---- a frame that finds room is given

stream-there : (b : Bool) → nat_lt (if b then 0 else 1) 2 ≡ true
stream-there true = refl
stream-there false = refl

pub may-give : (frame : List ℕ) (octets : ℕ) (g : Gate) → has_room_behind g.endpoint.state octets ≡ true → 0 < length frame → length frame ≤ most_octets
    → sending.may_send (message_of frame) g.endpoint.state ≡ true
may-give frame octets g room some fits =
    let s : Sending = g.endpoint.state.association.sender in
    let m : Message = message_of frame in
    let ends = both (sending.is_established g.endpoint.state.association.phase) (half.has_room_behind s octets) room in
    let below : length s.out < 256 = room-left s octets ends.1 in
    let place : nat_lt (length s.out) 256 ≡ true = grind (arith, nat_tests, below) in
    let any : nat_lt 0 (length frame) ≡ true = grind (arith, nat_tests, some) in
    let short : nat_le (length frame) 290 ≡ true = grind (arith, nat_tests, fits) in
    and_from (sending.is_established g.endpoint.state.association.phase) (can_take s m) ends.0
    (and_from (nat_lt (length s.out) 256 && nat_lt 0 (length frame) && nat_le (length frame) 290) (nat_lt m.stream 2)
    (and_from (nat_lt (length s.out) 256 && nat_lt 0 (length frame)) (nat_le (length frame) 290)
    (and_from (nat_lt (length s.out) 256) (nat_lt 0 (length frame)) place any) short)
    (stream-there (nat_eq (slice_index frame 3) link_status)))

pub frames-given : taken_frames_are_given
frames-given frame octets g room some fits = by (sending.may_send m g.endpoint.state) (may-give frame octets g room some fits)
  where
    s : Sending
    s = g.endpoint.state.association.sender

    m : Message
    m = message_of frame

    by : (b : Bool) → b ≡ true → messages_of (if b then rules.with_association g.endpoint.state (record g.endpoint.state.association { sender = given s m }) else g.endpoint.state).association.sender
        ≡ messages_of s ++ m ∷ []
    by true e =
        ap (λ (os : List Outgoing). map (λ o. o.message) os) (given-out s m)
        ∙ map-append (λ (o : Outgoing). o.message) s.out (new_outgoing m (slice_index s.sequences m.stream) ∷ [])
    by false e = absurd cc
