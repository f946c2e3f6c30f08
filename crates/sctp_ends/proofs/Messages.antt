-- The rules of messages, as moves: one is given, DATA arrives, an acknowledgement arrives.
use Rattle.std.proofs.Common.{◌≡◌, ℕ, ◌+◌, ◌-◌, ◌<◌, ◌≤◌, arith, Bool, true, false, List, [], ◌∷◌, ◌++◌, Some, length, map, take, refl, ap, sym, ◌∙◌, subst}
use Rattle.std.proofs.Common.{nat_lt, nat_le, length-append, append_assoc}
use Rattle.std.specs.Prelude.{◌&&◌, slice_get}
use Rattle.std.specs.List.{Contains}
use Rattle.std.proofs.lemmas.Bool.Decides.{nat_tests}
use Rattle.sctp_codec.specs.Packets.{DataValue}
use Rattle.sctp_receiving.specs.Consuming as consuming
use Rattle.sctp_receiving.specs.Receiver.{Steps, received}
use Rattle.sctp_sending.specs.declared.confirmation.Confirmation.TheVariants.{Of}
use Rattle.sctp_sending.specs.Outgoing as outgoing
use Rattle.sctp_sending.specs.Outgoing.{ahead_of, tsn_at}
use Rattle.sctp_sending.specs.Sending.{Sending, given, confirmation, most_messages, most_octets}
use Rattle.sctp_rules.specs.declared.limits.TheConstants.{STREAMS}
use Rattle.sctp_rules.specs.declared.phase.Phase.{Phase}
use Rattle.sctp_rules.specs.declared.phase.Phase.TheVariants as phases
use Rattle.sctp_rules.specs.Settings.{Settings, Secrets}
use Rattle.sctp_rules.specs.State as state
use Rattle.sctp_rules.specs.State.{Association, State, Told, Up, Heard, Down, Failed, Done, Try, silent, followed_by}
use Rattle.sctp_rules.specs.Confirming.{can_take}
use Rattle.sctp_rules.specs.GivenMessages.{IsInOrder}
use Rattle.sctp_rules.specs.Data.{piece_of, told_each}
use Rattle.sctp_rules.specs.Sending.{is_established}
use Rattle.sctp_moves.specs.Numbers.{window, number_of, cumulative, steps_between}
use Rattle.sctp_moves.specs.Ends as ends
use Rattle.sctp_moves.specs.Ends.{Message, Name, Answer, Cookie, Chunk, Epoch, End}
use Rattle.sctp_moves.specs.Moves as moves
use Rattle.sctp_moves.specs.Moves.{EndMove, EndMoves, last_end, chunk_of, ack_of}
use Rattle.sctp_moves.proofs.Keeping.{IsSound}
use Rattle.sctp_ends.specs.Said.{young, IsData, IsAck, ack_in}
use Rattle.sctp_ends.specs.Shown.{Stage, There, stage_of, IsIn, IsPresent, SendsOut, course_of, Waits, AreDrawn, own_of, Shows}
use Rattle.sctp_ends.specs.Told.{with_last, text_told, text_given, told_by, opened_by}
use Rattle.sctp_ends.proofs.Said.{each-weaker, first-in, more-in, IsMore, replaced-more, more-never, more-waits}
use Rattle.sctp_ends.proofs.Alike.{gifts, Outcome, Result, Does, Goes}
use Rattle.sctp_ends.proofs.Sent.{with_sent, last-there, given-sends, out-length, with_acked, Confirms, count-is, distance-is, confirmed-young}
use Rattle.sctp_ends.proofs.Taken.{heard_in, AreFine, IsKept, IsSameEpoch, Takes, received-so}

-- ---- epochs that send the same

abbrev chunk-of-names : Name → Name → (place : ℕ) → Message → Chunk
chunk-of-names own far place m = record { to = far.tag; number = number_of own.first place; message = m; place = place }

sends-epoch : (e f : End) (epoch after : Epoch) (b : Bool) (s : Sending) → IsSameEpoch epoch after → f.chunks ≡ e.chunks → SendsOut e epoch b s →
    SendsOut f after b s
sends-epoch e f epoch after b s same chunks h = record {
  given = h.given;
  part = h.part ∙ ap (λ (ms : List Message). take (length h.given) ms) (sym same.sent);
  order = subst (λ (n : Name). IsInOrder n.first (course_of s h.given after.acked)) (sym same.own)
      (subst (λ (n : ℕ). IsInOrder epoch.own.first (course_of s h.given n)) (sym same.acked) h.order);
  went = h.went;
  within = subst (λ (n : ℕ). n ≤ length h.given) (sym same.acked) h.within;
  all = λ q. h.all q ∙ sym same.sent;
  taken = λ place m i. h.taken place m (subst (λ (ms : List Message). slice_get ms place ≡ Some m) same.sent i);
  put = λ place m i.
      subst (λ (ds : List Chunk). Contains ds (chunk_of after place m)) (sym chunks)
      (subst (Contains e.chunks) (same-chunk epoch.own after.own epoch.far after.far place m (sym same.own) (sym same.far))
      (h.put place m (subst (λ (ms : List Message). slice_get ms place ≡ Some m) same.sent i)));
} where
  same-chunk : (n k m l : Name) (place : ℕ) (x : Message) → n ≡ k → m ≡ l →
      chunk-of-names n m place x ≡ chunk-of-names k l place x
  same-chunk n k m l place x a b = cc

-- ---- what is told

abbrev heards : List consuming.Told → List Told
heards [] = []
heards (consuming.Nothing ∷ more) = heards more
heards (consuming.Tells message ∷ more) = Heard message ∷ heards more
heards (consuming.NoStream stream ∷ more) = heards more
heards (consuming.Violates violation ∷ more) = heards more

told-fine : (c : Settings) (tolds : List consuming.Told) (s : State) → AreFine tolds →
    told_each c tolds s ≡ record { sent = []; told = heards tolds; left = s }
told-fine c [] s f = refl
told-fine c (consuming.Nothing ∷ more) s f = ap (λ (d : Done). state.behind (silent s) d) (told-fine c more s f)
told-fine c (consuming.Tells message ∷ more) s f =
    ap (λ (d : Done). state.behind (record { sent = []; told = Heard message ∷ []; left = s }) d) (told-fine c more s f)
told-fine c (consuming.NoStream stream ∷ more) s f = absurd f
told-fine c (consuming.Violates violation ∷ more) s f = absurd f

told-heards : (latest : List Message) (past : List (List Message)) (tolds : List consuming.Told) → AreFine tolds →
    told_by (latest ∷ past) (heards tolds) ≡ (latest ++ heard_in tolds) ∷ past
told-heards latest past [] f = ap (λ (ms : List Message). ms ∷ past) (sym (nothing-behind latest)) where
  nothing-behind : (ms : List Message) → ms ++ [] ≡ ms
  nothing-behind [] = refl
  nothing-behind (m ∷ ms) = ap (λ xs. m ∷ xs) (nothing-behind ms)
told-heards latest past (consuming.Nothing ∷ more) f = told-heards latest past more f
told-heards latest past (consuming.Tells message ∷ more) f =
    told-heards (latest ++ text_told message ∷ []) past more f
    ∙ ap (λ (ms : List Message). ms ∷ past) (append_assoc latest (text_told message ∷ []) (heard_in more))
told-heards latest past (consuming.NoStream stream ∷ more) f = absurd f
told-heards latest past (consuming.Violates violation ∷ more) f = absurd f

opened-heards : (lists : List (List Message)) (tolds : List consuming.Told) → opened_by lists (heards tolds) ≡ lists
opened-heards lists [] = refl
opened-heards lists (consuming.Nothing ∷ more) = opened-heards lists more
opened-heards lists (consuming.Tells message ∷ more) = opened-heards lists more
opened-heards lists (consuming.NoStream stream ∷ more) = opened-heards lists more
opened-heards lists (consuming.Violates violation ∷ more) = opened-heards lists more

both-true : (x y : Bool) → (x && y) ≡ true → (x ≡ true) × (y ≡ true)
both-true true y e = (refl, e)
both-true false y e = absurd (cc)

established-there : (phase : Phase) → is_established phase ≡ true → stage_of phase ≡ There
established-there phases.Closed e = absurd (cc)
established-there phases.CookieWait e = absurd (cc)
established-there phases.CookieEchoed e = absurd (cc)
established-there phases.Established e = refl
established-there phases.ShutdownPending e = absurd (cc)
established-there phases.ShutdownSent e = absurd (cc)
established-there phases.ShutdownReceived e = absurd (cc)
established-there phases.ShutdownAckSent e = absurd (cc)

-- names that stay the same stay drawn
same-drawn : (own : Secrets) (many : ℕ) (e f : End) → f.phase ≡ e.phase → f.echoes ≡ e.echoes → map own_of f.epochs ≡ map own_of e.epochs →
    AreDrawn own many e.phase e.echoes (map own_of e.epochs) → AreDrawn own many f.phase f.echoes (map own_of f.epochs)
same-drawn own many e f phase echoes names d = record {
  tried = λ n t. d.tried n (subst (λ (p : ends.Phase). moves.IsTrying p n) phase t);
  echoed = λ c i. d.echoed c (subst (λ (xs : List Cookie). Contains xs c) echoes i);
  opened = λ n i. d.opened n (subst (λ (xs : List Name). Contains xs n) names i);
}

module _ (own far : Secrets) (mark : ℕ) (other : End) where
  present : (e : End) (s : State) → stage_of s.association.phase ≡ There → Shows own far mark e s → IsPresent e s.association
  present e s there h = subst (λ (stage : Stage). IsIn stage e s.is_wanted s.association) there h.stage

  -- ---- DATA comes

  pub data-does : (c : Settings) (tag : ℕ) (d : DataValue) (s : State) → stage_of s.association.phase ≡ There → s.association.own_tag ≡ tag →
      IsData (young other) other tag d →
      Does own far mark other s
      (told_each c (received s.association.receiver d.tsn (piece_of d)).told
      (state.with_association s (record s.association { receiver = (received s.association.receiver d.tsn (piece_of d)).left; is_sack_due = true })))
  data-does c tag d s there tag-is came e sound h =
      let a : Association = s.association in
      let steps : Steps = received a.receiver d.tsn (piece_of d) in
      let left : State = state.with_association s (record a { receiver = steps.left; is_sack_due = true }) in
      let was : IsPresent e a = present e s there h in
      let epoch : Epoch = was.epoch in
      let t : Takes other e epoch was.past steps =
      received-so other was.past tag d came e epoch a.receiver sound was.up was.now (ap (λ (n : Name). n.tag) was.own ∙ tag-is) was.takes in
      let f : End = last_end e t.list in
      let k : IsKept e f = t.kept in
      let long : length t.after.received ≡ length (epoch.received ++ heard_in steps.told) = ap (λ (ms : List Message). length ms) t.received in
      let sent-same : length t.after.sent ≡ length epoch.sent = ap (λ (ms : List Message). length ms) t.same.sent in
      let m : IsMore e f =
      replaced-more e f epoch t.after was.past was.now t.epochs t.same.far (omega (arith, sent-same))
      (omega (arith, long, length-append epoch.received (heard_in steps.told)))
      (λ n i. subst (λ (xs : List Name). Contains xs n) (sym k.inits) i) (λ n i. subst (λ (xs : List Answer). Contains xs n) (sym k.answers) i)
      (λ n i. subst (λ (xs : List Cookie). Contains xs n) (sym k.echoes) i) (λ n i. subst (λ (xs : List ℕ). Contains xs n) (sym k.cookie_acks) i)
      (λ n i. subst (λ (xs : List Chunk). Contains xs n) (sym k.chunks) i) k.acks in
      let here : IsPresent f left.association = record {
        up = k.phase ∙ was.up;
        epoch = t.after;
        past = was.past;
        now = t.epochs;
        own = t.same.own ∙ was.own;
        far = t.same.far ∙ was.far;
        confirmed = subst (λ (xs : List ℕ). Contains xs a.far_tag) (sym k.cookie_acks) was.confirmed;
        sends = sends-epoch e f epoch t.after (is_established a.phase) a.sender t.same k.chunks was.sends;
        takes = t.takes;
      } in
      let d-is : told_each c steps.told left ≡ record { sent = []; told = heards steps.told; left = left } = told-fine c steps.told left t.fine in
      let r : Result own far mark other e (record { sent = []; told = heards steps.told; left = left }) = record {
        list = t.list;
        moves = t.moves;
        shows = record {
          generation = k.generation ∙ h.generation;
          stage = subst (λ (stage : Stage). IsIn stage f left.is_wanted left.association) (sym there) here;
          offered = λ n i. h.offered n (subst (λ (xs : List Name). Contains xs n) k.drawn i);
          drawn = same-drawn own s.beginnings e f k.phase k.echoes
              (ap (map own_of) t.epochs ∙ ap (λ (n : Name). n ∷ map own_of was.past) t.same.own ∙ sym (ap (map own_of) was.now)) h.drawn;
          control = each-weaker (Waits (stage_of a.phase) mark e a.far_tag) (Waits (stage_of a.phase) mark f a.far_tag)
              (λ chunk w. more-waits mark e f m h.later (stage_of a.phase) a.far_tag chunk w) a.control h.control;
          trying = λ x q. more-never own far e f m a.far_tag x.chunks (h.trying x q);
          later = omega (arith, h.later, m.heavier);
        };
        more = m;
        sent = tt;
        told = ap (map (λ (x : Epoch). x.received)) t.epochs
            ∙ ap (λ (ms : List Message). ms ∷ map (λ (x : Epoch). x.received) was.past) t.received
            ∙ sym (told-heards epoch.received (map (λ (x : Epoch). x.received) was.past) steps.told t.fine)
            ∙ ap (λ (lists : List (List Message)). told_by lists (heards steps.told)) (sym (ap (map (λ (x : Epoch). x.received)) was.now));
        given = ap (map (λ (x : Epoch). x.sent)) t.epochs
            ∙ ap (λ (ms : List Message). ms ∷ map (λ (x : Epoch). x.sent) was.past) t.same.sent
            ∙ sym (ap (map (λ (x : Epoch). x.sent)) was.now)
            ∙ sym (opened-heards (gifts e) steps.told);
        quiet = λ b. t.quiet;
      } in
      subst (λ (x : Done). Result own far mark other e x) (sym d-is) r

  -- ---- an acknowledgement comes

  pub confirmed-goes : (tag number count failures : ℕ) (s : State) (t : Sending) → stage_of s.association.phase ≡ There → s.association.own_tag ≡ tag →
      IsAck (young other) other tag number → confirmation s.association.sender number ≡ Of count →
      ((e f : End) (epoch : Epoch) (b : Bool) → SendsOut e epoch b s.association.sender → f.chunks ≡ e.chunks → Confirms e f epoch b count t) →
      Goes own far mark other s (silent (state.with_association s (record s.association { sender = t; failures = failures })))
  confirmed-goes tag number count failures s t there tag-is came counted confirms = record { result = confirms-so; tagged = λ x y. y } where
    confirms-so : (e : End) → IsSound e other → Shows own far mark e s →
        Result own far mark other e (silent (state.with_association s (record s.association { sender = t; failures = failures })))
    confirms-so e sound h =
        let a : Association = s.association in
        let was : IsPresent e a = present e s there h in
        let epoch : Epoch = was.epoch in
        let later : Epoch = with_acked epoch (epoch.acked + count) in
        let f : End = record e { epochs = later ∷ was.past } in
        let c : Confirms e f epoch (is_established a.phase) count t = confirms e f epoch (is_established a.phase) was.sends refl in
        let here : Contains e.epochs epoch = subst (λ (es : List Epoch). Contains es epoch) (sym was.now) (first-in epoch was.past) in
        let own-tag : epoch.own.tag ≡ tag = ap (λ (n : Name). n.tag) was.own ∙ tag-is in
        let count-at : ahead_of (tsn_at number 1) a.sender.first ≡ count = count-is a.sender number count counted in
        let distance : count ≡ steps_between (cumulative epoch.own.first epoch.acked) number =
        sym count-at ∙ ap (λ (n : ℕ). ahead_of (tsn_at number 1) n) was.sends.order.tsn ∙ distance-is epoch.own.first epoch.acked number in
        let m : IsMore e f =
        replaced-more e f epoch later was.past was.now refl refl (omega arith) (omega arith)
        (λ n i. i) (λ n i. i) (λ n i. i) (λ n i. i) (λ n i. i) (λ n i. i) in
        let now-there : IsPresent f (record a { sender = t; failures = failures }) = record {
          up = was.up;
          epoch = later;
          past = was.past;
          now = refl;
          own = was.own;
          far = was.far;
          confirmed = was.confirmed;
          sends = c.sends;
          takes = record {
            streams = was.takes.streams;
            partial = was.takes.partial;
            cumulative_is = was.takes.cumulative_is;
            places = was.takes.places;
            held = λ ahead p low high there. let k = was.takes.held ahead p low high there in record { whole = k.whole; heard = k.heard };
            acknowledged = was.takes.acknowledged;
          };
        } in
        record {
          list = f ∷ [];
          moves = (
            moves.hears_ack (record {
              up = was.up;
              epoch = epoch;
              past = was.past;
              now = was.now;
              ack = ack_in tag number came.count;
              there = came.there;
              to = sym own-tag;
              young = confirmed-young e other sound epoch here tag own-tag (ack_in tag number came.count) refl came.aged;
              ahead = count;
              distance = distance;
              within = c.within;
              after = refl;
            }),
            tt,
          );
          shows = record {
            generation = h.generation;
            stage = subst (λ (stage : Stage). IsIn stage f s.is_wanted (record a { sender = t; failures = failures })) (sym there) now-there;
            offered = h.offered;
            drawn = same-drawn own s.beginnings e f refl refl (sym (ap (map own_of) was.now)) h.drawn;
            control = each-weaker (Waits (stage_of a.phase) mark e a.far_tag) (Waits (stage_of a.phase) mark f a.far_tag)
                (λ chunk w. more-waits mark e f m h.later (stage_of a.phase) a.far_tag chunk w) a.control h.control;
            trying = λ x q. more-never own far e f m a.far_tag x.chunks (h.trying x q);
            later = omega (arith, h.later, m.heavier);
          };
          more = m;
          sent = tt;
          told = sym (ap (map (λ (x : Epoch). x.received)) was.now);
          given = sym (ap (map (λ (x : Epoch). x.sent)) was.now);
          quiet = λ b. ((λ n. (refl, n)), tt);
        }

  -- ---- a message is given

  pub given-goes : (m : outgoing.Message) (s : State) → is_established s.association.phase ≡ true → can_take s.association.sender m ≡ true →
      (e : End) → IsSound e other → Shows own far mark e s →
      Outcome own far mark other e false (with_last (text_given m) (gifts e))
      (silent (state.with_association s (record s.association { sender = given s.association.sender m })))
  given-goes m s up may e sound h =
      let a : Association = s.association in
      let there : stage_of a.phase ≡ There = established-there a.phase up in
      let was : IsPresent e a = present e s there h in
      let epoch : Epoch = was.epoch in
      let text : Message = text_given m in
      let later : Epoch = with_sent epoch text in
      let chunk : Chunk = chunk_of later (length epoch.sent) text in
      let taken : End = record e { epochs = later ∷ was.past } in
      let f : End = record taken { chunks = chunk ∷ e.chunks } in
      let sends : SendsOut e epoch true a.sender = subst (λ (b : Bool). SendsOut e epoch b a.sender) up was.sends in
      let outer = both-true _ (nat_lt m.stream STREAMS) may in
      let inner = both-true _ (nat_le (length m.octets) most_octets) outer.0 in
      let first = both-true (nat_lt (length a.sender.out) most_messages) (nat_lt 0 (length m.octets)) inner.0 in
      let few : length a.sender.out < 256 = grind (arith, nat_tests, first.0) in
      let short : length m.octets ≤ 290 = grind (arith, nat_tests, inner.1) in
      let out : length a.sender.out ≡ length sends.given - epoch.acked = out-length e epoch true a.sender sends in
      let all : length sends.given ≡ length epoch.sent = ap (λ (ms : List Message). length ms) (sends.all refl) in
      let room : length epoch.sent < epoch.acked + window = omega (arith, few, out, all, sends.within) in
      let more : IsMore e f =
      replaced-more e f epoch later was.past was.now refl refl (omega (arith, length-append epoch.sent (text ∷ []))) (omega arith)
      (λ n i. i) (λ n i. i) (λ n i. i) (λ n i. i) (λ n i. more-in chunk e.chunks n i) (λ n i. i) in
      let now-there : IsPresent f (record a { sender = given a.sender m }) = record {
        up = was.up;
        epoch = later;
        past = was.past;
        now = refl;
        own = was.own;
        far = was.far;
        confirmed = was.confirmed;
        sends = given-sends e f epoch a.sender m sends (record { stream = outer.1; octets = short }) (λ n i. more-in chunk e.chunks n i)
            (first-in chunk e.chunks) (is_established a.phase);
        takes = record {
          streams = was.takes.streams;
          partial = was.takes.partial;
          cumulative_is = was.takes.cumulative_is;
          places = was.takes.places;
          held = λ ahead p low high there. let k = was.takes.held ahead p low high there in record { whole = k.whole; heard = k.heard };
          acknowledged = was.takes.acknowledged;
        };
      } in
      record {
        list = taken ∷ f ∷ [];
        moves = (
          moves.takes (record { up = was.up; epoch = epoch; past = was.past; now = was.now; message = text; room = room; after = refl }),
          (
            moves.sends_chunk (record {
              up = was.up;
              epoch = later;
              past = was.past;
              now = refl;
              place = length epoch.sent;
              message = text;
              taken = last-there epoch.sent text;
              after = refl;
            }),
            tt,
          ),
        );
        shows = record {
          generation = h.generation;
          stage = subst (λ (stage : Stage). IsIn stage f s.is_wanted (record a { sender = given a.sender m })) (sym there) now-there;
          offered = h.offered;
          drawn = same-drawn own s.beginnings e f refl refl (sym (ap (map own_of) was.now)) h.drawn;
          control = each-weaker (Waits (stage_of a.phase) mark e a.far_tag) (Waits (stage_of a.phase) mark f a.far_tag)
              (λ x w. more-waits mark e f more h.later (stage_of a.phase) a.far_tag x w) a.control h.control;
          trying = λ x q. more-never own far e f more a.far_tag x.chunks (h.trying x q);
          later = omega (arith, h.later, more.heavier);
        };
        more = more;
        sent = tt;
        told = sym (ap (map (λ (x : Epoch). x.received)) was.now);
        given = ap (λ (lists : List (List Message)). with_last text lists) (sym (ap (map (λ (x : Epoch). x.sent)) was.now));
        quiet = λ b. ((λ n. (refl, n)), ((λ n. (refl, n)), tt));
      }
