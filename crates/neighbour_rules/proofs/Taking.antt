-- A frame is fetched at the near node, and is in flight to the far one, or goes elsewhere: by moves.
use Rattle.pair_rules.proofs.Basics.{suc, ◌≡◌, ◌≢◌, ◌<◌, ◌≤◌, ◌^◌, ◌+◌, ℕ, Bool, true, false, not, List, [], ◌∷◌, ◌++◌, length, map, Option, Some, None, refl, ap, sym, subst, ◌∙◌, nat_lt, arith, if◌then◌else◌, slice_get, length-set, drop, nat_tests, ⊎_elim, cases_eq}
use Rattle.pair_rules.proofs.Definitions.{Message, SIF_OCTETS, WINDOW, Configuration, FrameValue, EmptyFrame, MessageFrame, StatusFrame, IsSayable, spelled, LinkStatus, Queue, Sending, to_send, forward_number, sent_one, last_accepted, last_sent, Node, down, in_service, link_at, set_of, WholeQueues, queue_at, whole, Outgoing, SendsStatus, SendsMessage, Acknowledges, SendsNothing, after_sending, after_take, frame_from, goes_out, may_send, next_message, without_owed, Fits, StaysFit, fit-steps, Line, LinkEnd, Frame, each-set, take-steps, frame_taken, whither_goes, IsQueue, first_queue}
use Rattle.exchange_rules.proofs.Rules.{rules-of}
use Rattle.exchange_rules.specs.Timing.{timed_sending}
use Rattle.link.specs.Queue as queue
use Rattle.link.proofs.Sound.{sound-sent_one}
use Rattle.pair_moves.specs.Carrying.{acknowledgement, with_frame, with_sent, with_status}
use Rattle.pair_moves.specs.Moves as moves
use Rattle.pair_moves.specs.Sayings.{Other}
use Rattle.signalling_types.specs.declared.cause.Cause.TheVariants as causes
use Rattle.mtp3_codec.specs.Headings.{discrimination}
use Rattle.mtp3_codec.specs.declared.discrimination.Discrimination.TheVariants as whither
use Rattle.mtp3_codec.specs.declared.label.Label.{Label}
use Rattle.pair_rules.proofs.World.{World, end_of, frame_of}
use Rattle.pair_rules.proofs.Good.{Each, IsTelling, each-get, previous-fits}
use Rattle.pair_rules.proofs.Good as good
use Rattle.pair_rules.proofs.Going.{goes-one, goes-same}
use Rattle.pair_rules.proofs.Lines.{queue-here, queue-other, served-listed}
use Rattle.pair_rules.proofs.Silences.{IsNext, by-up, is-next, message-is-next, next-sends, next-serves, owed-out, status-out}
use Rattle.neighbour_rules.proofs.World.{code_of, line_of, link_at_code, reading, route_of, says_of, shown}
use Rattle.neighbour_rules.proofs.Bound.{AreBound, IsBound}
use Rattle.neighbour_rules.proofs.Good.{AreFlying, Good, IsFlying, IsSent, Joint, Passes, accepted, at, carrying, empty, made, passes-both, passes-none, passes_by, set}
use Rattle.neighbour_rules.proofs.FarEnds.{IsLine, line-becomes, line_at, near-own}
use Rattle.neighbour_rules.proofs.Lines.{none-becomes}
use Rattle.neighbour_rules.proofs.Relinked.{relinked-passes}

one-longer : (fs : List FrameValue) (frame : FrameValue) → length (fs ++ frame ∷ []) ≡ suc (length fs)
one-longer [] frame = refl
one-longer (f ∷ fs) frame = ap suc (one-longer fs frame)

map-behind : (fs : List FrameValue) (frame : FrameValue) → map frame_of (fs ++ frame ∷ []) ≡ map frame_of fs ++ frame_of frame ∷ []
map-behind [] frame = refl
map-behind (f ∷ fs) frame = ap (λ (xs : List Frame). frame_of f ∷ xs) (map-behind fs frame)

module _ (c z : Configuration) (j : Joint c z) (w : World) (link : ℕ) where
  -- ---- what is left of the node

  -- the next message of a link was sent
  abbrev sent_from : Node WholeQueues → Node WholeQueues
  sent_from n = record { queues = whole.sent_one n.queues link c.window; parts = n.parts }

  sent-stays : (n : Node WholeQueues) → StaysFit c n (sent_from n)
  sent-stays n = record {
    stay = λ h. record {
      places = record { parts = h.places.parts; queues = length-set n.queues.links link (sent_one (queue_at n.queues link) c.window) ∙ h.places.queues; timers = h.places.timers };
      queues = record { each = λ other. each-set (IsQueue c.window) n.queues.links link other (sent_one (queue_at n.queues link) c.window) first_queue h.queues.each (sound-sent_one (queue_at n.queues link) c.window (h.queues.each link)) };
    };
  }

  sent-all : (P : Message → Type 0) (q : Queue) (x : Option Sending) → Each P q.all → Each P (queue.after_sending q x).all
  sent-all P q (Some s) e = e
  sent-all P q None e = e

  sent-other : (n : Node WholeQueues) (other : ℕ) → other ≢ link → end_of (sent_from n) other ≡ end_of n other
  sent-other n other d = ap (λ (x : Queue). record (end_of n other) { queue = x }) (queue-other c z n.queues link other (sent_one (queue_at n.queues link) c.window) d)

  sent-elsewhere : (n : Node WholeQueues) → ((other : ℕ) → set_of c other ≢ set c z j → Each (λ (x : Message). says_of c.own z.own j.base.there x ≡ Other) (queue_at n.queues other).all)
      → Fits c n → link < length c.links → (other : ℕ) → set_of c other ≢ set c z j → Each (λ (x : Message). says_of c.own z.own j.base.there x ≡ Other) (queue_at (sent_from n).queues other).all
  sent-elsewhere n h fits l other apart =
      ⊎_elim
      (λ (same : other ≡ link).
      subst (λ (k : ℕ). Each Past (queue_at (sent_from n).queues k).all) (sym same)
      (subst (λ (q : Queue). Each Past q.all) (sym (queue-here c z n link (sent_one (queue_at n.queues link) c.window) fits l))
      (sent-all Past (queue_at n.queues link) (to_send (queue_at n.queues link) c.window) (h link (λ its. apart (ap (set_of c) same ∙ its))))))
      (λ (d : other ≢ link). subst (λ (q : Queue). Each Past q.all) (sym (queue-other c z n.queues link other (sent_one (queue_at n.queues link) c.window) d)) (h other apart))
      (cases_eq other link)
    where
      Past : Message → Type 0
      Past x = says_of c.own z.own j.base.there x ≡ Other

  -- it is good in any world
  sent-good : (v : World) (n : Node WholeQueues) → AreFlying z c j.base.back j.shares.far_set v.to_near → link < length c.links → Good c z j (at c z j w n [] []) → Good c z j (at c z j (record v { near = w.near }) (sent_from n) [] [])
  sent-good v n coming l g = record {
    fits = (sent-stays n).stay g.fits;
    route = g.route;
    settled = g.settled;
    silent = g.silent;
    queued = λ other. each-set (λ (x : Queue). Each (IsSent c z j.base.there (set c z j)) x.all) n.queues.links link other (sent_one (queue_at n.queues link) c.window) first_queue g.queued
        (sent-all (IsSent c z j.base.there (set c z j)) (queue_at n.queues link) (to_send (queue_at n.queues link) c.window) (g.queued link));
    elsewhere = sent-elsewhere n g.elsewhere g.fits l;
    held = g.held;
    loose = tt;
    arrived = tt;
    coming = coming;
    counted = g.counted;
  }

  -- ---- what goes out

  status-up : (n : Node WholeQueues) (status : LinkStatus) → goes_out whole c link n ≡ SendsStatus status → Good c z j (at c z j w n [] []) → down n.parts link ≡ false
  status-up n status e g =
      by-up (down n.parts link)
      (λ gone. status-out (slice_get (link_at n.parts link).waiting 0) (next_message whole c link n) (link_at n.parts link).acknowledgement_owed status
      (ap (λ (xs : List LinkStatus). slice_get xs 0) (g.silent link gone).0) e)

  owed-up : (n : Node WholeQueues) → goes_out whole c link n ≡ Acknowledges → Good c z j (at c z j w n [] []) → down n.parts link ≡ false
  owed-up n e g =
      by-up (down n.parts link)
      (λ gone. owed-out (slice_get (link_at n.parts link).waiting 0) (next_message whole c link n) (link_at n.parts link).acknowledgement_owed (g.silent link gone).1 e)

  -- the next message, of a link in service
  record Goes (n : Node WholeQueues) (next : Sending) : Type 0 where
    serves : in_service n.parts link ≡ true
    sends : to_send (queue_at n.queues link) c.window ≡ Some next

  goes-next : (n : Node WholeQueues) (next : Sending) → goes_out whole c link n ≡ SendsMessage next → Goes n next
  goes-next n next e =
      let sends : next_message whole c link n ≡ Some next = message-is-next (slice_get (link_at n.parts link).waiting 0) (next_message whole c link n) (link_at n.parts link).acknowledgement_owed next e in
      record {
        serves = next-serves (in_service n.parts link) (link_at n.parts link).peer_busy (to_send (queue_at n.queues link) c.window) next sends;
        sends = next-sends (may_send (link_at n.parts link)) (to_send (queue_at n.queues link) c.window) next sends;
      }

  -- what is left of the link, once a status, a message or an acknowledgement went out
  status-left : (v : World) (n : Node WholeQueues) (status : LinkStatus) → StaysFit c n (after_sending whole c link n (SendsStatus status))
      → Passes c z j (at c z j v n [] []) (at c z j v (after_sending whole c link n (SendsStatus status)) [] [])
  status-left v n status stay =
      relinked-passes c z j v n [] [] link (record (link_at n.parts link) { waiting = drop 1 (link_at n.parts link).waiting }) n.parts.timers refl refl (λ h gone. (ap (drop 1) (h gone).0, (h gone).1)) stay

  owed-left : (v : World) (n : Node WholeQueues) → StaysFit c n (after_sending whole c link n Acknowledges)
      → Passes c z j (at c z j v n [] []) (at c z j v (after_sending whole c link n Acknowledges) [] [])
  owed-left v n stay = relinked-passes c z j v n [] [] link (without_owed (link_at n.parts link)) n.parts.timers refl refl (λ h gone. ((h gone).0, refl)) stay

  message-left : (v : World) (n : Node WholeQueues) (next : Sending) → Fits c n → StaysFit c n (after_sending whole c link n (SendsMessage next))
      → Passes c z j (at c z j v (sent_from n) [] []) (at c z j v (after_sending whole c link n (SendsMessage next)) [] [])
  message-left v n next fits stay =
      relinked-passes c z j v (sent_from n) [] [] link (without_owed (link_at n.parts link)) (timed_sending c link n.parts.timers) refl refl (λ h gone. ((h gone).0, refl)) (record { stay = λ h. stay.stay fits })

  -- ---- it goes elsewhere

  away-sent : (n : Node WholeQueues) → set_of c link ≢ set c z j → in_service n.parts link ≡ true → Passes c z j (at c z j w n [] []) (at c z j w (sent_from n) [] [])
  away-sent n apart serves = record {
    goes = λ g.
        goes-same (reading c.own z.own j.base) _ _
        (sym (ap (λ (lines : ℕ → Line). record (shown c z (set c z j) j.shares.far_set j.base (at c z j w n [] [])) { line = lines })
        (none-becomes c z j (at c z j w n [] []) (sent_from n) [] [] link (served-listed c z n link g.fits serves) apart (λ other d. sent-other n other d))));
    good = λ g. sent-good w n g.coming (served-listed c z n link g.fits serves) g;
  }

  passes-good : (u v : World) → (Good c z j u → Passes c z j u v) → Passes c z j u v
  passes-good u v h = record { goes = λ g. (h g).goes g; good = λ g. (h g).good g }

  away-out : (n : Node WholeQueues) (out : Outgoing) → set_of c link ≢ set c z j → goes_out whole c link n ≡ out → StaysFit c n (after_sending whole c link n out)
      → Passes c z j (at c z j w n [] []) (at c z j w (after_sending whole c link n out) [] [])
  away-out n (SendsStatus status) apart e stay = status-left w n status stay
  away-out n (SendsMessage next) apart e stay =
      passes-good _ _
      (λ g. passes-both c z j _ _ _ (away-sent n apart (goes-next n next e).serves) (message-left w n next g.fits stay))
  away-out n Acknowledges apart e stay = owed-left w n stay
  away-out n SendsNothing apart e stay = passes-none c z j (at c z j w n [] [])

  pub away-takes : (n : Node WholeQueues) → set_of c link ≢ set c z j → Passes c z j (at c z j w n [] []) (at c z j w (after_take whole c link n) [] [])
  away-takes n apart = away-out n (goes_out whole c link n) apart refl (take-steps (rules-of (fit-steps c)) link n tt)

  -- ---- it is in flight to the far node

  module _ (other : ℕ) (line : IsLine c z j link other) where
    -- one more frame: User Data, or a link status
    pub record Adds (frame : FrameValue) (f : ℕ → List FrameValue) : Type 0 where
      pub here : f other ≡ w.to_far.user_data other ++ frame ∷ []
      pub others : (k : ℕ) → k ≢ other → f k ≡ w.to_far.user_data k

    pub record AddsStatus (frame : FrameValue) (f : ℕ → List FrameValue) : Type 0 where
      pub here : f other ≡ w.to_far.statuses other ++ frame ∷ []
      pub others : (k : ℕ) → k ≢ other → f k ≡ w.to_far.statuses k

    abbrev pub launched : (ℕ → List FrameValue) → World
    launched f = record w { to_far = record w.to_far { user_data = f } }

    abbrev pub launched_status : (ℕ → List FrameValue) → World
    launched_status f = record w { to_far = record w.to_far { statuses = f } }

    abbrev Lines : World → ℕ → Line
    Lines v = line_of c z (set c z j) j.shares.far_set v

    still-good : (v : World) (n : Node WholeQueues) → v.to_near ≡ w.to_near → Good c z j (at c z j w n [] []) → Good c z j (at c z j (record v { near = w.near }) n [] [])
    still-good v n e g = record {
      fits = g.fits;
      route = g.route;
      settled = g.settled;
      silent = g.silent;
      queued = g.queued;
      elsewhere = g.elsewhere;
      held = g.held;
      loose = tt;
      arrived = tt;
      coming = subst (AreFlying z c j.base.back j.shares.far_set) (sym e) g.coming;
      counted = g.counted;
    }

    not-down : (n : Node WholeQueues) → down n.parts link ≡ false → not (down n.parts (link_at_code c (set c z j) (code_of c link))) ≡ true
    not-down n up = ap (λ (k : ℕ). not (down n.parts k)) (near-own c z j link other line) ∙ ap not up

    status-sent : (frame : FrameValue) (f : ℕ → List FrameValue) → AddsStatus frame f → (n : Node WholeQueues) → down n.parts link ≡ false
        → Passes c z j (at c z j w n [] []) (at c z j (launched_status f) n [] [])
    status-sent frame f a n up = record {
      goes = λ g.
          goes-one (reading c.own z.own j.base) _ _
          (moves.sends_status (record {
            link = code_of c link;
            up = not-down n up;
            lines = Lines (at c z j (launched_status f) n [] []);
            set = line-becomes c z j (at c z j (launched_status f) n [] []) (at c z j w n [] []) (route_of c j.base.there (set c z j) n.parts) link other with_status line
                (ap (λ (fs : List FrameValue). record (line_at (at c z j w n [] []) link other) { told_far = length fs }) a.here
                ∙ ap (λ (k : ℕ). record (line_at (at c z j w n [] []) link other) { told_far = k }) (one-longer (w.to_far.statuses other) frame))
                (λ k i d t. ap (λ (fs : List FrameValue). record (line_at (at c z j w n [] []) k i) { told_far = length fs }) (a.others i t));
            after = refl;
          }));
      good = still-good (launched_status f) n refl;
    }

    empty-sent : (f : ℕ → List FrameValue) (n : Node WholeQueues) → down n.parts link ≡ false → Adds (EmptyFrame (last_accepted (queue_at n.queues link)) (last_sent (queue_at n.queues link))) f
        → Passes c z j (at c z j w n [] []) (at c z j (launched f) n [] [])
    empty-sent f n up a = record {
      goes = λ g.
          goes-one (reading c.own z.own j.base) _ _
          (moves.sends_empty (record {
            link = code_of c link;
            up = not-down n up;
            lines = Lines (at c z j (launched f) n [] []);
            set = line-becomes c z j (at c z j (launched f) n [] []) (at c z j w n [] []) (route_of c j.base.there (set c z j) n.parts) link other (λ l. with_frame l (acknowledgement l.near.queue)) line
                (ap (λ (fs : List FrameValue). record (line_at (at c z j w n [] []) link other) { to_far = map frame_of fs }) a.here
                ∙ ap (λ (fs : List Frame). record (line_at (at c z j w n [] []) link other) { to_far = fs }) (map-behind (w.to_far.user_data other) _))
                (λ k i d t. ap (λ (fs : List FrameValue). record (line_at (at c z j w n [] []) k i) { to_far = map frame_of fs }) (a.others i t));
            after = refl;
          }));
      good = still-good (launched f) n refl;
    }

    -- ---- a message

    -- it can be read back
    sayable-message : (bsn number : ℕ) (m : Message) → bsn < 2 ^ 24 → number < 2 ^ 24 → length m.sif ≤ SIF_OCTETS → IsSayable (MessageFrame bsn number m.sio m.sif)
    sayable-message bsn number m before fits short = record {
      bsn_fits = before;
      fsn_fits = fits;
      length_fits =
          (let long : 16 + length (0 ∷ m.sio ∷ m.sif) ≡ length (spelled (MessageFrame bsn number m.sio m.sif)) = omega arith in
          omega (arith, long, short));
    }

    here-short : (m : Message) (label : Label) → whither_goes z m ≡ whither.Here label → length m.sif ≤ SIF_OCTETS
    here-short m label here = by (nat_lt SIF_OCTETS (length m.sif)) refl here
      where
        by : (long : Bool) → nat_lt SIF_OCTETS (length m.sif) ≡ long → (if long then whither.Refused causes.TooLong else discrimination m z.own z.network) ≡ whither.Here label → length m.sif ≤ SIF_OCTETS
        by true e f = absurd cc
        by false e f = grind (arith, nat_tests, e)

    short-enough : (m : Message) → IsSent c z j.base.there (set c z j) m → length m.sif ≤ SIF_OCTETS
    short-enough m (made is) = here-short m is.label is.here
    short-enough m (accepted is) = is.short
    short-enough m (passes_by says short) = short

    number-fits : (q : Queue) (k : ℕ) → forward_number q k < 2 ^ 24
    number-fits q k = omega arith

    abbrev carrier : Node WholeQueues → Sending → FrameValue
    carrier n next = MessageFrame (last_accepted (queue_at n.queues link)) next.number next.message.sio next.message.sif

    module _ (f : ℕ → List FrameValue) (n : Node WholeQueues) (next : Sending) (goes : Goes n next) (a : Adds (carrier n next) f) where
      sent-here : Fits c n → end_of (sent_from n) link ≡ record (end_of n link) { queue = queue.after_sending (queue_at n.queues link) (Some next) }
      sent-here fits =
          ap (λ (x : Queue). record (end_of n link) { queue = x })
          (queue-here c z n link (sent_one (queue_at n.queues link) c.window) fits line.here ∙ ap (queue.after_sending (queue_at n.queues link)) goes.sends)

      message-sent : c.window ≤ WINDOW → Passes c z j (at c z j w n [] []) (at c z j (launched f) (sent_from n) [] [])
      message-sent window = record {
        goes = λ g.
            goes-one (reading c.own z.own j.base) _ _
            (moves.sends_message (record {
              link = code_of c link;
              serving = ap (λ (k : ℕ). in_service n.parts k) (near-own c z j link other line) ∙ goes.serves;
              window = c.window;
              small = window;
              sending = next;
              next = ap (λ (k : ℕ). to_send (queue_at n.queues k) c.window) (near-own c z j link other line) ∙ goes.sends;
              lines = Lines (at c z j (launched f) (sent_from n) [] []);
              set = line-becomes c z j (at c z j (launched f) (sent_from n) [] []) (at c z j w n [] []) (route_of c j.base.there (set c z j) n.parts) link other (λ l. with_sent l next) line
                  (ap (λ (x : LinkEnd). record (line_at (at c z j w n [] []) link other) { near = x; to_far = map frame_of (f other) }) (sent-here g.fits)
                  ∙ ap (λ (fs : List FrameValue). record (line_at (at c z j w n [] []) link other) { near = record (end_of n link) { queue = queue.after_sending (queue_at n.queues link) (Some next) }; to_far = map frame_of fs }) a.here
                  ∙ ap (λ (fs : List Frame). record (line_at (at c z j w n [] []) link other) { near = record (end_of n link) { queue = queue.after_sending (queue_at n.queues link) (Some next) }; to_far = fs }) (map-behind (w.to_far.user_data other) (carrier n next)))
                  (λ k i d t.
                  ap (λ (x : LinkEnd). record (line_at (at c z j w n [] []) k i) { near = x; to_far = map frame_of (f i) }) (sent-other n k d)
                  ∙ ap (λ (fs : List FrameValue). record (line_at (at c z j w n [] []) k i) { to_far = map frame_of fs }) (a.others i t));
              after = refl;
            }));
        good = λ g. sent-good (launched f) n g.coming line.here g;
      }

      -- and the frame is one that flies
      message-flies : Each (IsSent c z j.base.there (set c z j)) (queue_at n.queues link).all → Each (IsBound c) (queue_at n.queues link).all → IsFlying c z j.base.there (set c z j) (carrier n next)
      message-flies each bound =
          let q : Queue = queue_at n.queues link in
          let s : IsNext q c.window next = is-next q c.window next goes.sends in
          let b : IsSent c z j.base.there (set c z j) next.message = each-get (IsSent c z j.base.there (set c z j)) q.all q.sent next.message each s.stands in
          carrying (last_accepted q) next.number next.message.sio next.message.sif
          (sayable-message (last_accepted q) next.number next.message (previous-fits q.received) (subst (λ (k : ℕ). k < 2 ^ 24) (sym s.number) (number-fits q q.sent)) (short-enough next.message b)) b
          (each-get (IsBound c) q.all q.sent next.message bound s.stands)

    -- ---- what goes out

    status-flies : (bsn fsn : ℕ) (status : LinkStatus) → bsn < 2 ^ 24 → fsn < 2 ^ 24 → IsTelling (StatusFrame bsn fsn status)
    status-flies bsn fsn status e f = good.telling bsn fsn status (record { bsn_fits = e; fsn_fits = f; length_fits = omega arith })

    empty-flies : (bsn fsn : ℕ) → bsn < 2 ^ 24 → fsn < 2 ^ 24 → IsFlying c z j.base.there (set c z j) (EmptyFrame bsn fsn)
    empty-flies bsn fsn e f = empty bsn fsn (record { bsn_fits = e; fsn_fits = f; length_fits = omega arith })

    -- a frame is fetched, and the node is left as it is after that; the frame is one that flies on its stream
    pub record Fetches (f : ℕ → List FrameValue) (frame : FrameValue) (n o : Node WholeQueues) : Type 0 where
      pub passes : Passes c z j (at c z j w n [] []) (at c z j (launched f) o [] [])
      pub flies : Good c z j (at c z j w n [] []) → AreBound c n → IsFlying c z j.base.there (set c z j) frame

    pub record FetchesStatus (f : ℕ → List FrameValue) (frame : FrameValue) (n o : Node WholeQueues) : Type 0 where
      pub passes : Passes c z j (at c z j w n [] []) (at c z j (launched_status f) o [] [])
      pub tells : IsTelling frame

    -- by what a frame is
    abbrev pub AddsTo : FrameValue → (ℕ → List FrameValue) → Type 0
    AddsTo (StatusFrame bsn fsn status) f = AddsStatus (StatusFrame bsn fsn status) f
    AddsTo (EmptyFrame bsn fsn) f = Adds (EmptyFrame bsn fsn) f
    AddsTo (MessageFrame bsn fsn sio sif) f = Adds (MessageFrame bsn fsn sio sif) f

    abbrev pub FetchesTo : FrameValue → (ℕ → List FrameValue) → (n o : Node WholeQueues) → Type 0
    FetchesTo (StatusFrame bsn fsn status) f n o = FetchesStatus f (StatusFrame bsn fsn status) n o
    FetchesTo (EmptyFrame bsn fsn) f n o = Fetches f (EmptyFrame bsn fsn) n o
    FetchesTo (MessageFrame bsn fsn sio sif) f n o = Fetches f (MessageFrame bsn fsn sio sif) n o

    module _ (f : ℕ → List FrameValue) (n : Node WholeQueues) where
      abbrev bsn : ℕ
      bsn = last_accepted (queue_at n.queues link)

      abbrev fsn : ℕ
      fsn = last_sent (queue_at n.queues link)

      bsn-fits : bsn < 2 ^ 24
      bsn-fits = previous-fits (queue_at n.queues link).received

      fsn-fits : fsn < 2 ^ 24
      fsn-fits = previous-fits ((queue_at n.queues link).base + (queue_at n.queues link).sent)

      fetched : (out : Outgoing) (frame : FrameValue) → goes_out whole c link n ≡ out → frame_from bsn fsn out ≡ Some frame → AddsTo frame f
          → StaysFit c n (after_sending whole c link n out) → FetchesTo frame f n (after_sending whole c link n out)
      fetched (SendsStatus status) frame e is a stay =
          let s : FrameValue = StatusFrame bsn fsn status in
          let same : s ≡ frame = cc in
          subst (λ (x : FrameValue). FetchesTo x f n (after_sending whole c link n (SendsStatus status))) same
          (record {
            passes =
                passes-good _ _
                (λ g.
                passes-both c z j _ _ _ (status-sent s f (subst (λ (x : FrameValue). AddsTo x f) (sym same) a) n (status-up n status e g))
                (status-left (launched_status f) n status stay));
            tells = status-flies bsn fsn status bsn-fits fsn-fits;
          })
      fetched (SendsMessage next) frame e is a stay =
          let s : FrameValue = carrier n next in
          let same : s ≡ frame = cc in
          let goes : Goes n next = goes-next n next e in
          let adds : Adds (carrier n next) f = subst (λ (x : FrameValue). AddsTo x f) (sym same) a in
          subst (λ (x : FrameValue). FetchesTo x f n (after_sending whole c link n (SendsMessage next))) same
          (record {
            passes =
                passes-good _ _
                (λ g. passes-both c z j _ _ _ (message-sent f n next goes adds (g.fits.queues.each link).limit) (message-left (launched f) n next g.fits stay));
            flies = λ g b. message-flies f n next goes adds (g.queued link) (b.queued link);
          })
      fetched Acknowledges frame e is a stay =
          let s : FrameValue = EmptyFrame bsn fsn in
          let same : s ≡ frame = cc in
          subst (λ (x : FrameValue). FetchesTo x f n (after_sending whole c link n Acknowledges)) same
          (record {
            passes =
                passes-good _ _
                (λ g. passes-both c z j _ _ _ (empty-sent f n (owed-up n e g) (subst (λ (x : FrameValue). AddsTo x f) (sym same) a)) (owed-left (launched f) n stay));
            flies = λ g b. empty-flies bsn fsn bsn-fits fsn-fits;
          })
      fetched SendsNothing frame e is a stay = absurd cc

      pub take-passes : (out : FrameValue) → frame_taken whole c link n ≡ Some out → AddsTo out f → FetchesTo out f n (after_take whole c link n)
      take-passes out is a = fetched (goes_out whole c link n) out refl is a (take-steps (rules-of (fit-steps c)) link n tt)
