-- Frames come and go on a link between the nodes: steps of a pair, with what is in the air then.
use Rattle.std.proofs.Common.{◌≡◌, ◌≢◌, ◌<◌, ℕ, Bool, true, false, List, [], ◌∷◌, ◌++◌, Option, Some, length, refl, ap, sym, ◌∙◌, subst, nat_eq, append-nil}
use Rattle.std.proofs.lemmas.List.{length-set}
use Rattle.std.specs.Prelude.{if◌then◌else◌, slice_get, slice_set, drop, option_to_list}
use Rattle.settings.specs.Configuration.{Configuration}
use Rattle.m2pa_codec.specs.Frames.{FrameValue, EmptyFrame, MessageFrame, StatusFrame, spelled}
use Rattle.signalling_types.specs.Message as signalling
use Rattle.changeover.specs.Changeover.{users_of}
use Rattle.exchange_rules.specs.Conserving.{brought_in}
use Rattle.exchange_rules.specs.Receiving.{new_message}
use Rattle.exchange_rules.specs.State.{FrameCame}
use Rattle.exchange_rules.specs.Exchange.{frame_to_take, taken}
use Rattle.exchange_rules.specs.First.{Abstract}
use Rattle.exchange_rules.specs.Queues.{whole}
use Rattle.sctp_moves.specs.Ends.{Message}
use Rattle.pair_rules.specs.Pairs as pairs
use Rattle.pair_rules.specs.Pairs.{PairState, Streams, in_flight, without_data, without_status, behind_data, behind_statuses}
use Rattle.pair_rules.specs.Promises.{AreJoined}
use Rattle.neighbour_rules.specs.Neighbours.{Does, did, deliver_frame, far_end, take_frame}
use Rattle.neighbour_rules.proofs.Sharing.{AreFacing}
use Rattle.node_rules.specs.Worlds.{Books, happened, stream_of, m2pa}
use Rattle.node_rules.proofs.Lines.{Ends, ends-apart}
use Rattle.node_rules.proofs.Lines as lines
use Rattle.node_rules.proofs.Whole.{AreBooked, IsWhole, booked-taken, whole-did}
use Rattle.node_rules.proofs.Flights.{texts, Air, Flies, Sized, Shows, with_air, each-link, Reaches, by-one}
use Rattle.node_rules.proofs.PairSteps.{far_end-is, has-come, other-is, own-is, set-here, set-there}

-- a message is on its way, on one of the streams
on-stream : (s t : ℕ) (m : Message) (rest : List Message) → m.stream ≡ t → nat_eq t s ≡ true → texts s (m ∷ rest) ≡ m.octets ∷ texts s rest
on-stream s t m rest e f =
    ap (λ (i : ℕ). if nat_eq i s then m.octets ∷ texts s rest else texts s rest) e
    ∙ ap (λ (b : Bool). if b then m.octets ∷ texts s rest else texts s rest) f

off-stream : (s t : ℕ) (m : Message) (rest : List Message) → m.stream ≡ t → nat_eq t s ≡ false → texts s (m ∷ rest) ≡ texts s rest
off-stream s t m rest e f =
    ap (λ (i : ℕ). if nat_eq i s then m.octets ∷ texts s rest else texts s rest) e
    ∙ ap (λ (b : Bool). if b then m.octets ∷ texts s rest else texts s rest) f

texts-append : (s : ℕ) (ms : List Message) (m : Message) → texts s (ms ++ m ∷ []) ≡ texts s ms ++ texts s (m ∷ [])
texts-append s [] m = refl
texts-append s (x ∷ ms) m = by (nat_eq x.stream s) (texts-append s ms m) where
  by : (b : Bool) → texts s (ms ++ m ∷ []) ≡ texts s ms ++ texts s (m ∷ [])
      → (if b then x.octets ∷ texts s (ms ++ m ∷ []) else texts s (ms ++ m ∷ [])) ≡ (if b then x.octets ∷ texts s ms else texts s ms) ++ texts s (m ∷ [])
  by true e = ap (λ (xs : List (List ℕ)). x.octets ∷ xs) e
  by false e = e

-- ---- what is in flight to the end of a link

module _ (n k : ℕ) (k-in : k < n) (s : Streams) (following : List Bool) (sized : Sized n s following) where
  -- it is one text shorter
  module _ (m : Message) (rest : List Message) (follows : Bool) (f : Flies k s following (m ∷ rest) follows) where
    pub data-first : m.stream ≡ 1 → in_flight s.user_data k ≡ m.octets ∷ texts 1 rest
    data-first one = f.user_data ∙ on-stream 1 1 m rest one refl

    pub status-first : m.stream ≡ 0 → in_flight s.statuses k ≡ m.octets ∷ texts 0 rest
    status-first zero-is = f.statuses ∙ on-stream 0 0 m rest zero-is refl

    pub data-less : m.stream ≡ 1 → Flies k (without_data k s) following rest follows
    data-less one = record {
      statuses = f.statuses ∙ off-stream 0 1 m rest one refl;
      user_data = set-here n k k-in s.user_data (drop 1 (in_flight s.user_data k)) [] sized.user_data ∙ ap (λ (xs : List (List ℕ)). drop 1 xs) (data-first one);
      may = f.may;
    }

    pub status-less : m.stream ≡ 0 → Flies k (without_status k s) following rest follows
    status-less zero-is = record {
      statuses = set-here n k k-in s.statuses (drop 1 (in_flight s.statuses k)) [] sized.statuses ∙ ap (λ (xs : List (List ℕ)). drop 1 xs) (status-first zero-is);
      user_data = f.user_data ∙ off-stream 1 0 m rest zero-is refl;
      may = f.may;
    }

  -- it is one text longer
  module _ (m : Message) (to : List Message) (follows : Bool) (f : Flies k s following to follows) where
    pub data-more : m.stream ≡ 1 → Flies k (behind_data m.octets k s) following (to ++ m ∷ []) follows
    data-more one = record {
      statuses = f.statuses ∙ sym (append-nil (texts 0 to))
          ∙ ap (λ (xs : List (List ℕ)). texts 0 to ++ xs) (sym (off-stream 0 1 m [] one refl)) ∙ sym (texts-append 0 to m);
      user_data = set-here n k k-in s.user_data (in_flight s.user_data k ++ m.octets ∷ []) [] sized.user_data ∙ ap (λ (xs : List (List ℕ)). xs ++ m.octets ∷ []) f.user_data
          ∙ ap (λ (xs : List (List ℕ)). texts 1 to ++ xs) (sym (on-stream 1 1 m [] one refl)) ∙ sym (texts-append 1 to m);
      may = f.may;
    }

    pub status-more : m.stream ≡ 0 → Flies k (behind_statuses m.octets k s) following (to ++ m ∷ []) follows
    status-more zero-is = record {
      statuses = set-here n k k-in s.statuses (in_flight s.statuses k ++ m.octets ∷ []) [] sized.statuses ∙ ap (λ (xs : List (List ℕ)). xs ++ m.octets ∷ []) f.statuses
          ∙ ap (λ (xs : List (List ℕ)). texts 0 to ++ xs) (sym (on-stream 0 0 m [] zero-is refl)) ∙ sym (texts-append 0 to m);
      user_data = f.user_data ∙ sym (append-nil (texts 1 to))
          ∙ ap (λ (xs : List (List ℕ)). texts 1 to ++ xs) (sym (off-stream 1 0 m [] zero-is refl)) ∙ sym (texts-append 1 to m);
      may = f.may;
    }

-- ---- and to the others

module _ (k : ℕ) (s : Streams) (following : List Bool) (new : List (List ℕ)) where
  abbrev with-data : Streams
  with-data = record s { user_data = slice_set s.user_data k new }

  abbrev with-statuses : Streams
  with-statuses = record s { statuses = slice_set s.statuses k new }

  pub data-sized : (n : ℕ) → Sized n s following → Sized n with-data following
  data-sized n y = record { statuses = y.statuses; user_data = length-set s.user_data k new ∙ y.user_data; may = y.may }

  pub status-sized : (n : ℕ) → Sized n s following → Sized n with-statuses following
  status-sized n y = record { statuses = length-set s.statuses k new ∙ y.statuses; user_data = y.user_data; may = y.may }

  pub data-others : (i : ℕ) (to : List Message) (follows : Bool) → i ≢ k → Flies i s following to follows → Flies i with-data following to follows
  data-others i to follows d f = record { statuses = f.statuses; user_data = set-there s.user_data k new [] i d ∙ f.user_data; may = f.may }

  pub status-others : (i : ℕ) (to : List Message) (follows : Bool) → i ≢ k → Flies i s following to follows → Flies i with-statuses following to follows
  status-others i to follows d f = record { statuses = set-there s.statuses k new [] i d ∙ f.statuses; user_data = f.user_data; may = f.may }

-- the message that a frame is
abbrev pub framed : FrameValue → Message
framed frame = record { stream = stream_of (spelled frame); protocol = m2pa; octets = spelled frame }

module _ (c z : Configuration) (a : AreFacing c z) (near far : Books) (air : ℕ → ℕ → Air) (p : PairState) (h : Shows c z a near far air p)
    (k j : ℕ) (e : Ends c z a k j) where
  -- ---- a frame comes

  abbrev come-air : List Message → Air
  come-air rest = record (air k j) { to_near = rest }

  abbrev come-left : List ℕ → Streams → PairState
  come-left text s = (deliver_frame (Some text) k s p).left

  come-shows : (text : List ℕ) (rest : List Message) (s : Streams) → Sized (length c.links) s p.near.following
      → Flies k s p.near.following rest (air k j).near_follows
      → ((i : ℕ) (to : List Message) (follows : Bool) → i ≢ k → Flies i p.near.incoming p.near.following to follows → Flies i s p.near.following to follows)
      → (AreJoined c z → IsWhole c z (happened (FrameCame k text) near) far (come-left text s))
      → Shows c z a (happened (FrameCame k text) near) far (with_air k (come-air rest) air) (come-left text s)
  come-shows text rest s sized here there whole = record {
    near_settings = h.near_settings;
    far_settings = h.far_settings;
    near_has = has-come c.own z.own near p.near h.near_has k text s p.far.exchange.settings.own p.near.exchange.settings.own
        (other-is c z a near far air p h) (own-is c z a near far air p h);
    far_has = h.far_has;
    near_sized = sized;
    far_sized = h.far_sized;
    to_near = each-link c z a (λ (i o : ℕ) (x : Air). Flies i s p.near.following x.to_near x.near_follows) k j e (come-air rest) air here
        (λ i o l d. there i (air i o).to_near (air i o).near_follows d (h.to_near i o l));
    to_far = each-link c z a (λ (i o : ℕ) (x : Air). Flies o p.far.incoming p.far.following x.to_far x.far_follows) k j e (come-air rest) air
        (h.to_far k j e) (λ i o l d. h.to_far i o l);
    whole = whole;
  }

  -- a pair of `pair_rules` books what comes
  come-booked : (text : List ℕ) (s : Streams) (o : Option (List ℕ)) → o ≡ Some text → AreBooked near far p
      → AreBooked (happened (FrameCame k text) near) far (pairs.deliver_frame o k s p).left
  come-booked text s o f b =
      subst (λ (q : Option (List ℕ)). AreBooked (happened (FrameCame k text) near) far (pairs.deliver_frame q k s p).left) (sym f)
      (record {
        near_accepted = ap (λ (x : Abstract). near.accepted ++ brought_in (FrameCame k text) x) h.near_has.exchange
            ∙ ap (λ (ms : List signalling.Message). ms ++ brought_in (FrameCame k text) p.near.exchange) b.near_accepted;
        near_received = ap (λ (x : Abstract). near.received ++ users_of (option_to_list (new_message k text x))) h.near_has.exchange
            ∙ ap (λ (ms : List signalling.Message). ms ++ users_of (option_to_list (new_message k text p.near.exchange))) b.near_received;
        far_accepted = b.far_accepted;
        far_received = b.far_received;
      })

  deliver-it : (o : Option (List ℕ)) (text : List ℕ) (s : Streams) → o ≡ Some text → (deliver_frame o k s p).left ≡ come-left text s
  deliver-it o text s f = ap (λ (q : Option (List ℕ)). (deliver_frame q k s p).left) f

  module _ (m : Message) (rest : List Message) (is : (air k j).to_near ≡ m ∷ rest) where
    flies : Flies k p.near.incoming p.near.following (m ∷ rest) (air k j).near_follows
    flies = subst (λ (ms : List Message). Flies k p.near.incoming p.near.following ms (air k j).near_follows) is (h.to_near k j e)

    pub data-comes : m.stream ≡ 1 → Reaches c z a (happened (FrameCame k m.octets) near) far (with_air k (come-air rest) air) p
    data-comes one =
        let s : Streams = p.near.incoming in
        let n : ℕ = length c.links in
        let left : List (List ℕ) = drop 1 (in_flight s.user_data k) in
        let first : slice_get (in_flight s.user_data k) 0 ≡ Some m.octets =
        ap (λ (xs : List (List ℕ)). slice_get xs 0) (data-first n k e.here s p.near.following h.near_sized m rest (air k j).near_follows flies one) in
        let is : (did (Does (pairs.Delivers k)) p).left ≡ come-left m.octets (without_data k s) = deliver-it (slice_get (in_flight s.user_data k) 0) m.octets (without_data k s) first in
        by-one c z a (happened (FrameCame k m.octets) near) far (with_air k (come-air rest) air) (Does (pairs.Delivers k)) p
        (subst (Shows c z a (happened (FrameCame k m.octets) near) far (with_air k (come-air rest) air)) (sym is)
        (come-shows m.octets rest (without_data k s) (data-sized k s p.near.following left n h.near_sized)
        (data-less n k e.here s p.near.following h.near_sized m rest (air k j).near_follows flies one) (data-others k s p.near.following left)
        (λ g.
        whole-did c z g near far p (h.whole g) (pairs.Delivers k) (happened (FrameCame k m.octets) near) (come-left m.octets (without_data k s)) is
        (come-booked m.octets (without_data k s) (slice_get (in_flight s.user_data k) 0) first (h.whole g).booked))))

    pub status-comes : m.stream ≡ 0 → Reaches c z a (happened (FrameCame k m.octets) near) far (with_air k (come-air rest) air) p
    status-comes zero-is =
        let s : Streams = p.near.incoming in
        let n : ℕ = length c.links in
        let left : List (List ℕ) = drop 1 (in_flight s.statuses k) in
        let first : slice_get (in_flight s.statuses k) 0 ≡ Some m.octets =
        ap (λ (xs : List (List ℕ)). slice_get xs 0) (status-first n k e.here s p.near.following h.near_sized m rest (air k j).near_follows flies zero-is) in
        let is : (did (Does (pairs.DeliversStatus k)) p).left ≡ come-left m.octets (without_status k s) = deliver-it (slice_get (in_flight s.statuses k) 0) m.octets (without_status k s) first in
        by-one c z a (happened (FrameCame k m.octets) near) far (with_air k (come-air rest) air) (Does (pairs.DeliversStatus k)) p
        (subst (Shows c z a (happened (FrameCame k m.octets) near) far (with_air k (come-air rest) air)) (sym is)
        (come-shows m.octets rest (without_status k s) (status-sized k s p.near.following left n h.near_sized)
        (status-less n k e.here s p.near.following h.near_sized m rest (air k j).near_follows flies zero-is) (status-others k s p.near.following left)
        (λ g.
        whole-did c z g near far p (h.whole g) (pairs.DeliversStatus k) (happened (FrameCame k m.octets) near) (come-left m.octets (without_status k s)) is
        (come-booked m.octets (without_status k s) (slice_get (in_flight s.statuses k) 0) first (h.whole g).booked))))

  -- ---- a frame goes out

  abbrev sent-air : Message → Air
  sent-air m = record (air k j) { to_far = (air k j).to_far ++ m ∷ [] }

  abbrev taken-books : Books
  taken-books = record near { exchange = taken whole near.exchange k }

  abbrev sent-left : Streams → PairState
  sent-left s = record { near = record p.near { exchange = taken whole p.near.exchange k }; far = record p.far { incoming = s } }

  sent-shows : (m : Message) (s : Streams) → Sized (length z.links) s p.far.following
      → Flies j s p.far.following ((air k j).to_far ++ m ∷ []) (air k j).far_follows
      → ((o : ℕ) (to : List Message) (follows : Bool) → o ≢ j → Flies o p.far.incoming p.far.following to follows → Flies o s p.far.following to follows)
      → (AreJoined c z → IsWhole c z taken-books far (sent-left s)) → Shows c z a taken-books far (with_air k (sent-air m) air) (sent-left s)
  sent-shows m s sized here there all = record {
    near_settings = h.near_settings;
    far_settings = h.far_settings;
    near_has = record {
      exchange = ap (λ (x : Abstract). taken whole x k) h.near_has.exchange;
      accepted = h.near_has.accepted;
      received = h.near_has.received;
    };
    far_has = record { exchange = h.far_has.exchange; accepted = h.far_has.accepted; received = h.far_has.received };
    near_sized = h.near_sized;
    far_sized = sized;
    to_near = each-link c z a (λ (i o : ℕ) (x : Air). Flies i p.near.incoming p.near.following x.to_near x.near_follows) k j e (sent-air m) air
        (h.to_near k j e) (λ i o l d. h.to_near i o l);
    to_far = each-link c z a (λ (i o : ℕ) (x : Air). Flies o s p.far.following x.to_far x.far_follows) k j e (sent-air m) air here
        (λ i o l d. there o (air i o).to_far (air i o).far_follows (ends-apart c z a k j i o e l d) (h.to_far i o l));
    whole = all;
  }

  data-goes : (m : Message) → m.stream ≡ 1 → (AreJoined c z → IsWhole c z taken-books far (sent-left (behind_data m.octets j p.far.incoming)))
      → Shows c z a taken-books far (with_air k (sent-air m) air) (sent-left (behind_data m.octets j p.far.incoming))
  data-goes m one whole =
      let s : Streams = p.far.incoming in
      let more : List (List ℕ) = in_flight s.user_data j ++ m.octets ∷ [] in
      sent-shows m (behind_data m.octets j s) (data-sized j s p.far.following more (length z.links) h.far_sized)
      (data-more (length z.links) j e.there s p.far.following h.far_sized m (air k j).to_far (air k j).far_follows (h.to_far k j e) one) (data-others j s p.far.following more) whole

  status-goes : (m : Message) → m.stream ≡ 0 → (AreJoined c z → IsWhole c z taken-books far (sent-left (behind_statuses m.octets j p.far.incoming)))
      → Shows c z a taken-books far (with_air k (sent-air m) air) (sent-left (behind_statuses m.octets j p.far.incoming))
  status-goes m zero-is whole =
      let s : Streams = p.far.incoming in
      let more : List (List ℕ) = in_flight s.statuses j ++ m.octets ∷ [] in
      sent-shows m (behind_statuses m.octets j s) (status-sized j s p.far.following more (length z.links) h.far_sized)
      (status-more (length z.links) j e.there s p.far.following h.far_sized m (air k j).to_far (air k j).far_follows (h.to_far k j e) zero-is) (status-others j s p.far.following more) whole

  launched-shows : (frame : FrameValue) → (AreJoined c z → IsWhole c z taken-books far (take_frame (Some frame) k (Some j) p).left) → Shows c z a taken-books far (with_air k (sent-air (framed frame)) air) (take_frame (Some frame) k (Some j) p).left
  launched-shows (EmptyFrame bsn fsn) whole = data-goes (framed (EmptyFrame bsn fsn)) refl whole
  launched-shows (MessageFrame bsn fsn sio sif) whole = data-goes (framed (MessageFrame bsn fsn sio sif)) refl whole
  launched-shows (StatusFrame bsn fsn status) whole = status-goes (framed (StatusFrame bsn fsn status)) refl whole

  pub goes-out : (frame : FrameValue) → frame_to_take whole near.exchange k ≡ Some frame
      → Reaches c z a taken-books far (with_air k (sent-air (framed frame)) air) p
  goes-out frame f =
      let is : frame_to_take whole p.near.exchange k ≡ Some frame = ap (λ (x : Abstract). frame_to_take whole x k) (sym h.near_has.exchange) ∙ f in
      let end : far_end p k ≡ Some j = far_end-is c z a near far air p h k (Some j) (lines.far-end c z a k j e) in
      let goes : (did (Does (pairs.Takes k)) p).left ≡ (take_frame (Some frame) k (Some j) p).left =
      ap (λ (o : Option ℕ). (take_frame (frame_to_take whole p.near.exchange k) k o p).left) end ∙ ap (λ (o : Option FrameValue). (take_frame o k (Some j) p).left) is in
      by-one c z a taken-books far (with_air k (sent-air (framed frame)) air) (Does (pairs.Takes k)) p
      (subst (Shows c z a taken-books far (with_air k (sent-air (framed frame)) air)) (sym goes)
      (launched-shows frame (λ g.
      let b : AreBooked near far p = (h.whole g).booked in
      whole-did c z g near far p (h.whole g) (pairs.Takes k) taken-books (take_frame (Some frame) k (Some j) p).left goes
      (booked-taken taken-books far (frame_to_take whole p.near.exchange k) k p
      (record { near_accepted = b.near_accepted; near_received = b.near_received; far_accepted = b.far_accepted; far_received = b.far_received })))))
