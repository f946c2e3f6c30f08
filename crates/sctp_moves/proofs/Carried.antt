-- Messages: what epochs of both ends that are one association say of one another, and that each move keeps this.
use Rattle.std.proofs.Common.{◌≡◌, ◌≢◌, inl, inr, ℕ, zero, suc, ◌+◌, ◌<◌, ◌≤◌, List, [], ◌∷◌, ◌++◌, length, take, map, slice_get, refl, ap, sym, ◌∙◌, subst, arith, Some}
use Rattle.std.proofs.lemmas.Grind.{common_steps}
use Rattle.std.proofs.lemmas.Option.{slice_get_within, get_or_from_slice_get}
use Rattle.std.proofs.lemmas.List.{take_more, take-append-le, length_push}
use Rattle.sctp_moves.specs.Numbers.{modulus, window, number_of, cumulative, steps_between}
use Rattle.sctp_moves.specs.Ends.{Message, Name, Chunk, Acknowledgement, Piece, Epoch, new_epoch, End}
use Rattle.sctp_moves.specs.Moves.{chunk_of, ack_of}
use Rattle.sctp_moves.specs.Theorems.{AreOne}
use Rattle.sctp_moves.proofs.Members.{In, in-map}
use Rattle.sctp_moves.proofs.Sides.{Tie, back, tie, side_of, AreSides, one-own, same-far}

-- an association with this far tag is there
abbrev pub HasFar : List Tie → ℕ → Type 0
HasFar ts tag = (t : Tie) × In t ts × (t.far.tag ≡ tag)

pub record IsChunkOf (e : Epoch) (d : Chunk) : Type 0 where
  pub message : slice_get e.sent d.place ≡ Some d.message
  pub number : d.number ≡ number_of e.own.first d.place
  pub room : d.place < e.acked + window

pub record IsAckOf (e : Epoch) (a : Acknowledgement) : Type 0 where
  pub number : a.number ≡ cumulative e.far.first a.count
  pub count : a.count ≤ length e.received

-- an epoch, what its end put out, and the associations of the other end
pub record IsEpoch (chunks : List Chunk) (acks : List Acknowledgement) (others : List Tie) (e : Epoch) : Type 0 where
  pub acked : e.acked ≤ length e.sent
  pub room : length e.sent ≤ e.acked + window
  pub chunk : (d : Chunk) → In d chunks → d.to ≡ e.far.tag → IsChunkOf e d
  pub ack : (a : Acknowledgement) → In a acks → a.to ≡ e.far.tag → IsAckOf e a
  pub confirmed : 0 < e.acked → HasFar others e.own.tag
  pub fed : 0 < length e.received → HasFar others e.own.tag
  pub told : (k : Piece) → In k e.heard → HasFar others e.own.tag

-- from the epoch that sends to the one that receives
pub record IsFlow (e f : Epoch) : Type 0 where
  pub received : f.received ≡ take (length f.received) e.sent
  pub within : length f.received ≤ length e.sent
  pub acked : e.acked ≤ length f.received
  pub heard : (k : Piece) → In k f.heard → slice_get e.sent k.place ≡ Some k.message

pub record IsCarrying (epochs : List Epoch) (chunks : List Chunk) (acks : List Acknowledgement) (others : List Epoch) : Type 0 where
  pub each : (e : Epoch) → In e epochs → IsEpoch chunks acks (map tie others) e
  pub flows : (e f : Epoch) → In e epochs → In f others → AreOne e f → IsFlow e f
  pub chunk : (d : Chunk) → In d chunks → HasFar (map tie epochs) d.to
  pub ack : (a : Acknowledgement) → In a acks → HasFar (map tie epochs) a.to

abbrev pub AreCarrying : End → End → Type 0
AreCarrying x y = IsCarrying x.epochs x.chunks x.acks y.epochs × IsCarrying y.epochs y.chunks y.acks x.epochs

-- ---- lists

get-push : {X : Type 0} (xs : List X) (y : X) (n : ℕ) (x : X) → slice_get xs n ≡ Some x → slice_get (xs ++ y ∷ []) n ≡ Some x
get-push [] y n x e = grind (arith, common_steps)
get-push (z ∷ xs) y zero x e = e
get-push (z ∷ xs) y (suc n) x e = get-push xs y n x e

take-next : {X : Type 0} (xs : List X) (n : ℕ) (x : X) → slice_get xs n ≡ Some x → take (n + 1) xs ≡ take n xs ++ x ∷ []
take-next xs n x e =
    take_more xs n x (slice_get_within xs n x e) ∙ ap (λ y. take n xs ++ y ∷ []) (get_or_from_slice_get xs n x x e)

none-taken : {X : Type 0} (xs : List X) → (0 < length xs → ⊥) → xs ≡ take (length xs) []
none-taken [] none = refl
none-taken (x ∷ xs) none = absurd (none (omega arith))

-- ---- numbers

-- the place that an end reckons from a number is the one that was meant
place-is : (first n place ahead number : ℕ) → number ≡ number_of first place → ahead ≡ steps_between (number_of first n) number →
    place < n + window → n + window ≤ place + modulus → ahead < window → n + ahead ≡ place
place-is first n place ahead number is distance near young within = omega (arith, is, distance, near, young, within)

-- so is the count
count-is : (first acked count ahead number sent : ℕ) → number ≡ cumulative first count → ahead ≡ steps_between (cumulative first acked) number →
    acked + window < count + modulus → acked + ahead ≤ sent → sent ≤ acked + window → count ≤ sent → acked + ahead ≡ count
count-is first acked count ahead number sent is distance young within room known = omega (arith, is, distance, young, within, room, known)

-- ---- names

turned-one : (e f : Epoch) → AreOne e f → AreOne f e
turned-one e f o = record { there = sym o.back; back = sym o.there }

abbrev pub first_of : Name → ℕ
first_of n = n.first

module _ (x y : End) (s : AreSides (side_of x) (side_of y)) where
  -- two epochs with the same tags have the same names
  pub same-names : (e f : Epoch) → In e x.epochs → In f y.epochs → AreOne e f → (e.own ≡ f.far) × (e.far ≡ f.own)
  same-names e f i j o =
      let is : back (tie e) ≡ tie f =
      one-own (side_of x) (side_of y) s.near s.far (tie e) (tie f) (in-map tie x.epochs e i) (in-map tie y.epochs f j) o.there in
      (ap (λ (t : Tie). t.far) is, ap (λ (t : Tie). t.own) is)

-- ---- the present epoch changes, but for its names

abbrev pub holding : End → List Epoch → End
holding x epochs = record x { epochs = epochs }

abbrev changed : Epoch → List Message → ℕ → List Piece → List Message → Epoch
changed e sent acked heard received = record e { sent = sent; acked = acked; heard = heard; received = received }

module _ (x y : End) (e : Epoch) (past : List Epoch) (h : AreCarrying (holding x (e ∷ past)) y) where
  module _ (sent : List Message) (acked : ℕ) (heard : List Piece) (received : List Message)
      (is : IsEpoch x.chunks x.acks (map tie y.epochs) (changed e sent acked heard received))
      (flows : (f : Epoch) → In f y.epochs → AreOne e f → IsFlow (changed e sent acked heard received) f × IsFlow f (changed e sent acked heard received)) where
    abbrev new : Epoch
    new = changed e sent acked heard received

    each : (k : Epoch) → In k (new ∷ past) → IsEpoch x.chunks x.acks (map tie y.epochs) k
    each k (inl q) = subst (IsEpoch x.chunks x.acks (map tie y.epochs)) (sym q) is
    each k (inr i) = h.0.each k (inr i)

    there : (k f : Epoch) → In k (new ∷ past) → In f y.epochs → AreOne k f → IsFlow k f
    there k f (inl q) j o =
        let p : AreOne new f = subst (λ (z : Epoch). AreOne z f) q o in
        subst (λ (z : Epoch). IsFlow z f) (sym q) (flows f j (record { there = p.there; back = p.back })).0
    there k f (inr i) j o = h.0.flows k f (inr i) j o

    here : (f k : Epoch) → In f y.epochs → In k (new ∷ past) → AreOne f k → IsFlow f k
    here f k j (inl q) o =
        let p : AreOne f new = subst (AreOne f) q o in
        subst (IsFlow f) (sym q) (flows f j (record { there = sym p.back; back = sym p.there })).1
    here f k j (inr i) o = h.1.flows f k j (inr i) o

    keeps-change : AreCarrying (holding x (new ∷ past)) y
    keeps-change = (
      record { each = each; flows = there; chunk = h.0.chunk; ack = h.0.ack },
      record { each = h.1.each; flows = here; chunk = h.1.chunk; ack = h.1.ack },
    )

  now : IsEpoch x.chunks x.acks (map tie y.epochs) e
  now = h.0.each e (inl refl)

  to-far : (f : Epoch) → In f y.epochs → AreOne e f → IsFlow e f
  to-far f j o = h.0.flows e f (inl refl) j o

  to-near : (f : Epoch) → In f y.epochs → AreOne e f → IsFlow f e
  to-near f j o = h.1.flows f e j (inl refl) (turned-one e f o)

  -- a message is taken
  pub keeps-take : (m : Message) → length e.sent < e.acked + window → AreCarrying (holding x (record e { sent = e.sent ++ m ∷ [] } ∷ past)) y
  keeps-take m room = keeps-change (e.sent ++ m ∷ []) e.acked e.heard e.received
      (record {
        acked = omega (arith, now.acked, length_push e.sent m);
        room = omega (arith, room, length_push e.sent m);
        chunk = λ d i to. let c : IsChunkOf e d = now.chunk d i to in
            record { message = get-push e.sent m d.place d.message c.message; number = c.number; room = c.room };
        ack = λ a i to. let c : IsAckOf e a = now.ack a i to in record { number = c.number; count = c.count };
        confirmed = now.confirmed;
        fed = now.fed;
        told = now.told;
      })
      (λ f j o. let g : IsFlow e f = to-far f j o in let b : IsFlow f e = to-near f j o in (
        record {
          received = g.received ∙ sym (take-append-le (length f.received) e.sent (m ∷ []) g.within);
          within = omega (arith, g.within, length_push e.sent m);
          acked = g.acked;
          heard = λ k i. get-push e.sent m k.place k.message (g.heard k i);
        },
        record { received = b.received; within = b.within; acked = b.acked; heard = b.heard },
      ))

  module _ (s : AreSides (side_of (holding x (e ∷ past))) (side_of y)) where
    names : (f : Epoch) → In f y.epochs → AreOne e f → (e.own ≡ f.far) × (e.far ≡ f.own)
    names f j o = same-names (holding x (e ∷ past)) y s e f (inl refl) j o

    -- another epoch of this end has another far tag
    only : (k : Epoch) → In k past → k.far.tag ≡ e.far.tag → ⊥
    only k i q =
        let is : tie k ≡ tie e =
        same-far (side_of (holding x (e ∷ past))) (side_of y) s.near s.far (tie k) (tie e) (inr (in-map tie past k i)) (inl refl) q in
        s.near.apart.0 (tie k) (in-map tie past k i) (ap (λ (t : Tie). t.own.tag) is)

    -- DATA comes
    module _ (d : Chunk) (there : In d y.chunks) (to : d.to ≡ e.own.tag) (young : length e.received + window ≤ d.place + modulus)
        (ahead : ℕ) (distance : ahead ≡ steps_between (number_of e.far.first (length e.received)) d.number) (within : ahead < window) where
      abbrev piece : Piece
      piece = record { place = length e.received + ahead; message = d.message }

      heard-chunk : (c : Chunk) → In c x.chunks → c.to ≡ e.far.tag → IsChunkOf (record e { heard = piece ∷ e.heard }) c
      heard-chunk c i q = let k : IsChunkOf e c = now.chunk c i q in record { message = k.message; number = k.number; room = k.room }

      heard-ack : (a : Acknowledgement) → In a x.acks → a.to ≡ e.far.tag → IsAckOf (record e { heard = piece ∷ e.heard }) a
      heard-ack a i q = let k : IsAckOf e a = now.ack a i q in record { number = k.number; count = k.count }

      heard-told : (k : Piece) → In k (piece ∷ e.heard) → HasFar (map tie y.epochs) e.own.tag
      heard-told k (inl q) = subst (HasFar (map tie y.epochs)) to (h.1.chunk d there)
      heard-told k (inr i) = now.told k i

      heard-is : (f : Epoch) → In f y.epochs → AreOne e f → (k : Piece) → In k (piece ∷ e.heard) → slice_get f.sent k.place ≡ Some k.message
      heard-is f j o k (inr i) = (to-near f j o).heard k i
      heard-is f j o k (inl q) =
          let c : IsChunkOf f d = (h.1.each f j).chunk d there (to ∙ o.there) in
          let same : f.own.first ≡ e.far.first = ap first_of (sym (names f j o).1) in
          let place : length e.received + ahead ≡ d.place =
          place-is e.far.first (length e.received) d.place ahead d.number (c.number ∙ ap (λ (n : ℕ). number_of n d.place) same) distance
          (omega (arith, c.room, (to-near f j o).acked)) young within in
          subst (λ (z : Piece). slice_get f.sent z.place ≡ Some z.message) (sym q) (ap (λ (n : ℕ). slice_get f.sent n) place ∙ c.message)

      pub keeps-hearing : AreCarrying (holding x (record e { heard = piece ∷ e.heard } ∷ past)) y
      keeps-hearing = keeps-change e.sent e.acked (piece ∷ e.heard) e.received
          (record {
            acked = now.acked;
            room = now.room;
            chunk = heard-chunk;
            ack = heard-ack;
            confirmed = now.confirmed;
            fed = now.fed;
            told = heard-told;
          })
          (λ f j o. let g : IsFlow e f = to-far f j o in let b : IsFlow f e = to-near f j o in (
            record { received = g.received; within = g.within; acked = g.acked; heard = g.heard },
            record { received = b.received; within = b.within; acked = b.acked; heard = heard-is f j o },
          ))

    -- the next message is told
    pub keeps-handing : (m : Message) → In (record { place = length e.received; message = m }) e.heard →
        AreCarrying (holding x (record e { received = e.received ++ m ∷ [] } ∷ past)) y
    keeps-handing m next = keeps-change e.sent e.acked e.heard (e.received ++ m ∷ [])
        (record {
          acked = now.acked;
          room = now.room;
          chunk = λ d i to. let c : IsChunkOf e d = now.chunk d i to in record { message = c.message; number = c.number; room = c.room };
          ack = λ a i to. let c : IsAckOf e a = now.ack a i to in
              record { number = c.number; count = omega (arith, c.count, length_push e.received m) };
          confirmed = now.confirmed;
          fed = λ l. now.told (record { place = length e.received; message = m }) next;
          told = now.told;
        })
        (λ f j o. let g : IsFlow e f = to-far f j o in let b : IsFlow f e = to-near f j o in (
          record { received = g.received; within = g.within; acked = g.acked; heard = g.heard },
          let is : slice_get f.sent (length e.received) ≡ Some m = b.heard (record { place = length e.received; message = m }) next in
              let longer : length (e.received ++ m ∷ []) ≡ length e.received + 1 = omega (arith, length_push e.received m) in
              record {
                received = ap (λ (ms : List Message). ms ++ m ∷ []) b.received ∙ sym (take-next f.sent (length e.received) m is)
                    ∙ ap (λ (n : ℕ). take n f.sent) (sym longer);
                within = omega (arith, longer, slice_get_within f.sent (length e.received) m is);
                acked = omega (arith, longer, b.acked);
                heard = b.heard;
              },
        ))

    -- an acknowledgement comes
    pub keeps-confirming : (a : Acknowledgement) → In a y.acks → a.to ≡ e.own.tag → e.acked + window < a.count + modulus →
        (ahead : ℕ) → ahead ≡ steps_between (cumulative e.own.first e.acked) a.number → e.acked + ahead ≤ length e.sent →
        AreCarrying (holding x (record e { acked = e.acked + ahead } ∷ past)) y
    keeps-confirming a there to young ahead distance within = keeps-change e.sent (e.acked + ahead) e.heard e.received
        (record {
          acked = within;
          room = omega (arith, now.room);
          chunk = λ d i q. let c : IsChunkOf e d = now.chunk d i q in record { message = c.message; number = c.number; room = omega (arith, c.room) };
          ack = λ b i q. let c : IsAckOf e b = now.ack b i q in record { number = c.number; count = c.count };
          confirmed = λ l. subst (HasFar (map tie y.epochs)) to (h.1.ack a there);
          fed = now.fed;
          told = now.told;
        })
        (λ f j o. let g : IsFlow e f = to-far f j o in let b : IsFlow f e = to-near f j o in
        let c : IsAckOf f a = (h.1.each f j).ack a there (to ∙ o.there) in
        let same : f.far.first ≡ e.own.first = ap first_of (sym (names f j o).0) in
        let is : e.acked + ahead ≡ a.count =
        count-is e.own.first e.acked a.count ahead a.number (length e.sent) (c.number ∙ ap (λ (n : ℕ). cumulative n a.count) same) distance
        young within now.room (omega (arith, c.count, g.within)) in (
          record { received = g.received; within = g.within; acked = omega (arith, is, c.count); heard = g.heard },
          record { received = b.received; within = b.within; acked = b.acked; heard = b.heard },
        ))

    -- DATA goes out
    module _ (place : ℕ) (m : Message) (taken : slice_get e.sent place ≡ Some m) where
      abbrev sent_chunk : Chunk
      sent_chunk = chunk_of e place m

      chunk-each : (k : Epoch) → In k (e ∷ past) → IsEpoch (sent_chunk ∷ x.chunks) x.acks (map tie y.epochs) k
      chunk-each k i =
          let was : IsEpoch x.chunks x.acks (map tie y.epochs) k = h.0.each k i in
          record { acked = was.acked; room = was.room; chunk = chunk i was; ack = was.ack; confirmed = was.confirmed; fed = was.fed; told = was.told } where
            of : (d : Chunk) → In k (e ∷ past) → d ≡ sent_chunk → d.to ≡ k.far.tag → IsChunkOf k d
            of d (inr i) q to = absurd (only k i (sym to ∙ ap (λ (c : Chunk). c.to) q))
            of d (inl p) q to =
                subst (λ (z : Epoch). IsChunkOf z d) (sym p)
                (subst (IsChunkOf e) (sym q) (record { message = taken; number = refl; room = omega (arith, slice_get_within e.sent place m taken, now.room) }))

            chunk : In k (e ∷ past) → IsEpoch x.chunks x.acks (map tie y.epochs) k → (d : Chunk) → In d (sent_chunk ∷ x.chunks) → d.to ≡ k.far.tag → IsChunkOf k d
            chunk i was d (inl q) to = of d i q to
            chunk i was d (inr c) to = was.chunk d c to

      chunk-known : (d : Chunk) → In d (sent_chunk ∷ x.chunks) → HasFar (map tie (e ∷ past)) d.to
      chunk-known d (inl q) = (tie e, inl refl, ap (λ (c : Chunk). c.to) (sym q))
      chunk-known d (inr i) = h.0.chunk d i

      pub keeps-sending : AreCarrying (record x { epochs = e ∷ past; chunks = sent_chunk ∷ x.chunks }) y
      keeps-sending = (record { each = chunk-each; flows = h.0.flows; chunk = chunk-known; ack = h.0.ack }, h.1)

    -- an acknowledgement goes out
    abbrev sent_ack : Acknowledgement
    sent_ack = ack_of e

    ack-each : (k : Epoch) → In k (e ∷ past) → IsEpoch x.chunks (sent_ack ∷ x.acks) (map tie y.epochs) k
    ack-each k i =
        let was : IsEpoch x.chunks x.acks (map tie y.epochs) k = h.0.each k i in
        record { acked = was.acked; room = was.room; chunk = was.chunk; ack = ack i was; confirmed = was.confirmed; fed = was.fed; told = was.told } where
          of : (a : Acknowledgement) → In k (e ∷ past) → a ≡ sent_ack → a.to ≡ k.far.tag → IsAckOf k a
          of a (inr i) q to = absurd (only k i (sym to ∙ ap (λ (c : Acknowledgement). c.to) q))
          of a (inl p) q to =
              subst (λ (z : Epoch). IsAckOf z a) (sym p) (subst (IsAckOf e) (sym q) (record { number = refl; count = omega arith }))

          ack : In k (e ∷ past) → IsEpoch x.chunks x.acks (map tie y.epochs) k → (a : Acknowledgement) → In a (sent_ack ∷ x.acks) → a.to ≡ k.far.tag → IsAckOf k a
          ack i was a (inl q) to = of a i q to
          ack i was a (inr c) to = was.ack a c to

    ack-known : (a : Acknowledgement) → In a (sent_ack ∷ x.acks) → HasFar (map tie (e ∷ past)) a.to
    ack-known a (inl q) = (tie e, inl refl, ap (λ (c : Acknowledgement). c.to) (sym q))
    ack-known a (inr i) = h.0.ack a i

    pub keeps-acknowledging : AreCarrying (record x { epochs = e ∷ past; acks = sent_ack ∷ x.acks }) y
    keeps-acknowledging = (record { each = ack-each; flows = h.0.flows; chunk = h.0.chunk; ack = ack-known }, h.1)

-- ---- an association opens

more-far : (t : Tie) (ts : List Tie) (tag : ℕ) → HasFar ts tag → HasFar (t ∷ ts) tag
more-far t ts tag r = (r.0, inr r.1, r.2)

module _ (x y : End) (own far : Name) (h : AreCarrying x y)
    (none : (t : Tie) → In t (map tie x.epochs) → t.far.tag ≢ far.tag) where
  no-far : HasFar (map tie x.epochs) far.tag → ⊥
  no-far r = none r.0 r.1 r.2

  abbrev fresh : Epoch
  fresh = new_epoch own far

  opened-each : (k : Epoch) → In k (fresh ∷ x.epochs) → IsEpoch x.chunks x.acks (map tie y.epochs) k
  opened-each k (inr i) = h.0.each k i
  opened-each k (inl q) = subst (IsEpoch x.chunks x.acks (map tie y.epochs)) (sym q) (record {
    acked = omega arith;
    room = omega arith;
    chunk = λ d i to. absurd (no-far (subst (HasFar (map tie x.epochs)) to (h.0.chunk d i)));
    ack = λ a i to. absurd (no-far (subst (HasFar (map tie x.epochs)) to (h.0.ack a i)));
    confirmed = λ l. absurd (omega (arith, l));
    fed = λ l. absurd (omega (arith, l));
    told = λ p i. absurd i;
  })

  opened-there : (k f : Epoch) → In k (fresh ∷ x.epochs) → In f y.epochs → AreOne k f → IsFlow k f
  opened-there k f (inr i) j o = h.0.flows k f i j o
  opened-there k f (inl q) j o =
      let p : AreOne fresh f = subst (λ (z : Epoch). AreOne z f) q o in
      let was : IsEpoch y.chunks y.acks (map tie x.epochs) f = h.1.each f j in
      let empty : 0 < length f.received → ⊥ = λ l. no-far (subst (HasFar (map tie x.epochs)) (sym p.back) (was.fed l)) in
      subst (λ (z : Epoch). IsFlow z f) (sym q) (record {
        received = none-taken f.received empty;
        within = at-most (length f.received) empty;
        acked = omega arith;
        heard = λ k i. absurd (no-far (subst (HasFar (map tie x.epochs)) (sym p.back) (was.told k i)));
      }) where
        at-most : (n : ℕ) → (0 < n → ⊥) → n ≤ 0
        at-most zero never = omega arith
        at-most (suc n) never = absurd (never (omega arith))

  opened-here : (f k : Epoch) → In f y.epochs → In k (fresh ∷ x.epochs) → AreOne f k → IsFlow f k
  opened-here f k j (inr i) o = h.1.flows f k j i o
  opened-here f k j (inl q) o =
      let p : AreOne f fresh = subst (AreOne f) q o in
      let was : IsEpoch y.chunks y.acks (map tie x.epochs) f = h.1.each f j in
      subst (IsFlow f) (sym q) (record {
        received = refl;
        within = omega arith;
        acked = at-most f.acked (λ l. no-far (subst (HasFar (map tie x.epochs)) p.there (was.confirmed l)));
        heard = λ k i. absurd i;
      }) where
        at-most : (n : ℕ) → (0 < n → ⊥) → n ≤ 0
        at-most zero never = omega arith
        at-most (suc n) never = absurd (never (omega arith))

  opened-other : (f : Epoch) → In f y.epochs → IsEpoch y.chunks y.acks (map tie (fresh ∷ x.epochs)) f
  opened-other f j =
      let was : IsEpoch y.chunks y.acks (map tie x.epochs) f = h.1.each f j in
      record {
        acked = was.acked;
        room = was.room;
        chunk = was.chunk;
        ack = was.ack;
        confirmed = λ l. more-far (tie fresh) (map tie x.epochs) f.own.tag (was.confirmed l);
        fed = λ l. more-far (tie fresh) (map tie x.epochs) f.own.tag (was.fed l);
        told = λ k i. more-far (tie fresh) (map tie x.epochs) f.own.tag (was.told k i);
      }

  pub keeps-opened : AreCarrying (holding x (fresh ∷ x.epochs)) y
  keeps-opened = (
    record {
      each = opened-each;
      flows = opened-there;
      chunk = λ d i. more-far (tie fresh) (map tie x.epochs) d.to (h.0.chunk d i);
      ack = λ a i. more-far (tie fresh) (map tie x.epochs) a.to (h.0.ack a i);
    },
    record { each = opened-other; flows = opened-here; chunk = h.1.chunk; ack = h.1.ack },
  )
