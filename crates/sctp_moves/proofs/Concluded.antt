-- The theorems, of what every list of moves keeps.
use Rattle.std.proofs.Common.{◌≡◌, ◌≢◌, ◌⊎◌, inl, inr, ℕ, true, ◌<◌, List, [], ◌∷◌, length, map, slice_get, refl, ap, sym, ◌∙◌, subst, Some}
use Rattle.std.specs.List.{Contains}
use Rattle.std.proofs.Math.Logic.{⊎_elim}
use Rattle.std.proofs.lemmas.Bool.{cases_eq}
use Rattle.sctp_moves.specs.Ends.{Name, Cookie, Epoch, new_epoch, Phase, Closed, CookieWait, CookieEchoed, Established, End, Ends, new_ends, turned}
use Rattle.sctp_moves.specs.Moves as moves
use Rattle.sctp_moves.specs.Moves.{IsTrying, MayOpen, EndMove, Moves, last_of}
use Rattle.sctp_moves.specs.Theorems.{Always, AreOne, CarriesOver, HasOther, OwnTagsDiffer, FarTagsDiffer, Opens, Awaits, AreInOrder}
use Rattle.sctp_moves.specs.Theorems.{each_association_carries_a_prefix, what_is_received_was_sent, what_is_confirmed_was_received, own_tags_differ, far_tags_differ, first_finds_other_waiting, second_enters_latest, associations_come_in_order}
use Rattle.sctp_moves.proofs.Members.{In, in-from, contains-from, in-map, in-unmap, in-place, place-map}
use Rattle.sctp_moves.proofs.Sides.{Tie, tying, back, tie, tie_of, Side, side_of, IsDown, IsWaiting, IsEchoed, IsSide, AreApart, IsLatest, IsShut, AreSides}
use Rattle.sctp_moves.proofs.Sides.{tag_of, one-own, same-far, one-place, wanted-trying, trying-cases, echoed-trying}
use Rattle.sctp_moves.proofs.Opened.{IsOpening, opening-cookie, opening-ack, tie-there}
use Rattle.sctp_moves.proofs.Carried.{IsFlow, HasFar}
use Rattle.sctp_moves.proofs.Keeping.{IsSound, turned-sound, sound-always}

pub always : (Statement : Ends → Type 0) → ((p : Ends) → IsSound p.near p.far → Statement p) → Always Statement
always Statement each list m =
    let h : IsSound (last_of new_ends list).near (last_of new_ends list).far = sound-always list m in
    record {
      there = each (last_of new_ends list) h;
      back = each (turned (last_of new_ends list)) (turned-sound (last_of new_ends list).near (last_of new_ends list).far h);
    }

-- ---- prefix, confirmed

pub prefix-always : each_association_carries_a_prefix
prefix-always = always CarriesOver carries where
  carries : (p : Ends) → IsSound p.near p.far → CarriesOver p
  carries p h e f i j o =
      let g : IsFlow e f = h.carrying.0.flows e f (in-from p.near.epochs e i) (in-from p.far.epochs f j) o in
      record { prefix = g.received; confirmed = g.acked }

pub has-other : (x y : End) → IsSound x y → (e : Epoch) → In e x.epochs → HasFar (map tie y.epochs) e.own.tag → HasOther y.epochs e
has-other x y h e i far =
    let f : (k : Epoch) × In k y.epochs × (tie k ≡ far.0) = in-unmap tie y.epochs far.0 far.1 in
    let there : e.own.tag ≡ f.0.far.tag = sym (ap (λ (t : Tie). t.far.tag) f.2 ∙ far.2) in
    let is : back (tie e) ≡ tie f.0 =
    one-own (side_of x) (side_of y) h.sides.near h.sides.far (tie e) (tie f.0) (in-map tie x.epochs e i) (in-map tie y.epochs f.0 f.1) there in
    record {
      other = f.0;
      there = contains-from y.epochs f.0 f.1;
      one = record { there = there; back = ap (λ (t : Tie). t.own.tag) is };
    }

pub received-always : what_is_received_was_sent
received-always =
    always (λ p. (e : Epoch) → Contains p.near.epochs e → 0 < length e.received → HasOther p.far.epochs e)
    (λ p h e i l. has-other p.near p.far h e (in-from p.near.epochs e i) ((h.carrying.0.each e (in-from p.near.epochs e i)).fed l))

pub confirmed-always : what_is_confirmed_was_received
confirmed-always =
    always (λ p. (e : Epoch) → Contains p.near.epochs e → 0 < e.acked → HasOther p.far.epochs e)
    (λ p h e i l. has-other p.near p.far h e (in-from p.near.epochs e i) ((h.carrying.0.each e (in-from p.near.epochs e i)).confirmed l))

-- ---- one

own-differ : (p : Ends) → IsSound p.near p.far → OwnTagsDiffer p
own-differ p h i j e f a b q =
    one-place (map tie p.near.epochs) h.sides.near.apart i j (tie e) (tie f) (place-map tie p.near.epochs i e a) (place-map tie p.near.epochs j f b) q

pub far-differ : (p : Ends) → IsSound p.near p.far → FarTagsDiffer p
far-differ p h i j e f a b q =
    let t : slice_get (map tie p.near.epochs) i ≡ Some (tie e) = place-map tie p.near.epochs i e a in
    let u : slice_get (map tie p.near.epochs) j ≡ Some (tie f) = place-map tie p.near.epochs j f b in
    let same : tie e ≡ tie f =
    same-far (side_of p.near) (side_of p.far) h.sides.near h.sides.far (tie e) (tie f) (in-place (map tie p.near.epochs) i (tie e) t)
    (in-place (map tie p.near.epochs) j (tie f) u) q in
    one-place (map tie p.near.epochs) h.sides.near.apart i j (tie e) (tie f) t u (ap (λ (v : Tie). v.own.tag) same)

pub own-always : own_tags_differ
own-always = always OwnTagsDiffer own-differ

pub far-always : far_tags_differ
far-always = always FarTagsDiffer far-differ

-- ---- first, second

-- what an opening is: by a cookie, or by COOKIE ACK
pub data IsOpened (x y : End) (e : Epoch) : Type 0 where
  by_cookie : (c : Cookie) → In c y.echoes → c.generation ≡ x.generation → MayOpen x.phase c → x.wanted ≡ true → e ≡ new_epoch c.own c.far → IsOpened x y e
  by_ack : (own far : Name) → x.phase ≡ CookieEchoed own far → In own.tag y.cookie_acks → e ≡ new_epoch own far → IsOpened x y e

head-same : {X : Type 0} {x y : X} {xs ys : List X} → x ∷ xs ≡ y ∷ ys → x ≡ y
head-same e = cc

still-down : (s r : Phase) → r ≡ s → r ≡ Established → (s ≢ Established) → ⊥
still-down s r e up down = down (sym e ∙ up)

not-up : (s r : Phase) → r ≡ s → IsDown s → r ≡ Established → ⊥
not-up s r e down up = subst IsDown (sym e ∙ up) down

pub opened-by : (x y z : End) (e : Epoch) (past : List Epoch) → EndMove y x z → x.phase ≢ Established → z.phase ≡ Established → z.epochs ≡ e ∷ past → IsOpened x y e
opened-by x y z e past (moves.wants m) down up now = absurd (still-down x.phase z.phase (ap (λ (w : End). w.phase) m.after) up down)
opened-by x y z e past (moves.begins m) down up now = absurd (not-up (CookieWait m.own) z.phase (ap (λ (w : End). w.phase) m.after) tt up)
opened-by x y z e past (moves.renews m) down up now = absurd (not-up (CookieWait m.own) z.phase (ap (λ (w : End). w.phase) m.after) tt up)
opened-by x y z e past (moves.answers_anew m) down up now = absurd (still-down x.phase z.phase (ap (λ (w : End). w.phase) m.after) up down)
opened-by x y z e past (moves.answers_by_try m) down up now = absurd (still-down x.phase z.phase (ap (λ (w : End). w.phase) m.after) up down)
opened-by x y z e past (moves.echoes m) down up now = absurd (not-up (CookieEchoed m.own m.answer.own) z.phase (ap (λ (w : End). w.phase) m.after) tt up)
opened-by x y z e past (moves.opens_by_cookie m) down up now =
    by_cookie m.cookie (in-from y.echoes m.cookie m.there) m.present m.may m.wanted (head-same (sym now ∙ ap (λ (w : End). w.epochs) m.after))
opened-by x y z e past (moves.opens_by_ack m) down up now =
    by_ack m.own m.far m.echoed (in-from y.cookie_acks m.own.tag m.there) (head-same (sym now ∙ ap (λ (w : End). w.epochs) m.after))
opened-by x y z e past (moves.sends_cookie_ack m) down up now = absurd (down m.up)
opened-by x y z e past (moves.finishes m) down up now = absurd (not-up Closed z.phase (ap (λ (w : End). w.phase) m.after) tt up)
opened-by x y z e past (moves.takes m) down up now = absurd (down m.up)
opened-by x y z e past (moves.sends_chunk m) down up now = absurd (down m.up)
opened-by x y z e past (moves.hears_chunk m) down up now = absurd (down m.up)
opened-by x y z e past (moves.hands_up m) down up now = absurd (down m.up)
opened-by x y z e past (moves.sends_ack m) down up now = absurd (down m.up)
opened-by x y z e past (moves.hears_ack m) down up now = absurd (down m.up)

-- ---- first

echoed-phase : (s : Phase) (n m : Name) → IsEchoed s n m → s ≡ CookieEchoed n m
echoed-phase Closed n m e = absurd e
echoed-phase (CookieWait own) n m e = absurd e
echoed-phase (CookieEchoed own far) n m e = ap (λ (k : Name). CookieEchoed k far) (sym e.0) ∙ ap (λ (k : Name). CookieEchoed n k) (sym e.1)
echoed-phase Established n m e = absurd e

pub down-phase : (s : Phase) → IsDown s → s ≢ Established
down-phase s d e = subst IsDown e d

-- a side that isn't up either tries nothing, or one thing
data Tries (s : Phase) : Type 0 where
  tries_none : ((n : Name) → IsTrying s n → ⊥) → Tries s
  tries_one : (n : Name) → IsTrying s n → ((k : Name) → IsTrying s k → k ≡ n) → Tries s

tries : (s : Phase) → Tries s
tries Closed = tries_none (λ n e. e)
tries (CookieWait own) = tries_one own refl (λ k e. e)
tries (CookieEchoed own far) = tries_one own refl (λ k e. e)
tries Established = tries_none (λ n e. e)

abbrev Waits : End → Name → Name → Type 0
Waits y own far = ((y.phase ≡ CookieEchoed own far) × (y.wanted ≡ true)) ⊎ ((name : Name) → IsTrying y.phase name → name.tag ≢ own.tag)

module _ (x y : End) (h : IsSound x y) (c : Cookie) (there : In c y.echoes) where
  echoed-waits : IsEchoed y.phase c.far c.own → Waits y c.far c.own
  echoed-waits e =
      inl (echoed-phase y.phase c.far c.own e, wanted-trying y.phase y.wanted c.far (echoed-trying y.phase c.far c.own e) h.sides.far.wanted)

  waits : Tries y.phase → Waits y c.far c.own
  waits (tries_none never) = inr (λ n e. absurd (never n e))
  waits (tries_one n e only) =
      ⊎_elim
      (λ (q : n.tag ≡ c.far.tag). same q (trying-cases y.phase n e))
      (λ (d : n.tag ≢ c.far.tag). inr (λ k f q. d (ap tag_of (sym (only k f)) ∙ q)))
      (cases_eq n.tag c.far.tag) where
        same : n.tag ≡ c.far.tag → IsWaiting y.phase n ⊎ ((m : Name) × IsEchoed y.phase n m) → Waits y c.far c.own
        same q (inl w) = absurd (h.sides.far.silent n w c there (sym q))
        same q (inr k) =
            let is : tying n k.0 ≡ tie_of c = h.sides.far.single (tying n k.0) (tie_of c) (h.sides.far.echoed n k.0 k.1).1 (inl (c, there, refl)) q in
            echoed-waits (subst (λ (u : Tie). IsEchoed y.phase u.own u.far) is k.1)

  finds : (e : Epoch) → e ≡ new_epoch c.own c.far → IsDown y.phase → Waits y c.far c.own → Awaits y e
  finds e is down w = record {
    down = down-phase y.phase down;
    cookie = c;
    echoed = contains-from y.echoes c there;
    own = ap (λ (k : Epoch). k.own) (sym is);
    far = ap (λ (k : Epoch). k.far) (sym is);
    waits = subst (λ (k : Epoch). Waits y k.far k.own) (sym is) w;
  }

echoed-down : (s : Phase) (n m : Name) → IsEchoed s n m → IsDown s
echoed-down Closed n m e = absurd e
echoed-down (CookieWait own) n m e = absurd e
echoed-down (CookieEchoed own far) n m e = tt
echoed-down Established n m e = absurd e

-- an epoch of y with the names of t, as y has them
same-one : (e f : Epoch) (t : Tie) → e ≡ new_epoch t.own t.far → tie f ≡ back t → AreOne e f
same-one e f t is q = record {
  there = ap (λ (k : Epoch). k.own.tag) is ∙ ap (λ (u : Tie). u.far.tag) (sym q);
  back = ap (λ (k : Epoch). k.far.tag) is ∙ ap (λ (u : Tie). u.own.tag) (sym q);
}

abbrev HasNone : End → Epoch → Type 0
HasNone y e = (f : Epoch) → Contains y.epochs f → AreOne e f → ⊥

no-tie : (y : End) (e : Epoch) (t : Tie) → e ≡ new_epoch t.own t.far → HasNone y e → In (back t) (map tie y.epochs) → ⊥
no-tie y e t is absent i =
    let f : (k : Epoch) × In k y.epochs × (tie k ≡ back t) = in-unmap tie y.epochs (back t) i in
    absent f.0 (contains-from y.epochs f.0 f.1) (same-one e f.0 t is f.2)

pub first-by : (x y : End) (e : Epoch) → IsSound x y → IsOpened x y e → HasNone y e → Awaits y e
first-by x y e h (by_ack own far echoed there is) absent =
    let g : AreSides (record (side_of x) { phase = CookieEchoed own far }) (side_of y) =
    subst (λ (s : Phase). AreSides (record (side_of x) { phase = s }) (side_of y)) echoed h.sides in
    absurd (no-tie y e (tying own far) is absent (tie-there (side_of x) (side_of y) own far g there))
first-by x y e h (by_cookie c there present may wanted is) absent = by (h.sides.awaited c there present may) where
  by : IsEchoed y.phase c.far c.own ⊎ (In (tie_of c) (map tie y.epochs) ⊎ IsShut (side_of y) (side_of x)) → Awaits y e
  by (inl k) = finds x y h c there e is (echoed-down y.phase c.far c.own k) (echoed-waits x y h c there k)
  by (inr (inl i)) = absurd (no-tie y e (tying c.own c.far) is absent i)
  by (inr (inr s)) = finds x y h c there e is s.0 (waits x y h c there (tries y.phase))

pub first-always : first_finds_other_waiting
first-always = always (λ p. (q : End) (e : Epoch) → Opens p q e → ((f : Epoch) → Contains p.far.epochs f → AreOne e f → ⊥) → Awaits p.far e)
    (λ p h q e m absent. first-by p.near p.far e h (opened-by p.near p.far q e m.past m.move m.down m.up m.now) absent)

-- ---- second

latest-is : (es : List Epoch) (f : Epoch) → AreApart (map tie es) → In f es → IsLatest (map tie es) (tie f) → slice_get es 0 ≡ Some f
latest-is [] f apart i l = absurd i
latest-is (g ∷ gs) f apart (inl e) l = ap (λ (k : Epoch). Some k) (sym e)
latest-is (g ∷ gs) f apart (inr i) l = absurd (apart.0 (tie f) (in-map tie gs f i) (ap (λ (t : Tie). t.own.tag) l))

enters : (x : Side) (y : End) (t : Tie) → IsOpening x (side_of y) t → IsSide (side_of y) x → (e f : Epoch) → e ≡ new_epoch t.own t.far →
    In f y.epochs → AreOne e f → slice_get y.epochs 0 ≡ Some f
enters x y t o hy e f is i one =
    let q : f.far.tag ≡ t.own.tag = sym one.there ∙ ap (λ (k : Epoch). k.own.tag) is in
    let same : back (tie f) ≡ t = o.joins (back (tie f)) (hy.bound (tie f) (in-map tie y.epochs f i)) q in
    let turned_same : tie f ≡ back t = ap back same in
    let l : IsLatest (map tie y.epochs) (back t) = o.second (subst (λ (u : Tie). In u (map tie y.epochs)) turned_same (in-map tie y.epochs f i)) in
    latest-is y.epochs f hy.apart i (subst (IsLatest (map tie y.epochs)) (sym turned_same) l)

pub second-by : (x y : End) (e f : Epoch) → IsSound x y → IsOpened x y e → In f y.epochs → AreOne e f → slice_get y.epochs 0 ≡ Some f
second-by x y e f h (by_cookie c there present may wanted is) i one =
    enters (side_of x) y (tying c.own c.far) (opening-cookie (side_of x) (side_of y) h.sides wanted c there present may) h.sides.far e f is i one
second-by x y e f h (by_ack own far echoed there is) i one =
    let g : AreSides (record (side_of x) { phase = CookieEchoed own far }) (side_of y) =
    subst (λ (s : Phase). AreSides (record (side_of x) { phase = s }) (side_of y)) echoed h.sides in
    enters (record (side_of x) { phase = CookieEchoed own far }) y (tying own far) (opening-ack (side_of x) (side_of y) own far g there) g.far e f is i one

pub second-always : second_enters_latest
second-always = always (λ p. (q : End) (e f : Epoch) → Opens p q e → Contains p.far.epochs f → AreOne e f → slice_get p.far.epochs 0 ≡ Some f)
    (λ p h q e f m i one. second-by p.near p.far e f h (opened-by p.near p.far q e m.past m.move m.down m.up m.now) (in-from p.far.epochs f i) one)

-- ---- order

in-order : (p : Ends) → IsSound p.near p.far → AreInOrder p
in-order p h i j k l e earlier f sooner a b c d one two less =
    h.sides.ordered i j k l (tie e) (tie earlier) (place-map tie p.near.epochs i e a) (place-map tie p.near.epochs j earlier b)
    (there i k e f a c one) (there j l earlier sooner b d two) less where
      there : (i k : ℕ) (e f : Epoch) → slice_get p.near.epochs i ≡ Some e → slice_get p.far.epochs k ≡ Some f → AreOne e f →
          slice_get (map tie p.far.epochs) k ≡ Some (back (tie e))
      there i k e f a c one =
          let is : back (tie e) ≡ tie f =
          one-own (side_of p.near) (side_of p.far) h.sides.near h.sides.far (tie e) (tie f) (in-map tie p.near.epochs e (in-place p.near.epochs i e a))
          (in-map tie p.far.epochs f (in-place p.far.epochs k f c)) one.there in
          place-map tie p.far.epochs k f c ∙ ap (λ (t : Tie). Some t) (sym is)

pub order-always : associations_come_in_order
order-always = always AreInOrder in-order
