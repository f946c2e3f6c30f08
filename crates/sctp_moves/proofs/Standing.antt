-- Which end opened an association last, and whether the other followed it; and from which cookies an end may open.
use Rattle.std.proofs.Common.{◌≡◌, ◌≢◌, ◌⊎◌, inl, inr, ◌<◌, ◌≤◌, ℕ, suc, arith, List, [], ◌∷◌, ◌++◌, length, map, slice_get, Some, refl, ap, sym, ◌∙◌, subst}
use Rattle.sctp_moves.specs.Ends.{Name, Cookie, Epoch, Phase, Closed, CookieWait, CookieEchoed, Established, End}
use Rattle.sctp_moves.specs.Moves as moves
use Rattle.sctp_moves.specs.Moves.{IsTrying, MayOpen, IsUnused, EndMove, EndMoves, last_end}
use Rattle.sctp_moves.specs.Theorems.{AreOne}
use Rattle.sctp_moves.specs.Openings.{Standing, Neither, Joined, NearAhead, FarAhead, IsCalm, IsQuietMove, IsQuiet}
use Rattle.sctp_moves.proofs.Members.{In, in-from, in-map, in-unmap}
use Rattle.sctp_moves.proofs.Sides.{Tie, tying, back, tie, tie_of, side_of, IsDown, IsEchoed, IsLive, IsShut, AreSides, made, one-far}
use Rattle.sctp_moves.proofs.Opened.{tie-there}
use Rattle.sctp_moves.proofs.Keeping.{IsSound, unbound, sound-move}
use Rattle.sctp_moves.proofs.Concluded.{IsOpened, by_cookie, by_ack, opened-by, first-by, second-by}
use Rattle.sctp_moves.proofs.Turns.{HasOne, HasNone, find-one, Turn, keeps, opens, turn, kept-long, opened-long, none-fewer}

-- the names of all associations of an end, the latest first
abbrev pub ties : End → List Tie
ties x = map tie x.epochs

-- no try of an end is named by an association of the other
abbrev pub IsFree : End → End → Type 0
IsFree x y = (n : Name) → IsTrying x.phase n → (u : Tie) → In u (ties y) → u.far.tag ≢ n.tag

-- the latest association of an end is none of the other
pub record IsAhead (x y : End) : Type 0 where
  pub latest : Tie
  pub past : List Tie
  pub now : ties x ≡ latest ∷ past
  pub alone : In (back latest) (ties y) → ⊥
  pub free : IsFree x y
  pub down : y.phase ≢ Established

-- the latest association is the same at both
pub record AreJoined (x y : End) : Type 0 where
  pub latest : Tie
  pub past : List Tie
  pub far_past : List Tie
  pub now : ties x ≡ latest ∷ past
  pub far_now : ties y ≡ back latest ∷ far_past
  pub free : IsFree x y
  pub free_back : IsFree y x

pub record AreNew (x y : End) : Type 0 where
  pub none : ties x ≡ []
  pub far_none : ties y ≡ []

abbrev pub Stands : Standing → End → End → Type 0
Stands Neither x y = AreNew x y
Stands Joined x y = AreJoined x y
Stands NearAhead x y = IsAhead x y
Stands FarAhead x y = IsAhead y x

abbrev pub other_way : Standing → Standing
other_way Neither = Neither
other_way Joined = Joined
other_way NearAhead = FarAhead
other_way FarAhead = NearAhead

pub turned-stands : (st : Standing) (x y : End) → Stands st x y → Stands (other_way st) y x
turned-stands Neither x y h = record { none = h.far_none; far_none = h.none }
turned-stands Joined x y h = record {
  latest = back h.latest;
  past = h.far_past;
  far_past = h.past;
  now = h.far_now;
  far_now = h.now;
  free = h.free_back;
  free_back = h.free;
}
turned-stands NearAhead x y h = h
turned-stands FarAhead x y h = h

-- a cookie that an end echoed may open an association at the other one, which the end doesn't have
pub record IsReady (x y : End) : Type 0 where
  pub cookie : Cookie
  pub echoed : In cookie x.echoes
  pub present : cookie.generation ≡ y.generation
  pub may : MayOpen y.phase cookie
  pub new : In (tie_of cookie) (ties x) → ⊥

-- ---- an end without a try, and moves that begin none from there

pub quiet-append : (x : End) (list more : List End) → IsQuiet x list → IsQuiet (last_end x list) more → IsQuiet x (list ++ more)
quiet-append x [] more q r = r
quiet-append x (z ∷ list) more q r = (q.0, quiet-append z list more q.1 r)

-- ---- a move without an opening

in-phase : (P : Phase → Type 0) (s r : Phase) → r ≡ s → P s → P r
in-phase P s r e h = subst P (sym e) h

module _ (x y z : End) (h : IsSound x y) where
  free-in : (s : Phase) → z.phase ≡ s → ((n : Name) → IsTrying s n → (u : Tie) → In u (ties y) → u.far.tag ≢ n.tag) → IsFree z y
  free-in s e f = λ n t u i. f n (subst (λ (p : Phase). IsTrying p n) e t) u i

  known : (own : Name) → IsUnused x own → (n : Name) → n ≡ own → (u : Tie) → In u (ties y) → u.far.tag ≢ n.tag
  known own unused n is u i q = unbound x y h own unused (back u) (h.sides.far.bound u i) (q ∙ ap (λ (k : Name). k.tag) is)

  pub free-kept : EndMove y x z → IsFree x y → IsFree z y
  free-kept (moves.wants m) f = free-in x.phase (ap (λ (w : End). w.phase) m.after) f
  free-kept (moves.begins m) f =
      free-in (CookieWait m.own) (ap (λ (w : End). w.phase) m.after) (known m.own m.unused)
  free-kept (moves.renews m) f =
      free-in (CookieWait m.own) (ap (λ (w : End). w.phase) m.after) (known m.own m.unused)
  free-kept (moves.answers_anew m) f = free-in x.phase (ap (λ (w : End). w.phase) m.after) f
  free-kept (moves.answers_by_try m) f = free-in x.phase (ap (λ (w : End). w.phase) m.after) f
  free-kept (moves.echoes m) f =
      free-in (CookieEchoed m.own m.answer.own) (ap (λ (w : End). w.phase) m.after)
      (λ n t u i. f n (subst (λ (p : Phase). IsTrying p n) (sym m.waits) t) u i)
  free-kept (moves.opens_by_cookie m) f = free-in Established (ap (λ (w : End). w.phase) m.after) (λ n t. absurd t)
  free-kept (moves.opens_by_ack m) f = free-in Established (ap (λ (w : End). w.phase) m.after) (λ n t. absurd t)
  free-kept (moves.sends_cookie_ack m) f = free-in x.phase (ap (λ (w : End). w.phase) m.after) f
  free-kept (moves.finishes m) f = free-in Closed (ap (λ (w : End). w.phase) m.after) (λ n t. absurd t)
  free-kept (moves.takes m) f = free-in x.phase (ap (λ (w : End). w.phase) m.after) f
  free-kept (moves.sends_chunk m) f = free-in x.phase (ap (λ (w : End). w.phase) m.after) f
  free-kept (moves.hears_chunk m) f = free-in x.phase (ap (λ (w : End). w.phase) m.after) f
  free-kept (moves.hands_up m) f = free-in x.phase (ap (λ (w : End). w.phase) m.after) f
  free-kept (moves.sends_ack m) f = free-in x.phase (ap (λ (w : End). w.phase) m.after) f
  free-kept (moves.hears_ack m) f = free-in x.phase (ap (λ (w : End). w.phase) m.after) f

  longer : (t : Tie) → ties z ≡ ties x → ties z ≡ t ∷ ties x → ⊥
  longer t k e =
      let q : length (ties x) ≡ suc (length (ties x)) = ap (λ (ts : List Tie). length ts) (sym k ∙ e) in
      omega (arith, q)

  abbrev Idle : Type 0
  Idle = (z.phase ≢ Established) × (z.epochs ≡ x.epochs)

  idle : (after : End) → z ≡ after → after.phase ≢ Established → after.epochs ≡ x.epochs → Idle
  idle after e d k = ((λ up. d (sym (ap (λ (w : End). w.phase) e) ∙ up)), ap (λ (w : End). w.epochs) e ∙ k)

  waits : (own : Name) → CookieWait own ≢ Established
  waits own e = cc

  echoes : (own far : Name) → CookieEchoed own far ≢ Established
  echoes own far e = cc

  closed : Closed ≢ Established
  closed e = cc

  -- an end without an association that opens none
  pub still-down : EndMove y x z → ties z ≡ ties x → x.phase ≢ Established → Idle
  still-down (moves.wants m) k d = idle _ m.after d refl
  still-down (moves.begins m) k d = idle _ m.after (waits m.own) refl
  still-down (moves.renews m) k d = idle _ m.after (waits m.own) refl
  still-down (moves.answers_anew m) k d = idle _ m.after d refl
  still-down (moves.answers_by_try m) k d = idle _ m.after d refl
  still-down (moves.echoes m) k d = idle _ m.after (echoes m.own m.answer.own) refl
  still-down (moves.opens_by_cookie m) k d = absurd (longer (tying m.cookie.own m.cookie.far) k (ap (λ (w : End). ties w) m.after))
  still-down (moves.opens_by_ack m) k d = absurd (longer (tying m.own m.far) k (ap (λ (w : End). ties w) m.after))
  still-down (moves.sends_cookie_ack m) k d = absurd (d m.up)
  still-down (moves.finishes m) k d = idle _ m.after closed refl
  still-down (moves.takes m) k d = absurd (d m.up)
  still-down (moves.sends_chunk m) k d = absurd (d m.up)
  still-down (moves.hears_chunk m) k d = absurd (d m.up)
  still-down (moves.hands_up m) k d = absurd (d m.up)
  still-down (moves.sends_ack m) k d = absurd (d m.up)
  still-down (moves.hears_ack m) k d = absurd (d m.up)

  pub stays-standing : (st : Standing) → EndMove y x z → ties z ≡ ties x → Stands st x y → Stands st z y
  stays-standing Neither m k s = record { none = k ∙ s.none; far_none = s.far_none }
  stays-standing Joined m k s = record {
    latest = s.latest;
    past = s.past;
    far_past = s.far_past;
    now = k ∙ s.now;
    far_now = s.far_now;
    free = free-kept m s.free;
    free_back = λ n t u i. s.free_back n t u (subst (In u) k i);
  }
  stays-standing NearAhead m k s = record {
    latest = s.latest;
    past = s.past;
    now = k ∙ s.now;
    alone = s.alone;
    free = free-kept m s.free;
    down = s.down;
  }
  stays-standing FarAhead m k s = record {
    latest = s.latest;
    past = s.past;
    now = s.now;
    alone = λ i. s.alone (subst (In (back s.latest)) k i);
    free = λ n t u i. s.free n t u (subst (In u) k i);
    down = (still-down m k s.down).0;
  }

-- ---- an opening

-- an end that opens an association second tries by its own tag
tries-it : (x y : End) (h : IsSound x y) (e f : Epoch) → IsOpened x y e → In f y.epochs → AreOne e f → (n : Name) × IsTrying x.phase n × (n.tag ≡ e.own.tag)
tries-it x y h e f (by_ack own far echoed there is) i one =
    (own, subst (λ (p : Phase). IsTrying p own) (sym echoed) refl, ap (λ (k : Epoch). k.own.tag) (sym is))
tries-it x y h e f (by_cookie c there present may wanted is) i one = by ((made (side_of x) (side_of y) h.sides.near h.sides.far c there).live present) where
  own-is : c.own.tag ≡ e.own.tag
  own-is = ap (λ (k : Epoch). k.own.tag) (sym is)

  by : IsLive (side_of x) c.own.tag → (n : Name) × IsTrying x.phase n × (n.tag ≡ e.own.tag)
  by (inl t) = (t.0, t.1, t.2 ∙ own-is)
  by (inr none) = absurd (none (back (tie f)) (h.sides.far.bound (tie f) (in-map tie y.epochs f i)) (sym one.there ∙ sym own-is))

no-epoch : (es : List Epoch) (f : Epoch) → map tie es ≡ [] → In f es → ⊥
no-epoch [] f e i = i
no-epoch (g ∷ es) f e i = absurd (cc)

same-head : {X : Type 0} (a b : X) (xs ys : List X) → a ∷ xs ≡ b ∷ ys → a ≡ b
same-head a b xs ys e = cc

head-at : (es : List Epoch) (f : Epoch) (t : Tie) (ts : List Tie) → slice_get es 0 ≡ Some f → map tie es ≡ t ∷ ts → tie f ≡ t
head-at [] f t ts e k = absurd (cc)
head-at (g ∷ es) f t ts e k = let a : Some g ≡ Some f = e in same-head (tie f) t (map tie es) ts (ap (λ (w : Epoch). tie w ∷ map tie es) (sym (some-is g f a)) ∙ k) where
  some-is : (g f : Epoch) → Some g ≡ Some f → g ≡ f
  some-is g f e = cc

pub data Opening (st : Standing) (x y z : End) : Type 0 where
  follows : st ≡ FarAhead → Stands Joined z y → Opening st x y z
  leads : Stands NearAhead z y → IsReady y x → Opening st x y z

module _ (x y z : End) (h : IsSound x y) (m : EndMove y x z) (e : Epoch) (down : x.phase ≢ Established) (up : z.phase ≡ Established)
    (now : z.epochs ≡ e ∷ x.epochs) where
  opened : IsOpened x y e
  opened = opened-by x y z e x.epochs m down up now

  ties-now : ties z ≡ tie e ∷ ties x
  ties-now = ap (map tie) now

  free-up : IsFree z y
  free-up n t = absurd (subst (λ (p : Phase). IsTrying p n) up t)

  not-free : (f : Epoch) → In f y.epochs → AreOne e f → IsFree x y → ⊥
  not-free f i one free =
      let t : (n : Name) × IsTrying x.phase n × (n.tag ≡ e.own.tag) = tries-it x y h e f opened i one in
      free t.0 t.1 (tie f) (in-map tie y.epochs f i) (sym one.there ∙ sym t.2)

  second : (f : Epoch) → In f y.epochs → AreOne e f → IsAhead y x → AreJoined z y
  second f i one s =
      let sound : IsSound z y = sound-move x y z m h in
      let first : tie f ≡ s.latest = head-at y.epochs f s.latest s.past (second-by x y e f h opened i one) s.now in
      let there : In (tie e) (ties z) = subst (In (tie e)) (sym ties-now) (inl refl) in
      let is : back (tie e) ≡ tie f =
      one-far (side_of z) (side_of y) sound.sides.near sound.sides.far (tie e) (tie f) there (in-map tie y.epochs f i) one.back in
      record {
        latest = tie e;
        past = ties x;
        far_past = s.past;
        now = ties-now;
        far_now = s.now ∙ ap (λ (t : Tie). t ∷ s.past) (sym first ∙ sym is);
        free = free-up;
        free_back = λ n t u j. by n t u (subst (In u) ties-now j);
      } where
        by : (n : Name) → IsTrying y.phase n → (u : Tie) → In u (tie e ∷ ties x) → u.far.tag ≢ n.tag
        by n t u (inr j) q = s.free n t u j q
        by n t u (inl same) q =
            h.sides.far.alone n t (tie f) (in-map tie y.epochs f i) (sym one.back ∙ ap (λ (w : Tie). w.far.tag) (sym same) ∙ q)

  alone : HasNone y.epochs e → In (back (tie e)) (ties y) → ⊥
  alone none i =
      let f : (k : Epoch) × In k y.epochs × (tie k ≡ back (tie e)) = in-unmap tie y.epochs (back (tie e)) i in
      none f.0 f.1 (record { there = ap (λ (t : Tie). t.far.tag) (sym f.2); back = ap (λ (t : Tie). t.own.tag) (sym f.2) })

  ready : HasNone y.epochs e → IsOpened x y e → IsReady y x
  ready none (by_ack own far echoed there is) =
      let g : AreSides (record (side_of x) { phase = CookieEchoed own far }) (side_of y) =
      subst (λ (s : Phase). AreSides (record (side_of x) { phase = s }) (side_of y)) echoed h.sides in
      absurd (alone none (subst (λ (k : Epoch). In (back (tie k)) (ties y)) (sym is) (tie-there (side_of x) (side_of y) own far g there)))
  ready none (by_cookie c there present may wanted is) = record {
    cookie = c;
    echoed = there;
    present = present;
    may = may;
    new = λ i. alone none (subst (λ (k : Epoch). In (back (tie k)) (ties y)) (sym is) i);
  }

  follow : (st : Standing) (f : Epoch) → In f y.epochs → AreOne e f → Stands st x y → Opening st x y z
  follow Neither f i one s = absurd (no-epoch y.epochs f s.far_none i)
  follow Joined f i one s = absurd (not-free f i one s.free)
  follow NearAhead f i one s = absurd (not-free f i one s.free)
  follow FarAhead f i one s = follows refl (second f i one s)

  pub opens-so : (st : Standing) → Stands st x y → Opening st x y z
  opens-so st s = by (find-one e y.epochs) where
    by : HasOne y.epochs e ⊎ HasNone y.epochs e → Opening st x y z
    by (inl one) = follow st one.0 one.1 one.2 s
    by (inr none) =
        leads (record {
          latest = tie e;
          past = ties x;
          now = ties-now;
          alone = alone none;
          free = free-up;
          down = (first-by x y e h opened (λ f c one. none f (in-from y.epochs f c) one)).down;
        }) (ready none opened)

-- ---- readiness

pub up-not-ready : (x y : End) → IsSound x y → x.phase ≡ Established → IsReady x y → ⊥
up-not-ready x y h up r = by (h.sides.awaited_back r.cookie r.echoed r.present r.may) where
  by : IsEchoed x.phase r.cookie.far r.cookie.own ⊎ (In (tie_of r.cookie) (ties x) ⊎ IsShut (side_of x) (side_of y)) → ⊥
  by (inl e) = subst (λ (s : Phase). IsEchoed s r.cookie.far r.cookie.own) up e
  by (inr (inl i)) = r.new i
  by (inr (inr s)) = subst IsDown up s.0

-- the other end moves: what may open then might have before
module _ (x y z : End) (h : IsSound x y) where
  old : (c : Cookie) → In c y.echoes → c.generation ≤ x.generation
  old c i = (made (side_of x) (side_of y) h.sides.near h.sides.far c i).old

  ready-alike : (s : Phase) (g : ℕ) → z.phase ≡ s → z.generation ≡ g → IsReady y z
      → ((c : Cookie) → In c y.echoes → c.generation ≡ g → MayOpen s c → (c.generation ≡ x.generation) × MayOpen x.phase c) → IsReady y x
  ready-alike s g e k r f =
      let q = f r.cookie r.echoed (r.present ∙ k) (subst (λ (p : Phase). MayOpen p r.cookie) e r.may) in
      record { cookie = r.cookie; echoed = r.echoed; present = q.0; may = q.1; new = r.new }

  ready-same : (after : End) → z ≡ after → after.phase ≡ x.phase → after.generation ≡ x.generation → IsReady y z → IsReady y x
  ready-same after e p g r = ready-alike x.phase x.generation (ap (λ (w : End). w.phase) e ∙ p) (ap (λ (w : End). w.generation) e ∙ g) r (λ c i q m. (q, m))

  later : (after : End) → z ≡ after → x.generation < after.generation → IsReady y z → IsReady y x
  later after e l r =
      let a : z.generation ≡ after.generation = ap (λ (w : End). w.generation) e in
      absurd (omega (arith, a, l, r.present, old r.cookie r.echoed))

  pub ready-before : EndMove y x z → IsReady y z → IsReady y x
  ready-before (moves.wants m) r = ready-same _ m.after refl refl r
  ready-before (moves.begins m) r =
      ready-alike (CookieWait m.own) m.generation (ap (λ (w : End). w.phase) m.after) (ap (λ (w : End). w.generation) m.after) r
      (λ c i q may. (omega (arith, q, m.later, old c i), subst (λ (p : Phase). MayOpen p c) (sym m.closed) tt))
  ready-before (moves.renews m) r = later _ m.after m.later r
  ready-before (moves.answers_anew m) r = ready-same _ m.after refl refl r
  ready-before (moves.answers_by_try m) r = ready-same _ m.after refl refl r
  ready-before (moves.echoes m) r =
      ready-alike (CookieEchoed m.own m.answer.own) x.generation (ap (λ (w : End). w.phase) m.after) (ap (λ (w : End). w.generation) m.after) r
      (λ c i q may. (q, subst (λ (p : Phase). MayOpen p c) (sym m.waits) may.0))
  ready-before (moves.opens_by_cookie m) r = later _ m.after m.later r
  ready-before (moves.opens_by_ack m) r = later _ m.after m.later r
  ready-before (moves.sends_cookie_ack m) r = ready-same _ m.after refl refl r
  ready-before (moves.finishes m) r = later _ m.after m.later r
  ready-before (moves.takes m) r = ready-same _ m.after refl refl r
  ready-before (moves.sends_chunk m) r = ready-same _ m.after refl refl r
  ready-before (moves.hears_chunk m) r = ready-same _ m.after refl refl r
  ready-before (moves.hands_up m) r = ready-same _ m.after refl refl r
  ready-before (moves.sends_ack m) r = ready-same _ m.after refl refl r
  ready-before (moves.hears_ack m) r = ready-same _ m.after refl refl r

pub ready-all-before : (x y : End) (list : List End) → IsSound x y → EndMoves y x list → IsReady y (last_end x list) → IsReady y x
ready-all-before x y [] h m r = r
ready-all-before x y (z ∷ rest) h m r = ready-before x y z h m.0 (ready-all-before z y rest (sound-move x y z m.0 h) m.1 r)

-- the end itself moves, and begins no try
ties-more : (x z : End) → Turn x z → (t : Tie) → In t (ties x) → In t (ties z)
ties-more x z (keeps k) t i = subst (In t) (sym k) i
ties-more x z (opens e down up now) t i = subst (In t) (ap (map tie) (sym now)) (inr i)

pub ready-quiet : (x y : End) (list : List End) → EndMoves y x list → IsQuiet x list → IsCalm x.phase → IsReady (last_end x list) y → IsReady x y
ready-quiet x y [] m q c r = r
ready-quiet x y (z ∷ rest) m q c r =
    let s : IsReady z y = ready-quiet z y rest m.1 q.1 (q.0 c).1 r in
    record {
      cookie = s.cookie;
      echoed = subst (In s.cookie) (q.0 c).0 s.echoed;
      present = s.present;
      may = s.may;
      new = λ i. s.new (ties-more x z (turn y x z m.0) (tie_of s.cookie) i);
    }

-- ---- lists of moves

contrary : (n m k : ℕ) → k ≡ suc n → k ≤ m → m ≡ n → ⊥
contrary n m k a b c = omega (arith, a, b, c)

abbrev StaysSo : Standing → (x y l : End) → Type 0
StaysSo st x y l = Stands st l y × (ties l ≡ ties x)

pub none-opens : (st : Standing) (x y : End) (list : List End) → IsSound x y → EndMoves y x list → length (last_end x list).epochs ≡ length x.epochs →
    Stands st x y → StaysSo st x y (last_end x list)
none-opens st x y [] h m l s = (s, refl)
none-opens st x y (z ∷ rest) h m l s =
    by (turn y x z m.0) (λ k t. none-opens st z y rest (sound-move x y z m.0 h) m.1 k t) where
      by : Turn x z → (length (last_end z rest).epochs ≡ length z.epochs → Stands st z y → StaysSo st z y (last_end z rest)) →
          StaysSo st x y (last_end z rest)
      by (keeps k) on =
          let r : StaysSo st z y (last_end z rest) = on (l ∙ sym (kept-long x z k)) (stays-standing x y z h st m.0 k s) in
          (r.0, r.1 ∙ k)
      by (opens e down up now) on =
          absurd (contrary (length x.epochs) (length (last_end z rest).epochs) (length z.epochs) (opened-long x z e now) (none-fewer y z rest m.1) l)

-- an end without an association, in a list of moves that opens none
pub none-opens-down : (x y : End) (list : List End) → IsSound x y → EndMoves y x list → length (last_end x list).epochs ≡ length x.epochs →
    x.phase ≢ Established → ((last_end x list).phase ≢ Established) × ((last_end x list).epochs ≡ x.epochs)
none-opens-down x y [] h m l d = (d, refl)
none-opens-down x y (z ∷ rest) h m l d =
    by (turn y x z m.0) (λ k t. none-opens-down z y rest (sound-move x y z m.0 h) m.1 k t) where
      by : Turn x z →
          (length (last_end z rest).epochs ≡ length z.epochs → z.phase ≢ Established →
          ((last_end z rest).phase ≢ Established) × ((last_end z rest).epochs ≡ z.epochs)) →
          ((last_end z rest).phase ≢ Established) × ((last_end z rest).epochs ≡ x.epochs)
      by (keeps k) on =
          let i = still-down x y z h m.0 k d in
          let r = on (l ∙ sym (kept-long x z k)) i.0 in
          (r.0, r.1 ∙ i.1)
      by (opens e down up now) on =
          absurd (contrary (length x.epochs) (length (last_end z rest).epochs) (length z.epochs) (opened-long x z e now) (none-fewer y z rest m.1) l)

calm-up : (s : Phase) → s ≡ Established → IsCalm s
calm-up s e = subst IsCalm (sym e) tt

pub record OneOpened (st : Standing) (x y l : End) (quiet : Type 0) : Type 0 where
  pub opening : Opening st x y l
  pub latest : Tie
  pub ties_now : ties l ≡ latest ∷ ties x
  pub spent : quiet → IsReady l y → ⊥

pub one-opens : (st : Standing) (x y : End) (list : List End) → IsSound x y → EndMoves y x list → length (last_end x list).epochs ≡ suc (length x.epochs) →
    Stands st x y → OneOpened st x y (last_end x list) (IsQuiet x list)
one-opens st x y [] h m l s = absurd (omega (arith, l))
one-opens st x y (z ∷ rest) h m l s =
    by (turn y x z m.0) (λ k t. one-opens st z y rest (sound-move x y z m.0 h) m.1 k t) where
      sound : IsSound z y
      sound = sound-move x y z m.0 h

      before : Opening st z y (last_end z rest) → Opening st x y (last_end z rest)
      before (follows e j) = follows e j
      before (leads j r) = leads j (ready-before x y z h m.0 r)

      later-on : ties z ≡ ties x → OneOpened st z y (last_end z rest) (IsQuiet z rest) →
          OneOpened st x y (last_end z rest) (IsQuietMove x z × IsQuiet z rest)
      later-on k o = record {
        opening = before o.opening;
        latest = o.latest;
        ties_now = o.ties_now ∙ ap (λ (ts : List Tie). o.latest ∷ ts) k;
        spent = λ q. o.spent q.1;
      }

      spent : z.phase ≡ Established → IsQuietMove x z × IsQuiet z rest → IsReady (last_end z rest) y → ⊥
      spent up q r = up-not-ready z y sound up (ready-quiet z y rest m.1 q.1 (calm-up z.phase up) r)

      here : (e : Epoch) → z.phase ≡ Established → z.epochs ≡ e ∷ x.epochs → Opening st x y z →
          OneOpened st x y (last_end z rest) (IsQuietMove x z × IsQuiet z rest)
      here e up now (follows is j) =
          let r : StaysSo Joined z y (last_end z rest) = none-opens Joined z y rest sound m.1 (l ∙ sym (opened-long x z e now)) j in
          record { opening = follows is r.0; latest = tie e; ties_now = r.1 ∙ ap (map tie) now; spent = spent up }
      here e up now (leads j ready) =
          let r : StaysSo NearAhead z y (last_end z rest) = none-opens NearAhead z y rest sound m.1 (l ∙ sym (opened-long x z e now)) j in
          record { opening = leads r.0 ready; latest = tie e; ties_now = r.1 ∙ ap (map tie) now; spent = spent up }

      by : Turn x z → (length (last_end z rest).epochs ≡ suc (length z.epochs) → Stands st z y → OneOpened st z y (last_end z rest) (IsQuiet z rest)) →
          OneOpened st x y (last_end z rest) (IsQuietMove x z × IsQuiet z rest)
      by (keeps k) on = later-on k (on (l ∙ ap suc (sym (kept-long x z k))) (stays-standing x y z h st m.0 k s))
      by (opens e down up now) on = here e up now (opens-so x y z h m.0 e down up now st s)
