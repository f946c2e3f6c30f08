-- Moves of one end that open an association, and what the other end is in then.
use Rattle.std.proofs.Common.{◌≡◌, ◌≢◌, ◌⊎◌, inl, inr, ◌<◌, ◌≤◌, ℕ, suc, arith, true, List, [], ◌∷◌, length, map, slice_get, Some, refl, ap, sym, ◌∙◌, subst}
use Rattle.std.proofs.Math.Logic.{⊎_elim}
use Rattle.std.proofs.lemmas.Bool.{cases_lt, cases_eq}
use Rattle.sctp_moves.specs.Ends.{Name, Epoch, new_epoch, Phase, CookieWait, CookieEchoed, Established, End}
use Rattle.sctp_moves.specs.Moves as moves
use Rattle.sctp_moves.specs.Moves.{IsTrying, EndMove, EndMoves, last_end}
use Rattle.sctp_moves.specs.Theorems.{AreOne, Awaits}
use Rattle.sctp_moves.proofs.Members.{In, in-from, in-map}
use Rattle.sctp_moves.proofs.Sides.{Tie, tie, may-down}
use Rattle.sctp_moves.proofs.Keeping.{IsSound, sound-move}
use Rattle.sctp_moves.proofs.Concluded.{IsOpened, opened-by, down-phase, first-by, second-by}

-- ---- the other end, where an association opens

-- what y is in where another end opens an association: in the same one, or in none; and where it tries by the tag of
-- that one, it waits for its COOKIE ACK
pub record Meets (y : End) (e : Epoch) : Type 0 where
  pub latest : (f : Epoch) (past : List Epoch) → y.phase ≡ Established → y.epochs ≡ f ∷ past → AreOne e f
  pub echoing : (own far : Name) → y.phase ≡ CookieEchoed own far → own.tag ≡ e.far.tag → far.tag ≡ e.own.tag
  pub waiting : (own : Name) → y.phase ≡ CookieWait own → own.tag ≢ e.far.tag

abbrev pub HasOne : List Epoch → Epoch → Type 0
HasOne es e = (f : Epoch) × In f es × AreOne e f

abbrev pub HasNone : List Epoch → Epoch → Type 0
HasNone es e = (f : Epoch) → In f es → AreOne e f → ⊥

pub find-one : (e : Epoch) (es : List Epoch) → HasOne es e ⊎ HasNone es e
find-one e [] = inr (λ f i one. i)
find-one e (g ∷ es) = by (find-one e es) where
  by : HasOne es e ⊎ HasNone es e → HasOne (g ∷ es) e ⊎ HasNone (g ∷ es) e
  by (inl one) = inl (one.0, inr one.1, one.2)
  by (inr none) = ⊎_elim (λ (a : e.own.tag ≡ g.far.tag). ⊎_elim (λ (b : e.far.tag ≡ g.own.tag). inl (g, inl refl, record { there = a; back = b }))
      (λ (b : e.far.tag ≢ g.own.tag). inr (but-not (λ one. b one.back))) (cases_eq e.far.tag g.own.tag))
      (λ (a : e.own.tag ≢ g.far.tag). inr (but-not (λ one. a one.there))) (cases_eq e.own.tag g.far.tag) where
        but-not : (AreOne e g → ⊥) → HasNone (g ∷ es) e
        but-not other f (inl is) one = other (subst (AreOne e) is one)
        but-not other f (inr i) one = none f i one

echoed-far : (own far m n : Name) → CookieEchoed own far ≡ CookieEchoed m n → far ≡ n
echoed-far own far m n e = cc

echoed-tries : (s : Phase) (own far : Name) → s ≡ CookieEchoed own far → IsTrying s own
echoed-tries s own far e = subst (λ (p : Phase). IsTrying p own) (sym e) refl

waiting-tries : (s : Phase) (own : Name) → s ≡ CookieWait own → IsTrying s own
waiting-tries s own e = subst (λ (p : Phase). IsTrying p own) (sym e) refl

not-both : (own m n : Name) → CookieWait own ≡ CookieEchoed m n → ⊥
not-both own m n e = absurd (cc)

some-is : (f g : Epoch) → Some f ≡ Some g → f ≡ g
some-is f g e = cc

abbrev AwaitsOf : End → Epoch → Type 0
AwaitsOf y e = ((y.phase ≡ CookieEchoed e.far e.own) × (y.wanted ≡ true)) ⊎ ((name : Name) → IsTrying y.phase name → name.tag ≢ e.far.tag)

meets-first : (y : End) (e : Epoch) → Awaits y e → Meets y e
meets-first y e a = record {
  latest = λ f past up now. absurd (a.down up);
  echoing = λ own far q t. echoes own far q t a.waits;
  waiting = λ own q t. waits own q t a.waits;
} where
  echoes : (own far : Name) → y.phase ≡ CookieEchoed own far → own.tag ≡ e.far.tag → AwaitsOf y e → far.tag ≡ e.own.tag
  echoes own far q t (inl w) = ap (λ (n : Name). n.tag) (echoed-far own far e.far e.own (sym q ∙ w.0))
  echoes own far q t (inr never) = absurd (never own (echoed-tries y.phase own far q) t)

  waits : (own : Name) → y.phase ≡ CookieWait own → own.tag ≡ e.far.tag → AwaitsOf y e → ⊥
  waits own q t (inl w) = not-both own e.far e.own (sym q ∙ w.0)
  waits own q t (inr never) = never own (waiting-tries y.phase own q) t

meets-second : (x y : End) (e f : Epoch) → IsSound x y → In f y.epochs → AreOne e f → slice_get y.epochs 0 ≡ Some f → Meets y e
meets-second x y e f h i one first = record {
  latest = λ g past up now.
      let there : Some g ≡ Some f = ap (λ (es : List Epoch). slice_get es 0) (sym now) ∙ first in
      subst (AreOne e) (sym (some-is g f there)) one;
  echoing = λ own far q t. absurd (alone own (echoed-tries y.phase own far q) t);
  waiting = λ own q t. alone own (waiting-tries y.phase own q) t;
} where
  alone : (own : Name) → IsTrying y.phase own → own.tag ≡ e.far.tag → ⊥
  alone own tries t = h.sides.far.alone own tries (tie f) (in-map tie y.epochs f i) (sym one.back ∙ sym t)

meets : (x y z : End) (e : Epoch) (past : List Epoch) → IsSound x y → EndMove y x z → x.phase ≢ Established → z.phase ≡ Established →
    z.epochs ≡ e ∷ past → Meets y e
meets x y z e past h m down up now = by (find-one e y.epochs) where
  opened : IsOpened x y e
  opened = opened-by x y z e past m down up now

  by : HasOne y.epochs e ⊎ HasNone y.epochs e → Meets y e
  by (inl one) = meets-second x y e one.0 h one.1 one.2 (second-by x y e one.0 h opened one.1 one.2)
  by (inr none) = meets-first y e (first-by x y e h opened (λ f c one. none f (in-from y.epochs f c) one))

-- ---- a move opens an association, or the names of all stay

pub data Turn (p q : End) : Type 0 where
  keeps : map tie q.epochs ≡ map tie p.epochs → Turn p q
  opens : (e : Epoch) → p.phase ≢ Established → q.phase ≡ Established → q.epochs ≡ e ∷ p.epochs → Turn p q

same-ties : (p q after : End) → q ≡ after → map tie after.epochs ≡ map tie p.epochs → Turn p q
same-ties p q after e t = keeps (ap (λ (w : End). map tie w.epochs) e ∙ t)

echoed-down : (s : Phase) (own far : Name) → s ≡ CookieEchoed own far → s ≢ Established
echoed-down s own far e up = let x : CookieEchoed own far ≡ Established = sym e ∙ up in absurd (cc)

pub turn : (y p q : End) → EndMove y p q → Turn p q
turn y p q (moves.wants m) = same-ties p q _ m.after refl
turn y p q (moves.begins m) = same-ties p q _ m.after refl
turn y p q (moves.renews m) = same-ties p q _ m.after refl
turn y p q (moves.answers_anew m) = same-ties p q _ m.after refl
turn y p q (moves.answers_by_try m) = same-ties p q _ m.after refl
turn y p q (moves.echoes m) = same-ties p q _ m.after refl
turn y p q (moves.opens_by_cookie m) =
    opens (new_epoch m.cookie.own m.cookie.far) (down-phase p.phase (may-down p.phase m.cookie m.may)) (ap (λ (w : End). w.phase) m.after)
    (ap (λ (w : End). w.epochs) m.after)
turn y p q (moves.opens_by_ack m) =
    opens (new_epoch m.own m.far) (echoed-down p.phase m.own m.far m.echoed) (ap (λ (w : End). w.phase) m.after) (ap (λ (w : End). w.epochs) m.after)
turn y p q (moves.sends_cookie_ack m) = same-ties p q _ m.after refl
turn y p q (moves.finishes m) = same-ties p q _ m.after refl
turn y p q (moves.takes m) = same-ties p q _ m.after (ap (map tie) (sym m.now))
turn y p q (moves.sends_chunk m) = same-ties p q _ m.after refl
turn y p q (moves.hears_chunk m) = same-ties p q _ m.after (ap (map tie) (sym m.now))
turn y p q (moves.hands_up m) = same-ties p q _ m.after (ap (map tie) (sym m.now))
turn y p q (moves.sends_ack m) = same-ties p q _ m.after refl
turn y p q (moves.hears_ack m) = same-ties p q _ m.after (ap (map tie) (sym m.now))

-- ---- how many associations there were

ties-long : (es : List Epoch) → length (map tie es) ≡ length es
ties-long [] = refl
ties-long (e ∷ es) = ap suc (ties-long es)

pub kept-long : (p q : End) → map tie q.epochs ≡ map tie p.epochs → length q.epochs ≡ length p.epochs
kept-long p q e = sym (ties-long q.epochs) ∙ ap (λ (ts : List Tie). length ts) e ∙ ties-long p.epochs

pub opened-long : (p q : End) (e : Epoch) → q.epochs ≡ e ∷ p.epochs → length q.epochs ≡ suc (length p.epochs)
opened-long p q e now = ap (λ (es : List Epoch). length es) now

never-fewer : (y p q : End) → EndMove y p q → length p.epochs ≤ length q.epochs
never-fewer y p q m = by (turn y p q m) where
  by : Turn p q → length p.epochs ≤ length q.epochs
  by (keeps k) = omega (arith, kept-long p q k)
  by (opens e down up now) = omega (arith, opened-long p q e now)

pub none-fewer : (y p : End) (list : List End) → EndMoves y p list → length p.epochs ≤ length (last_end p list).epochs
none-fewer y p [] m = omega arith
none-fewer y p (q ∷ rest) m =
    let a : length p.epochs ≤ length q.epochs = never-fewer y p q m.0 in
    let b : length q.epochs ≤ length (last_end q rest).epochs = none-fewer y q rest m.1 in
    omega (arith, a, b)

contrary : (n m k : ℕ) → n < m → m ≤ k → k ≡ n → ⊥
contrary n m k a b c = omega (arith, a, b, c)

beyond : (n m k : ℕ) → k ≡ suc n → k ≤ m → m ≤ n → ⊥
beyond n m k a b c = omega (arith, a, b, c)

-- where no association opens, the names of all stay
all-stay : (y p : End) (list : List End) → EndMoves y p list → length (last_end p list).epochs ≤ length p.epochs →
    map tie (last_end p list).epochs ≡ map tie p.epochs
all-stay y p [] m l = refl
all-stay y p (q ∷ rest) m l = by (λ few. all-stay y q rest m.1 few) (turn y p q m.0) where
  by : (length (last_end q rest).epochs ≤ length q.epochs → map tie (last_end q rest).epochs ≡ map tie q.epochs) → Turn p q →
      map tie (last_end q rest).epochs ≡ map tie p.epochs
  by stays (keeps k) = stays (omega (arith, l, kept-long p q k)) ∙ k
  by stays (opens e down up now) =
      absurd (beyond (length p.epochs) (length (last_end q rest).epochs) (length q.epochs) (opened-long p q e now) (none-fewer y q rest m.1) l)

-- the last association that opens in a list of moves
pub record LastOpened (y f : End) : Type 0 where
  pub epoch : Epoch
  pub meets : Meets y epoch
  pub past : List Tie
  pub latest : map tie f.epochs ≡ tie epoch ∷ past

pub last-opened : (x y : End) (list : List End) → EndMoves y x list → IsSound x y → length x.epochs < length (last_end x list).epochs →
    LastOpened y (last_end x list)
last-opened x y [] m h l = absurd (contrary (length x.epochs) (length x.epochs) (length x.epochs) l (omega arith) refl)
last-opened x y (z ∷ rest) m h l =
    ⊎_elim (λ (further : length z.epochs < length (last_end z rest).epochs). last-opened z y rest m.1 (sound-move x y z m.0 h) further)
    (λ (still : length (last_end z rest).epochs ≤ length z.epochs). by still (turn y x z m.0))
    (cases_lt (length z.epochs) (length (last_end z rest).epochs)) where
      by : length (last_end z rest).epochs ≤ length z.epochs → Turn x z → LastOpened y (last_end z rest)
      by still (keeps k) =
          absurd (contrary (length x.epochs) (length (last_end z rest).epochs) (length z.epochs) l still (kept-long x z k))
      by still (opens e down up now) = record {
        epoch = e;
        meets = meets x y z e x.epochs h m.0 down up now;
        past = map tie x.epochs;
        latest = all-stay y z rest m.1 still ∙ ap (map tie) now;
      }
