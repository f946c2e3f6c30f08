-- What an end knows of tags: its side of the handshake, without messages. What holds of both sides, and
-- what follows of it.
use Rattle.std.proofs.Common.{◌≡◌, ◌≢◌, ◌⊎◌, inl, inr, ℕ, zero, suc, Bool, true, ◌<◌, ◌≤◌, List, [], ◌∷◌, map, slice_get, refl, ap, sym, ◌∙◌, subst, arith, Some}
use Rattle.std.proofs.lemmas.Grind.{common_steps}
use Rattle.sctp_moves.specs.Ends.{Name, Cookie, Answer, Epoch, Phase, Closed, CookieWait, CookieEchoed, Established, End}
use Rattle.sctp_moves.specs.Moves.{IsTrying, MayOpen}
use Rattle.sctp_moves.proofs.Members.{In, in-place, some-same}

-- both names of an association, as one end has them
pub record Tie : Type 0 where
  pub own : Name
  pub far : Name

abbrev pub tying : Name → Name → Tie
tying own far = record { own = own; far = far }

-- as the other end has them
abbrev pub back : Tie → Tie
back t = record { own = t.far; far = t.own }

abbrev pub tie : Epoch → Tie
tie e = record { own = e.own; far = e.far }

-- as the end has them that puts the cookie out in a COOKIE ECHO
abbrev pub tie_of : Cookie → Tie
tie_of c = record { own = c.far; far = c.own }

pub record Side : Type 0 where
  pub generation : ℕ
  pub wanted : Bool
  pub drawn : List Name
  pub phase : Phase
  pub ties : List Tie
  pub inits : List Name
  pub answers : List Answer
  pub echoes : List Cookie
  pub cookie_acks : List ℕ

abbrev pub side_of : End → Side
side_of p = record {
  generation = p.generation;
  wanted = p.wanted;
  drawn = p.drawn;
  phase = p.phase;
  ties = map tie p.epochs;
  inits = p.inits;
  answers = p.answers;
  echoes = p.echoes;
  cookie_acks = p.cookie_acks;
}

-- ---- phases

abbrev pub IsWaiting : Phase → Name → Type 0
IsWaiting Closed name = ⊥
IsWaiting (CookieWait own) name = name ≡ own
IsWaiting (CookieEchoed own far) name = ⊥
IsWaiting Established name = ⊥

abbrev pub IsEchoed : Phase → Name → Name → Type 0
IsEchoed Closed n m = ⊥
IsEchoed (CookieWait own) n m = ⊥
IsEchoed (CookieEchoed own far) n m = (n ≡ own) × (m ≡ far)
IsEchoed Established n m = ⊥

abbrev pub IsUp : Phase → Type 0
IsUp Closed = ⊥
IsUp (CookieWait own) = ⊥
IsUp (CookieEchoed own far) = ⊥
IsUp Established = Unit {0}

abbrev pub IsDown : Phase → Type 0
IsDown Closed = Unit {0}
IsDown (CookieWait own) = Unit {0}
IsDown (CookieEchoed own far) = Unit {0}
IsDown Established = ⊥

abbrev pub IsWanted : Phase → Bool → Type 0
IsWanted Closed b = Unit {0}
IsWanted (CookieWait own) b = b ≡ true
IsWanted (CookieEchoed own far) b = b ≡ true
IsWanted Established b = b ≡ true

pub wanted-true : (s : Phase) → IsWanted s true
wanted-true Closed = tt
wanted-true (CookieWait own) = refl
wanted-true (CookieEchoed own far) = refl
wanted-true Established = refl

pub wanted-trying : (s : Phase) (b : Bool) (n : Name) → IsTrying s n → IsWanted s b → b ≡ true
wanted-trying Closed b n e w = absurd e
wanted-trying (CookieWait own) b n e w = w
wanted-trying (CookieEchoed own far) b n e w = w
wanted-trying Established b n e w = absurd e

pub up-down : (s : Phase) → IsUp s → IsDown s → ⊥
up-down Closed u d = u
up-down (CookieWait own) u d = u
up-down (CookieEchoed own far) u d = u
up-down Established u d = d

pub trying-down : (s : Phase) (n : Name) → IsTrying s n → IsDown s
trying-down Closed n e = absurd e
trying-down (CookieWait own) n e = tt
trying-down (CookieEchoed own far) n e = tt
trying-down Established n e = absurd e

pub trying-cases : (s : Phase) (n : Name) → IsTrying s n → IsWaiting s n ⊎ ((m : Name) × IsEchoed s n m)
trying-cases Closed n e = absurd e
trying-cases (CookieWait own) n e = inl e
trying-cases (CookieEchoed own far) n e = inr (far, (e, refl))
trying-cases Established n e = absurd e

pub echoed-trying : (s : Phase) (n m : Name) → IsEchoed s n m → IsTrying s n
echoed-trying Closed n m e = absurd e
echoed-trying (CookieWait own) n m e = absurd e
echoed-trying (CookieEchoed own far) n m e = e.0
echoed-trying Established n m e = absurd e

pub may-down : (s : Phase) (c : Cookie) → MayOpen s c → IsDown s
may-down Closed c m = tt
may-down (CookieWait own) c m = tt
may-down (CookieEchoed own far) c m = tt
may-down Established c m = absurd m

pub may-echoed : (s : Phase) (c : Cookie) (n m : Name) → MayOpen s c → IsEchoed s n m → (c.own.tag ≡ n.tag) × (c.far.tag ≡ m.tag)
may-echoed Closed c n m o e = absurd e
may-echoed (CookieWait own) c n m o e = absurd e
may-echoed (CookieEchoed own far) c n m o e = (o.0 ∙ ap (λ (k : Name). k.tag) (sym e.0), o.1 ∙ ap (λ (k : Name). k.tag) (sym e.1))
may-echoed Established c n m o e = absurd e

-- ---- one side

-- it echoed a cookie with these names, or has an association with them
abbrev pub IsBond : Side → Tie → Type 0
IsBond x t = ((c : Cookie) × In c x.echoes × (tie_of c ≡ t)) ⊎ In t x.ties

abbrev pub AreApart : List Tie → Type 0
AreApart [] = Unit {0}
AreApart (t ∷ ts) = ((s : Tie) → In s ts → s.own.tag ≢ t.own.tag) × AreApart ts

-- a tag of cookies of the present generation is that of its try, or none of an association yet
abbrev pub IsLive : Side → ℕ → Type 0
IsLive x tag = ((n : Name) × IsTrying x.phase n × (n.tag ≡ tag)) ⊎ ((t : Tie) → IsBond x t → t.own.tag ≢ tag)

pub record IsAnswer (names others : List Name) (generation : ℕ) (a : Answer) : Type 0 where
  pub to : a.to ≡ a.cookie.far.tag
  pub own : a.own ≡ a.cookie.own
  pub drawn : In a.cookie.own names
  pub far : In a.cookie.far others
  pub made : a.cookie.generation ≤ generation

pub record IsSide (x y : Side) : Type 0 where
  pub names : (n m : Name) → In n x.drawn → In m x.drawn → n.tag ≡ m.tag → n ≡ m
  pub wanted : IsWanted x.phase x.wanted
  pub trying : (n : Name) → IsTrying x.phase n → In n x.drawn
  pub alone : (n : Name) → IsTrying x.phase n → (t : Tie) → In t x.ties → t.own.tag ≢ n.tag
  pub silent : (n : Name) → IsWaiting x.phase n → (c : Cookie) → In c x.echoes → c.far.tag ≢ n.tag
  pub echoed : (n m : Name) → IsEchoed x.phase n m → In m y.drawn × IsBond x (tying n m)
  pub own : (t : Tie) → In t x.ties → In t.own x.drawn
  pub known : (t : Tie) → In t x.ties → In t.far y.drawn
  pub bound : (t : Tie) → In t x.ties → IsBond y (back t)
  pub apart : AreApart x.ties
  pub inits : (n : Name) → In n x.inits → In n x.drawn
  pub answers : (a : Answer) → In a x.answers → IsAnswer x.drawn y.drawn x.generation a
  pub live : (a : Answer) → In a x.answers → a.cookie.generation ≡ x.generation → IsLive x a.cookie.own.tag
  pub echoes : (c : Cookie) → In c x.echoes → (a : Answer) × In a y.answers × (a.cookie ≡ c)
  pub cookie_acks : (k : ℕ) → In k x.cookie_acks → (t : Tie) × In t x.ties × (t.far.tag ≡ k)
  pub single : (t u : Tie) → IsBond x t → IsBond x u → t.own.tag ≡ u.own.tag → t ≡ u

-- ---- both sides

abbrev pub IsLatest : List Tie → Tie → Type 0
IsLatest [] t = ⊥
IsLatest (u ∷ us) t = t ≡ u

-- it opens nothing until the other side moves: no cookie of its present generation was echoed, and no
-- association of the other names its try
abbrev pub IsShut : Side → Side → Type 0
IsShut x y =
    IsDown x.phase
    × ((c : Cookie) → In c y.echoes → c.generation < x.generation)
    × ((n : Name) → IsTrying x.phase n → (u : Tie) → In u y.ties → u.far.tag ≢ n.tag)

-- where the other side waits for COOKIE ACK of an association that this one had, that is this one's
-- latest, and it opens no other before the other side moves
abbrev pub Follows : Side → Side → Type 0
Follows x y =
    (n m : Name) → IsEchoed y.phase n m → In (tying m n) x.ties → IsLatest x.ties (tying m n) × (IsUp x.phase ⊎ IsShut x y)

-- a cookie that may open was echoed by a side that waits for COOKIE ACK, that has the association
-- already, or that opens nothing before this one moves
abbrev pub Awaited : Side → Side → Type 0
Awaited x y =
    (c : Cookie) → In c y.echoes → c.generation ≡ x.generation → MayOpen x.phase c →
    IsEchoed y.phase c.far c.own ⊎ (In (tie_of c) y.ties ⊎ IsShut y x)

abbrev pub Ordered : List Tie → List Tie → Type 0
Ordered ts us =
    (i j k l : ℕ) (t s : Tie) →
    slice_get ts i ≡ Some t → slice_get ts j ≡ Some s → slice_get us k ≡ Some (back t) → slice_get us l ≡ Some (back s) → i < j → k < l

pub record AreSides (x y : Side) : Type 0 where
  pub near : IsSide x y
  pub far : IsSide y x
  pub follows : Follows x y
  pub follows_back : Follows y x
  pub awaited : Awaited x y
  pub awaited_back : Awaited y x
  pub ordered : Ordered x.ties y.ties
  pub ordered_back : Ordered y.ties x.ties

pub turned-sides : (x y : Side) → AreSides x y → AreSides y x
turned-sides x y h = record {
  near = h.far;
  far = h.near;
  follows = h.follows_back;
  follows_back = h.follows;
  awaited = h.awaited_back;
  awaited_back = h.awaited;
  ordered = h.ordered_back;
  ordered_back = h.ordered;
}

-- ---- what follows

abbrev pub tag_of : Name → ℕ
tag_of n = n.tag

-- a cookie that y echoed was made by x
pub record IsMade (x y : Side) (c : Cookie) : Type 0 where
  pub own : In c.own x.drawn
  pub far : In c.far y.drawn
  pub old : c.generation ≤ x.generation
  pub live : c.generation ≡ x.generation → IsLive x c.own.tag

pub made : (x y : Side) → IsSide x y → IsSide y x → (c : Cookie) → In c y.echoes → IsMade x y c
made x y hx hy c m =
    let e : (a : Answer) × In a x.answers × (a.cookie ≡ c) = hy.echoes c m in
    let k : IsAnswer x.drawn y.drawn x.generation e.0 = hx.answers e.0 e.1 in
    subst (IsMade x y) e.2 (record { own = k.drawn; far = k.far; old = k.made; live = hx.live e.0 e.1 })

-- y knows no less of x than before
pub record IsMore (x z : Side) : Type 0 where
  pub drawn : (n : Name) → In n x.drawn → In n z.drawn
  pub answers : (a : Answer) → In a x.answers → In a z.answers
  pub bonds : (t : Tie) → IsBond x t → IsBond z t

pub other-side : (x y z : Side) → IsSide y x → IsMore x z → IsSide y z
other-side x y z h m = record {
  names = h.names;
  wanted = h.wanted;
  trying = h.trying;
  alone = h.alone;
  silent = h.silent;
  echoed = λ n k e. (m.drawn k (h.echoed n k e).0, (h.echoed n k e).1);
  own = h.own;
  known = λ t i. m.drawn t.far (h.known t i);
  bound = λ t i. m.bonds (back t) (h.bound t i);
  apart = h.apart;
  inits = h.inits;
  answers = λ a i. let k : IsAnswer y.drawn x.drawn y.generation a = h.answers a i in
      record { to = k.to; own = k.own; drawn = k.drawn; far = m.drawn a.cookie.far k.far; made = k.made };
  live = h.live;
  echoes = λ c i. let e : (a : Answer) × In a x.answers × (a.cookie ≡ c) = h.echoes c i in (e.0, m.answers e.0 e.1, e.2);
  cookie_acks = h.cookie_acks;
  single = h.single;
}

-- two associations with a tag in common are one
pub one-far : (x y : Side) → IsSide x y → IsSide y x → (t u : Tie) → In t x.ties → In u y.ties → t.far.tag ≡ u.own.tag → back t ≡ u
one-far x y hx hy t u i j e = hy.single (back t) u (hx.bound t i) (inr j) e

pub one-own : (x y : Side) → IsSide x y → IsSide y x → (t u : Tie) → In t x.ties → In u y.ties → t.own.tag ≡ u.far.tag → back t ≡ u
one-own x y hx hy t u i j e = ap back (sym (hx.single (back u) t (hy.bound u j) (inr i) (sym e)))

pub same-far : (x y : Side) → IsSide x y → IsSide y x → (t u : Tie) → In t x.ties → In u x.ties → t.far.tag ≡ u.far.tag → t ≡ u
same-far x y hx hy t u i j e = ap back (hy.single (back t) (back u) (hx.bound t i) (hx.bound u j) e)

pub one-place : (ts : List Tie) → AreApart ts → (i j : ℕ) (t s : Tie) → slice_get ts i ≡ Some t → slice_get ts j ≡ Some s → t.own.tag ≡ s.own.tag → i ≡ j
one-place [] h i j t s e f g = absurd (grind (arith, common_steps))
one-place (u ∷ us) h zero zero t s e f g = refl
one-place (u ∷ us) h zero (suc j) t s e f g =
    absurd (h.0 s (in-place us j s f) (sym g ∙ ap (λ (v : Tie). v.own.tag) (sym (some-same e))))
one-place (u ∷ us) h (suc i) zero t s e f g =
    absurd (h.0 t (in-place us i t e) (g ∙ ap (λ (v : Tie). v.own.tag) (sym (some-same f))))
one-place (u ∷ us) h (suc i) (suc j) t s e f g = ap suc (one-place us h.1 i j t s e f g)
