-- A cookie is echoed: that keeps what holds of both sides.
use Rattle.std.proofs.Common.{◌≡◌, ◌≢◌, ◌⊎◌, inl, inr, ◌<◌, ◌≤◌, ◌∷◌, refl, ap, sym, ◌∙◌, subst, arith}
use Rattle.std.proofs.Math.Logic.{⊎_elim}
use Rattle.std.proofs.lemmas.Bool.{cases_eq, cases_lt}
use Rattle.sctp_moves.specs.Ends.{Name, Cookie, Answer, CookieWait, CookieEchoed}
use Rattle.sctp_moves.proofs.Members.{In}
use Rattle.sctp_moves.proofs.Sides.{Tie, tying, tie_of, Side, IsWaiting, IsEchoed, trying-cases}
use Rattle.sctp_moves.proofs.Sides.{IsBond, IsLive, IsAnswer, IsLatest, IsShut, Follows, Awaited, AreSides, tag_of, other-side}

-- the side that echoes, while it waits for INIT ACK
abbrev pub waiting : Side → Name → Side
waiting x own = record x { phase = CookieWait own }

abbrev pub echoing : Side → Name → Answer → Side
echoing x own a = record x { phase = CookieEchoed own a.own; echoes = a.cookie ∷ x.echoes }

-- names that are those of a cookie
same-tie : (c : Cookie) (own far : Name) → c.far ≡ own → c.own ≡ far → tie_of c ≡ tying own far
same-tie c own far e f = ap (λ (n : Name). tying n c.own) e ∙ ap (λ (n : Name). tying own n) f

module _ (x y : Side) (own : Name) (h : AreSides (waiting x own) y) (a : Answer) (there : In a y.answers) (to : a.to ≡ own.tag) where
  the-answer : IsAnswer y.drawn x.drawn y.generation a
  the-answer = h.far.answers a there

  far_is : a.cookie.far ≡ own
  far_is = h.near.names a.cookie.far own the-answer.far (h.near.trying own refl) (sym the-answer.to ∙ to)

  the-tie : tie_of a.cookie ≡ tying own a.own
  the-tie = same-tie a.cookie own a.own far_is (sym the-answer.own)

  -- nothing was bound to the try before
  unbound : (t : Tie) → IsBond (waiting x own) t → t.own.tag ≢ own.tag
  unbound t (inl b) q = h.near.silent own refl b.0 b.1 (ap (λ (u : Tie). u.own.tag) b.2 ∙ q)
  unbound t (inr i) q = h.near.alone own refl t i q

  bond-case : (t : Tie) → IsBond (echoing x own a) t → (t ≡ tying own a.own) ⊎ IsBond (waiting x own) t
  bond-case t (inr i) = inr (inr i)
  bond-case t (inl b) = by b.1 where
    by : In b.0 (a.cookie ∷ x.echoes) → (t ≡ tying own a.own) ⊎ IsBond (waiting x own) t
    by (inl e) = inl (sym b.2 ∙ ap tie_of e ∙ the-tie)
    by (inr i) = inr (inl (b.0, i, b.2))

  bond-more : (t : Tie) → IsBond (waiting x own) t → IsBond (echoing x own a) t
  bond-more t (inl b) = inl (b.0, inr b.1, b.2)
  bond-more t (inr i) = inr i

  echoed : (n m : Name) → (n ≡ own) × (m ≡ a.own) → In m y.drawn × IsBond (echoing x own a) (tying n m)
  echoed n m e = (
    subst (λ (k : Name). In k y.drawn) (sym (e.1 ∙ the-answer.own)) the-answer.drawn,
    inl (a.cookie, inl refl, same-tie a.cookie n m (far_is ∙ sym e.0) (sym (e.1 ∙ the-answer.own))),
  )

  live : (b : Answer) → In b x.answers → b.cookie.generation ≡ x.generation → IsLive (echoing x own a) b.cookie.own.tag
  live b i g = by (h.near.live b i g) where
    by : IsLive (waiting x own) b.cookie.own.tag → IsLive (echoing x own a) b.cookie.own.tag
    by (inl t) = inl t
    by (inr none) =
        ⊎_elim
        (λ (e : own.tag ≡ b.cookie.own.tag). inl (own, refl, e))
        (λ (d : own.tag ≢ b.cookie.own.tag). inr (apart d))
        (cases_eq own.tag b.cookie.own.tag) where
          apart : own.tag ≢ b.cookie.own.tag → (t : Tie) → IsBond (echoing x own a) t → t.own.tag ≢ b.cookie.own.tag
          apart d t bond q = case (bond-case t bond) where
            case : (t ≡ tying own a.own) ⊎ IsBond (waiting x own) t → ⊥
            case (inl e) = d (sym (ap (λ (u : Tie). u.own.tag) e) ∙ q)
            case (inr old) = none t old q

  echoes : (c : Cookie) → In c (a.cookie ∷ x.echoes) → (b : Answer) × In b y.answers × (b.cookie ≡ c)
  echoes c (inl e) = (a, there, sym e)
  echoes c (inr i) = h.near.echoes c i

  single : (t u : Tie) → IsBond (echoing x own a) t → IsBond (echoing x own a) u → t.own.tag ≡ u.own.tag → t ≡ u
  single t u bt bu e = by (bond-case t bt) (bond-case u bu) where
    by : (t ≡ tying own a.own) ⊎ IsBond (waiting x own) t → (u ≡ tying own a.own) ⊎ IsBond (waiting x own) u → t ≡ u
    by (inl p) (inl q) = p ∙ sym q
    by (inl p) (inr old) = absurd (unbound u old (sym e ∙ ap (λ (v : Tie). v.own.tag) p))
    by (inr old) (inl q) = absurd (unbound t old (e ∙ ap (λ (v : Tie). v.own.tag) q))
    by (inr i) (inr j) = h.near.single t u i j e

  -- a cookie of x that y echoed, for the peer that x now has, and that may still open
  still : (c : Cookie) → In c y.echoes → c.far.tag ≡ a.own.tag → IsShut y (waiting x own) → IsEchoed y.phase c.far c.own ⊎ IsShut y (echoing x own a)
  still c i q s =
      ⊎_elim
      (λ (older : a.cookie.generation < y.generation). inr (s.0, olds older, s.2))
      (λ (now : y.generation ≤ a.cookie.generation). inl (live-case (h.far.live a there (omega (arith, now, the-answer.made)))))
      (cases_lt a.cookie.generation y.generation) where
        olds : a.cookie.generation < y.generation → (d : Cookie) → In d (a.cookie ∷ x.echoes) → d.generation < y.generation
        olds older d (inl e) = subst (λ (k : Cookie). k.generation < y.generation) (sym e) older
        olds older d (inr j) = s.1 d j

        same : c.far.tag ≡ a.cookie.own.tag
        same = q ∙ ap tag_of the-answer.own

        live-case : IsLive y a.cookie.own.tag → IsEchoed y.phase c.far c.own
        live-case (inr none) = absurd (none (tie_of c) (inl (c, i, refl)) same)
        live-case (inl t) = phase-case (trying-cases y.phase t.0 t.1) where
          tags : t.0.tag ≡ c.far.tag
          tags = t.2 ∙ sym same

          phase-case : IsWaiting y.phase t.0 ⊎ ((m : Name) × IsEchoed y.phase t.0 m) → IsEchoed y.phase c.far c.own
          phase-case (inl w) = absurd (h.far.silent t.0 w c i (sym tags))
          phase-case (inr k) =
              let e : tying t.0 k.0 ≡ tie_of c = h.far.single (tying t.0 k.0) (tie_of c) (h.far.echoed t.0 k.0 k.1).1 (inl (c, i, refl)) tags in
              subst (λ (u : Tie). IsEchoed y.phase u.own u.far) e k.1

  awaited : Awaited (echoing x own a) y
  awaited c i g may = by (h.awaited c i g may.0) where
    by : IsEchoed y.phase c.far c.own ⊎ (In (tie_of c) y.ties ⊎ IsShut y (waiting x own)) →
        IsEchoed y.phase c.far c.own ⊎ (In (tie_of c) y.ties ⊎ IsShut y (echoing x own a))
    by (inl e) = inl e
    by (inr (inl t)) = inr (inl t)
    by (inr (inr s)) = last (still c i may.1 s) where
      last : IsEchoed y.phase c.far c.own ⊎ IsShut y (echoing x own a) →
          IsEchoed y.phase c.far c.own ⊎ (In (tie_of c) y.ties ⊎ IsShut y (echoing x own a))
      last (inl e) = inl e
      last (inr k) = inr (inr k)

  follows_back : Follows y (echoing x own a)
  follows_back n m e i = absurd (unbound (tying n m) (h.far.bound (tying m n) i) (ap tag_of e.0))

  awaited_back : Awaited y (echoing x own a)
  awaited_back c (inl e) g may = inl (ap (λ (k : Cookie). k.far) e ∙ far_is, ap (λ (k : Cookie). k.own) e ∙ sym the-answer.own)
  awaited_back c (inr i) g may = by (h.awaited_back c i g may) where
    by : ⊥ ⊎ (In (tie_of c) x.ties ⊎ IsShut (waiting x own) y) →
        IsEchoed (CookieEchoed own a.own) c.far c.own ⊎ (In (tie_of c) x.ties ⊎ IsShut (echoing x own a) y)
    by (inl e) = absurd e
    by (inr r) = inr r

  follows : Follows (echoing x own a) y
  follows n m e i = let f : IsLatest x.ties (tying m n) × (⊥ ⊎ IsShut (waiting x own) y) = h.follows n m e i in f

  pub keeps-echo : AreSides (echoing x own a) y
  keeps-echo = record {
    near = record {
      names = h.near.names;
      wanted = h.near.wanted;
      trying = h.near.trying;
      alone = h.near.alone;
      silent = λ n e. absurd e;
      echoed = echoed;
      own = h.near.own;
      known = h.near.known;
      bound = h.near.bound;
      apart = h.near.apart;
      inits = h.near.inits;
      answers = h.near.answers;
      live = live;
      echoes = echoes;
      cookie_acks = h.near.cookie_acks;
      single = single;
    };
    far = other-side (waiting x own) y (echoing x own a) h.far (record { drawn = λ n i. i; answers = λ b i. i; bonds = bond-more });
    follows = follows;
    follows_back = follows_back;
    awaited = awaited;
    awaited_back = awaited_back;
    ordered = h.ordered;
    ordered_back = h.ordered_back;
  }
