-- An association opens: that keeps what holds of both sides.
use Rattle.std.proofs.Common.{◌≡◌, ◌≢◌, ◌⊎◌, inl, inr, ℕ, zero, suc, true, ◌<◌, List, [], ◌∷◌, slice_get, refl, ap, sym, ◌∙◌, subst, arith, Some}
use Rattle.sctp_moves.specs.Ends.{Name, Cookie, CookieEchoed, Established}
use Rattle.sctp_moves.specs.Moves.{IsTrying, MayOpen}
use Rattle.sctp_moves.proofs.Members.{In, in-place, some-same}
use Rattle.sctp_moves.proofs.Sides.{Tie, tying, back, tie_of, Side, IsWaiting, IsEchoed, IsUp, IsDown, up-down, trying-cases, echoed-trying, may-down, may-echoed}
use Rattle.sctp_moves.proofs.Sides.{IsBond, AreApart, IsLive, IsAnswer, IsLatest, IsShut, Follows, Awaited, Ordered, AreSides, IsMade, made, other-side, one-place}

-- what is known where a side opens an association with these names
pub record IsOpening (x y : Side) (t : Tie) : Type 0 where
  pub wanted : x.wanted ≡ true
  pub own : In t.own x.drawn
  pub far : In t.far y.drawn
  pub bound : IsBond y (back t)
  pub new : (u : Tie) → In u x.ties → u.own.tag ≢ t.own.tag
  pub joins : (u : Tie) → IsBond x u → u.own.tag ≡ t.own.tag → u ≡ t
  pub ready : IsShut x y → ⊥
  pub down : IsDown x.phase
  pub same : (n m : Name) → IsEchoed x.phase n m → t ≡ tying n m
  pub second : In (back t) y.ties → IsLatest y.ties (back t)

-- ---- the order of those that both have

latest-first : (us : List Tie) (t : Tie) → IsLatest us t → slice_get us 0 ≡ Some t
latest-first [] t l = absurd l
latest-first (u ∷ us) t l = ap (λ (v : Tie). Some v) (sym l)

ordered-new : (ts us : List Tie) (t : Tie) → AreApart us → ((u : Tie) → In u ts → u.own.tag ≢ t.own.tag) →
    (In (back t) us → IsLatest us (back t)) → Ordered ts us → Ordered (t ∷ ts) us
ordered-new ts us t apart new second old i zero k l u v ei ej ek el less = absurd (omega (arith, less))
ordered-new ts us t apart new second old (suc i) (suc j) k l u v ei ej ek el less = old i j k l u v ei ej ek el (omega (arith, less))
ordered-new ts us t apart new second old zero (suc j) k l u v ei ej ek el less =
    let is : t ≡ u = some-same ei in
    let first : slice_get us 0 ≡ Some (back t) =
    latest-first us (back t) (second (subst (λ (w : Tie). In (back w) us) (sym is) (in-place us k (back u) ek))) in
    let here : k ≡ 0 = one-place us apart k 0 (back u) (back t) ek first (ap (λ (w : Tie). w.far.tag) (sym is)) in
    by l el here where
      by : (l : ℕ) → slice_get us l ≡ Some (back v) → k ≡ 0 → k < l
      by (suc l) el here = omega (arith, here)
      by zero el here =
          let is : t ≡ u = some-same ei in
          let first : slice_get us 0 ≡ Some (back t) =
          latest-first us (back t) (second (subst (λ (w : Tie). In (back w) us) (sym is) (in-place us k (back u) ek))) in
          let both : back v ≡ back t = some-same (sym el ∙ first) in
          absurd (new v (in-place ts j v ej) (ap (λ (w : Tie). w.far.tag) both))

ordered-new_back : (us ts : List Tie) (t : Tie) → AreApart us → (In (back t) us → IsLatest us (back t)) → Ordered us ts → Ordered us (t ∷ ts)
ordered-new_back us ts t apart second old i j (suc k) (suc l) u v ei ej ek el less = omega (arith, old i j k l u v ei ej ek el less)
ordered-new_back us ts t apart second old i j zero (suc l) u v ei ej ek el less = omega arith
ordered-new_back us ts t apart second old i j zero zero u v ei ej ek el less =
    let is : u ≡ v = ap back (sym (some-same {X = Tie} ek) ∙ some-same {X = Tie} el) in
    absurd (omega (arith, less, one-place us apart i j u v ei ej (ap (λ (w : Tie). w.own.tag) is)))
ordered-new_back us ts t apart second old i j (suc k) zero u v ei ej ek el less =
    let is : back t ≡ v = ap back (some-same {X = Tie} el) in
    let first : slice_get us 0 ≡ Some v =
    subst (λ (w : Tie). slice_get us 0 ≡ Some w) is
    (latest-first us (back t) (second (subst (λ (w : Tie). In w us) (sym is) (in-place us j v ej)))) in
    absurd (omega (arith, less, one-place us apart j 0 v v ej first refl))

-- ---- the move

abbrev pub opened : Side → Tie → ℕ → Side
opened x t generation = record x { generation = generation; phase = Established; ties = t ∷ x.ties }

module _ (x y : Side) (h : AreSides x y) (t : Tie) (o : IsOpening x y t) (generation : ℕ) (later : x.generation < generation) where
  bond-case : (u : Tie) → IsBond (opened x t generation) u → (u ≡ t) ⊎ IsBond x u
  bond-case u (inl b) = inr (inl b)
  bond-case u (inr (inl e)) = inl e
  bond-case u (inr (inr i)) = inr (inr i)

  bond-more : (u : Tie) → IsBond x u → IsBond (opened x t generation) u
  bond-more u (inl b) = inl b
  bond-more u (inr i) = inr (inr i)

  single : (u v : Tie) → IsBond (opened x t generation) u → IsBond (opened x t generation) v → u.own.tag ≡ v.own.tag → u ≡ v
  single u v bu bv e = by (bond-case u bu) (bond-case v bv) where
    by : (u ≡ t) ⊎ IsBond x u → (v ≡ t) ⊎ IsBond x v → u ≡ v
    by (inl p) (inl q) = p ∙ sym q
    by (inl p) (inr old) = p ∙ sym (o.joins v old (sym e ∙ ap (λ (w : Tie). w.own.tag) p))
    by (inr old) (inl q) = o.joins u old (e ∙ ap (λ (w : Tie). w.own.tag) q) ∙ sym q
    by (inr i) (inr j) = h.near.single u v i j e

  of-tie : (P : Tie → Type 0) → P t → ((u : Tie) → In u x.ties → P u) → (u : Tie) → In u (t ∷ x.ties) → P u
  of-tie P here rest u (inl e) = subst P (sym e) here
  of-tie P here rest u (inr i) = rest u i

  cookie_acks : (k : ℕ) → In k x.cookie_acks → (u : Tie) × In u (t ∷ x.ties) × (u.far.tag ≡ k)
  cookie_acks k i = let r : (u : Tie) × In u x.ties × (u.far.tag ≡ k) = h.near.cookie_acks k i in (r.0, inr r.1, r.2)

  follows : Follows (opened x t generation) y
  follows n m e (inl i) = (i, inl tt)
  follows n m e (inr i) = by (h.follows n m e i).1 where
    by : IsUp x.phase ⊎ IsShut x y → IsLatest (t ∷ x.ties) (tying m n) × (Unit {0} ⊎ IsShut (opened x t generation) y)
    by (inl u) = absurd (up-down x.phase u o.down)
    by (inr s) = absurd (o.ready s)

  awaited_back : Awaited y (opened x t generation)
  awaited_back c i g may = by (h.awaited_back c i g may) where
    by : IsEchoed x.phase c.far c.own ⊎ (In (tie_of c) x.ties ⊎ IsShut x y) → ⊥ ⊎ (In (tie_of c) (t ∷ x.ties) ⊎ IsShut (opened x t generation) y)
    by (inl e) = inr (inl (inl (sym (o.same c.far c.own e))))
    by (inr (inl j)) = inr (inl (inr j))
    by (inr (inr s)) = absurd (o.ready s)

  pub keeps-opening : AreSides (opened x t generation) y
  keeps-opening = record {
    near = record {
      names = h.near.names;
      wanted = o.wanted;
      trying = λ n e. absurd e;
      alone = λ n e. absurd e;
      silent = λ n e. absurd e;
      echoed = λ n m e. absurd e;
      own = of-tie (λ (u : Tie). In u.own x.drawn) o.own h.near.own;
      known = of-tie (λ (u : Tie). In u.far y.drawn) o.far h.near.known;
      bound = of-tie (λ (u : Tie). IsBond y (back u)) o.bound h.near.bound;
      apart = (o.new, h.near.apart);
      inits = h.near.inits;
      answers = λ a i. let k : IsAnswer x.drawn y.drawn x.generation a = h.near.answers a i in
          record { to = k.to; own = k.own; drawn = k.drawn; far = k.far; made = omega (arith, k.made, later) };
      live = λ a i g. absurd (omega (arith, (h.near.answers a i).made, later, g));
      echoes = h.near.echoes;
      cookie_acks = cookie_acks;
      single = single;
    };
    far = other-side x y (opened x t generation) h.far (record { drawn = λ n i. i; answers = λ a i. i; bonds = bond-more });
    follows = follows;
    follows_back = λ n m e. absurd e;
    awaited = λ c i g may. absurd may;
    awaited_back = awaited_back;
    ordered = ordered-new x.ties y.ties t h.far.apart o.new o.second h.ordered;
    ordered_back = ordered-new_back y.ties x.ties t h.far.apart o.second h.ordered_back;
  }

-- ---- by a cookie

module _ (x y : Side) (h : AreSides x y) (wanted : x.wanted ≡ true) (c : Cookie) (there : In c y.echoes) (present : c.generation ≡ x.generation)
    (may : MayOpen x.phase c) where
  is-made : IsMade x y c
  is-made = made x y h.near h.far c there

  abbrev the-tie : Tie
  the-tie = tying c.own c.far

  same : (n m : Name) → IsEchoed x.phase n m → the-tie ≡ tying n m
  same n m e =
      let tags : (c.own.tag ≡ n.tag) × (c.far.tag ≡ m.tag) = may-echoed x.phase c n m may e in
      let own : c.own ≡ n = h.near.names c.own n is-made.own (h.near.trying n (echoed-trying x.phase n m e)) tags.0 in
      let far : c.far ≡ m = h.far.names c.far m is-made.far (h.near.echoed n m e).0 tags.1 in
      ap (λ (k : Name). tying k c.far) own ∙ ap (λ (k : Name). tying n k) far

  -- what was bound to the cookie's tag is what the try echoed
  echoed-bond : (u : Tie) → IsBond x u → u.own.tag ≡ c.own.tag → (n : Name) × (m : Name) × IsEchoed x.phase n m × (u ≡ tying n m)
  echoed-bond u b q = by (is-made.live present) where
    waits : (n : Name) → IsTrying x.phase n → n.tag ≡ c.own.tag → IsWaiting x.phase n → IsBond x u → ⊥
    waits n e t w (inl k) = h.near.silent n w k.0 k.1 (ap (λ (v : Tie). v.own.tag) k.2 ∙ q ∙ sym t)
    waits n e t w (inr i) = h.near.alone n e u i (q ∙ sym t)

    phase-case : (n : Name) → IsTrying x.phase n → n.tag ≡ c.own.tag → IsWaiting x.phase n ⊎ ((m : Name) × IsEchoed x.phase n m) →
        (n : Name) × (m : Name) × IsEchoed x.phase n m × (u ≡ tying n m)
    phase-case n e t (inl w) = absurd (waits n e t w b)
    phase-case n e t (inr k) = (n, k.0, k.1, h.near.single u (tying n k.0) b (h.near.echoed n k.0 k.1).1 (q ∙ sym t))

    by : IsLive x c.own.tag → (n : Name) × (m : Name) × IsEchoed x.phase n m × (u ≡ tying n m)
    by (inr none) = absurd (none u b q)
    by (inl t) = phase-case t.0 t.1 t.2 (trying-cases x.phase t.0 t.1)

  new : (u : Tie) → In u x.ties → u.own.tag ≢ c.own.tag
  new u i q = by (is-made.live present) where
    by : IsLive x c.own.tag → ⊥
    by (inr none) = none u (inr i) q
    by (inl t) = h.near.alone t.0 t.1 u i (q ∙ sym t.2)

  joins : (u : Tie) → IsBond x u → u.own.tag ≡ c.own.tag → u ≡ the-tie
  joins u b q = let r : (n : Name) × (m : Name) × IsEchoed x.phase n m × (u ≡ tying n m) = echoed-bond u b q in r.3 ∙ sym (same r.0 r.1 r.2)

  second : In (back the-tie) y.ties → IsLatest y.ties (back the-tie)
  second i =
      let r : (n : Name) × (m : Name) × IsEchoed x.phase n m × (the-tie ≡ tying n m) = echoed-bond the-tie (h.far.bound (back the-tie) i) refl in
      let e : tying r.1 r.0 ≡ back the-tie = ap back (sym r.3) in
      subst (IsLatest y.ties) e (h.follows_back r.0 r.1 r.2 (subst (λ (u : Tie). In u y.ties) (sym e) i)).0

  pub opening-cookie : IsOpening x y (tying c.own c.far)
  opening-cookie = record {
    wanted = wanted;
    own = is-made.own;
    far = is-made.far;
    bound = inl (c, there, refl);
    new = new;
    joins = joins;
    ready = λ s. omega (arith, s.1 c there, present);
    down = may-down x.phase c may;
    same = same;
    second = second;
  }

-- ---- by COOKIE ACK

abbrev pub echoed : Side → Name → Name → Side
echoed x own far = record x { phase = CookieEchoed own far }

module _ (x y : Side) (own far : Name) (h : AreSides (echoed x own far) y) (there : In own.tag y.cookie_acks) where
  the-bond : IsBond (echoed x own far) (tying own far)
  the-bond = (h.near.echoed own far (refl, refl)).1

  -- the other side has it already
  pub tie-there : In (tying far own) y.ties
  tie-there =
      let r : (u : Tie) × In u y.ties × (u.far.tag ≡ own.tag) = h.far.cookie_acks own.tag there in
      let e : back r.0 ≡ tying own far = h.near.single (back r.0) (tying own far) (h.far.bound r.0 r.1) the-bond r.2 in
      subst (λ (u : Tie). In u y.ties) (ap back e) r.1

  pub opening-ack : IsOpening (echoed x own far) y (tying own far)
  opening-ack = record {
    wanted = h.near.wanted;
    own = h.near.trying own refl;
    far = (h.near.echoed own far (refl, refl)).0;
    bound = inr tie-there;
    new = λ u i. h.near.alone own refl u i;
    joins = λ u b q. h.near.single u (tying own far) b the-bond q;
    ready = λ s. s.2 own refl (tying far own) tie-there refl;
    down = tt;
    same = λ n m e. ap (λ (k : Name). tying k far) (sym e.0) ∙ ap (λ (k : Name). tying n k) (sym e.1);
    second = λ i. (h.follows_back own far (refl, refl) tie-there).0;
  }
