-- Moves by which no association opens and no cookie is echoed keep what holds of both sides.
use Rattle.std.proofs.Common.{◌≡◌, ◌≢◌, ◌⊎◌, inl, inr, ℕ, true, false, ◌<◌, ◌≤◌, List, ◌∷◌, refl, ap, sym, ◌∙◌, subst, arith}
use Rattle.sctp_moves.specs.Ends.{Name, Cookie, Answer, Closed, CookieWait}
use Rattle.sctp_moves.specs.Moves.{IsTrying, MayOpen}
use Rattle.sctp_moves.proofs.Members.{In, in-more}
use Rattle.sctp_moves.proofs.Sides.{Tie, tying, back, tie_of, Side, IsBond, IsEchoed, IsUp, IsDown, wanted-true, up-down, echoed-trying}
use Rattle.sctp_moves.proofs.Sides.{IsLive, IsAnswer, IsLatest, IsShut, Follows, Awaited, AreSides, tag_of, made, IsMore, other-side}

pub names-more : (drawn : List Name) (own : Name) → ((n : Name) → In n drawn → n.tag ≡ own.tag → n ≡ own) →
    ((n m : Name) → In n drawn → In m drawn → n.tag ≡ m.tag → n ≡ m) →
    (n m : Name) → In n (own ∷ drawn) → In m (own ∷ drawn) → n.tag ≡ m.tag → n ≡ m
names-more drawn own named old n m (inl i) (inl j) e = i ∙ sym j
names-more drawn own named old n m (inl i) (inr j) e = i ∙ sym (named m j (sym e ∙ ap tag_of i))
names-more drawn own named old n m (inr i) (inl j) e = named n i (e ∙ ap tag_of j) ∙ sym j
names-more drawn own named old n m (inr i) (inr j) e = old n m i j e

same-bonds : (x y : Side) → ((n : Name) → In n x.drawn → In n y.drawn) → ((a : Answer) → In a x.answers → In a y.answers) →
    y.echoes ≡ x.echoes → y.ties ≡ x.ties → IsMore x y
same-bonds x y drawn answers echoes ties = record {
  drawn = drawn;
  answers = answers;
  bonds = λ t b. subst (λ (cs : List Cookie). ((c : Cookie) × In c cs × (tie_of c ≡ t)) ⊎ In t y.ties) (sym echoes)
      (subst (λ (ts : List Tie). ((c : Cookie) × In c x.echoes × (tie_of c ≡ t)) ⊎ In t ts) (sym ties) b);
}

module _ (x y : Side) (h : AreSides x y) where
  -- ---- an association is wanted

  pub keeps-wants : AreSides (record x { wanted = true }) y
  keeps-wants = record {
    near = record {
      names = h.near.names;
      wanted = wanted-true x.phase;
      trying = h.near.trying;
      alone = h.near.alone;
      silent = h.near.silent;
      echoed = h.near.echoed;
      own = h.near.own;
      known = h.near.known;
      bound = h.near.bound;
      apart = h.near.apart;
      inits = h.near.inits;
      answers = h.near.answers;
      live = h.near.live;
      echoes = h.near.echoes;
      cookie_acks = h.near.cookie_acks;
      single = h.near.single;
    };
    far = other-side x y (record x { wanted = true }) h.far (same-bonds x (record x { wanted = true }) (λ n i. i) (λ a i. i) refl refl);
    follows = h.follows;
    follows_back = h.follows_back;
    awaited = h.awaited;
    awaited_back = h.awaited_back;
    ordered = h.ordered;
    ordered_back = h.ordered_back;
  }

  -- ---- COOKIE ACK goes out

  pub keeps-cookie_ack : (k : ℕ) → (t : Tie) × In t x.ties × (t.far.tag ≡ k) → AreSides (record x { cookie_acks = k ∷ x.cookie_acks }) y
  keeps-cookie_ack k of = record {
    near = record {
      names = h.near.names;
      wanted = h.near.wanted;
      trying = h.near.trying;
      alone = h.near.alone;
      silent = h.near.silent;
      echoed = h.near.echoed;
      own = h.near.own;
      known = h.near.known;
      bound = h.near.bound;
      apart = h.near.apart;
      inits = h.near.inits;
      answers = h.near.answers;
      live = h.near.live;
      echoes = h.near.echoes;
      cookie_acks = acks;
      single = h.near.single;
    };
    far = other-side x y (record x { cookie_acks = k ∷ x.cookie_acks }) h.far
        (same-bonds x (record x { cookie_acks = k ∷ x.cookie_acks }) (λ n i. i) (λ a i. i) refl refl);
    follows = h.follows;
    follows_back = h.follows_back;
    awaited = h.awaited;
    awaited_back = h.awaited_back;
    ordered = h.ordered;
    ordered_back = h.ordered_back;
  } where
    acks : (j : ℕ) → In j (k ∷ x.cookie_acks) → (t : Tie) × In t x.ties × (t.far.tag ≡ j)
    acks j (inl e) = (of.0, of.1, of.2 ∙ sym e)
    acks j (inr i) = h.near.cookie_acks j i

  -- ---- INIT is answered

  abbrev answered : List Name → Answer → Side
  answered drawn a = record x { drawn = drawn; answers = a ∷ x.answers }

  pub keeps-answer : (drawn : List Name) (a : Answer) →
      ((n m : Name) → In n drawn → In m drawn → n.tag ≡ m.tag → n ≡ m) → ((n : Name) → In n x.drawn → In n drawn) →
      IsAnswer drawn y.drawn x.generation a → IsLive x a.cookie.own.tag → AreSides (answered drawn a) y
  keeps-answer drawn a names more is live = record {
    near = record {
      names = names;
      wanted = h.near.wanted;
      trying = λ n e. more n (h.near.trying n e);
      alone = h.near.alone;
      silent = h.near.silent;
      echoed = h.near.echoed;
      own = λ t i. more t.own (h.near.own t i);
      known = h.near.known;
      bound = h.near.bound;
      apart = h.near.apart;
      inits = λ n i. more n (h.near.inits n i);
      answers = each;
      live = lives;
      echoes = h.near.echoes;
      cookie_acks = h.near.cookie_acks;
      single = h.near.single;
    };
    far = other-side x y (answered drawn a) h.far (same-bonds x (answered drawn a) more (λ b i. inr i) refl refl);
    follows = h.follows;
    follows_back = h.follows_back;
    awaited = h.awaited;
    awaited_back = h.awaited_back;
    ordered = h.ordered;
    ordered_back = h.ordered_back;
  } where
    each : (b : Answer) → In b (a ∷ x.answers) → IsAnswer drawn y.drawn x.generation b
    each b (inl e) = subst (IsAnswer drawn y.drawn x.generation) (sym e) is
    each b (inr i) =
        let k : IsAnswer x.drawn y.drawn x.generation b = h.near.answers b i in
        record { to = k.to; own = k.own; drawn = more b.cookie.own k.drawn; far = k.far; made = k.made }

    lives : (b : Answer) → In b (a ∷ x.answers) → b.cookie.generation ≡ x.generation → IsLive x b.cookie.own.tag
    lives b (inl e) g = subst (λ (c : Answer). IsLive x c.cookie.own.tag) (sym e) live
    lives b (inr i) g = h.near.live b i g

  -- ---- a try begins, or restarts

  module _ (own : Name) (generation : ℕ) (named : (n : Name) → In n x.drawn → n.tag ≡ own.tag → n ≡ own)
      (unbound : (t : Tie) → IsBond x t → t.own.tag ≢ own.tag) where
    abbrev begun : Side
    begun = record x { generation = generation; drawn = own ∷ x.drawn; phase = CookieWait own; inits = own ∷ x.inits }

    -- it is shut where the generation grows, and stays so anyway
    shut-later : x.generation < generation → IsShut begun y
    shut-later l = (
      tt,
      (λ c i. omega (arith, (made x y h.near h.far c i).old, l)),
      (λ n e u i q. unbound (back u) (h.far.bound u i) (q ∙ ap tag_of e)),
    )

    shut-still : x.generation ≤ generation → IsShut x y → IsShut begun y
    shut-still l s = (
      tt,
      (λ c i. omega (arith, s.1 c i, l)),
      (λ n e u i q. unbound (back u) (h.far.bound u i) (q ∙ ap tag_of e)),
    )

    -- what may open by a cookie of this generation then might have before
    pub keeps-try : x.generation ≤ generation → ((n : Name) → IsTrying x.phase n → x.generation < generation) →
        ((c : Cookie) → x.generation ≡ generation → MayOpen x.phase c) → IsDown x.phase → x.wanted ≡ true → AreSides begun y
    keeps-try le later might down wanted = record {
      near = record {
        names = names-more x.drawn own named h.near.names;
        wanted = wanted;
        trying = λ n e. inl e;
        alone = λ n e t i q. unbound t (inr i) (q ∙ ap tag_of e);
        silent = λ n e c i q. unbound (tie_of c) (inl (c, i, refl)) (q ∙ ap tag_of e);
        echoed = λ n m e. absurd e;
        own = λ t i. inr (h.near.own t i);
        known = h.near.known;
        bound = h.near.bound;
        apart = h.near.apart;
        inits = λ n. in-more n own x.inits x.drawn (h.near.inits n);
        answers = λ a i. let k : IsAnswer x.drawn y.drawn x.generation a = h.near.answers a i in
            record { to = k.to; own = k.own; drawn = inr k.drawn; far = k.far; made = omega (arith, k.made, le) };
        live = lives;
        echoes = h.near.echoes;
        cookie_acks = h.near.cookie_acks;
        single = h.near.single;
      };
      far = other-side x y begun h.far (same-bonds x begun (λ n i. inr i) (λ a i. i) refl refl);
      follows = follows;
      follows_back = λ n m e. absurd e;
      awaited = λ c i g may.
          let same : x.generation ≡ generation = omega (arith, (made x y h.near h.far c i).old, le, g) in
          h.awaited c i (g ∙ sym same) (might c same);
      awaited_back = waits;
      ordered = h.ordered;
      ordered_back = h.ordered_back;
    } where
      lives : (a : Answer) → In a x.answers → a.cookie.generation ≡ generation → IsLive begun a.cookie.own.tag
      lives a i g = by (h.near.live a i (omega (arith, (h.near.answers a i).made, le, g))) where
        by : IsLive x a.cookie.own.tag → IsLive begun a.cookie.own.tag
        by (inl t) = absurd (omega (arith, later t.0 t.1, (h.near.answers a i).made, g))
        by (inr none) = inr none

      follows : Follows begun y
      follows n m e i = let f : IsLatest x.ties (tying m n) × (IsUp x.phase ⊎ IsShut x y) = h.follows n m e i in (f.0, by f.1) where
        by : IsUp x.phase ⊎ IsShut x y → IsUp begun.phase ⊎ IsShut begun y
        by (inl u) = absurd (up-down x.phase u down)
        by (inr s) = inr (shut-still le s)

      waits : Awaited y begun
      waits c i g may = by (h.awaited_back c i g may) where
        by : IsEchoed x.phase c.far c.own ⊎ (In (tie_of c) x.ties ⊎ IsShut x y) → IsEchoed begun.phase c.far c.own ⊎ (In (tie_of c) x.ties ⊎ IsShut begun y)
        by (inl e) = inr (inr (shut-later (later c.far (echoed-trying x.phase c.far c.own e))))
        by (inr (inl t)) = inr (inl t)
        by (inr (inr s)) = inr (inr (shut-still le s))

  -- ---- an association, a try or a wish ends

  module _ (generation : ℕ) (l : x.generation < generation) where
    abbrev finished : Side
    finished = record x { generation = generation; wanted = false; phase = Closed }

    shut-finished : IsShut finished y
    shut-finished = (tt, (λ c i. omega (arith, (made x y h.near h.far c i).old, l)), (λ n e. absurd e))

    pub keeps-finish : AreSides finished y
    keeps-finish = record {
      near = record {
        names = h.near.names;
        wanted = tt;
        trying = λ n e. absurd e;
        alone = λ n e. absurd e;
        silent = λ n e. absurd e;
        echoed = λ n m e. absurd e;
        own = h.near.own;
        known = h.near.known;
        bound = h.near.bound;
        apart = h.near.apart;
        inits = h.near.inits;
        answers = λ a i. let k : IsAnswer x.drawn y.drawn x.generation a = h.near.answers a i in
            record { to = k.to; own = k.own; drawn = k.drawn; far = k.far; made = omega (arith, k.made, l) };
        live = λ a i g. absurd (omega (arith, (h.near.answers a i).made, l, g));
        echoes = h.near.echoes;
        cookie_acks = h.near.cookie_acks;
        single = h.near.single;
      };
      far = other-side x y finished h.far (same-bonds x finished (λ n i. i) (λ a i. i) refl refl);
      follows = λ n m e i. ((h.follows n m e i).0, inr shut-finished);
      follows_back = λ n m e. absurd e;
      awaited = λ c i g. absurd (omega (arith, (made x y h.near h.far c i).old, l, g));
      awaited_back = λ c i g may. inr (inr shut-finished);
      ordered = h.ordered;
      ordered_back = h.ordered_back;
    }
