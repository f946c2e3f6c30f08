-- Every list of moves keeps what holds of two ends.
use Rattle.std.proofs.Common.{◌≡◌, ◌≢◌, inl, inr, ℕ, List, [], ◌∷◌, slice_get, refl, ap, sym, ◌∙◌, subst, arith, Some}
use Rattle.std.proofs.lemmas.Grind.{common_steps}
use Rattle.sctp_moves.specs.Ends.{Name, Cookie, Epoch, Phase, CookieWait, CookieEchoed, End, new_end, Ends, new_ends}
use Rattle.sctp_moves.specs.Moves as moves
use Rattle.sctp_moves.specs.Moves.{IsTrying, MayOpen, IsUnused, answer_to, chunk_of, ack_of, EndMove, Move, Moves, last_of}
use Rattle.sctp_moves.proofs.Members.{In, in-from, contains-from, in-map, in-unmap}
use Rattle.sctp_moves.proofs.Sides.{Tie, tying, tie, Side, side_of, IsDown, IsBond, IsSide, AreSides, turned-sides, wanted-trying, trying-down, same-far}
use Rattle.sctp_moves.proofs.Trying.{names-more, keeps-wants, keeps-cookie_ack, keeps-answer, keeps-try, keeps-finish}
use Rattle.sctp_moves.proofs.Echoed.{keeps-echo}
use Rattle.sctp_moves.proofs.Opened.{IsOpening, opened, keeps-opening, opening-cookie, opening-ack}
use Rattle.sctp_moves.proofs.Carried.{AreCarrying, holding, keeps-take, keeps-hearing, keeps-handing, keeps-confirming, keeps-sending, keeps-acknowledging, keeps-opened}

pub record IsSound (x y : End) : Type 0 where
  pub sides : AreSides (side_of x) (side_of y)
  pub carrying : AreCarrying x y

pub turned-sound : (x y : End) → IsSound x y → IsSound y x
turned-sound x y h = record { sides = turned-sides (side_of x) (side_of y) h.sides; carrying = (h.carrying.1, h.carrying.0) }

-- ---- the move of one end

in-phase : (x y : End) (s : Phase) → x.phase ≡ s → AreSides (side_of x) (side_of y) → AreSides (record (side_of x) { phase = s }) (side_of y)
in-phase x y s e h = subst (λ (r : Phase). AreSides (record (side_of x) { phase = r }) (side_of y)) e h

in-present : (x y : End) (es : List Epoch) → x.epochs ≡ es → IsSound x y → IsSound (holding x es) y
in-present x y es e h = subst (λ (fs : List Epoch). IsSound (holding x fs) y) e h

module _ (x y : End) (h : IsSound x y) where
  named : (own : Name) → IsUnused x own → (n : Name) → In n x.drawn → n.tag ≡ own.tag → n ≡ own
  named own u n i = u.named n (contains-from x.drawn n i)

  abbrev near : Side
  near = side_of x

  abbrev far : Side
  far = side_of y

  -- an unused tag is bound to nothing
  pub unbound : (own : Name) → IsUnused x own → (t : Tie) → IsBond near t → t.own.tag ≢ own.tag
  unbound own u t (inl b) q = u.unechoed b.0 (contains-from x.echoes b.0 b.1) (ap (λ (v : Tie). v.own.tag) b.2 ∙ q)
  unbound own u t (inr i) q =
      let e : (k : Epoch) × In k x.epochs × (tie k ≡ t) = in-unmap tie x.epochs t i in
      u.unopened e.0 (contains-from x.epochs e.0 e.1) (ap (λ (v : Tie). v.own.tag) e.2 ∙ q)

  -- the far tag of an association that opens is one of none before
  none : (t : Tie) (g : ℕ) → AreSides (opened near t g) far → ((u : Tie) → In u near.ties → u.own.tag ≢ t.own.tag) →
      (u : Tie) → In u near.ties → u.far.tag ≢ t.far.tag
  none t g s new u i q =
      new u i (ap (λ (v : Tie). v.own.tag) (same-far (opened near t g) far s.near s.far u t (inr i) (inl refl) q))

sound-by_cookie : (x y z : End) → IsSound x y → moves.OpensByCookie y x z → IsSound z y
sound-by_cookie x y z h m =
    let c : Cookie = m.cookie in
    let o : IsOpening (side_of x) (side_of y) (tying c.own c.far) =
    opening-cookie (side_of x) (side_of y) h.sides m.wanted c (in-from y.echoes c m.there) m.present m.may in
    let s : AreSides (opened (side_of x) (tying c.own c.far) m.generation) (side_of y) =
    keeps-opening (side_of x) (side_of y) h.sides (tying c.own c.far) o m.generation m.later in
    subst (λ (w : End). IsSound w y) (sym m.after) (record {
      sides = s;
      carrying = keeps-opened x y c.own c.far h.carrying (none x y h (tying c.own c.far) m.generation s o.new);
    })

sound-by_ack : (x y z : End) → IsSound x y → moves.OpensByAck y x z → IsSound z y
sound-by_ack x y z h m =
    let t : Tie = tying m.own m.far in
    let g : AreSides (record (side_of x) { phase = CookieEchoed m.own m.far }) (side_of y) = in-phase x y (CookieEchoed m.own m.far) m.echoed h.sides in
    let o : IsOpening (record (side_of x) { phase = CookieEchoed m.own m.far }) (side_of y) t =
    opening-ack (side_of x) (side_of y) m.own m.far g (in-from y.cookie_acks m.own.tag m.there) in
    let s : AreSides (opened (side_of x) t m.generation) (side_of y) =
    keeps-opening (record (side_of x) { phase = CookieEchoed m.own m.far }) (side_of y) g t o m.generation m.later in
    subst (λ (w : End). IsSound w y) (sym m.after) (record {
      sides = s;
      carrying = keeps-opened x y m.own m.far h.carrying (none x y h t m.generation s o.new);
    })

pub sound-move : (x y z : End) → EndMove y x z → IsSound x y → IsSound z y
sound-move x y z (moves.wants m) h =
    subst (λ (w : End). IsSound w y) (sym m.after) (record { sides = keeps-wants (side_of x) (side_of y) h.sides; carrying = h.carrying })
sound-move x y z (moves.begins m) h =
    subst (λ (w : End). IsSound w y) (sym m.after) (record {
      sides = keeps-try (side_of x) (side_of y) h.sides m.own m.generation (named x y h m.own m.unused) (unbound x y h m.own m.unused) m.later
          (λ n e. absurd (subst (λ (s : Phase). IsTrying s n) m.closed e)) (λ c e. subst (λ (s : Phase). MayOpen s c) (sym m.closed) tt)
          (subst IsDown (sym m.closed) tt) m.wanted;
      carrying = h.carrying;
    })
sound-move x y z (moves.renews m) h =
    subst (λ (w : End). IsSound w y) (sym m.after) (record {
      sides = keeps-try (side_of x) (side_of y) h.sides m.own m.generation (named x y h m.own m.unused) (unbound x y h m.own m.unused)
          (omega (arith, m.later)) (λ n e. m.later) (λ c e. absurd (omega (arith, m.later, e))) (trying-down x.phase m.old m.trying) (wanted-trying x.phase x.wanted m.old m.trying h.sides.near.wanted);
      carrying = h.carrying;
    })
sound-move x y z (moves.answers_anew m) h =
    subst (λ (w : End). IsSound w y) (sym m.after) (record {
      sides = keeps-answer (side_of x) (side_of y) h.sides (m.own ∷ x.drawn) (answer_to x.generation m.own m.init)
          (names-more x.drawn m.own (named x y h m.own m.unused) h.sides.near.names) (λ n i. inr i)
          (record { to = refl; own = refl; drawn = inl refl; far = h.sides.far.inits m.init (in-from y.inits m.init m.there); made = omega arith })
          (inr (unbound x y h m.own m.unused));
      carrying = h.carrying;
    })
sound-move x y z (moves.answers_by_try m) h =
    subst (λ (w : End). IsSound w y) (sym m.after) (record {
      sides = keeps-answer (side_of x) (side_of y) h.sides x.drawn (answer_to x.generation m.own m.init) h.sides.near.names (λ n i. i)
          (record {
            to = refl;
            own = refl;
            drawn = h.sides.near.trying m.own m.trying;
            far = h.sides.far.inits m.init (in-from y.inits m.init m.there);
            made = omega arith;
          })
          (inl (m.own, m.trying, refl));
      carrying = h.carrying;
    })
sound-move x y z (moves.echoes m) h =
    subst (λ (w : End). IsSound w y) (sym m.after) (record {
      sides = keeps-echo (side_of x) (side_of y) m.own (in-phase x y (CookieWait m.own) m.waits h.sides) m.answer (in-from y.answers m.answer m.there) m.to;
      carrying = h.carrying;
    })
sound-move x y z (moves.opens_by_cookie m) h = sound-by_cookie x y z h m
sound-move x y z (moves.opens_by_ack m) h = sound-by_ack x y z h m
sound-move x y z (moves.sends_cookie_ack m) h =
    let there : In m.epoch x.epochs = subst (In m.epoch) (sym m.now) (inl refl) in
    subst (λ (w : End). IsSound w y) (sym m.after) (record {
      sides = keeps-cookie_ack (side_of x) (side_of y) h.sides m.epoch.far.tag (tie m.epoch, in-map tie x.epochs m.epoch there, refl);
      carrying = h.carrying;
    })
sound-move x y z (moves.finishes m) h =
    subst (λ (w : End). IsSound w y) (sym m.after) (record { sides = keeps-finish (side_of x) (side_of y) h.sides m.generation m.later; carrying = h.carrying })
sound-move x y z (moves.takes m) h =
    let g : IsSound (holding x (m.epoch ∷ m.past)) y = in-present x y (m.epoch ∷ m.past) m.now h in
    subst (λ (w : End). IsSound w y) (sym m.after) (record { sides = g.sides; carrying = keeps-take x y m.epoch m.past g.carrying m.message m.room })
sound-move x y z (moves.sends_chunk m) h =
    let g : IsSound (holding x (m.epoch ∷ m.past)) y = in-present x y (m.epoch ∷ m.past) m.now h in
    subst (λ (w : End). IsSound w y) (sym m.after)
    (subst (λ (es : List Epoch). IsSound (record x { epochs = es; chunks = chunk_of m.epoch m.place m.message ∷ x.chunks }) y) (sym m.now)
    (record { sides = g.sides; carrying = keeps-sending x y m.epoch m.past g.carrying g.sides m.place m.message m.taken }))
sound-move x y z (moves.hears_chunk m) h =
    let g : IsSound (holding x (m.epoch ∷ m.past)) y = in-present x y (m.epoch ∷ m.past) m.now h in
    subst (λ (w : End). IsSound w y) (sym m.after) (record {
      sides = g.sides;
      carrying = keeps-hearing x y m.epoch m.past g.carrying g.sides m.chunk (in-from y.chunks m.chunk m.there) m.to m.young m.ahead m.distance m.within;
    })
sound-move x y z (moves.hands_up m) h =
    let g : IsSound (holding x (m.epoch ∷ m.past)) y = in-present x y (m.epoch ∷ m.past) m.now h in
    subst (λ (w : End). IsSound w y) (sym m.after) (record {
      sides = g.sides;
      carrying = keeps-handing x y m.epoch m.past g.carrying g.sides m.message (in-from m.epoch.heard _ m.next);
    })
sound-move x y z (moves.sends_ack m) h =
    let g : IsSound (holding x (m.epoch ∷ m.past)) y = in-present x y (m.epoch ∷ m.past) m.now h in
    subst (λ (w : End). IsSound w y) (sym m.after)
    (subst (λ (es : List Epoch). IsSound (record x { epochs = es; acks = ack_of m.epoch ∷ x.acks }) y) (sym m.now)
    (record { sides = g.sides; carrying = keeps-acknowledging x y m.epoch m.past g.carrying g.sides }))
sound-move x y z (moves.hears_ack m) h =
    let g : IsSound (holding x (m.epoch ∷ m.past)) y = in-present x y (m.epoch ∷ m.past) m.now h in
    subst (λ (w : End). IsSound w y) (sym m.after) (record {
      sides = g.sides;
      carrying = keeps-confirming x y m.epoch m.past g.carrying g.sides m.ack (in-from y.acks m.ack m.there) m.to m.young m.ahead m.distance m.within;
    })

-- ---- lists of moves

no-place : {X : Type 0} (i : ℕ) (x : X) → slice_get [] i ≡ Some x → ⊥
no-place i x e = grind (arith, common_steps)

side-first : IsSide (side_of new_end) (side_of new_end)
side-first = record {
  names = λ n m i. absurd i;
  wanted = tt;
  trying = λ n e. absurd e;
  alone = λ n e. absurd e;
  silent = λ n e. absurd e;
  echoed = λ n m e. absurd e;
  own = λ t i. absurd i;
  known = λ t i. absurd i;
  bound = λ t i. absurd i;
  apart = tt;
  inits = λ n i. absurd i;
  answers = λ a i. absurd i;
  live = λ a i. absurd i;
  echoes = λ c i. absurd i;
  cookie_acks = λ k i. absurd i;
  single = λ t u b c e. absurd (none-bound t b);
} where
  none-bound : (t : Tie) → IsBond (side_of new_end) t → ⊥
  none-bound t (inl b) = b.1
  none-bound t (inr i) = i

pub sound-first : IsSound new_end new_end
sound-first = record {
  sides = record {
    near = side-first;
    far = side-first;
    follows = λ n m e. absurd e;
    follows_back = λ n m e. absurd e;
    awaited = λ c i. absurd i;
    awaited_back = λ c i. absurd i;
    ordered = λ i j k l t s e. absurd (no-place i t e);
    ordered_back = λ i j k l t s e. absurd (no-place i t e);
  };
  carrying = (
    record { each = λ e i. absurd i; flows = λ e f i. absurd i; chunk = λ d i. absurd i; ack = λ a i. absurd i },
    record { each = λ e i. absurd i; flows = λ e f i. absurd i; chunk = λ d i. absurd i; ack = λ a i. absurd i },
  );
}

sound-step : (p q : Ends) → Move p q → IsSound p.near p.far → IsSound q.near q.far
sound-step p q (moves.near m same) h = subst (IsSound q.near) (sym same) (sound-move p.near p.far q.near m h)
sound-step p q (moves.far m same) h =
    turned-sound q.far q.near (subst (IsSound q.far) (sym same) (sound-move p.far p.near q.far m (turned-sound p.near p.far h)))

sound-list : (p : Ends) (list : List Ends) → Moves p list → IsSound p.near p.far → IsSound (last_of p list).near (last_of p list).far
sound-list p [] m h = h
sound-list p (q ∷ list) m h = sound-list q list m.1 (sound-step p q m.0 h)

pub sound-always : (list : List Ends) → Moves new_ends list → IsSound (last_of new_ends list).near (last_of new_ends list).far
sound-always list m = sound-list new_ends list m sound-first
