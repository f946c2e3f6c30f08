-- The openings of every list of moves, by epochs.
use Rattle.std.proofs.Common.{◌≡◌, inl, List, [], ◌∷◌, length, map, refl, ap, sym, ◌∙◌, subst}
use Rattle.std.specs.List.{Contains}
use Rattle.sctp_moves.specs.Ends.{Name, Epoch, Established, End, Ends, new_ends, turned}
use Rattle.sctp_moves.specs.Moves as moves
use Rattle.sctp_moves.specs.Moves.{EndMove, Move, Moves}
use Rattle.sctp_moves.specs.Openings as openings
use Rattle.sctp_moves.specs.Openings.{Standing, Neither, Joined, NearAhead, FarAhead, Opened, Unopened, Course, established_ends_are_spent, cookies_are_not_revived, openings_come_in_turn}
use Rattle.sctp_moves.proofs.Members.{In, in-from, contains-from, in-map, in-unmap}
use Rattle.sctp_moves.proofs.Sides.{Tie, tying, back, tie, side_of, one-far}
use Rattle.sctp_moves.proofs.Keeping.{IsSound, turned-sound, sound-move, sound-first}
use Rattle.sctp_moves.proofs.Concluded.{always}
use Rattle.sctp_moves.proofs.Turns.{Turn, keeps, opens, turn, kept-long, opened-long}
use Rattle.sctp_moves.proofs.Standing as proved
use Rattle.sctp_moves.proofs.Standing.{ties, Stands, IsReady, Opening, follows, leads, other_way, turned-stands, stays-standing, opens-so, up-not-ready, ready-before}

-- ---- cookies

tie-new : (x : End) (own far : Name) → ((f : Epoch) → Contains x.epochs f → f.own ≡ own → f.far ≡ far → ⊥) → In (tying own far) (ties x) → ⊥
tie-new x own far new i =
    let f : (k : Epoch) × In k x.epochs × (tie k ≡ tying own far) = in-unmap tie x.epochs (tying own far) i in
    new f.0 (contains-from x.epochs f.0 f.1) (ap (λ (t : Tie). t.own) f.2) (ap (λ (t : Tie). t.far) f.2)

pub ready-from : (x y : End) → openings.IsReady x y → IsReady x y
ready-from x y r = record {
  cookie = r.cookie;
  echoed = in-from x.echoes r.cookie r.echoed;
  present = r.present;
  may = r.may;
  new = tie-new x r.cookie.far r.cookie.own r.new;
}

epoch-new : (x : End) (own far : Name) → (In (tying own far) (ties x) → ⊥) → (f : Epoch) → Contains x.epochs f → f.own ≡ own → f.far ≡ far → ⊥
epoch-new x own far new f c p q =
    new (subst (λ (t : Tie). In t (ties x)) (ap (λ (n : Name). tying n f.far) p ∙ ap (λ (n : Name). tying own n) q) (in-map tie x.epochs f (in-from x.epochs f c)))

pub ready-to : (x y : End) → IsReady x y → openings.IsReady x y
ready-to x y r = record {
  cookie = r.cookie;
  echoed = contains-from x.echoes r.cookie r.echoed;
  present = r.present;
  may = r.may;
  new = epoch-new x r.cookie.far r.cookie.own r.new;
}

pub spent-always : established_ends_are_spent
spent-always = always (λ p. p.near.phase ≡ Established → openings.IsReady p.near p.far → ⊥)
    (λ p h up r. up-not-ready p.near p.far h up (ready-from p.near p.far r))

pub revived-always : cookies_are_not_revived
revived-always = always (λ p. (q : End) → EndMove p.far p.near q → openings.IsReady p.far q → openings.IsReady p.far p.near)
    (λ p h q m r. ready-to p.far p.near (ready-before p.near p.far q h m (ready-from p.far q r)))

-- ---- the latest associations

pub record Latest (x : End) (t : Tie) : Type 0 where
  pub epoch : Epoch
  pub past : List Epoch
  pub now : x.epochs ≡ epoch ∷ past
  pub is : tie epoch ≡ t

pub latest-of : (x : End) (t : Tie) (past : List Tie) → ties x ≡ t ∷ past → Latest x t
latest-of x t past e = by x.epochs refl e where
  by : (es : List Epoch) → x.epochs ≡ es → map tie es ≡ t ∷ past → Latest x t
  by [] q k = absurd (cc)
  by (f ∷ fs) q k = record { epoch = f; past = fs; now = q; is = head-same (tie f) t (map tie fs) past k } where
    head-same : (a b : Tie) (xs ys : List Tie) → a ∷ xs ≡ b ∷ ys → a ≡ b
    head-same a b xs ys e = cc

none-of : (x : End) → ties x ≡ [] → x.epochs ≡ []
none-of x e = by x.epochs refl e where
  by : (es : List Epoch) → x.epochs ≡ es → map tie es ≡ [] → x.epochs ≡ []
  by [] q k = q
  by (f ∷ fs) q k = absurd (cc)

ahead-so : (x y : End) → IsSound x y → proved.IsAhead x y → openings.IsAhead x y
ahead-so x y h s =
    let l : Latest x s.latest = latest-of x s.latest s.past s.now in
    record {
      latest = l.epoch;
      past = l.past;
      now = l.now;
      alone = λ f c one.
          let there : In (tie l.epoch) (ties x) = subst (In (tie l.epoch)) (sym (ap (map tie) l.now)) (inl refl) in
          let i : In (tie f) (ties y) = in-map tie y.epochs f (in-from y.epochs f c) in
          let is : back (tie l.epoch) ≡ tie f = one-far (side_of x) (side_of y) h.sides.near h.sides.far (tie l.epoch) (tie f) there i one.back in
          s.alone (subst (λ (t : Tie). In t (ties y)) (sym is ∙ ap back l.is) i);
      down = s.down;
    }

pub stands-so : (st : Standing) (x y : End) → IsSound x y → Stands st x y → openings.Stands st (record { near = x; far = y })
stands-so Neither x y h s = record { none = none-of x s.none; far_none = none-of y s.far_none }
stands-so Joined x y h s =
    let l : Latest x s.latest = latest-of x s.latest s.past s.now in
    let m : Latest y (back s.latest) = latest-of y (back s.latest) s.far_past s.far_now in
    record {
      latest = l.epoch;
      past = l.past;
      now = l.now;
      far_latest = m.epoch;
      far_past = m.past;
      far_now = m.now;
      one = record {
        there = ap (λ (t : Tie). t.own.tag) l.is ∙ ap (λ (t : Tie). t.far.tag) (sym m.is);
        back = ap (λ (t : Tie). t.far.tag) l.is ∙ ap (λ (t : Tie). t.own.tag) (sym m.is);
      };
    }
stands-so NearAhead x y h s = ahead-so x y h s
stands-so FarAhead x y h s = ahead-so y x (turned-sound x y h) s

-- ---- a move

pub record Next (st : Standing) (p q : Ends) : Type 0 where
  pub next : Standing
  pub turn : openings.Turn st p q next
  pub stands : Stands next q.near q.far

unopened : (x z : End) → z ≡ x → Unopened x z
unopened x z e = record { same = ap (λ (w : End). length w.epochs) e }

abbrev pair : End → End → Ends
pair x y = record { near = x; far = y }

near-next : (st : Standing) (x y z : End) → IsSound x y → EndMove y x z → Stands st x y → Next st (pair x y) (pair z y)
near-next st x y z h m s = by (turn y x z m) where
  led : Opened x z → Opening st x y z → Next st (pair x y) (pair z y)
  led o (follows is j) = record { next = Joined; turn = openings.near_follows is o (record { same = refl }); stands = j }
  led o (leads j r) = record { next = NearAhead; turn = openings.near_leads o (record { same = refl }) (ready-to y x r); stands = j }

  by : Turn x z → Next st (pair x y) (pair z y)
  by (keeps k) = record {
    next = st;
    turn = openings.stays (record { same = kept-long x z k }) (record { same = refl });
    stands = stays-standing x y z h st m k s;
  }
  by (opens e down up now) = led (record { more = opened-long x z e now }) (opens-so x y z h m e down up now st s)

other-other : (st : Standing) → other_way (other_way st) ≡ st
other-other Neither = refl
other-other Joined = refl
other-other NearAhead = refl
other-other FarAhead = refl

far-turn : (st next : Standing) (p q : Ends) → openings.Turn (other_way st) (turned p) (turned q) next → openings.Turn st p q (other_way next)
far-turn st next p q (openings.stays a b) = subst (λ (t : Standing). openings.Turn st p q t) (sym (other-other st)) (openings.stays b a)
far-turn st next p q (openings.near_leads a b r) = openings.far_leads b a r
far-turn st next p q (openings.far_leads a b r) = openings.near_leads b a r
far-turn st next p q (openings.near_follows is a b) = openings.far_follows (sym (other-other st) ∙ ap other_way is) b a
far-turn st next p q (openings.far_follows is a b) = openings.near_follows (sym (other-other st) ∙ ap other_way is) b a

far-next : (st : Standing) (p q : Ends) → Next (other_way st) (turned p) (turned q) → Next st p q
far-next st p q n = record {
  next = other_way n.next;
  turn = far-turn st n.next p q n.turn;
  stands = turned-stands n.next q.far q.near n.stands;
}

goes-on : (st : Standing) (p q : Ends) → IsSound p.near p.far → Move p q → Stands st p.near p.far → Next st p q × IsSound q.near q.far
goes-on st p q h (moves.near m same) s = (
  subst (λ (f : End). Next st p (pair q.near f)) (sym same) (near-next st p.near p.far q.near h m s),
  subst (λ (f : End). IsSound q.near f) (sym same) (sound-move p.near p.far q.near m h),
)
goes-on st p q h (moves.far m same) s =
    let back-sound : IsSound p.far p.near = turned-sound p.near p.far h in
    let n : Next (other_way st) (turned p) (pair q.far p.near) =
    near-next (other_way st) p.far p.near q.far back-sound m (turned-stands st p.near p.far s) in (
      subst (λ (f : End). Next st p (pair f q.far)) (sym same) (far-next st p (pair p.near q.far) n),
      subst (λ (f : End). IsSound f q.far) (sym same) (turned-sound q.far p.near (sound-move p.far p.near q.far m back-sound)),
    )

course : (st : Standing) (p : Ends) (list : List Ends) → IsSound p.near p.far → Moves p list → Stands st p.near p.far → Course st p list
course st p [] h m s = tt
course st p (q ∷ rest) h m s =
    let n : Next st p q × IsSound q.near q.far = goes-on st p q h m.0 s in
    (n.0.next, n.0.turn, stands-so n.0.next q.near q.far n.1 n.0.stands, course n.0.next q rest n.1 m.1 n.0.stands)

pub course-always : openings_come_in_turn
course-always list m = course Neither new_ends list sound-first m (record { none = refl; far_none = refl })
