-- A node that gives up following the other end of a link: one move.
use Rattle.node_moves.proofs.Basics.{◌≡◌, ◌≢◌, ℕ, Bool, true, false, ◌<◌, ◌≤◌, length, count_by, nat_eq, refl, ap, sym, subst, ◌∙◌, arith, if◌then◌else◌, ⊎_elim, cases_eq, ne_eqb, eq-eqb, eqb-true}
use Rattle.node_moves.proofs.Machine.{Side, Near, Far, opposite, LinkEnd, Line, Network, Shape, seen, Place, line_at, point_at, Move}
use Rattle.node_moves.proofs.Definitions.{Configuration}
use Rattle.node_moves.proofs.Reading.{IsShape, says_of, across}
use Rattle.node_moves.proofs.Shown.{Shows, IsShown, link-inside, links-apart, at-own, own-inside}
use Rattle.node_moves.proofs.Flights.{changed-here, changed-other, updated-here, updated-other}
use Rattle.node_moves.proofs.World.{IsFlown, AreData, AreStatuses, Shown, rests, place_at, same-line}
use Rattle.node_moves.specs.Anew.{given_up}
use Rattle.node_moves.specs.Networks.{NetworkNode, NetworkState, IsNode, changed}
use Rattle.node_moves.specs.Outside.{ArePlaced}
use Rattle.network_moves.specs.Moves as moves
use Rattle.network_moves.specs.Returning.{unled}

-- what an end sees of a line stays, but for whether it may follow
record IsSeenSame (z y : Line) : Type 0 where
  near : y.near ≡ z.near
  to_near : y.to_near ≡ z.to_near
  told_near : y.told_near ≡ z.told_near
  far_came : y.far.came ≡ z.far.came

seen-same : (one other : Side) (y : Line) → IsSeenSame (seen one y) (seen one (seen other (unled (seen other y))))
seen-same Near Near y = record { near = refl; to_near = refl; told_near = refl; far_came = refl }
seen-same Near Far y = record { near = refl; to_near = refl; told_near = refl; far_came = refl }
seen-same Far Near y = record { near = refl; to_near = refl; told_near = refl; far_came = refl }
seen-same Far Far y = record { near = refl; to_near = refl; told_near = refl; far_came = refl }

-- whether one may: that end may not, and the other may if it might
here-may : (side : Side) (y : Line) → (seen side (seen side (unled (seen side y)))).near_may_follow ≡ false
here-may Near y = refl
here-may Far y = refl

there-may : (side : Side) (y : Line) → (seen (opposite side) (seen side (unled (seen side y)))).near_may_follow ≡ (seen (opposite side) y).near_may_follow
there-may Near y = refl
there-may Far y = refl

module _ (settings : (point : ℕ) → Configuration) (t : ArePlaced settings) (w : NetworkState) (x link : ℕ) where
  abbrev v : NetworkState
  v = changed x (given_up link) w

  rests-same : (y : ℕ) → rests settings t (v.node y) ≡ rests settings t (w.node y)
  rests-same y =
      ⊎_elim
      (λ (same : y ≡ x). subst (λ (i : ℕ). rests settings t (v.node i) ≡ rests settings t (w.node i)) (sym same) (ap (rests settings t) (changed-here x (given_up link) w)))
      (λ (d : y ≢ x). ap (rests settings t) (changed-other x (given_up link) w y d))
      (cases_eq y x)

  -- where the node has no such link, nothing shows
  pub unheeded : (p : Network) → Shown settings t w p → length (settings x).links ≤ link → Shown settings t v p
  unheeded p s past = record {
    nodes = λ y fy. subst (Shows (settings y) p) (sym (rests-same y)) (s.nodes y fy);
    flown = λ y l fy k.
        ⊎_elim
        (λ (same : y ≡ x).
        subst (λ (i : ℕ). IsNode settings i → l < length (settings i).links → IsFlown (v.node i) l (line_at p (place_at settings t i l))) (sym same)
        (λ fx il.
        subst (λ (e : NetworkNode). IsFlown e l (line_at p (place_at settings t x l))) (sym (changed-here x (given_up link) w))
        (let f : IsFlown (w.node x) l (line_at p (place_at settings t x l)) = s.flown x l fx il in
        record {
          user_data = f.user_data;
          statuses = f.statuses;
          follows = updated-other (w.node x).follows link false l (λ is. (let no : ⊥ = omega (arith, is, il, past) in absurd no)) ∙ f.follows;
          came = f.came;
        })) fy k)
        (λ (d : y ≢ x). subst (λ (e : NetworkNode). IsFlown e l (line_at p (place_at settings t y l))) (sym (changed-other x (given_up link) w y d)) (s.flown y l fy k))
        (cases_eq y x);
    idle = s.idle;
  }

  module _ (shape : Shape) (o : IsShape shape) (p : Network) (s : Shown settings t w p) (fx : IsNode settings x) (inside : link < length (settings x).links) where
    abbrev c : Configuration
    c = settings x

    abbrev its : Place
    its = place_at settings t x link

    abbrev z : Line
    z = unled (line_at p its)

    abbrev pub after : Network
    after = record p {
      line = λ i. if nat_eq i its.link then seen its.side z else p.line i;
      broken = λ i. if nat_eq i (point_at shape its) then true else p.broken i;
    }

    line-other : (q : Place) → q.link ≢ its.link → line_at after q ≡ line_at p q
    line-other q d = ap (λ (b : Bool). seen q.side (if b then seen its.side z else p.line q.link)) (ne_eqb q.link its.link d)

    line-same : (q : Place) → IsSeenSame (line_at p q) (line_at after q)
    line-same q = by (nat_eq q.link its.link) refl
      where
        by : (b : Bool) → nat_eq q.link its.link ≡ b → IsSeenSame (line_at p q) (seen q.side (if b then seen its.side z else p.line q.link))
        by true e = subst (λ (k : ℕ). IsSeenSame (seen q.side (p.line k)) (seen q.side (seen its.side z))) (sym (eqb-true q.link its.link e)) (seen-same q.side its.side (p.line its.link))
        by false e = record { near = refl; to_near = refl; told_near = refl; far_came = refl }

    -- ---- which ends may follow

    may-at : (side : Side) → (line_at after (record { link = its.link; side = side })).near_may_follow ≡ (seen side (seen its.side z)).near_may_follow
    may-at side = ap (λ (b : Bool). (seen side (if b then seen its.side z else p.line its.link)).near_may_follow) (eq-eqb its.link its.link refl)

    may-here : (l : ℕ) → l < length c.links → (given_up link (w.node x)).follows l ≡ (line_at after (place_at settings t x l)).near_may_follow
    may-here l il =
        ⊎_elim
        (λ (same : l ≡ link).
        subst (λ (j : ℕ). (given_up link (w.node x)).follows j ≡ (line_at after (place_at settings t x j)).near_may_follow) (sym same)
        (updated-here (w.node x).follows link false ∙ sym (may-at its.side ∙ here-may its.side (p.line its.link))))
        (λ (d : l ≢ link).
        updated-other (w.node x).follows link false l d ∙ (s.flown x l fx il).follows
        ∙ ap (λ (y : Line). y.near_may_follow) (sym (line-other (place_at settings t x l) (links-apart c (t.well x fx) link l inside il d))))
        (cases_eq l link)

    may-there : (y l : ℕ) → IsNode settings y → y ≢ x → l < length (settings y).links → (w.node y).follows l ≡ (line_at after (place_at settings t y l)).near_may_follow
    may-there y l fy d il =
        (s.flown y l fy il).follows
        ∙ ⊎_elim
        (λ (same : (place_at settings t y l).link ≡ its.link).
        ⊎_elim
        (λ (e : (y ≡ x) × (l ≡ link)). absurd (d e.0))
        (λ (e : place_at settings t y l ≡ across its).
        subst (λ (q : Place). (line_at p q).near_may_follow ≡ (line_at after q).near_may_follow) (sym e)
        (sym (may-at (opposite its.side) ∙ there-may its.side (p.line its.link))))
        (same-line settings t x link y l fx fy inside il same))
        (λ (apart : (place_at settings t y l).link ≢ its.link). ap (λ (q : Line). q.near_may_follow) (sym (line-other (place_at settings t y l) apart)))
        (cases_eq (place_at settings t y l).link its.link)

    -- ---- what shows

    flown-here : (l : ℕ) → l < length c.links → IsFlown (given_up link (w.node x)) l (line_at after (place_at settings t x l))
    flown-here l il =
        let a : IsSeenSame (line_at p (place_at settings t x l)) (line_at after (place_at settings t x l)) = line-same (place_at settings t x l) in
        let f : IsFlown (w.node x) l (line_at p (place_at settings t x l)) = s.flown x l fx il in
        record {
          user_data = subst (AreData ((w.node x).user_data l)) (sym a.to_near) f.user_data;
          statuses = subst (AreStatuses ((w.node x).statuses l)) (sym a.told_near) f.statuses;
          follows = may-here l il;
          came = λ test. ap (count_by test) a.far_came ∙ f.came test;
        }

    flown-there : (y l : ℕ) → IsNode settings y → y ≢ x → l < length (settings y).links → IsFlown (w.node y) l (line_at after (place_at settings t y l))
    flown-there y l fy d il =
        let a : IsSeenSame (line_at p (place_at settings t y l)) (line_at after (place_at settings t y l)) = line-same (place_at settings t y l) in
        let f : IsFlown (w.node y) l (line_at p (place_at settings t y l)) = s.flown y l fy il in
        record {
          user_data = subst (AreData ((w.node y).user_data l)) (sym a.to_near) f.user_data;
          statuses = subst (AreStatuses ((w.node y).statuses l)) (sym a.told_near) f.statuses;
          follows = may-there y l fy d il;
          came = λ test. ap (count_by test) a.far_came ∙ f.came test;
        }

    pub given-up-shown : Shown settings t v after
    given-up-shown = record {
      nodes = λ y fy.
          subst (Shows (settings y) after) (sym (rests-same y))
          (let g : Shows (settings y) p (rests settings t (w.node y)) = s.nodes y fy in
          record { sized = g.sized; ends = λ l k. subst (λ (e : LinkEnd). IsShown (w.node y).node l e) (sym (line-same (place_at settings t y l)).near) (g.ends l k); booked = g.booked });
      flown = λ y l fy k.
          ⊎_elim
          (λ (same : y ≡ x).
          subst (λ (i : ℕ). l < length (settings i).links → IsFlown (v.node i) l (line_at after (place_at settings t i l))) (sym same)
          (λ il. subst (λ (e : NetworkNode). IsFlown e l (line_at after (place_at settings t x l))) (sym (changed-here x (given_up link) w)) (flown-here l il)) k)
          (λ (d : y ≢ x). subst (λ (e : NetworkNode). IsFlown e l (line_at after (place_at settings t y l))) (sym (changed-other x (given_up link) w y d)) (flown-there y l fy d k))
          (cases_eq y x);
      idle = λ i unused. ap (λ (b : Bool). if b then seen its.side z else p.line i) (ne_eqb i its.link (λ same. unused x link fx inside (sym same))) ∙ s.idle i unused;
    }

    pub given-up-move : Move shape says_of p after
    given-up-move = moves.gives_up_following (record {
      place = its;
      after = record {
        inside = own-inside shape o c (t.well x fx) link;
        lines = record {
          inside = link-inside shape o c (t.well x fx) link;
          here = ap (λ (b : Bool). if b then seen its.side z else p.line its.link) (eq-eqb its.link its.link refl);
          others = λ i d. ap (λ (b : Bool). if b then seen its.side z else p.line i) (ne_eqb i its.link d);
        };
        here = refl;
        others = λ i d. refl;
        broken = ap (λ (b : Bool). if b then true else p.broken (point_at shape its)) (eq-eqb (point_at shape its) (point_at shape its) refl);
        others_broken = λ i d. ap (λ (b : Bool). if b then true else p.broken i) (ne_eqb i (point_at shape its) d);
      };
    })

    pub given-up-broken : (i : ℕ) → i ≢ x → after.broken i ≡ p.broken i
    given-up-broken i d = ap (λ (b : Bool). if b then true else p.broken i) (ne_eqb i (point_at shape its) (λ same. d (same ∙ at-own shape o c (t.well x fx) link ∙ t.own x fx)))
