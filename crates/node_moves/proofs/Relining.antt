-- One line of a network changes, and the node at one end of it.
use Rattle.node_moves.proofs.Basics.{◌≡◌, ◌≢◌, ℕ, Bool, ◌<◌, List, [], ◌∷◌, ◌++◌, length, nat_eq, refl, ap, sym, subst, ◌∙◌, if◌then◌else◌, ⊎_elim, cases_eq, ne_eqb, eq-eqb}
use Rattle.node_moves.proofs.Machine.{Side, Near, Far, opposite, Line, Network, Shape, turned, seen, Place, line_at, point_at, Becomes, Move, Moves, last_of}
use Rattle.node_moves.proofs.Definitions.{Configuration, Node, WholeQueues}
use Rattle.node_moves.proofs.Grown.{Grown, IsUnraised, same-grown, both-grown, unraised-first, unraised-then}
use Rattle.node_moves.proofs.Reading.{IsShape, says_of, across}
use Rattle.node_moves.proofs.Shown.{Mid, Shows, IsShown, IsAlike, IsSized, IsBooked, shown-alike, links-apart, at-own}
use Rattle.node_moves.proofs.Going.{IsAt, Arrives, Goes, is_broken, last-append, moves-append}
use Rattle.node_moves.proofs.World.{IsFlown, ShownAt, place_at, rests, same-line, goes-on}
use Rattle.node_moves.specs.Networks.{NetworkState, IsNode}
use Rattle.node_moves.specs.Outside.{ArePlaced}
use Rattle.network_moves.proofs.Lasting.{lasts-after}
use Rattle.network_moves.specs.Networks as net

abbrev pub with_line : Shape → Network → Place → Line → net.Node → Network
with_line shape p place z n = record p {
  node = λ other. if nat_eq other (point_at shape place) then n else p.node other;
  line = λ other. if nat_eq other place.link then seen place.side z else p.line other;
}

seen-twice : (side : Side) (z : Line) → seen side (seen side z) ≡ z
seen-twice Near z = refl
seen-twice Far z = refl

seen-across : (side : Side) (z : Line) → seen (opposite side) (seen side z) ≡ turned z
seen-across Near z = refl
seen-across Far z = refl

pub across-line : (p : Network) (place : Place) → line_at p (across place) ≡ turned (line_at p place)
across-line p place = by place.side (p.line place.link)
  where
    by : (side : Side) (z : Line) → seen (opposite side) z ≡ turned (seen side z)
    by Near z = refl
    by Far z = refl

module _ (shape : Shape) (p : Network) (place : Place) (z : Line) (n : net.Node) where
  abbrev after : Network
  after = with_line shape p place z n

  pub line-set : place.link < shape.links → point_at shape place < shape.nodes → Becomes shape p after place z n
  line-set linked inside = record {
    inside = inside;
    lines = record {
      inside = linked;
      here = ap (λ (b : Bool). if b then seen place.side z else p.line place.link) (eq-eqb place.link place.link refl);
      others = λ other d. ap (λ (b : Bool). if b then seen place.side z else p.line other) (ne_eqb other place.link d);
    };
    here = ap (λ (b : Bool). if b then n else p.node (point_at shape place)) (eq-eqb (point_at shape place) (point_at shape place) refl);
    others = λ other d. ap (λ (b : Bool). if b then n else p.node other) (ne_eqb other (point_at shape place) d);
    broken = λ other. refl;
  }

  pub here-line : line_at after place ≡ z
  here-line = ap (λ (b : Bool). seen place.side (if b then seen place.side z else p.line place.link)) (eq-eqb place.link place.link refl) ∙ seen-twice place.side z

  pub far-line : line_at after (across place) ≡ turned z
  far-line = ap (λ (b : Bool). seen (opposite place.side) (if b then seen place.side z else p.line place.link)) (eq-eqb place.link place.link refl) ∙ seen-across place.side z

  pub other-line : (other : Place) → other.link ≢ place.link → line_at after other ≡ line_at p other
  other-line other d = ap (λ (b : Bool). seen other.side (if b then seen place.side z else p.line other.link)) (ne_eqb other.link place.link d)

  pub here-node : after.node (point_at shape place) ≡ n
  here-node = ap (λ (b : Bool). if b then n else p.node (point_at shape place)) (eq-eqb (point_at shape place) (point_at shape place) refl)

  pub other-node : (other : ℕ) → other ≢ point_at shape place → after.node other ≡ p.node other
  other-node other d = ap (λ (b : Bool). if b then n else p.node other) (ne_eqb other (point_at shape place) d)

module _ (settings : (point : ℕ) → Configuration) (t : ArePlaced settings) (shape : Shape) (o : IsShape shape) where
  pub record Relines (w v : NetworkState) (x link : ℕ) (m u : Mid) (y z : Line) (n : net.Node) : Type 0 where
    pub inside : link < length (settings x).links
    pub sized : IsSized (settings x) u.node
    pub near : IsShown u.node link z.near
    pub others : (l : ℕ) → l ≢ link → IsAlike m.node u.node l
    pub booked : IsBooked n u
    pub far : (k : Node WholeQueues) (l : ℕ) → IsShown k l y.far → IsShown k l z.far
    pub nodes : (point : ℕ) → point ≢ x → rests settings t (v.node point) ≡ rests settings t (w.node point)
    pub flown : IsFlown (v.node x) link z
    pub flown_far : (point l : ℕ) → IsNode settings point → l < length (settings point).links → place_at settings t point l ≡ across (place_at settings t x link) → IsFlown (w.node point) l (turned y) → IsFlown (v.node point) l (turned z)
    pub flown_others : (point l : ℕ) → IsNode settings point → l < length (settings point).links → (place_at settings t point l).link ≢ (place_at settings t x link).link → (q : Line) → IsFlown (w.node point) l q
        → IsFlown (v.node point) l q

  pub reline : (w v : NetworkState) (x link : ℕ) (m u : Mid) (p : Network) (z : Line) (n : net.Node) → IsNode settings x → ShownAt settings t w x m p
      → Relines w v x link m u (line_at p (place_at settings t x link)) z n → ShownAt settings t v x u (with_line shape p (place_at settings t x link) z n)
  reline w v x link m u p z n fx s r =
      let its : Place = place_at settings t x link in
      let q : Network = with_line shape p its z n in
      let at : point_at shape its ≡ (settings x).own = at-own shape o (settings x) (t.well x fx) link in
      record {
        here = record {
          sized = r.sized;
          ends = λ l k.
              ⊎_elim
              (λ (same : l ≡ link). subst (λ (i : ℕ). IsShown u.node i (line_at q (place_at settings t x i)).near) (sym same) (subst (λ (g : Line). IsShown u.node link g.near) (sym (here-line shape p its z n)) r.near))
              (λ (d : l ≢ link).
              subst (λ (g : Line). IsShown u.node l g.near) (sym (other-line shape p its z n (place_at settings t x l) (links-apart (settings x) (t.well x fx) link l r.inside k d)))
              (shown-alike m.node u.node l (line_at p (place_at settings t x l)).near (r.others l d) (s.here.ends l k)))
              (cases_eq l link);
          booked = subst (λ (i : ℕ). IsBooked (q.node i) u) at (subst (λ (g : net.Node). IsBooked g u) (sym (here-node shape p its z n)) r.booked);
        };
        others = λ point fp d.
            let h : Shows (settings point) p (rests settings t (w.node point)) = s.others point fp d in
            subst (λ (g : Mid). Shows (settings point) q g) (sym (r.nodes point d))
            (record {
              sized = h.sized;
              ends = λ l k.
                  ⊎_elim
                  (λ (same : (place_at settings t point l).link ≡ its.link).
                  ⊎_elim
                  (λ (it : (point ≡ x) × (l ≡ link)). absurd (d it.0))
                  (λ (other : place_at settings t point l ≡ across its).
                  let before : (line_at p (place_at settings t point l)).near ≡ (line_at p its).far = ap (λ (i : Place). (line_at p i).near) other ∙ ap (λ (g : Line). g.near) (across-line p its) in
                  let now : (line_at q (place_at settings t point l)).near ≡ z.far = ap (λ (i : Place). (line_at q i).near) other ∙ ap (λ (g : Line). g.near) (far-line shape p its z n) in
                  subst (IsShown (w.node point).node l) (sym now) (r.far (w.node point).node l (subst (IsShown (w.node point).node l) before (h.ends l k))))
                  (same-line settings t x link point l fx fp r.inside k same))
                  (λ (apart : (place_at settings t point l).link ≢ its.link).
                  subst (λ (g : Line). IsShown (w.node point).node l g.near) (sym (other-line shape p its z n (place_at settings t point l) apart)) (h.ends l k))
                  (cases_eq (place_at settings t point l).link its.link);
              booked = subst (λ (g : net.Node). IsBooked g (rests settings t (w.node point)))
                  (sym (other-node shape p its z n (settings point).own (λ same. d (sym (t.own point fp) ∙ same ∙ at ∙ t.own x fx)))) h.booked;
            });
        flown = λ point l fp k.
            ⊎_elim
            (λ (same : (place_at settings t point l).link ≡ its.link).
            ⊎_elim
            (λ (it : (point ≡ x) × (l ≡ link)).
            subst (λ (i : ℕ). IsFlown (v.node i) l (line_at q (place_at settings t i l))) (sym it.0)
            (subst (λ (j : ℕ). IsFlown (v.node x) j (line_at q (place_at settings t x j))) (sym it.1) (subst (IsFlown (v.node x) link) (sym (here-line shape p its z n)) r.flown)))
            (λ (other : place_at settings t point l ≡ across its).
            let before : line_at p (place_at settings t point l) ≡ turned (line_at p its) = ap (line_at p) other ∙ across-line p its in
            let now : line_at q (place_at settings t point l) ≡ turned z = ap (line_at q) other ∙ far-line shape p its z n in
            subst (IsFlown (v.node point) l) (sym now) (r.flown_far point l fp k other (subst (IsFlown (w.node point) l) before (s.flown point l fp k))))
            (same-line settings t x link point l fx fp r.inside k same))
            (λ (apart : (place_at settings t point l).link ≢ its.link).
            subst (IsFlown (v.node point) l) (sym (other-line shape p its z n (place_at settings t point l) apart)) (r.flown_others point l fp k apart (line_at p (place_at settings t point l)) (s.flown point l fp k)))
            (cases_eq (place_at settings t point l).link its.link);
        idle = λ other unused. ap (λ (b : Bool). if b then seen its.side z else p.line other) (ne_eqb other its.link (λ same. unused x link fx r.inside (sym same))) ∙ s.idle other unused;
      }

  -- ---- where moves lead the whole network

  -- (the node had counted so many breaks)
  pub record Leads (times : ℕ) (p : Network) (w : NetworkState) (x : ℕ) (u : Mid) : Type 0 where
    pub networks : List Network
    pub moves : Moves shape says_of p networks
    pub grown : Grown times (is_broken shape u)
    pub broken : (point : ℕ) → (point ≡ (settings x).own → IsUnraised times (is_broken shape u)) → (last_of p networks).broken point ≡ p.broken point
    pub shown : ShownAt settings t w x u (last_of p networks)

  pub leads-at : {times : ℕ} (p : Network) (w : NetworkState) (x : ℕ) (u : Mid) (l : Leads times p w x u) → IsAt shape (settings x) p → IsAt shape (settings x) (last_of p l.networks)
  leads-at p w x u l h = record { lasts = lasts-after shape says_of p l.networks l.moves h.lasts; led = h.led }

  pub leads-both : {times : ℕ} (p : Network) (w v : NetworkState) (x : ℕ) (u g : Mid) → (l : Leads times p w x u) → Leads (is_broken shape u) (last_of p l.networks) v x g → Leads times p v x g
  leads-both p w v x u g l m = record {
    networks = l.networks ++ m.networks;
    moves = moves-append shape p l.networks m.networks l.moves m.moves;
    grown = both-grown l.grown m.grown;
    broken = λ point none. ap (λ (q : Network). q.broken point) (last-append shape p l.networks m.networks) ∙ m.broken point (λ same. unraised-then l.grown m.grown (none same)) ∙ l.broken point (λ same. unraised-first l.grown m.grown (none same));
    shown = subst (ShownAt settings t v x g) (sym (last-append shape p l.networks m.networks)) m.shown;
  }

  pub leads-none : (p : Network) (w : NetworkState) (x : ℕ) (u : Mid) → ShownAt settings t w x u p → Leads (is_broken shape u) p w x u
  leads-none p w x u s = record { networks = []; moves = tt; grown = same-grown refl; broken = λ point none. refl; shown = s }

  abbrev pub leads-one : {times : ℕ} (p q : Network) (w : NetworkState) (x : ℕ) (u : Mid) → Move shape says_of p q → Grown times (is_broken shape u) → ((point : ℕ) → q.broken point ≡ p.broken point) → ShownAt settings t w x u q
      → Leads times p w x u
  leads-one p q w x u m g b s = record { networks = q ∷ []; moves = (m, tt); grown = g; broken = λ point none. b point; shown = s }

  pub leads-arrives : {times : ℕ} (p : Network) (w : NetworkState) (x : ℕ) (v u : Mid) → IsNode settings x → ShownAt settings t w x v p → Grown times (is_broken shape u) → Arrives shape (settings x) times p u → Leads times p w x u
  leads-arrives p w x v u fx s g a = record {
    networks = a.networks;
    moves = a.moves;
    grown = g;
    broken = λ point none.
        ⊎_elim
        (λ (same : point ≡ (settings x).own). subst (λ (i : ℕ). (last_of p a.networks).broken i ≡ p.broken i) (sym same) (a.broken (none same)))
        (λ (d : point ≢ (settings x).own). a.around.broken point d)
        (cases_eq point (settings x).own);
    shown = goes-on settings t shape o w x v u p fx s a;
  }

  -- on from there, by what the node does
  pub leads-goes : {times : ℕ} (p : Network) (w : NetworkState) (x : ℕ) (v u : Mid) → IsNode settings x → IsAt shape (settings x) p → (l : Leads times p w x v) → Goes shape (settings x) v u → Leads times p w x u
  leads-goes p w x v u fx h l g =
      let q : Network = last_of p l.networks in
      leads-both p w w x v u l (leads-arrives q w x v u fx l.shown g.grown (g.goes q (leads-at p w x v l h) l.shown.here))
