-- A network in which one node is another, or also one end of a link at it; and what stays as it was around a node.
use Rattle.node_moves.proofs.Basics.{◌≡◌, ◌≢◌, ℕ, Bool, true, ◌<◌, refl, ap, sym, subst, ◌∙◌, nat_eq, if◌then◌else◌, ⊎_elim, cases_eq, ne_eqb, eq-eqb}
use Rattle.node_moves.proofs.Machine.{Side, Near, Far, LinkEnd, Line, Network, Shape, seen, end_at, Place, line_at, point_at, NodeBecomes, Becomes}
use Rattle.network_moves.specs.Networks as net
use Rattle.network_moves.specs.Returning.{Breaks}

-- ---- one node is another, and one end of a link at it

abbrev pub with_node : Network → (point : ℕ) → net.Node → Network
with_node p point n = record p { node = λ other. if nat_eq other point then n else p.node other }

abbrev pub with_near : Line → LinkEnd → Line
with_near z e = record z { near = e }

abbrev pub with_end : Shape → Network → Place → LinkEnd → net.Node → Network
with_end shape p place e n = record p {
  node = λ other. if nat_eq other (point_at shape place) then n else p.node other;
  line = λ other. if nat_eq other place.link then seen place.side (with_near (line_at p place) e) else p.line other;
}

module _ (shape : Shape) where
  pub node-set : (p : Network) (point : ℕ) (n : net.Node) → point < shape.nodes → NodeBecomes shape p (with_node p point n) point n
  node-set p point n inside = record {
    inside = inside;
    here = ap (λ (b : Bool). if b then n else p.node point) (eq-eqb point point refl);
    others = λ other d. ap (λ (b : Bool). if b then n else p.node other) (ne_eqb other point d);
    lines = λ link. refl;
    broken = λ other. refl;
  }

  pub end-set : (p : Network) (place : Place) (e : LinkEnd) (n : net.Node) → place.link < shape.links → point_at shape place < shape.nodes
      → Becomes shape p (with_end shape p place e n) place (with_near (line_at p place) e) n
  end-set p place e n linked inside = record {
    inside = inside;
    lines = record {
      inside = linked;
      here = ap (λ (b : Bool). if b then seen place.side (with_near (line_at p place) e) else p.line place.link) (eq-eqb place.link place.link refl);
      others = λ other d. ap (λ (b : Bool). if b then seen place.side (with_near (line_at p place) e) else p.line other) (ne_eqb other place.link d);
    };
    here = ap (λ (b : Bool). if b then n else p.node (point_at shape place)) (eq-eqb (point_at shape place) (point_at shape place) refl);
    others = λ other d. ap (λ (b : Bool). if b then n else p.node other) (ne_eqb other (point_at shape place) d);
    broken = λ other. refl;
  }

-- and a node is broken
abbrev pub with_broken : Network → (point : ℕ) → Network
with_broken p point = record p { broken = λ other. if nat_eq other point then true else p.broken other }

seen-twice : (side : Side) (z : Line) → seen side (seen side z) ≡ z
seen-twice Near z = refl
seen-twice Far z = refl

module _ (shape : Shape) where
  pub break-set : (p : Network) (place : Place) (e : LinkEnd) (n : net.Node) → place.link < shape.links → point_at shape place < shape.nodes
      → Breaks shape p (with_broken (with_end shape p place e n) (point_at shape place)) place (with_near (line_at p place) e) n
  break-set p place e n linked inside =
      let set : Becomes shape p (with_end shape p place e n) place (with_near (line_at p place) e) n = end-set shape p place e n linked inside in
      record {
        inside = inside;
        lines = record { inside = linked; here = set.lines.here; others = set.lines.others };
        here = set.here;
        others = set.others;
        broken = ap (λ (b : Bool). if b then true else p.broken (point_at shape place)) (eq-eqb (point_at shape place) (point_at shape place) refl);
        others_broken = λ other d. ap (λ (b : Bool). if b then true else p.broken other) (ne_eqb other (point_at shape place) d);
      }

module _ (shape : Shape) (p : Network) (place : Place) (e : LinkEnd) (n : net.Node) where
  pub line-here : line_at (with_end shape p place e n) place ≡ with_near (line_at p place) e
  line-here =
      ap (λ (b : Bool). seen place.side (if b then seen place.side (with_near (line_at p place) e) else p.line place.link)) (eq-eqb place.link place.link refl)
      ∙ seen-twice place.side (with_near (line_at p place) e)

  pub line-other : (other : Place) → other.link ≢ place.link → line_at (with_end shape p place e n) other ≡ line_at p other
  line-other other d = ap (λ (b : Bool). seen other.side (if b then seen place.side (with_near (line_at p place) e) else p.line other.link)) (ne_eqb other.link place.link d)

  pub node-here : (with_end shape p place e n).node (point_at shape place) ≡ n
  node-here = ap (λ (b : Bool). if b then n else p.node (point_at shape place)) (eq-eqb (point_at shape place) (point_at shape place) refl)

-- ---- what stays around a node

-- what is in flight on a link, who may follow, and what came
pub record IsFlownAlike (z y : Line) : Type 0 where
  pub to_far : y.to_far ≡ z.to_far
  pub to_near : y.to_near ≡ z.to_near
  pub told_far : y.told_far ≡ z.told_far
  pub told_near : y.told_near ≡ z.told_near
  pub near_may : y.near_may_follow ≡ z.near_may_follow
  pub far_may : y.far_may_follow ≡ z.far_may_follow
  pub near_came : y.near.came ≡ z.near.came
  pub far_came : y.far.came ≡ z.far.came

pub flown-none : (z : Line) → IsFlownAlike z z
flown-none z = record { to_far = refl; to_near = refl; told_far = refl; told_near = refl; near_may = refl; far_may = refl; near_came = refl; far_came = refl }

pub flown-both : (x y z : Line) → IsFlownAlike x y → IsFlownAlike y z → IsFlownAlike x z
flown-both x y z e f = record {
  to_far = f.to_far ∙ e.to_far;
  to_near = f.to_near ∙ e.to_near;
  told_far = f.told_far ∙ e.told_far;
  told_near = f.told_near ∙ e.told_near;
  near_may = f.near_may ∙ e.near_may;
  far_may = f.far_may ∙ e.far_may;
  near_came = f.near_came ∙ e.near_came;
  far_came = f.far_came ∙ e.far_came;
}

pub flown-seen : (side : Side) (z y : Line) → IsFlownAlike z y → IsFlownAlike (seen side z) (seen side y)
flown-seen Near z y e = e
flown-seen Far z y e = record {
  to_far = e.to_near;
  to_near = e.to_far;
  told_far = e.told_near;
  told_near = e.told_far;
  near_may = e.far_may;
  far_may = e.near_may;
  near_came = e.far_came;
  far_came = e.near_came;
}

pub record StaysAround (shape : Shape) (point : ℕ) (p q : Network) : Type 0 where
  pub nodes : (other : ℕ) → other ≢ point → q.node other ≡ p.node other
  pub broken : (other : ℕ) → other ≢ point → q.broken other ≡ p.broken other
  pub flown : (link : ℕ) → IsFlownAlike (p.line link) (q.line link)
  pub ends : (link : ℕ) (side : Side) → shape.point link side ≢ point → end_at q link side ≡ end_at p link side

module _ (shape : Shape) (point : ℕ) where
  pub around-none : (p : Network) → StaysAround shape point p p
  around-none p = record { nodes = λ other d. refl; broken = λ other d. refl; flown = λ link. flown-none (p.line link); ends = λ link side d. refl }

  pub around-both : (p q r : Network) → StaysAround shape point p q → StaysAround shape point q r → StaysAround shape point p r
  around-both p q r e f = record {
    nodes = λ other d. f.nodes other d ∙ e.nodes other d;
    broken = λ other d. f.broken other d ∙ e.broken other d;
    flown = λ link. flown-both (p.line link) (q.line link) (r.line link) (e.flown link) (f.flown link);
    ends = λ link side d. f.ends link side d ∙ e.ends link side d;
  }

  pub around-node : (p : Network) (n : net.Node) → StaysAround shape point p (with_node p point n)
  around-node p n = record {
    nodes = λ other d. ap (λ (b : Bool). if b then n else p.node other) (ne_eqb other point d);
    broken = λ other d. refl;
    flown = λ link. flown-none (p.line link);
    ends = λ link side d. refl;
  }

-- a line with another near end, seen from either end
flown-near : (side : Side) (z : Line) (e : LinkEnd) → e.came ≡ (seen side z).near.came → IsFlownAlike z (seen side (with_near (seen side z) e))
flown-near Near z e same = record { to_far = refl; to_near = refl; told_far = refl; told_near = refl; near_may = refl; far_may = refl; near_came = same; far_came = refl }
flown-near Far z e same = record { to_far = refl; to_near = refl; told_far = refl; told_near = refl; near_may = refl; far_may = refl; near_came = refl; far_came = same }

other-end : (P : Side → Type 0) (side s : Side) (z : Line) (e : LinkEnd) → (P side → ⊥) → P s → (seen s (seen side (with_near (seen side z) e))).near ≡ (seen s z).near
other-end P Near Near z e unlike is = absurd (unlike is)
other-end P Near Far z e unlike is = refl
other-end P Far Near z e unlike is = refl
other-end P Far Far z e unlike is = absurd (unlike is)

module _ (shape : Shape) (p : Network) (place : Place) (e : LinkEnd) (n : net.Node) where
  abbrev after : Network
  after = with_end shape p place e n

  pub around-end : e.came ≡ (line_at p place).near.came → StaysAround shape (point_at shape place) p after
  around-end same = record {
    nodes = λ other d. ap (λ (b : Bool). if b then n else p.node other) (ne_eqb other (point_at shape place) d);
    broken = λ other d. refl;
    flown = λ link.
        ⊎_elim
        (λ (here : link ≡ place.link).
        subst (λ (l : ℕ). IsFlownAlike (p.line l) (after.line l)) (sym here)
        (subst (IsFlownAlike (p.line place.link)) (sym (ap (λ (b : Bool). if b then seen place.side (with_near (line_at p place) e) else p.line place.link) (eq-eqb place.link place.link refl))) (flown-near place.side (p.line place.link) e same)))
        (λ (d : link ≢ place.link). subst (IsFlownAlike (p.line link)) (sym (ap (λ (b : Bool). if b then seen place.side (with_near (line_at p place) e) else p.line link) (ne_eqb link place.link d))) (flown-none (p.line link)))
        (cases_eq link place.link);
    ends = λ link side d.
        ⊎_elim
        (λ (here : link ≡ place.link).
        subst (λ (l : ℕ). end_at after l side ≡ end_at p l side) (sym here)
        (ap (λ (b : Bool). (seen side (if b then seen place.side (with_near (line_at p place) e) else p.line place.link)).near) (eq-eqb place.link place.link refl)
        ∙ other-end (λ s. shape.point place.link s ≢ point_at shape place) place.side side (p.line place.link) e (λ unlike. unlike refl) (subst (λ (l : ℕ). shape.point l side ≢ point_at shape place) here d)))
        (λ (away : link ≢ place.link). ap (λ (b : Bool). (seen side (if b then seen place.side (with_near (line_at p place) e) else p.line link)).near) (ne_eqb link place.link away))
        (cases_eq link place.link);
  }

-- what stays also if the node is broken
pub around-broken : (shape : Shape) (point : ℕ) (p q : Network) → StaysAround shape point p q → StaysAround shape point p (with_broken q point)
around-broken shape point p q e = record {
  nodes = e.nodes;
  broken = λ other d. ap (λ (b : Bool). if b then true else q.broken other) (ne_eqb other point d) ∙ e.broken other d;
  flown = e.flown;
  ends = e.ends;
}
