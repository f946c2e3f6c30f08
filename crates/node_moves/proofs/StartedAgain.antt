-- A node that starts again: one move.
use Rattle.node_moves.proofs.Basics.{◌≡◌, ◌≢◌, ℕ, Bool, true, false, not, ◌<◌, List, [], length, count_by, nat_eq, refl, ap, sym, subst, ◌∙◌, arith, if◌then◌else◌, length-replicate, ⊎_elim, cases_eq, ne_eqb, eq-eqb}
use Rattle.node_moves.proofs.Machine.{Side, Near, Far, opposite, LinkEnd, Line, Network, Shape, turned, seen, Place, line_at, point_at, Move}
use Rattle.node_moves.proofs.Definitions.{Message, Configuration, link_at, changeover_of, first_queue, Link, down_link, Standing, no_changeover, is_down, is_in_service, peer_of}
use Rattle.node_moves.proofs.Reading.{IsShape, says_of, across}
use Rattle.node_moves.proofs.Shown.{Shows, IsShown, IsSized, IsSilent, IsBooked, is_heard, at-own}
use Rattle.node_moves.proofs.Heard.{own-apart}
use Rattle.node_moves.proofs.Ending.{peer-at, same-or, twice}
use Rattle.node_moves.proofs.Flights.{changed-here, changed-other}
use Rattle.node_moves.proofs.World.{IsFlown, AreData, AreStatuses, Shown, IsUnused, rests, place_at}
use Rattle.node_moves.specs.Anew.{restarted}
use Rattle.node_moves.specs.Outside.{ArePlaced}
use Rattle.node_moves.specs.Networks.{NetworkNode, NetworkState, IsNode, changed, first_node}
use Rattle.exchange_rules.proofs.Lists.{each-replicate}
use Rattle.network_moves.specs.Moves as moves
use Rattle.network_moves.specs.Networks as net
use Rattle.network_moves.specs.Quiet.{closed_line}
use Rattle.network_moves.specs.Returning as returning
use Rattle.network_moves.specs.Returning.{shut_end}
use Rattle.std.proofs.lemmas.List.{get_or-replicate}

-- ---- a node that was just booted

pub first-sized : (c : Configuration) → IsSized c (first_node c).node
first-sized c = record {
  links = length-replicate (length c.links) down_link;
  queues = length-replicate (length c.links) first_queue;
  changeovers = length-replicate (length c.links) no_changeover;
  silent = λ link. each-replicate IsSilent (length c.links) link down_link (record { waiting = λ gone. refl; owed = λ gone. refl });
  ways = refl;
}

pub shut-shown : (c : Configuration) (link : ℕ) (came gone : List Message) → link < length c.links → IsShown (first_node c).node link (shut_end came gone)
shut-shown c link came gone l =
    let at : link_at (first_node c).node.parts link ≡ down_link = get_or-replicate (length c.links) link down_link down_link l in
    let idle : changeover_of (first_node c).node.parts link ≡ no_changeover = get_or-replicate (length c.links) link no_changeover no_changeover l in
    record {
      queue = get_or-replicate (length c.links) link first_queue first_queue l;
      up = ap (λ (y : Link). not (is_down y.alignment)) (sym at);
      serving = ap (λ (y : Link). is_in_service y.alignment) (sym at);
      incomplete = ap (λ (s : Standing). s.incomplete) (sym idle);
      awaited = ap (λ (s : Standing). s.awaited) (sym idle);
      heard = λ h. (let no : false ≡ true = sym (ap (λ (y : Link). is_heard y.alignment) at) ∙ h in absurd cc);
    }

-- ---- lines with an end at the node

abbrev line_by : (near far : Bool) → Line → Line
line_by true far z = returning.restarted z
line_by false true z = turned (returning.restarted (turned z))
line_by false false z = z

closed-by : (near far : Bool) → line_by near far closed_line ≡ closed_line
closed-by true far = refl
closed-by false true = refl
closed-by false false = refl

abbrev is_at : Side → (near far : Bool) → Bool
is_at Near near far = near
is_at Far near far = far

-- what another end sees of it stays
record IsSeenAlike (z y : Line) : Type 0 where
  near : y.near ≡ z.near
  to_near : y.to_near ≡ z.to_near
  told_near : y.told_near ≡ z.told_near
  near_may : y.near_may_follow ≡ z.near_may_follow
  far_came : y.far.came ≡ z.far.came

module _ (shape : Shape) (x : ℕ) where
  abbrev has_end : (link : ℕ) → Side → Bool
  has_end link side = nat_eq (shape.point link side) x

  abbrev line_of : Network → (link : ℕ) → Line
  line_of p link = line_by (has_end link Near) (has_end link Far) (p.line link)

  here-by : (link : ℕ) (side : Side) (z : Line) → shape.point link side ≡ x → shape.point link (opposite side) ≢ x → seen side (line_by (has_end link Near) (has_end link Far) z) ≡ returning.restarted (seen side z)
  here-by link Near z e d = ap (λ (b : Bool). line_by b (has_end link Far) z) (eq-eqb (shape.point link Near) x e)
  here-by link Far z e d =
      ap (λ (b : Bool). turned (line_by b (has_end link Far) z)) (ne_eqb (shape.point link Near) x d)
      ∙ ap (λ (b : Bool). turned (line_by false b z)) (eq-eqb (shape.point link Far) x e)

  away-by : (near far : Bool) (side : Side) (z : Line) → is_at side near far ≡ false → IsSeenAlike (seen side z) (seen side (line_by near far z))
  away-by near far side z e = by side near far e
    where
      by : (side : Side) (near far : Bool) → is_at side near far ≡ false → IsSeenAlike (seen side z) (seen side (line_by near far z))
      by Near true far e = absurd cc
      by Near false true e = record { near = refl; to_near = refl; told_near = refl; near_may = refl; far_came = refl }
      by Near false false e = record { near = refl; to_near = refl; told_near = refl; near_may = refl; far_came = refl }
      by Far true true e = absurd cc
      by Far true false e = record { near = refl; to_near = refl; told_near = refl; near_may = refl; far_came = refl }
      by Far false true e = absurd cc
      by Far false false e = record { near = refl; to_near = refl; told_near = refl; near_may = refl; far_came = refl }

module _ (settings : (point : ℕ) → Configuration) (t : ArePlaced settings) (shape : Shape) (o : IsShape shape) where
  -- no link has both its ends at one node
  never-both : (k : ℕ) (side : Side) → shape.point k side ≡ shape.point k (opposite side) → IsUnused settings t k
  never-both k side same y l fy inside at =
      let its : Place = place_at settings t y l in
      let here : shape.point k its.side ≡ y = ap (λ (j : ℕ). shape.point j its.side) (sym at) ∙ at-own shape o (settings y) (t.well y fy) l ∙ t.own y fy in
      let there : shape.point k (opposite its.side) ≡ peer_of (settings y) l = ap (λ (j : ℕ). shape.point j (opposite its.side)) (sym at) ∙ peer-at settings t shape o y l fy in
      let both : shape.point k its.side ≡ shape.point k (opposite its.side) =
      ⊎_elim
      (λ (e : its.side ≡ side). ap (shape.point k) e ∙ same ∙ ap (λ (s : Side). shape.point k (opposite s)) (sym e))
      (λ (e : its.side ≡ opposite side). ap (shape.point k) e ∙ sym same ∙ ap (shape.point k) (sym (ap opposite e ∙ twice side)))
      (same-or its.side side) in
      own-apart (settings y) (t.well y fy) l (t.own y fy ∙ sym here ∙ both ∙ there)

  module _ (w : NetworkState) (p : Network) (s : Shown settings t w p) (x : ℕ) (fx : IsNode settings x) where
    abbrev c : Configuration
    c = settings x

    -- its books in the machine stay, but for what it named
    abbrev booted : net.Node
    booted = record (p.node x) { bag = []; named = [] }

    abbrev pub after : Network
    after = record {
      node = λ i. if nat_eq i x then booted else p.node i;
      line = λ k. line_of shape x p k;
      broken = λ i. if nat_eq i x then true else p.broken i;
    }

    abbrev v : NetworkState
    v = changed x (restarted c) w

    node-here : after.node x ≡ booted
    node-here = ap (λ (b : Bool). if b then booted else p.node x) (eq-eqb x x refl)

    node-other : (i : ℕ) → i ≢ x → after.node i ≡ p.node i
    node-other i d = ap (λ (b : Bool). if b then booted else p.node i) (ne_eqb i x d)

    -- ---- lines

    line-here : (place : Place) → point_at shape place ≡ x → line_at after place ≡ returning.restarted (line_at p place)
    line-here place e =
        ⊎_elim
        (λ (both : point_at shape (across place) ≡ x).
        let unused : p.line place.link ≡ closed_line = s.idle place.link (never-both place.link place.side (e ∙ sym both)) in
        ap (λ (z : Line). seen place.side (line_by (has_end shape x place.link Near) (has_end shape x place.link Far) z)) unused
        ∙ ap (seen place.side) (closed-by (has_end shape x place.link Near) (has_end shape x place.link Far)) ∙ closed-seen place.side ∙ ap (λ (z : Line). returning.restarted (seen place.side z)) (sym unused))
        (λ (d : point_at shape (across place) ≢ x). here-by shape x place.link place.side (p.line place.link) e d)
        (cases_eq (point_at shape (across place)) x)
      where
        closed-seen : (side : Side) → seen side closed_line ≡ returning.restarted (seen side closed_line)
        closed-seen Near = refl
        closed-seen Far = refl

    at-side : (link : ℕ) (side : Side) → is_at side (has_end shape x link Near) (has_end shape x link Far) ≡ has_end shape x link side
    at-side link Near = refl
    at-side link Far = refl

    line-away : (place : Place) → point_at shape place ≢ x → IsSeenAlike (line_at p place) (line_at after place)
    line-away place d =
        away-by shape x (has_end shape x place.link Near) (has_end shape x place.link Far) place.side (p.line place.link) (at-side place.link place.side ∙ ne_eqb (point_at shape place) x d)

    place-point : (y l : ℕ) → IsNode settings y → point_at shape (place_at settings t y l) ≡ y
    place-point y l fy = at-own shape o (settings y) (t.well y fy) l ∙ t.own y fy

    -- ---- what shows

    here-shows : Shows c after (rests settings t (restarted c (w.node x)))
    here-shows = record {
      sized = first-sized c;
      ends = λ link l.
          subst (λ (z : Line). IsShown (first_node c).node link z.near) (sym (line-here (place_at settings t x link) (place-point x link fx)))
          (shut-shown c link (line_at p (place_at settings t x link)).near.came (line_at p (place_at settings t x link)).near.gone l);
      booked =
          subst (λ (i : ℕ). IsBooked (after.node i) (rests settings t (restarted c (w.node x)))) (sym (t.own x fx))
          (subst (λ (n : net.Node). IsBooked n (rests settings t (restarted c (w.node x)))) (sym node-here)
          (let b : IsBooked (p.node x) (rests settings t (w.node x)) = subst (λ (i : ℕ). IsBooked (p.node i) (rests settings t (w.node x))) (t.own x fx) (s.nodes x fx).booked in
          record { bag = λ test. refl; accepted = b.accepted; named = omega arith; within = λ test. omega arith }));
    }

    other-shows : (y : ℕ) → IsNode settings y → y ≢ x → Shows (settings y) after (rests settings t (w.node y))
    other-shows y fy d =
        let h : Shows (settings y) p (rests settings t (w.node y)) = s.nodes y fy in
        record {
          sized = h.sized;
          ends = λ link l.
              subst (λ (e : LinkEnd). IsShown (w.node y).node link e) (sym (line-away (place_at settings t y link) (λ same. d (sym (place-point y link fy) ∙ same))).near) (h.ends link l);
          booked = subst (λ (n : net.Node). IsBooked n (rests settings t (w.node y))) (sym (node-other (settings y).own (λ same. d (sym (t.own y fy) ∙ same)))) h.booked;
        }

    here-flown : (link : ℕ) → link < length c.links → IsFlown (restarted c (w.node x)) link (line_at after (place_at settings t x link))
    here-flown link l =
        subst (IsFlown (restarted c (w.node x)) link) (sym (line-here (place_at settings t x link) (place-point x link fx)))
        (record { user_data = tt; statuses = tt; follows = refl; came = (s.flown x link fx l).came })

    other-flown : (y link : ℕ) → IsNode settings y → y ≢ x → link < length (settings y).links → IsFlown (w.node y) link (line_at after (place_at settings t y link))
    other-flown y link fy d l =
        let a : IsSeenAlike (line_at p (place_at settings t y link)) (line_at after (place_at settings t y link)) = line-away (place_at settings t y link) (λ same. d (sym (place-point y link fy) ∙ same)) in
        let f : IsFlown (w.node y) link (line_at p (place_at settings t y link)) = s.flown y link fy l in
        record {
          user_data = subst (AreData ((w.node y).user_data link)) (sym a.to_near) f.user_data;
          statuses = subst (AreStatuses ((w.node y).statuses link)) (sym a.told_near) f.statuses;
          follows = f.follows ∙ sym a.near_may;
          came = λ test. ap (count_by test) a.far_came ∙ f.came test;
        }

    pub restart-shown : Shown settings t v after
    restart-shown = record {
      nodes = λ y fy.
          ⊎_elim
          (λ (same : y ≡ x).
          subst (λ (i : ℕ). Shows (settings i) after (rests settings t (v.node i))) (sym same)
          (subst (λ (e : NetworkNode). Shows c after (rests settings t e)) (sym (changed-here x (restarted c) w)) here-shows))
          (λ (d : y ≢ x). subst (λ (e : NetworkNode). Shows (settings y) after (rests settings t e)) (sym (changed-other x (restarted c) w y d)) (other-shows y fy d))
          (cases_eq y x);
      flown = λ y l fy k.
          ⊎_elim
          (λ (same : y ≡ x).
          subst (λ (i : ℕ). IsFlown (v.node i) l (line_at after (place_at settings t i l))) (sym same)
          (subst (λ (e : NetworkNode). IsFlown e l (line_at after (place_at settings t x l))) (sym (changed-here x (restarted c) w)) (here-flown l (subst (λ (i : ℕ). l < length (settings i).links) same k))))
          (λ (d : y ≢ x). subst (λ (e : NetworkNode). IsFlown e l (line_at after (place_at settings t y l))) (sym (changed-other x (restarted c) w y d)) (other-flown y l fy d k))
          (cases_eq y x);
      idle = λ link unused.
          ap (line_by (has_end shape x link Near) (has_end shape x link Far)) (s.idle link unused) ∙ closed-by (has_end shape x link Near) (has_end shape x link Far);
    }

    pub restart-move : Move shape says_of p after
    restart-move = moves.starts_again (record {
      point = x;
      empty = ap (λ (n : net.Node). n.bag) node-here;
      others = node-other;
      ends = line-here;
      lines = λ link near far.
          ap (λ (b : Bool). line_by b (has_end shape x link Far) (p.line link)) (ne_eqb (shape.point link Near) x near) ∙ ap (λ (b : Bool). line_by false b (p.line link)) (ne_eqb (shape.point link Far) x far);
      broken = ap (λ (b : Bool). if b then true else p.broken x) (eq-eqb x x refl);
      others_broken = λ i d. ap (λ (b : Bool). if b then true else p.broken i) (ne_eqb i x d);
    })

    pub restart-broken : (i : ℕ) → i ≢ x → after.broken i ≡ p.broken i
    restart-broken i d = ap (λ (b : Bool). if b then true else p.broken i) (ne_eqb i x d)
