-- A network of moves whose books begin: it shows the same nodes, and where nothing is left between two of them nothing of
-- the two is left in it.
use Rattle.node_moves.proofs.Basics.{◌≡◌, ◌≢◌, ◌⊎◌, inl, inr, ℕ, zero, suc, Bool, true, false, not, ◌&&◌, ◌+◌, ◌^◌, ◌≤◌, ◌<◌, List, [], ◌∷◌, length, Some, count_by, nat_eq, nat_lt, refl, ap, sym, subst, ◌∙◌, arith, ⊎_elim, cases_eq, eqb-true, true≢false}
use Rattle.std.specs.Prelude.{is_some}
use Rattle.node_moves.proofs.Machine.{Side, Near, Far, opposite, Phase, Live, Moved, Gone, LinkEnd, Line, Network, Shape, turned, seen, Place, line_at, one_if, IsEnd}
use Rattle.node_moves.proofs.Definitions.{Message, Configuration, Queue, WINDOW, dpc_of, is_management, service_indicator, testing, peer_of}
use Rattle.node_moves.proofs.Reading.{IsShape, place_by, place_of, says_by, says_of, is_long}
use Rattle.node_moves.proofs.Shown.{Shows, IsShown, IsBooked, shown_in, at-own}
use Rattle.node_moves.proofs.Heard.{never-odd, own-apart}
use Rattle.node_moves.proofs.World.{IsFlown, Shown, IsUnused, rests, place_at}
use Rattle.node_moves.proofs.Relining.{across-line}
use Rattle.node_moves.proofs.BothEnds.{IsOther, is-other}
use Rattle.node_moves.proofs.Ending.{no-link, the-other}
use Rattle.node_moves.proofs.Running.{all_points, point_by}
use Rattle.node_moves.proofs.Closed.{either-true, is_one_of, for_one_of, concerning, hop_points, are-hop, point-far, says-same, each-true, both-true}
use Rattle.node_moves.specs.Anew.{IsQuietEnd, NothingIsLeft, begun_anew, is_for_either}
use Rattle.node_moves.specs.Outside.{ArePlaced}
use Rattle.node_moves.specs.Networks.{NetworkNode, NetworkState, IsNode, other_end}
use Rattle.node_moves.specs.Networks as of_nodes
use Rattle.link.proofs.Sound.{sound-emptied}
use Rattle.network_moves.proofs.Apart.{IsApart, IsApartLine}
use Rattle.network_moves.proofs.Counts.{count-cons}
use Rattle.network_moves.proofs.First.{quiet-first}
use Rattle.network_moves.proofs.Lasting.{Lasts, LastsLine, lasts-at}
use Rattle.network_moves.proofs.Masking.{within-side}
use Rattle.network_moves.specs.Groups as groups
use Rattle.network_moves.specs.Groups.{is_within, is_left, IsClear, says_of_group}
use Rattle.network_moves.specs.Lasting.{is_odd, odd}
use Rattle.network_moves.specs.Quiet.{IsAtRest, IsClosed}
use Rattle.network_moves.specs.Returning.{MayOpen}

-- ---- ends and lines whose books begin

abbrev pub settled : LinkEnd → LinkEnd
settled e = record e { queue = shown_in e.phase e.queue; phase = Live; came = []; gone = [] }

abbrev pub settled_line : Line → Line
settled_line z = record z { near = settled z.near; far = settled z.far }

abbrev pub begun : Network → Network
begun p = record {
  node = λ i. record (p.node i) { submitted = []; accepted = []; ended = []; gone = []; named = [] };
  line = λ k. settled_line (p.line k);
  broken = λ i. false;
}

seen-settled : (side : Side) (z : Line) → seen side (settled_line z) ≡ settled_line (seen side z)
seen-settled Near z = refl
seen-settled Far z = refl

shown-fewer : (test : Message → Bool) (phase : Phase) (q : Queue) → count_by test (shown_in phase q).all ≤ count_by test q.all
shown-fewer test Live q = omega arith
shown-fewer test Moved q = omega arith
shown-fewer test Gone q = omega arith

settled-by : (phase : Phase) (e : LinkEnd) → e.phase ≡ phase → IsEnd e → IsEnd (record e { queue = shown_in phase e.queue; phase = Live; came = []; gone = [] })
settled-by Live e is h = record {
  queue = h.queue;
  base = h.base;
  serving = h.serving;
  incomplete = h.incomplete;
  awaited = h.awaited;
  live_up = λ f. refl;
  live_incomplete = λ f. refl;
  idle = λ l f. h.idle is f;
}
settled-by Moved e is h = record {
  queue = sound-emptied WINDOW e.queue h.queue.limit;
  base = refl;
  serving = h.serving;
  incomplete = h.incomplete;
  awaited = h.awaited;
  live_up = λ f. refl;
  live_incomplete = λ f. refl;
  idle = λ l f. refl;
}
settled-by Gone e is h = record {
  queue = sound-emptied WINDOW e.queue h.queue.limit;
  base = refl;
  serving = h.serving;
  incomplete = h.incomplete;
  awaited = h.awaited;
  live_up = λ f. refl;
  live_incomplete = λ f. refl;
  idle = λ l f. refl;
}

end-settled : (e : LinkEnd) → IsEnd e → IsEnd (settled e)
end-settled e h = settled-by e.phase e refl h

-- ---- what shows, and lasts

module _ (settings : (point : ℕ) → Configuration) (t : ArePlaced settings) (w : NetworkState) (p : Network) (s : Shown settings t w p) where
  line-begun : (place : Place) → line_at (begun p) place ≡ settled_line (line_at p place)
  line-begun place = seen-settled place.side (p.line place.link)

  pub begun-shown : Shown settings t (begun_anew w) (begun p)
  begun-shown = record {
    nodes = λ y fy.
        let h : Shows (settings y) p (rests settings t (w.node y)) = s.nodes y fy in
        record {
          sized = h.sized;
          ends = λ l k.
              subst (λ (z : Line). IsShown (w.node y).node l z.near) (sym (line-begun (place_at settings t y l)))
              (let x : IsShown (w.node y).node l (line_at p (place_at settings t y l)).near = h.ends l k in
              record { queue = x.queue; up = x.up; serving = x.serving; incomplete = x.incomplete; awaited = x.awaited; heard = x.heard });
          booked = record { bag = h.booked.bag; accepted = λ test. omega arith; named = omega arith; within = λ test. omega arith };
        };
    flown = λ y l fy k.
        subst (IsFlown ((begun_anew w).node y) l) (sym (line-begun (place_at settings t y l)))
        (let f : IsFlown (w.node y) l (line_at p (place_at settings t y l)) = s.flown y l fy k in
        record { user_data = f.user_data; statuses = f.statuses; follows = f.follows; came = λ test. refl });
    idle = λ link unused. ap settled_line (s.idle link unused);
  }

-- the same holds whatever was broken
pub begun-lasts : (shape : Shape) (p : Network) → Lasts shape says_of p → Lasts shape says_of (begun p)
begun-lasts shape p h = record {
  bags = h.bags;
  lines = λ link.
      let l : LastsLine shape says_of (p.line link) = h.lines link in
      record {
        near = end-settled (p.line link).near l.near;
        far = end-settled (p.line link).far l.far;
        near_plain = omega (arith, l.near_plain, shown-fewer (odd says_of) (p.line link).near.phase (p.line link).near.queue);
        far_plain = omega (arith, l.far_plain, shown-fewer (odd says_of) (p.line link).far.phase (p.line link).far.queue);
        to_far = l.to_far;
        to_near = l.to_near;
      };
}

module _ (near far : ℕ) where
  -- ---- messages that concern the two

  abbrev group : ℕ → Bool
  group = is_one_of near far

  abbrev within : (link : ℕ) → Bool
  within link = is_within (hop_points near far) says_of group (for_one_of near far) link

  both-ends : (first : Bool) (opc dpc slc : ℕ) → opc < 2 ^ 14 → dpc < 2 ^ 14 → slc < 2 ^ 4
      → (group (point_by Near (place_by first opc dpc slc).link) && group (point_by Far (place_by first opc dpc slc).link)) ≡ true → (group opc ≡ true) × (group dpc ≡ true)
  both-ends true opc dpc slc a b d e =
      let one : point_by Near (place_by true opc dpc slc).link ≡ opc = omega (arith, a, b, d) in
      let two : point_by Far (place_by true opc dpc slc).link ≡ dpc = omega (arith, a, b, d) in
      let each : (group (point_by Near (place_by true opc dpc slc).link) ≡ true) × (group (point_by Far (place_by true opc dpc slc).link) ≡ true) =
      each-true (group (point_by Near (place_by true opc dpc slc).link)) (group (point_by Far (place_by true opc dpc slc).link)) e in
      (subst (λ (k : ℕ). group k ≡ true) one each.0, subst (λ (k : ℕ). group k ≡ true) two each.1)
  both-ends false opc dpc slc a b d e =
      let one : point_by Near (place_by false opc dpc slc).link ≡ dpc = omega (arith, a, b, d) in
      let two : point_by Far (place_by false opc dpc slc).link ≡ opc = omega (arith, a, b, d) in
      let each : (group (point_by Near (place_by false opc dpc slc).link) ≡ true) × (group (point_by Far (place_by false opc dpc slc).link) ≡ true) =
      each-true (group (point_by Near (place_by false opc dpc slc).link)) (group (point_by Far (place_by false opc dpc slc).link)) e in
      (subst (λ (k : ℕ). group k ≡ true) two each.1, subst (λ (k : ℕ). group k ≡ true) one each.0)

  word-ends : (opc dpc slc : ℕ) → opc < 2 ^ 14 → dpc < 2 ^ 14 → slc < 2 ^ 4
      → is_within all_points says_of group (for_one_of near far) (place_of opc dpc slc).link ≡ true → (group opc ≡ true) × (group dpc ≡ true)
  unfolding all_points
  word-ends opc dpc slc a b d e = both-ends (nat_lt opc dpc) opc dpc slc a b d e

  -- a user message that is left is for one of the two
  said-between : (m : Message) → is_management m ≡ false → is_odd (says_of m) ≡ false → concerning near far m ≡ true → is_for_either near far m ≡ true
  unfolding says_of
  said-between m user even e = by (is_long m) user even (ap (λ (b : Bool). says_of_group all_points says_of group (for_one_of near far) (for_one_of near far m) (says_by (is_long m) b (nat_eq (service_indicator m) testing) m)) (sym user) ∙ e)
    where
      by : (a : Bool) → is_management m ≡ false → is_odd (says_by a (is_management m) (nat_eq (service_indicator m) testing) m) ≡ false
          → says_of_group all_points says_of group (for_one_of near far) (for_one_of near far m) (says_by a false (nat_eq (service_indicator m) testing) m) ≡ true → is_for_either near far m ≡ true
      by true f p g = absurd (true≢false (sym never-odd ∙ p))
      by false f p g = both-true (not (is_management m)) (group (dpc_of m)) (ap not f) g

  abbrev left : Message → Bool
  left = is_left (hop_points near far) says_of group (for_one_of near far) true

  left-one : (m : Message) → one_if (left m) ≤ one_if (odd says_of m) + one_if (is_for_either near far m) + one_if (is_management m)
  left-one m = by (left m) (odd says_of m) (is_management m) refl refl refl
    where
      by : (a b d : Bool) → left m ≡ a → odd says_of m ≡ b → is_management m ≡ d → one_if (left m) ≤ one_if (odd says_of m) + one_if (is_for_either near far m) + one_if (is_management m)
      by false b d e f g = omega (arith, ap one_if e)
      by true true d e f g = omega (arith, ap one_if e, ap one_if f)
      by true false true e f g = omega (arith, ap one_if e, ap one_if g)
      by true false false e f g = omega (arith, ap one_if e, ap one_if (said-between m g f (sym (says-same near far (for_one_of near far m) (says_of m)) ∙ e)))

  pub left-all : (ms : List Message) → count_by left ms ≤ count_by (odd says_of) ms + count_by (is_for_either near far) ms + count_by is_management ms
  left-all [] = omega arith
  left-all (m ∷ ms) =
      omega (arith, count-cons left m ms, count-cons (odd says_of) m ms, count-cons (is_for_either near far) m ms, count-cons is_management m ms, left-one m, left-all ms)

-- ---- nothing of the two is left

up-by : (x : NetworkNode) (link : ℕ) (e : LinkEnd) → IsShown x.node link e → IsQuietEnd x link → MayOpen e
up-by x link e s q = record { down = s.up ∙ ap not q.down; complete = s.incomplete ∙ q.complete; unawaited = s.awaited ∙ q.unawaited }

closed-by : (e : LinkEnd) → IsEnd e → MayOpen e → IsClosed (settled e)
closed-by e h m = record { end = end-settled e h; may_open = record { down = m.down; complete = m.complete; unawaited = m.unawaited }; live = refl; came = refl; gone = refl }

rests-seen : (side : Side) (z : Line) → IsAtRest (settled_line (seen side z)) → IsAtRest (settled_line z)
rests-seen Near z h = h
rests-seen Far z h = record { near = h.far; far = h.near; near_alone = h.far_alone; far_alone = h.near_alone }

-- ---- lines whose ends are quiet

module _ (settings : (point : ℕ) → Configuration) (t : ArePlaced settings) (shape : Shape) (o : IsShape shape) (w : NetworkState) (p : Network) (s : Shown settings t w p) (lasts : Lasts shape says_of p)
    (inside : (link : ℕ) → Bool)
    (there : (x link : ℕ) → IsNode settings x → link < length (settings x).links → inside (place_at settings t x link).link ≡ true → is_some (other_end settings x link) ≡ true)
    (quiet-end : (x link : ℕ) → IsNode settings x → link < length (settings x).links → inside (place_at settings t x link).link ≡ true → IsQuietEnd (w.node x) link) where
  rest-found : (x link : ℕ) → IsNode settings x → link < length (settings x).links → inside (place_at settings t x link).link ≡ true → IsAtRest (settled_line (line_at p (place_at settings t x link)))
  rest-found x link fx l e =
      let its : Place = place_at settings t x link in
      let z : Line = line_at p its in
      let other : (there : of_nodes.LinkEnd) × (other_end settings x link ≡ Some there) = the-other (other_end settings x link) (there x link fx l e) in
      let h : IsOther settings t shape o x link other.0 = is-other settings t shape o x link other.0 fx l other.1 in
      let y : ℕ = other.0.point in
      let j : ℕ = other.0.link in
      let line_there : line_at p (place_at settings t y j) ≡ turned z = ap (line_at p) h.place ∙ across-line p its in
      let away : inside (place_at settings t y j).link ≡ true = ap (λ (q : Place). inside q.link) h.place ∙ e in
      let here_quiet : IsQuietEnd (w.node x) link = quiet-end x link fx l e in
      let there_quiet : IsQuietEnd (w.node y) j = quiet-end y j h.within h.inside away in
      let far_shown : IsShown (w.node y).node j z.far = subst (λ (g : Line). IsShown (w.node y).node j g.near) line_there ((s.nodes y h.within).ends j h.inside) in
      let far_flown : IsFlown (w.node y) j (turned z) = subst (IsFlown (w.node y) j) line_there (s.flown y j h.within h.inside) in
      let line : LastsLine shape says_of z = lasts-at shape says_of p its lasts in
      record {
        near = closed-by z.near line.near (up-by (w.node x) link z.near ((s.nodes x fx).ends link l) here_quiet);
        far = closed-by z.far line.far (up-by (w.node y) j z.far far_shown there_quiet);
        near_alone = sym (s.flown x link fx l).follows ∙ here_quiet.alone;
        far_alone = sym far_flown.follows ∙ there_quiet.alone;
      }

  -- a link of a node at a line, if there is one
  find-link : (x k n : ℕ) → ((i : ℕ) × (i < n) × ((place_at settings t x i).link ≡ k)) ⊎ ((i : ℕ) → i < n → (place_at settings t x i).link ≢ k)
  find-link x k zero = inr (λ i l. absurd (omega (arith, l)))
  find-link x k (suc n) =
      ⊎_elim
      (λ (found : (i : ℕ) × (i < n) × ((place_at settings t x i).link ≡ k)). inl (found.0, omega (arith, found.1), found.2))
      (λ (none : (i : ℕ) → i < n → (place_at settings t x i).link ≢ k).
      ⊎_elim
      (λ (last : (place_at settings t x n).link ≡ k). inl (n, omega arith, last))
      (λ (d : (place_at settings t x n).link ≢ k).
      inr (λ i l. ⊎_elim (λ (same : i ≡ n). subst (λ (j : ℕ). (place_at settings t x j).link ≢ k) (sym same) d) (λ (less : i ≢ n). none i (omega (arith, l, less))) (cases_eq i n)))
      (cases_eq (place_at settings t x n).link k))
      (find-link x k n)

  pub rest-unused : (link : ℕ) → IsUnused settings t link → IsAtRest (settled_line (p.line link))
  rest-unused link unused = subst (λ (z : Line). IsAtRest (settled_line z)) (sym (s.idle link unused)) ((quiet-first says_of).lines link)

  -- one of its points has a node
  pub at-rest : (link : ℕ) → inside link ≡ true → IsNode settings (shape.point link Near) → IsAtRest (settled_line (p.line link))
  at-rest link e fx =
      let x : ℕ = shape.point link Near in
      ⊎_elim
      (λ (found : (i : ℕ) × (i < length (settings x).links) × ((place_at settings t x i).link ≡ link)).
      subst (λ (k : ℕ). IsAtRest (settled_line (p.line k))) found.2
      (rests-seen (place_at settings t x found.0).side (p.line (place_at settings t x found.0).link) (rest-found x found.0 fx found.1 (ap inside found.2 ∙ e))))
      (λ (none : (i : ℕ) → i < length (settings x).links → (place_at settings t x i).link ≢ link). rest-unused link (no-link settings t shape o x fx p s.idle link Near none refl))
      (find-link x link (length (settings x).links))

-- ---- between two nodes

module _ (settings : (point : ℕ) → Configuration) (t : ArePlaced settings) (near far : ℕ) (fn : IsNode settings near) (ff : IsNode settings far) (w : NetworkState) (p : Network) (s : Shown settings t w p)
    (lasts : Lasts (hop_points near far) says_of p) (apart : IsApart (hop_points near far) says_of (is_one_of near far) (for_one_of near far) p) (quiet : NothingIsLeft settings near far w)
    (users : (x : ℕ) → count_by is_management (w.node x).node.queues.held ≡ 0) where
  abbrev of_two : ℕ → Bool
  of_two = is_one_of near far

  abbrev inside : (link : ℕ) → Bool
  inside link = is_within (hop_points near far) says_of of_two (for_one_of near far) link

  -- what holds of both of them
  of-both : (P : ℕ → Type 0) → P near → P far → (x : ℕ) → of_two x ≡ true → P x
  of-both P a b x e =
      ⊎_elim
      (λ (is : nat_eq x near ≡ true). subst P (sym (eqb-true x near is)) a)
      (λ (is : nat_eq x far ≡ true). subst P (sym (eqb-true x far is)) b)
      (either-true (nat_eq x near) (nat_eq x far) e)

  of-node : (x : ℕ) → of_two x ≡ true → IsNode settings x
  of-node = of-both (IsNode settings) fn ff

  -- a link of one of them that leads to one of them leads to the other
  leads-over : (x y : ℕ) → IsNode settings x → ((link : ℕ) → link < length (settings x).links → peer_of (settings x) link ≡ y → IsQuietEnd (w.node x) link)
      → ((k : ℕ) → of_two k ≡ true → k ≢ x → k ≡ y) → (link : ℕ) → link < length (settings x).links → of_two (peer_of (settings x) link) ≡ true → IsQuietEnd (w.node x) link
  leads-over x y fx each only link l e =
      each link l (only (peer_of (settings x) link) e (λ same. own-apart (settings x) (t.well x fx) link (t.own x fx ∙ sym same)))

  only-far : (k : ℕ) → of_two k ≡ true → k ≢ near → k ≡ far
  only-far k e d = ⊎_elim (λ (is : nat_eq k near ≡ true). absurd (d (eqb-true k near is))) (λ (is : nat_eq k far ≡ true). eqb-true k far is) (either-true (nat_eq k near) (nat_eq k far) e)

  only-near : (k : ℕ) → of_two k ≡ true → k ≢ far → k ≡ near
  only-near k e d = ⊎_elim (λ (is : nat_eq k near ≡ true). eqb-true k near is) (λ (is : nat_eq k far ≡ true). absurd (d (eqb-true k far is))) (either-true (nat_eq k near) (nat_eq k far) e)

  quiet-end : (x : ℕ) → of_two x ≡ true → (link : ℕ) → link < length (settings x).links → of_two (peer_of (settings x) link) ≡ true → IsQuietEnd (w.node x) link
  quiet-end =
      of-both (λ x. (link : ℕ) → link < length (settings x).links → of_two (peer_of (settings x) link) ≡ true → IsQuietEnd (w.node x) link)
      (leads-over near far fn quiet.near_quiet.links only-far) (leads-over far near ff quiet.far_quiet.links only-near)

  -- ---- lines between the two

  -- where a line is between the two, a link there leads to one of them
  peer-in : (x link : ℕ) → IsNode settings x → inside (place_at settings t x link).link ≡ true → of_two (peer_of (settings x) link) ≡ true
  peer-in x link fx e =
      let its : Place = place_at settings t x link in
      subst (λ (k : ℕ). of_two k ≡ true) (point-far near far (settings x) (t.well x fx) link) (within-side (hop_points near far) says_of of_two (for_one_of near far) its.link (opposite its.side) e)

  there-is : (x link : ℕ) → IsNode settings x → link < length (settings x).links → inside (place_at settings t x link).link ≡ true → is_some (other_end settings x link) ≡ true
  there-is x link fx l e = t.joined x link fx l (of-node (peer_of (settings x) link) (peer-in x link fx e))

  at-either : (x link : ℕ) → IsNode settings x → link < length (settings x).links → inside (place_at settings t x link).link ≡ true → IsQuietEnd (w.node x) link
  at-either x link fx l e =
      let its : Place = place_at settings t x link in
      let in_it : of_two x ≡ true =
      subst (λ (k : ℕ). of_two k ≡ true) (at-own (hop_points near far) (are-hop near far) (settings x) (t.well x fx) link ∙ t.own x fx)
      (within-side (hop_points near far) says_of of_two (for_one_of near far) its.link its.side e) in
      quiet-end x in_it link l (peer-in x link fx e)

  -- ---- nodes

  held-none : (x : ℕ) → of_two x ≡ true → count_by (is_for_either near far) (w.node x).node.queues.held ≡ 0
  held-none = of-both (λ x. count_by (is_for_either near far) (w.node x).node.queues.held ≡ 0) quiet.near_quiet.held quiet.far_quiet.held

  bag-none : (x : ℕ) (b : Bool) → of_two x ≡ b → count_by (is_left (hop_points near far) says_of of_two (for_one_of near far) b) (p.node x).bag ≡ 0
  bag-none x true e =
      let fx : IsNode settings x = of-node x e in
      let b : IsBooked (p.node x) (rests settings t (w.node x)) = subst (λ (i : ℕ). IsBooked (p.node i) (rests settings t (w.node x))) (t.own x fx) (s.nodes x fx).booked in
      omega (arith, left-all near far (p.node x).bag, lasts.bags x, b.bag (is_for_either near far), held-none x e, b.bag is_management, users x)
  bag-none x false e = apart.bags x e

  clear : (link : ℕ) → inside link ≡ false → IsClear (hop_points near far) says_of of_two (for_one_of near far) link (settled_line (p.line link))
  clear link out =
      let l : IsApartLine (hop_points near far) says_of of_two (for_one_of near far) (record { link = link; side = Near }) (p.line link) = apart.lines link out in
      let left_by : (side : Side) → Message → Bool = λ side. is_left (hop_points near far) says_of of_two (for_one_of near far) (of_two ((hop_points near far).point link side)) in
      record {
        near = omega (arith, l.near, shown-fewer (left_by Near) (p.line link).near.phase (p.line link).near.queue);
        far = omega (arith, l.far, shown-fewer (left_by Far) (p.line link).far.phase (p.line link).far.queue);
        to_far = l.to_far;
        to_near = l.to_near;
      }

  pub none-left : groups.NothingIsLeft (hop_points near far) says_of of_two (for_one_of near far) (begun p)
  none-left = record {
    lines = λ link e. at-rest settings t (hop_points near far) (are-hop near far) w p s lasts inside there-is at-either link e (of-node ((hop_points near far).point link Near) (within-side (hop_points near far) says_of of_two (for_one_of near far) link Near e));
    bags = λ x. bag-none x (of_two x) refl;
    others = clear;
    books = λ x e. record { submitted = refl; accepted = refl; ended = refl; gone = refl; named = refl };
  }
