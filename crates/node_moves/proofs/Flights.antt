-- What is in flight to one node changes, and that node.
use Rattle.node_moves.proofs.Basics.{◌≡◌, ◌≢◌, ℕ, Bool, true, false, ◌<◌, List, length, count_by, nat_eq, refl, ap, sym, subst, ◌∙◌, if◌then◌else◌, ⊎_elim, cases_eq, ne_eqb, eq-eqb}
use Rattle.node_moves.proofs.Machine.{Side, Near, Far, opposite, Line, Network, Shape, turned, Place, line_at, node_at}
use Rattle.node_moves.proofs.Definitions.{Configuration, Node, WholeQueues}
use Rattle.node_moves.proofs.Reading.{IsShape, across}
use Rattle.node_moves.proofs.Shown.{Mid, IsShown, IsAlike, IsSized, IsBooked, links-apart}
use Rattle.node_moves.proofs.Handling.{same-ends}
use Rattle.node_moves.proofs.Failures.{node-there}
use Rattle.node_moves.proofs.World.{IsFlown, AreData, AreStatuses, ShownAt, place_at, rests}
use Rattle.node_moves.proofs.Relining.{reline, with_line}
use Rattle.node_moves.specs.Networks.{Fate, NetworkNode, NetworkState, IsNode, changed, messages_of, updated}
use Rattle.node_moves.specs.Outside.{ArePlaced}
use Rattle.network_moves.specs.Carrying.{with_statuses_left}
use Rattle.network_moves.specs.Networks as net

-- ---- nodes and their flights

-- what is in flight to a node on a link, and so on, is as of another node; and the same messages came
pub record IsSameFlight (e f : NetworkNode) (l : ℕ) : Type 0 where
  pub user_data : f.user_data l ≡ e.user_data l
  pub statuses : f.statuses l ≡ e.statuses l
  pub follows : f.follows l ≡ e.follows l
  pub came : messages_of (f.came l) ≡ messages_of (e.came l)

pub same-flight : (e f : NetworkNode) (l : ℕ) (z : Line) → IsSameFlight e f l → IsFlown e l z → IsFlown f l z
same-flight e f l z s h = record {
  user_data = subst (λ (xs : List (List ℕ)). AreData xs z.to_near) (sym s.user_data) h.user_data;
  statuses = subst (λ (xs : List (List ℕ)). AreStatuses xs z.told_near) (sym s.statuses) h.statuses;
  follows = s.follows ∙ h.follows;
  came = λ test. h.came test ∙ ap (count_by test) (sym s.came);
}

pub changed-here : (x : ℕ) (f : NetworkNode → NetworkNode) (w : NetworkState) → (changed x f w).node x ≡ f (w.node x)
changed-here x f w = ap (λ (b : Bool). if b then f (w.node x) else w.node x) (eq-eqb x x refl)

pub changed-other : (x : ℕ) (f : NetworkNode → NetworkNode) (w : NetworkState) (y : ℕ) → y ≢ x → (changed x f w).node y ≡ w.node y
changed-other x f w y d = ap (λ (b : Bool). if b then f (w.node y) else w.node y) (ne_eqb y x d)

pub updated-here : {A : Type 0} (f : ℕ → A) (link : ℕ) (x : A) → updated f link x link ≡ x
updated-here f link x = ap (λ (b : Bool). if b then x else f link) (eq-eqb link link refl)

pub updated-other : {A : Type 0} (f : ℕ → A) (link : ℕ) (x : A) (l : ℕ) → l ≢ link → updated f link x l ≡ f l
updated-other f link x l d = ap (λ (b : Bool). if b then x else f l) (ne_eqb l link d)

-- with the same messages there, the same came
pub came-alike : (f : ℕ → List Fate) (link : ℕ) (fs gs : List Fate) (l : ℕ) → messages_of fs ≡ messages_of gs → messages_of (updated f link fs l) ≡ messages_of (updated f link gs l)
came-alike f link fs gs l e = by (nat_eq l link)
  where
    by : (b : Bool) → messages_of (if b then fs else f l) ≡ messages_of (if b then gs else f l)
    by true = e
    by false = refl

-- the far side of a line stays
pub record KeepsFar (y z : Line) : Type 0 where
  pub to_far : z.to_far ≡ y.to_far
  pub told_far : z.told_far ≡ y.told_far
  pub far_may : z.far_may_follow ≡ y.far_may_follow
  pub near_came : z.near.came ≡ y.near.came
  pub far : (k : Node WholeQueues) (l : ℕ) → IsShown k l y.far → IsShown k l z.far

pub far-flown : (e : NetworkNode) (l : ℕ) (y z : Line) → KeepsFar y z → IsFlown e l (turned y) → IsFlown e l (turned z)
far-flown e l y z k h = record {
  user_data = subst (AreData (e.user_data l)) (sym k.to_far) h.user_data;
  statuses = subst (AreStatuses (e.statuses l)) (sym k.told_far) h.statuses;
  follows = h.follows ∙ sym k.far_may;
  came = λ test. ap (count_by test) k.near_came ∙ h.came test;
}

module _ (settings : (point : ℕ) → Configuration) (t : ArePlaced settings) (shape : Shape) (o : IsShape shape) where
  abbrev at_place : (x link : ℕ) → Place
  at_place x link = place_at settings t x link

  not-across : (side : Side) → side ≡ opposite side → ⊥
  not-across Near e = absurd cc
  not-across Far e = absurd cc

  -- no node is at both ends of a link
  pub apart-across : (x link l : ℕ) → IsNode settings x → link < length (settings x).links → l < length (settings x).links → at_place x l ≡ across (at_place x link) → ⊥
  apart-across x link l fx i k e =
      ⊎_elim
      (λ (same : l ≡ link). not-across (at_place x link).side (ap (λ (j : ℕ). (at_place x j).side) (sym same) ∙ ap (λ (q : Place). q.side) e))
      (λ (d : l ≢ link). links-apart (settings x) (t.well x fx) link l i k d (ap (λ (q : Place). q.link) e))
      (cases_eq l link)

  -- only the node at one end changes, and what is in flight to it
  pub record OnlyHere (w v : NetworkState) (x link : ℕ) : Type 0 where
    pub nodes : (y : ℕ) → y ≢ x → v.node y ≡ w.node y
    pub others : (l : ℕ) → l ≢ link → IsSameFlight (w.node x) (v.node x) l

  pub only-changed : (w : NetworkState) (x link : ℕ) (f : NetworkNode → NetworkNode) → ((l : ℕ) → l ≢ link → IsSameFlight (w.node x) (f (w.node x)) l) → OnlyHere w (changed x f w) x link
  only-changed w x link f s = record {
    nodes = λ y d. changed-other x f w y d;
    others = λ l d. subst (λ (e : NetworkNode). IsSameFlight (w.node x) e l) (sym (changed-here x f w)) (s l d);
  }

  pub reline-near : (w v : NetworkState) (x link : ℕ) (m u : Mid) (p : Network) (z : Line) (n : net.Node) → IsNode settings x → ShownAt settings t w x m p → OnlyHere w v x link
      → KeepsFar (line_at p (at_place x link)) z → link < length (settings x).links → IsSized (settings x) u.node → IsShown u.node link z.near → ((l : ℕ) → l ≢ link → IsAlike m.node u.node l) → IsBooked n u
      → IsFlown (v.node x) link z → ShownAt settings t v x u (with_line shape p (at_place x link) z n)
  reline-near w v x link m u p z n fx s h k inside sized near others booked flown =
      reline settings t shape o w v x link m u p z n fx s (record {
        inside = inside;
        sized = sized;
        near = near;
        others = others;
        booked = booked;
        far = k.far;
        nodes = λ y d. ap (rests settings t) (h.nodes y d);
        flown = flown;
        flown_far = λ y l fy il across_it before.
            let d : y ≢ x = λ same. apart-across x link l fx inside (subst (λ (i : ℕ). l < length (settings i).links) same il) (ap (λ (i : ℕ). at_place i l) (sym same) ∙ across_it) in
            subst (λ (e : NetworkNode). IsFlown e l (turned z)) (sym (h.nodes y d)) (far-flown (w.node y) l (line_at p (at_place x link)) z k before);
        flown_others = λ y l fy il apart q before.
            ⊎_elim
            (λ (same : y ≡ x).
            let d : l ≢ link = λ it. apart (ap (λ (i : ℕ). (at_place i l).link) same ∙ ap (λ (j : ℕ). (at_place x j).link) it) in
            subst (λ (i : ℕ). IsFlown (v.node i) l q) (sym same) (same-flight (w.node x) (v.node x) l q (h.others l d) (subst (λ (i : ℕ). IsFlown (w.node i) l q) same before)))
            (λ (d : y ≢ x). subst (λ (e : NetworkNode). IsFlown e l q) (sym (h.nodes y d)) before)
            (cases_eq y x);
      })

  -- ---- link statuses

  -- those in flight are others
  pub statuses-changed : (w v : NetworkState) (x link : ℕ) (m : Mid) (p : Network) (count : ℕ) → IsNode settings x → link < length (settings x).links → ShownAt settings t w x m p → OnlyHere w v x link
      → (v.node x).user_data link ≡ (w.node x).user_data link → (v.node x).follows link ≡ (w.node x).follows link → (v.node x).came link ≡ (w.node x).came link
      → AreStatuses ((v.node x).statuses link) count
      → ShownAt settings t v x m (with_line shape p (at_place x link) (with_statuses_left (line_at p (at_place x link)) count) (node_at shape p (at_place x link)))
  statuses-changed w v x link m p count fx inside s h data_same follows_same came_same told =
      let its : Place = at_place x link in
      let y : Line = line_at p its in
      let before : IsFlown (w.node x) link y = s.flown x link fx inside in
      reline-near w v x link m m p (with_statuses_left y count) (node_at shape p its) fx s h
      (record { to_far = refl; told_far = refl; far_may = refl; near_came = refl; far = λ k l e. e }) inside s.here.sized (s.here.ends link inside) (λ l d. same-ends m.node l)
      (subst (λ (n : net.Node). IsBooked n m) (sym (node-there shape o (settings x) (t.well x fx) p link)) s.here.booked)
      (record {
        user_data = subst (λ (xs : List (List ℕ)). AreData xs y.to_near) (sym data_same) before.user_data;
        statuses = told;
        follows = follows_same ∙ before.follows;
        came = λ test. before.came test ∙ ap (λ (fs : List Fate). count_by test (messages_of fs)) (sym came_same);
      })
