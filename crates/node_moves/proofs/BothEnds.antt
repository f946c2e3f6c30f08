-- What is in flight to both ends of a link changes, and the node at one of them.
use Rattle.node_moves.proofs.Basics.{◌≡◌, ◌≢◌, ℕ, true, ◌&&◌, ◌^◌, ◌<◌, nat_lt, nat_tests, length, Option, Some, None, refl, ap, sym, subst, ◌∙◌, arith, ⊎_elim, cases_eq}
use Rattle.node_moves.proofs.Machine.{Line, Network, Shape, Place, turned, line_at, point_at}
use Rattle.node_moves.proofs.Definitions.{Configuration, Node, WholeQueues, entry_of, peer_of, set_of}
use Rattle.node_moves.proofs.Reading.{IsShape, place_of, places-apart, across, other-place}
use Rattle.node_moves.proofs.Shown.{Mid, IsShown, IsAlike, IsSized, IsBooked, links-apart, at-own}
use Rattle.node_moves.proofs.Heard.{IsNamed, code-link, own-apart}
use Rattle.node_moves.proofs.World.{IsFlown, ShownAt, place_at, rests}
use Rattle.node_moves.proofs.Relining.{reline, with_line}
use Rattle.node_moves.proofs.Flights.{IsSameFlight, same-flight}
use Rattle.node_moves.specs.Networks.{NetworkNode, NetworkState, LinkEnd, IsNode, points, other_end}
use Rattle.node_moves.specs.Outside.{ArePlaced}
use Rattle.exchange_rules.proofs.MadeManagement.{code-fits, adjacent-fits}
use Rattle.exchange_rules.proofs.NamedLinks.{link-named}
use Rattle.exchange_rules.specs.Messages.{link_with_code}
use Rattle.network_moves.specs.Networks as net
use Rattle.std.specs.Option.{option_map}

module _ (settings : (point : ℕ) → Configuration) (t : ArePlaced settings) (shape : Shape) (o : IsShape shape) where
  -- ---- the other end of a link

  pub record IsOther (x link : ℕ) (there : LinkEnd) : Type 0 where
    pub within : IsNode settings there.point
    pub apart : there.point ≢ x
    pub inside : there.link < length (settings there.point).links
    pub place : place_at settings t there.point there.link ≡ across (place_at settings t x link)

  is-there : (a n l : ℕ) → a < 2 ^ 14 → l < n → (nat_lt a points && nat_lt 0 n) ≡ true
  is-there a n l fits k = grind (arith, nat_tests, fits, k)

  -- there is a node at the point that a link leads to, if that has a link
  peer-within : (x link l : ℕ) → IsNode settings x → l < length (settings (peer_of (settings x) link)).links → IsNode settings (peer_of (settings x) link)
  peer-within x link l fx k =
      is-there (peer_of (settings x) link) (length (settings (peer_of (settings x) link)).links) l (adjacent-fits (settings x) (t.well x fx) (set_of (settings x) link)) k

  pub is-other : (x link : ℕ) (there : LinkEnd) → IsNode settings x → link < length (settings x).links → other_end settings x link ≡ Some there → IsOther x link there
  is-other x link there fx inside e = by (link_with_code (settings (peer_of (settings x) link)) x (entry_of (settings x) link).slc) refl e
    where
      y : ℕ
      y = peer_of (settings x) link

      slc : ℕ
      slc = (entry_of (settings x) link).slc

      named : (l : ℕ) → link_with_code (settings y) x slc ≡ Some l → IsOther x link (record { point = y; link = l })
      named l f =
          let h : IsNamed (settings y) x slc l = code-link (settings y) x slc l f in
          let fy : IsNode settings y = peer-within x link l fx h.inside in
          record {
            within = fy;
            apart = λ same. own-apart (settings x) (t.well x fx) link (t.own x fx ∙ sym same);
            inside = h.inside;
            place =
                ap (λ (k : ℕ). place_of k (peer_of (settings y) l) (entry_of (settings y) l).slc) (t.own y fy)
                ∙ ap (λ (k : ℕ). place_of y k (entry_of (settings y) l).slc) (h.peer ∙ sym (t.own x fx))
                ∙ ap (λ (k : ℕ). place_of y (settings x).own k) h.code
                ∙ other-place (settings x).own y slc (own-apart (settings x) (t.well x fx) link);
          }

      by : (q : Option ℕ) → link_with_code (settings y) x slc ≡ q → option_map (λ other. record { point = y; link = other }) q ≡ Some there → IsOther x link there
      by (Some l) f g = subst (IsOther x link) (let same : record { point = y; link = l } ≡ there = cc in same) (named l f)
      by None f g = absurd cc

  -- an end that is across is that one
  across-point : (x link point i : ℕ) → IsNode settings x → IsNode settings point → place_at settings t point i ≡ across (place_at settings t x link) → point ≡ peer_of (settings x) link
  across-point x link point i fx fp e =
      let c : Configuration = settings x in
      let there : place_of (peer_of c link) c.own (entry_of c link).slc ≡ across (place_at settings t x link) = other-place c.own (peer_of c link) (entry_of c link).slc (own-apart c (t.well x fx) link) in
      sym (t.own point fp) ∙ sym (at-own shape o (settings point) (t.well point fp) i) ∙ ap (point_at shape) (e ∙ sym there)
      ∙ o.points (peer_of c link) c.own (entry_of c link).slc (adjacent-fits c (t.well x fx) (set_of c link)) (t.well x fx).own (code-fits c (t.well x fx) link)

  -- and each end that is across is the other one
  pub across-named : (x link point i : ℕ) → IsNode settings x → IsNode settings point → i < length (settings point).links → place_at settings t point i ≡ across (place_at settings t x link)
      → other_end settings x link ≡ Some (record { point = point; link = i })
  across-named x link point i fx fp il e =
      let c : Configuration = settings x in
      let y : ℕ = peer_of c link in
      let d : Configuration = settings y in
      let slc : ℕ = (entry_of c link).slc in
      let same : point ≡ y = across-point x link point i fx fp e in
      let fy : IsNode settings y = subst (IsNode settings) same fp in
      let inside : i < length d.links = subst (λ (j : ℕ). i < length (settings j).links) same il in
      let at : place_at settings t y i ≡ across (place_at settings t x link) = ap (λ (j : ℕ). place_at settings t j i) (sym same) ∙ e in
      let there : place_of y c.own slc ≡ across (place_at settings t x link) = other-place c.own y slc (own-apart c (t.well x fx) link) in
      let linked : (place_of y (peer_of d i) (entry_of d i).slc).link ≡ (place_of y c.own slc).link =
      ap (λ (k : ℕ). (place_of k (peer_of d i) (entry_of d i).slc).link) (sym (t.own y fy)) ∙ ap (λ (q : Place). q.link) (at ∙ sym there) in
      let both : (peer_of d i ≡ c.own) × ((entry_of d i).slc ≡ slc) =
      places-apart y (peer_of d i) c.own (entry_of d i).slc slc (adjacent-fits c (t.well x fx) (set_of c link)) (adjacent-fits d (t.well y fy) (set_of d i)) (t.well x fx).own
      (code-fits d (t.well y fy) i) (code-fits c (t.well x fx) link) linked in
      let named : link_with_code d x slc ≡ Some i =
      ap (λ (k : ℕ). link_with_code d k slc) (sym (both.0 ∙ t.own x fx)) ∙ ap (link_with_code d (peer_of d i)) (sym both.1) ∙ link-named d (t.well y fy) i inside in
      ap (option_map (λ other. record { point = y; link = other })) named ∙ ap (λ (j : ℕ). Some (record { point = j; link = i })) (sym same)

  pub only-other : (x link point i : ℕ) (there : LinkEnd) → IsNode settings x → IsNode settings point → i < length (settings point).links → IsOther x link there → place_at settings t point i ≡ across (place_at settings t x link)
      → (point ≡ there.point) × (i ≡ there.link)
  only-other x link point i there fx fp k h e =
      let same : point ≡ there.point = across-point x link point i fx fp e ∙ sym (across-point x link there.point there.link fx h.within h.place) in (
        same,
        ⊎_elim (λ (is : i ≡ there.link). is)
            (λ (d : i ≢ there.link).
            absurd (links-apart (settings there.point) (t.well there.point h.within) there.link i h.inside (subst (λ (j : ℕ). i < length (settings j).links) same k) d
            (ap (λ (q : Place). q.link) (ap (λ (j : ℕ). place_at settings t j i) (sym same) ∙ e ∙ sym h.place))))
            (cases_eq i there.link),
      )

  -- ---- both ends

  pub record OnlyBoth (w v : NetworkState) (x link : ℕ) (there : LinkEnd) : Type 0 where
    pub nodes : (i : ℕ) → i ≢ x → i ≢ there.point → v.node i ≡ w.node i
    pub rest : rests settings t (v.node there.point) ≡ rests settings t (w.node there.point)
    pub here : (i : ℕ) → i ≢ link → IsSameFlight (w.node x) (v.node x) i
    pub away : (i : ℕ) → i ≢ there.link → IsSameFlight (w.node there.point) (v.node there.point) i

  pub reline-both : (w v : NetworkState) (x link : ℕ) (there : LinkEnd) (m u : Mid) (p : Network) (z : Line) (n : net.Node) → IsNode settings x → ShownAt settings t w x m p → IsOther x link there → OnlyBoth w v x link there
      → ((k : Node WholeQueues) (l : ℕ) → IsShown k l (line_at p (place_at settings t x link)).far → IsShown k l z.far) → link < length (settings x).links → IsSized (settings x) u.node → IsShown u.node link z.near
      → ((l : ℕ) → l ≢ link → IsAlike m.node u.node l) → IsBooked n u → IsFlown (v.node x) link z
      → (IsFlown (w.node there.point) there.link (turned (line_at p (place_at settings t x link))) → IsFlown (v.node there.point) there.link (turned z))
      → ShownAt settings t v x u (with_line shape p (place_at settings t x link) z n)
  reline-both w v x link there m u p z n fx s h b far inside sized near others booked flown back =
      let y : Line = line_at p (place_at settings t x link) in
      reline settings t shape o w v x link m u p z n fx s (record {
        inside = inside;
        sized = sized;
        near = near;
        others = others;
        booked = booked;
        far = far;
        nodes = λ i d.
            ⊎_elim
            (λ (same : i ≡ there.point). subst (λ (j : ℕ). rests settings t (v.node j) ≡ rests settings t (w.node j)) (sym same) b.rest)
            (λ (apart : i ≢ there.point). ap (rests settings t) (b.nodes i d apart))
            (cases_eq i there.point);
        flown = flown;
        flown_far = λ point i fp k e before.
            let same : (point ≡ there.point) × (i ≡ there.link) = only-other x link point i there fx fp k h e in
            subst (λ (j : ℕ). IsFlown (v.node j) i (turned z)) (sym same.0)
            (subst (λ (g : ℕ). IsFlown (v.node there.point) g (turned z)) (sym same.1)
            (back (subst (λ (g : ℕ). IsFlown (w.node there.point) g (turned y)) same.1 (subst (λ (j : ℕ). IsFlown (w.node j) i (turned y)) same.0 before))));
        flown_others = λ point i fp k apart q before.
            ⊎_elim
            (λ (same : point ≡ x).
            let d : i ≢ link = λ it. apart (ap (λ (j : ℕ). (place_at settings t j i).link) same ∙ ap (λ (g : ℕ). (place_at settings t x g).link) it) in
            subst (λ (j : ℕ). IsFlown (v.node j) i q) (sym same) (same-flight (w.node x) (v.node x) i q (b.here i d) (subst (λ (j : ℕ). IsFlown (w.node j) i q) same before)))
            (λ (d : point ≢ x).
            ⊎_elim
            (λ (same : point ≡ there.point).
            let e : i ≢ there.link = λ it. apart (ap (λ (q : Place). q.link) (ap (λ (j : ℕ). place_at settings t j i) same ∙ ap (place_at settings t there.point) it ∙ h.place)) in
            subst (λ (j : ℕ). IsFlown (v.node j) i q) (sym same)
            (same-flight (w.node there.point) (v.node there.point) i q (b.away i e) (subst (λ (j : ℕ). IsFlown (w.node j) i q) same before)))
            (λ (away : point ≢ there.point). subst (λ (g : NetworkNode). IsFlown g i q) (sym (b.nodes point d away)) before)
            (cases_eq point there.point))
            (cases_eq point x);
      })
