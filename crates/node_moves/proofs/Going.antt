-- A node at work goes to another by moves.
use Rattle.node_moves.proofs.Basics.{◌≡◌, ◌≢◌, ℕ, Bool, true, false, ◌<◌, List, [], ◌∷◌, ◌++◌, length, Some, refl, ap, sym, subst, ◌∙◌, ⊎_elim, cases_eq, ne_eqb, eq-eqb, if◌then◌else◌}
use Rattle.node_moves.proofs.Machine.{Other, seen, LinkEnd, Line, Network, Shape, Place, line_at, point_at, Move, Moves, last_of}
use Rattle.node_moves.proofs.Definitions.{Message, flow_of, Configuration, IsWell, Parts, link_of}
use Rattle.node_moves.proofs.Grown.{Grown, IsUnraised, same-grown, both-grown, unraised-first, unraised-then}
use Rattle.node_moves.proofs.Reading.{IsShape, says_of}
use Rattle.node_moves.proofs.Sets.{StaysAround, around-none, around-both, around-node, around-end, around-broken, with_end, with_broken, with_node, with_near, line-here, line-other, node-here}
use Rattle.node_moves.proofs.Shown.{Mid, Shows, IsShown, IsAlike, IsSized, HasWays, IsBooked, shown-alike, place, links-apart, at-own}
use Rattle.network_moves.proofs.Lasting.{Lasts, lasts-after}
use Rattle.network_moves.specs.Lasting.{is_odd}
use Rattle.network_moves.specs.Networks as net

module _ (shape : Shape) where
  -- ---- lists of moves

  pub last-append : (p : Network) (xs ys : List Network) → last_of p (xs ++ ys) ≡ last_of (last_of p xs) ys
  last-append p [] ys = refl
  last-append p (x ∷ xs) ys = last-append x xs ys

  pub moves-append : (p : Network) (xs ys : List Network) → Moves shape says_of p xs → Moves shape says_of (last_of p xs) ys → Moves shape says_of p (xs ++ ys)
  moves-append p [] ys ms ks = ks
  moves-append p (x ∷ xs) ys ms ks = (ms.0, moves-append x xs ys ms.1 ks)

  -- ---- where moves lead

  -- a node with these settings may put a message on the link to which its routes lead, and management of which no law
  -- speaks on any
  pub record IsLed (c : Configuration) : Type 0 where
    pub routed : (p : Parts) (m : Message) (link : ℕ) → link < length c.links → HasWays c p → link_of c p (flow_of m) ≡ Some link → is_odd (says_of m) ≡ false
        → shape.leads (place c link).link (place c link).side m ≡ true
    pub others : (m : Message) (link : ℕ) → says_of m ≡ Other → shape.leads (place c link).link (place c link).side m ≡ true

  -- what holds whatever was broken does; and messages may go where the settings lead
  pub record IsAt (c : Configuration) (p : Network) : Type 0 where
    pub lasts : Lasts shape says_of p
    pub led : IsLed c

  -- a line that is none of the links of a node
  abbrev pub IsNoneOf : Configuration → (link : ℕ) → Type 0
  IsNoneOf c link = (l : ℕ) → l < length c.links → (place c l).link ≢ link

  abbrev pub is_broken : Mid → ℕ
  is_broken v = v.node.parts.times_broken

  -- moves lead there; those that break the node, only where it has counted more than so often
  pub record Arrives (c : Configuration) (times : ℕ) (p : Network) (v : Mid) : Type 0 where
    pub networks : List Network
    pub moves : Moves shape says_of p networks
    pub broken : IsUnraised times (is_broken v) → (last_of p networks).broken c.own ≡ p.broken c.own
    pub around : StaysAround shape c.own p (last_of p networks)
    pub idle : (link : ℕ) → IsNoneOf c link → (last_of p networks).line link ≡ p.line link
    pub shows : Shows c (last_of p networks) v

  pub record Goes (c : Configuration) (v w : Mid) : Type 0 where
    pub grown : Grown (is_broken v) (is_broken w)
    pub goes : (p : Network) → IsAt c p → Shows c p v → Arrives c (is_broken v) p w

  pub at-last : {times : ℕ} (c : Configuration) (p : Network) (v : Mid) (a : Arrives c times p v) → IsAt c p → IsAt c (last_of p a.networks)
  at-last c p v a h = record { lasts = lasts-after shape says_of p a.networks a.moves h.lasts; led = h.led }

  pub arrives-both : {times : ℕ} (c : Configuration) (p : Network) (v w : Mid) → Grown times (is_broken v) → Grown (is_broken v) (is_broken w) → (a : Arrives c times p v) → Arrives c (is_broken v) (last_of p a.networks) w
      → Arrives c times p w
  arrives-both c p v w e f a b = record {
    networks = a.networks ++ b.networks;
    moves = moves-append p a.networks b.networks a.moves b.moves;
    broken = λ none. ap (λ (q : Network). q.broken c.own) (last-append p a.networks b.networks) ∙ b.broken (unraised-then e f none) ∙ a.broken (unraised-first e f none);
    around = subst (StaysAround shape c.own p) (sym (last-append p a.networks b.networks)) (around-both shape c.own p (last_of p a.networks) (last_of (last_of p a.networks) b.networks) a.around b.around);
    idle = λ link h. ap (λ (q : Network). q.line link) (last-append p a.networks b.networks) ∙ b.idle link h ∙ a.idle link h;
    shows = subst (λ (q : Network). Shows c q w) (sym (last-append p a.networks b.networks)) b.shows;
  }

  pub arrives-here : {times : ℕ} (c : Configuration) (p : Network) (v : Mid) → Shows c p v → Arrives c times p v
  arrives-here c p v s = record { networks = []; moves = tt; broken = λ none. refl; around = around-none shape c.own p; idle = λ link h. refl; shows = s }

  pub arrives-one : {times : ℕ} (c : Configuration) (p q : Network) (v : Mid) → Move shape says_of p q → (IsUnraised times (is_broken v) → q.broken c.own ≡ p.broken c.own) → StaysAround shape c.own p q → ((link : ℕ) → IsNoneOf c link → q.line link ≡ p.line link) → Shows c q v → Arrives c times p v
  arrives-one c p q v m b s i h = record { networks = q ∷ []; moves = (m, tt); broken = b; around = s; idle = i; shows = h }

  pub goes-none : (c : Configuration) (v : Mid) → Goes c v v
  goes-none c v = record { grown = same-grown refl; goes = λ p h s. arrives-here c p v s }

  pub goes-both : (c : Configuration) (u v w : Mid) → Goes c u v → Goes c v w → Goes c u w
  goes-both c u v w f g = record {
    grown = both-grown f.grown g.grown;
    goes = λ p h s.
        let a : Arrives c (is_broken u) p v = f.goes p h s in
        arrives-both c p v w f.grown g.grown a (g.goes (last_of p a.networks) (at-last c p v a h) a.shows);
  }

  -- what a network that shows it says, may be asked
  pub goes-asking : (c : Configuration) (v w : Mid) → Grown (is_broken v) (is_broken w) → ((p : Network) → IsAt c p → Shows c p v → Goes c v w) → Goes c v w
  goes-asking c v w f g = record { grown = f; goes = λ p h s. (g p h s).goes p h s }

-- ---- one move

module _ (shape : Shape) (o : IsShape shape) (c : Configuration) (well : IsWell c) where
  -- the node and one of its ends are others
  pub record IsStep (p : Network) (v w : Mid) (link : ℕ) (e : LinkEnd) (x : net.Node) : Type 0 where
    pub inside : link < length c.links
    pub sized : IsSized c w.node
    pub shown : IsShown w.node link e
    pub others : (other : ℕ) → other ≢ link → IsAlike v.node w.node other
    pub came : e.came ≡ (line_at p (place c link)).near.came
    pub booked : IsBooked x w

  step-around : (p : Network) (v w : Mid) (link : ℕ) (e : LinkEnd) (x : net.Node) → IsStep p v w link e x → StaysAround shape c.own p (with_end shape p (place c link) e x)
  step-around p v w link e x i =
      subst (λ (k : ℕ). StaysAround shape k p (with_end shape p (place c link) e x)) (at-own shape o c well link) (around-end shape p (place c link) e x i.came)

  step-idle : (p : Network) (v w : Mid) (link : ℕ) (e : LinkEnd) (x : net.Node) → IsStep p v w link e x → (other : ℕ) → IsNoneOf shape c other → (with_end shape p (place c link) e x).line other ≡ p.line other
  step-idle p v w link e x i other h =
      let its : Place = place c link in
      ap (λ (b : Bool). if b then seen its.side (with_near (line_at p its) e) else p.line other) (ne_eqb other its.link (λ same. h link i.inside (sym same)))

  step-shows : (p : Network) (v w : Mid) (link : ℕ) (e : LinkEnd) (x : net.Node) → Shows c p v → IsStep p v w link e x → Shows c (with_end shape p (place c link) e x) w
  step-shows p v w link e x s i =
      let its : Place = place c link in
      let q : Network = with_end shape p its e x in
      record {
        sized = i.sized;
        ends = λ other l.
            ⊎_elim
            (λ (same : other ≡ link).
            subst (λ (k : ℕ). IsShown w.node k (line_at q (place c k)).near) (sym same) (subst (λ (z : Line). IsShown w.node link z.near) (sym (line-here shape p its e x)) i.shown))
            (λ (d : other ≢ link).
            subst (λ (z : Line). IsShown w.node other z.near) (sym (line-other shape p its e x (place c other) (links-apart c well link other i.inside l d)))
            (shown-alike v.node w.node other (line_at p (place c other)).near (i.others other d) (s.ends other l)))
            (cases_eq other link);
        booked = subst (λ (k : ℕ). IsBooked (q.node k) w) (at-own shape o c well link) (subst (λ (y : net.Node). IsBooked y w) (sym (node-here shape p its e x)) i.booked);
      }

  pub by-line : {times : ℕ} (p : Network) (v w : Mid) (link : ℕ) (e : LinkEnd) (x : net.Node) → Shows c p v → IsStep p v w link e x
      → Move shape says_of p (with_end shape p (place c link) e x) → Arrives shape c times p w
  by-line p v w link e x s i m =
      arrives-one shape c p (with_end shape p (place c link) e x) w m (λ none. refl) (step-around p v w link e x i) (step-idle p v w link e x i) (step-shows p v w link e x s i)

  -- and the node is broken
  abbrev pub breaking_end : (p : Network) (link : ℕ) → LinkEnd → net.Node → Network
  breaking_end p link e x = with_broken (with_end shape p (place c link) e x) (point_at shape (place c link))

  pub by-break : {times : ℕ} (p : Network) (v w : Mid) (link : ℕ) (e : LinkEnd) (x : net.Node) → Shows c p v → IsStep p v w link e x → (IsUnraised times (is_broken shape w) → ⊥)
      → Move shape says_of p (breaking_end p link e x) → Arrives shape c times p w
  by-break p v w link e x s i counted m =
      let q : Network = with_end shape p (place c link) e x in
      let shows : Shows c q w = step-shows p v w link e x s i in
      arrives-one shape c p (breaking_end p link e x) w m (λ none. absurd (counted none))
      (subst (λ (k : ℕ). StaysAround shape c.own p (with_broken q k)) (sym (at-own shape o c well link)) (around-broken shape c.own p q (step-around p v w link e x i)))
      (step-idle p v w link e x i) (record { sized = shows.sized; ends = shows.ends; booked = shows.booked })

  -- only the node is another
  pub by-node : {times : ℕ} (p : Network) (v w : Mid) (x : net.Node) → Shows c p v → IsSized c w.node → ((link : ℕ) → IsAlike v.node w.node link) → IsBooked x w
      → Move shape says_of p (with_node p c.own x) → Arrives shape c times p w
  by-node p v w x s sized alike booked m =
      arrives-one shape c p (with_node p c.own x) w m (λ none. refl) (around-node shape c.own p x) (λ link h. refl)
      (record {
        sized = sized;
        ends = λ link l. shown-alike v.node w.node link (line_at p (place c link)).near (alike link) (s.ends link l);
        booked = subst (λ (y : net.Node). IsBooked y w) (sym (node-is p x)) booked;
      })
    where
      node-is : (p : Network) (x : net.Node) → (with_node p c.own x).node c.own ≡ x
      node-is p x = ap (λ (b : Bool). if b then x else p.node c.own) (eq-eqb c.own c.own refl)
