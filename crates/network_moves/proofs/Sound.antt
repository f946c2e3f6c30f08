-- What every move keeps, characterized by what it changes at one node and on one line.
use Rattle.network_moves.proofs.Basics.{◌≡◌, ◌≢◌, ℕ, Bool, true, false, ◌+◌, ◌≤◌, List, count_by, nat_eq, refl, ap, sym, subst, arith, if◌then◌else◌, ⊎_elim, cases_eq, ne_eqb, eq-eqb}
use Rattle.network_moves.proofs.Definitions.{end_at, Message, Side, Near, Far, opposite, Saying, is_awaited_by, saying, user, LinkEnd, Line, Node, Network, Shape, turned, seen, Place, line_at, point_at, node_at, waiting, given_up, one_if, NodeBecomes, LinesBecome, Becomes, on_its_way, under_way, WordsAreAwaited, WordsAreTrue, EntersOnce, sum_at}
use Rattle.network_moves.proofs.Lines.{IsLine, line-turned}
use Rattle.network_moves.proofs.Counts.{if-true, if-false, ends-but, ends-alike, way-node, way-line}
use Rattle.network_moves.proofs.Words.{untrue_of}

-- ---- what is kept

-- all messages that went onto the near end, and what became of them; and those of them that are lost, or may be
abbrev pub booked : (Message → Bool) → Line → ℕ
booked test z = count_by test z.near.came + count_by test z.near.gone + count_by test (waiting z) + count_by test (given_up z)

abbrev pub lost : (Message → Bool) → Line → ℕ
lost test z = count_by test z.near.gone + count_by test (given_up z)

module _ (shape : Shape) (read : Message → Saying) where
  pub record Balances (p : Network) (point : ℕ) : Type 0 where
    pub entered : EntersOnce shape read p point
    pub each : (test : Message → Bool) →
        count_by (user read test) (p.node point).accepted
        ≡ count_by (user read test) (p.node point).bag + count_by (user read test) (p.node point).ended + count_by (user read test) (p.node point).gone
        + sum_at shape point (booked (user read test)) p
    pub named : (test : Message → Bool) →
        count_by (user read test) (p.node point).gone + sum_at shape point (lost (user read test)) p ≤ count_by (user read test) (p.node point).named

  pub record Sound (p : Network) : Type 0 where
    pub lines : (link : ℕ) → IsLine (p.line link)
    pub awaited : WordsAreAwaited shape read p
    pub truth : WordsAreTrue shape read p
    pub books : (point : ℕ) → Balances p point

-- ---- ends of links

pub far-is : (side : Side) (z : Line) → (seen (opposite side) z).near ≡ (seen side z).far
far-is Near z = refl
far-is Far z = refl

at-end : (P : Side → LinkEnd → Type 0) (side s : Side) (z : Line) → P side z.near → P (opposite side) z.far → P s (seen s (seen side z)).near
at-end P Near Near z near far = near
at-end P Near Far z near far = far
at-end P Far Near z near far = far
at-end P Far Far z near far = near

-- what holds of each end before, and of the two of the line that changes, holds of each after
each-end : (shape : Shape) (p q : Network) (place : Place) (z : Line) → LinesBecome shape p q place z → (P : ℕ → Side → LinkEnd → Type 0) →
    ((l : ℕ) (s : Side) → l ≢ place.link → P l s (end_at p l s)) → P place.link place.side z.near → P place.link (opposite place.side) z.far →
    (l : ℕ) (s : Side) → P l s (end_at q l s)
each-end shape p q place z set P before near far l s =
    ⊎_elim
    (λ (e : l ≡ place.link).
    subst (λ (j : ℕ). P j s (end_at q j s)) (sym e)
    (subst (λ (y : Line). P place.link s (seen s y).near) (sym set.here) (at-end (P place.link) place.side s z near far)))
    (λ (d : l ≢ place.link). subst (λ (y : Line). P l s (seen s y).near) (sym (set.others l d)) (before l s d))
    (cases_eq l place.link)

line-seen : (side : Side) (z : Line) → IsLine z → IsLine (seen side z)
line-seen Near z h = h
line-seen Far z h = line-turned z h

each-line : (shape : Shape) (p q : Network) (place : Place) (z : Line) → LinesBecome shape p q place z → ((link : ℕ) → IsLine (p.line link)) → IsLine z →
    (link : ℕ) → IsLine (q.line link)
each-line shape p q place z set before here link =
    ⊎_elim
    (λ (e : link ≡ place.link). subst (λ (j : ℕ). IsLine (q.line j)) (sym e) (subst IsLine (sym set.here) (line-seen place.side z here)))
    (λ (d : link ≢ place.link). subst IsLine (sym (set.others link d)) (before link))
    (cases_eq link place.link)

if-within : (b : Bool) (m n : ℕ) → m ≤ n → (if b then m else 0) ≤ (if b then n else 0)
if-within true m n l = l
if-within false m n l = omega arith

module _ (shape : Shape) (read : Message → Saying) (p : Network) where
  pub line-there : Sound shape read p → (place : Place) → IsLine (line_at p place)
  line-there h place = line-seen place.side (p.line place.link) (h.lines place.link)

  -- what holds by the laws of words of the far end of a line
  pub far-awaited : Sound shape read p → (place : Place) →
      under_way shape (saying read (is_awaited_by place.link (opposite place.side))) p ≤ one_if (line_at p place).far.awaited
  far-awaited h place =
      subst (λ (x : LinkEnd). under_way shape (saying read (is_awaited_by place.link (opposite place.side))) p ≤ one_if x.awaited)
      (far-is place.side (p.line place.link)) (h.awaited place.link (opposite place.side))

  pub far-truth : Sound shape read p → (place : Place) →
      under_way shape (untrue_of read place.link (opposite place.side) (line_at p place).far) p ≡ 0
  far-truth h place =
      subst (λ (x : LinkEnd). under_way shape (untrue_of read place.link (opposite place.side) x) p ≡ 0)
      (far-is place.side (p.line place.link)) (h.truth place.link (opposite place.side))

  -- ---- a line changes, and the node at one end of it

  -- what a move makes and takes out of bags agrees with the flags that it leaves
  pub record Agrees (place : Place) (z : Line) (n : Node) (made looked : List Message) : Type 0 where
    pub way : (test : Message → Bool) →
        count_by test n.bag + on_its_way test z + on_its_way test (turned z) + count_by test looked
        ≤ count_by test (node_at shape p place).bag + on_its_way test (line_at p place) + on_its_way test (turned (line_at p place)) + count_by test made
    pub awaited :
        count_by (saying read (is_awaited_by place.link place.side)) made + one_if (line_at p place).near.awaited
        ≤ one_if z.near.awaited + count_by (saying read (is_awaited_by place.link place.side)) looked
    pub far_awaited :
        count_by (saying read (is_awaited_by place.link (opposite place.side))) made + one_if (line_at p place).far.awaited
        ≤ one_if z.far.awaited + count_by (saying read (is_awaited_by place.link (opposite place.side))) looked
    pub elsewhere : (l : ℕ) (s : Side) → l ≢ place.link →
        count_by (saying read (is_awaited_by l s)) made ≤ count_by (saying read (is_awaited_by l s)) looked
    pub truth : under_way shape (untrue_of read place.link place.side z.near) p + count_by (untrue_of read place.link place.side z.near) made ≡ 0
    pub far_truth : under_way shape (untrue_of read place.link (opposite place.side) z.far) p + count_by (untrue_of read place.link (opposite place.side) z.far) made ≡ 0
    pub truth_elsewhere : (l : ℕ) (s : Side) → l ≢ place.link → count_by (untrue_of read l s (end_at p l s)) made ≡ 0

  -- what it does to the books of the two nodes at the ends
  pub record Accounts (place : Place) (z : Line) (n : Node) : Type 0 where
    pub entered : (test : Message → Bool) →
        count_by (user read test) n.accepted + (count_by (user read test) (node_at shape p place).submitted + count_by (user read test) (line_at p place).far.came)
        ≡ count_by (user read test) (node_at shape p place).accepted + (count_by (user read test) n.submitted + count_by (user read test) z.far.came)
    pub far_entered : (test : Message → Bool) → count_by (user read test) z.near.came ≡ count_by (user read test) (line_at p place).near.came
    pub each : (test : Message → Bool) →
        count_by (user read test) n.accepted
        + (count_by (user read test) (node_at shape p place).bag + count_by (user read test) (node_at shape p place).ended
        + count_by (user read test) (node_at shape p place).gone + booked (user read test) (line_at p place))
        ≡ count_by (user read test) (node_at shape p place).accepted
        + (count_by (user read test) n.bag + count_by (user read test) n.ended + count_by (user read test) n.gone + booked (user read test) z)
    pub far_each : (test : Message → Bool) → booked (user read test) (turned z) ≡ booked (user read test) (turned (line_at p place))
    pub named : (test : Message → Bool) →
        count_by (user read test) n.gone + lost (user read test) z + count_by (user read test) (node_at shape p place).named
        ≤ count_by (user read test) (node_at shape p place).gone + lost (user read test) (line_at p place) + count_by (user read test) n.named
    pub far_named : (test : Message → Bool) → lost (user read test) (turned z) ≤ lost (user read test) (turned (line_at p place))

  module _ (q : Network) (place : Place) (z : Line) (n : Node) (after : Becomes shape p q place z n) where
    -- a sum over the ends at a node
    at-but : (f : Line → ℕ) (x : ℕ) →
        sum_at shape x f q
        + ((if nat_eq (point_at shape place) x then f (line_at p place) else 0)
        + (if nat_eq (shape.point place.link (opposite place.side)) x then f (turned (line_at p place)) else 0))
        ≡ sum_at shape x f p
        + ((if nat_eq (point_at shape place) x then f z else 0)
        + (if nat_eq (shape.point place.link (opposite place.side)) x then f (turned z) else 0))
    at-but f x = ends-but shape (λ link side y. if nat_eq (shape.point link side) x then f y else 0) p q place z after.lines

    books-here : Accounts place z n → Balances shape read p (point_at shape place) → Balances shape read q (point_at shape place)
    books-here a b =
        let x : ℕ = point_at shape place in
        let far : Bool = nat_eq (shape.point place.link (opposite place.side)) x in
        let same : nat_eq x x ≡ true = eq-eqb x x refl in
        record {
          entered = λ test.
              let t : Message → Bool = user read test in
              let to : Line → ℕ = λ y. count_by t y.far.came in
              subst (λ (y : Node). count_by t y.accepted ≡ count_by t y.submitted + sum_at shape x to q) (sym after.here)
              (omega (
                arith,
                a.entered test,
                b.entered test,
                at-but to x,
                if-true (nat_eq x x) (to z) same,
                if-true (nat_eq x x) (to (line_at p place)) same,
                ap (λ (k : ℕ). if far then k else 0) (a.far_entered test),
              ));
          each = λ test.
              let t : Message → Bool = user read test in
              subst (λ (y : Node). count_by t y.accepted ≡ count_by t y.bag + count_by t y.ended + count_by t y.gone + sum_at shape x (booked t) q) (sym after.here)
              (omega (
                arith,
                a.each test,
                b.each test,
                at-but (booked t) x,
                if-true (nat_eq x x) (booked t z) same,
                if-true (nat_eq x x) (booked t (line_at p place)) same,
                ap (λ (k : ℕ). if far then k else 0) (a.far_each test),
              ));
          named = λ test.
              let t : Message → Bool = user read test in
              subst (λ (y : Node). count_by t y.gone + sum_at shape x (lost t) q ≤ count_by t y.named) (sym after.here)
              (omega (
                arith,
                a.named test,
                b.named test,
                at-but (lost t) x,
                if-true (nat_eq x x) (lost t z) same,
                if-true (nat_eq x x) (lost t (line_at p place)) same,
                if-within far (lost t (turned z)) (lost t (turned (line_at p place))) (a.far_named test),
              ));
        }

    books-elsewhere : (x : ℕ) → x ≢ point_at shape place → Accounts place z n → Balances shape read p x → Balances shape read q x
    books-elsewhere x d a b =
        let far : Bool = nat_eq (shape.point place.link (opposite place.side)) x in
        let other : nat_eq (point_at shape place) x ≡ false = ne_eqb (point_at shape place) x (λ e. d (sym e)) in
        record {
          entered = λ test.
              let t : Message → Bool = user read test in
              let to : Line → ℕ = λ y. count_by t y.far.came in
              subst (λ (y : Node). count_by t y.accepted ≡ count_by t y.submitted + sum_at shape x to q) (sym (after.others x d))
              (omega (
                arith,
                b.entered test,
                at-but to x,
                if-false (nat_eq (point_at shape place) x) (to z) other,
                if-false (nat_eq (point_at shape place) x) (to (line_at p place)) other,
                ap (λ (k : ℕ). if far then k else 0) (a.far_entered test),
              ));
          each = λ test.
              let t : Message → Bool = user read test in
              subst (λ (y : Node). count_by t y.accepted ≡ count_by t y.bag + count_by t y.ended + count_by t y.gone + sum_at shape x (booked t) q) (sym (after.others x d))
              (omega (
                arith,
                b.each test,
                at-but (booked t) x,
                if-false (nat_eq (point_at shape place) x) (booked t z) other,
                if-false (nat_eq (point_at shape place) x) (booked t (line_at p place)) other,
                ap (λ (k : ℕ). if far then k else 0) (a.far_each test),
              ));
          named = λ test.
              let t : Message → Bool = user read test in
              subst (λ (y : Node). count_by t y.gone + sum_at shape x (lost t) q ≤ count_by t y.named) (sym (after.others x d))
              (omega (
                arith,
                b.named test,
                at-but (lost t) x,
                if-false (nat_eq (point_at shape place) x) (lost t z) other,
                if-false (nat_eq (point_at shape place) x) (lost t (line_at p place)) other,
                if-within far (lost t (turned z)) (lost t (turned (line_at p place))) (a.far_named test),
              ));
        }

    pub kept-line : (made looked : List Message) → IsLine z → Agrees place z n made looked → Accounts place z n → Sound shape read p → Sound shape read q
    kept-line made looked line a b h =
        let way : (test : Message → Bool) → under_way shape test q + count_by test looked ≤ under_way shape test p + count_by test made =
        λ test. omega (arith, way-line shape test p q place z n after, a.way test) in
        record {
          lines = each-line shape p q place z after.lines h.lines line;
          awaited = each-end shape p q place z after.lines (λ l s x. under_way shape (saying read (is_awaited_by l s)) q ≤ one_if x.awaited)
              (λ l s d. omega (arith, way (saying read (is_awaited_by l s)), a.elsewhere l s d, h.awaited l s))
              (omega (arith, way (saying read (is_awaited_by place.link place.side)), a.awaited, h.awaited place.link place.side))
              (omega (arith, way (saying read (is_awaited_by place.link (opposite place.side))), a.far_awaited, far-awaited h place));
          truth = each-end shape p q place z after.lines (λ l s x. under_way shape (untrue_of read l s x) q ≡ 0)
              (λ l s d. omega (arith, way (untrue_of read l s (end_at p l s)), a.truth_elsewhere l s d, h.truth l s))
              (omega (arith, way (untrue_of read place.link place.side z.near), a.truth))
              (omega (arith, way (untrue_of read place.link (opposite place.side) z.far), a.far_truth));
          books = λ x.
              ⊎_elim
              (λ (e : x ≡ point_at shape place). subst (Balances shape read q) (sym e) (books-here b (h.books (point_at shape place))))
              (λ (d : x ≢ point_at shape place). books-elsewhere x d b (h.books x))
              (cases_eq x (point_at shape place));
        }

  -- ---- one node changes

  pub record AgreesAt (point : ℕ) (n : Node) (made looked : List Message) : Type 0 where
    pub entered : (test : Message → Bool) →
        count_by (user read test) n.accepted + count_by (user read test) (p.node point).submitted
        ≡ count_by (user read test) (p.node point).accepted + count_by (user read test) n.submitted
    pub way : (test : Message → Bool) → count_by test n.bag + count_by test looked ≤ count_by test (p.node point).bag + count_by test made
    pub awaited : (l : ℕ) (s : Side) → count_by (saying read (is_awaited_by l s)) made ≤ count_by (saying read (is_awaited_by l s)) looked
    pub truth : (l : ℕ) (s : Side) → count_by (untrue_of read l s (end_at p l s)) made ≡ 0
    pub each : (test : Message → Bool) →
        count_by (user read test) n.accepted
        + (count_by (user read test) (p.node point).bag + count_by (user read test) (p.node point).ended + count_by (user read test) (p.node point).gone)
        ≡ count_by (user read test) (p.node point).accepted
        + (count_by (user read test) n.bag + count_by (user read test) n.ended + count_by (user read test) n.gone)
    pub named : (test : Message → Bool) →
        count_by (user read test) n.gone + count_by (user read test) (p.node point).named
        ≤ count_by (user read test) (p.node point).gone + count_by (user read test) n.named

  module _ (q : Network) (point : ℕ) (n : Node) (after : NodeBecomes shape p q point n) where
    at-alike : (f : Line → ℕ) (x : ℕ) → sum_at shape x f q ≡ sum_at shape x f p
    at-alike f x = ends-alike shape (λ link side y. if nat_eq (shape.point link side) x then f y else 0) p q after.lines

    pub kept-node : (made looked : List Message) → AgreesAt point n made looked → Sound shape read p → Sound shape read q
    kept-node made looked a h =
        let way : (test : Message → Bool) → under_way shape test q + count_by test looked ≤ under_way shape test p + count_by test made =
        λ test. omega (arith, way-node shape test p q point n after, a.way test) in
        record {
          lines = λ link. subst IsLine (sym (after.lines link)) (h.lines link);
          awaited = λ l s. subst (λ (y : Line). under_way shape (saying read (is_awaited_by l s)) q ≤ one_if (seen s y).near.awaited) (sym (after.lines l))
              (omega (arith, way (saying read (is_awaited_by l s)), a.awaited l s, h.awaited l s));
          truth = λ l s. subst (λ (y : Line). under_way shape (untrue_of read l s (seen s y).near) q ≡ 0) (sym (after.lines l))
              (omega (arith, way (untrue_of read l s (end_at p l s)), a.truth l s, h.truth l s));
          books = λ x.
              ⊎_elim
              (λ (e : x ≡ point). subst (Balances shape read q) (sym e) (record {
                entered = λ test.
                    let t : Message → Bool = user read test in
                    subst (λ (y : Node). count_by t y.accepted ≡ count_by t y.submitted + sum_at shape point (λ z. count_by t z.far.came) q) (sym after.here)
                    (omega (arith, a.entered test, (h.books point).entered test, at-alike (λ z. count_by t z.far.came) point));
                each = λ test.
                    let t : Message → Bool = user read test in
                    subst (λ (y : Node). count_by t y.accepted ≡ count_by t y.bag + count_by t y.ended + count_by t y.gone + sum_at shape point (booked t) q) (sym after.here)
                    (omega (arith, a.each test, (h.books point).each test, at-alike (booked t) point));
                named = λ test.
                    let t : Message → Bool = user read test in
                    subst (λ (y : Node). count_by t y.gone + sum_at shape point (lost t) q ≤ count_by t y.named) (sym after.here)
                    (omega (arith, a.named test, (h.books point).named test, at-alike (lost t) point));
              }))
              (λ (d : x ≢ point). record {
                entered = λ test.
                    let t : Message → Bool = user read test in
                    subst (λ (y : Node). count_by t y.accepted ≡ count_by t y.submitted + sum_at shape x (λ z. count_by t z.far.came) q) (sym (after.others x d))
                    (omega (arith, (h.books x).entered test, at-alike (λ z. count_by t z.far.came) x));
                each = λ test.
                    let t : Message → Bool = user read test in
                    subst (λ (y : Node). count_by t y.accepted ≡ count_by t y.bag + count_by t y.ended + count_by t y.gone + sum_at shape x (booked t) q) (sym (after.others x d))
                    (omega (arith, (h.books x).each test, at-alike (booked t) x));
                named = λ test.
                    let t : Message → Bool = user read test in
                    subst (λ (y : Node). count_by t y.gone + sum_at shape x (lost t) q ≤ count_by t y.named) (sym (after.others x d))
                    (omega (arith, (h.books x).named test, at-alike (lost t) x));
              })
              (cases_eq x point);
        }
