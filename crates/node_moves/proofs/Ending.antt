-- What became of the messages of each node, in a network that shows as one of the machine.
use Rattle.node_moves.proofs.Basics.{◌≡◌, ◌≢◌, ◌⊎◌, inl, inr, ℕ, zero, suc, Bool, true, false, not, ◌&&◌, ◌+◌, ◌≤◌, ◌<◌, List, [], ◌∷◌, length, drop, Option, Some, None, count_by, is_some, nat_eq, refl, ap, sym, subst, ◌∙◌, arith, if◌then◌else◌, ⊎_elim, cases_eq, ne_eqb, eq-eqb, eqb-true}
use Rattle.node_moves.proofs.Machine.{Side, Near, Far, opposite, is_user_message, user, Phase, Live, Moved, Gone, Line, Network, Shape, Place, turned, seen, line_at, point_at, one_if}
use Rattle.node_moves.proofs.Definitions.{Message, is_management, Configuration, entry_of, peer_of, set_of, queue_at, Queue}
use Rattle.node_moves.proofs.Reading.{IsShape, place_of, across, other-place, says_of, is_long, says-managing, says-user, says-long}
use Rattle.node_moves.proofs.Shown.{IsShown, IsBooked, shown_in, users_that, any_message, links-apart, link-inside, at-own}
use Rattle.node_moves.proofs.Heard.{own-apart}
use Rattle.node_moves.proofs.World.{IsFlown, Shown, IsUnused, rests, place_at}
use Rattle.node_moves.proofs.Relining.{across-line}
use Rattle.node_moves.proofs.BothEnds.{IsOther, is-other}
use Rattle.node_moves.proofs.FateCounts.{counted-messages}
use Rattle.node_moves.proofs.Running.{all_points, are-all, all-led, reached}
use Rattle.node_moves.specs.Networks.{Fate, NetworkState, LinkEnd, IsNode, other_end, after_steps, first_network, messages_of}
use Rattle.node_moves.specs.Laws.{AreTheirs, is_user, came_by, received_by, waiting_on, came_from, waits_at, accepted_at, fates_that, any_fate, EndsOnce, each_message_of_a_node_ends_once}
use Rattle.node_moves.specs.Outside.{ArePlaced}
use Rattle.node_moves.specs.Laws as law
use Rattle.exchange_rules.proofs.MadeManagement.{code-fits, adjacent-fits}
use Rattle.network_moves.proofs.Counts.{count-cons, sum-alike, sum-but, sum-none, sum-added, if-true, if-false}
use Rattle.network_moves.proofs.Sound.{Sound, Balances, booked, lost}
use Rattle.network_moves.specs.Laws.{sum_at}
use Rattle.network_moves.specs.Networks.{sum_to, sum_of_ends, waiting, waiting_in}
use Rattle.network_moves.specs.Quiet.{closed_line}

-- ---- a sum over those numbers at which something is

module _ (at : ℕ → ℕ) where
  pub sum-among : (f : ℕ → ℕ) (n m : ℕ) → ((i : ℕ) → i < n → at i < m) → ((i j : ℕ) → i < n → j < n → i ≢ j → at i ≢ at j) → ((k : ℕ) → ((i : ℕ) → i < n → at i ≢ k) → f k ≡ 0) →
      sum_to (λ i. f (at i)) n ≡ sum_to f m
  sum-among f zero m inside apart none = sym (sum-none f m (λ k. none k (λ i l. absurd (omega (arith, l)))))
  sum-among f (suc n) m inside apart none =
      let but : ℕ → ℕ = λ k. if nat_eq k (at n) then 0 else f k in
      let elsewhere : (k : ℕ) → k ≢ at n → but k ≡ f k = λ k d. ap (λ (q : Bool). if q then 0 else f k) (ne_eqb k (at n) d) in
      let here : but (at n) ≡ 0 = ap (λ (q : Bool). if q then 0 else f (at n)) (eq-eqb (at n) (at n) refl) in
      let less : (k : ℕ) → ((i : ℕ) → i < n → at i ≢ k) → but k ≡ 0 =
      λ k h.
      ⊎_elim
      (λ (same : k ≡ at n). ap (λ (q : Bool). if q then 0 else f k) (eq-eqb k (at n) same))
      (λ (d : k ≢ at n).
      elsewhere k d
      ∙ none k (λ i l same. ⊎_elim (λ (last : i ≡ n). d (sym same ∙ ap at last)) (λ (e : i ≢ n). h i (omega (arith, l, e)) same) (cases_eq i n)))
      (cases_eq k (at n)) in
      let others : sum_to (λ i. but (at i)) n ≡ sum_to but m = sum-among but n m (λ i l. inside i (omega (arith, l))) (λ i j l k. apart i j (omega (arith, l)) (omega (arith, k))) less in
      let before : sum_to (λ i. but (at i)) n ≡ sum_to (λ i. f (at i)) n =
      sum-alike (λ i. f (at i)) (λ i. but (at i)) n (λ i l. elsewhere (at i) (apart i n (omega (arith, l)) (omega arith) (λ same. absurd (omega (arith, l, same))))) in
      let after : sum_to but m + f (at n) ≡ sum_to f m + but (at n) = sum-but f but m (at n) (inside n (omega arith)) elsewhere in
      omega (arith, others, before, after, here)

-- ---- the ends of links at a node

pub same-or : (a b : Side) → (a ≡ b) ⊎ (a ≡ opposite b)
same-or Near Near = inl refl
same-or Near Far = inr refl
same-or Far Near = inr refl
same-or Far Far = inl refl

pub twice : (side : Side) → opposite (opposite side) ≡ side
twice Near = refl
twice Far = refl

pub the-other : (q : Option LinkEnd) → is_some q ≡ true → (there : LinkEnd) × (q ≡ Some there)
the-other (Some there) e = (there, refl)
the-other None e = absurd cc

module _ (settings : (point : ℕ) → Configuration) (t : ArePlaced settings) (shape : Shape) (o : IsShape shape) where
  -- the other end of a line is at the point to which the link leads
  pub peer-at : (y l : ℕ) → IsNode settings y → shape.point (place_at settings t y l).link (opposite (place_at settings t y l).side) ≡ peer_of (settings y) l
  peer-at y l fy =
      let c : Configuration = settings y in
      let there : place_of (peer_of c l) c.own (entry_of c l).slc ≡ across (place_at settings t y l) = other-place c.own (peer_of c l) (entry_of c l).slc (own-apart c (t.well y fy) l) in
      ap (point_at shape) (sym there) ∙ o.points (peer_of c l) c.own (entry_of c l).slc (adjacent-fits c (t.well y fy) (set_of c l)) (t.well y fy).own (code-fits c (t.well y fy) l)

  module _ (x : ℕ) (fx : IsNode settings x) (p : Network) (idle : (link : ℕ) → IsUnused settings t link → p.line link ≡ closed_line) where
    -- at the other end of a link is another node
    far-apart : (link : ℕ) → point_at shape (across (place_at settings t x link)) ≢ x
    far-apart link same =
        let c : Configuration = settings x in
        let there : place_of (peer_of c link) c.own (entry_of c link).slc ≡ across (place_at settings t x link) = other-place c.own (peer_of c link) (entry_of c link).slc (own-apart c (t.well x fx) link) in
        let peer : point_at shape (across (place_at settings t x link)) ≡ peer_of c link =
        ap (point_at shape) (sym there) ∙ o.points (peer_of c link) c.own (entry_of c link).slc (adjacent-fits c (t.well x fx) (set_of c link)) (t.well x fx).own (code-fits c (t.well x fx) link) in
        own-apart c (t.well x fx) link (t.own x fx ∙ sym same ∙ peer)

    -- a line at this node that is none of its links is no link of any node
    pub no-link : (k : ℕ) (side : Side) → ((i : ℕ) → i < length (settings x).links → (place_at settings t x i).link ≢ k) → shape.point k side ≡ x → IsUnused settings t k
    no-link k side none e y l fy inside same =
        let its : Place = place_at settings t y l in
        ⊎_elim
        (λ (near : its.side ≡ side).
        let is : y ≡ x = sym (t.own y fy) ∙ sym (at-own shape o (settings y) (t.well y fy) l) ∙ ap (λ (j : ℕ). shape.point j its.side) same ∙ ap (shape.point k) near ∙ e in
        none l (subst (λ (i : ℕ). l < length (settings i).links) is inside) (ap (λ (i : ℕ). (place_at settings t i l).link) (sym is) ∙ same))
        (λ (far : its.side ≡ opposite side).
        let to : peer_of (settings y) l ≡ x =
        sym (peer-at y l fy) ∙ ap (λ (j : ℕ). shape.point j (opposite its.side)) same ∙ ap (λ (s : Side). shape.point k (opposite s)) far ∙ ap (shape.point k) (twice side) ∙ e in
        let other : (there : LinkEnd) × (other_end settings y l ≡ Some there) = the-other (other_end settings y l) (t.joined y l fy inside (subst (IsNode settings) (sym to) fx)) in
        let h : IsOther settings t shape o y l other.0 = is-other settings t shape o y l other.0 fy inside other.1 in
        let is : other.0.point ≡ x =
        sym (t.own other.0.point h.within) ∙ sym (at-own shape o (settings other.0.point) (t.well other.0.point h.within) other.0.link) ∙ ap (point_at shape) h.place
        ∙ ap (λ (j : ℕ). shape.point j (opposite its.side)) same ∙ ap (λ (s : Side). shape.point k (opposite s)) far ∙ ap (shape.point k) (twice side) ∙ e in
        none other.0.link (subst (λ (i : ℕ). other.0.link < length (settings i).links) is h.inside)
        (ap (λ (i : ℕ). (place_at settings t i other.0.link).link) (sym is) ∙ ap (λ (q : Place). q.link) h.place ∙ same))
        (same-or its.side side)

    module _ (f : ℕ → Line → ℕ) (closed : (k : ℕ) → f k closed_line ≡ 0) where
      abbrev ends_on : (link : ℕ) → ℕ
      ends_on k = (if nat_eq (shape.point k Near) x then f k (p.line k) else 0) + (if nat_eq (shape.point k Far) x then f k (turned (p.line k)) else 0)

      one-by : (k : ℕ) (side : Side) → shape.point k side ≡ x → shape.point k (opposite side) ≢ x → ends_on k ≡ f k (seen side (p.line k))
      one-by k Near e d =
          omega (arith, if-true (nat_eq (shape.point k Near) x) (f k (p.line k)) (eq-eqb (shape.point k Near) x e), if-false (nat_eq (shape.point k Far) x) (f k (turned (p.line k))) (ne_eqb (shape.point k Far) x d))
      one-by k Far e d =
          omega (arith, if-true (nat_eq (shape.point k Far) x) (f k (turned (p.line k))) (eq-eqb (shape.point k Far) x e), if-false (nat_eq (shape.point k Near) x) (f k (p.line k)) (ne_eqb (shape.point k Near) x d))

      one-end : (link : ℕ) → ends_on (place_at settings t x link).link ≡ f (place_at settings t x link).link (line_at p (place_at settings t x link))
      one-end link =
          one-by (place_at settings t x link).link (place_at settings t x link).side (at-own shape o (settings x) (t.well x fx) link ∙ t.own x fx) (far-apart link)

      closed-seen : (k : ℕ) (side : Side) → f k (seen side closed_line) ≡ 0
      closed-seen k Near = closed k
      closed-seen k Far = closed k

      none-on : (k : ℕ) (side : Side) (b : Bool) → ((i : ℕ) → i < length (settings x).links → (place_at settings t x i).link ≢ k) → nat_eq (shape.point k side) x ≡ b
          → (if b then f k (seen side (p.line k)) else 0) ≡ 0
      none-on k side false none e = refl
      none-on k side true none e = ap (λ (z : Line). f k (seen side z)) (idle k (no-link k side none (eqb-true (shape.point k side) x e))) ∙ closed-seen k side

      -- of all ends at a node, those of its links count
      pub sum-ends-by : sum_of_ends shape (λ link side z. if nat_eq (shape.point link side) x then f link z else 0) p
          ≡ sum_to (λ link. f (place_at settings t x link).link (line_at p (place_at settings t x link))) (length (settings x).links)
      sum-ends-by =
          let n : ℕ = length (settings x).links in
          let all : sum_to (λ i. ends_on (place_at settings t x i).link) n ≡ sum_to ends_on shape.links =
          sum-among (λ i. (place_at settings t x i).link) ends_on n shape.links (λ i l. link-inside shape o (settings x) (t.well x fx) i)
          (λ i j l k d. links-apart (settings x) (t.well x fx) j i k l d)
          (λ k none. omega (arith, none-on k Near (nat_eq (shape.point k Near) x) none refl, none-on k Far (nat_eq (shape.point k Far) x) none refl)) in
          let each : sum_to (λ i. f (place_at settings t x i).link (line_at p (place_at settings t x i))) n ≡ sum_to (λ i. ends_on (place_at settings t x i).link) n =
          sum-alike (λ i. ends_on (place_at settings t x i).link) (λ i. f (place_at settings t x i).link (line_at p (place_at settings t x i))) n (λ i l. sym (one-end i)) in
          sym all ∙ sym each

    pub sum-ends : (f : Line → ℕ) → f closed_line ≡ 0 → sum_at shape x f p ≡ sum_to (λ link. f (line_at p (place_at settings t x link))) (length (settings x).links)
    sum-ends f closed = sum-ends-by (λ k. f) (λ k. closed)

-- ---- user messages

user-by : (m : Message) (long managing : Bool) → is_long m ≡ long → is_management m ≡ managing → is_user_message (says_of m) ≡ (not long && not managing)
user-by m true managing e f = ap is_user_message (says-long m e)
user-by m false true e f = says-managing m f
user-by m false false e f = ap is_user_message (says-user m e f)

pub users-same : (test : Message → Bool) (ms : List Message) → law.users_that test ms ≡ users_that test ms
users-same test [] = refl
users-same test (m ∷ ms) =
    let is : one_if (user says_of test m) ≡ one_if (is_user m && test m) = ap (λ (b : Bool). one_if (b && test m)) (user-by m (is_long m) (is_management m) refl refl) in
    omega (arith, is, count-cons (λ y. is_user y && test y) m ms, count-cons (user says_of test) m ms, users-same test ms)

pub fates-same : (test : Message → Bool) (fs : List Fate) → fates_that any_fate test fs ≡ users_that test (messages_of fs)
fates-same test fs = counted-messages (λ m. is_user m && test m) fs ∙ users-same test (messages_of fs)

pub fewer : (t u : Message → Bool) (ms : List Message) → ((m : Message) → one_if (t m) ≤ one_if (u m)) → count_by t ms ≤ count_by u ms
fewer t u [] h = omega arith
fewer t u (m ∷ ms) h = omega (arith, count-cons t m ms, count-cons u m ms, h m, fewer t u ms h)

pub any-by : (a b : Bool) → one_if (a && b) ≤ one_if (a && true)
any-by true true = omega arith
any-by true false = omega arith
any-by false b = omega arith

-- ---- what waits on a link

drop-nothing : (n : ℕ) → drop {A = Message} n [] ≡ []
drop-nothing zero = refl
drop-nothing (suc n) = refl

received-in : (phase : Phase) (q : Queue) → (shown_in phase q).received ≡ q.received
received-in Live q = refl
received-in Moved q = refl
received-in Gone q = refl

waits-in : (phase : Phase) (q : Queue) (received : ℕ) → drop received (shown_in phase q).all ≡ waiting_in phase q received
waits-in Live q received = refl
waits-in Moved q received = drop-nothing received
waits-in Gone q received = drop-nothing received

module _ (settings : (point : ℕ) → Configuration) (t : ArePlaced settings) (shape : Shape) (o : IsShape shape) (w : NetworkState) (p : Network) (s : Shown settings t w p) (x : ℕ) (fx : IsNode settings x) where
  abbrev line_on : (link : ℕ) → Line
  line_on link = line_at p (place_at settings t x link)

  -- the far end of a link, at the other node
  record IsFar (link : ℕ) (there : LinkEnd) : Type 0 where
    pub other : IsOther settings t shape o x link there
    pub line : line_at p (place_at settings t there.point there.link) ≡ turned (line_on link)

  far-end : (link : ℕ) (there : LinkEnd) → link < length (settings x).links → other_end settings x link ≡ Some there → IsFar link there
  far-end link there inside e =
      let other : IsOther settings t shape o x link there = is-other settings t shape o x link there fx inside e in
      record { other = other; line = ap (line_at p) other.place ∙ across-line p (place_at settings t x link) }

  pub came-by : (test : Message → Bool) (link : ℕ) → link < length (settings x).links → is_some (other_end settings x link) ≡ true
      → count_by test (line_on link).near.came ≡ count_by test (messages_of (came_by settings w (other_end settings x link)))
  came-by test link inside joined =
      let found : (there : LinkEnd) × (other_end settings x link ≡ Some there) = the-other (other_end settings x link) joined in
      let f : IsFar link found.0 = far-end link found.0 inside found.1 in
      let there : LinkEnd = found.0 in
      let flown : IsFlown (w.node there.point) there.link (line_at p (place_at settings t there.point there.link)) = s.flown there.point there.link f.other.within f.other.inside in
      ap (λ (z : Line). count_by test z.far.came) (sym f.line) ∙ flown.came test ∙ ap (λ (q : Option LinkEnd). count_by test (messages_of (came_by settings w q))) (sym found.1)

  pub waits-by : (link : ℕ) → link < length (settings x).links → is_some (other_end settings x link) ≡ true → waiting_on settings w x link ≡ waiting (line_on link)
  waits-by link inside joined =
      let found : (there : LinkEnd) × (other_end settings x link ≡ Some there) = the-other (other_end settings x link) joined in
      let there : LinkEnd = found.0 in
      let f : IsFar link there = far-end link there inside found.1 in
      let z : Line = line_on link in
      let here : IsShown (w.node x).node link z.near = (s.nodes x fx).ends link inside in
      let away : IsShown (w.node there.point).node there.link (line_at p (place_at settings t there.point there.link)).near = (s.nodes there.point f.other.within).ends there.link f.other.inside in
      let received : received_by settings w (other_end settings x link) ≡ z.far.queue.received =
      ap (received_by settings w) found.1
      ∙ ap (λ (q : Queue). q.received) away.queue
      ∙ received-in (line_at p (place_at settings t there.point there.link)).near.phase (line_at p (place_at settings t there.point there.link)).near.queue
      ∙ ap (λ (y : Line). y.near.queue.received) f.line in
      ap (λ (n : ℕ). drop n (queue_at (w.node x).node.queues link).all) received
      ∙ ap (λ (q : Queue). drop z.far.queue.received q.all) here.queue
      ∙ waits-in z.near.phase z.near.queue z.far.queue.received

  -- the books of the node's exchange
  pub node_books : IsBooked (p.node x) (rests settings t (w.node x))
  node_books = subst (λ (i : ℕ). IsBooked (p.node i) (rests settings t (w.node x))) (t.own x fx) (s.nodes x fx).booked

  -- where each of its links has its other end
  module _ (all_joined : (link : ℕ) → link < length (settings x).links → is_some (other_end settings x link) ≡ true) where
    module _ (test : Message → Bool) where
      abbrev users : Message → Bool
      users = user says_of test

      abbrev lines : ℕ
      lines = length (settings x).links

      pub came : sum_to (λ link. count_by users (line_on link).near.came) lines ≡ came_from settings w test x
      came =
          sum-alike (λ link. fates_that any_fate test (came_by settings w (other_end settings x link))) (λ link. count_by users (line_on link).near.came) lines
          (λ link inside. came-by users link inside (all_joined link inside) ∙ sym (fates-same test (came_by settings w (other_end settings x link))))

      waits : sum_to (λ link. count_by users (waiting (line_on link))) lines ≡ sum_to (λ link. law.users_that test (waiting_on settings w x link)) lines
      waits =
          sum-alike (λ link. law.users_that test (waiting_on settings w x link)) (λ link. count_by users (waiting (line_on link))) lines
          (λ link inside. ap (count_by users) (sym (waits-by link inside (all_joined link inside))) ∙ sym (users-same test (waiting_on settings w x link)))

      -- all messages that went onto the links
      all : sum_at shape x (booked users) p
          ≡ came_from settings w test x + sum_to (λ link. law.users_that test (waiting_on settings w x link)) lines + sum_at shape x (lost users) p
      all =
          let on : sum_at shape x (booked users) p ≡ sum_to (λ link. booked users (line_on link)) lines = sum-ends settings t shape o x fx p s.idle (booked users) refl in
          let off : sum_at shape x (lost users) p ≡ sum_to (λ link. lost users (line_on link)) lines = sum-ends settings t shape o x fx p s.idle (lost users) refl in
          let parts : sum_to (λ link. booked users (line_on link)) lines
          ≡ sum_to (λ link. count_by users (line_on link).near.came + count_by users (waiting (line_on link))) lines + sum_to (λ link. lost users (line_on link)) lines =
          sum-added (λ link. booked users (line_on link)) (λ link. count_by users (line_on link).near.came + count_by users (waiting (line_on link))) (λ link. lost users (line_on link)) lines (λ link. omega arith) in
          let both : sum_to (λ link. count_by users (line_on link).near.came + count_by users (waiting (line_on link))) lines
          ≡ sum_to (λ link. count_by users (line_on link).near.came) lines + sum_to (λ link. count_by users (waiting (line_on link))) lines =
          sum-added (λ link. count_by users (line_on link).near.came + count_by users (waiting (line_on link))) (λ link. count_by users (line_on link).near.came) (λ link. count_by users (waiting (line_on link))) lines
          (λ link. refl) in
          omega (arith, on, off, parts, both, came, waits)

    -- and what is gone of what it accepted
    abbrev gone_of : (test : Message → Bool) → ℕ
    gone_of test = users_that test (p.node x).gone + sum_at shape x (lost (user says_of test)) p

    whole : Sound shape says_of p → (test : Message → Bool) → accepted_at settings w test x ≡ came_from settings w test x + waits_at settings w test x + gone_of test
    whole h test =
        let balances : Balances shape says_of p x = h.books x in
        omega (
          arith,
          balances.each test,
          node_books.bag (user says_of test),
          node_books.accepted test,
          all test,
          users-same test (w.node x).accepted,
          users-same test (w.node x).node.queues.held,
        )

    few : Sound shape says_of p → (test : Message → Bool) → gone_of test ≤ users_that any_message (p.node x).named
    few h test =
        let balances : Balances shape says_of p x = h.books x in
        omega (arith, balances.named test, fewer (user says_of test) (user says_of any_message) (p.node x).named (λ m. any-by (is_user_message (says_of m)) (test m)))

    pub ends : Sound shape says_of p → EndsOnce settings w x
    ends h = record {
      once = λ test. omega (arith, whole h test);
      named = λ test. omega (arith, whole h test, (h.books x).named test, node_books.within test, users-same test (w.node x).named);
      counted = λ test. omega (arith, whole h test, few h test, node_books.named);
    }

pub placed : (settings : (point : ℕ) → Configuration) → AreTheirs settings → ArePlaced settings
placed settings t = record { own = t.own; well = t.well; joined = λ point link f inside there. t.joined point link f inside }

pub ends-once : each_message_of_a_node_ends_once
ends-once settings steps x its fx none =
    let t : ArePlaced settings = placed settings its in
    let r : (p : Network) × Sound all_points says_of p × Shown settings t (after_steps settings steps (first_network settings)) p = reached settings t all_points are-all (λ x fx. all-led (settings x)) steps none in
    ends settings t all_points are-all (after_steps settings steps (first_network settings)) r.0 r.2 x fx (λ link inside. its.joined x link fx inside) r.1
