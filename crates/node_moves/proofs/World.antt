-- A network of exchanges, as one of the machine of moves shows it, with one node at work.
use Rattle.node_moves.proofs.Basics.{◌≡◌, ◌≢◌, ◌⊎◌, inl, inr, ℕ, zero, suc, Bool, true, false, ◌^◌, ◌<◌, List, [], ◌∷◌, length, Option, Some, None, Ok, count_by, nat_lt, ap, sym, subst, ◌∙◌, arith, ⊎_elim, cases_eq}
use Rattle.node_moves.proofs.Machine.{Side, Near, Far, opposite, Line, Network, Shape, turned, seen, end_at, Place, line_at, point_at, node_at, NodeBecomes, LinesBecome, Becomes, Move, Moves, last_of, Frame}
use Rattle.node_moves.proofs.Machine as machine
use Rattle.node_moves.proofs.Definitions.{Message, Configuration, entry_of, peer_of, set_of}
use Rattle.node_moves.proofs.Reading.{IsShape, place_by, across}
use Rattle.node_moves.proofs.Sets.{StaysAround, IsFlownAlike, flown-seen}
use Rattle.node_moves.proofs.Shown.{Books, Mid, Shows, IsShown, IsBooked, place, links-apart, at-own}
use Rattle.node_moves.proofs.Going.{Arrives}
use Rattle.node_moves.proofs.Handling.{mid}
use Rattle.node_moves.specs.Networks.{NetworkNode, NetworkState, IsNode, messages_of}
use Rattle.node_moves.specs.Outside.{ArePlaced}
use Rattle.exchange_rules.proofs.MadeManagement.{code-fits, adjacent-fits}
use Rattle.m2pa_codec.specs.Frames.{FrameValue, read_frame}
use Rattle.m2pa_codec.specs.Frames as frames
use Rattle.network_moves.specs.Networks as net
use Rattle.network_moves.specs.Quiet.{closed_line}

abbrev pub books_of : NetworkNode → Books
books_of x = record { accepted = x.accepted; named = x.named }

-- ---- what is in flight

-- the User Data that a frame is
abbrev pub data_of : FrameValue → Option Frame
data_of (frames.EmptyFrame bsn fsn) = Some (machine.EmptyFrame fsn bsn)
data_of (frames.MessageFrame bsn fsn sio sif) = Some (machine.MessageFrame fsn bsn (record { sio = sio; sif = sif }))
data_of (frames.StatusFrame bsn fsn status) = None

-- a text reads as User Data, or as a link status
pub record IsData (text : List ℕ) (frame : Frame) : Type 0 where
  pub value : FrameValue
  pub reads : read_frame text ≡ Ok value
  pub carries : data_of value ≡ Some frame

pub record IsStatus (text : List ℕ) : Type 0 where
  pub value : FrameValue
  pub reads : read_frame text ≡ Ok value
  pub status : data_of value ≡ None

abbrev pub AreData : List (List ℕ) → List Frame → Type 0
AreData [] [] = Unit {0}
AreData [] (frame ∷ frames) = ⊥
AreData (text ∷ texts) [] = ⊥
AreData (text ∷ texts) (frame ∷ frames) = IsData text frame × AreData texts frames

abbrev pub AreStatuses : List (List ℕ) → ℕ → Type 0
AreStatuses [] zero = Unit {0}
AreStatuses [] (suc n) = ⊥
AreStatuses (text ∷ texts) zero = ⊥
AreStatuses (text ∷ texts) (suc n) = IsStatus text × AreStatuses texts n

-- a line shows what is in flight to a node on a link, whether it may follow, and what came
pub record IsFlown (x : NetworkNode) (link : ℕ) (z : Line) : Type 0 where
  pub user_data : AreData (x.user_data link) z.to_near
  pub statuses : AreStatuses (x.statuses link) z.told_near
  pub follows : x.follows link ≡ z.near_may_follow
  pub came : (test : Message → Bool) → count_by test z.far.came ≡ count_by test (messages_of (x.came link))

pub flown-alike : (x : NetworkNode) (link : ℕ) (z y : Line) → IsFlownAlike z y → IsFlown x link z → IsFlown x link y
flown-alike x link z y e h = record {
  user_data = subst (AreData (x.user_data link)) (sym e.to_near) h.user_data;
  statuses = subst (AreStatuses (x.statuses link)) (sym e.told_near) h.statuses;
  follows = h.follows ∙ sym e.near_may;
  came = λ test. ap (count_by test) e.far_came ∙ h.came test;
}

-- ---- lines of two nodes

same-by : (first second : Bool) (one a s other b t : ℕ) → a < 2 ^ 14 → b < 2 ^ 14 → one < 2 ^ 14 → other < 2 ^ 14 → s < 2 ^ 4 → t < 2 ^ 4 → (place_by first one a s).link ≡ (place_by second other b t).link
    → (one ≡ other) ⊎ (place_by first one a s ≡ across (place_by second other b t))
same-by true true one a s other b t la lb lo lp ls lt e = inl (omega (arith, e))
same-by false false one a s other b t la lb lo lp ls lt e = inl (omega (arith, e))
same-by true false one a s other b t la lb lo lp ls lt e = inr (ap (λ (k : ℕ). record { link = k; side = Near }) e)
same-by false true one a s other b t la lb lo lp ls lt e = inr (ap (λ (k : ℕ). record { link = k; side = Far }) e)

module _ (settings : (point : ℕ) → Configuration) (t : ArePlaced settings) where
  abbrev pub place_at : (point link : ℕ) → Place
  place_at point link = place (settings point) link

  -- two ends at one line are the same, or the two ends of it
  pub same-line : (x link y l : ℕ) → IsNode settings x → IsNode settings y → link < length (settings x).links → l < length (settings y).links → (place_at y l).link ≡ (place_at x link).link
      → ((y ≡ x) × (l ≡ link)) ⊎ (place_at y l ≡ across (place_at x link))
  same-line x link y l fx fy il ik e =
      let c : Configuration = settings x in
      let d : Configuration = settings y in
      ⊎_elim
      (λ (same : d.own ≡ c.own).
      let is : y ≡ x = sym (t.own y fy) ∙ same ∙ t.own x fx in
      inl (
        is,
        ⊎_elim (λ (k : l ≡ link). k)
            (λ (apart : l ≢ link).
            absurd (links-apart c (t.well x fx) link l il (subst (λ (i : ℕ). l < length (settings i).links) is ik) apart (sym (ap (λ (i : ℕ). (place_at i l).link) is) ∙ e)))
            (cases_eq l link),
      ))
      (λ (other : place_at y l ≡ across (place_at x link)). inr other)
      (same-by (nat_lt d.own (peer_of d l)) (nat_lt c.own (peer_of c link)) d.own (peer_of d l) (entry_of d l).slc c.own (peer_of c link) (entry_of c link).slc
      (adjacent-fits d (t.well y fy) (set_of d l)) (adjacent-fits c (t.well x fx) (set_of c link)) (t.well y fy).own (t.well x fx).own (code-fits d (t.well y fy) l) (code-fits c (t.well x fx) link) e)

  -- ---- a network with one node at work

  abbrev pub rests : NetworkNode → Mid
  rests x = mid x.node [] [] (books_of x)

  -- a line that is no link of any node
  abbrev pub IsUnused : (link : ℕ) → Type 0
  IsUnused link = (y l : ℕ) → IsNode settings y → l < length (settings y).links → (place_at y l).link ≢ link

  pub record ShownAt (w : NetworkState) (x : ℕ) (v : Mid) (p : Network) : Type 0 where
    pub here : Shows (settings x) p v
    pub others : (y : ℕ) → IsNode settings y → y ≢ x → Shows (settings y) p (rests (w.node y))
    pub flown : (y l : ℕ) → IsNode settings y → l < length (settings y).links → IsFlown (w.node y) l (line_at p (place_at y l))
    pub idle : (link : ℕ) → IsUnused link → p.line link ≡ closed_line

  -- with all nodes at rest
  pub record Shown (w : NetworkState) (p : Network) : Type 0 where
    pub nodes : (y : ℕ) → IsNode settings y → Shows (settings y) p (rests (w.node y))
    pub flown : (y l : ℕ) → IsNode settings y → l < length (settings y).links → IsFlown (w.node y) l (line_at p (place_at y l))
    pub idle : (link : ℕ) → IsUnused link → p.line link ≡ closed_line

  pub at-work : (w : NetworkState) (x : ℕ) (p : Network) → IsNode settings x → Shown w p → ShownAt w x (rests (w.node x)) p
  at-work w x p f s = record { here = s.nodes x f; others = λ y l d. s.nodes y l; flown = s.flown; idle = s.idle }

  pub at-rest : (w : NetworkState) (x : ℕ) (p : Network) → ShownAt w x (rests (w.node x)) p → Shown w p
  at-rest w x p s = record {
    nodes = λ y l. ⊎_elim (λ (same : y ≡ x). subst (λ (i : ℕ). Shows (settings i) p (rests (w.node i))) (sym same) s.here) (λ (d : y ≢ x). s.others y l d) (cases_eq y x);
    flown = s.flown;
    idle = s.idle;
  }

  module _ (shape : Shape) (o : IsShape shape) where
    -- ---- moves at the node alone

    -- all ends of other nodes are as they were
    ends-there : (p q : Network) (x y l : ℕ) → IsNode settings x → IsNode settings y → y ≢ x → StaysAround shape (settings x).own p q → (line_at q (place_at y l)).near ≡ (line_at p (place_at y l)).near
    ends-there p q x y l fx fy d e =
        e.ends (place_at y l).link (place_at y l).side
        (λ same. d (sym (t.own y fy) ∙ sym (at-own shape o (settings y) (t.well y fy) l) ∙ same ∙ t.own x fx))

    pub goes-on : {times : ℕ} (w : NetworkState) (x : ℕ) (v u : Mid) (p : Network) → IsNode settings x → ShownAt w x v p → (a : Arrives shape (settings x) times p u) → ShownAt w x u (last_of p a.networks)
    goes-on w x v u p fx s a =
        let q : Network = last_of p a.networks in
        record {
          here = a.shows;
          others = λ y fy d.
              let h : Shows (settings y) p (rests (w.node y)) = s.others y fy d in
              record {
                sized = h.sized;
                ends = λ l k. subst (λ e. IsShown (w.node y).node l e) (sym (ends-there p q x y l fx fy d a.around)) (h.ends l k);
                booked = subst (λ (n : net.Node). IsBooked n (rests (w.node y))) (sym (a.around.nodes (settings y).own (λ same. d (sym (t.own y fy) ∙ same ∙ t.own x fx)))) h.booked;
              };
          flown = λ y l fy k. flown-alike (w.node y) l (line_at p (place_at y l)) (line_at q (place_at y l))
              (flown-seen (place_at y l).side (p.line (place_at y l).link) (q.line (place_at y l).link) (a.around.flown (place_at y l).link)) (s.flown y l fy k);
          idle = λ link unused. a.idle link (λ l k. unused x l fx k) ∙ s.idle link unused;
        }
