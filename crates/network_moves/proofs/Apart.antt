-- What concerns a group of nodes is at no other node, and on no link that isn't within.
use Rattle.network_moves.proofs.Basics.{◌≡◌, ◌≢◌, ℕ, zero, suc, Bool, true, false, ◌+◌, ◌≤◌, ◌&&◌, List, [], ◌∷◌, ◌++◌, count_by, drop, refl, ap, sym, ◌∙◌, subst, arith, ⊎_elim, cases_eq}
use Rattle.network_moves.proofs.Definitions.{Message, Side, Near, Far, opposite, Saying, UserMessage, Order, Answer, Other, Frame, EmptyFrame, MessageFrame, Line, Node, Network, Shape, seen, Place, line_at, point_at, node_at, one_if, LinesBecome}
pub use Rattle.network_moves.specs.Networks.{frames_by}
use Rattle.network_moves.specs.Groups.{says_of_group}
use Rattle.network_moves.proofs.Counts.{count-cons}
use Rattle.network_moves.proofs.Lines.{both}
use Rattle.network_moves.proofs.Masking.{within, within-side}
use Rattle.std.specs.Prelude.{take}

-- ---- the messages of frames

pub frames-empty : (test : Message → Bool) (fsn bsn : ℕ) (frames : List Frame) → frames_by test (frames ++ EmptyFrame fsn bsn ∷ []) ≡ frames_by test frames
frames-empty test fsn bsn [] = refl
frames-empty test fsn bsn (EmptyFrame f b ∷ frames) = frames-empty test fsn bsn frames
frames-empty test fsn bsn (MessageFrame f b m ∷ frames) = ap (λ (n : ℕ). one_if (test m) + n) (frames-empty test fsn bsn frames)

pub frames-message : (test : Message → Bool) (fsn bsn : ℕ) (m : Message) (frames : List Frame) → frames_by test (frames ++ MessageFrame fsn bsn m ∷ []) ≡ frames_by test frames + one_if (test m)
frames-message test fsn bsn m [] = omega arith
frames-message test fsn bsn m (EmptyFrame f b ∷ frames) = frames-message test fsn bsn m frames
frames-message test fsn bsn m (MessageFrame f b x ∷ frames) = omega (arith, frames-message test fsn bsn m frames)

pub frames-rest : (test : Message → Bool) (frame : Frame) (frames : List Frame) → frames_by test frames ≤ frames_by test (frame ∷ frames)
frames-rest test (EmptyFrame fsn bsn) frames = omega arith
frames-rest test (MessageFrame fsn bsn m) frames = omega arith

pub frames-append : (test : Message → Bool) (left new : List Frame) → frames_by test (left ++ new) ≡ frames_by test left + frames_by test new
frames-append test [] new = omega arith
frames-append test (EmptyFrame fsn bsn ∷ left) new = frames-append test left new
frames-append test (MessageFrame fsn bsn m ∷ left) new = omega (arith, frames-append test left new)

pub frames-fewer : (t u : Message → Bool) → ((m : Message) → one_if (t m) ≤ one_if (u m)) → (frames : List Frame) → frames_by t frames ≤ frames_by u frames
frames-fewer t u h [] = omega arith
frames-fewer t u h (EmptyFrame fsn bsn ∷ frames) = frames-fewer t u h frames
frames-fewer t u h (MessageFrame fsn bsn m ∷ frames) = omega (arith, h m, frames-fewer t u h frames)

-- ---- parts of lists

pub drop-within : (test : Message → Bool) (n : ℕ) (ms : List Message) → count_by test (drop n ms) ≤ count_by test ms
drop-within test zero ms = omega arith
drop-within test (suc n) [] = omega arith
drop-within test (suc n) (m ∷ ms) = omega (arith, count-cons test m ms, drop-within test n ms)

pub take-within : (test : Message → Bool) (n : ℕ) (ms : List Message) → count_by test (take n ms) ≤ count_by test ms
take-within test zero ms = omega arith
take-within test (suc n) [] = omega arith
take-within test (suc n) (m ∷ ms) = omega (arith, count-cons test m ms, count-cons test m (take n ms), take-within test n ms)

module _ (shape : Shape) (read : Message → Saying) (group : ℕ → Bool) (for_group : Message → Bool) where
  -- ---- what isn't to leave a node, by whether it is of the group: what concerns that, or no word about a link within

  abbrev pub stays : (of_group : Bool) → Message → Bool
  stays of_group m = says_of_group shape read group for_group (of_group && for_group m) (read m)

  -- a word stays wherever it is
  fewer-said : (b for_it : Bool) (s : Saying) →
      one_if (says_of_group shape read group for_group (false && for_it) s) ≤ one_if (says_of_group shape read group for_group (b && for_it) s)
  fewer-said b for_it UserMessage = omega arith
  fewer-said b for_it (Order link maker number) = omega arith
  fewer-said b for_it (Answer link maker number) = omega arith
  fewer-said b for_it Other = omega arith

  pub fewer : (b : Bool) (ms : List Message) → count_by (stays false) ms ≤ count_by (stays b) ms
  fewer b [] = omega arith
  fewer b (m ∷ ms) = omega (arith, count-cons (stays false) m ms, count-cons (stays b) m ms, fewer-said b (for_group m) (read m), fewer b ms)

  pub fewer-one : (b : Bool) (m : Message) → one_if (stays false m) ≤ one_if (stays b m)
  fewer-one b m = fewer-said b (for_group m) (read m)

  -- what a message says that concerns no group
  pub says-none : (b : Bool) (m : Message) (s : Saying) → read m ≡ s → says_of_group shape read group for_group (b && for_group m) s ≡ false → one_if (stays b m) ≡ 0
  says-none b m s e none = ap one_if (ap (says_of_group shape read group for_group (b && for_group m)) e ∙ none)

  -- ---- a line that isn't within

  abbrev pub here : Place → Bool
  here place = group (point_at shape place)

  abbrev pub there : Place → Bool
  there place = group (shape.point place.link (opposite place.side))

  pub record IsApartLine (place : Place) (z : Line) : Type 0 where
    pub near : count_by (stays (here place)) z.near.queue.all ≡ 0
    pub far : count_by (stays (there place)) z.far.queue.all ≡ 0
    pub to_far : frames_by (stays false) z.to_far ≡ 0
    pub to_near : frames_by (stays false) z.to_near ≡ 0

  pub record IsApart (p : Network) : Type 0 where
    pub bags : (x : ℕ) → group x ≡ false → count_by (stays false) (p.node x).bag ≡ 0
    pub lines : (link : ℕ) → within shape read group for_group link ≡ false → IsApartLine (record { link = link; side = Near }) (p.line link)

  apart-seen : (link : ℕ) (side : Side) (z : Line) → IsApartLine (record { link = link; side = Near }) z → IsApartLine (record { link = link; side = side }) (seen side z)
  apart-seen link Near z h = h
  apart-seen link Far z h = record { near = h.far; far = h.near; to_far = h.to_near; to_near = h.to_far }

  apart-back : (link : ℕ) (side : Side) (z : Line) → IsApartLine (record { link = link; side = side }) z → IsApartLine (record { link = link; side = Near }) (seen side z)
  apart-back link Near z h = h
  apart-back link Far z h = record { near = h.far; far = h.near; to_far = h.to_near; to_near = h.to_far }

  pub apart-at : (p : Network) (place : Place) → IsApart p → within shape read group for_group place.link ≡ false → IsApartLine place (line_at p place)
  apart-at p place h e = apart-seen place.link place.side (p.line place.link) (h.lines place.link e)

  pub apart-is : (p : Network) (place : Place) → IsApartLine place (line_at p place) → IsApartLine (record { link = place.link; side = Near }) (p.line place.link)
  apart-is p place h = by place.side h
    where
      by : (side : Side) → IsApartLine (record { link = place.link; side = side }) (seen side (p.line place.link)) → IsApartLine (record { link = place.link; side = Near }) (p.line place.link)
      by Near l = l
      by Far l = record { near = l.far; far = l.near; to_far = l.to_near; to_near = l.to_far }

  -- a link is within only if the node here is of the group
  pub not-within : (place : Place) → here place ≡ false → within shape read group for_group place.link ≡ false
  not-within place e = by (within shape read group for_group place.link) refl
    where
      by : (b : Bool) → within shape read group for_group place.link ≡ b → b ≡ false
      by true f = both (within-side shape read group for_group place.link place.side f) e
      by false f = refl

  -- no more is on a line than on another
  pub record IsLess (z y : Line) : Type 0 where
    pub near : (test : Message → Bool) → count_by test z.near.queue.all ≤ count_by test y.near.queue.all
    pub far : (test : Message → Bool) → count_by test z.far.queue.all ≤ count_by test y.far.queue.all
    pub to_far : (test : Message → Bool) → frames_by test z.to_far ≤ frames_by test y.to_far
    pub to_near : (test : Message → Bool) → frames_by test z.to_near ≤ frames_by test y.to_near

  pub apart-less : (place : Place) (z y : Line) → IsLess z y → IsApartLine place y → IsApartLine place z
  apart-less place z y l h = record {
    near = omega (arith, l.near (stays (here place)), h.near);
    far = omega (arith, l.far (stays (there place)), h.far);
    to_far = omega (arith, l.to_far (stays false), h.to_far);
    to_near = omega (arith, l.to_near (stays false), h.to_near);
  }

  -- ---- a line becomes another, and the node at one end of it

  pub apart-line : (p q : Network) (place : Place) (z : Line) (n : Node) → LinesBecome shape p q place z → q.node (point_at shape place) ≡ n
      → ((x : ℕ) → x ≢ point_at shape place → q.node x ≡ p.node x)
      → (within shape read group for_group place.link ≡ false → IsApartLine place (line_at p place) → IsApartLine place z)
      → (IsApartLine place (line_at p place) → count_by (stays false) (node_at shape p place).bag ≡ 0 → here place ≡ false → count_by (stays false) n.bag ≡ 0)
      → IsApart p → IsApart q
  apart-line p q place z n set is others line bag h = record {
    bags = λ x none.
        ⊎_elim
        (λ (same : x ≡ point_at shape place).
        let out : here place ≡ false = subst (λ (i : ℕ). group i ≡ false) same none in
        subst (λ (i : ℕ). count_by (stays false) (q.node i).bag ≡ 0) (sym same)
        (subst (λ (v : Node). count_by (stays false) v.bag ≡ 0) (sym is)
        (bag (apart-at p place h (not-within place out)) (h.bags (point_at shape place) out) out)))
        (λ (d : x ≢ point_at shape place). subst (λ (v : Node). count_by (stays false) v.bag ≡ 0) (sym (others x d)) (h.bags x none))
        (cases_eq x (point_at shape place));
    lines = λ link out.
        ⊎_elim
        (λ (same : link ≡ place.link).
        subst (λ (i : ℕ). IsApartLine (record { link = i; side = Near }) (q.line i)) (sym same)
        (subst (IsApartLine (record { link = place.link; side = Near })) (sym set.here)
        (let away : within shape read group for_group place.link ≡ false = subst (λ (i : ℕ). within shape read group for_group i ≡ false) same out in
        apart-back place.link place.side z (line away (apart-at p place h away)))))
        (λ (d : link ≢ place.link). subst (IsApartLine (record { link = link; side = Near })) (sym (set.others link d)) (h.lines link out))
        (cases_eq link place.link);
  }

  pub apart-node : (p q : Network) (point : ℕ) (n : Node) → q.node point ≡ n → ((link : ℕ) → q.line link ≡ p.line link) → ((x : ℕ) → x ≢ point → q.node x ≡ p.node x)
      → (count_by (stays false) (p.node point).bag ≡ 0 → group point ≡ false → count_by (stays false) n.bag ≡ 0) → IsApart p → IsApart q
  apart-node p q point n is lines others bag h = record {
    bags = λ x none.
        ⊎_elim
        (λ (same : x ≡ point).
        let out : group point ≡ false = subst (λ (i : ℕ). group i ≡ false) same none in
        subst (λ (i : ℕ). count_by (stays false) (q.node i).bag ≡ 0) (sym same)
        (subst (λ (v : Node). count_by (stays false) v.bag ≡ 0) (sym is) (bag (h.bags point out) out)))
        (λ (d : x ≢ point). subst (λ (v : Node). count_by (stays false) v.bag ≡ 0) (sym (others x d)) (h.bags x none))
        (cases_eq x point);
    lines = λ link out. subst (IsApartLine (record { link = link; side = Near })) (sym (lines link)) (h.lines link out);
  }
