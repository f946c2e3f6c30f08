-- What a network is to a group of nodes: its nodes and the links within, and nothing else.
use Rattle.network_moves.proofs.Basics.{◌≡◌, ◌≢◌, ℕ, Bool, true, false, ◌<◌, ◌&&◌, List, [], ◌∷◌, count_by, nat_eq, refl, ap, sym, ◌∙◌, subst, arith, if◌then◌else◌, ⊎_elim, cases_eq, ne_eqb, eq-eqb}
use Rattle.network_moves.proofs.Definitions.{Message, Side, Near, Far, Saying, UserMessage, Order, Answer, Other, is_user_message, user, Line, Node, Network, Shape, seen, Place, line_at, point_at, one_if, NodeBecomes, LinesBecome, Becomes, closed_line}
use Rattle.network_moves.specs.Groups.{is_within, says_of_group, concerns, users_for}
use Rattle.network_moves.proofs.Counts.{count-cons}
use Rattle.network_moves.proofs.Lines.{false_is_true}

-- ---- one node is another, and one line

abbrev pub with_node : Network → (point : ℕ) → Node → Network
with_node p point n = record p { node = λ other. if nat_eq other point then n else p.node other }

abbrev pub with_line : Shape → Network → Place → Line → Node → Network
with_line shape p place z n = record p {
  node = λ other. if nat_eq other (point_at shape place) then n else p.node other;
  line = λ other. if nat_eq other place.link then seen place.side z else p.line other;
}

module _ (shape : Shape) where
  pub node-set : (p : Network) (point : ℕ) (n : Node) → point < shape.nodes → NodeBecomes shape p (with_node p point n) point n
  node-set p point n inside = record {
    inside = inside;
    here = ap (λ (b : Bool). if b then n else p.node point) (eq-eqb point point refl);
    others = λ other d. ap (λ (b : Bool). if b then n else p.node other) (ne_eqb other point d);
    lines = λ link. refl;
    broken = λ other. refl;
  }

  pub line-set : (p : Network) (place : Place) (z : Line) (n : Node) → place.link < shape.links → point_at shape place < shape.nodes
      → Becomes shape p (with_line shape p place z n) place z n
  line-set p place z n linked inside = record {
    inside = inside;
    lines = record {
      inside = linked;
      here = ap (λ (b : Bool). if b then seen place.side z else p.line place.link) (eq-eqb place.link place.link refl);
      others = λ other d. ap (λ (b : Bool). if b then seen place.side z else p.line other) (ne_eqb other place.link d);
    };
    here = ap (λ (b : Bool). if b then n else p.node (point_at shape place)) (eq-eqb (point_at shape place) (point_at shape place) refl);
    others = λ other d. ap (λ (b : Bool). if b then n else p.node other) (ne_eqb other (point_at shape place) d);
    broken = λ other. refl;
  }

both-true : (a b : Bool) → (a && b) ≡ true → (a ≡ true) × (b ≡ true)
both-true true b e = (refl, e)
both-true false b e = false_is_true e

module _ (shape : Shape) (read : Message → Saying) (group : ℕ → Bool) (for_group : Message → Bool) where
  abbrev pub within : (link : ℕ) → Bool
  within = is_within shape read group for_group

  abbrev pub is_of : Message → Bool
  is_of = concerns shape read group for_group

  -- ---- what messages say to the group

  abbrev pub masked : Message → Saying
  masked m = if is_of m then read m else Other

  pub kept-saying : (m : Message) → is_of m ≡ true → masked m ≡ read m
  kept-saying m e = ap (λ (b : Bool). if b then read m else Other) e

  pub other-saying : (m : Message) → is_of m ≡ false → masked m ≡ Other
  other-saying m e = ap (λ (b : Bool). if b then read m else Other) e

  pub of-saying : (m : Message) (s : Saying) → read m ≡ s → is_of m ≡ says_of_group shape read group for_group (for_group m) s
  of-saying m s e = ap (says_of_group shape read group for_group (for_group m)) e

  -- a message that says something else than another says nothing
  pub masked-other : (m : Message) → read m ≡ Other → masked m ≡ Other
  masked-other m e = other-saying m (of-saying m Other e)

  pub masked-managing : (m : Message) → is_user_message (read m) ≡ false → is_user_message (masked m) ≡ false
  masked-managing m e = by (is_of m)
    where
      by : (b : Bool) → is_user_message (if b then read m else Other) ≡ false
      by true = e
      by false = refl

  -- a user message for the group is one
  masked-user : (for_it t : Bool) (s : Saying) → (is_user_message (if says_of_group shape read group for_group for_it s then s else Other) && t) ≡ (is_user_message s && (for_it && t))
  masked-user true t UserMessage = refl
  masked-user false t UserMessage = refl
  masked-user b t (Order link maker number) = by (within link)
    where
      by : (c : Bool) → (is_user_message (if c then Order link maker number else Other) && t) ≡ false
      by true = refl
      by false = refl
  masked-user b t (Answer link maker number) = by (within link)
    where
      by : (c : Bool) → (is_user_message (if c then Answer link maker number else Other) && t) ≡ false
      by true = refl
      by false = refl
  masked-user b t Other = refl

  abbrev pub users : (Message → Bool) → List Message → ℕ
  users test ms = count_by (user masked test) ms

  pub users-are : (test : Message → Bool) (ms : List Message) → users test ms ≡ count_by (users_for shape read group for_group test) ms
  users-are test [] = refl
  users-are test (m ∷ ms) =
      omega (
        arith,
        count-cons (user masked test) m ms,
        count-cons (users_for shape read group for_group test) m ms,
        ap one_if (masked-user (for_group m) (test m) (read m)),
        users-are test ms,
      )

  -- ---- what a network is to the group

  -- the same is at a node, and its books of user messages for the group are the same
  pub record IsLike (n k : Node) : Type 0 where
    pub bag : (test : Message → Bool) → count_by test k.bag ≡ count_by test n.bag
    pub accepted : (test : Message → Bool) → users test k.accepted ≡ users test n.accepted
    pub ended : (test : Message → Bool) → users test k.ended ≡ users test n.ended
    pub gone : (test : Message → Bool) → users test k.gone ≡ users test n.gone
    pub named : (test : Message → Bool) → users test k.named ≡ users test n.named

  pub record IsMask (p k : Network) : Type 0 where
    pub nodes : (x : ℕ) → group x ≡ true → IsLike (p.node x) (k.node x)
    pub lines : (link : ℕ) → k.line link ≡ (if within link then p.line link else closed_line)
    pub whole : (x : ℕ) → k.broken x ≡ false

  pub within-side : (link : ℕ) (side : Side) → within link ≡ true → group (shape.point link side) ≡ true
  within-side link Near e = (both-true (group (shape.point link Near)) (group (shape.point link Far)) e).0
  within-side link Far e = (both-true (group (shape.point link Near)) (group (shape.point link Far)) e).1

  pub line-within : (p k : Network) (place : Place) → within place.link ≡ true → IsMask p k → line_at k place ≡ line_at p place
  line-within p k place e h = ap (seen place.side) (h.lines place.link ∙ ap (λ (b : Bool). if b then p.line place.link else closed_line) e)

  -- a node and a line within become others
  pub mask-line : (p q k : Network) (place : Place) (z y : Line) (n m : Node) → LinesBecome shape p q place z → q.node (point_at shape place) ≡ n
      → ((x : ℕ) → x ≢ point_at shape place → q.node x ≡ p.node x) → IsMask p k → within place.link ≡ true → y ≡ z → IsLike n m
      → IsMask q (with_line shape k place y m)
  mask-line p q k place z y n m set here others h e same like = record {
    nodes = λ x inside.
        ⊎_elim
        (λ (is : x ≡ point_at shape place).
        subst (λ (i : ℕ). IsLike (q.node i) ((with_line shape k place y m).node i)) (sym is)
        (subst (λ (v : Node). IsLike v ((with_line shape k place y m).node (point_at shape place))) (sym here)
        (subst (λ (b : Bool). IsLike n (if b then m else k.node (point_at shape place))) (sym (eq-eqb (point_at shape place) (point_at shape place) refl)) like)))
        (λ (d : x ≢ point_at shape place).
        subst (λ (v : Node). IsLike v ((with_line shape k place y m).node x)) (sym (others x d))
        (subst (λ (b : Bool). IsLike (p.node x) (if b then m else k.node x)) (sym (ne_eqb x (point_at shape place) d)) (h.nodes x inside)))
        (cases_eq x (point_at shape place));
    lines = λ link.
        ⊎_elim
        (λ (is : link ≡ place.link).
        subst (λ (i : ℕ). (with_line shape k place y m).line i ≡ (if within i then q.line i else closed_line)) (sym is)
        (ap (λ (b : Bool). if b then seen place.side y else k.line place.link) (eq-eqb place.link place.link refl)
        ∙ ap (seen place.side) same ∙ sym set.here ∙ sym (ap (λ (b : Bool). if b then q.line place.link else closed_line) e)))
        (λ (d : link ≢ place.link).
        ap (λ (b : Bool). if b then seen place.side y else k.line link) (ne_eqb link place.link d)
        ∙ h.lines link ∙ ap (λ (v : Line). if within link then v else closed_line) (sym (set.others link d)))
        (cases_eq link place.link);
    whole = h.whole;
  }

  -- a line that isn't within becomes another, and a node that is none of the group or is alike
  pub mask-outside : (p q k : Network) (place : Place) (z : Line) → LinesBecome shape p q place z → ((x : ℕ) → x ≢ point_at shape place → q.node x ≡ p.node x)
      → IsMask p k → within place.link ≡ false → (group (point_at shape place) ≡ true → IsLike (q.node (point_at shape place)) (k.node (point_at shape place))) → IsMask q k
  mask-outside p q k place z set others h e like = record {
    nodes = λ x inside.
        ⊎_elim
        (λ (is : x ≡ point_at shape place).
        subst (λ (i : ℕ). IsLike (q.node i) (k.node i)) (sym is) (like (subst (λ (i : ℕ). group i ≡ true) is inside)))
        (λ (d : x ≢ point_at shape place). subst (λ (v : Node). IsLike v (k.node x)) (sym (others x d)) (h.nodes x inside))
        (cases_eq x (point_at shape place));
    lines = λ link.
        ⊎_elim
        (λ (is : link ≡ place.link).
        subst (λ (i : ℕ). k.line i ≡ (if within i then q.line i else closed_line)) (sym is)
        (h.lines place.link ∙ ap (λ (b : Bool). if b then p.line place.link else closed_line) e
        ∙ sym (ap (λ (b : Bool). if b then q.line place.link else closed_line) e)))
        (λ (d : link ≢ place.link). h.lines link ∙ ap (λ (v : Line). if within link then v else closed_line) (sym (set.others link d)))
        (cases_eq link place.link);
    whole = h.whole;
  }

  -- only a node becomes another
  pub mask-node : (p q k : Network) (point : ℕ) → ((link : ℕ) → q.line link ≡ p.line link) → ((x : ℕ) → x ≢ point → q.node x ≡ p.node x)
      → IsMask p k → (group point ≡ true → IsLike (q.node point) (k.node point)) → IsMask q k
  mask-node p q k point lines others h like = record {
    nodes = λ x inside.
        ⊎_elim
        (λ (is : x ≡ point). subst (λ (i : ℕ). IsLike (q.node i) (k.node i)) (sym is) (like (subst (λ (i : ℕ). group i ≡ true) is inside)))
        (λ (d : x ≢ point). subst (λ (v : Node). IsLike v (k.node x)) (sym (others x d)) (h.nodes x inside))
        (cases_eq x point);
    lines = λ link. h.lines link ∙ ap (λ (v : Line). if within link then v else closed_line) (sym (lines link));
    whole = h.whole;
  }
