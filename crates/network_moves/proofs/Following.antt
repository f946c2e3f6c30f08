-- A move of a network is followed by moves of what it is to a group of nodes.
use Rattle.network_moves.proofs.Basics.{◌≡◌, ◌≢◌, ℕ, Bool, true, false, ◌+◌, ◌<◌, List, [], ◌∷◌, ◌++◌, count_by, refl, ap, sym, ◌∙◌, subst, arith, if◌then◌else◌, ⊎_elim, cases_eq, ne_eqb, eq-eqb}
use Rattle.network_moves.proofs.Definitions.{Message, Saying, is_user_message, Line, Node, Network, Shape, Place, line_at, point_at, node_at, one_if, LinesBecome, NodeBecomes, IsTakenFrom, Move, Moves, last_of, closed_line}
use Rattle.network_moves.specs.Moves as moves
use Rattle.network_moves.proofs.Counts.{count-cons}
use Rattle.network_moves.proofs.Lines.{both}
use Rattle.network_moves.proofs.Masking.{with_node, with_line, node-set, within, within-side, is_of, masked, other-saying, IsLike, IsMask, line-within, mask-line, mask-outside, mask-node}
use Rattle.network_moves.proofs.Apart.{IsApart, IsApartLine, apart-at, here}

module _ (shape : Shape) (read : Message → Saying) (group : ℕ → Bool) (for_group : Message → Bool) where
  abbrev saying_here : Message → Saying
  saying_here = masked shape read group for_group

  pub last-append : (k : Network) (xs ys : List Network) → last_of k (xs ++ ys) ≡ last_of (last_of k xs) ys
  last-append k [] ys = refl
  last-append k (x ∷ xs) ys = last-append x xs ys

  pub moves-append : (k : Network) (xs ys : List Network) → Moves shape saying_here k xs → Moves shape saying_here (last_of k xs) ys → Moves shape saying_here k (xs ++ ys)
  moves-append k [] ys ms ns = ns
  moves-append k (x ∷ xs) ys ms ns = (ms.0, moves-append x xs ys ms.1 ns)

  -- ---- moves at one node alone, which becomes n

  pub record Edits (k : Network) (point : ℕ) (n : Node) : Type 0 where
    pub networks : List Network
    pub moves : Moves shape saying_here k networks
    pub here : (last_of k networks).node point ≡ n
    pub others : (x : ℕ) → x ≢ point → (last_of k networks).node x ≡ k.node x
    pub lines : (link : ℕ) → (last_of k networks).line link ≡ k.line link
    pub broken : (x : ℕ) → (last_of k networks).broken x ≡ k.broken x

  pub edits-none : (k : Network) (point : ℕ) (n : Node) → k.node point ≡ n → Edits k point n
  edits-none k point n e = record { networks = []; moves = tt; here = e; others = λ x d. refl; lines = λ link. refl; broken = λ x. refl }

  pub edits-one : (k : Network) (point : ℕ) (n : Node) → Move shape saying_here k (with_node k point n) → Edits k point n
  edits-one k point n m = record {
    networks = with_node k point n ∷ [];
    moves = (m, tt);
    here = ap (λ (b : Bool). if b then n else k.node point) (eq-eqb point point refl);
    others = λ x d. ap (λ (b : Bool). if b then n else k.node x) (ne_eqb x point d);
    lines = λ link. refl;
    broken = λ x. refl;
  }

  pub edits-both : (k : Network) (point : ℕ) (n m : Node) (e : Edits k point n) → Edits (last_of k e.networks) point m → Edits k point m
  edits-both k point n m e f =
      let all : last_of k (e.networks ++ f.networks) ≡ last_of (last_of k e.networks) f.networks = last-append k e.networks f.networks in
      record {
        networks = e.networks ++ f.networks;
        moves = moves-append k e.networks f.networks e.moves f.moves;
        here = ap (λ (q : Network). q.node point) all ∙ f.here;
        others = λ x d. ap (λ (q : Network). q.node x) all ∙ f.others x d ∙ e.others x d;
        lines = λ link. ap (λ (q : Network). q.line link) all ∙ f.lines link ∙ e.lines link;
        broken = λ x. ap (λ (q : Network). q.broken x) all ∙ f.broken x ∙ e.broken x;
      }

  -- a message is made that says nothing to the group
  pub makes-one : (k : Network) (point : ℕ) (n : Node) (m : Message) → point < shape.nodes → k.node point ≡ n → is_of shape read group for_group m ≡ false
      → Edits k point (record n { bag = m ∷ n.bag })
  makes-one k point n m inside e none =
      subst (λ (v : Node). Edits k point (record v { bag = m ∷ v.bag })) e
      (edits-one k point _ (moves.makes (record { point = point; message = m; other = other-saying shape read group for_group m none; after = node-set shape k point _ inside })))

  pub none-first : (b : Bool) (n : ℕ) → one_if b + n ≡ 0 → b ≡ false
  none-first true n e = absurd (omega (arith, e))
  none-first false n e = refl

  pub makes-all : (ms : List Message) (k : Network) (point : ℕ) (n : Node) → point < shape.nodes → k.node point ≡ n → count_by (is_of shape read group for_group) ms ≡ 0
      → Edits k point (record n { bag = ms ++ n.bag })
  makes-all [] k point n inside e none = edits-none k point n e
  makes-all (m ∷ ms) k point n inside e none =
      let all : one_if (is_of shape read group for_group m) + count_by (is_of shape read group for_group) ms ≡ 0 = omega (arith, none, count-cons (is_of shape read group for_group) m ms) in
      let rest : Edits k point (record n { bag = ms ++ n.bag }) = makes-all ms k point n inside e (omega (arith, all)) in
      edits-both k point _ _ rest (makes-one (last_of k rest.networks) point (record n { bag = ms ++ n.bag }) m inside rest.here (none-first _ _ all))

  pub discards-one : (k : Network) (point : ℕ) (n : Node) (m : Message) (rest : List Message) → point < shape.nodes → k.node point ≡ n → IsTakenFrom n.bag m rest → is_of shape read group for_group m ≡ false
      → Edits k point (record n { bag = rest })
  discards-one k point n m rest inside e taken none =
      subst (λ (v : Node). IsTakenFrom v.bag m rest → Edits k point (record v { bag = rest })) e
      (λ (t : IsTakenFrom (k.node point).bag m rest).
      edits-one k point _ (moves.discards (record {
        point = point;
        message = m;
        rest = rest;
        taken = t;
        management = ap is_user_message (other-saying shape read group for_group m none);
        after = node-set shape k point _ inside;
      })))
      taken

  -- from a bag that has as many of each
  pub taken-like : (n k : Node) (m : Message) (rest : List Message) → IsLike shape read group for_group n k → IsTakenFrom n.bag m rest → IsTakenFrom k.bag m rest
  taken-like n k m rest h t = record { counted = λ test. omega (arith, h.bag test, t.counted test) }

  -- ---- what follows

  pub data Follows (q k : Network) : Type 0 where
    breaks : IsApart shape read group for_group q → (x : ℕ) → group x ≡ true → q.broken x ≡ true → Follows q k
    goes : IsApart shape read group for_group q → (networks : List Network) → Moves shape saying_here k networks → IsMask shape read group for_group q (last_of k networks) → Follows q k

  -- what the node there becomes, as the group sees it
  pub record Works (k : Network) (point : ℕ) (n : Node) : Type 0 where
    pub node : Node
    pub edits : Edits k point node
    pub like : IsLike shape read group for_group n node

  pub works-none : (k : Network) (point : ℕ) (n : Node) → IsLike shape read group for_group n (k.node point) → Works k point n
  works-none k point n like = record { node = k.node point; edits = edits-none k point (k.node point) refl; like = like }

  -- one move within
  pub record Within (p k : Network) (place : Place) (z : Line) (n : Node) : Type 0 where
    pub line : Line
    pub node : Node
    pub move : Move shape saying_here k (with_line shape k place line node)
    pub same : line ≡ z
    pub like : IsLike shape read group for_group n node

  -- what of the mask another node is at a point, and what the network is at that point
  mask-works : (p q k : Network) (point : ℕ) (n : Node) → q.node point ≡ n → ((x : ℕ) → x ≢ point → q.node x ≡ p.node x)
      → ((link : ℕ) → within shape read group for_group link ≡ true → q.line link ≡ p.line link)
      → IsMask shape read group for_group p k → (w : Works k point n) → IsMask shape read group for_group q (last_of k w.edits.networks)
  mask-works p q k point n is others lines h w = record {
    nodes = λ x inside.
        ⊎_elim
        (λ (same : x ≡ point).
        subst (λ (i : ℕ). IsLike shape read group for_group (q.node i) ((last_of k w.edits.networks).node i)) (sym same)
        (subst (λ (v : Node). IsLike shape read group for_group v ((last_of k w.edits.networks).node point)) (sym is)
        (subst (λ (v : Node). IsLike shape read group for_group n v) (sym w.edits.here) w.like)))
        (λ (d : x ≢ point).
        subst (λ (v : Node). IsLike shape read group for_group v ((last_of k w.edits.networks).node x)) (sym (others x d))
        (subst (λ (v : Node). IsLike shape read group for_group (p.node x) v) (sym (w.edits.others x d)) (h.nodes x inside)))
        (cases_eq x point);
    lines = λ link. w.edits.lines link ∙ h.lines link ∙ by link (within shape read group for_group link) refl;
    whole = λ x. w.edits.broken x ∙ h.whole x;
  }
    where
      by : (link : ℕ) (b : Bool) → within shape read group for_group link ≡ b → (if b then p.line link else closed_line) ≡ (if b then q.line link else closed_line)
      by link true e = sym (lines link e)
      by link false e = refl

  module _ (p q k : Network) (place : Place) (z : Line) (n : Node) (set : LinesBecome shape p q place z) (is : q.node (point_at shape place) ≡ n)
      (others : (x : ℕ) → x ≢ point_at shape place → q.node x ≡ p.node x) (a : IsApart shape read group for_group p) (h : IsMask shape read group for_group p k) where
    -- the lines within are as they were, where this one isn't
    lines-within : within shape read group for_group place.link ≡ false → (link : ℕ) → within shape read group for_group link ≡ true → q.line link ≡ p.line link
    lines-within out link e = set.others link (λ same. both e (ap (within shape read group for_group) same ∙ out))

    pub follows-line : IsApart shape read group for_group q
        → (within shape read group for_group place.link ≡ true → line_at k place ≡ line_at p place → IsLike shape read group for_group (node_at shape p place) (node_at shape k place) → Within p k place z n)
        → (within shape read group for_group place.link ≡ false → here shape read group for_group place ≡ true → IsApartLine shape read group for_group place (line_at p place)
        → IsLike shape read group for_group (node_at shape p place) (node_at shape k place) → Works k (point_at shape place) n)
        → Follows q k
    follows-line apart inside outside = by (within shape read group for_group place.link) refl (here shape read group for_group place) refl
      where
        by : (b : Bool) → within shape read group for_group place.link ≡ b → (c : Bool) → here shape read group for_group place ≡ c → Follows q k
        by true e true f =
            let w : Within p k place z n = inside e (line-within shape read group for_group p k place e h) (h.nodes (point_at shape place) f) in
            goes apart (with_line shape k place w.line w.node ∷ []) (w.move, tt) (mask-line shape read group for_group p q k place z w.line n w.node set is others h e w.same w.like)
        by true e false f = both (within-side shape read group for_group place.link place.side e) f
        by false e true f =
            let w : Works k (point_at shape place) n = outside e f (apart-at shape read group for_group p place a e) (h.nodes (point_at shape place) f) in
            goes apart w.edits.networks w.edits.moves (mask-works p q k (point_at shape place) n is others (lines-within e) h w)
        by false e false f = goes apart [] tt (mask-outside shape read group for_group p q k place z set others h e (λ g. both g f))

  pub follows-node : (p q k : Network) (point : ℕ) (n : Node) → NodeBecomes shape p q point n → IsApart shape read group for_group q → IsMask shape read group for_group p k
      → (group point ≡ true → IsLike shape read group for_group (p.node point) (k.node point) → Works k point n) → Follows q k
  follows-node p q k point n after apart h work = by (group point) refl
    where
      by : (b : Bool) → group point ≡ b → Follows q k
      by true e =
          let w : Works k point n = work e (h.nodes point e) in
          goes apart w.edits.networks w.edits.moves (mask-works p q k point n after.here after.others (λ link in_it. after.lines link) h w)
      by false e = goes apart [] tt (mask-node shape read group for_group p q k point after.lines after.others h (λ g. both g e))
