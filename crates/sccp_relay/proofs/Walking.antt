-- Where digits lead, and that each node has digits of its own.
use Rattle.sccp_relay.proofs.Basics.{◌≡◌, ℕ, ◌<◌, ◌+◌, Bool, true, false, cond, List, [], ◌∷◌, ◌++◌, length, get_or, take, drop, Option, Some, None, refl, sym, ap, ◌∙◌, eqb-false, append-nil, append_assoc, take_more, drop_more, take-append-drop, nat_eq, Node, IsTree, child, if_there, reached, root}

pub some-is : {j k : ℕ} → Some j ≡ Some k → j ≡ k
some-is {j} {k} e = cc

-- ---- further from where digits led

abbrev pub further : (ℕ → ℕ → ℕ) → Option ℕ → List ℕ → Option ℕ
further child None digits = None
further child (Some at) digits = reached child at digits

further-if : (child : ℕ → ℕ → ℕ) (b : List ℕ) (t : Bool) (x y : Option ℕ) → x ≡ further child y b → cond t None x ≡ further child (cond t None y) b
further-if child b true x y e = refl
further-if child b false x y e = e

pub reached-append : (child : ℕ → ℕ → ℕ) (at : ℕ) (a b : List ℕ) → reached child at (a ++ b) ≡ further child (reached child at a) b
reached-append child at [] b = refl
reached-append child at (d ∷ a) b =
    further-if child b (nat_eq (child at d) 0) (reached child (child at d) (a ++ b)) (reached child (child at d) a) (reached-append child (child at d) a b)

-- a digit more
pub one-more : (child : ℕ → ℕ → ℕ) (at k d : ℕ) (a b : List ℕ) → reached child at a ≡ Some k → nat_eq (child k d) 0 ≡ false
    → reached child at (a ++ d ∷ b) ≡ reached child (child k d) b
one-more child at k d a b e f =
    reached-append child at a (d ∷ b) ∙ ap (λ (o : Option ℕ). further child o (d ∷ b)) e ∙ ap (λ (t : Bool). cond t None (reached child (child k d) b)) f

-- a digit that leads nowhere
pub no-more : (child : ℕ → ℕ → ℕ) (at k d : ℕ) (a b : List ℕ) → reached child at a ≡ Some k → nat_eq (child k d) 0 ≡ true → reached child at (a ++ d ∷ b) ≡ None
no-more child at k d a b e f =
    reached-append child at a (d ∷ b) ∙ ap (λ (o : Option ℕ). further child o (d ∷ b)) e ∙ ap (λ (t : Bool). cond t None (reached child (child k d) b)) f

-- ---- the digits of a node

path-if : (t : Bool) (o : Option ℕ) (to : ℕ) (P : Type 0) → (t ≡ false → o ≡ Some to → P) → t ≡ t → cond t None o ≡ Some to → P
path-if true o to P f q e = absurd cc
path-if false o to P f q e = f refl e

pub reached-path : (nodes : List Node) (t : IsTree nodes) (at : ℕ) (digits : List ℕ) (to : ℕ) → reached (child nodes) at digits ≡ Some to → t.path to ≡ t.path at ++ digits
reached-path nodes t at [] to e = ap t.path (sym (some-is e)) ∙ sym (append-nil (t.path at))
reached-path nodes t at (d ∷ digits) to e =
    path-if (nat_eq (child nodes at d) 0) (reached (child nodes) (child nodes at d) digits) to (t.path to ≡ t.path at ++ d ∷ digits)
    (λ f g. reached-path nodes t (child nodes at d) digits to g
    ∙ ap (λ (ds : List ℕ). ds ++ digits) (t.leads at d (eqb-false (child nodes at d) 0 f))
    ∙ append_assoc (t.path at) (d ∷ []) digits)
    refl e

-- digits that lead to one node are the same
pub same-digits : (nodes : List Node) (t : IsTree nodes) (a b : List ℕ) (to : ℕ) → reached (child nodes) root a ≡ Some to → reached (child nodes) root b ≡ Some to → a ≡ b
same-digits nodes t a b to e f =
    sym (ap (λ (ds : List ℕ). ds ++ a) t.at_root) ∙ sym (reached-path nodes t root a to e) ∙ reached-path nodes t root b to f ∙ ap (λ (ds : List ℕ). ds ++ b) t.at_root

-- what digits lead to is a node that is there
pub reached-within : (nodes : List Node) (t : IsTree nodes) (at : ℕ) (digits : List ℕ) (to : ℕ) → at < length nodes → reached (child nodes) at digits ≡ Some to → to < length nodes
reached-within nodes t at [] to lt e = rw (← some-is e) lt
reached-within nodes t at (d ∷ digits) to lt e =
    path-if (nat_eq (child nodes at d) 0) (reached (child nodes) (child nodes at d) digits) to (to < length nodes)
    (λ f g. reached-within nodes t (child nodes at d) digits to (t.within at d (eqb-false (child nodes at d) 0 f)) g)
    refl e

-- ---- a child that is there, and one that is not

there-if : (t : Bool) (n to : ℕ) → Some to ≡ cond t None (Some n) → (t ≡ false) × (n ≡ to)
there-if true n to e = absurd cc
there-if false n to e = (refl, sym (some-is e))

pub is-there : (n to : ℕ) → Some to ≡ if_there n → (nat_eq n 0 ≡ false) × (n ≡ to)
is-there n to e = there-if (nat_eq n 0) n to e

nowhere-if : (t : Bool) (n : ℕ) → None ≡ cond t None (Some n) → t ≡ true
nowhere-if true n e = refl
nowhere-if false n e = absurd cc

pub is-nowhere : (n : ℕ) → None ≡ if_there n → nat_eq n 0 ≡ true
is-nowhere n e = nowhere-if (nat_eq n 0) n e

pub is-none : (t : Bool) (o : Option ℕ) → o ≡ None → None ≡ cond t None o
is-none true o e = refl
is-none false o e = sym e

-- ---- digits one by one

abbrev pub digit_at : List ℕ → ℕ → ℕ
digit_at digits i = get_or digits i 0

-- the next digit leads on
pub step-on : (child : ℕ → ℕ → ℕ) (start at to : ℕ) (digits : List ℕ) (i : ℕ) → i < length digits → reached child start (take i digits) ≡ Some at
    → nat_eq (child at (digit_at digits i)) 0 ≡ false → child at (digit_at digits i) ≡ to → reached child start (take (i + 1) digits) ≡ Some to
step-on child start at to digits i lt way n is =
    ap (reached child start) (take_more digits i 0 lt) ∙ one-more child start at (digit_at digits i) (take i digits) [] way n ∙ ap (λ (m : ℕ). Some m) is

pub split : (digits : List ℕ) (i : ℕ) → i < length digits → digits ≡ take i digits ++ digit_at digits i ∷ drop (i + 1) digits
split digits i lt = sym (take-append-drop i digits) ∙ ap (λ (ds : List ℕ). take i digits ++ ds) (drop_more digits i 0 lt)

-- the next digit leads nowhere
pub step-off : (child : ℕ → ℕ → ℕ) (start at : ℕ) (digits : List ℕ) (i : ℕ) → i < length digits → reached child start (take i digits) ≡ Some at
    → nat_eq (child at (digit_at digits i)) 0 ≡ true → reached child start digits ≡ None
step-off child start at digits i lt way n =
    ap (reached child start) (split digits i lt) ∙ no-more child start at (digit_at digits i) (take i digits) (drop (i + 1) digits) way n

pub node-step : (nodes : List Node) (t : IsTree nodes) (start at to : ℕ) (digits : List ℕ) (i : ℕ) → i < length digits
    → reached (child nodes) start (take i digits) ≡ Some at → Some to ≡ if_there (child nodes at (digit_at digits i))
    → (reached (child nodes) start (take (i + 1) digits) ≡ Some to) × (to < length nodes)
node-step nodes t start at to digits i lt way is =
    let there = is-there (child nodes at (digit_at digits i)) to is in (
      step-on (child nodes) start at to digits i lt way there.0 there.1,
      rw (← there.1) (t.within at (digit_at digits i) (eqb-false (child nodes at (digit_at digits i)) 0 there.0)),
    )
