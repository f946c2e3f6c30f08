-- One more node, which one digit of one node leads to.
use Rattle.sccp_relay.proofs.Basics.{◌≡◌, ◌≢◌, ℕ, Bool, true, false, cond, List, [], ◌∷◌, Option, Some, None, refl, sym, ap, ◌∙◌, inl, inr, cases_eq, eqb-false, eq-eqb, nat_eq, reached, value_there}

-- the digit d leads from p to f, and led nowhere; nothing stands at f, nor does any digit lead on
pub record IsLinked (old new : ℕ → ℕ → ℕ) (value : ℕ → Option ℕ) (p d f : ℕ) : Type 0 where
  pub free : old p d ≡ 0
  pub there : new p d ≡ f
  pub other_node : (k e : ℕ) → k ≢ p → new k e ≡ old k e
  pub other_digit : (e : ℕ) → e ≢ d → new p e ≡ old p e
  pub leaf : (e : ℕ) → new f e ≡ 0
  pub empty : value f ≡ None

-- a digit that leads to some node is none of the new ways
pub stays : (old new : ℕ → ℕ → ℕ) (value : ℕ → Option ℕ) (p d f : ℕ) → IsLinked old new value p d f → (k e : ℕ) → nat_eq (old k e) 0 ≡ false → new k e ≡ old k e
stays old new value p d f l k e n =
    elim (cases_eq k p) [
      | inr other ↦ l.other_node k e other
      | inl node ↦ elim (cases_eq e d) [
        | inr other ↦ rw node (l.other_digit e other)
        | inl digit ↦ absurd (eqb-false (old k e) 0 n (ap (λ (m : ℕ). old m e) node ∙ ap (λ (m : ℕ). old p m) digit ∙ l.free))
      ]
    ]

-- ---- where digits led they still lead

same-if : (s t : Bool) (x y : Option ℕ) (to : ℕ) → (t ≡ false → s ≡ t) → (t ≡ false → x ≡ Some to → y ≡ Some to) → cond t None x ≡ Some to → cond s None y ≡ Some to
same-if s true x y to f g e = absurd cc
same-if s false x y to f g e = rw (f refl) (g refl e)

pub kept : (old new : ℕ → ℕ → ℕ) (value : ℕ → Option ℕ) (p d f : ℕ) → IsLinked old new value p d f → (at : ℕ) (digits : List ℕ) (to : ℕ)
    → reached old at digits ≡ Some to → reached new at digits ≡ Some to
kept old new value p d f l at [] to e = e
kept old new value p d f l at (x ∷ digits) to e =
    same-if (nat_eq (new at x) 0) (nat_eq (old at x) 0) (reached old (old at x) digits) (reached new (new at x) digits) to
    (λ n. ap (λ (m : ℕ). nat_eq m 0) (stays old new value p d f l at x n))
    (λ n g. ap (λ (m : ℕ). reached new m digits) (stays old new value p d f l at x n) ∙ kept old new value p d f l (old at x) digits to g)
    e

-- ---- nothing else is stored anywhere

none-if : (value : ℕ → Option ℕ) (t : Bool) (x : Option ℕ) → t ≡ true → value_there value (cond t None x) ≡ None
none-if value true x e = refl
none-if value false x e = absurd cc

either-none : (value : ℕ → Option ℕ) (t : Bool) (x : Option ℕ) → value_there value x ≡ None → value_there value (cond t None x) ≡ None
either-none value true x e = refl
either-none value false x e = e

below-leaf : (new : ℕ → ℕ → ℕ) (value : ℕ → Option ℕ) (f : ℕ) → ((e : ℕ) → new f e ≡ 0) → value f ≡ None → (digits : List ℕ) → value_there value (reached new f digits) ≡ None
below-leaf new value f leaf empty [] = empty
below-leaf new value f leaf empty (x ∷ digits) = none-if value (nat_eq (new f x) 0) (reached new (new f x) digits) (eq-eqb (new f x) 0 (leaf x))

below-new : (old new : ℕ → ℕ → ℕ) (value : ℕ → Option ℕ) (p d f : ℕ) → IsLinked old new value p d f → (k e : ℕ) (digits : List ℕ) → nat_eq (old k e) 0 ≡ true
    → value_there value (reached new k (e ∷ digits)) ≡ None
below-new old new value p d f l k e digits n =
    elim (cases_eq k p) [
      | inr other ↦ none-if value (nat_eq (new k e) 0) (reached new (new k e) digits) (ap (λ (m : ℕ). nat_eq m 0) (l.other_node k e other) ∙ n)
      | inl node ↦ elim (cases_eq e d) [
        | inr other ↦ none-if value (nat_eq (new k e) 0) (reached new (new k e) digits)
            (ap (λ (m : ℕ). nat_eq (new m e) 0) node ∙ ap (λ (m : ℕ). nat_eq m 0) (l.other_digit e other) ∙ ap (λ (m : ℕ). nat_eq (old m e) 0) (sym node) ∙ n)
        | inl digit ↦
            let at : new k e ≡ f = ap (λ (m : ℕ). new m e) node ∙ ap (λ (m : ℕ). new p m) digit ∙ l.there in
            either-none value (nat_eq (new k e) 0) (reached new (new k e) digits)
            (ap (λ (m : ℕ). value_there value (reached new m digits)) at ∙ below-leaf new value f l.leaf l.empty digits)
      ]
    ]

values-if : (value : ℕ → Option ℕ) (s t : Bool) (x y : Option ℕ) → (t ≡ false → s ≡ t) → (t ≡ false → value_there value x ≡ value_there value y)
    → (t ≡ true → value_there value (cond s None x) ≡ None) → value_there value (cond s None x) ≡ value_there value (cond t None y)
values-if value s true x y f g h = h refl
values-if value s false x y f g h = rw (f refl) (g refl)

pub same : (old new : ℕ → ℕ → ℕ) (value : ℕ → Option ℕ) (p d f : ℕ) → IsLinked old new value p d f → (at : ℕ) (digits : List ℕ)
    → value_there value (reached new at digits) ≡ value_there value (reached old at digits)
same old new value p d f l at [] = refl
same old new value p d f l at (x ∷ digits) =
    values-if value (nat_eq (new at x) 0) (nat_eq (old at x) 0) (reached new (new at x) digits) (reached old (old at x) digits)
    (λ n. ap (λ (m : ℕ). nat_eq m 0) (stays old new value p d f l at x n))
    (λ n. ap (λ (m : ℕ). value_there value (reached new m digits)) (stays old new value p d f l at x n) ∙ same old new value p d f l (old at x) digits)
    (λ n. below-new old new value p d f l at x digits n)
