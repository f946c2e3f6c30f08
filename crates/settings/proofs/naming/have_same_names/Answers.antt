-- Lists of links that have the same names.
use Rattle.settings.proofs.Basics.{◌≡◌, ◌<◌, rules, tests, length, arith, sym, true≢false, common_steps, ◌+◌, ◌∙◌, ℕ, List, [], map, take, ap, get_or, get_or-map, LinkEntry}
use Rattle.settings.proofs.naming.have_same_names.Goals as goal

names-at : (xs : List LinkEntry) (i : ℕ) (x : LinkEntry) → i < length xs → x ≡ get_or xs i x → x.name ≡ get_or (map (λ (l : LinkEntry). l.name) xs) i []
names-at xs i x p e = ap (λ (l : LinkEntry). l.name) e ∙ sym (get_or-map (λ (l : LinkEntry). l.name) xs i x [] p)

-- two links at one place have different names
names-differ : (xs ys : List LinkEntry) (i : ℕ) (x y : LinkEntry) → i < length xs → i < length ys → x ≡ get_or xs i x → y ≡ get_or ys i y
    → (x.name ≡ y.name → ⊥) → map (λ (l : LinkEntry). l.name) xs ≡ map (λ (l : LinkEntry). l.name) ys → ⊥
names-differ xs ys i x y p q a b differ e =
    differ (names-at xs i x p a ∙ ap (λ (names : List (List ℕ)). get_or names i []) e ∙ sym (names-at ys i y q b))

-- one link more
names-next : (xs ys : List LinkEntry) (i : ℕ) (x y : LinkEntry) → i < length xs → i < length ys → x ≡ get_or xs i x → y ≡ get_or ys i y → x.name ≡ y.name
    → map (λ (l : LinkEntry). l.name) (take i xs) ≡ map (λ (l : LinkEntry). l.name) (take i ys)
    → map (λ (l : LinkEntry). l.name) (take (i + 1) xs) ≡ map (λ (l : LinkEntry). l.name) (take (i + 1) ys)
names-next xs ys i x y p q a b e h = grind (arith, common_steps)

pub returns-then-ne : goal.returns-then-ne
returns-then-ne c =
    let near = c.args.near.now in
    let far = c.args.far.now in
    let in_far : c.loop-i.i < length far = grind (arith, common_steps) in (
      (λ t. absurd (true≢false (sym t))),
      (λ e. absurd (names-differ near far c.loop-i.i c.index-near-i.result c.index-far-i.result c.loop-i-test.true in_far c.index-near-i.is c.index-far-i.is
          (λ same. search (rules, tests)) e)),
    )

pub loop-i-preserved : goal.loop-i-preserved
loop-i-preserved c =
    let near = c.args.near.now in
    let far = c.args.far.now in
    let in_far : c.loop-i.i < length far = grind (arith, common_steps) in
    let same : c.index-near-i.result.name ≡ c.index-far-i.result.name = search (rules, tests) in
    names-next near far c.loop-i.i c.index-near-i.result c.index-far-i.result c.loop-i-test.true in_far c.index-near-i.is c.index-far-i.is same c.loop-i.invariant
