-- The links of flows, once a link is down: a flow on another link stays there.
use Rattle.pair_rules.proofs.Basics.{◌≡◌, ◌<◌, ◌&&◌, ◌||◌, ℕ, Bool, true, false, List, refl, ap, ◌∙◌, nat_eq, nat_lt, arith, slice_set, nat_tests}
use Rattle.pair_rules.proofs.Definitions.{Configuration, Link, after_failure, serving_set, with_link, Parts, link_at, facts, sets_in}

-- ---- routes without a link

-- what is known of routes once a link is down
pub failed-facts : (c : Configuration) (link : ℕ) (p : Parts) (links : List Link) → links ≡ slice_set p.links link (after_failure (link_at p link))
    → facts c (record p { links = links }) ≡ with_link link false (facts c p)
failed-facts c link p links e =
    ap (λ (xs : List Link). facts c (record p { links = xs })) e
    ∙ ap (λ (serving : List Bool). record { sets = sets_in c; in_service = serving; routes = p.routes })
    (serving_set p.links link (after_failure (link_at p link)))

pub or-true : (a b : Bool) → b ≡ true → (a || b) ≡ true
or-true true b e = refl
or-true false b e = e

pub or-first : (a b : Bool) → a ≡ true → (a || b) ≡ true
or-first true b e = refl
or-first false b e = absurd cc

pub and-true : (a b : Bool) → a ≡ true → b ≡ true → (a && b) ≡ true
and-true true b e f = f
and-true false b e f = absurd cc

pub and-more : (a b d : Bool) → (b ≡ true → d ≡ true) → (a && b) ≡ true → (a && d) ≡ true
and-more true b d f e = f e
and-more false b d f e = e

pub eq-self : (n : ℕ) → nat_eq n n ≡ true
eq-self n = grind (arith, nat_tests)

pub lt-true : (m n : ℕ) → m < n → nat_lt m n ≡ true
lt-true m n l = grind (arith, nat_tests, l)
