-- Lines in a row that are shown, and written.
use Rattle.script.proofs.Basics.{◌≡◌, ◌∙◌, ◌+◌, ◌<◌, ◌-◌, ℕ, zero, suc, List, [], ◌∷◌, ◌++◌, Option, length, take, refl, sym, ap, subst, arith, option_map, option_and_then, slice_get, Result, Ok, Err, OnErr, Appends, Abstract, StandsFor, kept_of, kept, whole, AppendsFirst, line_of, most_lines, ended, first_lines, shown_text}
use Rattle.exchange.specs.declared.view.LinkView.{LinkView}
use Rattle.exchange.proofs.Showing.{stands-link}
use Rattle.exchange.specs.Views.{is_barred_at}
use Rattle.console.specs.Texts.{link_text}
use Rattle.script.specs.declared.line.Show.{Show}
use Rattle.script.specs.declared.line.Show.TheVariants.{Links, Routes}
use Rattle.script.proofs.Appending.{appends-first, appends-nothing}

-- ---- of what is kept, and of the whole

line-stands : (what : Show) (k : ℕ) (a : Abstract) → StandsFor (kept_of a) a → line_of kept what (kept_of a) k ≡ line_of whole what a k
line-stands Links k a s =
    ap (λ (v : Option LinkView). option_and_then (λ row. option_map (λ w. link_text row.name w (is_barred_at a k)) v) (slice_get a.settings.links k)) (stands-link k (kept_of a) a s)
line-stands (Routes points) k a s = refl
line-stands what k a s = refl

lines-alike : (f g : ℕ → Option (List ℕ)) (n : ℕ) → ((k : ℕ) → f k ≡ g k) → first_lines f n ≡ first_lines g n
lines-alike f g zero e = refl
lines-alike f g (suc n) e =
    ap (λ (xs : List ℕ). xs ++ ended (f n)) (lines-alike f g n e) ∙ ap (λ (line : Option (List ℕ)). first_lines g n ++ ended line) (e n)

most-stands : (what : Show) (a : Abstract) → most_lines what (kept_of a) ≡ most_lines what a
most-stands Links a = refl
most-stands what a = refl

pub shown-stands : (what : Show) (a : Abstract) → StandsFor (kept_of a) a → shown_text kept what (kept_of a) ≡ shown_text whole what a
shown-stands what a s =
    ap (λ (n : ℕ). first_lines (line_of kept what (kept_of a)) n) (most-stands what a)
    ∙ lines-alike (line_of kept what (kept_of a)) (line_of whole what a) (most_lines what a) (λ k. line-stands what k a s)

-- ---- as they are written

take-within : (n : ℕ) (xs zs : List ℕ) → take (length (take n xs)) (xs ++ zs) ≡ take n xs
take-within zero xs zs = refl
take-within (suc n) [] zs = refl
take-within (suc n) (x ∷ xs) zs = ap (λ (ys : List ℕ). x ∷ ys) (take-within n xs zs)

-- the first of some octets are the first of more
first-of-more : (w0 w2 : Option (List ℕ)) (xs zs : List ℕ) → AppendsFirst w0 w2 xs → AppendsFirst w0 w2 (xs ++ zs)
first-of-more w0 w2 xs zs (n, h) = (length (take n xs), subst (λ (ys : List ℕ). Appends w0 w2 ys) (sym (take-within n xs zs)) h)

lines-more : (line : ℕ → Option (List ℕ)) (k d n : ℕ) (w0 w2 : Option (List ℕ)) → k + d ≡ n → AppendsFirst w0 w2 (first_lines line k) → AppendsFirst w0 w2 (first_lines line n)
lines-more line k zero n w0 w2 e h = let same : k ≡ n = omega (arith, e) in subst (λ m. AppendsFirst w0 w2 (first_lines line m)) same h
lines-more line k (suc d) n w0 w2 e h =
    let same : suc (k + d) ≡ n = omega (arith, e) in
    subst (λ m. AppendsFirst w0 w2 (first_lines line m)) same
    (first-of-more w0 w2 (first_lines line (k + d)) (ended (line (k + d))) (lines-more line k d (k + d) w0 w2 refl h))

-- a write that failed in the midst of a line
pub lines-broken : (line : ℕ → Option (List ℕ)) (k n : ℕ) (w0 w1 w2 : Option (List ℕ)) → k < n → Appends w0 w1 (first_lines line k) → AppendsFirst w1 w2 (ended (line k))
    → AppendsFirst w0 w2 (first_lines line n)
lines-broken line k n w0 w1 w2 l h t =
    let same : suc k + (n - suc k) ≡ n = omega (arith, l) in
    lines-more line (suc k) (n - suc k) n w0 w2 same (appends-first w0 w1 w2 (first_lines line k) (ended (line k)) h t)

-- what holds anyway holds of an error
pub on-error : {A E : Type 0} (P : Type 0) (r : Result A E) → P → OnErr r P
on-error P (Ok x) p = tt
on-error P (Err e) p = p

pub ruleset line_steps = (appends-nothing)
