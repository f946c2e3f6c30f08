-- Texts in a row that are written one after another.
use Rattle.std.proofs.Common.{◌≡◌, ◌∙◌, ◌+◌, ◌<◌, ◌-◌, ℕ, zero, suc, List, [], ◌∷◌, ◌++◌, Option, length, take, get_or, slice_get, codes, refl, sym, ap, subst, arith}
use Rattle.std.proofs.lemmas.Option.{slice_get-get_or}
use Rattle.std.specs.Prelude.{Result, Ok, Err, OnOk, OnErr}
use Rattle.std.specs.Io.KnownBytes.{Appends}
use Rattle.script.specs.Streams.{AppendsFirst}
use Rattle.served_link.specs.Counting.{value_of}
use Rattle.served_link.specs.Lines.{counter_line}
use Rattle.served_link.specs.declared.counter.Counter.{Counter}
use Rattle.served_link.specs.declared.counter.Counter.TheVariants.{FramesIn}
use Rattle.served_link.specs.declared.row.LinkCounters.{LinkCounters}
use Rattle.served_node.specs.Counters.{first_texts, counter_at}
use Rattle.script.proofs.Appending.{appends-appends, appends-first, appends-nothing}

take-within : (n : ℕ) (xs zs : List ℕ) → take (length (take n xs)) (xs ++ zs) ≡ take n xs
take-within zero xs zs = refl
take-within (suc n) [] zs = refl
take-within (suc n) (x ∷ xs) zs = ap (λ (ys : List ℕ). x ∷ ys) (take-within n xs zs)

-- the first of some octets are the first of more
pub first-of-more : (w0 w2 : Option (List ℕ)) (xs zs : List ℕ) → AppendsFirst w0 w2 xs → AppendsFirst w0 w2 (xs ++ zs)
first-of-more w0 w2 xs zs (n, h) = (length (take n xs), subst (λ (ys : List ℕ). Appends w0 w2 ys) (sym (take-within n xs zs)) h)

-- one text more
pub texts-next : (text : ℕ → List ℕ) (k : ℕ) (w0 w1 w2 : Option (List ℕ)) → Appends w0 w1 (first_texts text k) → Appends w1 w2 (text k)
    → Appends w0 w2 (first_texts text (k + 1))
texts-next text k w0 w1 w2 h t =
    let next : suc k ≡ k + 1 = omega arith in
    subst (λ n. Appends w0 w2 (first_texts text n)) next (appends-appends w0 w1 w2 (first_texts text k) (text k) h t)

texts-more : (text : ℕ → List ℕ) (k d n : ℕ) (w0 w2 : Option (List ℕ)) → k + d ≡ n → AppendsFirst w0 w2 (first_texts text k) → AppendsFirst w0 w2 (first_texts text n)
texts-more text k zero n w0 w2 e h = let same : k ≡ n = omega (arith, e) in subst (λ m. AppendsFirst w0 w2 (first_texts text m)) same h
texts-more text k (suc d) n w0 w2 e h =
    let same : suc (k + d) ≡ n = omega (arith, e) in
    subst (λ m. AppendsFirst w0 w2 (first_texts text m)) same
    (first-of-more w0 w2 (first_texts text (k + d)) (text (k + d)) (texts-more text k d (k + d) w0 w2 refl h))

-- a write that failed in the midst of a text
pub texts-broken : (text : ℕ → List ℕ) (k n : ℕ) (w0 w1 w2 : Option (List ℕ)) → k < n → Appends w0 w1 (first_texts text k) → AppendsFirst w1 w2 (text k)
    → AppendsFirst w0 w2 (first_texts text n)
texts-broken text k n w0 w1 w2 l h t =
    let same : suc k + (n - suc k) ≡ n = omega (arith, l) in
    texts-more text (suc k) (n - suc k) n w0 w2 same (appends-first w0 w1 w2 (first_texts text k) (text k) h t)

-- a line and what ends it
pub line-ended : {E : Type 0} (line end : List ℕ) (w0 w1 w2 : Option (List ℕ)) (r : Result Unit E) → Appends w0 w1 line → OnOk r (Appends w1 w2 end) → OnOk r (Appends w0 w2 (line ++ end))
line-ended line end w0 w1 w2 (Ok x) h t = appends-appends w0 w1 w2 line end h t
line-ended line end w0 w1 w2 (Err e) h t = tt

pub line-cut : {E : Type 0} (line end : List ℕ) (w0 w1 w2 : Option (List ℕ)) (r : Result Unit E) → Appends w0 w1 line → OnErr r (AppendsFirst w1 w2 end) → OnErr r (AppendsFirst w0 w2 (line ++ end))
line-cut line end w0 w1 w2 (Ok x) h t = tt
line-cut line end w0 w1 w2 (Err e) h t = appends-first w0 w1 w2 line end h t

-- the line of a counter in its place
pub counter-shown : (name : List ℕ) (row : LinkCounters) (counters : List Counter) (k value : ℕ) → k < length counters → value ≡ value_of (get_or counters k FramesIn) row
    → counter_line (get_or counters k FramesIn) name value ++ codes "\n" ≡ counter_at name row (slice_get counters k)
counter-shown name row counters k value within is =
    ap (λ (v : ℕ). counter_line (get_or counters k FramesIn) name v ++ codes "\n") is
    ∙ sym (ap (counter_at name row) (slice_get-get_or counters k FramesIn within))

pub ruleset text_steps = (appends-nothing)
