-- Writes in a row: what grew by one text and then by the next grew by both.
use Rattle.script.proofs.Basics.{◌≡◌, ℕ, ◌+◌, List, [], ◌++◌, Option, None, Some, length, take, sym, ◌∙◌, ap, arith, append_assoc, append-nil, take-append-add, Appends, AppendsFirst, AppendsAtLeast}

pub appends-appends : (w0 w1 w2 : Option (List ℕ)) (xs ys : List ℕ) → Appends w0 w1 xs → Appends w1 w2 ys → Appends w0 w2 (xs ++ ys)
appends-appends None w1 w2 xs ys h k = tt
appends-appends (Some v0) None w2 xs ys h k = absurd h
appends-appends (Some v0) (Some v1) None xs ys h k = absurd k
appends-appends (Some v0) (Some v1) (Some v2) xs ys h k = k ∙ ap (λ (v : List ℕ). v ++ ys) h ∙ append_assoc v0 xs ys

pub appends-first : (w0 w1 w2 : Option (List ℕ)) (xs ys : List ℕ) → Appends w0 w1 xs → AppendsFirst w1 w2 ys → AppendsFirst w0 w2 (xs ++ ys)
appends-first w0 w1 w2 xs ys h k =
    (length xs + k.0, rw (take-append-add xs ys k.0) (appends-appends w0 w1 w2 xs (take k.0 ys) h k.1))

-- the first of them, and at least as many as those before and n more
pub appends-least : (n : ℕ) (w0 w1 w2 : Option (List ℕ)) (xs ys : List ℕ) → Appends w0 w1 xs → AppendsAtLeast n w1 w2 ys → AppendsAtLeast (length xs + n) w0 w2 (xs ++ ys)
appends-least n w0 w1 w2 xs ys h k =
    let least = k.1 in (length xs + k.0, omega (arith, least), rw (take-append-add xs ys k.0) (appends-appends w0 w1 w2 xs (take k.0 ys) h k.2))

-- however many, they are at least none
pub least-nothing : (front : List ℕ) (w0 w1 : Option (List ℕ)) (xs : List ℕ) → front ≡ [] → AppendsFirst w0 w1 xs → AppendsAtLeast (length front) w0 w1 xs
least-nothing front w0 w1 xs e h = let none = ap length e in (h.0, omega (arith, none), h.1)

pub appends-nothing : (w : Option (List ℕ)) → Appends w w []
appends-nothing None = tt
appends-nothing (Some written) = sym (append-nil written)
