-- A line without needless blanks has the words that it had.
use Rattle.std.proofs.Common.{◌≡◌, ◌∙◌, ℕ, List, [], ◌∷◌, Bool, true, false, refl, sym, ap}
use Rattle.std.specs.Prelude.{◌==◌}
use Rattle.std.specs.List.{filter}
use Rattle.console.specs.Words.{first_word, is_some_word, onto_first, rest_of, words}
use Rattle.console.specs.Trimming.{begins_no_word, single_blanks, without_blank, keeps_the_words}

abbrev some_words : List (List ℕ) → List (List ℕ)
some_words ws = filter is_some_word ws

-- two lists of words whose first ones are the same, and whose others are, but for empty ones
record Alike (vs ws : List (List ℕ)) : Type 0 where
  first : first_word vs ≡ first_word ws
  rest : some_words (rest_of vs) ≡ some_words (rest_of ws)

module _ (o : ℕ) (xs : List ℕ) where
  words-blank : (o == 32) ≡ true → words (o ∷ xs) ≡ [] ∷ words xs
  words-blank p = rw p refl

  words-part : (o == 32) ≡ false → words (o ∷ xs) ≡ onto_first o (words xs)
  words-part p = rw p refl

onto-some : (o : ℕ) (ws : List (List ℕ)) → ws ≡ first_word ws ∷ rest_of ws → onto_first o ws ≡ (o ∷ first_word ws) ∷ rest_of ws
onto-some o [] e = cc e
onto-some o (w ∷ ws) e = refl

has-word-by : (o : ℕ) (xs : List ℕ) (b : Bool) → (o == 32) ≡ b → words xs ≡ first_word (words xs) ∷ rest_of (words xs)
    → words (o ∷ xs) ≡ first_word (words (o ∷ xs)) ∷ rest_of (words (o ∷ xs))
has-word-by o xs true p h = rw (words-blank o xs p) refl
has-word-by o xs false p h = rw (words-part o xs p, onto-some o (words xs) h) refl

-- a line has a word, though it may be empty
has-word : (xs : List ℕ) → words xs ≡ first_word (words xs) ∷ rest_of (words xs)
has-word [] = refl
has-word (o ∷ xs) = has-word-by o xs (o == 32) refl (has-word xs)

no-word : (xs : List ℕ) → begins_no_word xs ≡ true → words xs ≡ [] ∷ rest_of (words xs)
no-word [] e = refl
no-word (o ∷ xs) e = rw (words-blank o xs e) refl

some-both : (v w : List ℕ) (vs ws : List (List ℕ)) → v ≡ w → some_words vs ≡ some_words ws → some_words (v ∷ vs) ≡ some_words (w ∷ ws)
some-both v w vs ws e h = rw (e, h) refl

some-alike : (xs ys : List ℕ) → Alike (words xs) (words ys) → some_words (words xs) ≡ some_words (words ys)
some-alike xs ys h = ap some_words (has-word xs) ∙ some-both (first_word (words xs)) (first_word (words ys)) (rest_of (words xs)) (rest_of (words ys)) h.first h.rest ∙ sym (ap some_words (has-word ys))

module _ (o : ℕ) (xs : List ℕ) (h : Alike (words (single_blanks xs)) (words xs)) where
  step : (b e : Bool) → (o == 32) ≡ b → begins_no_word xs ≡ e → Alike (words (single_blanks (o ∷ xs))) (words (o ∷ xs))
  step true true p q = rw (p, q) (record {
    first = h.first ∙ ap first_word (no-word xs q);
    rest = h.rest ∙ sym (ap some_words (no-word xs q));
  })
  step true false p q = rw (p, q, words-blank o (single_blanks xs) p) (record {
    first = refl;
    rest = some-alike (single_blanks xs) xs h;
  })
  step false e p q = rw (p, words-part o (single_blanks xs) p, onto-some o (words (single_blanks xs)) (has-word (single_blanks xs)), onto-some o (words xs) (has-word xs)) (record {
    first = ap (λ (w : List ℕ). o ∷ w) h.first;
    rest = h.rest;
  })

alike : (xs : List ℕ) → Alike (words (single_blanks xs)) (words xs)
alike [] = record { first = refl; rest = refl }
alike (o ∷ xs) = step o xs (alike xs) (o == 32) (begins_no_word xs) refl refl

no-blank : (o : ℕ) (xs : List ℕ) → (o == 32) ≡ false → without_blank (o ∷ xs) ≡ o ∷ xs
no-blank o xs p = rw p refl

first-blank-by : (o : ℕ) (xs : List ℕ) (b : Bool) → (o == 32) ≡ b → some_words (words (without_blank (o ∷ xs))) ≡ some_words (words (o ∷ xs))
first-blank-by o xs true p = rw p refl
first-blank-by o xs false p = ap (λ (line : List ℕ). some_words (words line)) (no-blank o xs p)

first-blank : (xs : List ℕ) → some_words (words (without_blank xs)) ≡ some_words (words xs)
first-blank [] = refl
first-blank (o ∷ xs) = first-blank-by o xs (o == 32) refl

pub kept-words : keeps_the_words
kept-words line = first-blank (single_blanks line) ∙ some-alike (single_blanks line) line (alike line)
