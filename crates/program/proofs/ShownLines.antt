-- Texts of lines that answer none.
use Rattle.std.proofs.Common.{◌≡◌, ◌∙◌, ℕ, zero, suc, List, [], ◌∷◌, ◌++◌, Bool, true, false, refl, ap, sym, append_assoc}
use Rattle.std.specs.Prelude.{codes, if◌then◌else◌}
use Rattle.served_node.specs.Counters.{first_texts}
use Rattle.served_node.specs.Tables.{last_cell}
use Rattle.program.specs.ConsoleLaws.{AllNone, AreNone, IsNone, ended_lines}

pub nothing-none : AllNone []
nothing-none = record { lines = []; whole = refl; none = tt }

pub line-none : (line : List ℕ) → IsNone line → AllNone (line ++ 10 ∷ [])
line-none line none = record { lines = line ∷ []; whole = refl; none = (none, tt) }

-- the end of a line is written with its line feed
pub ending-none : (front end : List ℕ) → IsNone (front ++ end) → AllNone (front ++ (end ++ 10 ∷ []))
ending-none front end none = record {
  lines = (front ++ end) ∷ [];
  whole = sym (append_assoc front end (10 ∷ []));
  none = (none, tt);
}

-- a row of a table
pub row-none : (front text : List ℕ) → IsNone (front ++ (codes "  " ++ text)) → AllNone (front ++ last_cell text)
row-none front text none = ending-none front (codes "  " ++ text) none

ended-both : (xs ys : List (List ℕ)) → ended_lines xs ++ ended_lines ys ≡ ended_lines (xs ++ ys)
ended-both [] ys = refl
ended-both (x ∷ xs) ys = append_assoc x (10 ∷ ended_lines xs) (ended_lines ys) ∙ ap (λ (rest : List ℕ). x ++ (10 ∷ rest)) (ended-both xs ys)

none-both : (xs ys : List (List ℕ)) → AreNone xs → AreNone ys → AreNone (xs ++ ys)
none-both [] ys first second = second
none-both (x ∷ xs) ys (none, first) second = (none, none-both xs ys first second)

pub both-none : {a b : List ℕ} → AllNone a → AllNone b → AllNone (a ++ b)
both-none {a = a} {b = b} first second = record {
  lines = first.lines ++ second.lines;
  whole =
      ap (λ (xs : List ℕ). xs ++ b) first.whole
      ∙ ap (λ (ys : List ℕ). ended_lines first.lines ++ ys) second.whole
      ∙ ended-both first.lines second.lines;
  none = none-both first.lines second.lines first.none second.none;
}

-- a text that may be left out
pub if-none : (is_there : Bool) (text : List ℕ) → AllNone text → AllNone (if is_there then text else [])
if-none true text none = none
if-none false text none = nothing-none

pub unless-none : (is_left_out : Bool) (text : List ℕ) → AllNone text → AllNone (if is_left_out then [] else text)
unless-none true text none = nothing-none
unless-none false text none = none

-- some texts in a row
pub first-none : (text : ℕ → List ℕ) → ((k : ℕ) → AllNone (text k)) → (n : ℕ) → AllNone (first_texts text n)
first-none text each zero = nothing-none
first-none text each (suc n) = both-none (first-none text each n) (each n)
