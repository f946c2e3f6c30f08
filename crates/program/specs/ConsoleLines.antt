-- The lines that are written to a console, and how many answers are due.
use Rattle.std.specs.Prelude.{◌≡◌, ℕ, nat_eq, nat_lt, Bool, false, not, ◌&&◌, if◌then◌else◌}
use Rattle.std.specs.Prelude.{List, [], ◌∷◌, ◌++◌, length, codes, bytes_eq, Option, Some, string_bytes, String}
use Rattle.std.specs.Global.{Global}
use Rattle.std.specs.List.{starts_with}
use Rattle.std.specs.Option.{option_map}
use Rattle.program.specs.ConsoleAnswers.{counted_if}

-- A line always has an answer, but for an empty one, also with a carriage return (13), a remark, one that shows
-- something, of which there may be none, and one that tests something. The front of the line is enough to tell.
abbrev pub has_answer : List ℕ → Bool
has_answer [] = false
has_answer (octet ∷ octets) =
    not (bytes_eq (octet ∷ octets) (13 ∷ []))
    && (not (starts_with nat_eq (octet ∷ octets) (codes "#"))
    && (not (starts_with nat_eq (octet ∷ octets) (codes "show "))
    && not (starts_with nat_eq (octet ∷ octets) (codes "test "))))

-- the front of the line that isn't ended, and how many answers are due to the others
pub record Written : Type 0 where
  pub front : List ℕ
  pub due : ℕ

-- nothing was written
abbrev pub unwritten : Written
unwritten = record { front = []; due = 0 }

-- an octet is written; only the first five of a line behind its blanks (32) are looked at
abbrev pub with_octet : ℕ → Written → Written
with_octet octet w =
    if nat_eq octet 10
    then record { front = []; due = counted_if (has_answer w.front) w.due }
    else if nat_eq octet 32 && nat_eq (length w.front) 0 then w
    else record w { front = if nat_lt (length w.front) 5 then w.front ++ octet ∷ [] else w.front }

abbrev pub with : List ℕ → Written → Written
with [] w = w
with (octet ∷ octets) w = with octets (with_octet octet w)

-- the line that isn't ended is ended, if there is one
abbrev pub closed : Written → Written
closed w = if nat_eq (length w.front) 0 then w else with (10 ∷ []) w

-- ---- words

-- further words, each behind a blank (32)
abbrev pub with_words : List (String Global) → (line : List ℕ) → List ℕ
with_words [] line = line
with_words (word ∷ words) line = with_words words (line ++ (32 ∷ string_bytes word))

-- words are one line; no words are none
abbrev pub line_of : List (String Global) → List ℕ
line_of [] = []
line_of (word ∷ words) = with_words words (string_bytes word) ++ 10 ∷ []

-- ---- all that goes out

-- the lines so far, and whether no more follow
pub record Sending : Type 0 where
  pub lines : Written
  pub has_ended : Bool

-- words, or what reads will give if there are none
abbrev pub begun : List (String Global) → Sending
begun words = record { lines = with (line_of words) unwritten; has_ended = not (nat_eq (length words) 0) }

-- how many answers will be due once all that reads give has gone out, if that is known
abbrev pub owes : Option (List ℕ) → Sending → Option ℕ
owes known s =
    if s.has_ended then Some s.lines.due else option_map (λ octets. (closed (with octets s.lines)).due) known

-- as many are due as before, and perhaps that is known now
abbrev pub IsOwed : (known known_new : Option (List ℕ)) → (s s_new : Sending) → Type 0
IsOwed known known_new s s_new = (due : ℕ) → owes known s ≡ Some due → owes known_new s_new ≡ Some due
