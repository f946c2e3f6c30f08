-- How a script is worked through: the line that is open, and the octets that come after.
use Rattle.std.specs.Prelude.{◌≡◌, ◌≢◌, ℕ, Bool, ◌≤◌, List, [], ◌∷◌, ◌++◌, length, Option, Some, Result, Ok, Err}
use Rattle.std.specs.Io.KnownBytes.{Appends}
use Rattle.exchange.specs.KeptQueues.{KeptQueues, kept}
use Rattle.exchange.specs.Calls.{Kept}
use Rattle.console.specs.Words.{begun}
use Rattle.script.specs.Lines.{lines}
use Rattle.script.specs.Streams.{AppendsAtLeast}
use Rattle.script.specs.Asking.{Reading}
use Rattle.script.specs.Runs.{Reached, line_run, lines_run, onto, Does}
use Rattle.script.specs.declared.run.Grown.{Grown}
use Rattle.script.specs.declared.run.Grown.TheVariants.{Open, TooLong, Whole}
use Rattle.script.specs.declared.fault.TheConstants.{LINE_OCTETS}
use Rattle.script.specs.declared.fault.ScriptFault.{ScriptFault}
use Rattle.script.specs.declared.fault.ScriptFault.TheVariants.{Write, Line}

-- the octets of the open line so far, and its number
pub record LineSoFar : Type 0 where
  pub octets : List ℕ
  pub number : ℕ

-- the line before the first octet of a script
abbrev pub first_line : LineSoFar
first_line = record { octets = []; number = 1 }

-- an octet becomes part of the open line; or it doesn't, since the line is full, or since it is the line feed (10)
abbrev pub Grows : Grown → (octet : ℕ) → (line next : LineSoFar) → Type 0
Grows Open octet line next = (octet ≢ 10) × (next ≡ record line { octets = line.octets ++ octet ∷ [] })
Grows TooLong octet line next = (octet ≢ 10) × (LINE_OCTETS ≤ length line.octets) × (next ≡ line)
Grows Whole octet line next = (octet ≡ 10) × (next ≡ line)

-- the open line, and the octets after it
abbrev pub rest_run : (most : ℕ) → (refused : List Bool) → LineSoFar → List ℕ → Kept → Reached KeptQueues
rest_run most refused line octets s = lines_run kept most line.number refused (begun line.octets (lines octets)) s

-- these octets were taken: what they print went out, and what follows is run from the next line and the next state,
-- whatever is refused then
pub record GoesOn (octets : List ℕ) (line next : LineSoFar) (s after : Kept)
    (written written_new : Option (List ℕ)) : Type 0 where
  pub text : List ℕ
  pub refused : List Bool
  pub wrote : Appends written written_new text
  pub rest : (most : ℕ) (later : List Bool) (behind : List ℕ) → most ≤ LINE_OCTETS
      → rest_run most (refused ++ later) line (octets ++ behind) s ≡ onto text (rest_run most later next behind after)

-- a line in these octets ended the script, whatever comes after
pub record StopsAt (number : ℕ) (octets : List ℕ) (line : LineSoFar) (s after : Kept)
    (written written_new : Option (List ℕ)) : Type 0 where
  pub text : List ℕ
  pub refused : List Bool
  pub wrote : Appends written written_new text
  pub rest : (most : ℕ) (behind : List ℕ) → most ≤ LINE_OCTETS
      → rest_run most refused line (octets ++ behind) s ≡ record { text = text; state = after; fault = Some number }

-- a write failed at one of these octets, after which none was taken; what those before it print went out
pub record BreaksOff (octets : List ℕ) (line : LineSoFar) (s after : Kept)
    (written written_new : Option (List ℕ)) : Type 0 where
  pub front : List ℕ
  pub last : ℕ
  pub more : List ℕ
  pub refused : List Bool
  pub are : octets ≡ front ++ last ∷ more
  pub state : (rest_run LINE_OCTETS refused line (front ++ last ∷ []) s).state ≡ after
  pub wrote : AppendsAtLeast (length (rest_run LINE_OCTETS refused line front s).text) written written_new
      (rest_run LINE_OCTETS refused line (front ++ last ∷ []) s).text

-- what was done with octets
abbrev pub HasTaken : List ℕ → Result Unit ScriptFault → (line next : LineSoFar) → (s after : Kept)
    → (written written_new : Option (List ℕ)) → Type 0
HasTaken octets (Ok x) line next s after written written_new = GoesOn octets line next s after written written_new
HasTaken octets (Err (Line number)) line next s after written written_new =
    StopsAt number octets line s after written written_new
HasTaken octets (Err Write) line next s after written written_new = BreaksOff octets line s after written written_new
HasTaken octets (Err other) line next s after written written_new = ⊥

-- a whole line was done, whether memory was refused for it or not
abbrev pub DoesLine : (number : ℕ) → Reading → (s : Kept) → Result Unit ScriptFault → (after : Kept)
    → (written written_new : Option (List ℕ)) → Type 0
DoesLine number reading s result after written written_new =
    (lacks_memory : Bool) × Does (line_run kept number lacks_memory reading s) result after written written_new
