-- What is written of a line of the log.
use Rattle.std.specs.Prelude.{◌≡◌, ◌≤◌, ◌⊎◌, ◌++◌, ℕ, List, [], ◌∷◌, codes, length, map, nat_lt, nat_eq, ◌||◌, if◌then◌else◌}
use Rattle.std.specs.Io.KnownBytes.{Appends}
use Rattle.script.specs.Streams.{Output, AppendsFirst, counted}
use Rattle.served_link.specs.AlarmTexts.{seconds_text}
use Rattle.served_link.specs.Times.{millis_of}
use Rattle.served_node.specs.declared.log.TheConstants.{TEXT_OCTETS}
use Rattle.std.specs.declared.time.Duration.{Duration}

-- octets were written; or a write failed, and the first of them were written, however many
abbrev pub Writes : List ℕ → Output → Output → Type 0
Writes octets old new =
    ((new.failures ≡ old.failures) × Appends old.written new.written octets)
    ⊎ ((new.failures ≡ counted old.failures) × AppendsFirst old.written new.written octets)

-- an octet of a text, with a question mark (63) for each control character: no octet ends a line
abbrev pub shown_octet : ℕ → ℕ
shown_octet octet = if nat_lt octet 32 || nat_eq octet 127 then 63 else octet

-- the line of a text, with a line feed after it
abbrev pub line_of : List ℕ → List ℕ
line_of text = map shown_octet text ++ 10 ∷ []

-- a text behind the seconds since the start, with three digits behind the point
abbrev pub timed : (now : Duration) → (text : List ℕ) → List ℕ
timed now text = seconds_text (millis_of now) ++ codes " " ++ text

-- the line of a text of at most this many octets was written
abbrev pub TellsALine : Output → Output → Type 0
TellsALine old new = (text : List ℕ) × (length text ≤ TEXT_OCTETS) × Writes (line_of text) old new
