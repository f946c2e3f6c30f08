-- How a line of the log is written: its time, its priority, and as text or as an object of JSON.
use Rattle.std.specs.Prelude.{ℕ, ◌+◌, ◌-◌, ◌*◌, ◌/◌, ◌%◌, ◌^◌, Bool, ◌&&◌, ◌||◌, List, [], ◌∷◌, ◌++◌, codes, take}
use Rattle.std.specs.Prelude.{min, nat_eq, nat_le, nat_lt, Option, Some, None, if◌then◌else◌}
use Rattle.std.specs.List.{flat_map}
use Rattle.served_link.specs.Severities.{priority_of, severity_name, severity_number, severity_of}
use Rattle.served_link.specs.Utc.{utc_text}
use Rattle.served_link.specs.declared.line_form.LineForm.{LineForm}
use Rattle.served_link.specs.declared.line_form.TheConstants.{FORMED_OCTETS}

-- whether a line of this text is written: it is as severe as the least that is asked for, or more
abbrev pub is_written : LineForm → (text : List ℕ) → Bool
is_written form text = nat_le (severity_number (severity_of text)) (severity_number form.least)

-- ---- its time

-- milliseconds, by seconds with three digits behind the point: the number of all digits (48 is 0), in 64 bits
abbrev pub after_octet : (before octet : ℕ) → ℕ
after_octet before octet =
    if nat_le 48 octet && nat_le octet 57
    then min (min (before * 10) (2 ^ 64 - 1) + (octet - 48)) (2 ^ 64 - 1)
    else before

abbrev pub read_on : (before : ℕ) → (octets : List ℕ) → ℕ
read_on before [] = before
read_on before (octet ∷ octets) = read_on (after_octet before octet) octets

abbrev pub millis_in : (seconds : List ℕ) → ℕ
millis_in seconds = read_on 0 seconds

-- the seconds since the start; or UTC, by the milliseconds from the beginning of 1970 to the start
abbrev pub time_by : (start : Option ℕ) → (seconds : List ℕ) → List ℕ
time_by None seconds = seconds
time_by (Some start) seconds = utc_text (min (start + millis_in seconds) (2 ^ 64 - 1))

-- ---- its text

-- what can't stand within a string as it is: a control character (below 32), a quotation mark (34) and a reverse solidus
-- (92); it is written as six characters, with its number in two hexadecimal digits (RFC 8259 §7)
abbrev pub is_escaped : (octet : ℕ) → Bool
is_escaped octet = nat_lt octet 32 || nat_eq octet 34 || nat_eq octet 92

abbrev pub hex_digit : ℕ → ℕ
hex_digit n = if nat_lt n 10 then 48 + n else 97 + (n - 10)

abbrev pub escaped_octet : (octet : ℕ) → List ℕ
escaped_octet octet =
    if is_escaped octet
    then codes "\\u00" ++ hex_digit (octet / 16) ∷ hex_digit (octet % 16) ∷ []
    else octet ∷ []

abbrev pub escaped : (text : List ℕ) → List ℕ
escaped text = flat_map escaped_octet text

-- an object of strings: a time and a severity have nothing that is escaped
abbrev pub json_line : (time text : List ℕ) → List ℕ
json_line time text =
    codes "{\"time\":\"" ++ time ++ codes "\",\"severity\":\"" ++ severity_name (severity_of text)
    ++ codes "\",\"text\":\"" ++ escaped text ++ codes "\"}\n"

abbrev pub plain_line : (time text : List ℕ) → List ℕ
plain_line time text = time ++ codes " " ++ text ++ codes "\n"

-- ---- the line

abbrev pub priority_in : LineForm → (text : List ℕ) → List ℕ
priority_in form text = if form.has_priority then priority_of (severity_of text) else []

-- as many octets as a line has at most
abbrev pub cut : List ℕ → List ℕ
cut octets = take FORMED_OCTETS octets

abbrev pub line_at : LineForm → (time text : List ℕ) → List ℕ
line_at form time text =
    priority_in form text ++ (if form.is_json then json_line time text else plain_line time text)

abbrev pub line_in : LineForm → (seconds text : List ℕ) → List ℕ
line_in form seconds text = line_at form (time_by form.start_ms seconds) text
