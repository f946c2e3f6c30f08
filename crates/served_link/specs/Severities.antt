-- How severe a line of the log is, by its first word, without its time.
use Rattle.std.specs.Prelude.{ℕ, ◌+◌, Bool, ◌||◌, List, [], ◌∷◌, codes, nat_eq, if◌then◌else◌}
use Rattle.std.specs.List.{starts_with}
use Rattle.served_link.specs.declared.severity.Severity.{Severity}
use Rattle.served_link.specs.declared.severity.Severity.TheVariants.{Warning, Notice, Info, Debug}

-- the severities as syslog numbers them (RFC 5424 §6.2.1)
abbrev pub severity_number : Severity → ℕ
severity_number Warning = 4
severity_number Notice = 5
severity_number Info = 6
severity_number Debug = 7

-- their names, as settings and lines of JSON have them
abbrev pub severity_name : Severity → List ℕ
severity_name Warning = codes "warning"
severity_name Notice = codes "notice"
severity_name Info = codes "info"
severity_name Debug = codes "debug"

-- a priority as journald reads it in front of a line: the digit (48 is 0) between `<` (60) and `>` (62)
abbrev pub priority_of : Severity → List ℕ
priority_of severity = 60 ∷ (48 + severity_number severity) ∷ 62 ∷ []

-- whether a text begins with a word
abbrev pub begins : (word text : List ℕ) → Bool
begins word text = starts_with nat_eq text word

-- what an operator has to look at
abbrev pub warns : (text : List ℕ) → Bool
warns text = begins (codes "alarm ") text || begins (codes "flag ") text || begins (codes "missed ") text

-- what changed
abbrev pub tells_a_change : (text : List ℕ) → Bool
tells_a_change text =
    begins (codes "link ") text || begins (codes "set ") text || begins (codes "destination ") text
    || begins (codes "clear ") text

-- what was ordered, and what else an operator may want to know
abbrev pub tells_news : (text : List ℕ) → Bool
tells_news text =
    begins (codes "order ") text || begins (codes "notice ") text || begins (codes "start ") text
    || begins (codes "stop") text || begins (codes "kept ") text

abbrev pub severity_of : (text : List ℕ) → Severity
severity_of text =
    if warns text then Warning
    else if tells_a_change text || tells_news text then Notice
    else if begins (codes "caller ") text then Debug
    else Info
