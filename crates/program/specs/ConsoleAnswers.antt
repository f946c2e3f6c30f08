-- What the answers of a console say of the lines that it was told.
use Rattle.std.specs.Prelude.{ℕ, nat_eq, nat_le, nat_lt, Bool, true, false, not, ◌||◌, ◌&&◌, if◌then◌else◌}
use Rattle.std.specs.Prelude.{List, [], ◌∷◌, ◌++◌, length, codes, bytes_eq, Result, Ok, Err}
use Rattle.std.specs.List.{filter, starts_with}
use Rattle.script.specs.Streams.{counted}
use Rattle.program.specs.declared.console_client.answers.Verdict.{Verdict}
use Rattle.program.specs.declared.console_client.answers.Verdict.TheVariants.{Done, Refused}
use Rattle.program.specs.declared.console_client.fault.CallFault.{CallFault}
use Rattle.program.specs.declared.console_client.fault.CallFault.TheVariants.{Lost}

-- how many blanks (32) a line has
abbrev pub blanks : List ℕ → ℕ
blanks line = length (filter (λ octet. nat_eq octet 32) line)

-- ---- lines

-- `refused NUMBER NAME`; a notice has the name of a link behind these
abbrev pub is_refused_outcome : List ℕ → Bool
is_refused_outcome line = starts_with nat_eq line (codes "refused ") && nat_eq (blanks line) 2

-- `queued LINK`; a frame in words that passed on a link of this name has more behind it
abbrev pub is_queued_outcome : List ℕ → Bool
is_queued_outcome line = starts_with nat_eq line (codes "queued ") && nat_eq (blanks line) 1

-- the line isn't one that a client may write; why is behind these words
abbrev pub is_malformed : List ℕ → Bool
is_malformed line = starts_with nat_eq line (codes "malformed: ")

-- the node had no place for the client
abbrev pub is_no_place : List ℕ → Bool
is_no_place line = starts_with nat_eq line (codes "no place: ")

-- the node stops
abbrev pub is_stopping : List ℕ → Bool
is_stopping line = bytes_eq line (codes "stopping")

-- an answer says that something wasn't done: the line was malformed, the node refused or ignored it, or had no place
-- for the client
abbrev pub is_refusal : List ℕ → Bool
is_refusal line =
    bytes_eq line (codes "ignored") || (is_malformed line || (is_no_place line || is_refused_outcome line))

-- an answer says that something was done, or that it begins; of the answer to `help` that is the first line
abbrev pub is_deed : List ℕ → Bool
is_deed line =
    bytes_eq line (codes "handled")
    || (bytes_eq line (codes "held")
    || (bytes_eq line (codes "local")
    || (is_stopping line
    || (bytes_eq line (codes "help                      these lines") || is_queued_outcome line))))

-- A line is the answer to one that always has an answer, and is no further line of it. What is shown, and news that
-- were asked for, are none.
abbrev pub is_answer : List ℕ → Bool
is_answer line = is_refusal line || is_deed line

-- behind an answer the console closes the connection: the node stops or had no place for the client, or the client's
-- first line is malformed
abbrev pub is_last : (is_first : Bool) → List ℕ → Bool
is_last is_first line = is_stopping line || (is_no_place line || (is_first && is_malformed line))

-- ---- all that came

-- What the octets that came say: the front of the line that isn't ended; whether one isn't; whether none was ended; how
-- many answers came; whether one says that something wasn't done, and whether the console closes the connection behind
-- one.
pub record Heard : Type 0 where
  pub front : List ℕ
  pub is_within_line : Bool
  pub is_first : Bool
  pub answers : ℕ
  pub is_refused : Bool
  pub has_closed : Bool

abbrev pub nothing : Heard
nothing = record {
  front = [];
  is_within_line = false;
  is_first = true;
  answers = 0;
  is_refused = false;
  has_closed = false;
}

-- one more, if there is one
abbrev pub counted_if : Bool → ℕ → ℕ
counted_if is_one n = if is_one then counted n else n

-- the line ends here
abbrev pub ended : Heard → Heard
ended h = record h {
  front = [];
  is_within_line = false;
  is_first = false;
  answers = counted_if (is_answer h.front) h.answers;
  is_refused = h.is_refused || is_refusal h.front;
  has_closed = h.has_closed || is_last h.is_first h.front;
}

-- the line goes on; only its first 64 octets are looked at
abbrev pub goes_on : ℕ → Heard → Heard
goes_on octet h = record h {
  front = if nat_lt (length h.front) 64 then h.front ++ octet ∷ [] else h.front;
  is_within_line = true;
}

abbrev pub read_octet : ℕ → Heard → Heard
read_octet octet h = if nat_eq octet 10 then ended h else goes_on octet h

abbrev pub read : List ℕ → Heard → Heard
read [] h = h
read (octet ∷ octets) h = read octets (read_octet octet h)

-- What came of a call whose connection ended: the console closed it behind an answer; or the answers are whole, after
-- all was written, and as many as are due.
abbrev pub verdict : (is_whole : Bool) (due : ℕ) → Heard → Result Verdict CallFault
verdict is_whole due h =
    if h.has_closed || (is_whole && (not h.is_within_line && nat_le due h.answers))
    then (if h.is_refused then Ok Refused else Ok Done)
    else Err Lost
