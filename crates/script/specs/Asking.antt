-- What the lines of a script ask for, with points in the format that they are written and shown in.
use Rattle.std.specs.Prelude.{ℕ, Bool, true, false, ◌==◌, ◌&&◌, if◌then◌else◌, List, [], ◌∷◌, codes}
use Rattle.std.specs.Prelude.{Option, None, Some, Result, Ok, Err, bytes_eq}
use Rattle.std.specs.Option.{option_map}
use Rattle.console.specs.Commands.{command_named}
use Rattle.console.specs.Numbers.{number_within}
use Rattle.console.specs.Orders.{Instruction, ToActivate, ToDeactivate, ToRelease, instruction, instructed_by}
use Rattle.settings.specs.declared.point.PointFormat.{PointFormat}
use Rattle.console.specs.Words.{is_some_word, words}
use Rattle.console.specs.declared.commands.Command.{Command}
use Rattle.console.specs.declared.commands.Command.TheVariants as command
use Rattle.signalling_types.specs.declared.limits.TheConstants.Limits.{TICKS}
use Rattle.script.specs.Lines.{is_octets, octets_of}
use Rattle.script.specs.declared.line.Line.{Line}
use Rattle.script.specs.declared.line.Line.TheVariants as line
use Rattle.script.specs.declared.line.Malformed.{Malformed}
use Rattle.script.specs.declared.line.Show.{Show}
use Rattle.script.specs.declared.line.Show.TheVariants.{Links, Routes, Titles, Subsystems, Notices, Flags, Losses, Reroutings}

-- what a line asks for; a link goes by a name, which no link need have
pub data Asked : Type 0 where
  AskUp : (link : List ℕ) → Asked
  AskDown : (link : List ℕ) → Asked
  AskFrame : (link octets : List ℕ) → Asked
  AskTick : (ticks : ℕ) → Asked
  AskTake : (link : List ℕ) → Asked
  AskWants : (link : List ℕ) → Asked
  AskSubmit : (octets : List ℕ) → Asked
  AskOrder : (order : Instruction) → Asked
  AskShow : (what : Show) → Asked

-- what a word asks to be shown
abbrev pub show_named : PointFormat → List ℕ → Option Show
show_named points word =
    if bytes_eq word (codes "links") then Some Links
    else if bytes_eq word (codes "routes") then Some (Routes points)
    else if bytes_eq word (codes "titles") then Some (Titles points)
    else if bytes_eq word (codes "subsystems") then Some (Subsystems points)
    else if bytes_eq word (codes "notices") then Some (Notices points)
    else if bytes_eq word (codes "flags") then Some Flags
    else if bytes_eq word (codes "losses") then Some Losses
    else if bytes_eq word (codes "reroutings") then Some Reroutings
    else None

-- a command with one word after it
abbrev pub asked_with_one : PointFormat → Command → List ℕ → Option Asked
asked_with_one points command.Up word = if is_some_word word then Some (AskUp word) else None
asked_with_one points command.Down word = if is_some_word word then Some (AskDown word) else None
asked_with_one points command.Frame word = None
asked_with_one points command.Tick word = option_map (λ ticks. AskTick ticks) (number_within 1 TICKS word)
asked_with_one points command.Take word = if is_some_word word then Some (AskTake word) else None
asked_with_one points command.Wants word = if is_some_word word then Some (AskWants word) else None
asked_with_one points command.Submit word = if is_octets word then Some (AskSubmit (octets_of word)) else None
asked_with_one points command.Activate word =
    if is_some_word word then Some (AskOrder (ToActivate word false)) else None
asked_with_one points command.Deactivate word = if is_some_word word then Some (AskOrder (ToDeactivate word)) else None
asked_with_one points command.Release word = if is_some_word word then Some (AskOrder (ToRelease word)) else None
asked_with_one points command.Title word = None
asked_with_one points command.Show word = option_map (λ what. AskShow what) (show_named points word)

-- a command with two words after it
abbrev pub asked_with_two : Command → List ℕ → List ℕ → Option Asked
asked_with_two command.Frame first second =
    if is_some_word first && is_octets second then Some (AskFrame first (octets_of second)) else None
asked_with_two command.Activate first second =
    if is_some_word first && bytes_eq second (codes "emergency") then Some (AskOrder (ToActivate first true)) else None
asked_with_two _ first second = None

-- the words after a command; with three and more it is an order
abbrev pub asked_behind : PointFormat → Option Command → List (List ℕ) → Option Asked
asked_behind points (Some command) (first ∷ []) = asked_with_one points command first
asked_behind points (Some command) (first ∷ second ∷ []) = asked_with_two command first second
asked_behind points (Some command) [] = None
asked_behind points (Some command) (first ∷ second ∷ third ∷ more) =
    option_map (λ order. AskOrder order) (instructed_by points command (first ∷ second ∷ third ∷ more))
asked_behind points None behind = None

-- what the words of a line ask for: nothing if they aren't a line of a script
abbrev pub asked_by : PointFormat → List (List ℕ) → Option Asked
asked_by points [] = None
asked_by points (word ∷ behind) = asked_behind points (command_named word) behind

-- a line is skipped, malformed, or asks for something
pub data Reading : Type 0 where
  Skips : Reading
  IsMalformed : Reading
  Asks : Asked → Reading

abbrev pub asks_or_malformed : Option Asked → Reading
asks_or_malformed None = IsMalformed
asks_or_malformed (Some asked) = Asks asked

-- an empty line, and one that begins with a number sign (35), is skipped
abbrev pub is_skipped : List ℕ → Bool
is_skipped [] = true
is_skipped (octet ∷ rest) = octet == 35

-- a line without its end
abbrev pub parsed_line : PointFormat → List ℕ → Reading
parsed_line points line = if is_skipped line then Skips else asks_or_malformed (asked_by points (words line))

abbrev pub asked_line : Line → Asked
asked_line (line.Up link) = AskUp link.now
asked_line (line.Frame link octets) = AskFrame link.now (octets_of octets.digits.now)
asked_line (line.Take link) = AskTake link.now
asked_line (line.Down link) = AskDown link.now
asked_line (line.Tick ticks) = AskTick ticks
asked_line (line.Wants link) = AskWants link.now
asked_line (line.Submit octets) = AskSubmit (octets_of octets.digits.now)
asked_line (line.Order order) = AskOrder (instruction order)
asked_line (line.Show what) = AskShow what

abbrev pub asked_of : Option Line → Option Asked
asked_of None = None
asked_of (Some line) = Some (asked_line line)

abbrev pub reading_of : Result (Option Line) Malformed → Reading
reading_of (Ok None) = Skips
reading_of (Ok (Some line)) = Asks (asked_line line)
reading_of (Err _) = IsMalformed
