-- What is shown, line by line.
use Rattle.std.specs.Prelude.{ℕ, zero, suc, List, [], ◌++◌, length, codes, Option, Some, None}
use Rattle.exchange_rules.specs.State.{QueueKind, State}
use Rattle.console.specs.Texts.{link_line, route_line, title_line, subsystem_line, notice_line, flag_line, loss_line, rerouting_line}
use Rattle.console.specs.declared.flags.TheConstants.{FLAGS}
use Rattle.console.specs.declared.losses.TheConstants.{LOSSES}
use Rattle.console.specs.declared.reroutings.TheConstants.{REROUTINGS}
use Rattle.script.specs.declared.line.Show.{Show}
use Rattle.script.specs.declared.line.Show.TheVariants.{Links, Routes, Titles, Subsystems, Notices, Flags, Losses, Reroutings}

-- a line of a text by its number, from 0
abbrev pub line_of : {Q : Type 0} → QueueKind Q → Show → State Q → ℕ → Option (List ℕ)
line_of q Links s k = link_line q s k
line_of q (Routes points) s k = route_line points s k
line_of q (Titles points) s k = title_line points s k
line_of q (Subsystems points) s k = subsystem_line points s k
line_of q (Notices points) s k = notice_line points s k
line_of q Flags s k = flag_line s k
line_of q Losses s k = loss_line s k
line_of q Reroutings s k = rerouting_line s k

-- how many lines it has, at most
abbrev pub most_lines : {Q : Type 0} → Show → State Q → ℕ
most_lines Links s = length s.settings.links
most_lines (Routes points) s = length s.settings.destinations
most_lines (Titles points) s = length s.node.parts.titles.rows
most_lines (Subsystems points) s = length s.node.parts.titles.prohibited
most_lines (Notices points) s = length s.node.parts.notices.last
most_lines Flags s = FLAGS
most_lines Losses s = LOSSES
most_lines Reroutings s = REROUTINGS

-- a line with its line feed, if there is one
abbrev pub ended : Option (List ℕ) → List ℕ
ended (Some line) = line ++ codes "\n"
ended None = []

-- the first lines in a row
abbrev pub first_lines : (ℕ → Option (List ℕ)) → ℕ → List ℕ
first_lines line zero = []
first_lines line (suc k) = first_lines line k ++ ended (line k)

-- the whole text
abbrev pub shown_text : {Q : Type 0} → QueueKind Q → Show → State Q → List ℕ
shown_text q what s = first_lines (line_of q what s) (most_lines what s)
