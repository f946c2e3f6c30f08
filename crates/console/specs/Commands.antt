-- The commands of scripts and of the console.
use Rattle.std.specs.Prelude.{ℕ, List, [], ◌∷◌, codes, bytes_eq, if◌then◌else◌, Option, None, Some}
use Rattle.console.specs.declared.commands.Command.{Command}
use Rattle.console.specs.declared.commands.Command.TheVariants.{Up, Down, Frame, Tick, Submit, Take, Wants}
use Rattle.console.specs.declared.commands.Command.TheVariants.{Activate, Deactivate, Release, Title, Show}

abbrev pub command_word : Command → List ℕ
command_word Up = codes "up"
command_word Down = codes "down"
command_word Frame = codes "frame"
command_word Tick = codes "tick"
command_word Submit = codes "submit"
command_word Take = codes "take"
command_word Wants = codes "wants"
command_word Activate = codes "activate"
command_word Deactivate = codes "deactivate"
command_word Release = codes "release"
command_word Title = codes "title"
command_word Show = codes "show"

-- all commands
abbrev pub commands : List Command
commands =
    Up ∷ Down ∷ Frame ∷ Tick ∷ Submit ∷ Take ∷ Wants ∷ Activate ∷ Deactivate ∷ Release ∷ Title ∷ Show ∷ []

-- the first of some commands that has this word
abbrev pub first_named : List ℕ → List Command → Option Command
first_named word [] = None
first_named word (command ∷ more) =
    if bytes_eq word (command_word command) then Some command else first_named word more

-- the command of a word
abbrev pub command_named : List ℕ → Option Command
command_named word = first_named word commands
