-- What lines of four words and more ask for.
use Rattle.script.proofs.Basics.{◌≡◌, ℕ, List, [], ◌∷◌, Some, refl, ◌<◌, length, arith, option_map, words, parted-some, AskOrder, asked_behind}
use Rattle.settings.specs.declared.point.PointFormat.{PointFormat}
use Rattle.console.specs.Orders.{instructed_by}
use Rattle.console.specs.declared.commands.Command.{Command}

third_word : (points : PointFormat) (command : Command) (first second : List ℕ) (ws : List (List ℕ)) → 0 < length ws
    → asked_behind points (Some command) (first ∷ second ∷ ws) ≡ option_map (λ order. AskOrder order) (instructed_by points command (first ∷ second ∷ ws))
third_word points command first second [] h = absurd (omega (arith, h))
third_word points command first second (third ∷ more) h = refl

pub asked_behind-third : (points : PointFormat) (command : Command) (first second line : List ℕ)
    → asked_behind points (Some command) (first ∷ second ∷ words line) ≡ option_map (λ order. AskOrder order) (instructed_by points command (first ∷ second ∷ words line))
asked_behind-third points command first second line = third_word points command first second (words line) (parted-some 32 line)

pub ruleset asking_steps = (asked_behind-third)
