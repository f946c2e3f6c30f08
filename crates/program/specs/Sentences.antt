-- How a sentence about a line of a script begins.
use Rattle.std.specs.Prelude.{◌≡◌, ℕ, Bool, List, ◌++◌, codes, decimal, if◌then◌else◌}

-- a line in quotes, if it is shown, before a text
abbrev pub line_shown : Bool → List ℕ → List ℕ → List ℕ
line_shown is_shown line behind = if is_shown then codes " \"" ++ (line ++ (codes "\"" ++ behind)) else behind

-- a sentence about a line: its number, the line itself if it is shown, and what is wrong with it
pub record IsAboutLine (number : ℕ) (line sentence : List ℕ) : Type 0 where
  pub is_shown : Bool
  pub wrong : List ℕ
  pub text : sentence ≡ codes "line " ++ (decimal number ++ line_shown is_shown line (codes ": " ++ wrong))
