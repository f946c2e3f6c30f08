-- Warnings of keys that no table knows.
use Rattle.std.specs.Prelude.{◌≡◌, ◌≤◌, ℕ, List, [], ◌∷◌, ◌++◌, codes, length, string_bytes}
use Rattle.settings_file.specs.declared.unknown.WarningText.{WarningText}

-- a key that is ignored: the table that it is in, as `timers.` or `link[1].`; the key; and what is said after it
pub record Ignored : Type 0 where
  pub table : List ℕ
  pub key : List ℕ
  pub behind : List ℕ

-- the warning of a key
abbrev pub warning : List ℕ → Ignored → List ℕ
warning file i = file ++ (codes ": " ++ (i.table ++ (i.key ++ (codes " is ignored" ++ i.behind))))

-- warnings one after another
abbrev pub warnings_of : List ℕ → List Ignored → List ℕ
warnings_of file [] = []
warnings_of file (i ∷ more) = warning file i ++ warnings_of file more

-- a text of this many warnings of a file
pub record HasWarned (file text : List ℕ) (count : ℕ) : Type 0 where
  pub ignored : List Ignored
  pub many : length ignored ≡ count
  pub is : text ≡ warnings_of file ignored

-- the warnings of a file: 20 at most
pub record AreWarnings (file text : List ℕ) : Type 0 where
  pub count : ℕ
  pub few : count ≤ 20
  pub warned : HasWarned file text count

-- the warnings so far
pub record IsSoFar (w : WarningText) : Type 0 where
  pub few : w.count ≤ 20
  pub warned : HasWarned w.file.now (string_bytes w.text) w.count

-- more warnings of the same file, or none more
pub record GoesOn (old new : WarningText) : Type 0 where
  pub same : new.file.now ≡ old.file.now
  pub is : IsSoFar new
