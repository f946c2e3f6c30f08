-- A row's name, by its place.
use Rattle.settings_file.proofs.Basics.{◌≡◌, ℕ, List, [], ◌∷◌, drop, refl, sym}
use Rattle.settings_file.specs.Places.{behind_dot}
use Rattle.settings_file.proofs.key_rows.KeyRow.written.Goals as goal

without-dot : (name : List ℕ) → drop 1 (behind_dot name) ≡ name
without-dot [] = refl
without-dot (octet ∷ rest) = refl

pub returns-in-Some : goal.returns-in-Some
returns-in-Some c = rw (c.in-Some.is) (sym (without-dot c.args.self.name.now))
