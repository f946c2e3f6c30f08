-- What is read of a text, by the document that it is.
use Rattle.settings_file.proofs.Basics.{◌≡◌, ℕ, List, None, Some, Err, refl, reading, reading_in, SettingsFault, Text}
use Rattle.toml.specs.Data.{Members}
use Rattle.toml.specs.Parse.{parse_document}

pub reading-parsed : (text : List ℕ) (t : Members) → parse_document text ≡ Some t → reading text ≡ reading_in t
unfolding reading
reading-parsed text t parsed = rw parsed refl

-- a text that is no document has this fault
pub none-parsed : (text : List ℕ) (fault : SettingsFault) → (fault ≡ Text) × (parse_document text ≡ None) → reading text ≡ Err fault
unfolding reading
none-parsed text fault none = rw (none.0, none.1) refl
