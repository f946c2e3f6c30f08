-- The octets of a file, and the document that they are.
use Rattle.std.specs.Prelude.{◌≡◌, ◌⊎◌, ℕ, List, None, Some}
use Rattle.std.specs.Str.{IsUtf8}
use Rattle.toml.specs.Data.{Members}
use Rattle.toml.specs.Parse.{parse_document}

-- octets are this document: they are UTF-8, and TOML that says it
pub record AreDocument (octets : List ℕ) (document : Members) : Type 0 where
  pub text : IsUtf8 octets
  pub parsed : parse_document octets ≡ Some document

-- octets aren't a document: they aren't UTF-8, or else not TOML
abbrev pub AreNoDocument : List ℕ → Type 0
AreNoDocument octets = ¬ (IsUtf8 octets) ⊎ (IsUtf8 octets × (parse_document octets ≡ None))
