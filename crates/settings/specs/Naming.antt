-- The names of a node's links.
use Rattle.std.specs.Prelude.{ℕ, List, map}
use Rattle.settings.specs.Configuration.{Configuration}

-- in the order of the settings
abbrev pub link_names : Configuration → List (List ℕ)
link_names c = map (λ l. l.name) c.links
