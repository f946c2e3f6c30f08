-- The order in which a flow tries two links: a definition that tries one of them twice makes the laws false here.
use Rattle.std.specs.Prelude.{◌≡◌, ℕ, [], ◌∷◌}
use Rattle.routes.specs.declared.link_group.Member.{Member}
use Rattle.routes.specs.Routes.{preference}

-- a link of set 0
abbrev pub member : ℕ → Member
member link = record { link = link; set = 0 }

-- a flow of an odd selection tries the second link, and then the first
abbrev pub tries_each_once : Type 0
tries_each_once = preference 1 (member 7 ∷ member 8 ∷ []) ≡ member 8 ∷ member 7 ∷ []
