-- The links of a set, code by code.
use Rattle.routes.proofs.Basics.{◌≡◌, ℕ, ◌+◌, List, [], ◌++◌, refl, ap, add-one, option_to_list, LinkEntry, link_with, links_below}

pub below_none : (links : List LinkEntry) (set : ℕ) → links_below 0 links set ≡ []
unfolding links_below
below_none links set = refl

pub below_next : (code : ℕ) (links : List LinkEntry) (set : ℕ) → links_below (code + 1) links set ≡ links_below code links set ++ option_to_list (link_with links set code)
unfolding links_below
below_next code links set = ap (λ n. links_below n links set) (add-one code)

pub ruleset steps = (below_none, below_next)
