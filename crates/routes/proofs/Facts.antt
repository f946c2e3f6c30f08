-- The links of the first sets, set by set.
use Rattle.routes.proofs.Basics.{◌≡◌, ℕ, ◌+◌, List, [], ◌∷◌, ◌++◌, refl, ap, add-one, LinkEntry, links_of, first_sets}

pub sets_none : (links : List LinkEntry) → first_sets 0 links ≡ []
unfolding first_sets
sets_none links = refl

pub sets_next : (set : ℕ) (links : List LinkEntry) → first_sets (set + 1) links ≡ first_sets set links ++ links_of links set ∷ []
unfolding first_sets
sets_next set links = ap (λ n. first_sets n links) (add-one set)

pub ruleset sets = (sets_none, sets_next)
