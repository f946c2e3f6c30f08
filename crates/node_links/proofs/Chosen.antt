-- The link that a flow takes is there, and carries traffic.
use Rattle.node_links.proofs.Basics.{◌≡◌, ◌<◌, ◌&&◌, not, ℕ, zero, suc, Bool, true, false, refl, List, [], ◌∷◌, length, ap, sym, ◌∙◌, subst, arith, Option, Some, None, IfSome, slice_index_or, slice_set, get_or-map, length-map, length-set, Facts, with_link, chosen_link, chosen_serves, Link, down_link, is_in_service, carries_traffic, Network, serving, facts_of, link_in}

-- facts that agree with the states of the links
pub facts_kept : (f : Facts) (links : List Link) → f.in_service ≡ serving links → f ≡ facts_of (record { links = links; sets = f.sets; routes = f.routes })
facts_kept f links e = ap (λ (bs : List Bool). record { sets = f.sets; in_service = bs; routes = f.routes }) e

-- where a list says true, it has a place
within : (bs : List Bool) (place : ℕ) → slice_index_or bs place false ≡ true → place < length bs
within [] place e = absurd cc
within (b ∷ bs) zero e = grind (arith, e)
within (b ∷ bs) (suc place) e = grind (arith, within bs place e)

pub chosen_carrying : (n : Network) (destination selection link : ℕ)
    → chosen_link (facts_of n) destination selection ≡ Some link → carries_traffic (link_in n.links link) ≡ true
chosen_carrying n destination selection link e =
    sym (get_or-map carries_traffic n.links link down_link) ∙ chosen_serves (facts_of n) destination selection link e

-- so it is in service
pub carrying-serves : (l : Link) → carries_traffic l ≡ true → is_in_service l.alignment ≡ true
carrying-serves l e = front (is_in_service l.alignment) (not l.untested) e
  where
    front : (a b : Bool) → (a && b) ≡ true → a ≡ true
    front true b e = refl
    front false b e = absurd cc

pub chosen_serving : (n : Network) (destination selection link : ℕ)
    → chosen_link (facts_of n) destination selection ≡ Some link → is_in_service (link_in n.links link).alignment ≡ true
chosen_serving n destination selection link e = carrying-serves (link_in n.links link) (chosen_carrying n destination selection link e)

chosen_is_there : (n : Network) (destination selection link : ℕ) → chosen_link (facts_of n) destination selection ≡ Some link → link < length n.links
chosen_is_there n destination selection link e =
    subst (λ m. link < m) (length-map n.links carries_traffic) (within (serving n.links) link (chosen_serves (facts_of n) destination selection link e))

-- the same of an answer
pub answer_is_there : (n : Network) (destination selection : ℕ) (answer : Option ℕ) → answer ≡ chosen_link (facts_of n) destination selection
    → IfSome answer (λ link. link < length n.links)
answer_is_there n destination selection None e = tt
answer_is_there n destination selection (Some link) e = chosen_is_there n destination selection link (sym e)

-- and of an answer with a link taken out
length-serving_without : (n : Network) (without : ℕ) → length (slice_set (serving n.links) without false) ≡ length n.links
length-serving_without n without = length-set (serving n.links) without false ∙ length-map n.links carries_traffic

pub other_is_there : (n : Network) (without destination selection : ℕ) (answer : Option ℕ)
    → answer ≡ chosen_link (with_link without false (facts_of n)) destination selection → IfSome answer (λ link. link < length n.links)
other_is_there n without destination selection None e = tt
other_is_there n without destination selection (Some link) e =
    subst (λ m. link < m) (length-serving_without n without)
    (within (slice_set (serving n.links) without false) link (chosen_serves (with_link without false (facts_of n)) destination selection link (sym e)))

-- what would be known of routes with a link taken out, by a copy of which links carry traffic
pub facts_before : (n : Network) (link : ℕ) (copy lent : List Bool) (f : Facts) → f ≡ record (facts_of n) { in_service = lent } → lent ≡ copy
    → copy ≡ slice_set (serving n.links) link false → f ≡ with_link link false (facts_of n)
facts_before n link copy lent f e l c =
    e ∙ ap (λ (in_service : List Bool). record { sets = n.sets; in_service = in_service; routes = n.routes }) (l ∙ c)
