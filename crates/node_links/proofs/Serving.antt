-- Which links carry traffic, as one of them changes.
use Rattle.node_links.proofs.Basics.{◌≡◌, ◌∷◌, ℕ, Bool, false, List, replicate, zero, suc, refl, ap, sym, ◌∙◌, slice_index_or, slice_set, get_or-map, map-set, set-get_or, set-set, Link, down_link, carries_traffic, Network, serving, facts_of, link_in, with_state}

-- one link changes
pub serving_set : (links : List Link) (link : ℕ) (state : Link)
    → serving (slice_set links link state) ≡ slice_set (serving links) link (carries_traffic state)
serving_set links link state = map-set carries_traffic links link state

-- one link changes, and carries traffic as before
pub serving_alike : (links : List Link) (link : ℕ) (old state : Link) → carries_traffic state ≡ carries_traffic (slice_index_or links link old)
    → serving (slice_set links link state) ≡ serving links
serving_alike links link old state e =
    serving_set links link state
    ∙ ap (λ (b : Bool). slice_set (serving links) link b) e
    ∙ sym (serving_set links link (slice_index_or links link old))
    ∙ ap serving (set-get_or links link old)

-- so the routing facts are what they were
pub facts_alike : (n : Network) (link : ℕ) (state : Link) → carries_traffic state ≡ carries_traffic (link_in n.links link)
    → facts_of (with_state n link state) ≡ facts_of n
facts_alike n link state e =
    ap (λ (bs : List Bool). record { sets = n.sets; in_service = bs; routes = n.routes }) (serving_alike n.links link down_link state e)

-- a link that carried no traffic changes: taken out again, it leaves the others as they were
pub serving_without : (links : List Link) (link : ℕ) (state : Link) → carries_traffic (link_in links link) ≡ false
    → slice_set (serving (slice_set links link state)) link false ≡ serving links
serving_without links link state e =
    ap (λ (bs : List Bool). slice_set bs link false) (serving_set links link state)
    ∙ set-set (serving links) link (carries_traffic state) false
    ∙ sym (ap (λ (b : Bool). slice_set (serving links) link b) (get_or-map carries_traffic links link down_link ∙ e))
    ∙ set-get_or (serving links) link false

-- no link that is down carries traffic
pub serving_none : (n : ℕ) → serving (replicate n down_link) ≡ replicate n false
serving_none zero = refl
serving_none (suc n) = ap (λ (bs : List Bool). false ∷ bs) (serving_none n)

pub ruleset kept = (serving_set, serving_none)
