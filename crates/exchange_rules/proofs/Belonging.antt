-- The link that a flow takes is one of the settings, and so are its set and its destination.
use Rattle.exchange_rules.proofs.Basics.{◌≡◌, ◌<◌, ◌≤◌, ℕ, zero, suc, ◌-◌, Bool, true, ◌&&◌, List, [], ◌∷◌, length, nat_eq, refl, ◌∙◌, subst, arith, inl, inr, Contains, position, slice_index_or, option_to_list, ⊎_elim, cases_lt, nat_tests, get_or_past, get_or_append_left, get_or-append_right, length-append, Contains-append_cases, position-Some}
use Rattle.exchange_rules.proofs.Definitions.{Configuration, LinkEntry, Facts, first_sets, chosen_link, Parts, facts, set_of}
use Rattle.std.specs.Prelude.{Option, Some, None}
use Rattle.routes.specs.Routes.{has_code, links_below, links_of}
use Rattle.routes.proofs.Leaving.{IsOfSet, chosen_of_set, none_past}

-- ---- the links of a set

abbrev pub no_entry : LinkEntry
no_entry = record { name = []; set = 0; slc = 0; share = None }

-- a link that is there, of a set
pub record IsLinkOf (links : List LinkEntry) (set link : ℕ) : Type 0 where
  pub there : link < length links
  pub of_set : (slice_index_or links link no_entry).set ≡ set

only : (x l : ℕ) → Contains (x ∷ []) l → x ≡ l
only x l (zero, h, e) = e
only x l (suc k, h, e) = absurd (omega (arith, h))

pub none : (l : ℕ) → Contains {X = ℕ} [] l → ⊥
none l (k, h, e) = omega (arith, h)

first-same : (a b : ℕ) (other : Bool) → (nat_eq a b && other) ≡ true → a ≡ b
first-same a b other e = grind (arith, nat_tests, e)

with_code-of : (links : List LinkEntry) (set code : ℕ) (at : Option ℕ) → position (has_code set code) links ≡ at
    → (l : ℕ) → Contains (option_to_list at) l → IsLinkOf links set l
with_code-of links set code (Some number) e l h =
    let found = position-Some (has_code set code) links number no_entry e in
    subst (IsLinkOf links set) (only number l h) (record {
      there = found.0;
      of_set = first-same (slice_index_or links number no_entry).set set (nat_eq (slice_index_or links number no_entry).slc code) found.1;
    })
with_code-of links set code None e l h = absurd (none l h)

pub below-of : (links : List LinkEntry) (set limit : ℕ) (l : ℕ) → Contains (links_below limit links set) l → IsLinkOf links set l
unfolding links_below
below-of links set zero l h = absurd (none l h)
below-of links set (suc code) l h =
    elim (Contains-append_cases (links_below code links set) _ l h) [
      | inl earlier ↦ below-of links set code l earlier
      | inr last ↦ with_code-of links set code _ refl l last
    ]

-- ---- the sets

-- a link that is there, of a set that is there
record IsLinkIn (sets : ℕ) (links : List LinkEntry) (link : ℕ) : Type 0 where
  pub there : link < length links
  pub set : (slice_index_or links link no_entry).set < sets

pub length-sets : (sets : ℕ) (links : List LinkEntry) → length (first_sets sets links) ≡ sets
unfolding first_sets
length-sets zero links = refl
length-sets (suc sets) links =
    length-append (first_sets sets links) (links_of links sets ∷ []) ∙ omega (arith, length-sets sets links)

last-of : (links : List LinkEntry) (set place : ℕ) (l : ℕ) → Contains (slice_index_or (links_of links set ∷ []) place []) l → IsLinkIn (suc set) links l
last-of links set zero l h =
    let one : IsLinkOf links set l = below-of links set 16 l h in
    record { there = one.there; set = omega (arith, one.of_set) }
last-of links set (suc place) l h = absurd (none l (subst (λ (xs : List ℕ). Contains xs l) (get_or_past (links_of links set ∷ []) (suc place) [] (omega arith)) h))

more-sets : (sets : ℕ) (links : List LinkEntry) (link : ℕ) → IsLinkIn sets links link → IsLinkIn (suc sets) links link
more-sets sets links link h = record { there = h.there; set = omega (arith, h.set) }

set-of : (links : List LinkEntry) (sets set : ℕ) (l : ℕ) → Contains (slice_index_or (first_sets sets links) set []) l → IsLinkIn sets links l
unfolding first_sets
set-of links zero set l h = absurd (none l (subst (λ (xs : List ℕ). Contains xs l) (get_or_past [] set [] (omega arith)) h))
set-of links (suc sets) set l h =
    ⊎_elim
    (λ (e : set < sets). more-sets sets links l (set-of links sets set l
    (subst (λ (xs : List ℕ). Contains xs l)
    (get_or_append_left (first_sets sets links) (links_of links sets ∷ []) [] set (omega (arith, e, length-sets sets links))) h)))
    (λ (e : sets ≤ set). last-of links sets (set - sets) l
    (subst (λ (xs : List ℕ). Contains xs l)
    (get_or-append_right (first_sets sets links) (links_of links sets ∷ []) sets set [] (length-sets sets links) e) h))
    (cases_lt set sets)

-- ---- the link of a flow

-- a link of the settings, of a set of the settings
pub record IsListed (c : Configuration) (link : ℕ) : Type 0 where
  pub there : link < length c.links
  pub set : set_of c link < length c.sets

pub chosen_listed : (c : Configuration) (p : Parts) (destination sls link : ℕ) → chosen_link (facts c p) destination sls ≡ Some link → IsListed c link
chosen_listed c p destination sls link e =
    let one : IsOfSet (facts c p) link = chosen_of_set (facts c p) destination sls link e in
    let known : IsLinkIn (length c.sets) c.links link = set-of c.links (length c.sets) one.set link one.member in
    record { there = known.there; set = known.set }

pub chosen_there : (f : Facts) (destination sls link : ℕ) → chosen_link f destination sls ≡ Some link → destination < length f.routes
chosen_there f destination sls link e =
    ⊎_elim
    (λ (there : destination < length f.routes). there)
    (λ (past : length f.routes ≤ destination).
    let gone : chosen_link f destination sls ≡ None = none_past f destination sls past in
    absurd cc)
    (cases_lt destination (length f.routes))
