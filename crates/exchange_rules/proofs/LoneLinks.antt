-- If one route alone leads to a point, its set decides which link a flow to the point takes.
use Rattle.exchange_rules.proofs.Basics.{◌≡◌, ◌<◌, ◌≤◌, ◌⊎◌, inl, inr, ℕ, zero, suc, ◌+◌, ◌-◌, Bool, true, false, ◌&&◌, ◌||◌, cond, List, [], ◌∷◌, length, nat_eq, refl, ap, sym, subst, ◌∙◌, arith, find, slice_index_or, Option, Some, None, option_map, Contains, list_any, ⊎_elim, cases_lt, get_or_past, get_or-map, append-nil, get_or_append_left, get_or-append_right, Contains-append_right}
use Rattle.exchange_rules.proofs.Definitions.{Configuration, LinkEntry, Route, Allowed, first_route, first_sets, Facts, chosen_link, Parts, facts, set_of}
use Rattle.std.proofs.lemmas.List.Sorted.{Contains-permutation, IsPermutation-sym}
use Rattle.std.proofs.lemmas.List.Concat.{flat_map-cons}
use Rattle.std.specs.Prelude.{unwrap_or}
use Rattle.routes.specs.declared.link_group.Member.{Member}
use Rattle.routes.specs.declared.route.RouteStatus.TheVariants.{Restricted}
use Rattle.routes.specs.Routes.{members_of, preference, serves, is_in_service, has_link, set_at, links_of, is_open, allowed_or, Choice, choice_among, members, sets_of, taken_by, link_by}
use Rattle.node_links.specs.NodeLinks.{down_link, carries_traffic}
use Rattle.routes.proofs.Preference.{preference_permutes}
use Rattle.exchange_rules.specs.LoneRoutes.{the_set_decides_its_flows}
use Rattle.exchange_rules.proofs.Belonging.{IsLinkOf, below-of, none, length-sets}

-- ---- the links of a set

last-exact : (links : List LinkEntry) (sets place l : ℕ) → Contains (slice_index_or (links_of links sets ∷ []) place []) l → IsLinkOf links (sets + place) l
last-exact links sets zero l h = subst (λ (k : ℕ). IsLinkOf links k l) (let same : sets ≡ sets + zero = omega arith in same) (below-of links sets 16 l h)
last-exact links sets (suc place) l h = absurd (none l (subst (λ (xs : List ℕ). Contains xs l) (get_or_past (links_of links sets ∷ []) (suc place) [] (omega arith)) h))

pub set-exact : (links : List LinkEntry) (sets set l : ℕ) → Contains (slice_index_or (first_sets sets links) set []) l → IsLinkOf links set l
unfolding first_sets
set-exact links zero set l h = absurd (none l (subst (λ (xs : List ℕ). Contains xs l) (get_or_past [] set [] (omega arith)) h))
set-exact links (suc sets) set l h =
    ⊎_elim
    (λ (e : set < sets). set-exact links sets set l
    (subst (λ (xs : List ℕ). Contains xs l) (get_or_append_left (first_sets sets links) (links_of links sets ∷ []) [] set (omega (arith, e, length-sets sets links))) h))
    (λ (e : sets ≤ set). subst (λ (k : ℕ). IsLinkOf links k l) (let same : sets + (set - sets) ≡ set = omega (arith, e) in same)
    (last-exact links sets (set - sets) l
    (subst (λ (xs : List ℕ). Contains xs l) (get_or-append_right (first_sets sets links) (links_of links sets ∷ []) sets set [] (length-sets sets links) e) h)))
    (cases_lt set sets)

-- ---- the link of a flow, where one route leads to its destination

same-some : {A : Type 0} (x y : A) → Some x ≡ Some y → x ≡ y
same-some x y e = cc

found-in : {A : Type 0} (p : A → Bool) (xs : List A) (x : A) → find p xs ≡ Some x → Contains xs x
found-in p [] x e = absurd cc
found-in {A = A} p (y ∷ ys) x e = by (p y) (found-in p ys x) e
  where
    by : (b : Bool) → (find p ys ≡ Some x → Contains ys x) → cond b (Some y) (find p ys) ≡ Some x → Contains (y ∷ ys) x
    by true rest f = (0, omega arith, same-some y x f)
    by false rest f = Contains-append_right (y ∷ []) ys x (rest f)

member-in : (set : ℕ) (links : List ℕ) (m : Member) → Contains (members_of set links) m → Contains links m.link
member-in set [] m (k, h, e) = absurd (omega (arith, h))
member-in set (l ∷ ls) m (zero, h, e) = (0, omega arith, ap (λ (x : Member). x.link) e)
member-in set (l ∷ ls) m (suc k, h, e) = Contains-append_right (l ∷ []) ls m.link (member-in set ls m (k, omega (arith, h), e))

abbrev no_link : Option ℕ
no_link = None

-- no route, or this one
abbrev IsAtMost : Route → List Route → Type 0
IsAtMost r group = (group ≡ []) ⊎ (group ≡ r ∷ [])

module _ (f : Facts) (r : Route) where
  group-of : IsAtMost r (choice_among f (r ∷ [])).group
  unfolding choice_among
  group-of = by (is_open f Allowed r) (is_open f Restricted r)
    where
      by : (b d : Bool) → IsAtMost r (allowed_or (unwrap_or (cond (b || false) (Some (r ∷ [])) None) []) (unwrap_or (cond (d || false) (Some (r ∷ [])) None) [])).group
      by true d = inr refl
      by false true = inr refl
      by false false = inl refl

  members-one : members f (r ∷ []) ≡ members_of r.set (set_at f r.set)
  members-one = flat_map-cons (λ (route : Route). members_of route.set (set_at f route.set)) r [] ∙ append-nil (members_of r.set (set_at f r.set))

  linked-in : (p : Member → Bool) (sls link : ℕ) (group : List Route) → IsAtMost r group
      → option_map (λ (m : Member). m.link) (find p (preference sls (members f group))) ≡ Some link → Contains (set_at f r.set) link
  linked-in p sls link group (inl e) h =
      let no : no_link ≡ Some link = ap (λ (g : List Route). option_map (λ (m : Member). m.link) (find p (preference sls (members f g)))) (sym e) ∙ h in absurd cc
  linked-in p sls link group (inr e) h =
      by (find p (preference sls (members f group))) refl h
    where
      by : (o : Option Member) → find p (preference sls (members f group)) ≡ o → option_map (λ (m : Member). m.link) o ≡ Some link → Contains (set_at f r.set) link
      by None i k = absurd cc
      by (Some m) i k =
          subst (Contains (set_at f r.set)) (same-some m.link link k)
          (member-in r.set (set_at f r.set) m
          (subst (λ (ms : List Member). Contains ms m) (ap (members f) e ∙ members-one)
          (Contains-permutation (preference sls (members f group)) (members f group) m
          (IsPermutation-sym (members f group) (preference sls (members f group)) (preference_permutes sls (members f group)))
          (found-in p (preference sls (members f group)) m i))))

  chosen-in : (sls link : ℕ) → link_by f (choice_among f (r ∷ [])) sls ≡ Some link → Contains (set_at f r.set) link
  unfolding link_by
  chosen-in sls link e =
      let c : Choice = choice_among f (r ∷ []) in
      linked-in (serves f.in_service (sets_of (taken_by f c))) sls link c.group group-of e

pub lone-chosen : (c : Configuration) (p : Parts) (set destination sls link : ℕ) → slice_index_or p.routes destination [] ≡ first_route set ∷ []
    → chosen_link (facts c p) destination sls ≡ Some link → set_of c link ≡ set
lone-chosen c p set destination sls link route e =
    (set-exact c.links (length c.sets) set link
    (chosen-in (facts c p) (first_route set) sls link (ap (λ (rs : List Route). link_by (facts c p) (choice_among (facts c p) rs) sls) (sym route) ∙ e))).of_set

-- ---- two nodes in which the links of the set are in service alike

find-alike : {A : Type 0} (p q : A → Bool) (xs : List A) → ((x : A) → Contains xs x → p x ≡ q x) → find p xs ≡ find q xs
find-alike p q [] h = refl
find-alike {A = A} p q (x ∷ xs) h =
    ap (λ (b : Bool). cond b (Some x) (find p xs)) (h x (0, omega arith, refl))
    ∙ ap (λ (o : Option A). cond (q x) (Some x) o) (find-alike p q xs (λ y i. h y (Contains-append_right (x ∷ []) xs y i)))

has-alike : (s t : List Bool) (xs : List ℕ) → ((l : ℕ) → Contains xs l → is_in_service s l ≡ is_in_service t l) → has_link s xs ≡ has_link t xs
has-alike s t [] h = refl
has-alike s t (x ∷ xs) h =
    ap (λ (b : Bool). b || has_link s xs) (h x (0, omega arith, refl))
    ∙ ap (λ (b : Bool). is_in_service t x || b) (has-alike s t xs (λ y i. h y (Contains-append_right (x ∷ []) xs y i)))

-- the choice of one route that is allowed, where its set has a link in service, and where it has none
abbrev choice_if : Route → Bool → Choice
choice_if r b =
    allowed_or (unwrap_or (cond (b || false) (Some (r ∷ [])) None) []) (unwrap_or (cond (false || false) (Some (r ∷ [])) None) [])

choice-is : (f : Facts) (set : ℕ) → choice_among f (first_route set ∷ []) ≡ choice_if (first_route set) (has_link f.in_service (set_at f set))
unfolding choice_among
choice-is f set = refl

module _ (f g : Facts) (set : ℕ) (same : f.sets ≡ g.sets) (alike : (l : ℕ) → Contains (set_at f set) l → is_in_service f.in_service l ≡ is_in_service g.in_service l) where
  find-same : (sets : List ℕ) (sls : ℕ) → find (serves f.in_service sets) (preference sls (members_of set (set_at f set))) ≡ find (serves g.in_service sets) (preference sls (members_of set (set_at f set)))
  find-same sets sls =
      let all : List Member = members_of set (set_at f set) in
      find-alike (serves f.in_service sets) (serves g.in_service sets) (preference sls all)
      (λ m i. ap (λ (b : Bool). b && list_any (λ s. nat_eq s m.set) sets)
      (alike m.link (member-in set (set_at f set) m (Contains-permutation (preference sls all) all m (IsPermutation-sym all (preference sls all) (preference_permutes sls all)) i))))

  has-same : has_link f.in_service (set_at f set) ≡ has_link g.in_service (set_at g set)
  has-same = has-alike f.in_service g.in_service (set_at f set) alike ∙ ap (λ (sets : List (List ℕ)). has_link g.in_service (slice_index_or sets set [])) same

  members-same : members f (first_route set ∷ []) ≡ members g (first_route set ∷ [])
  members-same = ap (λ (sets : List (List ℕ)). members (record f { sets = sets }) (first_route set ∷ [])) same

  link-by : (b : Bool) (sls : ℕ) → has_link f.in_service (set_at f set) ≡ b → has_link g.in_service (set_at g set) ≡ b
      → link_by f (choice_if (first_route set) b) sls ≡ link_by g (choice_if (first_route set) b) sls
  unfolding link_by
  link-by false sls e h = refl
  link-by true sls e h =
      ap (λ (b : Bool). option_map (λ (m : Member). m.link) (find (serves f.in_service (sets_of (cond b (first_route set ∷ []) []))) (preference sls (members f (first_route set ∷ []))))) e
      ∙ ap (λ (ms : List Member). option_map (λ (m : Member). m.link) (find (serves f.in_service (set ∷ [])) (preference sls ms))) (members-one f (first_route set))
      ∙ ap (option_map (λ (m : Member). m.link)) (find-same (set ∷ []) sls)
      ∙ ap (λ (ms : List Member). option_map (λ (m : Member). m.link) (find (serves g.in_service (set ∷ [])) (preference sls ms))) (sym (members-one f (first_route set)) ∙ members-same)
      ∙ ap (λ (b : Bool). option_map (λ (m : Member). m.link) (find (serves g.in_service (sets_of (cond b (first_route set ∷ []) []))) (preference sls (members g (first_route set ∷ []))))) (sym h)

  links-same : (sls : ℕ) → link_by f (choice_among f (first_route set ∷ [])) sls ≡ link_by g (choice_among g (first_route set ∷ [])) sls
  links-same sls =
      ap (λ (c : Choice). link_by f c sls) (choice-is f set)
      ∙ link-by (has_link f.in_service (set_at f set)) sls refl (sym has-same)
      ∙ ap (λ (b : Bool). link_by g (choice_if (first_route set) b) sls) has-same
      ∙ ap (λ (c : Choice). link_by g c sls) (sym (choice-is g set))

pub set-decides : the_set_decides_its_flows
set-decides c p q set destination sls e h alike =
    ap (λ (rs : List Route). link_by (facts c p) (choice_among (facts c p) rs) sls) e
    ∙ links-same (facts c p) (facts c q) set refl
    (λ l i. get_or-map carries_traffic p.links l down_link
    ∙ alike l (set-exact c.links (length c.sets) set l i).of_set
    ∙ sym (get_or-map carries_traffic q.links l down_link)) sls
    ∙ ap (λ (rs : List Route). link_by (facts c q) (choice_among (facts c q) rs) sls) (sym h)
