-- Two nodes that share a link set: a link of the set and the far node's link with the same code name each other.
use Rattle.exchange_rules.proofs.Basics.{◌≡◌, ◌<◌, ◌+◌, not, ℕ, zero, suc, Bool, true, false, ◌&&◌, ◌||◌, cond, nat_eq, nat_lt, List, [], ◌∷◌, length, Option, Some, None, refl, ap, sym, ◌∙◌, arith, get_or, slice_index_or, position, list_any, position_or_len, option_and_then, eq-eqb, eqb-true, nat_tests, position-Some}
use Rattle.exchange_rules.proofs.Definitions.{Configuration, LinkEntry, SetEntry, IsWell, entry_of, set_of, adjacent_of, peer_of, link_in_set, link_with_code}
use Rattle.settings.specs.Sharing.{is_link_of, has_link_of, SharesSet}
use Rattle.exchange_rules.proofs.NamedLinks.{code-named}

-- ---- lists

any-at : {X : Type 0} (p : X → Bool) (xs : List X) (i : ℕ) (d : X) → i < length xs → p (get_or xs i d) ≡ true → list_any p xs ≡ true
any-at p [] i d l e = absurd (omega (arith, l))
any-at p (x ∷ xs) zero d l e = ap (λ (b : Bool). b || list_any p xs) e
any-at p (x ∷ xs) (suc i) d l e = or-second (p x) (list_any p xs) (any-at p xs i d (omega (arith, l)) e)
  where
    or-second : (a b : Bool) → b ≡ true → (a || b) ≡ true
    or-second true b f = refl
    or-second false b f = f

-- what some element passes has a place
record HasPlace (place : Option ℕ) : Type 0 where
  pub at : ℕ
  pub is : place ≡ Some at

some-at : {X : Type 0} (p : X → Bool) (xs : List X) → list_any p xs ≡ true → position_or_len p xs < length xs
some-at p [] e = absurd cc
some-at p (x ∷ xs) e = by (p x) (some-at p xs) e
  where
    by : (b : Bool) → (list_any p xs ≡ true → position_or_len p xs < length xs) → (b || list_any p xs) ≡ true → cond (not b) (1 + position_or_len p xs) 0 < suc (length xs)
    by true rest f = omega arith
    by false rest f = omega (arith, rest f)

placed : {X : Type 0} (p : X → Bool) (xs : List X) → list_any p xs ≡ true → HasPlace (position p xs)
placed p xs e =
    let there : position_or_len p xs < length xs = some-at p xs e in
    let within : nat_lt (position_or_len p xs) (length xs) ≡ true = grind (arith, nat_tests, there) in
    record { at = position_or_len p xs; is = ap (λ (b : Bool). cond {A = Option ℕ} b (Some (position_or_len p xs)) None) within }

second-of : (a b : Bool) → (a && b) ≡ true → b ≡ true
second-of true b e = e
second-of false b e = absurd cc

pub shares-turned : (near far : Configuration) → SharesSet near far → SharesSet far near
shares-turned near far f = record {
  near_set = f.far_set;
  far_set = f.near_set;
  near_leads = f.far_leads;
  far_leads = f.near_leads;
  network = sym f.network;
  codes = λ slc. sym (f.codes slc);
}

-- ---- the links of the set

-- a link of the near node, and the far node's with the same code: each node finds its own by the other's point and code
pub record AreEnds (near far : Configuration) (link other : ℕ) : Type 0 where
  pub slc : (entry_of far other).slc ≡ (entry_of near link).slc
  pub there : other < length far.links
  pub far_named : link_with_code far near.own (entry_of near link).slc ≡ Some other
  pub near_named : link_with_code near far.own (entry_of near link).slc ≡ Some link

module _ (near far : Configuration) (f : SharesSet near far) (near_well : IsWell near) where
  -- the links of the set lead to the far point
  pub shared-peer : (link : ℕ) → set_of near link ≡ f.near_set → peer_of near link ≡ far.own
  shared-peer link its =
      let none : SetEntry = record { name = []; adjacent = 0 } in
      let found : (f.near_set < length near.sets) × (nat_eq far.own (slice_index_or near.sets f.near_set none).adjacent ≡ true)
      × ((k : ℕ) → k < f.near_set → nat_eq far.own (slice_index_or near.sets k none).adjacent ≡ false) = position-Some _ near.sets f.near_set none f.near_leads.adjacent in
      ap (adjacent_of near) its ∙ sym (eqb-true far.own (slice_index_or near.sets f.near_set none).adjacent found.1)

  pub shared-ends : (link : ℕ) → link < length near.links → set_of near link ≡ f.near_set → (other : ℕ) × AreEnds near far link other
  shared-ends link l its = (
    p.at,
    record {
      slc = eqb-true (entry_of far p.at).slc slc (second-of (nat_eq (set_of far p.at) f.far_set) (nat_eq (entry_of far p.at).slc slc) found.1);
      there = found.0;
      far_named = ap (option_and_then (link_in_set far slc)) f.far_leads.adjacent ∙ p.is;
      near_named = ap (option_and_then (link_in_set near slc)) f.near_leads.adjacent ∙ ap (link_in_set near slc) (sym its) ∙ code-named near near_well link l;
    },
  )
    where
      none : LinkEntry
      none = record { name = []; set = 0; slc = 0; share = None }

      slc : ℕ
      slc = (entry_of near link).slc

      here : has_link_of f.near_set slc near.links ≡ true
      here = any-at (is_link_of f.near_set slc) near.links link none l
          (ap (λ (b : Bool). b && nat_eq slc slc) (eq-eqb (set_of near link) f.near_set its) ∙ eq-eqb slc slc refl)

      p : HasPlace (position (is_link_of f.far_set slc) far.links)
      p = placed (is_link_of f.far_set slc) far.links (sym (f.codes slc) ∙ here)

      found : (p.at < length far.links) × (is_link_of f.far_set slc (slice_index_or far.links p.at none) ≡ true)
          × ((k : ℕ) → k < p.at → is_link_of f.far_set slc (slice_index_or far.links k none) ≡ false)
      found = position-Some (is_link_of f.far_set slc) far.links p.at none p.is
