-- Two sets of links have the same codes if each has the codes of the other.
use Rattle.settings.proofs.Basics.{◌≡◌, ℕ, Bool, true, false, ◌&&◌, ◌||◌, not, nat_eq, List, [], ◌∷◌, list_all, refl, ap, sym, ◌∙◌, LinkEntry}
use Rattle.std.proofs.lemmas.Bool.{eq-eqb, eqb-true}
use Rattle.settings.specs.Sharing.{has_link_of}

-- a set of these links has the code of each link of another set
abbrev pub has_codes : (links : List LinkEntry) (set : ℕ) (others : List LinkEntry) (other : ℕ) → Bool
has_codes links set others other = list_all (λ l. not (nat_eq l.set other) || has_link_of set l.slc links) others

module _ (links : List LinkEntry) (set other : ℕ) where
  first : (x y : Bool) → (x && y) ≡ true → x ≡ true
  first true y k = refl
  first false y k = absurd cc

  second : (x y : Bool) → (x && y) ≡ true → y ≡ true
  second true y k = k
  second false y k = absurd cc

  -- a code that the other set has
  pub has-code : (others : List LinkEntry) → has_codes links set others other ≡ true → (slc : ℕ) → has_link_of other slc others ≡ true → has_link_of set slc links ≡ true
  has-code [] e slc f = absurd cc
  has-code (l ∷ ls) e slc f =
      by (nat_eq l.set other) (nat_eq l.slc slc) refl (has_codes links set ls other) refl (λ j h. has-code ls j slc h) e f
    where
      by : (a d : Bool) → nat_eq l.slc slc ≡ d → (w : Bool) → has_codes links set ls other ≡ w
          → (has_codes links set ls other ≡ true → has_link_of other slc ls ≡ true → has_link_of set slc links ≡ true)
          → ((not a || has_link_of set l.slc links) && w) ≡ true → ((a && d) || has_link_of other slc ls) ≡ true → has_link_of set slc links ≡ true
      by true true i w j more g h = ap (λ (k : ℕ). has_link_of set k links) (sym (eqb-true l.slc slc i)) ∙ first (has_link_of set l.slc links) w g
      by true false i w j more g h = more (j ∙ second (has_link_of set l.slc links) w g) h
      by false d i w j more g h = more (j ∙ g) h

  -- and where it has all of them
  all-one : (a h w : Bool) → (a ≡ true → h ≡ true) → w ≡ true → ((not a || h) && w) ≡ true
  all-one true h w e f = ap (λ (b : Bool). b && w) (e refl) ∙ f
  all-one false h w e f = f

  or-true : (b : Bool) → (b || true) ≡ true
  or-true true = refl
  or-true false = refl

  pub all-codes : (others : List LinkEntry) → ((slc : ℕ) → has_link_of other slc others ≡ true → has_link_of set slc links ≡ true) → has_codes links set others other ≡ true
  all-codes [] h = refl
  all-codes (l ∷ ls) h =
      all-one (nat_eq l.set other) (has_link_of set l.slc links) (has_codes links set ls other)
      (λ e. h l.slc
      (ap (λ (b : Bool). (b && nat_eq l.slc l.slc) || has_link_of other l.slc ls) e
      ∙ ap (λ (b : Bool). b || has_link_of other l.slc ls) (eq-eqb l.slc l.slc refl)))
      (all-codes ls (λ slc e. h slc (ap (λ (b : Bool). (nat_eq l.set other && nat_eq l.slc slc) || b) e ∙ or-true (nat_eq l.set other && nat_eq l.slc slc))))

both-ways : (a b : Bool) → (a ≡ true → b ≡ true) → (b ≡ true → a ≡ true) → a ≡ b
both-ways true b e f = sym (e refl)
both-ways false true e f = f refl
both-ways false false e f = refl

pub same-codes : (near far : List LinkEntry) (near_set far_set : ℕ) → has_codes near near_set far far_set ≡ true → has_codes far far_set near near_set ≡ true
    → (slc : ℕ) → has_link_of near_set slc near ≡ has_link_of far_set slc far
same-codes near far near_set far_set e f slc =
    both-ways (has_link_of near_set slc near) (has_link_of far_set slc far)
    (has-code far far_set near_set near f slc) (has-code near near_set far_set far e slc)

pub codes-both : (near far : List LinkEntry) (near_set far_set : ℕ) → ((slc : ℕ) → has_link_of near_set slc near ≡ has_link_of far_set slc far)
    → has_codes near near_set far far_set ≡ true
codes-both near far near_set far_set h = all-codes near near_set far_set far (λ slc e. h slc ∙ e)
