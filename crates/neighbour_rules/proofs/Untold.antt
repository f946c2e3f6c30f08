-- Management that tells of no route to the point for which the messages are.
use Rattle.pair_rules.proofs.Basics.{◌≡◌, ◌⊎◌, inl, inr, ◌<◌, ◌&&◌, ℕ, Bool, true, false, [], length, Option, Some, None, Result, Ok, refl, ap, sym, ◌∙◌, nat_eq, slice_index_or}
use Rattle.std.proofs.lemmas.List.Quantifiers.{position-Some}
use Rattle.pair_rules.proofs.Definitions.{Message, Outcome, is_management, Configuration, DestinationEntry, destination_place, Management, MgmtFault, read_management}
use Rattle.exchange_rules.specs.Routing.{route_about}
use Rattle.exchange_rules.proofs.Basics.{eqb-true}
use Rattle.pair_moves.specs.Sayings.{Other}
use Rattle.neighbour_rules.specs.Beyond.{tells_of, tells_word}
use Rattle.neighbour_rules.proofs.World.{read_says}
use Rattle.neighbour_rules.proofs.Good.{Joint}

-- ---- places

abbrev result_of : ℕ × ℕ → Result (ℕ × ℕ) Outcome
result_of x = Ok x

same-ok : (x y : ℕ × ℕ) → result_of x ≡ result_of y → x ≡ y
same-ok x y e = cc

places-of : (set destination : Option ℕ) (x y : ℕ × ℕ) → x ≡ y → set ≡ Some x.0 → destination ≡ Some x.1 → (set ≡ Some y.0) × (destination ≡ Some y.1)
places-of set destination x y same e f = (e ∙ ap (λ (p : ℕ × ℕ). Some p.0) same, f ∙ ap (λ (p : ℕ × ℕ). Some p.1) same)

pub known-place : (set destination : Option ℕ) (its place : ℕ) → route_about set destination ≡ Ok (its, place) → (set ≡ Some its) × (destination ≡ Some place)
known-place (Some set) (Some destination) its place e = (places-of (Some set) (Some destination) (set, destination) (its, place) (same-ok (set, destination) (its, place) e) refl refl)
known-place (Some set) None its place e = absurd cc
known-place None (Some destination) its place e = absurd cc
known-place None None its place e = absurd cc

-- a place is one of the destinations
pub placed-there : (c : Configuration) (point place : ℕ) → destination_place c point ≡ Some place → place < length c.destinations
placed-there c point place e =
    (position-Some (λ (d : DestinationEntry). nat_eq point d.point) c.destinations place (record { point = 0; sets = []; joined = false }) e).0

-- points with one place are one
pub place-point : (c : Configuration) (one two place : ℕ) → destination_place c one ≡ Some place → destination_place c two ≡ Some place → one ≡ two
place-point c one two place e f =
    let none : DestinationEntry = record { point = 0; sets = []; joined = false } in
    let first : (place < length c.destinations) × (nat_eq one (slice_index_or c.destinations place none).point ≡ true)
    × ((k : ℕ) → k < place → nat_eq one (slice_index_or c.destinations k none).point ≡ false) = position-Some (λ d. nat_eq one d.point) c.destinations place none e in
    let second : (place < length c.destinations) × (nat_eq two (slice_index_or c.destinations place none).point ≡ true)
    × ((k : ℕ) → k < place → nat_eq two (slice_index_or c.destinations k none).point ≡ false) = position-Some (λ d. nat_eq two d.point) c.destinations place none f in
    eqb-true one (slice_index_or c.destinations place none).point first.1 ∙ sym (eqb-true two (slice_index_or c.destinations place none).point second.1)

-- ---- what is told

module _ (c z : Configuration) (j : Joint c z) where
  -- a message tells nothing of the route to the point, unless that is the other
  abbrev pub IsUntoldBy : Message → Type 0
  IsUntoldBy m = (j.base.there ≡ z.own) ⊎ (tells_of j.base.there m ≡ false)

  -- management says nothing to the two, and tells nothing of the route
  pub record IsPlain (r : Result Management MgmtFault) : Type 0 where
    pub says : read_says r ≡ Other
    pub untold : (j.base.there ≡ z.own) ⊎ (tells_word j.base.there r ≡ false)

  pub untold-read : (m : Message) → is_management m ≡ true → IsUntoldBy m → (j.base.there ≡ z.own) ⊎ (tells_word j.base.there (read_management m.sif) ≡ false)
  untold-read m e (inl own) = inl own
  untold-read m e (inr none) = inr (sym (ap (λ (b : Bool). b && tells_word j.base.there (read_management m.sif)) e) ∙ none)
