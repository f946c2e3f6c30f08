-- A node knows which destinations its adjacent points are, and what it has for other points is bound for those that it
-- knows. This stays so.
use Rattle.pair_rules.proofs.Basics.{◌≡◌, ◌<◌, ℕ, true, false, List, length, map, [], Option, Some, None, refl, ap, sym, ◌∙◌, nat_eq, slice_index_or, position, eq-eqb}
use Rattle.pair_rules.proofs.Definitions.{IsWell, Configuration, SetEntry, DestinationEntry, destination_place, IsOfSteps, ToldTable, is_own_point, adjacent_place, Node, Happening, WholeQueues, whole, apply}
use Rattle.std.proofs.lemmas.List.{get_or-map}
use Rattle.std.proofs.lemmas.List.Quantifiers.{position-Some}
use Rattle.settings.specs.Sharing.{LeadsAlone}
use Rattle.route_management.specs.Told.{is_number}
use Rattle.exchange_rules.specs.First.{first_state}
use Rattle.exchange_rules.specs.Sending.{after_take}
use Rattle.exchange_rules.proofs.Asked.{any, IsOfAll, all-of, event-all}
use Rattle.exchange_rules.proofs.Rules.{rules-of}
use Rattle.exchange_rules.proofs.SteppingEvents.{take-steps}
use Rattle.neighbour_rules.proofs.Bound.{AreBound, KeepsBound, bound-steps, first-bound}
use Rattle.exchange_rules.proofs.Basics.{eqb-true}

pub record KnowsPoints (c : Configuration) (n : Node WholeQueues) : Type 0 where
  pub well : IsWell c
  pub bound : AreBound c n
  pub adjacents : n.parts.told.adjacents ≡ map (adjacent_place c.destinations) c.sets

-- ---- from one node to another

pub record KeepsPoints (n m : Node WholeQueues) : Type 0 where
  pub same : m.parts.told.adjacents ≡ n.parts.told.adjacents

pub still-knows : (c : Configuration) (n m : Node WholeQueues) → KeepsPoints n m → KeepsBound c n m → KnowsPoints c n → KnowsPoints c m
still-knows c n m k b h = record { well = h.well; bound = b.stay h.bound; adjacents = k.same ∙ h.adjacents }

pub points-steps : (c : Configuration) → IsOfSteps c any any KeepsPoints
points-steps c = record {
  none = λ n. record { same = refl };
  both = λ n m o e f. record { same = f.same ∙ e.same };
  routed = λ link m n e. record { same = refl };
  declared = λ link other code n e f. record { same = refl };
  tested = λ link point test n e f. record { same = refl };
  probed = λ link n e. record { same = refl };
  held = λ m n e. record { same = refl };
  taken_out = λ n. record { same = refl };
  noted = λ notice n e. record { same = refl };
  lost = λ n. record { same = refl };
  counted = λ messages broken n. record { same = refl };
  asked = λ link n e. record { same = refl };
  late = λ n. record { same = refl };
  timed = λ r n e. record { same = refl };
  holding = λ h n e. record { same = refl };
  coded = λ its code awaited n. record { same = refl };
  rerouted = λ routes n e. record { same = refl };
  told = λ t n e. record { same = e.adjacents };
  titled = λ rows n. record { same = refl };
  unequipped = λ counts n e. record { same = refl };
  failed = λ link why st n e f. record { same = refl };
  dropped = λ link why n e. record { same = refl };
  completed = λ link number st n e f. record { same = refl };
  answered = λ link st n e f w. record { same = refl };
  linked = λ link x n e o. record { same = refl };
  parted = λ link n e. record { same = refl };
  opened = λ link n own e f g. record { same = refl };
  stepped = λ link input step n own e. record { same = refl };
  passed = λ link n e. record { same = refl };
  busied = λ link n own e f. record { same = refl };
  resumed = λ link n own e f. record { same = refl };
  accepted = λ link d confirmed n own e f. record { same = refl };
  sent = λ link next n own e. record { same = refl };
}

points-all : (c : Configuration) → IsOfAll c KeepsPoints
points-all c = all-of (points-steps c) (λ n. record { same = refl }) (λ n. record { same = refl })

bound-all : (c : Configuration) → IsWell c → IsOfAll c (KeepsBound c)
bound-all c well = all-of (bound-steps c well) (λ n. record { stay = λ h. record { held = h.held; queued = h.queued } }) (λ n. record { stay = λ h. record { held = h.held; queued = h.queued } })

-- through an event and a take, and from the first state on
pub event-knows : (c : Configuration) (what : Happening) (n : Node WholeQueues) → KnowsPoints c n → KnowsPoints c (apply whole c what n).left
event-knows c what n h = still-knows c n _ (event-all (points-all c) what n) (event-all (bound-all c h.well) what n) h

pub take-knows : (c : Configuration) (link : ℕ) (n : Node WholeQueues) → KnowsPoints c n → KnowsPoints c (after_take whole c link n)
take-knows c link n h = still-knows c n _ (take-steps (rules-of (points-steps c)) link n tt) (take-steps (rules-of (bound-steps c h.well)) link n tt) h

pub first-knows : (c : Configuration) → IsWell c → KnowsPoints c (first_state c).node
first-knows c well = record { well = well; bound = first-bound c; adjacents = refl }

-- ---- the point that a set leads to is one

pub own-point : (c : Configuration) (point its destination : ℕ) (t : ToldTable) → LeadsAlone c point its → destination_place c point ≡ Some destination → t.adjacents ≡ map (adjacent_place c.destinations) c.sets
    → is_own_point t its destination ≡ true
own-point c point its destination t leads place e =
    let none : SetEntry = record { name = []; adjacent = 0 } in
    let found : (its < length c.sets) × (nat_eq point (slice_index_or c.sets its none).adjacent ≡ true)
    × ((k : ℕ) → k < its → nat_eq point (slice_index_or c.sets k none).adjacent ≡ false) = position-Some (λ (s : SetEntry). nat_eq point s.adjacent) c.sets its none leads.adjacent in
    let same : point ≡ (slice_index_or c.sets its none).adjacent = eqb-true point (slice_index_or c.sets its none).adjacent found.1 in
    ap (λ (places : List (Option ℕ)). is_number destination (slice_index_or places its None)) e
    ∙ ap (is_number destination)
    (get_or-map (adjacent_place c.destinations) c.sets its none None found.0
    ∙ ap (λ (p : ℕ). position (λ (d : DestinationEntry). nat_eq p d.point) c.destinations) (sym same) ∙ place)
    ∙ eq-eqb destination destination refl
