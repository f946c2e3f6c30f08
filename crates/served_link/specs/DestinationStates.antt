-- The states of destinations as an operator sees them, and what a look changes.
use Rattle.std.specs.Prelude.{ℕ, Bool, true, false, ◌&&◌, not, List, codes, replicate, Option, None, Some, nat_eq, slice_get}
use Rattle.std.specs.Option.{option_eq}
use Rattle.served_link.specs.declared.destination_states.Access.{Access}
use Rattle.served_link.specs.declared.destination_states.Access.TheVariants.{Accessible, Restricted, Inaccessible}
use Rattle.served_link.specs.declared.destination_states.DestinationState.{DestinationState}

-- the words of a state
abbrev pub access_words : Access → List ℕ
access_words Accessible = codes "accessible"
access_words Restricted = codes "restricted"
access_words Inaccessible = codes "inaccessible"

-- whether messages have no way
abbrev pub is_closed : Access → Bool
is_closed Accessible = false
is_closed Restricted = false
is_closed Inaccessible = true

abbrev pub access_number : Access → ℕ
access_number Accessible = 0
access_number Restricted = 1
access_number Inaccessible = 2

-- a destination whose messages take these sets, of which there are at most two
abbrev pub by_sets : Access → List ℕ → DestinationState
by_sets access sets = record {
  access = access;
  first = slice_get sets 0;
  second = slice_get sets 1;
}

-- as a node starts no route is open, since no link is in service
abbrev pub closed : DestinationState
closed = record { access = Inaccessible; first = None; second = None }

abbrev pub first_destinations : ℕ → List DestinationState
first_destinations destinations = replicate destinations closed

-- whether two states are the same: the access, and the sets that messages take
abbrev pub same_access : (a b : Access) → Bool
same_access a b = nat_eq (access_number a) (access_number b)

abbrev pub same_destination : (a b : DestinationState) → Bool
same_destination a b =
    same_access a.access b.access && (option_eq nat_eq a.first b.first && option_eq nat_eq a.second b.second)

-- whether a look finds a destination, if there is one, in another state than before
abbrev pub is_changed : (found : DestinationState) → (former : Option DestinationState) → Bool
is_changed found None = false
is_changed found (Some former) = not (same_destination former found)
