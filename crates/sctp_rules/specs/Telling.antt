-- What the user is told, with any peer: each Down after an Up, and messages only between the two.
use Rattle.std.specs.Prelude.{◌≡◌, Bool, true, false, List, [], ◌∷◌, Option, Some, None}
use Rattle.sctp_rules.specs.Settings.{Settings, Secrets}
use Rattle.sctp_rules.specs.State.{Told, Up, Heard, Down, Failed, first_state}
use Rattle.sctp_rules.specs.Endpoint.{Happening, after_all}

-- whether an association is up once this was told; None if it was told out of turn
abbrev pub turned : (is_up : Bool) → Told → Option Bool
turned false Up = Some true
turned true Up = None
turned true (Heard message) = Some true
turned false (Heard message) = None
turned true (Down why) = Some false
turned false (Down why) = None
turned false (Failed why) = Some false
turned true (Failed why) = None

abbrev pub and_then : (Bool → Option Bool) → Option Bool → Option Bool
and_then rest None = None
and_then rest (Some is_up) = rest is_up

abbrev pub turned_by : List Told → (is_up : Bool) → Option Bool
turned_by [] is_up = Some is_up
turned_by (told ∷ more) is_up = and_then (λ up. turned_by more up) (turned is_up told)

-- whatever happens to an endpoint, Up and Down are told in turn, messages between them, and Failed outside
abbrev pub told_in_turn : Type 0
told_in_turn =
    (c : Settings) (k : Secrets) (happenings : List Happening) →
    turned_by (after_all c k happenings (first_state c)).told false
    ≡ Some (after_all c k happenings (first_state c)).left.association.is_up
