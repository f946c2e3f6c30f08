-- What holds of what adjacent points were told, and are owed.
use Rattle.std.specs.Prelude.{◌≡◌, ◌≢◌, ℕ, false, Some, None, []}
use Rattle.std.specs.List.{All}
use Rattle.std.specs.Option.{option_map}
use Rattle.routes.specs.declared.route.RouteStatus.{RouteStatus}
use Rattle.routes.specs.declared.route.RouteStatus.TheVariants.{Allowed}
use Rattle.routes.specs.Routes.{Facts, with_status, with_statuses_reset}
use Rattle.route_management.specs.Told.{ToldTable, told_at, with_told, with_told_reset, is_reachable, owed_at, owed, all_told, status_to_advertise}

-- the table says what was told, if both are there
abbrev pub told_is_kept : Type 0
told_is_kept =
    (t : ToldTable) (set destination : ℕ) (status : RouteStatus) →
    told_at (with_told set destination status t) set destination
    ≡ option_map (λ old. status) (told_at t set destination)

-- once the adjacent point of a set is told of a destination, it is owed nothing about it
abbrev pub told_once : Type 0
told_once =
    (f : Facts) (t : ToldTable) (set destination : ℕ) →
    owed_at f (with_told set destination (status_to_advertise f set destination) t) set destination ≡ None

-- what other points are owed stays
abbrev pub leaves_other_points : Type 0
leaves_other_points =
    (f : Facts) (t : ToldTable) (set other about destination : ℕ) (status : RouteStatus) → set ≢ other →
    owed_at f (with_told set about status t) other destination ≡ owed_at f t other destination

-- and what any of them is owed about other destinations stays
abbrev pub leaves_other_destinations : Type 0
leaves_other_destinations =
    (f : Facts) (t : ToldTable) (set other about destination : ℕ) (status : RouteStatus) → about ≢ destination →
    owed_at f (with_told set about status t) other destination ≡ owed_at f t other destination

-- after a reset the adjacent point of a set takes each destination for allowed
abbrev pub reset_is_kept : Type 0
reset_is_kept =
    (t : ToldTable) (set destination : ℕ) →
    told_at (with_told_reset set t) set destination ≡ option_map (λ old. Allowed) (told_at t set destination)

-- and what the others are owed stays
abbrev pub reset_leaves_others : Type 0
reset_leaves_others =
    (f : Facts) (t : ToldTable) (set other destination : ℕ) → set ≢ other →
    owed_at f (with_told_reset set t) other destination ≡ owed_at f t other destination

-- a status of one destination changes nothing that points are to be told of another
abbrev pub status_leaves_other_destinations : Type 0
status_leaves_other_destinations =
    (f : Facts) (about by set destination : ℕ) (status : RouteStatus) → about ≢ destination →
    status_to_advertise (with_status about by status f) set destination ≡ status_to_advertise f set destination

-- nor, as the statuses of a set without a link in service become allowed, does what any point is to be told of any
abbrev pub reset_leaves_what_is_to_be_told : Type 0
reset_leaves_what_is_to_be_told =
    (f : Facts) (reset set destination : ℕ) → is_reachable f reset ≡ false →
    status_to_advertise (with_statuses_reset reset f) set destination ≡ status_to_advertise f set destination

-- ---- all that is owed

-- only what is owed is listed
abbrev pub listed_is_owed : Type 0
listed_is_owed =
    (f : Facts) (t : ToldTable) →
    All (λ o. owed_at f t o.set o.destination ≡ Some o.status) (owed f t)

-- and everything: once all that is listed is told, nothing is owed
abbrev pub told_all_owes_nothing : Type 0
told_all_owes_nothing = (f : Facts) (t : ToldTable) → owed f (all_told (owed f t) t) ≡ []
