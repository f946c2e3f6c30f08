-- What is owed, as something is told.
use Rattle.route_management.proofs.Basics.{◌≡◌, Bool, true, false, ◌&&◌, not, map, refl, ap, ◌∙◌, Option, Some, None, slice_set, if◌then◌else◌, option_map, RouteStatus, Allowed, Restricted, Prohibited, other_routes, reset_routes, is_own_point, row_of, told_at, is_same, said_by, status_to_advertise, is_reachable, is_unlike, told_is_kept, told_once, leaves_other_points, leaves_other_destinations, reset_is_kept, reset_leaves_others, status_leaves_other_destinations, reset_leaves_what_is_to_be_told}
use Rattle.route_management.proofs.Rows.{rows_back, rows_other, rows_apart, rows_alike}

-- what is owed, by the four things that it hangs on
abbrev pub owed_by : Bool → Bool → RouteStatus → Option RouteStatus → Option RouteStatus
owed_by reachable adjacent status told = if reachable && (not adjacent && is_unlike told status) then Some status else None

same_again : (s : RouteStatus) → is_same s s ≡ true
same_again Allowed = refl
same_again Restricted = refl
same_again Prohibited = refl

alike : (s : RouteStatus) (o : Option RouteStatus) → is_unlike (option_map (λ old. s) o) s ≡ false
alike s None = refl
alike s (Some old) = ap not (same_again s)

pub none_owed : (reachable adjacent unlike : Bool) (s : RouteStatus) → unlike ≡ false
    → (if reachable && (not adjacent && unlike) then Some s else None) ≡ None
none_owed false adjacent unlike s e = refl
none_owed true true unlike s e = refl
none_owed true false unlike s e = ap (λ b. if b then Some s else None) e

pub is_kept : told_is_kept
is_kept t set destination status = rows_back t.rows set destination status

pub once : told_once
once f t set destination =
    let status = status_to_advertise f set destination in
    ap (owed_by (is_reachable f set) (is_own_point t set destination) status) (is_kept t set destination status)
    ∙ none_owed (is_reachable f set) (is_own_point t set destination) _ status (alike status (told_at t set destination))

pub other_points : leaves_other_points
other_points f t set other about destination status apart =
    ap (owed_by (is_reachable f other) (is_own_point t other destination) (status_to_advertise f other destination))
    (rows_apart t.rows set other destination (slice_set (row_of t set) about status) apart)

pub other_destinations : leaves_other_destinations
other_destinations f t set other about destination status apart =
    ap (owed_by (is_reachable f other) (is_own_point t other destination) (status_to_advertise f other destination))
    (rows_other t.rows set other about destination status apart)

pub is_reset : reset_is_kept
is_reset t set destination = rows_alike t.rows set destination Allowed

pub others_after_reset : reset_leaves_others
others_after_reset f t set other destination apart =
    ap (owed_by (is_reachable f other) (is_own_point t other destination) (status_to_advertise f other destination))
    (rows_apart t.rows set other destination (map (λ old. Allowed) (row_of t set)) apart)

pub after_status : status_leaves_other_destinations
after_status f about by set destination status apart = ap (said_by set) (other_routes f about destination by status apart)

pub after_reset : reset_leaves_what_is_to_be_told
after_reset f reset set destination down = ap (said_by set) (reset_routes f reset destination down)
