-- The link that a flow takes is in service.
use Rattle.routes.proofs.Basics.{◌≡◌, ℕ, true, Some, is_in_service, Facts, routes_to, Choice, choice_among, taken_by, sets_of, members, link_by, chosen_link}
use Rattle.routes.proofs.MembersInService.{first_serves}

pub chosen_serves : (f : Facts) (destination selection link : ℕ)
    → chosen_link f destination selection ≡ Some link → is_in_service f.in_service link ≡ true
unfolding link_by
chosen_serves f destination selection link e =
    let c : Choice = choice_among f (routes_to f destination) in
    first_serves selection f.in_service (sets_of (taken_by f c)) (members f c.group) link e
