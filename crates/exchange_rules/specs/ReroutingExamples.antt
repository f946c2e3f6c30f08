-- The flows of a node of three sets, to the points that these lead to and to two beyond: wrong definitions of what is
-- counted are false here.
use Rattle.std.specs.Prelude.{◌≡◌, Bool, true, false, [], ◌∷◌, map, codes, None, Some}
use Rattle.settings.specs.Configuration.{Configuration}
use Rattle.routes.specs.declared.route.RouteStatus.{RouteStatus}
use Rattle.routes.specs.declared.route.RouteStatus.TheVariants.{Restricted, Prohibited}
use Rattle.routes.specs.Routes.{Facts, first_routes, with_status}
use Rattle.exchange_rules.specs.State.{Reroutings}
use Rattle.exchange_rules.specs.Reroutings.{counted, first_reroutings, set_before}
use Rattle.exchange_rules.specs.RuleExamples.{settings}

-- Links 0 and 1 are of set 0, which leads to point 2; link 2 is of set 1, to point 3; and link 3 of set 2, to point 4.
-- To points 2 and 300 lead all three sets, in this order, and to point 301 sets 1 and 2, which are joined: its flows of
-- even selections try link 2 first, and those of odd ones link 3. To points 3 and 4 their own sets lead alone.
abbrev pub crossed : Configuration
crossed = record settings {
  sets = record { name = codes "two"; adjacent = 2 }
      ∷ record { name = codes "three"; adjacent = 3 }
      ∷ record { name = codes "four"; adjacent = 4 } ∷ [];
  links = record { name = codes "two-0"; set = 0; slc = 0; share = None }
      ∷ record { name = codes "two-1"; set = 0; slc = 1; share = None }
      ∷ record { name = codes "three-0"; set = 1; slc = 0; share = None }
      ∷ record { name = codes "four-0"; set = 2; slc = 0; share = None } ∷ [];
  destinations = record { point = 2; sets = 0 ∷ 1 ∷ 2 ∷ []; joined = false }
      ∷ record { point = 3; sets = 1 ∷ []; joined = false }
      ∷ record { point = 4; sets = 2 ∷ []; joined = false }
      ∷ record { point = 300; sets = 0 ∷ 1 ∷ 2 ∷ []; joined = false }
      ∷ record { point = 301; sets = 1 ∷ 2 ∷ []; joined = true } ∷ [];
}

-- which of the four links are in service; all routes are allowed
abbrev pub serving : (first second third fourth : Bool) → Facts
serving first second third fourth = record {
  sets = (0 ∷ 1 ∷ []) ∷ (2 ∷ []) ∷ (3 ∷ []) ∷ [];
  in_service = first ∷ second ∷ third ∷ fourth ∷ [];
  routes = map first_routes crossed.destinations;
}

abbrev pub all_serving : Facts
all_serving = serving true true true true

-- each flow goes by a set: none of them went by another
abbrev pub by_first : Reroutings
by_first = counted crossed all_serving (first_reroutings crossed)

abbrev pub first_sets_are_no_change : Type 0
first_sets_are_no_change = by_first.times ≡ 0

-- ---- one link of a set of two

-- link 0 fails: its flows go by link 1, which is of the same set
abbrev pub by_other_link : Reroutings
by_other_link = counted crossed (serving false true true true) by_first

abbrev pub another_link_is_no_change : Type 0
another_link_is_no_change = by_other_link.times ≡ 0

-- it returns, and they go back
abbrev pub its_return_is_no_change : Type 0
its_return_is_no_change = (counted crossed all_serving by_other_link).times ≡ 0

-- ---- a set

-- set 0 fails. The 16 flows to point 300 are rerouted; those to point 2 leave its own set
abbrev pub by_second : Reroutings
by_second = counted crossed (serving false false true true) by_first

abbrev pub only_far_flows_are_rerouted : Type 0
only_far_flows_are_rerouted = by_second.times ≡ 16

abbrev pub near_flow_goes_by_second : Type 0
near_flow_goes_by_second = set_before by_second 0 15 ≡ Some 1

-- it returns, and all 32 go back
abbrev pub all_return : Type 0
all_return = (counted crossed all_serving by_second).times ≡ 48

-- set 1 fails too: those 32 go by the third set, and so do the 8 flows to point 301 that went by set 1
abbrev pub by_third : Reroutings
by_third = counted crossed (serving false false false true) by_second

abbrev pub all_go_by_third : Type 0
all_go_by_third = by_third.times ≡ 56

-- both fail at once: the flows to point 2 leave its own set for the third
abbrev pub by_third_at_once : Reroutings
by_third_at_once = counted crossed (serving false false false true) by_first

abbrev pub only_far_flows_are_rerouted_at_once : Type 0
only_far_flows_are_rerouted_at_once = by_third_at_once.times ≡ 24

abbrev pub near_flow_goes_by_third : Type 0
near_flow_goes_by_third = set_before by_third_at_once 0 15 ≡ Some 2

-- ---- joined sets

-- set 1 fails: of the flows to point 301 the 8 that went by it are rerouted
abbrev pub by_one_of_two : Reroutings
by_one_of_two = counted crossed (serving true true false true) by_first

abbrev pub half_of_the_flows_are_rerouted : Type 0
half_of_the_flows_are_rerouted = by_one_of_two.times ≡ 8

-- it returns, and the same 8 go back
abbrev pub that_half_returns : Type 0
that_half_returns = (counted crossed all_serving by_one_of_two).times ≡ 16

-- ---- the status of a route

-- what is known of routes once the route to point 300 by set 0 has another status
abbrev pub told : RouteStatus → Facts
told status = with_status 3 0 status all_serving

-- the flows there go by set 1
abbrev pub flows_leave_a_prohibited_route : Type 0
flows_leave_a_prohibited_route = (counted crossed (told Prohibited) by_first).times ≡ 16

abbrev pub by_allowed_route : Reroutings
by_allowed_route = counted crossed (told Restricted) by_first

abbrev pub flows_leave_a_restricted_route : Type 0
flows_leave_a_restricted_route = by_allowed_route.times ≡ 16

-- and go back once it is allowed
abbrev pub flows_return_to_an_allowed_route : Type 0
flows_return_to_an_allowed_route = (counted crossed all_serving by_allowed_route).times ≡ 32

-- ---- no link at all

-- first no set is left, and then the second and the third: that counts as if they had been there all the time
abbrev pub by_none : Reroutings
by_none = counted crossed (serving false false false false) by_first

abbrev pub flows_without_a_link_are_no_change : Type 0
flows_without_a_link_are_no_change = by_none.times ≡ 0

abbrev pub their_last_set_stays_known : Type 0
their_last_set_stays_known = set_before by_none 3 7 ≡ Some 0

abbrev pub it_counts_once_they_have_one : Type 0
it_counts_once_they_have_one = (counted crossed (serving false false true true) by_none).times ≡ 16

-- ---- no more than can be counted

abbrev pub many_times : Reroutings
many_times = record by_first { times = 18446744073709551610 }

abbrev pub the_count_ends : Type 0
the_count_ends = (counted crossed (serving false false true true) many_times).times ≡ 18446744073709551615
