-- Which flows are counted as rerouted at a node of three sets, by computation.
use Rattle.exchange_rules.proofs.Basics.{refl}
use Rattle.exchange_rules.proofs.Definitions.{choice_among, link_by}
use Rattle.exchange_rules.specs.ReroutingExamples as examples

pub first_sets_are_no_change : examples.first_sets_are_no_change
unfolding choice_among link_by
first_sets_are_no_change = refl

pub another_link_is_no_change : examples.another_link_is_no_change
unfolding choice_among link_by
another_link_is_no_change = refl

pub its_return_is_no_change : examples.its_return_is_no_change
unfolding choice_among link_by
its_return_is_no_change = refl

pub only_far_flows_are_rerouted : examples.only_far_flows_are_rerouted
unfolding choice_among link_by
only_far_flows_are_rerouted = refl

pub near_flow_goes_by_second : examples.near_flow_goes_by_second
unfolding choice_among link_by
near_flow_goes_by_second = refl

pub all_return : examples.all_return
unfolding choice_among link_by
all_return = refl

pub all_go_by_third : examples.all_go_by_third
unfolding choice_among link_by
all_go_by_third = refl

pub only_far_flows_are_rerouted_at_once : examples.only_far_flows_are_rerouted_at_once
unfolding choice_among link_by
only_far_flows_are_rerouted_at_once = refl

pub near_flow_goes_by_third : examples.near_flow_goes_by_third
unfolding choice_among link_by
near_flow_goes_by_third = refl

pub half_of_the_flows_are_rerouted : examples.half_of_the_flows_are_rerouted
unfolding choice_among link_by
half_of_the_flows_are_rerouted = refl

pub that_half_returns : examples.that_half_returns
unfolding choice_among link_by
that_half_returns = refl

pub flows_leave_a_prohibited_route : examples.flows_leave_a_prohibited_route
unfolding choice_among link_by
flows_leave_a_prohibited_route = refl

pub flows_leave_a_restricted_route : examples.flows_leave_a_restricted_route
unfolding choice_among link_by
flows_leave_a_restricted_route = refl

pub flows_return_to_an_allowed_route : examples.flows_return_to_an_allowed_route
unfolding choice_among link_by
flows_return_to_an_allowed_route = refl

pub flows_without_a_link_are_no_change : examples.flows_without_a_link_are_no_change
unfolding choice_among link_by
flows_without_a_link_are_no_change = refl

pub their_last_set_stays_known : examples.their_last_set_stays_known
unfolding choice_among link_by
their_last_set_stays_known = refl

pub it_counts_once_they_have_one : examples.it_counts_once_they_have_one
unfolding choice_among link_by
it_counts_once_they_have_one = refl

pub the_count_ends : examples.the_count_ends
unfolding choice_among link_by
the_count_ends = refl
